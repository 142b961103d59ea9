-- The facts of a Pcom over found logs.
use Rattle.std.proofs.Common.{◌≡◌, refl, ◌∙◌, ap, sym, subst, ℕ, zero, suc, ◌+◌, ◌<◌, Bool, true, false, cond, ◌&&◌, ◌==◌, List, [], ◌∷◌, ◌++◌, length, map, filter_map, slice_get, ℤ, Option, Some, None, option_map, option_and_then, is_none, arith, ◌⊎◌, inl, inr}
use Rattle.std.specs.Prelude.{Contains, find, IsTrue, ⊤}
use Rattle.std.proofs.lemmas.List.Elements.{Contains-append_left}
use Rattle.std.proofs.lemmas.Option.{same_Some}
use Rattle.ic_base.specs.declared.messages.ComId.{ComId}
use Rattle.ic_base.specs.declared.messages.Msg.{Msg}
use Rattle.ic_base.specs.declared.messages.Session.{Session}
use Rattle.ic_base.specs.declared.messages.Packet.TheVariants as packets
use Rattle.ic_base.specs.declared.scenario.Program.{Program}
use Rattle.ic_base.specs.declared.scenario.Component.{Component}
use Rattle.ic_base.specs.declared.messages.Kind.TheVariants as kinds
use Rattle.ic_base.specs.declared.record.Record.{Record}
use Rattle.ic_base.specs.declared.record.Record.TheVariants.{Take, TakeWhole, Input, Value, Outcome, Released, Shown, Checkpoint, Epoch, Decided}
use Rattle.ic_base.specs.Programs.{same_com, is_a_pcom, is_a_tcom}
use Rattle.def_plain.specs.Cell.{TakesMessage}
use Rattle.def_plain.specs.Plain.{PlainWorld, message_of}
use Rattle.def_state.specs.Txn.{tcom_of, is_idle}
use Rattle.def_state.specs.Hist.{Hist, Begun, Contents, after, opened}
use Rattle.def_step.specs.Tcom.{Book, book, first_book, book_fits, booked}
use Rattle.def_facts.specs.Logs.{Logs, log_at, message_in, has_identity, contents_in, IsConsistent, values_of, got_in, Got, in_places}
use Rattle.def_facts.specs.Playable.{IsPlayable}
use Rattle.def_facts.specs.Pcom.{state_after}
use Rattle.def_facts.specs.Sound.{content, contents_of, state_in, IsSound}
use Rattle.def_facts.specs.World.{Past}
use Rattle.law_found.specs.Past.{IsLogList, past_of, packets_told, is_number}
use Rattle.law_replay.proofs.Lists.{none-some, front as fst-true, clash, self-com}
use Rattle.law_replay.proofs.Lists.{back as snd-true}
use Rattle.law_replay.proofs.Committing.{hands_are_open}
use Rattle.law_sound.proofs.Sent.{found-data}
use Rattle.law_replay.proofs.Lists.{in-head, in-tail, equal-numbers, same-com, open-content}
use Rattle.law_replay.proofs.Lists.{head-or-tail}
use Rattle.law_replay.proofs.Lists.{empty}
use Rattle.law_sound.proofs.Deciding.{found-in, the-component}
use Rattle.law_replay.proofs.Lists.{contains-split}
use Rattle.law_sound.proofs.Reaching.{the-pcom, find-passes}
use Rattle.law_replay.proofs.Hands.{open_is_in_hand}
use Rattle.law_found.proofs.Runs.{then-is}
use Rattle.law_found.proofs.SoundLogs.{taken-from, whole-from, the-state, the-ledger-book}
use Rattle.law_found.proofs.Sound.{sent-in-world}
use Rattle.law_replay.specs.Asking.{AreAsked, take_of}
use Rattle.law_replay.proofs.Talks.{states-talk}
use Rattle.law_found.proofs.Past.{in-received, from-received, begun_of, TakesIt, origin, DataOrigin, data-told}
use Rattle.law_replay.proofs.Likes.{after-same, one-message}
use Rattle.law_replay.proofs.Records.{got-is, book-none}
use Rattle.law_replay.proofs.Members.{mapped-has, mapped-keeps}
use Rattle.law_replay.proofs.Talked.{map-places}

-- logs that were found, which are sound
pub record Found (program : Program) (logs : Logs) (w : PlainWorld) : Type 0 where
  pub play : IsPlayable program
  pub list : IsLogList program logs
  pub sound : IsSound program logs w

abbrev pub past_told : Program → Logs → PlainWorld → Past
past_told program logs w = past_of (packets_told program logs w)

-- kinds -----------------------------------------------------------------------------------------------

pub one-kind : {B : Type 0} (program : Program) (c : ComId) → IsTrue (is_a_pcom program c) → IsTrue (is_a_tcom program c) → B
one-kind program c is_p is_t =
    let x = the-pcom program c is_p in
    let y = the-component program c is_t in
    absurd (cc-kind (sym x.2 ∙ ap (λ (z : Component). z.kind) (same_Some x.0 y.0 (sym x.1 ∙ y.1)) ∙ y.2))
  where
    cc-kind : kinds.Pcom ≡ kinds.Tcom → ⊥
    cc-kind e = cc

-- a record of a Pcom's log
abbrev pub of_pcom : Record → Bool
of_pcom (Epoch epoch) = false
of_pcom (Decided stamp c n writes) = false
of_pcom _ = true

book-refuses : {B : Type 0} (program : Program) (t : ComId) (b : Book) (r : Record) → of_pcom r ≡ true → book_fits program t b r ≡ true → B
book-refuses program t b (Take from k stamp) e f = clash false f refl
book-refuses program t b (TakeWhole from k stamp handler args) e f = clash false f refl
book-refuses program t b (Input stamp handler args) e f = clash false f refl
book-refuses program t b (Value n place session value) e f = clash false f refl
book-refuses program t b (Outcome stamp n abort) e f = clash false f refl
book-refuses program t b (Released to k) e f = clash false f refl
book-refuses program t b (Shown m) e f = clash false f refl
book-refuses program t b (Checkpoint image) e f = clash false f refl
book-refuses program t b (Epoch epoch) e f = clash false e refl
book-refuses program t b (Decided stamp c n writes) e f = clash false e refl

no-pcom-record : {B : Type 0} (program : Program) (t : ComId) (rs : List Record) (b g : Book) (r : Record) → of_pcom r ≡ true → book program t (Some b) rs ≡ Some g → Contains rs r → B
no-pcom-record program t [] b g r is e h = empty r h
no-pcom-record {B} program t (x ∷ rs) b g r is e h = at (book_fits program t b x) refl e (λ y. no-pcom-record program t rs y g r is)
  where
    at : (o : Bool) → book_fits program t b x ≡ o → book program t (cond o (Some (booked b x)) None) rs ≡ Some g → ((y : Book) → book program t (Some y) rs ≡ Some g → Contains rs r → B) → B
    at false f k more = none-some g (sym (book-none program t rs) ∙ k)
    at true f k more = by (head-or-tail x r rs h)
      where
        by : (x ≡ r) ⊎ Contains rs r → B
        by (inl same) = book-refuses program t b x (ap of_pcom same ∙ is) f
        by (inr i) = more (booked b x) k i

pub its-pcom : (program : Program) (logs : Logs) (w : PlainWorld) → Found program logs w → (c : ComId) (r : Record) → of_pcom r ≡ true → Contains (log_at logs c) r → IsTrue (is_a_pcom program c)
its-pcom program logs w f c r is h = by (is_a_pcom program c) refl (is_a_tcom program c) refl
  where
    by : (a : Bool) → is_a_pcom program c ≡ a → (b : Bool) → is_a_tcom program c ≡ b → IsTrue (is_a_pcom program c)
    by true p b q = p
    by false p true q = let g = the-ledger-book program logs w f.sound c q in no-pcom-record program c (log_at logs c) (first_book program c) g.0 r is g.1 h
    by false p false q = empty r (subst (λ l. Contains l r) (f.list.others c p q) h)

-- messages --------------------------------------------------------------------------------------------

-- what is told of a message
pub record Sent (program : Program) (logs : Logs) (w : PlainWorld) (m : Msg) : Type 0 where
  pub is_from : IsTrue (is_a_pcom program m.from)
  pub is_to : IsTrue (is_a_pcom program m.to)
  pub state : Hist
  pub is_state : state_in program logs w m.from ≡ Some state
  pub inside : Contains state.sent m

pub sent-of : (program : Program) (logs : Logs) (w : PlainWorld) → Found program logs w → (m : Msg) → DataOrigin program logs w m → Sent program logs w m
sent-of program logs w f m o = record {
  is_from = subst (λ d. IsTrue (is_a_pcom program d)) (sym from) is_s;
  is_to = subst (λ d. IsTrue (is_a_pcom program d)) (same-com o.taker m.to (fst-true (same_com o.taker m.to) (o.k == m.k) test.0)) is_c;
  state = x.0;
  is_state = ap (state_in program logs w) from ∙ x.1;
  inside = test.1;
}
  where
    is_c : IsTrue (is_a_pcom program o.taker)
    is_c = by o.takes
      where
        by : TakesIt (log_at logs o.taker) o.s o.k → IsTrue (is_a_pcom program o.taker)
        by (inl y) = its-pcom program logs w f o.taker (Take o.s o.k y.0) refl y.1
        by (inr y) = its-pcom program logs w f o.taker (TakeWhole o.s o.k y.0 y.1 y.2) refl y.3

    is_s : IsTrue (is_a_pcom program o.s)
    is_s = by o.takes
      where
        g : (z : Hist) × (state_in program logs w o.taker ≡ Some z)
        g = let y = the-state program logs w f.sound o.taker is_c in (y.0, y.1)

        by : TakesIt (log_at logs o.taker) o.s o.k → IsTrue (is_a_pcom program o.s)
        by (inl y) = taken-from program o.taker (contents_of w o.taker) (log_at logs o.taker) g.0 o.s o.k y.0 g.1 y.1
        by (inr y) = whole-from program o.taker (contents_of w o.taker) (log_at logs o.taker) g.0 o.s o.k y.0 y.1 y.2 g.1 y.3

    x : (h : Hist) × (state_in program logs w o.s ≡ Some h) × (find (is_number o.taker o.k) h.sent ≡ Some m)
    x = then-is (λ (h : Hist). find (is_number o.taker o.k) h.sent) (state_in program logs w o.s) m o.was_sent

    test : (is_number o.taker o.k m ≡ true) × Contains x.0.sent m
    test = find-passes (is_number o.taker o.k) x.0.sent m x.2

    from : m.from ≡ o.s
    from = (sent-in-world program logs w f.sound o.s is_s x.0 x.1 m test.1).0

pub consistent : (program : Program) (logs : Logs) (w : PlainWorld) → Found program logs w → (c : ComId) → IsConsistent ((past_told program logs w).received c)
consistent program logs w f c m n h k from num =
    let x = from-received (packets_told program logs w) c (packets.Data m) h in
    let y = from-received (packets_told program logs w) c (packets.Data n) k in
    let a = sent-of program logs w f m (origin program logs w (packets.Data m) x.0) in
    let b = sent-of program logs w f n (origin program logs w (packets.Data n) y.0) in
    let same : b.state ≡ a.state = same_Some b.state a.state (sym b.is_state ∙ ap (state_in program logs w) (sym from) ∙ a.is_state) in
    one-message program m.from (contents_of w m.from) (log_at logs m.from) a.state a.is_state m n a.inside (subst (λ (z : Hist). Contains z.sent n) same b.inside) (x.1 ∙ sym y.1) num

-- a message that was taken was received as it was sent
pub arrives : (program : Program) (logs : Logs) (w : PlainWorld) → Found program logs w → (c s : ComId) (k : ℕ) → TakesIt (log_at logs c) s k → IsTrue (is_a_pcom program s) → (h : Hist) → state_in program logs w s ≡ Some h → (m : Msg) → Contains h.sent m → m.to ≡ c → m.k ≡ k →
    contents_in ((past_told program logs w).received c) s k ≡ Some m
arrives program logs w f c s k takes is_s h is_h m inside to num = again.1 ∙ ap Some same
  where
    both : (u v : Bool) → u ≡ true → v ≡ true → u && v ≡ true
    both true v p q = q
    both false v p q = p

    equal : (a b : ℕ) → a ≡ b → (a == b) ≡ true
    equal a b e = grind arith

    passes : is_number c k m ≡ true
    passes = both (same_com c m.to) (k == m.k) (ap (same_com c) to ∙ self-com c) (equal k m.k (sym num))

    y : (z : Msg) × (find (is_number c k) h.sent ≡ Some z) × Contains h.sent z × (is_number c k z ≡ true)
    y = found-in (is_number c k) h.sent m inside passes

    y-is : y.0 ≡ m
    y-is = one-message program s (contents_of w s) (log_at logs s) h is_h y.0 m y.2 inside (sym (same-com c y.0.to (fst-true (same_com c y.0.to) (k == y.0.k) y.3)) ∙ sym to) (sym (equal-numbers k y.0.k (snd-true (same_com c y.0.to) (k == y.0.k) y.3)) ∙ sym num)

    told : Contains (packets_told program logs w) (packets.Data m)
    told = data-told program logs w c s k m takes (ap (option_and_then (λ (x : Hist). find (is_number c k) x.sent)) is_h ∙ y.1 ∙ ap Some y-is)

    received : Contains ((past_told program logs w).received c) (packets.Data m)
    received = in-received (packets_told program logs w) c (packets.Data m) told to

    from : m.from ≡ s
    from = (sent-in-world program logs w f.sound s is_s h is_h m inside).0

    again : (z : Msg) × (find (has_identity s k) (filter_map message_in ((past_told program logs w).received c)) ≡ Some z) × Contains (filter_map message_in ((past_told program logs w).received c)) z × (has_identity s k z ≡ true)
    again =
        found-in (has_identity s k) (filter_map message_in ((past_told program logs w).received c)) m (mapped-keeps message_in ((past_told program logs w).received c) (packets.Data m) m received refl)
        (both (same_com s m.from) (k == m.k) (ap (same_com s) from ∙ self-com s) (equal k m.k (sym num)))

    same : again.0 ≡ m
    same =
        let z = found-data (has_identity s k) ((past_told program logs w).received c) again.0 again.1 in
        consistent program logs w f c again.0 m z.1 received (sym (same-com s again.0.from (fst-true (same_com s again.0.from) (k == again.0.k) again.3)) ∙ sym from) (sym (equal-numbers k again.0.k (snd-true (same_com s again.0.from) (k == again.0.k) again.3)) ∙ sym num)

-- the state by what was received is that by the crash-free world
pub state-same : (program : Program) (logs : Logs) (w : PlainWorld) → Found program logs w → (c : ComId) → IsTrue (is_a_pcom program c) → (front back : List Record) → log_at logs c ≡ front ++ back → state_after program c ((past_told program logs w).received c) front ≡ after program c (contents_of w c) front
state-same program logs w f c is front back split = after-same program c (contents_in ((past_told program logs w).received c)) (contents_of w c) front each
  where
    each : (s : ComId) (i stamp : ℕ) → Contains front (Take s i stamp) → take_of (contents_in ((past_told program logs w).received c)) s i ≡ take_of (contents_of w c) s i
    each s i stamp h =
        let in-log = subst (λ l. Contains l (Take s i stamp)) (sym split) (Contains-append_left front back (Take s i stamp) h) in
        let g = the-state program logs w f.sound c is in
        let is_s = taken-from program c (contents_of w c) (log_at logs c) g.0 s i stamp g.1 in-log in
        let z = contains-split (log_at logs c) (Take s i stamp) in-log in
        let x = open-content (λ (q : Hist). (m : Msg) × Contains q.sent m × (m.to ≡ c) × (m.k ≡ i) × (m.stamp < stamp) × ⊤) (state_in program logs w s) (f.sound.take_sent c s z.0 z.1 i stamp z.2) in
        at x.0 x.1 x.2.0 x.2.1 x.2.2 x.2.3 is_s (inl (stamp, in-log))
      where
        at : (q : Hist) → state_in program logs w s ≡ Some q → (m : Msg) → Contains q.sent m → m.to ≡ c → m.k ≡ i → IsTrue (is_a_pcom program s) → TakesIt (log_at logs c) s i → take_of (contents_in ((past_told program logs w).received c)) s i ≡ take_of (contents_of w c) s i
        at q is_q m inside to num is_s takes =
            ap (option_map (λ (v : Msg). TakesMessage s i v.handler v.args)) (arrives program logs w f c s i takes is_s q is_q m inside to num)
            ∙ sym (ap (λ o. option_map (λ (v : Msg). TakesMessage s i v.handler v.args) (option_map (content c s i) o)) (ap (λ d. message_of w s d i) (sym to) ∙ ap (message_of w s m.to) (sym num) ∙ (sent-in-world program logs w f.sound s is_s q is_q m inside).1))

-- transactions ----------------------------------------------------------------------------------------

-- an open transaction was begun
pub txn-open : (program : Program) (c : ComId) (k : Contents) (rs : List Record) (h : Hist) → after program c k rs ≡ Some h → is_idle h.stage ≡ false → (b : Begun) × (opened h h.plain.begun ≡ Some b) × (tcom_of h.stage ≡ Some b.tcom)
txn-open program c k rs h e busy = at h.plain.hand refl (hands_are_open program c k rs h e ∙ busy)
  where
    at : (o : Option _) → h.plain.hand ≡ o → is_none h.plain.hand ≡ false → (b : Begun) × (opened h h.plain.begun ≡ Some b) × (tcom_of h.stage ≡ Some b.tcom)
    at None is no_hand = clash (is_none h.plain.hand) (ap is_none is) no_hand
    at (Some x) is no_hand = let z = open_is_in_hand program c k rs h x e is in (record { tcom = z.0; handler = x.handler; vars = h.plain.vars; args = x.args; done = x.done }, z.2.0, z.1)

-- an answer stands at its place, and places stand in order
pub places-has : (p : ℕ) (s : Session) (vs : List ℤ) (g : Got) → Contains (in_places p s vs) g → (i : ℕ) × (g.place ≡ p + i) × (slice_get vs i ≡ Some g.value) × (g.session ≡ s) × (i < length vs)
places-has p s [] g h = empty g h
places-has p s (v ∷ vs) g h = at (head-or-tail (record { place = p; session = s; value = v }) g (in_places (p + 1) s vs) h) (places-has (p + 1) s vs g)
  where
    plus : (n : ℕ) → n ≡ n + 0
    plus n = omega arith

    plus-suc : (n m : ℕ) → (n + 1) + m ≡ n + suc m
    plus-suc n m = omega arith

    positive : (n : ℕ) → 0 < suc n
    positive n = omega arith

    more-less : (n m : ℕ) → n < m → suc n < suc m
    more-less n m l = omega (arith, l)

    at : (record { place = p; session = s; value = v } ≡ g) ⊎ Contains (in_places (p + 1) s vs) g → (Contains (in_places (p + 1) s vs) g → (i : ℕ) × (g.place ≡ (p + 1) + i) × (slice_get vs i ≡ Some g.value) × (g.session ≡ s) × (i < length vs)) →
        (i : ℕ) × (g.place ≡ p + i) × (slice_get (v ∷ vs) i ≡ Some g.value) × (g.session ≡ s) × (i < suc (length vs))
    at (inl e) more = (0, ap (λ (z : Got). z.place) (sym e) ∙ plus p, ap (λ (z : Got). Some z.value) e, ap (λ (z : Got). z.session) (sym e), positive (length vs))
    at (inr k) more = let z = more k in (suc z.0, z.1 ∙ plus-suc p z.0, z.2, z.3, more-less z.0 (length vs) z.4)

pub places-keeps : (p : ℕ) (s : Session) (vs : List ℤ) (i : ℕ) (v : ℤ) → slice_get vs i ≡ Some v → Contains (in_places p s vs) (record { place = p + i; session = s; value = v })
places-keeps p s [] i v e = none-some v e
places-keeps p s (x ∷ vs) zero v e =
    subst (Contains (in_places p s (x ∷ vs))) (ap (λ j. record { place = j; session = s; value = x }) (plus p) ∙ ap (λ y. record { place = p + 0; session = s; value = y }) (same_Some x v e)) (in-head (record { place = p; session = s; value = x }) (in_places (p + 1) s vs))
  where
    plus : (n : ℕ) → n ≡ n + 0
    plus n = omega arith
places-keeps p s (x ∷ vs) (suc i) v e =
    subst (λ j. Contains (in_places p s (x ∷ vs)) (record { place = j; session = s; value = v })) (plus-suc p i) (in-tail (record { place = p; session = s; value = x }) (record { place = (p + 1) + i; session = s; value = v }) (in_places (p + 1) s vs) (places-keeps (p + 1) s vs i v e))
  where
    plus-suc : (n m : ℕ) → (n + 1) + m ≡ n + suc m
    plus-suc n m = omega arith

-- what a log says of one transaction: its answers, and how they were asked for
pub record Asked (program : Program) (logs : Logs) (w : PlainWorld) (c : ComId) (n : ℕ) : Type 0 where
  pub session : Session
  pub values : List ℤ
  pub gots : values_of (log_at logs c) n ≡ in_places 0 session values
  pub asked : AreAsked program c (begun_of program logs w c n) values

pub asked-of : (program : Program) (logs : Logs) (w : PlainWorld) → Found program logs w → (c : ComId) → IsTrue (is_a_pcom program c) → (n : ℕ) → Asked program logs w c n
asked-of program logs w f c is n =
    let g = the-state program logs w f.sound c is in
    let z = (states-talk program c (contents_of w c) (log_at logs c) g.0 f.play g.1).each n in
    record { session = z.0; values = z.1; gots = z.2; asked = λ i lt. let y = z.3 i lt in (y.0, y.1, ap (option_and_then (λ h. opened h n)) g.1 ∙ y.2, y.3, y.4) }

pub value-in : (program : Program) (logs : Logs) (w : PlainWorld) (c : ComId) (n : ℕ) → (a : Asked program logs w c n) → (place : ℕ) (session : Session) (value : ℤ) → Contains (log_at logs c) (Value n place session value) → (slice_get a.values place ≡ Some value) × (session ≡ a.session) × (place < length a.values)
value-in program logs w c n a place session value h =
    let g : Got = record { place = place; session = session; value = value } in
    let x = mapped-keeps (got_in n) (log_at logs c) (Value n place session value) g h (ap (λ b. cond b (Some g) None) (self n)) in
    let y = places-has 0 a.session a.values g (subst (λ l. Contains l g) a.gots x) in
    let e : place ≡ y.0 = y.1 ∙ plus y.0 in
    (ap (slice_get a.values) e ∙ y.2, y.3, subst (λ i. i < length a.values) (sym e) y.4)
  where
    self : (m : ℕ) → (m == m) ≡ true
    self m = grind arith

    plus : (m : ℕ) → 0 + m ≡ m
    plus m = omega arith

pub value-stands : (program : Program) (logs : Logs) (w : PlainWorld) (c : ComId) (n : ℕ) → (a : Asked program logs w c n) → (i : ℕ) (v : ℤ) → slice_get a.values i ≡ Some v → Contains (log_at logs c) (Value n i a.session v)
value-stands program logs w c n a i v e =
    let g : Got = record { place = 0 + i; session = a.session; value = v } in
    let x = mapped-has (got_in n) (log_at logs c) g (subst (λ l. Contains l g) (sym a.gots) (places-keeps 0 a.session a.values i v e)) in
    subst (λ j. Contains (log_at logs c) (Value n j a.session v)) (plus i) (subst (Contains (log_at logs c)) (got-is n x.0 g x.2) x.1)
  where
    plus : (m : ℕ) → 0 + m ≡ m
    plus m = omega arith

pub values-are : (program : Program) (logs : Logs) (w : PlainWorld) (c : ComId) (n : ℕ) → (a : Asked program logs w c n) → map (λ (g : Got). g.value) (values_of (log_at logs c) n) ≡ a.values
values-are program logs w c n a = ap (map (λ (g : Got). g.value)) a.gots ∙ map-places 0 a.session a.values
