-- What a Pcom put out in the past of found logs is true.
use Rattle.std.proofs.Common.{◌≡◌, refl, ◌∙◌, ap, sym, subst, ℕ, zero, suc, ◌+◌, ◌<◌, ◌≤◌, Bool, true, false, cond, ◌&&◌, ◌==◌, List, [], ◌∷◌, length, take, slice_get, ℤ, Option, Some, None, option_and_then, arith}
use Rattle.std.specs.Prelude.{Contains, IsTrue, IsSomeAnd}
use Rattle.std.proofs.lemmas.List.{append-nil}
use Rattle.std.proofs.lemmas.Option.{same_Some}
use Rattle.ic_base.specs.declared.messages.ComId.{ComId}
use Rattle.ic_base.specs.declared.messages.Request.{Request}
use Rattle.ic_base.specs.declared.messages.Session.{Session}
use Rattle.ic_base.specs.declared.messages.Packet.{Packet}
use Rattle.ic_base.specs.declared.messages.Packet.TheVariants as packets
use Rattle.ic_base.specs.declared.played.Played.{Played}
use Rattle.ic_base.specs.declared.played.Played.TheVariants.{Asks, Ready, NeedFails, Ends}
use Rattle.ic_base.specs.declared.scenario.Program.{Program}
use Rattle.ic_base.specs.declared.record.Record.TheVariants.{Value, Released, Decided}
use Rattle.ic_base.specs.Programs.{same_com, is_a_pcom, is_a_tcom}
use Rattle.def_plain.specs.Plain.{PlainWorld}
use Rattle.def_state.specs.Txn.{Committing}
use Rattle.def_state.specs.Hist.{Hist, Begun, standing_of, opened, plays_again}
use Rattle.def_step.specs.Packets.{sender_of}
use Rattle.def_facts.specs.Logs.{Logs, log_at, is_kept, before_outcome, values_of, in_places, decisions_on, decides_txn}
use Rattle.def_facts.specs.Pcom.{state_after, begun_in, PcomLogFacts, IsTrueOf, IsAsked, IsReady, IsCommittingAt, AnswersReceived, EndsWell}
use Rattle.def_facts.specs.Sound.{state_in}
use Rattle.law_found.specs.Past.{packets_told, session_at}
use Rattle.law_replay.proofs.Lists.{none-some, self-com, some-at as and-some}
use Rattle.law_replay.proofs.Lists.{in-head, in-tail, equal-numbers}
use Rattle.law_replay.proofs.Lists.{contains-split}
use Rattle.law_found.proofs.Sound.{decides-tcom}
use Rattle.law_found.proofs.Past.{in-received, from-sent, Origin, origin, OpOrigin, ReplyOrigin, CommitOrigin, reply-told}
use Rattle.law_found.proofs.Pcoms.{Found, past_told, one-kind, its-pcom, sent-of, consistent, state-same, value-in, value-stands, values-are, Asked, asked-of, places-has}
use Rattle.law_found.proofs.Told.{Commits, commits-of, prefix-facts}
use Rattle.law_replay.proofs.Members.{mapped-keeps}

-- lists -----------------------------------------------------------------------------------------------

take-length : {A : Type 0} (n : ℕ) (xs : List A) → n < length xs → length (take n xs) ≡ n
take-length zero xs lt = refl
take-length (suc n) [] lt = absurd (none n lt)
  where
    none : (m : ℕ) → suc m < 0 → ⊥
    none m l = omega (arith, l)
take-length (suc n) (x ∷ xs) lt = ap suc (take-length n xs (less n (length xs) lt))
  where
    less : (m l : ℕ) → suc m < suc l → m < l
    less m l z = omega (arith, z)

take-get : {A : Type 0} (n : ℕ) (xs : List A) (i : ℕ) (x : A) → slice_get (take n xs) i ≡ Some x → slice_get xs i ≡ Some x
take-get zero xs i x e = none-some x e
take-get (suc n) [] i x e = e
take-get (suc n) (y ∷ xs) zero x e = e
take-get (suc n) (y ∷ xs) (suc i) x e = take-get n xs i x e

pub get-contains : {A : Type 0} (xs : List A) (i : ℕ) (x : A) → slice_get xs i ≡ Some x → Contains xs x
get-contains [] i x e = none-some x e
get-contains (y ∷ xs) zero x e = subst (Contains (y ∷ xs)) (same_Some y x e) (in-head y xs)
get-contains (y ∷ xs) (suc i) x e = in-tail y x xs (get-contains xs i x e)

pub length-places : (p : ℕ) (s : Session) (vs : List ℤ) → length (in_places p s vs) ≡ length vs
length-places p s [] = refl
length-places p s (v ∷ vs) = ap suc (length-places (p + 1) s vs)

pub asks-on : (u v : ComId) (q r : Request) → Asks u q ≡ Asks v r → u ≡ v
asks-on u v q r e = ap (on u) e
  where
    on : ComId → Played → ComId
    on d (Asks t x) = t
    on d (Ready t) = d
    on d (NeedFails t line) = d
    on d (Ends vars sends outs) = d

-- packets ---------------------------------------------------------------------------------------------

-- an answer is of a Tcom, to a Pcom
pub reply-tcom : (program : Program) (logs : Logs) (w : PlainWorld) → Found program logs w → (t c : ComId) (n place : ℕ) (session : Session) (value : ℤ) → ReplyOrigin program logs w t c n place session value → IsTrue (is_a_pcom program c) × IsTrue (is_a_tcom program t)
reply-tcom program logs w f t c n place session value o =
    let is = its-pcom program logs w f c (Value n place session value) refl o.stands in
    let a = asked-of program logs w f c is n in
    let v = value-in program logs w c n a place session value o.stands in
    let y = a.asked place v.2 in
    (is, subst (λ d. IsTrue (is_a_tcom program d)) (ap (λ (b : Begun). b.tcom) (same_Some y.0 o.begun (sym y.2 ∙ o.is_begun)) ∙ o.is_tcom) y.3)

-- what the part asked at the place of an answer
pub op-plays : (program : Program) (logs : Logs) (w : PlainWorld) (c t : ComId) (n place : ℕ) (sess : Option Session) (q : Request) → (a : Asked program logs w c n) → (o : OpOrigin program logs w c t n place sess q) → plays_again program c o.begun (take place a.values) ≡ Asks t q
op-plays program logs w c t n place sess q a o =
    let v = value-in program logs w c n a place o.session o.value o.stands in
    let y = a.asked place v.2 in
    let same : y.0 ≡ o.begun = same_Some y.0 o.begun (sym y.2 ∙ o.is_begun) in
    let asks : plays_again program c o.begun (take place a.values) ≡ Asks o.on q = ap (λ l. plays_again program c o.begun (take place l)) (sym (values-are program logs w c n a)) ∙ o.asks in
    let first : plays_again program c o.begun (take place a.values) ≡ Asks o.begun.tcom y.1 = subst (λ (b : Begun). plays_again program c b (take place a.values) ≡ Asks b.tcom y.1) same y.4 in
    asks ∙ ap (λ u. Asks u q) (asks-on o.on o.begun.tcom q y.1 (sym asks ∙ first) ∙ o.is_tcom)

op-true : (program : Program) (logs : Logs) (w : PlainWorld) → Found program logs w → (c t : ComId) (n place : ℕ) (sess : Option Session) (q : Request) → IsTrue (is_a_pcom program c) → OpOrigin program logs w c t n place sess q →
    IsSomeAnd (begun_in program c ((past_told program logs w).received c) (log_at logs c) n) (IsAsked program c ((past_told program logs w).received c) t n place sess q)
op-true program logs w f c t n place sess q is o =
    and-some (IsAsked program c received t n place sess q) (begun_in program c received (log_at logs c) n) o.begun
    (ap (option_and_then (λ h. opened h n)) (state-same program logs w f c is (log_at logs c) [] (sym (append-nil (log_at logs c)))) ∙ o.is_begun)
    (subst (λ s. IsAsked program c received t n place s q o.begun) o.is_session (at (place == 0) refl))
  where
    received : List Packet
    received = (past_told program logs w).received c

    a : Asked program logs w c n
    a = asked-of program logs w f c is n

    v : (slice_get a.values place ≡ Some o.value) × (o.session ≡ a.session) × (place < length a.values)
    v = value-in program logs w c n a place o.session o.value o.stands

    plays : plays_again program c o.begun (take place a.values) ≡ Asks t q
    plays = op-plays program logs w c t n place sess q a o

    answers : AnswersReceived c t received n o.session (take place a.values)
    answers i x e =
        let st = value-stands program logs w c n a i x (take-get place a.values i x e) in
        subst (λ u. Contains received (packets.OpReply u c n i o.session x)) o.is_tcom
        (in-received (packets_told program logs w) c (packets.OpReply o.begun.tcom c n i o.session x) (reply-told program logs w c n i o.session x o.begun (subst (λ s. Contains (log_at logs c) (Value n i s x)) (sym v.1) st) o.is_begun) refl)

    positive : (m : ℕ) → (m == 0) ≡ false → 0 < m
    positive m e = grind arith

    at : (b : Bool) → (place == 0) ≡ b → IsAsked program c received t n place (session_at place o.session) q o.begun
    at true e =
        subst (λ z. IsAsked program c received t n place (cond z None (Some o.session)) q o.begun) (sym e)
        (o.is_tcom, equal-numbers place 0 e, subst (λ m. plays_again program c o.begun (take m a.values) ≡ Asks t q) (equal-numbers place 0 e) plays)
    at false e =
        subst (λ z. IsAsked program c received t n place (cond z None (Some o.session)) q o.begun) (sym e)
        (take place a.values, o.is_tcom, positive place e, take-length place a.values v.2, answers, plays)

commit-true : (program : Program) (logs : Logs) (w : PlainWorld) → Found program logs w → (c t : ComId) (n place : ℕ) (session : Session) (at : ℕ) → IsTrue (is_a_pcom program c) → CommitOrigin program logs w c t n place session at →
    IsSomeAnd (begun_in program c ((past_told program logs w).received c) (log_at logs c) n) (IsReady program c (log_at logs c) ((past_told program logs w).received c) t n place session at)
commit-true program logs w f c t n place session at is o =
    and-some (IsReady program c (log_at logs c) received t n place session at) (begun_in program c received (log_at logs c) n) x.begun
    (ap (option_and_then (λ h. opened h n)) (state-same program logs w f c is (log_at logs c) [] (sym (append-nil (log_at logs c)))) ∙ x.is_begun) (
      x.values,
      x.on,
      long,
      x.gots ∙ ap (λ s. in_places 0 s x.values) same-session,
      x.plays,
      and-some (IsCommittingAt t n place session at) (state_after program c received (before_outcome (log_at logs c) n)) x.state (state-same program logs w f c is (before_outcome (log_at logs c) n) x.back x.split ∙ x.is_state)
          (x.stage ∙ ap (λ i. Committing t i x.session) long ∙ ap (Committing t place) same-session, x.number, low x.state.clock at (ap (λ (h : Hist). h.clock) (same_Some x.state o.before (sym x.is_state ∙ o.is_before)) ∙ o.is_clock)),
    )
  where
    received : List Packet
    received = (past_told program logs w).received c

    both : (u v : Bool) → u ≡ true → v ≡ true → u && v ≡ true
    both true v p q = q
    both false v p q = p

    self : (m : ℕ) → (m == m) ≡ true
    self m = grind arith

    d : Contains (decisions_on (log_at logs t) c n) o.stamp
    d = mapped-keeps (decides_txn c n) (log_at logs t) (Decided o.stamp c n o.writes) o.stamp o.stands (ap (λ b. cond b (Some o.stamp) None) (both (same_com c c) (n == n) (self-com c) (self n)))

    x : Commits program logs w t c n
    x = commits-of program logs w f t c n o.stamp (decides-tcom program logs w f.list f.sound t c n o.stamp d) d

    long : length x.values ≡ place
    long = sym (length-places 0 x.session x.values) ∙ ap length (sym x.gots) ∙ o.is_place

    same-session : x.session ≡ session
    same-session = sym (places-has 0 x.session x.values o.first (subst (λ l. Contains l o.first) x.gots (get-contains (values_of (log_at logs c) n) 0 o.first o.is_first))).3 ∙ o.is_session

    low : (a b : ℕ) → a ≡ b → a ≤ b
    low a b e = omega (arith, e)

pub packets-true : (program : Program) (logs : Logs) (w : PlainWorld) → Found program logs w → (c : ComId) → IsTrue (is_a_pcom program c) → (p : Packet) → Contains ((past_told program logs w).sent c) p → IsTrueOf program c (log_at logs c) ((past_told program logs w).received c) p
packets-true program logs w f c is p h = at p x.1 (origin program logs w p x.0)
  where
    x : Contains (packets_told program logs w) p × (sender_of p ≡ c)
    x = from-sent (packets_told program logs w) c p h

    received : List Packet
    received = (past_told program logs w).received c

    at : (q : Packet) → sender_of q ≡ c → Origin program logs w q → IsTrueOf program c (log_at logs c) received q
    at (packets.Data m) s o =
        let y = sent-of program logs w f m o in
        and-some (λ (h : Hist). Contains h.sent m) (state_after program c received (log_at logs c)) y.state (state-same program logs w f c is (log_at logs c) [] (sym (append-nil (log_at logs c))) ∙ ap (state_in program logs w) (sym s) ∙ y.is_state) y.inside
    at (packets.Stable from to k) s o = absurd o
    at (packets.Installed from to k) s o =
        let z = contains-split (log_at logs to) (Released from k) o in
        (s, subst (λ d. IsTrue (is_kept (log_at logs d) (record { peer = to; k = k }))) s (f.sound.released_kept to from z.0 z.1 k z.2))
    at (packets.Fetch from to k) s o = absurd o
    at (packets.Op from t n place session q) s o = (s, op-true program logs w f c t n place session q is (subst (λ d. OpOrigin program logs w d t n place session q) s o))
    at (packets.OpReply from to n place session value) s o = one-kind program c is (subst (λ d. IsTrue (is_a_tcom program d)) s (reply-tcom program logs w f from to n place session value o).1)
    at (packets.Commit from t n place session stamp) s o = (s, commit-true program logs w f c t n place session stamp is (subst (λ d. CommitOrigin program logs w d t n place session stamp) s o))
    at (packets.Outcome from to n place session d) s o = one-kind program c is (subst (λ d. IsTrue (is_a_tcom program d)) (o.is_tcom ∙ s) (decides-tcom program logs w f.list f.sound o.begun.tcom to n o.stamp o.decided))
    at (packets.Drop from to n) s o = absurd o

pub ends-well : (program : Program) (logs : Logs) (w : PlainWorld) → Found program logs w → (c : ComId) → IsTrue (is_a_pcom program c) → EndsWell program c ((past_told program logs w).received c) (log_at logs c)
ends-well program logs w f c is = subst (λ o. IsSomeAnd o (λ h. (standing_of program c h).failed ≡ None)) (sym (state-same program logs w f c is (log_at logs c) [] (sym (append-nil (log_at logs c))))) (f.sound.ends_well c is)

pub pcom-facts : (program : Program) (logs : Logs) (w : PlainWorld) → Found program logs w → (c : ComId) → IsTrue (is_a_pcom program c) → PcomLogFacts program c (log_at logs c) (log_at logs c) ((past_told program logs w).sent c) ((past_told program logs w).received c)
pcom-facts program logs w f c is = record {
  consistent = consistent program logs w f c;
  whole = prefix-facts program logs w f c is;
  lasting = record { packets_true = packets-true program logs w f c is; ends_well = ends-well program logs w f c is };
  ends_well = ends-well program logs w f c is;
}
