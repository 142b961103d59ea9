-- Which packets the logs tell of.
use Rattle.std.proofs.Common.{◌≡◌, refl, ◌∙◌, ap, sym, subst, ℕ, zero, suc, ◌+◌, ◌<◌, List, [], ◌∷◌, length, map, take, slice_get, unwrap_or, ℤ, Option, Some, None, option_map, option_and_then, option_to_list, arith, ◌⊎◌, inl, inr}
use Rattle.std.specs.Prelude.{Contains}
use Rattle.std.specs.List.{flat_map, range_with_len}
use Rattle.std.proofs.lemmas.List.Elements.{Contains-append_left, Contains-append_right, Contains-append_cases}
use Rattle.ic_base.specs.declared.messages.ComId.{ComId}
use Rattle.ic_base.specs.declared.messages.Msg.{Msg}
use Rattle.ic_base.specs.declared.messages.Request.{Request}
use Rattle.ic_base.specs.declared.messages.Session.{Session}
use Rattle.ic_base.specs.declared.messages.Decision.{Decision}
use Rattle.ic_base.specs.declared.messages.Decision.TheVariants.{Committed}
use Rattle.ic_base.specs.declared.messages.Packet.{Packet}
use Rattle.ic_base.specs.declared.messages.Packet.TheVariants as packets
use Rattle.ic_base.specs.declared.played.Played.{Played}
use Rattle.ic_base.specs.declared.played.Played.TheVariants.{Asks, Ready, NeedFails, Ends}
use Rattle.ic_base.specs.declared.scenario.Program.{Program}
use Rattle.ic_base.specs.declared.record.Record.{Record}
use Rattle.ic_base.specs.declared.record.Record.TheVariants.{Take, TakeWhole, Input, Value, Outcome, Released, Shown, Checkpoint, Epoch, Decided}
use Rattle.ic_base.specs.Programs.{same_com}
use Rattle.def_plain.specs.Plain.{PlainWorld}
use Rattle.def_state.specs.Hist.{Hist, Begun, after, opened, plays_again}
use Rattle.def_step.specs.Packets.{sender_of, receiver_of}
use Rattle.def_facts.specs.Logs.{Logs, log_at, before_outcome, values_of, Got, decisions_on}
use Rattle.def_facts.specs.Sound.{state_in, contents_of}
use Rattle.law_found.specs.Past.{past_of, packets_told, packets_of, sent_by, request_of, exchange, told_commit, asked_commit, session_at}
use Rattle.law_replay.proofs.Lists.{self-com, mapped}
use Rattle.law_replay.proofs.Lists.{in-head, in-tail, same-com}
use Rattle.law_replay.proofs.Lists.{head-or-tail}
use Rattle.law_replay.proofs.Lists.{empty}
use Rattle.law_replay.proofs.Members.{map-has, filter-has, map-in as map-keeps, filter-in}
use Rattle.std.proofs.lemmas.Option.{slice_get_within}

-- lists -----------------------------------------------------------------------------------------------

pub flat-has : {A B : Type 0} (f : A → List B) (xs : List A) (y : B) → Contains (flat_map f xs) y → (x : A) × Contains xs x × Contains (f x) y
flat-has f [] y h = empty y h
flat-has {A} {B} f (x ∷ xs) y h = at (Contains-append_cases (f x) (flat_map f xs) y h) (flat-has f xs y)
  where
    at : Contains (f x) y ⊎ Contains (flat_map f xs) y → (Contains (flat_map f xs) y → (z : A) × Contains xs z × Contains (f z) y) → (z : A) × Contains (x ∷ xs) z × Contains (f z) y
    at (inl a) more = (x, in-head x xs, a)
    at (inr b) more = let z = more b in (z.0, in-tail x z.0 xs z.1, z.2)

pub flat-keeps : {A B : Type 0} (f : A → List B) (xs : List A) (x : A) (y : B) → Contains xs x → Contains (f x) y → Contains (flat_map f xs) y
flat-keeps f [] x y h k = empty x h
flat-keeps f (z ∷ xs) x y h k = at (head-or-tail z x xs h) (λ i. flat-keeps f xs x y i k)
  where
    at : (z ≡ x) ⊎ Contains xs x → (Contains xs x → Contains (flat_map f xs) y) → Contains (flat_map f (z ∷ xs)) y
    at (inl a) more = Contains-append_left (f z) (flat_map f xs) y (subst (λ v. Contains (f v) y) (sym a) k)
    at (inr b) more = Contains-append_right (f z) (flat_map f xs) y (more b)

pub option-has : {A : Type 0} (o : Option A) (x : A) → Contains (option_to_list o) x → o ≡ Some x
option-has None x h = empty x h
option-has (Some y) x h = at (head-or-tail y x [] h)
  where
    at : (y ≡ x) ⊎ Contains [] x → Some y ≡ Some x
    at (inl a) = ap Some a
    at (inr b) = empty x b

pub option-keeps : {A : Type 0} (o : Option A) (x : A) → o ≡ Some x → Contains (option_to_list o) x
option-keeps o x e = subst (λ z. Contains (option_to_list z) x) (sym e) (in-head x [])

range-keeps : (a n i : ℕ) → i < n → Contains (range_with_len a n) (a + i)
range-keeps a zero i lt = absurd (none i lt)
  where
    none : (m : ℕ) → m < 0 → ⊥
    none m l = omega (arith, l)
range-keeps a (suc n) zero lt = subst (Contains (range_with_len a (suc n))) (plus a) (in-head a (range_with_len (a + 1) n))
  where
    plus : (m : ℕ) → m ≡ m + 0
    plus m = omega arith
range-keeps a (suc n) (suc i) lt = subst (Contains (range_with_len a (suc n))) (plus a i) (in-tail a ((a + 1) + i) (range_with_len (a + 1) n) (range-keeps (a + 1) n i (less i n lt)))
  where
    plus : (m l : ℕ) → (m + 1) + l ≡ m + suc l
    plus m l = omega arith

    less : (m l : ℕ) → suc m < suc l → m < l
    less m l x = omega (arith, x)

-- told ------------------------------------------------------------------------------------------------

-- a record of c tells of the packet
pub record Tells (program : Program) (logs : Logs) (w : PlainWorld) (p : Packet) : Type 0 where
  pub by : ComId
  pub r : Record
  pub stands : Contains (log_at logs by) r
  pub tells : Contains (packets_of program logs w by r) p

pub told-has : (program : Program) (logs : Logs) (w : PlainWorld) (p : Packet) → Contains (packets_told program logs w) p → Tells program logs w p
told-has program logs w p h =
    let x = flat-has (λ i. flat_map (packets_of program logs w (record { 0 = i })) (log_at logs (record { 0 = i }))) (range_with_len 0 (length logs)) p h in
    let y = flat-has (packets_of program logs w (record { 0 = x.0 })) (log_at logs (record { 0 = x.0 })) p x.2 in
    record { by = record { 0 = x.0 }; r = y.0; stands = y.1; tells = y.2 }

pub told-keeps : (program : Program) (logs : Logs) (w : PlainWorld) (c : ComId) (r : Record) (p : Packet) → Contains (log_at logs c) r → Contains (packets_of program logs w c r) p → Contains (packets_told program logs w) p
told-keeps program logs w c r p h k =
    flat-keeps (λ i. flat_map (packets_of program logs w (record { 0 = i })) (log_at logs (record { 0 = i }))) (range_with_len 0 (length logs)) c.0 p (subst (Contains (range_with_len 0 (length logs))) (plus c.0) (range-keeps 0 (length logs) c.0 (below (slice_get logs c.0) refl h)))
    (flat-keeps (packets_of program logs w c) (log_at logs c) r p h k)
  where
    plus : (m : ℕ) → 0 + m ≡ m
    plus m = omega arith

    below : (o : Option (List Record)) → slice_get logs c.0 ≡ o → Contains (unwrap_or o []) r → c.0 < length logs
    below None is i = empty r i
    below (Some log) is i = slice_get_within logs c.0 log is

pub in-sent : (ps : List Packet) (c : ComId) (p : Packet) → Contains ps p → sender_of p ≡ c → Contains ((past_of ps).sent c) p
in-sent ps c p h e = filter-in (λ q. same_com c (sender_of q)) ps p h (ap (same_com c) e ∙ self-com c)

pub in-received : (ps : List Packet) (c : ComId) (p : Packet) → Contains ps p → receiver_of p ≡ c → Contains ((past_of ps).received c) p
in-received ps c p h e = filter-in (λ q. same_com c (receiver_of q)) ps p h (ap (same_com c) e ∙ self-com c)

pub from-sent : (ps : List Packet) (c : ComId) (p : Packet) → Contains ((past_of ps).sent c) p → Contains ps p × (sender_of p ≡ c)
from-sent ps c p h = let x = filter-has (λ q. same_com c (sender_of q)) ps p h in (x.0, sym (same-com c (sender_of p) x.1))

pub from-received : (ps : List Packet) (c : ComId) (p : Packet) → Contains ((past_of ps).received c) p → Contains ps p × (receiver_of p ≡ c)
from-received ps c p h = let x = filter-has (λ q. same_com c (receiver_of q)) ps p h in (x.0, sym (same-com c (receiver_of p) x.1))

-- how the n-th transaction of c was begun
abbrev pub begun_of : Program → Logs → PlainWorld → ComId → ℕ → Option Begun
begun_of program logs w c n = option_and_then (λ h. opened h n) (state_in program logs w c)

-- the log takes the k-th message of s
abbrev pub TakesIt : List Record → ComId → ℕ → Type 0
TakesIt log s k = ((stamp : ℕ) × Contains log (Take s k stamp)) ⊎ ((stamp : ℕ) × (handler : ℕ) × (args : List ℤ) × Contains log (TakeWhole s k stamp handler args))

pub record DataOrigin (program : Program) (logs : Logs) (w : PlainWorld) (m : Msg) : Type 0 where
  pub taker : ComId
  pub s : ComId
  pub k : ℕ
  pub takes : TakesIt (log_at logs taker) s k
  pub was_sent : sent_by (state_in program logs w s) taker k ≡ Some m

pub record OpOrigin (program : Program) (logs : Logs) (w : PlainWorld) (c t : ComId) (n place : ℕ) (sess : Option Session) (q : Request) : Type 0 where
  pub session : Session
  pub value : ℤ
  pub begun : Begun
  pub on : ComId
  pub stands : Contains (log_at logs c) (Value n place session value)
  pub is_begun : begun_of program logs w c n ≡ Some begun
  pub is_tcom : begun.tcom ≡ t
  pub is_session : session_at place session ≡ sess
  pub asks : plays_again program c begun (take place (map (λ g. g.value) (values_of (log_at logs c) n))) ≡ Asks on q

pub record ReplyOrigin (program : Program) (logs : Logs) (w : PlainWorld) (t c : ComId) (n place : ℕ) (session : Session) (value : ℤ) : Type 0 where
  pub begun : Begun
  pub stands : Contains (log_at logs c) (Value n place session value)
  pub is_begun : begun_of program logs w c n ≡ Some begun
  pub is_tcom : begun.tcom ≡ t

pub record OutcomeOrigin (program : Program) (logs : Logs) (w : PlainWorld) (t c : ComId) (n : ℕ) (d : Decision) : Type 0 where
  pub begun : Begun
  pub at : ℕ
  pub stamp : ℕ
  pub stands : Contains (log_at logs c) (Outcome at n None)
  pub is_begun : begun_of program logs w c n ≡ Some begun
  pub is_tcom : begun.tcom ≡ t
  pub decided : Contains (decisions_on (log_at logs begun.tcom) c n) stamp
  pub is_decision : Committed stamp ≡ d

pub record CommitOrigin (program : Program) (logs : Logs) (w : PlainWorld) (c t : ComId) (n place : ℕ) (session : Session) (at : ℕ) : Type 0 where
  pub stamp : ℕ
  pub writes : List (ℕ × ℤ)
  pub before : Hist
  pub first : Got
  pub stands : Contains (log_at logs t) (Decided stamp c n writes)
  pub is_before : after program c (contents_of w c) (before_outcome (log_at logs c) n) ≡ Some before
  pub is_first : slice_get (values_of (log_at logs c) n) 0 ≡ Some first
  pub is_place : length (values_of (log_at logs c) n) ≡ place
  pub is_session : first.session ≡ session
  pub is_clock : before.clock ≡ at

-- where a packet that is told of comes from
abbrev pub Origin : Program → Logs → PlainWorld → Packet → Type 0
Origin program logs w (packets.Data m) = DataOrigin program logs w m
Origin program logs w (packets.Op c t n place sess q) = OpOrigin program logs w c t n place sess q
Origin program logs w (packets.OpReply t c n place session value) = ReplyOrigin program logs w t c n place session value
Origin program logs w (packets.Outcome t c n place sess d) = OutcomeOrigin program logs w t c n d
Origin program logs w (packets.Installed d c k) = Contains (log_at logs c) (Released d k)
Origin program logs w (packets.Commit c t n place session at) = CommitOrigin program logs w c t n place session at
Origin program logs w (packets.Stable from to k) = ⊥
Origin program logs w (packets.Fetch from to k) = ⊥
Origin program logs w (packets.Drop from to n) = ⊥

pub origin : (program : Program) (logs : Logs) (w : PlainWorld) (p : Packet) → Contains (packets_told program logs w) p → Origin program logs w p
origin program logs w p h = by (told-has program logs w p h).by (told-has program logs w p h).r (told-has program logs w p h).stands (told-has program logs w p h).tells
  where
    data-of : (c s : ComId) (k : ℕ) → TakesIt (log_at logs c) s k → Contains (map packets.Data (option_to_list (sent_by (state_in program logs w s) c k))) p → Origin program logs w p
    data-of c s k takes i =
        let x = map-has packets.Data (option_to_list (sent_by (state_in program logs w s) c k)) p i in
        subst (Origin program logs w) x.2 (record { taker = c; s = s; k = k; takes = takes; was_sent = option-has (sent_by (state_in program logs w s) c k) x.0 x.1 })

    request-of : (c : ComId) (n place : ℕ) (session : Session) (value : ℤ) (b : Begun) → Contains (log_at logs c) (Value n place session value) → begun_of program logs w c n ≡ Some b → (r : Played) → plays_again program c b (take place (map (λ g. g.value) (values_of (log_at logs c) n))) ≡ r →
        Contains (request_of c b.tcom n place session r) p → Origin program logs w p
    request-of c n place session value b st is (Asks u q) e i = at (head-or-tail (packets.Op c b.tcom n place (session_at place session) q) p [] i)
      where
        at : (packets.Op c b.tcom n place (session_at place session) q ≡ p) ⊎ Contains [] p → Origin program logs w p
        at (inl same) = subst (Origin program logs w) same (record { session = session; value = value; begun = b; on = u; stands = st; is_begun = is; is_tcom = refl; is_session = refl; asks = e })
        at (inr j) = empty p j
    request-of c n place session value b st is (Ready u) e i = empty p i
    request-of c n place session value b st is (NeedFails u line) e i = empty p i
    request-of c n place session value b st is (Ends vars sends outs) e i = empty p i

    by : (c : ComId) (r : Record) → Contains (log_at logs c) r → Contains (packets_of program logs w c r) p → Origin program logs w p
    by c (Take s k stamp) st i = data-of c s k (inl (stamp, st)) i
    by c (TakeWhole s k stamp handler args) st i = data-of c s k (inr (stamp, handler, args, st)) i
    by c (Value n place session value) st i =
        let x = flat-has (exchange program (log_at logs c) c n place session value) (option_to_list (begun_of program logs w c n)) p i in
        at x.0 (option-has (begun_of program logs w c n) x.0 x.1) (Contains-append_cases (request_of c x.0.tcom n place session (plays_again program c x.0 (take place (map (λ g. g.value) (values_of (log_at logs c) n))))) (packets.OpReply x.0.tcom c n place session value ∷ []) p x.2)
      where
        at : (b : Begun) → begun_of program logs w c n ≡ Some b → Contains (request_of c b.tcom n place session (plays_again program c b (take place (map (λ g. g.value) (values_of (log_at logs c) n))))) p ⊎ Contains (packets.OpReply b.tcom c n place session value ∷ []) p → Origin program logs w p
        at b is (inl j) = request-of c n place session value b st is (plays_again program c b (take place (map (λ g. g.value) (values_of (log_at logs c) n)))) refl j
        at b is (inr j) = last (head-or-tail (packets.OpReply b.tcom c n place session value) p [] j)
          where
            last : (packets.OpReply b.tcom c n place session value ≡ p) ⊎ Contains [] p → Origin program logs w p
            last (inl same) = subst (Origin program logs w) same (record { begun = b; stands = st; is_begun = is; is_tcom = refl })
            last (inr l) = empty p l
    by c (Outcome stamp n None) st i =
        let x = flat-has (λ b. map (told_commit c n b.tcom) (decisions_on (log_at logs b.tcom) c n)) (option_to_list (begun_of program logs w c n)) p i in
        let y = map-has (told_commit c n x.0.tcom) (decisions_on (log_at logs x.0.tcom) c n) p x.2 in
        subst (Origin program logs w) y.2 (record { begun = x.0; at = stamp; stamp = y.0; stands = st; is_begun = option-has (begun_of program logs w c n) x.0 x.1; is_tcom = refl; decided = y.1; is_decision = refl })
    by c (Outcome stamp n (Some cause)) st i = empty p i
    by c (Input stamp handler args) st i = empty p i
    by c (Released d k) st i = at (head-or-tail (packets.Installed d c k) p [] i)
      where
        at : (packets.Installed d c k ≡ p) ⊎ Contains [] p → Origin program logs w p
        at (inl same) = subst (Origin program logs w) same st
        at (inr j) = empty p j
    by c (Shown m) st i = empty p i
    by c (Checkpoint image) st i = empty p i
    by c (Epoch epoch) st i = empty p i
    by t (Decided stamp c n writes) st i =
        let x = flat-has (asked_commit c t n (values_of (log_at logs c) n)) (option_to_list (after program c (contents_of w c) (before_outcome (log_at logs c) n))) p i in
        let y = option-has (option_map (λ (g : Got). packets.Commit c t n (length (values_of (log_at logs c) n)) g.session x.0.clock) (slice_get (values_of (log_at logs c) n) 0)) p x.2 in
        let z = mapped (λ (g : Got). packets.Commit c t n (length (values_of (log_at logs c) n)) g.session x.0.clock) (slice_get (values_of (log_at logs c) n) 0) p y in
        subst (Origin program logs w) z.2 (record {
          stamp = stamp;
          writes = writes;
          before = x.0;
          first = z.0;
          stands = st;
          is_before = option-has (after program c (contents_of w c) (before_outcome (log_at logs c) n)) x.0 x.1;
          is_first = z.1;
          is_place = refl;
          is_session = refl;
          is_clock = refl;
        })

-- what is told
pub data-told : (program : Program) (logs : Logs) (w : PlainWorld) (c s : ComId) (k : ℕ) (m : Msg) → TakesIt (log_at logs c) s k → sent_by (state_in program logs w s) c k ≡ Some m → Contains (packets_told program logs w) (packets.Data m)
data-told program logs w c s k m (inl x) e = told-keeps program logs w c (Take s k x.0) (packets.Data m) x.1 (map-keeps packets.Data (option_to_list (sent_by (state_in program logs w s) c k)) m (option-keeps (sent_by (state_in program logs w s) c k) m e))
data-told program logs w c s k m (inr x) e = told-keeps program logs w c (TakeWhole s k x.0 x.1 x.2) (packets.Data m) x.3 (map-keeps packets.Data (option_to_list (sent_by (state_in program logs w s) c k)) m (option-keeps (sent_by (state_in program logs w s) c k) m e))

pub reply-told : (program : Program) (logs : Logs) (w : PlainWorld) (c : ComId) (n place : ℕ) (session : Session) (value : ℤ) (b : Begun) → Contains (log_at logs c) (Value n place session value) → begun_of program logs w c n ≡ Some b → Contains (packets_told program logs w) (packets.OpReply b.tcom c n place session value)
reply-told program logs w c n place session value b h e =
    told-keeps program logs w c (Value n place session value) (packets.OpReply b.tcom c n place session value) h
    (flat-keeps (exchange program (log_at logs c) c n place session value) (option_to_list (begun_of program logs w c n)) b (packets.OpReply b.tcom c n place session value) (option-keeps (begun_of program logs w c n) b e)
    (Contains-append_right (request_of c b.tcom n place session (plays_again program c b (take place (map (λ g. g.value) (values_of (log_at logs c) n))))) (packets.OpReply b.tcom c n place session value ∷ []) (packets.OpReply b.tcom c n place session value) (in-head (packets.OpReply b.tcom c n place session value) [])))

pub op-told : (program : Program) (logs : Logs) (w : PlainWorld) (c : ComId) (n place : ℕ) (session : Session) (value : ℤ) (b : Begun) (u : ComId) (q : Request) → Contains (log_at logs c) (Value n place session value) → begun_of program logs w c n ≡ Some b →
    plays_again program c b (take place (map (λ g. g.value) (values_of (log_at logs c) n))) ≡ Asks u q → Contains (packets_told program logs w) (packets.Op c b.tcom n place (session_at place session) q)
op-told program logs w c n place session value b u q h e asks =
    told-keeps program logs w c (Value n place session value) (packets.Op c b.tcom n place (session_at place session) q) h
    (flat-keeps (exchange program (log_at logs c) c n place session value) (option_to_list (begun_of program logs w c n)) b (packets.Op c b.tcom n place (session_at place session) q) (option-keeps (begun_of program logs w c n) b e)
    (Contains-append_left (request_of c b.tcom n place session (plays_again program c b (take place (map (λ g. g.value) (values_of (log_at logs c) n))))) (packets.OpReply b.tcom c n place session value ∷ []) (packets.Op c b.tcom n place (session_at place session) q)
    (subst (λ r. Contains (request_of c b.tcom n place session r) (packets.Op c b.tcom n place (session_at place session) q)) (sym asks) (in-head (packets.Op c b.tcom n place (session_at place session) q) []))))

pub outcome-told : (program : Program) (logs : Logs) (w : PlainWorld) (c : ComId) (n at stamp : ℕ) (b : Begun) → Contains (log_at logs c) (Outcome at n None) → begun_of program logs w c n ≡ Some b → Contains (decisions_on (log_at logs b.tcom) c n) stamp → Contains (packets_told program logs w) (packets.Outcome b.tcom c n 0 None (Committed stamp))
outcome-told program logs w c n at stamp b h e d =
    told-keeps program logs w c (Outcome at n None) (told_commit c n b.tcom stamp) h
    (flat-keeps (λ x. map (told_commit c n x.tcom) (decisions_on (log_at logs x.tcom) c n)) (option_to_list (begun_of program logs w c n)) b (told_commit c n b.tcom stamp) (option-keeps (begun_of program logs w c n) b e) (map-keeps (told_commit c n b.tcom) (decisions_on (log_at logs b.tcom) c n) stamp d))

pub installed-told : (program : Program) (logs : Logs) (w : PlainWorld) (c d : ComId) (k : ℕ) → Contains (log_at logs c) (Released d k) → Contains (packets_told program logs w) (packets.Installed d c k)
installed-told program logs w c d k h = told-keeps program logs w c (Released d k) (packets.Installed d c k) h (in-head (packets.Installed d c k) [])

pub commit-told : (program : Program) (logs : Logs) (w : PlainWorld) (c t : ComId) (n stamp : ℕ) (writes : List (ℕ × ℤ)) (h : Hist) (g : Got) → Contains (log_at logs t) (Decided stamp c n writes) → after program c (contents_of w c) (before_outcome (log_at logs c) n) ≡ Some h → slice_get (values_of (log_at logs c) n) 0 ≡ Some g →
    Contains (packets_told program logs w) (packets.Commit c t n (length (values_of (log_at logs c) n)) g.session h.clock)
commit-told program logs w c t n stamp writes h g st is first =
    told-keeps program logs w t (Decided stamp c n writes) (packets.Commit c t n (length (values_of (log_at logs c) n)) g.session h.clock) st
    (flat-keeps (asked_commit c t n (values_of (log_at logs c) n)) (option_to_list (after program c (contents_of w c) (before_outcome (log_at logs c) n))) h (packets.Commit c t n (length (values_of (log_at logs c) n)) g.session h.clock)
    (option-keeps (after program c (contents_of w c) (before_outcome (log_at logs c) n)) h is)
    (option-keeps (option_map (λ (z : Got). packets.Commit c t n (length (values_of (log_at logs c) n)) z.session h.clock) (slice_get (values_of (log_at logs c) n) 0)) (packets.Commit c t n (length (values_of (log_at logs c) n)) g.session h.clock) (ap (option_map (λ (z : Got). packets.Commit c t n (length (values_of (log_at logs c) n)) z.session h.clock)) first)))
