-- The step of a Pcom keeps the world explained.
use Rattle.std.proofs.Common.{◌≡◌, refl, ◌∙◌, ap, sym, subst, ℕ, true, false, List, [], ◌∷◌, ◌++◌, Option, Some, None, option_map, is_none, inl, inr, ⊎_elim, arith}
use Rattle.std.specs.Prelude.{Contains, IsSome, slice_get}
use Rattle.std.proofs.lemmas.Bool.{and_parts}
use Rattle.std.proofs.lemmas.List.{append-nil}
use Rattle.std.proofs.lemmas.List.Elements.{Contains-append_left, Contains-append_cases}
use Rattle.std.proofs.lemmas.Option.{same_Some}
use Rattle.ic_base.specs.declared.messages.ComId.{ComId}
use Rattle.ic_base.specs.declared.messages.Decision.{Decision}
use Rattle.ic_base.specs.declared.messages.Kind.{Kind}
use Rattle.ic_base.specs.declared.messages.Kind.TheVariants as kinds
use Rattle.ic_base.specs.declared.messages.Session.{Session}
use Rattle.ic_base.specs.declared.messages.Packet.{Packet}
use Rattle.ic_base.specs.declared.messages.Packet.TheVariants as packets
use Rattle.ic_base.specs.declared.scenario.Component.{Component}
use Rattle.ic_base.specs.declared.scenario.Program.{Program}
use Rattle.ic_base.specs.declared.record.Record.{Record}
use Rattle.ic_base.specs.declared.record.Record.TheVariants as records
use Rattle.ic_base.specs.Programs.{is_a_pcom, is_pcom, declares}
use Rattle.def_state.specs.Fits.{fits, may_take}
use Rattle.def_state.specs.Txn.{Stage, Idle, Waiting as Waits, Answered, Committing, is_idle, is_committing}
use Rattle.def_state.specs.Hist.{Hist, apply, apply_all, standing_of}
use Rattle.def_state.specs.Mirrors.{Mirrors}
use Rattle.def_step.specs.Packets.{sender_of, receiver_of}
use Rattle.def_step.specs.Replay.{waits_for}
use Rattle.def_step.specs.Pcom.{Pcom, all_of}
use Rattle.def_step.specs.World.{Runs}
use Rattle.def_facts.specs.Logs.{Logs, IsConsistent, has_outcome, contents_in}
use Rattle.def_facts.specs.Pcom.{state_after, IsTrueOf, IsAtTake, VolatileFacts}
use Rattle.def_facts.specs.Tcom.{OneOwner}
use Rattle.def_facts.specs.World.{Past, LogsExplained, OutcomesAnswer, is_of_kind, kind_of}
use Rattle.law_replay.proofs.Committing.{hands_are_open, outcomes_close}
use Rattle.law_replay.proofs.Growing.{prefixes_replay, apply_none}
use Rattle.law_replay.proofs.Lists.{none-some, true-false, some-of, open-content, passed}
use Rattle.law_replay.proofs.Members.{found}
use Rattle.law_replay.proofs.Numbers.{sent_are_numbered}
use Rattle.law_sound.proofs.Messages.{one_content}
use Rattle.law_pcom.specs.Stepping.{got}
use Rattle.law_step.proofs.Choices.{IsOpen}

-- a node of a Pcom is that of a declared one
pub runs-pcom : (program : Program) (c : ComId) (p : Pcom) → is_of_kind (kind_of program c) (Some (Runs p)) ≡ true → is_a_pcom program c ≡ true
runs-pcom program c p e = at (slice_get program.components c.0) e
  where
    by : (k : Kind) → is_of_kind (Some k) (Some (Runs p)) ≡ true → is_pcom k ≡ true
    by kinds.Pcom f = refl
    by kinds.Tcom f = true-false f
    by kinds.Xcom f = true-false f

    at : (o : Option Component) → is_of_kind (option_map (λ d. d.kind) o) (Some (Runs p)) ≡ true → declares (λ d. is_pcom d.kind) o ≡ true
    at None f = true-false f
    at (Some d) f = by d.kind f

pub kind-stays : (p q : Pcom) (k : Option Kind) → is_of_kind k (Some (Runs p)) ≡ true → is_of_kind k (Some (Runs q)) ≡ true
kind-stays p q None e = true-false e
kind-stays p q (Some kinds.Pcom) e = refl
kind-stays p q (Some kinds.Tcom) e = true-false e
kind-stays p q (Some kinds.Xcom) e = true-false e

-- the packets -----------------------------------------------------------------------------------------

-- what a Pcom puts out is its own
pub true-sender : (program : Program) (c : ComId) (log : List Record) (received : List Packet) (p : Packet) → IsTrueOf program c log received p → sender_of p ≡ c
true-sender program c log received (packets.Data m) x = let h = open-content (λ (z : Hist). Contains z.sent m) (state_after program c received log) x in (sent_are_numbered program c (contents_in received) log h.0 m h.1 h.2).0
true-sender program c log received (packets.Stable from s k) x = x.0
true-sender program c log received (packets.Installed from s k) x = x.0
true-sender program c log received (packets.Fetch from s k) x = x
true-sender program c log received (packets.Op from t n place session q) x = x.0
true-sender program c log received (packets.OpReply from to n place session value) x = absurd x
true-sender program c log received (packets.Commit from t n place session stamp) x = x.0
true-sender program c log received (packets.Outcome from to n place session decision) x = absurd x
true-sender program c log received (packets.Drop from t n) x = x.0

-- what c has received and gets is of one content for each identity
pub consistent : (program : Program) (found forced all : Logs) (past : Past) → LogsExplained program found forced all past → (c : ComId) (got : List Packet) → ((p : Packet) → Contains got p → (receiver_of p ≡ c) × Contains (past.sent (sender_of p)) p) → IsConsistent (past.received c ++ got)
consistent program found forced all past f c got got_sent m n hm hn from k =
    let x = is (packets.Data m) hm in
    let y = is (packets.Data n) hn in
    one_content program found forced all past f m.from n.from m n x.1 y.1 from (x.0 ∙ sym y.0) k
  where
    is : (p : Packet) → Contains (past.received c ++ got) p → (receiver_of p ≡ c) × Contains (past.sent (sender_of p)) p
    is p h = ⊎_elim (λ z. let y = f.network c p z in (y.0, y.1)) (got_sent p) (Contains-append_cases (past.received c) got p h)

-- more packets, none of which is an answer
pub same-owner : (t : ComId) (xs ys : List Packet) → ((c : ComId) (n i : ℕ) (session : Session) (v : _) → Contains ys (packets.OpReply t c n i session v) → ⊥) → OneOwner t xs → OneOwner t (xs ++ ys)
same-owner t xs ys none x c d n m i j session v w hv hw =
    x c d n m i j session v w (front c n i v hv) (front d m j w hw)
  where
    front : (e : ComId) (k l : ℕ) (u : _) → Contains (xs ++ ys) (packets.OpReply t e k l session u) → Contains xs (packets.OpReply t e k l session u)
    front e k l u h = ⊎_elim (λ z. z) (λ z. absurd (none e k l session u z)) (Contains-append_cases xs ys (packets.OpReply t e k l session u) h)

pub same-answers : (xs ys : List Packet) → ((t c : ComId) (n place : ℕ) (session : Option Session) (d : Decision) → Contains ys (packets.Outcome t c n place session d) → ⊥) → OutcomesAnswer xs → OutcomesAnswer (xs ++ ys)
same-answers xs ys none x t c n place session d h =
    ⊎_elim (λ z. ⊎_elim (λ a. inl (a.0, Contains-append_left xs ys (packets.Op c t n place session a.0) a.1)) (λ b. inr (b.0, b.1, b.2, Contains-append_left xs ys (packets.Commit c t n place b.0 b.1) b.3)) (x t c n place session d z)) (λ z. absurd (none t c n place session d z)) (Contains-append_cases xs ys (packets.Outcome t c n place session d) h)

-- epochs ----------------------------------------------------------------------------------------------

-- a transaction that is committing has no outcome in its log
pub open-unended : (program : Program) (c : ComId) (received : List Packet) (p : Pcom) (n : ℕ) → VolatileFacts program c p received → IsSome (state_after program c received (all_of p.log)) → IsOpen p.vol n → has_outcome (all_of p.log) n ≡ true → ⊥
open-unended program c received p n v some is has = by p.rest refl
  where
    h : (x : Hist) × (state_after program c received v.played ≡ Some x) × Mirrors p.vol x
    h = open-content (Mirrors p.vol) (state_after program c received v.played) v.mirrors

    stage : is_committing h.0.stage ≡ true
    stage = ap (λ z. is_committing z.stage) (sym h.2.txn) ∙ is.0

    begun : h.0.plain.begun ≡ n
    begun = ap (λ z. z.begun) (sym h.2.txn) ∙ is.1

    busy : (s : Stage) → is_committing s ≡ true → is_idle s ≡ false
    busy Idle e = true-false e
    busy (Waits t place r q) e = refl
    busy (Answered t place r q) e = refl
    busy (Committing t place r) e = refl

    closed : (log : List Record) → state_after program c received log ≡ Some h.0 → has_outcome log n ≡ true → ⊥
    closed log e ended = ⊎_elim (λ lt. omega (arith, lt, begun)) (λ y. true-false (sym (busy h.0.stage stage) ∙ y.1)) (outcomes_close program c (contents_in received) log n _ h.0 e ended)

    by : (rest : List Record) → p.rest ≡ rest → ⊥
    by [] e = closed v.played h.1 (subst (λ l. has_outcome l n ≡ true) (v.rest_stands ∙ ap (λ l. v.played ++ l) e ∙ append-nil v.played) has)
    by (r ∷ rs) e =
        let g = some-of (state_after program c received (all_of p.log)) some in
        let y = prefixes_replay program c (contents_in received) v.played (r ∷ rs) g.0 (ap (state_after program c received) (sym (v.rest_stands ∙ ap (λ l. v.played ++ l) e)) ∙ g.1) in
        let same : y.0 ≡ h.0 = same_Some y.0 h.0 (sym y.1 ∙ h.1) in
        takes g.0 r (subst IsAtTake e v.rest_waits).0 (subst (λ z. apply_all program c (contents_in received) (Some z) (r ∷ rs) ≡ Some g.0) same y.2)
      where
        hand : is_none h.0.plain.hand ≡ false
        hand = hands_are_open program c (contents_in received) v.played h.0 h.1 ∙ busy h.0.stage stage

        takes : (u : Hist) (x : Record) → IsSome (waits_for x) → apply_all program c (contents_in received) (Some h.0) (x ∷ rs) ≡ Some u → ⊥
        takes u (records.Take s k stamp) waits f = at (apply program c (contents_in received) h.0 (records.Take s k stamp)) refl f
          where
            at : (o : Option Hist) → apply program c (contents_in received) h.0 (records.Take s k stamp) ≡ o → apply_all program c (contents_in received) o rs ≡ Some u → ⊥
            at None a b = none-some u (sym (apply_none program c (contents_in received) rs) ∙ b)
            at (Some z) a b =
                let q = passed (fits program c (standing_of program c h.0) (records.Take s k stamp)) _ z a in
                true-false (sym hand ∙ (and_parts (is_none h.0.plain.hand) _ (and_parts _ (may_take program c (standing_of program c h.0) false s k) q.0).1).0)
        takes u (records.TakeWhole s k stamp handler args) waits f = true-false waits
        takes u (records.Input stamp handler args) waits f = true-false waits
        takes u (records.Value m place session value) waits f = true-false waits
        takes u (records.Outcome stamp m abort) waits f = true-false waits
        takes u (records.Released to k) waits f = true-false waits
        takes u (records.Shown m) waits f = true-false waits
        takes u (records.Checkpoint image) waits f = true-false waits
        takes u (records.Epoch epoch) waits f = true-false waits
        takes u (records.Decided stamp d m writes) waits f = true-false waits
