-- The step of a Tcom keeps the world explained.
use Rattle.std.proofs.Common.{◌≡◌, refl, ◌∙◌, ap, sym, subst, ℕ, ◌+◌, ◌<◌, max, Bool, true, false, cond, ℤ, List, [], ◌∷◌, ◌++◌, length, Option, Some, None, option_map, ◌⊎◌, inl, inr, ⊎_elim, arith}
use Rattle.std.specs.Prelude.{Contains, IsTrue, IsSome, slice_get}
use Rattle.std.proofs.lemmas.List.Elements.{Contains-append_cases}
use Rattle.std.proofs.lemmas.Option.{same_Some}
use Rattle.ic_base.specs.declared.messages.AbortCause.{AbortCause}
use Rattle.ic_base.specs.declared.messages.ComId.{ComId}
use Rattle.ic_base.specs.declared.messages.Kind.{Kind}
use Rattle.ic_base.specs.declared.messages.Kind.TheVariants as kinds
use Rattle.ic_base.specs.declared.messages.Request.{Request}
use Rattle.ic_base.specs.declared.messages.Session.{Session}
use Rattle.ic_base.specs.declared.messages.Packet.{Packet}
use Rattle.ic_base.specs.declared.messages.Packet.TheVariants as packets
use Rattle.ic_base.specs.declared.scenario.Component.{Component}
use Rattle.ic_base.specs.declared.scenario.Program.{Program}
use Rattle.ic_base.specs.declared.record.Record.{Record}
use Rattle.ic_base.specs.declared.record.Record.TheVariants as records
use Rattle.ic_base.specs.Programs.{same_com, is_a_pcom, is_a_tcom, is_tcom, declares}
use Rattle.def_step.specs.Packets.{sender_of, receiver_of}
use Rattle.def_step.specs.Tcom.{Tcom, Served, Book, book, book_of, first_book, tcom_step}
use Rattle.def_step.specs.World.{Serves}
use Rattle.def_facts.specs.Logs.{Logs, log_at, IsConsistent, contents_in, before_outcome}
use Rattle.def_facts.specs.Pcom.{state_after, begun_in, IsAsked, IsReady, IsCommittingAt, PcomLogFacts}
use Rattle.def_facts.specs.Tcom.{TcomLogFacts}
use Rattle.def_facts.specs.Live.{HasReply}
use Rattle.def_facts.specs.World.{Past, LogsExplained, is_of_kind, kind_of}
use Rattle.law_sound.specs.Order.{Explains}
use Rattle.law_replay.proofs.Lists.{none-some, true-false, contains-split, some-of, open-content, same-com}
use Rattle.law_replay.proofs.Places.{committing-placed}
use Rattle.law_replay.proofs.Records.{book-none, book-twice}
use Rattle.law_replay.proofs.Receiving.{pcoms_receive, tcoms_receive}
use Rattle.law_sound.proofs.Decisions.{values-were-received}
use Rattle.law_sound.proofs.Sent.{by-pcom}
use Rattle.law_tcom.specs.Engine.{Asks}
use Rattle.law_tcom.proofs.Leaves.{step-leaves}
use Rattle.law_step.proofs.Ordering.{all-explained}
use Rattle.law_step.proofs.PcomSteps.{consistent}

-- a node of a Tcom is that of a declared one
pub serves-tcom : (program : Program) (c : ComId) (x : Tcom) → is_of_kind (kind_of program c) (Some (Serves x)) ≡ true → is_a_tcom program c ≡ true
serves-tcom program c x e = at (slice_get program.components c.0) e
  where
    by : (k : Kind) → is_of_kind (Some k) (Some (Serves x)) ≡ true → is_tcom k ≡ true
    by kinds.Pcom f = true-false f
    by kinds.Tcom f = refl
    by kinds.Xcom f = true-false f

    at : (o : Option Component) → is_of_kind (option_map (λ d. d.kind) o) (Some (Serves x)) ≡ true → declares (λ d. is_tcom d.kind) o ≡ true
    at None f = true-false f
    at (Some d) f = by d.kind f

pub serving-stays : (x y : Tcom) (k : Option Kind) → is_of_kind k (Some (Serves x)) ≡ true → is_of_kind k (Some (Serves y)) ≡ true
serving-stays x y None e = true-false e
serving-stays x y (Some kinds.Pcom) e = true-false e
serving-stays x y (Some kinds.Tcom) e = refl
serving-stays x y (Some kinds.Xcom) e = true-false e

-- what a step adds: nothing, or one decision
abbrev pub AddsOne : Served → Type 0
AddsOne v = (v.adds ≡ []) ⊎ ((stamp : ℕ) × (c : ComId) × (n : ℕ) × (writes : List (ℕ × ℤ)) × (v.adds ≡ records.Decided stamp c n writes ∷ []))

pub adds-one : (program : Program) (t : ComId) (x : Tcom) (p : Packet) → AddsOne (tcom_step program t x p)
adds-one program t x p = step-leaves program t x p AddsOne (record {
  quiet = inl refl;
  told = λ c n place session stamp asks e least. inl refl;
  dropped = λ c to n e. inl refl;
  first_again = λ c to n q s e least is. inl refl;
  first_held = λ c to n q r e least is. inl refl;
  first_done = λ c to n q e least key free none unheld. inl refl;
  again = λ to place q s e there lt. inl refl;
  held = λ to place q s r e there is. inl refl;
  next = λ to q s e there small key unheld. inl refl;
  older = λ c n place session asks differ free. inl refl;
  committed = λ to place stamp s e there pcom. inr (max x.book.clock stamp + 1, s.peer, s.n, s.writes, refl);
})

-- a log of a Tcom has no outcome
pub no-outcome : {B : Type 0} (program : Program) (t : ComId) (log : List Record) (stamp n : ℕ) (abort : Option AbortCause) → IsSome (book_of program t log) → Contains log (records.Outcome stamp n abort) → B
no-outcome {B} program t log stamp n abort some h =
    let s = contains-split log (records.Outcome stamp n abort) h in
    let g = some-of (book_of program t log) some in
    at s.0 s.1 (book program t (Some (first_book program t)) s.0) refl g.0 (sym (book-twice program t (Some (first_book program t)) s.0 (records.Outcome stamp n abort ∷ s.1)) ∙ ap (book_of program t) (sym s.2) ∙ g.1)
  where
    at : (pre post : List Record) (o : Option Book) → book program t (Some (first_book program t)) pre ≡ o → (g : Book) → book program t (book program t (Some (first_book program t)) pre) (records.Outcome stamp n abort ∷ post) ≡ Some g → B
    at pre post None is g e = none-some g (sym (book-none program t post) ∙ ap (λ u. book program t u (records.Outcome stamp n abort ∷ post)) (sym is) ∙ e)
    at pre post (Some b) is g e = none-some g (sym (book-none program t post) ∙ ap (λ u. book program t u (records.Outcome stamp n abort ∷ post)) (sym is) ∙ e)

-- more is received ------------------------------------------------------------------------------------

pub logs-received : (program : Program) (found forced all : Logs) (past : Past) → LogsExplained program found forced all past → (c : ComId) (got : List Packet) → ((p : Packet) → Contains got p → (receiver_of p ≡ c) × Contains (past.sent (sender_of p)) p) →
    LogsExplained program found forced all (record { sent = past.sent; received = λ e. cond (same_com c e) (past.received e ++ got) (past.received e) })
logs-received program found forced all past f c got got_sent = record {
  one_each = f.one_each;
  found_forced = f.found_forced;
  forced_all = f.forced_all;
  pcoms = λ e is. at_pcom e is (same_com c e) refl;
  tcoms = λ e is. ((f.tcoms e is).0, at_tcom e is (same_com c e));
  others = f.others;
  network = λ e p h. at_net e p (same_com c e) refl h;
  in_order = f.in_order;
  epochs_rise = f.epochs_rise;
}
  where
    at_pcom : (e : ComId) → IsTrue (is_a_pcom program e) → (b : Bool) → same_com c e ≡ b → PcomLogFacts program e (log_at forced e) (log_at all e) (past.sent e) (cond b (past.received e ++ got) (past.received e))
    at_pcom e is true same = pcoms_receive program e (log_at forced e) (log_at all e) (past.sent e) (past.received e) got
        (subst (λ d. IsConsistent (past.received d ++ got)) (same-com c e same) (consistent program found forced all past f c got got_sent)) (f.pcoms e is)
    at_pcom e is false same = f.pcoms e is

    at_tcom : (e : ComId) → IsTrue (is_a_tcom program e) → (b : Bool) → TcomLogFacts program e (length (log_at found e)) (log_at all e) (past.sent e) (cond b (past.received e ++ got) (past.received e))
    at_tcom e is true = tcoms_receive program e (length (log_at found e)) (log_at all e) (past.sent e) (past.received e) got (f.tcoms e is).1
    at_tcom e is false = (f.tcoms e is).1

    at_net : (e : ComId) (p : Packet) (b : Bool) → same_com c e ≡ b → Contains (cond b (past.received e ++ got) (past.received e)) p → (receiver_of p ≡ e) × Contains (past.sent (sender_of p)) p
    at_net e p false same h = let y = f.network e p h in (y.0, y.1)
    at_net e p true same h = ⊎_elim (λ z. let y = f.network e p z in (y.0, y.1)) (λ z. let y = got_sent p z in (y.0 ∙ same-com c e same, y.1)) (Contains-append_cases (past.received e) got p h)

-- the session of what was asked had an answer ---------------------------------------------------------

pub has-reply : (program : Program) (found forced all : Logs) (past : Past) → LogsExplained program found forced all past → (t e : ComId) (n place : ℕ) (session : Session) (p : Packet) → receiver_of p ≡ t → Contains (past.sent (sender_of p)) p → Asks p e n place (Some session) → HasReply (past.sent t) t e n session
has-reply program found forced all past f t e n place session p to sent asks = ⊎_elim op commit asks
  where
    g : Explains program found all past
    g = all-explained program found forced all past f

    first : (xs : List ℤ) → 0 < length xs → (v : ℤ) × (slice_get xs 0 ≡ Some v)
    first [] lt = absurd (omega (arith, lt))
    first (v ∷ xs) lt = (v, refl)

    op : (u : ComId) × (q : Request) × (p ≡ packets.Op e u n place (Some session) q) → HasReply (past.sent t) t e n session
    op x =
        let here : Contains (past.sent e) (packets.Op e t n place (Some session) x.1) =
        subst (λ d. Contains (past.sent e) (packets.Op e d n place (Some session) x.1)) (ap receiver_of (sym x.2) ∙ to) (subst (λ z. Contains (past.sent (sender_of z)) z) x.2 sent)
        in
        let true_of = by-pcom program found all past g e (packets.Op e t n place (Some session) x.1) refl here in
        let b = open-content (IsAsked program e (past.received e) t n place (Some session) x.1) (begun_in program e (past.received e) (log_at all e) n) true_of.1.1 in
        let v = first b.2.0 (omega (arith, b.2.2, b.2.3)) in
        (0, v.0, (f.network e (packets.OpReply t e n 0 session v.0) (b.2.4 0 v.0 v.1)).1)

    commit : (u : ComId) × (s : Session) × (at : ℕ) × (◌≡◌ {A = Option Session} (Some session) (Some s)) × (p ≡ packets.Commit e u n place s at) → HasReply (past.sent t) t e n session
    commit x =
        let same : session ≡ x.1 = same_Some session x.1 x.3 in
        let here : Contains (past.sent e) (packets.Commit e t n place session x.2) =
        subst (λ s. Contains (past.sent e) (packets.Commit e t n place s x.2)) (sym same)
        (subst (λ d. Contains (past.sent e) (packets.Commit e d n place x.1 x.2)) (ap receiver_of (sym x.4) ∙ to) (subst (λ z. Contains (past.sent (sender_of z)) z) x.4 sent))
        in
        let true_of = by-pcom program found all past g e (packets.Commit e t n place session x.2) refl here in
        let b = open-content (IsReady program e (log_at all e) (past.received e) t n place session x.2) (begun_in program e (past.received e) (log_at all e) n) true_of.1.1 in
        let h = open-content (IsCommittingAt t n place session x.2) (state_after program e (past.received e) (before_outcome (log_at all e) n)) b.2.5 in
        let placed = committing-placed program e (contents_in (past.received e)) (before_outcome (log_at all e) n) h.0 t place session h.1 h.2.0 in
        let v = first b.2.0 (omega (arith, placed, b.2.2)) in
        (0, v.0, (f.network e (packets.OpReply t e n 0 session v.0) (values-were-received program found all past g t e n session b.0 b.2.0 true_of.0 b.1 b.2.1 b.2.3 0 v.0 v.1)).1)
