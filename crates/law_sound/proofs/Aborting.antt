-- No transaction is both decided and aborted.
use Rattle.std.proofs.Common.{◌≤◌, ◌≡◌, refl, ◌∙◌, ap, sym, subst, ℕ, ◌<◌, true, false, not, ◌==◌, List, length, take, ℤ, Option, Some, None, option_and_then, arith}
use Rattle.std.specs.Prelude.{Contains, IsTrue}
use Rattle.std.proofs.lemmas.Option.{same_Some}
use Rattle.std.proofs.lemmas.List.Folds.{list_any_at}
use Rattle.ic_base.specs.declared.messages.ComId.{ComId}
use Rattle.ic_base.specs.declared.messages.Session.{Session}
use Rattle.ic_base.specs.declared.messages.Request.{Request}
use Rattle.ic_base.specs.declared.messages.AbortCause.{AbortCause}
use Rattle.ic_base.specs.declared.messages.AbortCause.TheVariants.{Need, Held, Epoch as Epochs}
use Rattle.ic_base.specs.declared.messages.Decision.TheVariants.{Aborted}
use Rattle.ic_base.specs.declared.messages.Packet.{Packet}
use Rattle.ic_base.specs.declared.messages.Packet.TheVariants as packets
use Rattle.ic_base.specs.declared.scenario.Program.{Program}
use Rattle.ic_base.specs.declared.record.Record.{Record}
use Rattle.ic_base.specs.declared.record.Record.TheVariants.{Outcome}
use Rattle.ic_base.specs.Programs.{is_a_tcom}
use Rattle.def_play.specs.Ledger.{answers_on}
use Rattle.def_state.specs.Txn.{Stage, is_idle, is_committing}
use Rattle.def_state.specs.Fits.{may_end, is_number_of}
use Rattle.def_state.specs.Hist.{Hist, standing_of, plays_again}
use Rattle.def_step.specs.Tcom.{Book, book_of}
use Rattle.def_facts.specs.Logs.{Logs, log_at, Stands, contents_in, before, before_outcome, has_commit, commits, epoch_of}
use Rattle.def_facts.specs.Pcom.{state_after, begun_in, IsCommittingAt, IsAsked, PcomLogFacts, is_need, place_of}
use Rattle.def_facts.specs.Tcom.{DecidedFacts, AbortIs}
use Rattle.def_facts.specs.World.{Past}
use Rattle.law_replay.proofs.Ending.{committing_doesnt_fail, Ending, ending, before-ending}
use Rattle.law_replay.proofs.Lists.{back, some-of, open-content, at-some, true-false}
use Rattle.law_sound.specs.Order.{Explains, NoneDecidedAndAborted}
use Rattle.law_sound.proofs.Decisions.{Agreed, agreed, ready-asks}
use Rattle.law_sound.proofs.Sent.{by-pcom}

-- decided and aborted -----------------------------------------------------------------------------

pub has-put : (sent : List Packet) (c t : ComId) (n place : ℕ) (session : Session) (stamp : ℕ) → Contains sent (packets.Commit c t n place session stamp) → has_commit sent n ≡ true
has-put sent c t n place session stamp x = list_any_at (commits n) sent x.0 (packets.Commit c t n place session stamp) x.1 (ap (commits n) x.2 ∙ self n)
  where
    self : (m : ℕ) → (m == m) ≡ true
    self m = grind arith

pub need-no : {B : Type 0} (s : Stage) (failed : Option ℕ) (line : ℕ) → failed ≡ None → may_end s failed (Some (Need line)) ≡ true → B
need-no s failed line e may = true-false (sym (ap (λ o. is_number_of o line) e) ∙ back (not (is_idle s)) (is_number_of failed line) may)

-- what is decided, in the log or by a step, has no abort at its Pcom, where an abort for an older epoch was told in an epoch up to that
pub decided-not-aborted : (program : Program) (found logs : Logs) (past : Past) → Explains program found logs past → (t c : ComId) (pre : List Record) (b : Book) (stamp n : ℕ) (writes : List (ℕ × ℤ)) (before behind : List Record) (at : ℕ) (cause : AbortCause) →
    IsTrue (is_a_tcom program t) → Stands (log_at logs c) before (Outcome at n (Some cause)) behind → (d : DecidedFacts t (length (log_at found t)) (past.sent t) (past.received t) pre b stamp c n writes) →
    ((old now : ℕ) → AbortIs t (log_at logs t) (length (log_at found t)) (past.received t) c n d.place (Some d.session) (Epochs old now) → (length (log_at found t) ≤ length pre) × (now ≤ epoch_of pre)) → ⊥
decided-not-aborted program found logs past f t c pre b stamp n writes before behind at cause is_t ab d last = by cause refl
  where
    x : Agreed program logs past t c n d.place d.session d.asked_at (answers_on b.ledger d.requests) d.requests
    x = agreed program found logs past f t c pre b stamp n writes d

    a : List ℤ
    a = answers_on b.ledger d.requests

    facts : PcomLogFacts program c (log_at logs c) (log_at logs c) (past.sent c) (past.received c)
    facts = f.pcoms c x.pcom

    replays : (g : Hist) × (state_after program c (past.received c) (log_at logs c) ≡ Some g)
    replays = some-of (state_after program c (past.received c) (log_at logs c)) facts.whole.replays

    e : Ending program c (contents_in (past.received c)) before at n (Some cause)
    e = ending program c (contents_in (past.received c)) before behind at n (Some cause) replays.0 (sym (ap (state_after program c (past.received c)) ab) ∙ replays.1)

    here : IsCommittingAt t n d.place d.session d.asked_at e.state
    here =
        at-some (IsCommittingAt t n d.place d.session d.asked_at) (state_after program c (past.received c) (before_outcome (log_at logs c) n)) e.state
        (ap (λ l. state_after program c (past.received c) (before_outcome l n)) ab ∙ ap (state_after program c (past.received c)) (before-ending before behind at n (Some cause) e.first) ∙ e.is_state) x.ready.5

    -- its Tcom had refused what it asked there
    refused : is_need cause ≡ false → AbortIs t (log_at logs t) (length (log_at found t)) (past.received t) c n d.place (Some d.session) cause
    refused no_need =
        let place : option_and_then (λ h. place_of h.stage) (state_after program c (past.received c) before) ≡ Some (record { tcom = t; place = d.place; session = Some d.session }) =
        ap (option_and_then (λ h. place_of h.stage)) e.is_state ∙ ap place_of here.0
        in
        let got : Contains (past.received c) (packets.Outcome t c n d.place (Some d.session) (Aborted cause)) =
        at-some (λ p. Contains (past.received c) (packets.Outcome p.tcom c n p.place p.session (Aborted cause))) (option_and_then (λ h. place_of h.stage) (state_after program c (past.received c) before)) (record { tcom = t; place = d.place; session = Some d.session }) place
        (facts.whole.abort_received before behind n at cause ab no_need (has-put (past.sent c) c t n d.place d.session d.asked_at x.sent))
        in
        (f.tcoms t is_t).1.aborts_are c n d.place (Some d.session) cause (f.network c (packets.Outcome t c n d.place (Some d.session) (Aborted cause)) got).1

    -- a request at the place of the Commit: the part would ask and be ready
    asked : (q : Request) → Contains (past.received t) (packets.Op c t n d.place (Some d.session) q) → ⊥
    asked q op =
        let put = by-pcom program found logs past f c (packets.Op c t n d.place (Some d.session) q) refl (f.network t (packets.Op c t n d.place (Some d.session) q) op).1 in
        let y = at-some (IsAsked program c (past.received c) t n d.place (Some d.session) q) (begun_in program c (past.received c) (log_at logs c) n) x.begun x.is_begun put.1.1 in
        let one : y.0 ≡ take d.place a = x.front y.0 y.4 ∙ ap (λ k. take k a) y.3 in
        let two : x.ready.0 ≡ take d.place a = x.front x.ready.0 x.values ∙ ap (λ k. take k a) x.ready.2 in
        ready-asks t t q (sym x.ready.4 ∙ ap (λ l. plays_again program c x.begun l) (two ∙ sym one) ∙ y.5)

    by : (v : AbortCause) → cause ≡ v → ⊥
    by (Need line) is =
        need-no e.state.stage (standing_of program c e.state).failed line
        (committing_doesnt_fail program c (contents_in (past.received c)) before e.state e.is_state (ap is_committing here.0))
        (subst (λ v. may_end e.state.stage (standing_of program c e.state).failed (Some v) ≡ true) is e.may)
    by (Held holder m) is =
        let y = subst (λ v. AbortIs t (log_at logs t) (length (log_at found t)) (past.received t) c n d.place (Some d.session) v) is (refused (ap is_need is)) in
        asked y.0 y.1
    by (Epochs old now) is =
        let y = subst (λ v. AbortIs t (log_at logs t) (length (log_at found t)) (past.received t) c n d.place (Some d.session) v) is (refused (ap is_need is)) in
        let z = last old now y in
        let same : d.session ≡ y.0 = same_Some d.session y.0 y.1 in
        let epoch : d.session.epoch ≡ epoch_of pre = d.in_epoch z.0 in
        let old_is : old ≡ d.session.epoch = y.2 ∙ ap (λ (s : Session). s.epoch) (sym same) in
        let rise : old < now =
        f.epochs_rise c before behind at n old now (subst (λ v. Stands (log_at logs c) before (Outcome at n (Some v)) behind) is ab) (has-put (past.sent c) c t n d.place d.session d.asked_at x.sent)
        in
        omega (arith, epoch, old_is, rise, z.1)

pub none_decided_and_aborted : NoneDecidedAndAborted
none_decided_and_aborted program found logs past f t c pre post before behind stamp at n writes cause is_t st ab =
    let y = open-content (λ b. DecidedFacts t (length (log_at found t)) (past.sent t) (past.received t) pre b stamp c n writes) (book_of program t pre) ((f.tcoms t is_t).1.decisions pre post stamp c n writes st) in
    decided-not-aborted program found logs past f t c pre y.0 stamp n writes before behind at cause is_t ab y.2 (λ old now a. a.6 pre post stamp writes st)
