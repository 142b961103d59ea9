use Rattle.std.proofs.Common.{◌∙◌, ◌++◌, ◌∷◌, ◌+◌, [], ap, sym, subst, List}
use Rattle.ic_base.specs.declared.record.Record.{Record}
use Rattle.ic_base.specs.declared.record.Record.TheVariants.{Epoch}
use Rattle.def_state.specs.Names.{Numbers}
use Rattle.def_step.specs.Tcom.{Tcom, Book, Verdict, greatest_decided}
use Rattle.ic_tcom.specs.EngineState.{EngineState, Keeps, over}
use Rattle.ic_tcom.specs.Last.{verdicts_in}
use Rattle.ic_tcom.proofs.Decisions.{epoch_adds_none, held_in_epoch}
use Rattle.ic_tcom.proofs.engine.Engine.in_next_epoch.Goals as goal

-- a Tcom without a session
abbrev opened : List Record → Book → Numbers → List Verdict → Tcom
opened log b least decided = record { records = log; book = record b { decided = decided }; counter = 0; sittings = []; least = least }

pub returns-clause-next : goal.returns-clause-next
returns-clause-next c = λ log same.
    let b = c.args.book.held in
    let rs = log ++ Epoch (b.epoch + 1) ∷ [] in
    ap (over rs) c.with_book.ensures
    ∙ ap (λ (k : Book). opened rs k c.in_next_epoch-kept.result.1.held (verdicts_in rs)) c.in_next_epoch-kept.ensures.rest
    ∙ ap (λ l. opened rs (record b { epoch = b.epoch + 1 }) l (verdicts_in rs)) c.in_next_epoch-kept.ensures.least
    ∙ ap (opened rs (record b { epoch = b.epoch + 1 }) (greatest_decided b.decided)) (epoch_adds_none log (b.epoch + 1) ∙ same)

pub returns-clause-keeps : goal.returns-clause-keeps
returns-clause-keeps c = λ log same.
    let b = c.args.book.held in
    let e : EngineState = record { book = c.in_next_epoch-kept.result.0.held; counter = 0; sittings = []; least = c.in_next_epoch-kept.result.1.held } in
    let K : EngineState → Type 0 = Keeps (log ++ Epoch (b.epoch + 1) ∷ []) in
    subst K (sym c.with_book.ensures) (held_in_epoch log (b.epoch + 1) b.decided e same c.in_next_epoch-kept.ensures.last)
