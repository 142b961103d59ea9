use Rattle.std.proofs.Common.{◌∙◌, ◌++◌, ◌∷◌, [], ap, option_and_then, Option, None, ℕ}
use Rattle.def_state.specs.Fits.{failed_line}
use Rattle.def_state.specs.Hist.{hand_plays}
use Rattle.ic_base.specs.declared.record.Record.{Record}
use Rattle.ic_replay.specs.declared.prepared.Prepared.{Prepared}
use Rattle.ic_ckpt.specs.Views.{seen}
use Rattle.ic_replay.specs.Preparing.{preparation}
use Rattle.ic_pcom.proofs.InTurn.{played-first}
use Rattle.ic_pcom.proofs.transactions.fails_with.Goals as goal

pub returns : goal.returns
returns c n place session value is =
    let failed : Prepared → Option ℕ = λ p. option_and_then failed_line p.played in
    let prepared : Record → Prepared = λ r. preparation c.args.program.now c.args.com None (seen c.args.state.now) r in
    c.failed_line.ensures
    ∙ ap failed c.in_ok-prepared.ensures.prepared
    ∙ ap (λ r. failed (prepared r)) is
    ∙ played-first (hand_plays c.args.program.now c.args.com c.args.state.now.vars (c.args.state.now.answers ++ value ∷ [])) failed_line c.args.state.now.hand
