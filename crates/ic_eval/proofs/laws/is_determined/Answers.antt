use Rattle.std.proofs.Common.{ap, sym, ◌∙◌}
use Rattle.def_play.specs.Playing.{played_all}
use Rattle.ic_eval.proofs.Surplus.{asks_before}
use Rattle.ic_eval.proofs.laws.is_determined.Goals as goal

pub returns : goal.returns
returns c stmts vars args done now other n t q alike asks =
    let first = asks_before stmts vars args done now n t q asks in
    (first.0, (first.1.0, (first.1.1, ap (played_all stmts vars args done) (sym alike) ∙ first.1.1)))
