use Rattle.def_play.specs.Playing.{played_all}
use Rattle.ic_eval.proofs.Wholes.{whole_where_ready, ready_where_whole}
use Rattle.ic_eval.proofs.laws.is_whole_where_ready.Goals as goal

pub returns-clause-whole : goal.returns-clause-whole
returns-clause-whole c = whole_where_ready

pub returns-clause-ready : goal.returns-clause-ready
returns-clause-ready c stmts vars args done ledger t x is = ready_where_whole (played_all stmts vars args done) ledger t x is
