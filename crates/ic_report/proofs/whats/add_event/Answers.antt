use Rattle.def_report.specs.Words.{what_words, stop_words}
use Rattle.ic_report.proofs.Saying.{said-joined}
use Rattle.ic_report.proofs.whats.add_event.Goals as goal

pub returns : goal.returns
returns c =
    let event = c.args.event.now in
    said-joined _ c.add_what.new.out.items _ (what_words c.args.program.now event.what) (stop_words event.stop)
    c.in_ok-add_what.ensures c.in_ok-add_stop.ensures
