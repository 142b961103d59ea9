use Rattle.std.proofs.Common.{◌∙◌, ◌++◌, ap}
use Rattle.def_client.specs.Clients.{request_words}
use Rattle.def_report.specs.Words.{stop_words}
use Rattle.ic_report.specs.Said.{said}
use Rattle.ic_report.proofs.Saying.{said-joined, item-said}
use Rattle.ic_report.proofs.whats.add_item.Goals as goal

pub returns : goal.returns
returns c =
    let event = c.args.event.now in
    let i = c.in-Input in
    said-joined _ c.add_request.new.out.items _ (request_words c.args.program.now (record { who = i.c; handler = i.handler; args = i.args }) i.args) (stop_words event.stop)
    c.in_ok-add_request.ensures c.in_ok-add_stop.ensures
    ∙ ap (λ ws. said c.args.out.now.items ws) (item-said c.args.program.now event i.c i.handler i.args i.is)
