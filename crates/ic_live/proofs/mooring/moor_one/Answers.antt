use Rattle.std.proofs.Common.{◌≡◌, List, sym, ap, subst, ◌∙◌}
use Rattle.ic_base.specs.declared.events.Event.{Event}
use Rattle.ic_base.specs.declared.messages.ComId.{ComId}
use Rattle.ic_live.specs.Berthed.{berthed, list_of}
use Rattle.ic_live.specs.Berths.{BeginsBerth}
use Rattle.ic_node.specs.Views.{com_of}
use Rattle.ic_live.proofs.mooring.moor_one.Goals as goal

pub new-requires-clause-begins : goal.new-requires-clause-begins
new-requires-clause-begins g c =
    let N = g.N.Scene in
    let peers : c.in_ok-peers.peers.items ≡ berthed N.program = c.in_ok-peers.ensures.peers ∙ ap berthed c.requires.program in
    let events : c.in_ok-peers.events ≡ list_of (com_of c.args.component) c.args.plan.now = c.in_ok-peers.ensures.list ∙ ap (λ z. list_of z c.args.plan.now) c.com.ensures in
    let P : List ComId × List Event → Type 0 = λ z. BeginsBerth N.program N.fingerprint N.plan N.lane N.began g.M.Mark.honest c.args.place c.args.component z.0 c.args.ins.items c.args.outs.items z.1 in
    subst P (λ i. (sym peers i, sym events i)) c.requires.begins
