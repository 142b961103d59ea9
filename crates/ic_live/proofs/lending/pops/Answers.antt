use Rattle.std.proofs.Common.{◌≡◌, refl, sym, subst, List, [], Option, None}
use Rattle.ic_base.specs.declared.events.What.{What}
use Rattle.def_live.specs.Turns.{Pop, PopUnless, brought}
use Rattle.ic_live.specs.Ends.{ArePopped, others}
use Rattle.ic_live.proofs.Pops.{popped-none}
use Rattle.ic_live.proofs.lending.pops.Goals as goal

pub returns-in-Some-clause-pops : goal.returns-in-Some-clause-pops
returns-in-Some-clause-pops g c =
    let P : Option What → Type 0 = λ o. (pops : List Pop) × PopUnless o c.args.c (others c.args.c c.args.peers.now) pops × (brought c.args.c pops ≡ None) × ArePopped c.args.peers.now c.args.ins.now.items c.args.ins.now.items pops in
    subst P (sym c.in-Some.is) ([], refl, refl, popped-none c.args.peers.now c.args.ins.now.items)

pub returns-in-None-clause-pops : goal.returns-in-None-clause-pops
returns-in-None-clause-pops g c =
    let P : Option What → Type 0 = λ o. (pops : List Pop) × PopUnless o c.args.c (others c.args.c c.args.peers.now) pops × (brought c.args.c pops ≡ c.first_of.result) × ArePopped c.args.peers.now c.args.ins.now.items c.first_of.new.ins.items pops in
    subst P (sym c.in-None.is) c.first_of.ensures.pops
