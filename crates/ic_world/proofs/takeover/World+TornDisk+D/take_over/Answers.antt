use Rattle.std.proofs.Common.{◌∙◌, ap, subst, refl, true, false, rules, arith}
use Rattle.std.specs.Prelude.{slice_get, slice_set}
use Rattle.def_standby.specs.Standbys.{contents_among}
use Rattle.ic_ckpt.specs.Views.{seen}
use Rattle.ic_node.specs.DeviceCalls.{MakesLoad, made_at}
use Rattle.ic_node.specs.TakingOver.{TakesOver, FailsToTakeOver}
use Rattle.ic_node.specs.Views.{com_of}
use Rattle.ic_world.proofs.Acts.{at-place, still-placed, still-logs, keeps-others, of-both}
use Rattle.ic_world.proofs.Lists.{get-within, same-com}
use Rattle.ic_world.proofs.TakeOvers.{place, down-at, arisen, takes-on, stays-explained, takes-durable, leaves-them, leaves-sound}
use Rattle.ic_world.proofs.takeover.World+TornDisk+D.take_over.Goals as goal

pub index_mut-requires : goal.index_mut-requires
index_mut-requires g c =
    let p = place c.args.self.now c.args.c c.requires.down in
    omega (arith, c.from.ensures, get-within c.args.self.now.components.items c.args.c.0 p.0 p.1, c.args.self.now.components.ok)

pub takes_over-requires-clause-going : goal.takes_over-requires-clause-going
takes_over-requires-clause-going g c =
    let p = place c.args.self.now c.args.c c.requires.down in
    let at = at-place c.args.self.now.components.items c.args.c.0 c.from.result p.0 c.index_mut.result.now p.1 c.from.ensures c.index_mut.ensures.value in
    (c.args.self.now.placed c.requires.world.going c.args.c.0 c.index_mut.result.now at).1

pub takes_over-requires-clause-down : goal.takes_over-requires-clause-down
takes_over-requires-clause-down g c =
    let p = place c.args.self.now c.args.c c.requires.down in
    let at = at-place c.args.self.now.components.items c.args.c.0 c.from.result p.0 c.index_mut.result.now p.1 c.from.ensures c.index_mut.ensures.value in
    down-at c.args.self.now c.args.c c.requires.down c.index_mut.result.now at

pub takes_over-requires-clause-limits : goal.takes_over-requires-clause-limits
takes_over-requires-clause-limits g c = (arisen c.args.program.now c.args.c (seen c.args.state) c.requires.world.few c.requires.arises).0

pub takes_over-requires-clause-peers : goal.takes_over-requires-clause-peers
takes_over-requires-clause-peers g c = (arisen c.args.program.now c.args.c (seen c.args.state) c.requires.world.few c.requires.arises).1

pub invariant_of-self : goal.invariant_of-self
invariant_of-self g c =
    let w = c.args.self.now in
    let xs = w.components.items in
    let p = place w c.args.c c.requires.down in
    let at = at-place xs c.args.c.0 c.from.result p.0 c.index_mut.result.now p.1 c.from.ensures c.index_mut.ensures.value in
    let over = (c.in-Ok.ensures {u = tt}).step in
    record {
      few = search rules;
      receipts = w.receipts;
      plays = search rules;
      placed = λ going. still-placed xs c.from.result c.index_mut.result.now c.takes_over.new.self (ap (slice_get xs) c.from.ensures ∙ at) (w.placed c.requires.world.going) over.goes_on.same over.goes_on.open_still;
      logs = λ going. still-logs xs c.from.result c.index_mut.result.now c.takes_over.new.self (ap (slice_get xs) c.from.ensures ∙ at) w.fingerprint (w.placed c.requires.world.going c.from.result c.index_mut.result.now (ap (slice_get xs) c.from.ensures ∙ at)).0 (w.logs c.requires.world.going) c.takes_over.ensures.disk over.goes_on;
      counted = λ going. w.counted c.requires.world.going;
    }

pub returns-in-Ok-clause-step : goal.returns-in-Ok-clause-step
returns-in-Ok-clause-step g c =
    let w = c.args.self.now in
    let xs = w.components.items in
    let p = place w c.args.c c.requires.down in
    let x = c.index_mut.result.now in
    let at = at-place xs c.args.c.0 c.from.result p.0 x p.1 c.from.ensures c.index_mut.ensures.value in
    let which = same-com (com_of x) c.args.c (w.placed c.requires.world.going c.args.c.0 x at).0 in
    let v = seen c.args.state in
    let y = c.takes_over.new.self in
    let over = subst (λ k. TakesOver c.args.program.now x (contents_among k c.args.msgs.now) v c.args.have y c.in-Ok.played) which (c.in-Ok.ensures {u = tt}).step in
    takes-on c.args.program.now w _ c.args.c x y at (ap (λ i. slice_set xs i y) c.from.ensures) (λ ns. refl) c.requires.down (contents_among c.args.c c.args.msgs.now) v c.args.have c.in-Ok.played over which
    c.takes_over.ensures.disk refl (w.logs c.requires.world.going) refl c.saturating_add-self.ensures refl c.requires.world.made c.requires.arises

pub returns-in-Ok-clause-others : goal.returns-in-Ok-clause-others
returns-in-Ok-clause-others g c =
    let w = c.args.self.now in
    let xs = w.components.items in
    let p = place w c.args.c c.requires.down in
    let at = at-place xs c.args.c.0 c.from.result p.0 c.index_mut.result.now p.1 c.from.ensures c.index_mut.ensures.value in
    keeps-others w _ c.args.c c.index_mut.result.now c.takes_over.new.self at (ap (λ i. slice_set xs i c.takes_over.new.self) c.from.ensures) refl c.takes_over.ensures.disk

pub returns-in-Ok-clause-crash : goal.returns-in-Ok-clause-crash
returns-in-Ok-clause-crash g c =
    let w = c.args.self.now in
    let xs = w.components.items in
    let law = g.met.D.Disk in
    let p = place w c.args.c c.requires.down in
    let at = at-place xs c.args.c.0 c.from.result p.0 c.index_mut.result.now p.1 c.from.ensures c.index_mut.ensures.value in
    leaves-them g.D.Disk law.only_now law.keeping_tells c.args.program.now w _ c.args.c (w.placed c.requires.world.going) (returns-in-Ok-clause-others g c) c.index_mut.result.now c.takes_over.new.self at (ap (λ i. slice_set xs i c.takes_over.new.self) c.from.ensures) c.takes_over.ensures.crash

pub returns-in-Ok-clause-sound : goal.returns-in-Ok-clause-sound
returns-in-Ok-clause-sound g c =
    let w = c.args.self.now in
    let law = g.met.D.Disk in
    leaves-sound g.D.Disk law.only_now law.keeping_tells c.args.program.now w _ c.args.c (w.placed c.requires.world.going) (returns-in-Ok-clause-others g c) c.requires.world.made (returns-in-Ok-clause-crash g c)

pub returns-in-Ok-clause-durable : goal.returns-in-Ok-clause-durable
returns-in-Ok-clause-durable g c = takes-durable c.args.program.now c.args.self.now _ c.args.c (contents_among c.args.c c.args.msgs.now) (seen c.args.state) c.args.have c.in-Ok.played (returns-in-Ok-clause-step g c)

pub returns-in-Ok-clause-explained : goal.returns-in-Ok-clause-explained
returns-in-Ok-clause-explained g c =
    stays-explained c.args.program.now c.args.self.now _ c.args.c (contents_among c.args.c c.args.msgs.now) (seen c.args.state) c.args.have c.in-Ok.played (returns-in-Ok-clause-step g c) c.requires.pcom

pub returns-in-Err-clause-others : goal.returns-in-Err-clause-others
returns-in-Err-clause-others g c =
    let w = c.args.self.now in
    let xs = w.components.items in
    let p = place w c.args.c c.requires.down in
    let at = at-place xs c.args.c.0 c.from.result p.0 c.index_mut.result.now p.1 c.from.ensures c.index_mut.ensures.value in
    keeps-others w _ c.args.c c.index_mut.result.now c.takes_over.new.self at (ap (λ i. slice_set xs i c.takes_over.new.self) c.from.ensures) refl c.takes_over.ensures.disk

pub returns-in-Err-clause-crash : goal.returns-in-Err-clause-crash
returns-in-Err-clause-crash g c =
    let w = c.args.self.now in
    let xs = w.components.items in
    let law = g.met.D.Disk in
    let p = place w c.args.c c.requires.down in
    let at = at-place xs c.args.c.0 c.from.result p.0 c.index_mut.result.now p.1 c.from.ensures c.index_mut.ensures.value in
    leaves-them g.D.Disk law.only_now law.keeping_tells c.args.program.now w _ c.args.c (w.placed c.requires.world.going) (returns-in-Err-clause-others g c) c.index_mut.result.now c.takes_over.new.self at (ap (λ i. slice_set xs i c.takes_over.new.self) c.from.ensures) c.takes_over.ensures.crash

pub returns-in-Err-clause-sound : goal.returns-in-Err-clause-sound
returns-in-Err-clause-sound g c =
    let w = c.args.self.now in
    let law = g.met.D.Disk in
    leaves-sound g.D.Disk law.only_now law.keeping_tells c.args.program.now w _ c.args.c (w.placed c.requires.world.going) (returns-in-Err-clause-others g c) c.requires.world.made (returns-in-Err-clause-crash g c)

pub returns-in-Err-clause-refused : goal.returns-in-Err-clause-refused
returns-in-Err-clause-refused g c =
    let w = c.args.self.now in
    let xs = w.components.items in
    let p = place w c.args.c c.requires.down in
    let x = c.index_mut.result.now in
    let at = at-place xs c.args.c.0 c.from.result p.0 x p.1 c.from.ensures c.index_mut.ensures.value in
    let which = same-com (com_of x) c.args.c (w.placed c.requires.world.going c.args.c.0 x at).0 in
    let y = c.takes_over.new.self in
    record {
      before = x;
      now = y;
      node_why = c.in-Err.why;
      at = at;
      set = ap (λ i. slice_set xs i y) c.from.ensures;
      is = c.refusal.ensures;
      fails = subst (λ k. FailsToTakeOver g.D.Disk c.args.program.now w.fingerprint x (contents_among k c.args.msgs.now) (seen c.args.state) c.args.have y c.in-Err.why) which (c.in-Err.ensures {u = tt}).refused;
      ends = refl;
    }

pub returns-in-Ok-clause-calls : goal.returns-in-Ok-clause-calls
returns-in-Ok-clause-calls g c =
    let w = c.args.self.now in
    let xs = w.components.items in
    let p = place w c.args.c c.requires.down in
    let x = c.index_mut.result.now in
    let at = at-place xs c.args.c.0 c.from.result p.0 x p.1 c.from.ensures c.index_mut.ensures.value in
    let y = c.takes_over.new.self in
    of-both xs _ c.args.c.0 x y at (ap (λ i. slice_set xs i y) c.from.ensures) (λ v z. MakesLoad true (made_at v) (made_at z)) (c.in-Ok.ensures {u = tt}).calls

pub returns-in-Err-clause-calls : goal.returns-in-Err-clause-calls
returns-in-Err-clause-calls g c =
    let w = c.args.self.now in
    let xs = w.components.items in
    let p = place w c.args.c c.requires.down in
    let x = c.index_mut.result.now in
    let at = at-place xs c.args.c.0 c.from.result p.0 x p.1 c.from.ensures c.index_mut.ensures.value in
    let y = c.takes_over.new.self in
    of-both xs _ c.args.c.0 x y at (ap (λ i. slice_set xs i y) c.from.ensures) (λ v z. MakesLoad false (made_at v) (made_at z)) (c.in-Err.ensures {u = tt}).calls
