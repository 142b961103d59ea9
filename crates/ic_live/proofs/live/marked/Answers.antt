use Rattle.std.proofs.Common.{◌∙◌, refl, subst, inl}
use Rattle.ic_live.specs.Berthed.{list_of}
use Rattle.ic_live.specs.Ended.{MayMoor}
use Rattle.ic_live.specs.Faults.{faults_at}
use Rattle.ic_live.specs.Grids.{IsGrid, lane_at}
use Rattle.ic_live.proofs.Moorings.{lanes-are, faults-now}
use Rattle.ic_live.proofs.live.marked.Goals as goal

pub staged-requires-clause-may : goal.staged-requires-clause-may
staged-requires-clause-may g c κs within =
    let may : MayMoor c.args.program.now c.args.fingerprint.now (λ z. list_of z c.args.plan.now) (lane_at c.in-Some.outs) (faults_at c.args.components) g.M.Mark.honest c.args.components c.in-Some.outs c.in-Some.ins c.args.plan.now = record {
      playable = c.requires.playable;
      flat = c.requires.flat;
      bytes = c.requires.bytes;
      started = c.requires.started;
      told = c.requires.told;
      since = faults-now c.args.components;
      lists = λ z. refl;
      events_are = c.requires.plan;
      count = c.in-Some.ensures.count ∙ c.len.ensures;
      grid = subst (λ n. IsGrid n c.in-Some.outs c.in-Some.ins) c.len.ensures c.in-Some.ensures.grid;
      lanes = lanes-are c.in-Some.outs;
    } in
    may

pub returns-in_default-clause-refused : goal.returns-in_default-clause-refused
returns-in_default-clause-refused g c = inl c.out_of_memory.ensures
