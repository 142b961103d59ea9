use Rattle.std.proofs.Common.{◌∙◌, sym, subst, List}
use Rattle.ic_base.specs.declared.record.Record.{Record}
use Rattle.ic_tcom.specs.Cores.{KeepsDecisions}
use Rattle.ic_tcom.proofs.tcom.Tcom.drop_bytes.Goals as goal

pub invariant_of-self : goal.invariant_of-self
invariant_of-self g c =
    let p = c.args.self.now in
    let e = c.drop_bytes.ensures in
    let KeepsAll : List Record → Type 0 = λ l. KeepsDecisions (record p.core { records = l }) in
    record {
      on_disk = λ told up. p.on_disk told up ∙ sym e;
      whole = p.whole;
      durable = p.durable;
      settled = p.settled;
      keeps = subst KeepsAll (sym e) p.keeps;
      forced = p.forced;
    }
