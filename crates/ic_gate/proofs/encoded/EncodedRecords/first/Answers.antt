use Rattle.std.proofs.Common.{◌≡◌, ◌∙◌, sym, ap, subst, List, take, map}
use Rattle.std.specs.Prelude.{Option, IfSome}
use Rattle.ic_base.specs.declared.record.Record.{Record}
use Rattle.ic_gate.specs.Encoding.{kind_of}
use Rattle.ic_gate.proofs.Encodings.{kinds_first, some_kept}
use Rattle.ic_gate.proofs.encoded.EncodedRecords.first.Goals.{in-Some, in-None}
use Rattle.ic_gate.proofs.encoded.EncodedRecords.first.Goals as goal

pub invariant_of-result : goal.invariant_of-result
invariant_of-result c =
    let n = c.args.n in
    let rs = c.self.inside.list.list in
    let Kept : Option (List Record) → Type 0 = λ spelled. IfSome spelled (λ all. all ≡ c.first-list.result.list) in
    record {
      kinds_are = c.from_vec.ensures ∙ c.truncate.ensures.items ∙ ap (take n) (c.into_vec-kinds.ensures ∙ c.self.invariant.kinds_are) ∙ kinds_first n rs ∙ ap (map kind_of) (sym c.first-list.ensures);
      spelled_are = elim c.match-self.branch [
        | in-Some w ↦ subst Kept (sym w.spelled-is) ((rw w.in-Some.is at w.first.ensures) ∙ ap (take n) (some_kept c.self.inside.spelled rs w.in-Some.all c.self.invariant.spelled_are w.in-Some.is) ∙ sym c.first-list.ensures)
        | in-None w ↦ subst Kept (sym w.spelled-is) tt
      ];
    }
