use Rattle.std.proofs.Common.{◌≡◌, ◌∙◌, ap, sym, subst, refl, inl, inr, List, [], ◌∷◌, ℕ}
use Rattle.std.specs.Prelude.{option_copied}
use Rattle.def_report.specs.Faults.{fault_line}
use Rattle.ic_report.specs.Ends.{EndsAs, last_line}
use Rattle.ic_report.specs.Outputs.{FailsToPut}
use Rattle.ic_report.specs.declared.ending.Why.{Why}
use Rattle.ic_report.proofs.Outputs.{fails_one}
use Rattle.ic_report.proofs.ending.end_as.Goals as goal

pub returns : goal.returns
returns g c =
    let e = c.in-Err.ensures {u = tt} in
    let program = option_copied c.args.program in
    let P : Why → Type 0 = λ why. EndsAs g.K.Sink c.args.tool.now program why c.args.out.now c.put.new.self 9 in
    let Q : List (List ℕ) → Type 0 = λ pieces. FailsToPut g.K.Sink pieces c.args.out.now c.put.new.self in
    let line : c.as_slice.result.now ∷ [] ≡ last_line c.args.tool.now program c.in-Fault.fault =
    ap (λ l. l ∷ []) (c.as_slice.ensures ∙ (c.in-Ok-fault_bytes.ensures {u = tt}).line ∙ ap (λ tool. fault_line tool program c.in-Fault.fault) (c.from_vec.ensures ∙ (c.in-Ok.ensures {u = tt}).items)) in
    subst P (sym c.in-Fault.is) (inr (inl (refl, subst Q line (fails_one g.K.Sink c.as_slice.result.now c.args.out.now c.put.new.self e.tells e.front e.put e.later e.failed))))
