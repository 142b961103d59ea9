use Rattle.std.proofs.Common.{◌≡◌, ◌∙◌, sym, ap, subst, List, Some, get_or}
use Rattle.std.specs.Prelude.{All}
use Rattle.std.proofs.lemmas.List.Elements.{All-from_recursion}
use Rattle.ic_base.specs.declared.record.Record.{Record}
use Rattle.def_log.specs.Log.{records_in}
use Rattle.def_log.specs.Spelling.{Fits}
use Rattle.ic_wire.proofs.Placing.{all_alone}
use Rattle.ic_pcom.specs.Places.{places_of}
use Rattle.ic_pcom.proofs.Places.{misfit_told}
use Rattle.ic_pcom.proofs.restored.begin.Goals as goal

pub begin-requires : goal.begin-requires
begin-requires g c =
    subst (λ (l : List Record). All Fits l) (sym c.into_parts-places.ensures.records) (All-from_recursion Fits (records_in c.args.placed) (all_alone c.args.placed c.requires))

pub returns-in-Err-Misfit-clause-refused : goal.returns-in-Err-Misfit-clause-refused
returns-in-Err-Misfit-clause-refused g c =
    let places : c.as_slice.result.now ≡ places_of c.args.placed = c.as_slice.ensures ∙ c.into_parts-places.ensures.places in
    let told = misfit_told c.args.program.now c.args.«com» c.args.placed c.into_parts-places.result.1 c.as_slice.result.now c.in-Err-Misfit.field-0 c.in-Err-Misfit.i 0 c.into_parts-places.ensures.records places c.in-Err-Misfit.field-0-is (c.in-Err-Misfit.ensures {u = tt}).refused in
    told ∙ ap (λ n. Some (get_or c.as_slice.result.now n 0)) (sym c.in-Err-Misfit.i-is) ∙ ap Some (sym c.from.ensures)
