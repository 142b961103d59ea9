use Rattle.std.proofs.Common.{◌≡◌, ◌∙◌, sym, ap, subst, false, List, Some, get_or, length, drop, arith}
use Rattle.std.specs.Prelude.{All}
use Rattle.std.proofs.lemmas.List.Elements.{All-from_recursion}
use Rattle.ic_base.specs.declared.record.Record.{Record}
use Rattle.def_log.specs.Log.{records_in}
use Rattle.def_log.specs.Spelling.{Fits}
use Rattle.def_standby.specs.Standbys.{contents_among, play_all}
use Rattle.def_state.specs.Outbox.{Outbox}
use Rattle.ic_ckpt.specs.Views.{seen}
use Rattle.ic_wire.proofs.Placing.{all_alone}
use Rattle.ic_pcom.specs.Places.{places_of}
use Rattle.ic_pcom.proofs.Adopts.{stop_told, too_few}
use Rattle.ic_pcom.proofs.adopting.play_on.Goals as goal

pub returns-then-len-have-clause-refused : goal.returns-then-len-have-clause-refused
returns-then-len-have-clause-refused g c =
    too_few c.args.program.now c.args.«com» (contents_among c.args.«com» c.args.msgs.now) (seen c.args.state) c.args.have c.args.size c.args.placed c.into_parts-places.result.1 c.into_parts-places.ensures.records (omega (arith, c.if-len-have.true, c.len.ensures))

pub play_through-requires-clause-fields : goal.play_through-requires-clause-fields
play_through-requires-clause-fields g c =
    subst (λ (l : List Record). All Fits l) (sym (c.as_slice.ensures ∙ c.in_ok-played.ensures ∙ c.into_parts-places.ensures.records)) (All-from_recursion Fits (records_in c.args.placed) (all_alone c.args.placed c.requires.fits))

pub returns-in-Ok-clause-played : goal.returns-in-Ok-clause-played
returns-in-Ok-clause-played g c =
    let t = (c.in-Ok.ensures {u = tt}).through in
    let v = seen c.play_through.new.state in
    record {
      state = v;
      plays = ap (λ (rs : List Record). play_all c.args.program.now c.args.«com» (contents_among c.args.«com» c.args.msgs.now) (seen c.args.state) (drop c.args.have rs)) (sym (c.as_slice.ensures ∙ c.in_ok-played.ensures ∙ c.into_parts-places.ensures.records)) ∙ t.playing;
      is = ap (λ (o : Outbox). record v { outbox = o; owes_drop = false }) c.put_all.ensures.put;
      limits = t.limits;
      whole = c.into_parts-places.ensures.records;
      within = omega (arith, c.if-len-have.false, c.len.ensures);
    }

pub returns-in-Err-Misfit-clause-refused : goal.returns-in-Err-Misfit-clause-refused
returns-in-Err-Misfit-clause-refused g c =
    let places : c.as_slice-in-Err-Misfit.result.now ≡ places_of c.args.placed = c.as_slice-in-Err-Misfit.ensures ∙ c.into_parts-places.ensures.places in
    let alone : c.as_slice.result.now ≡ records_in c.args.placed = c.as_slice.ensures ∙ c.in_ok-played.ensures ∙ c.into_parts-places.ensures.records in
    let told = stop_told c.args.program.now c.args.«com» (contents_among c.args.«com» c.args.msgs.now) (seen c.args.state) c.args.have c.args.size c.args.placed c.as_slice.result.now c.as_slice-in-Err-Misfit.result.now c.in-Err-Misfit.field-0 c.in-Err-Misfit.i 0 alone places c.in-Err-Misfit.field-0-is (omega (arith, c.if-len-have.false, c.len.ensures, ap length (c.as_slice.ensures ∙ c.in_ok-played.ensures))) (c.in-Err-Misfit.ensures {u = tt}).refused in
    told ∙ ap (λ n. Some (get_or c.as_slice-in-Err-Misfit.result.now n 0)) (sym c.in-Err-Misfit.i-is) ∙ ap Some (sym c.from.ensures)
