use Rattle.std.proofs.Common.{◌∙◌, ap, sym, refl, ◌-◌, length, option_map}
use Rattle.std.proofs.lemmas.Option.{slice_get_read, slice_get_past}
use Rattle.ic_client.proofs.Logs.{numbered_out, output_before}
use Rattle.ic_client.proofs.rebuilding.output_at.Goals as goal

pub returns-in-Some : goal.returns-in-Some
returns-in-Some c =
    let outs = c.args.outs.now in
    sym (output_before outs c.args.m c.if-m-eq0.false ∙ ap (option_map (numbered_out c.args.m)) (slice_get_read outs (length outs) (c.args.m - 1) c.in-Some.out.now refl c.in-Some.ensures.lookup.3.0 c.in-Some.ensures.lookup.1))

pub returns-in-None : goal.returns-in-None
returns-in-None c = sym (output_before c.args.outs.now c.args.m c.if-m-eq0.false ∙ ap (option_map (numbered_out c.args.m)) (slice_get_past c.args.outs.now (c.args.m - 1) c.in-None.ensures.lookup.3))
