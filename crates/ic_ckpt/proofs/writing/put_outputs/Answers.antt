use Rattle.std.proofs.Common.{◌∙◌, ◌++◌, ap, map}
use Rattle.def_state.specs.Shelf.{Waiting}
use Rattle.def_state.specs.Image.{output_bytes}
use Rattle.ic_ckpt.proofs.Spelling.{one-more, told-some, told-none, listed-is, listed-mapped}
use Rattle.ic_ckpt.proofs.writing.put_outputs.Goals as goal

pub loop-output-preserved : goal.loop-output-preserved
loop-output-preserved c =
    let xs = c.args.shelf.now.shelf.waiting in
    one-more output_bytes (map (λ (w : Waiting). w.output) xs) c.loop-output.i c.loop-output.body.items c.put_output.new.out.items c.in-Some.output c.loop-output.invariant (told-some (λ (w : Waiting). w.output) xs c.loop-output.i c.in-Some.output c.in-Some.ensures) c.in_ok-put_output.ensures

pub returns : goal.returns
returns c =
    let xs = c.args.shelf.now.shelf.waiting in
    listed-is output_bytes (map (λ (w : Waiting). w.output) xs) c.loop-output.i c.args.out.now.items c.loop-output.body.items c.put_word.new.out.items c.extend_from_slice.new.self.items c.loop-output.invariant (told-none (λ (w : Waiting). w.output) xs c.loop-output.i c.in_default.ensures) c.in_ok-put_word.ensures.spelled
    (c.in_ok-extend_from_slice.ensures.items ∙ ap (λ l. c.put_word.new.out.items ++ l) c.as_slice.ensures.value)
    ∙ ap (λ l. c.args.out.now.items ++ l) (listed-mapped output_bytes (λ (w : Waiting). w.output) xs)
