use Rattle.std.proofs.Common.{arith}
use Rattle.def_state.specs.ImagePlaces.{image}
use Rattle.law_image.proofs.Exactly.{unread}
use Rattle.ic_ckpt.proofs.Wholes.{stops-at}
use Rattle.ic_ckpt.proofs.image.read_image.Goals as goal

pub returns-in-Err-Left-clause-unread : goal.returns-in-Err-Left-clause-unread
returns-in-Err-Left-clause-unread c small place e =
    let stops = rw c.in-Err-Left.field-0-is at c.in-Err-Left.ensures.place in
    let bad = stops-at c.args.bytes.now (image c.args.program.now c.args.com c.args.bytes.now) c.in-Err-Left.n stops in
    unread c.args.program.now c.args.com c.args.bytes.now bad.0 (λ i. omega (arith, c.type_inv.bytes i)) small bad.1
