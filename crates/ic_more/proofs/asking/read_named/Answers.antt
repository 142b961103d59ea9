use Rattle.std.proofs.Common.{◌∙◌, ap, Err}
use Rattle.ic_more.proofs.Asked.{too-long}
use Rattle.ic_more.proofs.asking.read_named.Goals as goal

pub returns-in-Err-TooLong-clause-refused : goal.returns-in-Err-TooLong-clause-refused
returns-in-Err-TooLong-clause-refused g c tells =
    let long = c.read.ensures.too_long tells (c.in-Err-TooLong.is ∙ ap Err c.in-Err-TooLong.field-0-is) in
    record { text = long.0; there = long.1; refused = too-long long.0 long.2 }
