use Rattle.ic_syntax.proofs.Walks.{too_long}
use Rattle.ic_audit.proofs.scene.read_scene.Goals as goal

pub returns-in-Err-TooLong-clause-refused : goal.returns-in-Err-TooLong-clause-refused
returns-in-Err-TooLong-clause-refused g c tells =
    let long = c.read.ensures.too_long tells (cc) in
    record { text = long.0; there = long.1; refused = too_long long.0 long.2 }
