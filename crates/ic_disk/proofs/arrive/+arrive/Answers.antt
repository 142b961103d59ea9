use Rattle.ic_disk.specs.Past.{writes_of}
use Rattle.ic_disk.proofs.Tears.{first_arrives, rest_arrives}
use Rattle.ic_disk.proofs.Writes.{writes_of-first}
use Rattle.ic_disk.proofs.arrive.+arrive.Goals as goal

pub returns-in_err-write_front-clause-crash : goal.returns-in_err-write_front-clause-crash
returns-in_err-write_front-clause-crash g t c keeps =
    let disk = g.D.Disk in
    let place = c.in-Some.field-0-0.now in
    let others = c.in-Some.others.now in
    let front = c.split_at.result.0.now in
    let rest = c.split_at.result.1.now in
    let first = writes_of-first c.args.places.now others place c.args.bytes.now front rest c.in-Some.ensures.cases.0 c.split_at.ensures.front c.split_at.ensures.back in
    first_arrives disk.moment disk.left_since disk.may_leave c.args.disk.now (place.0, front) (writes_of others rest) _ first c.write_front.new.disk ((c.in_err-write_front.ensures {u = tt}).crash keeps)

pub returns-clause-crash : goal.returns-clause-crash
returns-clause-crash g t c keeps =
    let disk = g.D.Disk in
    let place = c.in-Some.field-0-0.now in
    let others = c.in-Some.others.now in
    let front = c.split_at.result.0.now in
    let rest = c.split_at.result.1.now in
    let w = c.in_ok-write_front.ensures {u = tt} in
    let first = writes_of-first c.args.places.now others place c.args.bytes.now front rest c.in-Some.ensures.cases.0 c.split_at.ensures.front c.split_at.ensures.back in
    rest_arrives disk.moment disk.left_since disk.may_leave c.args.disk.now (place.0, front) (writes_of others rest) _ first c.write_front.new.disk c.arrive.new.disk
    (w.crash keeps) (c.arrive.ensures.crash (w.disk.keeps.0 keeps))
