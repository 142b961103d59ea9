use Rattle.std.proofs.Common.{◌++◌, ◌∷◌, []}
use Rattle.ic_gate.specs.Encoding.{Encode}
use Rattle.ic_gate.proofs.Encodings.{opened, closed, seen, pushed}
use Rattle.ic_gate.proofs.spelled.SpelledRecords.push.Goals as goal

more : (c : goal.In-Ok) → Encode c.record_bytes.new.out c.push_end.new.ends (c.args.self.now ++ c.args.stored.now ∷ [])
more c =
    pushed c.self.inside.bytes c.self.inside.ends c.args.self.now c.args.stored.now c.record_bytes.new.out c.push_end.new.ends c.len.result
    (opened c.self.inside.bytes c.self.inside.ends c.args.self.now c.self.invariant c.self.view_is)
    c.in_ok-record_bytes.ensures.fit c.in_ok-record_bytes.ensures.spelled c.in-Ok.ensures.ok c.len.ensures

pub invariant_of-self-in-Ok : goal.invariant_of-self-in-Ok
invariant_of-self-in-Ok c = closed c.record_bytes.new.out c.push_end.new.ends (c.args.self.now ++ c.args.stored.now ∷ []) (more c)

pub returns-clause-added : goal.returns-clause-added
returns-clause-added c = seen c.record_bytes.new.out c.push_end.new.ends (c.args.self.now ++ c.args.stored.now ∷ []) (more c)
