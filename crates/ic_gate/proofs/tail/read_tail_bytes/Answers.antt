use Rattle.std.proofs.Common.{◌⊎◌, ◌<◌, inl, inr, ◌∙◌, refl, ap, ℕ, ◌-◌, List, ◌∷◌, [], take, drop, arith}
use Rattle.std.proofs.lemmas.List.{take_rest}
use Rattle.std.proofs.lemmas.Result.{err_from_is_err_and}
use Rattle.ic_base.specs.declared.limits.TheConstants.{FIRST_GATE}
use Rattle.ic_disk.specs.Disk.{Makes}
use Rattle.ic_disk.specs.Stops.{Reads}
use Rattle.ic_disk.proofs.Disks.{makes_one, makes_at_most, makes_then, makes_part, makes_named, makes_refused}
use Rattle.ic_gate.proofs.Headers.{read_rests}
use Rattle.ic_gate.proofs.Naming.{fails_load}
use Rattle.ic_gate.proofs.TailReads.{gate_not_there}
use Rattle.ic_gate.proofs.tail.read_tail_bytes.Goals.{then-start-lt-FIRST_GATE-via-then-start-lt-FIRST_GATE, then-start-lt-FIRST_GATE-via-else-start-lt-FIRST_GATE+then-length-start}
use Rattle.ic_gate.proofs.tail.read_tail_bytes.Goals as goal

pub returns-then-start-lt-FIRST_GATE-clause-calls : goal.returns-then-start-lt-FIRST_GATE-clause-calls
returns-then-start-lt-FIRST_GATE-clause-calls g c = makes_part (Reads ∷ []) (makes_refused _ (c.in_ok-length.ensures {u = tt}).calls)

pub returns-in_err-bytes-clause-calls : goal.returns-in_err-bytes-clause-calls
returns-in_err-bytes-clause-calls g c =
    let p = err_from_is_err_and c.from_residual-in_err-bytes.result c.from_residual-in_err-bytes.ensures.1 in
    let b = c.in_ok-length.ensures {u = tt} in
    let r = c.in_err-bytes.ensures {u = tt} in
    let read : Makes g.D.Disk (Reads ∷ []) _ _ c.read_header.new.disk c.read_at.new.self = makes_at_most r.at_most r.stop in
    rw (p.1, p.2) (makes_named _ (fails_load c.in_err-bytes.field-0.0) (makes_then b.disk b.calls read))

pub returns-clause-calls : goal.returns-clause-calls
returns-clause-calls g c =
    let b = c.in_ok-length.ensures {u = tt} in
    let r = c.in_ok-bytes.ensures {u = tt} in
    makes_named _ (λ fault. cc) (makes_then b.disk b.calls (makes_one r.calls r.stop))

pub returns-then-start-lt-FIRST_GATE-clause-refused : goal.returns-then-start-lt-FIRST_GATE-clause-refused
returns-then-start-lt-FIRST_GATE-clause-refused g c =
    let b = c.in_ok-length.ensures {u = tt} in
    let start = c.unwrap_or-start.result in
    let bad : (start < FIRST_GATE) ⊎ (c.in_ok-length.length < start) = elim c.then-start-lt-FIRST_GATE.branch [
      | then-start-lt-FIRST_GATE-via-then-start-lt-FIRST_GATE w ↦ inl w.if-start-lt-FIRST_GATE.true
      | then-start-lt-FIRST_GATE-via-else-start-lt-FIRST_GATE+then-length-start w ↦ inr w.if-length-start.true
    ] in
    gate_not_there g.D.Disk c.args.disk.now c.read_header.new.disk c.args.fingerprint.now c.args.owner c.in_ok-length.directory c.last_slot-slot.result start b.header
    (λ t. omega (arith, b.length t, b.short)) c.last_slot-slot.ensures (c.unwrap_or-start.ensures ∙ c.last.ensures) (read_rests g.D.Disk g.met.D.Disk.keeping_tells c.args.disk.now c.read_header.new.disk b.seen b.durable)
    c.in_ok-length.length c.unwrap_or.result (omega (arith, b.calls.all refl)) b.length bad c.unwrap_or.ensures

pub returns-clause-step : goal.returns-clause-step
returns-clause-step g c =
    let b = c.in_ok-length.ensures {u = tt} in
    let r = c.in_ok-bytes.ensures {u = tt} in
    let file = g.D.Disk.seen c.args.disk.now in
    let start = c.unwrap_or-start.result in
    record {
      header = b.header;
      short = λ t. omega (arith, b.length t, b.short);
      high = c.if-start-lt-FIRST_GATE.false;
      begun = c.unwrap_or-start.ensures ∙ c.last.ensures;
      slot_used = c.last_slot-slot.ensures;
      there = λ t. r.bytes (b.disk.tells.0 t) ∙ ap (λ (l : List ℕ). take (c.in_ok-length.length - start) (drop start l)) (b.seen t) ∙ ap (λ n. take (n - start) (drop start file)) (b.length t) ∙ take_rest file start;
      rests = record {
        bytes = λ t. r.seen (b.disk.tells.0 t) ∙ b.seen t;
        images = λ keeps image may. b.durable keeps image ((r.crash (b.disk.keeps.0 keeps)).now image may) ∙ b.seen (g.met.D.Disk.keeping_tells c.args.disk.now keeps);
      };
      settled = r.settled b.settled;
      calls = omega (arith, b.calls.all refl, r.calls);
    }
