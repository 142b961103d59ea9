use Rattle.std.proofs.Common.{rules, ◌≡◌, ◌+◌, Some, ℕ, ap, sym, subst, ◌∙◌, arith, List}
use Rattle.def_log.proofs.Frames.{IsPayload}
use Rattle.def_log.proofs.Forces.{inside, forced_gate, forced_count, is_forced}
use Rattle.def_log.specs.Changes.{IsForced, gate_from, forced_from, is_start}
use Rattle.def_log.specs.Directory.{slots_in}
use Rattle.def_log.specs.Gated.{gate_opened, batch_write}
use Rattle.ic_disk.proofs.Disks.{crash_weaker, makes_named, makes_same}
use Rattle.def_log.proofs.Moments.{started}
use Rattle.ic_gate.specs.Calls.{IsBeforeOrBehind}
use Rattle.ic_gate.proofs.Naming.{fails_force, batch_calls, opened_by, reads, same_self}
use Rattle.ic_gate.proofs.log.Log.force.Goals as goal

pub write_gated-requires-clause-place : goal.write_gated-requires-clause-place
write_gated-requires-clause-place g c t =
    let log = c.args.self.now in
    inside log.start log.gate (g.D.Disk.seen log.disk) (log.at_gate t c.if-self.false) (ap (is_start log.start) (log.listed t c.if-self.false) ∙ log.begun) log.high

pub invariant_of-self-in-Ok-clause-at_gate : goal.invariant_of-self-in-Ok-clause-at_gate
invariant_of-self-in-Ok-clause-at_gate g c t is_open =
    let log = c.args.self.now in
    let told = c.write_gated.ensures.disk.tells.1 t in
    let payload : IsPayload log.buffered = (omega arith, omega arith) in
    let begun = ap (is_start log.start) (log.listed told is_open) ∙ log.begun in
    ap (gate_from log.start) (opened_by (g.D.Disk.seen log.disk) _ log.gate log.buffered _ c.as_slice.ensures (c.in-Ok.ensures.synced.reads told))
    ∙ forced_gate log.start log.gate (g.D.Disk.seen log.disk) (log.at_gate told is_open) begun log.high log.buffered payload (omega arith)
    ∙ ap (λ n. Some (log.gate + (5 + n))) (sym c.len-added.ensures)

pub invariant_of-self-in-Ok-clause-counted : goal.invariant_of-self-in-Ok-clause-counted
invariant_of-self-in-Ok-clause-counted g c t is_open =
    let log = c.args.self.now in
    let told = c.write_gated.ensures.disk.tells.1 t in
    let payload : IsPayload log.buffered = (omega arith, omega arith) in
    let begun = ap (is_start log.start) (log.listed told is_open) ∙ log.begun in
    ap (forced_from log.start) (opened_by (g.D.Disk.seen log.disk) _ log.gate log.buffered _ c.as_slice.ensures (c.in-Ok.ensures.synced.reads told))
    ∙ forced_count log.start log.gate (g.D.Disk.seen log.disk) (log.at_gate told is_open) begun log.high log.buffered payload (omega arith) log.forced (log.counted told is_open)
    ∙ ap (λ n. Some (log.forced + n)) (sym c.len-added.ensures)

pub invariant_of-self-in-Ok-clause-listed : goal.invariant_of-self-in-Ok-clause-listed
invariant_of-self-in-Ok-clause-listed g c t is_open =
    let log = c.args.self.now in
    let told = c.write_gated.ensures.disk.tells.1 t in
    let payload : IsPayload log.buffered = (omega arith, omega arith) in
    let begun = ap (is_start log.start) (log.listed told is_open) ∙ log.begun in
    ap slots_in (opened_by (g.D.Disk.seen log.disk) _ log.gate log.buffered _ c.as_slice.ensures (c.in-Ok.ensures.synced.reads told))
    ∙ (is_forced log.start log.gate (g.D.Disk.seen log.disk) (log.at_gate told is_open) begun log.high log.buffered payload (omega arith)).slots
    ∙ log.listed told is_open

pub returns-in-Ok-clause-step : goal.returns-in-Ok-clause-step
returns-in-Ok-clause-step g c =
    let log = c.args.self.now in
    let payload : IsPayload log.buffered = (omega arith, omega arith) in
    let five : log.gate + 5 ≡ log.gate + 1 + 4 = omega arith in
    record {
      was_open = c.if-self.false;
      is_open = c.if-self.false;
      idle = search rules;
      buffered = search rules;
      start = search rules;
      slots = search rules;
      forced = search rules;
      size = search rules;
      last = λ some. ap (λ (n : ℕ). Some n) (omega arith);
      batch = λ t some.
          let begun = ap (is_start log.start) (log.listed t c.if-self.false) ∙ log.begun in
          subst (λ (l : List ℕ). IsForced log.start (g.D.Disk.seen log.disk) l (log.gate + 1 + 4) log.buffered)
          (sym (opened_by (g.D.Disk.seen log.disk) _ log.gate log.buffered _ c.as_slice.ensures (c.in-Ok.ensures.synced.reads t)))
          (subst (λ n. IsForced log.start (g.D.Disk.seen log.disk) (gate_opened (g.D.Disk.seen log.disk) (batch_write log.gate log.buffered)) n log.buffered) five
          (is_forced log.start log.gate (g.D.Disk.seen log.disk) (log.at_gate t c.if-self.false) begun log.high log.buffered payload (omega arith)));
    }

pub returns-in-Ok-clause-crash : goal.returns-in-Ok-clause-crash
returns-in-Ok-clause-crash g c is_open =
    let log = c.args.self.now in
    crash_weaker (λ keeps image torn.
    let t = g.met.D.Disk.keeping_tells log.disk keeps in
    let payload : IsPayload log.buffered = (omega arith, omega arith) in
    reads log.start log.gate (g.D.Disk.seen log.disk) log.buffered (log.at_gate t is_open) (ap (is_start log.start) (log.listed t is_open) ∙ log.begun) log.high payload (omega arith) _ image c.as_slice.ensures torn)
    (c.write_gated.ensures.crash (λ keeps. log.durable keeps is_open))

pub returns-in-Err-clause-crash : goal.returns-in-Err-clause-crash
returns-in-Err-clause-crash g c is_open =
    let log = c.args.self.now in
    crash_weaker (λ keeps image torn.
    let t = g.met.D.Disk.keeping_tells log.disk keeps in
    let payload : IsPayload log.buffered = (omega arith, omega arith) in
    reads log.start log.gate (g.D.Disk.seen log.disk) log.buffered (log.at_gate t is_open) (ap (is_start log.start) (log.listed t is_open) ∙ log.begun) log.high payload (omega arith) _ image c.as_slice.ensures torn)
    (c.write_gated.ensures.crash (λ keeps. log.durable keeps is_open))

pub returns-in-Ok-clause-calls : goal.returns-in-Ok-clause-calls
returns-in-Ok-clause-calls g c =
    let log = c.args.self.now in
    makes_same (batch_calls log.closed log.gate log.buffered c.as_slice.result.now c.if-self.false (omega arith) c.as_slice.ensures) (makes_named _ (λ fault. cc) c.in-Ok.ensures.calls)

pub returns-in-Err-clause-calls : goal.returns-in-Err-clause-calls
returns-in-Err-clause-calls g c =
    let log = c.args.self.now in
    makes_same (batch_calls log.closed log.gate log.buffered c.as_slice.result.now c.if-self.false (omega arith) c.as_slice.ensures)
    (makes_named _ (fails_force c.in-Err.error c.refusal_of.result c.refusal_of.ensures.failed.1) c.in-Err.ensures.calls)

pub returns-then-added-eq0-clause-crash : goal.returns-then-added-eq0-clause-crash
returns-then-added-eq0-clause-crash g c is_open =
    let log = c.args.self.now in
    let disk = g.D.Disk in
    let same = λ (keeps : disk.keeps log.disk) (image : List ℕ) (may : disk.may_leave log.disk image). same_self log.start (disk.seen log.disk) (log.gate + 1 + 4) log.buffered image (log.durable keeps is_open image may) in
    record {
      any_moment = λ keeps. started disk.moment disk.left_since log.disk (IsBeforeOrBehind log) (λ image left. same keeps image (g.met.D.Disk.only_now log.disk image keeps left));
      behind = same;
    }
