use Rattle.std.proofs.Common.{◌≡◌, ◌∙◌, sym, ap, subst, arith, ◌+◌, ◌++◌, length, length-append, take, drop, List}
use Rattle.std.specs.List.{AllByRecursion}
use Rattle.std.specs.Prelude.{is_ok}
use Rattle.std.proofs.Math.Seq.{take-append_seam}
use Rattle.std.proofs.lemmas.List.{take-append-le, drop-append-le}
use Rattle.ic_base.specs.declared.record.Record.{Record}
use Rattle.def_log.specs.Spelling.{spellings, Fits}
use Rattle.def_state.specs.Positions.{end_of}
use Rattle.def_step.specs.Replay.{behind_checkpoint}
use Rattle.ic_gate.specs.Logs as logs
use Rattle.ic_gate.specs.RecordFiles.{records_from, read_or_none}
use Rattle.ic_gate.proofs.RecordLogs.{split_at, waits_with, fits_with, has_room, lacks_room, some_records}
use Rattle.ic_gate.proofs.RecordRefusals.{passes, not_closed, fails_to_append}
use Rattle.ic_gate.proofs.record_log.RecordLog.append.Goals as goal

pub invariant_of-self-in-Ok-append : goal.invariant_of-self-in-Ok-append
invariant_of-self-in-Ok-append g c =
    let p = c.args.self.now in
    let D = g.D.Disk in
    let n = p.forced in
    let adds = c.args.adds.now in
    let e = c.in-Ok-append.ensures {u = tt} in
    let ext : c.extend.new.self ≡ p.records ++ adds = (c.in-Ok-extend.ensures {u = tt}).added in
    let front : take n c.extend.new.self ≡ take n p.records = ap (take n) ext ∙ take-append-le n p.records adds p.few in
    let alone : c.in-Ok.more ≡ adds = c.in-Ok.ensures {u = tt} in
    let bytes : c.bytes.result.now ≡ spellings adds = c.bytes.ensures.bytes ∙ ap spellings alone in
    let Fit : List Record → Type 0 = AllByRecursion Fits in
    let Some : List Record → Type 0 = λ l. ∥ AllByRecursion Fits (drop n l) ∥₁ in
    let all : c.len.result ≡ length p.records + length adds = c.len.ensures.count ∙ ap length ext ∙ length-append p.records adds in
    record {
      on_disk = λ told up. let was = e.disk.tells.1 told in ap (λ n. read_or_none (records_from n (D.seen (logs.disk_of c.append.new.self)))) e.log.start ∙ ap (λ b. read_or_none (records_from (logs.start_of p.log) b)) (e.disk.seen was) ∙ p.on_disk was c.requires.open ∙ sym front;
      whole = λ told up. let was = e.disk.tells.1 told in ap (λ n. is_ok (records_from n (D.seen (logs.disk_of c.append.new.self)))) e.log.start ∙ ap (λ b. is_ok (records_from (logs.start_of p.log) b)) (e.disk.seen was) ∙ p.whole was c.requires.open;
      durable = c.append.new.self.durable;
      settled = c.append.new.self.settled;
      waiting = waits_with n p.records adds (logs.buffered_of p.log) (logs.buffered_of c.append.new.self) c.bytes.result.now p.few p.waiting bytes e.step.buffered ∙ ap (λ l. spellings (drop n l)) (sym ext);
      fitting = subst Some (sym ext) (fits_with n p.records adds p.few p.fitting (subst Fit alone c.bytes.ensures.fit));
      few = omega (arith, p.few, ap length ext, length-append p.records adds);
      ended = e.log.forced ∙ p.ended ∙ ap end_of (sym front);
      counted = ap (λ (l : List Record). c.passed_over-self.result + length (behind_checkpoint l)) ext ∙ c.passed_over-self.ensures p.records (sym all) p.counted ∙ c.len.ensures.count;
    }

pub returns-in-Ok-append-clause-step : goal.returns-in-Ok-append-clause-step
returns-in-Ok-append-clause-step g c =
    let p = c.args.self.now in
    let n = p.forced in
    let adds = c.args.adds.now in
    let e = c.in-Ok-append.ensures {u = tt} in
    let ext : c.extend.new.self ≡ p.records ++ adds = (c.in-Ok-extend.ensures {u = tt}).added in
    let alone : c.in-Ok.more ≡ adds = c.in-Ok.ensures {u = tt} in
    let bytes : c.bytes.result.now ≡ spellings adds = c.bytes.ensures.bytes ∙ ap spellings alone in
    record {
      forced = ap (take n) ext ∙ take-append-le n p.records adds p.few;
      buffered = ap (drop n) ext ∙ drop-append-le n p.records adds p.few;
      room = has_room (logs.size_of p.log) (drop n p.records) adds (omega (arith, e.step.fits, ap length p.waiting, ap length bytes));
    }

pub returns-clause-refused : goal.returns-clause-refused
returns-clause-refused g c =
    let p = c.args.self.now in
    let adds = c.args.adds.now in
    let e = c.in-Err.ensures {u = tt} in
    let ext : c.extend.new.self ≡ p.records ++ adds = (c.in-Ok-extend.ensures {u = tt}).added in
    let back : c.first.result ≡ p.records = c.first.ensures ∙ ap (take c.len-before.result) (c.replace-all.ensures.value ∙ ext) ∙ ap (λ m. take m (p.records ++ adds)) c.len-before.ensures.count ∙ take-append_seam p.records adds in
    let alone : c.in-Ok.more ≡ adds = c.in-Ok.ensures {u = tt} in
    let bytes : c.bytes.result.now ≡ spellings adds = c.bytes.ensures.bytes ∙ ap spellings alone in
    let some = some_records adds c.if-is_empty.ensures in
    fails_to_append p adds _ c.in-Err.why c.refusal.result c.refusal.ensures (not_closed p.log c.bytes.result.now c.in-Err.why c.requires.open e.refused.cause) (ap (split_at p.forced) back)
    (λ is. lacks_room (logs.size_of p.log) (drop p.forced p.records) adds some (omega (arith, passes p.log c.bytes.result.now c.in-Err.why is e.refused.cause, ap length p.waiting, ap length bytes)))
