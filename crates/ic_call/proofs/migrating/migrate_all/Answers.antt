use Rattle.std.proofs.Common.{◌∙◌, sym, ap, subst, refl, ℕ, List, length, IfErr, inl, arith}
use Rattle.std.proofs.lemmas.Result.{err_from_is_err_and}
use Rattle.ic_base.specs.declared.messages.ComId.{ComId}
use Rattle.ic_report.specs.Migrated.{migrated_lines}
use Rattle.ic_call.specs.Migrating.{FailsToMigrate}
use Rattle.ic_call.proofs.Migrated.{logged_count, rewritten, safe-count, lent-count, lent-enough, all-there, put-back, put-behind, keeps-disks, migrates-all, refuses, wants-memory}
use Rattle.ic_call.proofs.migrating.migrate_all.Goals as goal

pub put_back-requires-clause-count : goal.put_back-requires-clause-count
put_back-requires-clause-count g c = lent-count c.args.scene.now.program.components c.args.old.now.items c.requires.old c.take_disks.new.disks.items c.in_ok-from.from.items c.in_ok-from.from.items c.in_ok-from.ensures.left c.in_ok-from.ensures.taken refl

pub put_back-requires-clause-enough : goal.put_back-requires-clause-enough
put_back-requires-clause-enough g c = lent-enough c.args.scene.now.program.components c.args.old.now.items c.requires.old c.take_disks.new.disks.items c.in_ok-from.from.items c.in_ok-from.from.items c.in_ok-from.ensures.left c.in_ok-from.ensures.taken refl

pub put_back-requires-clause-room : goal.put_back-requires-clause-room
put_back-requires-clause-room g c =
    let all = all-there c.args.scene.now.program.components c.args.old.now.items c.requires.old c.take_disks.new.disks.items c.in_ok-from.from.items c.in_ok-from.from.items c.in_ok-from.ensures.left c.in_ok-from.ensures.taken refl in
    omega (arith, all, c.take_disks.new.disks.ok, c.in_ok-from.from.ok, c.args.old.now.ok, c.in_ok-from.ensures.room)

pub returns-in_default-clause-refused : goal.returns-in_default-clause-refused
returns-in_default-clause-refused g c = inl (refl, put-back c.args.scene.now.program.components c.args.old.now.items c.requires.old c.take_disks.new.disks.items c.in_ok-from.from.items c.put_back.new.disks.items c.in_ok-from.ensures.left c.in_ok-from.ensures.taken c.put_back.ensures, c.in_default.ensures.kept)

pub migrate_logs-migrated-requires-clause-old_disks : goal.migrate_logs-migrated-requires-clause-old_disks
migrate_logs-migrated-requires-clause-old_disks g c =
    let count = lent-count c.args.scene.now.program.components c.args.old.now.items c.requires.old c.take_disks.new.disks.items c.in_ok-from.from.items c.in_ok-from.from.items c.in_ok-from.ensures.left c.in_ok-from.ensures.taken refl in
    ap length c.as_mut_slice.ensures.value ∙ count ∙ sym (logged_count 0 c.args.scene.now.program.components) ∙ sym (ap length (c.as_slice.ensures.value ∙ c.in_ok-coms.ensures))

pub migrate_logs-migrated-requires-clause-new_disks : goal.migrate_logs-migrated-requires-clause-new_disks
migrate_logs-migrated-requires-clause-new_disks g c =
    let count = lent-count c.args.scene.now.program.components c.args.new.now.items c.requires.new c.take_disks-2.new.disks.items c.in-Ok.to.items c.in-Ok.to.items c.in-Ok.ensures.left c.in-Ok.ensures.taken refl in
    ap length c.as_mut_slice-2.ensures.value ∙ count ∙ sym (logged_count 0 c.args.scene.now.program.components) ∙ sym (ap length (c.as_slice.ensures.value ∙ c.in_ok-coms.ensures))

pub put_back-requires-2-clause-count : goal.put_back-requires-2-clause-count
put_back-requires-2-clause-count g c =
    let back = c.migrate_logs-migrated.new.old in
    let long = c.migrate_logs-migrated.ensures.old.long ∙ ap length c.as_mut_slice.ensures.value in
    ap length (rewritten c.in_ok-from.from.items back c.in_ok-from.from.len c.in_ok-from.from.ok.0 long) ∙ lent-count c.args.scene.now.program.components c.args.old.now.items c.requires.old c.take_disks.new.disks.items c.in_ok-from.from.items back c.in_ok-from.ensures.left c.in_ok-from.ensures.taken long

pub put_back-requires-2-clause-enough : goal.put_back-requires-2-clause-enough
put_back-requires-2-clause-enough g c =
    let back = c.migrate_logs-migrated.new.old in
    let long = c.migrate_logs-migrated.ensures.old.long ∙ ap length c.as_mut_slice.ensures.value in
    let same = ap length (rewritten c.in_ok-from.from.items back c.in_ok-from.from.len c.in_ok-from.from.ok.0 long) in
    let enough = lent-enough c.args.scene.now.program.components c.args.old.now.items c.requires.old c.take_disks.new.disks.items c.in_ok-from.from.items back c.in_ok-from.ensures.left c.in_ok-from.ensures.taken long in
    omega (arith, same, enough)

pub put_back-requires-2-clause-room : goal.put_back-requires-2-clause-room
put_back-requires-2-clause-room g c =
    let all = all-there c.args.scene.now.program.components c.args.old.now.items c.requires.old c.take_disks.new.disks.items c.in_ok-from.from.items c.in_ok-from.from.items c.in_ok-from.ensures.left c.in_ok-from.ensures.taken refl in
    omega (arith, all, c.take_disks.new.disks.ok, c.in_ok-from.from.ok, c.args.old.now.ok, c.in_ok-from.ensures.room)

pub put_back-requires-3-clause-count : goal.put_back-requires-3-clause-count
put_back-requires-3-clause-count g c =
    let back = c.migrate_logs-migrated.new.new in
    let long = safe-count g.D.Disk c.args.scene.now.fingerprint c.as_slice.result.now c.as_mut_slice.result.now c.as_mut_slice-2.result.now back c.migrate_logs-migrated.ensures.new ∙ ap length c.as_mut_slice-2.ensures.value in
    ap length (rewritten c.in-Ok.to.items back c.in-Ok.to.len c.in-Ok.to.ok.0 long) ∙ lent-count c.args.scene.now.program.components c.args.new.now.items c.requires.new c.take_disks-2.new.disks.items c.in-Ok.to.items back c.in-Ok.ensures.left c.in-Ok.ensures.taken long

pub put_back-requires-3-clause-enough : goal.put_back-requires-3-clause-enough
put_back-requires-3-clause-enough g c =
    let back = c.migrate_logs-migrated.new.new in
    let long = safe-count g.D.Disk c.args.scene.now.fingerprint c.as_slice.result.now c.as_mut_slice.result.now c.as_mut_slice-2.result.now back c.migrate_logs-migrated.ensures.new ∙ ap length c.as_mut_slice-2.ensures.value in
    let same = ap length (rewritten c.in-Ok.to.items back c.in-Ok.to.len c.in-Ok.to.ok.0 long) in
    let enough = lent-enough c.args.scene.now.program.components c.args.new.now.items c.requires.new c.take_disks-2.new.disks.items c.in-Ok.to.items back c.in-Ok.ensures.left c.in-Ok.ensures.taken long in
    omega (arith, same, enough)

pub put_back-requires-3-clause-room : goal.put_back-requires-3-clause-room
put_back-requires-3-clause-room g c =
    let all = all-there c.args.scene.now.program.components c.args.new.now.items c.requires.new c.take_disks-2.new.disks.items c.in-Ok.to.items c.in-Ok.to.items c.in-Ok.ensures.left c.in-Ok.ensures.taken refl in
    omega (arith, all, c.take_disks-2.new.disks.ok, c.in-Ok.to.ok, c.args.new.now.ok, c.in-Ok.ensures.room)

pub returns-in_err-migrated_bytes-in-Ok-migrated-clause-refused : goal.returns-in_err-migrated_bytes-in-Ok-migrated-clause-refused
returns-in_err-migrated_bytes-in-Ok-migrated-clause-refused g c =
    let coms = c.as_slice.result.now in
    let from = c.as_mut_slice.result.now in
    let to = c.as_mut_slice-2.result.now in
    let read = c.migrate_logs-migrated.new.old in
    let left = c.migrate_logs-migrated.new.new in
    let long = c.migrate_logs-migrated.ensures.old.long ∙ ap length c.as_mut_slice.ensures.value in
    let long-new = safe-count g.D.Disk c.args.scene.now.fingerprint coms from to left c.migrate_logs-migrated.ensures.new ∙ ap length c.as_mut_slice-2.ensures.value in
    let coms-are = c.as_slice.ensures.value ∙ c.in_ok-coms.ensures in
    let from-is = c.as_mut_slice.ensures.value ∙ c.in_ok-from.ensures.taken in
    let to-is = c.as_mut_slice-2.ensures.value ∙ c.in-Ok.ensures.taken in
    let old-is = put-behind c.args.scene.now.program.components c.args.old.now.items c.requires.old c.take_disks.new.disks.items _ read c.put_back-2.new.disks.items c.in_ok-from.ensures.left (rewritten c.in_ok-from.from.items read c.in_ok-from.from.len c.in_ok-from.from.ok.0 long) c.put_back-2.ensures in
    let new-is = put-behind c.args.scene.now.program.components c.args.new.now.items c.requires.new c.take_disks-2.new.disks.items _ left c.put_back-3.new.disks.items c.in-Ok.ensures.left (rewritten c.in-Ok.to.items left c.in-Ok.to.len c.in-Ok.to.ok.0 long-new) c.put_back-3.ensures in
    let keeps = keeps-disks g.D.Disk c.args.scene.now.program c.args.scene.now.fingerprint c.args.old.now.items c.put_back-2.new.disks.items c.args.new.now.items c.put_back-3.new.disks.items coms from to read left coms-are from-is to-is old-is new-is c.migrate_logs-migrated.ensures.old c.migrate_logs-migrated.ensures.new in
    let p = err_from_is_err_and c.from_residual-in_err-migrated_bytes-in-Ok-migrated.result c.from_residual-in_err-migrated_bytes-in-Ok-migrated.ensures.1 in
    subst (λ r. IfErr r (FailsToMigrate g.D.Disk c.args.scene.now.program c.args.scene.now.fingerprint c.args.old.now.items c.put_back-2.new.disks.items c.args.new.now.items c.put_back-3.new.disks.items)) (sym p.1) (subst (FailsToMigrate g.D.Disk c.args.scene.now.program c.args.scene.now.fingerprint c.args.old.now.items c.put_back-2.new.disks.items c.args.new.now.items c.put_back-3.new.disks.items) (sym p.2) (wants-memory g.D.Disk c.args.scene.now.program c.args.scene.now.fingerprint c.args.old.now.items c.put_back-2.new.disks.items c.args.new.now.items c.put_back-3.new.disks.items coms from to read left coms-are from-is to-is keeps))

pub returns-in-Ok-migrated-clause-migrated : goal.returns-in-Ok-migrated-clause-migrated
returns-in-Ok-migrated-clause-migrated g c =
    let coms = c.as_slice.result.now in
    let from = c.as_mut_slice.result.now in
    let to = c.as_mut_slice-2.result.now in
    let read = c.migrate_logs-migrated.new.old in
    let left = c.migrate_logs-migrated.new.new in
    let long = c.migrate_logs-migrated.ensures.old.long ∙ ap length c.as_mut_slice.ensures.value in
    let long-new = safe-count g.D.Disk c.args.scene.now.fingerprint coms from to left c.migrate_logs-migrated.ensures.new ∙ ap length c.as_mut_slice-2.ensures.value in
    let coms-are = c.as_slice.ensures.value ∙ c.in_ok-coms.ensures in
    let from-is = c.as_mut_slice.ensures.value ∙ c.in_ok-from.ensures.taken in
    let to-is = c.as_mut_slice-2.ensures.value ∙ c.in-Ok.ensures.taken in
    let old-is = put-behind c.args.scene.now.program.components c.args.old.now.items c.requires.old c.take_disks.new.disks.items _ read c.put_back-2.new.disks.items c.in_ok-from.ensures.left (rewritten c.in_ok-from.from.items read c.in_ok-from.from.len c.in_ok-from.from.ok.0 long) c.put_back-2.ensures in
    let new-is = put-behind c.args.scene.now.program.components c.args.new.now.items c.requires.new c.take_disks-2.new.disks.items _ left c.put_back-3.new.disks.items c.in-Ok.ensures.left (rewritten c.in-Ok.to.items left c.in-Ok.to.len c.in-Ok.to.ok.0 long-new) c.put_back-3.ensures in
    let keeps = keeps-disks g.D.Disk c.args.scene.now.program c.args.scene.now.fingerprint c.args.old.now.items c.put_back-2.new.disks.items c.args.new.now.items c.put_back-3.new.disks.items coms from to read left coms-are from-is to-is old-is new-is c.migrate_logs-migrated.ensures.old c.migrate_logs-migrated.ensures.new in
    let P : List ComId × List (List ℕ) → List ℕ = λ z. migrated_lines c.args.scene.now.program z.0 z.1 in
    let same = c.as_slice-in-Ok-migrated.ensures.value ∙ sym c.as_slice.ensures.value in
    let lines = c.in_ok-migrated_bytes-in-Ok-migrated.ensures ∙ ap P (λ j. (same j, c.as_slice-in-Ok-migrated-2.ensures.value j)) in
    migrates-all g.D.Disk c.args.scene.now.program c.args.scene.now.fingerprint c.args.old.now.items c.put_back-2.new.disks.items c.args.new.now.items c.put_back-3.new.disks.items coms from to read left coms-are from-is to-is keeps c.in-Ok-migrated.logs.items c.in-Ok-migrated.ensures.migrated c.in_ok-migrated_bytes-in-Ok-migrated.field-0 lines

pub returns-clause-refused : goal.returns-clause-refused
returns-clause-refused g c =
    let coms = c.as_slice.result.now in
    let from = c.as_mut_slice.result.now in
    let to = c.as_mut_slice-2.result.now in
    let read = c.migrate_logs-migrated.new.old in
    let left = c.migrate_logs-migrated.new.new in
    let long = c.migrate_logs-migrated.ensures.old.long ∙ ap length c.as_mut_slice.ensures.value in
    let long-new = safe-count g.D.Disk c.args.scene.now.fingerprint coms from to left c.migrate_logs-migrated.ensures.new ∙ ap length c.as_mut_slice-2.ensures.value in
    let coms-are = c.as_slice.ensures.value ∙ c.in_ok-coms.ensures in
    let from-is = c.as_mut_slice.ensures.value ∙ c.in_ok-from.ensures.taken in
    let to-is = c.as_mut_slice-2.ensures.value ∙ c.in-Ok.ensures.taken in
    let old-is = put-behind c.args.scene.now.program.components c.args.old.now.items c.requires.old c.take_disks.new.disks.items _ read c.put_back-2.new.disks.items c.in_ok-from.ensures.left (rewritten c.in_ok-from.from.items read c.in_ok-from.from.len c.in_ok-from.from.ok.0 long) c.put_back-2.ensures in
    let new-is = put-behind c.args.scene.now.program.components c.args.new.now.items c.requires.new c.take_disks-2.new.disks.items _ left c.put_back-3.new.disks.items c.in-Ok.ensures.left (rewritten c.in-Ok.to.items left c.in-Ok.to.len c.in-Ok.to.ok.0 long-new) c.put_back-3.ensures in
    let keeps = keeps-disks g.D.Disk c.args.scene.now.program c.args.scene.now.fingerprint c.args.old.now.items c.put_back-2.new.disks.items c.args.new.now.items c.put_back-3.new.disks.items coms from to read left coms-are from-is to-is old-is new-is c.migrate_logs-migrated.ensures.old c.migrate_logs-migrated.ensures.new in
    refuses g.D.Disk c.args.scene.now.program c.args.scene.now.fingerprint c.args.old.now.items c.put_back-2.new.disks.items c.args.new.now.items c.put_back-3.new.disks.items coms from to read left coms-are from-is to-is keeps c.in-Err.why c.why_of_start.result c.why_of_start.ensures c.in-Err.ensures.refused
