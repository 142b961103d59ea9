use Rattle.std.proofs.Common.{◌≡◌, ◌∙◌, refl, inl, sym, ap, subst, ◌∷◌, []}
use Rattle.std.specs.Prelude.{option_to_list}
use Rattle.def_two.specs.Chief.{Hears, Step}
use Rattle.ic_disk.specs.Disk.{CrashLeaves}
use Rattle.ic_disk.proofs.Disks.{makes_named}
use Rattle.ic_two.specs.ChiefLogs.{disk_of, step_of, IsBeforeOrServed}
use Rattle.ic_two.proofs.ChiefServing.{planned, served_calls, keeps_log}
use Rattle.ic_two.proofs.Committed.{standing}
use Rattle.ic_two.proofs.DeviceCalls.{err_again}
use Rattle.ic_two.proofs.Pushing.{of_same, nothing_done}
use Rattle.ic_two.proofs.chief.Chief.on_packet.Goals as goal

pub returns-in-Ok-note-clause-crash : goal.returns-in-Ok-note-clause-crash
returns-in-Ok-note-clause-crash g c =
    let old = c.args.self.now in
    let law = g.met.D.Disk in
    let left = IsBeforeOrServed {D = g.row.D.Denot} {d = g.D.Disk} old (Hears c.args.p.now) in
    let P : g.row.D.Denot → Type 0 = λ x. CrashLeaves g.D.Disk (disk_of old) x left in
    subst P (sym (c.in-Ok-note.ensures {u = tt}).heard.disk)
    (nothing_done {D = g.row.D.Denot} {d = g.D.Disk} (disk_of old) left law.only_now (λ keeps. old.log.durable keeps c.requires.open)
    (λ keeps. (of_same refl, inl (standing {D = g.row.D.Denot} {d = g.D.Disk} old.log (law.keeping_tells (disk_of old) keeps) c.requires.open))))

pub returns-in-Err-note-clause-crash : goal.returns-in-Err-note-clause-crash
returns-in-Err-note-clause-crash g c =
    let old = c.args.self.now in
    let law = g.met.D.Disk in
    let left = IsBeforeOrServed {D = g.row.D.Denot} {d = g.D.Disk} old (Hears c.args.p.now) in
    let P : g.row.D.Denot → Type 0 = λ x. CrashLeaves g.D.Disk (disk_of old) x left in
    subst P (sym (c.in-Err-note.ensures {u = tt}).same.1.disk)
    (nothing_done {D = g.row.D.Denot} {d = g.D.Disk} (disk_of old) left law.only_now (λ keeps. old.log.durable keeps c.requires.open)
    (λ keeps. (of_same refl, inl (standing {D = g.row.D.Denot} {d = g.D.Disk} old.log (law.keeping_tells (disk_of old) keeps) c.requires.open))))

pub returns-in-Ok-add-clause-calls : goal.returns-in-Ok-add-clause-calls
returns-in-Ok-add-clause-calls g c =
    let old = c.args.self.now in
    let p = c.args.p.now in
    let step = planned {D = g.row.D.Denot} {d = g.D.Disk} old p c.in-Ok.plan c.in-Ok.ensures.step in
    let one : (step_of {D = g.row.D.Denot} {d = g.D.Disk} old (Hears p)).adds ≡ c.in-Some.r ∷ [] = ap (λ (s : Step). s.adds) (sym step) ∙ ap option_to_list c.in-Some.is in
    served_calls {D = g.row.D.Denot} {d = g.D.Disk} old (Hears p) refl c.in-Some.r one (makes_named _ (λ e. absurd (cc)) (c.in-Ok-add.ensures {u = tt}).calls)

pub returns-in-Err-add-clause-log : goal.returns-in-Err-add-clause-log
returns-in-Err-add-clause-log g c =
    let e = c.in-Err-add.ensures {u = tt} in
    keeps_log {D = g.row.D.Denot} {d = g.D.Disk} c.args.self.now c.in-Some.r c.add.new.self c.in-Err-add.why e.disk c.requires.open e.refused

pub returns-in-Err-add-clause-calls : goal.returns-in-Err-add-clause-calls
returns-in-Err-add-clause-calls g c =
    let old = c.args.self.now in
    let p = c.args.p.now in
    let step = planned {D = g.row.D.Denot} {d = g.D.Disk} old p c.in-Ok.plan c.in-Ok.ensures.step in
    let one : (step_of {D = g.row.D.Denot} {d = g.D.Disk} old (Hears p)).adds ≡ c.in-Some.r ∷ [] = ap (λ (s : Step). s.adds) (sym step) ∙ ap option_to_list c.in-Some.is in
    served_calls {D = g.row.D.Denot} {d = g.D.Disk} old (Hears p) refl c.in-Some.r one (makes_named _ (err_again _ _) (c.in-Err-add.ensures {u = tt}).calls)
