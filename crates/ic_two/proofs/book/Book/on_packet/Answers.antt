use Rattle.std.proofs.Common.{◌≡◌, ◌∙◌, refl, inl, sym, ap, [], ◌∷◌}
use Rattle.std.specs.Prelude.{option_to_list}
use Rattle.def_two.specs.Book.{BookStep}
use Rattle.ic_disk.proofs.Disks.{crash_weaker, makes_named}
use Rattle.ic_two.specs.Books.{opening_of, records_of, disk_of, step_of, IsBeforeOrServed}
use Rattle.ic_two.proofs.Committed.{standing}
use Rattle.ic_two.proofs.DeviceCalls.{err_again}
use Rattle.ic_two.proofs.Kept.{of_log, planned}
use Rattle.ic_two.proofs.Pushing.{of_same, nothing_done}
use Rattle.ic_two.proofs.Serving.{kept_in, image_served, served_calls, not_served, keeps_log}
use Rattle.ic_two.proofs.book.Book.on_packet.Goals as goal

pub plan-plan-requires : goal.plan-plan-requires
plan-plan-requires g c =
    let old = c.args.self.now in
    record { of_log = of_log old.core (opening_of old) (records_of old) (kept_in {D = g.row.D.Denot} {d = g.D.Disk} old) }

pub returns-in-None-clause-crash : goal.returns-in-None-clause-crash
returns-in-None-clause-crash g c =
    let old = c.args.self.now in
    let law = g.met.D.Disk in
    nothing_done {D = g.row.D.Denot} {d = g.D.Disk} (disk_of old) (IsBeforeOrServed {D = g.row.D.Denot} {d = g.D.Disk} old c.args.p.now) law.only_now (λ keeps. old.log.durable keeps c.requires.open)
    (λ keeps. (of_same refl, inl (standing {D = g.row.D.Denot} {d = g.D.Disk} old.log (law.keeping_tells (disk_of old) keeps) c.requires.open)))

pub returns-in-Ok-clause-crash : goal.returns-in-Ok-clause-crash
returns-in-Ok-clause-crash g c =
    let old = c.args.self.now in
    let p = c.args.p.now in
    let step = planned old.core (opening_of old) (records_of old) p c.plan-plan.result (kept_in {D = g.row.D.Denot} {d = g.D.Disk} old) c.plan-plan.ensures.step in
    let one : (step_of {D = g.row.D.Denot} {d = g.D.Disk} old p).adds ≡ c.in-Some.r ∷ [] = ap (λ (s : BookStep). s.adds) (sym step) ∙ ap option_to_list c.in-Some.is in
    crash_weaker (λ keeps image. image_served {D = g.row.D.Denot} {d = g.D.Disk} old p c.in-Some.r one image) c.add.ensures.crash

pub returns-in-Ok-clause-calls : goal.returns-in-Ok-clause-calls
returns-in-Ok-clause-calls g c =
    let old = c.args.self.now in
    let p = c.args.p.now in
    let step = planned old.core (opening_of old) (records_of old) p c.plan-plan.result (kept_in {D = g.row.D.Denot} {d = g.D.Disk} old) c.plan-plan.ensures.step in
    let one : (step_of {D = g.row.D.Denot} {d = g.D.Disk} old p).adds ≡ c.in-Some.r ∷ [] = ap (λ (s : BookStep). s.adds) (sym step) ∙ ap option_to_list c.in-Some.is in
    served_calls {D = g.row.D.Denot} {d = g.D.Disk} old p c.in-Some.r one (makes_named _ (λ e. absurd (cc)) (c.in-Ok.ensures {u = tt}).calls)

pub returns-in-Err-clause-log : goal.returns-in-Err-clause-log
returns-in-Err-clause-log g c =
    let old = c.args.self.now in
    let p = c.args.p.now in
    let step = planned old.core (opening_of old) (records_of old) p c.plan-plan.result (kept_in {D = g.row.D.Denot} {d = g.D.Disk} old) c.plan-plan.ensures.step in
    let one : (step_of {D = g.row.D.Denot} {d = g.D.Disk} old p).adds ≡ c.in-Some.r ∷ [] = ap (λ (s : BookStep). s.adds) (sym step) ∙ ap option_to_list c.in-Some.is in
    let e = c.in-Err.ensures {u = tt} in
    keeps_log {D = g.row.D.Denot} {d = g.D.Disk} old p c.in-Some.r one c.add.new.self c.in-Err.why e.same e.disk c.requires.open e.refused

pub returns-in-Err-clause-crash : goal.returns-in-Err-clause-crash
returns-in-Err-clause-crash g c =
    let old = c.args.self.now in
    let p = c.args.p.now in
    let step = planned old.core (opening_of old) (records_of old) p c.plan-plan.result (kept_in {D = g.row.D.Denot} {d = g.D.Disk} old) c.plan-plan.ensures.step in
    let one : (step_of {D = g.row.D.Denot} {d = g.D.Disk} old p).adds ≡ c.in-Some.r ∷ [] = ap (λ (s : BookStep). s.adds) (sym step) ∙ ap option_to_list c.in-Some.is in
    crash_weaker (λ keeps image. image_served {D = g.row.D.Denot} {d = g.D.Disk} old p c.in-Some.r one image) c.add.ensures.crash

pub returns-in-Err-clause-calls : goal.returns-in-Err-clause-calls
returns-in-Err-clause-calls g c =
    let old = c.args.self.now in
    let p = c.args.p.now in
    let step = planned old.core (opening_of old) (records_of old) p c.plan-plan.result (kept_in {D = g.row.D.Denot} {d = g.D.Disk} old) c.plan-plan.ensures.step in
    let one : (step_of {D = g.row.D.Denot} {d = g.D.Disk} old p).adds ≡ c.in-Some.r ∷ [] = ap (λ (s : BookStep). s.adds) (sym step) ∙ ap option_to_list c.in-Some.is in
    served_calls {D = g.row.D.Denot} {d = g.D.Disk} old p c.in-Some.r one (makes_named _ (err_again _ _) (c.in-Err.ensures {u = tt}).calls)

pub returns-in-Err-clause-refused : goal.returns-in-Err-clause-refused
returns-in-Err-clause-refused g c =
    let old = c.args.self.now in
    let p = c.args.p.now in
    let step = planned old.core (opening_of old) (records_of old) p c.plan-plan.result (kept_in {D = g.row.D.Denot} {d = g.D.Disk} old) c.plan-plan.ensures.step in
    let one : (step_of {D = g.row.D.Denot} {d = g.D.Disk} old p).adds ≡ c.in-Some.r ∷ [] = ap (λ (s : BookStep). s.adds) (sym step) ∙ ap option_to_list c.in-Some.is in
    not_served {D = g.row.D.Denot} {d = g.D.Disk} old p c.in-Some.r one c.add.new.self c.in-Err.why (c.in-Err.ensures {u = tt}).refused
