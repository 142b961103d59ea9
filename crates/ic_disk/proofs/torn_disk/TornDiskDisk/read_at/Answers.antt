use Rattle.std.proofs.Common.{rules, ◌≡◌, ◌∙◌, ap, sym, refl, ℕ, Vec, Global, Result, Err}
use denote.Enum.Bare.{same_true}
use Rattle.ic_disk.specs.contracts.disk.DiskError.{the_type}
use Rattle.ic_disk.specs.declared.disk.DiskError.{DiskError}
use Rattle.ic_disk.specs.declared.disk.DiskError.TheVariants.{Memory}
use Rattle.ic_disk.specs.TornDisks.{Torn}
use Rattle.ic_disk.proofs.TornDisks.{left_of, torn_call, left_below, left_still, left_alone}
use Rattle.ic_disk.proofs.torn_disk.TornDiskDisk.read_at.Goals as goal

pub returns-in-Ok-clause-crash : goal.returns-in-Ok-clause-crash
returns-in-Ok-clause-crash g c keeps =
    let d = g.D.Disk in
    let law = g.met.D.Disk in
    let inner = c.self.inside.inner in
    let held = c.self.inside.held.writes in
    let is = c.self.view_is ∙ (c.in_ok-begins.ensures {u = tt}).after in
    let r = c.in-Ok.ensures {u = tt} in
    torn_call d c.args.self.now _ inner held (ap (λ (t : Torn _). t.inner) is) (ap (λ (t : Torn _). t.held) is) (d.may_leave inner) (left_of d) keeps
    r.crash (left_below d inner held) (λ kept less. left_still d inner held _ _ refl (r.seen (law.keeping_tells inner kept)) less)

pub returns-then-eq-clause-crash : goal.returns-then-eq-clause-crash
returns-then-eq-clause-crash g c keeps =
    let d = g.D.Disk in
    let law = g.met.D.Disk in
    let inner = c.self.inside.inner in
    let held = c.self.inside.held.writes in
    let is = c.self.view_is ∙ (c.in_ok-begins.ensures {u = tt}).after in
    let r = c.in-Err.ensures {u = tt} in
    let is_memory : ◌≡◌ {A = Result (Vec ℕ Global) DiskError} (Err c.in-Err.error) (Err Memory) = ap (λ (e : DiskError). let found : Result (Vec ℕ Global) DiskError = Err e in found) (same_true the_type (search rules) _ _ (sym (c.if-eq.ensures {u = tt}))) in
    torn_call d c.args.self.now _ inner held (ap (λ (t : Torn _). t.inner) is) (ap (λ (t : Torn _). t.held) is) (d.may_leave inner) (left_of d) keeps
    r.crash (left_below d inner held) (λ kept less. left_still d inner held _ _ refl (r.memory (law.keeping_tells inner kept) is_memory) less)

pub returns-else-eq-clause-crash : goal.returns-else-eq-clause-crash
returns-else-eq-clause-crash g c keeps =
    let d = g.D.Disk in
    let law = g.met.D.Disk in
    let inner = c.self.inside.inner in
    let held = c.self.inside.held.writes in
    let is = c.self.view_is ∙ (c.in_ok-begins.ensures {u = tt}).after in
    let r = c.in-Err.ensures {u = tt} in
    torn_call d c.args.self.now _ inner held (ap (λ (t : Torn _). t.inner) is) (ap (λ (t : Torn _). t.held) is) (d.may_leave inner) (left_of d) keeps
    r.crash (left_below d inner held)
    (λ kept less image left. left_below d inner held image (less image (left_alone d _ _ c.clear.ensures.writes (law.read_may_stay c.read_over.new.disk (r.disk.keeps.0 kept)) image left)))
