use Rattle.std.proofs.Common.{◌≡◌, ◌∙◌, ap, sym, subst, refl, max, length, List, arith}
use Rattle.def_log.specs.Torn.{Write, all_written}
use Rattle.ic_disk.specs.TornDisks.{Torn, ends}
use Rattle.ic_disk.proofs.Tears.{all_written_length}
use Rattle.ic_disk.proofs.TornDisks.{left_of, torn_call, left_below, left_still, left_alone}
use Rattle.ic_disk.proofs.torn_disk.TornDiskDisk.length.Goals as goal

pub returns-in-Ok-clause-value : goal.returns-in-Ok-clause-value
returns-in-Ok-clause-value g c told =
    let d = g.D.Disk in
    let inner = c.self.inside.inner in
    let held = c.self.inside.held.writes in
    let is = c.self.view_is ∙ (c.in_ok-begins.ensures {u = tt}).after in
    let below : inner ≡ c.args.self.now.inner = ap (λ (t : Torn _). t.inner) is in
    let tells : d.tells inner = subst d.tells (sym below) told in
    let long : max c.in-Ok.length c.end.result ≡ max (length (d.seen inner)) (ends held) = omega (arith, (c.in-Ok.ensures {u = tt}).value tells, c.end.ensures) in
    c.max.ensures ∙ long ∙ sym (all_written_length (d.seen inner) held (c.self.invariant.0 tells))
    ∙ ap (λ i. length (all_written (d.seen i) held)) below ∙ ap (λ (l : List Write). length (all_written (d.seen c.args.self.now.inner) l)) (ap (λ (t : Torn _). t.held) is)

pub returns-in-Ok-clause-crash : goal.returns-in-Ok-clause-crash
returns-in-Ok-clause-crash g c keeps =
    let d = g.D.Disk in
    let law = g.met.D.Disk in
    let inner = c.self.inside.inner in
    let held = c.self.inside.held.writes in
    let is = c.self.view_is ∙ (c.in_ok-begins.ensures {u = tt}).after in
    let l = c.in-Ok.ensures {u = tt} in
    torn_call d c.args.self.now _ inner held (ap (λ (t : Torn _). t.inner) is) (ap (λ (t : Torn _). t.held) is) (d.may_leave inner) (left_of d) keeps
    l.crash (left_below d inner held) (λ kept less. left_still d inner held _ _ refl (l.seen (law.keeping_tells inner kept)) less)

pub returns-in-Err-clause-crash : goal.returns-in-Err-clause-crash
returns-in-Err-clause-crash g c keeps =
    let d = g.D.Disk in
    let law = g.met.D.Disk in
    let inner = c.self.inside.inner in
    let held = c.self.inside.held.writes in
    let is = c.self.view_is ∙ (c.in_ok-begins.ensures {u = tt}).after in
    let l = c.in-Err.ensures {u = tt} in
    torn_call d c.args.self.now _ inner held (ap (λ (t : Torn _). t.inner) is) (ap (λ (t : Torn _). t.held) is) (d.may_leave inner) (left_of d) keeps
    l.crash (left_below d inner held)
    (λ kept less image left. left_below d inner held image (less image (left_alone d _ _ c.clear.ensures.writes (law.read_may_stay c.length.new.self (l.keeps.0 kept)) image left)))
