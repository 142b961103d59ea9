use Rattle.std.proofs.Common.{◌≡◌, ◌∙◌, ap, subst, arith, ℕ, length, map}
use Rattle.std.specs.List.{range_with_len}
use Rattle.ic_disk.specs.Memory.{HostDisk}
use Rattle.ic_host.specs.Files.{log_file}
use Rattle.ic_host.proofs.Files.{named_on, one_more}
use Rattle.ic_host.proofs.disks_of.Goals as goal

pub loop-index-init : goal.loop-index-init
loop-index-init c =
    let none = (c.in_ok-disks.ensures {u = tt}).items in
    (ap length none, ap (λ items. map (λ (d : HostDisk). d.name) items) none)

pub loop-index-preserved : goal.loop-index-preserved
loop-index-preserved c =
    let pushed = (c.in_ok-push.ensures {u = tt}).items in (
      ap length pushed ∙ one_more c.loop-index.disks.items c.in_ok-new.field-0 c.loop-index.index c.loop-index.invariant.0,
      ap (λ items. map (λ (d : HostDisk). d.name) items) pushed
          ∙ named_on c.args.program.now c.args.ending.now c.loop-index.disks.items c.in_ok-new.field-0 c.loop-index.index c.loop-index.invariant.1 (ap (λ (d : HostDisk). d.name) (c.in_ok-new.ensures {u = tt}) ∙ (c.in_ok-name.ensures {u = tt}).name),
    )

pub returns-clause-count : goal.returns-clause-count
returns-clause-count c = omega (arith, c.loop-index.invariant.0, c.loop-index-test.false, c.loop-index.auto.index-end)

pub returns-clause-names : goal.returns-clause-names
returns-clause-names c =
    let all : c.loop-index.index ≡ 32 = omega (arith, c.loop-index-test.false, c.loop-index.auto.index-end) in
    subst (λ (n : ℕ). map (λ (d : HostDisk). d.name) c.loop-index.disks.items ≡ map (log_file c.args.program.now c.args.ending.now) (range_with_len 0 n)) all c.loop-index.invariant.1
