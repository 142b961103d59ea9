use Rattle.std.proofs.Common.{◌∙◌, ◌-◌, ap, ℕ, List, [], ◌∷◌, length, take, drop}
use Rattle.std.proofs.lemmas.Result.{err_from_is_err_and, on_ok_weaker}
use Rattle.std.proofs.lemmas.List.{take_rest}
use Rattle.def_former.specs.Opening.{unopened}
use Rattle.def_log.specs.Torn.{written}
use Rattle.ic_disk.specs.Disk.{IsSynced}
use Rattle.ic_disk.specs.Stops.{Writes, Syncs}
use Rattle.ic_disk.proofs.Disks.{crash_weaker, crash_then, makes_then, makes_part, makes_same}
use Rattle.ic_opening.proofs.Letters.{first_written, rest_written, first_torn, rest_torn}
use Rattle.ic_opening.proofs.phases.write_unopened.Goals as goal

pub returns-in_err-write_through-clause-calls : goal.returns-in_err-write_through-clause-calls
returns-in_err-write_through-clause-calls g c =
    let p = err_from_is_err_and c.from_residual.result c.from_residual.ensures.1 in
    rw (p.1, p.2) (makes_part (Writes 1 (drop 1 c.args.log.now) ∷ Syncs ∷ []) (c.in_err-write_through.ensures {u = tt}).calls)

pub returns-clause-crash : goal.returns-clause-crash
returns-clause-crash g c just =
    let law = g.met.D.Disk in
    let old = c.args.disk.now in
    let first = c.in_ok-write_through.ensures {u = tt} in
    crash_then first.disk
    (crash_weaker (λ keeps image torn. first_torn _ image (c.requires.empty (law.keeping_tells old keeps)) torn) (first.crash just))
    (crash_weaker (λ keeps image torn. let told = law.keeping_tells old (first.disk.keeps.1 keeps) in rest_torn _ _ image (first.synced.reads told ∙ first_written _ (c.requires.empty told)) torn) (c.write_through-2.ensures.crash (λ keeps. first.synced.durable (first.disk.keeps.1 keeps))))

pub returns-clause-calls : goal.returns-clause-calls
returns-clause-calls g c =
    let first = c.in_ok-write_through.ensures {u = tt} in
    let same = ap (λ (l : List ℕ). Writes 0 (0 ∷ []) ∷ Syncs ∷ Writes 1 l ∷ Syncs ∷ []) (take_rest c.args.log.now 1) in
    makes_same same (makes_then first.disk first.calls c.write_through-2.ensures.calls)

pub returns-clause-synced : goal.returns-clause-synced
returns-clause-synced g c =
    let first = c.in_ok-write_through.ensures {u = tt} in
    let log = c.args.log.now in
    let mid = c.write_through.new.disk in
    let new = c.write_through-2.new.disk in
    let Whole : Type 0 = IsSynced g.D.Disk c.args.disk.now new (unopened log) in
    let whole : IsSynced g.D.Disk mid new (written (g.D.Disk.seen mid) 1 (take (length log - 1) (drop 1 log))) → Whole = λ s. record {
      reads = λ told.
          s.reads (first.disk.tells.0 told) ∙ ap (λ (l : List ℕ). written (g.D.Disk.seen mid) 1 l) (take_rest log 1)
          ∙ rest_written _ (drop 1 log) (first.synced.reads told ∙ first_written _ (c.requires.empty told));
      settled = s.settled;
      durable = λ keeps. s.durable (first.disk.keeps.0 keeps);
    } in
    on_ok_weaker c.write_through-2.result whole c.write_through-2.ensures.synced
