use Rattle.std.proofs.Common.{◌≡◌, ◌++◌, ◌∷◌, [], ℕ, ◌-◌, ◌≤◌, List, length, refl, ap, sym, subst, ◌∙◌, arith}
use Rattle.def_log.specs.Torn.{Write, all_written}
use Rattle.def_log.specs.Images.{IsTorn, TornFrom}
use Rattle.ic_disk.specs.Calls.{fails_next}
use Rattle.ic_disk.specs.Memory.{MemoryDisk, IsThere}
use Rattle.def_log.proofs.Stops.{length-written, written_is_torn}
use Rattle.ic_disk.proofs.Writes.{all_written-push, fits, write_elapses}
use Rattle.ic_disk.proofs.memory_disk.MemDiskDisk.write_at.Goals as goal

pub invariant_of-self-2 : goal.invariant_of-self-2
invariant_of-self-2 c =
    let pushed = all_written-push c.self.inside.past.first c.self.inside.past.writes (c.args.at, c.args.bytes.now) in
    let bytes = ap (λ (d : MemoryDisk). d.bytes) c.self.view_is in
    let place : c.args.at ≤ length c.self.inside.bytes.items = omega (arith, c.requires.place, ap length bytes) in
    let room : length c.args.bytes.now ≤ c.self.inside.capacity - c.args.at = fits (fails_next c.self.inside.calls) (length c.args.bytes.now) (c.self.inside.capacity - c.args.at) (sym c.fails.ensures.failed ∙ c.if-fails.false) in
    let within : length c.overwrite.new.file.items ≤ c.self.inside.capacity =
    omega (arith, room, c.self.invariant.0, ap length c.overwrite.ensures.written, length-written c.self.inside.bytes.items c.args.bytes.now c.args.at place) in
    let held : c.overwrite.new.file.items ≡ all_written c.add.new.self.first c.add.new.self.writes = cc (pushed, c.self.invariant.1) in
    (within, held)

pub returns-clause-crash : goal.returns-clause-crash
returns-clause-crash c =
    let old = c.args.self.now in
    let bytes = ap (λ (d : MemoryDisk). d.bytes) c.self.view_is in
    let first = ap (λ (d : MemoryDisk). d.first) c.self.view_is in
    let writes = ap (λ (d : MemoryDisk). d.writes) c.self.view_is in
    let held : old.bytes ≡ all_written old.first old.writes =
    sym bytes ∙ c.self.invariant.1 ∙ ap (λ l. all_written l c.self.inside.past.writes) first ∙ ap (all_written old.first) writes in
    let torn = written_is_torn c.self.inside.bytes.items c.args.bytes.now c.args.at (omega (arith, c.requires.place, ap length bytes)) (length c.args.bytes.now) (omega arith) (λ i. omega (arith, c.type_inv.bytes i)) in
    let Q : List ℕ → Type 0 = λ l. IsTorn c.args.at (length c.args.bytes.now) c.self.inside.bytes.items l in
    let P : List ℕ → Type 0 = λ l. IsTorn c.args.at (length c.args.bytes.now) l c.overwrite.new.file.items in
    write_elapses old _ (c.args.at, c.args.bytes.now) held (c.add.ensures.first ∙ first) (c.add.ensures.writes ∙ ap (λ (l : List Write). l ++ (c.args.at, c.args.bytes.now) ∷ []) writes)
    (TornFrom c.args.at (length c.args.bytes.now) (IsThere old)) (old.bytes, refl, subst P bytes (subst Q (sym c.overwrite.ensures.written) torn))
