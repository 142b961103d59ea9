-- A batch for which there is room can stand.
use Rattle.std.proofs.Common.{◌≡◌, refl, ℕ, ◌+◌, ◌≤◌, Bool, true, false, List, [], ◌∷◌, arith}
use Rattle.std.specs.Prelude.{◌||◌}
use Rattle.std.specs.List.{AllByRecursion}
use Rattle.std.proofs.lemmas.Bool.Decides.{nat_tests}
use Rattle.ic_base.specs.declared.limits.TheConstants.{LOG_BYTES}
use Rattle.ic_base.specs.declared.record.Record.{Record}
use Rattle.def_log.specs.Spelling.{Fits}
use Rattle.def_state.specs.Positions.{end_of}
use Rattle.def_step.specs.Room.{has_no_room}
use Rattle.ic_gate.proofs.Lengths.{spellings-length}
use Rattle.ic_gate.specs.RecordFiles.{CanStand}

pub both_false : (a b : Bool) → (a || b) ≡ false → (a ≡ false) × (b ≡ false)
both_false true b e = cc
both_false false b e = (refl, e)

pub can_stand : (size : ℕ) (batch : List Record) → ∥ AllByRecursion Fits batch ∥₁ → has_no_room size batch ≡ false → CanStand size batch
can_stand size [] fits room = record { fits = fits; room = λ some. absurd (omega (arith, some)) }
can_stand size (r ∷ rs) fits room =
    let short : size + 5 + end_of (r ∷ rs) ≤ LOG_BYTES = grind (arith, nat_tests) in
    record { fits = fits; room = λ some. omega (arith, short, spellings-length (r ∷ rs)) }
