use Rattle.std.proofs.Common.{◌≡◌, drop, map}
use Rattle.std.specs.Prelude.{slice_get, filter}
use Rattle.def_state.specs.Outbox.{is_unstable}
use Rattle.ic_out.specs.Views.{held_of}
use Rattle.ic_out.proofs.outbox.Outbox.unstable.Given as goal

abbrev pub invariant-loop-j : goal.invariant-loop-j
invariant-loop-j l = slice_get (map (λ h. h.msg) (filter (is_unstable l.forced) (map held_of (drop l.j l.self-inside.rows.items)))) l.left ≡ slice_get (map (λ h. h.msg) (filter (is_unstable l.forced) (map held_of l.self-inside.rows.items))) l.fn.i
