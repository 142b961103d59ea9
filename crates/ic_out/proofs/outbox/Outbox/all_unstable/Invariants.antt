use Rattle.std.proofs.Common.{◌≡◌, ◌++◌, drop, map}
use Rattle.std.specs.Prelude.{filter}
use Rattle.def_state.specs.Outbox.{is_unstable}
use Rattle.ic_out.specs.Views.{held_of}
use Rattle.ic_out.proofs.outbox.Outbox.all_unstable.Given as goal

abbrev pub invariant-loop-j : goal.invariant-loop-j
invariant-loop-j l = l.messages ++ map (λ h. h.msg) (filter (is_unstable l.forced) (map held_of (drop l.j l.self-inside.rows.items))) ≡ map (λ h. h.msg) (filter (is_unstable l.forced) (map held_of l.self-inside.rows.items))
