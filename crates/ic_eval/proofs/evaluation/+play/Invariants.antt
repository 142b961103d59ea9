use Rattle.std.proofs.Common.{◌≡◌, ◌≤◌, length, map, drop}
use Rattle.def_play.specs.Playing as playing
use Rattle.ic_eval.specs.Views.{seen, part_seen, turn_of}
use Rattle.ic_eval.proofs.evaluation.+play.Given as goal

abbrev pub invariant-played_list-loop-s : goal.invariant-played_list-loop-s
invariant-played_list-loop-s l =
    (l.course.met ≤ length l.handling.done.now)
    × (playing.in_turn (map (turn_of l.handling) (drop l.s-index l.stmts)) (part_seen l.part) (seen l.course l.handling.done.now)
    ≡ playing.in_turn (map (turn_of l.handling) l.stmts) (part_seen l.part) (seen l.fn.course l.handling.done.now))
