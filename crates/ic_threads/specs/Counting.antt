-- What became of the inputs that the components did in threads, and the records that they played.
use Rattle.std.specs.Prelude.{◌+◌, List, count_by, sum_by}
use Rattle.ic_base.specs.declared.events.Answer.{Answer}
use Rattle.def_live_run.specs.Counts.{Counts, was_taken, was_kept, was_lost, was_missed}
use Rattle.ic_run.specs.declared.tally.Tally.{Tally}
use Rattle.ic_turn.specs.Progresses.{answers_of, played_of}
use Rattle.ic_turn.specs.declared.progress.Progress.{Progress}

-- with these answers counted
abbrev pub with_answers : Tally → List Answer → Tally
with_answers t xs = record t {
  taken = t.taken + count_by was_taken xs;
  kept = t.kept + count_by was_kept xs;
  lost = t.lost + count_by was_lost xs;
  missed = t.missed + count_by was_missed xs;
}

-- what all components did
abbrev pub counted : List Progress → Counts
counted ps = record {
  taken = sum_by (λ p. count_by was_taken (answers_of p)) ps;
  kept = sum_by (λ p. count_by was_kept (answers_of p)) ps;
  lost = sum_by (λ p. count_by was_lost (answers_of p)) ps;
  missed = sum_by (λ p. count_by was_missed (answers_of p)) ps;
  played = sum_by played_of ps;
}

-- with their inputs counted
abbrev pub with_all : Tally → Counts → Tally
with_all t n = record t { taken = t.taken + n.taken; kept = t.kept + n.kept; lost = t.lost + n.lost; missed = t.missed + n.missed }

-- what both phases counted of their inputs
abbrev pub together : Tally → Tally → Tally
together a b = record b { taken = a.taken + b.taken; kept = a.kept + b.kept; lost = a.lost + b.lost; missed = a.missed + b.missed }
