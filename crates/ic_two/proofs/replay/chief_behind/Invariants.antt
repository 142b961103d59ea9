use Rattle.std.proofs.Common.{◌≡◌, drop}
use Rattle.def_two.specs.Chief.{first_docket, docket_of, docket_after, dockets_fit, is_chief_log, nothing_heard}
use Rattle.def_two.specs.Logs.{records2_in}
use Rattle.def_two.specs.Refusals.{chief_misfit}
use Rattle.ic_moves.specs.Chiefs as cores
use Rattle.ic_moves.specs.Chiefs.{openings_of, AreCounted}
use Rattle.ic_two.proofs.replay.chief_behind.Given as goal

abbrev pub invariant-loop-place : goal.invariant-loop-place
invariant-loop-place l = record {
  docket : docket_after (cores.docket_of l.core) (records2_in (drop l.place-index l.placed)) ≡ docket_of (records2_in l.placed);
  good : dockets_fit (openings_of l.books) (cores.docket_of l.core) (records2_in (drop l.place-index l.placed)) ≡ is_chief_log (openings_of l.books) (records2_in l.placed);
  misfit : chief_misfit (openings_of l.books) (cores.docket_of l.core) (drop l.place-index l.placed) ≡ chief_misfit (openings_of l.books) first_docket l.placed;
  heard : cores.heard_of l.core ≡ nothing_heard;
  counted : AreCounted l.core;
}
