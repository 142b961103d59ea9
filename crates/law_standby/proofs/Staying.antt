-- What a standby has played stays so.
use Rattle.std.proofs.Common.{ℕ, ◌≤◌, List, ◌++◌, arith}
use Rattle.ic_base.specs.declared.record.Record.{Record}
use Rattle.def_state.specs.Positions.{end_of}
use Rattle.law_replay.proofs.Truth.{kept-lasts}
use Rattle.law_replay.proofs.Records.{end-prefix}
use Rattle.law_pcom.specs.Replaying.{Plays}
use Rattle.law_pcom.proofs.Replaying.{plays-receives}
use Rattle.law_standby.specs.TakeOvers.{PlayedStays}

further : (forced extra : List Record) (a : ℕ) → a ≤ end_of forced → a ≤ end_of (forced ++ extra)
further forced extra a le = omega (arith, le, end-prefix forced extra)

pub played_stays : PlayedStays
played_stays program c received more v played forced extra f = record {
  state = g.state;
  is_state = g.is_state;
  mirrors = g.mirrors;
  held_within = λ x h. further forced extra x.at (g.held_within x h);
  shelved_within = λ x h. further forced extra x.at (g.shelved_within x h);
  received_within = λ x h. further forced extra x.at (g.received_within x h);
  ended_within = λ t n e. further forced extra v.ended_at (g.ended_within t n e);
  receipt_taken = g.receipt_taken;
  stable_received = g.stable_received;
  kept = λ x h may. kept-lasts forced extra x (g.kept x h may);
}
  where
    g : Plays program c (received ++ more) v played forced
    g = plays-receives program c received more v played forced f
