use Rattle.std.proofs.Common.{◌≡◌, ◌<◌, ◌^◌, take}
use Rattle.std.specs.List.{AllByRecursion}
use Rattle.ic_script.specs.Views.{amounts_seen}
use Rattle.ic_script.proofs.so_far.amounts.Given as goal

abbrev pub invariant-loop-token : goal.invariant-loop-token
invariant-loop-token l = record {
  values : l.values ≡ amounts_seen (take l.token-index l.tokens);
  fit : AllByRecursion (λ n. n < 2 ^ 64) l.values;
}
