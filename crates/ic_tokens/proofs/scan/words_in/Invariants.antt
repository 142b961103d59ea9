use Rattle.std.proofs.Common.{◌≡◌, ◌+◌, ◌-◌, ◌≤◌, ◌++◌, length, map, take, drop, All}
use Rattle.def_syntax.specs.Text.{all_tokens, words_from, pieces}
use Rattle.ic_tokens.specs.Views.{seen_tokens, HasItsKind, placed, fixed_if}
use Rattle.ic_tokens.proofs.Scanning.{in_front}
use Rattle.ic_tokens.proofs.scan.words_in.Given as goal

abbrev pub invariant-loop-place : goal.invariant-loop-place
invariant-loop-place l = record {
  found : all_tokens (fixed_if l.fixed) (words_from 0 (pieces (take l.end l.line))) ≡ in_front (seen_tokens l.line l.tokens) (all_tokens (fixed_if l.fixed) (words_from l.place (pieces (drop l.place (take l.end l.line)))));
  placed : words_from 0 (pieces (take l.end l.line)) ≡ map (placed l.line) l.tokens ++ words_from l.place (pieces (drop l.place (take l.end l.line)));
  kinds : All (HasItsKind l.line) l.tokens;
  inside : All (λ t. t.place + t.length ≤ length l.line) l.tokens;
  near : l.place ≤ l.end + 1;
}

abbrev pub decreases-loop-place : goal.decreases-loop-place
decreases-loop-place l = l.end + 1 - l.place
