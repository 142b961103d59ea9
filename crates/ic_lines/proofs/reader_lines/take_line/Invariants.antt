use Rattle.std.proofs.Common.{◌≡◌, ◌≢◌, ◌≤◌, List, ℕ, All, take, vec_capacity}
use Rattle.std.specs.Io.KnownBytes.{Consumes}
use Rattle.ic_lines.proofs.reader_lines.take_line.Given as goal

-- what was taken so far, of which the first bytes are kept, ends no line
abbrev pub invariant-loop : goal.invariant-loop
invariant-loop g l = (done : List ℕ) × (l.line.items ≡ take l.room done) × All (λ b. b ≢ 10) done
    × Consumes (g.B.Read.remaining l.initial.reader) (g.B.Read.remaining l.reader) done × (l.room ≤ vec_capacity l.line)
