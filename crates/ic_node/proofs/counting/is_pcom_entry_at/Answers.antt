use Rattle.std.proofs.Common.{refl, true, false, arith}
use Rattle.ic_node.proofs.Entries.{pcom_gives}
use Rattle.ic_node.proofs.counting.is_pcom_entry_at.Goals as goal

pub returns-in-1 : goal.returns-in-1
returns-in-1 c = λ r at t. pcom_gives t r true (λ some lt. refl) (λ is. refl) (λ gt lt. absurd (omega (arith, gt, lt, c.kind.ensures r at)))

pub returns-in_default : goal.returns-in_default
returns-in_default c = λ r at t. pcom_gives t r false (λ some lt. absurd (omega (arith, some, lt, c.kind.ensures r at))) (λ is. absurd (omega (arith, is, c.kind.ensures r at))) (λ gt lt. refl)

pub returns-in-1-2 : goal.returns-in-1-2
returns-in-1-2 c = λ r at t. pcom_gives t r true (λ some lt. refl) (λ is. refl) (λ gt lt. absurd (omega (arith, gt, lt, c.kind.ensures r at)))

pub returns-in_default-2 : goal.returns-in_default-2
returns-in_default-2 c = λ r at t. pcom_gives t r false (λ some lt. absurd (omega (arith, some, lt, c.kind.ensures r at))) (λ is. absurd (omega (arith, is, c.kind.ensures r at))) (λ gt lt. refl)
