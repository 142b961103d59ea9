-- What lowers the measure of a world.
use Rattle.std.proofs.Common.{◌≡◌, ap, refl, ℕ, ◌+◌, ◌*◌, ◌^◌, ◌<◌, arith, List, [], ◌∷◌}
use Rattle.ic_base.specs.declared.limits.TheConstants.{PACKETS}
use Rattle.std.specs.Prelude.{◌-◌, length, fold, sum_by, count_by}
use Rattle.std.specs.List.{AllByRecursion}
use Rattle.def_step.specs.Settle.{is_down, unshown, buffered, since_checkpoint, measure}
use Rattle.def_step.specs.World.{World}

one_falls : (x y d e : ℕ) → x < y → d < 2 ^ 80 → x * 2 ^ 80 + d < y * 2 ^ 80 + e
one_falls x y d e less small = omega (arith, less, small)

-- digits behind a member that falls don't matter
falls : (xs ys : List ℕ) (m n : ℕ) → length xs ≡ length ys → m < n → AllByRecursion (λ x. x < 2 ^ 80) xs → fold (λ k x. k * 2 ^ 80 + x) m xs < fold (λ k x. k * 2 ^ 80 + x) n ys
falls [] [] m n same less small = less
falls [] (y ∷ ys) m n same less small = absurd (omega (arith, same))
falls (x ∷ xs) [] m n same less small = absurd (omega (arith, same))
falls (x ∷ xs) (y ∷ ys) m n same less small = falls xs ys (m * 2 ^ 80 + x) (n * 2 ^ 80 + y) (omega (arith, same)) (one_falls m n x y less small.0) small.1

same_first : (a b m n : ℕ) → a ≡ b → m < n → (0 * 2 ^ 80 + a) * 2 ^ 80 + m < (0 * 2 ^ 80 + b) * 2 ^ 80 + n
same_first a b m n same less = omega (arith, same, less)

-- fewer components are down, and no packet was put out
pub fewer_down : (w v : World) → length v.packets ≡ length w.packets → count_by is_down v.nodes < count_by is_down w.nodes
    → length v.waiting < 2 ^ 80 → sum_by unshown v.nodes < 2 ^ 80 → sum_by buffered v.nodes < 2 ^ 80 → sum_by since_checkpoint v.nodes < 2 ^ 80 → measure v < measure w
fewer_down w v same fewer waiting shown forced since =
    falls (length v.waiting ∷ sum_by unshown v.nodes ∷ sum_by buffered v.nodes ∷ sum_by since_checkpoint v.nodes ∷ []) (length w.waiting ∷ sum_by unshown w.nodes ∷ sum_by buffered w.nodes ∷ sum_by since_checkpoint w.nodes ∷ [])
    ((0 * 2 ^ 80 + (PACKETS - length v.packets)) * 2 ^ 80 + count_by is_down v.nodes) ((0 * 2 ^ 80 + (PACKETS - length w.packets)) * 2 ^ 80 + count_by is_down w.nodes)
    refl (same_first (PACKETS - length v.packets) (PACKETS - length w.packets) (count_by is_down v.nodes) (count_by is_down w.nodes) (ap (λ n. PACKETS - n) same) fewer) (waiting, (shown, (forced, (since, tt))))
