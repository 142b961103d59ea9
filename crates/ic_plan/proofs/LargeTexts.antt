-- The lines of the large run, one input after another.
use native.Mathlib.Omega.{arith}
use Rattle.std.specs.Prelude.{◌≡◌, ℕ, suc, ◌+◌, ◌-◌, ◌<◌, ◌≤◌, List, [], ◌∷◌, ◌++◌}
use Rattle.std.proofs.Common.{sym, ap, ◌∙◌, append_assoc}
use Rattle.std.proofs.lemmas.Grind.{flat_map-append}
use Rattle.std.proofs.lemmas.List.{append-nil}
use Rattle.def_syntax.specs.Large.{text_of, drawn, input_lines, inputs_from}

pub text-append : (a b : List (List ℕ)) → text_of (a ++ b) ≡ text_of a ++ text_of b
text-append a b = flat_map-append (λ l. l ++ 10 ∷ []) a b

-- three lists of lines
text-three : (a b c : List (List ℕ)) → text_of (a ++ (b ++ c)) ≡ text_of a ++ (text_of b ++ text_of c)
text-three a b c = text-append a (b ++ c) ∙ ap (λ x. text_of a ++ x) (text-append b c)

-- a line, and the lines of three draws
pub wrote : (draw : ℕ → ℕ) (lines : ℕ → List (List ℕ)) (line t0 t1 t2 t3 t4 : List ℕ) (x y z : ℕ) →
    t1 ≡ t0 ++ (line ++ 10 ∷ []) → t2 ≡ t1 ++ text_of (lines (draw x)) → t3 ≡ t2 ++ text_of (lines (draw y)) → t4 ≡ t3 ++ text_of (lines (draw z)) → y ≡ draw x → z ≡ draw y →
    t4 ≡ t0 ++ text_of (line ∷ (lines (draw x) ++ (lines (draw (draw x)) ++ lines (draw (draw (draw x))))))
wrote draw lines line t0 t1 t2 t3 t4 x y z e1 e2 e3 e4 ey ez =
    let a = text_of (lines (draw x)) in
    let b = text_of (lines (draw (draw x))) in
    let c = text_of (lines (draw (draw (draw x)))) in
    let b-is : text_of (lines (draw y)) ≡ b = ap (λ n. text_of (lines (draw n))) ey in
    let c-is : text_of (lines (draw z)) ≡ c = ap (λ n. text_of (lines (draw n))) (ez ∙ ap draw ey) in
    let parts : text_of (lines (draw x) ++ (lines (draw (draw x)) ++ lines (draw (draw (draw x))))) ≡ a ++ (b ++ c) = text-three (lines (draw x)) (lines (draw (draw x))) (lines (draw (draw (draw x)))) in
    let all : t4 ≡ (((t0 ++ (line ++ 10 ∷ [])) ++ a) ++ b) ++ c =
    e4 ∙ ap (λ k. k ++ text_of (lines (draw z))) (e3 ∙ ap (λ k. k ++ text_of (lines (draw y))) (e2 ∙ ap (λ k. k ++ a) e1)) ∙ ap (λ k. (((t0 ++ (line ++ 10 ∷ [])) ++ a) ++ k) ++ text_of (lines (draw z))) b-is ∙ ap (λ k. (((t0 ++ (line ++ 10 ∷ [])) ++ a) ++ b) ++ k) c-is in
    all
    ∙ append_assoc ((t0 ++ (line ++ 10 ∷ [])) ++ a) b c
    ∙ append_assoc (t0 ++ (line ++ 10 ∷ [])) a (b ++ c)
    ∙ append_assoc t0 (line ++ 10 ∷ []) (a ++ (b ++ c))
    ∙ ap (λ k. t0 ++ ((line ++ 10 ∷ []) ++ k)) (sym parts)

-- one input more
pub one-more : (i x : ℕ) → i < 200 → text_of (inputs_from (200 - i) (i + 1) x) ≡ text_of (input_lines (i + 1) x) ++ text_of (inputs_from (200 - (i + 1)) (i + 1 + 1) (drawn (drawn (drawn x))))
one-more i x h =
    let left : 200 - i ≡ suc (200 - (i + 1)) = omega arith in
    ap (λ n. text_of (inputs_from n (i + 1) x)) left ∙ text-append (input_lines (i + 1) x) (inputs_from (200 - (i + 1)) (i + 1 + 1) (drawn (drawn (drawn x))))

pub go-on : (t u all : List ℕ) (i x y : ℕ) → i < 200 → u ≡ t ++ text_of (input_lines (i + 1) x) → y ≡ drawn (drawn (drawn x)) →
    t ++ text_of (inputs_from (200 - i) (i + 1) x) ≡ all → u ++ text_of (inputs_from (200 - (i + 1)) (i + 1 + 1) y) ≡ all
go-on t u all i x y h e n so =
    let rest = text_of (inputs_from (200 - (i + 1)) (i + 1 + 1) (drawn (drawn (drawn x)))) in
    ap (λ k. u ++ text_of (inputs_from (200 - (i + 1)) (i + 1 + 1) k)) n
    ∙ ap (λ k. k ++ rest) e
    ∙ append_assoc t (text_of (input_lines (i + 1) x)) rest
    ∙ ap (λ k. t ++ k) (sym (one-more i x h))
    ∙ so

pub at-end : (t all : List ℕ) (i x : ℕ) → 200 ≤ i → t ++ text_of (inputs_from (200 - i) (i + 1) x) ≡ all → t ≡ all
at-end t all i x h so =
    let none : 200 - i ≡ 0 = omega arith in
    sym (append-nil t) ∙ ap (λ n. t ++ text_of (inputs_from n (i + 1) x)) (sym none) ∙ so
