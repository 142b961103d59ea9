-- The tokens of a move's line.
use Rattle.std.proofs.Common.{◌≡◌, ◌∙◌, ap, sym, refl, arith, ℕ, ℤ, ◌-◌, ◌≤◌, List, [], ◌∷◌, length, take, drop, get_or}
use Rattle.std.specs.Prelude.{Option, Some}
use Rattle.ic_base.specs.declared.events.Stop.{Stop}
use Rattle.def_syntax.specs.SyntaxLines.{name_in}
use Rattle.def_syntax.specs.Schedule.{stop_of}
use Rattle.def_two.specs.Script as script
use Rattle.def_two.specs.Script.{number_in, at_least, apart, move_parts, move_of}
use Rattle.ic_tokens.specs.declared.scan.Token.{Token}
use Rattle.ic_tokens.specs.Views.{seen_token, seen_tokens}

whole : (ts : List Token) (n : ℕ) → n ≡ length ts → take n ts ≡ ts
whole [] n is = ap (λ k. take k []) is
whole (t ∷ ts) n is = ap (λ k. take k (t ∷ ts)) is ∙ ap (λ l. t ∷ l) (whole ts (length ts) refl)

module _ (from : List ℕ) (source : ℤ) (to : List ℕ) (target : ℤ) (amount : ℕ) (s : Option Stop) where
  parts_are : (o : Option (List ℕ)) (p : Option ℤ) (q : Option (List ℕ)) (r : Option ℤ) (a : Option ℕ) (t : Option (Option Stop)) → Some from ≡ o → p ≡ Some source → Some to ≡ q → r ≡ Some target → a ≡ Some amount → Some s ≡ t
      → apart from to (script.MoveOf from source to target amount s) ≡ move_parts o p q r a t
  parts_are o p q r a t fo fp fq fr fa ft =
      ap (λ z. move_parts z (Some source) (Some to) (Some target) (Some amount) (Some s)) fo ∙ ap (λ z. move_parts o z (Some to) (Some target) (Some amount) (Some s)) (sym fp)
      ∙ ap (λ z. move_parts o p z (Some target) (Some amount) (Some s)) fq ∙ ap (λ z. move_parts o p q z (Some amount) (Some s)) (sym fr)
      ∙ ap (λ z. move_parts o p q r z (Some s)) (sym fa) ∙ ap (λ z. move_parts o p q r a z) ft

  -- two names, each with a number, an amount, and nothing or a stop
  pub move_found : (line : List ℕ) (ts : List Token) (d : Token) → 5 ≤ length ts → Some from ≡ name_in (seen_token line (get_or ts 0 d)) → number_in (seen_token line (get_or ts 1 d)) ≡ Some source → Some to ≡ name_in (seen_token line (get_or ts 2 d))
      → number_in (seen_token line (get_or ts 3 d)) ≡ Some target → at_least 1 (seen_token line (get_or ts 4 d)) ≡ Some amount → Some s ≡ stop_of (seen_tokens line (take (length ts - 5) (drop 5 ts)))
      → apart from to (script.MoveOf from source to target amount s) ≡ move_of (seen_tokens line ts)
  move_found line [] d long fo fp fq fr fa ft = absurd (omega (arith, long))
  move_found line (a ∷ []) d long fo fp fq fr fa ft = absurd (omega (arith, long))
  move_found line (a ∷ b ∷ []) d long fo fp fq fr fa ft = absurd (omega (arith, long))
  move_found line (a ∷ b ∷ e ∷ []) d long fo fp fq fr fa ft = absurd (omega (arith, long))
  move_found line (a ∷ b ∷ e ∷ g ∷ []) d long fo fp fq fr fa ft = absurd (omega (arith, long))
  move_found line (a ∷ b ∷ e ∷ g ∷ h ∷ ts) d long fo fp fq fr fa ft =
      parts_are _ _ _ _ _ (stop_of (seen_tokens line ts)) fo fp fq fr fa (ft ∙ ap (λ l. stop_of (seen_tokens line l)) (whole ts (length (a ∷ b ∷ e ∷ g ∷ h ∷ ts) - 5) (omega arith)))
