-- A planned decision may stand next in the chief's log, and passes no limit of a number.
use Rattle.std.proofs.Common.{◌≡◌, ◌∙◌, ap, sym, refl, subst, ℕ, ◌<◌, ◌⊎◌, inl, inr, true, ◌&&◌, Option, Some, None, is_none, Result, Ok, Err}
use Rattle.std.specs.Prelude.{IfOk, IfSome, Contains}
use Rattle.ic_base.specs.declared.limits.TheConstants.{COMPONENTS}
use Rattle.def_two.specs.declared.moves.Cause2.{Cause2}
use Rattle.def_two.specs.declared.moves.Move.{Move}
use Rattle.def_two.specs.declared.moves.Record2.{Record2}
use Rattle.def_two.specs.declared.moves.Ruling.{Ruling}
use Rattle.def_two.specs.declared.moves.Ruling.TheVariants.{Yes, No}
use Rattle.def_two.specs.declared.states.Docket.{Docket}
use Rattle.def_two.specs.Moves.{numbered, is_party}
use Rattle.def_two.specs.Chief.{ruling_of, rules_on, is_ruling_on, docket_fits}
use Rattle.def_two.specs.Records.{IsCounted2, IsCountedMove, IsCountedRuling}
use Rattle.law_two.proofs.Sums.{numbered-has}
use Rattle.law_two.proofs.Deciding.{either-party}
use Rattle.ic_moves.specs.Chiefs.{IsVerdictOn, IsNext}
use Rattle.ic_moves.specs.declared.chief.ChiefPlan.{ChiefPlan}

pub weaker : {E : Type 0} (P Q : Record2 → Type 0) (result : Result ChiefPlan E) → ((r : Record2) → P r → Q r) → IfOk result (λ p. IfSome p.adds P) → IfOk result (λ p. IfSome p.adds Q)
weaker P Q (Err e) f h = tt
weaker P Q (Ok p) f h = at p.adds h
  where
    at : (o : Option Record2) → IfSome o P → IfSome o Q
    at None h = tt
    at (Some r) h = f r h

module _ (d : Docket) (n : ℕ) (m : Move) (book : ℕ) (r : Record2) (is : numbered n d.begun ≡ Some m) (party : is_party book m ≡ true) (v : IsVerdictOn m book r) where
  same_number : n ≡ m.n
  same_number = (numbered-has n d.begun m is).1

  of_party : (ruling : Ruling) → ((b : ℕ) (cause : Cause2) → ruling ≡ No b cause → b ≡ book) → is_ruling_on m ruling ≡ true
  of_party Yes own = refl
  of_party (No b cause) own = ap (λ x. is_party x m) (own b cause refl) ∙ party

  pub verdict_next : ruling_of d n ≡ None → IsNext d r
  verdict_next undecided books =
      ap (docket_fits books d) v.is
      ∙ ap (λ o. is_none o && rules_on (numbered m.n d.begun) v.ruling) (ap (ruling_of d) (sym same_number) ∙ undecided)
      ∙ ap (λ o. rules_on o v.ruling) (ap (λ k. numbered k d.begun) (sym same_number) ∙ is)
      ∙ of_party v.ruling v.of_book

  small : IsCountedMove m → book < COMPONENTS
  small counted = at (either-party m book party)
    where
      at : (m.from ≡ book) ⊎ (m.to ≡ book) → book < COMPONENTS
      at (inl e) = subst (λ b. b < COMPONENTS) e counted.1
      at (inr e) = subst (λ b. b < COMPONENTS) e counted.2

  ruling_counted : IsCountedMove m → (ruling : Ruling) → ((b : ℕ) (cause : Cause2) → ruling ≡ No b cause → b ≡ book) → IsCountedRuling ruling
  ruling_counted counted Yes own = tt
  ruling_counted counted (No b cause) own = subst (λ x. x < COMPONENTS) (sym (own b cause refl)) (small counted)

  pub verdict_counted : ((k : Move) → Contains d.begun k → IsCountedMove k) → IsCounted2 r
  verdict_counted all =
      let counted = all m (numbered-has n d.begun m is).0 in
      subst IsCounted2 (sym v.is) (counted.0, ruling_counted counted v.ruling v.of_book)
