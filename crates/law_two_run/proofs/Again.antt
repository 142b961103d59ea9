-- What was written is read again, whatever follows it.
use Rattle.std.proofs.Common.{◌≡◌, refl, ◌∙◌, ap, ℕ, ◌^◌, ◌<◌, Bool, true, false, List, [], ◌∷◌, ◌++◌, Some, append_assoc, arith}
use Rattle.std.specs.Prelude.{nat_lt, option_map}
use Rattle.std.specs.Int.{w8, w16, w64, to_be_bytes}
use Rattle.std.proofs.lemmas.Bool.Decides.{nat_tests}
use Rattle.ic_base.specs.declared.limits.TheConstants.{COMPONENTS}
use Rattle.def_log.specs.Spelling.{number}
use Rattle.def_log.specs.Reading.{number_at, tested_at, count_at}
use Rattle.def_log.proofs.Again.{goes_on, wide16, wide64, number_again, byte_again, tested_again, count_again}
use Rattle.def_two.specs.declared.moves.Move.{Move}
use Rattle.def_two.specs.declared.moves.Cause2.{Cause2}
use Rattle.def_two.specs.declared.moves.Cause2.TheVariants.{Short, Over}
use Rattle.def_two.specs.declared.moves.Ruling.{Ruling}
use Rattle.def_two.specs.declared.moves.Ruling.TheVariants.{Yes, No}
use Rattle.def_two.specs.declared.moves.Record2.TheVariants.{Begun, Verdict, Ready, Ended}
use Rattle.def_two.specs.Records.{move_bytes, cause_bytes, ruling_bytes, yes_byte, MoveFits, RulingFits, book_at, move_at, numbers_at, cause_at, no_at, ruling_at, yes_at, verdict_at, ended_at, record2_at}
use Rattle.law_two_run.specs.Torn.{IsReadAgain2}

book_again : (b : ℕ) (rest : List ℕ) → b < COMPONENTS → book_at (b ∷ rest) ≡ Some (b, rest)
unfolding book_at
book_again b rest lt = tested_again w8 (λ n. nat_lt n 32) (b ∷ rest) rest b (byte_again b rest) (grind (arith, nat_tests))

key_again : (n : ℕ) (rest : List ℕ) → n < 2 ^ 16 → number_at w16 (to_be_bytes w16 n ++ rest) ≡ Some (n, rest)
key_again n rest lt = number_again w16 (2 ^ 16) wide16 n rest lt

amount_again : (n : ℕ) (rest : List ℕ) → n < 2 ^ 64 → number_at w64 (number n ++ rest) ≡ Some (n, rest)
amount_again n rest lt = number_again w64 (2 ^ 64) wide64 n rest lt

move_again : (m : Move) (rest : List ℕ) → MoveFits m → move_at (move_bytes m ++ rest) ≡ Some (m, rest)
unfolding move_at
move_again m rest fits = ap move_at split ∙ read
  where
    split : move_bytes m ++ rest ≡ number m.n ++ (m.from ∷ (to_be_bytes w16 m.source ++ (m.to ∷ (to_be_bytes w16 m.target ++ (number m.amount ++ rest)))))
    split = refl

    read : move_at (number m.n ++ (m.from ∷ (to_be_bytes w16 m.source ++ (m.to ∷ (to_be_bytes w16 m.target ++ (number m.amount ++ rest)))))) ≡ Some (m, rest)
    read =
        goes_on _ (count_at (number m.n ++ (m.from ∷ (to_be_bytes w16 m.source ++ (m.to ∷ (to_be_bytes w16 m.target ++ (number m.amount ++ rest))))))) (m.n, m.from ∷ (to_be_bytes w16 m.source ++ (m.to ∷ (to_be_bytes w16 m.target ++ (number m.amount ++ rest))))) (count_again m.n _ fits.0)
        ∙ goes_on _ (book_at (m.from ∷ (to_be_bytes w16 m.source ++ (m.to ∷ (to_be_bytes w16 m.target ++ (number m.amount ++ rest)))))) (m.from, to_be_bytes w16 m.source ++ (m.to ∷ (to_be_bytes w16 m.target ++ (number m.amount ++ rest)))) (book_again m.from _ fits.1)
        ∙ goes_on _ (number_at w16 (to_be_bytes w16 m.source ++ (m.to ∷ (to_be_bytes w16 m.target ++ (number m.amount ++ rest))))) (m.source, m.to ∷ (to_be_bytes w16 m.target ++ (number m.amount ++ rest))) (key_again m.source _ fits.2)
        ∙ goes_on _ (book_at (m.to ∷ (to_be_bytes w16 m.target ++ (number m.amount ++ rest)))) (m.to, to_be_bytes w16 m.target ++ (number m.amount ++ rest)) (book_again m.to _ fits.3)
        ∙ goes_on _ (number_at w16 (to_be_bytes w16 m.target ++ (number m.amount ++ rest))) (m.target, number m.amount ++ rest) (key_again m.target _ fits.4)
        ∙ goes_on _ (number_at w64 (number m.amount ++ rest)) (m.amount, rest) (amount_again m.amount rest fits.5)

numbers_again : (f : ℕ → ℕ → Cause2) (value held : ℕ) (rest : List ℕ) → value < 2 ^ 64 → held < 2 ^ 64 → numbers_at f (number value ++ (number held ++ rest)) ≡ Some (f value held, rest)
unfolding numbers_at
numbers_again f value held rest a b =
    goes_on _ (number_at w64 (number value ++ (number held ++ rest))) (value, number held ++ rest) (amount_again value (number held ++ rest) a)
    ∙ goes_on _ (number_at w64 (number held ++ rest)) (held, rest) (amount_again held rest b)

no_again : (book : ℕ) (cause : Cause2) (rest : List ℕ) → RulingFits (No book cause) → no_at (book ∷ (cause_bytes cause ++ rest)) ≡ Some (No book cause, rest)
unfolding no_at cause_at
no_again book (Short value held) rest fits =
    goes_on _ (book_at (book ∷ (1 ∷ (number value ++ (number held ++ rest))))) (book, 1 ∷ (number value ++ (number held ++ rest))) (book_again book _ fits.0)
    ∙ goes_on _ (numbers_at Short (number value ++ (number held ++ rest))) (Short value held, rest) (numbers_again Short value held rest fits.1 fits.2)
no_again book (Over value held) rest fits =
    goes_on _ (book_at (book ∷ (2 ∷ (number value ++ (number held ++ rest))))) (book, 2 ∷ (number value ++ (number held ++ rest))) (book_again book _ fits.0)
    ∙ goes_on _ (numbers_at Over (number value ++ (number held ++ rest))) (Over value held, rest) (numbers_again Over value held rest fits.1 fits.2)

ruling_again : (r : Ruling) (rest : List ℕ) → RulingFits r → ruling_at (ruling_bytes r ++ rest) ≡ Some (r, rest)
unfolding ruling_at
ruling_again Yes rest fits = refl
ruling_again (No book cause) rest fits = no_again book cause rest fits

yes_again : (agreed : Bool) (rest : List ℕ) → yes_at (yes_byte agreed ∷ rest) ≡ Some (agreed, rest)
unfolding yes_at
yes_again true rest = goes_on _ (tested_at w8 (λ n. nat_lt n 2) (1 ∷ rest)) (1, rest) (tested_again w8 (λ n. nat_lt n 2) (1 ∷ rest) rest 1 (byte_again 1 rest) refl)
yes_again false rest = goes_on _ (tested_at w8 (λ n. nat_lt n 2) (0 ∷ rest)) (0, rest) (tested_again w8 (λ n. nat_lt n 2) (0 ∷ rest) rest 0 (byte_again 0 rest) refl)

pub record2_again : IsReadAgain2
unfolding record2_at verdict_at ended_at
record2_again (Begun m) rest fits = ap (option_map (λ (x : Move × List ℕ). (Begun x.0, x.1))) (move_again m rest fits)
record2_again (Ready m) rest fits = ap (option_map (λ (x : Move × List ℕ). (Ready x.0, x.1))) (move_again m rest fits)
record2_again (Verdict n r) rest fits =
    ap verdict_at (append_assoc (number n) (ruling_bytes r) rest)
    ∙ goes_on _ (count_at (number n ++ (ruling_bytes r ++ rest))) (n, ruling_bytes r ++ rest) (count_again n _ fits.0) ∙ goes_on _ (ruling_at (ruling_bytes r ++ rest)) (r, rest) (ruling_again r rest fits.1)
record2_again (Ended n agreed) rest fits =
    ap ended_at (append_assoc (number n) (yes_byte agreed ∷ []) rest)
    ∙ goes_on _ (count_at (number n ++ (yes_byte agreed ∷ rest))) (n, yes_byte agreed ∷ rest) (count_again n _ fits) ∙ goes_on _ (yes_at (yes_byte agreed ∷ rest)) (agreed, rest) (yes_again agreed rest)
