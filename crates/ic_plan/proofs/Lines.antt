-- How lines are read one after the other.
use Rattle.std.proofs.Common.{◌≡◌, ◌≤◌, ◌+◌, arith, length, length-append, ℕ, Bool, List, [], ◌∷◌, ◌++◌, refl, ap, sym, ◌∙◌, append_assoc}
use Rattle.std.specs.Prelude.{Option, Some, None, IfSome, option_to_list, Result, Ok, Err}
use Rattle.std.specs.List.{AllByRecursion}
use Rattle.ic_base.specs.declared.refusals.Cause.{Cause}
use Rattle.ic_base.specs.declared.refusals.Cause.TheVariants.{Limit, NotText, Word, Structure, Twice, Unknown, Arity, Memory}
use Rattle.ic_base.specs.declared.scenario.Program.{Program}
use Rattle.std.proofs.lemmas.List.{append-nil}
use Rattle.def_standby.specs.Reading.{line_orders, all_orders}
use Rattle.def_syntax.specs.Text.{◌>>=◌}
use Rattle.def_syntax.specs.Scenario.{Refusal, at_line}
use Rattle.def_syntax.specs.Schedule.{Forms, line_events, all_events}
use Rattle.ic_plan.specs.Events.{RefusedBy}
use Rattle.ic_plan.specs.Refusals.{RefusedAt, line_for}

module _ {X : Type 0} where
  -- things in front of those that are still to be read
  abbrev pub in_front : List X → Result (List X × Bool) Refusal → Result (List X × Bool) Refusal
  in_front front (Ok x) = Ok (front ++ x.0, x.1)
  in_front front (Err e) = Err e

  pub none_in_front : (r : Result (List X × Bool) Refusal) → r ≡ in_front [] r
  none_in_front (Ok x) = refl
  none_in_front (Err e) = refl

  more_in_front : (xs ys : List X) (r : Result (List X × Bool) Refusal) → in_front xs (in_front ys r) ≡ in_front (xs ++ ys) r
  more_in_front xs ys (Ok x) = ap (λ (zs : List X). Ok (zs, x.1)) (sym (append_assoc xs ys x.0))
  more_in_front xs ys (Err e) = refl

  abbrev behind : List X → List X × Bool → Result (List X × Bool) Refusal
  behind front rest = Ok (front ++ rest.0, rest.1)

  rest_in_front : (front : List X) (r : Result (List X × Bool) Refusal) → (r >>= behind front) ≡ in_front front r
  rest_in_front front (Ok x) = refl
  rest_in_front front (Err e) = refl

  -- what holds of things holds with one more of which it holds
  pub all_with : (P : X → Type 0) (xs : List X) (o : Option X) → AllByRecursion P xs → IfSome o P → AllByRecursion P (xs ++ option_to_list o)
  all_with P [] None all one = all
  all_with P [] (Some e) all one = (one, tt)
  all_with P (x ∷ xs) o all one = (all.0, all_with P xs o all.1 one)

  -- a line has one at most
  pub one_more : (xs more : List X) (o : Option X) (n : ℕ) → more ≡ xs ++ option_to_list o → length xs + 1 ≤ n → length more + 1 ≤ n + 1
  one_more xs more None n e few = let l = ap length e ∙ length-append xs [] in omega (arith, l, few)
  one_more xs more (Some x) n e few = let l = ap length e ∙ length-append xs (x ∷ []) in omega (arith, l, few)

-- what lines give, by what each gives behind a `halt` or before it
module _ {X : Type 0} (one : Bool → List ℕ → Result (List X × Bool) Cause) (all : Bool → List (ℕ × List ℕ) → Result (List X × Bool) Refusal) where
  pub record ReadsLines : Type 0 where
    pub none : (halts : Bool) → all halts [] ≡ Ok ([], halts)
    pub line : (halts : Bool) (n : ℕ) (line : List ℕ) (lines : List (ℕ × List ℕ)) → all halts ((n, line) ∷ lines) ≡ (at_line n (one halts line) >>= (λ x. all x.1 lines >>= behind x.0))

-- all that a text gives, by what was read in front of these lines
abbrev pub IsRead : {X : Type 0} → (Bool → List (ℕ × List ℕ) → Result (List X × Bool) Refusal) → Bool → List X → List (ℕ × List ℕ) → Result (List X × Bool) Refusal → Type 0
IsRead all halts front lines whole = whole ≡ in_front front (all halts lines)

module _ {X : Type 0} {one : Bool → List ℕ → Result (List X × Bool) Cause} {all : Bool → List (ℕ × List ℕ) → Result (List X × Bool) Refusal} (reads : ReadsLines one all) where
  line_ok : (halts : Bool) (n : ℕ) (line : List ℕ) (lines : List (ℕ × List ℕ)) (xs : List X) (halted : Bool) → one halts line ≡ Ok (xs, halted) → all halts ((n, line) ∷ lines) ≡ in_front xs (all halted lines)
  line_ok halts n line lines xs halted e = reads.line halts n line lines ∙ ap (λ r. at_line n r >>= (λ x. all x.1 lines >>= behind x.0)) e ∙ rest_in_front xs (all halted lines)

  line_err : (halts : Bool) (n : ℕ) (line : List ℕ) (lines : List (ℕ × List ℕ)) (cause : Cause) → one halts line ≡ Err cause → all halts ((n, line) ∷ lines) ≡ Err (n, cause)
  line_err halts n line lines cause e = reads.line halts n line lines ∙ ap (λ r. at_line n r >>= (λ x. all x.1 lines >>= behind x.0)) e

  -- one line more is read
  pub read_more : (halts : Bool) (n : ℕ) (line : List ℕ) (lines : List (ℕ × List ℕ)) (front xs : List X) (halted : Bool) (whole : Result (List X × Bool) Refusal) → one halts line ≡ Ok (xs, halted)
      → IsRead all halts front ((n, line) ∷ lines) whole → IsRead all halted (front ++ xs) lines whole
  read_more halts n line lines front xs halted whole e read = read ∙ ap (in_front front) (line_ok halts n line lines xs halted e) ∙ more_in_front front xs (all halted lines)

  -- no line is left
  pub read_all : (halts : Bool) (front : List X) (whole : Result (List X × Bool) Refusal) → IsRead all halts front [] whole → whole ≡ Ok (front, halts)
  read_all halts front whole read = read ∙ ap (in_front front) (reads.none halts) ∙ ap (λ (xs : List X). Ok (xs, halts)) (append-nil front)

  read_err : (halts : Bool) (n : ℕ) (line : List ℕ) (lines : List (ℕ × List ℕ)) (front : List X) (cause : Cause) (whole : Result (List X × Bool) Refusal) → one halts line ≡ Err cause → IsRead all halts front ((n, line) ∷ lines) whole → whole ≡ Err (n, cause)
  read_err halts n line lines front cause whole e read = read ∙ ap (in_front front) (line_err halts n line lines cause e)

  -- a line is refused
  pub read_refused : (halts : Bool) (n : ℕ) (line : List ℕ) (lines : List (ℕ × List ℕ)) (front : List X) (cause : Cause) (whole : Result (List X × Bool) Refusal) → RefusedBy (one halts line) cause
      → IsRead all halts front ((n, line) ∷ lines) whole → RefusedAt whole (line_for n cause) cause
  read_refused halts n line lines front Memory whole e read = refl
  read_refused halts n line lines front Limit whole e read = read_err halts n line lines front Limit whole e read
  read_refused halts n line lines front NotText whole e read = read_err halts n line lines front NotText whole e read
  read_refused halts n line lines front Word whole e read = read_err halts n line lines front Word whole e read
  read_refused halts n line lines front Structure whole e read = read_err halts n line lines front Structure whole e read
  read_refused halts n line lines front Twice whole e read = read_err halts n line lines front Twice whole e read
  read_refused halts n line lines front Unknown whole e read = read_err halts n line lines front Unknown whole e read
  read_refused halts n line lines front Arity whole e read = read_err halts n line lines front Arity whole e read

pub event_lines : (fs : Forms) (p : Program) → ReadsLines (line_events fs p) (all_events fs p)
unfolding all_events
event_lines fs p = record { none = λ halts. refl; line = λ halts n line lines. refl }

pub order_lines : (p : Program) → ReadsLines (line_orders p) (all_orders p)
unfolding all_orders
order_lines p = record { none = λ halts. refl; line = λ halts n line lines. refl }
