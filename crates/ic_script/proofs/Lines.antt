-- How the lines of a script are read one after the other.
use Rattle.std.proofs.Common.{◌≡◌, ◌∙◌, ap, sym, refl, ℕ, ◌+◌, List, [], ◌∷◌, ◌++◌, append_assoc, ◌<◌, ◌≤◌, length}
use Rattle.std.specs.Prelude.{Result, Ok, Err, if◌then◌else◌}
use Rattle.std.proofs.lemmas.Bool.{lt-ltb, le-ltb}
use Rattle.std.proofs.lemmas.List.{append-nil}
use Rattle.ic_base.specs.declared.refusals.Cause.{Cause}
use Rattle.ic_base.specs.declared.refusals.Cause.TheVariants.{Limit, NotText, Word, Structure, Twice, Unknown, Arity, Memory}
use Rattle.def_syntax.specs.Text.{◌>>=◌}
use Rattle.def_syntax.specs.Scenario.{Refusal, at_line}
use Rattle.def_two.specs.declared.script.Event2.{Event2}
use Rattle.def_two.specs.Script.{SoFar, Read, TheScript, reads_line, reads_lines, if_any}
use Rattle.ic_script.specs.Reading.{in_front, RefusedBy, RefusedAt, line_for}

-- events in front of those of the lines that are still to be read
abbrev pub all_in_front : List Event2 → Result Read Refusal → Result Read Refusal
all_in_front front (Ok x) = Ok (x.0, front ++ x.1)
all_in_front front (Err e) = Err e

pub none_in_front : (r : Result Read Refusal) → r ≡ all_in_front [] r
none_in_front (Ok x) = refl
none_in_front (Err e) = refl

more_in_front : (xs ys zs : List Event2) (r : Result Read Refusal) → xs ++ ys ≡ zs → all_in_front xs (r >>= λ rest. Ok (rest.0, ys ++ rest.1)) ≡ all_in_front zs r
more_in_front xs ys zs (Ok x) is = ap (λ (es : List Event2). Ok (x.0, es)) (sym (append_assoc xs ys x.1) ∙ ap (λ l. l ++ x.1) is)
more_in_front xs ys zs (Err e) is = refl

-- all that a text gives, by what was read in front of these lines
abbrev pub IsRead : SoFar → List Event2 → List (ℕ × List ℕ) → Result Read Refusal → Type 0
IsRead x front lines all = all ≡ all_in_front front (reads_lines x lines)

given_is : (a b : Read) → ◌≡◌ {A = Result Read Cause} (Ok a) (Ok b) → a ≡ b
given_is a b e = cc

line_step : (x y : SoFar) (n : ℕ) (line : List ℕ) (lines : List (ℕ × List ℕ)) (front now : List Event2) (r : Result Read Cause) → reads_line x line ≡ r → in_front front r ≡ Ok (y, now)
    → all_in_front front (reads_lines x ((n, line) ∷ lines)) ≡ all_in_front now (reads_lines y lines)
unfolding reads_lines
line_step x y n line lines front now (Ok given) is taken =
    let same = given_is (given.0, front ++ given.1) (y, now) taken in
    ap (λ r. all_in_front front (at_line n r >>= λ z. (reads_lines z.0 lines >>= λ rest. Ok (rest.0, z.1 ++ rest.1)))) is
    ∙ more_in_front front given.1 now (reads_lines given.0 lines) (ap (λ (z : Read). z.1) same)
    ∙ ap (λ z. all_in_front now (reads_lines z lines)) (ap (λ (z : Read). z.0) same)
line_step x y n line lines front now (Err cause) is taken = cc

-- one line more is read
pub read_more : (x y : SoFar) (n : ℕ) (line : List ℕ) (lines : List (ℕ × List ℕ)) (front now : List Event2) (all : Result Read Refusal) → in_front front (reads_line x line) ≡ Ok (y, now)
    → IsRead x front ((n, line) ∷ lines) all → IsRead y now lines all
read_more x y n line lines front now all taken read = read ∙ line_step x y n line lines front now (reads_line x line) refl taken

-- no line is left
pub read_all : (x : SoFar) (front : List Event2) (all : Result Read Refusal) → IsRead x front [] all → all ≡ Ok (x, front)
unfolding reads_lines
read_all x front all read = read ∙ ap (λ (es : List Event2). Ok (x, es)) (append-nil front)

line_err : (x : SoFar) (n : ℕ) (line : List ℕ) (lines : List (ℕ × List ℕ)) (cause : Cause) → reads_line x line ≡ Err cause → reads_lines x ((n, line) ∷ lines) ≡ Err (n, cause)
unfolding reads_lines
line_err x n line lines cause e = ap (λ r. at_line n r >>= λ z. (reads_lines z.0 lines >>= λ rest. Ok (rest.0, z.1 ++ rest.1))) e

read_err : (x : SoFar) (n : ℕ) (line : List ℕ) (lines : List (ℕ × List ℕ)) (front : List Event2) (cause : Cause) (all : Result Read Refusal) → reads_line x line ≡ Err cause → IsRead x front ((n, line) ∷ lines) all → all ≡ Err (n, cause)
read_err x n line lines front cause all e read = read ∙ ap (all_in_front front) (line_err x n line lines cause e)

-- a line is refused
pub read_refused : (x : SoFar) (n : ℕ) (line : List ℕ) (lines : List (ℕ × List ℕ)) (front : List Event2) (cause : Cause) (all : Result Read Refusal) → RefusedBy (reads_line x line) cause
    → IsRead x front ((n, line) ∷ lines) all → RefusedAt all (line_for n cause) cause
read_refused x n line lines front Memory all e read = refl
read_refused x n line lines front Limit all e read = read_err x n line lines front Limit all e read
read_refused x n line lines front NotText all e read = read_err x n line lines front NotText all e read
read_refused x n line lines front Word all e read = read_err x n line lines front Word all e read
read_refused x n line lines front Structure all e read = read_err x n line lines front Structure all e read
read_refused x n line lines front Twice all e read = read_err x n line lines front Twice all e read
read_refused x n line lines front Unknown all e read = read_err x n line lines front Unknown all e read
read_refused x n line lines front Arity all e read = read_err x n line lines front Arity all e read

-- the end --------------------------------------------------------------------------------

-- what the lines are refused for, the text is refused for
pub refused_on : (all : Result Read Refusal) (f : Read → Result TheScript Refusal) (line : ℕ) (cause : Cause) → RefusedAt all line cause → RefusedAt (all >>= f) line cause
refused_on all f line Memory e = e
refused_on all f line Limit e = ap (λ r. r >>= f) e
refused_on all f line NotText e = ap (λ r. r >>= f) e
refused_on all f line Word e = ap (λ r. r >>= f) e
refused_on all f line Structure e = ap (λ r. r >>= f) e
refused_on all f line Twice e = ap (λ r. r >>= f) e
refused_on all f line Unknown e = ap (λ r. r >>= f) e
refused_on all f line Arity e = ap (λ r. r >>= f) e

-- a text without a book is refused behind its last line
pub ends_without : (lines n : ℕ) (all : Result Read Refusal) (x : SoFar) (events : List Event2) → all ≡ Ok (x, events) → length x.books < 1 → n ≡ lines + 1 → (all >>= if_any lines) ≡ Err (n, Structure)
ends_without lines n all x events read none at =
    ap (λ r. r >>= if_any lines) read
    ∙ ap (λ z. if z then Err (lines + 1, Structure) else Ok (record { books = x.books; events = events })) (lt-ltb (length x.books) 1 none)
    ∙ ap (λ k. Err (k, Structure)) (sym at)

pub ends_with : (lines : ℕ) (all : Result Read Refusal) (x : SoFar) (events : List Event2) → all ≡ Ok (x, events) → 1 ≤ length x.books → (all >>= if_any lines) ≡ Ok (record { books = x.books; events = events })
ends_with lines all x events read some =
    ap (λ r. r >>= if_any lines) read
    ∙ ap (λ z. if z then Err (lines + 1, Structure) else Ok (record { books = x.books; events = events })) (le-ltb (length x.books) 1 some)
