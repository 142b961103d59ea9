-- How the passes go on from line to line.
use Rattle.std.proofs.Common.{◌≡◌, ◌+◌, ◌≤◌, ◌<◌, ℕ, suc, false, List, [], ◌∷◌, ◌++◌, length, reverse, arith, refl, ap, sym, ◌∙◌, append_assoc, IsOk}
use Rattle.ic_base.specs.declared.limits.TheConstants.{TEXT_BYTES}
use Rattle.std.proofs.lemmas.List.{append-nil}
use Rattle.std.proofs.lemmas.Bool.Decides.{nat_tests}
use Rattle.std.specs.Prelude.{Result, Ok, Err, nat_lt}
use Rattle.ic_base.specs.declared.refusals.Cause.{Cause}
use Rattle.ic_base.specs.declared.refusals.Cause.TheVariants.{Memory, Limit}
use Rattle.ic_base.specs.declared.refusals.ScenarioRefused.{ScenarioRefused}
use Rattle.def_syntax.specs.Text.{◌>>=◌, lines_of, numbered}
use Rattle.def_syntax.specs.SyntaxLines.{SyntaxLine}
use Rattle.def_syntax.specs.Scope.{Declared, Scope, empty_scope, passes, scope_with}
use Rattle.def_syntax.specs.Lines.{Line}
use Rattle.def_syntax.specs.Scenario.{Refusal, at_line, seen_behind, checked, named, all_named, scenario_of}
use Rattle.def_syntax.proofs.Parts.{taken}
use Rattle.ic_syntax.specs.Passes.{Refuses, Course, course, behind_line, with_front}

-- behind a line that isn't refused
pub checked_ok : (last n : ℕ) (seen next : Scope) (line : List ℕ) (ls : List (ℕ × List ℕ)) → seen_behind seen line ≡ Ok next → checked last seen ((n, line) ∷ ls) ≡ checked last next ls
unfolding checked
checked_ok last n seen next line ls e = rw e refl

-- at the first line that is refused
pub checked_err : (last n : ℕ) (seen : Scope) (cause : Cause) (line : List ℕ) (ls : List (ℕ × List ℕ)) → seen_behind seen line ≡ Err cause → checked last seen ((n, line) ∷ ls) ≡ Err (n, cause)
unfolding checked
checked_err last n seen cause line ls e = rw e refl

first_taken : (n : ℕ) (r : Result Scope Cause) (f : Scope → Result Scope Refusal) → IsOk (at_line n r >>= f) → IsOk r
first_taken n (Ok seen) f e = refl
first_taken n (Err c) f e = e

-- the first of the lines that the first pass takes
pub takes_first : (last n : ℕ) (seen : Scope) (line : List ℕ) (ls : List (ℕ × List ℕ)) → IsOk (checked last seen ((n, line) ∷ ls)) → IsOk (seen_behind seen line)
unfolding checked
takes_first last n seen line ls e = first_taken n (seen_behind seen line) (λ next. checked last next ls) e

taken_within : (seen : Scope) (item : SyntaxLine) (r : Result Scope Cause) → scope_with seen item ≡ r → IsOk r → passes seen item ≡ false
taken_within seen item (Ok next) e t = (taken seen item next e).within
taken_within seen item (Err c) e t = absurd (cc)

-- an item that may stand behind the lines so far passes no limit
pub takes_within : (seen : Scope) (item : SyntaxLine) → IsOk (scope_with seen item) → passes seen item ≡ false
takes_within seen item t = taken_within seen item (scope_with seen item) refl t

-- lines behind lines in front
regrouped : (front ls : List Line) (rest : Result (List Line) Refusal) → with_front front (rest >>= (λ rs. Ok (ls ++ rs))) ≡ with_front (front ++ ls) rest
regrouped front ls (Ok rs) = ap (λ xs. Ok xs) (sym (append_assoc front ls rs))
regrouped front ls (Err e) = refl

abbrev pub placed : List Line → Scope → Course
placed ls seen = (ls, seen)

go_on : (n : ℕ) (a : Result (List Line) Cause) (b : Result Scope Cause) (f : Scope → Result (List Line) Refusal) (before after : List Line) (next : Scope)
    → (a >>= (λ ls. b >>= (λ s. Ok (course before ls s)))) ≡ Ok (placed after next)
    → with_front before (at_line n a >>= (λ ls. at_line n b >>= (λ s. f s >>= (λ rs. Ok (ls ++ rs))))) ≡ with_front after (f next)
go_on n (Ok ls) (Ok s) f before after next e =
    let k : course before ls s ≡ placed after next = cc in
    let x : before ++ ls ≡ after = ap (λ (c : Course). c.0) k in
    let y : s ≡ next = ap (λ (c : Course). c.1) k in
    regrouped before ls (f s) ∙ ap (λ xs. with_front xs (f s)) x ∙ ap (λ t. with_front after (f t)) y
go_on n (Ok ls) (Err c) f before after next e = cc
go_on n (Err c) b f before after next e = cc

stops : (n : ℕ) (a : Result (List Line) Cause) (b : Result Scope Cause) (f : Scope → Result (List Line) Refusal) (before : List Line) (cause : Cause)
    → (a >>= (λ ls. b >>= (λ s. Ok (course before ls s)))) ≡ Err cause
    → with_front before (at_line n a >>= (λ ls. at_line n b >>= (λ s. f s >>= (λ rs. Ok (ls ++ rs))))) ≡ Err (n, cause)
stops n (Ok ls) (Ok s) f before cause e = cc
stops n (Ok ls) (Err c) f before cause e = let x : c ≡ cause = cc in ap (λ d. Err (n, d)) x
stops n (Err c) b f before cause e = let x : c ≡ cause = cc in ap (λ d. Err (n, d)) x

-- the same in the second pass
pub named_ok : (all : List Declared) (n : ℕ) (seen next : Scope) (line : List ℕ) (ls : List (ℕ × List ℕ)) (before after : List Line) → behind_line all n line (placed before seen) ≡ Ok (placed after next) → with_front before (all_named all seen ((n, line) ∷ ls)) ≡ with_front after (all_named all next ls)
unfolding all_named
named_ok all n seen next line ls before after e = go_on n (named all seen n line) (seen_behind seen line) (λ s. all_named all s ls) before after next e

pub named_err : (all : List Declared) (n : ℕ) (seen : Scope) (cause : Cause) (line : List ℕ) (ls : List (ℕ × List ℕ)) (before : List Line) → behind_line all n line (placed before seen) ≡ Err cause → with_front before (all_named all seen ((n, line) ∷ ls)) ≡ Err (n, cause)
unfolding all_named
named_err all n seen cause line ls before e = stops n (named all seen n line) (seen_behind seen line) (λ s. all_named all s ls) before cause e

stood : (a : Result (List Line) Cause) (b : Result Scope Cause) (before after : List Line) (next : Scope) → (a >>= (λ ls. b >>= (λ s. Ok (course before ls s)))) ≡ Ok (placed after next) → b ≡ Ok next
stood (Ok ls) (Ok s) before after next e =
    let k : course before ls s ≡ placed after next = cc in
    ap (λ (s : Scope). Ok s) (ap (λ (c : Course). c.1) k)
stood (Ok ls) (Err c) before after next e = absurd (cc)
stood (Err c) b before after next e = absurd (cc)

-- the first pass goes on behind the same line
pub checked_named : (all : List Declared) (last n : ℕ) (seen next : Scope) (line : List ℕ) (ls : List (ℕ × List ℕ)) (before after : List Line) → behind_line all n line (placed before seen) ≡ Ok (placed after next) → checked last seen ((n, line) ∷ ls) ≡ checked last next ls
checked_named all last n seen next line ls before after e = checked_ok last n seen next line ls (stood (named all seen n line) (seen_behind seen line) before after next e)

-- a refusal at a line
pub refuses : {A : Type 0} (read : Result A Refusal) (n : ℕ) (cause : Cause) (e : ScenarioRefused) → (e.cause ≡ Memory → e.line ≡ 0) → ((e.cause ≡ Memory → ⊥) → (e.line ≡ n) × (e.cause ≡ cause)) → ((cause ≡ Memory → ⊥) → read ≡ Err (n, cause)) → Refuses read e
refuses read n cause e m o r = record {
  memory = m;
  other = λ not. r (λ k. not ((o not).1 ∙ k)) ∙ ap (λ k. Err (k, cause)) (sym (o not).0) ∙ ap (λ k. Err (e.line, k)) (sym (o not).1);
}

-- in front of all lines
pub no_front : (read : Result (List Line) Refusal) → read ≡ with_front [] read
no_front (Ok ls) = refl
no_front (Err e) = refl

-- behind all lines
pub named_all : (all : List Declared) (seen : Scope) (before : List Line) → with_front before (all_named all seen []) ≡ Ok before
unfolding all_named
named_all all seen before = ap (λ ls. Ok ls) (append-nil before)

abbrev pub lines_in : List ℕ → List (ℕ × List ℕ)
lines_in text = numbered 1 (lines_of text)

abbrev pub first_read : List ℕ → Result Scope Refusal
first_read text = checked (length (lines_of text) + 1) empty_scope (lines_in text)

pub too_long : (text : List ℕ) → TEXT_BYTES < length text → scenario_of text ≡ Err (0, Limit)
unfolding scenario_of
too_long text h = grind (arith, nat_tests)

length-numbered : {X : Type 0} (n : ℕ) (xs : List X) → length (numbered n xs) ≡ length xs
length-numbered n [] = refl
length-numbered n (x ∷ xs) = ap (λ k. suc k) (length-numbered (n + 1) xs)

-- a text that isn't too long is read in two passes
pub two_passes : (text : List ℕ) → length text ≤ TEXT_BYTES → scenario_of text ≡ (first_read text >>= (λ seen. all_named (reverse seen.components) empty_scope (lines_in text)))
unfolding scenario_of
two_passes text h =
    let e : nat_lt TEXT_BYTES (length text) ≡ false = grind (arith, nat_tests) in
    rw e (rw (length-numbered 1 (lines_of text)) refl)

pub refused_first : (text : List ℕ) (e : ScenarioRefused) → length text ≤ TEXT_BYTES → Refuses (first_read text) e → Refuses (scenario_of text) e
refused_first text e h r = record {
  memory = r.memory;
  other = λ not. two_passes text h ∙ ap (λ s. s >>= (λ (seen : Scope). all_named (reverse seen.components) empty_scope (lines_in text))) (r.other not);
}

pub second : (text : List ℕ) (seen : Scope) (all : List Declared) → length text ≤ TEXT_BYTES → first_read text ≡ Ok seen → all ≡ reverse seen.components → scenario_of text ≡ all_named all empty_scope (lines_in text)
second text seen all h o a =
    two_passes text h ∙ ap (λ s. s >>= (λ (seen : Scope). all_named (reverse seen.components) empty_scope (lines_in text))) o ∙ ap (λ cs. all_named cs empty_scope (lines_in text)) (sym a)

pub refused_second : (text : List ℕ) (seen : Scope) (all : List Declared) (e : ScenarioRefused) → length text ≤ TEXT_BYTES → first_read text ≡ Ok seen → all ≡ reverse seen.components → Refuses (all_named all empty_scope (lines_in text)) e → Refuses (scenario_of text) e
refused_second text seen all e h o a r = record {
  memory = r.memory;
  other = λ not. second text seen all h o a ∙ r.other not;
}
