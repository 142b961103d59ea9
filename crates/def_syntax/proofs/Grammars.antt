-- What the two passes read the grammar by relations derives.
use Rattle.std.proofs.Common.{◌≡◌, ◌∙◌, sym, ap, refl, subst, arith, ◌⊎◌, inl, inr, ◌+◌, ◌≤◌, ℕ, List, [], ◌∷◌, ◌++◌, length, reverse, Bool, true, false, Option, Some, None, Result, Ok, Err, nat_lt, if◌then◌else◌}
use Rattle.ic_base.specs.declared.limits.TheConstants.{TEXT_BYTES}
use Rattle.std.proofs.lemmas.Bool.Decides.{nat_tests}
use Rattle.ic_base.specs.declared.refusals.Cause.{Cause}
use Rattle.ic_base.specs.declared.refusals.Cause.TheVariants.{Limit}
use Rattle.def_syntax.specs.Text.{◌>>=◌, lines_of, numbered}
use Rattle.def_syntax.specs.SyntaxLines.{SyntaxLine, line_item}
use Rattle.def_syntax.specs.Scope.{Declared, Frame, Scope, empty_scope, scope_with}
use Rattle.def_syntax.specs.Names.{resolved}
use Rattle.def_syntax.specs.Lines.{Line}
use Rattle.def_syntax.specs.Scenario.{Refusal, at_line, seen_if, seen_behind, at_end, checked, resolved_if, named, all_named, scenario_of}
use Rattle.def_syntax.specs.Grammar.{NumberedLine, Says, no_line, blank_line, item_line, no_component, Derives}
use Rattle.def_syntax.proofs.Parts.{taken}
use Rattle.def_syntax.proofs.Stacks.{IsStack, RestBehind}
use Rattle.def_syntax.proofs.Stacks as stacks
use Rattle.def_syntax.proofs.Derivations.{state}
use Rattle.def_syntax.proofs.ItemSteps.{step_item}

first_parts : (n : ℕ) (r : Result Scope Cause) (f : Scope → Result Scope Refusal) (final : Scope) → (at_line n r >>= f) ≡ Ok final → (next : Scope) × (r ≡ Ok next) × (f next ≡ Ok final)
first_parts n (Err c) f final e = absurd (cc)
first_parts n (Ok next) f final e = (next, refl, e)

abbrev Second : Result (List Line) Cause → Result Scope Cause → (Scope → Result (List Line) Refusal) → List Line → Type 0
Second a b f out = (ls : List Line) × (s : Scope) × (rs : List Line) × (a ≡ Ok ls) × (b ≡ Ok s) × (f s ≡ Ok rs) × (out ≡ ls ++ rs)

second_last : (a : Result (List Line) Cause) (b : Result Scope Cause) (f : Scope → Result (List Line) Refusal) (out ls : List Line) (s : Scope) (r : Result (List Line) Refusal) → a ≡ Ok ls → b ≡ Ok s → f s ≡ r → (r >>= (λ rs. Ok (ls ++ rs))) ≡ Ok out → Second a b f out
second_last a b f out ls s (Err c) x y z e = absurd (cc)
second_last a b f out ls s (Ok rs) x y z e = (ls, s, rs, x, y, z, cc)

second_parts : (n : ℕ) (a : Result (List Line) Cause) (b : Result Scope Cause) (f : Scope → Result (List Line) Refusal) (out : List Line) → (at_line n a >>= (λ ls. at_line n b >>= (λ s. f s >>= (λ rs. Ok (ls ++ rs))))) ≡ Ok out → Second a b f out
second_parts n (Err c) b f out e = absurd (cc)
second_parts n (Ok ls) (Err c) f out e = absurd (cc)
second_parts n (Ok ls) (Ok s) f out e = second_last (Ok ls) (Ok s) f out ls s (f s) refl refl refl e

-- a line without a token, or with an item
abbrev IsBlank : Result (Option SyntaxLine) Cause → Scope → Scope → List Line → Type 0
IsBlank r seen next ls = (r ≡ Ok None) × (next ≡ seen) × (ls ≡ [])

abbrev HasItem : List Declared → ℕ → Result (Option SyntaxLine) Cause → Scope → Scope → List Line → Type 0
HasItem all n r seen next ls = (item : SyntaxLine) × (r ≡ Ok (Some item)) × (scope_with seen item ≡ Ok next) × (resolved all seen n item ≡ Ok ls)

item_parts : (all : List Declared) (n : ℕ) (r : Result (Option SyntaxLine) Cause) (seen next : Scope) (ls : List Line) → (r >>= seen_if seen) ≡ Ok next → (r >>= resolved_if all seen n) ≡ Ok ls → IsBlank r seen next ls ⊎ HasItem all n r seen next ls
item_parts all n (Err c) seen next ls a b = absurd (cc)
item_parts all n (Ok None) seen next ls a b = inl (refl, cc, cc)
item_parts all n (Ok (Some item)) seen next ls a b = inr (item, refl, a, b)

line_parts : (all : List Declared) (n : ℕ) (line : List ℕ) (seen next : Scope) (ls : List Line) → seen_behind seen line ≡ Ok next → named all seen n line ≡ Ok ls → IsBlank (line_item line) seen next ls ⊎ HasItem all n (line_item line) seen next ls
unfolding seen_behind named
line_parts all n line seen next ls a b = item_parts all n (line_item line) seen next ls a b

-- items that the lines say, and that what follows is derived from
abbrev Follows : List Declared → ℕ → List (List ℕ) → Scope → List Line → Type 0
Follows all n lines seen out = (is : List NumberedLine) × Says n lines is × RestBehind all seen is out

abbrev read_seen : Scope → Result Scope Cause
read_seen seen = Ok seen

same_seen : (r : Result Scope Cause) (a b : Scope) → r ≡ Ok a → r ≡ Ok b → a ≡ b
same_seen r a b x y = let z : read_seen a ≡ read_seen b = sym x ∙ y in cc

abbrev read_lines : List Line → Result (List Line) Refusal
read_lines ls = Ok ls

no_more : (last n : ℕ) (cs : List Declared) (fs : List Frame) (ps : List (List ℕ)) (s g : ℕ) (t : List ℕ) (final : Scope) (all : List Declared) (out : List Line)
    → at_end last fs (state cs fs ps s g t) ≡ Ok final → read_lines [] ≡ read_lines out → all ≡ reverse final.components → Follows all n [] (state cs fs ps s g t) out
no_more last n cs [] ps s g t final all out a b e =
    let x : state cs [] ps s g t ≡ final = cc in
    let y : all ≡ reverse cs = e ∙ sym (ap (λ (seen : Scope). reverse seen.components) x) in
    let z : [] ≡ out = cc in
    subst (λ (o : List Line). Follows all n [] (state cs [] ps s g t) o) z ([], no_line, no_component y)
no_more last n cs (f ∷ fs) ps s g t final all out a b e = absurd (cc)

pub follows : (lines : List (List ℕ)) (last n : ℕ) (seen final : Scope) (all : List Declared) (out : List Line)
    → IsStack seen.components seen.frames → checked last seen (numbered n lines) ≡ Ok final → all_named all seen (numbered n lines) ≡ Ok out → all ≡ reverse final.components → Follows all n lines seen out
unfolding checked all_named
follows [] last n seen final all out i a b e = no_more last n seen.components seen.frames seen.params seen.statements seen.gets seen.tcom final all out a b e
follows (l ∷ ls) last n seen final all out i a b e =
    let x = first_parts n (seen_behind seen l) (λ next. checked last next (numbered (n + 1) ls)) final a in
    let y = second_parts n (named all seen n l) (seen_behind seen l) (λ next. all_named all next (numbered (n + 1) ls)) out b in
    let s = same_seen (seen_behind seen l) x.0 y.1 x.1 y.4 in
    let q = subst (λ (z : Scope). all_named all z (numbered (n + 1) ls) ≡ Ok y.2) (sym s) y.5 in
    elim (line_parts all n l seen x.0 y.0 x.1 y.3) [
      | inl k ↦
          let r = follows ls last (n + 1) x.0 final all y.2 (subst (λ (z : Scope). IsStack z.components z.frames) (sym k.1) i) x.2 q e in
          let o : y.2 ≡ out = sym (y.6 ∙ ap (λ (z : List Line). z ++ y.2) k.2) in
          (r.0, blank_line k.0 r.1, subst (λ (o : List Line). RestBehind all seen r.0 o) o (subst (λ (z : Scope). RestBehind all z r.0 y.2) k.1 r.2))
      | inr k ↦
          let d = taken seen k.0 x.0 k.2 in
          let w = step_item all seen k.0 n y.0 d.move i (record { free = d.free; placed = d.placed; moves = d.moves; new = d.new; within = d.within; means = k.3 }) in
          let j = subst (λ (z : Scope). IsStack z.components z.frames) (sym d.next_is) w.stack in
          let r = follows ls last (n + 1) x.0 final all y.2 j x.2 q e in
          ((n, k.0) ∷ r.0, item_line k.1 r.1, subst (λ (o : List Line). RestBehind all seen ((n, k.0) ∷ r.0) o) (sym y.6) (w.back r.0 y.2 (subst (λ (z : Scope). RestBehind all z r.0 y.2) d.next_is r.2)))
    ]

short_enough : (text : List ℕ) → nat_lt TEXT_BYTES (length text) ≡ false → length text ≤ TEXT_BYTES
short_enough text e = grind (arith, nat_tests)

whole_parts : (r : Result Scope Refusal) (f : Scope → Result (List Line) Refusal) (out : List Line) → (r >>= f) ≡ Ok out → (seen : Scope) × (r ≡ Ok seen) × (f seen ≡ Ok out)
whole_parts (Err c) f out e = absurd (cc)
whole_parts (Ok seen) f out e = (seen, refl, e)

derived : (text : List ℕ) (lines : List (List ℕ)) (long : Bool) (out : List Line)
    → nat_lt TEXT_BYTES (length text) ≡ long → lines_of text ≡ lines
    → (if long then Err (0, Limit) else (checked (length (numbered 1 lines) + 1) empty_scope (numbered 1 lines) >>= (λ (seen : Scope). all_named (reverse seen.components) empty_scope (numbered 1 lines)))) ≡ Ok out
    → Derives text out
derived text lines true out s w e = absurd (cc)
derived text lines false out s w e =
    let x = whole_parts (checked (length (numbered 1 lines) + 1) empty_scope (numbered 1 lines)) (λ (seen : Scope). all_named (reverse seen.components) empty_scope (numbered 1 lines)) out e in
    let r = follows lines (length (numbered 1 lines) + 1) 1 empty_scope x.0 (reverse x.0.components) out stacks.outside x.1 x.2 refl in
    record { short = short_enough text s; all = reverse x.0.components; items = r.0; said = subst (λ (ls : List (List ℕ)). Says 1 ls r.0) (sym w) r.1; components = r.2 }

-- what a text stands for is what the grammar derives
pub is_derived : (text : List ℕ) (out : List Line) → scenario_of text ≡ Ok out → Derives text out
unfolding scenario_of
is_derived text out e = derived text (lines_of text) (nat_lt TEXT_BYTES (length text)) out refl refl e
