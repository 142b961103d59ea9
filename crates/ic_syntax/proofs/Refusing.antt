-- A text is refused where one of its lines is at fault, and only there.
use Rattle.std.proofs.Common.{◌≡◌, ◌∙◌, refl, sym, ap, subst, arith, ◌⊎◌, inl, inr, ◌<◌, ◌≤◌, ◌+◌, ℕ, List, [], ◌∷◌, ◌++◌, length, reverse, Result, Ok, Err}
use Rattle.ic_base.specs.declared.limits.TheConstants.{TEXT_BYTES}
use Rattle.std.proofs.lemmas.Bool.{cases_lt}
use Rattle.ic_base.specs.declared.refusals.Cause.{Cause}
use Rattle.ic_base.specs.declared.refusals.Cause.TheVariants.{Limit, Structure}
use Rattle.def_syntax.specs.Text.{◌>>=◌, lines_of, numbered}
use Rattle.def_syntax.specs.Scope.{Declared, Frame, Scope, empty_scope}
use Rattle.def_syntax.specs.Lines.{Line}
use Rattle.def_syntax.specs.Scenario.{Refusal, at_line, seen_behind, at_end, checked, named, all_named, scenario_of}
use Rattle.ic_syntax.proofs.Walks as walks
use Rattle.ic_syntax.proofs.Walks.{lines_in, first_read, two_passes}
use Rattle.ic_syntax.specs.Faults.{Stand, none_stand, one_stands, Mean, none_mean, one_means, HasFault, too_long, misplaced, open_end, misnamed}

-- the same of lines behind others, numbered from here on
record Misplaced (n : ℕ) (s : Scope) (lines : List (List ℕ)) (m : ℕ) (cause : Cause) : Type 0 where
  front : List (List ℕ)
  here : List ℕ
  back : List (List ℕ)
  seen : Scope
  cut : lines ≡ front ++ here ∷ back
  number : m ≡ n + length front
  stand : Stand s front seen
  fault : seen_behind seen here ≡ Err cause

record IsOpen (last : ℕ) (s : Scope) (lines : List (List ℕ)) (m : ℕ) (cause : Cause) : Type 0 where
  seen : Scope
  stand : Stand s lines seen
  inside : 0 < length seen.frames
  place : m ≡ last
  fault : cause ≡ Structure

record Misnamed (all : List Declared) (n : ℕ) (s : Scope) (lines : List (List ℕ)) (m : ℕ) (cause : Cause) : Type 0 where
  front : List (List ℕ)
  here : List ℕ
  back : List (List ℕ)
  seen : Scope
  cut : lines ≡ front ++ here ∷ back
  number : m ≡ n + length front
  mean : Mean all n s front seen
  fault : named all seen m here ≡ Err cause

abbrev placed : ℕ → Cause → Refusal
placed n cause = (n, cause)

-- the first pass refuses a line that may not stand, or the end
open_behind : (last : ℕ) (fs : List Frame) (s : Scope) (m : ℕ) (cause : Cause) → fs ≡ s.frames → at_end last fs s ≡ Err (m, cause) → IsOpen last s [] m cause
open_behind last [] s m cause is e = absurd (cc)
open_behind last (f ∷ fs) s m cause is e =
    let r : placed last Structure ≡ placed m cause = cc in
    record { seen = s; stand = none_stand; inside = rw (sym is) (omega arith); place = sym (ap (λ (x : Refusal). x.0) r); fault = sym (ap (λ (x : Refusal). x.1) r) }

step_fault : (n : ℕ) (r : Result Scope Cause) (f : Scope → Result Scope Refusal) (m : ℕ) (cause : Cause) → (at_line n r >>= f) ≡ Err (m, cause) → ((r ≡ Err cause) × (m ≡ n)) ⊎ ((next : Scope) × (r ≡ Ok next) × (f next ≡ Err (m, cause)))
step_fault n (Err c) f m cause e = let r : placed n c ≡ placed m cause = cc in inl (ap (λ (x : Refusal). Err x.1) r, sym (ap (λ (x : Refusal). x.0) r))
step_fault n (Ok next) f m cause e = inr (next, refl, e)

first_fault : (lines : List (List ℕ)) (last n : ℕ) (s : Scope) (m : ℕ) (cause : Cause) → checked last s (numbered n lines) ≡ Err (m, cause) → Misplaced n s lines m cause ⊎ IsOpen last s lines m cause
unfolding checked
first_fault [] last n s m cause e = inr (open_behind last s.frames s m cause refl e)
first_fault (l ∷ ls) last n s m cause e = elim (step_fault n (seen_behind s l) (λ next. checked last next (numbered (n + 1) ls)) m cause e) [
  | inl k ↦ inl (record { front = []; here = l; back = ls; seen = s; cut = refl; number = k.1 ∙ omega arith; stand = none_stand; fault = k.0 })
  | inr k ↦ elim (first_fault ls last (n + 1) k.0 m cause k.2) [
    | inl f ↦
        inl (record {
          front = l ∷ f.front;
          here = f.here;
          back = f.back;
          seen = f.seen;
          cut = ap (λ (ls : List (List ℕ)). l ∷ ls) f.cut;
          number = f.number ∙ omega arith;
          stand = one_stands k.1 f.stand;
          fault = f.fault;
        })
    | inr o ↦ inr (record { seen = o.seen; stand = one_stands k.1 o.stand; inside = o.inside; place = o.place; fault = o.fault })
  ]
]

-- or all lines stand, and no component is open
closed_behind : (last : ℕ) (fs : List Frame) (s final : Scope) → fs ≡ s.frames → at_end last fs s ≡ Ok final → Stand s [] final × (final.frames ≡ [])
closed_behind last [] s final is e = let r : s ≡ final = cc in (subst (λ (t : Scope). Stand s [] t) r none_stand, ap (λ (t : Scope). t.frames) (sym r) ∙ sym is)
closed_behind last (f ∷ fs) s final is e = absurd (cc)

step_stands : (n : ℕ) (r : Result Scope Cause) (f : Scope → Result Scope Refusal) (final : Scope) → (at_line n r >>= f) ≡ Ok final → (next : Scope) × (r ≡ Ok next) × (f next ≡ Ok final)
step_stands n (Err c) f final e = absurd (cc)
step_stands n (Ok next) f final e = (next, refl, e)

all_stand : (lines : List (List ℕ)) (last n : ℕ) (s final : Scope) → checked last s (numbered n lines) ≡ Ok final → Stand s lines final × (final.frames ≡ [])
unfolding checked
all_stand [] last n s final e = closed_behind last s.frames s final refl e
all_stand (l ∷ ls) last n s final e =
    let k = step_stands n (seen_behind s l) (λ next. checked last next (numbered (n + 1) ls)) final e in
    let r = all_stand ls last (n + 1) k.0 final k.2 in
    (one_stands k.1 r.0, r.1)

-- the second pass refuses a line that stands for nothing
step_unnamed : (n : ℕ) (a : Result (List Line) Cause) (b : Result Scope Cause) (t : Scope) (f : Scope → Result (List Line) Refusal) (m : ℕ) (cause : Cause) → b ≡ Ok t
    → (at_line n a >>= (λ ls. at_line n b >>= (λ s. f s >>= (λ rs. Ok (ls ++ rs))))) ≡ Err (m, cause) → ((a ≡ Err cause) × (m ≡ n)) ⊎ ((ls : List Line) × (a ≡ Ok ls) × (f t ≡ Err (m, cause)))
step_unnamed n (Err c) b t f m cause d e = let r : placed n c ≡ placed m cause = cc in inl (ap (λ (x : Refusal). Err x.1) r, sym (ap (λ (x : Refusal). x.0) r))
step_unnamed n (Ok ls) (Err c) t f m cause d e = absurd (cc)
step_unnamed n (Ok ls) (Ok s) t f m cause d e = let r : s ≡ t = cc in inr (ls, refl, ap f (sym r) ∙ kept (f s) e)
  where
    kept : (r : Result (List Line) Refusal) → (r >>= (λ rs. Ok (ls ++ rs))) ≡ Err (m, cause) → r ≡ Err (m, cause)
    kept (Ok rs) e = absurd (cc)
    kept (Err x) e = cc

second_fault : {s u : Scope} {lines : List (List ℕ)} → Stand s lines u → (all : List Declared) (n m : ℕ) (cause : Cause) → all_named all s (numbered n lines) ≡ Err (m, cause) → Misnamed all n s lines m cause
unfolding all_named
second_fault none_stand all n m cause e = absurd (cc)
second_fault (one_stands {s = s} {t = t} {l = l} {ls = ls} next d) all n m cause e = elim (step_unnamed n (named all s n l) (seen_behind s l) t (λ next. all_named all next (numbered (n + 1) ls)) m cause next e) [
  | inl k ↦
      record { front = []; here = l; back = ls; seen = s; cut = refl; number = k.1 ∙ omega arith; mean = none_mean; fault = ap (λ (i : ℕ). named all s i l) k.1 ∙ k.0 }
  | inr k ↦
      let f = second_fault d all (n + 1) m cause k.2 in
      record {
        front = l ∷ f.front;
        here = f.here;
        back = f.back;
        seen = f.seen;
        cut = ap (λ (ls : List (List ℕ)). l ∷ ls) f.cut;
        number = f.number ∙ omega arith;
        mean = one_means k.1 next f.mean;
        fault = f.fault;
      }
]

-- and the other way round
stand_ends : {s u : Scope} {lines : List (List ℕ)} → Stand s lines u → (last n : ℕ) → checked last s (numbered n lines) ≡ at_end last u.frames u
unfolding checked
stand_ends none_stand last n = refl
stand_ends (one_stands next d) last n = rw next (stand_ends d last (n + 1))

stand_refused : {s u : Scope} {front : List (List ℕ)} → Stand s front u → (here : List ℕ) (back : List (List ℕ)) (last n : ℕ) (cause : Cause) → seen_behind u here ≡ Err cause → checked last s (numbered n (front ++ here ∷ back)) ≡ Err (n + length front, cause)
unfolding checked
stand_refused none_stand here back last n cause e = rw e (ap (λ (i : ℕ). Err (i, cause)) (omega arith))
stand_refused (one_stands {ls = ls} next d) here back last n cause e = rw next (stand_refused d here back last (n + 1) cause e ∙ ap (λ (i : ℕ). Err (i, cause)) (omega arith))

mean_refused : {all : List Declared} {k : ℕ} {s u : Scope} {front : List (List ℕ)} → Mean all k s front u → (here : List ℕ) (back : List (List ℕ)) (cause : Cause) → named all u (k + length front) here ≡ Err cause
    → all_named all s (numbered k (front ++ here ∷ back)) ≡ Err (k + length front, cause)
unfolding all_named
mean_refused {all = all} (none_mean {n = n} {s = s}) here back cause e =
    let k : named all s n here ≡ Err cause = ap (λ (i : ℕ). named all s i here) (omega arith) ∙ e in
    rw k (ap (λ (i : ℕ). Err (i, cause)) (omega arith))
mean_refused {all = all} {u = u} (one_means {n = n} {ls = ls} is next d) here back cause e =
    let k : named all u (n + 1 + length ls) here ≡ Err cause = ap (λ (i : ℕ). named all u i here) (omega arith) ∙ e in
    let r = mean_refused d here back cause k in
    rw is (rw next (rw r (ap (λ (i : ℕ). Err (i, cause)) (omega arith))))

passed_first : (r : Result Scope Refusal) (f : Scope → Result (List Line) Refusal) (m : ℕ) (cause : Cause) → (r >>= f) ≡ Err (m, cause) → (r ≡ Err (m, cause)) ⊎ ((seen : Scope) × (r ≡ Ok seen) × (f seen ≡ Err (m, cause)))
passed_first (Err c) f m cause e = inl cc
passed_first (Ok seen) f m cause e = inr (seen, refl, e)

-- a refusal is a fault of the text
fault_in : (text : List ℕ) (m : ℕ) (cause : Cause) → length text ≤ TEXT_BYTES → (first_read text >>= (λ (seen : Scope). all_named (reverse seen.components) empty_scope (lines_in text))) ≡ Err (m, cause) → HasFault text m cause
fault_in text m cause h e =
    let lines = lines_of text in
    let last = length lines + 1 in
    elim (passed_first (checked last empty_scope (numbered 1 lines)) (λ (seen : Scope). all_named (reverse seen.components) empty_scope (numbered 1 lines)) m cause e) [
      | inl k ↦ elim (first_fault lines last 1 empty_scope m cause k) [
        | inl f ↦ misplaced h (record { front = f.front; here = f.here; back = f.back; seen = f.seen; cut = f.cut; number = f.number; stand = f.stand; fault = f.fault })
        | inr o ↦ subst (λ (i : ℕ). HasFault text i cause) (sym o.place) (subst (λ (c : Cause). HasFault text last c) (sym o.fault) (open_end h o.stand o.inside))
      ]
      | inr k ↦
          let r = all_stand lines last 1 empty_scope k.0 k.1 in
          let f = second_fault r.0 (reverse k.0.components) 1 m cause k.2 in
          misnamed h r.0 r.1 (record { front = f.front; here = f.here; back = f.back; seen = f.seen; cut = f.cut; number = f.number; mean = f.mean; fault = f.fault })
    ]

pub has_fault : (text : List ℕ) (m : ℕ) (cause : Cause) → scenario_of text ≡ Err (m, cause) → HasFault text m cause
has_fault text m cause e = elim (cases_lt TEXT_BYTES (length text)) [
  | inl h ↦
      let r : placed 0 Limit ≡ placed m cause = let x = sym (walks.too_long text h) ∙ e in cc in
      subst (λ (x : Refusal). HasFault text x.0 x.1) r (too_long h)
  | inr h ↦ fault_in text m cause h (sym (two_passes text h) ∙ e)
]

-- and a fault refuses it
open_is : (fs : List Frame) (seen : Scope) (last : ℕ) → 0 < length fs → at_end last fs seen ≡ Err (last, Structure)
open_is [] seen last h = absurd (omega arith)
open_is (f ∷ fs) seen last h = refl

stopped : (r : Result Scope Refusal) (f : Scope → Result (List Line) Refusal) (e : Refusal) → r ≡ Err e → (r >>= f) ≡ Err e
stopped r f e h = rw h refl

goes_on : (r : Result Scope Refusal) (f : Scope → Result (List Line) Refusal) (seen : Scope) (e : Refusal) → r ≡ Ok seen → f seen ≡ Err e → (r >>= f) ≡ Err e
goes_on r f seen e h g = rw h g

pub is_refused : (text : List ℕ) {m : ℕ} {cause : Cause} → HasFault text m cause → scenario_of text ≡ Err (m, cause)
is_refused text (too_long h) = walks.too_long text h
is_refused text (misplaced {n = n} {cause = cause} h f) =
    let last = length (lines_of text) + 1 in
    let k : checked last empty_scope (numbered 1 (lines_of text)) ≡ Err (n, cause) =
    ap (λ (ls : List (List ℕ)). checked last empty_scope (numbered 1 ls)) f.cut ∙ stand_refused f.stand f.here f.back last 1 cause f.fault ∙ ap (λ (i : ℕ). Err (i, cause)) (sym f.number) in
    two_passes text h ∙ stopped _ _ (n, cause) k
is_refused text (open_end {seen = seen} h d inside) =
    let last = length (lines_of text) + 1 in
    two_passes text h ∙ stopped _ _ (last, Structure) (stand_ends d last 1 ∙ open_is seen.frames seen last inside)
is_refused text (misnamed {n = n} {cause = cause} {seen = seen} h d closed f) =
    let last = length (lines_of text) + 1 in
    let all = reverse seen.components in
    let a : checked last empty_scope (numbered 1 (lines_of text)) ≡ Ok seen = stand_ends d last 1 ∙ ap (λ (fs : List Frame). at_end last fs seen) closed in
    let b : all_named all empty_scope (numbered 1 (lines_of text)) ≡ Err (n, cause) =
    ap (λ (ls : List (List ℕ)). all_named all empty_scope (numbered 1 ls)) f.cut ∙ mean_refused f.mean f.here f.back cause (ap (λ (i : ℕ). named all f.seen i f.here) (sym f.number) ∙ f.fault) ∙ ap (λ (i : ℕ). Err (i, cause)) (sym f.number) in
    two_passes text h ∙ goes_on _ (λ (seen : Scope). all_named (reverse seen.components) empty_scope (numbered 1 (lines_of text))) seen (n, cause) a b
