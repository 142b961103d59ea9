-- The outputs of both phases, one after another.
use Rattle.std.proofs.Common.{◌≡◌, ◌∙◌, sym, ap, subst, refl, ℕ, zero, suc, ◌+◌, ◌<◌, Bool, true, false, cond, List, [], ◌∷◌, ◌++◌, length, filter, take, get_or, append_assoc, arith}
use Rattle.std.specs.Prelude.{not, count_by, flat_map}
use Rattle.std.specs.List.{list_any}
use Rattle.std.proofs.lemmas.Grind.{flat_map-append, fold-append}
use Rattle.std.proofs.lemmas.List.{append-nil, take_more, take_all}
use Rattle.std.proofs.lemmas.List.Elements.{filter-append}
use Rattle.ic_base.specs.declared.messages.ComId.{ComId}
use Rattle.ic_base.specs.declared.messages.Output.{Output}
use Rattle.ic_base.specs.declared.events.Trace.{Trace}
use Rattle.ic_base.specs.declared.report.ReportLevel.{ReportLevel}
use Rattle.ic_base.specs.declared.report.ReportLevel.TheVariants as levels
use Rattle.ic_base.specs.declared.scenario.Component.{Component}
use Rattle.ic_base.specs.declared.scenario.Program.{Program}
use Rattle.def_facts.specs.World.{is_by}
use Rattle.def_live.specs.Turns.{coms_from}
use Rattle.def_live_run.specs.Reports.{Marked, marked, marked_line, in_order, output_lines}
use Rattle.def_report.specs.Lines.{trace_lines, showing_line}
use Rattle.def_report.specs.Words.{name_of}
use Rattle.def_step.specs.World.{same_showing}
use Rattle.ic_threads.specs.Outputs.{level_of, lines_at, Tells}
use Rattle.ic_threads.specs.declared.outputs.Outputs.{Outputs}

count-more : {A : Type 0} (f : A → Bool) (xs : List A) (x : A) → count_by f (xs ++ x ∷ []) ≡ count_by f xs + cond (f x) 1 0
count-more f xs x = fold-append _ 0 xs (x ∷ [])

lines-more : (program : Program) (level : ReportLevel) (xs : List Marked) (x : Marked) (line : List ℕ) → line ≡ lines_at program level (x ∷ []) → lines_at program level xs ++ line ≡ lines_at program level (xs ++ x ∷ [])
lines-more program levels.Summary xs x line e = e
lines-more program levels.Full xs x line e = ap (λ l. flat_map (marked_line program) xs ++ l) e ∙ sym (flat_map-append (marked_line program) xs (x ∷ []))
lines-more program levels.Brief xs x line e = ap (λ l. flat_map (marked_line program) xs ++ l) e ∙ sym (flat_map-append (marked_line program) xs (x ∷ []))

-- the line of a trace that shows an output alone
pub line-is : (program : Program) (level : ReportLevel) (c : ComId) (output : Output) (before : Bool) (t : Trace) → trace_lines program 1 t levels.Brief ≡ showing_line program (name_of program c) output before → trace_lines program 1 t (level_of level) ≡ lines_at program level (record { by = c; output = output; before = before } ∷ [])
line-is program levels.Summary c output before t e = refl
line-is program levels.Full c output before t e = e ∙ sym (append-nil (showing_line program (name_of program c) output before))
line-is program levels.Brief c output before t e = e ∙ sym (append-nil (showing_line program (name_of program c) output before))

-- one output more
pub tells-more : (program : Program) (level : ReportLevel) (xs : List Marked) (x : Marked) (old new : Outputs) (line : List ℕ) → Tells program level xs old → line ≡ lines_at program level (x ∷ []) → new.lines.items ≡ old.lines.items ++ line → new.first ≡ old.first + cond (not x.before) 1 0 → new.again ≡ old.again + cond x.before 1 0 → Tells program level (xs ++ x ∷ []) new
tells-more program level xs x old new line t is lines first again = record {
  lines = lines ∙ ap (λ l. l ++ line) t.lines ∙ lines-more program level xs x line is;
  first = first ∙ ap (λ n. n + cond (not x.before) 1 0) t.first ∙ sym (count-more (λ (y : Marked). not y.before) xs x);
  again = again ∙ ap (λ n. n + cond x.before 1 0) t.again ∙ sym (count-more (λ (y : Marked). y.before) xs x);
}

-- those of two lists in a row
pub marked-both : (before xs ys : List (ComId × Output)) → marked before (xs ++ ys) ≡ marked before xs ++ marked (before ++ xs) ys
marked-both before [] ys = ap (λ l. marked l ys) (sym (append-nil before))
marked-both before (x ∷ xs) ys = ap (λ l. record { by = x.0; output = x.1; before = list_any (same_showing x.0 x.1.m) before } ∷ l) (marked-both (before ++ x ∷ []) xs ys ∙ ap (λ l. marked (before ++ x ∷ []) xs ++ marked l ys) (append_assoc before (x ∷ []) xs))

module _ (program : Program) (level : ReportLevel) (c : ComId) (showings : List (ComId × Output)) where
  abbrev pub own : ℕ → List (ComId × Output)
  own i = filter (is_by c) (take i showings)

  own-next : (i : ℕ) (x : ComId × Output) → i < length showings → x ≡ get_or showings i x → own (i + 1) ≡ own i ++ filter (is_by c) (x ∷ [])
  own-next i x small is = ap (filter (is_by c)) (take_more showings i x small ∙ ap (λ z. take i showings ++ z ∷ []) (sym is)) ∙ filter-append (is_by c) (take i showings) (x ∷ [])

  -- as far as the loop over the showings has come
  pub seen-next : (i : ℕ) (x : ComId × Output) (seen news : List (ComId × Output)) → i < length showings → x ≡ get_or showings i x → seen ≡ own i → news ≡ seen ++ filter (is_by c) (x ∷ []) → news ≡ own (i + 1)
  seen-next i x seen news small is inv added = added ∙ ap (λ l. l ++ filter (is_by c) (x ∷ [])) inv ∙ sym (own-next i x small is)

  pub told-next : (i : ℕ) (x : ComId × Output) (seen : List (ComId × Output)) (first old new : Outputs) → i < length showings → x ≡ get_or showings i x → seen ≡ own i
      → ((xs : List Marked) → Tells program level xs first → Tells program level (xs ++ marked [] (own i)) old) → ((xs : List Marked) → Tells program level xs old → Tells program level (xs ++ marked seen (filter (is_by c) (x ∷ []))) new)
      → (xs : List Marked) → Tells program level xs first → Tells program level (xs ++ marked [] (own (i + 1))) new
  told-next i x seen first old new small is inv before step xs t =
      subst (λ l. Tells program level l new)
      (append_assoc xs (marked [] (own i)) (marked seen (filter (is_by c) (x ∷ [])))
      ∙ ap (λ l. xs ++ (marked [] (own i) ++ marked l (filter (is_by c) (x ∷ [])))) inv
      ∙ ap (λ l. xs ++ l) (sym (marked-both [] (own i) (filter (is_by c) (x ∷ []))) ∙ ap (marked []) (sym (own-next i x small is))))
      (step (xs ++ marked [] (own i)) (before xs t))

  pub told-all : (i : ℕ) (first new : Outputs) → length showings ≡ i → ((xs : List Marked) → Tells program level xs first → Tells program level (xs ++ marked [] (own i)) new) → (xs : List Marked) → Tells program level xs first → Tells program level (xs ++ marked [] (filter (is_by c) showings)) new
  told-all i first new e told xs t = subst (λ l. Tells program level (xs ++ marked [] (filter (is_by c) l)) new) (take_all i showings (omega (arith, e))) (told xs t)

  -- one that is no showing of the component
  pub told-none : (x : ComId × Output) (seen : List (ComId × Output)) (old : Outputs) → is_by c x ≡ false → (xs : List Marked) → Tells program level xs old → Tells program level (xs ++ marked seen (filter (is_by c) (x ∷ []))) old
  told-none x seen old other xs t = subst (λ l. Tells program level l old) (sym (ap (λ b. xs ++ marked seen (cond b (x ∷ []) [])) other ∙ append-nil xs)) t

  -- one that is
  pub told-own : (x : ComId × Output) (seen : List (ComId × Output)) (old new : Outputs) → is_by c x ≡ true → ((xs : List Marked) → Tells program level xs old → Tells program level (xs ++ record { by = x.0; output = x.1; before = list_any (same_showing x.0 x.1.m) seen } ∷ []) new)
      → (xs : List Marked) → Tells program level xs old → Tells program level (xs ++ marked seen (filter (is_by c) (x ∷ []))) new
  told-own x seen old new own step xs t = subst (λ b. Tells program level (xs ++ marked seen (cond b (x ∷ []) [])) new) (sym own) (step xs t)

-- of one component after another
module _ (program : Program) (level : ReportLevel) (showings : List (ComId × Output)) where
  abbrev pub first_of : ℕ → List Marked
  first_of i = flat_map (λ c. marked [] (filter (is_by c) showings)) (take i (coms_from 0 program.components))

  pub first-next : (i : ℕ) (c : ComId) (old new : Outputs) → i < length program.components → c.0 ≡ i → Tells program level (first_of i) old → ((xs : List Marked) → Tells program level xs old → Tells program level (xs ++ marked [] (filter (is_by c) showings)) new) → Tells program level (first_of (i + 1)) new
  first-next i c old new small is told step =
      subst (λ l. Tells program level l new)
      (ap (λ l. first_of i ++ l) (sym (append-nil (marked [] (filter (is_by c) showings))))
      ∙ sym (flat_map-append (λ c. marked [] (filter (is_by c) showings)) (take i (coms_from 0 program.components)) (c ∷ []))
      ∙ ap (flat_map (λ c. marked [] (filter (is_by c) showings))) (sym (com-next program i c small is)))
      (step (first_of i) told)
    where
      coms-length : (n : ℕ) (xs : List Component) → length (coms_from n xs) ≡ length xs
      coms-length n [] = refl
      coms-length n (x ∷ xs) = let e = coms-length (n + 1) xs in omega (arith, e)

      com-at : (n j : ℕ) (xs : List Component) (d : ComId) → j < length xs → get_or (coms_from n xs) j d ≡ record { 0 = n + j }
      com-at n j [] d l = absurd (omega (arith, l))
      com-at n zero (x ∷ xs) d l = let P : ℕ → ComId = λ k. record { 0 = k } in ap P (omega arith)
      com-at n (suc j) (x ∷ xs) d l = let P : ℕ → ComId = λ k. record { 0 = k } in let e : n + 1 + j ≡ n + suc j = omega arith in com-at (n + 1) j xs d (omega (arith, l)) ∙ ap P e

      com-next : (program : Program) (i : ℕ) (c : ComId) → i < length program.components → c.0 ≡ i → take (i + 1) (coms_from 0 program.components) ≡ take i (coms_from 0 program.components) ++ c ∷ []
      com-next program i c small is =
          let P : ℕ → ComId = λ k. record { 0 = k } in
          let e : 0 + i ≡ c.0 = omega (arith, is) in
          take_more (coms_from 0 program.components) i c (let l = coms-length 0 program.components in omega (arith, l, small)) ∙ ap (λ z. take i (coms_from 0 program.components) ++ z ∷ []) (com-at 0 i program.components c small ∙ ap P e)

  pub first-all : (i : ℕ) (new : Outputs) → length program.components ≡ i → Tells program level (first_of i) new → Tells program level (in_order program showings) new
  first-all i new e told = subst (λ l. Tells program level (flat_map (λ c. marked [] (filter (is_by c) showings)) l) new) (take_all i (coms_from 0 program.components) (let l = many 0 program.components in omega (arith, l, e))) told
    where
      many : (n : ℕ) (xs : List Component) → length (coms_from n xs) ≡ length xs
      many n [] = refl
      many n (x ∷ xs) = let m = many (n + 1) xs in omega (arith, m)

-- what is printed of them
pub lines-printed : (program : Program) (level : ReportLevel) (showings : List (ComId × Output)) → lines_at program level (in_order program showings) ≡ output_lines program level showings
lines-printed program levels.Summary showings = refl
lines-printed program levels.Full showings = refl
lines-printed program levels.Brief showings = refl
