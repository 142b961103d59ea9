-- The outputs that wait are those behind the last that is recorded as shown.
use Rattle.std.proofs.Common.{◌≡◌, refl, ◌∙◌, ap, sym, subst, ℕ, zero, suc, ◌+◌, ◌<◌, ◌≤◌, ◌==◌, ◌&&◌, true, false, cond, not, List, [], ◌∷◌, ◌++◌, length, filter, drop, Option, Some, None, option_map, option_and_then, arith, length-append}
use Rattle.std.specs.Prelude.{slice_get}
use Rattle.std.proofs.Math.Seq.{drop-append_seam}
use Rattle.std.proofs.lemmas.Option.{same_Some}
use Rattle.std.proofs.lemmas.List.{append_assoc, append-nil, drop-append-le, length-drop}
use Rattle.std.proofs.lemmas.List.Sums.{fold_push}
use Rattle.ic_base.specs.declared.messages.ComId.{ComId}
use Rattle.ic_base.specs.declared.messages.Out.{Out}
use Rattle.ic_base.specs.declared.messages.Output.{Output}
use Rattle.ic_base.specs.declared.scenario.Component.{Component}
use Rattle.ic_base.specs.declared.scenario.Program.{Program}
use Rattle.ic_base.specs.declared.record.Record.{Record}
use Rattle.ic_base.specs.declared.record.Record.TheVariants.{Take, TakeWhole, Input, Value, Outcome, Released, Shown, Checkpoint, Epoch, Decided}
use Rattle.def_plain.specs.declared.world.PlainPcom.{PlainPcom}
use Rattle.def_plain.specs.Cell.{Touch, cell_step}
use Rattle.def_state.specs.Fits.{fits, is_number_of}
use Rattle.def_state.specs.Names.{same_identity}
use Rattle.def_state.specs.Hist.{Hist, Contents, apply, apply_all, after, first_hist, first_cell, recorded, played_on, moved, moved_well, is_at_request, hand_plays, numbers_fit, touch_of, standing_of, last_ended, answered, identity_of, number_outputs}
use Rattle.def_facts.specs.Logs.{last_shown, shown_by}
use Rattle.law_replay.proofs.Growing.{apply_none, cell-grows}
use Rattle.law_replay.proofs.Lists.{equal-numbers, true-false, none-some, passed}

-- numbered outputs --------------------------------------------------------------------------------

pub numbered-append : (a : ℕ) (xs ys : List Out) → number_outputs a (xs ++ ys) ≡ number_outputs a xs ++ number_outputs (a + length xs) ys
numbered-append a [] ys = ap (λ n. number_outputs n ys) (none a)
  where
    none : (m : ℕ) → m ≡ m + 0
    none m = omega arith
numbered-append a (x ∷ xs) ys = ap (λ l. record { m = a; to = x.to; args = x.args } ∷ l) (numbered-append (a + 1) xs ys ∙ ap (λ n. number_outputs (a + 1) xs ++ number_outputs n ys) (one-more a (length xs)))
  where
    one-more : (m n : ℕ) → m + 1 + n ≡ m + suc n
    one-more m n = omega arith

pub length-numbered : (a : ℕ) (xs : List Out) → length (number_outputs a xs) ≡ length xs
length-numbered a [] = refl
length-numbered a (x ∷ xs) = ap suc (length-numbered (a + 1) xs)

none-numbered : (a : ℕ) (xs : List Out) → number_outputs a xs ≡ [] → xs ≡ []
none-numbered a [] e = refl
none-numbered a (x ∷ xs) e = absurd (cc)

-- a number below all is none of them
kept-above : (m a : ℕ) (xs : List Out) → m < a → filter (λ o. not (o.m == m)) (number_outputs a xs) ≡ number_outputs a xs
kept-above m a [] lt = refl
kept-above m a (x ∷ xs) lt =
    ap (λ b. cond (not b) (record { m = a; to = x.to; args = x.args } ∷ filter (λ o. not (o.m == m)) (number_outputs (a + 1) xs)) (filter (λ o. not (o.m == m)) (number_outputs (a + 1) xs))) (other a m lt)
    ∙ ap (λ l. record { m = a; to = x.to; args = x.args } ∷ l) (kept-above m (a + 1) xs (omega (arith, lt)))
  where
    other : (i j : ℕ) → j < i → (i == j) ≡ false
    other i j h = grind arith

drop-one : {A : Type 0} (i : ℕ) (xs ys : List A) (y : A) → drop i xs ≡ y ∷ ys → drop (i + 1) xs ≡ ys
drop-one i xs ys y e = ap (λ n. drop n xs) (next i) ∙ at i xs e
  where
    next : (n : ℕ) → n + 1 ≡ suc n
    next n = omega arith

    at : (n : ℕ) (zs : List _) → drop n zs ≡ y ∷ ys → drop (suc n) zs ≡ ys
    at zero [] f = absurd (cc)
    at zero (z ∷ zs) f = let g : zs ≡ ys = cc in g
    at (suc n) [] f = absurd (cc)
    at (suc n) (z ∷ zs) f = at n zs f

-- where a touch is played on to
pub played_is : (program : Program) (c : ComId) (h g : Hist) (stamp : ℕ) (t : Touch) → played_on program c h stamp (Some t) ≡ Some g → (p : PlainPcom) × (cell_step program c h.plain t ≡ Some p) × (moved program c h stamp p ≡ g)
played_is program c h g stamp t e = at (cell_step program c h.plain t) refl e
  where
    at : (o : Option PlainPcom) → cell_step program c h.plain t ≡ o → option_and_then (moved_well program c h stamp) o ≡ Some g → (p : PlainPcom) × (cell_step program c h.plain t ≡ Some p) × (moved program c h stamp p ≡ g)
    at None is f = none-some g f
    at (Some p) is f =
        (p, is, same_Some (moved program c h stamp p) g (passed (numbers_fit (moved program c h stamp p) && is_at_request (option_map (hand_plays program c p.vars []) p.hand)) (Some (moved program c h stamp p)) g f).1)

-- the invariant -----------------------------------------------------------------------------------

pub record ShownUpTo (rs : List Record) (h : Hist) : Type 0 where
  pub count : h.shown ≡ last_shown rs
  pub within : h.shown ≤ length h.plain.outs
  pub rest : h.unshown ≡ number_outputs (h.shown + 1) (drop h.shown h.plain.outs)

count-same : (rs : List Record) (r : Record) → shown_by (last_shown rs) r ≡ last_shown rs → last_shown (rs ++ r ∷ []) ≡ last_shown rs
count-same rs r e = fold_push shown_by 0 rs r ∙ e

moved-shown : (program : Program) (c : ComId) (rs : List Record) (r : Record) (h : Hist) (stamp : ℕ) (p : PlainPcom) (more : List Out) → shown_by (last_shown rs) r ≡ last_shown rs → p.outs ≡ h.plain.outs ++ more → ShownUpTo rs h → ShownUpTo (rs ++ r ∷ []) (moved program c h stamp p)
moved-shown program c rs r h stamp p more same outs x = record {
  count = x.count ∙ sym (count-same rs r same);
  within = omega (arith, x.within, ap length outs, length-append h.plain.outs more);
  rest =
      ap (λ l. l ++ number_outputs (length h.plain.outs + 1) (drop (length h.plain.outs) p.outs)) x.rest
      ∙ ap (λ l. number_outputs (h.shown + 1) (drop h.shown h.plain.outs) ++ number_outputs (length h.plain.outs + 1) l) (ap (drop (length h.plain.outs)) outs ∙ drop-append_seam h.plain.outs more)
      ∙ ap (λ n. number_outputs (h.shown + 1) (drop h.shown h.plain.outs) ++ number_outputs n more) place
      ∙ sym (numbered-append (h.shown + 1) (drop h.shown h.plain.outs) more)
      ∙ ap (number_outputs (h.shown + 1)) (sym (ap (drop h.shown) outs ∙ drop-append-le h.shown h.plain.outs more x.within));
}
  where
    place : length h.plain.outs + 1 ≡ h.shown + 1 + length (drop h.shown h.plain.outs)
    place = omega (arith, length-drop h.shown h.plain.outs, x.within)

played-shown : (program : Program) (c : ComId) (rs : List Record) (r : Record) (h g : Hist) (stamp : ℕ) (t : Option Touch) → shown_by (last_shown rs) r ≡ last_shown rs → ShownUpTo rs h → played_on program c h stamp t ≡ Some g → ShownUpTo (rs ++ r ∷ []) g
played-shown program c rs r h g stamp None same x e = none-some g e
played-shown program c rs r h g stamp (Some t) same x e =
    let p = played_is program c h g stamp t e in
    let grown = (cell-grows program c h.plain p.0 t p.1).outs in subst (ShownUpTo (rs ++ r ∷ [])) p.2 (moved-shown program c rs r h stamp p.0 grown.0 same grown.1 x)

ended-shown : (rs : List Record) (h : Hist) → ShownUpTo rs h → ShownUpTo rs (last_ended h)
ended-shown rs h x = record { count = x.count; within = x.within; rest = x.rest }

same-shown : (rs : List Record) (r : Record) (h x g : Hist) → shown_by (last_shown rs) r ≡ last_shown rs → x.shown ≡ h.shown → x.plain ≡ h.plain → x.unshown ≡ h.unshown → Some x ≡ Some g → ShownUpTo rs h → ShownUpTo (rs ++ r ∷ []) g
same-shown rs r h x g same s p u e y =
    subst (ShownUpTo (rs ++ r ∷ [])) (same_Some x g e) (record {
      count = s ∙ y.count ∙ sym (count-same rs r same);
      within = omega (arith, s, y.within, ap (λ (z : PlainPcom). length z.outs) p);
      rest = u ∙ y.rest ∙ ap (λ n. number_outputs (n + 1) (drop n h.plain.outs)) (sym s) ∙ ap (λ (z : PlainPcom). number_outputs (x.shown + 1) (drop x.shown z.outs)) (sym p);
    })

shown-one : (rs : List Record) (m : ℕ) (h : Hist) → is_number_of (option_map (λ o. o.m) (slice_get h.unshown 0)) m ≡ true → ShownUpTo rs h → ShownUpTo (rs ++ Shown m ∷ []) (record h { unshown = filter (λ o. not (o.m == m)) h.unshown; shown = m })
shown-one rs m h ok x = at (drop h.shown h.plain.outs) refl
  where
    at : (os : List Out) → drop h.shown h.plain.outs ≡ os → ShownUpTo (rs ++ Shown m ∷ []) (record h { unshown = filter (λ o. not (o.m == m)) h.unshown; shown = m })
    at [] e = true-false (sym (ap (λ l. is_number_of (option_map (λ o. o.m) (slice_get l 0)) m) (x.rest ∙ ap (number_outputs (h.shown + 1)) e)) ∙ ok)
    at (o ∷ os) e =
        let list : h.unshown ≡ number_outputs (h.shown + 1) (o ∷ os) = x.rest ∙ ap (number_outputs (h.shown + 1)) e in
        let number : h.shown + 1 ≡ m = equal-numbers (h.shown + 1) m (sym (ap (λ l. is_number_of (option_map (λ (z : Output). z.m) (slice_get l 0)) m) list) ∙ ok) in
        record {
          count = sym (fold_push shown_by 0 rs (Shown m));
          within = omega (arith, number, ap length e, length-drop h.shown h.plain.outs, x.within);
          rest =
              ap (filter (λ o. not (o.m == m))) list
              ∙ ap (λ b. cond (not b) (record { m = h.shown + 1; to = o.to; args = o.args } ∷ filter (λ z. not (z.m == m)) (number_outputs (h.shown + 1 + 1) os)) (filter (λ z. not (z.m == m)) (number_outputs (h.shown + 1 + 1) os))) (equal (h.shown + 1) m number)
              ∙ kept-above m (h.shown + 1 + 1) os (omega (arith, number))
              ∙ ap (λ n. number_outputs (n + 1) os) number
              ∙ ap (number_outputs (m + 1)) (sym (ap (λ n. drop n h.plain.outs) (sym number) ∙ drop-one h.shown h.plain.outs os o e));
        }
      where
        equal : (a b : ℕ) → a ≡ b → (a == b) ≡ true
        equal a b f = grind arith

recorded-shown : (program : Program) (c : ComId) (k : Contents) (rs : List Record) (h g : Hist) (r : Record) → ShownUpTo rs h → fits program c (standing_of program c h) r ≡ true → recorded program c k h r ≡ Some g → ShownUpTo (rs ++ r ∷ []) g
recorded-shown program c k rs h g (Take from n stamp) x ok e = played-shown program c rs (Take from n stamp) h g stamp (touch_of k h.now (Take from n stamp)) refl x e
recorded-shown program c k rs h g (TakeWhole from n stamp handler args) x ok e = played-shown program c rs (TakeWhole from n stamp handler args) h g stamp (touch_of k h.now (TakeWhole from n stamp handler args)) refl x e
recorded-shown program c k rs h g (Input stamp handler args) x ok e = played-shown program c rs (Input stamp handler args) h g stamp (touch_of k h.now (Input stamp handler args)) refl x e
recorded-shown program c k rs h g (Outcome stamp n abort) x ok e = played-shown program c rs (Outcome stamp n abort) (last_ended h) g stamp (touch_of k h.now (Outcome stamp n abort)) refl (ended-shown rs h x) e
recorded-shown program c k rs h g (Value n place session value) x ok e = same-shown rs (Value n place session value) h (answered program c h session (h.now ++ value ∷ [])) g refl refl refl refl e x
recorded-shown program c k rs h g (Released to n) x ok e = same-shown rs (Released to n) h (record h { held = filter (λ y. not (same_identity (record { peer = to; k = n }) (identity_of y))) h.held }) g refl refl refl refl e x
recorded-shown program c k rs h g (Shown n) x ok e = subst (ShownUpTo (rs ++ Shown n ∷ [])) (same_Some _ g e) (shown-one rs n h ok x)
recorded-shown program c k rs h g (Checkpoint image) x ok e = same-shown rs (Checkpoint image) h h g refl refl refl refl e x
recorded-shown program c k rs h g (Epoch epoch) x ok e = none-some g e
recorded-shown program c k rs h g (Decided stamp d n writes) x ok e = none-some g e

all-shown : (program : Program) (c : ComId) (k : Contents) (pre rs : List Record) (h g : Hist) → ShownUpTo pre h → apply_all program c k (Some h) rs ≡ Some g → ShownUpTo (pre ++ rs) g
all-shown program c k pre [] h g x e = subst (λ l. ShownUpTo l g) (sym (append-nil pre)) (subst (ShownUpTo pre) (same_Some h g e) x)
all-shown program c k pre (r ∷ rs) h g x e = at (apply program c k h r) refl e (λ y. all-shown program c k (pre ++ r ∷ []) rs y g)
  where
    at : (o : Option Hist) → apply program c k h r ≡ o → apply_all program c k o rs ≡ Some g → ((y : Hist) → ShownUpTo (pre ++ r ∷ []) y → apply_all program c k (Some y) rs ≡ Some g → ShownUpTo ((pre ++ r ∷ []) ++ rs) g) → ShownUpTo (pre ++ r ∷ rs) g
    at None is f more = none-some g (sym (apply_none program c k rs) ∙ f)
    at (Some y) is f more =
        let p = passed (fits program c (standing_of program c h) r) (recorded program c k h r) y is in
        subst (λ l. ShownUpTo l g) (append_assoc pre (r ∷ []) rs) (more y (recorded-shown program c k pre h y r x p.0 p.1) f)

first-outs : (o : Option Component) → (first_cell o).outs ≡ []
first-outs None = refl
first-outs (Some d) = refl

first-shown : (program : Program) (c : ComId) → ShownUpTo [] (first_hist program c)
first-shown program c = record { count = refl; within = omega arith; rest = sym (ap (λ l. number_outputs (0 + 1) (drop 0 l)) (first-outs (slice_get program.components c.0))) }

pub shown-up-to : (program : Program) (c : ComId) (k : Contents) (rs : List Record) (h : Hist) → after program c k rs ≡ Some h → ShownUpTo rs h
shown-up-to program c k rs h e = all-shown program c k [] rs (first_hist program c) h (first-shown program c) e

-- where no output waits, all are recorded as shown
pub all_are_shown : (program : Program) (c : ComId) (k : Contents) (rs : List Record) (h : Hist) → after program c k rs ≡ Some h → h.unshown ≡ [] → length h.plain.outs ≤ last_shown rs
all_are_shown program c k rs h e none =
    let x = shown-up-to program c k rs h e in
    omega (arith, x.count, ap length (none-numbered (h.shown + 1) (drop h.shown h.plain.outs) (sym x.rest ∙ none)), length-drop h.shown h.plain.outs)
