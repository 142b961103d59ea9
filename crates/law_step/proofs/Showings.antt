-- What was shown stays told of by the log: nothing is shown, or the next output of the log.
use Rattle.std.proofs.Common.{◌≡◌, refl, ◌∙◌, ap, sym, subst, ℕ, zero, suc, ◌+◌, ◌<◌, ◌≤◌, Bool, true, false, cond, ◌||◌, ◌==◌, nat_le, List, [], ◌∷◌, ◌++◌, length, take, drop, ◌⊎◌, inl, inr, ⊎_elim, arith}
use Rattle.std.specs.Prelude.{Contains}
use Rattle.std.specs.List.{list_any}
use Rattle.std.proofs.lemmas.List.{append-nil, length-append}
use Rattle.std.proofs.lemmas.List.Elements.{Contains-append_cases}
use Rattle.ic_base.specs.declared.messages.Out.{Out}
use Rattle.ic_base.specs.declared.messages.Output.{Output}
use Rattle.ic_base.specs.declared.record.Record.{Record}
use Rattle.def_state.specs.Hist.{Hist, number_outputs, outputs_of}
use Rattle.def_facts.specs.Logs.{IsPrefixOf, last_shown}
use Rattle.def_facts.specs.World.{ShowingFacts, firsts_of}
use Rattle.law_replay.proofs.Lists.{true-false, empty, head-or-tail, equal-numbers, at_most}
use Rattle.law_replay.proofs.Outputs.{outputs-below, outputs-above, number-more}
use Rattle.law_replay.proofs.Shown.{numbered-append, length-numbered}

-- first showings ----------------------------------------------------------------------------------------

abbrev pub has_number : ℕ → List Output → Bool
has_number m xs = list_any (λ (y : Output). m == y.m) xs

or-same : (a b d : Bool) → (b ≡ true → a ≡ true) → (a || (b || d)) ≡ (a || d)
or-same true b d e = refl
or-same false false d e = refl
or-same false true d e = true-false (e refl)

or-turn : (a b d : Bool) → ((b || a) || d) ≡ (a || (b || d))
or-turn true true d = refl
or-turn true false d = refl
or-turn false true d = refl
or-turn false false d = refl

-- one showing more is a first one, or its number was shown
firsts-more : (seen : List ℕ) (xs : List Output) (o : Output) → firsts_of seen (xs ++ o ∷ []) ≡ firsts_of seen xs ++ cond (list_any (λ m. o.m == m) seen || has_number o.m xs) [] (o ∷ [])
firsts-more seen [] o = at (list_any (λ m. o.m == m) seen)
  where
    at : (b : Bool) → cond b [] (o ∷ []) ≡ cond (b || false) [] (o ∷ [])
    at true = refl
    at false = refl
firsts-more seen (x ∷ xs) o = at (list_any (λ m. x.m == m) seen) refl (firsts-more seen xs o) (firsts-more (x.m ∷ seen) xs o)
  where
    seen-too : list_any (λ m. x.m == m) seen ≡ true → (o.m == x.m) ≡ true → list_any (λ m. o.m == m) seen ≡ true
    seen-too e same = subst (λ n. list_any (λ m. n == m) seen ≡ true) (sym (equal-numbers o.m x.m same)) e

    at : (b : Bool) → list_any (λ m. x.m == m) seen ≡ b → firsts_of seen (xs ++ o ∷ []) ≡ firsts_of seen xs ++ cond (list_any (λ m. o.m == m) seen || has_number o.m xs) [] (o ∷ []) →
        firsts_of (x.m ∷ seen) (xs ++ o ∷ []) ≡ firsts_of (x.m ∷ seen) xs ++ cond (((o.m == x.m) || list_any (λ m. o.m == m) seen) || has_number o.m xs) [] (o ∷ []) →
        cond b (firsts_of seen (xs ++ o ∷ [])) (x ∷ firsts_of (x.m ∷ seen) (xs ++ o ∷ [])) ≡ cond b (firsts_of seen xs) (x ∷ firsts_of (x.m ∷ seen) xs) ++ cond (list_any (λ m. o.m == m) seen || ((o.m == x.m) || has_number o.m xs)) [] (o ∷ [])
    at true is old new = old ∙ ap (λ v. firsts_of seen xs ++ cond v [] (o ∷ [])) (sym (or-same (list_any (λ m. o.m == m) seen) (o.m == x.m) (has_number o.m xs) (seen-too is)))
    at false is old new = ap (λ l. x ∷ l) (new ∙ ap (λ v. firsts_of (x.m ∷ seen) xs ++ cond v [] (o ∷ [])) (or-turn (list_any (λ m. o.m == m) seen) (o.m == x.m) (has_number o.m xs)))

firsts-in : (seen : List ℕ) (xs : List Output) (m : ℕ) → has_number m (firsts_of seen xs) ≡ true → has_number m xs ≡ true
firsts-in seen [] m e = e
firsts-in seen (x ∷ xs) m e = at (list_any (λ k. x.m == k) seen) e (firsts-in seen xs m) (firsts-in (x.m ∷ seen) xs m)
  where
    right : (a b : Bool) → b ≡ true → (a || b) ≡ true
    right true b f = refl
    right false b f = f

    more : (a b d : Bool) → (b ≡ true → d ≡ true) → (a || b) ≡ true → (a || d) ≡ true
    more true b d f g = refl
    more false b d f g = f g

    at : (b : Bool) → has_number m (cond b (firsts_of seen xs) (x ∷ firsts_of (x.m ∷ seen) xs)) ≡ true → (has_number m (firsts_of seen xs) ≡ true → has_number m xs ≡ true) → (has_number m (firsts_of (x.m ∷ seen) xs) ≡ true → has_number m xs ≡ true) → ((m == x.m) || has_number m xs) ≡ true
    at true f old new = right (m == x.m) (has_number m xs) (old f)
    at false f old new = more (m == x.m) (has_number m (firsts_of (x.m ∷ seen) xs)) (has_number m xs) new f

firsts-has : (seen : List ℕ) (xs : List Output) (m : ℕ) → list_any (λ k. m == k) seen ≡ false → has_number m xs ≡ true → has_number m (firsts_of seen xs) ≡ true
firsts-has seen [] m e h = true-false h
firsts-has seen (x ∷ xs) m e h = at (list_any (λ k. x.m == k) seen) refl (m == x.m) refl h (firsts-has seen xs m e) (firsts-has (x.m ∷ seen) xs m)
  where
    at : (b : Bool) → list_any (λ k. x.m == k) seen ≡ b → (s : Bool) → (m == x.m) ≡ s → (s || has_number m xs) ≡ true → (has_number m xs ≡ true → has_number m (firsts_of seen xs) ≡ true) →
        (((m == x.m) || list_any (λ k. m == k) seen) ≡ false → has_number m xs ≡ true → has_number m (firsts_of (x.m ∷ seen) xs) ≡ true) → has_number m (cond b (firsts_of seen xs) (x ∷ firsts_of (x.m ∷ seen) xs)) ≡ true
    at true was true same k old new = true-false (sym e ∙ subst (λ n. list_any (λ i. n == i) seen ≡ true) (sym (equal-numbers m x.m same)) was)
    at true was false same k old new = old k
    at false was true same k old new = ap (λ v. v || has_number m (firsts_of (x.m ∷ seen) xs)) same
    at false was false same k old new = ap (λ v. v || has_number m (firsts_of (x.m ∷ seen) xs)) same ∙ new (ap (λ v. v || list_any (λ i. m == i) seen) same ∙ e) k

-- numbered outputs ----------------------------------------------------------------------------------------

-- each number from j up to t stands among them
stands-there : (a j t m : ℕ) (os : List Out) → a + j ≤ m → m < a + t → t ≤ length os → has_number m (drop j (take t (number_outputs a os))) ≡ true
stands-there a j zero m os low high within = absurd (omega (arith, low, high))
stands-there a j (suc t) m [] low high within = absurd (omega (arith, within))
stands-there a zero (suc t) m (o ∷ os) low high within = at (m == a) refl (λ up. stands-there (a + 1) 0 t m os up (omega (arith, high)) (omega (arith, within)))
  where
    next : (i n : ℕ) → i + 0 ≤ n → (n == i) ≡ false → i + 1 + 0 ≤ n
    next i n le apart = grind (arith, le, apart)

    at : (b : Bool) → (m == a) ≡ b → (a + 1 + 0 ≤ m → has_number m (take t (number_outputs (a + 1) os)) ≡ true) → ((m == a) || has_number m (take t (number_outputs (a + 1) os))) ≡ true
    at true is more = ap (λ v. v || has_number m (take t (number_outputs (a + 1) os))) is
    at false is more = ap (λ v. v || has_number m (take t (number_outputs (a + 1) os))) is ∙ more (next a m low is)
stands-there a (suc j) (suc t) m (o ∷ os) low high within = stands-there (a + 1) j t m os (omega (arith, low)) (omega (arith, high)) (omega (arith, within))

-- and none from t on
not-there : (a j t m : ℕ) (os : List Out) → a + t ≤ m → has_number m (drop j (take t (number_outputs a os))) ≡ false
not-there a zero zero m os low = refl
not-there a (suc j) zero m os low = refl
not-there a zero (suc t) m [] low = refl
not-there a (suc j) (suc t) m [] low = refl
not-there a zero (suc t) m (o ∷ os) low = ap (λ v. v || has_number m (take t (number_outputs (a + 1) os))) (other m a (omega (arith, low))) ∙ not-there (a + 1) 0 t m os (omega (arith, low))
  where
    other : (i k : ℕ) → k < i → (i == k) ≡ false
    other i k lt = grind (arith, lt)
not-there a (suc j) (suc t) m (o ∷ os) low = not-there (a + 1) j t m os (omega (arith, low))

-- the output with the next number is the next one
next-one : (a t : ℕ) (os : List Out) (o : Output) → Contains (number_outputs a os) o → o.m ≡ a + t → take (suc t) (number_outputs a os) ≡ take t (number_outputs a os) ++ o ∷ []
next-one a t [] o h e = empty o h
next-one a zero (x ∷ os) o h e = by (head-or-tail (record { m = a; to = x.to; args = x.args }) o (number_outputs (a + 1) os) h)
  where
    one : Output
    one = record { m = a; to = x.to; args = x.args }

    by : (one ≡ o) ⊎ Contains (number_outputs (a + 1) os) o → record { m = a; to = x.to; args = x.args } ∷ take 0 (number_outputs (a + 1) os) ≡ o ∷ []
    by (inl same) = ap (λ z. z ∷ []) same
    by (inr k) = absurd (omega (arith, e, outputs-above (a + 1) os o k))
next-one a (suc t) (x ∷ os) o h e = ap (λ l. record { m = a; to = x.to; args = x.args } ∷ l) (by (head-or-tail (record { m = a; to = x.to; args = x.args }) o (number_outputs (a + 1) os) h) (λ k. next-one (a + 1) t os o k (omega (arith, e))))
  where
    one : Output
    one = record { m = a; to = x.to; args = x.args }

    by : (one ≡ o) ⊎ Contains (number_outputs (a + 1) os) o → (Contains (number_outputs (a + 1) os) o → take (suc t) (number_outputs (a + 1) os) ≡ take t (number_outputs (a + 1) os) ++ o ∷ []) → take (suc t) (number_outputs (a + 1) os) ≡ take t (number_outputs (a + 1) os) ++ o ∷ []
    by (inl same) more = absurd (omega (arith, e, ap (λ (z : Output). z.m) same))
    by (inr k) more = more k

take-front : {A : Type 0} (t : ℕ) (xs ys : List A) → t ≤ length xs → take t (xs ++ ys) ≡ take t xs
take-front zero xs ys le = refl
take-front (suc t) [] ys le = absurd (omega (arith, le))
take-front (suc t) (x ∷ xs) ys le = ap (λ l. x ∷ l) (take-front t xs ys (omega (arith, le)))

drop-push : {A : Type 0} (j : ℕ) (xs : List A) (x : A) → j ≤ length xs → drop j (xs ++ x ∷ []) ≡ drop j xs ++ x ∷ []
drop-push zero xs x le = refl
drop-push (suc j) [] x le = absurd (omega (arith, le))
drop-push (suc j) (y ∷ ys) x le = drop-push j ys x (omega (arith, le))

take-long : {A : Type 0} (t : ℕ) (xs : List A) → t ≤ length xs → length (take t xs) ≡ t
take-long zero xs le = refl
take-long (suc t) [] le = absurd (omega (arith, le))
take-long (suc t) (x ∷ xs) le = ap suc (take-long t xs (omega (arith, le)))

-- the facts -------------------------------------------------------------------------------------------------

-- nothing is shown: the logs may be others that have as much shown, or less than was recorded, and the state may have grown
pub showing-stays : (found forced all forced2 all2 : List Record) (here life : ℕ) (h g : Hist) (xs : List Output) → ShowingFacts found forced all here h xs → IsPrefixOf h.plain.outs g.plain.outs →
    last_shown found ≤ last_shown forced2 → last_shown forced2 ≤ last_shown all2 → last_shown all2 ≤ last_shown all → life ≤ last_shown all2 → ShowingFacts found forced2 all2 life g xs
showing-stays found forced all forced2 all2 here life h g xs f more low up most lives = record {
  top = f.top;
  found_forced = low;
  forced_all = up;
  recorded_shown = omega (arith, most, f.recorded_shown);
  top_made = omega (arith, f.top_made, ap length more.1, length-append h.plain.outs more.0);
  here_recorded = lives;
  firsts_are = f.firsts_are ∙ ap (drop (last_shown found)) (sym (ap (λ l. take f.top (number_outputs 1 l)) more.1 ∙ ap (take f.top) (numbered-append 1 h.plain.outs more.0) ∙ take-front f.top (outputs_of h) (number_outputs (1 + length h.plain.outs) more.0) (omega (arith, f.top_made, length-numbered 1 h.plain.outs))));
  each_made = λ o k. subst (λ l. Contains (number_outputs 1 l) o) (sym more.1) (number-more 1 h.plain.outs more.0 o (f.each_made o k));
}

up-to : (m n : ℕ) → (m ≤ n) ⊎ (n < m)
up-to m n = at (nat_le m n) refl
  where
    at : (b : Bool) → nat_le m n ≡ b → (m ≤ n) ⊎ (n < m)
    at true e = inl (at_most m n e)
    at false e = inr (grind (arith, e))

-- the next output of the log is shown, for the first time or again
pub showing-next : (found forced all all2 : List Record) (here : ℕ) (h : Hist) (xs : List Output) (o : Output) → ShowingFacts found forced all here h xs → Contains (outputs_of h) o → o.m ≡ last_shown all + 1 → last_shown all2 ≡ o.m → ShowingFacts found forced all2 o.m h (xs ++ o ∷ [])
showing-next found forced all all2 here h xs o f made next now = at (up-to o.m f.top)
  where
    within : o.m ≤ length h.plain.outs
    within = omega (arith, outputs-below 1 h.plain.outs o made)

    each : (y : Output) → Contains (xs ++ o ∷ []) y → Contains (outputs_of h) y
    each y k = ⊎_elim (f.each_made y) (λ z. ⊎_elim (λ e. subst (Contains (outputs_of h)) e made) (λ z2. empty y z2) (head-or-tail o y [] z)) (Contains-append_cases xs (o ∷ []) y k)

    one-more : firsts_of [] (xs ++ o ∷ []) ≡ firsts_of [] xs ++ cond (has_number o.m xs) [] (o ∷ [])
    one-more = firsts-more [] xs o

    at : ((o.m ≤ f.top) ⊎ (f.top < o.m)) → ShowingFacts found forced all2 o.m h (xs ++ o ∷ [])
    at (inl le) = record {
      top = f.top;
      found_forced = f.found_forced;
      forced_all = omega (arith, f.forced_all, next, now);
      recorded_shown = omega (arith, now, le);
      top_made = f.top_made;
      here_recorded = omega (arith, now);
      firsts_are = one-more ∙ ap (λ b. firsts_of [] xs ++ cond b [] (o ∷ [])) seen ∙ append-nil (firsts_of [] xs) ∙ f.firsts_are;
      each_made = each;
    }
      where
        seen : has_number o.m xs ≡ true
        seen = firsts-in [] xs o.m (ap (has_number o.m) f.firsts_are ∙ stands-there 1 (last_shown found) f.top o.m h.plain.outs (omega (arith, f.found_forced, f.forced_all, next)) (omega (arith, le)) f.top_made)
    at (inr lt) = record {
      top = o.m;
      found_forced = f.found_forced;
      forced_all = omega (arith, f.forced_all, next, now);
      recorded_shown = omega (arith, now);
      top_made = within;
      here_recorded = omega (arith, now);
      firsts_are =
          one-more ∙ ap (λ b. firsts_of [] xs ++ cond b [] (o ∷ [])) (new (has_number o.m xs) refl)
          ∙ ap (λ l. l ++ o ∷ []) f.firsts_are
          ∙ sym (drop-push (last_shown found) (take f.top (outputs_of h)) o (omega (arith, f.found_forced, f.forced_all, f.recorded_shown, take-long f.top (outputs_of h) (omega (arith, f.top_made, length-numbered 1 h.plain.outs)))))
          ∙ ap (drop (last_shown found)) (sym (ap (λ n. take n (outputs_of h)) top ∙ next-one 1 f.top h.plain.outs o made (omega (arith, top))));
      each_made = each;
    }
      where
        top : o.m ≡ suc f.top
        top = omega (arith, lt, next, f.recorded_shown)

        new : (b : Bool) → has_number o.m xs ≡ b → b ≡ false
        new false is = refl
        new true is = true-false (sym (not-there 1 (last_shown found) f.top o.m h.plain.outs (omega (arith, top))) ∙ ap (has_number o.m) (sym f.firsts_are) ∙ firsts-has [] xs o.m refl is)
