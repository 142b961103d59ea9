-- The messages that are due leave one by one.
use Rattle.std.proofs.Common.{◌≡◌, ◌∙◌, sym, ap, refl, ℕ, zero, suc, ◌≤◌, Bool, true, false, cond, List, [], ◌∷◌, length, map, arith, Option, Some, None, option_map}
use Rattle.std.specs.Prelude.{◌&&◌, not, nat_le, filter, find}
use Rattle.ic_base.specs.declared.messages.Msg.{Msg}
use Rattle.def_state.specs.Outbox.{Outbox, Held, is_due, put_first, mark_put, next_due, after_next_due, due_messages, all_put}
use Rattle.ic_out.specs.Laws.{put_out, behind, taken_due, after_taken_due, TakesTheFirst}

put-not_due : (forced : ℕ) (h : Held) → is_due forced (record h { put = true }) ≡ false
put-not_due forced h = refl

-- the first that is due, among the held
due-first : (forced : ℕ) (hs : List Held) (h : Held) → find (is_due forced) hs ≡ Some h → filter (is_due forced) hs ≡ h ∷ filter (is_due forced) (put_first forced hs)
due-first forced [] h e = absurd (cc)
due-first forced (y ∷ ys) h e = by (is_due forced y) refl e (due-first forced ys h)
  where
    by : (b : Bool) → is_due forced y ≡ b → cond b (Some y) (find (is_due forced) ys) ≡ Some h → (find (is_due forced) ys ≡ Some h → filter (is_due forced) ys ≡ h ∷ filter (is_due forced) (put_first forced ys)) → cond b (y ∷ filter (is_due forced) ys) (filter (is_due forced) ys) ≡ h ∷ filter (is_due forced) (cond b (record y { put = true } ∷ ys) (y ∷ put_first forced ys))
    by true is e rest = let same : y ≡ h = cc in ap (λ z. z ∷ filter (is_due forced) ys) same
    by false is e rest = rest e ∙ ap (λ b. h ∷ cond b (y ∷ filter (is_due forced) (put_first forced ys)) (filter (is_due forced) (put_first forced ys))) (sym is)

no-due : (forced : ℕ) (hs : List Held) → find (is_due forced) hs ≡ None → (filter (is_due forced) hs ≡ []) × (map (mark_put forced) hs ≡ hs)
no-due forced [] e = (refl, refl)
no-due forced (y ∷ ys) e = by (is_due forced y) refl e (no-due forced ys)
  where
    marked : (p b : Bool) → (not p && b) ≡ false → cond b true p ≡ p
    marked true true e = refl
    marked true false e = refl
    marked false true e = e
    marked false false e = refl

    by : (b : Bool) → is_due forced y ≡ b → cond b (Some y) (find (is_due forced) ys) ≡ None → (find (is_due forced) ys ≡ None → (filter (is_due forced) ys ≡ []) × (map (mark_put forced) ys ≡ ys)) → (cond b (y ∷ filter (is_due forced) ys) (filter (is_due forced) ys) ≡ []) × (mark_put forced y ∷ map (mark_put forced) ys ≡ y ∷ ys)
    by true is e rest = absurd (cc)
    by false is e rest =
        let both = rest e in
        let P : Bool → List Held = λ p. record y { put = p } ∷ ys in
        (both.0, ap (λ l. mark_put forced y ∷ l) both.1 ∙ ap P (marked y.put (nat_le y.at forced) is))

mark-again : (forced : ℕ) (hs : List Held) → map (mark_put forced) (put_first forced hs) ≡ map (mark_put forced) hs
mark-again forced [] = refl
mark-again forced (y ∷ ys) = by (is_due forced y) refl (mark-again forced ys)
  where
    twice : (b p : Bool) → (not p && b) ≡ true → cond b true true ≡ cond b true p
    twice true p e = refl
    twice false true e = refl
    twice false false e = sym e

    by : (b : Bool) → is_due forced y ≡ b → map (mark_put forced) (put_first forced ys) ≡ map (mark_put forced) ys → map (mark_put forced) (cond b (record y { put = true } ∷ ys) (y ∷ put_first forced ys)) ≡ mark_put forced y ∷ map (mark_put forced) ys
    by true is rest =
        let P : Bool → List Held = λ p. record y { put = p } ∷ map (mark_put forced) ys in
        ap P (twice (nat_le y.at forced) y.put is)
    by false is rest = ap (λ l. mark_put forced y ∷ l) rest

mapped : (o : Option Held) (m : Msg) → option_map (λ h. h.msg) o ≡ Some m → (h : Held) × ((o ≡ Some h) × (h.msg ≡ m))
mapped None m e = absurd (cc)
mapped (Some h) m e = (h, (refl, cc))

unmapped : (o : Option Held) → option_map (λ h. h.msg) o ≡ None → o ≡ None
unmapped None e = refl
unmapped (Some h) e = absurd (cc)

pub takes-the_first : (o : Outbox) (forced : ℕ) → TakesTheFirst o forced
takes-the_first o forced =
    let P : List Held → Outbox = λ hs. record o { held = hs } in
    record {
      first = λ m e. let found = mapped (find (is_due forced) o.held) m e in ap (map (λ h. h.msg)) (due-first forced o.held found.0 found.1.0) ∙ ap (λ z. z ∷ due_messages (after_next_due o forced) forced) found.1.1;
      rest = ap P (mark-again forced o.held);
      none = λ e. ap (map (λ h. h.msg)) (no-due forced o.held (unmapped (find (is_due forced) o.held) e)).0;
      end = λ e. ap P (no-due forced o.held (unmapped (find (is_due forced) o.held) e)).1;
    }

pub takes-all : (n : ℕ) (o : Outbox) (forced : ℕ) → length (due_messages o forced) ≤ n → (taken_due n o forced ≡ due_messages o forced) × (after_taken_due n o forced ≡ all_put o forced)
takes-all zero o forced l = by (next_due o forced) refl (takes-the_first o forced)
  where
    by : (r : Option Msg) → next_due o forced ≡ r → TakesTheFirst o forced → ([] ≡ due_messages o forced) × (o ≡ all_put o forced)
    by None e h = (sym (h.none e), sym (h.end e))
    by (Some m) e h = let more = ap length (h.first m e) in absurd (omega arith)
takes-all (suc n) o forced l = by (next_due o forced) refl (takes-the_first o forced) (takes-all n (after_next_due o forced) forced)
  where
    by : (r : Option Msg) → next_due o forced ≡ r → TakesTheFirst o forced → (length (due_messages (after_next_due o forced) forced) ≤ n → (taken_due n (after_next_due o forced) forced ≡ due_messages (after_next_due o forced) forced) × (after_taken_due n (after_next_due o forced) forced ≡ all_put (after_next_due o forced) forced)) → (put_out r (taken_due n (after_next_due o forced) forced) ≡ due_messages o forced) × (behind r o (after_taken_due n (after_next_due o forced) forced) ≡ all_put o forced)
    by None e h later = (sym (h.none e), sym (h.end e))
    by (Some m) e h later =
        let more = ap length (h.first m e) in
        let both = later (omega arith) in
        (ap (λ ms. m ∷ ms) both.0 ∙ sym (h.first m e), both.1 ∙ h.rest)
