-- The senders are told one by one.
use Rattle.std.proofs.Common.{◌≡◌, ◌∙◌, sym, ap, refl, ℕ, zero, suc, ◌≤◌, Bool, true, false, cond, List, [], ◌∷◌, length, map, arith, Option, Some, None, option_map}
use Rattle.std.specs.Prelude.{nat_le, nat_lt, filter, filter_map, find}
use Rattle.std.specs.List.{cons_option}
use Rattle.def_state.specs.Inbox.{Inbox, Receipt, Ack, is_loud, after_ack, keep_if_open, tell_first, ack_of, told_as, level_of, next_ack, after_next_ack, acks, all_told}
use Rattle.ic_base.specs.declared.messages.Level.TheVariants.{Stable}
use Rattle.std.proofs.lemmas.Bool.{and_right}
use Rattle.ic_in.specs.Laws.{told_out, behind, told_acks, after_told_acks, TellsTheFirst}
use Rattle.ic_in.proofs.Louds.{loud-is, after-loud}

-- a receipt of which Stable is told, and which isn't covered, has nothing to tell
told-quiet : (forced : ℕ) (r : Receipt) → r.covered ≡ false → is_loud forced (record r { told = Stable }) ≡ false
told-quiet forced r e =
    loud-is forced (record r { told = Stable })
    ∙ and_right (nat_le r.at forced) (nat_lt 2 (cond r.covered 3 2)) (ap (λ b. nat_lt 2 (cond b 3 2)) e)

-- behind a loud receipt nothing of it is loud
module _ (forced : ℕ) (r : Receipt) (rs : List Receipt) where
  kept-quiet : (b : Bool) → r.covered ≡ b → filter (is_loud forced) (keep_if_open (cond b None (Some (record r { told = Stable }))) rs) ≡ filter (is_loud forced) rs
  kept-quiet true e = refl
  kept-quiet false e = ap (λ b. cond b (record r { told = Stable } ∷ filter (is_loud forced) rs) (filter (is_loud forced) rs)) (told-quiet forced r e)

  kept-told : (b : Bool) → r.covered ≡ b → filter_map (after_ack forced) (keep_if_open (cond b None (Some (record r { told = Stable }))) rs) ≡ cons_option (cond b None (Some (record r { told = Stable }))) (filter_map (after_ack forced) rs)
  kept-told true e = refl
  kept-told false e = ap (λ b. cons_option (cond b (told_as (record r { told = Stable }) (level_of forced (record r { told = Stable }))) (Some (record r { told = Stable }))) (filter_map (after_ack forced) rs)) (told-quiet forced r e)

loud-first : (forced : ℕ) (rs : List Receipt) (r : Receipt) → find (is_loud forced) rs ≡ Some r → filter (is_loud forced) rs ≡ r ∷ filter (is_loud forced) (tell_first forced rs)
loud-first forced [] r e = absurd (cc)
loud-first forced (y ∷ ys) r e = by (is_loud forced y) refl e (loud-first forced ys r)
  where
    by : (b : Bool) → is_loud forced y ≡ b → cond b (Some y) (find (is_loud forced) ys) ≡ Some r → (find (is_loud forced) ys ≡ Some r → filter (is_loud forced) ys ≡ r ∷ filter (is_loud forced) (tell_first forced ys)) → cond b (y ∷ filter (is_loud forced) ys) (filter (is_loud forced) ys) ≡ r ∷ filter (is_loud forced) (cond b (keep_if_open (after_ack forced y) ys) (y ∷ tell_first forced ys))
    by true is e rest =
        let same : y ≡ r = cc in
        ap (λ z. z ∷ filter (is_loud forced) ys) same
        ∙ ap (λ l. r ∷ l) (sym (ap (λ o. filter (is_loud forced) (keep_if_open o ys)) (after-loud forced y is) ∙ kept-quiet forced y ys y.covered refl))
    by false is e rest = rest e ∙ ap (λ b. r ∷ cond b (y ∷ filter (is_loud forced) (tell_first forced ys)) (filter (is_loud forced) (tell_first forced ys))) (sym is)

no-loud : (forced : ℕ) (rs : List Receipt) → find (is_loud forced) rs ≡ None → (filter (is_loud forced) rs ≡ []) × (filter_map (after_ack forced) rs ≡ rs)
no-loud forced [] e = (refl, refl)
no-loud forced (y ∷ ys) e = by (is_loud forced y) e (no-loud forced ys)
  where
    by : (b : Bool) → cond b (Some y) (find (is_loud forced) ys) ≡ None → (find (is_loud forced) ys ≡ None → (filter (is_loud forced) ys ≡ []) × (filter_map (after_ack forced) ys ≡ ys)) → (cond b (y ∷ filter (is_loud forced) ys) (filter (is_loud forced) ys) ≡ []) × (cons_option (cond b (told_as y (level_of forced y)) (Some y)) (filter_map (after_ack forced) ys) ≡ y ∷ ys)
    by true e rest = absurd (cc)
    by false e rest = let both = rest e in (both.0, ap (λ l. y ∷ l) both.1)

told-again : (forced : ℕ) (rs : List Receipt) → filter_map (after_ack forced) (tell_first forced rs) ≡ filter_map (after_ack forced) rs
told-again forced [] = refl
told-again forced (y ∷ ys) = by (is_loud forced y) refl (told-again forced ys)
  where
    by : (b : Bool) → is_loud forced y ≡ b → filter_map (after_ack forced) (tell_first forced ys) ≡ filter_map (after_ack forced) ys → filter_map (after_ack forced) (cond b (keep_if_open (after_ack forced y) ys) (y ∷ tell_first forced ys)) ≡ cons_option (after_ack forced y) (filter_map (after_ack forced) ys)
    by true is rest =
        ap (λ o. filter_map (after_ack forced) (keep_if_open o ys)) (after-loud forced y is)
        ∙ kept-told forced y ys y.covered refl
        ∙ ap (λ o. cons_option o (filter_map (after_ack forced) ys)) (sym (after-loud forced y is))
    by false is rest = ap (cons_option (after_ack forced y)) rest

mapped : (forced : ℕ) (o : Option Receipt) (a : Ack) → option_map (ack_of forced) o ≡ Some a → (r : Receipt) × ((o ≡ Some r) × (ack_of forced r ≡ a))
mapped forced None a e = absurd (cc)
mapped forced (Some r) a e = (r, (refl, some-is (ack_of forced r) a e))
  where
    some-is : (x y : Ack) → Some x ≡ Some y → x ≡ y
    some-is x y e = cc

unmapped : (forced : ℕ) (o : Option Receipt) → option_map (ack_of forced) o ≡ None → o ≡ None
unmapped forced None e = refl
unmapped forced (Some r) e = absurd (cc)

pub tells-the_first : (i : Inbox) (forced : ℕ) → TellsTheFirst i forced
tells-the_first i forced =
    let P : List Receipt → Inbox = λ rs. record i { receipts = rs } in
    record {
      first = λ a e. let found = mapped forced (find (is_loud forced) i.receipts) a e in ap (map (ack_of forced)) (loud-first forced i.receipts found.0 found.1.0) ∙ ap (λ z. z ∷ acks (after_next_ack i forced) forced) found.1.1;
      rest = ap P (told-again forced i.receipts);
      none = λ e. ap (map (ack_of forced)) (no-loud forced i.receipts (unmapped forced (find (is_loud forced) i.receipts) e)).0;
      end = λ e. ap P (no-loud forced i.receipts (unmapped forced (find (is_loud forced) i.receipts) e)).1;
    }

pub tells-all : (n : ℕ) (i : Inbox) (forced : ℕ) → length (acks i forced) ≤ n → (told_acks n i forced ≡ acks i forced) × (after_told_acks n i forced ≡ all_told i forced)
tells-all zero i forced l = by (next_ack i forced) refl (tells-the_first i forced)
  where
    by : (r : Option Ack) → next_ack i forced ≡ r → TellsTheFirst i forced → ([] ≡ acks i forced) × (i ≡ all_told i forced)
    by None e h = (sym (h.none e), sym (h.end e))
    by (Some a) e h = let more = ap length (h.first a e) in absurd (omega arith)
tells-all (suc n) i forced l = by (next_ack i forced) refl (tells-the_first i forced) (tells-all n (after_next_ack i forced) forced)
  where
    by : (r : Option Ack) → next_ack i forced ≡ r → TellsTheFirst i forced → (length (acks (after_next_ack i forced) forced) ≤ n → (told_acks n (after_next_ack i forced) forced ≡ acks (after_next_ack i forced) forced) × (after_told_acks n (after_next_ack i forced) forced ≡ all_told (after_next_ack i forced) forced)) → (told_out r (told_acks n (after_next_ack i forced) forced) ≡ acks i forced) × (behind r i (after_told_acks n (after_next_ack i forced) forced) ≡ all_told i forced)
    by None e h later = (sym (h.none e), sym (h.end e))
    by (Some a) e h later =
        let more = ap length (h.first a e) in
        let both = later (omega arith) in
        (ap (λ as_told. a ∷ as_told) both.0 ∙ sym (h.first a e), both.1 ∙ h.rest)
