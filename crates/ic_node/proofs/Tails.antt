-- The records of a Pcom that came up over the tail of its log, and those before them.
use Rattle.std.proofs.Common.{◌≡◌, ◌∙◌, ◌⊎◌, inl, inr, refl, sym, ap, subst, arith, ℕ, zero, suc, ◌+◌, ◌-◌, ◌≤◌, ◌<◌, Bool, true, false, cond, List, [], ◌∷◌, ◌++◌, map, length, take, length-append, Option, Some, None}
use Rattle.std.specs.Prelude.{◌||◌, is_some, option_map, Result, Ok}
use Rattle.std.proofs.lemmas.List.{append-nil, take-take, length-take-le}
use Rattle.ic_base.specs.declared.messages.ComId.{ComId}
use Rattle.ic_base.specs.declared.record.Record.{Record}
use Rattle.ic_base.specs.declared.scenario.Program.{Program}
use Rattle.def_log.specs.Log.{log_of, tail_of}
use Rattle.def_state.specs.Inbox.{Receipt}
use Rattle.def_state.specs.Outbox.{Held}
use Rattle.def_state.specs.Shelf.{Waiting}
use Rattle.def_step.specs.Pcom.{Pcom, Log, all_of, StepResult, recover_pcom}
use Rattle.def_step.specs.Replay.{has_image, image_in, behind_checkpoint}
use Rattle.def_step.specs.Room.{is_empty}
use Rattle.law_tail.specs.Wholes.{shifted, shifted_held, shifted_receipt, shifted_waiting, shifted_vol, with_earlier, told_with_earlier}
use Rattle.law_tail.proofs.Tails.{tail-begins, behind-same}
use Rattle.law_tail.proofs.Wholes.{comes-up-same}
use Rattle.ic_node.specs.ComingUp.{kept_before, through_last}

-- no records before change nothing ------------------------------------------------------------------

at_none : (at : ℕ) → shifted 0 at ≡ at
at_none zero = refl
at_none (suc at) = omega arith

held_none : (xs : List Held) → map (shifted_held 0) xs ≡ xs
held_none [] = refl
held_none (x ∷ xs) = ap (λ (n : ℕ). record x { at = n } ∷ map (shifted_held 0) xs) (at_none x.at) ∙ ap (λ (ys : List Held). x ∷ ys) (held_none xs)

receipts_none : (xs : List Receipt) → map (shifted_receipt 0) xs ≡ xs
receipts_none [] = refl
receipts_none (x ∷ xs) = ap (λ (n : ℕ). record x { at = n } ∷ map (shifted_receipt 0) xs) (at_none x.at) ∙ ap (λ (ys : List Receipt). x ∷ ys) (receipts_none xs)

waiting_none : (xs : List Waiting) → map (shifted_waiting 0) xs ≡ xs
waiting_none [] = refl
waiting_none (x ∷ xs) = ap (λ (n : ℕ). record x { at = n } ∷ map (shifted_waiting 0) xs) (at_none x.at) ∙ ap (λ (ys : List Waiting). x ∷ ys) (waiting_none xs)

pub none_earlier : (p : Pcom) → with_earlier [] p ≡ p
none_earlier p =
    let v = p.vol in
    ap (λ (hs : List Held). record p { vol = record (shifted_vol 0 v) { outbox = record v.outbox { held = hs } } }) (held_none v.outbox.held)
    ∙ ap (λ (rs : List Receipt). record p { vol = record (shifted_vol 0 v) { outbox = v.outbox; inbox = record v.inbox { receipts = rs } } }) (receipts_none v.inbox.receipts)
    ∙ ap (λ (ws : List Waiting). record p { vol = record v { shelf = record v.shelf { waiting = ws }; ended_at = shifted 0 v.ended_at } }) (waiting_none v.shelf.waiting)
    ∙ ap (λ (n : ℕ). record p { vol = record v { ended_at = n } }) (at_none v.ended_at)

told_none : (o : Option StepResult) → option_map (told_with_earlier []) o ≡ o
told_none None = refl
told_none (Some t) = ap (λ (p : Pcom). Some (record t { pcom = p })) (none_earlier t.pcom)

-- checkpoints ---------------------------------------------------------------------------------------

-- the records behind the last checkpoint are fewer than all where there is one
behind_less : (rs : List Record) → has_image rs ≡ true → length (behind_checkpoint rs) < length rs
behind_less [] is = cc
behind_less (r ∷ rs) is = by (λ h. behind_less rs h) (has_image rs) refl (is_some (image_in r)) is
  where
    by : (has_image rs ≡ true → length (behind_checkpoint rs) < length rs) → (b : Bool) → has_image rs ≡ b → (i : Bool) → cond i true (has_image rs) ≡ true → length (cond b (behind_checkpoint rs) (cond i rs (r ∷ rs))) < length (r ∷ rs)
    by again true h i e = let less = again h in omega (arith, less)
    by again false h true e = omega arith
    by again false h false e = absurd (let clash : false ≡ true = sym h ∙ e in cc)

behind_all : (rs : List Record) → has_image rs ≡ false → behind_checkpoint rs ≡ rs
behind_all [] is = refl
behind_all (r ∷ rs) is = by (is_some (image_in r)) is
  where
    by : (i : Bool) → cond i true (has_image rs) ≡ false → cond (has_image rs) (behind_checkpoint rs) (cond i rs (r ∷ rs)) ≡ r ∷ rs
    by true e = cc
    by false e = ap (λ t. cond t (behind_checkpoint rs) (r ∷ rs)) e

-- where nothing is buffered its records are those that are forced
pub own_all : (l : Log) → l.buffered ≡ [] → all_of l ≡ l.forced
own_all l none = ap (λ (rs : List Record). l.forced ++ rs) none ∙ append-nil l.forced

pub none_kept : (kept own : List Record) → length own ≡ length (behind_checkpoint own) → [] ≡ kept_before kept own
none_kept kept own same = by (has_image own) refl
  where
    by : (b : Bool) → has_image own ≡ b → [] ≡ cond b (take (length kept - length own) kept) []
    by true is = absurd (let less = behind_less own is in omega (arith, less, same))
    by false is = refl

pub some_kept : (kept own : List Record) → (length own ≡ length (behind_checkpoint own) → ⊥) → take (length kept - length own) kept ≡ kept_before kept own
some_kept kept own not = by (has_image own) refl
  where
    by : (b : Bool) → has_image own ≡ b → take (length kept - length own) kept ≡ cond b (take (length kept - length own) kept) []
    by true is = refl
    by false is = absurd (not (ap length (sym (behind_all own is))))

-- what a Pcom that came up keeps is all that stood before its own, and its own have a checkpoint unless it keeps nothing
pub kept_begun : (kept own : List Record) → is_empty (kept_before kept own) || has_image own ≡ true
kept_begun kept own = by (has_image own)
  where
    by : (b : Bool) → is_empty (cond b (take (length kept - length own) kept) []) || b ≡ true
    by true = or_true (is_empty (take (length kept - length own) kept))
      where
        or_true : (a : Bool) → a || true ≡ true
        or_true true = refl
        or_true false = refl
    by false = refl

taken_front : (front own : List Record) → take (length (front ++ own) - length own) (front ++ own) ≡ front
taken_front front own =
    let n : length (front ++ own) - length own ≡ length front = omega (arith, length-append front own) in
    ap (λ k. take k (front ++ own)) n ∙ all_of_front front
  where
    all_of_front : (xs : List Record) → take (length xs) (xs ++ own) ≡ xs
    all_of_front [] = by own
      where
        by : (ys : List Record) → take 0 ys ≡ []
        by [] = refl
        by (y ∷ ys) = refl
    all_of_front (x ∷ xs) = ap (λ (l : List Record). x ∷ l) (all_of_front xs)

pub same_read : (a b : List Record) → ◌≡◌ {A = Result (List Record) ℕ} (Ok a) (Ok b) → a ≡ b
same_read a b e = cc

-- where the disk tells, the records that it held are those that are kept and those of the tail
pub whole_is : (bytes : List ℕ) (kept own : List Record) → log_of bytes ≡ Ok kept → tail_of bytes ≡ Ok own → kept ≡ kept_before kept own ++ own
whole_is bytes kept own whole tail =
    let t = tail-begins bytes kept whole in
    let same : t.1 ≡ own = same_read t.1 own (sym t.2 ∙ tail) in
    let all : kept ≡ t.0 ++ own = t.3 ∙ ap (λ l. t.0 ++ l) same in
    all ∙ ap (λ l. l ++ own) (sym (front_is t.0 all (subst (λ (l : List Record). (t.0 ≡ []) ⊎ (has_image l ≡ true)) same t.4)))
  where
    front_is : (front : List Record) → kept ≡ front ++ own → (front ≡ []) ⊎ (has_image own ≡ true) → kept_before kept own ≡ front
    front_is front all (inr image) = ap (λ b. cond b (take (length kept - length own) kept) []) image ∙ ap (λ (l : List Record). take (length l - length own) l) all ∙ taken_front front own
    front_is front all (inl none) = by (has_image own)
      where
        by : (b : Bool) → cond b (take (length kept - length own) kept) [] ≡ front
        by true = ap (λ (l : List Record). take (length l - length own) l) all ∙ taken_front front own
        by false = sym none

-- a Pcom that comes up over its own records comes up over all, those that it keeps before them
pub comes_up_so : (program : Program) (c : ComId) (kept own : List Record) → recover_pcom program c (kept_before kept own ++ own) ≡ option_map (told_with_earlier (kept_before kept own)) (recover_pcom program c own)
comes_up_so program c kept own = by (has_image own) refl
  where
    by : (b : Bool) → has_image own ≡ b
        → recover_pcom program c (cond b (take (length kept - length own) kept) [] ++ own) ≡ option_map (told_with_earlier (cond b (take (length kept - length own) kept) [])) (recover_pcom program c own)
    by true is = comes-up-same program c (take (length kept - length own) kept) own is
    by false is = sym (told_none (recover_pcom program c own))

-- a checkpoint stays one with more records behind
pub image_more : (own more : List Record) → has_image own ≡ true → has_image (own ++ more) ≡ true
image_more [] more is = absurd (cc)
image_more (r ∷ own) more is = by (λ h. image_more own more h) (is_some (image_in r)) is
  where
    by : (has_image own ≡ true → has_image (own ++ more) ≡ true) → (i : Bool) → cond i true (has_image own) ≡ true → cond i true (has_image (own ++ more)) ≡ true
    by again true e = refl
    by again false e = again e

-- and as many records are behind the last checkpoint
pub behind_begun : (front own more : List Record) → is_empty front || has_image own ≡ true → length (behind_checkpoint (front ++ (own ++ more))) ≡ length (behind_checkpoint (own ++ more))
behind_begun [] own more begun = refl
behind_begun (r ∷ front) own more begun = ap length (behind-same (r ∷ front) (own ++ more) (image_more own more begun))

pub behind_whole : (kept own : List Record) → kept ≡ kept_before kept own ++ own → length (behind_checkpoint own) ≡ length (behind_checkpoint kept)
behind_whole kept own all =
    sym (ap (λ rs. length (behind_checkpoint rs)) (append-nil own)) ∙ sym (behind_begun (kept_before kept own) own [] (kept_begun kept own))
    ∙ ap (λ rs. length (behind_checkpoint (kept_before kept own ++ rs))) (append-nil own) ∙ ap (λ rs. length (behind_checkpoint rs)) (sym all)

-- where the others have no checkpoint they all count
image_none : (kept own : List Record) → has_image own ≡ false → has_image (kept ++ own) ≡ has_image kept
image_none [] own none = none
image_none (r ∷ kept) own none = ap (λ t. cond (is_some (image_in r)) true t) (image_none kept own none)

behind_none : (kept own : List Record) → has_image own ≡ false → length (behind_checkpoint (kept ++ own)) ≡ length (behind_checkpoint kept) + length own
behind_none [] own none = ap length (behind_all own none) ∙ omega arith
behind_none (r ∷ kept) own none =
    ap (λ t. length (cond t (behind_checkpoint (kept ++ own)) (cond (is_some (image_in r)) (kept ++ own) (r ∷ (kept ++ own))))) (image_none kept own none)
    ∙ by (behind_none kept own none) (has_image kept) (is_some (image_in r))
  where
    by : length (behind_checkpoint (kept ++ own)) ≡ length (behind_checkpoint kept) + length own → (t i : Bool)
        → length (cond t (behind_checkpoint (kept ++ own)) (cond i (kept ++ own) (r ∷ (kept ++ own)))) ≡ length (cond t (behind_checkpoint kept) (cond i kept (r ∷ kept))) + length own
    by again true i = again
    by again false true = length-append kept own
    by again false false = omega (arith, length-append kept own)

pub behind_short : (rs : List Record) → length (behind_checkpoint rs) ≤ length rs
behind_short rs = by (has_image rs) refl
  where
    by : (t : Bool) → has_image rs ≡ t → length (behind_checkpoint rs) ≤ length rs
    by true is = let less = behind_less rs is in omega (arith, less)
    by false is = let all = ap length (behind_all rs is) in omega (arith, all)

-- of the records through the last checkpoint those that are kept are the first ones
pub kept_through : (kept own : List Record) → length (behind_checkpoint own) ≡ length (behind_checkpoint kept) → (length own ≡ length (behind_checkpoint own) → ⊥)
    → take (length (through_last kept) - (length own - length (behind_checkpoint own))) (through_last kept) ≡ kept_before kept own
kept_through kept own same not =
    let m = length kept - length (behind_checkpoint kept) in
    let n = length own - length (behind_checkpoint own) in
    let own_short = behind_short own in
    let kept_short = behind_short kept in
    let long : length (through_last kept) ≡ m = length-take-le m kept (omega arith) in
    let less : m - n ≡ length kept - length own = omega (arith, same, own_short, kept_short) in
    ap (λ k. take (k - n) (through_last kept)) long ∙ take-take (m - n) m kept (omega arith) ∙ ap (λ k. take k kept) less ∙ some_kept kept own not

pub since_some : (kept own : List Record) → length (behind_checkpoint own) < length own → length (behind_checkpoint own) ≡ length (behind_checkpoint (kept ++ own))
since_some kept own less = by (has_image own) refl
  where
    by : (t : Bool) → has_image own ≡ t → length (behind_checkpoint own) ≡ length (behind_checkpoint (kept ++ own))
    by true is = sym (ap length (behind-same kept own is))
    by false is = absurd (let all = ap length (behind_all own is) in omega (arith, all, less))

pub since_none : (kept own : List Record) → (length (behind_checkpoint own) < length own → ⊥) → length (behind_checkpoint (kept ++ own)) ≡ length (behind_checkpoint kept) + length (behind_checkpoint own)
since_none kept own not = by (has_image own) refl
  where
    by : (t : Bool) → has_image own ≡ t → length (behind_checkpoint (kept ++ own)) ≡ length (behind_checkpoint kept) + length (behind_checkpoint own)
    by true is = absurd (not (behind_less own is))
    by false is = behind_none kept own is ∙ ap (λ n. length (behind_checkpoint kept) + n) (sym (ap length (behind_all own is)))
