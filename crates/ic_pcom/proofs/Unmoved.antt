-- Where nothing is to be told or put out, nothing changes.
use Rattle.std.proofs.Common.{◌≡◌, ℕ, Bool, true, false, cond, List, [], ◌∷◌, Option, Some, None, option_map, refl, ap, ◌∙◌, sym}
use Rattle.std.specs.Prelude.{find}
use Rattle.def_state.specs.Inbox as inbox
use Rattle.def_state.specs.Inbox.{Inbox, Receipt, is_loud, tell_first, keep_if_open, after_ack, next_ack, after_next_ack, all_told}
use Rattle.def_state.specs.Outbox.{Outbox, Held, is_due, put_first, next_due, after_next_due, all_put}
use Rattle.ic_in.proofs.OneByOne.{tells-the_first}
use Rattle.ic_out.proofs.OneByOne.{takes-the_first}

map-none : {A B : Type 0} (f : A → B) (o : Option A) → option_map f o ≡ None → o ≡ None
map-none f None e = refl
map-none f (Some x) e = absurd (cc)

told-none : (forced : ℕ) (rs : List Receipt) → find (is_loud forced) rs ≡ None → tell_first forced rs ≡ rs
told-none forced [] e = refl
told-none forced (y ∷ ys) e = by (is_loud forced y) e (told-none forced ys)
  where
    by : (b : Bool) → cond b (Some y) (find (is_loud forced) ys) ≡ None → (find (is_loud forced) ys ≡ None → tell_first forced ys ≡ ys) → cond b (keep_if_open (after_ack forced y) ys) (y ∷ tell_first forced ys) ≡ y ∷ ys
    by true e rest = absurd (cc)
    by false e rest = ap (λ l. y ∷ l) (rest e)

put-none : (forced : ℕ) (hs : List Held) → find (is_due forced) hs ≡ None → put_first forced hs ≡ hs
put-none forced [] e = refl
put-none forced (y ∷ ys) e = by (is_due forced y) e (put-none forced ys)
  where
    by : (b : Bool) → cond b (Some y) (find (is_due forced) ys) ≡ None → (find (is_due forced) ys ≡ None → put_first forced ys ≡ ys) → cond b (record y { put = true } ∷ ys) (y ∷ put_first forced ys) ≡ y ∷ ys
    by true e rest = absurd (cc)
    by false e rest = ap (λ l. y ∷ l) (rest e)

pub nothing-told : (i : Inbox) (forced : ℕ) → next_ack i forced ≡ None → after_next_ack i forced ≡ all_told i forced
nothing-told i forced none =
    let with_receipts : List Receipt → Inbox = λ rs. record i { receipts = rs } in
    ap with_receipts (told-none forced i.receipts (map-none (inbox.ack_of forced) _ none)) ∙ sym ((tells-the_first i forced).end none)

pub nothing-put : (o : Outbox) (forced : ℕ) → next_due o forced ≡ None → after_next_due o forced ≡ all_put o forced
nothing-put o forced none =
    let with_held : List Held → Outbox = λ hs. record o { held = hs } in
    ap with_held (put-none forced o.held (map-none (λ h. h.msg) _ none)) ∙ sym ((takes-the_first o forced).end none)
