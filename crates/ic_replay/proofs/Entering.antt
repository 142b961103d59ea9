-- What a record that is entered leaves as it was, and the numbers behind it.
use Rattle.std.proofs.Common.{◌≡◌, ◌∙◌, ◌+◌, ◌<◌, ◌≤◌, ◌&&◌, ℕ, Bool, true, cond, List, length, ℤ, ap, sym, refl, arith, Some}
use Rattle.std.proofs.lemmas.Bool.{and_parts, leb-true}
use Rattle.ic_base.specs.declared.limits.TheConstants.{GREATEST_NUMBER}
use Rattle.ic_base.specs.declared.messages.ComId.{ComId}
use Rattle.ic_base.specs.declared.messages.Send.{Send}
use Rattle.ic_base.specs.declared.messages.Out.{Out}
use Rattle.ic_base.specs.declared.messages.Request.{Request}
use Rattle.ic_base.specs.declared.played.Played.TheVariants.{Asks, Ends}
use Rattle.ic_base.specs.declared.record.Record.{Record}
use Rattle.ic_base.specs.declared.record.Record.TheVariants.{Take, TakeWhole, Input, Value, Outcome, Released, Shown, Checkpoint, Epoch, Decided}
use Rattle.def_state.specs.Txn
use Rattle.def_state.specs.Vol.{Vol, numbers_fit, come_to}
use Rattle.ic_replay.specs.declared.prepared.Prepared.{Prepared}
use Rattle.ic_replay.specs.Applying.{entered, applied, come_to_if}
use Rattle.ic_replay.specs.Limits.{are_within, links_behind}
use Rattle.ic_replay.specs.Preparing.{entered_txn}
use Rattle.ic_replay.proofs.Sending.{is_within, links_sent, made_behind}

module _ (at : ℕ) (p : Prepared) (v : Vol) where
  entered_made : (r : Record) → (entered at p v r).shelf.made ≡ v.shelf.made
  entered_made (Take from k stamp) = refl
  entered_made (TakeWhole from k stamp handler args) = refl
  entered_made (Input stamp handler args) = refl
  entered_made (Value n place session value) = refl
  entered_made (Outcome stamp n abort) = refl
  entered_made (Released to k) = refl
  entered_made (Shown m) = refl
  entered_made (Checkpoint image) = refl
  entered_made (Epoch epoch) = refl
  entered_made (Decided stamp c n writes) = refl

  entered_begun : (r : Record) → (entered at p v r).txn.begun ≡ v.txn.begun
  entered_begun (Take from k stamp) = refl
  entered_begun (TakeWhole from k stamp handler args) = refl
  entered_begun (Input stamp handler args) = refl
  entered_begun (Value n place session value) = refl
  entered_begun (Outcome stamp n abort) = refl
  entered_begun (Released to k) = refl
  entered_begun (Shown m) = refl
  entered_begun (Checkpoint image) = refl
  entered_begun (Epoch epoch) = refl
  entered_begun (Decided stamp c n writes) = refl

  entered_txn_is : (r : Record) → (entered at p v r).txn ≡ entered_txn v.txn r
  entered_txn_is (Take from k stamp) = refl
  entered_txn_is (TakeWhole from k stamp handler args) = refl
  entered_txn_is (Input stamp handler args) = refl
  entered_txn_is (Value n place session value) = refl
  entered_txn_is (Outcome stamp n abort) = refl
  entered_txn_is (Released to k) = refl
  entered_txn_is (Shown m) = refl
  entered_txn_is (Checkpoint image) = refl
  entered_txn_is (Epoch epoch) = refl
  entered_txn_is (Decided stamp c n writes) = refl

  entered_links : (r : Record) → (entered at p v r).outbox.links ≡ v.outbox.links
  entered_links (Take from k stamp) = refl
  entered_links (TakeWhole from k stamp handler args) = refl
  entered_links (Input stamp handler args) = refl
  entered_links (Value n place session value) = refl
  entered_links (Outcome stamp n abort) = refl
  entered_links (Released to k) = refl
  entered_links (Shown m) = refl
  entered_links (Checkpoint image) = refl
  entered_links (Epoch epoch) = refl
  entered_links (Decided stamp c n writes) = refl

begun_within : (v : Vol) → numbers_fit v ≡ true → v.txn.begun ≤ GREATEST_NUMBER
begun_within v fit = leb-true _ _ (and_parts _ _ (and_parts _ _ (and_parts _ _ fit).1).1).0

-- where a handler asks for the first request of a transaction, and no number passes its limit, one more may be begun
pub asks_within : (c : ComId) (at : ℕ) (p : Prepared) (v : Vol) (r : Record) (t : ComId) (q : Request) → p.played ≡ Some (Asks t q) → Txn.is_idle (entered_txn v.txn r).stage ≡ true → numbers_fit (applied c at p v r) ≡ true → (entered_txn v.txn r).begun < GREATEST_NUMBER
asks_within c at p v r t q asks idle fit =
    let w = entered at p v r in
    let x = entered_txn v.txn r in
    let is : applied c at p v r ≡ record w { txn = Txn.begin x t q } =
    ap (come_to_if c at w) asks
    ∙ ap (λ (y : Txn.Txn). record w { txn = cond (Txn.is_idle y.stage) (Txn.begin y t q) (Txn.ask y q) }) (entered_txn_is at p v r)
    ∙ ap (λ (b : Bool). record w { txn = cond b (Txn.begin x t q) (Txn.ask x q) }) idle in
    omega (arith, begun_within (record w { txn = Txn.begin x t q }) (ap numbers_fit (sym is) ∙ fit))

two_of_four : (a b d e x y : Bool) → a ≡ true → b ≡ x → d ≡ true → e ≡ y → (a && (b && (d && e))) ≡ (x && y)
two_of_four a b d e x y ha hb hd he = rw (ha, hb, hd, he) refl

-- where a handling ends, the numbers that it gives
pub ends_within : (c : ComId) (at : ℕ) (p : Prepared) (v : Vol) (r : Record) (vars : List ℤ) (sends : List Send) (outs : List Out) → numbers_fit v ≡ true → is_within (entered at p v r).clock ≡ true
    → numbers_fit (come_to c at (entered at p v r) (Ends vars sends outs)) ≡ (is_within (v.shelf.made + length outs) && are_within (links_behind v.outbox.links sends))
ends_within c at p v r vars sends outs fit clock =
    let w = entered at p v r in
    let begun = (and_parts _ _ (and_parts _ _ (and_parts _ _ fit).1).1).0 in
    two_of_four _ _ _ _ _ _ clock
    (ap is_within (made_behind at w.shelf outs ∙ ap (λ n. n + length outs) (entered_made at p v r)))
    (ap is_within (entered_begun at p v r) ∙ begun)
    (ap are_within (links_sent c w.clock at w.outbox sends) ∙ ap (λ xs. are_within (links_behind xs sends)) (entered_links at p v r))
