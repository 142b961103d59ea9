-- A Pcom that replays keeps its facts.
use Rattle.std.proofs.Common.{◌≡◌, refl, ◌∙◌, ap, sym, subst, ℕ, ◌≤◌, Bool, true, false, cond, ◌||◌, ◌⊎◌, inl, inr, ⊎_elim, List, [], ◌∷◌, ◌++◌, Option, Some, None, is_some, arith}
use Rattle.std.specs.Prelude.{Contains, IsSome, IsTrue}
use Rattle.std.specs.List.{list_any}
use Rattle.std.proofs.lemmas.List.{append_assoc}
use Rattle.std.proofs.lemmas.List.Elements.{Contains-push_cases}
use Rattle.std.proofs.lemmas.List.Folds.{list_any-append}
use Rattle.std.proofs.lemmas.Option.{none-some, same_Some}
use Rattle.ic_base.specs.declared.messages.ComId.{ComId}
use Rattle.ic_base.specs.declared.messages.Msg.{Msg}
use Rattle.ic_base.specs.declared.messages.Packet.{Packet}
use Rattle.ic_base.specs.declared.scenario.Program.{Program}
use Rattle.ic_base.specs.declared.record.Record.{Record}
use Rattle.ic_base.specs.declared.record.Record.TheVariants as records
use Rattle.def_state.specs.Names.{Identity, same_identity}
use Rattle.def_state.specs.Positions.{end_of}
use Rattle.def_state.specs.Inbox.{Inbox, Receipt, insert_identity}
use Rattle.def_state.specs.Fits.{fits}
use Rattle.def_state.specs.Hist.{Hist, apply, Contents}
use Rattle.def_state.specs.Vol.{Vol, record_in, numbers_fit, standing}
use Rattle.def_step.specs.Replay.{Playing, waits_for, play_records, has_image, image_in}
use Rattle.def_facts.specs.Logs.{contents_in, is_kept}
use Rattle.def_facts.specs.Pcom.{state_after, has_receipt, IsAtTake}
use Rattle.law_replay.proofs.Growing.{prefixes_replay}
use Rattle.law_replay.proofs.Truth.{kept-lasts}
use Rattle.law_replay.proofs.Lists.{some-of, true-false, itself}
use Rattle.law_pcom.specs.Mirroring.{IsContentOf, NoPartEnds, Sits}
use Rattle.law_pcom.specs.Changing.{Changes, Opens}
use Rattle.law_pcom.specs.Keeping.{MayTell}
use Rattle.law_pcom.specs.Replaying.{Plays}
use Rattle.law_pcom.proofs.Lists.{false-true}
use Rattle.law_pcom.proofs.Playing.{records_mirror}
use Rattle.law_pcom.proofs.Changing.{changes}
use Rattle.law_pcom.proofs.Living.{lives}
use Rattle.law_pcom.proofs.Following.{insert-is, insert-has, insert-keeps, told-same, first-false, last-false, kept-new, after-push, opened_receipt}
use Rattle.law_pcom.proofs.Parts.{one-applied}

-- one more record is played
pub plays-append : (program : Program) (c : ComId) (received : List Packet) (content : Option Msg) (v : Vol) (played more forced : List Record) (r : Record) (f : Plays program c received v played forced) (g : Hist) → forced ≡ (played ++ r ∷ []) ++ more →
    NoPartEnds program → IsContentOf (contents_in received) r content → apply program c (contents_in received) f.state r ≡ Some g → Plays program c received (record_in program c 0 content v r) (played ++ r ∷ []) forced
plays-append program c received content v played more forced r f g all no_end is e = record {
  state = g;
  is_state = after-push program c received played r f.state g f.is_state e;
  mirrors = records_mirror program c 0 (contents_in received) content v f.state g r no_end sits is f.mirrors e;
  held_within = λ x y. ⊎_elim (f.held_within x) (λ k. least x.at k.0) (ch.held x y);
  shelved_within = λ x y. ⊎_elim (f.shelved_within x) (λ k. least x.at k.0) (ch.shelved x y);
  received_within = λ x y. receipt x y ch.received;
  ended_within = λ t n y. ⊎_elim (λ k. subst (λ a. a ≤ end_of forced) (sym k.1) (f.ended_within t n (sym k.0 ∙ y))) (λ k. least w.ended_at k.ended_at) ch.ended;
  receipt_taken = λ x y. taken x y ch.received;
  stable_received = λ x y s. ⊎_elim (λ k. f.stable_received x k s) (λ k. false-true x.stable k.1 s) (ch.held x y);
  kept = λ x y may. keeps x y may ch.received;
}
  where
    w : Vol
    w = record_in program c 0 content v r

    sits : Sits program c f.state
    sits = (lives program c (contents_in received) played f.state f.is_state).sits

    ch : Changes f.state r 0 v w
    ch = changes program c 0 (contents_in received) content v f.state g r no_end sits is f.mirrors e

    least : (a : ℕ) → a ≡ 0 → a ≤ end_of forced
    least a z = omega (arith, z)

    receipt : (x : Receipt) → Contains w.inbox.receipts x → (w.inbox ≡ v.inbox) ⊎ Opens f.state r 0 v w → x.at ≤ end_of forced
    receipt x y (inl same) = f.received_within x (subst (λ (i : Inbox). Contains i.receipts x) same y)
    receipt x y (inr o) = ⊎_elim (f.received_within x) (λ k. least x.at (ap (λ (z : Receipt). z.at) (sym k))) (Contains-push_cases v.inbox.receipts (opened_receipt o.name 0 o.whole) x (subst (λ (i : Inbox). Contains i.receipts x) o.is y))

    taken : (x : Receipt) → Contains w.inbox.receipts x → (w.inbox ≡ v.inbox) ⊎ Opens f.state r 0 v w → Contains w.inbox.taken x.name
    taken x y (inl same) = subst (λ (i : Inbox). Contains i.taken x.name) (sym same) (f.receipt_taken x (subst (λ (i : Inbox). Contains i.receipts x) same y))
    taken x y (inr o) = subst (λ (i : Inbox). Contains i.taken x.name) (sym o.is)
        (⊎_elim (λ k. insert-keeps o.name v.inbox.taken x.name (f.receipt_taken x k)) (λ k. subst (λ (z : Receipt). Contains (insert_identity o.name v.inbox.taken) z.name) k (insert-has o.name v.inbox.taken))
        (Contains-push_cases v.inbox.receipts (opened_receipt o.name 0 o.whole) x (subst (λ (i : Inbox). Contains i.receipts x) o.is y)))

    keeps : (x : Identity) → Contains w.inbox.taken x → MayTell w x → (w.inbox ≡ v.inbox) ⊎ Opens f.state r 0 v w → IsTrue (is_kept forced x)
    keeps x y may (inl same) = f.kept x (subst (λ (i : Inbox). Contains i.taken x) same y) (told-same v w x same may)
    keeps x y may (inr o) = told-new may
      where
        one : Receipt
        one = opened_receipt o.name 0 o.whole

        in_taken : Contains (insert_identity o.name v.inbox.taken) x
        in_taken = subst (λ (i : Inbox). Contains i.taken x) o.is y

        told-new : MayTell w x → IsTrue (is_kept forced x)
        told-new (inl none) = ⊎_elim
            (λ k. false-true (same_identity x o.name) (last-false (list_any (has_receipt x) v.inbox.receipts) (same_identity x o.name) parts) (ap (same_identity x) k ∙ itself x))
            (λ k. f.kept x k (inl (first-false (list_any (has_receipt x) v.inbox.receipts) (same_identity x o.name || false) parts)))
            (insert-is o.name v.inbox.taken x in_taken)
          where
            parts : (list_any (has_receipt x) v.inbox.receipts || (same_identity x o.name || false)) ≡ false
            parts = sym (list_any-append (has_receipt x) v.inbox.receipts (one ∷ [])) ∙ ap (λ (i : Inbox). list_any (has_receipt x) i.receipts) (sym o.is) ∙ none
        told-new (inr z) = ⊎_elim
            (λ k. f.kept x (subst (λ i. Contains v.inbox.taken i) z.2 (f.receipt_taken z.0 k)) (inr (z.0, k, z.2, z.3)))
            (λ k. subst (λ l. is_kept l x ≡ true) (sym all) (kept-lasts (played ++ r ∷ []) more x (subst (λ i. is_kept (played ++ r ∷ []) i ≡ true) (ap (λ (q : Receipt). q.name) k ∙ z.2) (kept-new played r o.name (o.stands_whole (ap (λ (q : Receipt). q.covered) k ∙ z.3))))))
            (Contains-push_cases v.inbox.receipts one z.0 (subst (λ (i : Inbox). Contains i.receipts z.0) o.is z.1))

-- how far a replay comes
pub record Comes (program : Program) (c : ComId) (received : List Packet) (forced : List Record) (x : Playing) : Type 0 where
  pub played : List Record
  pub plays : Plays program c received x.vol played forced
  pub is : forced ≡ played ++ x.rest
  pub waits : IsAtTake x.rest

pub not-take : (contents : Contents) (r : Record) → is_some (waits_for r) ≡ false → IsContentOf contents r None
not-take contents (records.Take s k stamp) e = true-false (sym e)
not-take contents (records.TakeWhole s k stamp handler args) e = tt
not-take contents (records.Input stamp handler args) e = tt
not-take contents (records.Value n place session value) e = tt
not-take contents (records.Outcome stamp n abort) e = tt
not-take contents (records.Released to k) e = tt
not-take contents (records.Shown m) e = tt
not-take contents (records.Checkpoint image) e = tt
not-take contents (records.Epoch epoch) e = tt
not-take contents (records.Decided stamp d n writes) e = tt

-- the next record of a log that replays is applied
pub next-applied : (program : Program) (c : ComId) (received : List Packet) (played more forced : List Record) (r : Record) (h : Hist) → state_after program c received played ≡ Some h → forced ≡ played ++ r ∷ more → IsSome (state_after program c received forced) → (g : Hist) × (apply program c (contents_in received) h r ≡ Some g)
next-applied program c received played more forced r h e all some =
    let g = some-of (state_after program c received forced) some in
    let y = prefixes_replay program c (contents_in received) (played ++ r ∷ []) more g.0 (ap (state_after program c received) (append_assoc played (r ∷ []) more ∙ sym all) ∙ g.1) in
    one-applied program c received played h r e (ap is_some y.1)

pub no-image : (r : Record) (rs : List Record) → has_image (r ∷ rs) ≡ false → has_image rs ≡ false
no-image r rs e = at (is_some (image_in r)) e
  where
    at : (b : Bool) → cond b true (has_image rs) ≡ false → has_image rs ≡ false
    at true f = true-false (sym f)
    at false f = f

pub comes : (program : Program) (c : ComId) (received : List Packet) (forced : List Record) → NoPartEnds program → IsSome (state_after program c received forced) → (v : Vol) (played rs : List Record) (x : Playing) → Plays program c received v played forced → forced ≡ played ++ rs → has_image rs ≡ false → play_records program c v rs ≡ Some x → Comes program c received forced x
comes program c received forced no_end some v played [] x f all image e = subst (Comes program c received forced) (same_Some _ x e) (record { played = played; plays = f; is = all; waits = tt })
comes program c received forced no_end some v played (r ∷ rs) x f all image e = by (fits program c (standing program c v) r) (is_some (waits_for r)) refl (numbers_fit (record_in program c 0 None v r)) (λ g. comes program c received forced no_end some (record_in program c 0 None v r) (played ++ r ∷ []) rs x g (all ∙ sym (append_assoc played (r ∷ []) rs)) (no-image r rs image)) e
  where
    g : (y : Hist) × (apply program c (contents_in received) f.state r ≡ Some y)
    g = next-applied program c received played rs forced r f.state f.is_state all some

    by : (fit waiting : Bool) → is_some (waits_for r) ≡ waiting → (number : Bool) → (Plays program c received (record_in program c 0 None v r) (played ++ r ∷ []) forced → play_records program c (record_in program c 0 None v r) rs ≡ Some x → Comes program c received forced x) →
        cond fit (cond waiting (Some (record { vol = v; rest = r ∷ rs })) (cond number (play_records program c (record_in program c 0 None v r) rs) None)) None ≡ Some x → Comes program c received forced x
    by false waiting is number more k = absurd (none-some x k)
    by true true is number more k = subst (Comes program c received forced) (same_Some _ x k) (record { played = played; plays = f; is = all; waits = (is, image) })
    by true false is false more k = absurd (none-some x k)
    by true false is true more k = more (plays-append program c received None v played rs forced r f g.0 (all ∙ sym (append_assoc played (r ∷ []) rs)) no_end (not-take (contents_in received) r is) g.1) k
