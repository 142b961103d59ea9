-- What records that are played come to: no number passes its limit, they wait or none is left, and each adds at most one receipt.
use Rattle.std.proofs.Common.{◌≡◌, ap, refl, subst, ℕ, ◌+◌, ◌≤◌, Bool, true, false, cond, List, [], ◌∷◌, length, length-append, arith, Option, Some, None}
use Rattle.std.specs.Prelude.{is_some}
use Rattle.std.proofs.lemmas.Option.{option_and_then_some}
use Rattle.ic_base.specs.declared.messages.ComId.{ComId}
use Rattle.ic_base.specs.declared.messages.Level.TheVariants.{Nothing}
use Rattle.ic_base.specs.declared.messages.Msg.{Msg}
use Rattle.ic_base.specs.declared.played.Played.{Played}
use Rattle.ic_base.specs.declared.played.Played.TheVariants.{Asks, Ready, NeedFails, Ends}
use Rattle.ic_base.specs.declared.record.Record.{Record}
use Rattle.ic_base.specs.declared.record.Record.TheVariants.{Take, TakeWhole, Input, Value, Outcome, Released, Shown, Checkpoint, Epoch, Decided}
use Rattle.ic_base.specs.declared.scenario.Program.{Program}
use Rattle.def_plain.specs.declared.world.InHand.{InHand}
use Rattle.def_state.specs.Fits.{fits}
use Rattle.def_state.specs.Hist.{hand_plays}
use Rattle.def_state.specs.Inbox.{Inbox}
use Rattle.def_state.specs.Vol.{Vol, first_vol, numbers_fit, record_in, come_to, play_hand, play_on, take_in_hand, receive, standing}
use Rattle.def_step.specs.Pcom.{needed}
use Rattle.def_step.specs.Replay.{Playing, waits_for, play_records, feed, recovered, start_at, last_image, behind_checkpoint}
use Rattle.ic_replay.proofs.ImageLimits.{image_within}

-- the records from a state on came to this
pub record ComesTo (v : Vol) (rs : List Record) (x : Playing) : Type 0 where
  pub fits : numbers_fit x.vol ≡ true
  pub ends : needed x.rest ≡ None → x.rest ≡ []
  pub few : length x.vol.inbox.receipts + length x.rest ≤ length v.inbox.receipts + length rs

pub come_to-inbox : (c : ComId) (at : ℕ) (v : Vol) (p : Played) → (come_to c at v p).inbox ≡ v.inbox
come_to-inbox c at v (Ends vars sends outs) = refl
come_to-inbox c at v (Asks t request) = refl
come_to-inbox c at v (Ready t) = refl
come_to-inbox c at v (NeedFails t line) = refl

hand_inbox : (program : Program) (c : ComId) (at : ℕ) (v : Vol) (hand : Option InHand) → (play_hand program c at v hand).inbox ≡ v.inbox
hand_inbox program c at v None = refl
hand_inbox program c at v (Some hand) = come_to-inbox c at v (hand_plays program c v.vars v.now hand)

pub on_inbox : (program : Program) (c : ComId) (at : ℕ) (v : Vol) → (play_on program c at v).inbox ≡ v.inbox
on_inbox program c at v = hand_inbox program c at v v.hand

-- the receipts that a handling leaves as they are
as_many : (i j : Inbox) (n : ℕ) → i ≡ j → length j.receipts ≤ n → length i.receipts ≤ n
as_many i j n same few = omega (arith, few, ap (λ (x : Inbox). length x.receipts) same)

one_more : (v : Vol) (from : ComId) (k at : ℕ) (whole : Bool) → length (receive v from k at whole).inbox.receipts ≤ length v.inbox.receipts + 1
one_more v from k at whole = omega (arith, length-append v.inbox.receipts (record { name = record { peer = from; k = k }; at = at; covered = whole; told = Nothing } ∷ []))

-- a record adds at most one receipt
pub one_receipt : (program : Program) (c : ComId) (at : ℕ) (content : Option Msg) (v : Vol) (r : Record) → length (record_in program c at content v r).inbox.receipts ≤ length v.inbox.receipts + 1
one_receipt program c at None v (Take from k stamp) = omega arith
one_receipt program c at (Some m) v (Take from k stamp) = as_many _ _ _ (on_inbox program c at (take_in_hand (receive v from k at false) stamp m.handler m.args)) (one_more v from k at false)
one_receipt program c at content v (TakeWhole from k stamp handler args) = as_many _ _ _ (on_inbox program c at (take_in_hand (receive v from k at true) stamp handler args)) (one_more v from k at true)
one_receipt program c at content v (Input stamp handler args) = as_many _ v.inbox _ (on_inbox program c at (take_in_hand v stamp handler args)) (omega arith)
one_receipt program c at content v (Value n place session value) = as_many _ v.inbox _ (on_inbox program c at _) (omega arith)
one_receipt program c at content v (Outcome stamp n abort) = as_many _ v.inbox _ (on_inbox program c at _) (omega arith)
one_receipt program c at content v (Released to k) = omega arith
one_receipt program c at content v (Shown m) = omega arith
one_receipt program c at content v (Checkpoint image) = omega arith
one_receipt program c at content v (Epoch epoch) = omega arith
one_receipt program c at content v (Decided stamp c2 n writes) = omega arith

-- a record that waits is still to be played
waiting : (v : Vol) (r : Record) (rs : List Record) (x : Playing) → numbers_fit v ≡ true → is_some (waits_for r) ≡ true → ◌≡◌ {A = Option Playing} (Some (record { vol = v; rest = r ∷ rs })) (Some x) → ComesTo v (r ∷ rs) x
waiting v r rs x fit some e =
    let same : (record { vol = v; rest = r ∷ rs }) ≡ x = cc in
    subst (ComesTo v (r ∷ rs)) same (record {
      fits = fit;
      ends = λ none. cc;
      few = omega arith;
    })

turned : (program : Program) (c : ComId) (v : Vol) (r : Record) (rs : List Record) (later : Option Playing) (x : Playing) (f w n : Bool)
    → is_some (waits_for r) ≡ w → numbers_fit (record_in program c 0 None v r) ≡ n → numbers_fit v ≡ true
    → (numbers_fit (record_in program c 0 None v r) ≡ true → later ≡ Some x → ComesTo (record_in program c 0 None v r) rs x)
    → cond f (cond w (Some (record { vol = v; rest = r ∷ rs })) (cond n later None)) None ≡ Some x → ComesTo v (r ∷ rs) x
turned program c v r rs later x false w n waits is fit more e = cc
turned program c v r rs later x true true n waits is fit more e = waiting v r rs x fit waits e
turned program c v r rs later x true false false waits is fit more e = cc
turned program c v r rs later x true false true waits is fit more e =
    let y = more is e in
    record { fits = y.fits; ends = y.ends; few = omega (arith, y.few, one_receipt program c 0 None v r) }

pub plays_to : (program : Program) (c : ComId) (v : Vol) (rs : List Record) (x : Playing) → numbers_fit v ≡ true → play_records program c v rs ≡ Some x → ComesTo v rs x
plays_to program c v [] x fit e =
    let same : (record { vol = v; rest = [] }) ≡ x = cc in
    subst (ComesTo v []) same (record { fits = fit; ends = λ none. refl; few = omega arith })
plays_to program c v (r ∷ rs) x fit e =
    turned program c v r rs (play_records program c (record_in program c 0 None v r) rs) x (fits program c (standing program c v) r) (is_some (waits_for r)) (numbers_fit (record_in program c 0 None v r)) refl refl fit
    (λ fit2 e2. plays_to program c (record_in program c 0 None v r) rs x fit2 e2) e

pub fed_if : (n : Bool) (later : Option Playing) (x : Playing) → cond n later None ≡ Some x → (n ≡ true) × (later ≡ Some x)
fed_if true later x e = (refl, e)
fed_if false later x e = cc

pub feeds_to : (program : Program) (c : ComId) (v : Vol) (m : Msg) (rs : List Record) (x : Playing) → numbers_fit v ≡ true → feed program c v m rs ≡ Some x → ComesTo v rs x
feeds_to program c v m [] x fit e =
    let same : (record { vol = v; rest = [] }) ≡ x = cc in
    subst (ComesTo v []) same (record { fits = fit; ends = λ none. refl; few = omega arith })
feeds_to program c v m (r ∷ rs) x fit e =
    let w = record_in program c 0 (Some m) v r in
    let q = fed_if (numbers_fit w) (play_records program c w rs) x e in
    let y = plays_to program c w rs x q.0 q.1 in
    record { fits = y.fits; ends = y.ends; few = omega (arith, y.few, one_receipt program c 0 (Some m) v r) }

start_within : (program : Program) (c : ComId) (image : Option (List ℕ)) (v : Vol) → start_at program c image ≡ Some v → numbers_fit v ≡ true
start_within program c None v e =
    let same : first_vol program c ≡ v = cc in
    subst (λ (w : Vol). numbers_fit w ≡ true) same refl
start_within program c (Some image) v e = image_within program c image v e

-- what a recovery begins with, and comes to
pub record IsBegun (rs : List Record) (x : Playing) : Type 0 where
  pub from : Vol
  pub comes : ComesTo from rs x

pub begins_to : (program : Program) (c : ComId) (records : List Record) (x : Playing) → recovered program c records ≡ Some x → IsBegun (behind_checkpoint records) x
begins_to program c records x e =
    option_and_then_some _ (start_at program c (last_image records)) x e (λ v is e.
    record { from = v; comes = plays_to program c v (behind_checkpoint records) x (start_within program c (last_image records) v is) e })
