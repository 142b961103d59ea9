-- The record that stands next: a misfit, one that takes what is new, or one that waits.
use Rattle.std.proofs.Common.{◌≡◌, ◌∙◌, ◌+◌, ℕ, zero, suc, true, false, List, [], ◌∷◌, drop, Option, Some, None, ap, refl, arith}
use Rattle.std.specs.Prelude.{◌&&◌, Bool, not, nat_lt, is_none, slice_get, option_and_then}
use Rattle.std.proofs.lemmas.Bool.{and_parts, not-true}
use Rattle.ic_base.specs.declared.messages.ComId.{ComId}
use Rattle.ic_base.specs.declared.scenario.Program.{Program}
use Rattle.ic_base.specs.declared.record.Record.{Record}
use Rattle.ic_base.specs.declared.record.Record.TheVariants.{Take, TakeWhole, Input, Value, Outcome, Released, Shown, Checkpoint, Epoch, Decided}
use Rattle.def_log.specs.Spelling.{Fits}
use Rattle.ic_base.specs.Programs.{is_immediate, is_other_pcom, has_handler}
use Rattle.def_state.specs.Fits.{fits}
use Rattle.def_state.specs.Inbox
use Rattle.def_state.specs.Vol.{Vol, standing}
use Rattle.def_step.specs.Replay.{waits_for, stamp_waiting, play_records, misfit_from}
use Rattle.def_step.specs.Pcom.{needed}
use Rattle.ic_replay.specs.Applying.{TakesNew}
use Rattle.ic_replay.specs.Preparing.{has_content}
use Rattle.ic_replay.specs.Replaying.{stamp_of}
use Rattle.ic_replay.specs.Playing.{counted_from}
use Rattle.ic_replay.proofs.Runs.{begins_with}

counted_here : (next : ℕ) → counted_from next (Some 0) ≡ Some next
counted_here next = let same : next + 0 ≡ next = omega arith in ap (λ (n : ℕ). Some n) same

module _ (p : Program) (c : ComId) (v : Vol) (rs : List Record) (next : ℕ) (r : Record) (there : slice_get rs next ≡ Some r) where
  -- it doesn't fit
  pub misfits : fits p c (standing p c v) r ≡ false → (play_records p c v (drop next rs) ≡ None) × (counted_from next (misfit_from p c v (drop next rs)) ≡ Some next)
  misfits misfit =
      let begins = begins_with rs next r there in (
        ap (play_records p c v) begins ∙ rw misfit refl,
        ap (λ xs. counted_from next (misfit_from p c v xs)) begins ∙ rw misfit (counted_here next),
      )

isnt_taken : (late free whole other taken there : Bool) → (late && ((free && (whole && (other && not taken))) && there)) ≡ true → taken ≡ false
isnt_taken late free whole other taken there all =
    let may = (and_parts (free && (whole && (other && not taken))) there (and_parts late ((free && (whole && (other && not taken))) && there) all).1).0 in
    not-true taken (and_parts other (not taken) (and_parts whole (other && not taken) (and_parts free (whole && (other && not taken)) may).1).1).1

-- a record that fits and isn't a Take is new where it takes a message
pub takes_new : (p : Program) (c : ComId) (v : Vol) (r : Record) → Fits r → fits p c (standing p c v) r ≡ true → ((from : ComId) (k stamp : ℕ) → r ≡ Take from k stamp → ⊥) → (has_content None r ≡ true) × TakesNew v r
takes_new p c v (Take from k stamp) f fit other = absurd (other from k stamp refl)
takes_new p c v (TakeWhole from k stamp handler args) f fit other =
    let new = isnt_taken (nat_lt v.clock stamp) (is_none v.hand) (is_immediate p c) (is_other_pcom p c from) (Inbox.is_taken v.inbox (record { peer = from; k = k })) (has_handler p c handler args) fit in
    (refl, record { first = f.1.0; last = f.1.1; new = new })
takes_new p c v (Input stamp handler args) f fit other = (refl, tt)
takes_new p c v (Value n place session value) f fit other = (refl, tt)
takes_new p c v (Outcome stamp n abort) f fit other = (refl, tt)
takes_new p c v (Released to k) f fit other = (refl, tt)
takes_new p c v (Shown m) f fit other = (refl, tt)
takes_new p c v (Checkpoint image) f fit other = (refl, tt)
takes_new p c v (Epoch epoch) f fit other = (refl, tt)
takes_new p c v (Decided stamp d n writes) f fit other = (refl, tt)

-- what is waited for at a place, by the record there
pub needed_at : (rs : List Record) (n : ℕ) (o : Option Record) → slice_get rs n ≡ o → needed (drop n rs) ≡ option_and_then waits_for o
needed_at [] zero o at = ap (option_and_then waits_for) at
needed_at [] (suc n) o at = ap (option_and_then waits_for) at
needed_at (r ∷ rs) zero o at = ap (option_and_then waits_for) at
needed_at (r ∷ rs) (suc n) o at = needed_at rs n o at

pub stamp_at : (rs : List Record) (n : ℕ) (o : Option Record) → slice_get rs n ≡ o → stamp_of (drop n rs) ≡ option_and_then stamp_waiting o
stamp_at [] zero o at = ap (option_and_then stamp_waiting) at
stamp_at [] (suc n) o at = ap (option_and_then stamp_waiting) at
stamp_at (r ∷ rs) zero o at = ap (option_and_then stamp_waiting) at
stamp_at (r ∷ rs) (suc n) o at = stamp_at rs n o at
