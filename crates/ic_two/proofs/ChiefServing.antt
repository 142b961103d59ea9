-- What a call comes to at a chief, from what its record came to.
use Rattle.std.proofs.Common.{◌≡◌, ◌∙◌, sym, ap, subst, arith, inl, inr, ◌+◌, ◌<◌, ◌≤◌, ℕ, List, [], ◌∷◌, ◌++◌, length, Bool, true, false, ◌||◌}
use Rattle.std.specs.Prelude.{Ok, Contains}
use Rattle.std.proofs.lemmas.Bool.{lt-ltb, le-ltb}
use Rattle.std.proofs.lemmas.List.{append-nil}
use Rattle.ic_base.specs.declared.limits.TheConstants.{LOG_BYTES, GREATEST_NUMBER}
use Rattle.def_two.specs.declared.moves.Packet2.{Packet2}
use Rattle.def_two.specs.declared.moves.Record2.{Record2}
use Rattle.def_two.specs.declared.states.Docket.{Docket}
use Rattle.def_two.specs.Chief.{Call, Hears, hears, docketed, docket_of}
use Rattle.def_two.specs.declared.moves.Move.{Move}
use Rattle.def_two.specs.Moves.{is_lawful}
use Rattle.def_two.specs.Records.{spelling2, payload2_of, IsCountedMove}
use Rattle.law_two_run.proofs.Fitting.{in-books}
use Rattle.def_two.specs.Logs.{log2_of}
use Rattle.def_two.specs.CoreSteps.{has_no_room2, is_past_number}
use Rattle.law_two.proofs.Turns.{docket-grew}
use Rattle.ic_disk.specs.Disk.{Keeps, Makes}
use Rattle.ic_disk.specs.declared.disk.Disk.{Ghosts}
use Rattle.ic_disk.proofs.Disks.{makes_same}
use Rattle.ic_gate.specs.Calls.{gated_calls, force_writes}
use Rattle.ic_gate.specs.declared.refusals.StepRefused.{StepRefused}
use Rattle.ic_gate.specs.declared.refusals.StepRefused.TheVariants.{Failed, Stopped, Full, Memory}
use Rattle.ic_moves.specs.Chiefs as cores
use Rattle.ic_moves.specs.declared.chief.ChiefCore.{ChiefCore}
use Rattle.ic_moves.specs.declared.chief.ChiefPlan.{ChiefPlan}
use Rattle.ic_two.specs.Books.{size_with}
use Rattle.ic_two.specs.ChiefLogs.{records_of, disk_of, size_of, is_closed, heard_of, step_of, calls_of, Serves, KeepsLog, FailsToServe, IsBeforeOrServed, HearsOnly}
use Rattle.ic_two.specs.RecordLogs as logs
use Rattle.ic_two.specs.declared.chief.Chief.{Chief}
use Rattle.ic_two.proofs.Committed.{standing}
use Rattle.ic_two.proofs.Pushing.{of_same}

bytes_of : (r : Record2) → payload2_of (r ∷ []) ≡ spelling2 r
bytes_of r = append-nil (spelling2 r)

closed_up : {A : Type 0} (b : Bool) → b ≡ true → b ≡ false → A
closed_up b e f = cc

-- one record more is taken in
pub entered : (mid new : ChiefCore) (rs now : List Record2) (r : Record2) → cores.docket_of mid ≡ docket_of rs → cores.docket_of new ≡ docketed (cores.docket_of mid) r → now ≡ rs ++ r ∷ [] → cores.docket_of new ≡ docket_of now
entered mid new rs now r before behind is = behind ∙ ap (λ d. docketed d r) before ∙ sym (docket-grew rs (r ∷ [])) ∙ ap docket_of (sym is)

-- the same moves are counted, whatever room there is
pub counted_same : (old mid : ChiefCore) → cores.IsSameChief old mid → cores.AreCounted old → cores.AreCounted mid
counted_same old mid same counted = λ m there. counted m (subst (λ (l : List Move). Contains l m) (ap (λ (x : Docket). x.begun) same.docket) there)

-- a lawful move with a low number may be recorded
pub begun_counted : (m : Move) → 1 ≤ m.n → m.n ≤ GREATEST_NUMBER → is_lawful m ≡ true → IsCountedMove m
begun_counted m low high law = let b = in-books m law in ((low, high), omega (arith, b.from.1), omega (arith, b.to.1))

module _ {D : Type 0} {d : Ghosts D} (old : Chief D d) where
  -- a plan is the step of the log
  pub planned : (p : Packet2) (plan : ChiefPlan) → cores.step_of (heard_of old) plan ≡ hears (cores.docket_of old.core) (heard_of old) p → cores.step_of (heard_of old) plan ≡ step_of old (Hears p)
  planned p plan is = is ∙ ap (λ x. hears x (heard_of old) p) old.state

  module _ (call : Call) (low : is_past_number call ≡ false) where
    full : (is : Bool) → has_no_room2 (size_of old) (step_of old call).adds ≡ is → (is_past_number call || has_no_room2 (size_of old) (step_of old call).adds) ≡ is
    full is e = ap (λ z. z || has_no_room2 (size_of old) (step_of old call).adds) low ∙ e

    -- a step that records nothing
    module _ (none : (step_of old call).adds ≡ []) where
      pub idle : (new : Chief D d) (puts : List Packet2) → HearsOnly old (step_of old call).heard new → puts ≡ (step_of old call).puts → is_closed old ≡ false → Serves old call new puts
      idle new puts only is up = record {
        records = only.records ∙ sym (ap (λ (l : List Record2). records_of old ++ l) none ∙ append-nil (records_of old));
        heard = only.heard;
        puts = is;
        room = full false (ap (has_no_room2 (size_of old)) none);
        size = only.size ∙ sym (ap (size_with (size_of old)) none);
        is_open = only.closed ∙ up;
      }

    -- a step that records one record
    module _ (r : Record2) (one : (step_of old call).adds ≡ r ∷ []) where
      pub room : logs.size_with (size_of old) r ≤ LOG_BYTES → (is_past_number call || has_no_room2 (size_of old) (step_of old call).adds) ≡ false
      room fits = full false (ap (has_no_room2 (size_of old)) one ∙ le-ltb LOG_BYTES (size_of old + 5 + length (payload2_of (r ∷ []))) (omega (arith, fits, ap length (bytes_of r))))

      pub no_room : LOG_BYTES < logs.size_with (size_of old) r → (is_past_number call || has_no_room2 (size_of old) (step_of old call).adds) ≡ true
      no_room past = full true (ap (has_no_room2 (size_of old)) one ∙ lt-ltb LOG_BYTES (size_of old + 5 + length (payload2_of (r ∷ []))) (omega (arith, past, ap length (bytes_of r))))

      pub serves : (new : Chief D d) (puts : List Packet2) → puts ≡ (step_of old call).puts → heard_of new ≡ (step_of old call).heard → logs.AddsRecord old.log r new.log → Serves old call new puts
      serves new puts is heard added = record {
        records = added.records ∙ ap (λ (l : List Record2). records_of old ++ l) (sym one);
        heard = heard;
        puts = is;
        room = room added.room;
        size = added.size ∙ ap (λ (n : ℕ). size_of old + 5 + n) (ap length (sym (bytes_of r))) ∙ sym (ap (size_with (size_of old)) one);
        is_open = added.is_open;
      }

      pub image_served : (image : List ℕ) → logs.IsBeforeOrBehind (d.seen (disk_of old)) (records_of old) r image → IsBeforeOrServed old call image
      image_served image (f, inl e) = (f, inl e)
      image_served image (f, inr e) = (f, inr (e ∙ ap (λ (l : List Record2). Ok (records_of old ++ l)) (sym one)))

      pub served_calls : {a b : D} {ok : Bool} {failed : Type 0} → Makes d (gated_calls (force_writes (size_of old) (spelling2 r))) ok failed a b → Makes d (calls_of old call) ok failed a b
      served_calls made = makes_same (ap (λ l. gated_calls (force_writes (size_of old) l)) (sym (bytes_of r) ∙ ap payload2_of (sym one))) made

      pub not_served : (new : Chief D d) (why : StepRefused) → heard_of new ≡ heard_of old → logs.FailsToAddRecord old.log r new.log why → FailsToServe old call new why
      not_served new Failed heard f = f
      not_served new Stopped heard f = (f.0, f.1, room f.2)
      not_served new Full heard f = (record { records = f.0.records; heard = heard; size = f.0.size; bytes = f.0.bytes; is_open = f.0.is_open }, no_room f.1)
      not_served new Memory heard f = record { records = f.records; heard = heard; size = f.size; bytes = f.bytes; is_open = f.is_open }

  -- where a record isn't added the file is as it was, or the chief is closed
  pub keeps_log : (r : Record2) (new : Chief D d) (why : StepRefused) → Keeps d (disk_of old) (disk_of new) → is_closed old ≡ false → logs.FailsToAddRecord old.log r new.log why → KeepsLog old new
  keeps_log r new why disk up fails = record {
    disk = disk;
    log = λ told going. log_of why fails told going;
    whose = λ told going. of_same (seen_of why fails told going);
  }
    where
      seen_of : (why : StepRefused) → logs.FailsToAddRecord old.log r new.log why → d.tells (disk_of old) → is_closed new ≡ false → d.seen (disk_of new) ≡ d.seen (disk_of old)
      seen_of Failed f told going = closed_up (is_closed new) f.0 going
      seen_of Stopped f told going = closed_up (is_closed new) f.0 going
      seen_of Full f told going = f.0.bytes told
      seen_of Memory f told going = f.bytes told

      records_same : (why : StepRefused) → logs.FailsToAddRecord old.log r new.log why → is_closed new ≡ false → records_of new ≡ records_of old
      records_same Failed f going = closed_up (is_closed new) f.0 going
      records_same Stopped f going = closed_up (is_closed new) f.0 going
      records_same Full f going = f.0.records
      records_same Memory f going = f.records

      log_of : (why : StepRefused) → logs.FailsToAddRecord old.log r new.log why → d.tells (disk_of old) → is_closed new ≡ false → log2_of (d.seen (disk_of new)) ≡ Ok (records_of new)
      log_of why f told going = ap log2_of (seen_of why f told going) ∙ standing old.log told up ∙ ap (λ (l : List Record2). Ok l) (sym (records_same why f going))
