-- What a packet comes to at a book, from what its record came to.
use Rattle.std.proofs.Common.{◌≡◌, ◌∙◌, sym, ap, arith, inl, inr, ◌+◌, ◌<◌, ◌≤◌, ℕ, List, [], ◌∷◌, ◌++◌, length, Bool, true, false, Option}
use Rattle.std.specs.Prelude.{Ok, option_to_list}
use Rattle.std.proofs.lemmas.Bool.{lt-ltb, le-ltb}
use Rattle.std.proofs.lemmas.List.{append-nil}
use Rattle.ic_base.specs.declared.limits.TheConstants.{LOG_BYTES}
use Rattle.def_two.specs.declared.moves.Packet2.{Packet2}
use Rattle.def_two.specs.declared.moves.Record2.{Record2}
use Rattle.def_two.specs.Records.{spelling2, payload2_of}
use Rattle.def_two.specs.CoreSteps.{has_no_room2}
use Rattle.ic_disk.specs.Disk.{Makes}
use Rattle.ic_disk.specs.declared.disk.Disk.{Ghosts}
use Rattle.ic_disk.proofs.Disks.{makes_same}
use Rattle.ic_gate.specs.Calls.{gated_calls, force_writes}
use Rattle.ic_gate.specs.declared.refusals.StepRefused.{StepRefused}
use Rattle.ic_gate.specs.declared.refusals.StepRefused.TheVariants.{Failed, Stopped, Full, Memory}
use Rattle.ic_disk.specs.Disk.{Keeps}
use Rattle.def_two.specs.Logs.{log2_of}
use Rattle.ic_two.specs.Books.{opening_of, records_of, disk_of, size_of, size_with, is_closed, step_of, calls_of, IsSameBook, Serves, KeepsLog, FailsToServe, IsBeforeOrServed}
use Rattle.ic_two.proofs.Committed.{standing}
use Rattle.ic_two.proofs.Pushing.{of_same}
use Rattle.ic_two.proofs.Kept.{Kept}
use Rattle.ic_two.specs.RecordLogs as logs
use Rattle.ic_two.specs.declared.book.Book.{Book}

bytes_of : (r : Record2) → payload2_of (r ∷ []) ≡ spelling2 r
bytes_of r = append-nil (spelling2 r)

-- what a book keeps
pub kept_in : {D : Type 0} {d : Ghosts D} (x : Book D d) → Kept x.core (opening_of x) (records_of x)
kept_in x = record { state = x.state; ready = x.ready; good = x.good; bounded = x.bounded }

closed_up : {A : Type 0} (b : Bool) → b ≡ true → b ≡ false → A
closed_up b e f = cc

module _ {D : Type 0} {d : Ghosts D} (old : Book D d) (p : Packet2) where
  -- a step that records nothing
  module _ (none : (step_of old p).adds ≡ []) where
    pub idle : (answer : Option Packet2) → (step_of old p).puts ≡ option_to_list answer → is_closed old ≡ false → Serves old p old answer
    idle answer puts up = record {
      records = sym (ap (λ (l : List Record2). records_of old ++ l) none ∙ append-nil (records_of old));
      puts = puts;
      room = ap (has_no_room2 (size_of old)) none;
      size = sym (ap (size_with (size_of old)) none);
      is_open = up;
    }

  -- a step that records one record
  module _ (r : Record2) (one : (step_of old p).adds ≡ r ∷ []) where
    full : (is : Bool) → has_no_room2 (size_of old) (r ∷ []) ≡ is → has_no_room2 (size_of old) (step_of old p).adds ≡ is
    full is e = ap (has_no_room2 (size_of old)) one ∙ e

    pub room : logs.size_with (size_of old) r ≤ LOG_BYTES → has_no_room2 (size_of old) (step_of old p).adds ≡ false
    room fits = full false (le-ltb LOG_BYTES (size_of old + 5 + length (payload2_of (r ∷ []))) (omega (arith, fits, ap length (bytes_of r))))

    pub no_room : LOG_BYTES < logs.size_with (size_of old) r → has_no_room2 (size_of old) (step_of old p).adds ≡ true
    no_room past = full true (lt-ltb LOG_BYTES (size_of old + 5 + length (payload2_of (r ∷ []))) (omega (arith, past, ap length (bytes_of r))))

    pub serves : (new : Book D d) (answer : Option Packet2) → (step_of old p).puts ≡ option_to_list answer → logs.AddsRecord old.log r new.log → Serves old p new answer
    serves new answer puts added = record {
      records = added.records ∙ ap (λ (l : List Record2). records_of old ++ l) (sym one);
      puts = puts;
      room = room added.room;
      size = added.size ∙ ap (λ (n : ℕ). size_of old + 5 + n) (ap length (sym (bytes_of r))) ∙ sym (ap (size_with (size_of old)) one);
      is_open = added.is_open;
    }

    pub image_served : (image : List ℕ) → logs.IsBeforeOrBehind (d.seen (disk_of old)) (records_of old) r image → IsBeforeOrServed old p image
    image_served image (f, inl e) = (f, inl e)
    image_served image (f, inr e) = (f, inr (e ∙ ap (λ (l : List Record2). Ok (records_of old ++ l)) (sym one)))

    pub served_calls : {a b : D} {ok : Bool} {failed : Type 0} → Makes d (gated_calls (force_writes (size_of old) (spelling2 r))) ok failed a b → Makes d (calls_of old p) ok failed a b
    served_calls made = makes_same (ap (λ l. gated_calls (force_writes (size_of old) l)) (sym (bytes_of r) ∙ ap payload2_of (sym one))) made

    pub not_served : (new : Book D d) (why : StepRefused) → logs.FailsToAddRecord old.log r new.log why → FailsToServe old p new why
    not_served new Failed f = f
    not_served new Stopped f = (f.0, f.1, room f.2)
    not_served new Full f = (record { records = f.0.records; size = f.0.size; bytes = f.0.bytes; is_open = f.0.is_open }, no_room f.1)
    not_served new Memory f = record { records = f.records; size = f.size; bytes = f.bytes; is_open = f.is_open }

    -- where it isn't served the file is as it was, or the book is closed
    pub keeps_log : (new : Book D d) (why : StepRefused) → IsSameBook old new → Keeps d (disk_of old) (disk_of new) → is_closed old ≡ false → logs.FailsToAddRecord old.log r new.log why → KeepsLog old new
    keeps_log new why same disk up fails = record {
      same = same;
      disk = disk;
      log = λ told going. log_of why fails told going;
      whose = λ told going. of_same (seen_of why fails told going);
    }
      where
        seen_of : (why : StepRefused) → logs.FailsToAddRecord old.log r new.log why → d.tells (disk_of old) → is_closed new ≡ false → d.seen (disk_of new) ≡ d.seen (disk_of old)
        seen_of Failed f told going = closed_up (is_closed new) f.0 going
        seen_of Stopped f told going = closed_up (is_closed new) f.0 going
        seen_of Full f told going = f.0.bytes told
        seen_of Memory f told going = f.bytes told

        records_same : (why : StepRefused) → logs.FailsToAddRecord old.log r new.log why → is_closed new ≡ false → records_of new ≡ records_of old
        records_same Failed f going = closed_up (is_closed new) f.0 going
        records_same Stopped f going = closed_up (is_closed new) f.0 going
        records_same Full f going = f.0.records
        records_same Memory f going = f.records

        log_of : (why : StepRefused) → logs.FailsToAddRecord old.log r new.log why → d.tells (disk_of old) → is_closed new ≡ false → log2_of (d.seen (disk_of new)) ≡ Ok (records_of new)
        log_of why f told going = ap log2_of (seen_of why f told going) ∙ standing old.log told up ∙ ap (λ (l : List Record2). Ok l) (sym (records_same why f going))
