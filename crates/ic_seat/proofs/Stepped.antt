-- What a call comes to at a component that is up, from what it came to at the chief or at the book.
use Rattle.std.proofs.Common.{◌≡◌, ◌∙◌, refl, sym, ap, inl, ℕ, true, false, not, List, [], ◌++◌, Option, Some}
use Rattle.std.specs.Prelude.{Result, Ok, Err, IfOk, IfErr, is_ok, option_to_list}
use Rattle.std.proofs.lemmas.List.{append-nil}
use Rattle.def_log.specs.Sizes.{size_in}
use Rattle.def_two.specs.declared.moves.Packet2.{Packet2}
use Rattle.def_two.specs.declared.moves.Record2.{Record2}
use Rattle.def_two.specs.Chief.{Call, Begins, Hears, Resends}
use Rattle.def_two.specs.CoreSteps.{has_no_room2}
use Rattle.def_two.specs.Records.{payload2_of}
use Rattle.def_two.specs.World.{Site}
use Rattle.ic_disk.specs.Disk.{CrashLeaves, Makes}
use Rattle.ic_disk.specs.declared.disk.Disk.{Ghosts}
use Rattle.ic_disk.proofs.Disks.{Keeps-refl, makes_named, makes_none}
use Rattle.ic_gate.specs.Calls.{gated_calls, force_writes}
use Rattle.ic_gate.specs.declared.refusals.StepRefused.{StepRefused}
use Rattle.ic_gate.specs.declared.refusals.StepRefused.TheVariants.{Failed, Stopped, Full, Memory}
use Rattle.ic_two.specs.Books as books
use Rattle.ic_two.specs.ChiefLogs as chiefs
use Rattle.ic_two.specs.declared.book.Book.{Book}
use Rattle.ic_two.specs.declared.chief.Chief.{Chief}
use Rattle.ic_two.proofs.Committed.{standing}
use Rattle.ic_two.proofs.DeviceCalls.{err_again}
use Rattle.ic_two.proofs.Pushing.{nothing_done}
use Rattle.ic_seat.specs.Seats.{step_in}
use Rattle.ic_seat.specs.Steps.{IsBeforeOrServed, IsStep, FailsToStep, StepsOver}
use Rattle.ic_seat.specs.declared.seat.Seat.TheVariants as seats

abbrev up_with : List Record2 → Site
up_with l = record { up = true; log = l }

module _ {D : Type 0} {d : Ghosts D} where
  -- the chief ----------------------------------------------------------------------------------

  module _ (old new : Chief D d) (call : Call) (log : chiefs.KeepsLog old new) where
    chief_step : (puts : List Packet2) → chiefs.Serves old call new puts → IsStep (chiefs.size_of old) (seats.Chief old) call (seats.Chief new) puts
    chief_step puts s = record {
      site = ap up_with s.records;
      heard = s.heard;
      puts_out = s.puts;
      room = s.room;
      stays_open = ap not s.is_open;
      seated = λ openings c e. e;
      log = λ told. log.log told s.is_open;
      whose = λ told. log.whose told s.is_open;
      settled = new.log.settled s.is_open;
    }

    chief_fails : (why : StepRefused) → chiefs.FailsToServe old call new why → FailsToStep (chiefs.size_of old) (seats.Chief old) call (seats.Chief new) why
    chief_fails Failed f = f.1
    chief_fails Stopped f = (f.1, f.2)
    chief_fails Full f = (f.1, f.0.bytes)
    chief_fails Memory f = f.bytes

    made : (result : Result (List Packet2) StepRefused) → IfOk result (chiefs.Serves old call new) → IfOk result (IsStep (chiefs.size_of old) (seats.Chief old) call (seats.Chief new))
    made (Ok puts) s = chief_step puts s
    made (Err why) s = tt

    not_made : (result : Result (List Packet2) StepRefused) → IfErr result (chiefs.FailsToServe old call new) → IfErr result (FailsToStep (chiefs.size_of old) (seats.Chief old) call (seats.Chief new))
    not_made (Ok puts) f = tt
    not_made (Err why) f = chief_fails why f

    pub chief_steps : (result : Result (List Packet2) StepRefused) → (d.tells (chiefs.disk_of old) → size_in (d.seen (chiefs.disk_of old)) ≡ Some (chiefs.size_of old))
        → CrashLeaves d (chiefs.disk_of old) (chiefs.disk_of new) (chiefs.IsBeforeOrServed old call)
        → Makes d (chiefs.calls_of old call) (is_ok result) (result ≡ Err Failed) (chiefs.disk_of old) (chiefs.disk_of new)
        → IfOk result (chiefs.Serves old call new) → IfErr result (chiefs.FailsToServe old call new) → StepsOver (seats.Chief old) call (seats.Chief new) result
    chief_steps result sized crash calls ok err = record {
      size = chiefs.size_of old;
      sized = sized;
      disk = log.disk;
      crash = crash;
      calls = calls;
      step = made result ok;
      refused = not_made result err;
    }

  -- a chief that sends again
  module _ (x : Chief D d) (up : chiefs.is_closed x ≡ false) (only_now : (disk : D) (image : List ℕ) → d.keeps disk → d.left_since disk (d.moment disk) image → d.may_leave disk image)
      (tells_kept : (disk : D) → d.keeps disk → d.tells disk) (sized : d.tells (chiefs.disk_of x) → size_in (d.seen (chiefs.disk_of x)) ≡ Some (chiefs.size_of x)) where
    resent : (puts : List Packet2) → puts ≡ (chiefs.step_of x Resends).puts → IsStep (chiefs.size_of x) (seats.Chief x) Resends (seats.Chief x) puts
    resent puts is = record {
      site = ap up_with (sym (append-nil (chiefs.records_of x)));
      heard = refl;
      puts_out = is;
      room = refl;
      stays_open = ap not up;
      seated = λ openings c e. e;
      log = λ told. standing x.log told up;
      whose = λ told. record { fingerprint = refl; owner = refl };
      settled = x.log.settled up;
    }

    of_result : (result : Result (List Packet2) StepRefused) → IfOk result (λ puts. puts ≡ (chiefs.step_of x Resends).puts) → IfOk result (IsStep (chiefs.size_of x) (seats.Chief x) Resends (seats.Chief x))
    of_result (Ok puts) is = resent puts is
    of_result (Err why) is = tt

    of_error : (result : Result (List Packet2) StepRefused) → IfErr result (λ why. why ≡ Memory) → IfErr result (FailsToStep (chiefs.size_of x) (seats.Chief x) Resends (seats.Chief x))
    of_error (Ok puts) is = tt
    of_error (Err Failed) is = absurd (cc)
    of_error (Err Stopped) is = absurd (cc)
    of_error (Err Full) is = absurd (cc)
    of_error (Err Memory) is = λ told. refl

    pub chief_resends : (result : Result (List Packet2) StepRefused) → IfOk result (λ puts. puts ≡ (chiefs.step_of x Resends).puts) → IfErr result (λ why. why ≡ Memory) → StepsOver (seats.Chief x) Resends (seats.Chief x) result
    chief_resends result ok err = record {
      size = chiefs.size_of x;
      sized = sized;
      disk = Keeps-refl (chiefs.disk_of x);
      crash = nothing_done (chiefs.disk_of x) _ only_now (λ keeps. x.log.durable keeps up) (λ keeps. (record { fingerprint = refl; owner = refl }, inl (standing x.log (tells_kept (chiefs.disk_of x) keeps) up)));
      calls = makes_none (chiefs.disk_of x) [] (is_ok result) _ (λ e. refl);
      step = of_result result ok;
      refused = of_error result err;
    }

  -- a book ---------------------------------------------------------------------------------------

  module _ (old new : Book D d) (p : Packet2) (log : books.KeepsLog old new) (sized : d.tells (books.disk_of old) → size_in (d.seen (books.disk_of old)) ≡ Some (books.size_of old))
      (crash : CrashLeaves d (books.disk_of old) (books.disk_of new) (books.IsBeforeOrServed old p)) where
    book_step : (answer : Option Packet2) (puts : List Packet2) → puts ≡ option_to_list answer → books.Serves old p new answer → IsStep (books.size_of old) (seats.Book old) (Hears p) (seats.Book new) puts
    book_step answer puts is s = record {
      site = ap up_with s.records;
      heard = refl;
      puts_out = is ∙ sym s.puts;
      room = s.room;
      stays_open = ap not s.is_open;
      seated = λ openings c e. (e.0, log.same.number ∙ e.1, log.same.opening ∙ e.2);
      log = λ told. log.log told s.is_open;
      whose = λ told. log.whose told s.is_open;
      settled = new.log.settled s.is_open;
    }

    book_fails : (why : StepRefused) → books.FailsToServe old p new why → FailsToStep (books.size_of old) (seats.Book old) (Hears p) (seats.Book new) why
    book_fails Failed f = f.1
    book_fails Stopped f = (f.1, f.2)
    book_fails Full f = (f.1, f.0.bytes)
    book_fails Memory f = f.bytes

    pub book_serves : (answer : Option Packet2) (puts : List Packet2) → puts ≡ option_to_list answer
        → Makes d (books.calls_of old p) true (◌≡◌ {A = Result (Option Packet2) StepRefused} (Ok answer) (Err Failed)) (books.disk_of old) (books.disk_of new)
        → books.Serves old p new answer → StepsOver (seats.Book old) (Hears p) (seats.Book new) (Ok puts)
    book_serves answer puts is calls s = record {
      size = books.size_of old;
      sized = sized;
      disk = log.disk;
      crash = crash;
      calls = makes_named _ (λ e. absurd (cc)) calls;
      step = book_step answer puts is s;
      refused = tt;
    }

    pub book_refuses : (why : StepRefused) → Makes d (books.calls_of old p) false (◌≡◌ {A = Result (Option Packet2) StepRefused} (Err why) (Err Failed)) (books.disk_of old) (books.disk_of new)
        → books.FailsToServe old p new why → StepsOver (seats.Book old) (Hears p) (seats.Book new) (Err why)
    book_refuses why calls f = record {
      size = books.size_of old;
      sized = sized;
      disk = log.disk;
      crash = crash;
      calls = makes_named _ (err_again why Failed) calls;
      step = tt;
      refused = book_fails why f;
    }

  -- a book of which nothing is asked, or for which memory is wanting
  module _ (x : Book D d) (up : books.is_closed x ≡ false) (only_now : (disk : D) (image : List ℕ) → d.keeps disk → d.left_since disk (d.moment disk) image → d.may_leave disk image)
      (tells_kept : (disk : D) → d.keeps disk → d.tells disk) (sized : d.tells (books.disk_of x) → size_in (d.seen (books.disk_of x)) ≡ Some (books.size_of x)) (call : Call) where
    crash_none : CrashLeaves d (books.disk_of x) (books.disk_of x) (IsBeforeOrServed (seats.Book x) call)
    crash_none = nothing_done (books.disk_of x) _ only_now (λ keeps. x.log.durable keeps up) (λ keeps. (record { fingerprint = refl; owner = refl }, inl (standing x.log (tells_kept (books.disk_of x) keeps) up)))

    pub book_lacks : StepsOver (seats.Book x) call (seats.Book x) (Err Memory)
    book_lacks = record {
      size = books.size_of x;
      sized = sized;
      disk = Keeps-refl (books.disk_of x);
      crash = crash_none;
      calls = makes_none (books.disk_of x) _ false _ (λ e. absurd (cc));
      step = tt;
      refused = λ told. refl;
    }

    idle_of : (call : Call) → ((p : Packet2) → call ≡ Hears p → ⊥) → ((step_in (seats.Book x) call).adds ≡ []) × ((step_in (seats.Book x) call).puts ≡ []) × ((step_in (seats.Book x) call).heard ≡ (step_in (seats.Book x) Resends).heard)
    idle_of (Begins m) unheard = (refl, refl, refl)
    idle_of (Hears p) unheard = absurd (unheard p refl)
    idle_of Resends unheard = (refl, refl, refl)

    pub book_idle : ((p : Packet2) → call ≡ Hears p → ⊥) → StepsOver (seats.Book x) call (seats.Book x) (Ok [])
    book_idle unheard =
        let idle = idle_of call unheard in
        record {
          size = books.size_of x;
          sized = sized;
          disk = Keeps-refl (books.disk_of x);
          crash = crash_none;
          calls = makes_none (books.disk_of x) _ true _ (λ e. ap (λ l. gated_calls (force_writes (books.size_of x) (payload2_of l))) idle.0);
          step = record {
            site = ap up_with (sym (ap (λ l. books.records_of x ++ l) idle.0 ∙ append-nil (books.records_of x)));
            heard = sym idle.2;
            puts_out = sym idle.1;
            room = ap (has_no_room2 (books.size_of x)) idle.0;
            stays_open = ap not up;
            seated = λ openings c e. e;
            log = λ told. standing x.log told up;
            whose = λ told. record { fingerprint = refl; owner = refl };
            settled = x.log.settled up;
          };
          refused = tt;
        }
