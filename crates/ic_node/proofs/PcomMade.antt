-- A call that is made on a Pcom, whichever it is.
use Rattle.std.proofs.Common.{◌≡◌, ◌∙◌, refl, sym, ap, ℕ, ◌+◌, true, false, List, [], length, drop}
use Rattle.std.specs.Prelude.{Result, Ok, Err, IfOk, IfErr, is_ok, ℤ}
use Rattle.std.proofs.Math.Seq.{drop-length}
use Rattle.ic_base.specs.declared.scenario.Program.{Program}
use Rattle.def_step.specs.Pcom as step
use Rattle.def_step.specs.Pcom.{Call, Gives, Resends}
use Rattle.ic_disk.specs.Disk.{CrashLeaves, Makes}
use Rattle.ic_disk.specs.declared.disk.Disk.{Ghosts}
use Rattle.ic_disk.proofs.Disks.{Keeps-refl, makes_none, makes_named}
use Rattle.ic_gate.specs.Calls.{gated_calls}
use Rattle.ic_gate.specs.RecordCalls.{record_writes}
use Rattle.ic_gate.proofs.LogSizes.{size_walks, size_agrees, walk_stands, used_stands}
use Rattle.ic_gate.specs.RecordFiles.{records_from}
use Rattle.ic_gate.specs.declared.refusals.StepRefused.{StepRefused}
use Rattle.ic_gate.specs.declared.refusals.StepRefused.TheVariants as plain
use Rattle.ic_gate.proofs.RecordCrashes.{nothing_done_from}
use Rattle.ic_pcom.specs.Stepping.{calls_of, forced_by, Does, Answers, KeepsLog, IsBeforeOrStepped, FailsToStep}
use Rattle.ic_pcom.specs.Views.{component_of, com_of, disk_of, start_of, size_of, used_of, is_closed}
use Rattle.ic_pcom.specs.declared.pcom.Pcom.{Pcom}
use Rattle.ic_pcom.specs.declared.step.InputAnswer.{InputAnswer}
use Rattle.ic_pcom.specs.declared.step.InputAnswer.TheVariants.{Taken, NotTaken}
use Rattle.ic_pcom.specs.declared.step.Reason.TheVariants.{Replaying, InTransaction}
use Rattle.ic_pcom.specs.declared.step.PacketRefused.{PacketRefused}
use Rattle.ic_pcom.specs.declared.step.PacketRefused.TheVariants as packet
use Rattle.ic_pcom.specs.declared.step.Step.{Step}
use Rattle.ic_node.specs.PcomStep.{as_packets, as_step, or_memory, IsMade}
use Rattle.ic_node.proofs.PcomSteps.{IsPlain, plain_rests}

module _ {D : Type 0} {d : Ghosts D} (program : Program) (old new : Pcom D d) (call : Call) (n : ℕ) where
  rests : (told : Step) → IsPlain call → Does program old call new told → n + length (component_of new).rest ≡ n + length (component_of old).rest
  rests told plain does =
      ap (λ (x : step.Pcom). n + length x.rest) does.leads ∙ ap (λ rs. n + length rs) (plain_rests program (com_of old) (component_of old) call does.result plain does.step)

  -- a call that brings no packet
  pub plain_is : (r : Result Step StepRefused) → IsPlain call → IfOk r (Does program old call new) → KeepsLog old new → CrashLeaves d (disk_of old) (disk_of new) (IsBeforeOrStepped program old call)
      → Makes d (calls_of program old call) (is_ok r) (r ≡ Err plain.Failed) (disk_of old) (disk_of new) → IfErr r (FailsToStep program old call new) → IsMade program old call new n n (as_packets r)
  plain_is (Ok told) is does log crash calls fails = record {
    step = does;
    log = log;
    crash = crash;
    calls = named calls;
    refused = tt;
    steps = rests told is does;
    stopped = λ e. refl;
  }
    where
      named : Makes d (calls_of program old call) true (◌≡◌ {A = Result Step StepRefused} (Ok told) (Err plain.Failed)) (disk_of old) (disk_of new)
          → Makes d (calls_of program old call) true (◌≡◌ {A = Result Step PacketRefused} (Ok told) (Err packet.Failed)) (disk_of old) (disk_of new)
      named made = makes_named _ (λ e. cc) made
  plain_is (Err plain.Failed) is does log crash calls fails =
      record { step = tt; log = log; crash = crash; calls = makes_named _ (λ e. refl) calls; refused = fails; steps = tt; stopped = λ e. refl }
  plain_is (Err plain.Stopped) is does log crash calls fails =
      record { step = tt; log = log; crash = crash; calls = makes_named _ (λ e. cc) calls; refused = fails; steps = tt; stopped = λ e. refl }
  plain_is (Err plain.Full) is does log crash calls fails =
      record { step = tt; log = log; crash = crash; calls = makes_named _ (λ e. cc) calls; refused = fails; steps = tt; stopped = λ e. refl }
  plain_is (Err plain.Memory) is does log crash calls fails =
      record { step = tt; log = log; crash = crash; calls = makes_named _ (λ e. cc) calls; refused = fails; steps = tt; stopped = λ e. refl }

-- a clause that holds of each program, of this one
module _ {D : Type 0} {d : Ghosts D} (program : Program) (old : Pcom D d) (call : Call) (new : Pcom D d) where
  pub ok_this : {E : Type 0} (r : Result Step E) → IfOk r (λ told. (any : Program) → Does any old call new told) → IfOk r (Does program old call new)
  ok_this (Ok told) does = does program
  ok_this (Err e) does = tt

  pub err_this : {T : Type 0} (r : Result T StepRefused) → IfErr r (λ why. (any : Program) → FailsToStep any old call new why) → IfErr r (FailsToStep program old call new)
  err_this (Ok told) fails = tt
  err_this (Err why) fails = fails program

-- an input
module _ {D : Type 0} {d : Ghosts D} (program : Program) (old new : Pcom D d) (handler : ℕ) (args : List ℤ) (n : ℕ) where
  input_does : (a : InputAnswer) → Answers program old handler args new a → IfOk (as_step (Ok a)) (Does program old (Gives handler args) new)
  input_does (Taken told) answers = answers.1
  input_does (NotTaken Replaying) answers = answers.1
  input_does (NotTaken InTransaction) answers = answers.2

  input_step : (r : Result InputAnswer StepRefused) → IfOk r (Answers program old handler args new) → IfOk (as_step r) (Does program old (Gives handler args) new)
  input_step (Ok a) answers = input_does a answers
  input_step (Err why) answers = tt

  input_fails : (r : Result InputAnswer StepRefused) → IfErr r (FailsToStep program old (Gives handler args) new) → IfErr (as_step r) (FailsToStep program old (Gives handler args) new)
  input_fails (Ok (Taken told)) fails = tt
  input_fails (Ok (NotTaken why)) fails = tt
  input_fails (Err why) fails = fails

  input_makes : (r : Result InputAnswer StepRefused) → Makes d (calls_of program old (Gives handler args)) (is_ok r) (r ≡ Err plain.Failed) (disk_of old) (disk_of new)
      → Makes d (calls_of program old (Gives handler args)) (is_ok (as_step r)) (as_step r ≡ Err plain.Failed) (disk_of old) (disk_of new)
  input_makes (Ok (Taken told)) made = makes_named _ (λ e. cc) made
  input_makes (Ok (NotTaken why)) made = makes_named _ (λ e. cc) made
  input_makes (Err why) made = makes_named _ (λ e. let same : why ≡ plain.Failed = cc in ap (λ (w : StepRefused). Err w) same) made

  pub input_is : (r : Result InputAnswer StepRefused) → IfOk r (Answers program old handler args new) → KeepsLog old new → CrashLeaves d (disk_of old) (disk_of new) (IsBeforeOrStepped program old (Gives handler args))
      → Makes d (calls_of program old (Gives handler args)) (is_ok r) (r ≡ Err plain.Failed) (disk_of old) (disk_of new) → IfErr r (FailsToStep program old (Gives handler args) new) → IsMade program old (Gives handler args) new n n (as_packets (as_step r))
  input_is r answers log crash calls fails = plain_is program old new (Gives handler args) n (as_step r) tt (input_step r answers) log crash (input_makes r calls) (input_fails r fails)

-- a Resend, which does nothing to the Pcom
module _ {D : Type 0} {d : Ghosts D} (only_now : (disk : D) (image : List ℕ) → d.keeps disk → d.left_since disk (d.moment disk) image → d.may_leave disk image) (tells : (disk : D) → d.keeps disk → d.tells disk)
    (program : Program) (p : Pcom D d) (n : ℕ) (going : is_closed p ≡ false) where
  stood : d.tells (disk_of p) → records_from (start_of p) (d.seen (disk_of p)) ≡ Ok (component_of p).log.forced
  stood told = walk_stands p.log told (p.opened going)

  log_stays : KeepsLog p p
  log_stays = record {
    same = refl;
    disk = Keeps-refl (disk_of p);
    start = refl;
    sized = λ told. size_walks p.log told (p.opened going);
    of_file = λ told. size_agrees p.log told (p.opened going);
    listed = λ told. used_stands p.log told (p.opened going);
    stood = stood;
    log = λ told e. record { walk = stood told; whole = λ front is. is };
    whose = λ told e. record { fingerprint = refl; owner = refl };
    still = λ told e same. refl;
  }

  no_calls : (told : Step) → Does program p Resends p told → calls_of program p Resends ≡ []
  no_calls told does = ap (λ o. gated_calls (record_writes (size_of p) (used_of p) (forced_by (component_of p) o))) does.step ∙ ap (λ (x : step.Pcom). gated_calls (record_writes (size_of p) (used_of p) (drop (length (component_of p).log.forced) x.log.forced))) (sym does.leads)
      ∙ ap (λ rs. gated_calls (record_writes (size_of p) (used_of p) rs)) (drop-length (component_of p).log.forced)

  pub resend_is : {E : Type 0} (r : Result Step E) → IfOk r (Does program p Resends p) → IsMade program p Resends p n n (as_packets (or_memory r))
  resend_is (Ok told) does =
      plain_is program p p Resends n (Ok told) tt does log_stays (nothing_done_from (start_of p) (disk_of p) (component_of p).log.forced _ only_now tells (λ keeps. p.durable keeps going) stood)
      (makes_none (disk_of p) (calls_of program p Resends) true _ (λ e. no_calls told does)) tt
  resend_is (Err e) does =
      plain_is program p p Resends n (Err plain.Memory) tt tt log_stays (nothing_done_from (start_of p) (disk_of p) (component_of p).log.forced _ only_now tells (λ keeps. p.durable keeps going) stood)
      (makes_none (disk_of p) (calls_of program p Resends) false _ (λ e. cc)) (record { same = refl; size = refl; played = refl; bytes = λ told. refl; is_open = going })
