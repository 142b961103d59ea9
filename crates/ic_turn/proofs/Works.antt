-- The work of a choice, with its disk, is the event of the definitions.
use Rattle.std.proofs.Common.{◌≡◌, ◌∙◌, refl, sym, ap, subst, ℕ, ◌<◌, Bool, true, false, List, [], ◌++◌, length, map, drop, arith, Option, Some, None, option_map, option_to_list, cond, ◌+◌, Result, Ok, Err, IfOk, OnOk}
use Rattle.std.specs.Prelude.{is_some, unwrap_or, min}
use Rattle.std.proofs.lemmas.Bool.{both_ways}
use Rattle.std.proofs.lemmas.List.{append-nil, length-map, length-set}
use Rattle.ic_base.specs.declared.events.Answer.{Answer}
use Rattle.ic_base.specs.declared.events.Event.{Event}
use Rattle.ic_base.specs.declared.events.Trace.{Trace}
use Rattle.ic_base.specs.declared.messages.ComId.{ComId}
use Rattle.ic_base.specs.declared.messages.Output.{Output}
use Rattle.ic_base.specs.declared.messages.Packet.{Packet}
use Rattle.ic_base.specs.declared.refusals.WorldRefused.{WorldRefused}
use Rattle.ic_base.specs.declared.scenario.Component.{Component as Declared}
use Rattle.ic_base.specs.declared.scenario.Program.{Program}
use Rattle.def_live.specs.Turns.{Choice, Unlisted, Brings, Lists, IsOwn, alone, event_of, left_behind, answers_of, shown_in}
use Rattle.def_log.specs.Sizes.{size_in}
use Rattle.def_run.specs.CoreSteps.{CoreStep}
use Rattle.def_run.specs.Reports.{played_by}
use Rattle.def_run.specs.SystemStates.{KeepsLog, file_in}
use Rattle.def_step.specs.World.{World, Done, trace_of, world_with, showing_with}
use Rattle.ic_disk.specs.declared.disk.Disk.{Ghosts}
use Rattle.ic_node.specs.Calling.{done_with}
use Rattle.ic_node.specs.Meeting.{Meets, where_told}
use Rattle.ic_node.specs.Nodes as parts
use Rattle.ic_node.specs.Views.{node_of, file_of, disk_of, com_of, Tells}
use Rattle.ic_node.specs.declared.component.Component.{Component}
use Rattle.ic_node.specs.declared.done.Done.{Done as Told}
use Rattle.ic_work.specs.Components.{Works, HasRoom}
use Rattle.ic_work.specs.Working.{work_of, adds_of, work_receives}
use Rattle.ic_work.specs.declared.work.Work.{Work}
use Rattle.ic_work.specs.declared.work.Work.TheVariants.{Calls, Crashes, Recovers}
use Rattle.ic_turn.specs.Choices.{answers_kept}
use Rattle.ic_turn.specs.Doing.{standing_of, DoesChoice}
use Rattle.ic_turn.specs.Progresses.{GREATEST, events_of, left_of, answers_of as answers_in, shown_of, turns_of, received_of, packets_of, played_of}
use Rattle.ic_turn.specs.Standings.{Standing, Leads, DoesOne, files_with}
use Rattle.ic_turn.specs.Works as asked
use Rattle.ic_turn.specs.declared.progress.Progress.{Progress}
use Rattle.ic_turn.proofs.Alone.{Asks, PassesNone, asks-choice, behind_world, alone-happens, node-behind, alone-core}
use Rattle.ic_turn.proofs.Lists.{left-less}
use Rattle.ic_turn.proofs.Refusing.{receives-is}
use Rattle.ic_turn.proofs.Places.{get-set_same, set-set}

-- the file of a component of the program
pub file-in : (program : Program) (c : ComId) (file : List ℕ) → c.0 < length program.components → file_in (files_with program c file) c ≡ file
file-in program c file there = ap (λ o. unwrap_or o []) (get-set_same (map (λ (d : Declared). []) program.components) c.0 file (let m = length-map {B = List ℕ} program.components (λ (d : Declared). []) in omega (arith, m, there)))

many-files : (program : Program) (c : ComId) (file : List ℕ) → c.0 < length program.components → c.0 < length (files_with program c file)
many-files program c file there = let n = length-set (map (λ (d : Declared). []) program.components) c.0 file in let m = length-map {B = List ℕ} program.components (λ (d : Declared). []) in omega (arith, n, m, there)

-- what is told where there is a disk
told-where : {D : Type 0} (d : Ghosts D) (o : Option D) (P : Type 0) → is_some o ≡ true → parts.told_of d o → where_told d o P → P
told-where d None P has t w = absurd (both_ways false refl has)
told-where d (Some disk) P has t w = w t

shown-is : (w : World) (e : Event) (c : ComId) (d : Done) → shown_in (trace_of w e c d) ≡ option_to_list d.shown
shown-is w e c d = by d.shown
  where
    by : (o : Option Output) → map (λ s. s.0) (option_to_list (option_map (showing_with w c) o)) ≡ option_to_list o
    by None = refl
    by (Some o) = refl

pub kept-is : (x : Choice) (t : Trace) → answers_of x t ≡ answers_kept x t.answer
kept-is (Unlisted what) t = refl
kept-is (Brings p) t = refl
kept-is (Lists e) t = refl

-- the events that are left behind a choice whose answer is kept
pub left-is : (x : Choice) (answers : List Answer) (a : Answer) (events : List Event) → drop (length (answers ++ answers_kept x a)) events ≡ left_behind x (drop (length answers) events)
left-is (Unlisted what) answers a events = ap (λ l. drop (length l) events) (append-nil answers)
left-is (Brings p) answers a events = ap (λ l. drop (length l) events) (append-nil answers)
left-is (Lists e) answers a events = left-less e answers a events

module _ {D : Type 0} {d : Ghosts D} (program : Program) (print : List ℕ) (x : Choice) (old new : Component D d) (work : Work) (told : Told) (own : IsOwn (com_of old) x) (is : asked.work_of x ≡ Some (work_of work)) (there : (com_of old).0 < length program.components)
    (has : is_some (disk_of old) ≡ true) (w : Works program old (event_of (com_of old) x).stop work new told) (logs : Tells old → KeepsLog print (com_of old) (file_of old) (Some (node_of old))) where
  abbrev c : ComId
  c = com_of old

  abbrev dn : Done
  dn = done_with (node_of new) told

  -- a call passes no limit
  passes : Tells old → (file : List ℕ) → file ≡ file_of old → PassesNone program c (node_of old) file (work_of work)
  passes tells file e = by work w.room
    where
      by : (k : Work) → HasRoom program old k → PassesNone program c (node_of old) file (work_of k)
      by (Calls number call) room = λ size s. room tells size (ap size_in (sym e) ∙ s)
      by Crashes room = tt
      by Recovers room = tt

  module _ (left : List Event) (answers : List Answer) (shown : List Output) (turns : ℕ) where
    abbrev s : Standing
    s = record { node = node_of old; file = file_of old; left = left; answers = answers; shown = shown; turns = turns }

    asks : Asks program c (event_of c x).what (alone program c (node_of old) x shown) (behind_world program c (node_of old) x shown) (work_of work)
    asks = asks-choice program c (node_of old) x shown (work_of work) own is

    abbrev trace : Trace
    trace = trace_of (behind_world program c (node_of old) x shown) (event_of c x) c dn

    pub works-lead : Leads program print c x (Tells old) s (node_of new) (file_of new) trace
    works-lead = record {
      outcome = w.outcome;
      behind = world_with (behind_world program c (node_of old) x shown) c dn;
      happens = alone-happens program print c (node_of old) x shown (work_of work) asks w.outcome dn (files_with program c (file_of old)) (file_of new) w.step there (many-files program c (file_of old) there);
      leads = node-behind program print c (node_of old) x shown (work_of work) asks w.outcome dn (files_with program c (file_of old)) (file_of new) w.step there (many-files program c (file_of old) there) dn;
      core = λ tells.
          let f = file-in program c (file_of old) there in
          let M : List ℕ → Type 0 = λ z. Meets program c w.outcome (event_of c x).stop (adds_of program c (node_of old) w.outcome (work_of work)) told.answer (node_of old) (node_of new) z (file_of new) in
          let F : List (List ℕ) → Type 0 = λ fs. CoreStep program print (record { world = alone program c (node_of old) x shown; files = files_with program c (file_of old) }) (event_of c x) trace (record { world = world_with (behind_world program c (node_of old) x shown) c dn; files = fs }) in
          subst F (set-set (map (λ (y : Declared). []) program.components) c.0 (file_of old) (file_of new))
          (alone-core program print c (node_of old) x shown (work_of work) asks w.outcome dn (files_with program c (file_of old)) (file_of new) w.step there (many-files program c (file_of old) there)
          (passes tells (file_in (files_with program c (file_of old)) c) f)
          (subst M (sym f) (told-where d (disk_of old) (M (file_of old)) has tells w.meets))
          (subst (λ (k : ComId). KeepsLog print k (file_of new) (Some (node_of new))) w.goes_on.same (w.goes_on.logs tells print (logs tells))));
    }

  pub does-choice : (before behind : Progress) → events_of behind ≡ events_of before → answers_in behind ≡ answers_in before ++ answers_kept x told.answer → shown_of behind ≡ shown_of before ++ option_to_list told.shown → turns_of behind ≡ turns_of before
      → DoesOne program print (com_of old) (Some x) (Tells old) told.puts (standing_of old before) (standing_of new behind)
  does-choice before behind events answers shown turns =
      let t = trace (left_of before) (answers_in before) (shown_of before) (turns_of before) in (
        node_of new,
        file_of new,
        t,
        works-lead (left_of before) (answers_in before) (shown_of before) (turns_of before),
        (let P : List Event × List Answer × List Output × ℕ → Standing = λ z. record { node = node_of new; file = file_of new; left = z.0; answers = z.1; shown = z.2; turns = z.3 } in
            ap P (λ i. (
              (ap (λ l. drop (length (answers_in behind)) l) events ∙ ap (λ l. drop (length l) (events_of before)) answers ∙ left-is x (answers_in before) told.answer (events_of before)) i,
              (answers ∙ ap (λ l. answers_in before ++ l) (sym (kept-is x t))) i,
              (shown ∙ ap (λ l. shown_of before ++ l) (sym (shown-is (behind_world program c (node_of old) x (shown_of before)) (event_of c x) c dn))) i,
              turns i,
            ))),
        refl,
      )

  -- told and counted
  pub tells-choice : (before behind : Progress) (more : Bool) → more ≡ work_receives program c (work_of work) (node_of old) → (r : Result (List Packet) WorldRefused) → IfOk r (λ puts. puts ≡ told.puts) → OnOk r (answers_in behind ≡ answers_in before ++ answers_kept x told.answer) → OnOk r (shown_of behind ≡ shown_of before ++ option_to_list told.shown)
      → OnOk r (received_of behind ≡ received_of before + cond more 1 0) → OnOk r (packets_of behind ≡ packets_of before + length told.puts) → OnOk r (played_of behind ≡ min (played_of before + told.played) GREATEST) → told.played ≡ played_by (node_of old) (node_of new) → events_of behind ≡ events_of before → turns_of behind ≡ turns_of before → IfOk r (DoesChoice program print x old before new behind)
  tells-choice before behind more is_more (Err why) puts answers shown received packets played plays events turns = tt
  tells-choice before behind more is_more (Ok out) puts answers shown received packets played plays events turns = record {
    does = subst (λ z. DoesOne program print c (Some x) (Tells old) z (standing_of old before) (standing_of new behind)) (sym puts) (does-choice before behind events answers shown turns);
    received = received ∙ ap (λ b. received_of before + cond b 1 0) (is_more ∙ sym (receives-is program c x (node_of old) work is));
    packets = packets ∙ ap (λ l. packets_of before + length l) (sym puts);
    played = played ∙ ap (λ n. min (played_of before + n) GREATEST) plays;
  }
