-- The core steps of the scene: each event as the definition has it, with what the disks read.
use Rattle.std.proofs.Common.{◌≡◌, refl, ◌∙◌, ap, sym, subst, ℕ, zero, suc, ℤ, pos, Bool, true, false, not, ◌&&◌, ◌||◌, ◌+◌, ◌≤◌, nat_lt, List, [], ◌∷◌, length, map, Option, Some, None, Ok, option_map, arith}
use Rattle.std.specs.List.{AllByRecursion}
use Rattle.std.specs.declared.alloc.Global.{Global}
use Rattle.ic_base.specs.declared.limits.TheConstants.{FIRST_GATE, SLOTS}
use Rattle.ic_base.specs.declared.events.Answer.TheVariants as answers
use Rattle.ic_base.specs.declared.events.Fate.TheVariants as fates
use Rattle.ic_base.specs.declared.events.Event.{Event}
use Rattle.ic_base.specs.declared.events.Trace.{Trace}
use Rattle.ic_base.specs.declared.events.What.TheVariants as whats
use Rattle.ic_base.specs.declared.messages.ComId.{ComId}
use Rattle.ic_base.specs.declared.messages.Done.{Done}
use Rattle.ic_base.specs.declared.messages.Done.TheVariants.{Committed}
use Rattle.ic_base.specs.declared.messages.Packet.{Packet}
use Rattle.ic_base.specs.declared.played.Played.{Played}
use Rattle.ic_base.specs.declared.record.Record.{Record}
use Rattle.ic_base.specs.declared.scenario.Expr.TheVariants.{One}
use Rattle.ic_base.specs.declared.scenario.Operand.TheVariants.{Param}
use Rattle.ic_base.specs.declared.scenario.Stmt.TheOpen.{Stmt-F, Txn, Put}
use Rattle.ic_base.specs.Programs.{same_com}
use Rattle.def_log.specs.Directory.{closed_slots, slots_in}
use Rattle.def_log.specs.Frame.{at_rest, batches, placed, frame_of}
use Rattle.def_log.specs.Laws.{IsPayload}
use Rattle.def_log.specs.Loads.{payload_of}
use Rattle.def_log.specs.Log.{◌>>=◌, placed_in, placed_up_to, records_in}
use Rattle.def_log.specs.Sizes.{size_in, span}
use Rattle.def_log.specs.Reading.{record_at, input_at, taken_at, tested_at, args_at, values_at, value_at, answer_at, session_at, outcome_at, ending_at, decided_at, writes_at, com_at as number_at}
use Rattle.def_play.specs.Playing.{Change, turn, stmt_turn, in_turn, played}
use Rattle.def_play.proofs.Folds.{turn-Txn, turn-Put}
use Rattle.def_play.proofs.Handlers.{changes, comes_to, order_plays}
use Rattle.def_plain.specs.Scenes.{com_at}
use Rattle.def_state.specs.Fits.{failed_line}
use Rattle.def_state.specs.Txn as txns
use Rattle.def_state.specs.Vol.{come_to, take_in_hand, receive, end_txn, numbers_fit}
use Rattle.def_step.proofs.Inputs.{input_step, with_input, replayed_input}
use Rattle.def_step.specs.Pcom.{Pcom, StepResult, Effects, Changed, Gets, absorb_choice, carry_out, decide, force_where, is_empty, just_tail, needed_fetch, need_abort, need_records, nothing_at_all, put_out, stands_at, told as step_told}
use Rattle.def_step.specs.Room.{has_no_room}
use Rattle.def_step.specs.World.{World, Runs, Serves, Down, External, DiskOutcome, After, answer_of, behind, cut_off, done_as, input_answer, node_at, takes_off, up_answer}
use Rattle.def_run.specs.CoreSteps.{CoreStep, MeetsDisk}
use Rattle.def_run.specs.SystemStates.{SystemState, IsLog, KeepsLog, KeepsLogs, file_of, without_stop}
use Rattle.def_live.specs.Turns.{Brings, Lists, alone, delivery}
use Rattle.law_replay.proofs.Lists.{same-com}
use Rattle.law_run.proofs.Rests.{no-slots, rest-log, rest-size}
use Rattle.law_live_scene.specs.Chain.{chain, charge, charge_part, shop, till, bank, the_session, the_input, the_receipt, the_value, the_outcome, the_decision, the_data, the_stable, the_op, the_reply, the_answer, untouched, fresh, ordered, asking, ready, idle, serving, print, no_records, shop_file, asking_file, ready_file, done_file, bank_file}
use Rattle.law_live_scene.specs.Scene.{give_order, crash_shop, did, opening, up, asked, answered, committing, committed, told, forced, settled, recover_trace, ask_trace, answer_trace, commit_trace, decide_trace, end_trace, force_trace, drop_trace}
use Rattle.law_live_scene.proofs.Lanes.{files-stay}

-- what the files read ---------------------------------------------------------------------------------------

-- what a file reads, how long its log is, and that a slot of it is free
pub record HasLog (owner : ℕ) (file : List ℕ) (log : List Record) (size : ℕ) : Type 0 where
  pub kept : IsLog print owner file log
  pub size_is : size_in file ≡ Some size
  pub is_free : true ≡ nat_lt (length (slots_in file)) SLOTS

has-log : (owner : ℕ) (ps : List (List ℕ)) (log : List Record) (size : ℕ) → AllByRecursion IsPayload ps → length (batches ps) ≤ 1000 → (placed_in (placed FIRST_GATE ps) >>= (λ rs. Ok (records_in rs))) ≡ Ok log → FIRST_GATE + span (placed FIRST_GATE ps) + 1 ≡ size → HasLog owner (at_rest print owner [] ps) log size
has-log owner ps log size all small is long = record {
  kept = rest-log print owner ps refl all small log is;
  size_is = rest-size print owner ps refl all small ∙ ap Some long;
  is_free = ap (λ (l : List ℕ). nat_lt (length l) SLOTS) (sym (no-slots print owner ps refl all small));
}

none-has : (c : ComId) → HasLog c.0 (no_records c) [] 9258
none-has c = has-log c.0 [] [] 9258 tt (omega arith) refl refl

pub none-kept : (c : ComId) → IsLog print c.0 (no_records c) []
none-kept c = (none-has c).kept

shop-read : (placed_in (placed FIRST_GATE (payload_of (the_input ∷ []) ∷ [])) >>= (λ rs. Ok (records_in rs))) ≡ Ok (the_input ∷ [])
unfolding placed_up_to record_at input_at tested_at args_at values_at value_at
shop-read = refl

asking-read : (placed_in (placed FIRST_GATE (payload_of (the_receipt ∷ []) ∷ [])) >>= (λ rs. Ok (records_in rs))) ≡ Ok (the_receipt ∷ [])
unfolding placed_up_to record_at taken_at number_at tested_at
asking-read = refl

ready-read : (placed_in (placed FIRST_GATE (payload_of (the_receipt ∷ []) ∷ payload_of (the_value ∷ []) ∷ [])) >>= (λ rs. Ok (records_in rs))) ≡ Ok (the_receipt ∷ the_value ∷ [])
unfolding placed_up_to record_at taken_at number_at tested_at answer_at session_at value_at
ready-read = refl

done-read : (placed_in (placed FIRST_GATE (payload_of (the_receipt ∷ []) ∷ payload_of (the_value ∷ []) ∷ payload_of (the_outcome ∷ []) ∷ [])) >>= (λ rs. Ok (records_in rs))) ≡ Ok (the_receipt ∷ the_value ∷ the_outcome ∷ [])
unfolding placed_up_to record_at taken_at number_at tested_at answer_at session_at value_at outcome_at ending_at
done-read = refl

bank-read : (placed_in (placed FIRST_GATE (payload_of (the_decision ∷ []) ∷ [])) >>= (λ rs. Ok (records_in rs))) ≡ Ok (the_decision ∷ [])
unfolding placed_up_to record_at decided_at writes_at number_at tested_at value_at
bank-read = refl

shop-has : HasLog shop.0 shop_file (the_input ∷ []) 9282
shop-has = has-log shop.0 (payload_of (the_input ∷ []) ∷ []) (the_input ∷ []) 9282 ((omega arith, omega arith), tt) (omega arith) shop-read refl

pub shop-kept : IsLog print shop.0 shop_file (the_input ∷ [])
shop-kept = shop-has.kept

asking-has : HasLog till.0 asking_file (the_receipt ∷ []) 9281
asking-has = has-log till.0 (payload_of (the_receipt ∷ []) ∷ []) (the_receipt ∷ []) 9281 ((omega arith, omega arith), tt) (omega arith) asking-read refl

pub asking-kept : IsLog print till.0 asking_file (the_receipt ∷ [])
asking-kept = asking-has.kept

ready-has : HasLog till.0 ready_file (the_receipt ∷ the_value ∷ []) 9321
ready-has = has-log till.0 (payload_of (the_receipt ∷ []) ∷ payload_of (the_value ∷ []) ∷ []) (the_receipt ∷ the_value ∷ []) 9321 ((omega arith, omega arith), ((omega arith, omega arith), tt)) (omega arith) ready-read refl

ready-kept : IsLog print till.0 ready_file (the_receipt ∷ the_value ∷ [])
ready-kept = ready-has.kept

done-kept : IsLog print till.0 done_file (the_receipt ∷ the_value ∷ the_outcome ∷ [])
done-kept = rest-log print till.0 (payload_of (the_receipt ∷ []) ∷ payload_of (the_value ∷ []) ∷ payload_of (the_outcome ∷ []) ∷ []) refl ((omega arith, omega arith), ((omega arith, omega arith), ((omega arith, omega arith), tt))) (omega arith) (the_receipt ∷ the_value ∷ the_outcome ∷ []) done-read

bank-has : HasLog bank.0 bank_file (the_decision ∷ []) 9293
bank-has = has-log bank.0 (payload_of (the_decision ∷ []) ∷ []) (the_decision ∷ []) 9293 ((omega arith, omega arith), tt) (omega arith) bank-read refl

bank-kept : IsLog print bank.0 bank_file (the_decision ∷ [])
bank-kept = bank-has.kept

-- of all components -----------------------------------------------------------------------------------------

only : (d : ComId) (P : ComId → Type 0) → P d → (c : ComId) → same_com c d ≡ true → P c
only d P h c e = subst P (sym (same-com c d e)) h

pub all-kept : (p : SystemState) → KeepsLog print shop (file_of p shop) (node_at p.world shop) → KeepsLog print till (file_of p till) (node_at p.world till) → KeepsLog print bank (file_of p bank) (node_at p.world bank) → ((n : ℕ) → KeepsLog print (com_at (suc (suc (suc n)))) (file_of p (com_at (suc (suc (suc n))))) (node_at p.world (com_at (suc (suc (suc n)))))) → KeepsLogs print p
all-kept p f g h more c = at c.0
  where
    at : (n : ℕ) → KeepsLog print (com_at n) (file_of p (com_at n)) (node_at p.world (com_at n))
    at zero = f
    at (suc zero) = g
    at (suc (suc zero)) = h
    at (suc (suc (suc n))) = more n

-- what the disk decides of a step without a stop
abbrev outcome : List Record → ℕ → DiskOutcome
outcome found size = record { found = found; size = size; free = true; left = []; is_open = false }

-- how the till plays ----------------------------------------------------------------------------------------

abbrev open_charge : List ℤ → List ℤ → Stmt-F Change Change
open_charge args now = Txn bank (in_turn (changes args now (Put 0 (One (Param 0)) ∷ []))) (in_turn [])

both : {A : Type 0} (x y : A) (xs ys : List A) → x ≡ y → xs ≡ ys → x ∷ xs ≡ y ∷ ys
both x y xs ys head tail = ap (λ z. z ∷ xs) head ∙ ap (λ zs. y ∷ zs) tail

part-turns : (args now : List ℤ) → map (turn args now) charge_part ≡ changes args now (Put 0 (One (Param 0)) ∷ [])
part-turns args now = both _ _ _ _ (turn-Put args now _ _) refl

charge-turns : (a : Global) (args now : List ℤ) → map (turn args now) (charge a) ≡ changes args now (open_charge args now ∷ [])
charge-turns a args now = both _ _ _ _ (turn-Txn args now _ _ _ ∙ ap (λ fs. stmt_turn args now (Txn bank (in_turn fs) (in_turn []))) (part-turns args now)) refl

charge-plays : (a : Global) (done : List Done) (now : List ℤ) → played (chain a) till 0 [] (pos 3 ∷ []) done now ≡ comes_to (changes (pos 3 ∷ []) now (open_charge (pos 3 ∷ []) now ∷ [])) [] done
charge-plays a done now = ap (λ fs. comes_to fs [] done) (charge-turns a (pos 3 ∷ []) now)

-- the till behind a record, by how its handler then plays ------------------------------------------------------

abbrev with_take : Played → Pcom
with_take r = record (fresh []) {
  log = record { forced = []; buffered = the_receipt ∷ [] };
  vol = come_to till 18 (take_in_hand (receive (untouched []) shop 1 18 false) 2 0 (pos 3 ∷ [])) r;
}

abbrev with_value : Played → Pcom
with_value r = record asking {
  log = record { forced = the_receipt ∷ []; buffered = the_value ∷ [] };
  vol = come_to till 53 (record asking.vol { now = pos 3 ∷ []; txn = txns.take_reply asking.vol.txn the_session }) r;
}

abbrev with_outcome : Played → Pcom
with_outcome r = record ready {
  log = record { forced = the_receipt ∷ the_value ∷ []; buffered = the_outcome ∷ [] };
  vol = come_to till 71 (end_txn ready.vol 4 71 None) r;
}

-- what the answer comes to, by how the part plays with it
abbrev replied : Played → Effects
replied r = record just_tail {
  word = Changed;
  adds = the_value ∷ need_records asking.vol (failed_line r);
  aborted = need_abort asking.vol (failed_line r);
}

module _ (a : Global) where
  abbrev by_packet : World → ℕ → Event → Pcom → Packet → StepResult → Option After
  by_packet w i e p packet t = Some (behind (takes_off w i) e till (done_as (answer_of p i (Gets packet) t) t))

  abbrev step_with : Pcom → Effects → Pcom → StepResult
  step_with p d q = put_out till p.vol d (force_where p.vol d q)

  abbrev full_with : ℕ → Pcom → Bool
  full_with size q = has_no_room size q.log.buffered || not (numbers_fit q.vol)

  abbrev full_by : ℕ → Pcom → Effects → Bool
  full_by size p d = not (is_empty d.adds) && full_with size (absorb_choice (chain a) till d p)

  -- the threads -----------------------------------------------------------------------------------------------

  abbrev pub before_order : SystemState
  before_order = record { world = alone (chain a) shop (Runs (fresh (pos 0 ∷ []))) (Lists give_order) []; files = no_records shop ∷ [] ∷ [] ∷ [] }

  abbrev pub behind_order : SystemState
  behind_order = record { world = record { nodes = Runs (ordered 19) ∷ External ∷ External ∷ []; packets = the_data ∷ []; waiting = 1 ∷ []; showings = [] }; files = shop_file ∷ [] ∷ [] ∷ [] }

  abbrev pub order_trace : Trace
  order_trace = did give_order.what answers.Taken (the_data ∷ []) 1

  pub order-step : CoreStep (chain a) print before_order give_order order_trace behind_order
  unfolding frame_of closed_slots
  order-step = record {
    outcome = outcome [] 9258;
    happens = ap (λ r. Some (behind before_order.world give_order shop (done_as (input_answer (fresh (pos 0 ∷ []))) (input_step (chain a) shop (fresh (pos 0 ∷ [])) 0 (pos 3 ∷ []) r)))) (order_plays till (pos 0 ∷ []) (pos 3 ∷ []) [] []);
    fits = ap (λ r. full_with 9258 (with_input shop (fresh (pos 0 ∷ [])) 0 (pos 3 ∷ []) r)) (order_plays till (pos 0 ∷ []) (pos 3 ∷ []) [] []);
    disk = only shop (λ c. MeetsDisk (chain a) (outcome [] 9258) before_order give_order order_trace c behind_order) (record { found = (none-has shop).kept.holds; size = (none-has shop).size_is; free = (none-has shop).is_free; torn = λ e. absurd (cc e); same = λ e h. absurd (cc h) });
    others = λ c e. files-stay (λ n. same_com (com_at n) shop ≡ false) (no_records shop) [] [] shop_file [] [] (λ k. absurd (cc k)) (λ k. refl) (λ k. refl) c.0 e;
    logs = all-kept behind_order shop-kept tt tt (λ n. tt);
  }

  abbrev pub before_take : SystemState
  before_take = record { world = alone (chain a) till (Runs (fresh [])) (Brings the_data) []; files = [] ∷ no_records till ∷ [] ∷ [] }

  abbrev pub behind_take : SystemState
  behind_take = record { world = record { nodes = External ∷ Runs asking ∷ External ∷ []; packets = the_data ∷ the_stable ∷ the_op ∷ []; waiting = 2 ∷ 3 ∷ []; showings = [] }; files = [] ∷ asking_file ∷ [] ∷ [] }

  abbrev pub take_trace : Trace
  take_trace = did (whats.Deliver shop till) (answers.Packet 1 the_data fates.Taken) (the_stable ∷ the_op ∷ []) 2

  pub take-step : CoreStep (chain a) print before_take (delivery the_data till) take_trace behind_take
  unfolding frame_of closed_slots
  take-step = record {
    outcome = outcome [] 9258;
    happens = ap (λ r. by_packet before_take.world 1 (delivery the_data till) (fresh []) the_data (step_with (fresh []) (decide (chain a) till (fresh []) (Gets the_data)) (with_take r))) (charge-plays a [] []);
    fits = ap (λ r. full_with 9258 (with_take r)) (charge-plays a [] []);
    disk = only till (λ c. MeetsDisk (chain a) (outcome [] 9258) before_take (delivery the_data till) take_trace c behind_take) (record { found = (none-has till).kept.holds; size = (none-has till).size_is; free = (none-has till).is_free; torn = λ e. absurd (cc e); same = λ e h. absurd (cc h) });
    others = λ c e. files-stay (λ n. same_com (com_at n) till ≡ false) [] (no_records till) [] [] asking_file [] (λ k. refl) (λ k. absurd (cc k)) (λ k. refl) c.0 e;
    logs = all-kept behind_take tt asking-kept tt (λ n. tt);
  }

  abbrev pub before_answer : SystemState
  before_answer = record { world = alone (chain a) bank (Serves idle) (Brings the_op) []; files = [] ∷ [] ∷ no_records bank ∷ [] }

  abbrev pub behind_answer : SystemState
  behind_answer = record { world = record { nodes = External ∷ External ∷ Serves serving ∷ []; packets = the_op ∷ the_reply ∷ []; waiting = 2 ∷ []; showings = [] }; files = [] ∷ [] ∷ no_records bank ∷ [] }

  pub answer-step : CoreStep (chain a) print before_answer (delivery the_op bank) answer_trace behind_answer
  unfolding frame_of closed_slots
  answer-step = record {
    outcome = outcome [] 9258;
    happens = refl;
    fits = refl;
    disk = only bank (λ c. MeetsDisk (chain a) (outcome [] 9258) before_answer (delivery the_op bank) answer_trace c behind_answer) (record { found = (none-has bank).kept.holds; size = (none-has bank).size_is; free = (none-has bank).is_free; torn = λ e. absurd (cc e); same = λ e h. refl });
    others = λ c e. refl;
    logs = all-kept behind_answer tt tt (none-kept bank) (λ n. tt);
  }

  abbrev pub before_crash : SystemState
  before_crash = record { world = alone (chain a) shop (Runs (ordered 19)) (Lists crash_shop) []; files = shop_file ∷ [] ∷ [] ∷ [] }

  abbrev pub behind_crash : SystemState
  behind_crash = record { world = record { nodes = Down (the_input ∷ []) ∷ External ∷ External ∷ []; packets = []; waiting = []; showings = [] }; files = shop_file ∷ [] ∷ [] ∷ [] }

  abbrev pub crash_trace : Trace
  crash_trace = did (whats.Crash shop) answers.Ended [] 1

  pub crash-step : CoreStep (chain a) print before_crash crash_shop crash_trace behind_crash
  unfolding frame_of closed_slots
  crash-step = record {
    outcome = outcome (the_input ∷ []) 9282;
    happens = refl;
    fits = refl;
    disk = only shop (λ c. MeetsDisk (chain a) (outcome (the_input ∷ []) 9282) before_crash crash_shop crash_trace c behind_crash) (record { found = shop-has.kept.holds; size = shop-has.size_is; free = shop-has.is_free; torn = λ e. absurd (cc e); same = λ e h. refl });
    others = λ c e. refl;
    logs = all-kept behind_crash shop-kept tt tt (λ n. tt);
  }

  -- the serial phase ------------------------------------------------------------------------------------------

  pub recover-step : CoreStep (chain a) print opening (without_stop (whats.Recover shop)) recover_trace up
  unfolding frame_of closed_slots
  recover-step = record {
    outcome = outcome (the_input ∷ []) 9282;
    happens = ap (λ r. option_map (behind opening.world (without_stop (whats.Recover shop)) shop) (option_map (cut_off None (outcome (the_input ∷ []) 9282) (Down (the_input ∷ [])) answers.Stopped) (option_map (λ t. done_as (up_answer t.pcom) t) (option_map (λ x. step_told (stands_at (record { forced = the_input ∷ []; buffered = [] }) x) (needed_fetch shop x.rest) nothing_at_all) (replayed_input shop (untouched (pos 0 ∷ [])) 1 0 (pos 3 ∷ []) r))))) (order_plays till (pos 0 ∷ []) (pos 3 ∷ []) [] []);
    fits = refl;
    disk = only shop (λ c. MeetsDisk (chain a) (outcome (the_input ∷ []) 9282) opening (without_stop (whats.Recover shop)) recover_trace c up) (record { found = shop-has.kept.holds; size = shop-has.size_is; free = shop-has.is_free; torn = λ e. absurd (cc e); same = λ e h. refl });
    others = λ c e. refl;
    logs = all-kept up shop-kept asking-kept (none-kept bank) (λ n. tt);
  }

  pub ask-step : CoreStep (chain a) print up (without_stop (whats.Resend till)) ask_trace asked
  unfolding frame_of closed_slots
  ask-step = record {
    outcome = outcome (the_receipt ∷ []) 9281;
    happens = refl;
    fits = refl;
    disk = only till (λ c. MeetsDisk (chain a) (outcome (the_receipt ∷ []) 9281) up (without_stop (whats.Resend till)) ask_trace c asked) (record { found = asking-has.kept.holds; size = asking-has.size_is; free = asking-has.is_free; torn = λ e. absurd (cc e); same = λ e h. refl });
    others = λ c e. refl;
    logs = all-kept asked shop-kept asking-kept (none-kept bank) (λ n. tt);
  }

  pub again-step : CoreStep (chain a) print asked (without_stop (whats.Deliver till bank)) answer_trace answered
  unfolding frame_of closed_slots
  again-step = record {
    outcome = outcome [] 9258;
    happens = refl;
    fits = refl;
    disk = only bank (λ c. MeetsDisk (chain a) (outcome [] 9258) asked (without_stop (whats.Deliver till bank)) answer_trace c answered) (record { found = (none-has bank).kept.holds; size = (none-has bank).size_is; free = (none-has bank).is_free; torn = λ e. absurd (cc e); same = λ e h. refl });
    others = λ c e. refl;
    logs = all-kept answered shop-kept asking-kept (none-kept bank) (λ n. tt);
  }

  pub commit-step : CoreStep (chain a) print answered (without_stop (whats.Deliver bank till)) commit_trace committing
  unfolding frame_of closed_slots
  commit-step = record {
    outcome = outcome (the_receipt ∷ []) 9281;
    happens = ap (λ r. by_packet answered.world 2 (without_stop (whats.Deliver bank till)) asking the_reply (carry_out (chain a) till asking (replied r))) (charge-plays a [] (pos 3 ∷ []))
        ∙ ap (λ r. by_packet answered.world 2 (without_stop (whats.Deliver bank till)) asking the_reply (step_with asking (replied (comes_to (changes (pos 3 ∷ []) (pos 3 ∷ []) (open_charge (pos 3 ∷ []) (pos 3 ∷ []) ∷ [])) [] [])) (with_value r))) (charge-plays a [] (pos 3 ∷ []));
    fits = ap (λ r. full_by 9281 asking (replied r)) (charge-plays a [] (pos 3 ∷ [])) ∙ ap (λ r. full_with 9281 (with_value r)) (charge-plays a [] (pos 3 ∷ []));
    disk = only till (λ c. MeetsDisk (chain a) (outcome (the_receipt ∷ []) 9281) answered (without_stop (whats.Deliver bank till)) commit_trace c committing) (record { found = asking-has.kept.holds; size = asking-has.size_is; free = asking-has.is_free; torn = λ e. absurd (cc e); same = λ e h. absurd (cc h) });
    others = λ c e. files-stay (λ n. same_com (com_at n) till ≡ false) shop_file asking_file (no_records bank) shop_file ready_file (no_records bank) (λ k. refl) (λ k. absurd (cc k)) (λ k. refl) c.0 e;
    logs = all-kept committing shop-kept ready-kept (none-kept bank) (λ n. tt);
  }

  pub decide-step : CoreStep (chain a) print committing (without_stop (whats.Deliver till bank)) decide_trace committed
  unfolding frame_of closed_slots
  decide-step = record {
    outcome = outcome [] 9258;
    happens = refl;
    fits = refl;
    disk = only bank (λ c. MeetsDisk (chain a) (outcome [] 9258) committing (without_stop (whats.Deliver till bank)) decide_trace c committed) (record { found = (none-has bank).kept.holds; size = (none-has bank).size_is; free = (none-has bank).is_free; torn = λ e. absurd (cc e); same = λ e h. absurd (cc h) });
    others = λ c e. files-stay (λ n. same_com (com_at n) bank ≡ false) shop_file ready_file (no_records bank) shop_file ready_file bank_file (λ k. refl) (λ k. refl) (λ k. absurd (cc k)) c.0 e;
    logs = all-kept committed shop-kept ready-kept bank-kept (λ n. tt);
  }

  pub end-step : CoreStep (chain a) print committed (without_stop (whats.Deliver bank till)) end_trace told
  unfolding frame_of closed_slots
  end-step = record {
    outcome = outcome (the_receipt ∷ the_value ∷ []) 9321;
    happens = ap (λ r. by_packet committed.world 4 (without_stop (whats.Deliver bank till)) ready the_answer (step_with ready (decide (chain a) till ready (Gets the_answer)) (with_outcome r))) (charge-plays a (Committed (pos 3 ∷ []) ∷ []) []);
    fits = ap (λ r. full_with 9321 (with_outcome r)) (charge-plays a (Committed (pos 3 ∷ []) ∷ []) []);
    disk = only till (λ c. MeetsDisk (chain a) (outcome (the_receipt ∷ the_value ∷ []) 9321) committed (without_stop (whats.Deliver bank till)) end_trace c told) (record { found = ready-has.kept.holds; size = ready-has.size_is; free = ready-has.is_free; torn = λ e. absurd (cc e); same = λ e h. refl });
    others = λ c e. refl;
    logs = all-kept told shop-kept ready-kept bank-kept (λ n. tt);
  }

  pub force-step : CoreStep (chain a) print told (without_stop (whats.Force till)) force_trace forced
  unfolding frame_of closed_slots
  force-step = record {
    outcome = outcome (the_receipt ∷ the_value ∷ []) 9321;
    happens = refl;
    fits = refl;
    disk = only till (λ c. MeetsDisk (chain a) (outcome (the_receipt ∷ the_value ∷ []) 9321) told (without_stop (whats.Force till)) force_trace c forced) (record { found = ready-has.kept.holds; size = ready-has.size_is; free = ready-has.is_free; torn = λ e. absurd (cc e); same = λ e h. absurd (cc h) });
    others = λ c e. files-stay (λ n. same_com (com_at n) till ≡ false) shop_file ready_file bank_file shop_file done_file bank_file (λ k. refl) (λ k. absurd (cc k)) (λ k. refl) c.0 e;
    logs = all-kept forced shop-kept done-kept bank-kept (λ n. tt);
  }

  pub drop-step : CoreStep (chain a) print forced (without_stop (whats.Deliver till bank)) drop_trace settled
  unfolding frame_of closed_slots
  drop-step = record {
    outcome = outcome (the_decision ∷ []) 9293;
    happens = refl;
    fits = refl;
    disk = only bank (λ c. MeetsDisk (chain a) (outcome (the_decision ∷ []) 9293) forced (without_stop (whats.Deliver till bank)) drop_trace c settled) (record { found = bank-has.kept.holds; size = bank-has.size_is; free = bank-has.is_free; torn = λ e. absurd (cc e); same = λ e h. refl });
    others = λ c e. refl;
    logs = all-kept settled shop-kept done-kept bank-kept (λ n. tt);
  }
