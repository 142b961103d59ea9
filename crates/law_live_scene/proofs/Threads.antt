-- The threads of the scene: where it begins, its four turns, and what is assembled of it.
use Rattle.std.proofs.Common.{◌≡◌, refl, ap, sym, ℕ, zero, suc, Bool, true, false, cond, List, [], ◌∷◌, ◌++◌, filter, Some, None, option_map, slice_get, inl}
use Rattle.std.specs.declared.alloc.Global.{Global}
use Rattle.std.proofs.lemmas.Bool.{eqb-true}
use Rattle.ic_base.specs.declared.messages.ComId.{ComId}
use Rattle.ic_base.specs.declared.messages.Kind.{Kind}
use Rattle.ic_base.specs.declared.messages.Kind.TheVariants as kinds
use Rattle.ic_base.specs.declared.messages.Packet.{Packet}
use Rattle.ic_base.specs.declared.scenario.Component.{Component}
use Rattle.ic_base.specs.Programs.{same_com}
use Rattle.def_plain.specs.Scenes.{com_at}
use Rattle.def_step.specs.World.{node_at}
use Rattle.def_run.specs.SystemStates.{KeepsLog, KeepsLogs, file_in}
use Rattle.def_facts.specs.World.{kind_of, shown_by}
use Rattle.def_live.specs.Assembled.{assembled, AreOf}
use Rattle.def_live.specs.Lanes.{Lane, AreJoined, StandAmong, is_between}
use Rattle.def_live.specs.Runs.{Live, Begins, LiveStep, LiveRun, last_live}
use Rattle.def_live.specs.Turns.{Pop, LanesMove, popped_of, first_part}
use Rattle.law_live_scene.specs.Chain.{chain, shop, till, bank, print, the_data, the_stable, the_op, the_reply}
use Rattle.law_live_scene.specs.Scene.{policy, live, lane, pick, lanes_with, nobody, no_lane, shop_first, shop_ordered, shop_down, till_first, till_asking, bank_first, bank_serving, first, moves, opening, answer_trace}
use Rattle.law_live_scene.proofs.Lanes.{each-lane, lanes-stay, picks-stay, joined, none-to-itself}
use Rattle.law_live_scene.proofs.Steps.{none-kept, shop-kept, asking-kept, all-kept, order_trace, behind_order, order-step, take_trace, behind_take, take-step, behind_answer, answer-step, crash_trace, behind_crash, crash-step}

abbrev nothing_from : ComId → Pop
nothing_from c = record { from = c; gave = None }

abbrev gave_from : ComId → Packet → Pop
gave_from c p = record { from = c; gave = Some p }

none-popped : (d from : ComId) (more : List Pop) → popped_of from more ≡ [] → popped_of from (nothing_from d ∷ more) ≡ []
none-popped d from more none = at (same_com from d)
  where
    at : (b : Bool) → ◌≡◌ {A = List Packet} (cond b ([] ++ popped_of from more) (popped_of from more)) []
    at true = none
    at false = none

-- of another lane nothing was popped
other-popped : (d from : ComId) (p : Packet) → same_com from d ≡ false → popped_of from (gave_from d p ∷ []) ≡ []
other-popped d from p e = ap (λ b. cond b (p ∷ []) []) e

-- components above another one
above : (m n : ℕ) → same_com (com_at m) (com_at n) ≡ true → m ≡ n
above m n e = eqb-true m n e

not-same : (m n : ℕ) → (m ≡ n → ⊥) → same_com (com_at m) (com_at n) ≡ false
not-same m n apart = at (same_com (com_at m) (com_at n)) refl
  where
    at : (b : Bool) → same_com (com_at m) (com_at n) ≡ b → b ≡ false
    at true e = absurd (apart (above m n e))
    at false e = refl

-- the lane with the message, the lane from which it was popped, and so for the request and its answer
abbrev data_sent : Lane
data_sent = lane (the_data ∷ []) []

abbrev data_got : Lane
data_got = lane (the_data ∷ []) (the_data ∷ [])

abbrev op_sent : Lane
op_sent = lane (the_op ∷ []) []

abbrev op_got : Lane
op_got = lane (the_op ∷ []) (the_op ∷ [])

abbrev reply_sent : Lane
reply_sent = lane (the_reply ∷ []) []

module _ (a : Global) where
  pub begins : Begins (chain a) print first
  begins = record {
    parts = λ c k e. part c.0 k e;
    nobody = λ c e. no_one c.0 e;
    kept = λ c k e. kept c.0 k e;
    none_sent = λ from to. each-lane (λ l. l.sent ≡ []) no_lane no_lane no_lane refl refl refl refl from.0 to.0;
    none_received = λ from to. each-lane (λ l. l.received ≡ []) no_lane no_lane no_lane refl refl refl refl from.0 to.0;
  }
    where
      part : (n : ℕ) (k : Kind) → kind_of (chain a) (com_at n) ≡ Some k → (pick shop_first till_first bank_first nobody n).part ≡ first_part (chain a) (com_at n) k
      part zero kinds.Pcom e = refl
      part zero kinds.Tcom e = absurd (cc e)
      part zero kinds.Xcom e = absurd (cc e)
      part (suc zero) kinds.Pcom e = refl
      part (suc zero) kinds.Tcom e = absurd (cc e)
      part (suc zero) kinds.Xcom e = absurd (cc e)
      part (suc (suc zero)) kinds.Pcom e = absurd (cc e)
      part (suc (suc zero)) kinds.Tcom e = refl
      part (suc (suc zero)) kinds.Xcom e = absurd (cc e)
      part (suc (suc (suc n))) k e = absurd (cc e)

      no_one : (n : ℕ) → kind_of (chain a) (com_at n) ≡ None → ((pick shop_first till_first bank_first nobody n).part.sent ≡ []) × ((pick shop_first till_first bank_first nobody n).part.received ≡ []) × ((pick shop_first till_first bank_first nobody n).part.showings ≡ [])
      no_one zero e = absurd (cc e)
      no_one (suc zero) e = absurd (cc e)
      no_one (suc (suc zero)) e = absurd (cc e)
      no_one (suc (suc (suc n))) e = (refl, refl, refl)

      kept : (n : ℕ) (k : Kind) → kind_of (chain a) (com_at n) ≡ Some k → KeepsLog print (com_at n) (file_in (pick shop_first till_first bank_first nobody n).files (com_at n)) (Some (pick shop_first till_first bank_first nobody n).part.node)
      kept zero k e = none-kept shop
      kept (suc zero) k e = none-kept till
      kept (suc (suc zero)) k e = none-kept bank
      kept (suc (suc (suc n))) k e = absurd (cc e)

  -- the shop takes its order, and the message is pushed
  abbrev order_live : Live
  order_live = live shop_ordered till_first bank_first data_sent no_lane no_lane

  order-moves : LanesMove shop (nothing_from till ∷ nothing_from bank ∷ []) (the_data ∷ []) (live shop_first till_first bank_first no_lane no_lane no_lane).lanes order_live.lanes
  order-moves = record { popped = λ from. popped from.0; pushed = λ to. pushed to.0 }
    where
      popped : (n : ℕ) → (lanes_with data_sent no_lane no_lane n 0).received ≡ (lanes_with no_lane no_lane no_lane n 0).received ++ popped_of (com_at n) (nothing_from till ∷ nothing_from bank ∷ [])
      popped zero = sym (none-popped till shop (nothing_from bank ∷ []) (none-popped bank shop [] refl))
      popped (suc zero) = sym (none-popped till till (nothing_from bank ∷ []) (none-popped bank till [] refl))
      popped (suc (suc zero)) = sym (none-popped till bank (nothing_from bank ∷ []) (none-popped bank bank [] refl))
      popped (suc (suc (suc n))) = sym (none-popped till (com_at (suc (suc (suc n)))) (nothing_from bank ∷ []) (none-popped bank (com_at (suc (suc (suc n)))) [] refl))

      pushed : (n : ℕ) → (taken : List Packet) × StandAmong taken (filter (is_between shop (com_at n)) (the_data ∷ [])) × ((lanes_with data_sent no_lane no_lane 0 n).sent ≡ (lanes_with no_lane no_lane no_lane 0 n).sent ++ taken)
      pushed zero = ([], tt, refl)
      pushed (suc zero) = (the_data ∷ [], ([], [], refl, tt), refl)
      pushed (suc (suc zero)) = ([], tt, refl)
      pushed (suc (suc (suc n))) = ([], tt, refl)

  order-turn : LiveStep (chain a) print policy shop (live shop_first till_first bank_first no_lane no_lane no_lane) order_live
  order-turn = record {
    kind = kinds.Pcom;
    is_kind = refl;
    pops = nothing_from till ∷ nothing_from bank ∷ [];
    puts = the_data ∷ [];
    does = inl (record { pops_are = (refl, (refl, refl)); does = (record { trace = order_trace a; behind = behind_order a; step = order-step a; part = refl; files = refl; left = refl; answers = refl; turns = refl }, refl) });
    moves = order-moves;
    sends_stay = λ from to e. lanes-stay (λ x. x.sent) (λ m n. same_com shop (com_at m) ≡ false) no_lane no_lane no_lane data_sent no_lane no_lane (λ k. absurd (cc k)) (λ k. refl) (λ k. refl) from.0 to.0 e;
    pops_stay = λ from to e. lanes-stay (λ x. x.received) (λ m n. same_com shop (com_at n) ≡ false) no_lane no_lane no_lane data_sent no_lane no_lane (λ k. refl) (λ k. refl) (λ k. refl) from.0 to.0 e;
    others = λ d e. picks-stay (λ n. same_com shop (com_at n) ≡ false) shop_first till_first bank_first nobody shop_ordered till_first bank_first (λ k. absurd (cc k)) (λ k. refl) (λ k. refl) d.0 e;
    in_order = joined shop_ordered till_first bank_first data_sent no_lane no_lane (the_data ∷ [], refl) ([], refl) ([], refl);
    apart = none-to-itself shop_ordered till_first bank_first data_sent no_lane no_lane;
  }

  -- the till pops it, and asks the bank; its word to the shop is lost
  abbrev take_live : Live
  take_live = live shop_ordered till_asking bank_first data_got op_sent no_lane

  take-moves : LanesMove till (gave_from shop the_data ∷ []) (the_stable ∷ the_op ∷ []) (live shop_ordered till_first bank_first data_sent no_lane no_lane).lanes take_live.lanes
  take-moves = record { popped = λ from. popped from.0; pushed = λ to. pushed to.0 }
    where
      popped : (n : ℕ) → (lanes_with data_got op_sent no_lane n 1).received ≡ (lanes_with data_sent no_lane no_lane n 1).received ++ popped_of (com_at n) (gave_from shop the_data ∷ [])
      popped zero = refl
      popped (suc zero) = sym (other-popped shop till the_data refl)
      popped (suc (suc zero)) = sym (other-popped shop bank the_data refl)
      popped (suc (suc (suc n))) = sym (other-popped shop (com_at (suc (suc (suc n)))) the_data (not-same (suc (suc (suc n))) 0 (λ e. cc e)))

      pushed : (n : ℕ) → (taken : List Packet) × StandAmong taken (filter (is_between till (com_at n)) (the_stable ∷ the_op ∷ [])) × ((lanes_with data_got op_sent no_lane 1 n).sent ≡ (lanes_with data_sent no_lane no_lane 1 n).sent ++ taken)
      pushed zero = ([], tt, refl)
      pushed (suc zero) = ([], tt, refl)
      pushed (suc (suc zero)) = (the_op ∷ [], ([], [], refl, tt), refl)
      pushed (suc (suc (suc n))) = ([], tt, refl)

  take-turn : LiveStep (chain a) print policy till (live shop_ordered till_first bank_first data_sent no_lane no_lane) take_live
  take-turn = record {
    kind = kinds.Pcom;
    is_kind = refl;
    pops = gave_from shop the_data ∷ [];
    puts = the_stable ∷ the_op ∷ [];
    does = inl (record { pops_are = (refl, refl); does = (record { trace = take_trace a; behind = behind_take a; step = take-step a; part = refl; files = refl; left = refl; answers = refl; turns = refl }, refl) });
    moves = take-moves;
    sends_stay = λ from to e. lanes-stay (λ x. x.sent) (λ m n. same_com till (com_at m) ≡ false) data_sent no_lane no_lane data_got op_sent no_lane (λ k. refl) (λ k. absurd (cc k)) (λ k. refl) from.0 to.0 e;
    pops_stay = λ from to e. lanes-stay (λ x. x.received) (λ m n. same_com till (com_at n) ≡ false) data_sent no_lane no_lane data_got op_sent no_lane (λ k. absurd (cc k)) (λ k. refl) (λ k. absurd (cc k)) from.0 to.0 e;
    others = λ d e. picks-stay (λ n. same_com till (com_at n) ≡ false) shop_ordered till_first bank_first nobody shop_ordered till_asking bank_first (λ k. refl) (λ k. absurd (cc k)) (λ k. refl) d.0 e;
    in_order = joined shop_ordered till_asking bank_first data_got op_sent no_lane ([], refl) (the_op ∷ [], refl) ([], refl);
    apart = none-to-itself shop_ordered till_asking bank_first data_got op_sent no_lane;
  }

  -- the bank answers
  abbrev answer_live : Live
  answer_live = live shop_ordered till_asking bank_serving data_got op_got reply_sent

  answer-moves : LanesMove bank (nothing_from shop ∷ gave_from till the_op ∷ []) (the_reply ∷ []) (live shop_ordered till_asking bank_first data_got op_sent no_lane).lanes answer_live.lanes
  answer-moves = record { popped = λ from. popped from.0; pushed = λ to. pushed to.0 }
    where
      popped : (n : ℕ) → (lanes_with data_got op_got reply_sent n 2).received ≡ (lanes_with data_got op_sent no_lane n 2).received ++ popped_of (com_at n) (nothing_from shop ∷ gave_from till the_op ∷ [])
      popped zero = sym (none-popped shop shop (gave_from till the_op ∷ []) (other-popped till shop the_op refl))
      popped (suc zero) = refl
      popped (suc (suc zero)) = sym (none-popped shop bank (gave_from till the_op ∷ []) (other-popped till bank the_op refl))
      popped (suc (suc (suc n))) = sym (none-popped shop (com_at (suc (suc (suc n)))) (gave_from till the_op ∷ []) (other-popped till (com_at (suc (suc (suc n)))) the_op (not-same (suc (suc (suc n))) 1 (λ e. cc e))))

      pushed : (n : ℕ) → (taken : List Packet) × StandAmong taken (filter (is_between bank (com_at n)) (the_reply ∷ [])) × ((lanes_with data_got op_got reply_sent 2 n).sent ≡ (lanes_with data_got op_sent no_lane 2 n).sent ++ taken)
      pushed zero = ([], tt, refl)
      pushed (suc zero) = (the_reply ∷ [], ([], [], refl, tt), refl)
      pushed (suc (suc zero)) = ([], tt, refl)
      pushed (suc (suc (suc n))) = ([], tt, refl)

  answer-turn : LiveStep (chain a) print policy bank (live shop_ordered till_asking bank_first data_got op_sent no_lane) answer_live
  answer-turn = record {
    kind = kinds.Tcom;
    is_kind = refl;
    pops = nothing_from shop ∷ gave_from till the_op ∷ [];
    puts = the_reply ∷ [];
    does = inl (record { pops_are = (refl, (refl, refl)); does = (record { trace = answer_trace; behind = behind_answer a; step = answer-step a; part = refl; files = refl; left = refl; answers = refl; turns = refl }, refl) });
    moves = answer-moves;
    sends_stay = λ from to e. lanes-stay (λ x. x.sent) (λ m n. same_com bank (com_at m) ≡ false) data_got op_sent no_lane data_got op_got reply_sent (λ k. refl) (λ k. refl) (λ k. absurd (cc k)) from.0 to.0 e;
    pops_stay = λ from to e. lanes-stay (λ x. x.received) (λ m n. same_com bank (com_at n) ≡ false) data_got op_sent no_lane data_got op_got reply_sent (λ k. refl) (λ k. absurd (cc k)) (λ k. refl) from.0 to.0 e;
    others = λ d e. picks-stay (λ n. same_com bank (com_at n) ≡ false) shop_ordered till_asking bank_first nobody shop_ordered till_asking bank_serving (λ k. refl) (λ k. refl) (λ k. absurd (cc k)) d.0 e;
    in_order = joined shop_ordered till_asking bank_serving data_got op_got reply_sent ([], refl) ([], refl) (the_reply ∷ [], refl);
    apart = none-to-itself shop_ordered till_asking bank_serving data_got op_got reply_sent;
  }

  -- the shop crashes
  abbrev crash_live : Live
  crash_live = live shop_down till_asking bank_serving data_got op_got reply_sent

  crash-moves : LanesMove shop (nothing_from till ∷ nothing_from bank ∷ []) ([]) (live shop_ordered till_asking bank_serving data_got op_got reply_sent).lanes crash_live.lanes
  crash-moves = record { popped = λ from. popped from.0; pushed = λ to. pushed to.0 }
    where
      popped : (n : ℕ) → (lanes_with data_got op_got reply_sent n 0).received ≡ (lanes_with data_got op_got reply_sent n 0).received ++ popped_of (com_at n) (nothing_from till ∷ nothing_from bank ∷ [])
      popped zero = sym (none-popped till shop (nothing_from bank ∷ []) (none-popped bank shop [] refl))
      popped (suc zero) = sym (none-popped till till (nothing_from bank ∷ []) (none-popped bank till [] refl))
      popped (suc (suc zero)) = sym (none-popped till bank (nothing_from bank ∷ []) (none-popped bank bank [] refl))
      popped (suc (suc (suc n))) = sym (none-popped till (com_at (suc (suc (suc n)))) (nothing_from bank ∷ []) (none-popped bank (com_at (suc (suc (suc n)))) [] refl))

      pushed : (n : ℕ) → (taken : List Packet) × StandAmong taken (filter (is_between shop (com_at n)) ([])) × ((lanes_with data_got op_got reply_sent 0 n).sent ≡ (lanes_with data_got op_got reply_sent 0 n).sent ++ taken)
      pushed zero = ([], tt, refl)
      pushed (suc zero) = ([], tt, refl)
      pushed (suc (suc zero)) = ([], tt, refl)
      pushed (suc (suc (suc n))) = ([], tt, refl)

  crash-turn : LiveStep (chain a) print policy shop (live shop_ordered till_asking bank_serving data_got op_got reply_sent) crash_live
  crash-turn = record {
    kind = kinds.Pcom;
    is_kind = refl;
    pops = nothing_from till ∷ nothing_from bank ∷ [];
    puts = [];
    does = inl (record { pops_are = (refl, (refl, refl)); does = (record { trace = crash_trace a; behind = behind_crash a; step = crash-step a; part = refl; files = refl; left = refl; answers = refl; turns = refl }, refl) });
    moves = crash-moves;
    sends_stay = λ from to e. lanes-stay (λ x. x.sent) (λ m n. same_com shop (com_at m) ≡ false) data_got op_got reply_sent data_got op_got reply_sent (λ k. absurd (cc k)) (λ k. refl) (λ k. refl) from.0 to.0 e;
    pops_stay = λ from to e. lanes-stay (λ x. x.received) (λ m n. same_com shop (com_at n) ≡ false) data_got op_got reply_sent data_got op_got reply_sent (λ k. refl) (λ k. refl) (λ k. refl) from.0 to.0 e;
    others = λ d e. picks-stay (λ n. same_com shop (com_at n) ≡ false) shop_ordered till_asking bank_serving nobody shop_down till_asking bank_serving (λ k. absurd (cc k)) (λ k. refl) (λ k. refl) d.0 e;
    in_order = joined shop_down till_asking bank_serving data_got op_got reply_sent ([], refl) ([], refl) (the_reply ∷ [], refl);
    apart = none-to-itself shop_down till_asking bank_serving data_got op_got reply_sent;
  }

  pub runs : LiveRun (chain a) print policy first moves
  runs = (order-turn, (take-turn, (answer-turn, (crash-turn, tt))))

  pub all-joined : AreJoined (last_live first moves).lanes
  all-joined = joined shop_down till_asking bank_serving data_got op_got reply_sent ([], refl) ([], refl) (the_reply ∷ [], refl)

  pub assembles : AreOf (chain a) (λ c. ((last_live first moves).berths c).part) opening.world.nodes []
  assembles = record { one_each = refl; node = λ c. node c.0; shown = λ c. shown c.0 }
    where
      node : (n : ℕ) → node_at (assembled opening.world.nodes []) (com_at n) ≡ option_map (λ (d : Component). (pick shop_down till_asking bank_serving nobody n).part.node) (slice_get (chain a).components n)
      node zero = refl
      node (suc zero) = refl
      node (suc (suc zero)) = refl
      node (suc (suc (suc n))) = refl

      shown : (n : ℕ) → shown_by (com_at n) [] ≡ (pick shop_down till_asking bank_serving nobody n).part.showings
      shown zero = refl
      shown (suc zero) = refl
      shown (suc (suc zero)) = refl
      shown (suc (suc (suc n))) = refl

  pub opening-kept : KeepsLogs print opening
  opening-kept = all-kept opening shop-kept asking-kept (none-kept bank) (λ n. tt)
