-- What the definition makes of a packet at a Pcom that replays.
use Rattle.std.proofs.Common.{◌≡◌, ◌∙◌, ap, refl, subst, ℕ, ◌+◌, ◌≤◌, Bool, true, false, cond, List, [], ◌∷◌, length, arith, Option, Some, None}
use Rattle.std.specs.Prelude.{◌&&◌, not, map, filter, is_some, option_map, option_to_list}
use Rattle.std.proofs.lemmas.List.{length-map}
use Rattle.std.proofs.lemmas.List.Filters.{length-filter_both}
use Rattle.ic_base.specs.declared.messages.ComId.{ComId}
use Rattle.ic_base.specs.declared.messages.Msg.{Msg}
use Rattle.ic_base.specs.declared.messages.Packet.{Packet}
use Rattle.ic_base.specs.declared.messages.Packet.TheVariants.{Data, Stable, Installed, Fetch, Op, OpReply, Commit, Outcome, Drop}
use Rattle.ic_base.specs.declared.record.Record.{Record}
use Rattle.ic_base.specs.declared.scenario.Program.{Program}
use Rattle.def_state.specs.Inbox.{acks, ack_of, is_loud}
use Rattle.def_state.specs.Outbox.{Held, due_messages, is_due, fetch}
use Rattle.def_state.specs.Vol.{Vol, regenerated, with_put_mark}
use Rattle.def_step.specs.Packets.{fits_pcom}
use Rattle.def_step.specs.Pcom.{Pcom, Log, StepResult, Gets, Fed, pcom_step, replay_step, carry_out, decide, is_replaying, is_needed, needed, stays, told, nothing_at_all, fed, stands_at, standing_at, forced_end}
use Rattle.def_step.specs.Replay.{feed}
use Rattle.def_step.specs.Room.{is_empty}
use Rattle.ic_pcom.specs.Feeding.{wanted, asked}

-- a message that has its put mark isn't due
none_due : (forced : ℕ) (hs : List Held) → filter (is_due forced) (map with_put_mark hs) ≡ []
none_due forced [] = refl
none_due forced (h ∷ hs) = none_due forced hs

some_pass : {A B : Type 0} (f : A → B) (test : A → Bool) (xs : List A) → length (map f (filter test xs)) ≤ length xs
some_pass f test xs = omega (arith, length-map (filter test xs) f, length-filter_both test (λ x. not (test x)) (λ x. refl) xs)

-- behind a replay room for each receipt is room for all that is told and put out
pub room_to_tell : (n capacity forced : ℕ) (v : Vol) → n ≡ 0 → length v.inbox.receipts ≤ capacity
    → n + length (acks (regenerated v).inbox forced) + length (due_messages (regenerated v).outbox forced) + cond (regenerated v).owes_drop 1 0 + 0 ≤ capacity
room_to_tell n capacity forced v none room =
    omega (arith, room, none, some_pass (ack_of forced) (is_loud forced) v.inbox.receipts, ap (λ (hs : List Held). length (map (λ h. h.msg) hs)) (none_due forced v.outbox.held))

-- the packet is the message that is waited for
pub wanted_is : (program : Program) (c : ComId) (rest : List Record) (p : Packet) (m : Msg) → wanted program c rest p ≡ Some m → (p ≡ Data m) × ((fits_pcom program c (Data m) && is_needed rest m) ≡ true)
wanted_is program c rest (Data x) m is = by (fits_pcom program c (Data x) && is_needed rest x) refl is
  where
    by : (b : Bool) → (fits_pcom program c (Data x) && is_needed rest x) ≡ b → cond b (Some x) None ≡ Some m → (◌≡◌ {A = Packet} (Data x) (Data m)) × ((fits_pcom program c (Data m) && is_needed rest m) ≡ true)
    by true both is =
        let same : x ≡ m = cc in
        (ap (λ (y : Msg). Data y) same, subst (λ (y : Msg). (fits_pcom program c (Data y) && is_needed rest y) ≡ true) same both)
    by false both is = cc
wanted_is program c rest (Stable from to k) m is = cc
wanted_is program c rest (Installed from to k) m is = cc
wanted_is program c rest (Fetch from to k) m is = cc
wanted_is program c rest (Op from to n place session request) m is = cc
wanted_is program c rest (OpReply from to n place session value) m is = cc
wanted_is program c rest (Commit from to n place session stamp) m is = cc
wanted_is program c rest (Outcome from to n place session decision) m is = cc
wanted_is program c rest (Drop from to n) m is = cc

not_wanted : (f n : Bool) (m : Msg) (x s : Option StepResult) → cond (f && n) (Some m) None ≡ None → cond f (cond n x s) s ≡ s
not_wanted true true m x s none = cc
not_wanted true false m x s none = refl
not_wanted false n m x s none = refl

in_any_case : (f : Bool) (s : Option StepResult) → cond f s s ≡ s
in_any_case true s = refl
in_any_case false s = refl

asks_if : (f : Bool) (q : Pcom) (found : Option Msg) → cond f (stays q (map Data (option_to_list found))) (stays q []) ≡ stays q (map Data (option_to_list (cond f found None)))
asks_if true q found = refl
asks_if false q found = refl

-- another packet changes nothing
pub other_stays : (program : Program) (c : ComId) (q : Pcom) (p : Packet) → wanted program c q.rest p ≡ None → replay_step program c q (Gets p) ≡ stays q (map Data (option_to_list (asked program c q p)))
other_stays program c q (Data m) none =
    not_wanted (fits_pcom program c (Data m)) (is_needed q.rest m) m (option_map (λ x. fed c (stands_at q.log x)) (feed program c q.vol m q.rest)) (stays q []) none
other_stays program c q (Stable from to k) none = in_any_case (fits_pcom program c (Stable from to k)) (stays q [])
other_stays program c q (Installed from to k) none = in_any_case (fits_pcom program c (Installed from to k)) (stays q [])
other_stays program c q (Fetch from to k) none = asks_if (fits_pcom program c (Fetch from to k)) q (fetch q.vol.outbox (record { peer = from; k = k }) (forced_end q))
other_stays program c q (Op from to n place session request) none = refl
other_stays program c q (OpReply from to n place session value) none = in_any_case (fits_pcom program c (OpReply from to n place session value)) (stays q [])
other_stays program c q (Commit from to n place session stamp) none = refl
other_stays program c q (Outcome from to n place session decision) none = in_any_case (fits_pcom program c (Outcome from to n place session decision)) (stays q [])
other_stays program c q (Drop from to n) none = refl

feeds_where : (f n : Bool) (x s : Option StepResult) → (f && n) ≡ true → cond f (cond n x s) s ≡ x
feeds_where true true x s both = refl
feeds_where true false x s both = cc
feeds_where false n x s both = cc

replays_if : (b : Bool) (x y : Option StepResult) → b ≡ true → cond b x y ≡ x
replays_if true x y is = refl
replays_if false x y is = cc

-- the message that is waited for is fed
pub wanted_feeds : (program : Program) (c : ComId) (q : Pcom) (m : Msg) → is_replaying q ≡ true → (fits_pcom program c (Data m) && is_needed q.rest m) ≡ true
    → pcom_step program c q (Gets (Data m)) ≡ option_map (λ x. fed c (stands_at q.log x)) (feed program c q.vol m q.rest)
wanted_feeds program c q m replays both =
    replays_if (is_replaying q) (replay_step program c q (Gets (Data m))) (Some (carry_out program c q (decide program c q (Gets (Data m))))) replays
    ∙ feeds_where (fits_pcom program c (Data m)) (is_needed q.rest m) (option_map (λ x. fed c (stands_at q.log x)) (feed program c q.vol m q.rest)) (stays q []) both

-- any other packet
pub others_stay : (program : Program) (c : ComId) (q : Pcom) (p : Packet) → is_replaying q ≡ true → wanted program c q.rest p ≡ None
    → pcom_step program c q (Gets p) ≡ Some (told q (map Data (option_to_list (asked program c q p))) nothing_at_all)
others_stay program c q p replays none =
    replays_if (is_replaying q) (replay_step program c q (Gets p)) (Some (carry_out program c q (decide program c q (Gets p)))) replays ∙ other_stays program c q p none

-- the log is the same, and so is what is left
pub fed_log : (c : ComId) (log : Log) (v : Vol) (rest : List Record) → (fed c (standing_at log v rest)).pcom.log ≡ log
fed_log c log v [] = refl
fed_log c log v (r ∷ rs) = refl

pub fed_rest : (c : ComId) (log : Log) (v : Vol) (rest : List Record) → (fed c (standing_at log v rest)).pcom.rest ≡ rest
fed_rest c log v [] = refl
fed_rest c log v (r ∷ rs) = refl

-- a replay that waits again
pub fed_on : (c : ComId) (log : Log) (v : Vol) (rest : List Record) → is_some (needed rest) ≡ true
    → fed c (standing_at log v rest) ≡ told (record { log = log; vol = v; rest = rest }) [] (record nothing_at_all { word = Fed })
fed_on c log v [] waits = cc
fed_on c log v (r ∷ rs) waits = refl

pub stands_on : (log : Log) (v : Vol) (rest : List Record) → is_some (needed rest) ≡ true → standing_at log v rest ≡ record { log = log; vol = v; rest = rest }
stands_on log v [] waits = cc
stands_on log v (r ∷ rs) waits = refl

pub not_done : (rest : List Record) → is_some (needed rest) ≡ true → is_empty rest ≡ false
not_done [] waits = cc
not_done (r ∷ rs) waits = refl
