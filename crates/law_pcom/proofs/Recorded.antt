-- A record that fits, and behind which no number passes its limit, is taken by the replay.
use Rattle.std.proofs.Common.{◌≡◌, refl, ◌∙◌, ap, sym, subst, ℕ, ◌≤◌, nat_le, Bool, true, false, cond, not, ◌&&◌, ◌||◌, ◌==◌, List, [], ◌∷◌, ◌++◌, map, length, ℤ, Option, Some, None, option_map, option_and_then, is_none, arith}
use Rattle.std.specs.Prelude.{Contains}
use Rattle.std.specs.List.{list_all, list_any}
use Rattle.std.proofs.lemmas.Bool.{and_parts}
use Rattle.ic_base.specs.declared.limits.TheConstants.{GREATEST_NUMBER}
use Rattle.ic_base.specs.declared.messages.AbortCause.{AbortCause}
use Rattle.ic_base.specs.declared.messages.ComId.{ComId}
use Rattle.ic_base.specs.declared.messages.Msg.{Msg}
use Rattle.ic_base.specs.declared.played.Played.{Played}
use Rattle.ic_base.specs.declared.played.Played.TheVariants.{Asks, Ready, NeedFails, Ends}
use Rattle.ic_base.specs.declared.scenario.Program.{Program}
use Rattle.ic_base.specs.declared.record.Record.{Record}
use Rattle.ic_base.specs.Programs.{same_com}
use Rattle.def_play.specs.Playing.{handler_of}
use Rattle.def_plain.specs.declared.world.PlainPcom.{PlainPcom}
use Rattle.def_plain.specs.declared.world.InHand.{InHand}
use Rattle.def_plain.specs.Cell.{Touch, TakesMessage, TakesInput, come_to as cell_comes_to, cell_step, plays_on, transaction_ends, new_in_hand, provided, has_taken, takes, is_com}
use Rattle.def_state.specs.Names.{Numbers, number_of, same_identity}
use Rattle.def_state.specs.Txn.{Stage, Idle, Waiting, Answered, Committing, is_idle, is_committing}
use Rattle.def_state.specs.Hist.{Hist, Contents, after, played_on, moved, moved_well, is_at_request, is_in, receipt_identity, hand_plays, numbers_fit, last_ended, new_messages, links_of}
use Rattle.def_state.specs.Vol
use Rattle.def_state.specs.Vol.{Vol, play_on, take_in_hand, receive, end_txn, add_done, done_by}
use Rattle.def_state.specs.Mirrors.{Mirrors}
use Rattle.def_facts.specs.Logs.{values_of, Got, IsPrefixOf}
use Rattle.def_facts.specs.Playable.{IsPlayable, BeginsWithRequest, AreResults, IsResult}
use Rattle.law_replay.proofs.Lists.{true-false, both-true, at_most, le-true, in-head, in-tail}
use Rattle.law_replay.proofs.Growing.{cell-grows}
use Rattle.law_replay.proofs.Numbers.{moved-within}
use Rattle.law_replay.proofs.Results.{no-results, more-results}
use Rattle.law_replay.proofs.Talked.{StageIs, Opened}
use Rattle.law_replay.proofs.Talks.{states-talk}
use Rattle.law_pcom.specs.Mirroring.{Sits}
use Rattle.law_pcom.proofs.Playing.{HasInHand, base, plays-moved, take-in-hand, input-in-hand, end-in-hand}

-- numbers -------------------------------------------------------------------------------------------

links-fit : (links : Numbers) (most : ℕ) → list_all (λ n. nat_le n most) (map (λ x. x.1) links) ≡ true → (to : ComId) → number_of 0 links to ≤ most
links-fit [] most e to = least most
  where
    least : (n : ℕ) → 0 ≤ n
    least n = omega arith
links-fit (x ∷ xs) most e to = at (same_com to x.0) (links-fit xs most b.1 to)
  where
    b : (nat_le x.1 most ≡ true) × (list_all (λ n. nat_le n most) (map (λ y. y.1) xs) ≡ true)
    b = and_parts (nat_le x.1 most) (list_all (λ n. nat_le n most) (map (λ y. y.1) xs)) e

    at : (same : Bool) → number_of 0 xs to ≤ most → cond same x.1 (number_of 0 xs to) ≤ most
    at true le = at_most x.1 most b.0
    at false le = le

all-small : (ms : List Msg) (most : ℕ) → ((m : Msg) → Contains ms m → m.k ≤ most) → list_all (λ (m : Msg). nat_le m.k most) ms ≡ true
all-small [] most small = refl
all-small (m ∷ ms) most small = both-true (nat_le m.k most) (list_all (λ (n : Msg). nat_le n.k most) ms) (le-true m.k most (small m (in-head m ms))) (all-small ms most (λ n h. small n (in-tail m n ms h)))

-- where the numbers of the live state fit, so do those of the replayed one
numbers-fit : (program : Program) (c : ComId) (k : Contents) (rs : List Record) (h : Hist) (last : Option (ComId × ℕ)) (stamp : ℕ) (p : PlainPcom) (w : Vol) → after program c k rs ≡ Some h → IsPrefixOf h.plain.sent p.sent →
    Mirrors w (moved program c (record h { last = last }) stamp p) → Vol.numbers_fit w ≡ true → numbers_fit (moved program c (record h { last = last }) stamp p) ≡ true
numbers-fit program c k rs h last stamp p w e more m fit =
    both-true (list_all (λ (n : Msg). nat_le n.k GREATEST_NUMBER) (h.sent ++ new_messages c stamp h p)) (nat_le (length p.outs) GREATEST_NUMBER && nat_le p.begun GREATEST_NUMBER)
    (all-small (h.sent ++ new_messages c stamp h p) GREATEST_NUMBER (λ n y. small n.k (number_of 0 (links_of (h.sent ++ new_messages c stamp h p)) n.to) GREATEST_NUMBER (moved-within program c k rs h stamp p more.0 e more.1 n y) (links-fit (links_of (h.sent ++ new_messages c stamp h p)) GREATEST_NUMBER (subst (λ l. list_all (λ n. nat_le n GREATEST_NUMBER) (map (λ (x : ComId × ℕ). x.1) l) ≡ true) m.links b3.1) n.to)))
    (both-true (nat_le (length p.outs) GREATEST_NUMBER) (nat_le p.begun GREATEST_NUMBER) (subst (λ n. nat_le n GREATEST_NUMBER ≡ true) m.made b2.0) (subst (λ n. nat_le n GREATEST_NUMBER ≡ true) (ap (λ x. x.begun) m.txn) b3.0))
  where
    rest : Bool
    rest = list_all (λ n. nat_le n GREATEST_NUMBER) (map (λ (x : ComId × ℕ). x.1) w.outbox.links)

    b1 : (nat_le w.clock GREATEST_NUMBER ≡ true) × ((nat_le w.shelf.made GREATEST_NUMBER && (nat_le w.txn.begun GREATEST_NUMBER && list_all (λ n. nat_le n GREATEST_NUMBER) (map (λ (x : ComId × ℕ). x.1) w.outbox.links))) ≡ true)
    b1 = and_parts (nat_le w.clock GREATEST_NUMBER) (nat_le w.shelf.made GREATEST_NUMBER && (nat_le w.txn.begun GREATEST_NUMBER && list_all (λ n. nat_le n GREATEST_NUMBER) (map (λ (x : ComId × ℕ). x.1) w.outbox.links))) fit

    b2 : (nat_le w.shelf.made GREATEST_NUMBER ≡ true) × ((nat_le w.txn.begun GREATEST_NUMBER && list_all (λ n. nat_le n GREATEST_NUMBER) (map (λ (x : ComId × ℕ). x.1) w.outbox.links)) ≡ true)
    b2 = and_parts (nat_le w.shelf.made GREATEST_NUMBER) (nat_le w.txn.begun GREATEST_NUMBER && list_all (λ n. nat_le n GREATEST_NUMBER) (map (λ (x : ComId × ℕ). x.1) w.outbox.links)) b1.1

    b3 : (nat_le w.txn.begun GREATEST_NUMBER ≡ true) × (list_all (λ n. nat_le n GREATEST_NUMBER) (map (λ (x : ComId × ℕ). x.1) w.outbox.links) ≡ true)
    b3 = and_parts (nat_le w.txn.begun GREATEST_NUMBER) (list_all (λ n. nat_le n GREATEST_NUMBER) (map (λ (x : ComId × ℕ). x.1) w.outbox.links)) b2.1

    small : (a b most : ℕ) → a ≤ b → b ≤ most → a ≤ most
    small a b most x y = omega (arith, x, y)

-- playing on ----------------------------------------------------------------------------------------

-- a handler that has played on stands at a request, or is at its end
at-request : (program : Program) (c : ComId) (h : Hist) (rs : List (ComId × ℕ)) (hand : InHand) → BeginsWithRequest (hand_plays program c h.plain.vars [] hand) →
    is_at_request (option_map (hand_plays program c (plays_on program c (base h rs) hand).vars []) (plays_on program c (base h rs) hand).hand) ≡ true
at-request program c h rs hand begins = by (hand_plays program c h.plain.vars [] hand) refl begins
  where
    cell : Played → PlainPcom
    cell r = cell_comes_to (record h.plain { receipts = rs; hand = Some hand }) r

    by : (r : Played) → hand_plays program c h.plain.vars [] hand ≡ r → BeginsWithRequest r → is_at_request (option_map (hand_plays program c (cell (hand_plays program c h.plain.vars [] hand)).vars []) (cell (hand_plays program c h.plain.vars [] hand)).hand) ≡ true
    by (Ends vars sends outs) e b = ap (λ z. is_at_request (option_map (hand_plays program c (cell z).vars []) (cell z).hand)) e
    by (Asks t q) e b = ap (λ z. is_at_request (option_map (hand_plays program c (cell z).vars []) (cell z).hand)) e ∙ ap (λ z. is_at_request (Some z)) e
    by (Ready t) e b = absurd b
    by (NeedFails t line) e b = absurd b

-- what is played on has a state
plays : (program : Program) (c : ComId) (k : Contents) (rs : List Record) (h : Hist) (last : Option (ComId × ℕ)) (receipts : List (ComId × ℕ)) (stamp : ℕ) (touch : Touch) (hand : InHand) (at : ℕ) (w : Vol) → IsPlayable program → after program c k rs ≡ Some h →
    HasInHand w (record h { last = last }) receipts stamp hand → AreResults program c hand.handler h.plain.vars hand.args hand.done → cell_step program c h.plain touch ≡ Some (plays_on program c (base h receipts) hand) → Vol.numbers_fit (play_on program c at w) ≡ true →
    (g : Hist) × (played_on program c (record h { last = last }) stamp (Some touch) ≡ Some g)
plays program c k rs h last receipts stamp touch hand at w good e x are step fit = (
  moved program c (record h { last = last }) stamp p,
  ap (option_and_then (moved_well program c (record h { last = last }) stamp)) step
      ∙ ap (λ b. cond b (Some (moved program c (record h { last = last }) stamp p)) None) (both-true (numbers_fit (moved program c (record h { last = last }) stamp p)) (is_at_request (option_map (hand_plays program c p.vars []) p.hand)) numbers asks),
)
  where
    p : PlainPcom
    p = plays_on program c (base h receipts) hand

    asks : is_at_request (option_map (hand_plays program c (plays_on program c (base h receipts) hand).vars []) (plays_on program c (base h receipts) hand).hand) ≡ true
    asks = at-request program c h receipts hand (good.asks_first c hand.handler h.plain.vars hand.args hand.done are)

    numbers : numbers_fit (moved program c (record h { last = last }) stamp (plays_on program c (base h receipts) hand)) ≡ true
    numbers = numbers-fit program c k rs h last stamp (plays_on program c (base h receipts) hand) (play_on program c at w) e (cell-grows program c h.plain (plays_on program c (base h receipts) hand) touch step).sent
        (plays-moved program c at w (record h { last = last }) receipts stamp hand x asks) fit

-- the same receipts, with the two ends of each in turn
pub same-taken : (receipts : List (ComId × ℕ)) (s : ComId) (k : ℕ) → list_any (λ r. is_com r.0 s && (r.1 == k)) receipts ≡ is_in (map receipt_identity receipts) (record { peer = s; k = k })
same-taken [] s k = refl
same-taken (r ∷ rs) s k = ap (λ b. b || list_any (λ x. is_com x.0 s && (x.1 == k)) rs) (turned r.0.0 s.0 r.1 k) ∙ ap (λ b. same_identity (record { peer = s; k = k }) (receipt_identity r) || b) (same-taken rs s k)
  where
    turn : (m n : ℕ) → (m == n) ≡ (n == m)
    turn m n = at (m == n) refl (n == m) refl
      where
        at : (x : Bool) → (m == n) ≡ x → (y : Bool) → (n == m) ≡ y → x ≡ y
        at true p true q = refl
        at false p false q = refl
        at true p false q = grind (arith, p, q)
        at false p true q = grind (arith, p, q)

    turned : (a b i j : ℕ) → ((a == b) && (i == j)) ≡ ((b == a) && (j == i))
    turned a b i j = ap (λ x. x && (i == j)) (turn a b) ∙ ap (λ x. (b == a) && x) (turn i j)

pub takes-message : (program : Program) (c : ComId) (k : Contents) (rs : List Record) (h : Hist) (at : ℕ) (v : Vol) (from : ComId) (n stamp : ℕ) (whole : Bool) (handler : ℕ) (args : List ℤ) → IsPlayable program → after program c k rs ≡ Some h → Sits program c h → Mirrors v h → is_none h.plain.hand ≡ true →
    is_in (map receipt_identity h.plain.receipts) (record { peer = from; k = n }) ≡ false → Vol.numbers_fit (play_on program c at (take_in_hand (receive v from n at whole) stamp handler args)) ≡ true → (g : Hist) × (played_on program c h stamp (Some (TakesMessage from n handler args)) ≡ Some g)
takes-message program c k rs h at v from n stamp whole handler args good e sits m free new fit =
    plays program c k rs h h.last (h.plain.receipts ++ (from, n) ∷ []) stamp (TakesMessage from n handler args) (new_in_hand handler args) at (take_in_hand (receive v from n at whole) stamp handler args) good e
    (take-in-hand program c v h from n at stamp whole handler args sits m free) (no-results program c handler h.plain.vars args)
    (ap (λ b. provided b (plays_on program c (record h.plain { receipts = h.plain.receipts ++ (from, n) ∷ [] }) (new_in_hand handler args))) (both-true (is_none h.plain.hand) (not (has_taken h.plain from n)) free (ap not (same-taken h.plain.receipts from n ∙ new)))) fit

pub takes-input : (program : Program) (c : ComId) (k : Contents) (rs : List Record) (h : Hist) (at : ℕ) (v : Vol) (stamp handler : ℕ) (args : List ℤ) → IsPlayable program → after program c k rs ≡ Some h → Sits program c h → Mirrors v h → is_none h.plain.hand ≡ true → takes (handler_of program c handler) args ≡ true →
    Vol.numbers_fit (play_on program c at (take_in_hand v stamp handler args)) ≡ true → (g : Hist) × (played_on program c h stamp (Some (TakesInput handler args)) ≡ Some g)
takes-input program c k rs h at v stamp handler args good e sits m free there fit =
    plays program c k rs h h.last h.plain.receipts stamp (TakesInput handler args) (new_in_hand handler args) at (take_in_hand v stamp handler args) good e
    (input-in-hand program c v h stamp handler args sits m free) (no-results program c handler h.plain.vars args)
    (ap (λ b. provided b (plays_on program c h.plain (new_in_hand handler args))) (both-true (is_none h.plain.hand) (takes (handler_of program c handler) args) free there)) fit

-- an outcome ----------------------------------------------------------------------------------------

-- the results of what is in hand, and what its part asks first
opened-of : (program : Program) (c : ComId) (gots : List Got) (p : PlainPcom) (now : List ℤ) (s : Stage) → StageIs program c gots p now s → is_idle s ≡ false → (t : ComId) × Opened program c p t
opened-of program c gots p now Idle x busy = true-false (sym busy)
opened-of program c gots p now (Waiting t place session q) x busy = (t, x.0)
opened-of program c gots p now (Answered t place session q) x busy = (t, x.0)
opened-of program c gots p now (Committing t place session) x busy = (t, x.0)

ready-of : (program : Program) (c : ComId) (gots : List Got) (p : PlainPcom) (now : List ℤ) (s : Stage) → StageIs program c gots p now s → is_committing s ≡ true → (t : ComId) × (x : Opened program c p t) × (hand_plays program c p.vars now x.hand ≡ Ready t)
ready-of program c gots p now Idle x commits = true-false commits
ready-of program c gots p now (Waiting t place session q) x commits = true-false commits
ready-of program c gots p now (Answered t place session q) x commits = true-false commits
ready-of program c gots p now (Committing t place session) x commits = (t, x.0, x.3)

-- a transaction may end so
abbrev pub EndsAs : Stage → Option AbortCause → Type 0
EndsAs s None = is_committing s ≡ true
EndsAs s (Some cause) = is_idle s ≡ false

result-of : (program : Program) (c : ComId) (gots : List Got) (p : PlainPcom) (now : List ℤ) (s : Stage) (abort : Option AbortCause) → StageIs program c gots p now s → EndsAs s abort →
    (hand : InHand) × (p.hand ≡ Some hand) × AreResults program c hand.handler p.vars hand.args hand.done × IsResult program c hand.handler p.vars hand.args hand.done (done_by now abort)
result-of program c gots p now s None x ends = let y = ready-of program c gots p now s x ends in (y.1.hand, y.1.is_hand, y.1.results, (y.0, y.2))
result-of program c gots p now s (Some cause) x ends = let y = opened-of program c gots p now s x ends in (y.1.hand, y.1.is_hand, y.1.results, (y.0, y.1.request, y.1.asks))

pub ends-part : (program : Program) (c : ComId) (k : Contents) (rs : List Record) (h : Hist) (at : ℕ) (v : Vol) (stamp n : ℕ) (abort : Option AbortCause) (touch : Touch) → IsPlayable program → after program c k rs ≡ Some h → Mirrors v h → EndsAs h.stage abort → (h.plain.begun == n) ≡ true →
    ((p : PlainPcom) → cell_step program c p touch ≡ transaction_ends program c p n (done_by h.now abort) p.hand) → Vol.numbers_fit (play_on program c at (end_txn v stamp at abort)) ≡ true → (g : Hist) × (played_on program c (last_ended h) stamp (Some touch) ≡ Some g)
ends-part program c k rs h at v stamp n abort touch good e m ends number is fit =
    let y = result-of program c (values_of rs h.plain.begun) h.plain h.now h.stage abort (states-talk program c k rs h good e).stage ends in
    plays program c k rs h (last_ended h).last h.plain.receipts stamp touch (add_done (done_by h.now abort) y.0) at (end_txn v stamp at abort) good e
    (end-in-hand v h at stamp abort y.0 m y.1) (more-results program c y.0.handler h.plain.vars y.0.args y.0.done (done_by h.now abort) y.2 y.3)
    (is h.plain ∙ ap (transaction_ends program c h.plain n (done_by h.now abort)) y.1 ∙ ap (λ b. provided b (plays_on program c h.plain (add_done (done_by h.now abort) y.0))) number) fit
