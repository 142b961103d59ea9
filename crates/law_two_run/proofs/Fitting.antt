-- What an event of a run would force has its bytes.
use Rattle.std.proofs.Common.{◌≡◌, refl, ◌∙◌, ap, sym, subst, ℕ, zero, suc, ◌+◌, ◌^◌, ◌<◌, ◌≤◌, nat_le, nat_lt, Bool, true, false, cond, not, ◌&&◌, ◌||◌, ◌==◌, List, [], ◌∷◌, ◌++◌, length, get_or, Option, Some, None, option_map, arith, ◌⊎◌, inl, inr}
use Rattle.std.specs.Prelude.{Contains, option_and_then}
use Rattle.std.specs.List.{AllByRecursion}
use Rattle.std.proofs.lemmas.List.Elements.{Contains-push_cases}
use Rattle.std.proofs.lemmas.Option.{same_Some}
use Rattle.ic_base.specs.declared.limits.TheConstants.{GREATEST_NUMBER}
use Rattle.def_log.specs.Sizes.{size_in}
use Rattle.def_two.specs.declared.moves.Move.{Move}
use Rattle.def_two.specs.declared.moves.Cause2.{Cause2}
use Rattle.def_two.specs.declared.moves.Cause2.TheVariants.{Short, Over}
use Rattle.def_two.specs.declared.moves.Ruling.{Ruling}
use Rattle.def_two.specs.declared.moves.Ruling.TheVariants.{Yes, No}
use Rattle.def_two.specs.declared.moves.Packet2.{Packet2}
use Rattle.def_two.specs.declared.moves.Packet2.TheVariants.{Ask, Vote, Verdict, Done}
use Rattle.def_two.specs.declared.moves.Record2.{Record2}
use Rattle.def_two.specs.declared.moves.Record2.TheVariants as records
use Rattle.def_two.specs.declared.script.What2.{What2}
use Rattle.def_two.specs.declared.script.What2.TheVariants as whats
use Rattle.def_two.specs.Moves.{Openings, nth_book, is_party, is_lawful, numbered}
use Rattle.def_two.specs.declared.states.BookState.{BookState}
use Rattle.def_two.specs.Book.{short, over, refusal, held_out, held_in, is_ended, is_readied, votes, answers, ends, on_unready, silent, book_gets, book_serves, book_step}
use Rattle.def_two.specs.declared.states.Docket.{Docket}
use Rattle.def_two.specs.Chief.{Begins, Hears, Resends, first_docket, ruling_of, docketed, docket_after, is_lawful_for, on_vote, on_vote_if, if_party, hears, hears_yes, hears_done, are_both, waits, decides}
use Rattle.def_two.specs.World.{World2, site_at, log_at, is_up, docket_at, book_at, does, next_move, packet_at, oldest_of, receiver_of}
use Rattle.def_two.specs.Runs.{Called, called, delivery_of, would_add, is_line}
use Rattle.def_two.specs.Ends.{AreOpenings}
use Rattle.def_two.specs.Facts.{BookFacts, IsTrueOf, HadCause, Holds}
use Rattle.def_two.specs.Records.{MoveFits, RulingFits, Fits2}
use Rattle.def_two.specs.CoreSteps.{SystemState2, file2_of, forces, has_no_room2, is_past_number, is_call_full2, is_full2}
use Rattle.law_two.proofs.Lists.{none-some, front, back, empty, head-or-tail}
use Rattle.law_two.proofs.Sums.{numbered-has}
use Rattle.law_two.proofs.Deciding.{either-party}
use Rattle.law_two.proofs.Worlds.{put-out}

-- numbers -----------------------------------------------------------------------------------

le-of : (a b : ℕ) → nat_le a b ≡ true → a ≤ b
le-of a b e = grind arith

lt-of : (a b : ℕ) → nat_lt a b ≡ true → a < b
lt-of a b e = grind arith

not-lt : (a b : ℕ) → nat_lt a b ≡ false → b ≤ a
not-lt a b e = grind arith

-- the two books of a lawful move are below 32
pub record InBooks (m : Move) : Type 0 where
  pub from : (1 ≤ m.from) × (m.from ≤ 8)
  pub to : (1 ≤ m.to) × (m.to ≤ 8)

pub in-books : (m : Move) → is_lawful m ≡ true → InBooks m
in-books m e =
    let a = back (not (m.from == m.to)) _ e in
    let b = back (nat_le 1 m.from) _ a in
    let c = back (nat_le m.from 8) _ b in
    let d = back (nat_le 1 m.to) _ c in
    record {
      from = (le-of 1 m.from (front (nat_le 1 m.from) _ a), le-of m.from 8 (front (nat_le m.from 8) _ b));
      to = (le-of 1 m.to (front (nat_le 1 m.to) _ c), le-of m.to 8 (front (nat_le m.to 8) _ d));
    }

-- a begun move has its bytes
pub move-fits : (books : Openings) (m : Move) → AreOpenings books → 1 ≤ m.n → m.n ≤ GREATEST_NUMBER → is_lawful_for books m ≡ true → m.amount < 2 ^ 64 → MoveFits m
move-fits books m o low high law amount =
    let b = in-books m (front (is_lawful m) _ law) in
    let rows = back (is_lawful m) _ law in
    let source = lt-of m.source (length (nth_book books m.from)) (front (nat_lt m.source (length (nth_book books m.from))) _ rows) in
    let target = lt-of m.target (length (nth_book books m.to)) (back (nat_lt m.source (length (nth_book books m.from))) _ rows) in
    ((low, high), omega (arith, b.from.1), omega (arith, source, o.2 m.from), omega (arith, b.to.1), omega (arith, target, o.2 m.to), amount)

-- logs ----------------------------------------------------------------------------------------

pub all-append : {A : Type 0} (P : A → Type 0) (xs ys : List A) → AllByRecursion P xs → AllByRecursion P ys → AllByRecursion P (xs ++ ys)
all-append P [] ys a b = b
all-append P (x ∷ xs) ys a b = (a.0, all-append P xs ys a.1 b)

pub all-at : {A : Type 0} (P : A → Type 0) (xs : List A) (x : A) → AllByRecursion P xs → Contains xs x → P x
all-at P [] x a k = empty x k
all-at P (y ∷ ys) x a k = at (head-or-tail y x ys k) (all-at P ys x a.1)
  where
    at : (y ≡ x) ⊎ Contains ys x → (Contains ys x → P x) → P x
    at (inl e) more = subst P e a.0
    at (inr t) more = more t

-- a begun move stands in the log
begun-fits : (d : Docket) (rs : List Record2) (m : Move) → AllByRecursion Fits2 rs → Contains (docket_after d rs).begun m → Contains d.begun m ⊎ MoveFits m
begun-fits d [] m a k = inl k
begun-fits d (r ∷ rs) m a k = at r a.0 (begun-fits (docketed d r) rs m a.1 k)
  where
    at : (r : Record2) → Fits2 r → Contains (docketed d r).begun m ⊎ MoveFits m → Contains d.begun m ⊎ MoveFits m
    at r f (inr t) = inr t
    at (records.Begun x) f (inl t) = push (Contains-push_cases d.begun x m t)
      where
        push : Contains d.begun m ⊎ (x ≡ m) → Contains d.begun m ⊎ MoveFits m
        push (inl h) = inl h
        push (inr e) = inr (subst MoveFits e f)
    at (records.Verdict n ruling) f (inl t) = inl t
    at (records.Ready x) f (inl t) = inl t
    at (records.Ended n agreed) f (inl t) = inl t

abbrev pub FitsLogs : World2 → Type 0
FitsLogs w = (c : ℕ) → AllByRecursion Fits2 (log_at w c)

-- each book of these worlds has its facts
abbrev pub AllBounded : Openings → List World2 → Type 0
AllBounded books past = (u : World2) → Contains past u → (b : ℕ) → BookFacts b (nth_book books b) (book_at books u b)

-- a cause that a book had has numbers of 64 bits
cause-fits : (b : ℕ) (opening : List ℕ) (x : BookState) (m : Move) (cause : Cause2) (c : ℕ) → BookFacts b opening x → refusal b x m ≡ Some cause → c < 32 → RulingFits (No c cause)
cause-fits b opening x m cause c f e small = at (m.from == b) e
  where
    is-short : (t : Bool) → cond t (Some (Short (get_or x.values m.source 0) (held_out b x m.source))) None ≡ Some cause → RulingFits (No c cause)
    is-short true g =
        subst (λ z. RulingFits (No c z)) (same_Some (Short (get_or x.values m.source 0) (held_out b x m.source)) cause g)
        (small, omega (arith, f.bounded m.source), omega (arith, f.bounded m.source, f.covered m.source))
    is-short false g = none-some cause g

    is-over : (t : Bool) → cond t (Some (Over (get_or x.values m.target 0) (held_in b x m.target))) None ≡ Some cause → RulingFits (No c cause)
    is-over true g =
        subst (λ z. RulingFits (No c z)) (same_Some (Over (get_or x.values m.target 0) (held_in b x m.target)) cause g)
        (small, omega (arith, f.bounded m.target), omega (arith, f.bounded m.target))
    is-over false g = none-some cause g

    at : (t : Bool) → cond t (short (get_or x.values m.source 0) (held_out b x m.source) m.amount) (over (get_or x.values m.target 0) (held_in b x m.target) m.amount) ≡ Some cause → RulingFits (No c cause)
    at true g = is-short (nat_lt (get_or x.values m.source 0) (held_out b x m.source + m.amount)) g
    at false g = is-over (nat_le (2 ^ 64) (get_or x.values m.target 0 + held_in b x m.target + m.amount)) g

module _ (books : Openings) (past : List World2) (w : World2) (o : AreOpenings books) (h : Holds books past w) (logs : FitsLogs w) (bounded : AllBounded books past) where
  begun-move : (m : Move) → Contains (docket_at w).begun m → MoveFits m
  begun-move m k = at (begun-fits first_docket (log_at w 0) m (logs 0) k)
    where
      at : Contains first_docket.begun m ⊎ MoveFits m → MoveFits m
      at (inl t) = empty m t
      at (inr f) = f

  -- a party of a begun move is a book
  party-small : (m : Move) (b : ℕ) → Contains (docket_at w).begun m → is_party b m ≡ true → b < 32
  party-small m b k p = at (either-party m b p)
    where
      at : (m.from ≡ b) ⊎ (m.to ≡ b) → b < 32
      at (inl e) = omega (arith, e, (begun-move m k).1)
      at (inr e) = omega (arith, e, (begun-move m k).3)

  had-fits : (m : Move) (b : ℕ) (cause : Cause2) → Contains (docket_at w).begun m → is_party b m ≡ true → HadCause books past b m cause → RulingFits (No b cause)
  had-fits m b cause k p z = cause-fits b (nth_book books b) (book_at books z.0 b) m cause b (bounded z.0 z.1 b) z.2 (party-small m b k p)

  -- the chief -----------------------------------------------------------------------------------

  hears-fit : (p : Packet2) → Contains w.packets p → AllByRecursion Fits2 (hears (docket_at w) w.heard p).adds
  hears-fit (Ask b m) k = tt
  hears-fit (Verdict n b agreed) k = tt
  hears-fit (Done n b) k = at (numbered n (docket_at w).begun)
    where
      party : (c : Bool) → AllByRecursion Fits2 (cond c (waits (hears_done n b w.heard)) (waits w.heard)).adds
      party true = tt
      party false = tt

      at : (q : Option Move) → AllByRecursion Fits2 (if_party b w.heard q (λ m. waits (hears_done n b w.heard))).adds
      at None = tt
      at (Some m) = party (is_party b m)
  hears-fit (Vote n b why) k = at (numbered n (docket_at w).begun) refl
    where
      vote : (m : Move) → Contains (docket_at w).begun m → m.n ≡ n → (z : Option Cause2) → Contains w.packets (Vote n b z) → AllByRecursion Fits2 (on_vote w.heard m b z).adds
      vote m begun e (Some cause) t = let y = h.agrees.packets_true (Vote n b (Some cause)) t in (((begun-move m begun).0, had-fits y.0 b cause y.1.0 y.1.1 y.3), tt)
      vote m begun e None t = both (are_both (hears_yes m.n b w.heard).yes m)
        where
          both : (c : Bool) → AllByRecursion Fits2 (cond c (decides (hears_yes m.n b w.heard) m Yes) (waits (hears_yes m.n b w.heard))).adds
          both true = (((begun-move m begun).0, tt), tt)
          both false = tt

      ruled : (m : Move) → Contains (docket_at w).begun m → m.n ≡ n → (q : Option Ruling) → AllByRecursion Fits2 (on_vote_if w.heard q m b why).adds
      ruled m begun e None = vote m begun e why k
      ruled m begun e (Some r) = tt

      party : (m : Move) → Contains (docket_at w).begun m → m.n ≡ n → (c : Bool) → AllByRecursion Fits2 (cond c (on_vote_if w.heard (ruling_of (docket_at w) n) m b why) (waits w.heard)).adds
      party m begun e true = ruled m begun e (ruling_of (docket_at w) n)
      party m begun e false = tt

      at : (q : Option Move) → numbered n (docket_at w).begun ≡ q → AllByRecursion Fits2 (if_party b w.heard q (λ m. on_vote_if w.heard (ruling_of (docket_at w) n) m b why)).adds
      at None e = tt
      at (Some m) e = let z = numbered-has n (docket_at w).begun m e in party m z.0 (sym z.1) (is_party b m)

  -- a book ----------------------------------------------------------------------------------------

  book-fit : (b : ℕ) (x : BookState) (p : Packet2) → Contains w.packets p → AllByRecursion Fits2 (book_step b x p).adds
  book-fit b x p k = gets p (h.agrees.packets_true p k) (book_gets b x.values p)
    where
      ask : (m : Move) → Contains (docket_at w).begun m → (c r : Bool) (q : Option Cause2) → AllByRecursion Fits2 (cond c (answers (Done m.n b)) (cond r (answers (Vote m.n b None)) (votes b m q))).adds
      ask m begun true r q = tt
      ask m begun false true q = tt
      ask m begun false false (Some cause) = tt
      ask m begun false false None = (begun-move m begun, tt)

      ended : (n : ℕ) (agreed : Bool) → ((m : Move) × Contains (docket_at w).begun m × (m.n ≡ n)) → (c r : Bool) → AllByRecursion Fits2 (cond c (answers (Done n b)) (cond r (ends b n agreed) (on_unready n agreed))).adds
      ended n agreed z true r = tt
      ended n agreed z false true = (count z, tt)
        where
          count : ((m : Move) × Contains (docket_at w).begun m × (m.n ≡ n)) → Fits2 (records.Ended n agreed)
          count y = subst (λ i. (1 ≤ i) × (i ≤ GREATEST_NUMBER)) y.2 (begun-move y.0 y.1).0
      ended n true z false false = tt
      ended n false z false false = (subst (λ i. (1 ≤ i) × (i ≤ GREATEST_NUMBER)) z.2 (begun-move z.0 z.1).0, tt)

      serves : (p : Packet2) → IsTrueOf (docket_at w) (book_at books w) (HadCause books past) p → AllByRecursion Fits2 (book_serves b x p).adds
      serves (Ask c m) t = ask m t.0 (is_ended x m.n) (is_readied x m.n) (refusal b x m)
      serves (Verdict n c agreed) t = ended n agreed (t.0, t.1.0, t.2) (is_ended x n) (is_readied x n)
      serves (Vote n c why) t = tt
      serves (Done n c) t = tt

      gets : (p : Packet2) → IsTrueOf (docket_at w) (book_at books w) (HadCause books past) p → (g : Bool) → AllByRecursion Fits2 (cond g (book_serves b x p) silent).adds
      gets p t true = serves p t
      gets p t false = tt

  -- events ------------------------------------------------------------------------------------------

  delivery-fits : (c : ℕ) (p : Packet2) → Contains w.packets p → AllByRecursion Fits2 (does books w.heard c (log_at w c) (Hears p)).adds
  delivery-fits zero p k = hears-fit p k
  delivery-fits (suc b) p k = book-fit (suc b) (book_at books w (suc b)) p k

  resend-fits : (c : ℕ) → AllByRecursion Fits2 (does books w.heard c (log_at w c) Resends).adds
  resend-fits zero = tt
  resend-fits (suc b) = tt

  if-up : (y : Called) → AllByRecursion Fits2 (does books w.heard y.who (log_at w y.who) y.call).adds → AllByRecursion Fits2 (would_add books w y)
  if-up y f = at (is_up (site_at w y.who))
    where
      at : (c : Bool) → AllByRecursion Fits2 (cond c (does books w.heard y.who (log_at w y.who) y.call).adds [])
      at true = f
      at false = tt

  -- a move begins, with a number that passes no limit where the chief is up
  begin-fits : (m : Move) → m.n ≡ length (docket_at w).begun + 1 → is_lawful_for books m ≡ true → m.amount < 2 ^ 64 → (is_up (site_at w 0) ≡ true → m.n ≤ GREATEST_NUMBER) → AllByRecursion Fits2 (would_add books w (called 0 (Begins m)))
  begin-fits m e law amount low = at (is_up (site_at w 0)) refl
    where
      at : (c : Bool) → is_up (site_at w 0) ≡ c → AllByRecursion Fits2 (cond c (records.Begun m ∷ []) [])
      at false f = tt
      at true f = (move-fits books m o (omega (arith, e)) (low f) law amount, tt)

-- an event whose step passes no limit
module _ (books : Openings) (past : List World2) (p : SystemState2) (o : AreOpenings books) (h : Holds books past p.world) (logs : FitsLogs p.world) (bounded : AllBounded books past) where
  number-low : (y : Called) (m : Move) → y.call ≡ Begins m → is_call_full2 books p y ≡ false → is_up (site_at p.world y.who) ≡ true → m.n ≤ GREATEST_NUMBER
  number-low y m is full up = not-lt GREATEST_NUMBER m.n (ap is_past_number (sym is) ∙ first (is_past_number y.call) room (sym (ap (λ z. z && (is_past_number y.call || room)) up) ∙ full))
    where
      room : Bool
      room = elim (size_in (file2_of p y.who)) [ None ↦ false | Some size ↦ has_no_room2 size (would_add books p.world y) ]

      first : (a b : Bool) → a || b ≡ false → a ≡ false
      first false b e = refl
      first true b e = e

  packet-there : (i : ℕ) (q : Packet2) → packet_at p.world i ≡ Some q → Contains p.world.packets q
  packet-there i q e = put-out p.world i q e

  delivers-fit : (q : Option Packet2) → ((z : Packet2) → q ≡ Some z → Contains p.world.packets z) → AllByRecursion Fits2 (elim (option_map delivery_of q) as (λ z. List Record2) [ None ↦ [] | Some y ↦ would_add books p.world y ])
  delivers-fit None k = tt
  delivers-fit (Some z) k = if-up books past p.world o h logs bounded (delivery_of z) (delivery-fits books past p.world o h logs bounded (receiver_of z) z (k z refl))

  pub event_fits : (what : What2) → is_line books what ≡ true → is_full2 books p what ≡ false → AllByRecursion Fits2 (forces books p.world what)
  event_fits (whats.Move from source to target amount) line full =
      begin-fits books past p.world o h logs bounded (next_move (log_at p.world 0) from source to target amount) refl (front _ _ line) (lt-of amount (2 ^ 64) (back _ _ line))
      (number-low (called 0 (Begins (next_move (log_at p.world 0) from source to target amount))) (next_move (log_at p.world 0) from source to target amount) refl full)
  event_fits (whats.Deliver from to) line full = at (oldest_of p.world from to)
    where
      at : (i : Option ℕ) → AllByRecursion Fits2 (elim (option_map delivery_of (option_and_then (packet_at p.world) i)) as (λ z. List Record2) [ None ↦ [] | Some y ↦ would_add books p.world y ])
      at None = tt
      at (Some i) = delivers-fit (packet_at p.world i) (λ z e. packet-there i z e)
  event_fits (whats.Packet i) line full = delivers-fit (packet_at p.world i) (λ z e. packet-there i z e)
  event_fits (whats.Resend c) line full = if-up books past p.world o h logs bounded (called c Resends) (resend-fits books past p.world o h logs bounded c)
  event_fits (whats.Lose from to) line full = tt
  event_fits (whats.Crash c) line full = tt
  event_fits (whats.Recover c) line full = tt
