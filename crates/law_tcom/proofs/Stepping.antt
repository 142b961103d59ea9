-- A step of a Tcom is made of the moves.
use Rattle.std.proofs.Common.{◌≡◌, refl, ◌∙◌, ap, sym, subst, ℕ, zero, suc, ◌+◌, ◌<◌, ◌≤◌, max, Bool, true, false, cond, not, ◌&&◌, List, [], ◌∷◌, ◌++◌, length, map, filter, slice_get, ℤ, Option, Some, None, is_none, arith, ◌⊎◌, inl, inr}
use Rattle.std.specs.Prelude.{Contains, nat_lt}
use Rattle.std.specs.List.{list_all}
use Rattle.std.proofs.lemmas.List.Elements.{Contains-append_left, Contains-push, Contains-push_cases}
use Rattle.std.proofs.lemmas.Option.{same_Some}
use Rattle.ic_base.specs.declared.limits.TheConstants.{REQUESTS}
use Rattle.ic_base.specs.declared.messages.ComId.{ComId}
use Rattle.ic_base.specs.declared.messages.Session.{Session}
use Rattle.ic_base.specs.declared.messages.Request.{Request}
use Rattle.ic_base.specs.declared.messages.Decision.TheVariants.{Committed}
use Rattle.ic_base.specs.declared.messages.Packet.{Packet}
use Rattle.ic_base.specs.declared.messages.Packet.TheVariants.{Op, Commit, Drop}
use Rattle.ic_base.specs.declared.scenario.Program.{Program}
use Rattle.ic_base.specs.declared.record.Record.{Record}
use Rattle.ic_base.specs.declared.record.Record.TheVariants.{Decided}
use Rattle.ic_base.specs.Programs.{is_a_pcom, has_key}
use Rattle.def_play.specs.Ledger.{answers_on, puts_of, ledger_after}
use Rattle.def_step.specs.Packets.{key_of, receiver_of}
use Rattle.def_step.specs.Tcom.{Tcom, Sitting, booked, book_fits, decided_at, least_of, sits_for, holder, is_below, without, answers_with, reply_at, replaced, tcom_step, done, answer_to}
use Rattle.def_facts.specs.Tcom.{DecidedFacts, SittingFacts}
use Rattle.law_tcom.proofs.Lists.{not-found, all-from}
use Rattle.law_tcom.proofs.Ledgers.{answers_extend, writes_are_on_keys}
use Rattle.law_tcom.proofs.Books.{books_are_of_logs, decision-in, decided-in}
use Rattle.law_tcom.proofs.Moves.{IsOther, sits-is, sits-not, least-own, more-comes, fewer, seated}
use Rattle.law_tcom.specs.Engine.{Asks}
use Rattle.law_tcom.proofs.Leaves.{lower, step-leaves}
use Rattle.law_tcom.proofs.Logs.{log-receives, log-grows}
use Rattle.law_tcom.proofs.Entering.{entered}
use Rattle.law_tcom.proofs.StepFacts.{Kept, After, stays, tells, answers}
use Rattle.law_tcom.proofs.Serving.{held, old-epoch, key-within, free-key, served-above, on-drop, opened, kept-still, pushed, done-longer, done-there}
use Rattle.law_replay.proofs.Lists.{both-true, not-true, none-some}
use Rattle.law_replay.proofs.Members.{map-has, filter-has, filter-in, found}

next-done : (known : Bool) (program : Program) (t : ComId) (old : ℕ) (x : Tcom) (sent received : List Packet) (s : Sitting) (q : Request) →
    Contains x.sittings s → Contains received (Op s.peer t s.n (length s.answers) (Some s.session) q) → length s.answers < REQUESTS → has_key program t (key_of q) ≡ true → holder x s.peer s.n (key_of q) ≡ None →
    Kept known program t old x sent received → After known program t old sent received (answers_with (replaced x (done x.book.ledger s q)) (reply_at t (done x.book.ledger s q) (length s.answers)))
next-done known program t old x sent received s q there got small declared unheld k =
    answers known program t old (replaced x (done x.book.ledger s q)) sent received (done x.book.ledger s q) (length s.answers)
    (done-there x s q there) (done-longer x.book.ledger s q)
    (record {
      within = k.within;
      state = seated program t x sent received x.counter ys (done x.book.ledger s q) (omega arith)
          (λ r h. let z = map-has (λ w. cond (sits_for s.peer s.n w) (done x.book.ledger s q) w) x.sittings r h in each r z.0 z.1 (sits_for s.peer s.n z.0) refl z.2)
          (λ r key h other a b. apart r key h other a (Contains-push_cases s.keys (key_of q) key b))
          (λ r h other e. let same : r ≡ s = k.state.own_numbers r s h there e in other (ap (λ (w : Sitting). w.peer) same) (ap (λ (w : Sitting). w.n) same))
          (λ key h. known-key key (Contains-push_cases s.keys (key_of q) key h))
          (λ d m i v h. k.state.reply_sitting s d m i v there h)
          new k.state;
      log = k.log;
    })
  where
    ys : List Sitting
    ys = map (λ r. cond (sits_for s.peer s.n r) (done x.book.ledger s q) r) x.sittings

    f : SittingFacts t x sent received s
    f = k.state.sessions s there

    each : (r w : Sitting) → Contains x.sittings w → (b : Bool) → sits_for s.peer s.n w ≡ b → cond b (done x.book.ledger s q) w ≡ r → (r ≡ done x.book.ledger s q) ⊎ (Contains x.sittings r × IsOther (done x.book.ledger s q) r)
    each r w h true is e = inl (sym e)
    each r w h false is e = inr (subst (Contains x.sittings) e h, sits-not s.peer s.n r (ap (sits_for s.peer s.n) (sym e) ∙ is))

    apart : (r : Sitting) (key : ℕ) → Contains x.sittings r → (r.peer ≡ s.peer → r.n ≡ s.n → ⊥) → Contains r.keys key → Contains s.keys key ⊎ (key_of q ≡ key) → ⊥
    apart r key h other a (inl b) = let same : r ≡ s = k.state.one_holder r s key h there a b in other (ap (λ (w : Sitting). w.peer) same) (ap (λ (w : Sitting). w.n) same)
    apart r key h other a (inr e) = free-key x s.peer s.n (key_of q) r unheld h (differs (sits_for s.peer s.n r) refl) (subst (Contains r.keys) (sym e) a)
      where
        differs : (b : Bool) → sits_for s.peer s.n r ≡ b → sits_for s.peer s.n r ≡ false
        differs true is = let z = sits-is s.peer s.n r is in absurd (other (sym z.0) (sym z.1))
        differs false is = is

    known-key : (key : ℕ) → Contains s.keys key ⊎ (key_of q ≡ key) → has_key program t key ≡ true
    known-key key (inl h) = k.state.declared s key there h
    known-key key (inr e) = subst (λ z. has_key program t z ≡ true) e declared

    within : key_of q < length x.book.ledger
    within = key-within program t x.book (key_of q) (books_are_of_logs program t x.records x.book k.state.books).keeps_length declared

    more : ((done x.book.ledger s q).answers ≡ answers_on x.book.ledger (f.requests ++ q ∷ [])) × ((done x.book.ledger s q).writes ≡ puts_of (f.requests ++ q ∷ []))
    more = answers_extend x.book.ledger s f.requests q f.answers_are f.writes_are within

    long-answers : (l : List ℤ) (qs : List Request) → length (answers_on l qs) ≡ length qs
    long-answers l [] = refl
    long-answers l (w ∷ qs) = ap suc (long-answers (ledger_after l w) qs)

    as-many : length s.answers ≡ length f.requests
    as-many = ap length f.answers_are ∙ long-answers x.book.ledger f.requests

    last : (qs : List Request) (i : ℕ) (w : Request) → slice_get (qs ++ q ∷ []) i ≡ Some w → (slice_get qs i ≡ Some w) ⊎ ((i ≡ length qs) × (q ≡ w))
    last [] zero w e = inr (refl, same_Some q w e)
    last [] (suc i) w e = none-some w e
    last (y ∷ qs) zero w e = inl e
    last (y ∷ qs) (suc i) w e = by (last qs i w e)
      where
        by : (slice_get qs i ≡ Some w) ⊎ ((i ≡ length qs) × (q ≡ w)) → (slice_get qs i ≡ Some w) ⊎ ((suc i ≡ suc (length qs)) × (q ≡ w))
        by (inl z) = inl z
        by (inr z) = inr (ap suc z.0, z.1)

    asked : (i : ℕ) (w : Request) → (slice_get f.requests i ≡ Some w) ⊎ ((i ≡ length f.requests) × (q ≡ w)) → (u : Option Session) × (0 < i → u ≡ Some s.session) × Contains received (Op s.peer t s.n i u w)
    asked i w (inl e) = f.requests_received i w e
    asked i w (inr e) = (Some s.session, (λ lt. refl), subst (λ z. Contains received (Op s.peer t s.n z (Some s.session) w)) (as-many ∙ sym e.0) (subst (λ z. Contains received (Op s.peer t s.n (length s.answers) (Some s.session) z)) e.1 got))

    mapped : (qs : List Request) → map key_of (qs ++ q ∷ []) ≡ map key_of qs ++ key_of q ∷ []
    mapped [] = refl
    mapped (y ∷ qs) = ap (λ l. key_of y ∷ l) (mapped qs)

    get-front : (xs : List ℤ) (a : ℤ) (i : ℕ) (v : ℤ) → slice_get xs i ≡ Some v → slice_get (xs ++ a ∷ []) i ≡ Some v
    get-front [] a i v e = none-some v e
    get-front (y ∷ zs) a zero v e = e
    get-front (y ∷ zs) a (suc i) v e = get-front zs a i v e

    new : SittingFacts t (record x { counter = x.counter; sittings = ys }) sent received (done x.book.ledger s q)
    new = record {
      has_answer = let z = f.has_answer in omega (arith, z, done-longer x.book.ledger s q);
      in_epoch = f.in_epoch;
      was_given = f.was_given;
      undecided = f.undecided;
      is_served = f.is_served;
      requests = f.requests ++ q ∷ [];
      few = let e = pushed f.requests q in omega (arith, e, as-many, small);
      requests_received = λ i w e. asked i w (last f.requests i w e);
      answers_are = more.0;
      writes_are = more.1;
      keys_are = ap (λ l. l ++ key_of q ∷ []) f.keys_are ∙ sym (mapped f.requests);
      replies_are = λ i v h. get-front s.answers (answer_to x.book.ledger s q) i v (f.replies_are i v h);
    }

-- a session is committed: its decision enters the log
pub committed : (known : Bool) (program : Program) (t : ComId) (old : ℕ) (x : Tcom) (sent received : List Packet) (s : Sitting) (place stamp : ℕ) →
    Contains x.sittings s → Contains received (Commit s.peer t s.n place s.session stamp) → is_a_pcom program s.peer ≡ true → Kept known program t old x sent received →
    Kept known program t old (record (without x s.peer s.n) { records = x.records ++ Decided (max x.book.clock stamp + 1) s.peer s.n s.writes ∷ []; book = booked x.book (Decided (max x.book.clock stamp + 1) s.peer s.n s.writes) }) sent received
committed known program t old x sent received s place stamp there got pcom k = record {
  within = let z = k.within in let e = pushed x.records (Decided now s.peer s.n s.writes) in omega (arith, z, e);
  state = entered program t (without x s.peer s.n) sent received s f.requests now f.keys_are f.writes_are fit f.is_served
      (λ r h. sits-not s.peer s.n r (not-true (sits_for s.peer s.n r) (was r h).1))
      (λ r key h a b. let same : r ≡ s = k.state.one_holder r s key (was r h).0 there a b in
      sits-not s.peer s.n r (not-true (sits_for s.peer s.n r) (was r h).1) (ap (λ (w : Sitting). w.peer) same) (ap (λ (w : Sitting). w.n) same))
      (fewer program t x sent received (λ r. not (sits_for s.peer s.n r)) k.state);
  log = λ z. log-grows program t old x.records x.book (Decided now s.peer s.n s.writes) sent received k.within k.state.books fit (λ a c n writes e. decided a c n writes e) (k.log z);
}
  where
    now : ℕ
    now = max x.book.clock stamp + 1

    f : SittingFacts t x sent received s
    f = k.state.sessions s there

    was : (r : Sitting) → Contains (filter (λ w. not (sits_for s.peer s.n w)) x.sittings) r → Contains x.sittings r × (not (sits_for s.peer s.n r) ≡ true)
    was r h = filter-has (λ w. not (sits_for s.peer s.n w)) x.sittings r h

    later : nat_lt x.book.clock (max x.book.clock stamp + 1) ≡ true
    later = grind arith

    above : stamp < max x.book.clock stamp + 1
    above = omega arith

    on-keys : (w : ℕ × ℤ) → Contains s.writes w → has_key program t w.0 ≡ true
    on-keys w h = k.state.declared s w.0 there (subst (λ (l : List ℕ). Contains l w.0) (sym f.keys_are) (writes_are_on_keys f.requests w (subst (λ (l : List (ℕ × ℤ)). Contains l w) f.writes_are h)))

    fit : book_fits program t x.book (Decided now s.peer s.n s.writes) ≡ true
    fit =
        both-true (nat_lt x.book.clock now) (is_none (decided_at x.book s.peer s.n) && (is_a_pcom program s.peer && list_all (λ w. has_key program t w.0) s.writes)) later
        (both-true (is_none (decided_at x.book s.peer s.n)) (is_a_pcom program s.peer && list_all (λ w. has_key program t w.0) s.writes) (ap is_none f.undecided)
        (both-true (is_a_pcom program s.peer) (list_all (λ w. has_key program t w.0) s.writes) pcom (all-from (λ (w : ℕ × ℤ). has_key program t w.0) s.writes on-keys)))

    mine : DecidedFacts t old sent received x.records x.book now s.peer s.n s.writes
    mine = record {
      place = place;
      session = s.session;
      asked_at = stamp;
      commit_received = got;
      stamp_above = λ z. above;
      in_epoch = λ z. f.in_epoch ∙ (books_are_of_logs program t x.records x.book k.state.books).epoch;
      requests = f.requests;
      few = f.few;
      requests_received = f.requests_received;
      writes_are = f.writes_are;
      replies_are = λ i v h. ap (λ l. slice_get l i) (sym f.answers_are) ∙ f.replies_are i v h;
    }

    decided : (a : ℕ) (c : ComId) (n : ℕ) (writes : List (ℕ × ℤ)) → Decided a c n writes ≡ Decided now s.peer s.n s.writes → DecidedFacts t old sent received x.records x.book a c n writes
    decided a c n writes e =
        subst (λ l. DecidedFacts t old sent received x.records x.book a c n l) (sym (ap writes_of e)) (subst (λ m. DecidedFacts t old sent received x.records x.book a c m s.writes) (sym (ap number_of e))
        (subst (λ d. DecidedFacts t old sent received x.records x.book a d s.n s.writes) (sym (ap peer_of e)) (subst (λ b. DecidedFacts t old sent received x.records x.book b s.peer s.n s.writes) (sym (ap stamp_of e)) mine)))
      where
        stamp_of : Record → ℕ
        stamp_of (Decided b d m l) = b
        stamp_of _ = 0

        peer_of : Record → ComId
        peer_of (Decided b d m l) = d
        peer_of _ = t

        number_of : Record → ℕ
        number_of (Decided b d m l) = m
        number_of _ = 0

        writes_of : Record → List (ℕ × ℤ)
        writes_of (Decided b d m l) = l
        writes_of _ = []

-- any packet
pub steps : (known : Bool) (program : Program) (t : ComId) (old : ℕ) (x : Tcom) (sent received : List Packet) (p : Packet) → receiver_of p ≡ t → Kept known program t old x sent received → After known program t old sent (received ++ p ∷ []) (tcom_step program t x p)
steps known program t old x sent received p here k = step-leaves program t x p (After known program t old sent (received ++ p ∷ [])) (record {
  quiet = stays known program t old x sent (received ++ p ∷ []) got;
  told = λ c n place session stamp asks e least. tells known program t old x sent (received ++ p ∷ []) c n place session (Committed stamp) (λ z. decided-in program t x.records x.book c n stamp k.state.books e) got;
  dropped = λ c to n e. on-drop known program t old x sent (received ++ p ∷ []) c n (dropped c to n e) got;
  first_again = λ c to n q s e least is. let z = found (sits_for c n) x.sittings s is in
      answers known program t old (lower x c n) sent (received ++ p ∷ []) s 0 (filter-in (λ r. not (is_below c n r)) x.sittings s z.0 (ap not (kept-still c n s (sits-is c n s z.1).1))) (k.state.sessions s z.0).has_answer (low c to n q e least);
  first_held = λ c to n q r e least is. held known program t old (lower x c n) sent (received ++ p ∷ []) c n 0 None q r (op c to n 0 None q e) (low c to n q e least);
  first_done = λ c to n q e least key free none unheld. opened known program t old (lower x c n) sent (received ++ p ∷ []) c n q (op c to n 0 None q e) key free (least-own x c n)
      (λ r h. not-found (sits_for c n) x.sittings r none (filter-has (λ s. not (is_below c n s)) x.sittings r h).0) unheld (low c to n q e least);
  again = λ to place q s e there lt. answers known program t old x sent (received ++ p ∷ []) s place there lt got;
  held = λ to place q s r e there is. held known program t old x sent (received ++ p ∷ []) s.peer s.n place (Some s.session) q r (op s.peer to s.n place (Some s.session) q e) got;
  next = λ to q s e there small key unheld. next-done known program t old x sent (received ++ p ∷ []) s q there (op s.peer to s.n (length s.answers) (Some s.session) q e) small key unheld got;
  older = λ c n place session asks differ free. old-epoch known program t old x sent (received ++ p ∷ []) c n place session (asked c n place session asks) differ free got;
  committed = λ to place stamp s e there pcom.
      tells known program t old (record (without x s.peer s.n) { records = x.records ++ Decided (max x.book.clock stamp + 1) s.peer s.n s.writes ∷ []; book = booked x.book (Decided (max x.book.clock stamp + 1) s.peer s.n s.writes) }) sent (received ++ p ∷ []) s.peer s.n place (Some s.session) (Committed (max x.book.clock stamp + 1))
      (λ y. decision-in x.records [] (max x.book.clock stamp + 1) s.peer s.n s.writes)
      (committed known program t old x sent (received ++ p ∷ []) s place stamp there (commit s.peer to s.n place s.session stamp e) pcom got);
})
  where
    got : Kept known program t old x sent (received ++ p ∷ [])
    got = record {
      within = k.within;
      state = more-comes program t x sent sent received (received ++ p ∷ []) (λ q h. Contains-append_left received (p ∷ []) q h) (λ c n i s v h. h) k.state;
      log = λ z. log-receives program t old x.records sent received (received ++ p ∷ []) (λ q h. Contains-append_left received (p ∷ []) q h) (k.log z);
    }

    -- what p is was received, and is to t
    op : (c to : ComId) (n place : ℕ) (session : Option Session) (q : Request) → p ≡ Op c to n place session q → Contains (received ++ p ∷ []) (Op c t n place session q)
    op c to n place session q e = subst (λ u. Contains (received ++ p ∷ []) (Op c u n place session q)) (ap receiver_of (sym e) ∙ here) (subst (Contains (received ++ p ∷ [])) e (Contains-push received p))

    commit : (c to : ComId) (n place : ℕ) (session : Session) (stamp : ℕ) → p ≡ Commit c to n place session stamp → Contains (received ++ p ∷ []) (Commit c t n place session stamp)
    commit c to n place session stamp e = subst (λ u. Contains (received ++ p ∷ []) (Commit c u n place session stamp)) (ap receiver_of (sym e) ∙ here) (subst (Contains (received ++ p ∷ [])) e (Contains-push received p))

    dropped : (c to : ComId) (n : ℕ) → p ≡ Drop c to n → Contains (received ++ p ∷ []) (Drop c t n)
    dropped c to n e = subst (λ u. Contains (received ++ p ∷ []) (Drop c u n)) (ap receiver_of (sym e) ∙ here) (subst (Contains (received ++ p ∷ [])) e (Contains-push received p))

    asked : (c : ComId) (n place : ℕ) (session : Session) → Asks p c n place (Some session) → ((q : Request) × Contains (received ++ p ∷ []) (Op c t n place (Some session) q)) ⊎ ((at : ℕ) × Contains (received ++ p ∷ []) (Commit c t n place session at))
    asked c n place session (inl z) = inl (z.1, op c z.0 n place (Some session) z.1 z.2)
    asked c n place session (inr z) = inr (z.2, subst (λ u. Contains (received ++ p ∷ []) (Commit c t n place u z.2)) (sym (same_Some session z.1 z.3)) (commit c z.0 n place z.1 z.2 z.4))

    -- at place 0 the lower sessions of c end first
    low : (c to : ComId) (n : ℕ) (q : Request) → p ≡ Op c to n 0 None q → least_of x c ≤ n → Kept known program t old (lower x c n) sent (received ++ p ∷ [])
    low c to n q e least = record {
      within = k.within;
      state = served-above program t x sent (received ++ p ∷ []) c n n (inr (inl (q, op c to n 0 None q e))) least (λ s h same le. itself s (subst (λ d. least_of x d ≡ s.n) same (k.state.sessions s h).is_served) le) got.state;
      log = got.log;
    }
      where
        itself : (s : Sitting) → least_of x c ≡ s.n → n ≤ s.n → n ≡ s.n
        itself s a b = omega (arith, least, a, b)
