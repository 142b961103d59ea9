-- A step of a Tcom is made of the moves.
use Rattle.std.proofs.Common.{◌≡◌, ◌≢◌, refl, ◌∙◌, ap, sym, subst, ℕ, zero, suc, ◌+◌, ◌<◌, ◌≤◌, max, Bool, true, false, cond, not, ◌&&◌, ◌==◌, List, [], ◌∷◌, ◌++◌, length, map, slice_get, ℤ, Option, Some, None, arith, ◌⊎◌, inl, inr}
use Rattle.std.specs.Prelude.{Contains, nat_lt}
use Rattle.std.specs.List.{list_any}
use Rattle.std.proofs.lemmas.List.Elements.{Contains-push, Contains-push_cases}
use Rattle.std.proofs.lemmas.Option.{same_Some}
use Rattle.ic_base.specs.declared.messages.ComId.{ComId}
use Rattle.ic_base.specs.declared.messages.Session.{Session}
use Rattle.ic_base.specs.declared.messages.Request.{Request}
use Rattle.ic_base.specs.declared.messages.AbortCause.TheVariants.{Held, Epoch as Epochs}
use Rattle.ic_base.specs.declared.messages.Decision.TheVariants.{Aborted}
use Rattle.ic_base.specs.declared.messages.Packet.{Packet}
use Rattle.ic_base.specs.declared.messages.Packet.TheVariants.{Op, OpReply, Commit, Drop}
use Rattle.ic_base.specs.declared.scenario.Component.{Component}
use Rattle.ic_base.specs.declared.scenario.Program.{Program}
use Rattle.ic_base.specs.Programs.{same_com, declares, has_key}
use Rattle.def_play.specs.Ledger.{answers_on}
use Rattle.def_step.specs.Packets.{key_of}
use Rattle.def_step.specs.Tcom.{Tcom, Sitting, Book, decided_at, least_of, sits_for, holder, is_below, without_below, serves_from, on_drop, silent, held_by, replaced, opened_sitting, opens, of_old_epoch, done, first_ledger, answer_to}
use Rattle.def_facts.specs.Logs.{epoch_of, decisions_on}
use Rattle.def_facts.specs.Tcom.{SittingFacts, LeastIsTold, TcomStateFacts}
use Rattle.law_tcom.proofs.Lists.{not-found}
use Rattle.law_tcom.proofs.Ledgers.{answers_extend}
use Rattle.law_tcom.proofs.Books.{books_are_of_logs, decision-in, undecided-none}
use Rattle.law_tcom.proofs.Moves.{IsOther, sits-own, sits-not, fewer, served-from, seated}
use Rattle.law_tcom.proofs.StepFacts.{Kept, After, stays, tells, answers}
use Rattle.law_replay.proofs.Lists.{self-number as self, clash, both-true, empty, not-true, none-some, head-or-tail}
use Rattle.law_replay.proofs.Members.{filter-has, contains_any, map-in}

-- cases -------------------------------------------------------------------------------------------

-- another session holds the key
pub held : (known : Bool) (program : Program) (t : ComId) (old : ℕ) (x : Tcom) (sent received : List Packet) (c : ComId) (n place : ℕ) (session : Option Session) (q : Request) (s : Sitting) →
    Contains received (Op c t n place session q) → Kept known program t old x sent received → After known program t old sent received (held_by t c n place session x s)
held known program t old x sent received c n place session q s got k = tells known program t old x sent received c n place session (Aborted (Held s.peer s.n)) (λ z. (q, got)) k

-- the session is of another epoch
pub old-epoch : (known : Bool) (program : Program) (t : ComId) (old : ℕ) (x : Tcom) (sent received : List Packet) (c : ComId) (n place : ℕ) (session : Session) →
    (((q : Request) × Contains received (Op c t n place (Some session) q)) ⊎ ((at : ℕ) × Contains received (Commit c t n place session at))) → (session.epoch == x.book.epoch) ≡ false → decided_at x.book c n ≡ None →
    Kept known program t old x sent received → After known program t old sent received (of_old_epoch t c n place session x)
old-epoch known program t old x sent received c n place session got differ free k =
    tells known program t old x sent received c n place (Some session) (Aborted (Epochs session.epoch x.book.epoch))
    (λ z. (
      session,
      refl,
      refl,
      apart,
      below (books_are_of_logs program t x.records x.book k.state.books).epoch,
      got,
      λ pre post stamp writes st. undecided-none program t x.records x.book c n stamp k.state.books free (subst (λ l. Contains (decisions_on l c n) stamp) (sym st) (decision-in pre post stamp c n writes)),
    )) k
  where
    apart : session.epoch ≢ x.book.epoch
    apart e = clash (x.book.epoch == x.book.epoch) (self x.book.epoch) (subst (λ i. (i == x.book.epoch) ≡ false) e differ)

    below : x.book.epoch ≡ epoch_of x.records → x.book.epoch ≤ epoch_of x.records
    below e = omega (arith, e)

pub long-map : {A : Type 0} (f : A → ℤ) (xs : List A) → length (map f xs) ≡ length xs
long-map f [] = refl
long-map f (y ∷ ys) = ap suc (long-map f ys)

-- a declared key is within the ledger
pub key-within : (program : Program) (t : ComId) (b : Book) (key : ℕ) → length b.ledger ≡ length (first_ledger (slice_get program.components t.0)) → has_key program t key ≡ true → key < length b.ledger
key-within program t b key e is = at (slice_get program.components t.0) e is
  where
    at : (o : Option Component) → length b.ledger ≡ length (first_ledger o) → declares (λ d. nat_lt key (length d.keys)) o ≡ true → key < length b.ledger
    at None f g = clash false g refl
    at (Some d) f g = let l : key < length d.keys = grind arith in omega (arith, l, f, long-map (λ k. k.1) d.keys)

-- the key isn't another session's
pub free-key : (x : Tcom) (c : ComId) (n key : ℕ) (r : Sitting) → holder x c n key ≡ None → Contains x.sittings r → sits_for c n r ≡ false → Contains r.keys key → ⊥
free-key x c n key r none there other has =
    clash (list_any (λ k. k == key) r.keys && not (sits_for c n r)) (both-true _ _ (contains_any (λ k. k == key) r.keys key has (self key)) (ap not other)) (not-found (λ s. list_any (λ k. k == key) s.keys && not (sits_for c n s)) x.sittings r none there)

-- c's sessions below n end, and its least number served is one of which each session that is left is
pub served-above : (program : Program) (t : ComId) (x : Tcom) (sent received : List Packet) (c : ComId) (n least : ℕ) → LeastIsTold t received c least → least_of x c ≤ least → ((s : Sitting) → Contains x.sittings s → s.peer ≡ c → n ≤ s.n → least ≡ s.n) →
    TcomStateFacts program t x sent received → TcomStateFacts program t (serves_from (without_below x c n) c least) sent received
served-above program t x sent received c n least told grows own f =
    served-from program t (without_below x c n) sent received c least told grows (λ s h same. let z = filter-has (λ r. not (is_below c n r)) x.sittings s h in own s z.0 same (at-least s same (not-true (is_below c n s) z.1)))
    (fewer program t x sent received (λ r. not (is_below c n r)) f)
  where
    at-least : (s : Sitting) → s.peer ≡ c → is_below c n s ≡ false → n ≤ s.n
    at-least s same e = by (nat_lt s.n n) refl (sym (ap (λ v. v && nat_lt s.n n) (ap (λ (z : ComId). same_com c z) same ∙ self c.0)) ∙ e)
      where
        by : (b : Bool) → nat_lt s.n n ≡ b → b ≡ false → n ≤ s.n
        by true is f = clash true refl f
        by false is f = grind arith

-- a Drop
pub on-drop : (known : Bool) (program : Program) (t : ComId) (old : ℕ) (x : Tcom) (sent received : List Packet) (c : ComId) (n : ℕ) → Contains received (Drop c t n) → Kept known program t old x sent received → After known program t old sent received (silent (on_drop x c n))
on-drop known program t old x sent received c n got k = stays known program t old (on_drop x c n) sent received (record {
  within = k.within;
  state = served-above program t x sent received c (n + 1) (max (least_of x c) (n + 1)) (told (nat_lt (least_of x c) (n + 1)) refl) (grown (least_of x c))
      (λ s h same le. both s (subst (λ d. least_of x d ≡ s.n) same (k.state.sessions s h).is_served) le) k.state;
  log = k.log;
})
  where
    grown : (a : ℕ) → a ≤ max a (n + 1)
    grown a = omega arith

    both : (s : Sitting) → least_of x c ≡ s.n → n + 1 ≤ s.n → max (least_of x c) (n + 1) ≡ s.n
    both s a b = omega (arith, a, b)

    told : (b : Bool) → nat_lt (least_of x c) (n + 1) ≡ b → LeastIsTold t received c (max (least_of x c) (n + 1))
    told true is = let up : max (least_of x c) (n + 1) ≡ n + 1 = grind arith in subst (LeastIsTold t received c) (sym up) (inr (inr (inl (n, refl, got))))
    told false is = let stay : least_of x c ≡ max (least_of x c) (n + 1) = grind arith in subst (LeastIsTold t received c) stay (k.state.least_told c)

-- a session is opened
pub opened : (known : Bool) (program : Program) (t : ComId) (old : ℕ) (x : Tcom) (sent received : List Packet) (c : ComId) (n : ℕ) (q : Request) →
    Contains received (Op c t n 0 None q) → has_key program t (key_of q) ≡ true → decided_at x.book c n ≡ None → least_of x c ≡ n →
    ((r : Sitting) → Contains x.sittings r → sits_for c n r ≡ false) → holder x c n (key_of q) ≡ None →
    Kept known program t old x sent received → After known program t old sent received (opens t x (done x.book.ledger (opened_sitting x c n) q))
opened known program t old x sent received c n q got declared free least none unheld k =
    answers known program t old (record x { counter = x.counter + 1; sittings = x.sittings ++ done x.book.ledger (opened_sitting x c n) q ∷ [] }) sent received (done x.book.ledger (opened_sitting x c n) q) 0
    (Contains-push x.sittings (done x.book.ledger (opened_sitting x c n) q)) (omega arith)
    (record {
      within = k.within;
      state = seated program t x sent received (x.counter + 1) (x.sittings ++ done x.book.ledger (opened_sitting x c n) q ∷ []) (done x.book.ledger (opened_sitting x c n) q)
          (omega arith)
          (λ r h. each r (Contains-push_cases x.sittings (done x.book.ledger (opened_sitting x c n) q) r h))
          (λ r key h other a b. apart r key h a (head-or-tail (key_of q) key [] b))
          (λ r h other e. let z = (k.state.sessions r h).was_given in over r (ap (λ (w : Session). w.counter) e) z)
          (λ key h. known-key key (head-or-tail (key_of q) key [] h))
          (λ d m i v h. never d m i v h)
          new k.state;
      log = k.log;
    })
  where
    each : (r : Sitting) → Contains x.sittings r ⊎ (done x.book.ledger (opened_sitting x c n) q ≡ r) → (r ≡ done x.book.ledger (opened_sitting x c n) q) ⊎ (Contains x.sittings r × IsOther (done x.book.ledger (opened_sitting x c n) q) r)
    each r (inl h) = inr (h, sits-not c n r (none r h))
    each r (inr e) = inl (sym e)

    apart : (r : Sitting) (key : ℕ) → Contains x.sittings r → Contains r.keys key → (key_of q ≡ key) ⊎ Contains [] key → ⊥
    apart r key h a (inl e) = free-key x c n (key_of q) r unheld h (none r h) (subst (Contains r.keys) (sym e) a)
    apart r key h a (inr b) = empty key b

    over : (r : Sitting) → r.session.counter ≡ x.counter + 1 → r.session.counter ≤ x.counter → ⊥
    over r e le = omega (arith, e, le)

    known-key : (key : ℕ) → (key_of q ≡ key) ⊎ Contains [] key → has_key program t key ≡ true
    known-key key (inl e) = subst (λ z. has_key program t z ≡ true) e declared
    known-key key (inr b) = empty key b

    never : {B : Type 0} (d : ComId) (m i : ℕ) (v : ℤ) → Contains sent (OpReply t d m i (record { epoch = x.book.epoch; counter = x.counter + 1 }) v) → B
    never d m i v h = let z : x.counter + 1 ≤ x.counter = k.state.reply_counter d m i (record { epoch = x.book.epoch; counter = x.counter + 1 }) v h refl in absurd (omega (arith, z))

    within : key_of q < length x.book.ledger
    within = key-within program t x.book (key_of q) (books_are_of_logs program t x.records x.book k.state.books).keeps_length declared

    one : answers_on x.book.ledger (q ∷ []) ≡ (done x.book.ledger (opened_sitting x c n) q).answers
    one = sym (answers_extend x.book.ledger (opened_sitting x c n) [] q refl refl within).0

    asked : (i : ℕ) (w : Request) → slice_get (q ∷ []) i ≡ Some w → (s : Option Session) × (0 < i → s ≡ Some (record { epoch = x.book.epoch; counter = x.counter + 1 })) × Contains received (Op c t n i s w)
    asked zero w e = (None, (λ lt. absurd (omega (arith, lt))), subst (λ z. Contains received (Op c t n 0 None z)) (same_Some q w e) got)
    asked (suc i) w e = none-some w e

    new : SittingFacts t (record x { counter = x.counter + 1; sittings = x.sittings ++ done x.book.ledger (opened_sitting x c n) q ∷ [] }) sent received (done x.book.ledger (opened_sitting x c n) q)
    new = record {
      has_answer = omega arith;
      in_epoch = refl;
      was_given = omega arith;
      undecided = free;
      is_served = least;
      requests = q ∷ [];
      few = omega arith;
      requests_received = asked;
      answers_are = sym one;
      writes_are = (answers_extend x.book.ledger (opened_sitting x c n) [] q refl refl within).1;
      keys_are = refl;
      replies_are = λ i v h. never c n i v h;
    }

-- a session of n itself isn't below n
pub kept-still : (c : ComId) (n : ℕ) (s : Sitting) → n ≡ s.n → is_below c n s ≡ false
kept-still c n s e = at (same_com c s.peer) (nat_lt s.n n) refl
  where
    at : (a b : Bool) → nat_lt s.n n ≡ b → a && b ≡ false
    at true true is = absurd (above is)
      where
        above : nat_lt s.n n ≡ true → ⊥
        above f = grind (arith, e)
    at true false is = refl
    at false b is = refl

pub pushed : {A : Type 0} (xs : List A) (a : A) → length (xs ++ a ∷ []) ≡ length xs + 1
pushed [] a = refl
pushed (y ∷ zs) a = let e = pushed zs a in omega (arith, e)

-- the session behind a request that was done, which has an answer more
pub done-longer : (l : List ℤ) (s : Sitting) (q : Request) → length s.answers < length (done l s q).answers
done-longer l s q = let e = pushed s.answers (answer_to l s q) in omega (arith, e)

pub done-there : (x : Tcom) (s : Sitting) (q : Request) → Contains x.sittings s → Contains (replaced x (done x.book.ledger s q)).sittings (done x.book.ledger s q)
done-there x s q there =
    subst (Contains (map (λ r. cond (sits_for s.peer s.n r) (done x.book.ledger s q) r) x.sittings)) (ap (λ b. cond b (done x.book.ledger s q) s) (sits-own s))
    (map-in (λ r. cond (sits_for s.peer s.n r) (done x.book.ledger s q) r) x.sittings s there)

-- the next request of a session is done
