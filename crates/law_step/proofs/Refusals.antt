-- Each abort that a Tcom puts out has its cause.
use Rattle.std.proofs.Common.{◌≡◌, refl, ◌∙◌, ap, subst, ℕ, ◌==◌, nat_lt, Bool, true, false, not, ◌&&◌, cond, [], ◌∷◌, length, Option, Some, None, inl, inr, ⊎_elim, arith}
use Rattle.std.specs.Prelude.{Contains, ⊤}
use Rattle.std.specs.List.{list_any}
use Rattle.std.proofs.lemmas.Bool.{and_parts}
use Rattle.ic_base.specs.declared.messages.ComId.{ComId}
use Rattle.ic_base.specs.declared.messages.AbortCause.TheVariants.{Held, Epoch as Epochs}
use Rattle.ic_base.specs.declared.messages.Decision.TheVariants.{Committed, Aborted}
use Rattle.ic_base.specs.declared.messages.Packet.{Packet}
use Rattle.ic_base.specs.declared.messages.Packet.TheVariants.{Data, Stable, Installed, Fetch, Op, OpReply, Commit, Outcome, Drop}
use Rattle.ic_base.specs.declared.messages.Request.{Request}
use Rattle.ic_base.specs.declared.messages.Session.{Session}
use Rattle.ic_base.specs.declared.scenario.Program.{Program}
use Rattle.ic_base.specs.Programs.{same_com}
use Rattle.def_state.specs.Names.{same_session}
use Rattle.def_step.specs.Packets.{key_of, fits_tcom}
use Rattle.def_step.specs.Tcom.{Tcom, Sitting, Served, silent, answers_with, reply_at, is_below, without_below, serves_from, least_of, on_drop, held_by, opens_unless, opens, opened_sitting, done, first_again, on_first, holder, sitting_of, sitting_in, sits_for, does_unless, on_later, replaced, on_commit, of_old_epoch, on_op, unless_decided, unless_below, decided_at, served, tcom_step}
use Rattle.law_replay.proofs.Lists.{empty, head-or-tail, same-com}
use Rattle.law_replay.proofs.Members.{found as there-is, filter-has}
use Rattle.law_step.specs.Causes.{AsksIn, IsCause}

-- an abort of t has its cause
abbrev pub Caused : ComId → Tcom → Packet → Packet → Type 0
Caused t x p (Outcome u c n place session (Aborted cause)) = (u ≡ t) × IsCause x p c n place session cause
Caused t x p _ = ⊤

AllCaused : ComId → Tcom → Packet → Served → Type 0
AllCaused t x p s = (u : Packet) → Contains s.puts u → Caused t x p u

none : (t : ComId) (x : Tcom) (p : Packet) (s : Served) → s.puts ≡ [] → AllCaused t x p s
unfolding AllCaused
none t x p s e u h = empty u (subst (λ l. Contains l u) e h)

one : (t : ComId) (x : Tcom) (p : Packet) (s : Served) (y : Packet) → s.puts ≡ y ∷ [] → Caused t x p y → AllCaused t x p s
unfolding AllCaused
one t x p s y e k u h = ⊎_elim (λ same. subst (Caused t x p) same k) (λ z. empty u z) (head-or-tail y u [] (subst (λ l. Contains l u) e h))

same-number : (m n : ℕ) → (m == n) ≡ true → m ≡ n
same-number m n e = grind (arith, e)

is-cond : (t : ComId) (x : Tcom) (p : Packet) (b : Bool) (r s : Served) → (b ≡ true → AllCaused t x p r) → (b ≡ false → AllCaused t x p s) → AllCaused t x p (cond b r s)
is-cond t x p true r s f g = f refl
is-cond t x p false r s f g = g refl

-- of a packet of c, whose transaction n asks for something in a session of another epoch
old-epoch : (t : ComId) (x : Tcom) (p : Packet) (c : ComId) (n place : ℕ) (session : Session) → AsksIn p c n place session → (session.epoch == x.book.epoch) ≡ false → AllCaused t x p (of_old_epoch t c n place session x)
old-epoch t x p c n place session asks apart = one t x p (of_old_epoch t c n place session x) (Outcome t c n place (Some session) (Aborted (Epochs session.epoch x.book.epoch))) refl (refl, (session, refl, refl, refl, apart, asks))

-- another session holds the key
held-key : (x y : Tcom) (p : Packet) (c t : ComId) (n at place : ℕ) (session : Option Session) (q : Request) (s : Sitting) → p ≡ Op c t n at session q → ((r : Sitting) → Contains y.sittings r → Contains x.sittings r) → holder y c n (key_of q) ≡ Some s → IsCause x p c n place session (Held s.peer s.n)
held-key x y p c t n at place session q s is part e =
    let z = there-is (λ r. list_any (λ k. k == key_of q) r.keys && not (sits_for c n r)) y.sittings s e in
    let both = and_parts (list_any (λ k. k == key_of q) s.keys) (not (sits_for c n s)) z.1 in
    (t, at, q, is, s, part s z.0, refl, refl, not-true (sits_for c n s) both.1, both.0)
  where
    not-true : (b : Bool) → not b ≡ true → b ≡ false
    not-true true f = absurd (cc f)
    not-true false f = refl

first-caused : (t : ComId) (x : Tcom) (c to : ComId) (n place : ℕ) (q : Request) → AllCaused t x (Op c to n place None q) (on_first t c n q x)
first-caused t x c to n place q = again (sitting_of x c n)
  where
    y : Tcom
    y = without_below (serves_from x c n) c n

    part : (r : Sitting) → Contains y.sittings r → Contains x.sittings r
    part r h = (filter-has (λ s. not (is_below c n s)) x.sittings r h).0

    unless : (o : Option Sitting) → holder y c n (key_of q) ≡ o → AllCaused t x (Op c to n place None q) (opens_unless t c n q y o)
    unless None e = one t x (Op c to n place None q) (opens t y (done y.book.ledger (opened_sitting y c n) q)) (reply_at t (done y.book.ledger (opened_sitting y c n) q) 0) refl tt
    unless (Some s) e = one t x (Op c to n place None q) (held_by t c n 0 None y s) (Outcome t c n 0 None (Aborted (Held s.peer s.n))) refl (refl, held-key x y (Op c to n place None q) c to n place 0 None q s refl part e)

    again : (o : Option Sitting) → AllCaused t x (Op c to n place None q) (first_again t c n q y o)
    again None = unless (holder y c n (key_of q)) refl
    again (Some s) = one t x (Op c to n place None q) (answers_with y (reply_at t s 0)) (reply_at t s 0) refl tt

later-caused : (t : ComId) (x : Tcom) (c to : ComId) (n place : ℕ) (session : Session) (q : Request) → AllCaused t x (Op c to n place (Some session) q) (on_later t place session q x (sitting_in x session c n))
later-caused t x c to n place session q = at (sitting_in x session c n) refl
  where
    p : Packet
    p = Op c to n place (Some session) q

    unless : (s : Sitting) → c ≡ s.peer → n ≡ s.n → (o : Option Sitting) → holder x s.peer s.n (key_of q) ≡ o → AllCaused t x p (does_unless t place session q x s o)
    unless s is nth None e = one t x p (answers_with (replaced x (done x.book.ledger s q)) (reply_at t (done x.book.ledger s q) place)) (reply_at t (done x.book.ledger s q) place) refl tt
    unless s is nth (Some r) e = one t x p (held_by t s.peer s.n place (Some session) x r) (Outcome t s.peer s.n place (Some session) (Aborted (Held r.peer r.n))) refl
        (refl, held-key x x p s.peer to s.n place place (Some session) q r (ap (λ d. Op d to n place (Some session) q) is ∙ ap (λ m. Op s.peer to m place (Some session) q) nth) (λ z h. h) e)

    at : (o : Option Sitting) → sitting_in x session c n ≡ o → AllCaused t x p (on_later t place session q x o)
    at None e = none t x p (silent x) refl
    at (Some s) e =
        let z = there-is (λ r. same_session session r.session && sits_for c n r) x.sittings s e in
        let sits = and_parts (same_com c s.peer) (n == s.n) (and_parts (same_session session s.session) (sits_for c n s) z.1).1 in
        is-cond t x p (nat_lt place (length s.answers)) (answers_with x (reply_at t s place)) (cond (place == length s.answers) (does_unless t place session q x s (holder x s.peer s.n (key_of q))) (silent x))
        (λ b. one t x p (answers_with x (reply_at t s place)) (reply_at t s place) refl tt)
        (λ b. is-cond t x p (place == length s.answers) (does_unless t place session q x s (holder x s.peer s.n (key_of q))) (silent x)
        (λ k. unless s (same-com c s.peer sits.0) (same-number n s.n sits.1) (holder x s.peer s.n (key_of q)) refl)
        (λ k. none t x p (silent x) refl))

undecided : (t : ComId) (x : Tcom) (p : Packet) (c : ComId) (n place : ℕ) (session : Option Session) (o : Option ℕ) (other : Served) → AllCaused t x p other → AllCaused t x p (unless_below c n x (unless_decided t c n place session x o other))
undecided t x p c n place session o other k = is-cond t x p (nat_lt n (least_of x c)) (silent x) (unless_decided t c n place session x o other) (λ b. none t x p (silent x) refl) (λ b. at o)
  where
    at : (stamp : Option ℕ) → AllCaused t x p (unless_decided t c n place session x stamp other)
    at (Some stamp) = one t x p (answers_with x (Outcome t c n place session (Committed stamp))) (Outcome t c n place session (Committed stamp)) refl tt
    at None = k

served-caused : (t : ComId) (x : Tcom) (p : Packet) → AllCaused t x p (served t x p)
served-caused t x (Op from to n place None q) = undecided t x (Op from to n place None q) from n place None (decided_at x.book from n) (on_first t from n q x) (first-caused t x from to n place q)
served-caused t x (Op from to n place (Some session) q) =
    let p = Op from to n place (Some session) q in
    undecided t x p from n place (Some session) (decided_at x.book from n) (on_op t from n place (Some session) q x)
    (is-cond t x p (session.epoch == x.book.epoch) (on_later t place session q x (sitting_in x session from n)) (of_old_epoch t from n place session x)
    (λ b. later-caused t x from to n place session q)
    (λ b. old-epoch t x p from n place session (inl (to, q, refl)) b))
served-caused t x (Commit from to n place session stamp) =
    let p = Commit from to n place session stamp in
    undecided t x p from n place (Some session) (decided_at x.book from n) (cond (session.epoch == x.book.epoch) (on_commit t place stamp session x (sitting_in x session from n)) (of_old_epoch t from n place session x))
    (is-cond t x p (session.epoch == x.book.epoch) (on_commit t place stamp session x (sitting_in x session from n)) (of_old_epoch t from n place session x)
    (λ b. commits (sitting_in x session from n))
    (λ b. old-epoch t x p from n place session (inr (to, stamp, refl)) b))
  where
    commits : (o : Option Sitting) → AllCaused t x (Commit from to n place session stamp) (on_commit t place stamp session x o)
    commits None = none t x (Commit from to n place session stamp) (silent x) refl
    commits (Some s) = one t x (Commit from to n place session stamp) (on_commit t place stamp session x (Some s)) _ refl tt
served-caused t x (Drop from to n) = none t x (Drop from to n) (silent (on_drop x from n)) refl
served-caused t x (Data m) = none t x (Data m) (silent x) refl
served-caused t x (Stable from to k) = none t x (Stable from to k) (silent x) refl
served-caused t x (Installed from to k) = none t x (Installed from to k) (silent x) refl
served-caused t x (Fetch from to k) = none t x (Fetch from to k) (silent x) refl
served-caused t x (OpReply from to n place session value) = none t x (OpReply from to n place session value) (silent x) refl
served-caused t x (Outcome from to n place session d) = none t x (Outcome from to n place session d) (silent x) refl

pub tcom-caused : (program : Program) (t : ComId) (x : Tcom) (p u : Packet) → Contains (tcom_step program t x p).puts u → Caused t x p u
unfolding AllCaused
tcom-caused program t x p = is-cond t x p (fits_tcom program t p) (served t x p) (silent x) (λ b. served-caused t x p) (λ b. none t x p (silent x) refl)
