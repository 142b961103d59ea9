-- The writes of a Tcom's open sessions stay such as a log has them, and so is its decision.
use Rattle.std.proofs.Common.{◌≡◌, ◌∙◌, refl, sym, ap, subst, ℕ, zero, suc, ℤ, ◌+◌, ◌<◌, ◌≤◌, Bool, true, false, cond, List, [], ◌∷◌, ◌++◌, length, length-append, map, filter, find, Option, Some, None, arith}
use Rattle.std.specs.Prelude.{nat_lt, nat_le, ◌==◌, ◌&&◌, ◌||◌, not, max, slice_get}
use Rattle.std.specs.List.{AllByRecursion}
use Rattle.std.proofs.lemmas.Bool.Decides.{nat_tests}
use Rattle.ic_base.specs.declared.limits.TheConstants.{COMPONENTS, GREATEST_NUMBER, REQUESTS}
use Rattle.ic_base.specs.declared.messages.ComId.{ComId}
use Rattle.ic_base.specs.declared.messages.Packet.{Packet}
use Rattle.ic_base.specs.declared.messages.Packet.TheVariants.{Data, Stable, Installed, Fetch, Op, OpReply, Commit, Outcome, Drop}
use Rattle.ic_base.specs.declared.messages.Request.{Request}
use Rattle.ic_base.specs.declared.messages.Request.TheVariants.{Get, Put}
use Rattle.ic_base.specs.declared.messages.Session.{Session}
use Rattle.ic_base.specs.declared.record.Record.TheVariants.{Decided}
use Rattle.ic_base.specs.declared.scenario.Component.{Component}
use Rattle.ic_base.specs.declared.scenario.Program.{Program}
use Rattle.ic_base.specs.Programs.{is_number, is_a_pcom, declares, same_com, session_fits, has_key}
use Rattle.def_log.specs.Spelling.{Fits, IsWrite}
use Rattle.def_state.specs.Names.{same_session}
use Rattle.def_step.specs.Packets.{fits_tcom, place_fits, key_of}
use Rattle.def_step.specs.Tcom as step
use Rattle.def_step.specs.Tcom.{Tcom, Sitting, Served, silent, answers_with, sits_for, sitting_of, sitting_in, holder, decided_at, least_of, done, answer_to, opened_sitting, without_below, serves_from, is_below, first_again, opens_unless, does_unless, on_later, on_commit, of_old_epoch, on_op, unless_decided, served, tcom_step, is_past_limit}
use Rattle.ic_node.specs.Sittings.{SittingFits, SittingsFit, RequestFits, AsksFit}

-- lists of sessions -------------------------------------------------------------------------

kept : (test : Sitting → Bool) (ss : List Sitting) → SittingsFit ss → SittingsFit (filter test ss)
kept test [] fit = tt
kept test (s ∷ ss) fit = by (test s) (kept test ss fit.1)
  where
    by : (b : Bool) → SittingsFit (filter test ss) → SittingsFit (cond b (s ∷ filter test ss) (filter test ss))
    by true others = (fit.0, others)
    by false others = others

one_of : (b : Bool) (s r : Sitting) → SittingFits s → SittingFits r → SittingFits (cond b s r)
one_of true s r fit other = fit
one_of false s r fit other = other

mapped : (test : Sitting → Bool) (s : Sitting) (ss : List Sitting) → SittingFits s → SittingsFit ss → SittingsFit (map (λ r. cond (test r) s r) ss)
mapped test s [] fit all = tt
mapped test s (r ∷ ss) fit all = (one_of (test r) s r fit all.0, mapped test s ss fit all.1)

last : (ss : List Sitting) (s : Sitting) → SittingsFit ss → SittingFits s → SittingsFit (ss ++ s ∷ [])
last [] s all fit = (fit, tt)
last (r ∷ ss) s all fit = (all.0, last ss s all.1 fit)

found : (test : Sitting → Bool) (ss : List Sitting) (s : Sitting) → SittingsFit ss → find test ss ≡ Some s → SittingFits s
found test [] s all is = absurd (cc)
found test (r ∷ ss) s all is = by (test r) is (λ e. found test ss s all.1 e)
  where
    by : (b : Bool) → cond b (Some r) (find test ss) ≡ Some s → (find test ss ≡ Some s → SittingFits s) → SittingFits s
    by true e others = let same : r ≡ s = cc in subst SittingFits same all.0
    by false e others = others e

-- what is found passes
found_passes : (test : Sitting → Bool) (ss : List Sitting) (s : Sitting) → find test ss ≡ Some s → test s ≡ true
found_passes test [] s is = absurd (cc)
found_passes test (r ∷ ss) s is = by (test r) refl is (λ e. found_passes test ss s e)
  where
    by : (b : Bool) → test r ≡ b → cond b (Some r) (find test ss) ≡ Some s → (find test ss ≡ Some s → test s ≡ true) → test s ≡ true
    by true passes e others = let same : r ≡ s = cc in ap test (sym same) ∙ passes
    by false passes e others = others e

-- one request more --------------------------------------------------------------------------

all_writes : (ws : List (ℕ × ℤ)) (w : ℕ × ℤ) → AllByRecursion IsWrite ws → IsWrite w → AllByRecursion IsWrite (ws ++ w ∷ [])
all_writes [] w all fit = (fit, tt)
all_writes (v ∷ ws) w all fit = (all.0, all_writes ws w all.1 fit)

does_one : (ledger : List ℤ) (s : Sitting) (q : Request) → RequestFits q → SittingFits s → length s.answers < REQUESTS → SittingFits (done ledger s q)
does_one ledger s (Get key) asked fit room = record {
  few = omega (arith, fit.few, length-append s.answers (answer_to ledger s (Get key) ∷ []));
  within = omega (arith, room, length-append s.answers (answer_to ledger s (Get key) ∷ []));
  each = fit.each;
}
does_one ledger s (Put key value) asked fit room = record {
  few = omega (arith, fit.few, length-append s.answers (value ∷ []), length-append s.writes ((key, value) ∷ []));
  within = omega (arith, room, length-append s.answers (value ∷ []));
  each = all_writes s.writes (key, value) fit.each asked;
}

-- a step ------------------------------------------------------------------------------------

abbrev Stay : Served → Type 0
Stay v = SittingsFit v.tcom.sittings

either : (b : Bool) (u v : Served) → Stay u → Stay v → Stay (cond b u v)
either true u v p q = p
either false u v p q = q

module _ (x : Tcom) (all : SittingsFit x.sittings) where
  unless : (t c : ComId) (n place : ℕ) (session : Option Session) (o : Option ℕ) (other : Served) → Stay other → Stay (unless_decided t c n place session x o other)
  unless t c n place session (Some stamp) other p = all
  unless t c n place session None other p = p

  unless_below : (c : ComId) (n : ℕ) (other : Served) → Stay other → Stay (step.unless_below c n x other)
  unless_below c n other p = either (nat_lt n (least_of x c)) (silent x) other all p

  doing : (t : ComId) (place : ℕ) (session : Session) (q : Request) (s : Sitting) (o : Option Sitting) → RequestFits q → SittingFits s → length s.answers < REQUESTS → Stay (does_unless t place session q x s o)
  doing t place session q s (Some other) asked fit room = all
  doing t place session q s None asked fit room = mapped (λ r. sits_for s.peer s.n r) (done x.book.ledger s q) x.sittings (does_one x.book.ledger s q asked fit room) all

  later : (t c : ComId) (n place : ℕ) (session : Session) (q : Request) (o : Option Sitting) → RequestFits q → place < REQUESTS → sitting_in x session c n ≡ o → Stay (on_later t place session q x o)
  later t c n place session q None asked within is = all
  later t c n place session q (Some s) asked within is =
      either (nat_lt place (length s.answers)) (answers_with x _) _ all (next (place == length s.answers) refl)
    where
      fit : SittingFits s
      fit = found (λ r. same_session session r.session && sits_for c n r) x.sittings s all is

      next : (b : Bool) → (place == length s.answers) ≡ b → Stay (cond b (does_unless t place session q x s (holder x s.peer s.n (key_of q))) (silent x))
      next true e = let same : place ≡ length s.answers = grind (arith, nat_tests) in doing t place session q s (holder x s.peer s.n (key_of q)) asked fit (omega (arith, same, within))
      next false e = all

  committing : (t : ComId) (place stamp : ℕ) (session : Session) (o : Option Sitting) → Stay (on_commit t place stamp session x o)
  committing t place stamp session None = all
  committing t place stamp session (Some s) = kept (λ r. not (sits_for s.peer s.n r)) x.sittings all

-- the first request of a transaction
module _ (y : Tcom) (all : SittingsFit y.sittings) where
  opening : (t c : ComId) (n : ℕ) (q : Request) (o : Option Sitting) → RequestFits q → Stay (opens_unless t c n q y o)
  opening t c n q (Some s) asked = all
  opening t c n q None asked =
      last y.sittings (done y.book.ledger (opened_sitting y c n) q) all
      (does_one y.book.ledger (opened_sitting y c n) q asked (record { few = omega arith; within = omega arith; each = tt }) (omega arith))

  again : (t c : ComId) (n : ℕ) (q : Request) (o : Option Sitting) → RequestFits q → Stay (first_again t c n q y o)
  again t c n q (Some s) asked = all
  again t c n q None asked = opening t c n q (holder y c n (key_of q)) asked

fits_both : (a b : Bool) → (a && b) ≡ true → (a ≡ true) × (b ≡ true)
fits_both true true e = (refl, refl)
fits_both true false e = cc
fits_both false b e = cc

module _ (x : Tcom) (all : SittingsFit x.sittings) where
  asked_of : (t c : ComId) (n place : ℕ) (session : Option Session) (q : Request) → place_fits place session ≡ true → RequestFits q → Stay (on_op t c n place session q x)
  asked_of t c n place None q fits asked =
      again (without_below (serves_from x c n) c n) (kept (λ s. not (is_below c n s)) x.sittings all) t c n q (sitting_of x c n) asked
  asked_of t c n place (Some session) q fits asked =
      let within : place < REQUESTS = let e : nat_lt place REQUESTS ≡ true = (fits_both (nat_lt place REQUESTS) (session_fits session) (fits_both (nat_lt 0 place) (nat_lt place REQUESTS && session_fits session) fits).1).0 in grind (arith, nat_tests) in
      either (session.epoch == x.book.epoch) _ (of_old_epoch t c n place session x) (later x all t c n place session q (sitting_in x session c n) asked within refl) all

  serving : (program : Program) (t : ComId) (p : Packet) → fits_tcom program t p ≡ true → AsksFit p → Stay (served t x p)
  serving program t (Op from to n place session request) fits asked =
      let one = fits_both (is_a_pcom program from) (is_number n && (place_fits place session && has_key program t (key_of request))) fits in
      let two = fits_both (is_number n) (place_fits place session && has_key program t (key_of request)) one.1 in
      let placed = (fits_both (place_fits place session) (has_key program t (key_of request)) two.1).0 in
      unless_below x all from n _ (unless x all t from n place session (decided_at x.book from n) _ (asked_of t from n place session request placed asked))
  serving program t (Commit from to n place session stamp) fits asked =
      unless_below x all from n _
      (unless x all t from n place (Some session) (decided_at x.book from n) _
      (either (session.epoch == x.book.epoch) _ (of_old_epoch t from n place session x) (committing x all t place stamp session (sitting_in x session from n)) all))
  serving program t (Drop from to n) fits asked = kept (λ s. not (is_below from (n + 1) s)) x.sittings all
  serving program t (Data m) fits asked = all
  serving program t (Stable from to k) fits asked = all
  serving program t (Installed from to k) fits asked = all
  serving program t (Fetch from to k) fits asked = all
  serving program t (OpReply from to n place session value) fits asked = all
  serving program t (Outcome from to n place session decision) fits asked = all

  -- the sessions behind a step
  pub sittings_stay : (program : Program) (t : ComId) (p : Packet) → AsksFit p → SittingsFit (tcom_step program t x p).tcom.sittings
  sittings_stay program t p asked = by (fits_tcom program t p) refl
    where
      by : (b : Bool) → fits_tcom program t p ≡ b → Stay (cond b (served t x p) (silent x))
      by true fits = serving program t p fits asked
      by false fits = all

-- a decision ----------------------------------------------------------------------------------

-- what is decided fits, unless a stamp passes its limit
abbrev Decides : Served → Type 0
Decides v = nat_lt GREATEST_NUMBER v.tcom.book.clock ≡ false → AllByRecursion Fits v.adds

each_decides : (b : Bool) (u v : Served) → Decides u → Decides v → Decides (cond b u v)
each_decides true u v p q = p
each_decides false u v p q = q

declared_below : (test : Component → Bool) (ds : List Component) (i : ℕ) → declares test (slice_get ds i) ≡ true → i < length ds
declared_below test [] i is = absurd (cc)
declared_below test (d ∷ ds) zero is = omega arith
declared_below test (d ∷ ds) (suc i) is = omega (arith, declared_below test ds i is)

module _ (program : Program) (few : length program.components ≤ COMPONENTS) (x : Tcom) (all : SittingsFit x.sittings) where
  decided_so : (c : ComId) (n : ℕ) (session : Session) (stamp : ℕ) (s : Sitting) → is_a_pcom program c ≡ true → is_number n ≡ true → sitting_in x session c n ≡ Some s → nat_lt GREATEST_NUMBER stamp ≡ false → Fits (Decided stamp s.peer s.n s.writes)
  decided_so c n session stamp s pcom number is within =
      let passes = fits_both (same_session session s.session) (sits_for c n s) (found_passes (λ r. same_session session r.session && sits_for c n r) x.sittings s is) in
      let both = fits_both (same_com c s.peer) (n == s.n) passes.1 in
      let peer : c.0 ≡ s.peer.0 = let e : (c.0 == s.peer.0) ≡ true = both.0 in grind (arith, nat_tests) in
      let same : n ≡ s.n = let e : (n == s.n) ≡ true = both.1 in grind (arith, nat_tests) in
      let below = declared_below _ program.components c.0 pcom in
      let counted = fits_both (nat_le 1 n) (nat_le n GREATEST_NUMBER) number in
      let least : 1 ≤ n = let e : nat_le 1 n ≡ true = counted.0 in grind (arith, nat_tests) in
      let most : n ≤ GREATEST_NUMBER = let e : nat_le n GREATEST_NUMBER ≡ true = counted.1 in grind (arith, nat_tests) in
      let late : stamp ≤ GREATEST_NUMBER = grind (arith, nat_tests) in
      let fit = found (λ r. same_session session r.session && sits_for c n r) x.sittings s all is in
      (late, omega (arith, peer, below, few), (omega (arith, same, least), omega (arith, same, most)), omega (arith, fit.few, fit.within), fit.each)

  commit_decides : (t c : ComId) (n place stamp : ℕ) (session : Session) (o : Option Sitting) → is_a_pcom program c ≡ true → is_number n ≡ true → sitting_in x session c n ≡ o → Decides (on_commit t place stamp session x o)
  commit_decides t c n place stamp session None pcom number is = λ within. tt
  commit_decides t c n place stamp session (Some s) pcom number is = λ within. (decided_so c n session (max x.book.clock stamp + 1) s pcom number is within, tt)

  unless_decides : (t c : ComId) (n place : ℕ) (session : Option Session) (o : Option ℕ) (other : Served) → Decides other → Decides (unless_decided t c n place session x o other)
  unless_decides t c n place session (Some stamp) other p = λ within. tt
  unless_decides t c n place session None other p = p

  below_decides : (c : ComId) (n : ℕ) (other : Served) → Decides other → Decides (step.unless_below c n x other)
  below_decides c n other p = each_decides (nat_lt n (least_of x c)) (silent x) other (λ within. tt) p

-- what only answers decides nothing
module _ (x : Tcom) where
  again_none : (t c : ComId) (n : ℕ) (q : Request) (y : Tcom) (o : Option Sitting) → Decides (first_again t c n q y o)
  again_none t c n q y (Some s) = λ within. tt
  again_none t c n q y None = opens_none (holder y c n (key_of q))
    where
      opens_none : (h : Option Sitting) → Decides (opens_unless t c n q y h)
      opens_none (Some s) = λ within. tt
      opens_none None = λ within. tt

  does_none : (t : ComId) (place : ℕ) (session : Session) (q : Request) (s : Sitting) (o : Option Sitting) → Decides (does_unless t place session q x s o)
  does_none t place session q s (Some other) = λ within. tt
  does_none t place session q s None = λ within. tt

  later_none : (t : ComId) (place : ℕ) (session : Session) (q : Request) (o : Option Sitting) → Decides (on_later t place session q x o)
  later_none t place session q None = λ within. tt
  later_none t place session q (Some s) =
      each_decides (nat_lt place (length s.answers)) (answers_with x _) _ (λ within. tt)
      (each_decides (place == length s.answers) _ (silent x) (does_none t place session q s (holder x s.peer s.n (key_of q))) (λ within. tt))

  asked_none : (t c : ComId) (n place : ℕ) (session : Option Session) (q : Request) → Decides (on_op t c n place session q x)
  asked_none t c n place None q = again_none t c n q (without_below (serves_from x c n) c n) (sitting_of x c n)
  asked_none t c n place (Some session) q =
      each_decides (session.epoch == x.book.epoch) _ (of_old_epoch t c n place session x) (later_none t place session q (sitting_in x session c n)) (λ within. tt)

module _ (program : Program) (few : length program.components ≤ COMPONENTS) (x : Tcom) (all : SittingsFit x.sittings) where
  served_decides : (t : ComId) (p : Packet) → fits_tcom program t p ≡ true → Decides (served t x p)
  served_decides t (Op from to n place session request) fits =
      below_decides program few x all from n _ (unless_decides program few x all t from n place session (decided_at x.book from n) _ (asked_none x t from n place session request))
  served_decides t (Commit from to n place session stamp) fits =
      let one = fits_both (is_a_pcom program from) (is_number n && (session_fits session && nat_le stamp GREATEST_NUMBER)) fits in
      let two = fits_both (is_number n) (session_fits session && nat_le stamp GREATEST_NUMBER) one.1 in
      below_decides program few x all from n _
      (unless_decides program few x all t from n place (Some session) (decided_at x.book from n) _
      (each_decides (session.epoch == x.book.epoch) _ (of_old_epoch t from n place session x) (commit_decides program few x all t from n place stamp session (sitting_in x session from n) one.0 two.0 refl) (λ within. tt)))
  served_decides t (Drop from to n) fits = λ within. tt
  served_decides t (Data m) fits = λ within. tt
  served_decides t (Stable from to k) fits = λ within. tt
  served_decides t (Installed from to k) fits = λ within. tt
  served_decides t (Fetch from to k) fits = λ within. tt
  served_decides t (OpReply from to n place session value) fits = λ within. tt
  served_decides t (Outcome from to n place session decision) fits = λ within. tt

  neither : (a b : Bool) → (a || b) ≡ false → a ≡ false
  neither true b e = cc
  neither false b e = refl

  -- the records that a step adds, unless it passes a limit
  pub decision_fits : (t : ComId) (p : Packet) → is_past_limit program t x p ≡ false → AllByRecursion Fits (tcom_step program t x p).adds
  decision_fits t p within = by (fits_tcom program t p) refl (neither _ _ within)
    where
      by : (b : Bool) → fits_tcom program t p ≡ b → Decides (tcom_step program t x p)
      by true fits = subst (λ (c : Bool). Decides (cond c (served t x p) (silent x))) (sym fits) (served_decides t p fits)
      by false fits = subst (λ (c : Bool). Decides (cond c (served t x p) (silent x))) (sym fits) (λ ok. tt)
