-- What a Pcom put out stays true when its log grows.
use Rattle.std.proofs.Common.{◌≡◌, refl, ◌∙◌, ap, sym, subst, ℕ, zero, suc, ◌≤◌, Bool, true, false, cond, ◌&&◌, ◌||◌, List, [], ◌∷◌, ◌++◌, Some, option_and_then, is_some}
use Rattle.std.specs.Prelude.{IsSomeAnd, IsSome, Contains}
use Rattle.std.proofs.lemmas.List.{append-nil}
use Rattle.std.proofs.lemmas.List.Elements.{filter_map-append}
use Rattle.ic_base.specs.declared.messages.ComId.{ComId}
use Rattle.ic_base.specs.declared.messages.Session.{Session}
use Rattle.ic_base.specs.declared.messages.Packet.{Packet}
use Rattle.ic_base.specs.declared.messages.Packet.TheVariants.{Data, Stable, Installed, Fetch, Op, OpReply, Commit, Outcome, Drop}
use Rattle.ic_base.specs.declared.scenario.Program.{Program}
use Rattle.ic_base.specs.declared.record.Record.{Record}
use Rattle.def_state.specs.Names.{Identity}
use Rattle.def_state.specs.Txn.{is_idle}
use Rattle.def_state.specs.Hist.{Hist, Begun, apply_all, first_hist, opened, nth}
use Rattle.def_step.specs.Replay.{has_image, image_in}
use Rattle.def_facts.specs.Logs.{contents_in, is_kept, receives_whole, receives_name, ends_txn, has_outcome, before_outcome, values_of, got_in}
use Rattle.def_facts.specs.Pcom.{state_after, begun_in, IsTrueOf, IsReady, IsAsked, IsCommittingAt}
use Rattle.law_replay.specs.Growing.{Grows}
use Rattle.law_replay.proofs.Closing.{closed_stay_closed}
use Rattle.law_replay.proofs.Committing.{hands_are_open, outcomes_close, committing_stays}
use Rattle.law_replay.proofs.Growing.{applied_twice, prefixes_replay, states_grow}
use Rattle.law_replay.proofs.Lists.{some-of, before-has, before-none, before-all, get-front}
use Rattle.law_replay.proofs.Prefixes.{prefix-contains, known-goes}
use Rattle.law_replay.specs.Stability.{TruthLasts}
use Rattle.law_replay.proofs.Members.{any-front}

or-goes : (a b x y : Bool) → (a ≡ true → x ≡ true) → (b ≡ true → y ≡ true) → a || b ≡ true → x || y ≡ true
or-goes true b x y f g e = ap (λ z. z || y) (f refl)
or-goes false b true y f g e = refl
or-goes false b false y f g e = g e

and-goes : (a x y : Bool) → (x ≡ true → y ≡ true) → a && x ≡ true → a && y ≡ true
and-goes true x y f e = f e
and-goes false x y f e = e

image-lasts : (xs ys : List Record) → has_image xs ≡ true → has_image (xs ++ ys) ≡ true
image-lasts [] ys e = absurd (cc)
image-lasts (r ∷ rs) ys e = at (is_some (image_in r)) e (image-lasts rs ys)
  where
    at : (b : Bool) → cond b true (has_image rs) ≡ true → (has_image rs ≡ true → has_image (rs ++ ys) ≡ true) → cond b true (has_image (rs ++ ys)) ≡ true
    at true f more = refl
    at false f more = more f

pub kept-lasts : (xs ys : List Record) (x : Identity) → is_kept xs x ≡ true → is_kept (xs ++ ys) x ≡ true
kept-lasts [] ys x e = absurd (cc)
kept-lasts (r ∷ rs) ys x e =
    or-goes (receives_whole x r || (receives_name x r && has_image rs)) (is_kept rs x) (receives_whole x r || (receives_name x r && has_image (rs ++ ys))) (is_kept (rs ++ ys) x)
    (or-goes (receives_whole x r) (receives_name x r && has_image rs) (receives_whole x r) (receives_name x r && has_image (rs ++ ys)) (λ f. f) (and-goes (receives_name x r) (has_image rs) (has_image (rs ++ ys)) (image-lasts rs ys)))
    (kept-lasts rs ys x) e

nth-front : {A : Type 0} (xs ys : List A) (n : ℕ) (x : A) → nth xs n ≡ Some x → nth (xs ++ ys) n ≡ Some x
nth-front xs ys zero x e = e
nth-front xs ys (suc n) x e = get-front xs ys n x e

-- a transaction is begun once
pub opened-grows : (h g : Hist) (n : ℕ) (b : Begun) → Grows h g → opened h n ≡ Some b → opened g n ≡ Some b
opened-grows h g n b x e = subst (λ l. nth l n ≡ Some b) (sym x.begun.1) (nth-front h.begun x.begun.0 n b e)

-- a log and a longer one, with their states
pub record Longer (program : Program) (c : ComId) (received : List Packet) (log more : List Record) : Type 0 where
  pub before : Hist
  pub later : Hist
  pub is_before : state_after program c received log ≡ Some before
  pub is_later : state_after program c received (log ++ more) ≡ Some later
  pub steps : apply_all program c (contents_in received) (Some before) more ≡ Some later

pub longer : (program : Program) (c : ComId) (received : List Packet) (log more : List Record) → IsSome (state_after program c received (log ++ more)) → Longer program c received log more
longer program c received log more some =
    let g = some-of (state_after program c received (log ++ more)) some in
    let h = prefixes_replay program c (contents_in received) log more g.0 g.1 in
    record { before = h.0; later = g.0; is_before = h.1; is_later = g.1; steps = h.2 }

grown : (program : Program) (c : ComId) (received : List Packet) (log more : List Record) (l : Longer program c received log more) → Grows l.before l.later
grown program c received log more l = states_grow program c (contents_in received) more l.before l.later l.steps

state-goes : (program : Program) (c : ComId) (received : List Packet) (log more : List Record) (l : Longer program c received log more) (P Q : Hist → Type 0) → (P l.before → Q l.later) → IsSomeAnd (state_after program c received log) P → IsSomeAnd (state_after program c received (log ++ more)) Q
state-goes program c received log more l P Q then x = subst (λ o. IsSomeAnd o Q) (sym l.is_later) (then (subst (λ o. IsSomeAnd o P) l.is_before x))

pub begun-lasts : (program : Program) (c : ComId) (received : List Packet) (log more : List Record) (l : Longer program c received log more) (n : ℕ) (b : Begun) → begun_in program c received log n ≡ Some b → begun_in program c received (log ++ more) n ≡ Some b
begun-lasts program c received log more l n b e =
    ap (option_and_then (λ h. opened h n)) l.is_later
    ∙ opened-grows l.before l.later n b (grown program c received log more l) (sym (ap (option_and_then (λ h. opened h n)) l.is_before) ∙ e)

-- the values and the state before the outcome
ready-lasts : (program : Program) (c : ComId) (received : List Packet) (log more : List Record) (l : Longer program c received log more) (t : ComId) (n place : ℕ) (session : Session) (stamp : ℕ) →
    IsSomeAnd (state_after program c received (before_outcome log n)) (IsCommittingAt t n place session stamp) →
    (values_of (log ++ more) n ≡ values_of log n) × IsSomeAnd (state_after program c received (before_outcome (log ++ more) n)) (IsCommittingAt t n place session stamp)
ready-lasts program c received log more l t n place session stamp x = at (has_outcome log n) refl
  where
    no-more : values_of more n ≡ [] → values_of (log ++ more) n ≡ values_of log n
    no-more e = filter_map-append (got_in n) log more ∙ ap (λ vs. values_of log n ++ vs) e ∙ append-nil (values_of log n)

    At : List Record → Type 0
    At rs = IsSomeAnd (state_after program c received rs) (IsCommittingAt t n place session stamp)

    at : (b : Bool) → has_outcome log n ≡ b → (values_of (log ++ more) n ≡ values_of log n) × IsSomeAnd (state_after program c received (before_outcome (log ++ more) n)) (IsCommittingAt t n place session stamp)
    at true has = (
      no-more (closed_stay_closed program c (contents_in received) more n l.before l.later (outcomes_close program c (contents_in received) log n (first_hist program c) l.before l.is_before has) l.steps).1,
      subst (λ rs. IsSomeAnd (state_after program c received rs) (IsCommittingAt t n place session stamp)) (sym (before-has (ends_txn n) log more has)) x,
    )
    at false has =
        let here : IsCommittingAt t n place session stamp l.before =
        subst (λ o. IsSomeAnd o (IsCommittingAt t n place session stamp)) l.is_before (subst (λ rs. IsSomeAnd (state_after program c received rs) (IsCommittingAt t n place session stamp)) (before-all (ends_txn n) log has) x)
        in
        let stays = committing_stays program c (contents_in received) more n t place session l.before l.later here.0 here.1 (hands_are_open program c (contents_in received) log l.before l.is_before ∙ ap is_idle here.0) l.steps in
        let state : state_after program c received (log ++ before_outcome more n) ≡ Some stays.1 =
        applied_twice program c (contents_in received) (Some (first_hist program c)) log (before_outcome more n) ∙ ap (λ o. apply_all program c (contents_in received) o (before_outcome more n)) l.is_before ∙ stays.2
        in
        let there : IsCommittingAt t n place session stamp stays.1 = (stays.3 ∙ here.0, ap (λ p. p.begun) stays.4 ∙ here.1, subst (λ y. y ≤ stamp) (sym stays.5) here.2) in (
          no-more stays.0,
          subst (λ rs. IsSomeAnd (state_after program c received rs) (IsCommittingAt t n place session stamp)) (sym (before-none (ends_txn n) log more has))
              (subst (λ o. IsSomeAnd o (IsCommittingAt t n place session stamp)) (sym state) there),
        )

lasts : (program : Program) (c : ComId) (log more : List Record) (received : List Packet) (l : Longer program c received log more) (p : Packet) → IsTrueOf program c log received p → IsTrueOf program c (log ++ more) received p
lasts program c log more received l (Data m) x =
    state-goes program c received log more l (λ h. Contains h.sent m) (λ h. Contains h.sent m) (prefix-contains l.before.sent l.later.sent m (grown program c received log more l).sent) x
lasts program c log more received l (Stable from s k) x =
    (x.0, state-goes program c received log more l (λ h. Contains h.plain.receipts (s, k)) (λ h. Contains h.plain.receipts (s, k)) (prefix-contains l.before.plain.receipts l.later.plain.receipts (s, k) (grown program c received log more l).receipts) x.1)
lasts program c log more received l (Installed from s k) x = (x.0, kept-lasts log more (record { peer = s; k = k }) x.1)
lasts program c log more received l (Fetch from s k) x = x
lasts program c log more received l (Op from t n place session q) x =
    (x.0, known-goes (IsAsked program c received t n place session q) (IsAsked program c received t n place session q) (begun_in program c received log n) (begun_in program c received (log ++ more) n) (begun-lasts program c received log more l n) (λ b y. y) x.1)
lasts program c log more received l (Commit from t n place session stamp) x = (
  x.0,
  known-goes (IsReady program c log received t n place session stamp) (IsReady program c (log ++ more) received t n place session stamp) (begun_in program c received log n) (begun_in program c received (log ++ more) n) (begun-lasts program c received log more l n)
      (λ b y. let z = ready-lasts program c received log more l t n place session stamp y.5 in (y.0, y.1, y.2, z.0 ∙ y.3, y.4, z.1)) x.1,
)
lasts program c log more received l (Drop from t n) x = (
  x.0,
  any-front (ends_txn n) log more x.1,
  known-goes (λ b. b.tcom ≡ t) (λ b. b.tcom ≡ t) (begun_in program c received log n) (begun_in program c received (log ++ more) n) (begun-lasts program c received log more l n) (λ b y. y) x.2,
)
lasts program c log more received l (OpReply from to n place session value) x = x
lasts program c log more received l (Outcome from to n place session decision) x = x

pub truth_lasts : TruthLasts
truth_lasts program c log more received p some x = lasts program c log more received (longer program c received log more some) p x
