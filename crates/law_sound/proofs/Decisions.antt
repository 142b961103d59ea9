-- A decision serves the requests that its Pcom's part asks, with the answers that the Pcom recorded, and is never aborted.
use Rattle.std.proofs.Common.{◌≡◌, refl, ◌∙◌, ap, sym, subst, ℕ, zero, suc, ◌+◌, ◌<◌, ◌≤◌, Bool, true, false, cond, ◌==◌, List, [], ◌∷◌, ◌++◌, length, map, take, slice_get, ℤ, Option, Some, None, arith}
use Rattle.std.specs.Prelude.{Contains, IsSome, IsSomeAnd, IsTrue, nat_lt}
use Rattle.std.specs.List.{cons_option}
use Rattle.std.proofs.lemmas.List.{append_assoc, append-nil}
use Rattle.std.proofs.lemmas.Option.{same_Some}
use Rattle.ic_base.specs.declared.limits.TheConstants.{REQUESTS}
use Rattle.ic_base.specs.declared.messages.ComId.{ComId}
use Rattle.ic_base.specs.declared.messages.Request.{Request}
use Rattle.ic_base.specs.declared.messages.Session.{Session}
use Rattle.ic_base.specs.declared.messages.Packet.TheVariants as packets
use Rattle.ic_base.specs.declared.played.Played.{Played}
use Rattle.ic_base.specs.declared.played.Played.TheVariants.{Asks, Ready, NeedFails, Ends}
use Rattle.ic_base.specs.declared.scenario.Program.{Program}
use Rattle.ic_base.specs.declared.record.Record.{Record}
use Rattle.ic_base.specs.declared.record.Record.TheVariants.{Take, TakeWhole, Input, Value, Outcome, Released, Shown, Checkpoint, Epoch, Decided}
use Rattle.ic_base.specs.Programs.{is_a_pcom}
use Rattle.def_play.specs.Ledger.{Talk, first_talk, heard, AsksInTurn, answers_on, answer_on, ledger_after, puts_of}
use Rattle.def_state.specs.Hist.{Begun, plays_again}
use Rattle.def_step.specs.Tcom.{Book, book_of}
use Rattle.def_facts.specs.Logs.{Logs, log_at, Stands, Got, values_of, in_places}
use Rattle.def_facts.specs.Pcom.{state_after, begun_in, IsTrueOf, IsAsked, IsReady, AnswersReceived}
use Rattle.def_facts.specs.Tcom.{DecidedFacts}
use Rattle.def_facts.specs.World.{Past}
use Rattle.law_replay.proofs.Lists.{none-some, open-content, equal-numbers, front-of, get-within, at-some}
use Rattle.law_replay.proofs.Prefixes.{known-goes}
use Rattle.law_replay.proofs.Truth.{longer, begun-lasts}
use Rattle.law_sound.specs.Order.{Explains, DecisionAgrees, AnswersAgree}
use Rattle.law_sound.proofs.Sent.{by-pcom}
use Rattle.law_replay.proofs.Talked.{map-places}

pub take-longer : {A : Type 0} (xs ys : List A) → length ys ≤ length xs → take (length xs) ys ≡ ys
take-longer [] [] le = refl
take-longer (x ∷ xs) [] le = refl
take-longer [] (y ∷ ys) le = absurd (omega (arith, le))
take-longer (x ∷ xs) (y ∷ ys) le = ap (λ zs. y ∷ zs) (take-longer xs ys (omega (arith, le)))

answers-long : (ledger : _) (qs : List Request) → length (answers_on ledger qs) ≡ length qs
answers-long ledger [] = refl
answers-long ledger (q ∷ qs) = ap suc (answers-long (ledger_after ledger q) qs)

-- recorded answers --------------------------------------------------------------------------------

pub place-value : (p : ℕ) (session : Session) (vs : List ℤ) (j : ℕ) (v : ℤ) → slice_get vs j ≡ Some v → slice_get (in_places p session vs) j ≡ Some (record { place = p + j; session = session; value = v })
place-value p session [] j v e = none-some v e
place-value p session (x ∷ vs) zero v e =
    ap (λ z. Some (record { place = p; session = session; value = z })) (same_Some x v e) ∙ ap (λ z. Some (record { place = z; session = session; value = v })) (plus p)
  where
    plus : (n : ℕ) → n ≡ n + 0
    plus n = omega arith
place-value p session (x ∷ vs) (suc j) v e =
    place-value (p + 1) session vs j v e ∙ ap (λ z. Some (record { place = z; session = session; value = v })) (plus p j)
  where
    plus : (n m : ℕ) → (n + 1) + m ≡ n + suc m
    plus n m = omega arith

-- a recorded answer stands in the log
abbrev pub Recorded : ℕ → List Record → Got → Type 0
Recorded n log g = (pre : List Record) × (post : List Record) × Stands log pre (Value n g.place g.session g.value) post

behind : (n : ℕ) (r : Record) (log : List Record) (g : Got) → Recorded n log g → Recorded n (r ∷ log) g
behind n r log g x = (r ∷ x.0, x.1, ap (λ l. r ∷ l) x.2)

pub recorded-at : (n : ℕ) (log : List Record) (j : ℕ) (g : Got) → slice_get (values_of log n) j ≡ Some g → Recorded n log g
recorded-at n [] j g e = none-some g e
recorded-at n (Value m place session value ∷ log) j g e = at (n == m) refl j e (λ i. recorded-at n log i g)
  where
    at :
        (b : Bool) → (n == m) ≡ b → (j : ℕ) → slice_get (cons_option (cond b (Some (record { place = place; session = session; value = value })) None) (values_of log n)) j ≡ Some g →
        ((i : ℕ) → slice_get (values_of log n) i ≡ Some g → Recorded n log g) → Recorded n (Value m place session value ∷ log) g
    at true is zero f more =
        let same : record { place = place; session = session; value = value } ≡ g = same_Some (record { place = place; session = session; value = value }) g f in
        ([], log, ap (λ k. Value k place session value ∷ log) (sym (equal-numbers n m is)) ∙ ap (λ (x : Got). Value n x.place x.session x.value ∷ log) same)
    at true is (suc i) f more = behind n (Value m place session value) log g (more i f)
    at false is i f more = behind n (Value m place session value) log g (more i f)
recorded-at n (Take from m stamp ∷ log) j g e = behind n (Take from m stamp) log g (recorded-at n log j g e)
recorded-at n (TakeWhole from m stamp handler args ∷ log) j g e = behind n (TakeWhole from m stamp handler args) log g (recorded-at n log j g e)
recorded-at n (Input stamp handler args ∷ log) j g e = behind n (Input stamp handler args) log g (recorded-at n log j g e)
recorded-at n (Outcome stamp m abort ∷ log) j g e = behind n (Outcome stamp m abort) log g (recorded-at n log j g e)
recorded-at n (Released to m ∷ log) j g e = behind n (Released to m) log g (recorded-at n log j g e)
recorded-at n (Shown m ∷ log) j g e = behind n (Shown m) log g (recorded-at n log j g e)
recorded-at n (Checkpoint image ∷ log) j g e = behind n (Checkpoint image) log g (recorded-at n log j g e)
recorded-at n (Epoch epoch ∷ log) j g e = behind n (Epoch epoch) log g (recorded-at n log j g e)
recorded-at n (Decided stamp d m writes ∷ log) j g e = behind n (Decided stamp d m writes) log g (recorded-at n log j g e)

-- talks -------------------------------------------------------------------------------------------

in-turn : (play : List ℤ → Played) (t : ComId) (w : Talk) (qs : List Request) →
    ((i : ℕ) (q : Request) → slice_get qs i ≡ Some q → play (w.answers ++ take i (answers_on w.ledger qs)) ≡ Asks t q) → play (w.answers ++ answers_on w.ledger qs) ≡ Ready t → AsksInTurn play t w qs
in-turn play t w [] asks done = ap play (sym (append-nil w.answers)) ∙ done
in-turn play t w (q ∷ qs) asks done = (
  (t, ap play (sym (append-nil w.answers)) ∙ asks 0 q refl),
  in-turn play t (heard w q) qs
      (λ i x e. ap play (append_assoc w.answers (answer_on w.ledger q ∷ []) (take i (answers_on (ledger_after w.ledger q) qs))) ∙ asks (suc i) x e)
      (ap play (append_assoc w.answers (answer_on w.ledger q ∷ []) (answers_on (ledger_after w.ledger q) qs)) ∙ done),
)

pub ready-asks : {B : Type 0} (t u : ComId) (q : Request) → Ready t ≡ Asks u q → B
ready-asks t u q e = absurd (apart (ap is_ready e))
  where
    is_ready : Played → Bool
    is_ready (Asks v x) = false
    is_ready (Ready v) = true
    is_ready (NeedFails v line) = false
    is_ready (Ends vars sends outs) = false

    apart : true ≡ false → ⊥
    apart f = cc

-- answers that were recorded of one session were received
pub values-were-received : (program : Program) (found logs : Logs) (past : Past) → Explains program found logs past → (t c : ComId) (n : ℕ) (session : Session) (b : Begun) (vs : List ℤ) → IsTrue (is_a_pcom program c) → begun_in program c (past.received c) (log_at logs c) n ≡ Some b → b.tcom ≡ t →
    values_of (log_at logs c) n ≡ in_places 0 session vs → AnswersReceived c t (past.received c) n session vs
values-were-received program found logs past f t c n session b vs pcom is_begun on are j v e =
    let g = recorded-at n (log_at logs c) j (record { place = 0 + j; session = session; value = v }) (ap (λ l. slice_get l j) are ∙ place-value 0 session vs j v e) in
    value-stands j v g.0 g.1 g.2
  where
    zero-plus : (j : ℕ) → 0 + j ≡ j
    zero-plus j = omega arith

    value-stands : (j : ℕ) (v : ℤ) (front back : List Record) → Stands (log_at logs c) front (Value n (0 + j) session v) back → Contains (past.received c) (packets.OpReply t c n j session v)
    value-stands j v front back st =
        let facts = f.pcoms c pcom in
        let some = subst (λ l. IsSome (state_after program c (past.received c) l)) st facts.whole.replays in
        let l = longer program c (past.received c) front (Value n (0 + j) session v ∷ back) some in
        let y = open-content (λ z. Contains (past.received c) (packets.OpReply z.tcom c n (0 + j) session v)) (begun_in program c (past.received c) front n) (facts.whole.value_received front back n (0 + j) session v st) in
        let there : begun_in program c (past.received c) (log_at logs c) n ≡ Some y.0 =
        ap (λ l. begun_in program c (past.received c) l n) st ∙ begun-lasts program c (past.received c) front (Value n (0 + j) session v ∷ back) l n y.0 y.1
        in
        let same : y.0 ≡ b = same_Some y.0 b (sym there ∙ is_begun) in
        let tcom : y.0.tcom ≡ t = ap (λ (z : Begun). z.tcom) same ∙ on in
        subst (λ z. Contains (past.received c) (packets.OpReply t c n z session v)) (zero-plus j) (subst (λ z. Contains (past.received c) (packets.OpReply z c n (0 + j) session v)) tcom y.2)

-- what a decision finds at its Pcom
pub record Agreed (program : Program) (logs : Logs) (past : Past) (t c : ComId) (n place : ℕ) (session : Session) (stamp : ℕ) (a : List ℤ) (requests : List Request) : Type 0 where
  pub pcom : IsTrue (is_a_pcom program c)
  pub sent : Contains (past.sent c) (packets.Commit c t n place session stamp)
  pub begun : Begun
  pub is_begun : begun_in program c (past.received c) (log_at logs c) n ≡ Some begun
  pub ready : IsReady program c (log_at logs c) (past.received c) t n place session stamp begun
  -- answers that were received of this session are its first ones
  pub front : (ys : List ℤ) → AnswersReceived c t (past.received c) n session ys → ys ≡ take (length ys) a
  pub values : AnswersReceived c t (past.received c) n session ready.0
  pub asks : (i : ℕ) (q : Request) → slice_get requests i ≡ Some q → plays_again program c begun (take i a) ≡ Asks t q

pub agreed : (program : Program) (found logs : Logs) (past : Past) → Explains program found logs past → (t c : ComId) (pre : List Record) (b : Book) (stamp n : ℕ) (writes : List (ℕ × ℤ)) →
    (d : DecidedFacts t (length (log_at found t)) (past.sent t) (past.received t) pre b stamp c n writes) → Agreed program logs past t c n d.place d.session d.asked_at (answers_on b.ledger d.requests) d.requests
agreed program found logs past f t c pre b stamp n writes d = record {
  pcom = commit.0;
  sent = put;
  begun = begun.0;
  is_begun = begun.1;
  ready = begun.2;
  front = front;
  values = values-were-received program found logs past f t c n d.session begun.0 begun.2.0 commit.0 begun.1 begun.2.1 begun.2.3;
  asks = asks;
}
  where
    a : List ℤ
    a = answers_on b.ledger d.requests

    put : Contains (past.sent c) (packets.Commit c t n d.place d.session d.asked_at)
    put = (f.network t (packets.Commit c t n d.place d.session d.asked_at) d.commit_received).1

    commit : IsTrue (is_a_pcom program c) × IsTrueOf program c (log_at logs c) (past.received c) (packets.Commit c t n d.place d.session d.asked_at)
    commit = by-pcom program found logs past f c (packets.Commit c t n d.place d.session d.asked_at) refl put

    begun : (x : Begun) × (begun_in program c (past.received c) (log_at logs c) n ≡ Some x) × IsReady program c (log_at logs c) (past.received c) t n d.place d.session d.asked_at x
    begun = open-content (IsReady program c (log_at logs c) (past.received c) t n d.place d.session d.asked_at) (begun_in program c (past.received c) (log_at logs c) n) commit.1.1

    front : (ys : List ℤ) → AnswersReceived c t (past.received c) n d.session ys → ys ≡ take (length ys) a
    front ys got = front-of ys a (λ j v e. d.replies_are j v (f.network c (packets.OpReply t c n j d.session v) (got j v e)).1)

    -- a request that was served was asked with the answers before it
    asked : (i : ℕ) (q : Request) (session : Option Session) → (0 < i → session ≡ Some d.session) → IsAsked program c (past.received c) t n i session q begun.0 → plays_again program c begun.0 (take i a) ≡ Asks t q
    asked i q None own y = ap (λ k. plays_again program c begun.0 (take k a)) y.1 ∙ y.2
    asked i q (Some s) own y =
        let same : s ≡ d.session = same_Some s d.session (own y.2) in
        let fronts : y.0 ≡ take (length y.0) a = front y.0 (subst (λ z. AnswersReceived c t (past.received c) n z y.0) same y.4) in
        ap (λ l. plays_again program c begun.0 l) (sym (fronts ∙ ap (λ k. take k a) y.3)) ∙ y.5

    asks : (i : ℕ) (q : Request) → slice_get d.requests i ≡ Some q → plays_again program c begun.0 (take i a) ≡ Asks t q
    asks i q e =
        let op = d.requests_received i q e in
        let sent = by-pcom program found logs past f c (packets.Op c t n i op.0 q) refl (f.network t (packets.Op c t n i op.0 q) op.2).1 in
        asked i q op.0 op.1 (at-some (IsAsked program c (past.received c) t n i op.0 q) (begun_in program c (past.received c) (log_at logs c) n) begun.0 begun.1 sent.1.1)

decided : (program : Program) (found logs : Logs) (past : Past) → Explains program found logs past → (t c : ComId) (pre : List Record) (b : Book) (stamp n : ℕ) (writes : List (ℕ × ℤ)) →
    DecidedFacts t (length (log_at found t)) (past.sent t) (past.received t) pre b stamp c n writes → DecisionAgrees program logs past t c n writes b.ledger
decided program found logs past f t c pre b stamp n writes d =
    (x.pcom, subst (λ o. IsSomeAnd o Agrees) (sym x.is_begun) (d.requests, x.ready.1, d.writes_are, d.few, same_values, in-turn play t (first_talk b.ledger) d.requests x.asks done))
  where
    a : List ℤ
    a = answers_on b.ledger d.requests

    x : Agreed program logs past t c n d.place d.session d.asked_at (answers_on b.ledger d.requests) d.requests
    x = agreed program found logs past f t c pre b stamp n writes d

    play : List ℤ → Played
    play now = plays_again program c x.begun now

    Agrees : Begun → Type 0
    Agrees y =
        (requests : List Request) × (y.tcom ≡ t) × (writes ≡ puts_of requests) × (length requests ≤ REQUESTS)
        × (map (λ g. g.value) (values_of (log_at logs c) n) ≡ answers_on b.ledger requests)
        × AsksInTurn (plays_again program c y) t (first_talk b.ledger) requests

    fronts : x.ready.0 ≡ take (length x.ready.0) a
    fronts = x.front x.ready.0 x.values

    at : (z : Bool) → nat_lt (length x.ready.0) (length a) ≡ z → length a ≤ length x.ready.0
    at true lt =
        let small : length x.ready.0 < length a = grind arith in
        let q = get-within d.requests (length x.ready.0) (omega (arith, small, answers-long b.ledger d.requests)) in
        ready-asks t t q.0 (sym x.ready.4 ∙ ap (λ l. plays_again program c x.begun l) fronts ∙ x.asks (length x.ready.0) q.0 q.1)
    at false lt = grind arith

    enough : length a ≤ length x.ready.0
    enough = at (nat_lt (length x.ready.0) (length a)) refl

    whole : x.ready.0 ≡ a
    whole = fronts ∙ take-longer x.ready.0 a enough

    same_values : map (λ g. g.value) (values_of (log_at logs c) n) ≡ a
    same_values = ap (map (λ g. g.value)) x.ready.3 ∙ map-places 0 d.session x.ready.0 ∙ whole

    done : plays_again program c x.begun a ≡ Ready t
    done = ap (λ l. plays_again program c x.begun l) (sym whole) ∙ x.ready.4

pub answers_agree : AnswersAgree
answers_agree program found logs past f t c pre post stamp n writes is st =
    known-goes (λ b. DecidedFacts t (length (log_at found t)) (past.sent t) (past.received t) pre b stamp c n writes) (λ b. DecisionAgrees program logs past t c n writes b.ledger) (book_of program t pre) (book_of program t pre) (λ b e. e)
    (λ b d. decided program found logs past f t c pre b stamp n writes d) ((f.tcoms t is).1.decisions pre post stamp c n writes st)
