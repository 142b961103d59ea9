-- What a Tcom promises over any packets.
use Rattle.std.proofs.Common.{◌≡◌, refl, ◌∙◌, ap, sym, subst, ℕ, ◌≤◌, List, [], ◌∷◌, ◌++◌, map, ℤ, None, ◌⊎◌, inl, inr}
use Rattle.std.specs.Prelude.{Contains}
use Rattle.std.proofs.lemmas.List.{append_assoc, append-nil}
use Rattle.std.proofs.lemmas.List.Elements.{Contains-append_left, Contains-append_right, Contains-append_cases}
use Rattle.ic_base.specs.declared.messages.ComId.{ComId}
use Rattle.ic_base.specs.declared.messages.Packet.{Packet}
use Rattle.ic_base.specs.declared.messages.Packet.TheVariants.{Data, Stable, Installed, Fetch, Op, OpReply, Commit, Outcome, Drop}
use Rattle.ic_base.specs.declared.scenario.Program.{Program}
use Rattle.def_state.specs.Names.{number_of}
use Rattle.def_step.specs.Packets.{receiver_of}
use Rattle.def_step.specs.Tcom.{Tcom, Sitting, Verdict, tcom_step}
use Rattle.def_facts.specs.Logs.{IsPrefixOf, decisions_on}
use Rattle.def_facts.specs.Tcom.{CommitReceived, LeastIsTold, TcomStateFacts}
use Rattle.law_tcom.specs.Decisions.{first_of}
use Rattle.law_tcom.specs.Engine.{HasStarted, StartsAreFresh, StartsAreRecovered, after_all, PacketsAreServedWell, PacketsAreAnsweredRight, StepsKeepOwners}
use Rattle.law_tcom.proofs.Books.{books_are_of_logs, decided_at_most_once, verdicts_are_decisions, book-push}
use Rattle.law_tcom.proofs.Kept.{decided-within, greatest-told, kept-least}
use Rattle.law_tcom.proofs.Recovering.{steps_keep_states, steps_add, comes-up, next-fits}
use Rattle.law_tcom.proofs.Rights.{puts_are_right}
use Rattle.law_replay.proofs.Lists.{empty, none-some}
use Rattle.law_replay.proofs.Members.{map-in}

-- the start ---------------------------------------------------------------------------------------

pub starts_are_fresh : StartsAreFresh
starts_are_fresh program t = (refl, refl, refl)

pub starts_are_recovered : StartsAreRecovered
starts_are_recovered program t size log x e =
    let z = comes-up program t size log x e in
    subst (HasStarted program t) z.2 (book-push program t log z.0 _ z.1 (next-fits program t z.0), refl, refl)

-- where each decision that it found was asked for
pub started : (program : Program) (t : ComId) (x : Tcom) (received : List Packet) → HasStarted program t x → ((v : Verdict) → Contains x.book.decided v → CommitReceived t received v.peer v.n) → TcomStateFacts program t x [] received
started program t x received is asked = record {
  books = is.0;
  sessions = λ s h. none s h;
  one_session = λ r s h. none r h;
  one_holder = λ r s key h. none r h;
  declared = λ s key h. none s h;
  own_numbers = λ r s h. none r h;
  reply_counter = λ c n place session v h. empty (OpReply t c n place session v) h;
  reply_sitting = λ s c n place v h. none s h;
  least_told = λ c. subst (λ l. LeastIsTold t received c (number_of 1 l c)) (sym is.2) (greatest-told t received x.book.decided asked c);
  decided_served = λ c n stamp e. subst (λ l. n ≤ number_of 1 l c) (sym is.2) (decided-within x.book.decided c n stamp e);
}
  where
    none : {B : Type 0} (s : Sitting) → Contains x.sittings s → B
    none s h = empty s (subst (λ l. Contains l s) is.1 h)

-- packets -------------------------------------------------------------------------------------------

-- the packet, to t: a Tcom doesn't look at it
to-it : ComId → Packet → Packet
to-it t (Data m) = Data (record m { to = t })
to-it t (Stable from to k) = Stable from t k
to-it t (Installed from to k) = Installed from t k
to-it t (Fetch from to k) = Fetch from t k
to-it t (Op from to n place session q) = Op from t n place session q
to-it t (OpReply from to n place session v) = OpReply from t n place session v
to-it t (Commit from to n place session stamp) = Commit from t n place session stamp
to-it t (Outcome from to n place session d) = Outcome from t n place session d
to-it t (Drop from to n) = Drop from t n

comes-to : (t : ComId) (p : Packet) → receiver_of (to-it t p) ≡ t
unfolding to-it
comes-to t (Data m) = refl
comes-to t (Stable from to k) = refl
comes-to t (Installed from to k) = refl
comes-to t (Fetch from to k) = refl
comes-to t (Op from to n place session q) = refl
comes-to t (OpReply from to n place session v) = refl
comes-to t (Commit from to n place session stamp) = refl
comes-to t (Outcome from to n place session d) = refl
comes-to t (Drop from to n) = refl

same-step : (program : Program) (t : ComId) (x : Tcom) (p : Packet) → tcom_step program t x (to-it t p) ≡ tcom_step program t x p
unfolding to-it
same-step program t x (Data m) = refl
same-step program t x (Stable from to k) = refl
same-step program t x (Installed from to k) = refl
same-step program t x (Fetch from to k) = refl
same-step program t x (Op from to n place session q) = refl
same-step program t x (OpReply from to n place session v) = refl
same-step program t x (Commit from to n place session stamp) = refl
same-step program t x (Outcome from to n place session d) = refl
same-step program t x (Drop from to n) = refl

-- the facts of the state, of some packets that were put out and received
abbrev pub HasFacts : Program → ComId → Tcom → Type 0
HasFacts program t x = (sent : List Packet) × (received : List Packet) × TcomStateFacts program t x sent received

pub all-keep : (program : Program) (t : ComId) (x : Tcom) (ps : List Packet) → HasFacts program t x → HasFacts program t (after_all program t x ps)
all-keep program t x [] f = f
all-keep program t x (p ∷ ps) f =
    all-keep program t (tcom_step program t x p).tcom ps
    (f.0 ++ (tcom_step program t x (to-it t p)).puts, f.1 ++ to-it t p ∷ [], subst (λ v. TcomStateFacts program t v.tcom (f.0 ++ (tcom_step program t x (to-it t p)).puts) (f.1 ++ to-it t p ∷ [])) (same-step program t x p) (steps_keep_states program t x f.0 f.1 (to-it t p) (comes-to t p) f.2))

facts : (program : Program) (t : ComId) (x : Tcom) (ps : List Packet) → HasStarted program t x → HasFacts program t (after_all program t x ps)
facts program t x ps is = all-keep program t x ps ([], map asks x.book.decided, started program t x (map asks x.book.decided) is (λ v h. (0, record { epoch = 0; counter = 0 }, 0, map-in asks x.book.decided v h)))
  where
    asks : Verdict → Packet
    asks v = Commit v.peer t v.n 0 (record { epoch = 0; counter = 0 }) 0

all-add : (program : Program) (t : ComId) (x : Tcom) (ps : List Packet) → IsPrefixOf x.records (after_all program t x ps).records
all-add program t x [] = ([], sym (append-nil x.records))
all-add program t x (p ∷ ps) =
    let z = all-add program t (tcom_step program t x p).tcom ps in
    ((tcom_step program t x p).adds ++ z.0, z.1 ∙ ap (λ l. l ++ z.0) (steps_add program t x p) ∙ append_assoc x.records (tcom_step program t x p).adds z.0)

no-first : (xs : List ℕ) → first_of xs ≡ None → xs ≡ []
no-first [] e = refl
no-first (x ∷ xs) e = none-some x (sym e)

pub packets_are_served_well : PacketsAreServedWell
packets_are_served_well program t x ps is = record {
  records = all-add program t x ps;
  ledger = (books_are_of_logs program t y.records y.book f.2.books).ledger;
  once = λ c n. decided_at_most_once program t y.records y.book c n f.2.books;
  kept = kept-least y f.2.decided_served;
  undecided = λ s h. no-first (decisions_on y.records s.peer s.n) (sym (verdicts_are_decisions program t y.records y.book s.peer s.n f.2.books) ∙ (f.2.sessions s h).undecided);
  one_session = f.2.one_session;
  one_holder = f.2.one_holder;
  answered = λ s h. let z = f.2.sessions s h in (z.requests, z.keys_are, z.answers_are, z.writes_are);
}
  where
    y : Tcom
    y = after_all program t x ps

    f : HasFacts program t (after_all program t x ps)
    f = facts program t x ps is

pub packets_are_answered_right : PacketsAreAnsweredRight
packets_are_answered_right program t x ps p q is h =
    let f = facts program t x ps is in
    puts_are_right program t (after_all program t x ps) f.0 f.1 p q f.2 h

-- owners ----------------------------------------------------------------------------------------------

pub steps_keep_owners : StepsKeepOwners
steps_keep_owners program t x sent received old p here f in_sent was c d n m i j session v w h k =
    at (Contains-append_cases old puts (OpReply t c n i session v) h) (Contains-append_cases old puts (OpReply t d m j session w) k)
  where
    puts : List Packet
    puts = (tcom_step program t x p).puts

    new : TcomStateFacts program t (tcom_step program t x p).tcom (sent ++ (tcom_step program t x p).puts) (received ++ p ∷ [])
    new = steps_keep_states program t x sent received p here f

    either : (q : Packet) → Contains old q ⊎ Contains (tcom_step program t x p).puts q → Contains (sent ++ (tcom_step program t x p).puts) q
    either q (inl z) = Contains-append_left sent (tcom_step program t x p).puts q (in_sent q z)
    either q (inr z) = Contains-append_right sent (tcom_step program t x p).puts q z

    -- an answer that this step puts out is of a session that is there, and so is each other one of this session
    own : (e : ComId) (a b : ℕ) (u : ℤ) (e2 : ComId) (a2 b2 : ℕ) (u2 : ℤ) → Contains (tcom_step program t x p).puts (OpReply t e a b session u) → Contains old (OpReply t e2 a2 b2 session u2) ⊎ Contains (tcom_step program t x p).puts (OpReply t e2 a2 b2 session u2) → (e2 ≡ e) × (a2 ≡ a)
    own e a b u e2 a2 b2 u2 z y =
        let r = puts_are_right program t x sent received p (OpReply t e a b session u) f z in
        let s = r.2 in
        let o = new.reply_sitting s.0 e2 a2 b2 u2 s.1 (subst (λ g. Contains (sent ++ (tcom_step program t x p).puts) (OpReply t e2 a2 b2 g u2)) (sym s.4) (either (OpReply t e2 a2 b2 session u2) y)) in
        (o.0 ∙ s.2, o.1 ∙ s.3)

    at : Contains old (OpReply t c n i session v) ⊎ Contains (tcom_step program t x p).puts (OpReply t c n i session v) → Contains old (OpReply t d m j session w) ⊎ Contains (tcom_step program t x p).puts (OpReply t d m j session w) → (c ≡ d) × (n ≡ m)
    at (inl a) (inl b) = was c d n m i j session v w a b
    at (inl a) (inr b) = own d m j w c n i v b (inl a)
    at (inr a) (inl b) = let z = own c n i v d m j w a (inl b) in (sym z.0, sym z.1)
    at (inr a) (inr b) = own d m j w c n i v b (inr a)
