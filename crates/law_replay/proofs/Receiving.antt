-- What the logs say is kept when more is received and when more is put out.
use Rattle.std.proofs.Common.{◌≡◌, refl, ◌∙◌, ap, sym, subst, ℕ, ◌<◌, Bool, true, false, ◌||◌, ◌==◌, List, [], ◌∷◌, ◌++◌, filter_map, find, ℤ, Option, Some, None, option_and_then, is_some, arith, ◌⊎◌, inl, inr}
use Rattle.std.specs.Prelude.{Contains, IsSome}
use Rattle.std.specs.Option.{option_or}
use Rattle.std.proofs.lemmas.List.Elements.{filter_map-append, Contains-append_left, Contains-push_cases}
use Rattle.std.proofs.lemmas.List.Folds.{find-append, list_any-append}
use Rattle.ic_base.specs.declared.messages.ComId.{ComId}
use Rattle.ic_base.specs.declared.messages.Session.{Session}
use Rattle.ic_base.specs.declared.messages.Request.{Request}
use Rattle.ic_base.specs.declared.messages.AbortCause.{AbortCause}
use Rattle.ic_base.specs.declared.messages.AbortCause.TheVariants.{Need, Held, Epoch as Epochs}
use Rattle.ic_base.specs.declared.messages.Decision.TheVariants.{Committed, Aborted}
use Rattle.ic_base.specs.declared.messages.Packet.{Packet}
use Rattle.ic_base.specs.declared.messages.Packet.TheVariants as packets
use Rattle.ic_base.specs.declared.scenario.Program.{Program}
use Rattle.ic_base.specs.declared.record.Record.{Record}
use Rattle.ic_base.specs.declared.record.Record.TheVariants.{Value, Outcome}
use Rattle.def_state.specs.Hist.{Hist, Begun, opened}
use Rattle.def_step.specs.Tcom.{Book, book_of}
use Rattle.def_facts.specs.Logs.{Stands, contents_in, message_in, has_identity, has_commit, commits, has_outcome, ends_txn, before_outcome}
use Rattle.def_facts.specs.Pcom.{state_after, begun_in, IsTrueOf, IsAsked, IsReady, IsCommittingAt, EndsWell, place_of}
use Rattle.def_facts.specs.Tcom.{DecidedFacts, AbortIs}
use Rattle.law_replay.specs.Growing.{SaysMore}
use Rattle.law_replay.proofs.Lists.{none-some, some-of}
use Rattle.law_replay.proofs.MoreContents.{more_contents_agree}
use Rattle.law_replay.proofs.Prefixes.{known-goes}
use Rattle.law_replay.specs.Stability.{PrefixFactsReceive, LastingFactsReceive, PcomsReceive, TcomsReceive, PcomsPut}

-- of each identity the first content counts
pub contents-more : (received more : List Packet) → SaysMore (contents_in received) (contents_in (received ++ more))
contents-more received more s n m e =
    ap (find (has_identity s n)) (filter_map-append message_in received more)
    ∙ find-append (has_identity s n) (filter_map message_in received) (filter_map message_in more)
    ∙ ap (λ o. option_or o (find (has_identity s n) (filter_map message_in more))) e

-- more is received --------------------------------------------------------------------------------

pub section-state : (program : Program) (c : ComId) (received more : List Packet) (log : List Record) (h : Hist) → state_after program c received log ≡ Some h → state_after program c (received ++ more) log ≡ Some h
section-state program c received more log h e = more_contents_agree program c (contents_in received) (contents_in (received ++ more)) log h (contents-more received more) e

and-then-goes : {A B : Type 0} (f : A → Option B) (o u : Option A) → ((x : A) → o ≡ Some x → u ≡ Some x) → (y : B) → option_and_then f o ≡ Some y → option_and_then f u ≡ Some y
and-then-goes f None u same y e = none-some y e
and-then-goes f (Some x) u same y e = ap (option_and_then f) (same x refl) ∙ e

section-begun : (program : Program) (c : ComId) (received more : List Packet) (log : List Record) (n : ℕ) (b : Begun) → begun_in program c received log n ≡ Some b → begun_in program c (received ++ more) log n ≡ Some b
section-begun program c received more log n b e = and-then-goes (λ h. opened h n) (state_after program c received log) (state_after program c (received ++ more) log) (section-state program c received more log) b e

some-goes : {A : Type 0} (o u : Option A) → ((x : A) → o ≡ Some x → u ≡ Some x) → IsSome o → IsSome u
some-goes o u same e = let x = some-of o e in ap is_some (same x.0 x.1)

pub prefix_facts_receive : PrefixFactsReceive
prefix_facts_receive program c log sent received more f =
    let state = section-state program c received more in
    let begun = section-begun program c received more in
    let got = λ (p : Packet) (x : Contains received p). Contains-append_left received more p x in
    record {
      replays = some-goes (state_after program c received log) (state_after program c (received ++ more) log) (state log) f.replays;
      take_received = λ pre post s k stamp st.
          known-goes (λ m. m.stamp < stamp) (λ m. m.stamp < stamp) (contents_in received s k) (contents_in (received ++ more) s k) (contents-more received more s k) (λ m x. x) (f.take_received pre post s k stamp st);
      whole_received = λ pre post s k stamp handler args st.
          known-goes (λ m. (m.stamp < stamp) × (m.handler ≡ handler) × (m.args ≡ args)) (λ m. (m.stamp < stamp) × (m.handler ≡ handler) × (m.args ≡ args)) (contents_in received s k) (contents_in (received ++ more) s k) (contents-more received more s k) (λ m x. x)
          (f.whole_received pre post s k stamp handler args st);
      image_is = λ pre post image st.
          known-goes _ _ (state_after program c received pre) (state_after program c (received ++ more) pre) (state pre) (λ h x. x) (f.image_is pre post image st);
      value_received = λ pre post n place session value st.
          known-goes (λ b. Contains received (packets.OpReply b.tcom c n place session value)) (λ b. Contains (received ++ more) (packets.OpReply b.tcom c n place session value)) (begun_in program c received pre n) (begun_in program c (received ++ more) pre n) (begun pre n)
          (λ b x. got (packets.OpReply b.tcom c n place session value) x) (f.value_received pre post n place session value st);
      commit_received = λ pre post n stamp st.
          known-goes (λ b. (decided : ℕ) × (place : ℕ) × (session : Option Session) × (decided < stamp) × Contains received (packets.Outcome b.tcom c n place session (Committed decided)))
          (λ b. (decided : ℕ) × (place : ℕ) × (session : Option Session) × (decided < stamp) × Contains (received ++ more) (packets.Outcome b.tcom c n place session (Committed decided))) (begun_in program c received pre n) (begun_in program c (received ++ more) pre n) (begun pre n)
          (λ b x. (x.0, x.1, x.2, x.3, got (packets.Outcome b.tcom c n x.1 x.2 (Committed x.0)) x.4)) (f.commit_received pre post n stamp st);
      abort_received = λ pre post n stamp cause st no_need asked.
          known-goes (λ p. Contains received (packets.Outcome p.tcom c n p.place p.session (Aborted cause))) (λ p. Contains (received ++ more) (packets.Outcome p.tcom c n p.place p.session (Aborted cause)))
          (option_and_then (λ h. place_of h.stage) (state_after program c received pre)) (option_and_then (λ h. place_of h.stage) (state_after program c (received ++ more) pre))
          (and-then-goes (λ h. place_of h.stage) (state_after program c received pre) (state_after program c (received ++ more) pre) (state pre))
          (λ p x. got (packets.Outcome p.tcom c n p.place p.session (Aborted cause)) x) (f.abort_received pre post n stamp cause st no_need asked);
      release_received = λ pre post d k st. got (packets.Installed d c k) (f.release_received pre post d k st);
      need_recorded = λ pre post n place session value r st.
          known-goes _ _ (state_after program c received (pre ++ Value n place session value ∷ [])) (state_after program c (received ++ more) (pre ++ Value n place session value ∷ [])) (state (pre ++ Value n place session value ∷ [])) (λ h x. x) (f.need_recorded pre post n place session value r st);
    }

asked-more : (program : Program) (c : ComId) (received more : List Packet) (t : ComId) (n place : ℕ) (session : Option Session) (q : Request) (b : Begun) → IsAsked program c received t n place session q b → IsAsked program c (received ++ more) t n place session q b
asked-more program c received more t n place None q b x = x
asked-more program c received more t n place (Some session) q b x =
    (x.0, x.1, x.2, x.3, (λ i v is. Contains-append_left received more (packets.OpReply t c n i session v) (x.4 i v is)), x.5)

true-more : (program : Program) (c : ComId) (log : List Record) (received more : List Packet) (p : Packet) → IsTrueOf program c log received p → IsTrueOf program c log (received ++ more) p
true-more program c log received more (packets.Data m) x = known-goes (λ h. Contains h.sent m) (λ h. Contains h.sent m) (state_after program c received log) (state_after program c (received ++ more) log) (section-state program c received more log) (λ h y. y) x
true-more program c log received more (packets.Stable from s k) x =
    (x.0, known-goes (λ h. Contains h.plain.receipts (s, k)) (λ h. Contains h.plain.receipts (s, k)) (state_after program c received log) (state_after program c (received ++ more) log) (section-state program c received more log) (λ h y. y) x.1)
true-more program c log received more (packets.Installed from s k) x = x
true-more program c log received more (packets.Fetch from s k) x = x
true-more program c log received more (packets.Op from t n place session q) x = (
  x.0,
  known-goes (IsAsked program c received t n place session q) (IsAsked program c (received ++ more) t n place session q) (begun_in program c received log n) (begun_in program c (received ++ more) log n) (section-begun program c received more log n)
      (asked-more program c received more t n place session q) x.1,
)
true-more program c log received more (packets.Commit from t n place session stamp) x = (
  x.0,
  known-goes (IsReady program c log received t n place session stamp) (IsReady program c log (received ++ more) t n place session stamp) (begun_in program c received log n) (begun_in program c (received ++ more) log n) (section-begun program c received more log n)
      (λ b y. (y.0, y.1, y.2, y.3, y.4, known-goes (IsCommittingAt t n place session stamp) (IsCommittingAt t n place session stamp) (state_after program c received (before_outcome log n)) (state_after program c (received ++ more) (before_outcome log n)) (section-state program c received more (before_outcome log n)) (λ h z. z) y.5)) x.1,
)
true-more program c log received more (packets.Drop from t n) x =
    (x.0, x.1, known-goes (λ b. b.tcom ≡ t) (λ b. b.tcom ≡ t) (begun_in program c received log n) (begun_in program c (received ++ more) log n) (section-begun program c received more log n) (λ b y. y) x.2)
true-more program c log received more (packets.OpReply from to n place session value) x = x
true-more program c log received more (packets.Outcome from to n place session decision) x = x

ends-more : (program : Program) (c : ComId) (received more : List Packet) (log : List Record) → EndsWell program c received log → EndsWell program c (received ++ more) log
ends-more program c received more log x = known-goes _ _ (state_after program c received log) (state_after program c (received ++ more) log) (section-state program c received more log) (λ h y. y) x

pub lasting_facts_receive : LastingFactsReceive
lasting_facts_receive program c log sent received more f = record {
  packets_true = λ p x. true-more program c log received more p (f.packets_true p x);
  ends_well = ends-more program c received more log f.ends_well;
}

pub pcoms_receive : PcomsReceive
pcoms_receive program c forced all sent received more same f = record {
  consistent = same;
  whole = prefix_facts_receive program c all sent received more f.whole;
  lasting = lasting_facts_receive program c forced sent received more f.lasting;
  ends_well = ends-more program c received more all f.ends_well;
}

decided-more : (t : ComId) (old : ℕ) (sent received more : List Packet) (pre : List Record) (b : Book) (stamp : ℕ) (c : ComId) (n : ℕ) (writes : List (ℕ × ℤ)) → DecidedFacts t old sent received pre b stamp c n writes → DecidedFacts t old sent (received ++ more) pre b stamp c n writes
decided-more t old sent received more pre b stamp c n writes x = record {
  place = x.place;
  session = x.session;
  asked_at = x.asked_at;
  commit_received = Contains-append_left received more (packets.Commit c t n x.place x.session x.asked_at) x.commit_received;
  stamp_above = x.stamp_above;
  in_epoch = x.in_epoch;
  requests = x.requests;
  few = x.few;
  requests_received = λ i q is. let y = x.requests_received i q is in (y.0, y.1, Contains-append_left received more (packets.Op c t n i y.0 q) y.2);
  writes_are = x.writes_are;
  replies_are = x.replies_are;
}

abort-more : (t : ComId) (log : List Record) (old : ℕ) (received more : List Packet) (c : ComId) (n place : ℕ) (session : Option Session) (cause : AbortCause) → AbortIs t log old received c n place session cause → AbortIs t log old (received ++ more) c n place session cause
abort-more t log old received more c n place session (Need line) x = x
abort-more t log old received more c n place session (Held holder m) x = (x.0, Contains-append_left received more (packets.Op c t n place session x.0) x.1)
abort-more t log old received more c n place session (Epochs old_epoch now) x = (x.0, x.1, x.2, x.3, x.4, either x.5, x.6)
  where
    either : (((q : Request) × Contains received (packets.Op c t n place session q)) ⊎ ((at : ℕ) × Contains received (packets.Commit c t n place x.0 at))) → (((q : Request) × Contains (received ++ more) (packets.Op c t n place session q)) ⊎ ((at : ℕ) × Contains (received ++ more) (packets.Commit c t n place x.0 at)))
    either (inl y) = inl (y.0, Contains-append_left received more (packets.Op c t n place session y.0) y.1)
    either (inr y) = inr (y.0, Contains-append_left received more (packets.Commit c t n place x.0 y.0) y.1)

pub tcoms_receive : TcomsReceive
tcoms_receive program t old log sent received more f = record {
  reads = f.reads;
  reply_epoch = f.reply_epoch;
  reply_once = f.reply_once;
  decisions = λ pre post stamp c n writes st.
      known-goes (λ b. DecidedFacts t old sent received pre b stamp c n writes) (λ b. DecidedFacts t old sent (received ++ more) pre b stamp c n writes) (book_of program t pre) (book_of program t pre) (λ b e. e) (λ b x. decided-more t old sent received more pre b stamp c n writes x) (f.decisions pre post stamp c n writes st);
  commits_stand = f.commits_stand;
  aborts_are = λ c n place session cause x. abort-more t log old received more c n place session cause (f.aborts_are c n place session cause x);
  answers_only = f.answers_only;
}

-- more is put out ---------------------------------------------------------------------------------

has-ended : (log pre post : List Record) (stamp n : ℕ) (abort : Option AbortCause) → Stands log pre (Outcome stamp n abort) post → has_outcome log n ≡ true
has-ended log pre post stamp n abort st =
    ap (λ l. has_outcome l n) st ∙ list_any-append (ends_txn n) pre (Outcome stamp n abort ∷ post) ∙ right (has_outcome pre n) (n == n) (has_outcome post n) (self n)
  where
    self : (m : ℕ) → (m == m) ≡ true
    self m = grind arith

    right : (a b d : Bool) → b ≡ true → a || (b || d) ≡ true
    right true b d e = refl
    right false b d e = ap (λ x. x || d) e

asked-before : (sent : List Packet) (p : Packet) (n : ℕ) (log : List Record) → (commits n p ≡ true → has_outcome log n ≡ false) → has_outcome log n ≡ true → has_commit (sent ++ p ∷ []) n ≡ true → has_commit sent n ≡ true
asked-before sent p n log fresh ended e = at (has_commit sent n) (commits n p) fresh (sym (list_any-append (commits n) sent (p ∷ [])) ∙ e)
  where
    at : (a b : Bool) → (b ≡ true → has_outcome log n ≡ false) → a || (b || false) ≡ true → a ≡ true
    at true b g f = refl
    at false true g f = absurd (clash (has_outcome log n) ended (g refl))
      where
        clash : (x : Bool) → x ≡ true → x ≡ false → ⊥
        clash true u v = cc
        clash false u v = cc
    at false false g f = f

pub pcoms_put : PcomsPut
pcoms_put program c forced all sent received p true_now fresh f = record {
  consistent = f.consistent;
  whole = record {
    replays = f.whole.replays;
    take_received = f.whole.take_received;
    whole_received = f.whole.whole_received;
    image_is = f.whole.image_is;
    value_received = f.whole.value_received;
    commit_received = f.whole.commit_received;
    abort_received = λ pre post n stamp cause st no_need asked.
        f.whole.abort_received pre post n stamp cause st no_need (asked-before sent p n all (fresh n) (has-ended all pre post stamp n (Some cause) st) asked);
    release_received = f.whole.release_received;
    need_recorded = f.whole.need_recorded;
  };
  lasting = record {
    packets_true = λ q x. either q (Contains-push_cases sent p q x);
    ends_well = f.lasting.ends_well;
  };
  ends_well = f.ends_well;
}
  where
    either : (q : Packet) → Contains sent q ⊎ (p ≡ q) → IsTrueOf program c forced received q
    either q (inl x) = f.lasting.packets_true q x
    either q (inr e) = subst (IsTrueOf program c forced received) e true_now
