-- An answer, and the outcome of a failed need behind it.
use Rattle.std.proofs.Common.{◌≡◌, refl, ◌∙◌, ap, sym, subst, ℕ, ◌+◌, Bool, true, false, ◌&&◌, ◌||◌, ◌==◌, nat_lt, List, [], ◌∷◌, ◌++◌, ℤ, Option, Some, None, option_map, option_and_then, is_some, arith}
use Rattle.std.specs.Prelude.{Contains, IsSomeAnd, IsSome, MatchOption, ⊤}
use Rattle.std.specs.List.{list_any}
use Rattle.std.proofs.lemmas.Bool.{and_parts}
use Rattle.std.proofs.lemmas.List.{append_assoc}
use Rattle.std.proofs.lemmas.List.Folds.{list_any-append}
use Rattle.std.proofs.lemmas.Option.{same_Some}
use Rattle.ic_base.specs.declared.messages.AbortCause.TheVariants.{Need}
use Rattle.ic_base.specs.declared.messages.ComId.{ComId}
use Rattle.ic_base.specs.declared.messages.Session.{Session}
use Rattle.ic_base.specs.declared.messages.Packet.{Packet}
use Rattle.ic_base.specs.declared.messages.Packet.TheVariants as packets
use Rattle.ic_base.specs.declared.played.Played.{Played}
use Rattle.ic_base.specs.declared.played.Played.TheVariants.{Asks, Ready, NeedFails, Ends}
use Rattle.ic_base.specs.declared.scenario.Program.{Program}
use Rattle.ic_base.specs.declared.record.Record.{Record}
use Rattle.ic_base.specs.declared.record.Record.TheVariants.{Value, Outcome}
use Rattle.def_state.specs.Txn
use Rattle.def_state.specs.Txn.{Stage, Idle, Waiting, Answered, Committing, is_idle, is_committing, is_on, is_awaited_at, answered_in}
use Rattle.def_state.specs.Fits.{fits, failed_line}
use Rattle.def_state.specs.Hist.{Hist, Begun, Contents, apply, recorded, answered, staged, hand_plays, standing_of}
use Rattle.def_state.specs.Vol.{Vol}
use Rattle.def_state.specs.Mirrors.{Mirrors}
use Rattle.def_step.specs.Pcom.{Pcom, Effects, all_of, force_if, append, put_out, must_force, came_to_first, came_further, place_of, force_where, cover_if, absorb_choice, just_tail, on_reply, need_records, need_abort, fails_with, Changed}
use Rattle.def_facts.specs.Logs.{contents_in, is_input}
use Rattle.def_facts.specs.Pcom.{state_after, begun_in, EndsWell, IsNeedOutcome}
use Rattle.law_replay.proofs.Growing.{prefixes_replay}
use Rattle.law_replay.proofs.Lists.{some-of, true-false, empty, passed}
use Rattle.law_replay.proofs.Lists.{equal-numbers}
use Rattle.law_pcom.specs.Keeping.{Follows, Marks}
use Rattle.law_pcom.specs.Recording.{FollowsNeed}
use Rattle.law_pcom.specs.Tailing.{TxnForced}
use Rattle.law_pcom.specs.Upkeep.{UpFacts, HalfFacts}
use Rattle.law_pcom.specs.Stepping.{StepKept}
use Rattle.law_pcom.proofs.Lists.{false-true}
use Rattle.law_pcom.proofs.Following.{behind, follows-append, marks-append, after-push}
use Rattle.law_replay.proofs.Applying.{Touches, touches-end}
use Rattle.law_pcom.proofs.Parts.{all-append, half-of, half-append, half-forced, half-buffered, put-kept, one-applied, well-needs, touch-well, touch-idle, idle-txn}
use Rattle.law_pcom.proofs.Steps.{AtStep, Keeps, answering}
use Rattle.law_pcom.proofs.Calls.{begun-on, chosen}
use Rattle.law_replay.proofs.Closing.{idle-staged as idle-still}

-- the state behind an answer
answer-is : (program : Program) (c : ComId) (k : Contents) (h g : Hist) (n place : ℕ) (session : Session) (value : ℤ) → apply program c k h (Value n place session value) ≡ Some g → (is_awaited_at h.stage place session ≡ true) × (answered program c h session (h.now ++ value ∷ []) ≡ g)
answer-is program c k h g n place session value e =
    let x = passed (fits program c (standing_of program c h) (Value n place session value)) (recorded program c k h (Value n place session value)) g e in
    ((and_parts (n == h.plain.begun) (is_awaited_at h.stage place session) x.0).1, same_Some _ g x.1)

-- what fails with it
pub fails-alike : (program : Program) (c : ComId) (v : Vol) (h : Hist) (session : Session) (value : ℤ) → Mirrors v h → (standing_of program c (answered program c h session (h.now ++ value ∷ []))).failed ≡ fails_with program c v value
fails-alike program c v h session value m =
    ap (λ hand. option_and_then (λ y. failed_line (hand_plays program c h.plain.vars (h.now ++ value ∷ []) y)) hand) (sym m.hand)
    ∙ ap (λ vars. option_and_then (λ y. failed_line (hand_plays program c vars (h.now ++ value ∷ []) y)) v.hand) (sym m.vars)
    ∙ ap (λ now. option_and_then (λ y. failed_line (hand_plays program c v.vars (now ++ value ∷ []) y)) v.hand) (sym m.now)

-- a stage that has its answer and commits lies further
further : (s : Stage) (place : ℕ) (session : Session) (o : Option Played) → is_awaited_at s place session ≡ true → is_committing (staged (answered_in s session) o) ≡ true → nat_lt (place_of s) (place_of (staged (answered_in s session) o)) ≡ true
further Idle place session o e f = true-false e
further (Answered t p s q) place session o e f = true-false e
further (Committing t p s) place session o e f = true-false e
further (Waiting t p s q) place session None e f = true-false f
further (Waiting t p s q) place session (Some (Asks u r)) e f = true-false f
further (Waiting t p s q) place session (Some (Ready u)) e f = next p
  where
    next : (n : ℕ) → nat_lt n (n + 1) ≡ true
    next n = grind arith
further (Waiting t p s q) place session (Some (NeedFails u line)) e f = true-false f
further (Waiting t p s q) place session (Some (Ends vars sends outs)) e f = true-false f

abbrev behind_answer : Program → ComId → Hist → Session → ℤ → Stage
behind_answer program c h session value = staged (answered_in h.stage session) (option_map (hand_plays program c h.plain.vars (h.now ++ value ∷ [])) h.plain.hand)

-- what is open is forced behind an answer, where the step needn't force
txn-answered : (program : Program) (c : ComId) (received : List Packet) (forced : List Record) (h : Hist) (place : ℕ) (session : Session) (value : ℤ) (v w : Vol) → is_awaited_at h.stage place session ≡ true → Mirrors v h → Mirrors w (answered program c h session (h.now ++ value ∷ [])) → must_force v w ≡ false →
    TxnForced program c received v forced → TxnForced program c received w forced
txn-answered program c received forced h place session value v w awaited m n free t = record {
  open_begun = λ is. subst (λ k. IsSome (begun_in program c received forced k)) (sym begun) (t.open_begun (ap is_idle was ∙ sym (idle-still h.stage session (option_map (hand_plays program c h.plain.vars (h.now ++ value ∷ [])) h.plain.hand)) ∙ ap is_idle (sym now) ∙ is));
  committing_forced = λ is. false-true (came_further v w && is_committing w.txn.stage) (last (came_to_first v w) (came_further v w && is_committing w.txn.stage) free)
      (both (came_further v w) (is_committing w.txn.stage)
      (ap (λ s. nat_lt (place_of s) (place_of w.txn.stage)) was ∙ ap (λ s. nat_lt (place_of h.stage) (place_of s)) now ∙ further h.stage place session (option_map (hand_plays program c h.plain.vars (h.now ++ value ∷ [])) h.plain.hand) awaited (ap is_committing (sym now) ∙ is)) is);
}
  where
    was : v.txn.stage ≡ h.stage
    was = ap (λ y. y.stage) m.txn

    now : w.txn.stage ≡ behind_answer program c h session value
    now = ap (λ y. y.stage) n.txn

    begun : w.txn.begun ≡ v.txn.begun
    begun = ap (λ y. y.begun) n.txn ∙ sym (ap (λ y. y.begun) m.txn)

    last : (a b : Bool) → (a || b) ≡ false → b ≡ false
    last true b e = absurd (cc)
    last false b e = e

    both : (a b : Bool) → a ≡ true → b ≡ true → (a && b) ≡ true
    both true b e f = f
    both false b e f = true-false e

abbrev last_or : Record → List Record → Record
last_or d [] = d
last_or d (r ∷ rs) = last_or r rs

last-push : (d : Record) (xs : List Record) (x : Record) → last_or d (xs ++ x ∷ []) ≡ x
last-push d [] x = refl
last-push d (y ∷ ys) x = last-push y ys x

abbrev number_in : Record → ℕ
number_in (Value n place session value) = n
number_in _ = 0

number-of : (n m place p : ℕ) (session s : Session) (value v : ℤ) → Value n place session value ≡ Value m p s v → n ≡ m
number-of n m place p session s value v e = ap number_in e

flags : (a b : Bool) → (a || b) ≡ false → (a ≡ false) × (b ≡ false)
flags true b e = absurd (cc)
flags false b e = (refl, e)

some-front : (program : Program) (c : ComId) (received : List Packet) (xs ys : List Record) → IsSome (state_after program c received (xs ++ ys)) → IsSome (state_after program c received xs)
some-front program c received xs ys some =
    let g = some-of (state_after program c received (xs ++ ys)) some in
    ap is_some (prefixes_replay program c (contents_in received) xs ys g.0 g.1).1

-- an answer with which nothing fails
alone : (program : Program) (c : ComId) (sent received : List Packet) (p : Pcom) (s : AtStep program c sent received p) (n place : ℕ) (session : Session) (value : ℤ) →
    IsSomeAnd (begun_in program c received (all_of p.log) n) (λ b. Contains received (packets.OpReply b.tcom c n place session value)) → fails_with program c p.vol value ≡ None → IsSome (state_after program c received (all_of p.log ++ Value n place session value ∷ [])) →
    (d : Effects) → absorb_choice program c d p ≡ append program c None p (Value n place session value) → d.forces ≡ false → d.covers ≡ false → d.is_quiet ≡ false → d.answers ≡ [] → Keeps program c sent received p d
alone program c sent received p s n place session value founded fails some d absorbed forces covers loud silent =
    subst (λ y. StepKept program c sent received (put_out c p.vol d y)) (sym there)
    (put-kept program c sent received p.vol d (force_if (must_force p.vol q.vol) q) loud (up (must_force p.vol q.vol) refl) (s.pending sent received (force_if (must_force p.vol q.vol) q) (up (must_force p.vol q.vol) refl)) (λ x h. empty x (subst (λ l. Contains l x) silent h)))
  where
    f : Follows program c received p.vol (all_of p.log)
    f = s.up.follows

    r : Record
    r = Value n place session value

    q : Pcom
    q = append program c None p r

    g : (x : Hist) × (apply program c (contents_in received) f.state r ≡ Some x)
    g = one-applied program c received (all_of p.log) f.state r f.is_state some

    a : (is_awaited_at f.state.stage place session ≡ true) × (answered program c f.state session (f.state.now ++ value ∷ []) ≡ g.0)
    a = answer-is program c (contents_in received) f.state g.0 n place session value g.1

    half : HalfFacts program c sent received q
    half = half-append program c sent received None p r (half-of program c sent received p s.up) g.0 s.no_end tt g.1 founded (well-needs program c received (all_of p.log) f.state r f.is_state s.up.logs.ends_well)

    state : state_after program c received (all_of p.log ++ r ∷ []) ≡ Some g.0
    state = after-push program c received (all_of p.log) r f.state g.0 f.is_state g.1

    well : EndsWell program c received (all_of q.log)
    well = subst (EndsWell program c received) (sym (all-append program c None p r)) (subst (λ o. IsSomeAnd o (λ x. (standing_of program c x).failed ≡ None)) (sym state) (subst (λ (x : Hist). (standing_of program c x).failed ≡ None) a.1 (fails-alike program c p.vol f.state session value f.mirrors ∙ fails)))

    more : Follows program c received q.vol (all_of p.log ++ r ∷ [])
    more = follows-append program c received None p.vol (all_of p.log) r f g.0 s.no_end tt g.1

    up : (b : Bool) → must_force p.vol q.vol ≡ b → UpFacts program c sent received (force_if b q)
    up true e = half-forced program c sent received q half well
    up false e =
        half-buffered program c sent received q half well
        (marks-append program c received None p.vol p.log.forced (all_of p.log) r f g.0 s.no_end tt g.1 (λ x. refl) (behind program c received p.log.forced p.log.buffered f.state f.is_state) s.up.marks)
        (txn-answered program c received p.log.forced f.state place session value p.vol q.vol a.0 f.mirrors (subst (Mirrors q.vol) (same_Some more.state g.0 (sym more.is_state ∙ state) ∙ sym a.1) more.mirrors) e s.up.txn)
        (list_any-append is_input p.log.buffered (r ∷ []) ∙ ap (λ y. y || false) s.up.inputs)

    there : force_where p.vol d (absorb_choice program c d p) ≡ force_if (must_force p.vol q.vol) q
    there = ap (force_where p.vol d) absorbed ∙ ap (λ b. cover_if b (force_if (d.forces || must_force p.vol q.vol) q)) covers ∙ ap (λ b. force_if (b || must_force p.vol q.vol) q) forces

-- an answer with which a need fails
twofold : (program : Program) (c : ComId) (sent received : List Packet) (p : Pcom) (s : AtStep program c sent received p) (n place : ℕ) (session : Session) (value : ℤ) → n ≡ p.vol.txn.begun →
    IsSomeAnd (begun_in program c received (all_of p.log) n) (λ b. Contains received (packets.OpReply b.tcom c n place session value)) → (line : ℕ) → fails_with program c p.vol value ≡ Some line →
    IsSome (state_after program c received (all_of p.log ++ Value n place session value ∷ Outcome (p.vol.clock + 1) p.vol.txn.begun (Some (Need line)) ∷ [])) →
    (d : Effects) → absorb_choice program c d p ≡ append program c None (append program c None p (Value n place session value)) (Outcome (p.vol.clock + 1) p.vol.txn.begun (Some (Need line))) → d.forces ≡ false → d.covers ≡ false → d.is_quiet ≡ false → d.answers ≡ [] → Keeps program c sent received p d
twofold program c sent received p s n place session value number founded line fails some d absorbed forces covers loud silent =
    subst (λ y. StepKept program c sent received (put_out c p.vol d y)) (sym there)
    (put-kept program c sent received p.vol d (force_if (must_force p.vol q.vol) q) loud (up (must_force p.vol q.vol) refl) (s.pending sent received (force_if (must_force p.vol q.vol) q) (up (must_force p.vol q.vol) refl)) (λ x h. empty x (subst (λ l. Contains l x) silent h)))
  where
    f : Follows program c received p.vol (all_of p.log)
    f = s.up.follows

    r : Record
    r = Value n place session value

    z : Record
    z = Outcome (p.vol.clock + 1) p.vol.txn.begun (Some (Need line))

    m : Pcom
    m = append program c None p r

    q : Pcom
    q = append program c None m z

    two : (all_of p.log ++ r ∷ []) ++ z ∷ [] ≡ all_of p.log ++ r ∷ z ∷ []
    two = append_assoc (all_of p.log) (r ∷ []) (z ∷ [])

    first : IsSome (state_after program c received (all_of p.log ++ r ∷ []))
    first = some-front program c received (all_of p.log ++ r ∷ []) (z ∷ []) (subst (λ l. IsSome (state_after program c received l)) (sym two) some)

    g : (x : Hist) × (apply program c (contents_in received) f.state r ≡ Some x)
    g = one-applied program c received (all_of p.log) f.state r f.is_state first

    a : (is_awaited_at f.state.stage place session ≡ true) × (answered program c f.state session (f.state.now ++ value ∷ []) ≡ g.0)
    a = answer-is program c (contents_in received) f.state g.0 n place session value g.1

    half : HalfFacts program c sent received m
    half = half-append program c sent received None p r (half-of program c sent received p s.up) g.0 s.no_end tt g.1 founded (well-needs program c received (all_of p.log) f.state r f.is_state s.up.logs.ends_well)

    marks : Marks program c received m.vol p.log.forced
    marks = marks-append program c received None p.vol p.log.forced (all_of p.log) r f g.0 s.no_end tt g.1 (λ x. refl) (behind program c received p.log.forced p.log.buffered f.state f.is_state) s.up.marks

    failed : (standing_of program c half.follows.state).failed ≡ Some line
    failed = ap (λ (x : Hist). (standing_of program c x).failed) (same_Some half.follows.state g.0 (sym half.follows.is_state ∙ ap (state_after program c received) (all-append program c None p r) ∙ after-push program c received (all_of p.log) r f.state g.0 f.is_state g.1) ∙ sym a.1) ∙ fails-alike program c p.vol f.state session value f.mirrors ∙ fails

    k : (x : Hist) × (apply program c (contents_in received) half.follows.state z ≡ Some x)
    k = one-applied program c received (all_of m.log) half.follows.state z half.follows.is_state (subst (λ l. IsSome (state_after program c received (l ++ z ∷ []))) (sym (all-append program c None p r)) (subst (λ l. IsSome (state_after program c received l)) (sym two) some))

    need : FollowsNeed program c (all_of m.log) half.follows.state z
    need pre i at ses v is = subst (λ o. MatchOption o ⊤ (λ l. IsNeedOutcome i l z)) (sym failed) (p.vol.clock + 1, ap (λ j. Outcome (p.vol.clock + 1) j (Some (Need line))) (sym number ∙ same i at ses v pre is))
      where
        same : (i at : ℕ) (ses : Session) (v : ℤ) (pre : List Record) → all_of m.log ≡ pre ++ Value i at ses v ∷ [] → n ≡ i
        same i at ses v pre is = number-of n i place at session ses value v (sym (last-push r (all_of p.log) r) ∙ ap (last_or r) (sym (all-append program c None p r) ∙ is) ∙ last-push r pre (Value i at ses v))

    whole : HalfFacts program c sent received q
    whole = half-append program c sent received None m z half k.0 s.no_end tt k.1 (λ no_need asked. true-false (sym no_need)) need

    state : state_after program c received (all_of m.log ++ z ∷ []) ≡ Some k.0
    state = after-push program c received (all_of m.log) z half.follows.state k.0 half.follows.is_state k.1

    touch : Touches program c (contents_in received) half.follows.state k.0 z
    touch = touches-end program c (contents_in received) half.follows.state k.0 (p.vol.clock + 1) p.vol.txn.begun (Some (Need line)) k.1

    well : EndsWell program c received (all_of q.log)
    well = subst (EndsWell program c received) (sym (all-append program c None m z)) (touch-well program c received (all_of m.log ++ z ∷ []) half.follows.state k.0 z state touch)

    more : Follows program c received q.vol (all_of m.log ++ z ∷ [])
    more = follows-append program c received None m.vol (all_of m.log) z half.follows k.0 s.no_end tt k.1

    up : (b : Bool) → must_force p.vol q.vol ≡ b → UpFacts program c sent received (force_if b q)
    up true e = half-forced program c sent received q whole well
    up false e =
        half-buffered program c sent received q whole well
        (marks-append program c received None m.vol p.log.forced (all_of m.log) z half.follows k.0 s.no_end tt k.1 (λ x. refl) (behind program c received p.log.forced m.log.buffered half.follows.state half.follows.is_state) marks)
        (idle-txn program c received q.vol p.log.forced (touch-idle program c received (all_of m.log ++ z ∷ []) half.follows.state k.0 z m.vol q.vol touch state half.follows.mirrors (subst (Mirrors q.vol) (same_Some more.state k.0 (sym more.is_state ∙ state)) more.mirrors) (free e)))
        (ap (list_any is_input) (append_assoc p.log.buffered (r ∷ []) (z ∷ [])) ∙ list_any-append is_input p.log.buffered (r ∷ z ∷ []) ∙ ap (λ y. y || false) s.up.inputs)
      where
        free : must_force p.vol q.vol ≡ false → came_to_first m.vol q.vol ≡ false
        free e = ap (λ j. nat_lt j q.vol.txn.begun) (ap (λ y. y.begun) half.follows.mirrors.txn ∙ begun ∙ sym (ap (λ y. y.begun) f.mirrors.txn)) ∙ (flags (came_to_first p.vol q.vol) (came_further p.vol q.vol && is_committing q.vol.txn.stage) e).0
          where
            begun : half.follows.state.plain.begun ≡ f.state.plain.begun
            begun = ap (λ (x : Hist). x.plain.begun) (same_Some half.follows.state g.0 (sym half.follows.is_state ∙ ap (state_after program c received) (all-append program c None p r) ∙ after-push program c received (all_of p.log) r f.state g.0 f.is_state g.1) ∙ sym a.1)

    there : force_where p.vol d (absorb_choice program c d p) ≡ force_if (must_force p.vol q.vol) q
    there = ap (force_where p.vol d) absorbed ∙ ap (λ b. cover_if b (force_if (d.forces || must_force p.vol q.vol) q)) covers ∙ ap (λ b. force_if (b || must_force p.vol q.vol) q) forces

pub replies : (program : Program) (c : ComId) (sent received : List Packet) (p : Pcom) (s : AtStep program c sent received p) (from : ComId) (n place : ℕ) (session : Session) (value : ℤ) → Contains received (packets.OpReply from c n place session value) →
    (o : Option ℤ) → Txn.reply p.vol.txn (packets.OpReply from c n place session value) ≡ o → IsSome (state_after program c received (all_of p.log ++ (on_reply program c p.vol n place session o).adds)) → Keeps program c sent received p (on_reply program c p.vol n place session o)
replies program c sent received p s from n place session value got None e some = answering program c sent received p p s just_tail refl refl refl refl refl refl s.up (λ x h. empty x h)
replies program c sent received p s from n place session value got (Some answer) e some = by (fails_with program c p.vol answer) refl some
  where
    f : Follows program c received p.vol (all_of p.log)
    f = s.up.follows

    r : Record
    r = Value n place session answer

    x : ((is_on p.vol.txn.stage from && ((n == p.vol.txn.begun) && is_awaited_at p.vol.txn.stage place session)) ≡ true) × (value ≡ answer)
    x = chosen (is_on p.vol.txn.stage from && ((n == p.vol.txn.begun) && is_awaited_at p.vol.txn.stage place session)) value answer e

    on : is_on p.vol.txn.stage from ≡ true
    on = (and_parts (is_on p.vol.txn.stage from) ((n == p.vol.txn.begun) && is_awaited_at p.vol.txn.stage place session) x.0).0

    number_is : n ≡ p.vol.txn.begun
    number_is = equal-numbers n p.vol.txn.begun (and_parts (n == p.vol.txn.begun) (is_awaited_at p.vol.txn.stage place session) (and_parts (is_on p.vol.txn.stage from) ((n == p.vol.txn.begun) && is_awaited_at p.vol.txn.stage place session) x.0).1).0

    founded : IsSomeAnd (begun_in program c received (all_of p.log) n) (λ b. Contains received (packets.OpReply b.tcom c n place session answer))
    founded =
        let b = begun-on program c received p.vol (all_of p.log) s.up.follows from on in
        subst (λ o. IsSomeAnd o (λ (z : Begun). Contains received (packets.OpReply z.tcom c n place session answer))) (sym (ap (begun_in program c received (all_of p.log)) number_is ∙ b.1))
        (subst (λ t. Contains received (packets.OpReply t c n place session answer)) (sym b.2) (subst (λ z. Contains received (packets.OpReply from c n place session z)) x.1 got))

    by : (o : Option ℕ) → fails_with program c p.vol answer ≡ o → IsSome (state_after program c received (all_of p.log ++ Value n place session answer ∷ need_records p.vol o)) → Keeps program c sent received p (record just_tail { word = Changed; adds = Value n place session answer ∷ need_records p.vol o; aborted = need_abort p.vol o })
    by None fails y = alone program c sent received p s n place session answer founded fails y (record just_tail { word = Changed; adds = Value n place session answer ∷ []; aborted = None }) refl refl refl refl refl
    by (Some line) fails y = twofold program c sent received p s n place session answer number_is founded line fails y (record just_tail { word = Changed; adds = Value n place session answer ∷ Outcome (p.vol.clock + 1) p.vol.txn.begun (Some (Need line)) ∷ []; aborted = Some (p.vol.txn.begun, Need line) }) refl refl refl refl refl
