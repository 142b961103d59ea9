-- What a replayed state says of its transactions: each answer was asked for, all are of one session, and stand in the order of their places.
use Rattle.std.proofs.Common.{◌≡◌, refl, ◌∙◌, ap, sym, subst, ℕ, zero, suc, ◌+◌, ◌<◌, nat_lt, Bool, true, false, cond, not, ◌&&◌, ◌||◌, ◌==◌, List, [], ◌∷◌, ◌++◌, length, map, filter, take, slice_get, ℤ, Option, Some, None, option_map, option_and_then, arith, ◌⊎◌, inl, inr}
use Rattle.std.specs.Prelude.{IsTrue}
use Rattle.std.specs.List.{cons_option}
use Rattle.std.proofs.lemmas.List.{append_assoc, append-nil, length-append}
use Rattle.std.proofs.lemmas.List.Elements.{filter_map-append}
use Rattle.std.proofs.lemmas.Option.{same_Some}
use Rattle.ic_base.specs.declared.messages.ComId.{ComId}
use Rattle.ic_base.specs.declared.messages.Done.{Done}
use Rattle.ic_base.specs.declared.messages.Msg.{Msg}
use Rattle.ic_base.specs.declared.messages.Request.{Request}
use Rattle.ic_base.specs.declared.messages.Session.{Session}
use Rattle.ic_base.specs.declared.played.Played.{Played}
use Rattle.ic_base.specs.declared.played.Played.TheVariants.{Asks, Ready, NeedFails, Ends}
use Rattle.ic_base.specs.declared.scenario.Program.{Program}
use Rattle.ic_base.specs.declared.record.Record.{Record}
use Rattle.ic_base.specs.declared.record.Record.TheVariants.{Take, TakeWhole, Input, Value, Outcome, Released, Shown, Checkpoint, Epoch, Decided}
use Rattle.ic_base.specs.Programs.{is_a_tcom}
use Rattle.def_plain.specs.declared.world.PlainPcom.{PlainPcom}
use Rattle.def_plain.specs.declared.world.InHand.{InHand}
use Rattle.def_plain.specs.Cell.{Touch, TakesMessage, TakesInput, SeesAbort, SeesCommit, cell_step}
use Rattle.def_state.specs.Names.{same_identity, is_session}
use Rattle.def_state.specs.Txn.{Stage, Idle, Waiting, Answered, Committing, tcom_of, answered_in, is_awaited_at, is_committing}
use Rattle.def_state.specs.Fits.{fits}
use Rattle.def_state.specs.Hist.{Hist, Begun, Contents, apply, apply_all, after, first_hist, recorded, played_on, moved, moved_well, is_at_request, hand_plays, numbers_fit, touch_of, standing_of, last_ended, answered, identity_of, staged, opened, plays_again, nth}
use Rattle.def_facts.specs.Logs.{values_of, got_in, Got, in_places}
use Rattle.def_facts.specs.Playable.{IsPlayable, AreResults, IsResult}
use Rattle.law_replay.specs.Growing.{Grows}
use Rattle.law_replay.specs.Asking.{AreAsked, TxnAsked, AnswersWereAsked}
use Rattle.law_replay.proofs.Lists.{none-some, front, clash, same-sessions, passed}
use Rattle.law_replay.proofs.Lists.{back}
use Rattle.law_replay.proofs.Growing.{apply_none, applied_twice, states_grow}
use Rattle.law_replay.proofs.Lists.{equal-numbers}
use Rattle.law_replay.proofs.Hands.{values-more, open_is_in_hand, first-hand}
use Rattle.law_replay.proofs.Truth.{opened-grows}
use Rattle.law_replay.proofs.Talked.{map-places, Opened, StageIs, Talking, places-snoc, take-front, take-whole, empty-of, no-gots, Touching, touch-results, stage-first}

-- the invariant ---------------------------------------------------------------------------------------

asked-grows : (program : Program) (c : ComId) (gots more : List Got) (h g : Hist) (n : ℕ) → gots ≡ more → Grows h g → TxnAsked program c gots (opened h n) → TxnAsked program c more (opened g n)
asked-grows program c gots more h g n same grow x = (x.0, x.1, sym same ∙ x.2, λ i lt. let y = x.3 i lt in (y.0, y.1, opened-grows h g n y.0 grow y.2, y.3, y.4))

moved-talking : (program : Program) (c : ComId) (k : Contents) (rs : List Record) (r : Record) (h x g : Hist) (stamp : ℕ) (t : Option Touch) → Talking program c rs h → ((n : ℕ) → got_in n r ≡ None) → Grows h g →
    ((z : Touch) → t ≡ Some z → Touching program c x.plain z) → played_on program c x stamp t ≡ Some g → Talking program c (rs ++ r ∷ []) g
moved-talking program c k rs r h x g stamp None y no_answer grow are e = none-some g e
moved-talking program c k rs r h x g stamp (Some z) y no_answer grow are e = at (cell_step program c x.plain z) refl e
  where
    at : (o : Option PlainPcom) → cell_step program c x.plain z ≡ o → option_and_then (moved_well program c x stamp) o ≡ Some g → Talking program c (rs ++ r ∷ []) g
    at None is f = none-some g f
    at (Some p) is f =
        let m = passed (numbers_fit (moved program c x stamp p) && is_at_request (option_map (hand_plays program c p.vars []) p.hand)) (Some (moved program c x stamp p)) g f in
        let same : moved program c x stamp p ≡ g = same_Some (moved program c x stamp p) g m.1 in
        record {
          stage = subst (λ (v : Hist). StageIs program c (values_of (rs ++ r ∷ []) v.plain.begun) v.plain v.now v.stage) same
              (stage-first program c (values_of (rs ++ r ∷ []) p.begun) p p.hand refl (back (numbers_fit (moved program c x stamp p)) (is_at_request (option_map (hand_plays program c p.vars []) p.hand)) m.0) (touch-results program c x.plain p z (are z refl) is));
          each = λ n. asked-grows program c (values_of rs n) (values_of (rs ++ r ∷ []) n) h g n (sym (values-more rs r n (no_answer n))) grow (y.each n);
        }

same-talking : (program : Program) (c : ComId) (rs : List Record) (r : Record) (h x g : Hist) → Talking program c rs h → ((n : ℕ) → got_in n r ≡ None) → x.plain ≡ h.plain → x.begun ≡ h.begun → x.stage ≡ h.stage → x.now ≡ h.now → Some x ≡ Some g → Talking program c (rs ++ r ∷ []) g
same-talking program c rs r h x g y no_answer p b s n e = subst (Talking program c (rs ++ r ∷ [])) (same_Some x g e) (record {
  stage = subst (λ (q : PlainPcom). StageIs program c (values_of (rs ++ r ∷ []) q.begun) q x.now x.stage) (sym p) (subst (λ l. StageIs program c l h.plain x.now x.stage) (sym (values-more rs r h.plain.begun (no_answer h.plain.begun)))
      (subst (λ v. StageIs program c (values_of rs h.plain.begun) h.plain v x.stage) (sym n) (subst (StageIs program c (values_of rs h.plain.begun) h.plain h.now) (sym s) y.stage)));
  each = λ m. let z = y.each m in (z.0, z.1, values-more rs r m (no_answer m) ∙ z.2, λ i lt. let v = z.3 i lt in (v.0, v.1, ap (λ l. nth l m) b ∙ v.2, v.3, v.4));
})

-- one answer more
answered-talking : (program : Program) (c : ComId) (k : Contents) (rs : List Record) (h : Hist) (place : ℕ) (session : Session) (value : ℤ) → IsPlayable program → after program c k rs ≡ Some h → Talking program c rs h → (s : Stage) → h.stage ≡ s → is_awaited_at s place session ≡ true →
    Talking program c (rs ++ Value h.plain.begun place session value ∷ []) (answered program c h session (h.now ++ value ∷ []))
answered-talking program c k rs h place session value play is_h y Idle is ok = clash false ok refl
answered-talking program c k rs h place session value play is_h y (Answered t p s q) is ok = clash false ok refl
answered-talking program c k rs h place session value play is_h y (Committing t p s) is ok = clash false ok refl
answered-talking program c k rs h place session value play is_h y (Waiting t p s q) is ok = record { stage = stage; each = each }
  where
    n : ℕ
    n = h.plain.begun

    new : List ℤ
    new = h.now ++ value ∷ []

    st : (x : Opened program c h.plain t) × (length h.now ≡ p) × (hand_plays program c h.plain.vars h.now x.hand ≡ Asks t q) × (((p ≡ 0) × (s ≡ None)) ⊎ ((z : Session) × (s ≡ Some z) × (values_of rs n ≡ in_places 0 z h.now)))
    st = subst (StageIs program c (values_of rs n) h.plain h.now) is y.stage

    x : Opened program c h.plain t
    x = st.0

    inhand : (u : ComId) × (tcom_of h.stage ≡ Some u) × (opened h n ≡ Some (record { tcom = u; handler = x.hand.handler; vars = h.plain.vars; args = x.hand.args; done = x.hand.done })) × (map (λ (g : Got). g.value) (values_of rs n) ≡ h.now)
    inhand = let z = open_is_in_hand program c k rs h x.hand is_h x.is_hand in (z.0, z.1, z.2.0, z.2.1)

    u-is : inhand.0 ≡ t
    u-is = sym (same_Some t inhand.0 (sym (ap tcom_of is) ∙ inhand.1))

    the : Begun
    the = record { tcom = t; handler = x.hand.handler; vars = h.plain.vars; args = x.hand.args; done = x.hand.done }

    the-is : opened h n ≡ Some the
    the-is = inhand.2 ∙ ap (λ u. Some (record { tcom = u; handler = x.hand.handler; vars = h.plain.vars; args = x.hand.args; done = x.hand.done })) u-is

    place-is : p ≡ place
    place-is = equal-numbers p place (front (p == place) ((p == 0) || is_session s session) ok)

    old : values_of rs n ≡ in_places 0 session h.now
    old = by st.3
      where
        right : (a b : Bool) → a || b ≡ true → a ≡ false → b ≡ true
        right true b e f = clash true refl f
        right false b e f = e

        by : ((p ≡ 0) × (s ≡ None)) ⊎ ((z : Session) × (s ≡ Some z) × (values_of rs n ≡ in_places 0 z h.now)) → values_of rs n ≡ in_places 0 session h.now
        by (inl z) =
            let nil : h.now ≡ [] = empty-of h.now (st.1 ∙ z.0) in
            no-gots (values_of rs n) (inhand.3 ∙ nil) ∙ ap (in_places 0 session) (sym nil)
        by (inr z) = zero-case (p == 0) refl
          where
            zero-case : (b : Bool) → (p == 0) ≡ b → values_of rs n ≡ in_places 0 session h.now
            zero-case true e =
                let nil : h.now ≡ [] = empty-of h.now (st.1 ∙ equal-numbers p 0 e) in
                no-gots (values_of rs n) (inhand.3 ∙ nil) ∙ ap (in_places 0 session) (sym nil)
            zero-case false e =
                let ses : is_session (Some z.0) session ≡ true = subst (λ o. is_session o session ≡ true) z.1 (right (p == 0) (is_session s session) (back (p == place) ((p == 0) || is_session s session) ok) e) in
                z.2 ∙ ap (λ v. in_places 0 v h.now) (same-sessions z.0 session ses)

    self : (m : ℕ) → (m == m) ≡ true
    self m = grind arith

    got : Got
    got = record { place = place; session = session; value = value }

    more : values_of (rs ++ Value n place session value ∷ []) n ≡ in_places 0 session new
    more =
        filter_map-append (got_in n) rs (Value n place session value ∷ []) ∙ ap (λ b. values_of rs n ++ cons_option (cond b (Some got) None) []) (self n)
        ∙ ap (λ l. l ++ got ∷ []) old ∙ ap (λ i. in_places 0 session h.now ++ record { place = i; session = session; value = value } ∷ []) (sym place-is ∙ sym st.1 ∙ plus (length h.now)) ∙ sym (places-snoc 0 session h.now value)
      where
        plus : (i : ℕ) → i ≡ 0 + i
        plus i = omega arith

    long : length new ≡ p + 1
    long = length-append h.now (value ∷ []) ∙ ap (λ i. i + 1) st.1

    stage : StageIs program c (values_of (rs ++ Value n place session value ∷ []) n) h.plain new (staged (answered_in h.stage session) (option_map (hand_plays program c h.plain.vars new) h.plain.hand))
    stage =
        subst (StageIs program c (values_of (rs ++ Value n place session value ∷ []) n) h.plain new) (sym (ap (λ z. staged (answered_in z session) (option_map (hand_plays program c h.plain.vars new) h.plain.hand)) is ∙ ap (λ o. staged (Answered t p session q) (option_map (hand_plays program c h.plain.vars new) o)) x.is_hand))
        (at (hand_plays program c h.plain.vars new x.hand) refl)
      where
        positive : (i : ℕ) → 0 < i + 1
        positive i = omega arith

        at : (r : Played) → hand_plays program c h.plain.vars new x.hand ≡ r → StageIs program c (values_of (rs ++ Value n place session value ∷ []) n) h.plain new (staged (Answered t p session q) (Some r))
        at (Asks u z) e = (x, long, e ∙ ap (λ v. Asks v z) (play.asks_one c x.hand.handler h.plain.vars x.hand.args x.hand.done new t u x.request z x.results x.asks e), inr (session, refl, more))
        at (Ready u) e = (x, long, positive p, e ∙ ap Ready (play.ready_one c x.hand.handler h.plain.vars x.hand.args x.hand.done new t u x.request x.results x.asks e), more)
        at (NeedFails u line) e = (x, more)
        at (Ends vars sends outs) e = (x, more)

    each : (m : ℕ) → TxnAsked program c (values_of (rs ++ Value n place session value ∷ []) m) (opened h m)
    each m = at (m == n) refl
      where
        at : (b : Bool) → (m == n) ≡ b → TxnAsked program c (values_of (rs ++ Value n place session value ∷ []) m) (opened h m)
        at false e = let z = y.each m in (z.0, z.1, filter_map-append (got_in m) rs (Value n place session value ∷ []) ∙ ap (λ b. values_of rs m ++ cons_option (cond b (Some got) None) []) e ∙ append-nil (values_of rs m) ∙ z.2, z.3)
        at true e = subst (λ i. TxnAsked program c (values_of (rs ++ Value n place session value ∷ []) i) (opened h i)) (sym (equal-numbers m n e)) (session, new, more, asked)
          where
            z : TxnAsked program c (values_of rs n) (opened h n)
            z = y.each n

            were : z.1 ≡ h.now
            were = sym (map-places 0 z.0 z.1) ∙ ap (map (λ (g : Got). g.value)) (sym z.2) ∙ inhand.3

            tcom : IsTrue (is_a_tcom program t)
            tcom = (play.asks_keys c x.hand.handler h.plain.vars x.hand.args x.hand.done [] t x.request x.results x.asks).0

            asked : AreAsked program c (opened h n) new
            asked i lt = which (i == length h.now) refl
              where
                below : (a b : ℕ) → a < b + 1 → (a == b) ≡ false → a < b
                below a b l f = grind (arith, l, f)

                which : (b : Bool) → (i == length h.now) ≡ b → (b : Begun) × (r : Request) × (opened h n ≡ Some b) × IsTrue (is_a_tcom program b.tcom) × (plays_again program c b (take i new) ≡ Asks b.tcom r)
                which true f = (the, q, the-is, tcom, ap (plays_again program c the) (take-whole i h.now value (equal-numbers i (length h.now) f)) ∙ st.2)
                which false f =
                    let l2 : i < length h.now = below i (length h.now) (subst (λ v. i < v) (length-append h.now (value ∷ [])) lt) f in
                    let v = z.3 i (subst (λ w. i < length w) (sym were) l2) in
                    (v.0, v.1, v.2, v.3, ap (plays_again program c v.0) (take-front i h.now value l2 ∙ ap (take i) (sym were)) ∙ v.4)

-- what the results say where an outcome fits
abort-touching : (program : Program) (c : ComId) (gots : List Got) (p : PlainPcom) (now : List ℤ) (s : Stage) (n : ℕ) → StageIs program c gots p now s → Touching program c p (SeesAbort n)
unfolding Touching
abort-touching program c gots p now Idle n x hand is = none-some hand (sym x ∙ is)
abort-touching program c gots p now (Waiting t place session q) n x hand is =
    subst (λ (z : InHand). AreResults program c z.handler p.vars z.args z.done × IsResult program c z.handler p.vars z.args z.done Done.Aborted) (same_Some x.0.hand hand (sym x.0.is_hand ∙ is)) (x.0.results, (t, x.0.request, x.0.asks))
abort-touching program c gots p now (Answered t place session q) n x hand is =
    subst (λ (z : InHand). AreResults program c z.handler p.vars z.args z.done × IsResult program c z.handler p.vars z.args z.done Done.Aborted) (same_Some x.0.hand hand (sym x.0.is_hand ∙ is)) (x.0.results, (t, x.0.request, x.0.asks))
abort-touching program c gots p now (Committing t place session) n x hand is =
    subst (λ (z : InHand). AreResults program c z.handler p.vars z.args z.done × IsResult program c z.handler p.vars z.args z.done Done.Aborted) (same_Some x.0.hand hand (sym x.0.is_hand ∙ is)) (x.0.results, (t, x.0.request, x.0.asks))

commit-touching : (program : Program) (c : ComId) (gots : List Got) (p : PlainPcom) (now : List ℤ) (s : Stage) (n : ℕ) → StageIs program c gots p now s → is_committing s ≡ true → Touching program c p (SeesCommit n now)
unfolding Touching
commit-touching program c gots p now Idle n x ok hand is = none-some hand (sym x ∙ is)
commit-touching program c gots p now (Waiting t place session q) n x ok hand is = clash false ok refl
commit-touching program c gots p now (Answered t place session q) n x ok hand is = clash false ok refl
commit-touching program c gots p now (Committing t place session) n x ok hand is =
    subst (λ (z : InHand). AreResults program c z.handler p.vars z.args z.done × IsResult program c z.handler p.vars z.args z.done (Done.Committed now)) (same_Some x.0.hand hand (sym x.0.is_hand ∙ is)) (x.0.results, (t, x.3))

take-touching : (program : Program) (c : ComId) (p : PlainPcom) (s : ComId) (i h : ℕ) (args : List ℤ) (z : Touch) → TakesMessage s i h args ≡ z → Touching program c p z
unfolding Touching
take-touching program c p s i h args z e = subst (Touching program c p) e tt

input-touching : (program : Program) (c : ComId) (p : PlainPcom) (h : ℕ) (args : List ℤ) (z : Touch) → TakesInput h args ≡ z → Touching program c p z
unfolding Touching
input-touching program c p h args z e = subst (Touching program c p) e tt

record-talking : (program : Program) (c : ComId) (k : Contents) (rs : List Record) (h g : Hist) (r : Record) → IsPlayable program → after program c k rs ≡ Some h → Talking program c rs h → fits program c (standing_of program c h) r ≡ true → recorded program c k h r ≡ Some g → Grows h g → Talking program c (rs ++ r ∷ []) g
record-talking program c k rs h g (Take from i stamp) play is_h y ok e grow = moved-talking program c k rs (Take from i stamp) h h g stamp (touch_of k h.now (Take from i stamp)) y (λ n. refl) grow (are (k from i)) e
  where
    are : (o : Option Msg) → (z : Touch) → option_map (λ m. TakesMessage from i m.handler m.args) o ≡ Some z → Touching program c h.plain z
    are None z f = none-some z f
    are (Some m) z f = take-touching program c h.plain from i m.handler m.args z (same_Some (TakesMessage from i m.handler m.args) z f)
record-talking program c k rs h g (TakeWhole from i stamp handler args) play is_h y ok e grow =
    moved-talking program c k rs (TakeWhole from i stamp handler args) h h g stamp (touch_of k h.now (TakeWhole from i stamp handler args)) y (λ n. refl) grow (λ z f. take-touching program c h.plain from i handler args z (same_Some (TakesMessage from i handler args) z f)) e
record-talking program c k rs h g (Input stamp handler args) play is_h y ok e grow =
    moved-talking program c k rs (Input stamp handler args) h h g stamp (touch_of k h.now (Input stamp handler args)) y (λ n. refl) grow (λ z f. input-touching program c h.plain handler args z (same_Some (TakesInput handler args) z f)) e
record-talking program c k rs h g (Outcome stamp n None) play is_h y ok e grow =
    moved-talking program c k rs (Outcome stamp n None) h (last_ended h) g stamp (touch_of k h.now (Outcome stamp n None)) y (λ m. refl) grow
    (λ z f. subst (Touching program c h.plain) (same_Some (SeesCommit n h.now) z f) (commit-touching program c (values_of rs h.plain.begun) h.plain h.now h.stage n y.stage (back (n == h.plain.begun) (is_committing h.stage) (back (nat_lt h.clock stamp) ((n == h.plain.begun) && is_committing h.stage) ok)))) e
record-talking program c k rs h g (Outcome stamp n (Some cause)) play is_h y ok e grow =
    moved-talking program c k rs (Outcome stamp n (Some cause)) h (last_ended h) g stamp (touch_of k h.now (Outcome stamp n (Some cause))) y (λ m. refl) grow
    (λ z f. subst (Touching program c h.plain) (same_Some (SeesAbort n) z f) (abort-touching program c (values_of rs h.plain.begun) h.plain h.now h.stage n y.stage)) e
record-talking program c k rs h g (Value n place session value) play is_h y ok e grow =
    let same : n ≡ h.plain.begun = equal-numbers n h.plain.begun (front (n == h.plain.begun) (is_awaited_at h.stage place session) ok) in
    subst (λ m. Talking program c (rs ++ Value m place session value ∷ []) g) (sym same)
    (subst (Talking program c (rs ++ Value h.plain.begun place session value ∷ [])) (same_Some (answered program c h session (h.now ++ value ∷ [])) g e)
    (answered-talking program c k rs h place session value play is_h y h.stage refl (back (n == h.plain.begun) (is_awaited_at h.stage place session) ok)))
record-talking program c k rs h g (Released to i) play is_h y ok e grow = same-talking program c rs (Released to i) h (record h { held = filter (λ m. not (same_identity (record { peer = to; k = i }) (identity_of m))) h.held }) g y (λ n. refl) refl refl refl refl e
record-talking program c k rs h g (Shown m) play is_h y ok e grow = same-talking program c rs (Shown m) h (record h { unshown = filter (λ o. not (o.m == m)) h.unshown; shown = m }) g y (λ n. refl) refl refl refl refl e
record-talking program c k rs h g (Checkpoint image) play is_h y ok e grow = same-talking program c rs (Checkpoint image) h h g y (λ n. refl) refl refl refl refl e
record-talking program c k rs h g (Epoch epoch) play is_h y ok e grow = none-some g e
record-talking program c k rs h g (Decided stamp d n writes) play is_h y ok e grow = none-some g e

all-talking : (program : Program) (c : ComId) (k : Contents) (pre rs : List Record) (h g : Hist) → IsPlayable program → after program c k pre ≡ Some h → Talking program c pre h → apply_all program c k (Some h) rs ≡ Some g → Talking program c (pre ++ rs) g
all-talking program c k pre [] h g play is_h y e = subst (λ l. Talking program c l g) (sym (append-nil pre)) (subst (Talking program c pre) (same_Some h g e) y)
all-talking program c k pre (r ∷ rs) h g play is_h y e = at (apply program c k h r) refl e (λ z. all-talking program c k (pre ++ r ∷ []) rs z g play)
  where
    at : (o : Option Hist) → apply program c k h r ≡ o → apply_all program c k o rs ≡ Some g → ((z : Hist) → after program c k (pre ++ r ∷ []) ≡ Some z → Talking program c (pre ++ r ∷ []) z → apply_all program c k (Some z) rs ≡ Some g → Talking program c ((pre ++ r ∷ []) ++ rs) g) → Talking program c (pre ++ r ∷ rs) g
    at None is f more = none-some g (sym (apply_none program c k rs) ∙ f)
    at (Some z) is f more =
        let p = passed (fits program c (standing_of program c h) r) (recorded program c k h r) z is in
        subst (λ l. Talking program c l g) (append_assoc pre (r ∷ []) rs)
        (more z (applied_twice program c k (Some (first_hist program c)) pre (r ∷ []) ∙ ap (λ o. apply_all program c k o (r ∷ [])) is_h ∙ is) (record-talking program c k pre h z r play is_h y p.0 p.1 (states_grow program c k (r ∷ []) h z is)) f)

nth-none : (n : ℕ) → (xs : List Begun) → xs ≡ [] → nth xs n ≡ None
nth-none zero xs e = refl
nth-none (suc n) xs e = ap (λ l. slice_get l n) e

pub states-talk : (program : Program) (c : ComId) (k : Contents) (rs : List Record) (h : Hist) → IsPlayable program → after program c k rs ≡ Some h → Talking program c rs h
states-talk program c k rs h play e = all-talking program c k [] rs (first_hist program c) h play refl start e
  where
    below-none : {B : Type 0} (i : ℕ) → i < 0 → B
    below-none i lt = absurd (omega (arith, lt))

    start : Talking program c [] (first_hist program c)
    start = record {
      stage = first-hand (slice_get program.components c.0);
      each = λ n. (record { epoch = 0; counter = 0 }, [], refl, λ i lt. below-none i lt);
    }

pub answers_were_asked : AnswersWereAsked
answers_were_asked program c k rs h play e = (states-talk program c k rs h play e).each
