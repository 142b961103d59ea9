-- The steps of a Pcom, call by call.
use Rattle.std.proofs.Common.{◌≡◌, refl, ◌∙◌, ap, sym, subst, ℕ, ◌+◌, ◌<◌, max, Bool, true, false, cond, ◌&&◌, ◌||◌, ◌==◌, nat_le, nat_lt, ◌⊎◌, inl, inr, ⊎_elim, List, [], ◌∷◌, ◌++◌, map, find, ℤ, Option, Some, None, option_map, option_and_then, option_to_list, arith}
use Rattle.std.specs.Prelude.{Contains, IsSomeAnd, IsSome}
use Rattle.std.specs.List.{list_any, filter_map}
use Rattle.std.proofs.lemmas.Bool.{and_parts}
use Rattle.std.proofs.lemmas.List.Folds.{list_any-append}
use Rattle.std.proofs.lemmas.Option.{none-some, same_Some}
use Rattle.ic_base.specs.declared.messages.ComId.{ComId}
use Rattle.ic_base.specs.declared.messages.Msg.{Msg}
use Rattle.ic_base.specs.declared.messages.Output.{Output}
use Rattle.ic_base.specs.declared.messages.Level.TheVariants.{Taken, Stable as Stands, Installed as Kept}
use Rattle.ic_base.specs.declared.messages.Packet.{Packet}
use Rattle.ic_base.specs.declared.messages.Packet.TheVariants.{Data, Stable, Installed, Fetch, Op, OpReply, Commit, Outcome, Drop}
use Rattle.ic_base.specs.declared.scenario.Program.{Program}
use Rattle.ic_base.specs.declared.record.Record.{Record}
use Rattle.ic_base.specs.declared.record.Record.TheVariants.{Take, TakeWhole, Input, Released, Shown}
use Rattle.ic_base.specs.Programs.{is_immediate}
use Rattle.def_state.specs.Names.{Identity, same_identity}
use Rattle.def_state.specs.Inbox
use Rattle.def_state.specs.Inbox.{Receipt, level_of}
use Rattle.def_state.specs.Outbox
use Rattle.def_state.specs.Outbox.{Held, is_held_as}
use Rattle.def_state.specs.Txn.{is_idle, is_committing}
use Rattle.def_state.specs.Hist.{Hist, apply, standing_of, hand_plays}
use Rattle.def_state.specs.Fits.{failed_line}
use Rattle.def_state.specs.Vol.{Vol}
use Rattle.def_state.specs.Mirrors.{Mirrors}
use Rattle.def_step.specs.Pcom.{Pcom, Effects, all_of, force_if, append, marked, put_out, must_force, came_to_first, came_further, force_where, cover_if, carry_out, absorb, absorb_choice, just_tail, nothing_at_all, on_data, on_emit, on_stable, on_fetch, take_record, level_answer, in_hand, forced_end, place_of, StepKind, Took, Busy, Changed, Same}
use Rattle.def_facts.specs.Logs.{IsConsistent, contents_in, message_in, has_identity, is_input, receives_whole}
use Rattle.def_facts.specs.Pcom.{state_after, begun_in, EndsWell, has_receipt}
use Rattle.law_replay.proofs.Lists.{equal-numbers, same-com, true-false, empty, same-identity, at_most}
use Rattle.law_replay.proofs.Lists.{head-or-tail}
use Rattle.law_pcom.specs.Mirroring.{IsContentOf, NoPartEnds}
use Rattle.law_pcom.specs.Keeping.{Follows}
use Rattle.law_pcom.specs.Recording.{IsFounded}
use Rattle.law_pcom.specs.Tailing.{TxnForced, PendingIsTrue}
use Rattle.law_pcom.specs.Upkeep.{UpFacts, HalfFacts}
use Rattle.law_pcom.specs.Stepping.{StepKept}
use Rattle.law_pcom.proofs.Following.{behind, follows-append, marks-append, after-push}
use Rattle.law_replay.proofs.Applying.{Rests, what, is_value}
use Rattle.law_pcom.proofs.Upkeep.{up-marked}
use Rattle.law_pcom.proofs.Parts.{all-append, half-of, half-append, half-forced, half-buffered, MayPut, put-kept, quiet-kept, one-applied, well-needs, touch-well, touch-idle, idle-txn}
use Rattle.law_replay.proofs.Members.{any-has, mapped-has, mapped-keeps, found, found-one}

-- what is known in a step, and what has to be shown of its choice
pub record AtStep (program : Program) (c : ComId) (sent received : List Packet) (p : Pcom) : Type 0 where
  pub no_end : NoPartEnds program
  pub up : UpFacts program c sent received p
  pub pending : (s r : List Packet) (q : Pcom) → UpFacts program c s r q → PendingIsTrue program c r q.vol q.log.forced

abbrev pub Keeps : Program → ComId → List Packet → List Packet → Pcom → Effects → Type 0
Keeps program c sent received p d = StepKept program c sent received (carry_out program c p d)

nothing-put : (program : Program) (c : ComId) (received : List Packet) (q : Pcom) (x : Packet) → Contains [] x → MayPut program c received q x
nothing-put program c received q x h = empty x h

pub quiet : (program : Program) (c : ComId) (sent received : List Packet) (p : Pcom) → AtStep program c sent received p → (w : StepKind) (answers : List Packet) → ((x : Packet) → Contains answers x → MayPut program c received p x) → Keeps program c sent received p (record nothing_at_all { word = w; answers = answers })
quiet program c sent received p s w answers may = at (must_force p.vol p.vol) (same-txn p.vol)
  where
    below : (n : ℕ) → nat_lt n n ≡ false
    below n = grind arith

    same-txn : (v : Vol) → must_force v v ≡ false
    same-txn v = ap (λ b. b || (nat_lt (place_of v.txn.stage) (place_of v.txn.stage) && is_committing v.txn.stage)) (below v.txn.begun) ∙ ap (λ b. b && is_committing v.txn.stage) (below (place_of v.txn.stage))

    at : (b : Bool) → b ≡ false → StepKept program c sent received (put_out c p.vol (record nothing_at_all { word = w; answers = answers }) (force_if b p))
    at true e = true-false (sym e)
    at false e = quiet-kept program c sent received p (record nothing_at_all { word = w; answers = answers }) answers s.up may

-- no record: a mark at most, and answers
pub answering : (program : Program) (c : ComId) (sent received : List Packet) (p q : Pcom) → AtStep program c sent received p → (d : Effects) → d.adds ≡ [] → d.forces ≡ false → d.covers ≡ false → d.is_quiet ≡ false → absorb_choice program c d p ≡ q → q.vol.txn ≡ p.vol.txn → UpFacts program c sent received q →
    ((x : Packet) → Contains d.answers x → MayPut program c received q x) → Keeps program c sent received p d
answering program c sent received p q s d adds forces covers loud is txn up may =
    subst (λ y. StepKept program c sent received (put_out c p.vol d y)) (sym there) (put-kept program c sent received p.vol d q loud up (s.pending sent received q up) may)
  where
    below : (n : ℕ) → nat_lt n n ≡ false
    below n = grind arith

    same-txn : must_force p.vol q.vol ≡ false
    same-txn =
        ap (λ x. nat_lt p.vol.txn.begun x.begun || (nat_lt (place_of p.vol.txn.stage) (place_of x.stage) && is_committing x.stage)) txn
        ∙ ap (λ b. b || (nat_lt (place_of p.vol.txn.stage) (place_of p.vol.txn.stage) && is_committing p.vol.txn.stage)) (below p.vol.txn.begun)
        ∙ ap (λ b. b && is_committing p.vol.txn.stage) (below (place_of p.vol.txn.stage))

    there : force_where p.vol d (absorb_choice program c d p) ≡ q
    there =
        ap (force_where p.vol d) is
        ∙ ap (λ b. cover_if b (force_if (d.forces || must_force p.vol q.vol) q)) covers
        ∙ ap (λ b. force_if (b || must_force p.vol q.vol) q) forces
        ∙ ap (λ b. force_if b q) same-txn

-- a record that is no answer leaves the log ending well
pub well-behind : (program : Program) (c : ComId) (received : List Packet) (all : List Record) (h g : Hist) (r : Record) → is_value r ≡ false → state_after program c received all ≡ Some h → EndsWell program c received all → apply program c (contents_in received) h r ≡ Some g → EndsWell program c received (all ++ r ∷ [])
well-behind program c received all h g r no_value e well a = ⊎_elim (touch-well program c received (all ++ r ∷ []) h g r now) by_rest (what program c (contents_in received) h g r a)
  where
    now : state_after program c received (all ++ r ∷ []) ≡ Some g
    now = after-push program c received all r h g e a

    before : (standing_of program c h).failed ≡ None
    before = subst (λ o. IsSomeAnd o (λ x. (standing_of program c x).failed ≡ None)) e well

    by_rest : Rests h g r → EndsWell program c received (all ++ r ∷ [])
    by_rest t = subst (λ o. IsSomeAnd o (λ x. (standing_of program c x).failed ≡ None)) (sym now)
        (ap (λ x. option_and_then (λ hand. failed_line (hand_plays program c x.vars g.now hand)) x.hand) t.plain
        ∙ ap (λ xs. option_and_then (λ hand. failed_line (hand_plays program c h.plain.vars xs hand)) h.plain.hand) (t.calm no_value).0
        ∙ before)

-- what is open is forced behind such a record, where the step needn't force
txn-behind : (program : Program) (c : ComId) (received : List Packet) (all forced : List Record) (h g : Hist) (r : Record) (v w : Vol) → is_value r ≡ false → state_after program c received (all ++ r ∷ []) ≡ Some g → apply program c (contents_in received) h r ≡ Some g → Mirrors v h → Mirrors w g → must_force v w ≡ false →
    TxnForced program c received v forced → TxnForced program c received w forced
txn-behind program c received all forced h g r v w no_value now a m n free t = ⊎_elim (λ x. idle-txn program c received w forced (touch-idle program c received (all ++ r ∷ []) h g r v w x now m n (first (came_to_first v w) (came_further v w && is_committing w.txn.stage) free))) by_rest (what program c (contents_in received) h g r a)
  where
    first : (a b : Bool) → (a || b) ≡ false → a ≡ false
    first true b e = absurd (cc)
    first false b e = refl

    by_rest : Rests h g r → TxnForced program c received w forced
    by_rest x = record {
      open_begun = λ is. subst (λ k. IsSome (begun_in program c received forced k)) (sym begun) (t.open_begun (ap is_idle (sym stage) ∙ is));
      committing_forced = λ is. subst (λ s. IsSomeAnd (state_after program c received forced) (λ y. y.stage ≡ s)) (sym stage) (t.committing_forced (ap is_committing (sym stage) ∙ is));
    }
      where
        begun : w.txn.begun ≡ v.txn.begun
        begun = ap (λ y. y.begun) n.txn ∙ ap (λ y. y.begun) x.plain ∙ sym (ap (λ y. y.begun) m.txn)

        stage : w.txn.stage ≡ v.txn.stage
        stage = ap (λ y. y.stage) n.txn ∙ (x.calm no_value).1 ∙ sym (ap (λ y. y.stage) m.txn)

-- a record that is no answer, forced or not
pub one-record : (program : Program) (c : ComId) (sent received : List Packet) (p : Pcom) (s : AtStep program c sent received p) (content : Option Msg) (r : Record) (b : Bool) → is_value r ≡ false → IsContentOf (contents_in received) r content → IsSome (state_after program c received (all_of p.log ++ r ∷ [])) → IsFounded program c (all_of p.log) sent received s.up.follows.state r →
    (b ≡ false → (must_force p.vol (append program c content p r).vol ≡ false) × ((x : Identity) → receives_whole x r ≡ false) × (is_input r ≡ false)) → UpFacts program c sent received (force_if b (append program c content p r))
one-record program c sent received p s content r b no_value is some founded may = by b refl
  where
    f : Follows program c received p.vol (all_of p.log)
    f = s.up.follows

    g : (x : Hist) × (apply program c (contents_in received) f.state r ≡ Some x)
    g = one-applied program c received (all_of p.log) f.state r f.is_state some

    q : Pcom
    q = append program c content p r

    all : all_of q.log ≡ all_of p.log ++ r ∷ []
    all = all-append program c content p r

    half : HalfFacts program c sent received (append program c content p r)
    half = half-append program c sent received content p r (half-of program c sent received p s.up) g.0 s.no_end is g.1 founded (well-needs program c received (all_of p.log) f.state r f.is_state s.up.logs.ends_well)

    well : EndsWell program c received (all_of (append program c content p r).log)
    well = subst (EndsWell program c received) (sym (all-append program c content p r)) (well-behind program c received (all_of p.log) f.state g.0 r no_value f.is_state s.up.logs.ends_well g.1)

    more : Follows program c received (append program c content p r).vol (all_of p.log ++ r ∷ [])
    more = follows-append program c received content p.vol (all_of p.log) r f g.0 s.no_end is g.1

    by : (a : Bool) → b ≡ a → UpFacts program c sent received (force_if a (append program c content p r))
    by true e = half-forced program c sent received (append program c content p r) half well
    by false e =
        let x = may e in
        half-buffered program c sent received (append program c content p r) half well
        (marks-append program c received content p.vol p.log.forced (all_of p.log) r f g.0 s.no_end is g.1 x.1 (behind program c received p.log.forced p.log.buffered f.state f.is_state) s.up.marks)
        (txn-behind program c received (all_of p.log) p.log.forced f.state more.state r p.vol (append program c content p r).vol no_value more.is_state
        (g.1 ∙ sym (after-push program c received (all_of p.log) r f.state g.0 f.is_state g.1) ∙ more.is_state) f.mirrors more.mirrors x.0 s.up.txn)
        (list_any-append is_input p.log.buffered (r ∷ []) ∙ ap (λ y. y || (is_input r || false)) s.up.inputs ∙ ap (λ y. y || false) x.2)

-- a step that adds one record, and covers nothing
pub adding : (program : Program) (c : ComId) (sent received : List Packet) (p : Pcom) (s : AtStep program c sent received p) (d : Effects) (r : Record) → d.adds ≡ r ∷ [] → d.marks ≡ None → d.covers ≡ false → d.is_quiet ≡ false → d.answers ≡ [] → is_value r ≡ false → IsContentOf (contents_in received) r d.content → IsSome (state_after program c received (all_of p.log ++ r ∷ [])) → IsFounded program c (all_of p.log) sent received s.up.follows.state r →
    (d.forces ≡ false → ((x : Identity) → receives_whole x r ≡ false) × (is_input r ≡ false)) → Keeps program c sent received p d
adding program c sent received p s d r adds marks covers loud silent no_value is some founded may =
    subst (λ y. StepKept program c sent received (put_out c p.vol d y)) (sym there)
    (put-kept program c sent received p.vol d (force_if flag q) loud up (s.pending sent received (force_if flag q) up) (λ x h. empty x (subst (λ l. Contains l x) silent h)))
  where
    q : Pcom
    q = append program c d.content p r

    flag : Bool
    flag = d.forces || must_force p.vol q.vol

    absorbed : absorb_choice program c d p ≡ append program c d.content p r
    absorbed = ap (λ m. absorb program c d.content (marked p m) d.adds) marks ∙ ap (absorb program c d.content p) adds

    there : force_where p.vol d (absorb_choice program c d p) ≡ force_if (d.forces || must_force p.vol (append program c d.content p r).vol) (append program c d.content p r)
    there = ap (force_where p.vol d) absorbed ∙ ap (λ b. cover_if b (force_if (d.forces || must_force p.vol (append program c d.content p r).vol) (append program c d.content p r))) covers

    both : (a b : Bool) → (a || b) ≡ false → (a ≡ false) × (b ≡ false)
    both true b e = absurd (cc)
    both false b e = (refl, e)

    up : UpFacts program c sent received (force_if (d.forces || must_force p.vol (append program c d.content p r).vol) (append program c d.content p r))
    up = one-record program c sent received p s d.content r (d.forces || must_force p.vol (append program c d.content p r).vol) no_value is some founded
        (λ e. let z = both d.forces (must_force p.vol (append program c d.content p r).vol) e in let y = may z.0 in (z.1, y.0, y.1))

-- an input -----------------------------------------------------------------------------------------

pub gives : (program : Program) (c : ComId) (sent received : List Packet) (p : Pcom) (s : AtStep program c sent received p) (handler : ℕ) (args : List ℤ) (b : Bool) →
    let d = cond b nothing_at_all (record just_tail { word = Took; adds = Input (p.vol.clock + 1) handler args ∷ []; forces = true }) in IsSome (state_after program c received (all_of p.log ++ d.adds)) → Keeps program c sent received p d
gives program c sent received p s handler args true some = quiet program c sent received p s Same [] (nothing-put program c received p)
gives program c sent received p s handler args false some =
    adding program c sent received p s (record just_tail { word = Took; adds = Input (p.vol.clock + 1) handler args ∷ []; forces = true }) (Input (p.vol.clock + 1) handler args) refl refl refl refl refl refl tt some tt (λ e. true-false (sym e))

-- an output shown
pub emits : (program : Program) (c : ComId) (sent received : List Packet) (p : Pcom) (s : AtStep program c sent received p) (o : Option Output) → IsSome (state_after program c received (all_of p.log ++ (on_emit o).adds)) → Keeps program c sent received p (on_emit o)
emits program c sent received p s None some = quiet program c sent received p s Same [] (nothing-put program c received p)
emits program c sent received p s (Some o) some = adding program c sent received p s (on_emit (Some o)) (Shown o.m) refl refl refl refl refl refl tt some tt (λ e. (λ x. refl, refl))

-- a message released
pub installs : (program : Program) (c : ComId) (sent received : List Packet) (p : Pcom) (s : AtStep program c sent received p) (x : Identity) (b : Bool) → Contains received (Installed x.peer c x.k) →
    let d = cond b (record just_tail { adds = Released x.peer x.k ∷ []; word = Changed }) just_tail in IsSome (state_after program c received (all_of p.log ++ d.adds)) → Keeps program c sent received p d
installs program c sent received p s x true is some = adding program c sent received p s (record just_tail { adds = Released x.peer x.k ∷ []; word = Changed }) (Released x.peer x.k) refl refl refl refl refl refl tt some is (λ e. (λ y. refl, refl))
installs program c sent received p s x false is some = answering program c sent received p p s just_tail refl refl refl refl refl refl s.up (nothing-put program c received p)

-- a stable mark
pub stables : (program : Program) (c : ComId) (sent received : List Packet) (p : Pcom) (s : AtStep program c sent received p) (x : Identity) → Contains received (Stable x.peer c x.k) → Keeps program c sent received p (on_stable p x)
stables program c sent received p s x is = answering program c sent received p (marked p (Some x)) s (on_stable p x) refl refl refl refl refl refl (up-marked program c sent received p x is s.up) (nothing-put program c received (marked p (Some x)))

pub fetched : (program : Program) (c : ComId) (sent received : List Packet) (p : Pcom) → UpFacts program c sent received p → (x : Identity) (y : Packet) → Contains (map Data (option_to_list (Outbox.fetch p.vol.outbox x (forced_end p)))) y → MayPut program c received p y
fetched program c sent received p up x y h = at (find (λ z. is_held_as x z && nat_le z.at (forced_end p)) p.vol.outbox.held) refl h
  where
    at : (o : Option Held) → find (λ z. is_held_as x z && nat_le z.at (forced_end p)) p.vol.outbox.held ≡ o → Contains (map Data (option_to_list (option_map (λ (z : Held). z.msg) o))) y → MayPut program c received p y
    at None e k = empty y k
    at (Some m) e k = by (head-or-tail (Data m.msg) y [] k)
      where
        by : (Data m.msg ≡ y) ⊎ Contains [] y → MayPut program c received p y
        by (inl same) =
            let z = found (λ w. is_held_as x w && nat_le w.at (forced_end p)) p.vol.outbox.held m e in
            subst (MayPut program c received p) same (record { is_true = (up.marks.held_stands m z.0).1 (at_most m.at (forced_end p) (and_parts (is_held_as x m) (nat_le m.at (forced_end p)) z.1).1); fresh = λ n f. true-false f })
        by (inr w) = empty y w

pub fetches : (program : Program) (c : ComId) (sent received : List Packet) (p : Pcom) (s : AtStep program c sent received p) (x : Identity) → Keeps program c sent received p (on_fetch p x)
fetches program c sent received p s x = answering program c sent received p p s (on_fetch p x) refl refl refl refl refl refl s.up (fetched program c sent received p s.up x)

-- a message -----------------------------------------------------------------------------------------

message-of : (q : Packet) (m : Msg) → message_in q ≡ Some m → q ≡ Data m
message-of (Data x) m e = ap Data (same_Some x m e)
message-of (Stable from to k) m e = absurd (none-some m e)
message-of (Installed from to k) m e = absurd (none-some m e)
message-of (Fetch from to k) m e = absurd (none-some m e)
message-of (Op from to n place session request) m e = absurd (none-some m e)
message-of (OpReply from to n place session value) m e = absurd (none-some m e)
message-of (Commit from to n place session stamp) m e = absurd (none-some m e)
message-of (Outcome from to n place session decision) m e = absurd (none-some m e)
message-of (Drop from to n) m e = absurd (none-some m e)

-- a message that was received is the content of its identity
pub content-is : (received : List Packet) (m : Msg) → IsConsistent received → Contains received (Data m) → contents_in received m.from m.k ≡ Some m
content-is received m same h =
    let x = found-one (has_identity m.from m.k) (filter_map message_in received) m (mapped-keeps message_in received (Data m) m h refl) (self m.from.0 m.k) in
    let y = found (has_identity m.from m.k) (filter_map message_in received) x.0 x.1 in
    let p = mapped-has message_in received x.0 y.0 in
    let is : Contains received (Data x.0) = subst (Contains received) (message-of p.0 x.0 p.2) p.1 in
    let b = and_parts (m.from.0 == x.0.from.0) (m.k == x.0.k) y.1 in
    x.1 ∙ ap (λ z. Some z) (sym (same m x.0 h is (same-com m.from x.0.from b.0) (equal-numbers m.k x.0.k b.1)))
  where
    self : (a b : ℕ) → ((a == a) && (b == b)) ≡ true
    self a b = grind arith

above : (clock stamp : ℕ) → stamp < max clock stamp + 1
above clock stamp = omega arith

takes-new : (program : Program) (c : ComId) (sent received : List Packet) (p : Pcom) (s : AtStep program c sent received p) (m : Msg) (b : Bool) → contents_in received m.from m.k ≡ Some m →
    let r = cond b (TakeWhole m.from m.k (max p.vol.clock m.stamp + 1) m.handler m.args) (Take m.from m.k (max p.vol.clock m.stamp + 1)) in
    IsSome (state_after program c received (all_of p.log ++ r ∷ [])) → Keeps program c sent received p (record just_tail { word = Took; content = Some m; adds = r ∷ []; forces = b })
takes-new program c sent received p s m true is some =
    adding program c sent received p s (record just_tail { word = Took; content = Some m; adds = TakeWhole m.from m.k (max p.vol.clock m.stamp + 1) m.handler m.args ∷ []; forces = true }) (TakeWhole m.from m.k (max p.vol.clock m.stamp + 1) m.handler m.args) refl refl refl refl refl refl tt some
    (subst (λ o. IsSomeAnd o (λ x. (x.stamp < max p.vol.clock m.stamp + 1) × (x.handler ≡ m.handler) × (x.args ≡ m.args))) (sym is) (above p.vol.clock m.stamp, refl, refl)) (λ e. true-false (sym e))
takes-new program c sent received p s m false is some =
    adding program c sent received p s (record just_tail { word = Took; content = Some m; adds = Take m.from m.k (max p.vol.clock m.stamp + 1) ∷ []; forces = false }) (Take m.from m.k (max p.vol.clock m.stamp + 1)) refl refl refl refl refl refl is some
    (subst (λ o. IsSomeAnd o (λ x. x.stamp < max p.vol.clock m.stamp + 1)) (sym is) (above p.vol.clock m.stamp)) (λ e. (λ x. refl, refl))

-- one that isn't new is answered by its level
level-true : (program : Program) (c : ComId) (sent received : List Packet) (p : Pcom) (m : Msg) → UpFacts program c sent received p → Inbox.is_taken p.vol.inbox (record { peer = m.from; k = m.k }) ≡ true → (y : Packet) → Contains (level_answer c m (Inbox.level p.vol.inbox (record { peer = m.from; k = m.k }) (forced_end p))) y → MayPut program c received p y
level-true program c sent received p m up taken y h = at (find (λ (r : Receipt). same_identity (record { peer = m.from; k = m.k }) r.name) p.vol.inbox.receipts) refl h
  where
    in_taken : Contains p.vol.inbox.taken (record { peer = m.from; k = m.k })
    in_taken = let z = any-has (same_identity (record { peer = m.from; k = m.k })) p.vol.inbox.taken taken in subst (Contains p.vol.inbox.taken) (sym (same-identity (record { peer = m.from; k = m.k }) z.0 z.2)) z.1

    one : (z : Packet) → MayPut program c received p z → Contains (z ∷ []) y → MayPut program c received p y
    one z may k = ⊎_elim (λ same. subst (MayPut program c received p) same may) (λ w. empty y w) (head-or-tail z y [] k)

    none-any : (b : Bool) → list_any (has_receipt (record { peer = m.from; k = m.k })) p.vol.inbox.receipts ≡ b → find (λ (r : Receipt). same_identity (record { peer = m.from; k = m.k }) r.name) p.vol.inbox.receipts ≡ None → list_any (has_receipt (record { peer = m.from; k = m.k })) p.vol.inbox.receipts ≡ false
    none-any false is e = is
    none-any true is e =
        let z = any-has (has_receipt (record { peer = m.from; k = m.k })) p.vol.inbox.receipts is in
        let w = found-one (has_receipt (record { peer = m.from; k = m.k })) p.vol.inbox.receipts z.0 z.1 z.2 in
        absurd (none-some w.0 (sym e ∙ w.1))

    at : (o : Option Receipt) → find (λ (r : Receipt). same_identity (record { peer = m.from; k = m.k }) r.name) p.vol.inbox.receipts ≡ o → Contains (level_answer c m (Inbox.level_found (option_map (level_of (forced_end p)) o) (Inbox.is_taken p.vol.inbox (record { peer = m.from; k = m.k })))) y → MayPut program c received p y
    at None e k = one (Installed c m.from m.k) (record { is_true = (refl, up.marks.kept_forced (record { peer = m.from; k = m.k }) in_taken (inl (none-any (list_any (has_receipt (record { peer = m.from; k = m.k })) p.vol.inbox.receipts) refl e))); fresh = λ n f. true-false f })
        (subst (λ b. Contains (level_answer c m (Inbox.level_of_other b)) y) taken k)
    at (Some r) e k = by (nat_le r.at (forced_end p)) r.covered refl refl k
      where
        z : Contains p.vol.inbox.receipts r × (same_identity (record { peer = m.from; k = m.k }) r.name ≡ true)
        z = found (λ (w : Receipt). same_identity (record { peer = m.from; k = m.k }) w.name) p.vol.inbox.receipts r e

        name : ◌≡◌ {A = Identity} (record { peer = m.from; k = m.k }) r.name
        name = same-identity (record { peer = m.from; k = m.k }) r.name z.1

        by : (a b : Bool) → nat_le r.at (forced_end p) ≡ a → r.covered ≡ b → Contains (level_answer c m (cond a (cond b Kept Stands) Taken)) y → MayPut program c received p y
        by false b le covered w = empty y w
        by true true le covered w = one (Installed c m.from m.k) (record { is_true = (refl, up.marks.kept_forced (record { peer = m.from; k = m.k }) in_taken (inr (r, z.0, sym name, covered))); fresh = λ n f. true-false f }) w
        by true false le covered w = one (Stable c m.from m.k) (record {
          is_true = (refl, subst (λ (i : Identity). IsSomeAnd (state_after program c received p.log.forced) (λ h. Contains h.plain.receipts (i.peer, i.k))) (sym name) ((up.marks.received_stands r z.0).1 (at_most r.at (forced_end p) le)));
          fresh = λ n f. true-false f;
        }) w

abbrev choice_of : Program → ComId → Pcom → Msg → Bool → Bool → Effects
choice_of program c p m a b =
    cond a (record just_tail { answers = level_answer c m (Inbox.level p.vol.inbox (record { peer = m.from; k = m.k }) (forced_end p)) })
    (cond b (record nothing_at_all { word = Busy }) (record just_tail { word = Took; content = Some m; adds = take_record program c p.vol m ∷ []; forces = is_immediate program c }))

pub on_message : (program : Program) (c : ComId) (sent received : List Packet) (p : Pcom) (s : AtStep program c sent received p) (m : Msg) → contents_in received m.from m.k ≡ Some m → IsSome (state_after program c received (all_of p.log ++ (on_data program c p m).adds)) → Keeps program c sent received p (on_data program c p m)
on_message program c sent received p s m is some = by (Inbox.is_taken p.vol.inbox (record { peer = m.from; k = m.k })) (in_hand p) refl some
  where
    by : (a b : Bool) → Inbox.is_taken p.vol.inbox (record { peer = m.from; k = m.k }) ≡ a → IsSome (state_after program c received (all_of p.log ++ (choice_of program c p m a b).adds)) → Keeps program c sent received p (choice_of program c p m a b)
    by true b taken y = answering program c sent received p p s (choice_of program c p m true b) refl refl refl refl refl refl s.up (level-true program c sent received p m s.up taken)
    by false true taken y = quiet program c sent received p s Busy [] (nothing-put program c received p)
    by false false taken y = takes-new program c sent received p s m (is_immediate program c) is y
