-- Behind the joins: what the berths keep, each its own, and what their joined lanes tell, is all that the serial phase needs.
use Rattle.std.proofs.Common.{◌≡◌, refl, sym, ap, subst, ◌∙◌, ℕ, zero, suc, ◌+◌, ◌<◌, ◌≤◌, Bool, true, false, cond, ◌||◌, List, [], ◌∷◌, length, filter, arith, Option, Some, None, option_map, inl, inr, ◌⊎◌}
use Rattle.std.specs.Prelude.{slice_get}
use Rattle.std.proofs.lemmas.Bool.{both_ways, cases_eq}
use Rattle.std.proofs.lemmas.Option.{same_Some, slice_get_within}
use Rattle.ic_base.specs.declared.events.Event.{Event}
use Rattle.ic_base.specs.declared.messages.ComId.{ComId}
use Rattle.ic_base.specs.declared.messages.Kind.{Kind}
use Rattle.ic_base.specs.declared.messages.Kind.TheVariants.{Pcom, Tcom, Xcom}
use Rattle.ic_base.specs.declared.scenario.Component.{Component}
use Rattle.ic_base.specs.declared.scenario.Program.{Program}
use Rattle.ic_base.specs.Programs.{same_com, declares, is_pcom, is_tcom}
use Rattle.def_facts.specs.World.{kind_of}
use Rattle.def_run.specs.SystemStates.{KeepsLog, file_in, has_disk}
use Rattle.def_live.specs.Facts.{Part}
use Rattle.def_step.specs.World.{External, first_node}
use Rattle.def_live.specs.Lanes.{Lanes}
use Rattle.def_live.specs.Turns.{Berth, coms_from}
use Rattle.ic_lane.specs.Lanes.{In, Out}
use Rattle.law_live.specs.Closing.{AreClosed, IsEmptyBerth}
use Rattle.law_live.specs.Keeping.{BerthKeeps}
use Rattle.law_live.proofs.Keeping.{first_berths_keep}
use Rattle.law_run.specs.ProgramBytes.{HasBytes}
use Rattle.ic_live.specs.Berthed.{berthed, lanes_of}
use Rattle.ic_live.specs.Ends.{AreApart, is_among, received_from, sent_to}
use Rattle.ic_live.specs.Grids.{Paired, InOrder}
use Rattle.ic_turn.specs.Standings.{Standing, files_with}
use Rattle.ic_live.specs.Standings.{IsKept, berth_of}
use Rattle.ic_live.proofs.Peers.{berthed-apart, berthed-has, berthed-within, place-or_none, none-read, own-lanes, lanes-joined}
use Rattle.ic_live.proofs.Ends.{self-com, among-there}
use Rattle.ic_turn.proofs.Places.{there}

pub none-past : {X : Type 0} (xs : List X) (k : ℕ) → slice_get xs k ≡ None → length xs ≤ k
none-past [] k e = omega arith
none-past (x ∷ xs) zero e = absurd (cc e)
none-past (x ∷ xs) (suc k) e = omega (arith, none-past xs k e)

-- a declared component that has a disk has a berth
among-berthed : (program : Program) (c : ComId) → c.0 < length program.components → has_disk program c ≡ true → is_among (berthed program) c ≡ true
among-berthed program c within has = by 0 program.components (omega arith) (omega (arith, within))
  where
    here : (n : ℕ) → n ≡ c.0 → record { 0 = n } ≡ c
    here n e = let P : ℕ → ComId = λ k. record { 0 = k } in ap P e

    by : (n : ℕ) (xs : List Component) → n ≤ c.0 → c.0 < n + length xs → is_among (filter (has_disk program) (coms_from n xs)) c ≡ true
    by n [] l m = absurd (omega (arith, l, m))
    by n (x ∷ xs) l m = at (cases_eq n c.0) (λ later. by (n + 1) xs (omega (arith, l, later)) (omega (arith, m, later)))
      where
        rest : (b : Bool) → is_among (filter (has_disk program) (coms_from (n + 1) xs)) c ≡ true → is_among (cond b (record { 0 = n } ∷ filter (has_disk program) (coms_from (n + 1) xs)) (filter (has_disk program) (coms_from (n + 1) xs))) c ≡ true
        rest false more = more
        rest true more = or_right (same_com c (record { 0 = n })) more
          where
            or_right : (a : Bool) {b : Bool} → b ≡ true → (a || b) ≡ true
            or_right true e = refl
            or_right false e = e

        at : (n ≡ c.0) ⊎ (n ≡ c.0 → ⊥) → ((n ≡ c.0 → ⊥) → is_among (filter (has_disk program) (coms_from (n + 1) xs)) c ≡ true) → is_among (cond (has_disk program (record { 0 = n })) (record { 0 = n } ∷ filter (has_disk program) (coms_from (n + 1) xs)) (filter (has_disk program) (coms_from (n + 1) xs))) c ≡ true
        at (inl e) more =
            ap (λ b. is_among (cond b (record { 0 = n } ∷ filter (has_disk program) (coms_from (n + 1) xs)) (filter (has_disk program) (coms_from (n + 1) xs))) c) (ap (has_disk program) (here n e) ∙ has)
            ∙ ap (λ b. b || is_among (filter (has_disk program) (coms_from (n + 1) xs)) c) (ap (same_com c) (here n e) ∙ self-com c)
        at (inr o) more = rest (has_disk program (record { 0 = n })) (more o)

-- so one that has none is outside
outside-kind : (program : Program) (c : ComId) (k : Kind) → kind_of program c ≡ Some k → is_among (berthed program) c ≡ false → k ≡ Xcom
outside-kind program c k e none = by (slice_get program.components c.0) refl e
  where
    by : (o : Option Component) → slice_get program.components c.0 ≡ o → option_map (λ d. d.kind) o ≡ Some k → k ≡ Xcom
    by None is f = absurd (cc f)
    by (Some d) is f = kinds d.kind (same_Some d.kind k f)
      where
        clash : has_disk program c ≡ true → ⊥
        clash h = both_ways (is_among (berthed program) c) none (among-berthed program c (slice_get_within program.components c.0 d is) h)

        has : (a : Kind) → d.kind ≡ a → has_disk program c ≡ (is_pcom a || is_tcom a)
        has a s = ap (λ o. declares (λ x. is_pcom x.kind) o || declares (λ x. is_tcom x.kind) o) is ∙ ap (λ z. is_pcom z || is_tcom z) s

        kinds : (a : Kind) → a ≡ k → k ≡ Xcom
        kinds Pcom s = absurd (clash (has Pcom (same_Some d.kind k f ∙ sym s)))
        kinds Tcom s = absurd (clash (has Tcom (same_Some d.kind k f ∙ sym s)))
        kinds Xcom s = sym s

module _ (program : Program) (print : List ℕ) (plan : ComId → List Event) (outs : List (List Out)) (ins : List (List In)) (bytes : HasBytes program) (s : ℕ → Standing) (os : ℕ → List Out) (is : ℕ → List In)
    (at_outs : (i : ℕ) (c : ComId) → slice_get (berthed program) i ≡ Some c → slice_get outs i ≡ Some (os i)) (at_ins : (i : ℕ) (c : ComId) → slice_get (berthed program) i ≡ Some c → slice_get ins i ≡ Some (is i))
    (kept : (i : ℕ) (c : ComId) → slice_get (berthed program) i ≡ Some c → IsKept program print c (plan c) (s i) (is i) (os i)) where
  abbrev pub all : Lanes
  all = lanes_of (berthed program) outs ins

  -- one that has no berth
  nothing : ComId → Standing
  nothing c = record { node = elim (kind_of program c) [ None ↦ External | Some k ↦ first_node program c k ]; file = []; left = []; answers = []; shown = []; turns = 0 }

  abbrev pub Place : ComId → Type 0
  Place c = ((k : ℕ) × (slice_get (berthed program) k ≡ Some c)) ⊎ (is_among (berthed program) c ≡ false)

  berth_by : (c : ComId) → Place c → Berth
  berth_by c (inl k) = let x = kept k.0 c k.1 in berth_of program c (s k.0) x.sent x.received
  berth_by c (inr none) = berth_of program c (nothing c) [] []

  here_by : (c : ComId) → Place c → ℕ
  here_by c (inl k) = (kept k.0 c k.1).here
  here_by c (inr none) = 0

  plan_by : (c : ComId) → Place c → List Event
  plan_by c (inl k) = plan c
  plan_by c (inr none) = []

  pub berths : ComId → Berth
  berths c = berth_by c (place-or_none (berthed program) c)

  pub plans : ComId → List Event
  plans c = plan_by c (place-or_none (berthed program) c)

  keep_by : (c : ComId) (z : Place c) (k : Kind) → kind_of program c ≡ Some k → BerthKeeps program print c (plan_by c z) all (here_by c z) (berth_by c z)
  unfolding plan_by here_by berth_by nothing
  keep_by c (inl i) k e = let x = kept i.0 c i.1 in record {
    facts = x.keeps.facts;
    own = own-lanes (berthed program) (berthed-apart program) outs ins c i.0 (os i.0) (is i.0) x.sent x.received i.1 (at_outs i.0 c i.1) (at_ins i.0 c i.1) x.keeps.own;
    list = x.keeps.list;
    left = x.keeps.left;
  }
  keep_by c (inr none) k e = first_berths_keep program print c k all (berth_of program c (nothing c) [] []) bytes e
      (let P : Option Kind → Part = λ o. record { node = elim o [ None ↦ External | Some j ↦ first_node program c j ]; sent = []; received = []; showings = [] } in ap P e) refl
      (let P : Option Kind → Type 0 = λ o. KeepsLog print c (file_in (files_with program c []) c) (Some (elim o [ None ↦ External | Some j ↦ first_node program c j ])) in subst P (sym (e ∙ ap (λ j. Some j) (outside-kind program c k e none))) tt)
      (λ z h. absurd (omega (arith, h.1)))
      (λ to. none-read [] (λ (x : List Out). sent_to (berthed program) x to) (berthed program) outs c none)
      (λ from. none-read [] (λ (x : List In). received_from (berthed program) x from) (berthed program) ins c none)

  nobody_by : (c : ComId) (z : Place c) → kind_of program c ≡ None → IsEmptyBerth c all (berth_by c z)
  unfolding berth_by nothing
  nobody_by c (inl k) e = absurd (past (slice_get program.components c.0) refl e)
    where
      past : (o : Option Component) → slice_get program.components c.0 ≡ o → option_map (λ d. d.kind) o ≡ None → ⊥
      past None is f = let l = berthed-within program k.0 c k.1 in let m = none-past program.components c.0 is in omega (arith, l, m)
      past (Some d) is f = cc f
  nobody_by c (inr none) e = record {
    sent = refl;
    received = refl;
    showings = refl;
    left = refl;
    none_sent = λ to. none-read [] (λ (x : List Out). sent_to (berthed program) x to) (berthed program) outs c none;
    none_received = λ from. none-read [] (λ (x : List In). received_from (berthed program) x from) (berthed program) ins c none;
  }

  -- what all berths hand over
  pub are-closed : ((i : ℕ) (c : ComId) → slice_get (berthed program) i ≡ Some c → length (os i) ≡ length (berthed program)) → Paired InOrder outs ins → AreClosed program print plans all berths
  unfolding plans berths
  are-closed rows order = record {
    here = λ c. here_by c (place-or_none (berthed program) c);
    keep = λ c k e. keep_by c (place-or_none (berthed program) c) k e;
    nobody = λ c e. nobody_by c (place-or_none (berthed program) c) e;
    joined = lanes-joined (berthed program) (berthed-apart program) outs ins (λ i j d at. (os i, at_outs i d at, λ k e at_k. there (os i) (berthed program) k e (sym (rows i d at)) at_k)) order;
  }

  -- two places of one component are the same
  same-place : (peers : List ComId) (i j : ℕ) (c : ComId) → AreApart peers → slice_get peers i ≡ Some c → slice_get peers j ≡ Some c → i ≡ j
  same-place [] i j c apart a b = absurd (grind (arith, a))
  same-place (p ∷ peers) zero zero c apart a b = refl
  same-place (p ∷ peers) (suc i) (suc j) c apart a b = ap suc (same-place peers i j c apart.1 a b)
  same-place (p ∷ peers) zero (suc j) c apart a b = absurd (both_ways (is_among peers p) apart.0 (subst (λ z. is_among peers z ≡ true) (sym (same_Some p c a)) (among-there peers j c b)))
  same-place (p ∷ peers) (suc i) zero c apart a b = absurd (both_ways (is_among peers p) apart.0 (subst (λ z. is_among peers z ≡ true) (sym (same_Some p c b)) (among-there peers i c a)))

  -- the berth of the component in a place
  pub berth-at : (i : ℕ) (c : ComId) → slice_get (berthed program) i ≡ Some c → (k : ℕ) × (e : slice_get (berthed program) k ≡ Some c) × (k ≡ i) × (berths c ≡ berth_of program c (s k) (kept k c e).sent (kept k c e).received) × (plans c ≡ plan c)
  unfolding plans berths plan_by berth_by
  berth-at i c at = by (place-or_none (berthed program) c)
    where
      by : (z : Place c) → (k : ℕ) × (e : slice_get (berthed program) k ≡ Some c) × (k ≡ i) × (berth_by c z ≡ berth_of program c (s k) (kept k c e).sent (kept k c e).received) × (plan_by c z ≡ plan c)
      by (inl k) = (k.0, k.1, same-place (berthed program) k.0 i c (berthed-apart program) k.1 at, refl, refl)
      by (inr none) = absurd (both_ways (is_among (berthed program) c) none (among-there (berthed program) i c at))

  -- one that has no disk has no berth, and leaves nothing
  pub outside-left : (c : ComId) → has_disk program c ≡ false → (berths c).left ≡ []
  unfolding berths berth_by nothing
  outside-left c none = by (place-or_none (berthed program) c)
    where
      by : (z : Place c) → (berth_by c z).left ≡ []
      by (inl k) = absurd (both_ways (has_disk program c) none (berthed-has program k.0 c k.1))
      by (inr none) = refl
