-- The first output that is due is the oldest that isn't shown.
use Rattle.std.proofs.Common.{◌≡◌, refl, ◌∙◌, ap, sym, subst, ℕ, ◌+◌, ◌<◌, ◌≤◌, nat_le, Bool, true, false, cond, List, [], ◌∷◌, ◌++◌, map, Some, option_map, find, drop, length, ◌⊎◌, inl, inr, arith}
use Rattle.std.specs.Prelude.{Contains}
use Rattle.std.proofs.lemmas.List.Elements.{Contains-append_cases}
use Rattle.std.proofs.lemmas.Option.{same_Some, none-some}
use Rattle.ic_base.specs.declared.messages.ComId.{ComId}
use Rattle.ic_base.specs.declared.messages.Out.{Out}
use Rattle.ic_base.specs.declared.messages.Output.{Output}
use Rattle.ic_base.specs.declared.messages.Packet.{Packet}
use Rattle.ic_base.specs.declared.scenario.Program.{Program}
use Rattle.def_state.specs.Shelf
use Rattle.def_state.specs.Shelf.{Waiting}
use Rattle.def_state.specs.Fits.{is_number_of}
use Rattle.def_state.specs.Hist.{Hist, outputs_of, number_outputs}
use Rattle.def_step.specs.Pcom.{Pcom, all_of, forced_end}
use Rattle.def_facts.specs.Logs.{contents_in}
use Rattle.def_facts.specs.Pcom.{state_after}
use Rattle.law_replay.proofs.Lists.{true-false, at_most, le-true, self-number, at-some, some-at, in-head, in-tail, mapped}
use Rattle.law_replay.proofs.Members.{map-in, found}
use Rattle.law_replay.proofs.Outputs.{outputs-below, outputs-above}
use Rattle.law_replay.proofs.Shown.{ShownUpTo, shown-up-to, numbered-append}
use Rattle.law_pcom.specs.Upkeep.{UpFacts}
use Rattle.law_pcom.proofs.Following.{Behind, behind}
use Rattle.law_pcom.proofs.Living.{lives}

head-is : {A : Type 0} (x : A) (xs : List A) (y : A) (ys : List A) → x ∷ xs ≡ y ∷ ys → x ≡ y
head-is x xs y ys e = cc

-- the first output that is due is the oldest
pub due-oldest : (program : Program) (c : ComId) (sent received : List Packet) (p : Pcom) → UpFacts program c sent received p → (o : Output) → Shelf.next_due p.vol.shelf (forced_end p) ≡ Some o → is_number_of (Shelf.oldest p.vol.shelf) o.m ≡ true
due-oldest program c sent received p up o e = at p.vol.shelf.waiting refl e
  where
    h : Hist
    h = up.follows.state

    least : (n : ℕ) → nat_le 0 n ≡ true
    least n = grind arith

    oldest : (w : Waiting) (ws : List Waiting) → is_number_of (option_map (λ (x : Waiting). x.output.m) (find (λ (x : Waiting). nat_le 0 x.output.m) (w ∷ ws))) w.output.m ≡ true
    oldest w ws = ap (λ b. is_number_of (option_map (λ (x : Waiting). x.output.m) (cond b (Some w) (find (λ (x : Waiting). nat_le 0 x.output.m) ws))) w.output.m) (least w.output.m) ∙ self-number w.output.m

    shown : ShownUpTo (all_of p.log) up.follows.state
    shown = shown-up-to program c (contents_in received) (all_of p.log) up.follows.state up.follows.is_state

    b : Behind program c received p.log.forced (all_of p.log) up.follows.state
    b = behind program c received p.log.forced p.log.buffered up.follows.state up.follows.is_state

    -- the numbers of what waits
    numbers : (w : Waiting) (ws : List Waiting) → p.vol.shelf.waiting ≡ w ∷ ws → (y : Waiting) → Contains (w ∷ ws) y → w.output.m ≤ y.output.m
    numbers w ws is y z = first (drop up.follows.state.shown up.follows.state.plain.outs) (sym (up.follows.mirrors.waiting) ∙ ap (map (λ (x : Waiting). x.output)) is) (shown.rest)
      where
        first : (os : List Out) → up.follows.state.unshown ≡ w.output ∷ map (λ (x : Waiting). x.output) ws → up.follows.state.unshown ≡ number_outputs (up.follows.state.shown + 1) os → w.output.m ≤ y.output.m
        first [] a f = absurd (cc)
        first (x ∷ os) a f =
            let k : w.output ∷ map (λ (x : Waiting). x.output) ws ≡ number_outputs (up.follows.state.shown + 1) (x ∷ os) = sym a ∙ f in
            let le : up.follows.state.shown + 1 ≤ y.output.m = outputs-above (up.follows.state.shown + 1) (x ∷ os) y.output (subst (λ l. Contains l y.output) k (map-in (λ (i : Waiting). i.output) (w ∷ ws) y z)) in
            subst (λ n. n ≤ y.output.m) (sym (ap (λ (i : Output). i.m) (head-is w.output (map (λ (x : Waiting). x.output) ws) (record { m = up.follows.state.shown + 1; to = x.to; args = x.args }) (number_outputs (up.follows.state.shown + 1 + 1) os) k))) le

    -- one of a number that the forced records made stands there
    made : (front more : List Out) (y : Output) → Contains (number_outputs 1 (front ++ more)) y → y.m < 1 + length front → Contains (number_outputs 1 front) y
    made front more y z lt = by (Contains-append_cases (number_outputs 1 front) (number_outputs (1 + length front) more) y (subst (λ l. Contains l y) (numbered-append 1 front more) z))
      where
        by : Contains (number_outputs 1 front) y ⊎ Contains (number_outputs (1 + length front) more) y → Contains (number_outputs 1 front) y
        by (inl k) = k
        by (inr k) = absurd (omega (arith, lt, outputs-above (1 + length front) more y k))

    due : (w : Waiting) (ws : List Waiting) → p.vol.shelf.waiting ≡ w ∷ ws → (y : Waiting) → Contains ws y → nat_le y.at (forced_end p) ≡ true → w.at ≤ forced_end p
    due w ws is y z le =
        let here : Contains p.vol.shelf.waiting w = subst (λ l. Contains l w) (sym is) (in-head w ws) in
        let there : Contains p.vol.shelf.waiting y = subst (λ l. Contains l y) (sym is) (in-tail w y ws z) in
        let stands = at-some (λ (g : Hist). Contains (outputs_of g) y.output) (state_after program c received p.log.forced) b.state b.is_state ((up.marks.shelved_stands y there).1 (at_most y.at (forced_end p) le)) in
        let low : y.output.m < 1 + length b.state.plain.outs = outputs-below 1 b.state.plain.outs y.output stands in
        let more = b.grows.outs in
        let mine = (lives program c (contents_in received) (all_of p.log) up.follows.state up.follows.is_state).unshown_made w.output (subst (λ l. Contains l w.output) up.follows.mirrors.waiting (map-in (λ (i : Waiting). i.output) p.vol.shelf.waiting w here)) in
        let num = numbers w ws is y (in-tail w y ws z) in
        (up.marks.shelved_stands w here).0 (some-at (λ (g : Hist). Contains (outputs_of g) w.output) (state_after program c received p.log.forced) b.state b.is_state
        (made b.state.plain.outs more.0 w.output (subst (λ l. Contains (number_outputs 1 l) w.output) more.1 mine) (omega (arith, low, num))))

    at : (ws : List Waiting) → p.vol.shelf.waiting ≡ ws → option_map (λ (w : Waiting). w.output) (find (λ (w : Waiting). nat_le w.at (forced_end p)) ws) ≡ Some o → is_number_of (option_map (λ (w : Waiting). w.output.m) (find (λ (w : Waiting). nat_le 0 w.output.m) ws)) o.m ≡ true
    at [] is f = absurd (none-some o f)
    at (w ∷ ws) is f = by (nat_le w.at (forced_end p)) refl f
      where
        by : (d : Bool) → nat_le w.at (forced_end p) ≡ d → option_map (λ (x : Waiting). x.output) (cond d (Some w) (find (λ (x : Waiting). nat_le x.at (forced_end p)) ws)) ≡ Some o → is_number_of (option_map (λ (x : Waiting). x.output.m) (find (λ (x : Waiting). nat_le 0 x.output.m) (w ∷ ws))) o.m ≡ true
        by true d g = subst (λ (i : Output). is_number_of (option_map (λ (x : Waiting). x.output.m) (find (λ (x : Waiting). nat_le 0 x.output.m) (w ∷ ws))) i.m ≡ true) (same_Some w.output o g) (oldest w ws)
        by false d g =
            let y = mapped (λ (x : Waiting). x.output) (find (λ (x : Waiting). nat_le x.at (forced_end p)) ws) o g in
            let z = found (λ (x : Waiting). nat_le x.at (forced_end p)) ws y.0 y.1 in
            true-false (sym d ∙ le-true w.at (forced_end p) (due w ws is y.0 z.0 z.1))
