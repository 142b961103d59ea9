-- Each settling event lowers what is left.
use Rattle.std.proofs.Common.{◌≡◌, refl, ◌∙◌, ap, sym, subst, ℕ, ◌<◌, ◌≤◌, ◌==◌, nat_le, Bool, true, false, cond, not, List, [], ◌∷◌, ◌++◌, length, Some, is_some, arith, inl, inr}
use Rattle.ic_base.specs.declared.limits.TheConstants.{PACKETS}
use Rattle.std.specs.Prelude.{find}
use Rattle.ic_base.specs.declared.messages.ComId.{ComId}
use Rattle.ic_base.specs.declared.messages.Output.{Output}
use Rattle.ic_base.specs.declared.events.What.{What}
use Rattle.ic_base.specs.declared.events.What.TheVariants.{Force, Checkpoint, Emit}
use Rattle.ic_base.specs.declared.scenario.Program.{Program}
use Rattle.ic_base.specs.declared.record.Record.{Record}
use Rattle.ic_base.specs.declared.record.Record.TheVariants.{Checkpoint as Images}
use Rattle.def_state.specs.Shelf
use Rattle.def_state.specs.Image.{image_of}
use Rattle.def_step.specs.Replay.{behind_checkpoint, has_image, image_in}
use Rattle.def_step.specs.Pcom.{Pcom, Call, Effects, StepResult, Forces, Checkpoints, Emits, all_of, forced_end, is_replaying, in_hand, carry_out, pcom_step, just_tail, nothing_at_all, on_emit, nothing_at_all, force_where, absorb_choice, must_force}
use Rattle.def_step.specs.World.{World, Runs, DiskOutcome, After, node_at, happens, calls, done_as, answer_of}
use Rattle.def_step.specs.Settle.{left}
use Rattle.law_settle.specs.Measure.{IsLower, without_stop}
use Rattle.law_settle.proofs.Common.{filter-less}
use Rattle.law_settle.proofs.Lower.{NodeLower, node_lowers}
use Rattle.law_settle.proofs.Running.{ran_pcom, live_step, force_vol}
use Rattle.law_replay.proofs.Lists.{mapped}

-- what an event comes to
abbrev pub Lowered : World → After → Type 0
Lowered w a = IsLower (left a.world) (left w)

-- of a Pcom: its step puts something out, or leaves less
pub pcom-lowers : (program : Program) (w : World) (what : What) (x : DiskOutcome) (c : ComId) (number : ℕ) (call : Call) (p : Pcom) (t : StepResult) (a : After) → node_at w c ≡ Some (Runs p) → pcom_step program c p call ≡ Some t → calls program w (without_stop what) x c number call ≡ Some a
    → length a.world.packets ≤ PACKETS → (t.puts ≡ [] → NodeLower (Runs t.pcom) (Runs p)) → Lowered w a
pcom-lowers program w what x c number call p t a is step e short less =
    let same = ran_pcom program w what x c number call p t a is step e in
    subst (λ v. IsLower (left v) (left w)) same
    (node_lowers w c (Runs p) (done_as (answer_of p number call t) t) is (subst (λ (v : World). length v.packets ≤ PACKETS) (sym same) short) less)

-- force -------------------------------------------------------------------------------------------

forcing : Effects
forcing = record just_tail { forces = true }

pub force-lowers : (program : Program) (w : World) (x : DiskOutcome) (c : ComId) (p : Pcom) (a : After) → node_at w c ≡ Some (Runs p) → is_replaying p ≡ false → 0 < length p.log.buffered → happens program w (without_stop (Force c)) x ≡ Some a → length a.world.packets ≤ PACKETS → Lowered w a
unfolding forcing
force-lowers program w x c p a is live some e short =
    pcom-lowers program w (Force c) x c 0 Forces p (carry_out program c p forcing) a is (live_step program c p Forces forcing live refl) e short (λ none. inr (refl, inr (refl, inl some)))

-- checkpoint --------------------------------------------------------------------------------------

imaging : Pcom → Effects
imaging p = record just_tail { adds = Images (image_of p.vol) ∷ []; forces = true; covers = true }

has-last : (xs : List Record) (image : List ℕ) → has_image (xs ++ Images image ∷ []) ≡ true
has-last [] image = refl
has-last (r ∷ rs) image = at (is_some (image_in r)) (has-last rs image)
  where
    at : (b : Bool) → has_image (rs ++ Images image ∷ []) ≡ true → cond b true (has_image (rs ++ Images image ∷ [])) ≡ true
    at true h = refl
    at false h = h

none-behind : (xs : List Record) (image : List ℕ) → behind_checkpoint (xs ++ Images image ∷ []) ≡ []
none-behind [] image = refl
none-behind (r ∷ rs) image =
    ap (λ b. cond b (behind_checkpoint (rs ++ Images image ∷ [])) (cond (is_some (image_in r)) (rs ++ Images image ∷ []) (r ∷ rs ++ Images image ∷ []))) (has-last rs image) ∙ none-behind rs image

none-behind-two : (xs ys : List Record) (image : List ℕ) → behind_checkpoint ((xs ++ (ys ++ Images image ∷ [])) ++ []) ≡ []
none-behind-two xs ys image = ap behind_checkpoint (same xs ys) ∙ none-behind (xs ++ ys) image
  where
    end : (zs : List Record) → (zs ++ Images image ∷ []) ++ [] ≡ zs ++ Images image ∷ []
    end [] = refl
    end (z ∷ zs) = ap (λ l. z ∷ l) (end zs)

    same : (us vs : List Record) → (us ++ (vs ++ Images image ∷ [])) ++ [] ≡ (us ++ vs) ++ Images image ∷ []
    same [] vs = end vs
    same (u ∷ us) vs = ap (λ l. u ∷ l) (same us vs)

pub checkpoint-lowers : (program : Program) (w : World) (x : DiskOutcome) (c : ComId) (p : Pcom) (a : After) → node_at w c ≡ Some (Runs p) → is_replaying p ≡ false → in_hand p ≡ false → 0 < length (behind_checkpoint (all_of p.log)) → happens program w (without_stop (Checkpoint c)) x ≡ Some a → length a.world.packets ≤ PACKETS → Lowered w a
unfolding imaging
checkpoint-lowers program w x c p a is live free some e short =
    pcom-lowers program w (Checkpoint c) x c 0 Checkpoints p (carry_out program c p (imaging p)) a is
    (live_step program c p Checkpoints (imaging p) live (ap (λ b. cond b nothing_at_all (imaging p)) free)) e short (λ none. inr (refl, inr (refl, at p.log.buffered refl)))
  where
    since : length (behind_checkpoint ((p.log.forced ++ (p.log.buffered ++ Images (image_of p.vol) ∷ [])) ++ [])) < length (behind_checkpoint (all_of p.log))
    since = omega (arith, ap length (none-behind-two p.log.forced p.log.buffered (image_of p.vol)), some)

    at : (rs : List Record) → p.log.buffered ≡ rs → IsLower (0 ∷ length (behind_checkpoint ((p.log.forced ++ (p.log.buffered ++ Images (image_of p.vol) ∷ [])) ++ [])) ∷ []) (length p.log.buffered ∷ length (behind_checkpoint (all_of p.log)) ∷ [])
    at [] h = inr (sym (ap length h), inl since)
    at (r ∷ rs) h = inl (omega (arith, ap length h))

-- emit --------------------------------------------------------------------------------------------

pub emit-lowers : (program : Program) (w : World) (x : DiskOutcome) (c : ComId) (p : Pcom) (o : Output) (a : After) → node_at w c ≡ Some (Runs p) → is_replaying p ≡ false → Shelf.next_due p.vol.shelf (forced_end p) ≡ Some o → happens program w (without_stop (Emit c)) x ≡ Some a → length a.world.packets ≤ PACKETS → Lowered w a
emit-lowers program w x c p o a is live due e short =
    pcom-lowers program w (Emit c) x c 0 Emits p (carry_out program c p (on_emit (Some o))) a is (live_step program c p Emits (on_emit (Some o)) live (ap on_emit due)) e short (λ none. inr (refl, inl less))
  where
    q : Pcom
    q = absorb_choice program c (on_emit (Some o)) p

    found : (y : Shelf.Waiting) × (find (λ v. nat_le v.at (forced_end p)) p.vol.shelf.waiting ≡ Some y) × (y.output ≡ o)
    found = mapped (λ (v : Shelf.Waiting). v.output) (find (λ v. nat_le v.at (forced_end p)) p.vol.shelf.waiting) o due

    equal : (m : ℕ) → (m == m) ≡ true
    equal m = grind arith

    refused : not (found.0.output.m == o.m) ≡ false
    refused = ap (λ (z : Output). not (z.m == o.m)) found.2 ∙ ap not (equal o.m)

    less : length (force_where p.vol (on_emit (Some o)) (absorb_choice program c (on_emit (Some o)) p)).vol.shelf.waiting < length p.vol.shelf.waiting
    less =
        subst (λ v. length v.shelf.waiting < length p.vol.shelf.waiting) (sym (force_vol (must_force p.vol (absorb_choice program c (on_emit (Some o)) p).vol) (absorb_choice program c (on_emit (Some o)) p)))
        (filter-less (λ v. not (v.output.m == o.m)) (λ v. nat_le v.at (forced_end p)) p.vol.shelf.waiting found.0 found.1 refused)
