-- What the device calls of one force come to at a disk on which a stop is set for them.
use Rattle.std.proofs.Common.{◌≡◌, ◌∙◌, refl, sym, ap, ℕ, ◌-◌, ◌<◌, ◌≤◌, Bool, true, false, cond, List, [], ◌∷◌, ◌++◌, length, flat_map, length-append, Option, Some, None, arith}
use Rattle.std.specs.Prelude.{nat_lt, ◌&&◌}
use Rattle.std.proofs.lemmas.Bool.{le-ltb, lt-ltb}
use Rattle.std.proofs.lemmas.Bool.Decides.{nat_tests}
use Rattle.ic_base.specs.declared.events.Stop.{Stop}
use Rattle.ic_base.specs.declared.limits.TheConstants.{SLOTS}
use Rattle.ic_base.specs.declared.record.Record.{Record}
use Rattle.def_log.specs.Gated.{GatedWrite, slot_write}
use Rattle.def_log.specs.Log.{end_with_checkpoint}
use Rattle.def_log.specs.Spelling.{spelling, spellings}
use Rattle.def_step.specs.World.{force_calls, is_reached}
use Rattle.ic_gate.specs.Calls.{gated_calls, force_writes}
use Rattle.ic_gate.specs.RecordCalls.{record_writes}
use Rattle.law_marks.proofs.Reading.{spelled-some}
use Rattle.ic_node.specs.Doing.{IsAllowed}
use Rattle.ic_disk.specs.Torns.{or_never}

-- the calls of a batch, and of a mark behind it where it ends with a Checkpoint and a slot is free
counts : (size : ℕ) (payload : List ℕ) (mark : GatedWrite) (free ends : Bool) → 0 < length payload → length (gated_calls (force_writes size payload ++ cond ends (cond free (mark ∷ []) []) [])) ≡ cond (free && ends) 8 4
counts size [] mark free ends some = absurd (omega (arith, some))
counts size (b ∷ payload) mark true true some = refl
counts size (b ∷ payload) mark true false some = refl
counts size (b ∷ payload) mark false true some = refl
counts size (b ∷ payload) mark false false some = refl

-- a force of added records makes the device calls that are counted for them, one of none makes none
pub calls_counted : (size used : ℕ) (before behind added : List Record) → behind ≡ before ++ added
    → length (gated_calls (record_writes size used added)) ≡ cond (nat_lt (length before) (length behind)) (force_calls (nat_lt used SLOTS) added) 0
calls_counted size used before behind [] grows =
    let none : nat_lt (length before) (length behind) ≡ false = le-ltb (length before) (length behind) (omega (arith, ap length grows, length-append before [])) in
    ap (λ b. cond b (force_calls (nat_lt used SLOTS) []) 0) (sym none)
calls_counted size used before behind (r ∷ rs) grows =
    let some : nat_lt (length before) (length behind) ≡ true = lt-ltb (length before) (length behind) (omega (arith, ap length grows, length-append before (r ∷ rs))) in
    counts size (spellings (r ∷ rs)) (slot_write used (size - 1)) (nat_lt used SLOTS) (end_with_checkpoint (r ∷ rs)) (omega (arith, spelled-some r, length-append (spelling r) (flat_map spelling rs)))
    ∙ ap (λ b. cond b (force_calls (nat_lt used SLOTS) (r ∷ rs)) 0) (sym some)

-- four where they don't end with a Checkpoint
pub four_calls : (free : Bool) (records : List Record) → end_with_checkpoint records ≡ false → force_calls free records ≡ 4
four_calls free records plain = ap (λ t. cond (free && t) 8 4) plain ∙ by free
  where
    by : (b : Bool) → ◌≡◌ {A = ℕ} (cond (b && false) 8 4) 4
    by true = refl
    by false = refl

-- where a device call is made there is something to force
pub batch_some : (size used : ℕ) (batch : List Record) → 1 ≤ length (gated_calls (record_writes size used batch)) → 0 < length batch
batch_some size used [] one = absurd (omega (arith, one))
batch_some size used (r ∷ rs) one = omega arith

-- where no more is forced nothing is added
pub none_added : (before behind added : List Record) → behind ≡ before ++ added → behind ≡ before → added ≡ []
none_added before behind [] grows same = refl
none_added before behind (r ∷ rs) grows same = absurd (omega (arith, ap length grows, ap length same, length-append before (r ∷ rs)))

pub allowed : (stop : Option Stop) → IsAllowed stop → (s : Stop) → stop ≡ Some s → 1 ≤ s.call
allowed None may s is = absurd (cc)
allowed (Some t) may s is = let same : t ≡ s = cc in omega (arith, may, ap (λ (x : Stop). x.call) same)

-- a stop that isn't reached
pub unreached_is : (stop : Option Stop) (n : ℕ) → (1 ≤ (or_never stop).call → n < (or_never stop).call) → ((s : Stop) → stop ≡ Some s → 1 ≤ s.call) → is_reached stop n ≡ false
unreached_is None n later allowed = refl
unreached_is (Some s) n later allowed = let below = later (allowed s refl) in grind (arith, nat_tests)

-- one that is reached
pub reached_is : (stop : Option Stop) (n : ℕ) → 1 ≤ (or_never stop).call → (or_never stop).call ≤ n → is_reached stop n ≡ true
reached_is None n first within = absurd (omega (arith, first))
reached_is (Some s) n first within = grind (arith, nat_tests)

pub stop_is : (stop : Option Stop) → 1 ≤ (or_never stop).call → stop ≡ Some (or_never stop)
stop_is None first = absurd (omega (arith, first))
stop_is (Some s) first = refl
