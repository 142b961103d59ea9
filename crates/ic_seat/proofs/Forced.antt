-- What the device calls of one force come to at a disk on which a stop is set for them.
use Rattle.std.proofs.Common.{◌≡◌, refl, ap, ℕ, ◌<◌, ◌≤◌, true, false, List, [], ◌∷◌, length, length-append, Option, Some, None, arith}
use Rattle.std.proofs.lemmas.Bool.Decides.{nat_tests}
use Rattle.ic_base.specs.declared.events.Stop.{Stop}
use Rattle.def_two.specs.declared.moves.Record2.{Record2}
use Rattle.def_two.specs.declared.moves.Record2.TheVariants.{Begun, Verdict, Ready, Ended}
use Rattle.def_two.specs.Records.{spelling2, payload2_of}
use Rattle.def_two.specs.World.{device_calls, is_reached}
use Rattle.ic_gate.specs.Calls.{gated_calls, force_writes}
use Rattle.ic_seat.specs.Serving.{IsAllowed}
use Rattle.ic_disk.specs.Torns.{or_never}

spells : (r : Record2) → 0 < length (spelling2 r)
spells (Begun m) = omega arith
spells (Verdict n r) = omega arith
spells (Ready m) = omega arith
spells (Ended n agreed) = omega arith

four : (size : ℕ) (payload : List ℕ) → 0 < length payload → length (gated_calls (force_writes size payload)) ≡ 4
four size [] some = absurd (omega (arith, some))
four size (b ∷ payload) some = refl

-- a force of added records makes four device calls, one of none makes none
pub counted : (size : ℕ) (adds : List Record2) → length (gated_calls (force_writes size (payload2_of adds))) ≡ device_calls adds
counted size [] = refl
counted size (r ∷ rs) = four size (payload2_of (r ∷ rs)) (omega (arith, spells r, length-append (spelling2 r) (payload2_of rs)))

pub allowed : (stop : Option Stop) → IsAllowed stop → (s : Stop) → stop ≡ Some s → 1 ≤ s.call
allowed None may s is = absurd (cc)
allowed (Some t) may s is = let same : t ≡ s = cc in omega (arith, may, ap (λ (x : Stop). x.call) same)

-- a stop that isn't reached
pub unreached_is : (stop : Option Stop) (n : ℕ) → (1 ≤ (or_never stop).call → n < (or_never stop).call) → ((s : Stop) → stop ≡ Some s → 1 ≤ s.call) → is_reached stop n ≡ false
unreached_is None n later allowed = refl
unreached_is (Some s) n later allowed = let below = later (allowed s refl) in grind (arith, nat_tests)

-- one that is reached
pub reached_is : (stop : Option Stop) (n : ℕ) → 1 ≤ (or_never stop).call → (or_never stop).call ≤ n → is_reached stop n ≡ true
reached_is None n first within = absurd (omega (arith, first))
reached_is (Some s) n first within = grind (arith, nat_tests)

pub stop_is : (stop : Option Stop) → 1 ≤ (or_never stop).call → stop ≡ Some (or_never stop)
stop_is None first = absurd (omega (arith, first))
stop_is (Some s) first = refl
