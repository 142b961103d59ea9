-- Counts that stay within their limits.
use Rattle.std.proofs.Common.{◌≡◌, ap, ℕ, ◌+◌, ◌<◌, ◌≤◌, Bool, true, false, cond, refl, List, ◌++◌, length, arith, Fits, w64}
use Rattle.std.proofs.lemmas.List.{length-append}
use Rattle.ic_base.specs.declared.limits.TheConstants.{RECEIPTS, PACKETS}
use Rattle.ic_base.specs.declared.messages.Packet.{Packet}

pub one-more : (more : Bool) (n one : ℕ) → one ≡ cond more 1 0 → n ≤ RECEIPTS → (more ≡ true → n < RECEIPTS) → n + one ≤ RECEIPTS
one-more true n one e l room = let under = room refl in omega arith
one-more false n one e l room = omega arith

pub one-more_fits : (more : Bool) (n one : ℕ) → one ≡ cond more 1 0 → n ≤ RECEIPTS → (more ≡ true → n < RECEIPTS) → Fits w64 (n + one)
one-more_fits more n one e l room = let few = one-more more n one e l room in omega (arith, few)

pub puts-fit : (old puts new : List Packet) (count from len : ℕ) → new ≡ old ++ puts → count ≡ length old → from ≡ count → len ≡ length puts → from + len ≤ PACKETS → length new ≤ PACKETS
puts-fit old puts new count from len e c f l few = let long = ap length e in omega (arith, length-append old puts)

pub puts-many : (old puts : List Packet) (count from len : ℕ) → count ≡ length old → from ≡ count → len ≡ length puts → PACKETS < from + len → PACKETS < length old + length puts
puts-many old puts count from len c f l many = omega arith
