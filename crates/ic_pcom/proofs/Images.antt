-- An image is longer than each list in it.
use Rattle.std.proofs.Common.{◌≡◌, ap, refl, subst, ℕ, zero, suc, ◌<◌, ◌≤◌, ◌^◌, Bool, true, List, [], ◌∷◌, ◌++◌, length, length-append, map, get_or, arith, Option, Some, None}
use Rattle.std.specs.Prelude.{slice_get, is_some, filter, not, nat_lt}
use Rattle.std.specs.Int.{w32, to_be_bytes}
use Rattle.std.specs.List.{All, flat_map, range_with_len}
use Rattle.std.proofs.lemmas.Option.{slice_get_within, slice_get-get_or}
use Rattle.std.proofs.lemmas.List.Elements.{All-from_get_or}
use Rattle.std.proofs.lemmas.List.Filters.{length-filter_both}
use Rattle.std.proofs.lemmas.List.FromFn.{length-map-range_with_len}
use Rattle.ic_base.specs.declared.limits.TheConstants.{COMPONENTS, LOG_BYTES}
use Rattle.def_log.specs.Spelling.{number, value, args}
use Rattle.def_state.specs.Image.{image_of, counted, listed, last_bytes, output_bytes, message_bytes, link_bytes, sender_bytes, senders_of, taken_from, run_from}
use Rattle.def_state.specs.Inbox.{Inbox}
use Rattle.def_state.specs.Outbox.{Held}
use Rattle.def_state.specs.Shelf.{Waiting}
use Rattle.def_state.specs.Vol.{Vol}
use Rattle.ic_in.specs.Senders.{above_bound, sender_of, number_above}

each_some : {A : Type 0} (f : A → List ℕ) → ((x : A) → 1 ≤ length (f x)) → (xs : List A) → length xs ≤ length (flat_map f xs)
each_some f some [] = omega arith
each_some f some (x ∷ xs) = omega (arith, length-append (f x) (flat_map f xs), some x, each_some f some xs)

one_of : {A : Type 0} (f : A → List ℕ) (xs : List A) (i : ℕ) (x : A) → slice_get xs i ≡ Some x → length (f x) ≤ length (flat_map f xs)
one_of f [] i x is = cc
one_of f (y ∷ ys) zero x is =
    let same : y ≡ x = cc in
    omega (arith, length-append (f y) (flat_map f ys), ap (λ z. length (f z)) same)
one_of f (y ∷ ys) (suc i) x is = omega (arith, length-append (f y) (flat_map f ys), one_of f ys i x is)

output_some : (w : Waiting) → 1 ≤ length (output_bytes w.output)
output_some w = omega (arith, length-append (number w.output.m) (w.output.to.0 ∷ args w.output.args))

message_some : (h : Held) → 1 ≤ length (message_bytes h.msg)
message_some h = omega arith

number_some : (k : ℕ) → 1 ≤ length (number k)
number_some k = omega arith

listed_more : {A : Type 0} (f : A → List ℕ) → ((x : A) → 1 ≤ length (f x)) → (xs : List A) → length xs ≤ length (listed f xs)
listed_more f some xs = omega (arith, each_some f some xs, length-append (to_be_bytes w32 (length xs)) (flat_map f xs))

sender_more : (x : ℕ × List ℕ) → length (above_bound x.1) ≤ length (sender_bytes x)
sender_more x = omega (arith, length-append (number (run_from 0 x.1)) (listed number (above_bound x.1)), listed_more number number_some (above_bound x.1))

parts : (a b c d e f g h i : List ℕ) → (length f ≤ length (a ++ b ++ c ++ d ++ e ++ f ++ g ++ h ++ i)) × (length h ≤ length (a ++ b ++ c ++ d ++ e ++ f ++ g ++ h ++ i)) × (length i ≤ length (a ++ b ++ c ++ d ++ e ++ f ++ g ++ h ++ i))
parts a b c d e f g h i =
    let p1 = length-append a b in
    let p2 = length-append (a ++ b) c in
    let p3 = length-append (a ++ b ++ c) d in
    let p4 = length-append (a ++ b ++ c ++ d) e in
    let p5 = length-append (a ++ b ++ c ++ d ++ e) f in
    let p6 = length-append (a ++ b ++ c ++ d ++ e ++ f) g in
    let p7 = length-append (a ++ b ++ c ++ d ++ e ++ f ++ g) h in
    let p8 = length-append (a ++ b ++ c ++ d ++ e ++ f ++ g ++ h) i in
    (omega (arith, p5, p6, p7, p8), omega (arith, p7, p8), omega (arith, p8))

fields : (v : Vol) → (length (listed (λ w. output_bytes w.output) v.shelf.waiting) ≤ length (image_of v)) × (length (listed (λ h. message_bytes h.msg) v.outbox.held) ≤ length (image_of v)) × (length (counted sender_bytes (senders_of v.inbox)) ≤ length (image_of v))
fields v = parts (number v.clock) (counted value v.vars) (number v.txn.begun) (last_bytes v.txn.last) (number v.shelf.made) (listed (λ w. output_bytes w.output) v.shelf.waiting) (counted link_bytes v.outbox.links) (listed (λ h. message_bytes h.msg) v.outbox.held) (counted sender_bytes (senders_of v.inbox))

pub outputs_longer : (v : Vol) → length v.shelf.waiting ≤ length (image_of v)
outputs_longer v = omega (arith, (fields v).0, listed_more (λ w. output_bytes w.output) output_some v.shelf.waiting)

pub messages_longer : (v : Vol) → length v.outbox.held ≤ length (image_of v)
messages_longer v = omega (arith, (fields v).1, listed_more (λ h. message_bytes h.msg) message_some v.outbox.held)

pub senders_longer : (v : Vol) (i : ℕ) (x : ℕ × List ℕ) → slice_get (senders_of v.inbox) i ≡ Some x → length (above_bound x.1) ≤ length (image_of v)
senders_longer v i x is = omega (arith, (fields v).2, one_of sender_bytes (senders_of v.inbox) i x is, sender_more x)

-- a list whose element of this number isn't there has no more
none_past : {A : Type 0} (xs : List A) (i : ℕ) → slice_get xs i ≡ None → length xs ≤ i
none_past [] i none = omega arith
none_past (x ∷ xs) zero none = cc
none_past (x ∷ xs) (suc i) none = omega (arith, none_past xs i none)

abbrev from_each : Inbox → ℕ → ℕ × List ℕ
from_each i c = (c, taken_from i c)

few_senders : (i : Inbox) → length (senders_of i) ≤ COMPONENTS
few_senders i =
    let some : ℕ × List ℕ → Bool = λ x. nat_lt 0 (length x.1) in
    let xs = map (from_each i) (range_with_len 0 COMPONENTS) in
    let same : length (senders_of i) ≡ length (filter some xs) = refl in
    omega (arith, same, length-filter_both some (λ x. not (some x)) (λ x. refl) xs, length-map-range_with_len (from_each i) 0 COMPONENTS)

-- a sender without a number at a place above has no more there
short_sender : (o : Option (ℕ × List ℕ)) (x : ℕ × List ℕ) (n : ℕ) → o ≡ Some x → number_above o n ≡ None → length (above_bound x.1) ≤ n
short_sender None x n is none = cc
short_sender (Some s) x n is none =
    let same : s ≡ x = cc in
    none_past (above_bound x.1) n (subst (λ (y : ℕ × List ℕ). slice_get (above_bound y.1) n ≡ None) same none)

-- no sender has a number at this place above
pub all_short : (i : Inbox) → ((j : ℕ) → j < COMPONENTS → number_above (sender_of i.taken j) 4294967295 ≡ None) → All (λ x. length (above_bound x.1) < 2 ^ 32) (senders_of i)
unfolding sender_of
all_short i none =
    All-from_get_or (λ x. length (above_bound x.1) < 2 ^ 32) (senders_of i) (0, []) (λ j within.
    let x = get_or (senders_of i) j (0, []) in
    let few = few_senders i in
    omega (arith, short_sender (sender_of i.taken j) x 4294967295 (slice_get-get_or (senders_of i) j (0, []) within) (none j (omega (arith, within, few)))))

long_sender : (v : Vol) (i : ℕ) (o : Option (ℕ × List ℕ)) → slice_get (senders_of v.inbox) i ≡ o → is_some (number_above o 4294967295) ≡ true → LOG_BYTES < length (image_of v)
long_sender v i None is some = cc
long_sender v i (Some x) is some = by (slice_get (above_bound x.1) 4294967295) refl some
  where
    by : (k : Option ℕ) → slice_get (above_bound x.1) 4294967295 ≡ k → is_some k ≡ true → LOG_BYTES < length (image_of v)
    by None at some = cc
    by (Some k) at some = omega (arith, slice_get_within (above_bound x.1) 4294967295 k at, senders_longer v i x is)

-- one that has makes the image longer than a log
pub one_long : (v : Vol) (i : ℕ) → is_some (number_above (sender_of v.inbox.taken i) 4294967295) ≡ true → LOG_BYTES < length (image_of v)
unfolding sender_of
one_long v i some = long_sender v i (sender_of v.inbox.taken i) refl some

-- so many outputs or messages do
pub outputs_long : (v : Vol) → is_some (slice_get v.shelf.waiting 4294967295) ≡ true → LOG_BYTES < length (image_of v)
outputs_long v some = by (slice_get v.shelf.waiting 4294967295) refl some
  where
    by : (k : Option Waiting) → slice_get v.shelf.waiting 4294967295 ≡ k → is_some k ≡ true → LOG_BYTES < length (image_of v)
    by None at some = cc
    by (Some w) at some = omega (arith, slice_get_within v.shelf.waiting 4294967295 w at, outputs_longer v)

pub few_outputs : (v : Vol) → slice_get v.shelf.waiting 4294967295 ≡ None → length v.shelf.waiting < 2 ^ 32
few_outputs v none = omega (arith, none_past v.shelf.waiting 4294967295 none)

pub few_links : (v : Vol) → slice_get v.outbox.links 255 ≡ None → length v.outbox.links < 2 ^ 8
few_links v none = omega (arith, none_past v.outbox.links 255 none)

pub messages_long : (v : Vol) → 4294967295 < length v.outbox.held → LOG_BYTES < length (image_of v)
messages_long v many = omega (arith, many, messages_longer v)
