-- An image is made of bytes.
use Rattle.std.proofs.Common.{ℕ, zero, suc, ℤ, ◌%◌, ◌+◌, ◌<◌, ◌≤◌, ◌^◌, nat_lt, List, [], ◌∷◌, ◌++◌, map, filter, length, Option, Some, None, arith}
use Rattle.std.specs.Prelude.{⊤}
use Rattle.std.specs.List.{AllByRecursion, flat_map, range_with_len}
use Rattle.std.specs.Int.{w32, w64, to_be_bytes, cast_unsigned}
use Rattle.std.proofs.Math.Nat.{mod-lt}
use Rattle.ic_base.specs.declared.limits.TheConstants.{COMPONENTS, VALUES}
use Rattle.ic_base.specs.declared.messages.ComId.{ComId}
use Rattle.ic_base.specs.declared.messages.Msg.{Msg}
use Rattle.ic_base.specs.declared.messages.Output.{Output}
use Rattle.def_log.specs.Spelling.{IsCom, number, value, args}
use Rattle.def_state.specs.Image.{image_of, counted, listed, senders_of, taken_from, sender_bytes, run_from, output_bytes, message_bytes, link_bytes, last_bytes}
use Rattle.def_state.specs.Inbox.{Inbox}
use Rattle.def_state.specs.Vol.{Vol}
use Rattle.law_image.specs.Readable.{HasImage, LastFits, OutputFits, MessageFits, LinkFits}
use Rattle.law_image.proofs.Canonical.{senders_few}
use Rattle.law_settle.proofs.Tables.{all-map, all-filter}
use Rattle.law_settle.proofs.Walks.{all-append}

abbrev pub AreBytes : List ℕ → Type 0
AreBytes bytes = AllByRecursion (λ b. b < 2 ^ 8) bytes

byte : (m : ℕ) → m % 256 < 256
byte m = mod-lt m (omega arith)

number-bytes : (n : ℕ) → AreBytes (number n)
number-bytes n = (byte _, (byte _, (byte _, (byte _, (byte _, (byte _, (byte _, (byte _, tt))))))))

word-bytes : (n : ℕ) → AreBytes (to_be_bytes w32 n)
word-bytes n = (byte _, (byte _, (byte _, (byte _, tt))))

joined : (xs ys : List ℕ) → AreBytes xs → AreBytes ys → AreBytes (xs ++ ys)
joined xs ys x y = all-append (λ b. b < 2 ^ 8) xs ys x y

flat-bytes : {A : Type 0} (P : A → Type 0) (f : A → List ℕ) → ((x : A) → P x → AreBytes (f x)) → (xs : List A) → AllByRecursion P xs → AreBytes (flat_map f xs)
flat-bytes P f h [] x = tt
flat-bytes P f h (y ∷ ys) x = joined (f y) (flat_map f ys) (h y x.0) (flat-bytes P f h ys x.1)

counted-bytes : {A : Type 0} (P : A → Type 0) (f : A → List ℕ) → ((x : A) → P x → AreBytes (f x)) → (xs : List A) → length xs < 2 ^ 8 → AllByRecursion P xs → AreBytes (counted f xs)
counted-bytes P f h xs few x = (few, flat-bytes P f h xs x)

listed-bytes : {A : Type 0} (P : A → Type 0) (f : A → List ℕ) → ((x : A) → P x → AreBytes (f x)) → (xs : List A) → AllByRecursion P xs → AreBytes (listed f xs)
listed-bytes P f h xs x = joined (to_be_bytes w32 (length xs)) (flat_map f xs) (word-bytes (length xs)) (flat-bytes P f h xs x)

anything : {A : Type 0} (xs : List A) → AllByRecursion (λ x. ⊤) xs
anything [] = tt
anything (x ∷ xs) = (tt, anything xs)

value-bytes : (z : ℤ) → AreBytes (value z)
value-bytes z = number-bytes (cast_unsigned w64 z)

com-byte : (c : ComId) → IsCom c → c.0 < 2 ^ 8
com-byte c h = less c.0 h
  where
    less : (n : ℕ) → n < COMPONENTS → n < 2 ^ 8
    less n k = omega (arith, k)

args-bytes : (xs : List ℤ) → length xs ≤ VALUES → AreBytes (args xs)
args-bytes xs few = (omega (arith, few), flat-bytes (λ z. ⊤) value (λ z k. value-bytes z) xs (anything xs))

last-bytes : (o : Option (ComId × ℕ)) → LastFits o → AreBytes (last_bytes o)
last-bytes None h = (omega arith, tt)
last-bytes (Some x) h = (omega arith, (com-byte x.0 h.0, number-bytes x.1))

output-bytes : (o : Output) → OutputFits o → AreBytes (output_bytes o)
output-bytes o h = joined (number o.m) (o.to.0 ∷ args o.args) (number-bytes o.m) (com-byte o.to h.to, args-bytes o.args h.few)

link-bytes : (x : ComId × ℕ) → LinkFits x → AreBytes (link_bytes x)
link-bytes x h = (com-byte x.0 h.to, number-bytes x.1)

message-bytes : (c : ComId) (m : Msg) → MessageFits c m → AreBytes (message_bytes m)
message-bytes c m h = (com-byte m.to h.to, joined (number m.k) (number m.stamp ++ (m.handler ∷ args m.args)) (number-bytes m.k) (joined (number m.stamp) (m.handler ∷ args m.args) (number-bytes m.stamp) (h.handler, args-bytes m.args h.few)))

sender-bytes : (x : ℕ × List ℕ) → x.0 < 2 ^ 8 → AreBytes (sender_bytes x)
sender-bytes x h =
    let above = filter (λ k. nat_lt (run_from 0 x.1) k) x.1 in
    (h, joined (number (run_from 0 x.1)) (listed number above) (number-bytes (run_from 0 x.1)) (listed-bytes (λ k. ⊤) number (λ k t. number-bytes k) above (anything above)))

senders-low : (i : Inbox) → AllByRecursion (λ x. x.0 < 2 ^ 8) (senders_of i)
senders-low i = all-filter {A = ℕ × List ℕ} (λ x. x.0 < 2 ^ 8) (λ x. nat_lt 0 (length x.1)) (map (λ c. (c, taken_from i c)) (range_with_len 0 COMPONENTS)) (all-map {B = ℕ × List ℕ} (λ c. c < 2 ^ 8) (λ x. x.0 < 2 ^ 8) (λ c. (c, taken_from i c)) (λ c h. h) (range_with_len 0 COMPONENTS) (ranged 0 COMPONENTS (omega arith)))
  where
    ranged : (a n : ℕ) → a + n ≤ 2 ^ 8 → AllByRecursion (λ c. c < 2 ^ 8) (range_with_len a n)
    ranged a zero le = tt
    ranged a (suc n) le = (omega (arith, le), ranged (a + 1) n (omega (arith, le)))

pub image_bytes : (c : ComId) (v : Vol) → HasImage c v → AreBytes (image_of v)
image_bytes c v h =
    let a = number v.clock in
    let b = counted value v.vars in
    let d = number v.txn.begun in
    let e = last_bytes v.txn.last in
    let f = number v.shelf.made in
    let g = listed (λ w. output_bytes w.output) v.shelf.waiting in
    let l = counted link_bytes v.outbox.links in
    let m = listed (λ y. message_bytes y.msg) v.outbox.held in
    joined (a ++ b ++ d ++ e ++ f ++ g ++ l ++ m) (counted sender_bytes (senders_of v.inbox))
    (joined (a ++ b ++ d ++ e ++ f ++ g ++ l) m
    (joined (a ++ b ++ d ++ e ++ f ++ g) l
    (joined (a ++ b ++ d ++ e ++ f) g
    (joined (a ++ b ++ d ++ e) f
    (joined (a ++ b ++ d) e
    (joined (a ++ b) d
    (joined (number v.clock) (counted value v.vars) (number-bytes v.clock) (counted-bytes (λ z. ⊤) value (λ z k. value-bytes z) v.vars h.counts.vars (anything v.vars)))
    (number-bytes v.txn.begun))
    (last-bytes v.txn.last h.last))
    (number-bytes v.shelf.made))
    (listed-bytes (λ w. OutputFits w.output) (λ w. output_bytes w.output) (λ w k. output-bytes w.output k) v.shelf.waiting h.outputs))
    (counted-bytes LinkFits link_bytes link-bytes v.outbox.links h.counts.links h.links))
    (listed-bytes (λ y. MessageFits c y.msg) (λ y. message_bytes y.msg) (λ y k. message-bytes c y.msg k) v.outbox.held h.held))
    (counted-bytes {A = ℕ × List ℕ} (λ x. x.0 < 2 ^ 8) sender_bytes sender-bytes (senders_of v.inbox) (few (length (senders_of v.inbox)) (senders_few v.inbox)) (senders-low v.inbox))
  where
    few : (n : ℕ) → n ≤ 32 → n < 2 ^ 8
    few n k = omega (arith, k)
