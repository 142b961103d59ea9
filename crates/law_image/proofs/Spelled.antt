-- What is read of an image is its one spelling, and what is spelled is read again.
use Rattle.std.proofs.Common.{◌≡◌, ℕ, zero, suc, ◌+◌, ◌^◌, ◌<◌, ◌≤◌, Bool, true, false, List, [], ◌∷◌, ◌++◌, length, Option, Some, None, refl, ap, sym, subst, ◌∙◌, append_assoc, ℤ, arith}
use Rattle.std.specs.Prelude.{FitsSigned}
use Rattle.std.specs.List.{flat_map, AllByRecursion}
use Rattle.std.specs.Int.{Width, w8, w32, w64, to_be_bytes}
use Rattle.ic_base.specs.declared.limits.TheConstants.{GREATEST_NUMBER, VALUES}
use Rattle.ic_base.specs.declared.messages.ComId.{ComId}
use Rattle.def_log.specs.Spelling.{number, value, args, IsCount, IsCom}
use Rattle.def_log.specs.Reading.{number_at, time_at, count_at, com_at, value_at, args_at}
use Rattle.def_log.proofs.Takes as takes
use Rattle.def_log.proofs.Takes.{IsBytes, Takes, Takes-then, number_takes, byte_takes, time_takes, count_takes, com_takes, value_takes, args_takes}
use Rattle.def_log.proofs.Again.{wide32, number_again, byte_again, time_again, count_again, com_again, value_again, args_again}
use Rattle.def_log.proofs.Takes.{came as some_came, some_is}
use Rattle.def_log.proofs.Again.{goes_on as some_goes_on}
use Rattle.def_state.specs.Names.{Numbers}
use Rattle.def_state.specs.Outbox.{Held}
use Rattle.def_state.specs.Shelf.{Waiting}
use Rattle.def_state.specs.Image.{many_at, last_at, ended_at, output_at, link_at, message_at, part_at, listed, counted, last_bytes, output_bytes, message_bytes, link_bytes}
use Rattle.law_image.specs.Readable.{LastFits, OutputFits, LinkFits, MessageFits}
use Rattle.law_image.proofs.Items.{Part}
use Rattle.law_image.proofs.Places.{Parts, IsListed, IsRead}

-- a reader and a spelling ---------------------------------------------------------------------------

-- what fits is spelled in one way, and read again from that
pub record Spells {B : Type 0} (read : List ℕ → Option (B × List ℕ)) (spell : B → List ℕ) (Fits : B → Type 0) : Type 0 where
  pub taken : (bytes : List ℕ) (x : B × List ℕ) → IsBytes bytes → read bytes ≡ Some x → Takes bytes (spell x.0) x.1 × Fits x.0
  pub again : (x : B) (rest : List ℕ) → Fits x → read (spell x ++ rest) ≡ Some (x, rest)

many_taken : {B : Type 0} {read : List ℕ → Option (B × List ℕ)} {spell : B → List ℕ} {Fits : B → Type 0} → Spells read spell Fits → (n : ℕ) (bytes : List ℕ) (xs : List B × List ℕ) → IsBytes bytes → many_at read n bytes ≡ Some xs
    → Takes bytes (flat_map spell xs.0) xs.1 × AllByRecursion Fits xs.0 × (length xs.0 ≡ n)
unfolding many_at
many_taken {B} {read} {spell} {Fits} s zero bytes xs fits e =
    let none : List B × List ℕ = ([], bytes) in
    subst (λ (z : List B × List ℕ). Takes bytes (flat_map spell z.0) z.1 × AllByRecursion Fits z.0 × (length z.0 ≡ 0)) (some_is none xs e) (record { parts = refl; rest_fits = fits }, tt, refl)
many_taken {B} {read} {spell} {Fits} s (suc n) bytes xs fits e =
    let x = some_came _ (read bytes) xs e in
    let ys = some_came _ (many_at read n x.0.1) xs x.2 in
    let a = s.taken bytes x.0 fits x.1 in
    let b = many_taken s n x.0.1 ys.0 a.0.rest_fits ys.1 in
    let whole : List B × List ℕ = (x.0.0 ∷ ys.0.0, ys.0.1) in
    subst (λ (z : List B × List ℕ). Takes bytes (flat_map spell z.0) z.1 × AllByRecursion Fits z.0 × (length z.0 ≡ suc n)) (some_is whole xs ys.2)
    (Takes-then bytes (spell x.0.0) x.0.1 (flat_map spell ys.0.0) ys.0.1 a.0 b.0, (a.1, b.1), ap suc b.2)

pub many_again : {B : Type 0} {read : List ℕ → Option (B × List ℕ)} {spell : B → List ℕ} {Fits : B → Type 0} → Spells read spell Fits → (xs : List B) (rest : List ℕ) → AllByRecursion Fits xs → many_at read (length xs) (flat_map spell xs ++ rest) ≡ Some (xs, rest)
unfolding many_at
many_again s [] rest fits = refl
many_again {B} {read} {spell} {Fits} s (x ∷ xs) rest fits =
    ap (many_at read (suc (length xs))) (append_assoc (spell x) (flat_map spell xs) rest)
    ∙ some_goes_on _ (read (spell x ++ (flat_map spell xs ++ rest))) (x, flat_map spell xs ++ rest) (s.again x (flat_map spell xs ++ rest) fits.0)
    ∙ some_goes_on _ (many_at read (length xs) (flat_map spell xs ++ rest)) (xs, rest) (many_again s xs rest fits.1)

-- a count in front
pub record CountsIn (w : Width) (front : ℕ → List ℕ) (limit : ℕ) : Type 0 where
  pub taken : (bytes : List ℕ) (n : ℕ) (rest : List ℕ) → IsBytes bytes → number_at w bytes ≡ Some (n, rest) → Takes bytes (front n) rest × (n < limit)
  pub again : (n : ℕ) (rest : List ℕ) → n < limit → number_at w (front n ++ rest) ≡ Some (n, rest)

pub in_byte : CountsIn w8 (λ n. n ∷ []) 256
in_byte = record { taken = byte_takes; again = λ n rest l. byte_again n rest }

pub in_word : CountsIn w32 (to_be_bytes w32) (2 ^ 32)
in_word = record { taken = number_takes w32 (2 ^ 32) takes.wide32; again = number_again w32 (2 ^ 32) wide32 }

pub listed_taken : {B : Type 0} {read : List ℕ → Option (B × List ℕ)} {spell : B → List ℕ} {Fits : B → Type 0} {w : Width} {front : ℕ → List ℕ} {limit : ℕ} → CountsIn w front limit → Spells read spell Fits → (bytes : List ℕ) (xs : List B) (rest : List ℕ) → IsBytes bytes → IsListed w read bytes xs rest
    → Takes bytes (front (length xs) ++ flat_map spell xs) rest × (length xs < limit) × AllByRecursion Fits xs
listed_taken {B} {read} {spell} {Fits} {w} {front} {limit} counts s bytes xs rest fits is =
    let a = counts.taken bytes is.n is.front fits is.count_is in
    let b = many_taken s is.n is.front (xs, rest) a.0.rest_fits is.items_are in (
      subst (λ (k : ℕ). Takes bytes (front k ++ flat_map spell xs) rest) (sym b.2) (Takes-then bytes (front is.n) is.front (flat_map spell xs) rest a.0 b.0),
      subst (λ (k : ℕ). k < limit) (sym b.2) a.1,
      b.1,
    )

pub listed_again : {B : Type 0} {read : List ℕ → Option (B × List ℕ)} {spell : B → List ℕ} {Fits : B → Type 0} {w : Width} {front : ℕ → List ℕ} {limit : ℕ} → CountsIn w front limit → Spells read spell Fits → (xs : List B) (rest : List ℕ) → length xs < limit → AllByRecursion Fits xs
    → IsListed w read (front (length xs) ++ (flat_map spell xs ++ rest)) xs rest
listed_again {B} {read} {spell} {Fits} {w} {front} {limit} counts s xs rest few fits = record {
  n = length xs;
  front = flat_map spell xs ++ rest;
  count_is = counts.again (length xs) (flat_map spell xs ++ rest) few;
  items_are = many_again s xs rest fits;
}

-- the items -----------------------------------------------------------------------------------------

pub values_spell : Spells value_at value (FitsSigned w64)
values_spell = record { taken = λ bytes x fits e. value_takes bytes x.0 x.1 fits e; again = λ x rest f. value_again x rest f }

pub counts_spell : Spells count_at number IsCount
counts_spell = record { taken = λ bytes x fits e. count_takes bytes x.0 x.1 fits e; again = λ x rest f. count_again x rest f }

pub record WaitingFits (w : Waiting) : Type 0 where
  pub fits : OutputFits w.output
  pub due : w.at ≡ 0

pub outputs_spell : Spells output_at (λ w. output_bytes w.output) WaitingFits
unfolding output_at
outputs_spell = record {
  taken = λ bytes x fits e.
      let m = some_came _ (count_at bytes) x e in
      let to = some_came _ (com_at m.0.1) x m.2 in
      let xs = some_came _ (args_at to.0.1) x to.2 in
      let a = count_takes bytes m.0.0 m.0.1 fits m.1 in
      let b = com_takes m.0.1 to.0.0 to.0.1 a.0.rest_fits to.1 in
      let d = args_takes to.0.1 xs.0.0 xs.0.1 b.0.rest_fits xs.1 in
      let whole : Waiting × List ℕ = (record { output = record { m = m.0.0; to = to.0.0; args = xs.0.0 }; at = 0 }, xs.0.1) in
      subst (λ (z : Waiting × List ℕ). Takes bytes (output_bytes z.0.output) z.1 × WaitingFits z.0) (some_is whole x xs.2) (
        Takes-then bytes (number m.0.0) m.0.1 (to.0.0.0 ∷ args xs.0.0) xs.0.1 a.0 (Takes-then m.0.1 (to.0.0.0 ∷ []) to.0.1 (args xs.0.0) xs.0.1 b.0 d.0),
        record { fits = record { m = a.1; to = b.1; few = d.1; args = d.2 }; due = refl },
      );
  again = λ w rest f.
      let text : output_bytes w.output ++ rest ≡ number w.output.m ++ (w.output.to.0 ∷ (args w.output.args ++ rest)) = append_assoc (number w.output.m) (w.output.to.0 ∷ args w.output.args) rest in
      ap output_at text
      ∙ some_goes_on _ (count_at (number w.output.m ++ (w.output.to.0 ∷ (args w.output.args ++ rest)))) (w.output.m, w.output.to.0 ∷ (args w.output.args ++ rest)) (count_again w.output.m (w.output.to.0 ∷ (args w.output.args ++ rest)) f.fits.m)
      ∙ some_goes_on _ (com_at (w.output.to.0 ∷ (args w.output.args ++ rest))) (w.output.to, args w.output.args ++ rest) (com_again w.output.to (args w.output.args ++ rest) f.fits.to)
      ∙ some_goes_on _ (args_at (args w.output.args ++ rest)) (w.output.args, rest) (args_again w.output.args rest f.fits.few f.fits.args)
      ∙ ap (λ (n : ℕ). waiting_at w n rest) (sym f.due);
}
  where
    waiting_at : Waiting → ℕ → List ℕ → Option (Waiting × List ℕ)
    waiting_at w n rest = Some (record w { at = n }, rest)

pub links_spell : Spells link_at link_bytes LinkFits
unfolding link_at
links_spell = record {
  taken = λ bytes x fits e.
      let to = some_came _ (com_at bytes) x e in
      let k = some_came _ (count_at to.0.1) x to.2 in
      let a = com_takes bytes to.0.0 to.0.1 fits to.1 in
      let b = count_takes to.0.1 k.0.0 k.0.1 a.0.rest_fits k.1 in
      let whole : (ComId × ℕ) × List ℕ = ((to.0.0, k.0.0), k.0.1) in
      subst (λ (z : (ComId × ℕ) × List ℕ). Takes bytes (link_bytes z.0) z.1 × LinkFits z.0) (some_is whole x k.2) (Takes-then bytes (to.0.0.0 ∷ []) to.0.1 (number k.0.0) k.0.1 a.0 b.0, record { to = a.1; sent = b.1 });
  again = λ x rest f.
      some_goes_on _ (com_at (x.0.0 ∷ (number x.1 ++ rest))) (x.0, number x.1 ++ rest) (com_again x.0 (number x.1 ++ rest) f.to)
      ∙ some_goes_on _ (count_at (number x.1 ++ rest)) (x.1, rest) (count_again x.1 rest f.sent);
}

pub record HeldFits (c : ComId) (h : Held) : Type 0 where
  pub fits : MessageFits c h.msg
  pub due : h.at ≡ 0
  pub put : h.put ≡ true
  pub unstable : h.stable ≡ false

held_with : Held → ComId → ℕ → Bool → Bool → List ℕ → Option (Held × List ℕ)
held_with h c at put stable rest = Some (record { msg = record { from = c; to = h.msg.to; k = h.msg.k; stamp = h.msg.stamp; handler = h.msg.handler; args = h.msg.args }; at = at; put = put; stable = stable }, rest)

pub messages_spell : (c : ComId) → Spells (message_at c) (λ h. message_bytes h.msg) (HeldFits c)
unfolding message_at held_with
messages_spell c = record {
  taken = λ bytes x fits e.
      let to = some_came _ (com_at bytes) x e in
      let k = some_came _ (count_at to.0.1) x to.2 in
      let s = some_came _ (time_at k.0.1) x k.2 in
      let h = some_came _ (number_at w8 s.0.1) x s.2 in
      let xs = some_came _ (args_at h.0.1) x h.2 in
      let a1 = com_takes bytes to.0.0 to.0.1 fits to.1 in
      let a2 = count_takes to.0.1 k.0.0 k.0.1 a1.0.rest_fits k.1 in
      let a3 = time_takes k.0.1 s.0.0 s.0.1 a2.0.rest_fits s.1 in
      let a4 = byte_takes s.0.1 h.0.0 h.0.1 a3.0.rest_fits h.1 in
      let a5 = args_takes h.0.1 xs.0.0 xs.0.1 a4.0.rest_fits xs.1 in
      let b4 = Takes-then s.0.1 (h.0.0 ∷ []) h.0.1 (args xs.0.0) xs.0.1 a4.0 a5.0 in
      let b3 = Takes-then k.0.1 (number s.0.0) s.0.1 (h.0.0 ∷ args xs.0.0) xs.0.1 a3.0 b4 in
      let b2 = Takes-then to.0.1 (number k.0.0) k.0.1 (number s.0.0 ++ (h.0.0 ∷ args xs.0.0)) xs.0.1 a2.0 b3 in
      let b1 = Takes-then bytes (to.0.0.0 ∷ []) to.0.1 (number k.0.0 ++ (number s.0.0 ++ (h.0.0 ∷ args xs.0.0))) xs.0.1 a1.0 b2 in
      let whole : Held × List ℕ = (record { msg = record { from = c; to = to.0.0; k = k.0.0; stamp = s.0.0; handler = h.0.0; args = xs.0.0 }; at = 0; put = true; stable = false }, xs.0.1) in
      subst (λ (z : Held × List ℕ). Takes bytes (message_bytes z.0.msg) z.1 × HeldFits c z.0) (some_is whole x xs.2)
      (b1, record { fits = record { from = refl; to = a1.1; k = a2.1; stamp = a3.1; handler = a4.1; few = a5.1; args = a5.2 }; due = refl; put = refl; unstable = refl });
  again = λ h rest f.
      let m = h.msg in
      let last : List ℕ = m.handler ∷ (args m.args ++ rest) in
      let text : message_bytes m ++ rest ≡ m.to.0 ∷ (number m.k ++ (number m.stamp ++ last)) =
      ap (λ (l : List ℕ). m.to.0 ∷ l) (append_assoc (number m.k) (number m.stamp ++ (m.handler ∷ args m.args)) rest ∙ ap (λ (l : List ℕ). number m.k ++ l) (append_assoc (number m.stamp) (m.handler ∷ args m.args) rest)) in
      ap (message_at c) text
      ∙ some_goes_on _ (com_at (m.to.0 ∷ (number m.k ++ (number m.stamp ++ last)))) (m.to, number m.k ++ (number m.stamp ++ last)) (com_again m.to (number m.k ++ (number m.stamp ++ last)) f.fits.to)
      ∙ some_goes_on _ (count_at (number m.k ++ (number m.stamp ++ last))) (m.k, number m.stamp ++ last) (count_again m.k (number m.stamp ++ last) f.fits.k)
      ∙ some_goes_on _ (time_at (number m.stamp ++ last)) (m.stamp, last) (time_again m.stamp last f.fits.stamp)
      ∙ some_goes_on _ (number_at w8 last) (m.handler, args m.args ++ rest) (byte_again m.handler (args m.args ++ rest))
      ∙ some_goes_on _ (args_at (args m.args ++ rest)) (m.args, rest) (args_again m.args rest f.fits.few f.fits.args)
      ∙ ap (λ (z : ComId). held_with h z 0 true false rest) (sym f.fits.from)
      ∙ ap (λ (z : ℕ). held_with h m.from z true false rest) (sym f.due)
      ∙ ap (λ (z : Bool). held_with h m.from h.at z false rest) (sym f.put)
      ∙ ap (λ (z : Bool). held_with h m.from h.at h.put z rest) (sym f.unstable);
}

abbrev pub part_bytes : Part → List ℕ
part_bytes s = s.0.0 ∷ (number s.1 ++ listed number s.2)

pub record PartFits (s : Part) : Type 0 where
  pub from : IsCom s.0
  pub bound : s.1 ≤ GREATEST_NUMBER
  pub few : length s.2 < 2 ^ 32
  pub above : AllByRecursion IsCount s.2

pub parts_spell : Spells part_at part_bytes PartFits
unfolding part_at listed_again
parts_spell = record {
  taken = λ bytes x fits e.
      let from = some_came _ (com_at bytes) x e in
      let w = some_came _ (time_at from.0.1) x from.2 in
      let n = some_came _ (number_at w32 w.0.1) x w.2 in
      let ks = some_came _ (many_at count_at n.0.0 n.0.1) x n.2 in
      let a1 = com_takes bytes from.0.0 from.0.1 fits from.1 in
      let a2 = time_takes from.0.1 w.0.0 w.0.1 a1.0.rest_fits w.1 in
      let a3 = listed_taken in_word counts_spell w.0.1 ks.0.0 ks.0.1 a2.0.rest_fits (record { n = n.0.0; front = n.0.1; count_is = n.1; items_are = ks.1 }) in
      let b2 = Takes-then from.0.1 (number w.0.0) w.0.1 (listed number ks.0.0) ks.0.1 a2.0 a3.0 in
      let b1 = Takes-then bytes (from.0.0.0 ∷ []) from.0.1 (number w.0.0 ++ listed number ks.0.0) ks.0.1 a1.0 b2 in
      let whole : Part × List ℕ = ((from.0.0, w.0.0, ks.0.0), ks.0.1) in
      subst (λ (z : Part × List ℕ). Takes bytes (part_bytes z.0) z.1 × PartFits z.0) (some_is whole x ks.2) (b1, record { from = a1.1; bound = a2.1; few = a3.1; above = a3.2 });
  again = λ s rest f.
      let last : List ℕ = to_be_bytes w32 (length s.2) ++ (flat_map number s.2 ++ rest) in
      let text : part_bytes s ++ rest ≡ s.0.0 ∷ (number s.1 ++ last) =
      ap (λ (l : List ℕ). s.0.0 ∷ l) (append_assoc (number s.1) (listed number s.2) rest ∙ ap (λ (l : List ℕ). number s.1 ++ l) (append_assoc (to_be_bytes w32 (length s.2)) (flat_map number s.2) rest)) in
      let l = listed_again in_word counts_spell s.2 rest f.few f.above in
      ap part_at text
      ∙ some_goes_on _ (com_at (s.0.0 ∷ (number s.1 ++ last))) (s.0, number s.1 ++ last) (com_again s.0 (number s.1 ++ last) f.from)
      ∙ some_goes_on _ (time_at (number s.1 ++ last)) (s.1, last) (time_again s.1 last f.bound)
      ∙ some_goes_on _ (number_at w32 last) (length s.2, flat_map number s.2 ++ rest) l.count_is
      ∙ some_goes_on _ (many_at count_at (length s.2) (flat_map number s.2 ++ rest)) (s.2, rest) l.items_are;
}

-- the last ended transaction ----------------------------------------------------------------------------

pub last_again : (o : Option (ComId × ℕ)) (rest : List ℕ) → LastFits o → last_at (last_bytes o ++ rest) ≡ Some (o, rest)
unfolding last_at ended_at
last_again None rest f = refl
last_again (Some x) rest f =
    some_goes_on _ (com_at (x.0.0 ∷ (number x.1 ++ rest))) (x.0, number x.1 ++ rest) (com_again x.0 (number x.1 ++ rest) f.0)
    ∙ some_goes_on _ (count_at (number x.1 ++ rest)) (x.1, rest) (count_again x.1 rest f.1)

pub last_taken : (bytes : List ℕ) (o : Option (ComId × ℕ) × List ℕ) → IsBytes bytes → last_at bytes ≡ Some o → Takes bytes (last_bytes o.0) o.1 × LastFits o.0
unfolding last_at ended_at
last_taken [] o fits e = absurd cc
last_taken (zero ∷ bytes) o fits e =
    let none : Option (ComId × ℕ) × List ℕ = (None, bytes) in
    subst (λ (z : Option (ComId × ℕ) × List ℕ). Takes (0 ∷ bytes) (last_bytes z.0) z.1 × LastFits z.0) (some_is none o e) (record { parts = refl; rest_fits = takes.IsBytes-rest 0 bytes fits }, tt)
last_taken (suc zero ∷ bytes) o fits e =
    let t = some_came _ (com_at bytes) o e in
    let n = some_came _ (count_at t.0.1) o t.2 in
    let a = com_takes bytes t.0.0 t.0.1 (takes.IsBytes-rest 1 bytes fits) t.1 in
    let b = count_takes t.0.1 n.0.0 n.0.1 a.0.rest_fits n.1 in
    let whole : Option (ComId × ℕ) × List ℕ = (Some (t.0.0, n.0.0), n.0.1) in
    subst (λ (z : Option (ComId × ℕ) × List ℕ). Takes (1 ∷ bytes) (last_bytes z.0) z.1 × LastFits z.0) (some_is whole o n.2)
    (takes.Takes-kind 1 bytes (t.0.0.0 ∷ number n.0.0) n.0.1 (Takes-then bytes (t.0.0.0 ∷ []) t.0.1 (number n.0.0) n.0.1 a.0 b.0), (a.1, b.1))
last_taken (suc (suc n) ∷ bytes) o fits e = absurd cc
