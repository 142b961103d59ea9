-- No number of a state that was read from an image passes its limit.
use Rattle.std.proofs.Common.{◌≡◌, ◌∙◌, ◌&&◌, ℕ, zero, suc, Bool, true, false, cond, List, Some, None, ap, sym, subst, refl}
use Rattle.std.specs.Int.{w8, w32, w64}
use Rattle.std.proofs.lemmas.Bool.{and_parts, and_from}
use Rattle.std.proofs.lemmas.Option.{option_and_then_some}
use Rattle.ic_base.specs.declared.messages.ComId.{ComId}
use Rattle.ic_base.specs.declared.scenario.Program.{Program}
use Rattle.def_log.specs.Reading.{number_at, tested_at, time_at, count_at, com_at, values_at}
use Rattle.def_state.specs.Vol.{Vol, numbers_fit}
use Rattle.def_state.specs.Image.{read_image, fields_at, many_at, link_at, last_at, output_at, message_at, sender_at, image_fits, same_bytes, image_of}
use Rattle.ic_replay.specs.Limits.{are_within}
use Rattle.ic_replay.proofs.Sending.{is_within}

some_alike : {A : Type 0} (P : A → Type 0) (a b : A) → Some a ≡ Some b → P a → P b
some_alike P a b e p = let same : a ≡ b = cc in subst P same p

passed : {A : Type 0} (test : Bool) (a b : A) → cond test (Some a) None ≡ Some b → (test ≡ true) × (a ≡ b)
passed true a b e = (refl, (cc))
passed false a b e = absurd (cc)

tested : (test : ℕ → Bool) (bytes : List ℕ) (n : ℕ × List ℕ) → tested_at w64 test bytes ≡ Some n → test n.0 ≡ true
unfolding tested_at
tested test bytes n e =
    option_and_then_some _ (number_at w64 bytes) n e (λ m is e. let p = passed (test m.0) m n e in ap (λ (x : ℕ × List ℕ). test x.0) (sym p.1) ∙ p.0)

link_within : (bytes : List ℕ) (x : (ComId × ℕ) × List ℕ) → link_at bytes ≡ Some x → is_within x.0.1 ≡ true
unfolding link_at
link_within bytes x e =
    option_and_then_some _ (com_at bytes) x e (λ to is_to e.
    option_and_then_some _ (count_at to.1) x e (λ k is_k e.
    some_alike (λ (y : (ComId × ℕ) × List ℕ). is_within y.0.1 ≡ true) _ x e (and_parts _ _ (tested _ to.1 k is_k)).1))

links_within : (n : ℕ) (bytes : List ℕ) (x : List (ComId × ℕ) × List ℕ) → many_at link_at n bytes ≡ Some x → are_within x.0 ≡ true
unfolding many_at
links_within zero bytes x e = some_alike (λ (y : List (ComId × ℕ) × List ℕ). are_within y.0 ≡ true) _ x e refl
links_within (suc n) bytes x e =
    option_and_then_some _ (link_at bytes) x e (λ first is_first e.
    option_and_then_some _ (many_at link_at n first.1) x e (λ more is_more e.
    some_alike (λ (y : List (ComId × ℕ) × List ℕ). are_within y.0 ≡ true) _ x e (and_from _ _ (link_within bytes first is_first) (links_within n first.1 more is_more))))

fields_within : (program : Program) (c : ComId) (bytes : List ℕ) (x : Vol × List ℕ) → fields_at program c bytes ≡ Some x → numbers_fit x.0 ≡ true
unfolding fields_at
fields_within program c bytes x e =
    option_and_then_some _ (time_at bytes) x e (λ clock is_clock e.
    option_and_then_some _ (number_at w8 clock.1) x e (λ variables is_variables e.
    option_and_then_some _ (values_at variables.0 variables.1) x e (λ vars is_vars e.
    option_and_then_some _ (time_at vars.1) x e (λ begun is_begun e.
    option_and_then_some _ (last_at begun.1) x e (λ last is_last e.
    option_and_then_some _ (time_at last.1) x e (λ made is_made e.
    option_and_then_some _ (number_at w32 made.1) x e (λ outputs is_outputs e.
    option_and_then_some _ (many_at output_at outputs.0 outputs.1) x e (λ waiting is_waiting e.
    option_and_then_some _ (number_at w8 waiting.1) x e (λ links is_links e.
    option_and_then_some _ (many_at link_at links.0 links.1) x e (λ sent is_sent e.
    option_and_then_some _ (number_at w32 sent.1) x e (λ messages is_messages e.
    option_and_then_some _ (many_at (message_at c) messages.0 messages.1) x e (λ held is_held e.
    option_and_then_some _ (number_at w8 held.1) x e (λ senders is_senders e.
    option_and_then_some _ (many_at sender_at senders.0 senders.1) x e (λ taken is_taken e.
    some_alike (λ (y : Vol × List ℕ). numbers_fit y.0 ≡ true) _ x e
    (and_from _ _ (tested _ bytes clock is_clock)
    (and_from _ _ (tested _ last.1 made is_made)
    (and_from _ _ (tested _ vars.1 begun is_begun) (links_within links.0 links.1 sent is_sent))))))))))))))))))

pub image_within : (program : Program) (c : ComId) (bytes : List ℕ) (v : Vol) → read_image program c bytes ≡ Some v → numbers_fit v ≡ true
unfolding read_image
image_within program c bytes v e =
    option_and_then_some _ (fields_at program c bytes) v e (λ x is e.
    let p = passed (image_fits program c x.0 && same_bytes (image_of x.0) bytes) x.0 v e in
    ap numbers_fit (sym p.1) ∙ fields_within program c bytes x is)
