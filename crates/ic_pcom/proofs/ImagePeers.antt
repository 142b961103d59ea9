-- The senders of the messages that an image says were taken.
use Rattle.std.proofs.Common.{◌≡◌, ◌∙◌, ◌&&◌, ℕ, zero, suc, ◌+◌, Bool, true, false, cond, List, [], ◌∷◌, ◌++◌, map, Some, None, ap, sym, subst, refl}
use Rattle.std.specs.Int.{w8, w32}
use Rattle.std.specs.List.{flat_map, range_with_len}
use Rattle.std.specs.Prelude.{nat_lt}
use Rattle.std.proofs.lemmas.Bool.{and_from}
use Rattle.std.proofs.lemmas.List.Folds.{list_all-append}
use Rattle.std.proofs.lemmas.Option.{option_and_then_some}
use Rattle.ic_base.specs.declared.limits.TheConstants.{COMPONENTS}
use Rattle.ic_base.specs.declared.messages.ComId.{ComId}
use Rattle.ic_base.specs.declared.scenario.Program.{Program}
use Rattle.def_log.specs.Reading.{number_at, tested_at, time_at, count_at, com_at, values_at}
use Rattle.def_state.specs.Names.{Identity}
use Rattle.def_state.specs.Vol.{Vol}
use Rattle.def_state.specs.Image.{read_image, fields_at, many_at, link_at, last_at, output_at, message_at, part_at, sender_at, identities, rises_above, image_fits, same_bytes, image_of}
use Rattle.ic_in.specs.Senders.{are_components}
use Rattle.ic_pcom.specs.Stages.{HasPeers}

some_alike : {A : Type 0} (P : A → Type 0) (a b : A) → Some a ≡ Some b → P a → P b
some_alike P a b e p = let same : a ≡ b = cc in subst P same p

passed : {A : Type 0} (test : Bool) (a b : A) → cond test (Some a) None ≡ Some b → (test ≡ true) × (a ≡ b)
passed true a b e = (refl, (cc))
passed false a b e = absurd (cc)

com_within : (bytes : List ℕ) (x : ComId × List ℕ) → com_at bytes ≡ Some x → nat_lt x.0.0 COMPONENTS ≡ true
unfolding com_at tested_at
com_within bytes x e =
    option_and_then_some _ (tested_at w8 (λ n. nat_lt n COMPONENTS) bytes) x e (λ n is e.
    option_and_then_some _ (number_at w8 bytes) n is (λ m is_m passes.
    let p = passed (nat_lt m.0 COMPONENTS) m n passes in
    some_alike (λ (y : ComId × List ℕ). nat_lt y.0.0 COMPONENTS ≡ true) _ x e (ap (λ (y : ℕ × List ℕ). nat_lt y.0 COMPONENTS) (sym p.1) ∙ p.0)))

each_from : (from : ComId) → nat_lt from.0 COMPONENTS ≡ true → (ks : List ℕ) → are_components (map (λ k. record { peer = from; k = k }) ks) ≡ true
each_from from is [] = refl
each_from from is (k ∷ ks) = and_from _ _ is (each_from from is ks)

sender_within : (bytes : List ℕ) (x : List Identity × List ℕ) → sender_at bytes ≡ Some x → are_components x.0 ≡ true
unfolding sender_at part_at
sender_within bytes x e =
    option_and_then_some _ (part_at bytes) x e (λ s is e.
    option_and_then_some _ (com_at bytes) s is (λ from is_from r.
    option_and_then_some _ (time_at from.1) s r (λ w is_w r.
    option_and_then_some _ (number_at w32 w.1) s r (λ n is_n r.
    option_and_then_some _ (many_at count_at n.0 n.1) s r (λ above is_above r.
    let From : (ComId × ℕ × List ℕ) × List ℕ → Type 0 = λ y. nat_lt y.0.0.0 COMPONENTS ≡ true in
    let peer : nat_lt s.0.0.0 COMPONENTS ≡ true = some_alike From _ s r (com_within bytes from is_from) in
    let p = passed (rises_above (s.0.1 + 1) s.0.2) (identities s.0.0 s.0.1 s.0.2, s.1) x e in
    ap (λ (y : List Identity × List ℕ). are_components y.0) (sym p.1) ∙ each_from s.0.0 peer (range_with_len 1 s.0.1 ++ s.0.2))))))

senders_within : (n : ℕ) (bytes : List ℕ) (x : List (List Identity) × List ℕ) → many_at sender_at n bytes ≡ Some x → are_components (flat_map (λ xs. xs) x.0) ≡ true
unfolding many_at
senders_within zero bytes x e = some_alike (λ (y : List (List Identity) × List ℕ). are_components (flat_map (λ xs. xs) y.0) ≡ true) _ x e refl
senders_within (suc n) bytes x e =
    option_and_then_some _ (sender_at bytes) x e (λ first is_first e.
    option_and_then_some _ (many_at sender_at n first.1) x e (λ more is_more e.
    some_alike (λ (y : List (List Identity) × List ℕ). are_components (flat_map (λ xs. xs) y.0) ≡ true) _ x e
    (list_all-append (λ (i : Identity). nat_lt i.peer.0 COMPONENTS) first.0 (flat_map (λ xs. xs) more.0) ∙ and_from _ _ (sender_within bytes first is_first) (senders_within n first.1 more is_more))))

fields_peers : (program : Program) (c : ComId) (bytes : List ℕ) (x : Vol × List ℕ) → fields_at program c bytes ≡ Some x → HasPeers x.0
unfolding fields_at
fields_peers program c bytes x e =
    option_and_then_some _ (time_at bytes) x e (λ clock is_clock e.
    option_and_then_some _ (number_at w8 clock.1) x e (λ variables is_variables e.
    option_and_then_some _ (values_at variables.0 variables.1) x e (λ vars is_vars e.
    option_and_then_some _ (time_at vars.1) x e (λ begun is_begun e.
    option_and_then_some _ (last_at begun.1) x e (λ last is_last e.
    option_and_then_some _ (time_at last.1) x e (λ made is_made e.
    option_and_then_some _ (number_at w32 made.1) x e (λ outputs is_outputs e.
    option_and_then_some _ (many_at output_at outputs.0 outputs.1) x e (λ waiting is_waiting e.
    option_and_then_some _ (number_at w8 waiting.1) x e (λ links is_links e.
    option_and_then_some _ (many_at link_at links.0 links.1) x e (λ sent is_sent e.
    option_and_then_some _ (number_at w32 sent.1) x e (λ messages is_messages e.
    option_and_then_some _ (many_at (message_at c) messages.0 messages.1) x e (λ held is_held e.
    option_and_then_some _ (number_at w8 held.1) x e (λ senders is_senders e.
    option_and_then_some _ (many_at sender_at senders.0 senders.1) x e (λ taken is_taken e.
    some_alike (λ (y : Vol × List ℕ). HasPeers y.0) _ x e (senders_within senders.0 senders.1 taken is_taken)))))))))))))))

-- they are components that a scenario may have
pub image_peers : (program : Program) (c : ComId) (bytes : List ℕ) (v : Vol) → read_image program c bytes ≡ Some v → HasPeers v
unfolding read_image
image_peers program c bytes v e =
    option_and_then_some _ (fields_at program c bytes) v e (λ x is e.
    let p = passed (image_fits program c x.0 && same_bytes (image_of x.0) bytes) x.0 v e in
    ap (λ (w : Vol). are_components w.inbox.taken) (sym p.1) ∙ fields_peers program c bytes x is)
