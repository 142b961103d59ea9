-- The components that have a berth, and their lanes side by side.
use Rattle.std.proofs.Common.{◌≡◌, refl, sym, ap, subst, ◌∙◌, ℕ, zero, suc, ◌+◌, ◌<◌, ◌==◌, Bool, true, false, cond, ◌||◌, List, [], ◌∷◌, ◌++◌, length, filter, take, get_or, arith, Option, Some, None, inl, inr, ◌⊎◌}
use Rattle.std.specs.Prelude.{slice_get, Contains}
use Rattle.std.proofs.lemmas.Bool.{both_ways}
use Rattle.std.proofs.lemmas.Bool.Decides.{nat_tests}
use Rattle.std.proofs.lemmas.List.{take_more, take_all}
use Rattle.std.proofs.lemmas.List.Elements.{filter-append}
use Rattle.std.proofs.lemmas.Option.{same_Some}
use Rattle.ic_base.specs.declared.messages.ComId.{ComId}
use Rattle.ic_base.specs.declared.messages.Packet.{Packet}
use Rattle.ic_base.specs.declared.scenario.Component.{Component}
use Rattle.ic_base.specs.declared.scenario.Program.{Program}
use Rattle.ic_base.specs.Programs.{same_com}
use Rattle.def_run.specs.SystemStates.{has_disk}
use Rattle.def_facts.specs.Logs.{IsPrefixOf}
use Rattle.def_live.specs.Lanes.{Lanes, AreJoined, AreLanesOf, StandAmong, is_between}
use Rattle.def_live.specs.Turns.{coms_from}
use Rattle.ic_lane.specs.Lanes.{In, Out}
use Rattle.ic_live.specs.Berthed.{berthed, lanes_of}
use Rattle.ic_live.specs.Ends.{is_among, AreApart, at_peer, received_from, sent_to, lanes_at}
use Rattle.ic_live.specs.Grids.{Paired, InOrder}
use Rattle.ic_live.proofs.Ends.{peer-read, same-com, self-com, among-there}

-- which they are ---------------------------------------------------------------------------------------------

coms-length : (n : ℕ) (xs : List Component) → length (coms_from n xs) ≡ length xs
coms-length n [] = refl
coms-length n (x ∷ xs) = ap suc (coms-length (n + 1) xs)

coms-at : (n i : ℕ) (xs : List Component) (d : ComId) → i < length xs → get_or (coms_from n xs) i d ≡ record { 0 = n + i }
coms-at n i [] d l = absurd (omega (arith, l))
coms-at n zero (x ∷ xs) d l = let P : ℕ → ComId = λ k. record { 0 = k } in ap P (omega arith)
coms-at n (suc i) (x ∷ xs) d l = let P : ℕ → ComId = λ k. record { 0 = k } in let e : n + 1 + i ≡ n + suc i = omega arith in coms-at (n + 1) i xs d (omega (arith, l)) ∙ ap P e

-- as far as a loop has come
pub berthed-next : (program : Program) (i : ℕ) (c : ComId) (coms news : List ComId) → i < length program.components → c.0 ≡ i → coms ≡ filter (has_disk program) (take i (coms_from 0 program.components)) → news ≡ coms ++ filter (has_disk program) (c ∷ [])
    → news ≡ filter (has_disk program) (take (i + 1) (coms_from 0 program.components))
berthed-next program i c coms news small is inv added =
    added
    ∙ ap (λ l. l ++ filter (has_disk program) (c ∷ [])) inv
    ∙ sym (filter-append (has_disk program) (take i (coms_from 0 program.components)) (c ∷ []))
    ∙ ap (filter (has_disk program)) (sym (take_more (coms_from 0 program.components) i c within ∙ ap (λ z. take i (coms_from 0 program.components) ++ z ∷ []) (coms-at 0 i program.components c small ∙ same)))
  where
    within : i < length (coms_from 0 program.components)
    within = let l = coms-length 0 program.components in omega (arith, l, small)

    same : record { 0 = 0 + i } ≡ c
    same = let P : ℕ → ComId = λ k. record { 0 = k } in let e : 0 + i ≡ c.0 = omega (arith, is) in ap P e

pub berthed-all : (program : Program) (i : ℕ) (coms : List ComId) → length program.components ≡ i → coms ≡ filter (has_disk program) (take i (coms_from 0 program.components)) → coms ≡ berthed program
berthed-all program i coms e inv = inv ∙ ap (filter (has_disk program)) (take_all i (coms_from 0 program.components) (let l = coms-length 0 program.components in omega (arith, l, e)))

-- each comes once
not-later : (n m : ℕ) (xs : List Component) (test : ComId → Bool) → m < n → is_among (filter test (coms_from n xs)) (record { 0 = m }) ≡ false
not-later n m [] test l = refl
not-later n m (x ∷ xs) test l = by (test (record { 0 = n })) (not-later (n + 1) m xs test (omega (arith, l)))
  where
    other : (m == n) ≡ false
    other = grind (arith, nat_tests, l)

    by : (b : Bool) → is_among (filter test (coms_from (n + 1) xs)) (record { 0 = m }) ≡ false → is_among (cond b (record { 0 = n } ∷ filter test (coms_from (n + 1) xs)) (filter test (coms_from (n + 1) xs))) (record { 0 = m }) ≡ false
    by false more = more
    by true more = ap (λ t. t || is_among (filter test (coms_from (n + 1) xs)) (record { 0 = m })) other ∙ more

pub berthed-apart : (program : Program) → AreApart (berthed program)
berthed-apart program = by 0 program.components
  where
    by : (n : ℕ) (xs : List Component) → AreApart (filter (has_disk program) (coms_from n xs))
    by n [] = tt
    by n (x ∷ xs) = at (has_disk program (record { 0 = n })) (not-later (n + 1) n xs (has_disk program) (omega arith)) (by (n + 1) xs)
      where
        at : (b : Bool) → is_among (filter (has_disk program) (coms_from (n + 1) xs)) (record { 0 = n }) ≡ false → AreApart (filter (has_disk program) (coms_from (n + 1) xs)) → AreApart (cond b (record { 0 = n } ∷ filter (has_disk program) (coms_from (n + 1) xs)) (filter (has_disk program) (coms_from (n + 1) xs)))
        at false none more = more
        at true none more = (none, more)

-- lanes side by side -----------------------------------------------------------------------------------------

-- the place of one of these, or it is none
pub place-or_none : (peers : List ComId) (d : ComId) → ((k : ℕ) × (slice_get peers k ≡ Some d)) ⊎ (is_among peers d ≡ false)
place-or_none [] d = inr refl
place-or_none (p ∷ peers) d = by (same_com d p) refl (place-or_none peers d)
  where
    by : (b : Bool) → same_com d p ≡ b → ((k : ℕ) × (slice_get peers k ≡ Some d)) ⊎ (is_among peers d ≡ false) → ((k : ℕ) × (slice_get (p ∷ peers) k ≡ Some d)) ⊎ (is_among (p ∷ peers) d ≡ false)
    by true e more = inl (0, ap (λ z. Some z) (sym (same-com d p e)))
    by false e (inl k) = inl (suc k.0, k.1)
    by false e (inr none) = inr (ap (λ t. t || is_among peers d) e ∙ none)

-- nothing is read of one that is none of these
pub none-read : {A B : Type 0} (none : B) (read : A → B) (peers : List ComId) (ends : List A) (d : ComId) → is_among peers d ≡ false → at_peer none read peers ends d ≡ none
none-read none read [] ends d e = refl
none-read none read (p ∷ peers) [] d e = refl
none-read none read (p ∷ peers) (x ∷ ends) d e = by (same_com d p) e (none-read none read peers ends d)
  where
    by : (b : Bool) → (b || is_among peers d) ≡ false → (is_among peers d ≡ false → at_peer none read peers ends d ≡ none) → cond b (read x) (at_peer none read peers ends d) ≡ none
    by true f more = absurd (both_ways true f refl)
    by false f more = more f

-- or of a place with no end
pub past-read : {A B : Type 0} (none : B) (read : A → B) (peers : List ComId) (ends : List A) (d : ComId) (k : ℕ) → AreApart peers → slice_get peers k ≡ Some d → slice_get ends k ≡ None → at_peer none read peers ends d ≡ none
past-read none read [] ends d k apart p e = absurd (cc p)
past-read none read (q ∷ peers) [] d k apart p e = refl
past-read none read (q ∷ peers) (x ∷ ends) d zero apart p e = absurd (cc e)
past-read none read (q ∷ peers) (x ∷ ends) d (suc k) apart p e = by (same_com d q) refl (past-read none read peers ends d k apart.1 p e)
  where
    by : (b : Bool) → same_com d q ≡ b → at_peer none read peers ends d ≡ none → cond b (read x) (at_peer none read peers ends d) ≡ none
    by false f more = more
    by true f more = absurd (both_ways (is_among peers d) (subst (λ z. is_among peers z ≡ false) (sym (same-com d q f)) apart.0) (there peers k d p))
      where
        there : (xs : List ComId) (i : ℕ) (d : ComId) → slice_get xs i ≡ Some d → is_among xs d ≡ true
        there xs i d at = among-there xs i d at

module _ (peers : List ComId) (apart : AreApart peers) (outs : List (List Out)) (ins : List (List In)) where
  -- what a component's own ends say is what all say of its lanes
  pub own-sent : (c to : ComId) (i : ℕ) (os : List Out) → slice_get peers i ≡ Some c → slice_get outs i ≡ Some os → (lanes_of peers outs ins c to).sent ≡ sent_to peers os to
  own-sent c to i os p at = peer-read [] (λ (x : List Out). sent_to peers x to) peers outs i c c os apart p at (self-com c)

  pub own-received : (c from : ComId) (i : ℕ) (is : List In) → slice_get peers i ≡ Some c → slice_get ins i ≡ Some is → (lanes_of peers outs ins from c).received ≡ received_from peers is from
  own-received c from i is p at = peer-read [] (λ (x : List In). received_from peers x from) peers ins i c c is apart p at (self-com c)

  pub own-lanes : (c : ComId) (i : ℕ) (os : List Out) (is : List In) (sent received : List Packet) → slice_get peers i ≡ Some c → slice_get outs i ≡ Some os → slice_get ins i ≡ Some is → AreLanesOf (lanes_at c peers is os) c sent received → AreLanesOf (lanes_of peers outs ins) c sent received
  own-lanes c i os is sent received p at_o at_i own = record {
    outs = λ to. subst (λ l. StandAmong l sent) (same to) (own.outs to);
    pairs = λ to q h. own.pairs to q (subst (λ l. Contains l q) (sym (same to)) h);
    ins = λ from. own.ins from ∙ ap (filter (is_between from c)) (ap (λ b. cond b (received_from peers is from) []) (self-com c) ∙ sym (own-received c from i is p at_i));
  }
    where
      same : (to : ComId) → cond (same_com c c) (sent_to peers os to) [] ≡ (lanes_of peers outs ins c to).sent
      same to = ap (λ b. cond b (sent_to peers os to) []) (self-com c) ∙ sym (own-sent c to i os p at_o)

  nothing : (xs ys : List Packet) → xs ≡ [] → IsPrefixOf xs ys
  nothing xs ys e = (ys, ap (λ l. l ++ ys) (sym e))

  -- what was popped of each lane is a front of what it took
  pub lanes-joined : ((i j : ℕ) (d : ComId) → slice_get peers i ≡ Some d → (os : List Out) × (slice_get outs i ≡ Some os) × ((k : ℕ) (e : ComId) → slice_get peers k ≡ Some e → (o : Out) × (slice_get os k ≡ Some o)))
      → Paired InOrder outs ins → AreJoined (lanes_of peers outs ins)
  lanes-joined full order from to = by (place-or_none peers to) (place-or_none peers from)
    where
      F : Lanes
      F = lanes_of peers outs ins

      by : ((k : ℕ) × (slice_get peers k ≡ Some to)) ⊎ (is_among peers to ≡ false) → ((k : ℕ) × (slice_get peers k ≡ Some from)) ⊎ (is_among peers from ≡ false) → IsPrefixOf (lanes_of peers outs ins from to).received (lanes_of peers outs ins from to).sent
      by (inr none) f = nothing _ _ (none-read [] (λ (x : List In). received_from peers x from) peers ins to none)
      by (inl j) (inr none) = nothing _ _ (at (slice_get ins j.0) refl)
        where
          at : (o : Option (List In)) → slice_get ins j.0 ≡ o → (lanes_of peers outs ins from to).received ≡ []
          at None e = past-read [] (λ (x : List In). received_from peers x from) peers ins to j.0 apart j.1 e
          at (Some is) e = own-received to from j.0 is j.1 e ∙ none-read [] (λ (x : In). x.received) peers is from none
      by (inl j) (inl i) = at (slice_get ins j.0) refl
        where
          at : (o : Option (List In)) → slice_get ins j.0 ≡ o → IsPrefixOf (lanes_of peers outs ins from to).received (lanes_of peers outs ins from to).sent
          at None e = nothing _ _ (past-read [] (λ (x : List In). received_from peers x from) peers ins to j.0 apart j.1 e)
          at (Some is) e = end (slice_get is i.0) refl
            where
              end : (o : Option In) → slice_get is i.0 ≡ o → IsPrefixOf (lanes_of peers outs ins from to).received (lanes_of peers outs ins from to).sent
              end None f = nothing _ _ (own-received to from j.0 is j.1 e ∙ past-read [] (λ (x : In). x.received) peers is from i.0 apart i.1 f)
              end (Some x) f =
                  let row = full i.0 j.0 from i.1 in
                  let o = row.2 j.0 to j.1 in
                  let got : (lanes_of peers outs ins from to).received ≡ x.received = own-received to from j.0 is j.1 e ∙ peer-read [] (λ (y : In). y.received) peers is i.0 from from x apart i.1 f (self-com from) in
                  let gave : (lanes_of peers outs ins from to).sent ≡ o.0.sent = own-sent from to i.0 row.0 i.1 row.1 ∙ peer-read [] (λ (y : Out). y.sent) peers row.0 j.0 to to o.0 apart j.1 o.1 (self-com to) in
                  let front = order i.0 j.0 row.0 o.0 is x row.1 o.1 e f in
                  (front.0, gave ∙ sym front.1 ∙ ap (λ l. l ++ front.0) (sym got))

-- each is a component of the program
pub berthed-within : (program : Program) (k : ℕ) (c : ComId) → slice_get (berthed program) k ≡ Some c → c.0 < length program.components
berthed-within program k c at = let l = by 0 program.components k at in omega (arith, l)
  where
    by : (n : ℕ) (xs : List Component) (k : ℕ) → slice_get (filter (has_disk program) (coms_from n xs)) k ≡ Some c → c.0 < n + length xs
    by n [] k e = absurd (cc e)
    by n (x ∷ xs) k e = test (has_disk program (record { 0 = n })) k e (by (n + 1) xs)
      where
        test : (b : Bool) (k : ℕ) → slice_get (cond b (record { 0 = n } ∷ filter (has_disk program) (coms_from (n + 1) xs)) (filter (has_disk program) (coms_from (n + 1) xs))) k ≡ Some c
            → ((j : ℕ) → slice_get (filter (has_disk program) (coms_from (n + 1) xs)) j ≡ Some c → c.0 < n + 1 + length xs) → c.0 < n + suc (length xs)
        test false k e more = let l = more k e in omega (arith, l)
        test true zero e more = let s : n ≡ c.0 = ap (λ (d : ComId). d.0) (same_Some _ c e) in omega (arith, s)
        test true (suc j) e more = let l = more j e in omega (arith, l)

-- and has a disk
pub berthed-has : (program : Program) (k : ℕ) (c : ComId) → slice_get (berthed program) k ≡ Some c → has_disk program c ≡ true
berthed-has program k c at = by 0 program.components k at
  where
    by : (n : ℕ) (xs : List Component) (k : ℕ) → slice_get (filter (has_disk program) (coms_from n xs)) k ≡ Some c → has_disk program c ≡ true
    by n [] k e = absurd (cc e)
    by n (x ∷ xs) k e = test (has_disk program (record { 0 = n })) refl k e (by (n + 1) xs)
      where
        test : (b : Bool) → has_disk program (record { 0 = n }) ≡ b → (k : ℕ) → slice_get (cond b (record { 0 = n } ∷ filter (has_disk program) (coms_from (n + 1) xs)) (filter (has_disk program) (coms_from (n + 1) xs))) k ≡ Some c
            → ((j : ℕ) → slice_get (filter (has_disk program) (coms_from (n + 1) xs)) j ≡ Some c → has_disk program c ≡ true) → has_disk program c ≡ true
        test false has k e more = more k e
        test true has zero e more = ap (has_disk program) (sym (same_Some _ c e)) ∙ has
        test true has (suc j) e more = more j e
