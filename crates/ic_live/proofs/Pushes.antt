-- What pushes do to the ends of a component.
use Rattle.std.proofs.Common.{◌≡◌, refl, sym, ap, subst, ◌∙◌, ℕ, zero, suc, ◌+◌, ◌<◌, ◌≤◌, Bool, true, false, cond, ◌&&◌, List, [], ◌∷◌, ◌++◌, length, get_or, filter, take, arith, Some, ⊎_elim, append_assoc, length-append}
use Rattle.std.specs.Prelude.{slice_get, slice_set, slice_index_or, Contains, Result, Ok, Err, OnOk, IfErr}
use Rattle.std.proofs.lemmas.Bool.{both_ways, and_parts}
use Rattle.std.proofs.lemmas.List.{append-nil, take_more, length-map}
use Rattle.std.proofs.lemmas.List.Elements.{filter-append, Contains-append_cases}
use Rattle.ic_base.specs.declared.messages.ComId.{ComId}
use Rattle.ic_base.specs.declared.messages.Packet.{Packet}
use Rattle.ic_base.specs.declared.messages.Packet.TheVariants.{Data}
use Rattle.ic_base.specs.Programs.{same_com}
use Rattle.def_step.specs.Packets.{sender_of, receiver_of}
use Rattle.def_live.specs.Lanes.{StandAmong, is_between}
use Rattle.ic_lane.specs.Lanes.{Out, IsFresh}
use Rattle.ic_lane.specs.declared.pair.PushRefused.{PushRefused}
use Rattle.ic_lane.specs.declared.pair.PushRefused.TheVariants.{Full}
use Rattle.law_live.proofs.Among.{among-both}
use Rattle.ic_live.specs.Ends.{is_among, AreApart, IsPushed, ArePushed, MayPush, sent_to, fulls_to}
use Rattle.ic_live.proofs.Ends.{same-com, peer-set, peer-read, set-same}

-- no packet is put out for a peer
pub pushed-none : (c : ComId) (peers : List ComId) (outs : List Out) (puts : List Packet) → ((to : ComId) → is_among peers to ≡ true → filter (is_between c to) puts ≡ []) → ArePushed c peers outs outs puts
pushed-none c peers outs puts none = record {
  lanes = refl;
  pushed = λ to. record {
    taken = [];
    among = tt;
    sent = sym (append-nil (sent_to peers outs to));
    lost = λ is. let e = ap (λ (l : List Packet). length l) (none to is) in omega (arith, e);
  };
}

not-between : (c to : ComId) (p : Packet) → is_between c to p ≡ false → filter (is_between c to) (p ∷ []) ≡ []
not-between c to p e = ap (λ b. cond b (p ∷ []) []) e

-- a packet that isn't from c
pub pushed-foreign : (c : ComId) (peers : List ComId) (outs : List Out) (p : Packet) → same_com c (sender_of p) ≡ false → ArePushed c peers outs outs (p ∷ [])
pushed-foreign c peers outs p e = pushed-none c peers outs (p ∷ []) (λ to is. not-between c to p (ap (λ b. b && same_com to (receiver_of p)) e))

-- a packet whose receiver is no peer
pub pushed-nowhere : (c : ComId) (peers : List ComId) (outs : List Out) (p : Packet) → is_among peers (receiver_of p) ≡ false → ArePushed c peers outs outs (p ∷ [])
pushed-nowhere c peers outs p e = pushed-none c peers outs (p ∷ []) (λ to is. not-between c to p (by to is (same_com to (receiver_of p)) refl))
  where
    by : (to : ComId) → is_among peers to ≡ true → (b : Bool) → same_com to (receiver_of p) ≡ b → is_between c to p ≡ false
    by to is false k = none (same_com c (sender_of p)) ∙ k
      where
        none : (a : Bool) → (a && same_com to (receiver_of p)) ≡ same_com to (receiver_of p)
        none true = refl
        none false = sym k
    by to is true k = absurd (both_ways (is_among peers to) (subst (λ z. is_among peers z ≡ false) (sym (same-com to (receiver_of p) k)) e) is)

module _ (c : ComId) (peers : List ComId) (outs : List Out) (at : ℕ) (d : ComId) (v w : Out) (p : Packet) (apart : AreApart peers) (place : slice_get peers at ≡ Some d) (there : slice_get outs at ≡ Some v) (lane : w.lane ≡ v.lane) (from : same_com c (sender_of p) ≡ true) (goes : same_com (receiver_of p) d ≡ true) where
  abbrev pub changed : List Out
  changed = slice_set outs at w

  receiver : receiver_of p ≡ d
  receiver = same-com (receiver_of p) d goes

  sent-now : (to : ComId) → sent_to peers changed to ≡ cond (same_com to d) w.sent (sent_to peers outs to)
  sent-now to = peer-set [] (λ (o : Out). o.sent) peers outs at d v w apart place there to

  fulls-now : (to : ComId) → fulls_to peers changed to ≡ cond (same_com to d) w.fulls (fulls_to peers outs to)
  fulls-now to = peer-set 0 (λ (o : Out). o.fulls) peers outs at d v w apart place there to

  own : (to : ComId) (b : Bool) → same_com to d ≡ b → filter (is_between c to) (p ∷ []) ≡ cond b (p ∷ []) []
  own to b e = ap (λ t. cond t (p ∷ []) []) (ap (λ t. t && same_com to (receiver_of p)) from ∙ ap (same_com to) receiver ∙ e)

  -- the lanes of other peers stay
  other : (to : ComId) → same_com to d ≡ false → IsPushed c to peers outs changed (p ∷ [])
  other to e = record {
    taken = [];
    among = tt;
    sent = sent-now to ∙ ap (λ b. cond b w.sent (sent_to peers outs to)) e ∙ sym (append-nil (sent_to peers outs to));
    lost = λ is. let f = fulls-now to ∙ ap (λ b. cond b w.fulls (fulls_to peers outs to)) e in let l = ap (λ (q : List Packet). length q) (own to false e) in omega (arith, f, l);
  }

  by-peer : ((to : ComId) → same_com to d ≡ true → IsPushed c to peers outs changed (p ∷ [])) → ArePushed c peers outs changed (p ∷ [])
  by-peer mine = record { lanes = set-same (λ (o : Out). o.lane) outs at v w there lane; pushed = λ to. by to (same_com to d) refl }
    where
      by : (to : ComId) (b : Bool) → same_com to d ≡ b → IsPushed c to peers outs changed (p ∷ [])
      by to true e = mine to e
      by to false e = other to e

  -- the lane took it
  pub pushed-taken : w.sent ≡ v.sent ++ p ∷ [] → w.fulls ≡ v.fulls → ArePushed c peers outs changed (p ∷ [])
  pushed-taken sent fulls = by-peer (λ to e. record {
    taken = p ∷ [];
    among = subst (StandAmong (p ∷ [])) (sym (own to true e)) ([], [], refl, tt);
    sent = sent-now to ∙ ap (λ b. cond b w.sent (sent_to peers outs to)) e ∙ sent ∙ ap (λ l. l ++ p ∷ []) (sym (peer-read [] (λ (o : Out). o.sent) peers outs at d to v apart place there e));
    lost = λ is. let f = fulls-now to ∙ ap (λ b. cond b w.fulls (fulls_to peers outs to)) e ∙ fulls ∙ sym (peer-read 0 (λ (o : Out). o.fulls) peers outs at d to v apart place there e) in let l = ap (λ (q : List Packet). length q) (own to true e) in omega (arith, f, l);
  })

  -- the lane was full
  pub pushed-full : w.sent ≡ v.sent → w.fulls ≡ v.fulls + 1 → ArePushed c peers outs changed (p ∷ [])
  pushed-full sent fulls = by-peer (λ to e. record {
    taken = [];
    among = tt;
    sent = sent-now to ∙ ap (λ b. cond b w.sent (sent_to peers outs to)) e ∙ sent ∙ sym (peer-read [] (λ (o : Out). o.sent) peers outs at d to v apart place there e) ∙ sym (append-nil (sent_to peers outs to));
    lost = λ is. let f = fulls-now to ∙ ap (λ b. cond b w.fulls (fulls_to peers outs to)) e ∙ fulls ∙ ap (λ n. n + 1) (sym (peer-read 0 (λ (o : Out). o.fulls) peers outs at d to v apart place there e)) in let l = ap (λ (q : List Packet). length q) (own to true e) in omega (arith, f, l);
  })

  -- whatever the push answers
  pub pushed-or_full : (r : Result (Unit {0}) PushRefused) → OnOk r ((w.sent ≡ v.sent ++ p ∷ []) × (w.fulls ≡ v.fulls)) → IfErr r (λ e. (e ≡ Full p) × (w.sent ≡ v.sent) × (w.fulls ≡ v.fulls + 1) × (v.capacity ≤ length v.sent)) → ArePushed c peers outs changed (p ∷ [])
  pushed-or_full (Ok u) ok full = pushed-taken ok.0 ok.1
  pushed-or_full (Err e) ok full = pushed-full full.1 full.2

-- one after another ----------------------------------------------------------------------------------------

pub pushed-then : (c : ComId) (peers : List ComId) (olds mids news : List Out) (ps qs : List Packet) → ArePushed c peers olds mids ps → ArePushed c peers mids news qs → ArePushed c peers olds news (ps ++ qs)
pushed-then c peers olds mids news ps qs f g = record {
  lanes = g.lanes ∙ f.lanes;
  pushed = λ to. let a = f.pushed to in let b = g.pushed to in record {
    taken = a.taken ++ b.taken;
    among = subst (StandAmong (a.taken ++ b.taken)) (sym (filter-append (is_between c to) ps qs)) (among-both a.taken (filter (is_between c to) ps) b.taken (filter (is_between c to) qs) a.among b.among);
    sent = b.sent ∙ ap (λ l. l ++ b.taken) a.sent ∙ append_assoc (sent_to peers olds to) a.taken b.taken;
    lost = λ is. let x = a.lost is in let y = b.lost is in
        let n = ap (λ (l : List Packet). length l) (filter-append (is_between c to) ps qs) ∙ length-append (filter (is_between c to) ps) (filter (is_between c to) qs) in let m = length-append a.taken b.taken in omega (arith, x, y, n, m);
  };
}

pub pushed-next : (c : ComId) (peers : List ComId) (olds mids news : List Out) (puts : List Packet) (i : ℕ) (p : Packet) → i < length puts → p ≡ get_or puts i p → ArePushed c peers olds mids (take i puts) → ArePushed c peers mids news (p ∷ []) → ArePushed c peers olds news (take (i + 1) puts)
pushed-next c peers olds mids news puts i p small is f g = subst (ArePushed c peers olds news) (sym (take_more puts i p small ∙ ap (λ q. take i puts ++ q ∷ []) (sym is))) (pushed-then c peers olds mids news (take i puts) (p ∷ []) f g)

-- what may be pushed ----------------------------------------------------------------------------------------

alone : (p q : Packet) → Contains (p ∷ []) q → p ≡ q
alone p q h = at h.0 h.1 h.2
  where
    at : (k : ℕ) → k < 1 → slice_index_or (p ∷ []) k q ≡ q → p ≡ q
    at zero small e = e
    at (suc k) small e = absurd (omega (arith, small))

none-in : (q : Packet) → Contains [] q → ⊥
none-in q h = omega (arith, h.1)

-- what a lane took of one packet is this packet, of the lane's pair
taken-one : (c to : ComId) (p q : Packet) (taken : List Packet) → StandAmong taken (filter (is_between c to) (p ∷ [])) → Contains taken q → (p ≡ q) × (is_between c to q ≡ true)
taken-one c to p q taken among h = by (is_between c to p) refl among
  where
    by : (b : Bool) → is_between c to p ≡ b → StandAmong taken (cond b (p ∷ []) []) → (p ≡ q) × (is_between c to q ≡ true)
    by false e s = absurd (none-in q (nothing taken s h))
      where
        nothing : (xs : List Packet) → StandAmong xs [] → Contains xs q → Contains [] q
        nothing [] t k = k
        nothing (x ∷ xs) t k = absurd (cut t.0 x t.1 t.2)
          where
            cut : (pre : List Packet) (x : Packet) (post : List Packet) → [] ≡ pre ++ x ∷ post → ⊥
            cut pre x post e = let l = ap (λ (z : List Packet). length z) e in omega (arith, l, length-append pre (x ∷ post))
    by true e s = let is = only taken s h in (is, subst (λ z. is_between c to z ≡ true) is e)
      where
        only : (xs : List Packet) → StandAmong xs (p ∷ []) → Contains xs q → p ≡ q
        only [] t k = absurd (none-in q k)
        only (x ∷ xs) t k = ⊎_elim (λ (l : Contains (x ∷ []) q). first t.0 t.1 t.2 ∙ alone x q l) (λ (r : Contains xs q). absurd (rest t.0 t.1 t.2 xs t.3 r)) (Contains-append_cases (x ∷ []) xs q k)
          where
            first : (pre post : List Packet) → p ∷ [] ≡ pre ++ x ∷ post → p ≡ x
            first [] post e = cc (e)
            first (y ∷ pre) post e = absurd (let l = ap (λ (z : List Packet). length z) e in omega (arith, l, length-append pre (x ∷ post)))

            rest : (pre post : List Packet) → p ∷ [] ≡ pre ++ x ∷ post → (ys : List Packet) → StandAmong ys post → Contains ys q → ⊥
            rest pre post e [] u r = none-in q r
            rest pre post e (y ∷ ys) u r = let l = ap (λ (z : List Packet). length z) e in let m = ap (λ (z : List Packet). length z) u.2 in omega (arith, l, m, length-append pre (x ∷ post), length-append u.0 (y ∷ u.1))

-- behind a push of one of them
pub may-next : (c : ComId) (peers : List ComId) (mids news : List Out) (puts : List Packet) (p : Packet) → Contains puts p → ArePushed c peers mids news (p ∷ []) → MayPush c peers mids puts → MayPush c peers news puts
may-next c peers mids news puts p in-puts pushed may = record {
  all = may.all;
  took = λ to q h. let x = pushed.pushed to in
      ⊎_elim (λ (l : Contains (sent_to peers mids to) q). may.took to q l)
      (λ (r : Contains x.taken q). let one = taken-one c to p q x.taken x.among r in (subst (Contains may.all) one.0 (may.are_put p in-puts), one.1))
      (Contains-append_cases (sent_to peers mids to) x.taken q (subst (λ l. Contains l q) x.sent h));
  are_put = may.are_put;
  one_content = may.one_content;
}

-- so each push keeps the rule of its lane
pub may-fresh : (c : ComId) (peers : List ComId) (outs : List Out) (puts : List Packet) (p : Packet) → Contains puts p → MayPush c peers outs puts → IsFresh (sent_to peers outs (receiver_of p)) p
may-fresh c peers outs puts p in-puts may m n is has number =
    let there = may.took (receiver_of p) (Data n) has in
    let to : receiver_of p ≡ n.to = same-com (receiver_of p) n.to (and_parts (same_com c n.from) (same_com (receiver_of p) n.to) there.1).1 in
    may.one_content n m there.0 (subst (Contains may.all) is (may.are_put p in-puts)) (sym to ∙ ap receiver_of is) number

pub in-place : (puts : List Packet) (i : ℕ) (p : Packet) → i < length puts → p ≡ get_or puts i p → Contains puts p
in-place puts i p small is = (i, small, sym is)

pub ends-count : (c : ComId) (peers : List ComId) (olds news : List Out) (puts : List Packet) → ArePushed c peers olds news puts → length news ≡ length olds
ends-count c peers olds news puts f = let a = length-map news (λ (o : Out). o.lane) in let b = length-map olds (λ (o : Out). o.lane) in let e = ap (λ l. length l) f.lanes in omega (arith, a, b, e)
