-- What pops do to the ends of a component.
use Rattle.std.proofs.Common.{◌≡◌, refl, sym, ap, subst, ◌∙◌, ℕ, zero, suc, ◌+◌, ◌≤◌, Bool, true, false, cond, not, List, [], ◌∷◌, ◌++◌, length, drop, arith, Option, Some, None, option_to_list, ⊎_elim, append_assoc}
use Rattle.std.specs.Prelude.{slice_get, slice_set}
use Rattle.std.proofs.lemmas.List.{append-nil, drop_more}
use Rattle.std.proofs.lemmas.Option.{slice_get_within, get_or_from_slice_get}
use Rattle.ic_base.specs.declared.messages.ComId.{ComId}
use Rattle.ic_base.specs.declared.messages.Packet.{Packet}
use Rattle.ic_base.specs.Programs.{same_com}
use Rattle.def_run.specs.Executions.{first_of}
use Rattle.def_live.specs.Lanes.{HasOneContent}
use Rattle.def_live.specs.Turns.{Pop, GoOn, PopInTurn, brought, not_passed_over, popped_of}
use Rattle.ic_lane.specs.Lanes.{In}
use Rattle.ic_live.specs.Ends.{AreApart, ArePopped, HaveOneContent, received_from, others}
use Rattle.ic_live.proofs.Ends.{peer-set, peer-read, set-same}
use Rattle.ic_turn.proofs.Places.{get_set}

pub popped-none : (peers : List ComId) (ins : List In) → ArePopped peers ins ins []
popped-none peers ins = record { lanes = refl; gains = λ from. sym (append-nil (received_from peers ins from)) }

-- a pop of the lane of one peer, and then those of others
pub popped-next : (peers : List ComId) (ins news : List In) (at : ℕ) (v w : In) (x : Pop) (rest : List Pop) → AreApart peers → slice_get peers at ≡ Some x.from → slice_get ins at ≡ Some v → w.lane ≡ v.lane → w.received ≡ v.received ++ option_to_list x.gave → ArePopped peers (slice_set ins at w) news rest → ArePopped peers ins news (x ∷ rest)
popped-next peers ins news at v w x rest apart p there lane got more = record {
  lanes = more.lanes ∙ set-same (λ (y : In). y.lane) ins at v w there lane;
  gains = λ from. more.gains from ∙ ap (λ l. l ++ popped_of from rest) (peer-set [] (λ (y : In). y.received) peers ins at x.from v w apart p there from) ∙ by from (same_com from x.from) refl;
}
  where
    by : (from : ComId) (b : Bool) → same_com from x.from ≡ b → cond b w.received (received_from peers ins from) ++ popped_of from rest ≡ received_from peers ins from ++ cond b (option_to_list x.gave ++ popped_of from rest) (popped_of from rest)
    by from false e = refl
    by from true e =
        ap (λ l. l ++ popped_of from rest) (got ∙ ap (λ l. l ++ option_to_list x.gave) (sym (peer-read [] (λ (y : In). y.received) peers ins at x.from from v apart p there e)))
        ∙ append_assoc (received_from peers ins from) (option_to_list x.gave) (popped_of from rest)

pub contents-set : (ins : List In) (at : ℕ) (w : In) → HaveOneContent ins → HasOneContent w.received → HaveOneContent (slice_set ins at w)
contents-set ins at w all one k x e = ⊎_elim (λ s. subst (λ (y : In). HasOneContent y.received) (sym s.1) one) (λ h. all k x h.1) (get_set ins at k w x e)

-- the pops of a turn, with what they bring
abbrev pub Pops : ComId → List ComId → List In → List In → Option Packet → Type 0
Pops c peers olds news result = (pops : List Pop) × PopInTurn c (others c peers) pops × (brought c pops ≡ result) × ArePopped peers olds news pops

-- whatever the lanes from here on bring, the turn brings
abbrev pub GoesOn : ComId → List ComId → List In → ℕ → List In → Type 0
GoesOn c peers olds at ins = (rest : List Pop) (news : List In) → PopInTurn c (others c (drop at peers)) rest → ArePopped peers ins news rest → Pops c peers olds news (brought c rest)

pub pops-begin : (c : ComId) (peers : List ComId) (olds : List In) → GoesOn c peers olds 0 olds
pops-begin c peers olds rest news turn popped = (rest, turn, refl, popped)

abbrev pub other_than : ComId → ComId → Bool
other_than c d = not (same_com c d)

module _ (c : ComId) (peers : List ComId) (olds ins : List In) (at : ℕ) (d : ComId) (place : slice_get peers at ≡ Some d) (inv : GoesOn c peers olds at ins) where
  front : drop at peers ≡ d ∷ drop (at + 1) peers
  front = drop_more peers at d (slice_get_within peers at d place) ∙ ap (λ z. z ∷ drop (at + 1) peers) (get_or_from_slice_get peers at d d place)

  left : (b : Bool) → other_than c d ≡ b → others c (drop at peers) ≡ cond b (d ∷ others c (drop (at + 1) peers)) (others c (drop (at + 1) peers))
  left b e = ap (others c) front ∙ ap (λ t. cond t (d ∷ others c (drop (at + 1) peers)) (others c (drop (at + 1) peers))) e

  -- there is no lane of its own
  pub pops-pass : other_than c d ≡ false → GoesOn c peers olds (at + 1) ins
  pops-pass e rest news turn popped = inv rest news (subst (λ l. PopInTurn c l rest) (sym (left false e)) turn) popped

  module _ (v w : In) (x : Pop) (apart : AreApart peers) (other : other_than c d ≡ true) (from : x.from ≡ d) (there : slice_get ins at ≡ Some v) (lane : w.lane ≡ v.lane) (got : w.received ≡ v.received ++ option_to_list x.gave) where
    next : (rest : List Pop) (news : List In) → ArePopped peers (slice_set ins at w) news rest → ArePopped peers ins news (x ∷ rest)
    next rest news popped = popped-next peers ins news at v w x rest apart (place ∙ ap (λ z. Some z) (sym from)) there lane got popped

    -- a lane that brings nothing
    pub pops-on : None ≡ not_passed_over c x → GoesOn c peers olds (at + 1) (slice_set ins at w)
    pops-on none rest news turn popped =
        subst (Pops c peers olds news) (ap (λ o. first_of o (brought c rest)) (sym none))
        (inv (x ∷ rest) news (subst (λ l. PopInTurn c l (x ∷ rest)) (sym (left true other)) (from, subst (λ o. GoOn o rest (PopInTurn c (others c (drop (at + 1) peers)) rest)) none turn)) (next rest news popped))

    -- a lane that brings a packet
    pub pops-end : (q : Packet) → Some q ≡ not_passed_over c x → Pops c peers olds (slice_set ins at w) (Some q)
    pops-end q some =
        subst (Pops c peers olds (slice_set ins at w)) (ap (λ o. first_of o None) (sym some))
        (inv (x ∷ []) (slice_set ins at w) (subst (λ l. PopInTurn c l (x ∷ [])) (sym (left true other)) (from, subst (λ o. GoOn o [] (PopInTurn c (others c (drop (at + 1) peers)) [])) some refl)) (next [] (slice_set ins at w) (popped-none peers (slice_set ins at w))))

-- no lane brought anything
pub pops-none : (c : ComId) (peers : List ComId) (olds ins : List In) (at : ℕ) → length peers ≤ at → GoesOn c peers olds at ins → Pops c peers olds ins None
pops-none c peers olds ins at past inv = inv [] ins (gone (drop at peers) (empty peers at past)) (popped-none peers ins)
  where
    empty : (xs : List ComId) (n : ℕ) → length xs ≤ n → drop n xs ≡ []
    empty [] zero l = refl
    empty [] (suc n) l = refl
    empty (x ∷ xs) zero l = absurd (omega (arith, l))
    empty (x ∷ xs) (suc n) l = empty xs n (omega (arith, l))

    gone : (l : List ComId) → l ≡ [] → PopInTurn c (others c l) []
    gone l e = ap (others c) e
