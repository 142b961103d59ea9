-- What a touch makes of what a Pcom has in hand.
use Rattle.std.proofs.Common.{◌≡◌, refl, subst, ℕ, ◌+◌, not, ◌&&◌, ◌==◌, [], ◌∷◌, ◌++◌, Option, Some, None, is_none, ◌⊎◌, inl, inr}
use Rattle.ic_base.specs.declared.messages.ComId.{ComId}
use Rattle.ic_base.specs.declared.messages.Done.{Done}
use Rattle.ic_base.specs.declared.played.Played.{Played}
use Rattle.ic_base.specs.declared.played.Played.TheVariants.{Asks, Ready, NeedFails, Ends}
use Rattle.ic_base.specs.declared.scenario.Program.{Program}
use Rattle.def_plain.specs.declared.world.PlainPcom.{PlainPcom}
use Rattle.def_plain.specs.declared.world.InHand.{InHand}
use Rattle.def_plain.specs.Cell.{Touch, TakesMessage, TakesInput, SeesAbort, SeesCommit, cell_step, come_to, plays_on, transaction_ends, hand_played, new_in_hand, has_taken, takes}
use Rattle.def_play.specs.Playing.{handler_of}
use Rattle.law_replay.proofs.Lists.{none-some, provided-is}

-- what a touch makes of the hand: it is empty, or holds something with one transaction more
abbrev pub Holds : PlainPcom → PlainPcom → Type 0
Holds p q = ((q.begun ≡ p.begun) × (q.hand ≡ None)) ⊎ ((q.begun ≡ p.begun + 1) × (hand : InHand) × (q.hand ≡ Some hand))

come-holds : (p : PlainPcom) (hand : InHand) (r : Played) → Holds p (come_to (record p { hand = Some hand }) r)
come-holds p hand (Ends vars sends outs) = inl (refl, refl)
come-holds p hand (Asks t q) = inr (refl, hand, refl)
come-holds p hand (Ready t) = inr (refl, hand, refl)
come-holds p hand (NeedFails t line) = inr (refl, hand, refl)

plays-holds : (program : Program) (c : ComId) (p : PlainPcom) (hand : InHand) → Holds p (plays_on program c p hand)
plays-holds program c p hand = come-holds p hand (hand_played program c p hand [])

ends-holds : (program : Program) (c : ComId) (p q : PlainPcom) (n : ℕ) (d : Done) (hand : Option InHand) → transaction_ends program c p n d hand ≡ Some q → Holds p q
ends-holds program c p q n d None e = none-some q e
ends-holds program c p q n d (Some hand) e =
    subst (Holds p) (provided-is (p.begun == n) (plays_on program c p (record hand { done = hand.done ++ d ∷ [] })) q e) (plays-holds program c p (record hand { done = hand.done ++ d ∷ [] }))

pub cell-holds : (program : Program) (c : ComId) (p q : PlainPcom) (t : Touch) → cell_step program c p t ≡ Some q → Holds p q
cell-holds program c p q (TakesMessage s k h args) e =
    subst (Holds p)
    (provided-is (is_none p.hand && not (has_taken p s k)) (plays_on program c (record p { receipts = p.receipts ++ (s, k) ∷ [] }) (new_in_hand h args)) q e)
    (plays-holds program c (record p { receipts = p.receipts ++ (s, k) ∷ [] }) (new_in_hand h args))
cell-holds program c p q (TakesInput h args) e =
    subst (Holds p) (provided-is (is_none p.hand && takes (handler_of program c h) args) (plays_on program c p (new_in_hand h args)) q e) (plays-holds program c p (new_in_hand h args))
cell-holds program c p q (SeesAbort n) e = ends-holds program c p q n Done.Aborted p.hand e
cell-holds program c p q (SeesCommit n answers) e = ends-holds program c p q n (Done.Committed answers) p.hand e
