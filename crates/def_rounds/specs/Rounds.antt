-- A list of items that is worked off, round by round: an item is an event, which is run with all that follows it; or something is told of
-- it with no step; or it is a step of another kind.
use Rattle.std.specs.Prelude.{◌≡◌, ⊤, ℕ, ◌+◌, Bool, not, List, [], ◌∷◌, ◌++◌, fold, length}
use Rattle.ic_base.specs.declared.events.Event.{Event}
use Rattle.ic_base.specs.declared.events.Trace.{Trace}
use Rattle.ic_base.specs.declared.scenario.Program.{Program}
use Rattle.def_step.specs.World.{World}
use Rattle.def_step.specs.Settle.{PolicyIntervals}
use Rattle.def_run.specs.SystemStates.{SystemState, Transition, last_state, traces_of}
use Rattle.def_run.specs.Executions.{Agenda, Executes, IsComplete, whole_agenda}

-- what comes of an item: an event; something told with no step; or a step of another kind, of which this is told. The last two say what
-- is kept beside the world behind them.
pub data Turn (S N : Type 0) : Type 0 where
  Happens : (event : Event) → Turn S N
  Answers : (note : N) (behind : S) → Turn S N
  Leaps : (note : N) (behind : S) → Turn S N

-- How items are worked off, with an S kept beside the world: what comes of one; whether the world is settled behind each; what is kept
-- behind an event; and which steps of another kind there are.
pub record Ways (I S N : Type 0) : Type 1 where
  pub turn : World → S → I → Turn S N
  pub settles : Bool
  pub saw : S → Trace → S
  pub leap : S → SystemState → N → SystemState → Type 0

-- what became of one item
pub data Round (S N : Type 0) : Type 0 where
  Ran : (transitions : List Transition) → Round S N
  Told : (note : N) (behind : S) → Round S N
  Leapt : (note : N) (behind : S) (state : SystemState) → Round S N

-- where a round leads, the transitions that it had, and how many numbers it takes
abbrev pub state_behind : {S N : Type 0} → SystemState → Round S N → SystemState
state_behind p (Ran vs) = last_state p vs
state_behind p (Told note s) = p
state_behind p (Leapt note s q) = q

abbrev pub transitions_in : {S N : Type 0} → Round S N → List Transition
transitions_in (Ran vs) = vs
transitions_in _ = []

abbrev pub numbers_in : {S N : Type 0} → Round S N → ℕ
numbers_in (Ran vs) = length vs
numbers_in _ = 1

abbrev pub transitions_of : {S N : Type 0} → List (Round S N) → List Transition
transitions_of [] = []
transitions_of (r ∷ rs) = transitions_in r ++ transitions_of rs

abbrev pub numbers_of : {S N : Type 0} → List (Round S N) → ℕ
numbers_of [] = 0
numbers_of (r ∷ rs) = numbers_in r + numbers_of rs

abbrev pub state_after : {S N : Type 0} → SystemState → List (Round S N) → SystemState
state_after p [] = p
state_after p (r ∷ rs) = state_after (state_behind p r) rs

module _ {I S N : Type 0} (ways : Ways I S N) where
  abbrev pub side_behind : S → Round S N → S
  side_behind s (Ran vs) = fold ways.saw s (traces_of vs)
  side_behind s (Told note behind) = behind
  side_behind s (Leapt note behind q) = behind

  abbrev pub side_after : S → List (Round S N) → S
  side_after s [] = s
  side_after s (r ∷ rs) = side_after (side_behind s r) rs

  -- an event alone, with what the policy asks for behind it, and all that settles if the world is settled behind each item
  abbrev pub agenda_for : Event → Agenda
  agenda_for e = whole_agenda (e ∷ []) (not ways.settles)

  module _ (program : Program) (fingerprint : List ℕ) (x : PolicyIntervals) where
    -- what became of this item
    abbrev pub IsRound : S → SystemState → I → Round S N → Type 0
    IsRound s p i (Ran vs) = (e : Event) × (ways.turn p.world s i ≡ Happens e) × IsComplete program fingerprint x (agenda_for e) p vs
    IsRound s p i (Told note behind) = ways.turn p.world s i ≡ Answers note behind
    IsRound s p i (Leapt note behind q) = (ways.turn p.world s i ≡ Leaps note behind) × ways.leap s p note q

    -- the items were worked off in these rounds, one each
    abbrev pub AreRounds : S → SystemState → List I → List (Round S N) → Type 0
    AreRounds s p [] [] = ⊤
    AreRounds s p (i ∷ is) (r ∷ rs) = IsRound s p i r × AreRounds (side_behind s r) (state_behind p r) is rs
    AreRounds s p _ _ = ⊥

    -- the round of an item is under way: its event and what follows came so far
    pub record IsUnderWay (s : S) (p : SystemState) (i : I) (vs : List Transition) : Type 0 where
      pub event : Event
      pub is : ways.turn p.world s i ≡ Happens event
      pub left : Agenda
      pub executes : Executes program fingerprint x (agenda_for event) p vs left
