-- The decisions that a Tcom holds: the last one of each Pcom.
use Rattle.std.specs.Prelude.{◌≡◌, ℕ, ◌<◌, ◌≤◌, false, not, List, [], ◌∷◌, ◌++◌, filter, find, Option, Some, None, option_map}
use Rattle.std.specs.List.{AllPairs, filter_map}
use Rattle.ic_base.specs.declared.messages.ComId.{ComId}
use Rattle.ic_base.specs.declared.record.Record.{Record}
use Rattle.ic_base.specs.declared.record.Record.TheVariants.{Decided}
use Rattle.ic_base.specs.Programs.{same_com}
use Rattle.def_state.specs.Names.{Numbers, number_of}
use Rattle.def_step.specs.Tcom.{Verdict, is_of}

abbrev pub verdict_in : Record → Option Verdict
verdict_in (Decided stamp c n writes) = Some (record { peer = c; n = n; stamp = stamp })
verdict_in _ = None

-- the decisions among records
abbrev pub verdicts_in : List Record → List Verdict
verdicts_in records = filter_map verdict_in records

-- the stamp of the decision on a transaction
abbrev pub stamp_at : List Verdict → ComId → ℕ → Option ℕ
stamp_at vs c n = option_map (λ v. v.stamp) (find (is_of c n) vs)

-- no two decisions are of one Pcom
abbrev pub AreOfEach : List Verdict → Type 0
AreOfEach vs = AllPairs (λ v w. same_com v.peer w.peer ≡ false) vs

-- a decision takes the place of the one of its Pcom before
abbrev pub with_last : Verdict → List Verdict → List Verdict
with_last v vs = filter (λ w. not (same_com v.peer w.peer)) vs ++ v ∷ []

-- from the least number served on, those that are held tell what all of them tell, and none is above that number
abbrev pub AreLast : List Verdict → Numbers → List Verdict → Type 0
AreLast all least held =
    ((c : ComId) (n : ℕ) → number_of 1 least c ≤ n → stamp_at held c n ≡ stamp_at all c n)
    × ((c : ComId) (n : ℕ) → number_of 1 least c < n → stamp_at all c n ≡ None)
