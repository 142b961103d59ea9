-- Why an event isn't done, or its packets aren't numbered, and how a run then ends.
use Rattle.std.specs.Prelude.{◌≡◌, ⊤, ◌<◌, ℕ, zero, suc, ◌+◌, true, cond, List, [], ◌∷◌, length, Option, Some, None, option_map, Ok, Err}
use Rattle.ic_base.specs.declared.limits.TheConstants.{PACKETS}
use Rattle.def_log.specs.Loads.{Holds, Foreign, Bad, load_of}
use Rattle.def_two.specs.declared.script.Event2.{Event2}
use Rattle.def_two.specs.declared.script.What2.{What2}
use Rattle.def_two.specs.declared.script.What2.TheVariants as whats
use Rattle.def_two.specs.declared.script.TwoRefused.{TwoRefused}
use Rattle.def_two.specs.declared.script.TwoRefused.TheVariants as refused
use Rattle.def_two.specs.declared.script.TwoWhy.{TwoWhy}
use Rattle.def_two.specs.declared.script.TwoWhy.TheVariants as starts
use Rattle.def_two.specs.Moves.{Openings, nth_book}
use Rattle.def_two.specs.declared.states.BookState.{BookState}
use Rattle.def_two.specs.Book.{first_book, book_fits, booked}
use Rattle.def_two.specs.declared.states.Docket.{Docket}
use Rattle.def_two.specs.Chief.{first_docket, docket_fits, docketed}
use Rattle.def_two.specs.World.{World2}
use Rattle.def_two.specs.Runs.{call_of}
use Rattle.def_two.specs.Logs.{Placed2, placed2_log_of}
use Rattle.def_two.specs.CoreSteps.{SystemState2, file2_of, is_down_at, is_full2, CoreStep2, SystemStep}

-- the place of the first record that is bad in its log
abbrev pub chief_misfit : Openings → Docket → List Placed2 → Option ℕ
chief_misfit books d [] = None
chief_misfit books d (r ∷ rs) = cond (docket_fits books d r.1) (chief_misfit books (docketed d r.1) rs) (Some r.0)

abbrev pub book_misfit : ℕ → BookState → List Placed2 → Option ℕ
book_misfit b x [] = None
book_misfit b x (r ∷ rs) = cond (book_fits b x r.1) (book_misfit b (booked b x r.1) rs) (Some r.0)

abbrev pub misfit2 : Openings → ℕ → List Placed2 → Option ℕ
misfit2 books zero rs = chief_misfit books first_docket rs
misfit2 books (suc b) rs = book_misfit (suc b) (first_book (nth_book books (suc b))) rs

-- a recovery over a file is refused for its fingerprint, its frame, the bytes of its records, or a misfit
abbrev pub records2_refusal : Openings → ℕ → List ℕ → Option TwoRefused
records2_refusal books c file = elim (placed2_log_of file) [ Ok rs ↦ option_map (refused.Bad c) (misfit2 books c rs) | Err place ↦ Some (refused.Bad c place) ]

abbrev pub recovery2_refusal : Openings → List ℕ → ℕ → List ℕ → Option TwoRefused
recovery2_refusal books fingerprint c file = elim (load_of fingerprint c file) [
  | Holds batches ↦ records2_refusal books c file
  | Foreign kept ↦ Some (refused.Foreign c kept)
  | Bad place ↦ Some (refused.Bad c place)
]

-- what an event meets on the disk of its component: only a recovery of what is down
abbrev pub met2 : Openings → List ℕ → SystemState2 → Event2 → Option TwoRefused
met2 books fingerprint p e = elim e.what [
  | whats.Recover c ↦ cond (is_down_at p.world c) (recovery2_refusal books fingerprint c (file2_of p c)) None
  | _ ↦ None
]

abbrev pub IsCalled2 : World2 → What2 → ℕ → Type 0
IsCalled2 w what c = option_map (λ x. x.who) (call_of w what) ≡ Some c

-- the event was done, and numbers its packets past their limit
pub record PassesPackets2 (books : Openings) (fingerprint : List ℕ) (p : SystemState2) (e : Event2) : Type 0 where
  pub done : SystemStep
  pub step : CoreStep2 books fingerprint p e done.disk done.state
  pub past : PACKETS < length done.state.world.packets

-- Why the event isn't done, or its packets aren't numbered: first a full log, then what is met, last the packets. A fault of a disk and
-- want of memory may come before.
abbrev pub IsRefused2 : Openings → List ℕ → SystemState2 → Event2 → TwoRefused → Type 0
IsRefused2 books fingerprint p e (refused.LogFull c) = (is_full2 books p e.what ≡ true) × IsCalled2 p.world e.what c
IsRefused2 books fingerprint p e (refused.Bad c place) = met2 books fingerprint p e ≡ Some (refused.Bad c place)
IsRefused2 books fingerprint p e (refused.Foreign c kept) = met2 books fingerprint p e ≡ Some (refused.Foreign c kept)
IsRefused2 books fingerprint p e refused.Packets = PassesPackets2 books fingerprint p e
IsRefused2 books fingerprint p e (refused.Failed c) = ⊤
IsRefused2 books fingerprint p e refused.Memory = ⊤

-- the lowest component whose disk isn't blank
abbrev pub first_not_blank : ℕ → List (List ℕ) → Option TwoWhy
first_not_blank c [] = None
first_not_blank c ([] ∷ files) = first_not_blank (c + 1) files
first_not_blank c ((b ∷ bs) ∷ files) = Some (starts.NotBlank c)
