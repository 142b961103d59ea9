-- The whole run of the scene, and where it ends.
use Rattle.std.proofs.Common.{◌≡◌, refl, ℕ, zero, suc, true, false, List, [], ◌∷◌, slice_get, unwrap_or, ◌||◌, arith}
use Rattle.std.specs.declared.alloc.Global.{Global}
use Rattle.ic_base.specs.declared.scenario.Component.{Component}
use Rattle.ic_base.specs.Programs.{declares, is_pcom, is_tcom}
use Rattle.def_log.specs.Frame.{at_rest}
use Rattle.def_run.specs.Openings.{IsStarted}
use Rattle.law_scene.specs.Tally.{RunsWhole, program, begins}
use Rattle.law_scene.proofs.Steps.{first_input, the_crash, the_recovery, second_input}

starts : (a : Global) (f : List ℕ) → IsStarted (program a) f ([] ∷ []) (begins a f)
starts a f = record { blank = λ c e. blank c.0; world = refl; fresh = λ c e. fresh c.0 e; others = λ c e. others c.0 e }
  where
    none : List (List ℕ)
    none = [] ∷ []

    fresh_files : List (List ℕ)
    fresh_files = at_rest f 0 [] [] ∷ []

    blank : (n : ℕ) → unwrap_or (slice_get none n) [] ≡ []
    blank zero = refl
    blank (suc n) = refl

    fresh : (n : ℕ) → (declares (λ (d : Component). is_pcom d.kind) (slice_get (program a).components n) || declares (λ (d : Component). is_tcom d.kind) (slice_get (program a).components n)) ≡ true → unwrap_or (slice_get fresh_files n) [] ≡ at_rest f n [] []
    fresh zero e = refl
    fresh (suc n) e = absurd (cc e)

    others : (n : ℕ) → (declares (λ (d : Component). is_pcom d.kind) (slice_get (program a).components n) || declares (λ (d : Component). is_tcom d.kind) (slice_get (program a).components n)) ≡ false → unwrap_or (slice_get fresh_files n) [] ≡ unwrap_or (slice_get none n) []
    others zero e = absurd (cc e)
    others (suc n) e = refl

pub runs_whole : RunsWhole
runs_whole a f long = record {
  unrefused = refl;
  started = starts a f;
  executes = (_, refl, first_input a f long, (_, refl, the_crash a f long, (_, refl, the_recovery a f long, (_, refl, second_input a f long, refl))));
  nothing = refl;
  receipts = omega arith;
  packets = omega arith;
}
