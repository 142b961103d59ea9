-- How what a step is to do is seen.
use Rattle.std.specs.Prelude.{◌≡◌, ℕ, List, option_map}
use Rattle.ic_base.specs.declared.messages.ComId.{ComId}
use Rattle.ic_base.specs.declared.record.Record.{Record}
use Rattle.def_state.specs.Names.{Identity}
use Rattle.def_state.specs.Vol.{Vol}
use Rattle.def_step.specs.Pcom as step
use Rattle.def_step.specs.Pcom.{Pcom, Log, forced_end}
use Rattle.ic_pcom.specs.declared.effects.Effects.{Effects}
use Rattle.ic_pcom.specs.declared.effects.StepKind.{StepKind}
use Rattle.ic_pcom.specs.declared.effects.StepKind.TheVariants as kinds

abbrev pub kind_of : StepKind → step.StepKind
kind_of kinds.Took = step.Took
kind_of kinds.Fed = step.Fed
kind_of kinds.Busy = step.Busy
kind_of kinds.Changed = step.Changed
kind_of kinds.Same = step.Same

abbrev pub identity_of : ComId × ℕ → Identity
identity_of x = record { peer = x.0; k = x.1 }

abbrev pub effects_of : Effects → step.Effects
effects_of e = record {
  word = kind_of e.word;
  marks = option_map identity_of e.marks;
  content = e.content;
  adds = e.adds;
  forces = e.forces;
  covers = e.covers;
  answers = e.answers;
  is_quiet = e.is_quiet;
  shown = e.shown;
  aborted = e.aborted;
}

-- a fact of a Pcom with this state, over a log that is forced up to here
abbrev pub OfPcom : (Pcom → Type 0) → Vol → ℕ → Type 0
OfPcom P v forced = (log : Log) (rest : List Record) → forced_end (record { log = log; vol = v; rest = rest }) ≡ forced → P (record { log = log; vol = v; rest = rest })

-- what is decided of it
abbrev pub AreEffects : (Pcom → step.Effects) → Vol → ℕ → Effects → Type 0
AreEffects decided v forced e = OfPcom (λ p. decided p ≡ effects_of e) v forced
