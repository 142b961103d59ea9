-- What a text asks for as a policy, or why it is refused.
use Rattle.std.specs.Prelude.{◌≡◌, ◌≤◌, ℕ, ℤ, pos, negsuc, List, [], ◌∷◌, ◌&&◌, Option, Some, None, ok_or, Result, Ok, Err, nat_le, if◌then◌else◌, codes}
use Rattle.std.specs.Str.{is_utf8}
use Rattle.ic_base.specs.declared.report.Policy.{Policy}
use Rattle.ic_base.specs.declared.report.ReportLevel.{ReportLevel}
use Rattle.ic_base.specs.declared.report.ReportLevel.TheVariants.{Full, Brief, Summary}
use Rattle.ic_base.specs.declared.refusals.PolicyRefused.{PolicyRefused}
use Rattle.ic_base.specs.declared.refusals.PolicyRefused.TheVariants.{NotToml, Unknown, Kind, Range, Memory}
use Rattle.toml.specs.Data.{Data, Members, no_members, member, as_integer, as_str}
use Rattle.toml.specs.Parse.{parse_document}
use Rattle.def_syntax.specs.Text.{◌>>=◌, look_up}
use Rattle.def_policy.specs.declared.policy.Setting.{Setting}
use Rattle.def_policy.specs.declared.policy.Setting.TheVariants as settings

-- what an empty document asks for
abbrev pub defaults : Policy
defaults = record { checkpoint_every = 0; force_every = 0; report = Full; workers = 2; lane = 64; turns = 20000 }

-- the keys
abbrev pub keys : List (List ℕ × Setting)
keys =
    (codes "checkpoint_every", settings.CheckpointEvery) ∷ (codes "force_every", settings.ForceEvery) ∷ (codes "lane", settings.Lane) ∷ (codes "report", settings.Report)
    ∷ (codes "turns", settings.Turns) ∷ (codes "workers", settings.Workers) ∷ []

abbrev pub levels : List (List ℕ × ReportLevel)
levels = (codes "full", Full) ∷ (codes "brief", Brief) ∷ (codes "summary", Summary) ∷ []

-- a number from the one to the other
abbrev pub in_range : ℕ → ℕ → ℤ → Result ℕ PolicyRefused
in_range low high (pos n) = if nat_le low n && nat_le n high then Ok n else Err Range
in_range low high (negsuc n) = Err Range

abbrev pub number_in : ℕ → ℕ → Data → Result ℕ PolicyRefused
number_in low high d = ok_or (as_integer d) Kind >>= in_range low high

-- one of the levels of a report
abbrev pub level_in : Data → Result ReportLevel PolicyRefused
level_in d = ok_or (as_str d) Kind >>= (λ word. ok_or (look_up word levels) Range)

-- a policy with one setting more
abbrev pub with_setting : Policy → Data → Setting → Result Policy PolicyRefused
with_setting p d settings.CheckpointEvery = number_in 0 100000 d >>= (λ n. Ok (record p { checkpoint_every = n }))
with_setting p d settings.ForceEvery = number_in 0 100000 d >>= (λ n. Ok (record p { force_every = n }))
with_setting p d settings.Report = level_in d >>= (λ level. Ok (record p { report = level }))
with_setting p d settings.Workers = number_in 1 8 d >>= (λ n. Ok (record p { workers = n }))
with_setting p d settings.Lane = number_in 1 1024 d >>= (λ n. Ok (record p { lane = n }))
with_setting p d settings.Turns = number_in 0 1000000 d >>= (λ n. Ok (record p { turns = n }))

-- a policy with what stands at one key
unfoldable pub with_key : Policy → List ℕ → Data → Result Policy PolicyRefused
with_key p key d = ok_or (look_up key keys) Unknown >>= with_setting p d

-- a policy with what stands at all keys, which a document has in bytewise order, or the first refusal
abbrev pub with_members : Policy → Members → Result Policy PolicyRefused
with_members p no_members = Ok p
with_members p (member key d ms) = with_key p key d >>= (λ q. with_members q ms)

-- what a document asks for, if the text is one
abbrev pub asked_by : Option Members → Result Policy PolicyRefused
asked_by None = Err NotToml
asked_by (Some ms) = with_members defaults ms

-- the policy that a text asks for, or why it is refused
unfoldable pub policy_of : List ℕ → Result Policy PolicyRefused
policy_of text = if is_utf8 text then asked_by (parse_document text) else Err NotToml

-- each number is in its range
pub record IsInRange (p : Policy) : Type 0 where
  pub checkpoints : p.checkpoint_every ≤ 100000
  pub forces : p.force_every ≤ 100000
  pub workers : (1 ≤ p.workers) × (p.workers ≤ 8)
  pub lane : (1 ≤ p.lane) × (p.lane ≤ 1024)
  pub turns : p.turns ≤ 1000000

-- a text is refused so; want of memory says nothing of it
abbrev pub PolicyRefusedAs : Result Policy PolicyRefused → PolicyRefused → Type 0
PolicyRefusedAs read Memory = Unit {0}
PolicyRefusedAs read e = read ≡ Err e
