-- The script that a name holds, or why none is read.
use Rattle.std.specs.Prelude.{◌≡◌, ℕ, List, Option, Some, Ok, Err}
use Rattle.sha2.specs.Sha256.{sha256}
use Rattle.ic_base.specs.declared.refusals.Cause.{Cause}
use Rattle.def_two.specs.Script.{TheScript, script_of}
use Rattle.ic_more.specs.declared.ending.Fault2.TheVariants as faults
use Rattle.ic_more.specs.declared.ending.Why2.{Why2}
use Rattle.ic_more.specs.declared.ending.Why2.TheVariants.{Fault, Print, Memory}

-- the text that each name holds, if it holds one
abbrev pub Held : Type 0
Held = List ℕ → Option (List ℕ)

-- the name holds the text of this script, with this fingerprint
pub record IsScript (held : Held) (name : List ℕ) (script : TheScript) (fingerprint : List ℕ) : Type 0 where
  pub text : List ℕ
  pub there : held name ≡ Some text
  pub read : script_of text ≡ Ok script
  pub hash : fingerprint ≡ sha256 text

-- the name holds a text that is refused as a script
pub record IsNoScript (held : Held) (name : List ℕ) (line : ℕ) (cause : Cause) : Type 0 where
  pub text : List ℕ
  pub there : held name ≡ Some text
  pub refused : script_of text ≡ Err (line, cause)

-- Why no script is read: it is refused, or the text wasn't read. `tells` says that the texts tell what they hold, and `rose` that their
-- count of faults rose.
abbrev pub RefusesScript : Type 0 → Type 0 → Held → List ℕ → Why2 → Type 0
RefusesScript tells rose held name (Fault (faults.Script line cause)) = tells → IsNoScript held name line cause
RefusesScript tells rose held name (Fault faults.Read) = rose
RefusesScript tells rose held name (Fault _) = ⊥
RefusesScript tells rose held name Print = ⊥
RefusesScript tells rose held name Memory = Unit {0}
