-- A text that is too long for a script.
use Rattle.std.proofs.Common.{◌≡◌, ◌<◌, ℕ, List, length, arith}
use Rattle.std.specs.Prelude.{Err}
use Rattle.ic_base.specs.declared.limits.TheConstants.{TEXT_BYTES}
use Rattle.ic_base.specs.declared.refusals.Cause.TheVariants.{Limit}
use Rattle.def_two.specs.Script.{script_of}

pub too-long : (text : List ℕ) → TEXT_BYTES < length text → script_of text ≡ Err (0, Limit)
unfolding script_of
too-long text h = grind (arith, h)
