-- The key of a document at which its policy is refused.
use Rattle.std.specs.Prelude.{◌≡◌, ℕ, List, Some, Err, IsOk}
use Rattle.std.specs.Ordering.{nat_cmp}
use Rattle.std.specs.declared.cmp.Ordering.TheVariants.{Less}
use Rattle.std.specs.Cmp.Lexicographic.{slice_cmp}
use Rattle.ic_base.specs.declared.refusals.PolicyRefused.{PolicyRefused}
use Rattle.ic_base.specs.declared.refusals.PolicyRefused.TheVariants.{NotToml, Memory}
use Rattle.toml.specs.Data.{Data, Members, get_member}
use Rattle.toml.specs.Parse.{parse_document}
use Rattle.def_policy.specs.Policies.{defaults, with_key}

-- the one key stands before the other in bytewise order
abbrev pub ComesBefore : List ℕ → List ℕ → Type 0
ComesBefore k l = slice_cmp nat_cmp k l ≡ Less

-- a key of the document is refused so, and none that comes before it is refused
pub record IsFirstRefusal (document : Members) (e : PolicyRefused) : Type 0 where
  pub key : List ℕ
  pub value : Data
  pub there : get_member key document ≡ Some value
  pub refused : with_key defaults key value ≡ Err e
  pub before : (k : List ℕ) (d : Data) → get_member k document ≡ Some d → ComesBefore k key → IsOk (with_key defaults k d)

-- the text is a document, whose first refused key is refused so
pub record RefusesKey (text : List ℕ) (e : PolicyRefused) : Type 0 where
  pub document : Members
  pub parsed : parse_document text ≡ Some document
  pub first : IsFirstRefusal document e

-- a refusal that isn't of the whole text is that of the first key
abbrev pub IsOfFirstKey : List ℕ → PolicyRefused → Type 0
IsOfFirstKey text NotToml = Unit {0}
IsOfFirstKey text Memory = Unit {0}
IsOfFirstKey text e = RefusesKey text e
