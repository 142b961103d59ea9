-- What a text that is a document, and one that is none, give as a policy.
use Rattle.std.proofs.Common.{◌≡◌, ℕ, true, false, List, refl}
use Rattle.std.specs.Prelude.{None, Some, Result, Ok, Err, IfOk, IfErr}
use Rattle.std.specs.Str.{IsUtf8, is_utf8}
use Rattle.std.proofs.lemmas.Str.{IsUtf8-from_is_utf8, is_utf8-from_IsUtf8}
use Rattle.ic_base.specs.declared.report.Policy.{Policy}
use Rattle.ic_base.specs.declared.refusals.PolicyRefused.{PolicyRefused}
use Rattle.ic_base.specs.declared.refusals.PolicyRefused.TheVariants.{NotToml, Unknown, Kind, Range, Memory}
use Rattle.toml.specs.Data.{Members}
use Rattle.toml.specs.Parse.{parse_document}
use Rattle.def_policy.specs.Policies.{policy_of, with_members, defaults, PolicyRefusedAs}

pub policy_asked : (text : List ℕ) (ms : Members) → IsUtf8 text → parse_document text ≡ Some ms → policy_of text ≡ with_members defaults ms
unfolding policy_of
policy_asked text ms utf8 e = rw (is_utf8-from_IsUtf8 text utf8, e) refl

pub no_policy : (text : List ℕ) → (IsUtf8 text → parse_document text ≡ None) → policy_of text ≡ Err NotToml
unfolding policy_of
no_policy text none = elim (is_utf8 text) as (λ v. is_utf8 text ≡ v → policy_of text ≡ Err NotToml) [ true ↦ λ is. rw (is, none (IsUtf8-from_is_utf8 text is)) refl | false ↦ λ is. rw is refl ] refl

-- what is answered is what was asked for
pub ok_asked : (read result : Result Policy PolicyRefused) → read ≡ result → IfOk result (λ p. read ≡ Ok p)
ok_asked read (Ok p) e = e
ok_asked read (Err r) e = tt

pub err_asked : (read result : Result Policy PolicyRefused) → read ≡ result → IfErr result (PolicyRefusedAs read)
err_asked read (Ok p) e = tt
err_asked read (Err NotToml) e = e
err_asked read (Err Unknown) e = e
err_asked read (Err Kind) e = e
err_asked read (Err Range) e = e
err_asked read (Err Memory) e = tt
