-- Which token a word is, from what was found of it.
use Rattle.std.proofs.Common.{◌≡◌, ℕ, ℤ, Bool, true, false, List, refl}
use Rattle.std.specs.Prelude.{Option, Some, None, option_map, is_some, if◌then◌else◌}
use Rattle.ic_base.specs.declared.scenario.Op.{Op}
use Rattle.def_syntax.specs.Text.{Fixed, Token, Number, Name, Fixed_word, Operator, or_else, look_up, fixed_words, operators, is_name, number_of, token_with}
use Rattle.ic_tokens.specs.declared.scan.TokenKind.TheVariants as kinds
use Rattle.ic_tokens.specs.Views.{found_as, fixed_if, kind_seen}

-- the token of a word of which this was found, each kind before the next
abbrev token_from : Option Fixed → Bool → Option ℤ → Option Op → List ℕ → Option Token
token_from fixed name number op word = or_else (option_map Fixed_word fixed) (or_else (if name then Some (Name word) else None) (or_else (option_map Number number) (option_map Operator op)))

fixed_from : (fixed : Option Fixed) (name : Bool) (number : Option ℤ) (op : Option Op) (word : List ℕ) → is_some fixed ≡ true → token_from fixed name number op word ≡ Some (found_as Fixed_word word fixed)
fixed_from None name number op word is = cc
fixed_from (Some f) name number op word is = refl

name_from : (fixed : Option Fixed) (name : Bool) (number : Option ℤ) (op : Option Op) (word : List ℕ) → is_some fixed ≡ false → name ≡ true → token_from fixed name number op word ≡ Some (Name word)
name_from None true number op word unfixed is = refl
name_from None false number op word unfixed is = cc
name_from (Some f) name number op word unfixed is = cc

number_from : (fixed : Option Fixed) (name : Bool) (number : Option ℤ) (op : Option Op) (word : List ℕ) (z : ℤ) → is_some fixed ≡ false → name ≡ false → number ≡ Some z → token_from fixed name number op word ≡ Some (Number z)
number_from None true number op word z unfixed unnamed is = cc
number_from None false None op word z unfixed unnamed is = cc
number_from None false (Some y) op word z unfixed unnamed is = cc
number_from (Some f) name number op word z unfixed unnamed is = cc

operator_from : (fixed : Option Fixed) (name : Bool) (number : Option ℤ) (op : Option Op) (word : List ℕ) → is_some fixed ≡ false → name ≡ false → number ≡ None → is_some op ≡ true → token_from fixed name number op word ≡ Some (found_as Operator word op)
operator_from None true number op word unfixed unnamed none is = cc
operator_from None false None None word unfixed unnamed none is = cc
operator_from None false None (Some o) word unfixed unnamed none is = refl
operator_from None false (Some y) op word unfixed unnamed none is = cc
operator_from (Some f) name number op word unfixed unnamed none is = cc

none_from : (fixed : Option Fixed) (name : Bool) (number : Option ℤ) (op : Option Op) (word : List ℕ) → is_some fixed ≡ false → name ≡ false → number ≡ None → is_some op ≡ false → token_from fixed name number op word ≡ None
none_from None true number op word unfixed unnamed none is = cc
none_from None false None None word unfixed unnamed none is = refl
none_from None false None (Some o) word unfixed unnamed none is = cc
none_from None false (Some y) op word unfixed unnamed none is = cc
none_from (Some f) name number op word unfixed unnamed none is = cc

pub token_fixed : (fixed : Bool) (word : List ℕ) → is_some (look_up word (fixed_if fixed)) ≡ true → token_with (fixed_if fixed) word ≡ Some (found_as Fixed_word word (look_up word fixed_words))
unfolding token_with
token_fixed true word is = fixed_from (look_up word fixed_words) (is_name word) (number_of word) (look_up word operators) word is
token_fixed false word is = cc

pub token_name : (fixed : Bool) (word : List ℕ) → is_some (look_up word (fixed_if fixed)) ≡ false → is_name word ≡ true → token_with (fixed_if fixed) word ≡ Some (Name word)
unfolding token_with
token_name fixed word unfixed is = name_from (look_up word (fixed_if fixed)) (is_name word) (number_of word) (look_up word operators) word unfixed is

pub token_number : (fixed : Bool) (word : List ℕ) (z : ℤ) → is_some (look_up word (fixed_if fixed)) ≡ false → is_name word ≡ false → number_of word ≡ Some z → token_with (fixed_if fixed) word ≡ Some (Number z)
unfolding token_with
token_number fixed word z unfixed unnamed is = number_from (look_up word (fixed_if fixed)) (is_name word) (number_of word) (look_up word operators) word z unfixed unnamed is

pub token_operator : (fixed : Bool) (word : List ℕ) → is_some (look_up word (fixed_if fixed)) ≡ false → is_name word ≡ false → number_of word ≡ None → is_some (look_up word operators) ≡ true
    → token_with (fixed_if fixed) word ≡ Some (found_as Operator word (look_up word operators))
unfolding token_with
token_operator fixed word unfixed unnamed none is = operator_from (look_up word (fixed_if fixed)) (is_name word) (number_of word) (look_up word operators) word unfixed unnamed none is

pub no_token : (fixed : Bool) (word : List ℕ) → is_some (look_up word (fixed_if fixed)) ≡ false → is_name word ≡ false → number_of word ≡ None → is_some (look_up word operators) ≡ false → token_with (fixed_if fixed) word ≡ None
unfolding token_with
no_token fixed word unfixed unnamed none is = none_from (look_up word (fixed_if fixed)) (is_name word) (number_of word) (look_up word operators) word unfixed unnamed none is

-- a word that is fixed, or an operator, has that kind
fixed_kind_from : (fixed : Option Fixed) (word : List ℕ) → is_some fixed ≡ true → kind_seen (found_as Fixed_word word fixed) ≡ kinds.Fixed
fixed_kind_from None word is = cc
fixed_kind_from (Some f) word is = refl

pub fixed_kind : (fixed : Bool) (word : List ℕ) → is_some (look_up word (fixed_if fixed)) ≡ true → kind_seen (found_as Fixed_word word (look_up word fixed_words)) ≡ kinds.Fixed
fixed_kind true word is = fixed_kind_from (look_up word fixed_words) word is
fixed_kind false word is = cc

pub operator_kind : (op : Option Op) (word : List ℕ) → is_some op ≡ true → kind_seen (found_as Operator word op) ≡ kinds.Operator
operator_kind None word is = cc
operator_kind (Some o) word is = refl
