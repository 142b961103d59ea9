-- A component that is taken out of its place, and put back.
use Rattle.std.proofs.Common.{◌≡◌, ◌∙◌, sym, ap, ℕ, ◌<◌, List, length, get_or, Some}
use Rattle.std.specs.Prelude.{slice_get, slice_set}
use Rattle.std.specs.List.{insert, remove}
use Rattle.std.proofs.lemmas.Option.{slice_get-get_or}
use Rattle.ic_two_world.proofs.Lists.{put-back}

pub taken : {X : Type 0} (xs : List X) (place c : ℕ) (x : X) → place ≡ c → c < length xs → x ≡ get_or xs place x → slice_get xs c ≡ Some x
taken xs place c x same l is = slice_get-get_or xs c x l ∙ ap Some (sym (is ∙ ap (λ i. get_or xs i x) same))

pub back : {X : Type 0} (xs rest all : List X) (place c : ℕ) (y : X) → place ≡ c → c < length xs → rest ≡ remove xs place → all ≡ insert rest place y → all ≡ slice_set xs c y
back xs rest all place c y same l out put = put ∙ ap (λ l. insert l place y) out ∙ ap (λ i. insert (remove xs i) i y) same ∙ put-back xs c y l
