-- Numbers that stay within their limit.
use Rattle.std.specs.Prelude.{nat_le, Bool, List, [], ◌∷◌, map}
use Rattle.std.specs.List.{list_all}
use Rattle.ic_base.specs.declared.limits.TheConstants.{GREATEST_NUMBER}
use Rattle.ic_base.specs.declared.messages.Send.{Send}
use Rattle.def_state.specs.Names.{Numbers, count_up}

-- none of the numbers passes the greatest
abbrev pub are_within : Numbers → Bool
are_within xs = list_all (λ n. nat_le n GREATEST_NUMBER) (map (λ x. x.1) xs)

-- the number sent on each link, behind these sends
abbrev pub links_behind : Numbers → List Send → Numbers
links_behind xs [] = xs
links_behind xs (s ∷ ss) = links_behind (count_up s.to xs) ss
