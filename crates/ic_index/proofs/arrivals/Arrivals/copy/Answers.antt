use Rattle.std.proofs.Common.{◌≡◌, ◌∙◌, ap, map, ℕ, List}
use Rattle.std.proofs.lemmas.List.Elements.{same_from_all_zip}
use Rattle.std.specs.List.{list_any}
use Rattle.std.specs.Map.{lookup}
use Rattle.std.proofs.lemmas.Map.Entries.{entries_from_clone}
use Rattle.def_state.specs.Names.{same_identity}
use Rattle.ic_index.specs.declared.arrivals.Arrival.{Arrival}
use Rattle.ic_index.specs.Rows.{arrived, are_numbered, are_indexed, number_kept, same_key}
use Rattle.ic_index.proofs.Leaving.{indexed-same, no_other-same}
use Rattle.ic_index.proofs.arrivals.Arrivals.copy.Goals as goal

pub invariant_of-result : goal.invariant_of-result
invariant_of-result c =
    let rows : c.in_ok-clone.field-0.items ≡ c.self.inside.order.items = same_from_all_zip _ _ _ (c.in_ok-clone.ensures {u = tt}).cases.0 (λ x y same. same) in
    let kept : c.in_ok-clone-2.field-0.entries ≡ c.self.inside.numbers.entries = entries_from_clone _ _ (λ x y same i. (same.0 i, same.1 i)) (λ v w same. same) c.self.inside.numbers.entries c.in_ok-clone-2.field-0.entries (c.in_ok-clone-2.ensures {u = tt}).cases in (
      ap (are_numbered c.self.inside.next) rows ∙ c.self.invariant.0,
      ap (are_indexed (number_kept c.in_ok-clone-2.field-0)) rows
          ∙ indexed-same (number_kept c.self.inside.numbers) (number_kept c.in_ok-clone-2.field-0) c.self.inside.order.items (λ x. ap (λ (es : List ((ℕ × ℕ) × ℕ)). lookup (same_key (x.peer.0, x.k)) es) kept) c.self.invariant.1,
      λ x n e.
          ap (λ (l : List Arrival). list_any (same_identity x) (map arrived l)) rows
          ∙ no_other-same (number_kept c.self.inside.numbers) (number_kept c.in_ok-clone-2.field-0) c.self.inside.order.items (λ x. ap (λ (es : List ((ℕ × ℕ) × ℕ)). lookup (same_key (x.peer.0, x.k)) es) kept) c.self.invariant.2 x n e,
    )

pub returns : goal.returns
returns c =
    let rows : c.in_ok-clone.field-0.items ≡ c.self.inside.order.items = same_from_all_zip _ _ _ (c.in_ok-clone.ensures {u = tt}).cases.0 (λ x y same. same) in
    ap (λ (l : List Arrival). map arrived l) rows ∙ ap (λ v. v.seen) c.self.view_is
