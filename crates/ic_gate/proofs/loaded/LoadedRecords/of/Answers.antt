use Rattle.std.proofs.Common.{◌≡◌, ◌∙◌, ap, sym, ℕ, List, length}
use Rattle.std.specs.Prelude.{Option, Some, None, option_map}
use Rattle.std.specs.List.{zip}
use Rattle.ic_base.specs.declared.record.Record.{Record}
use Rattle.ic_gate.proofs.loaded.LoadedRecords.of.Goals as goal

some_same : (xs ys : List ℕ) → Some xs ≡ Some ys → xs ≡ ys
some_same xs ys e = cc

none_long : (places : Option (List ℕ)) (n : ℕ) → option_map length places ≡ Some n → places ≡ None → ⊥
none_long places n e none = cc (sym (ap (option_map length) none) ∙ e)

some_long : (places : Option (List ℕ)) (xs : List ℕ) (n : ℕ) → option_map length places ≡ Some n → places ≡ Some xs → length xs ≡ n
some_long places xs n e is = cc (sym (ap (option_map length) is) ∙ e)

pub unreachable-requires : goal.unreachable-requires
unreachable-requires c = none_long c.args.reader.places (length c.args.reader.records) c.requires (sym c.finish-places.ensures.places ∙ c.in-None.is)

pub invariant_of-result : goal.invariant_of-result
invariant_of-result c =
    some_long c.args.reader.places c.in-Some.places (length c.args.reader.records) c.requires (sym c.finish-places.ensures.places ∙ c.in-Some.is) ∙ ap length (sym c.finish-places.ensures.records)

pub returns : goal.returns
returns c places is =
    ap (λ (l : List ℕ). zip l c.finish-places.result.1) (some_same c.in-Some.places places (sym c.in-Some.is ∙ c.finish-places.ensures.places ∙ is))
    ∙ ap (λ (l : List Record). zip places l) c.finish-places.ensures.records
