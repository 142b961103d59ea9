use Rattle.std.proofs.Common.{◌∙◌, ◌+◌, ap, sym, subst, arith, length, length-append, [], ◌∷◌}
use Rattle.std.specs.List.{AllByRecursion}
use Rattle.ic_model.specs.Index.{IsIndexOf}
use Rattle.ic_model.proofs.Indexing.{all-pushed, indexed-first}
use Rattle.ic_model.proofs.indexed.IndexedWorld.new.Goals as goal

pub loop-place-preserved : goal.loop-place-preserved
loop-place-preserved c = record {
  empty = subst (AllByRecursion (IsIndexOf [] [])) (sym c.in_ok-push.ensures.items) (all-pushed (IsIndexOf [] []) c.loop-place.indexes.items c.new.result c.loop-place.invariant.empty c.new.ensures);
  many = ap length c.in_ok-push.ensures.items ∙ length-append c.loop-place.indexes.items (c.new.result ∷ []) ∙ ap (λ n. n + 1) c.loop-place.invariant.many;
}

pub invariant_of-result : goal.invariant_of-result
invariant_of-result c =
    indexed-first c.args.components c.loop-place.indexes.items c.requires c.loop-place.invariant.empty (omega (arith, c.loop-place.invariant.many, c.loop-place-test.false, c.len-place-end.ensures))
