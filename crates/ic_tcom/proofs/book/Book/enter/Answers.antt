use Rattle.std.proofs.Common.{◌∙◌, ◌<◌, [], ap, sym, subst, arith, List, Result, Ok, Err, IsOk, OnOk, rules}
use Rattle.std.specs.HashMap.{spare}
use Rattle.std.proofs.lemmas.List.Sums.{fold_push}
use Rattle.def_state.specs.Names.{Numbers}
use Rattle.def_step.specs.Tcom.{Book, Verdict, decided_at, greatest_decided}
use Rattle.ic_tcom.specs.Last.{AreLast}
use Rattle.ic_tcom.specs.Roomy.{Roomy}
use Rattle.ic_tcom.proofs.Decisions.{greater}
use Rattle.ic_tcom.proofs.Indexing.{stamp_in, stamp_push}
use Rattle.ic_tcom.proofs.book.Book.enter.Goals as goal

-- what a call that succeeds says of success
done : {T E : Type 0} (r : Result T E) (P : Type 0) → IsOk r → OnOk r P → P
done (Ok x) P ok p = p
done (Err e) P ok p = absurd (search rules)

pub invariant_of-self-in-Decided : goal.invariant_of-self-in-Decided
invariant_of-self-in-Decided c =
    let room : 0 < spare c.self.inside.stamps = omega (arith, ap (λ (v : Roomy Book). v.spare) c.self.view_is, c.requires.room) in
    let kept = (done c.insert-kept.result _ (c.insert-kept.ensures.succeeds room) c.insert-kept.ensures.updates).0 in
    let next = rw c.in-Decided.is at c.requires.next in
    let v : Verdict = record { peer = c.in-Decided.c; n = c.in-Decided.n; stamp = c.in-Decided.stamp } in
    let before = c.self.inside.decided.list in
    let none = ap (λ (v : Roomy Book). decided_at v.held c.in-Decided.c c.in-Decided.n) c.self.view_is ∙ next.0 in
    let more = c.with-self-inside.ensures in (
      λ d n. kept (d, n) ∙ stamp_push before v d n _ none (c.self.invariant.0 d n) ∙ ap (λ (vs : List Verdict). stamp_in vs d n) (sym more),
      c.take_in.ensures.least ∙ ap (λ (l : Numbers). greater l v) c.self.invariant.1 ∙ sym (fold_push greater [] before v) ∙ ap greatest_decided (sym more),
      subst (λ (vs : List Verdict). AreLast vs c.take_in.new.least.held c.take_in.new.last.held) (sym more) (c.take_in.ensures.last before c.self.invariant.2),
      c.self.invariant.3,
      next.1,
    )
