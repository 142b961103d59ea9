use Rattle.std.proofs.Common.{◌≡◌, ◌∙◌, ◌++◌, ◌∷◌, ◌+◌, [], List, ap, sym, subst, arith, fold, take, length}
use Rattle.std.proofs.lemmas.List.{take_more, length-take}
use Rattle.ic_base.specs.declared.record.Record.{Record}
use Rattle.ic_base.specs.declared.messages.Output.{Output}
use Rattle.def_client.specs.Fronts as fronts
use Rattle.def_client.specs.Rebuilding.{front_from, outputs_at}
use Rattle.def_facts.specs.Logs.{Logs}
use Rattle.ic_client.specs.Rebuilding.{saw_first_record}
use Rattle.ic_client.specs.Seeing.{TakenAlike}
use Rattle.ic_client.proofs.Logs.{nth, log_more}
use Rattle.ic_client.proofs.front.Front.of_logs.Goals as goal

pub loop-i-preserved : goal.loop-i-preserved
loop-i-preserved c =
    let v = c.args.plain.now in
    let xs = c.args.logs.now in
    let i = c.loop-i.i in
    let r = c.index-logs-i.result in
    let here = c.loop-i.front.taken in
    let next : take (i + 1) xs ≡ take i xs ++ r ∷ [] = take_more xs i r c.loop-i-test.true ∙ ap (λ x. take i xs ++ x ∷ []) (sym c.index-logs-i.is) in
    let long : length (take i xs) ≡ i = omega (arith, length-take i xs, c.loop-i-test.true) in
    let e = c.in_ok-see_log.ensures ∙ ap (λ (outs : List Output). fold (saw_first_record (nth i) outs) here c.as_slice.result.now) c.outs_of.ensures
    ∙ ap (λ (log : List Record). fold (saw_first_record (nth i) (outputs_at v (nth i))) here log) c.as_slice.ensures in
    let P : fronts.Front → Type 0 = λ f. TakenAlike f (front_from v 0 (take i xs ++ r ∷ [])) in
    let Q : Logs → Type 0 = λ l. TakenAlike c.see_log.new.self.taken (front_from v 0 l) in
    subst Q (sym next) (subst P (sym e) (log_more v here (take i xs) i r long c.loop-i.invariant))
