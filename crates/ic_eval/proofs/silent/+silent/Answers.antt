use Rattle.std.proofs.Common.{◌≡◌, ◌∙◌, sym, ap, subst, ◌+◌, List, ◌∷◌, drop, arith, refl, ℤ}
use Rattle.std.specs.Prelude.{◌&&◌}
use Rattle.std.proofs.lemmas.List.{drop_all, drop_more}
use Rattle.ic_base.specs.declared.scenario.Stmt.{Stmt}
use Rattle.def_play.specs.Playing as playing
use Rattle.def_play.specs.Silent as silent
use Rattle.def_play.specs.Silent.{StaysSilent, StaySilent}
use Rattle.def_play.proofs.Silences.{is_silent-If, set_stays, if_stays, more_stay, none_stay}
use Rattle.ic_eval.proofs.silent.+silent.Goals as goal

stay_by : (ss ts : List Stmt) → ss ≡ ts → StaySilent ts → StaySilent ss
stay_by ss ts e h = let P : List Stmt → Type 0 = StaySilent in subst P (sym e) h

stays_by : (s t : Stmt) → s ≡ t → ((args now : List ℤ) → StaysSilent (playing.turn args now t)) → (args now : List ℤ) → StaysSilent (playing.turn args now s)
stays_by s t e h = let P : Stmt → Type 0 = λ x. (args now : List ℤ) → StaysSilent (playing.turn args now x) in subst P (sym e) h

pub are_silent-loop-stmt-preserved : goal.are_silent-loop-stmt-preserved
are_silent-loop-stmt-preserved t c =
    let s = c.stmt-item.result in
    let i = c.loop-stmt.stmt-index in
    let more : drop i c.args.stmts.now ≡ s ∷ drop (i + 1) c.args.stmts.now = drop_more c.args.stmts.now i s c.loop-stmt-test.true ∙ ap (λ (x : Stmt). x ∷ drop (i + 1) c.args.stmts.now) (sym c.stmt-item.is) in
    record {
      same = ap (λ b. b && silent.are_silent (drop (i + 1) c.args.stmts.now)) ((c.if-not-is_silent.ensures {u = tt}).same) ∙ ap silent.are_silent (sym more) ∙ c.loop-stmt.invariant.same;
      stays = λ rest. c.loop-stmt.invariant.stays (stay_by _ _ more (more_stay s (drop (i + 1) c.args.stmts.now) ((c.if-not-is_silent.ensures {u = tt}).stays refl) rest));
    }

pub are_silent-returns-clause-stays : goal.are_silent-returns-clause-stays
are_silent-returns-clause-stays t c _ = c.loop-stmt.invariant.stays (stay_by _ _ (drop_all c.loop-stmt.stmt-index c.args.stmts.now (omega arith)) none_stay)

pub is_silent-returns-in-Set-clause-stays : goal.is_silent-returns-in-Set-clause-stays
is_silent-returns-in-Set-clause-stays t c _ = stays_by _ _ c.in-Set.is (λ args now. set_stays args now c.in-Set.field-0 c.in-Set.field-1)

pub is_silent-returns-then-are_silent-clause-same : goal.is_silent-returns-then-are_silent-clause-same
is_silent-returns-then-are_silent-clause-same t c =
    c.are_silent-then-are_silent.ensures.same ∙ ap silent.are_silent c.deref-then-are_silent.ensures.value
    ∙ ap (λ b. b && silent.are_silent c.in-If.other.stmts.items) ((c.if-are_silent.ensures {u = tt}).same ∙ ap silent.are_silent c.deref.ensures.value)
    ∙ sym (is_silent-If c.in-If.field-0 c.in-If.then c.in-If.other) ∙ ap silent.is_silent (sym c.in-If.is)

pub is_silent-returns-then-are_silent-clause-stays : goal.is_silent-returns-then-are_silent-clause-stays
is_silent-returns-then-are_silent-clause-stays t c yes_it =
    stays_by _ _ c.in-If.is (λ args now. if_stays args now c.in-If.field-0 c.in-If.then c.in-If.other
    (stay_by _ _ (sym c.deref.ensures.value) ((c.if-are_silent.ensures {u = tt}).stays refl))
    (stay_by _ _ (sym c.deref-then-are_silent.ensures.value) (c.are_silent-then-are_silent.ensures.stays yes_it)))

pub is_silent-returns-else-are_silent-clause-same : goal.is_silent-returns-else-are_silent-clause-same
is_silent-returns-else-are_silent-clause-same t c =
    c.if-are_silent.false
    ∙ ap (λ b. b && silent.are_silent c.in-If.other.stmts.items) ((c.if-are_silent.ensures {u = tt}).same ∙ ap silent.are_silent c.deref.ensures.value)
    ∙ sym (is_silent-If c.in-If.field-0 c.in-If.then c.in-If.other) ∙ ap silent.is_silent (sym c.in-If.is)
