-- Each output that was shown is the one of its number in the crash-free world.
use Rattle.std.proofs.Common.{sym, subst}
use Rattle.std.specs.Prelude.{Contains, IsSomeAnd}
use Rattle.def_plain.specs.declared.world.PlainPcom.{PlainPcom}
use Rattle.def_plain.specs.Plain.{pcom_at}
use Rattle.def_state.specs.Hist.{Hist, outputs_of, number_outputs}
use Rattle.def_facts.specs.Logs.{IsPrefixOf}
use Rattle.def_facts.specs.Sound.{state_in}
use Rattle.law_replay.proofs.Lists.{open-content, at-some}
use Rattle.law_sound.specs.Sound.{ShowingsArePlain}
use Rattle.law_sound.proofs.Explained.{cut-given, invariant_gives_explained}
use Rattle.law_sound.proofs.Outputs.{outputs_are_plain}
use Rattle.law_replay.proofs.Outputs.{number-more}

pub showings_are_plain : ShowingsArePlain
showings_are_plain program found here w x logs v cut sound c o h =
    let g = cut-given program found here w x.0 x.1 logs v cut sound in
    let shown = open-content (λ (s : Hist). Contains (outputs_of s) o) (state_in program logs v c) ((invariant_gives_explained program found here w x).1.showings c o h logs v cut sound) in
    let made = at-some (λ (s : Hist). IsSomeAnd (pcom_at v c) (λ p. IsPrefixOf s.plain.outs p.outs)) (state_in program logs v c) shown.0 shown.1 (outputs_are_plain program found logs x.0 v g.explains g.run c (x.1.shown_by c o h)) in
    let p = open-content (λ (p : PlainPcom). IsPrefixOf shown.0.plain.outs p.outs) (pcom_at v c) made in
    subst (λ q. IsSomeAnd q (λ z. Contains (number_outputs 1 z.outs) o)) (sym p.1)
    (subst (λ l. Contains (number_outputs 1 l) o) (sym p.2.1) (number-more 1 shown.0.plain.outs p.2.0 o shown.2))
