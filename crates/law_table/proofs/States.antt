-- A Pcom that is up has the state of all its records.
use Rattle.std.proofs.Common.{◌≡◌, refl, ◌∙◌, ap, [], ◌++◌, inr}
use Rattle.std.specs.Prelude.{unwrap_or}
use Rattle.std.proofs.lemmas.List.{append-nil}
use Rattle.def_state.specs.Mirrors.{Mirrors}
use Rattle.def_step.specs.World.{Runs}
use Rattle.def_facts.specs.Logs.{log_at}
use Rattle.def_facts.specs.Pcom.{state_after}
use Rattle.def_facts.specs.Sound.{state_in}
use Rattle.def_facts.specs.World.{records_of, whole_logs}
use Rattle.law_replay.proofs.Lists.{open-content, some-at}
use Rattle.law_replay.proofs.Members.{mapped_at}
use Rattle.law_replay.proofs.Records.{no-rest}
use Rattle.law_settle.proofs.Quiet.{mirrored_at, pcom_facts_at}
use Rattle.law_sound.proofs.Contents.{states_agree}
use Rattle.law_sound.proofs.Explained.{cut-given}
use Rattle.law_sound.proofs.Given.{Given}
use Rattle.law_table.specs.States.{UpHasAllRecords}

pub up_has_all_records : UpHasAllRecords
up_has_all_records program found here w v c p explained sound is up =
    let past = explained.0 in
    let good = explained.1 in
    let g : Given program found (whole_logs w) past v = cut-given program found here w past good (whole_logs w) v (refl, λ c. inr refl) sound in
    let pcom = pcom_facts_at program found here w past c p good is in
    let f = mirrored_at program found here w past c p good is in
    let log : log_at (whole_logs w) c ≡ f.played =
    ap (λ o. unwrap_or o []) (mapped_at records_of w.nodes c.0 (Runs p) is) ∙ f.rest_stands ∙ ap (λ l. f.played ++ l) (no-rest p.rest up) ∙ append-nil f.played in
    let h = open-content (Mirrors p.vol) (state_after program c (past.received c) f.played) f.mirrors in
    some-at (Mirrors p.vol) (state_in program (whole_logs w) v c) h.0
    (states_agree program found (whole_logs w) past v g.explains g.run c pcom ∙ ap (state_after program c (past.received c)) log ∙ h.1) h.2
