-- What both phases came to.
use Rattle.std.proofs.Common.{◌≡◌, ◌∙◌, ap, subst, ℕ, ◌+◌, ◌<◌, arith, true, List, [], ◌∷◌, ◌++◌, OnOk, IfErr, inr}
use Rattle.std.specs.Prelude.{Result, Ok, Err}
use Rattle.def_live.specs.Serial.{agenda_left}
use Rattle.def_live_run.specs.Reports.{in_order, in_both, output_lines}
use Rattle.def_report.specs.Summaries.{summary_lines}
use Rattle.def_run.specs.Reports.{summary_of, played_in}
use Rattle.def_run.specs.SystemStates.{SystemState, Transition, traces_of}
use Rattle.ic_base.specs.declared.messages.ComId.{ComId}
use Rattle.ic_base.specs.declared.messages.Output.{Output}
use Rattle.ic_base.specs.declared.report.Summary.{Summary}
use Rattle.ic_base.specs.declared.scenario.Program.{Program}
use Rattle.ic_disk.specs.TornDisks.{Torn}
use Rattle.ic_disk.specs.Torns.{torn}
use Rattle.ic_disk.specs.declared.disk.Disk as disk
use Rattle.ic_disk.specs.declared.sink.Sink as sink
use Rattle.ic_joins.specs.Showing.{showings_of}
use Rattle.ic_plan.specs.declared.run_texts.RunTexts.{RunTexts}
use Rattle.ic_report.specs.Outputs.{if_any, Puts}
use Rattle.ic_run.specs.Running.{Goes}
use Rattle.ic_run.specs.Summaries.{summed, FailsToTell}
use Rattle.ic_report.specs.declared.ending.Why.{Why}
use Rattle.ic_run.specs.Tallies.{Counts}
use Rattle.ic_run.specs.declared.tally.Tally.{Tally}
use Rattle.ic_run.proofs.Summaries.{summary-same, exact}
use Rattle.ic_settle.specs.Policies.{intervals_of}
use Rattle.ic_turn.specs.declared.progress.Progress.{Progress}
use Rattle.ic_world.specs.Acting.{GREATEST}
use Rattle.ic_world.specs.Views.{world_of, state_of, played_of}
use Rattle.ic_threads.specs.Concluding.{shown_in}
use Rattle.ic_threads.specs.Counting.{counted, together}
use Rattle.ic_threads.specs.Joined.{CountsThreads}
use Rattle.ic_threads.specs.Runs.{report_pieces, FinishesOf, FailsToFinish}
use Rattle.ic_threads.specs.Serial.{shown_along, DoesLeft}
use Rattle.ic_threads.specs.declared.joined.Joined.{Joined}

pub on-ok : {T E A B : Type 0} (r : Result T E) → OnOk r A → (A → B) → OnOk r B
on-ok (Ok x) a f = f a
on-ok (Err e) a f = tt

pub both-ok : {T E A B C : Type 0} (r : Result T E) → OnOk r A → OnOk r B → (A → B → C) → OnOk r C
both-ok (Ok x) a b f = f a b
both-ok (Err e) a b f = tt

pub on-err : {T E : Type 0} {A B : E → Type 0} (r : Result T E) → IfErr r A → ((e : E) → A e → B e) → IfErr r B
on-err (Ok x) a f = tt
on-err (Err e) a f = f e a

nothing-more : (z n k : ℕ) → z ≡ 0 → (z + n) + k ≡ n + k
nothing-more z n k is = grind (arith, is)

-- the summary of both phases
pub summary-both : (program : Program) (ps : List Progress) (shown : List (ComId × Output)) (p : SystemState) (vs : List Transition) (threads serial : Tally) (n played : ℕ) (w : _)
    → CountsThreads ps threads → n ≡ (counted ps).played → played ≡ played_in p vs → summed program true serial played w ≡ summary_of program true p vs
    → summed program true (shown_in program (together threads serial) shown) (n + played) w ≡ in_both (counted ps) (in_order program shown) (summary_of program true p vs)
summary-both program ps shown p vs threads serial n played w c many same is =
    let t = summed program true serial played w in
    let m = counted ps in
    let taken : threads.taken + serial.taken ≡ m.taken + serial.taken = ap (λ (z : Tally). z.taken + serial.taken) c.is ∙ nothing-more c.none.taken m.taken serial.taken c.nothing.taken in
    let kept : threads.kept + serial.kept ≡ m.kept + serial.kept = ap (λ (z : Tally). z.kept + serial.kept) c.is ∙ nothing-more c.none.kept m.kept serial.kept c.nothing.kept in
    let lost : threads.lost + serial.lost ≡ m.lost + serial.lost = ap (λ (z : Tally). z.lost + serial.lost) c.is ∙ nothing-more c.none.lost m.lost serial.lost c.nothing.lost in
    let missed : threads.missed + serial.missed ≡ m.missed + serial.missed = ap (λ (z : Tally). z.missed + serial.missed) c.is ∙ nothing-more c.none.missed m.missed serial.missed c.nothing.missed in
    let S : Summary = summed program true (shown_in program (together threads serial) shown) (n + played) w in
    let first : S ≡ in_both m (in_order program shown) t = λ i. record (in_both m (in_order program shown) t) { taken = taken i; kept = kept i; lost = lost i; missed = missed i; played = many i + played } in
    first ∙ ap (in_both m (in_order program shown)) is

module _ {D : Type 0} (b : disk.Ghosts D) {K : Type 0} (k : sink.Ghosts K) (r : RunTexts) (old new : Joined (Torn D) (torn b)) (none serial : Tally) (nothing : Counts [] none)
    (done : DoesLeft r.program (intervals_of r.policy) none old.left old.world new.world old.shown new.shown serial) (before after : K) where
  abbrev pub pieces : Tally → List (ComId × Output) → List (List ℕ)
  pieces tally shown = if_any (output_lines r.program r.policy.report shown) ++ summary_lines r.program (summed r.program true (shown_in r.program tally shown) (old.played + played_of new.world) (world_of new.world)) ∷ []

  finishes-so : played_of new.world < GREATEST → Puts k (pieces (together old.tally serial) new.shown) before after → FinishesOf b k r old new before after
  finishes-so few printed xs ps j =
      let vs = done.transitions in
      let p = state_of old.world in
      let played = exact (played_of old.world) (played_in p vs) (played_of new.world) done.goes.played j.assembled.assembles.played few in
      let same = summary-same r.program true p vs (world_of new.world) serial (played_of new.world) (done.counts [] nothing) (ap (λ (s : SystemState). s.world) done.goes.ends) played in
      let sum = summary-both r.program ps new.shown p vs old.tally serial old.played (played_of new.world) (world_of new.world) j.tally j.played played same in
      let shown : new.shown ≡ showings_of xs ps ++ shown_along (traces_of vs) = done.shown ∙ ap (λ l. l ++ shown_along (traces_of vs)) j.shown in
      let out = λ (s : Summary). if_any (output_lines r.program r.policy.report new.shown) ++ summary_lines r.program s ∷ [] in
      let one : Puts k (report_pieces r ps new.shown p vs) before after = subst (λ s. Puts k (out s) before after) sum printed in
      record {
        assembled = j.assembled;
        joined = j.joined;
        transitions = vs;
        agenda = done.agenda;
        goes = subst (λ l. Goes r.program (intervals_of r.policy) (agenda_left l) old.world vs done.agenda new.world) j.left done.goes;
        nothing = done.nothing;
        printed = subst (λ (l : List (ComId × Output)). Puts k (report_pieces r ps l p vs) before after) shown one;
      }

  module _ (tally : Tally) (sum : tally ≡ together old.tally serial) (shown : List (ComId × Output)) (all : shown ≡ new.shown) where
    pub finishes : played_of new.world < GREATEST → Puts k (pieces tally shown) before after → FinishesOf b k r old new before after
    finishes few printed = finishes-so few (subst (λ (s : List (ComId × Output)). Puts k (pieces (together old.tally serial) s) before after) all (subst (λ (t : Tally). Puts k (pieces t shown) before after) sum printed))

    pub untold : (why : Why) → FailsToTell k (pieces tally shown) before after why → FailsToFinish b k r old new before after why
    untold why fails = inr (record {
      none = none;
      nothing = nothing;
      serial = serial;
      done = done;
      fails = subst (λ (s : List (ComId × Output)). FailsToTell k (pieces (together old.tally serial) s) before after why) all (subst (λ (t : Tally). FailsToTell k (pieces t shown) before after why) sum fails);
    })
