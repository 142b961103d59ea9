-- An explained world stands as the crash-free world of all its records.
use Rattle.std.proofs.Common.{◌≡◌, refl, ◌∙◌, ap, sym, subst, ℕ, zero, suc, List, [], ◌∷◌, ◌++◌, take, drop, Option, Some, None, true, inr}
use Rattle.std.specs.Prelude.{⊤, MatchOption, IsSome, IsSomeAnd, slice_get, unwrap_or}
use Rattle.std.proofs.lemmas.List.{append-nil}
use Rattle.ic_base.specs.declared.messages.ComId.{ComId}
use Rattle.ic_base.specs.declared.messages.Out.{Out}
use Rattle.ic_base.specs.declared.scenario.Program.{Program}
use Rattle.ic_base.specs.Programs.{is_a_pcom}
use Rattle.def_plain.specs.declared.world.PlainPcom.{PlainPcom}
use Rattle.def_plain.specs.Plain.{PlainWorld, pcom_at, ledger_at}
use Rattle.def_state.specs.Hist.{number_outputs, outputs_of}
use Rattle.def_state.specs.Mirrors.{Mirrors}
use Rattle.def_step.specs.Tcom.{book_of}
use Rattle.def_step.specs.World.{World, Node, Runs, Serves, Down, External, node_at}
use Rattle.def_facts.specs.Logs.{Logs, log_at, IsPrefixOf, contents_in, last_shown}
use Rattle.def_facts.specs.Pcom.{state_after}
use Rattle.def_facts.specs.Sound.{IsSound, state_in}
use Rattle.def_facts.specs.Tcom.{TcomStateFacts}
use Rattle.def_facts.specs.World.{Past, IsExplainedBy, IsServed, ShowingFacts, records_of, forced_logs, whole_logs, is_of_kind, kind_of, firsts, shown_by}
use Rattle.def_run.specs.CrashFree.{HasValuesOfRecords, StandsCrashFree}
use Rattle.law_replay.proofs.Growing.{states_grow}
use Rattle.law_replay.proofs.Lists.{at-some, open-content, some-at}
use Rattle.law_replay.proofs.Members.{mapped_at}
use Rattle.law_replay.proofs.Prefixes.{prefix-trans}
use Rattle.law_replay.proofs.Records.{no-rest}
use Rattle.law_replay.proofs.Shown.{numbered-append}
use Rattle.law_replay.proofs.Truth.{longer}
use Rattle.law_sound.proofs.Agreeing.{ledgers_agree}
use Rattle.law_sound.proofs.Contents.{states_agree}
use Rattle.law_sound.proofs.Given.{Given}
use Rattle.law_sound.proofs.Outputs.{outputs_are_plain}
use Rattle.law_sound.proofs.Explained.{cut-given, cut-sound}
use Rattle.law_settle.specs.Ends.{ExplainedStandsCrashFree}
use Rattle.law_settle.proofs.Ending.{tcom-kind}
use Rattle.law_settle.proofs.Quiet.{mirrored_at, pcom_facts_at}

-- parts of a list that goes on -----------------------------------------------------------------------

taken-prefix : {A : Type 0} (n : ℕ) (xs : List A) → IsPrefixOf (take n xs) xs
taken-prefix zero xs = (xs, refl)
taken-prefix (suc n) [] = ([], refl)
taken-prefix (suc n) (x ∷ xs) = let y = taken-prefix n xs in (y.0, ap (λ l. x ∷ l) y.1)

dropped-prefix : {A : Type 0} (n : ℕ) (xs more : List A) → IsPrefixOf (drop n xs) (drop n (xs ++ more))
dropped-prefix zero xs more = (more, refl)
dropped-prefix (suc n) [] more = (drop (suc n) more, refl)
dropped-prefix (suc n) (x ∷ xs) more = dropped-prefix n xs more

numbered-prefix : (a : ℕ) (xs ys : List Out) → IsPrefixOf xs ys → IsPrefixOf (number_outputs a xs) (number_outputs a ys)
numbered-prefix a xs ys p = (_, ap (number_outputs a) p.1 ∙ numbered-append a xs p.0)

behind-prefix : {A : Type 0} (n : ℕ) (xs ys : List A) → IsPrefixOf xs ys → IsPrefixOf (drop n xs) (drop n ys)
behind-prefix n xs ys p = subst (λ l. IsPrefixOf (drop n xs) (drop n l)) (sym p.1) (dropped-prefix n xs p.0)

-- the world --------------------------------------------------------------------------------------------

module _ (program : Program) (found : Logs) (here : ComId → ℕ) (w : World) (past : Past) (good : IsExplainedBy program found here w past) where
  module _ (v : PlainWorld) (sound : IsSound program (whole_logs w) v) where
    g : Given program found (whole_logs w) past v
    g = cut-given program found here w past good (whole_logs w) v (refl, λ c. inr refl) sound

    -- a Pcom that isn't replaying has played all its records
    values-at : (c : ComId) (o : Option Node) → node_at w c ≡ o → MatchOption o ⊤ (HasValuesOfRecords program (whole_logs w) v c)
    values-at c None is = tt
    values-at c (Some (Runs p)) is = λ live.
        let pcom = pcom_facts_at program found here w past c p good is in
        let f = mirrored_at program found here w past c p good is in
        let log : log_at (whole_logs w) c ≡ f.played = ap (λ o. unwrap_or o []) (mapped_at records_of w.nodes c.0 (Runs p) is) ∙ f.rest_stands ∙ ap (λ l. f.played ++ l) (no-rest p.rest live) ∙ append-nil f.played in
        let h = open-content (Mirrors p.vol) (state_after program c (past.received c) f.played) f.mirrors in
        some-at (λ x. x.plain.vars ≡ p.vol.vars) (state_in program (whole_logs w) v c) h.0
        (states_agree program found (whole_logs w) past v g.explains g.run c pcom ∙ ap (state_after program c (past.received c)) log ∙ h.1) (sym h.2.vars)
    values-at c (Some (Serves t)) is =
        let tcom = tcom-kind (slice_get program.components c.0) t (ap (is_of_kind (kind_of program c)) (sym is) ∙ good.kinds c) in
        let facts : TcomStateFacts program c t (past.sent c) (past.received c) = subst (λ o. MatchOption o ⊤ (IsServed program c (past.sent c) (past.received c))) is (good.tcoms c) in
        at-some (λ b. ledger_at v c ≡ Some b.ledger) (book_of program c (log_at (whole_logs w) c)) t.book
        (ap (λ o. book_of program c (unwrap_or o [])) (mapped_at records_of w.nodes c.0 (Serves t) is) ∙ facts.books)
        (ledgers_agree program found (whole_logs w) past v g.explains g.run c tcom)
    values-at c (Some (Down log)) is = tt
    values-at c (Some External) is = tt

    -- the outputs of the forced records go on in those of all records, and these in those of the crash-free world
    outputs-at : (c : ComId) → is_a_pcom program c ≡ true → IsSomeAnd (pcom_at v c) (λ x. IsPrefixOf (firsts c w.showings) (drop (last_shown (log_at found c)) (number_outputs 1 x.outs)))
    outputs-at c pcom =
        let low = good.logs.forced_all c in
        let l = longer program c (past.received c) (log_at (forced_logs w) c) low.0 (subst (λ rs. IsSome (state_after program c (past.received c) rs)) low.1 (g.explains.pcoms c pcom).whole.replays) in
        let shown = at-some (λ h. ShowingFacts (log_at found c) (log_at (forced_logs w) c) (log_at (whole_logs w) c) (here c) h (shown_by c w.showings)) (state_after program c (past.received c) (log_at (forced_logs w) c)) l.before l.is_before (good.showings c pcom) in
        let grown = (states_grow program c (contents_in (past.received c)) low.0 l.before l.later l.steps).outs in
        let state = states_agree program found (whole_logs w) past v g.explains g.run c pcom ∙ ap (state_after program c (past.received c)) low.1 ∙ l.is_later in
        let plain = open-content (λ (x : PlainPcom). IsPrefixOf l.later.plain.outs x.outs) (pcom_at v c)
        (at-some (λ h. IsSomeAnd (pcom_at v c) (λ x. IsPrefixOf h.plain.outs x.outs)) (state_in program (whole_logs w) v c) l.later state (outputs_are_plain program found (whole_logs w) past v g.explains g.run c pcom)) in
        let n = last_shown (log_at found c) in
        let through = numbered-prefix 1 l.before.plain.outs plain.0.outs (prefix-trans l.before.plain.outs l.later.plain.outs plain.0.outs grown plain.2) in
        some-at (λ x. IsPrefixOf (firsts c w.showings) (drop n (number_outputs 1 x.outs))) (pcom_at v c) plain.0 plain.1
        (subst (λ l. IsPrefixOf l (drop n (number_outputs 1 plain.0.outs))) (sym shown.firsts_are)
        (behind-prefix n (take shown.top (outputs_of l.before)) (number_outputs 1 plain.0.outs)
        (prefix-trans (take shown.top (outputs_of l.before)) (outputs_of l.before) (number_outputs 1 plain.0.outs) (taken-prefix shown.top (outputs_of l.before)) through)))

    stands : StandsCrashFree program found w v
    stands = record {
      sound = sound;
      extends = good.logs.found_forced;
      forced = good.logs.forced_all;
      values = λ c. values-at c (node_at w c) refl;
      outputs = outputs-at;
    }

pub explained_stands_crash_free : ExplainedStandsCrashFree
explained_stands_crash_free program found here w explained =
    let s = cut-sound program found here w explained.0 explained.1 (whole_logs w) (refl, λ c. inr refl) in
    (s.0, stands program found here w explained.0 explained.1 s.0 s.1)
