-- An agenda of a served run on its way: what was done was seen by the front, and its lines were gathered.
use Rattle.std.proofs.Common.{◌≡◌, ◌∙◌, sym, ap, subst, refl, ℕ, suc, ◌<◌, ◌≤◌, ◌⊎◌, inl, inr, true, false, List, [], ◌∷◌, ◌++◌, append_assoc, le_refl, arith, Option, None}
use Rattle.std.specs.Prelude.{◌==◌, ◌≢◌, if◌then◌else◌, fold}
use Rattle.std.specs.List.{concat}
use Rattle.std.proofs.lemmas.Bool.Decides.{eqb_tells}
use Rattle.std.proofs.lemmas.List.{append-nil}
use Rattle.std.proofs.lemmas.List.Folds.{concat-append}
use Rattle.ic_base.specs.declared.events.Trace.{Trace}
use Rattle.ic_base.specs.declared.refusals.WorldRefused.{WorldRefused}
use Rattle.ic_base.specs.declared.report.ReportLevel.{ReportLevel}
use Rattle.ic_base.specs.declared.scenario.Program.{Program}
use Rattle.def_client.specs.Fronts.{Front, saw}
use Rattle.def_run.specs.Executions as executions
use Rattle.def_run.specs.Executions.{next}
use Rattle.def_run.specs.SystemStates.{Transition, traces_of}
use Rattle.def_step.specs.Settle.{PolicyIntervals}
use Rattle.ic_client.specs.Seeing.{TakenAlike}
use Rattle.ic_disk.specs.TornDisks.{Torn}
use Rattle.ic_disk.specs.Torns.{torn}
use Rattle.ic_disk.specs.declared.disk.Disk as disk
use Rattle.ic_report.specs.Outputs.{Puts}
use Rattle.ic_run.proofs.More.{traces-more}
use Rattle.ic_run.proofs.Runs.{IsUnderWay, run-further, further-is, run-begins, begins-is, run-refused, run-cut}
use Rattle.ic_run.specs.Advancing.{AdvancesBy, Advances, FailsToAdvance}
use Rattle.ic_run.specs.Agendas.{agenda_of, IsReady}
use Rattle.ic_run.specs.Running.{Telling, CrashLeavesWay}
use Rattle.ic_run.specs.declared.agenda.Agenda.{Agenda}
use Rattle.ic_run.specs.declared.running.Cut.TheVariants as cuts
use Rattle.ic_world.specs.Acting.{GREATEST}
use Rattle.ic_world.specs.Allowing.{IsMadeFor}
use Rattle.ic_world.specs.Standing.{ArePlaced}
use Rattle.ic_world.specs.Views.{components_of, world_of, state_of, played_of, is_over}
use Rattle.ic_world.specs.declared.world.World.{World}
use Rattle.ic_serve.specs.Gathering.{in_a_list, AddsEvent, Gathered, FailsToGather}
use Rattle.ic_serve.specs.Telling.{event_lines, form_at, telling}
use Rattle.ic_serve.specs.declared.service.Service.{Service}
use Rattle.ic_serve.specs.declared.telling.Form.{Form}
use Rattle.ic_serve.specs.declared.telling.Form.TheVariants.{Following}

-- forms ---------------------------------------------------------------------------------------------

pub first-form : (form : Form) (n : ℕ) → form ≡ form_at form n n
first-form form n = at (eqb_tells n n)
  where
    at : (((n == n) ≡ true) × (n ≡ n)) ⊎ (((n == n) ≡ false) × (n ≢ n)) → form ≡ form_at form n n
    at (inl e) = ap (λ b. if b then form else Following) (sym e.0)
    at (inr e) = absurd (e.1 refl)

pub later-form : (form : Form) (first n : ℕ) → first < n → Following ≡ form_at form first n
later-form form first n less = at (eqb_tells n first)
  where
    at : (((n == first) ≡ true) × (n ≡ first)) ⊎ (((n == first) ≡ false) × (n ≢ first)) → Following ≡ form_at form first n
    at (inl e) = absurd (omega (arith, e.1, less))
    at (inr e) = ap (λ b. if b then form else Following) (sym e.0)

-- pieces --------------------------------------------------------------------------------------------

-- a list takes all pieces
pub listed : (told pieces : List (List ℕ)) → Puts in_a_list pieces told (told ++ pieces)
listed told pieces = record { tells = (λ t. t, λ t. t); taken = λ t. concat-append told pieces; put = refl; later = le_refl 0 }

-- one piece more behind what was gathered
pub one-more-piece : (old now after line : List ℕ) (told : List (List ℕ)) → now ≡ old ++ concat told → after ≡ now ++ line → after ≡ old ++ concat (told ++ line ∷ [])
one-more-piece old now after line told is more =
    more ∙ ap (λ l. l ++ line) is ∙ append_assoc old (concat told) line ∙ ap (λ l. old ++ (concat told ++ l)) (sym (append-nil line)) ∙ ap (λ l. old ++ l) (sym (concat-append told (line ∷ [])))

pub fold-more : (front : Front) (ts : List Trace) (t : Trace) → fold saw front (ts ++ t ∷ []) ≡ saw (fold saw front ts) t
fold-more front [] t = refl
fold-more front (u ∷ us) t = fold-more (saw front u) us t

-- on its way ----------------------------------------------------------------------------------------

module _ {D : Type 0} {d : disk.Ghosts D} where
  pub record IsGathering (program : Program) (x : PolicyIntervals) (level : ReportLevel) (first : Form) (a : executions.Agenda) (was : Service) (old new : World D d) (agenda : Agenda) (here : Form) (now : Service) : Type 0 where
    pub told : List (List ℕ)
    pub run : IsUnderWay in_a_list program x (telling program level first (suc was.tally.events)) was.tally a old new [] told agenda now.tally
    pub seen : (other : Front) → TakenAlike was.front.taken other → TakenAlike now.front.taken (fold saw other (traces_of run.transitions))
    pub piece : now.piece.items ≡ was.piece.items ++ concat told
    pub played : now.played ≡ was.played
    pub lines : now.lines ≡ was.lines
    pub form : here ≡ form_at first (suc was.tally.events) (suc now.tally.events)

  module _ (program : Program) (x : PolicyIntervals) (level : ReportLevel) (first : Form) (a : executions.Agenda) (was : Service) (old mid new : World D d) (one two : Agenda) (here : Form) (now after : Service) (s : IsGathering program x level first a was old mid one here now) (t : Trace) (by : AdvancesBy program x one two mid new t) where
    abbrev pub tell : Telling
    tell = telling program level first (suc was.tally.events)

    abbrev pub last : Transition
    last = record { trace = t; state = state_of new }

    pub gathering-further : CrashLeavesWay program new [] None new → AddsEvent program level here t now after → after.tally.events ≡ suc now.tally.events → IsGathering program x level first a was old new two Following after
    gathering-further rests adds more =
        let us : List Transition = s.run.transitions in
        let pieces : List (List ℕ) = tell (suc now.tally.events) t in
        let told : List (List ℕ) = s.told ++ pieces in
        let printed : Puts in_a_list pieces s.told told = listed s.told pieces in
        let counts = adds.counts in
        let run = run-further in_a_list program x tell was.tally a old mid new [] s.told told one two now.tally s.run t by after.tally rests counts more printed in
        record {
          told = told;
          run = run;
          seen = λ other alike.
              let P : Front → Type 0 = λ f. TakenAlike after.front.taken f in
              let is : saw (fold saw other (traces_of us)) t ≡ fold saw other (traces_of (us ++ last ∷ [])) = sym (fold-more other (traces_of us) t) ∙ ap (λ ts. fold saw other ts) (sym (traces-more us last)) in
              let all : fold saw other (traces_of (us ++ last ∷ [])) ≡ fold saw other (traces_of run.transitions) =
              ap (λ (vs : List Transition). fold saw other (traces_of vs)) (sym (further-is in_a_list program x tell was.tally a old mid new [] s.told told one two now.tally s.run t by after.tally rests counts more printed)) in
              subst P (is ∙ all) (adds.seen.alike (fold saw other (traces_of us)) (s.seen other alike));
          piece =
              one-more-piece was.piece.items now.piece.items after.piece.items (event_lines program level (form_at first (suc was.tally.events) (suc now.tally.events)) (suc now.tally.events) t) s.told s.piece
              (adds.piece ∙ ap (λ f. now.piece.items ++ event_lines program level f (suc now.tally.events) t) s.form);
          played = adds.played ∙ s.played;
          lines = adds.lines ∙ s.lines;
          form = later-form first (suc was.tally.events) (suc after.tally.events) (omega (arith, more, s.run.numbered));
        }

  -- nothing is left to do
  pub gathering-ended : {program : Program} {x : PolicyIntervals} {level : ReportLevel} {first : Form} {a : executions.Agenda} {was : Service} {old mid : World D d} {agenda : Agenda} {here : Form} {now : Service} (new : World D d) (after : Service)
      → IsGathering program x level first a was old mid agenda here now → next (world_of mid) x (agenda_of agenda) ≡ None → new ≡ mid → after ≡ now → Gathered program x level first a was after old new
  gathering-ended {program} {x} {level} {first} {a} {was} {old} {mid} {agenda} {here} {now} new after s nothing same kept =
      let P : World D d → Service → Type 0 = λ w z. Gathered program x level first a was z old w in
      subst (λ w. P w after) (sym same) (subst (λ z. P mid z) (sym kept) (record {
        told = s.told;
        executed = record {
          transitions = s.run.transitions;
          agenda = agenda_of agenda;
          goes = s.run.goes;
          nothing = nothing;
          counts = s.run.counts;
          numbered = s.run.numbered;
          printed = s.run.printed;
          outlast = s.run.outlast;
        };
        seen = s.seen;
        piece = s.piece;
        played = s.played;
        lines = s.lines;
      }))

module _ {D : Type 0} (b : disk.Ghosts D) (only_now : (disk : D) (image : List ℕ) → b.keeps disk → b.left_since disk (b.moment disk) image → b.may_leave disk image) (tells : (disk : D) → b.keeps disk → b.tells disk) where
  pub gathering-begins : (program : Program) (x : PolicyIntervals) (level : ReportLevel) (first : Form) (w : World (Torn D) (torn b)) (agenda : Agenda) (was : Service)
      → IsMadeFor program (world_of w) → is_over w ≡ false → ArePlaced (components_of w) → played_of w ≤ GREATEST → IsReady program w agenda → IsGathering program x level first (agenda_of agenda) was w w agenda first was
  gathering-begins program x level first w agenda was made going placed few ready =
      let tell : Telling = telling program level first (suc was.tally.events) in
      record {
        told = [];
        run = run-begins b only_now tells in_a_list program x tell was.tally w [] agenda made going placed few ready;
        seen = λ other alike.
            let P : Front → Type 0 = λ f. TakenAlike was.front.taken f in
            subst P (ap (λ (vs : List Transition). fold saw other (traces_of vs)) (sym (begins-is b only_now tells in_a_list program x tell was.tally w [] agenda made going placed few ready))) alike;
        piece = sym (append-nil was.piece.items);
        played = refl;
        lines = refl;
        form = first-form first (suc was.tally.events);
      }

-- cut off -------------------------------------------------------------------------------------------

module _ {D : Type 0} (b : disk.Ghosts D) {d : disk.Ghosts (Torn D)} where
  pub gathering-refused : {program : Program} {x : PolicyIntervals} {level : ReportLevel} {first : Form} {a : executions.Agenda} {was now : Service} {old mid new : World (Torn D) d} {agenda : Agenda} {here : Form} {why : WorldRefused}
      → IsGathering program x level first a was old mid agenda here now → FailsToAdvance b program x agenda mid new why → FailsToGather b program x level first a was old new (cuts.Refused why)
  gathering-refused {program} {x} {level} {first} {a} {was} s f = record { told = s.told; was_cut = run-refused b in_a_list {tell = telling program level first (suc was.tally.events)} {was = was.tally} s.run f }

  pub gathering-cut : (program : Program) (x : PolicyIntervals) (level : ReportLevel) (first : Form) (a : executions.Agenda) (was : Service) (old mid new : World (Torn D) d) (one two : Agenda) (here : Form) (now : Service) (s : IsGathering program x level first a was old mid one here now) (t : Trace) → AdvancesBy program x one two mid new t
      → CrashLeavesWay program new [] None new → FailsToGather b program x level first a was old new cuts.Memory
  gathering-cut program x level first a was old mid new one two here now s t by rests = record {
    told = s.told;
    was_cut = run-cut b in_a_list program x (telling program level first (suc was.tally.events)) was.tally a old mid new [] s.told s.told one two now.tally s.run t by cuts.Memory rests refl;
  }

-- no event was done
pub stopped : {D : Type 0} {d : disk.Ghosts D} (program : Program) (x : PolicyIntervals) (one two : Agenda) {old new : World D d} (o : Option Trace) → o ≡ None → Advances program x one two old new o → (next (world_of old) x (agenda_of one) ≡ None) × (new ≡ old)
stopped program x one two {old} {new} o is by = let P : Option Trace → Type 0 = λ o. Advances program x one two old new o in subst P is by
