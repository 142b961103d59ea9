-- Over one world behind another: the disks hold sound logs, and the front that is kept has just their requests.
use Rattle.std.proofs.Common.{◌≡◌, ◌∙◌, sym, ap, subst, refl, ℕ, zero, suc, arith, Bool, true, false, length, List, [], ◌∷◌, map, Option, Some, None, inl, inr}
use Rattle.std.specs.Prelude.{Ok, slice_get, unwrap_or, is_some, cond}
use Rattle.ic_base.specs.declared.messages.ComId.{ComId}
use Rattle.ic_base.specs.declared.refusals.StartWhy.{StartWhy}
use Rattle.ic_base.specs.declared.refusals.StartWhy.TheVariants as starts
use Rattle.ic_base.specs.declared.report.ReportLevel.{ReportLevel}
use Rattle.ic_base.specs.declared.scenario.Component.{Component}
use Rattle.ic_base.specs.declared.scenario.Program.{Program}
use Rattle.def_client.specs.Fronts.{Front}
use Rattle.def_client.specs.Rebuilding.{HasAll, front_of}
use Rattle.def_facts.specs.Logs.{Logs}
use Rattle.def_facts.specs.World.{forced_logs, whole_logs}
use Rattle.def_log.specs.Laws.{IsBytes}
use Rattle.def_plain.specs.History.{history_of}
use Rattle.def_plain.specs.Plain.{plain_run_of}
use Rattle.def_rounds.specs.Rounds.{side_behind}
use Rattle.def_run.specs.Openings.{BeginsSound, IsFound, IsStartRefused, start_refusal, found_refusal}
use Rattle.def_run.specs.Reports.{logs_of}
use Rattle.def_run.specs.SystemStates.{SystemState, KeepsLogs, file_in}
use Rattle.def_serve.specs.Lines.{Line, serving}
use Rattle.def_step.specs.Settle.{PolicyIntervals}
use Rattle.law_client.specs.Rounds.{Stands}
use Rattle.law_run.specs.ProgramBytes.{IsFit}
use Rattle.law_run.proofs.Opening.{explained-unrefused}
use Rattle.law_run.proofs.Resumed.{found-soundly, same-found}
use Rattle.law_run.proofs.Starts.{beginnings_are_explained}
use Rattle.law_serve.proofs.Fronts.{rebuilt_fronts_have_all}
use Rattle.law_serve.proofs.Firsts.{rebuilt_fronts_tell_first}
use Rattle.law_serve.proofs.Replies.{rebuilt_fronts_tell, same-lists}
use Rattle.law_serve.specs.Replies.{KnowsLogs}
use Rattle.ic_client.specs.Seeing.{TakenAlike}
use Rattle.ic_disk.specs.TornDisks.{Torn}
use Rattle.ic_disk.specs.Torns.{torn}
use Rattle.ic_disk.specs.declared.disk.Disk as disk
use Rattle.ic_disk.specs.declared.sink.Sink as sink
use Rattle.ic_lines.specs.declared.lines.Lines as source
use Rattle.ic_lines.specs.declared.lines.Read.{Read}
use Rattle.ic_plan.specs.declared.run_texts.ServedTexts.{ServedTexts}
use Rattle.ic_run.specs.Running.{KeepsAll}
use Rattle.ic_run.proofs.WorldFiles.{files-below}
use Rattle.ic_run.proofs.Worlds.{tells-on}
use Rattle.ic_settle.specs.Policies.{intervals_of}
use Rattle.ic_world.specs.Opening.{AllKept, AllTell, AllStay, disks_under, files_of, files_on, is_outside}
use Rattle.ic_world.specs.Views.{components_of, world_of, state_of, print_of, Tells}
use Rattle.ic_world.specs.declared.opening.StartRefused.{StartRefused}
use Rattle.ic_world.specs.declared.world.World.{World}
use Rattle.ic_world.proofs.Makings.{kept-tell}
use Rattle.ic_serve.specs.Reading.{IsCounted, line_as}
use Rattle.ic_serve.specs.Opening.{IsBegun}
use Rattle.ic_serve.specs.Runs.{Between, AreUnrefused, HoldSound, KnowsDisks, KnowsDisksFor, OpensFor, ServesWorlds, AreSound, at_opening, behind_another, first_behind}
use Rattle.ic_serve.specs.Serving.{IsSettledFrom, KeepsRequests, IsServed, Moment, Serves, no_line, passed_over, was_served}
use Rattle.ic_serve.specs.Worlds.{Loads, IsTakenUp, AnswersFirst, HasServed, EndsWorld, ServesWorld}
use Rattle.ic_serve.specs.declared.line.Line as code
use Rattle.ic_serve.specs.declared.service.Service.{Service}
use Rattle.ic_serve.specs.declared.stretch.First.{First}
use Rattle.ic_serve.specs.declared.stretch.First.TheVariants.{Opening, Line as ALine}
use Rattle.ic_serve.proofs.Handed.{fails, opened-new, opened-stands, opened-forced, opened-whole, stretch-kept}

-- bytes of disks ---------------------------------------------------------------------------------------

abbrev AllBytes : List (List ℕ) → Type 0
AllBytes files = (k : ℕ) (f : List ℕ) → slice_get files k ≡ Some f → IsBytes f

abbrev AreBytes : List (List ℕ) → Type 0
AreBytes rest = (j : ℕ) → IsBytes (unwrap_or (slice_get rest j) [])

none-bytes : IsBytes []
none-bytes i = omega (arith)

files-bytes : (xs : List Component) (files : List (List ℕ)) → AllBytes files → (k : ℕ) → IsBytes (unwrap_or (slice_get (files_of xs files) k) [])
files-bytes [] files all k = none-bytes
files-bytes (x ∷ xs) [] all zero = none-bytes
files-bytes (x ∷ xs) [] all (suc k) = files-bytes xs [] all k
files-bytes (x ∷ xs) (f ∷ files) all k = at (is_outside x.kind) k (λ j. files-bytes xs (f ∷ files) all j) (λ j. files-bytes xs files (λ i g is. all (suc i) g is) j)
  where
    at : (o : Bool) (k : ℕ) → AreBytes (files_of xs (f ∷ files)) → AreBytes (files_of xs files) → IsBytes (unwrap_or (slice_get (cond o ([] ∷ files_of xs (f ∷ files)) (f ∷ files_of xs files)) k) [])
    at true zero same less = none-bytes
    at true (suc k) same less = same k
    at false zero same less = all 0 f refl
    at false (suc k) same less = less k

module _ {D : Type 0} (b : disk.Ghosts D) where
  seen-bytes : (disks : List D) → ((x : D) → b.tells x → IsBytes (b.seen x)) → AllTell b disks → AllBytes (map (λ x. b.seen x) disks)
  seen-bytes [] are tell k f is = absurd (cc)
  seen-bytes (x ∷ disks) are tell zero f is = subst IsBytes (same is) (are x (tell 0 x refl))
    where
      same : {y z : List ℕ} → Some y ≡ Some z → y ≡ z
      same e = ap (λ o. unwrap_or o []) e
  seen-bytes (x ∷ disks) are tell (suc k) f is = seen-bytes disks are (λ j y at. tell (suc j) y at) k f is

  same-seen : (xs ys : List D) → length ys ≡ length xs → ((k : ℕ) (x y : D) → slice_get xs k ≡ Some x → slice_get ys k ≡ Some y → b.seen y ≡ b.seen x) → map (λ x. b.seen x) ys ≡ map (λ x. b.seen x) xs
  same-seen [] [] count each = refl
  same-seen [] (y ∷ ys) count each = absurd (omega (arith, count))
  same-seen (x ∷ xs) [] count each = absurd (omega (arith, count))
  same-seen (x ∷ xs) (y ∷ ys) count each = ap (λ f. f ∷ map (λ z. b.seen z) ys) (each 0 x y refl refl) ∙ ap (λ l. b.seen x ∷ l) (same-seen xs ys (omega (arith, count)) (λ k. each (suc k)))

  module _ (program : Program) (print : List ℕ) where
    -- where a world opens over disks that hold sound logs --------------------------------------------------

    -- where a disk isn't blank
    module _ (disks : List D) (asked : StartRefused D) (begun : IsBegun b program print disks asked) (tell : AllTell b disks) where
      pub not-blank : start_refusal program (files_on b program disks) ≡ Some (starts.NotBlank begun.who)
      not-blank = let P : StartWhy → Type 0 = λ why. IsStartRefused (start_refusal program (files_on b program disks)) why in subst P begun.why (begun.fails.opens.why tell)

      stay : AllStay b (starts.NotBlank begun.who) disks asked.disks.items
      stay = let P : StartWhy → Type 0 = λ why. AllStay b why disks asked.disks.items in subst P begun.why (begun.fails.stay tell (ap is_some not-blank))

      -- they read as before
      pub asked-same : files_on b program asked.disks.items ≡ files_on b program disks
      asked-same = ap (files_of program.components) (same-seen disks asked.disks.items begun.fails.opens.count (λ k x y at is. stay k x y at is (tell k x at)))

      pub asked-tell : AllTell b asked.disks.items
      asked-tell = kept-tell b disks asked.disks.items (fails b program print disks asked begun.fails.opens) tell

    begins-soundly : length print ≡ 32 → (first : First) (disks : List D) (w : World (Torn D) (torn b)) → OpensFor b program print first disks w → HoldSound b program print first disks → BeginsSound program print (files_on b program disks) (state_of w)
    begins-soundly long Opening disks w (inl s) h = inl (long, s.state h.tell)
    begins-soundly long Opening disks w (inr (asked, begun, f)) h =
        h.taken_up (state_of w) (subst (λ files. IsFound program print files (state_of w)) (asked-same disks asked begun h.tell) (f.state (asked-tell disks asked begun h.tell)))
    begins-soundly long (ALine line) disks w f h = h.taken_up (state_of w) (f.state h.tell)

    pub stands-soundly : length print ≡ 32 → (first : First) (disks : List D) (w : World (Torn D) (torn b)) → OpensFor b program print first disks w → IsFit program → HoldSound b program print first disks → Stands program (print_of w) (forced_logs (world_of w)) (state_of w)
    stands-soundly long first disks w o fit h = opened-stands b program print first disks w o (files_on b program disks) fit (begins-soundly long first disks w o h)

    pub tells-opened : (first : First) (disks : List D) (w : World (Torn D) (torn b)) → OpensFor b program print first disks w → AllTell b disks → Tells w
    tells-opened first disks w o tell = let n = opened-new b program print first disks w o in n.2.tells (kept-tell b disks n.0 n.1 tell)

-- along what is served over a world --------------------------------------------------------------------

-- a line that is read is counted, and the front stays
counted-front : (read : Option Read) (was now : Service) → IsCounted read was now → now.front.taken ≡ was.front.taken
counted-front None was now is = ap (λ (s : Service). s.front.taken) is
counted-front (Some read) was now is = ap (λ (s : Service). s.front.taken) is

-- a world that tells stands, and a front is alike to one that knows its logs
record IsGood (program : Program) (found : Logs) {D : Type 0} {d : disk.Ghosts D} (w : World D d) (front : Front) : Type 0 where
  tells : Tells w
  stands : Stands program (print_of w) found (state_of w)
  whole : forced_logs (world_of w) ≡ whole_logs (world_of w)
  other : Front
  alike : TakenAlike front other
  knows : KnowsLogs program other (forced_logs (world_of w))

module _ (program : Program) (fit : IsFit program) (found : Logs) {D : Type 0} {d : disk.Ghosts D} where
  same-front : (w : World D d) (front next : Front) → next ≡ front → IsGood program found w front → IsGood program found w next
  same-front w front next same g = let P : Front → Type 0 = λ f. IsGood program found w f in subst P (sym same) g

  same-world : (v w : World D d) (front : Front) → w ≡ v → IsGood program found v front → IsGood program found w front
  same-world v w front same g = let P : World D d → Type 0 = λ u. IsGood program found u front in subst P (sym same) g

  settled-good : (old new : World D d) (was now : Front) → IsSettledFrom program old new → KeepsRequests program was now old new → IsGood program found old was → IsGood program found new now
  settled-good old new was now s keeps g =
      let z = keeps found g.other fit g.tells g.stands g.whole g.alike g.knows in
      let there = s.crash_free found fit g.tells g.stands in
      record { tells = tells-on old new s.disks g.tells; stands = there.stands; whole = there.ends.1.whole; other = z.0; alike = z.1; knows = z.2 }

  module _ (x : PolicyIntervals) (level : ReportLevel) {K : Type 0} (k : sink.Ghosts K) where
    served-good : (line : Line) (was now : Service) (old new : World D d) (before after : K) → IsServed program x level k line was now old new before after → IsGood program found old was.front.taken → IsGood program found new now.front.taken
    served-good line was now old new before after s g =
        let z = s.serves found g.other fit g.tells g.stands g.alike g.knows in
        let there = s.settled.crash_free found fit g.tells g.stands in
        record { tells = tells-on old new s.settled.disks g.tells; stands = there.stands; whole = there.ends.1.whole; other = side_behind serving g.other z.round; alike = z.alike; knows = z.knows }

    module _ {I : Type 0} (i : source.Ghosts I) where
      serves-good : (m n : Moment d I K) → Serves program x level i k m n → IsGood program found m.world m.service.front.taken → IsGood program found n.world n.service.front.taken
      serves-good _ _ (no_line {m}) g = g
      serves-good _ _ (passed_over {m} {n} {source} {next} {read} s reads none) g = same-front n.world n.service.front.taken next.front.taken (counted-front (Some read) n.service next reads.counted) (serves-good m n s g)
      serves-good _ _ (was_served {m} {n} {source} {next} {after} {world} {out} {read} {line} s reads some served) g =
          served-good line next after n.world world n.out out served (same-front n.world n.service.front.taken next.front.taken (counted-front (Some read) n.service next reads.counted) (serves-good m n s g))

-- over a world of the disks ----------------------------------------------------------------------------

module _ {D : Type 0} (b : disk.Ghosts D) {K : Type 0} (k : sink.Ghosts K) (r : ServedTexts) {I : Type 0} (i : source.Ghosts I) (long : length r.fingerprint ≡ 32) (first : First) (disks : List D) (old new : World (Torn D) (torn b)) (opens : OpensFor b r.program r.fingerprint first disks old) (fit : IsFit r.program) (h : HoldSound b r.program r.fingerprint first disks) where
  abbrev found : Logs
  found = forced_logs (world_of old)

  abbrev Good : World (Torn D) (torn b) → Front → Type 0
  Good w front = IsGood r.program found w front

  loaded-good : (f : First) → f ≡ first → OpensFor b r.program r.fingerprint f disks old → (was loaded : Service) → Loads r.program f old was loaded → KnowsDisksFor b r.program r.fingerprint f was.front.taken disks → Good old loaded.front.taken
  loaded-good Opening is o was loaded (same, logs) requests = record {
    tells = tells-opened b r.program r.fingerprint first disks old opens h.tell;
    stands = stands-soundly b r.program r.fingerprint long first disks old opens fit h;
    whole = opened-whole b r.program r.fingerprint first disks old opens;
    other = front_of logs.plain (logs_of (world_of old));
    alike = logs.front;
    knows =
        let forced = opened-forced b r.program r.fingerprint first disks old opens in
        let P : Logs → Type 0 = λ l. KnowsLogs r.program (front_of logs.plain l) (forced_logs (world_of old)) in
        let Q : Logs → Type 0 = λ l. HasAll r.program (front_of logs.plain l) l in
        let R : Logs → Type 0 = λ l. plain_run_of r.program (history_of r.program l) ≡ Ok logs.plain in
        let st = stands-soundly b r.program r.fingerprint long first disks old opens fit h in
        subst P (sym forced) (record {
          requests = subst Q forced (rebuilt_fronts_have_all r.program logs.plain (logs_of (world_of old)));
          replies = rebuilt_fronts_tell r.program found st.here (world_of old) logs.plain st.explained.explained (subst R forced logs.runs);
          firsts = rebuilt_fronts_tell_first r.program found st.here (world_of old) logs.plain st.explained.explained (subst R forced logs.runs);
        });
  }
  loaded-good (ALine line) is o was loaded same requests =
      let z = requests (state_of old) (o.state h.tell) in
      same-front r.program fit found old was.front.taken loaded.front.taken (ap (λ (s : Service). s.front.taken) same) (record {
        tells = tells-opened b r.program r.fingerprint first disks old opens h.tell;
        stands = stands-soundly b r.program r.fingerprint long first disks old opens fit h;
        whole = opened-whole b r.program r.fingerprint first disks old opens;
        other = z.0;
        alike = z.1;
        knows = z.2;
      })

  answered-good : (f : First) (was now : Service) (mid opened : World (Torn D) (torn b)) (before after : K) → AnswersFirst b k r f was now mid opened before after → Good mid was.front.taken → Good opened now.front.taken
  answered-good Opening was now mid opened before after (a, same) g = same-world r.program fit found mid opened now.front.taken same (same-front r.program fit found mid was.front.taken now.front.taken a.answers.front g)
  answered-good (ALine line) was now mid opened before after a g = served-good r.program fit found (intervals_of r.policy) r.policy.report k (line_as was.lines line) was now mid opened before after a g

  taken-good : (was now : Service) (opened : World (Torn D) (torn b)) (before after : K) → IsTakenUp b k r first was now old opened before after → KnowsDisksFor b r.program r.fingerprint first was.front.taken disks → Good opened now.front.taken
  taken-good was now opened before after up requests =
      answered-good first up.settled now up.mid opened before after up.answers
      (settled-good r.program fit found old up.mid up.loaded.front.taken up.settled.front.taken up.from up.requests (loaded-good first refl opens was up.loaded up.front requests))

  rest-good : (next : Option code.Line) (opened rest : Moment (torn b) I K) → HasServed b k r i opened rest next → Good opened.world opened.service.front.taken → Good rest.world rest.service.front.taken
  rest-good next opened rest s g =
      let last = s.last in
      same-world r.program fit found last.world rest.world rest.service.front.taken s.world
      (same-front r.program fit found last.world last.service.front.taken rest.service.front.taken (counted-front s.read last.service rest.service s.reads.counted)
      (serves-good r.program fit found (intervals_of r.policy) r.policy.report k i opened last s.serves g))

  -- those that are handed back
  module _ (keeps : KeepsAll old new) (from : IsSettledFrom r.program old new) where
    abbrev back : List D
    back = disks_under (components_of new)

    kept : AllKept b disks back
    kept = stretch-kept b r.program r.fingerprint first disks old new opens keeps

    files : (state_of new).files ≡ files_on b r.program back
    files = files-below b r.program new from.goes_on.made (keeps.count ∙ (opened-new b r.program r.fingerprint first disks old opens).2.count) from.goes_on.going

    bytes-there : (c : ComId) → IsBytes (file_in (files_on b r.program back) c)
    bytes-there c = files-bytes r.program.components (map (λ x. b.seen x) back) (seen-bytes b back h.bytes (kept-tell b disks back kept h.tell)) c.0

    module _ (front : Front) (g : Good new front) where
      logs-kept : KeepsLogs r.fingerprint (state_of new)
      logs-kept = let P : List ℕ → Type 0 = λ print. KeepsLogs print (state_of new) in subst P (keeps.print ∙ (opened-new b r.program r.fingerprint first disks old opens).2.is_own) g.stands.keeps

      found-there : (p : SystemState) → IsFound r.program r.fingerprint (files_on b r.program back) p → IsFound r.program r.fingerprint (state_of new).files p
      found-there p f = let P : List (List ℕ) → Type 0 = λ fs. IsFound r.program r.fingerprint fs p in subst P (sym files) f

      back-unrefused : (f : First) → AreUnrefused b r.program r.fingerprint f back
      back-unrefused f = by f (let P : List (List ℕ) → Type 0 = λ fs. found_refusal r.program r.fingerprint fs ≡ None in subst P files (explained-unrefused r.program r.fingerprint found g.stands.here (state_of new) g.stands.explained.explained logs-kept))
        where
          by : (f : First) → found_refusal r.program r.fingerprint (files_on b r.program back) ≡ None → AreUnrefused b r.program r.fingerprint f back
          by Opening none = inr none
          by (ALine line) none = none

      back-sound : (f : First) → HoldSound b r.program r.fingerprint f back
      back-sound f = record {
        bytes = h.bytes;
        tell = kept-tell b disks back kept h.tell;
        opens = back-unrefused f;
        taken_up = λ p f.
            let P : List (List ℕ) → Type 0 = λ fs. BeginsSound r.program r.fingerprint fs p in
            let Q : List (List ℕ) → Type 0 = λ fs. (c : ComId) → IsBytes (file_in fs c) in
            subst P files (found-soundly r.program r.fingerprint found g.stands.here (state_of new) p g.stands.explained.explained logs-kept (found-there p f) (subst Q (sym files) bytes-there));
      }

      back-knows : KnowsDisks b r.program r.fingerprint front back
      back-knows p f =
          let P : Logs → Type 0 = λ l. KnowsLogs r.program g.other l in
          let begun = beginnings_are_explained r.program r.fingerprint (files_on b r.program back) p fit.playable fit.bytes ((back-sound Opening).taken_up p f) in
          let long : length (forced_logs (world_of new)) ≡ length (forced_logs p.world) = g.stands.explained.explained.1.logs.one_each.0 ∙ sym begun.0.explained.1.logs.one_each.0 in
          (g.other, g.alike, subst P (same-lists (forced_logs (world_of new)) (forced_logs p.world) long (λ c. sym (same-found r.program r.fingerprint found g.stands.here (state_of new) p g.stands.explained.explained logs-kept (found-there p f) c))) g.knows)

    -- what is handed back is sound, for what comes first over the next world
    pub stretch-sound : (next : Option code.Line) (was now : Moment (torn b) I K) → was.world ≡ old → now.world ≡ new → KnowsDisksFor b r.program r.fingerprint first was.service.front.taken disks → ServesWorld b k r i first was now next → HoldSound b r.program r.fingerprint (first_behind next) back × KnowsDisksFor b r.program r.fingerprint (first_behind next) now.service.front.taken back
    stretch-sound next was now from-old to-new requests s = at next s.served s.ends
      where
        begun : IsTakenUp b k r first was.service s.opened.service old s.opened.world was.out s.opened.out
        begun = let P : World (Torn D) (torn b) → Type 0 = λ w. IsTakenUp b k r first was.service s.opened.service w s.opened.world was.out s.opened.out in subst P from-old s.begins.up

        rest : (o : Option code.Line) → HasServed b k r i s.opened s.rest o → Good s.rest.world s.rest.service.front.taken
        rest o served = rest-good o s.opened s.rest served (taken-good was.service s.opened.service s.opened.world was.out s.opened.out begun requests)

        at : (o : Option code.Line) → HasServed b k r i s.opened s.rest o → EndsWorld b k r i o s.rest now → HoldSound b r.program r.fingerprint (first_behind o) back × KnowsDisksFor b r.program r.fingerprint (first_behind o) now.service.front.taken back
        at None served (put, same) =
            let g : Good new s.rest.service.front.taken = same-world r.program fit found s.rest.world new s.rest.service.front.taken (sym to-new ∙ same) (rest None served) in
            (back-sound s.rest.service.front.taken g Opening, tt)
        at (Some line) served (up, silent) =
            let g : Good new now.service.front.taken = same-world r.program fit found now.world new now.service.front.taken (sym to-new) (settled-good r.program fit found s.rest.world now.world s.rest.service.front.taken now.service.front.taken up.settled up.requests (rest (Some line) served)) in
            (back-sound now.service.front.taken g (ALine line), back-knows now.service.front.taken g)

-- over one world behind another ------------------------------------------------------------------------

module _ {D : Type 0} (b : disk.Ghosts D) {K : Type 0} (k : sink.Ghosts K) (r : ServedTexts) {I : Type 0} (i : source.Ghosts I) (start : Between D I K) where
  pub worlds-sound : (first : First) (here : Between D I K) → ServesWorlds b k r i start first here → AreSound b k r i start first here
  worlds-sound Opening here at_opening fit h = (h, tt)
  worlds-sound (ALine line) here (behind_another {first} {m} s stretch) fit h =
      let z = worlds-sound first m s fit h in
      stretch.sound fit z.0 z.1
