-- The logs that are read from the images of a crash are sound together.
use Rattle.std.proofs.Common.{◌≡◌, refl, ◌∙◌, ap, sym, subst, ℕ, zero, suc, Bool, true, false, ◌||◌, List, [], ◌∷◌, ◌++◌, length, drop, slice_get, Option, Some, None, Ok, ◌⊎◌, inl, inr, ⊎_elim}
use Rattle.std.proofs.lemmas.List.{append-nil, drop_at}
use Rattle.std.proofs.lemmas.Option.{same_Some}
use Rattle.ic_base.specs.declared.messages.ComId.{ComId}
use Rattle.ic_base.specs.declared.messages.Kind.{Kind}
use Rattle.ic_base.specs.declared.messages.Kind.TheVariants as kinds
use Rattle.ic_base.specs.declared.events.What.{What}
use Rattle.ic_base.specs.declared.events.What.TheVariants.{Input, Deliver, Lose, Packet as Numbered, Force, Checkpoint, Resend, Emit, Crash, Recover}
use Rattle.ic_base.specs.declared.events.Answer.{Answer}
use Rattle.def_step.specs.Settle.{asked_of}
use Rattle.ic_base.specs.declared.scenario.Component.{Component}
use Rattle.ic_base.specs.declared.scenario.Program.{Program}
use Rattle.ic_base.specs.declared.record.Record.{Record}
use Rattle.ic_base.specs.Programs.{declares, is_pcom, is_tcom, is_a_pcom, is_a_tcom, same_com}
use Rattle.def_log.specs.Log.{log_of}
use Rattle.def_step.specs.World.{World, Node, Runs, Serves, Down, External, DiskOutcome, After, node_at, happens}
use Rattle.def_run.specs.SystemStates.{SystemState, KeepsLog, file_of, file_in, has_disk, is_com, is_of, without_stop}
use Rattle.def_run.specs.CoreSteps.{would_force}
use Rattle.def_run.specs.CoreSteps.{forced_of as on_disk}
use Rattle.def_run.specs.Openings.{IsFound, found_node, found_nodes}
use Rattle.def_facts.specs.Flat.{HasFlatParts}
use Rattle.def_facts.specs.Logs.{Logs, log_at, IsPrefixOf}
use Rattle.def_facts.specs.Playable.{IsPlayable}
use Rattle.def_facts.specs.Sound.{AreSound}
use Rattle.def_facts.specs.World.{IsExplained, forced_of, forced_logs, whole_logs}
use Rattle.law_found.specs.Past.{IsLogList}
use Rattle.law_replay.proofs.Lists.{same-com}
use Rattle.law_sound.proofs.Explained.{cut-sound}
use Rattle.law_run.specs.ProgramBytes.{HasBytes}
use Rattle.law_step.proofs.Moments.{actor, others_stay, moments_are_sound}
use Rattle.law_step.specs.Steps.{PassesNoLimit}
use Rattle.law_syntax.specs.Events.{IsEvent}
use Rattle.law_run.specs.Executions.{IsExplainedInBytes}
use Rattle.law_run.specs.Images.{AreImages, FoundAtImages}
use Rattle.law_run.proofs.Growing.{event_grows}
use Rattle.law_run.proofs.Starts.{found-list, found_are_explained}
use Rattle.law_run.proofs.Steps.{disk-log, reads-images, same-read, passes-none}

-- a component with a disk is found down
found-down : (ds : List Component) (logs : List (List Record)) (i : ℕ) → declares (λ d. is_pcom d.kind) (slice_get ds i) || declares (λ d. is_tcom d.kind) (slice_get ds i) ≡ true → (log : List Record) × (slice_get (found_nodes ds logs) i ≡ Some (Down log))
found-down [] logs i e = absurd (cc e)
found-down (d ∷ ds) [] zero e = ([], ap (λ n. Some n) (by d.kind [] e))
  where
    by : (k : Kind) (log : List Record) → is_pcom k || is_tcom k ≡ true → found_node k log ≡ Down log
    by kinds.Pcom log f = refl
    by kinds.Tcom log f = refl
    by kinds.Xcom log f = absurd (cc f)
found-down (d ∷ ds) (log ∷ logs) zero e = (log, ap (λ n. Some n) (by d.kind e))
  where
    by : (k : Kind) → is_pcom k || is_tcom k ≡ true → found_node k log ≡ Down log
    by kinds.Pcom f = refl
    by kinds.Tcom f = refl
    by kinds.Xcom f = absurd (cc f)
found-down (d ∷ ds) [] (suc i) e = found-down ds [] i e
found-down (d ∷ ds) (log ∷ logs) (suc i) e = found-down ds logs i e

-- it is found with the log that its image reads
pub found-reads : (program : Program) (fingerprint : List ℕ) (images : List (List ℕ)) (r : SystemState) (c : ComId) (log : List Record) → IsFound program fingerprint images r → has_disk program c ≡ true → log_of (file_in images c) ≡ Ok log → log_at (forced_logs r.world) c ≡ log
found-reads program fingerprint images r c log start disk reads =
    let down = found-down program.components start.logs c.0 disk in
    let there : node_at r.world c ≡ Some (Down down.0) = ap (λ w. node_at w c) start.world ∙ down.1 in
    let holds = (subst (KeepsLog fingerprint c (file_of r c)) there (start.kept c)).holds in
    sym (disk-log r.world c) ∙ ap on_disk there ∙ same-read (log_of (file_in images c)) down.0 log (ap (λ l. log_of (file_in l c)) (sym start.files) ∙ holds) reads

-- a component without a disk has no log
pub without-log : (program : Program) (found : Logs) (here : ComId → ℕ) (w : World) → IsExplained program found here w → (v : World) → IsLogList program (forced_logs v) → (c : ComId) → has_disk program c ≡ false → log_at (forced_logs v) c ≡ log_at (forced_logs w) c
without-log program found here w f v list c none = let pcom = neither-left (is_a_pcom program c) (is_a_tcom program c) none in let tcom = neither-right (is_a_pcom program c) (is_a_tcom program c) none in
    list.others c pcom tcom ∙ sym (front-none (log_at (forced_logs w) c) (log_at (whole_logs w) c) (f.1.logs.forced_all c) (f.1.logs.others c pcom tcom).0)
  where
    neither-left : (a b : Bool) → a || b ≡ false → a ≡ false
    neither-left true b e = e
    neither-left false b e = refl

    neither-right : (a b : Bool) → a || b ≡ false → b ≡ false
    neither-right true b e = absurd (cc e)
    neither-right false b e = e

    front-none : (xs ys : List Record) → IsPrefixOf xs ys → ys ≡ [] → xs ≡ []
    front-none [] ys h e = refl
    front-none (z ∷ zs) ys h e = absurd (cc (sym h.1 ∙ e))

nothing-behind : (l : List Record) → drop (length l) l ≡ []
nothing-behind [] = refl
nothing-behind (r ∷ rs) = nothing-behind rs

drop-none : (n : ℕ) → drop {A = Record} n [] ≡ []
drop-none zero = refl
drop-none (suc n) = refl

-- what an event forces at a component that doesn't act, and at the one that does
added-none : (program : Program) (w : World) (what : What) (x : DiskOutcome) (c : ComId) → is_com c (actor w what) ≡ false → would_force program w what x c ≡ []
added-none program w what x c apart = at (happens program w (without_stop what) x) refl
  where
    at : (o : Option After) → happens program w (without_stop what) x ≡ o → ◌≡◌ {A = List Record} (elim o [ None ↦ [] | Some a ↦ drop (length (on_disk (node_at w c))) (on_disk (node_at a.world c)) ]) []
    at None e = refl
    at (Some a) e =
        ap (drop (length (on_disk (node_at w c)))) (disk-log a.world c ∙ others_stay program w (without_stop what) x a e c apart ∙ sym (disk-log w c)) ∙ nothing-behind (on_disk (node_at w c))

-- with all that is added it is the log behind the event, or nothing is added
added-all : (program : Program) (w : World) (what : What) (x : DiskOutcome) (a : After) (c : ComId) → x.found ≡ on_disk (node_at w c) → actor w what ≡ Some c → happens program w (without_stop what) x ≡ Some a →
    (would_force program w what x c ≡ []) ⊎ (on_disk (node_at w c) ++ would_force program w what x c ≡ on_disk (node_at a.world c))
added-all program w what x a c loads acts e = ⊎_elim (λ k. inl (would ∙ k)) (λ k. inr (ap (λ l. on_disk (node_at w c) ++ l) would ∙ k)) (by (node_at w c) refl (node_at a.world c) refl)
  where
    would : would_force program w what x c ≡ drop (length (on_disk (node_at w c))) (on_disk (node_at a.world c))
    would = ap (λ o. elim o [ None ↦ [] | Some a ↦ drop (length (on_disk (node_at w c))) (on_disk (node_at a.world c)) ]) e

    disk-is : (n : Node) → on_disk (Some n) ≡ forced_of n
    disk-is (Runs p) = refl
    disk-is (Serves t) = refl
    disk-is (Down log) = refl
    disk-is External = refl

    -- only the acting component loads
    load : (d : ComId) (log : List Record) → node_at w d ≡ Some (Down log) → what ≡ Recover d → x.found ≡ log
    load d log there is =
        let same : d ≡ c = same_Some d c (sym (ap (actor w) is) ∙ acts) in
        loads ∙ ap (λ o. on_disk o) (subst (λ f. node_at w f ≡ Some (Down log)) same there)

    by : (o : Option Node) → node_at w c ≡ o → (n : Option Node) → node_at a.world c ≡ n → (drop (length (on_disk o)) (on_disk n) ≡ []) ⊎ (on_disk o ++ drop (length (on_disk o)) (on_disk n) ≡ on_disk n)
    by None is n now = inr refl
    by (Some old) is None now = inl (drop-none (length (on_disk (Some old))))
    by (Some old) is (Some new) now =
        let g = event_grows program w what x a load e c old new is now in
        let whole : on_disk (Some new) ≡ on_disk (Some old) ++ g.0 = disk-is new ∙ g.1 ∙ ap (λ l. l ++ g.0) (sym (disk-is old)) in
        inr (ap (λ l. on_disk (Some old) ++ drop (length (on_disk (Some old))) l) whole ∙ ap (λ l. on_disk (Some old) ++ l) (drop_at (on_disk (Some old)) g.0 (length (on_disk (Some old))) refl) ∙ sym whole)

-- what a load would read matters to a recovery alone
abbrev finding : DiskOutcome → List Record → DiskOutcome
finding x log = record { found = log; size = x.size; free = x.free; left = x.left; is_open = x.is_open }

found-unused : (program : Program) (w : World) (x : DiskOutcome) (who d : ComId) (what : What) (answer : Answer) → asked_of what answer ≡ Some d → actor w what ≡ Some who → x.found ≡ on_disk (node_at w who) → happens program w (without_stop what) x ≡ happens program w (without_stop what) (finding x (on_disk (node_at w d)))
found-unused program w x who d (Input c handler args) answer asked acts loads = refl
found-unused program w x who d (Deliver from to) answer asked acts loads = refl
found-unused program w x who d (Lose from to) answer asked acts loads = refl
found-unused program w x who d (Numbered i) answer asked acts loads = refl
found-unused program w x who d (Force c) answer asked acts loads = refl
found-unused program w x who d (Checkpoint c) answer asked acts loads = refl
found-unused program w x who d (Resend c) answer asked acts loads = refl
found-unused program w x who d (Emit c) answer asked acts loads = refl
found-unused program w x who d (Crash c) answer asked acts loads = refl
found-unused program w x who d (Recover c) answer asked acts loads =
    ap (λ log. happens program w (without_stop (Recover c)) (finding x log)) (loads ∙ ap (λ e. on_disk (node_at w e)) (sym (same_Some c who acts) ∙ same_Some c d asked))

-- the logs that are read are sound together; the event may be one for which the log has no room, where no number passes its limit
pub images_are_sound : (program : Program) (fingerprint : List ℕ) (found : Logs) (here : ComId → ℕ) (p r : SystemState) (what : What) (x : ComId → DiskOutcome) (images : List (List ℕ)) → IsPlayable program → HasFlatParts program → HasBytes program → IsEvent program (without_stop what) → PassesNoLimit program p.world what →
    IsExplainedInBytes program found here p.world → ((c : ComId) → (x c).found ≡ on_disk (node_at p.world c)) → AreImages program p what x images → IsFound program fingerprint images r → AreSound program (forced_logs r.world)
images_are_sound program fingerprint found here p r what x images play flat bytes event within kept loads are start = sound (actor p.world what) refl
  where
    w : World
    w = p.world

    f : IsExplained program found here p.world
    f = kept.explained

    logs : Logs
    logs = forced_logs r.world

    list : IsLogList program logs
    list = subst (λ v. IsLogList program (forced_logs v)) (sym start.world) (found-list program start.logs)

    no-log : (c : ComId) → has_disk program c ≡ false → log_at logs c ≡ log_at (forced_logs w) c
    no-log c none = without-log program found here w f r.world list c none

    -- what is read of one that adds nothing
    before : (c : ComId) → would_force program w what (x c) c ≡ [] → log_at logs c ≡ log_at (forced_logs w) c
    before c none = at (has_disk program c) refl
      where
        at : (b : Bool) → has_disk program c ≡ b → log_at logs c ≡ log_at (forced_logs w) c
        at false e = no-log c e
        at true e = ⊎_elim
            (λ k. found-reads program fingerprint images r c (on_disk (node_at w c)) start e k ∙ disk-log w c)
            (λ k. found-reads program fingerprint images r c (on_disk (node_at w c) ++ would_force program w what (x c) c) start e k ∙ ap (λ l. on_disk (node_at w c) ++ l) none ∙ append-nil (on_disk (node_at w c)) ∙ disk-log w c)
            (are c e)

    all-before : ((c : ComId) → log_at logs c ≡ log_at (forced_logs w) c) → AreSound program logs
    all-before k = cut-sound program found here w f.0 f.1 logs (list.one_each ∙ sym f.1.logs.one_each.1, λ c. inl (k c))

    -- one acts, and its step is that of what it reads
    acts : (who : ComId) → actor w what ≡ Some who → (o : Option After) → happens program w (without_stop what) (x who) ≡ o → AreSound program logs
    acts who is None e = all-before (λ c. each c (same_com c who) refl)
      where
        each : (c : ComId) (b : Bool) → same_com c who ≡ b → log_at logs c ≡ log_at (forced_logs w) c
        each c false apart = before c (added-none program w what (x c) c (ap (is_com c) is ∙ apart))
        each c true same = before c (subst (λ d. would_force program w what (x d) d ≡ []) (sym (same-com c who same)) (ap (λ o. elim o [ None ↦ [] | Some a ↦ drop (length (on_disk (node_at w who))) (on_disk (node_at a.world who)) ]) e))
    acts who is (Some a) e = step (asked_of what a.trace.answer) refl
      where
        read : (c : ComId) → c ≡ who → has_disk program c ≡ true → (log_at logs c ≡ log_at (forced_logs w) c) ⊎ (log_at logs c ≡ log_at (forced_logs a.world) c)
        read c same disk = at (added-all program w what (x c) a c (loads c) (is ∙ ap (λ d. Some d) (sym same)) (ap (λ d. happens program w (without_stop what) (x d)) same ∙ e))
          where
            at : (would_force program w what (x c) c ≡ []) ⊎ (on_disk (node_at w c) ++ would_force program w what (x c) c ≡ on_disk (node_at a.world c)) → (log_at logs c ≡ log_at (forced_logs w) c) ⊎ (log_at logs c ≡ log_at (forced_logs a.world) c)
            at (inl none) = inl (before c none)
            at (inr whole) = ⊎_elim
                (λ k. inl (found-reads program fingerprint images r c (on_disk (node_at w c)) start disk k ∙ disk-log w c))
                (λ k. inr (found-reads program fingerprint images r c (on_disk (node_at w c) ++ would_force program w what (x c) c) start disk k ∙ whole ∙ disk-log a.world c))
                (are c disk)

        each : (c : ComId) (b : Bool) → same_com c who ≡ b → (log_at logs c ≡ log_at (forced_logs w) c) ⊎ (log_at logs c ≡ log_at (forced_logs a.world) c)
        each c false apart = inl (before c (added-none program w what (x c) c (ap (is_com c) is ∙ apart)))
        each c true same = at (has_disk program c) refl
          where
            at : (b : Bool) → has_disk program c ≡ b → (log_at logs c ≡ log_at (forced_logs w) c) ⊎ (log_at logs c ≡ log_at (forced_logs a.world) c)
            at false none = inl (no-log c none)
            at true disk = read c (same-com c who same) disk

        from : (y : DiskOutcome) → happens program w (without_stop what) y ≡ Some a → ((c : ComId) (log : List Record) → is_of (without_stop what) a.trace c ≡ true → node_at w c ≡ Some (Down log) → y.found ≡ log) → AreSound program logs
        from y ran reads_log =
            moments_are_sound program found here w what y a play flat event within reads_log (reads-images program found w what play bytes kept.bytes) ran f logs (record { one_each = list.one_each; each = λ c. each c (same_com c who) refl })

        step : (o : Option ComId) → asked_of what a.trace.answer ≡ o → AreSound program logs
        step None asked = from (x who) e (λ c log mine down. absurd (cc (mine, asked)))
        step (Some d) asked =
            from (finding (x who) (on_disk (node_at w d))) (sym (found-unused program w (x who) who d what a.trace.answer asked is (loads who)) ∙ e)
            (λ c log mine down. ap (λ g. on_disk (node_at w g)) (sym (same-com c d (sym (ap (is_com c) asked) ∙ mine))) ∙ ap on_disk down)

    sound : (o : Option ComId) → actor w what ≡ o → AreSound program logs
    sound None is = all-before (λ c. before c (added-none program w what (x c) c (ap (is_com c) is)))
    sound (Some who) is = acts who is (happens program w (without_stop what) (x who)) refl

pub found_at_images : FoundAtImages
found_at_images program fingerprint found here p r what x images play flat bytes event keeps fits kept loads are are_bytes start =
    let s = images_are_sound program fingerprint found here p r what x images play flat bytes event (passes-none program fingerprint p what keeps fits) kept loads are start in
    (s, (found_are_explained program fingerprint images r play start are_bytes s).0)
