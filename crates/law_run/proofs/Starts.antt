-- A run over blank disks begins explained, and so does one over sound logs.
use Rattle.std.proofs.Common.{◌≡◌, refl, ◌∙◌, ap, sym, subst, ℕ, zero, suc, true, false, ◌||◌, List, [], ◌∷◌, ◌++◌, length, map, slice_get, unwrap_or, Option, Some, None, option_map, Ok, ◌≤◌, ⊎_elim, arith}
use Rattle.std.specs.Prelude.{take, IsSomeAnd}
use Rattle.std.proofs.lemmas.List.{append_assoc, length-append}
use Rattle.ic_base.specs.declared.limits.TheConstants.{LOG_BYTES}
use Rattle.ic_base.specs.declared.messages.ComId.{ComId}
use Rattle.ic_base.specs.declared.messages.Kind.{Kind}
use Rattle.ic_base.specs.declared.messages.Kind.TheVariants as kinds
use Rattle.ic_base.specs.declared.scenario.Component.{Component}
use Rattle.ic_base.specs.declared.scenario.Program.{Program}
use Rattle.ic_base.specs.declared.record.Record.{Record}
use Rattle.ic_base.specs.Programs.{declares, is_pcom, is_tcom}
use Rattle.def_log.specs.Frame.{fresh}
use Rattle.def_log.specs.Laws.{IsBytes}
use Rattle.def_log.specs.Log.{log_of}
use Rattle.law_marks.proofs.NewLogs.{fresh_log, fresh_print, fresh_owner}
use Rattle.def_step.specs.World.{World, Node, first_node, first_world, node_at}
use Rattle.def_run.specs.SystemStates.{SystemState, IsLog, KeepsLog, KeepsLogs, file_of, has_disk, file_in}
use Rattle.def_run.specs.Openings.{IsStarted, IsFound, found_node, found_nodes, found_world}
use Rattle.def_facts.specs.Logs.{Logs, log_at, IsPrefixOf}
use Rattle.def_facts.specs.Pcom.{state_after}
use Rattle.def_facts.specs.Playable.{IsPlayable}
use Rattle.def_facts.specs.Sound.{AreSound}
use Rattle.def_facts.specs.Tcom.{TcomLogFacts}
use Rattle.def_facts.specs.World.{IsExplained, IsExplainedBy, ShowingFacts, forced_of, forced_logs, whole_logs, shown_by}
use Rattle.law_found.specs.Past.{IsLogList, past_of, packets_told}
use Rattle.law_found.specs.Resumed.{down_node, down_nodes, down_world}
use Rattle.law_found.proofs.Resuming.{found_world_is_explained}
use Rattle.law_step.proofs.Nodes.{log-is}
use Rattle.law_found.proofs.First.{first_world_is_explained, node-at}
use Rattle.law_run.specs.Ends.{BeginningsAreExplained}
use Rattle.law_run.specs.Executions.{IsExplainedInBytes}
use Rattle.law_run.specs.ProgramBytes.{HasBytes}
use Rattle.law_run.specs.WorldBytes.{WorldFits}
use Rattle.law_run.proofs.WorldBytes.{first_world_fits, found_world_fits}
use Rattle.law_run.proofs.Reading.{log_fits}

-- blank disks -----------------------------------------------------------------------------------------------

fresh-log : (fingerprint : List ℕ) (owner : ℕ) → length fingerprint ≡ 32 → IsLog fingerprint owner (fresh fingerprint owner) []
fresh-log fingerprint owner long = record { own = fresh_print fingerprint owner long; owned = fresh_owner fingerprint owner long; holds = fresh_log fingerprint owner long }

pub starts_are_explained : (program : Program) (fingerprint : List ℕ) (before : List (List ℕ)) (p : SystemState) → IsPlayable program → HasBytes program → length fingerprint ≡ 32 → IsStarted program fingerprint before p → IsExplainedInBytes program [] (λ c. 0) p.world × KeepsLogs fingerprint p
starts_are_explained program fingerprint before p play bytes long start = (
  record { explained = subst (IsExplained program [] (λ c. 0)) (sym start.world) (first_world_is_explained program play); bytes = subst WorldFits (sym start.world) (first_world_fits program bytes) },
  λ c. subst (λ w. KeepsLog fingerprint c (file_of p c) (node_at w c)) (sym start.world)
      (subst (KeepsLog fingerprint c (file_of p c)) (sym (node-at program c)) (at c (slice_get program.components c.0) refl)),
)
  where
    keeps : (c : ComId) → has_disk program c ≡ true → IsLog fingerprint c.0 (file_of p c) []
    keeps c disk = subst (λ file. IsLog fingerprint c.0 file []) (sym (start.fresh c disk)) (fresh-log fingerprint c.0 long)

    by : (c : ComId) (k : Kind) → (is_pcom k || is_tcom k) ≡ has_disk program c → KeepsLog fingerprint c (file_of p c) (Some (first_node program c k))
    by c kinds.Pcom e = keeps c (sym e)
    by c kinds.Tcom e = keeps c (sym e)
    by c kinds.Xcom e = tt

    at : (c : ComId) (o : Option Component) → slice_get program.components c.0 ≡ o → KeepsLog fingerprint c (file_of p c) (option_map (λ d. first_node program c d.kind) o)
    at c None e = tt
    at c (Some d) e = by c d.kind (ap (λ o. declares (λ d. is_pcom d.kind) o || declares (λ d. is_tcom d.kind) o) (sym e))

-- found logs ------------------------------------------------------------------------------------------------

same-nodes : (xs : List Component) (logs : List (List Record)) → down_nodes xs (map forced_of (found_nodes xs logs)) ≡ found_nodes xs logs
same-nodes [] logs = refl
same-nodes (x ∷ xs) [] = ap (λ n. n ∷ down_nodes xs (map forced_of (found_nodes xs []))) (by x.kind) ∙ ap (λ l. found_node x.kind [] ∷ l) (same-nodes xs [])
  where
    by : (k : Kind) → down_node k (forced_of (found_node k [])) ≡ found_node k []
    by kinds.Pcom = refl
    by kinds.Tcom = refl
    by kinds.Xcom = refl
same-nodes (x ∷ xs) (log ∷ logs) = ap (λ n. n ∷ down_nodes xs (map forced_of (found_nodes xs logs))) (by x.kind) ∙ ap (λ l. found_node x.kind log ∷ l) (same-nodes xs logs)
  where
    by : (k : Kind) → down_node k (forced_of (found_node k log)) ≡ found_node k log
    by kinds.Pcom = refl
    by kinds.Tcom = refl
    by kinds.Xcom = refl

found-long : (xs : List Component) (logs : List (List Record)) → length (map forced_of (found_nodes xs logs)) ≡ length xs
found-long [] logs = refl
found-long (x ∷ xs) [] = ap suc (found-long xs [])
found-long (x ∷ xs) (log ∷ logs) = ap suc (found-long xs logs)

no-log : (k : Kind) (log : List Record) → is_pcom k ≡ false → is_tcom k ≡ false → forced_of (found_node k log) ≡ []
no-log kinds.Pcom log a b = absurd (cc a)
no-log kinds.Tcom log a b = absurd (cc b)
no-log kinds.Xcom log a b = refl

none-else : (xs : List Component) (logs : List (List Record)) (i : ℕ) → declares (λ d. is_pcom d.kind) (slice_get xs i) ≡ false → declares (λ d. is_tcom d.kind) (slice_get xs i) ≡ false → unwrap_or (slice_get (map forced_of (found_nodes xs logs)) i) [] ≡ []
none-else [] logs i a b = refl
none-else (x ∷ xs) [] zero a b = no-log x.kind [] a b
none-else (x ∷ xs) (log ∷ logs) zero a b = no-log x.kind log a b
none-else (x ∷ xs) [] (suc i) a b = none-else xs [] i a b
none-else (x ∷ xs) (log ∷ logs) (suc i) a b = none-else xs logs i a b

pub found-list : (program : Program) (logs : List (List Record)) → IsLogList program (forced_logs (found_world program logs))
found-list program logs = record { one_each = found-long program.components logs; others = λ c a b. none-else program.components logs c.0 a b }

pub found_are_explained : (program : Program) (fingerprint : List ℕ) (before : List (List ℕ)) (p : SystemState) → IsPlayable program → IsFound program fingerprint before p → ((c : ComId) → IsBytes (file_in before c)) → AreSound program (forced_logs p.world) → IsExplainedInBytes program (forced_logs p.world) (λ c. 0) p.world × KeepsLogs fingerprint p
found_are_explained program fingerprint before p play start are sound = (
  record {
    explained = (
      past_of (packets_told program (forced_logs p.world) sound.0),
      subst (λ u. IsExplainedBy program (forced_logs p.world) (λ c. 0) u (past_of (packets_told program (forced_logs p.world) sound.0))) same
          (found_world_is_explained program (forced_logs p.world) sound.0 play (subst (λ w. IsLogList program (forced_logs w)) (sym start.world) (found-list program start.logs)) sound.1),
    );
    bytes = subst WorldFits (sym start.world) (found_world_fits program start.logs (λ c log down. log_fits (file_in before c) log (are c)
        (ap (λ l. log_of (file_in l c)) (sym start.files) ∙ (subst (KeepsLog fingerprint c (file_of p c)) (ap (λ w. node_at w c) start.world ∙ down) (start.kept c)).holds)));
  },
  start.kept,
)
  where
    same : down_world program (forced_logs p.world) ≡ p.world
    same = ap (λ w. down_world program (forced_logs w)) start.world ∙ ap (λ l. record { nodes = l; packets = []; waiting = []; showings = [] }) (same-nodes program.components start.logs) ∙ sym start.world

-- both ------------------------------------------------------------------------------------------------------

-- of the logs that were found only their records matter
found-same : (program : Program) (a b : Logs) (here : ComId → ℕ) (w : World) → ((c : ComId) → log_at a c ≡ log_at b c) → IsExplained program a here w → IsExplained program b here w
found-same program a b here w same f = (
  f.0,
  record {
    kinds = f.1.kinds;
    logs = record {
      one_each = f.1.logs.one_each;
      found_forced = λ c. subst (λ l. IsPrefixOf l (log_at (forced_logs w) c)) (same c) (f.1.logs.found_forced c);
      forced_all = f.1.logs.forced_all;
      pcoms = f.1.logs.pcoms;
      tcoms = λ t tcom. let x = f.1.logs.tcoms t tcom in (x.0, subst (λ (l : List Record). TcomLogFacts program t (length l) (log_at (whole_logs w) t) (f.0.sent t) (f.0.received t)) (same t) x.1);
      others = f.1.logs.others;
      network = f.1.logs.network;
      in_order = f.1.logs.in_order;
      epochs_rise = f.1.logs.epochs_rise;
    };
    pcoms = f.1.pcoms;
    tcoms = f.1.tcoms;
    packets = f.1.packets;
    showings = λ c pcom. subst (λ (l : List Record). IsSomeAnd (state_after program c (f.0.received c) (log_at (forced_logs w) c)) (λ h. ShowingFacts l (log_at (forced_logs w) c) (log_at (whole_logs w) c) (here c) h (shown_by c w.showings))) (same c) (f.1.showings c pcom);
    shown_by = f.1.shown_by;
  },
)

-- over blank disks each log is empty
first-empty : (program : Program) (c : ComId) → log_at (forced_logs (first_world program)) c ≡ []
first-empty program c = log-is forced_of (first_world program) c ∙ ap (λ (o : Option Node). unwrap_or (option_map forced_of o) []) (node-at program c) ∙ at (slice_get program.components c.0)
  where
    by : (k : Kind) → forced_of (first_node program c k) ≡ []
    by kinds.Pcom = refl
    by kinds.Tcom = refl
    by kinds.Xcom = refl

    at : (o : Option Component) → unwrap_or (option_map forced_of (option_map (λ d. first_node program c d.kind) o)) [] ≡ []
    at None = refl
    at (Some d) = by d.kind

pub beginnings_are_explained : BeginningsAreExplained
beginnings_are_explained program fingerprint before p play bytes begins = ⊎_elim
    (λ y.
    let f = starts_are_explained program fingerprint before p play bytes y.0 y.1 in
    (record { explained = found-same program [] (forced_logs p.world) (λ c. 0) p.world (λ c. sym (ap (λ w. log_at (forced_logs w) c) y.1.world ∙ first-empty program c)) f.0.explained; bytes = f.0.bytes }, f.1))
    (λ y. found_are_explained program fingerprint before p play y.found y.bytes y.sound)
    begins
