-- The disks of the worlds over which lines are served.
use Rattle.std.proofs.Common.{◌≡◌, ◌∙◌, sym, subst, refl, ℕ, suc, ◌≤◌, length, List, [], ◌∷◌, Some, inl, inr, arith, map, ◌+◌, ap}
use Rattle.std.specs.Prelude.{Option, slice_get}
use Rattle.ic_base.specs.declared.limits.TheConstants.{COMPONENTS}
use Rattle.ic_base.specs.declared.refusals.StartWhy.{StartWhy}
use Rattle.ic_base.specs.declared.scenario.Program.{Program}
use Rattle.def_facts.specs.World.{forced_logs, forced_of, records_of, whole_logs}
use Rattle.def_run.specs.Openings.{BeginsSound, found_node, found_nodes, found_world}
use Rattle.def_run.specs.Reports.{log_of_node, logs_of}
use Rattle.def_step.specs.World as definition
use Rattle.def_step.specs.World.{Node, Runs, Serves, Down, External, first_node, first_nodes, first_world}
use Rattle.ic_base.specs.declared.messages.ComId.{ComId}
use Rattle.ic_base.specs.declared.messages.Kind.{Kind}
use Rattle.ic_base.specs.declared.messages.Kind.TheVariants.{Pcom, Tcom, Xcom}
use Rattle.ic_base.specs.declared.record.Record.{Record}
use Rattle.ic_base.specs.declared.scenario.Component.{Component}
use Rattle.law_client.specs.Rounds.{Stands}
use Rattle.law_run.specs.ProgramBytes.{IsFit}
use Rattle.law_run.proofs.Starts.{beginnings_are_explained}
use Rattle.ic_disk.specs.Disk.{Keeps}
use Rattle.ic_disk.specs.TornDisks.{Torn}
use Rattle.ic_disk.specs.Torns.{torn}
use Rattle.ic_disk.specs.declared.disk.Disk as disk
use Rattle.ic_run.specs.Lending.{lent, left_over, merged}
use Rattle.ic_run.specs.Running.{KeepsAll}
use Rattle.ic_run.specs.Runs.{HandsBack}
use Rattle.ic_run.proofs.Came.{hands}
use Rattle.ic_run.proofs.Places.{lent_count}
use Rattle.ic_run.proofs.Under.{all-under}
use Rattle.ic_world.specs.Opening.{IsNewWorld, disks_in, disks_under, AllKept}
use Rattle.ic_world.specs.Opening as opens
use Rattle.ic_world.specs.Views.{components_of, world_of, state_of, print_of}
use Rattle.ic_world.specs.declared.opening.StartRefused.{StartRefused}
use Rattle.ic_world.specs.declared.world.World.{World}
use Rattle.ic_world.proofs.Makings.{kept-count, kept-at, kept-all, kept-trans}
use Rattle.ic_serve.specs.Runs.{OpensFor, FailsToOpenFor}
use Rattle.ic_world.specs.Allowing.{GoesOn}
use Rattle.ic_serve.specs.declared.stretch.First.{First}
use Rattle.ic_serve.specs.declared.stretch.First.TheVariants.{Opening, Line as ALine}

-- logs of worlds in which nothing was done -----------------------------------------------------------

first-alike : (program : Program) (c : ComId) (kind : Kind) → log_of_node (first_node program c kind) ≡ forced_of (first_node program c kind)
first-alike program c Pcom = refl
first-alike program c Tcom = refl
first-alike program c Xcom = refl

found-alike : (kind : Kind) (log : List Record) → log_of_node (found_node kind log) ≡ forced_of (found_node kind log)
found-alike Pcom log = refl
found-alike Tcom log = refl
found-alike Xcom log = refl

behind-alike : (x y : List Record) (xs ys : List (List Record)) → x ≡ y → xs ≡ ys → x ∷ xs ≡ y ∷ ys
behind-alike x y xs ys first rest = ap (λ l. l ∷ xs) first ∙ ap (λ l. y ∷ l) rest

first-forced : (program : Program) (i : ℕ) (xs : List Component) → map log_of_node (first_nodes program i xs) ≡ map forced_of (first_nodes program i xs)
first-forced program i [] = refl
first-forced program i (x ∷ xs) = behind-alike _ _ _ _ (first-alike program (record { 0 = i }) x.kind) (first-forced program (i + 1) xs)

all-found : (xs : List Component) (logs : List (List Record)) → map log_of_node (found_nodes xs logs) ≡ map forced_of (found_nodes xs logs)
all-found [] logs = refl
all-found (x ∷ xs) [] = behind-alike _ _ _ _ (found-alike x.kind []) (all-found xs [])
all-found (x ∷ xs) (log ∷ logs) = behind-alike _ _ _ _ (found-alike x.kind log) (all-found xs logs)

started-forced : (program : Program) (w : definition.World) → w ≡ first_world program → logs_of w ≡ forced_logs w
started-forced program w is = let P : definition.World → Type 0 = λ w. logs_of w ≡ forced_logs w in subst P (sym is) (first-forced program 0 program.components)

found-forced : (program : Program) (logs : List (List Record)) (w : definition.World) → w ≡ found_world program logs → logs_of w ≡ forced_logs w
found-forced program logs w is = let P : definition.World → Type 0 = λ w. logs_of w ≡ forced_logs w in subst P (sym is) (all-found program.components logs)

-- the logs are those with the buffered records
whole-node : (n : Node) → log_of_node n ≡ records_of n
whole-node (Runs p) = refl
whole-node (Serves x) = refl
whole-node (Down log) = refl
whole-node External = refl

whole-nodes : (ns : List Node) → map log_of_node ns ≡ map records_of ns
whole-nodes [] = refl
whole-nodes (n ∷ ns) = behind-alike _ _ _ _ (whole-node n) (whole-nodes ns)

module _ {D : Type 0} (b : disk.Ghosts D) where
  -- each in its place
  pub all-from : (xs ys : List D) → length ys ≡ length xs → ((k : ℕ) (old new : D) → slice_get xs k ≡ Some old → slice_get ys k ≡ Some new → Keeps b old new) → AllKept b xs ys
  all-from [] [] count each = tt
  all-from [] (y ∷ ys) count each = absurd (omega (arith, count))
  all-from (x ∷ xs) [] count each = absurd (omega (arith, count))
  all-from (x ∷ xs) (y ∷ ys) count each = (each 0 x y refl refl, all-from xs ys (omega (arith, count)) (λ k old new. each (suc k) old new))

  module _ (program : Program) (print : List ℕ) where
    pub fails : {met : Option StartWhy} (disks : List D) (refused : StartRefused D) → opens.FailsToOpen b program met disks refused → AllKept b disks refused.disks.items
    fails disks refused f = all-from disks refused.disks.items f.count f.kept

    -- where none opens
    pub refused-kept : (first : First) (disks : List D) (refused : StartRefused D) → FailsToOpenFor b program print first disks refused → AllKept b disks refused.disks.items
    refused-kept Opening disks refused (inl f) = fails disks refused f.0.opens
    refused-kept Opening disks refused (inr (asked, begun, f)) = kept-trans b disks asked.disks.items refused.disks.items (fails disks asked begun.fails.opens) (fails asked.disks.items refused f)
    refused-kept (ALine line) disks refused f = absurd f

    -- where one opens, it is new, over disks that were kept
    pub opened-new : (first : First) (disks : List D) (w : World (Torn D) (torn b)) → OpensFor b program print first disks w → (given : List D) × AllKept b disks given × IsNewWorld b program print given w
    opened-new Opening disks w (inl s) = (disks, kept-all b disks, s.is_new)
    opened-new Opening disks w (inr (asked, begun, f)) = (asked.disks.items, fails disks asked begun.fails.opens, f.is_new)
    opened-new (ALine line) disks w f = (disks, kept-all b disks, f.is_new)

    -- where the run begins soundly it stands
    pub opened-stands : (first : First) (disks : List D) (w : World (Torn D) (torn b)) → OpensFor b program print first disks w → (files : List (List ℕ)) → IsFit program → BeginsSound program print files (state_of w) → Stands program (print_of w) (forced_logs (world_of w)) (state_of w)
    opened-stands first disks w o files fit begins =
        let begun = beginnings_are_explained program print files (state_of w) fit.playable fit.bytes begins in
        let P : List ℕ → Type 0 = λ q. Stands program q (forced_logs (world_of w)) (state_of w) in
        subst P (sym (opened-new first disks w o).2.is_own) (record { here = λ c. 0; explained = begun.0; keeps = begun.1 })

    -- nothing is buffered
    pub opened-forced : (first : First) (disks : List D) (w : World (Torn D) (torn b)) → OpensFor b program print first disks w → logs_of (world_of w) ≡ forced_logs (world_of w)
    opened-forced Opening disks w (inl s) = started-forced program (world_of w) s.world
    opened-forced Opening disks w (inr (asked, begun, f)) = found-forced program f.logs (world_of w) f.world
    opened-forced (ALine line) disks w f = found-forced program f.logs (world_of w) f.world

    pub opened-whole : (first : First) (disks : List D) (w : World (Torn D) (torn b)) → OpensFor b program print first disks w → forced_logs (world_of w) ≡ whole_logs (world_of w)
    opened-whole first disks w o = sym (opened-forced first disks w o) ∙ whole-nodes (world_of w).nodes

    pub opened-goes-on : (first : First) (disks : List D) (w : World (Torn D) (torn b)) → length program.components ≤ COMPONENTS → OpensFor b program print first disks w → GoesOn program w
    opened-goes-on first disks w few o = let n = (opened-new first disks w o).2 in record { few = few; made = n.made; going = n.going }

    -- those that are handed back
    pub stretch-kept : (first : First) (disks : List D) (old new : World (Torn D) (torn b)) → OpensFor b program print first disks old → KeepsAll old new → AllKept b disks (disks_under (components_of new))
    stretch-kept first disks old new o kept =
        let n = opened-new first disks old o in
        kept-trans b disks n.0 (disks_under (components_of new)) n.1 (kept-trans b n.0 (disks_under (components_of old)) (disks_under (components_of new)) n.2.disks (all-under b old new kept))

  -- those of a call
  module _ (program : Program) (disks : List D) (few : length program.components ≤ length disks) (back : List D) (kept : AllKept b (lent program.components disks) back) where
    pub back-count : length back ≡ disks_in program.components
    back-count = sym (kept-count b (lent program.components disks) back kept) ∙ lent_count program.components disks few

    pub call-hands : HandsBack b program disks (merged program.components (left_over program.components disks) back)
    call-hands = hands b program disks few back back-count (kept-at b (lent program.components disks) back kept)
