-- The components that came back, with those outside, may be assembled.
use Rattle.std.proofs.Common.{◌≡◌, ◌∙◌, sym, ap, subst, refl, ℕ, true, false, inl, inr, List, arith, Option, Some, None, option_map}
use Rattle.std.specs.Prelude.{slice_get, is_some, ◌||◌}
use Rattle.std.proofs.lemmas.Option.{same_Some, slice_get_past}
use Rattle.ic_base.specs.declared.messages.ComId.{ComId}
use Rattle.ic_base.specs.declared.messages.Output.{Output}
use Rattle.ic_base.specs.declared.scenario.Component.{Component as Declared}
use Rattle.ic_base.specs.declared.scenario.Program.{Program}
use Rattle.ic_base.specs.Programs.{declares, is_pcom, is_tcom}
use Rattle.def_facts.specs.Playable.{IsPlayable}
use Rattle.def_run.specs.CoreSteps.{forced_of}
use Rattle.def_run.specs.SystemStates.{IsLog, KeepsLog, has_disk}
use Rattle.def_step.specs.Pcom.{Pcom}
use Rattle.def_step.specs.World.{Runs, External, node_at}
use Rattle.ic_disk.specs.declared.disk.Disk.{Ghosts}
use Rattle.ic_node.specs.Nodes.{read_of, told_of}
use Rattle.ic_node.specs.Views.{node_of, com_of, disk_of, file_of, is_over, Tells}
use Rattle.ic_node.specs.declared.component.Component.{Component}
use Rattle.ic_live.specs.Berthed.{berthed}
use Rattle.ic_live.specs.Ended.{AreReturned}
use Rattle.ic_live.specs.Standings.{FitsProgram}
use Rattle.ic_live.proofs.Peers.{berthed-has}
use Rattle.ic_turn.specs.declared.progress.Progress.{Progress}
use Rattle.ic_world.specs.Allowing.{is_kept, IsMadeFor}
use Rattle.ic_world.specs.Assembling.{assembled}
use Rattle.ic_world.specs.Standing.{ArePlaced as AreInPlace, HoldLogs}
use Rattle.ic_world.proofs.Lists.{get-map, none-past}
use Rattle.ic_world.proofs.Sizes.{own-log}
use Rattle.ic_joins.specs.Placing.{IsPlaced, ArePlaced}
use Rattle.ic_joins.proofs.Started.{has-kept}

module _ {D : Type 0} {d : Ghosts D} (program : Program) (print : List ℕ) (xs : List (Component D d)) (ps : List Progress) (back : AreReturned program print xs ps) (all : List (Component D d)) (placed : ArePlaced program xs all) where
  -- one that came back stands in its place
  pub inside-com : (c : ComId) (x : Component D d) (j : ℕ) → slice_get (berthed program) j ≡ Some c → slice_get xs j ≡ Some x → com_of x ≡ c
  inside-com c x j at has = same_Some (com_of x) c (sym (back.going j x has).at_place ∙ at)

  in-place : (c : ComId) (x : Component D d) → IsPlaced program xs c x → (com_of x ≡ c) × (is_over x ≡ false)
  in-place c x (inl h) = (inside-com c x h.0 h.1 h.2, (back.going h.0 x h.2).not_over)
  in-place c x (inr h) = (h.1.which, h.1.going)

  pub are-placed : AreInPlace all
  are-placed k x e = let h = in-place (record { 0 = k }) x (placed.each (record { 0 = k }) x e) in (ap (λ (c : ComId). c.0) h.0, h.1)

  kept-so : (c : ComId) (x : Component D d) → IsPlaced program xs c x → is_kept (Some (node_of x)) ≡ has_disk program c
  kept-so c x (inl h) = sym (has-kept x) ∙ (back.going h.0 x h.2).has_disk ∙ sym (berthed-has program h.0 c h.1)
  kept-so c x (inr h) = ap (λ n. is_kept (Some n)) h.1.node ∙ sym h.0

  log-so : (c : ComId) (x : Component D d) (disk : D) → disk_of x ≡ Some disk → d.tells disk → IsPlaced program xs c x → IsLog print c.0 (d.seen disk) (forced_of (Some (node_of x)))
  log-so c x disk has tells (inl h) =
      let kept : is_kept (Some (node_of x)) ≡ true = sym (has-kept x) ∙ ap is_some has in
      let told : Tells x = subst (λ (p : Option D). told_of d p) (sym has) tells in
      subst (λ p. IsLog print c.0 (read_of d p) (forced_of (Some (node_of x)))) has (own-log print c (file_of x) (node_of x) kept (subst (λ z. KeepsLog print z (file_of x) (Some (node_of x))) (inside-com c x h.0 h.1 h.2) ((back.going h.0 x h.2).logs told)))
  log-so c x disk has tells (inr h) = let e : true ≡ false = sym (ap is_some has) ∙ has-kept x ∙ ap (λ n. is_kept (Some n)) h.1.node in absurd (cc e)

  pub hold-logs : HoldLogs print all
  hold-logs k x disk e has tells = log-so (record { 0 = k }) x disk has tells (placed.each (record { 0 = k }) x e)

  pub none-declared : (c : ComId) → slice_get all c.0 ≡ None → slice_get program.components c.0 ≡ None
  none-declared c e = slice_get_past program.components c.0 (omega (arith, none-past all c.0 e, placed.count))

  kept-at : (c : ComId) (o : Option (Component D d)) → slice_get all c.0 ≡ o → is_kept (option_map (λ x. node_of x) o) ≡ has_disk program c
  kept-at c None e = sym (ap (λ (o : Option Declared). declares (λ x. is_pcom x.kind) o || declares (λ x. is_tcom x.kind) o) (none-declared c e))
  kept-at c (Some x) e = kept-so c x (placed.each c x e)

  -- what is asked of a Pcom that isn't down holds of each
  fits-so : (c : ComId) (x : Component D d) (p : Pcom) → node_of x ≡ Runs p → IsPlaced program xs c x → FitsProgram program c (node_of x)
  fits-so c x p is (inl h) = subst (λ z. FitsProgram program z (node_of x)) (inside-com c x h.0 h.1 h.2) (back.going h.0 x h.2).fits
  fits-so c x p is (inr h) = let e : External ≡ Runs p = sym h.1.node ∙ is in absurd (cc e)

  fits-at : (showings : List (ComId × Output)) (c : ComId) (p : Pcom) → node_at (assembled all showings) c ≡ Some (Runs p) → FitsProgram program c (Runs p)
  fits-at showings c p e = by (slice_get all c.0) refl (sym (get-map (λ x. node_of x) all c.0) ∙ e)
    where
      by : (o : Option (Component D d)) → slice_get all c.0 ≡ o → option_map (λ x. node_of x) (slice_get all c.0) ≡ Some (Runs p) → FitsProgram program c (Runs p)
      by None at f = absurd (let g : None ≡ Some (Runs p) = sym (ap (option_map (λ x. node_of x)) at) ∙ f in cc g)
      by (Some x) at f =
          let is : node_of x ≡ Runs p = same_Some (node_of x) (Runs p) (sym (ap (option_map (λ x. node_of x)) at) ∙ f) in
          subst (FitsProgram program c) is (fits-so c x p is (placed.each c x at))

  pub made-for : IsPlayable program → (showings : List (ComId × Output)) → IsMadeFor program (assembled all showings)
  made-for play showings = record {
    playable = play;
    kept = λ c. ap is_kept (get-map (λ x. node_of x) all c.0) ∙ kept-at c (slice_get all c.0) refl;
    represented = λ c p e. (fits-at showings c p e p refl).0;
    puts = record { packets = tt; components = λ c p e. (fits-at showings c p e p refl).1 };
  }
