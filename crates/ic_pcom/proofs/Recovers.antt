-- A recovery of a log is that of the component over it.
use Rattle.std.proofs.Common.{◌≡◌, refl, subst, inl, ℕ, Bool, true, false, cond, List, [], ◌∷◌, Option, Some, None}
use Rattle.std.specs.List.{AllByRecursion}
use Rattle.std.specs.Prelude.{is_some}
use Rattle.std.proofs.lemmas.Option.{option_and_then_some}
use Rattle.ic_base.specs.declared.messages.ComId.{ComId}
use Rattle.ic_base.specs.declared.record.Record.{Record}
use Rattle.ic_base.specs.declared.scenario.Program.{Program}
use Rattle.def_log.specs.Spelling.{Fits}
use Rattle.def_state.specs.Vol.{Vol, first_vol}
use Rattle.def_step.specs.Replay.{Playing, behind_checkpoint, has_image, image_in, last_image, start_at, recovered}
use Rattle.ic_disk.specs.declared.disk.Disk.{Ghosts}
use Rattle.ic_gate.specs.declared.refusals.LoadWhy.{LoadWhy}
use Rattle.ic_gate.specs.declared.refusals.LoadWhy.TheVariants.{Bad, Foreign, Failed, Stopped, Memory}
use Rattle.ic_pcom.specs.Restorations.{RefusesToRestore}
use Rattle.ic_pcom.specs.Stages.{HasPeers}
use Rattle.ic_pcom.proofs.ImagePeers.{image_peers}
use Rattle.ic_pcom.proofs.Peers.{played_peers}
use Rattle.ic_pcom.specs.Recovering.{RefusesToComeUp}

behind_fit : (rs : List Record) → AllByRecursion Fits rs → AllByRecursion Fits (behind_checkpoint rs)
behind_fit [] fit = tt
behind_fit (r ∷ rs) fit = by (has_image rs) (is_some (image_in r)) (behind_fit rs fit.1)
  where
    by : (later this : Bool) → AllByRecursion Fits (behind_checkpoint rs) → AllByRecursion Fits (cond later (behind_checkpoint rs) (cond this rs (r ∷ rs)))
    by true this behind = behind
    by false true behind = fit.1
    by false false behind = fit

start_peers : (program : Program) (c : ComId) (image : Option (List ℕ)) (v : Vol) → start_at program c image ≡ Some v → HasPeers v
start_peers program c None v e =
    let same : first_vol program c ≡ v = cc in
    subst (λ (w : Vol). HasPeers w) same refl
start_peers program c (Some image) v e = image_peers program c image v e

-- what a log's records come to has taken messages of such components alone
pub begun_peers : (program : Program) (c : ComId) (records : List Record) (x : Playing) → AllByRecursion Fits records → recovered program c records ≡ Some x → HasPeers x.vol
begun_peers program c records x fit e =
    option_and_then_some _ (start_at program c (last_image records)) x e (λ v is e.
    played_peers program c v (behind_checkpoint records) x (inl (behind_fit records fit)) (start_peers program c (last_image records) v is) e)

module _ {D : Type 0} (d : Ghosts D) where
  -- where nothing is restored, there is no component
  pub not_up : (program : Program) (c : ComId) (old : D) (given : List ℕ) (new : D) (why : LoadWhy) → RefusesToRestore d program c old given new why → RefusesToComeUp d program c old given new why
  not_up program c old given new (Bad place) refused = refused
  not_up program c old given new (Foreign kept) refused = refused
  not_up program c old given new Failed refused = refused.0
  not_up program c old given new Stopped refused = refused.0
  not_up program c old given new Memory refused = refused
