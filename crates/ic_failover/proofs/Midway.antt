-- What stands where the first orders of a run were carried out, over disks that tell their bytes.
use Rattle.std.proofs.Common.{◌≡◌, ◌∙◌, sym, ap, subst, ℕ, suc, ◌≤◌, List, [], ◌∷◌, ◌++◌, length, Some}
use Rattle.std.specs.Prelude.{Contains}
use Rattle.std.proofs.lemmas.List.Elements.{Contains-append_left}
use Rattle.ic_base.specs.declared.limits.TheConstants.{COMPONENTS}
use Rattle.def_failover.specs.Orders.{Side, failover}
use Rattle.def_rounds.specs.Rounds.{AreRounds, side_after}
use Rattle.def_run.specs.Openings.{IsStarted}
use Rattle.def_standby.specs.Standbys.{first_standby}
use Rattle.def_standby.specs.declared.orders.Order.{Order}
use Rattle.ic_disk.specs.TornDisks.{Torn}
use Rattle.ic_disk.specs.Torns.{torn}
use Rattle.ic_disk.specs.declared.disk.Disk as disk
use Rattle.ic_disk.specs.declared.sink.Sink as sink
use Rattle.ic_failover.proofs.Carried.{goes_behind}
use Rattle.ic_failover.proofs.Keeping.{all_keep}
use Rattle.ic_failover.proofs.Rounds.{AreRounded, all_rounded}
use Rattle.ic_failover.proofs.Served.{MayServe, may-come}
use Rattle.ic_failover.specs.Asking.{MayBeOrdered}
use Rattle.ic_failover.specs.Carrying.{Stage, CarriesAll, GoesOn, intervals_for}
use Rattle.ic_failover.specs.Serving.{rounds_pieces}
use Rattle.ic_failover.specs.Worlds.{Begins}
use Rattle.ic_failover.specs.declared.texts.FailoverTexts.{FailoverTexts}
use Rattle.ic_report.specs.Outputs.{Puts}
use Rattle.ic_run.specs.Lending.{lent}
use Rattle.ic_run.specs.Openings.{files_on, TheyTell}
use Rattle.ic_run.specs.Running.{KeepsAll}
use Rattle.ic_run.specs.Worlds.{Opens}
use Rattle.ic_run.specs.declared.opening.Opening.TheVariants.{Anew}
use Rattle.ic_world.specs.Views.{state_of, print_of, Tells}
use Rattle.ic_world.specs.declared.world.World.{World}
use Rattle.law_failover.proofs.Rounds.{Beside, rounds-beside}
use Rattle.law_failover.proofs.Serving.{first-beside}
use Rattle.law_run.proofs.HasImages.{all-has}

-- a world goes on behind orders
pub all_go : {D : Type 0} {d : disk.Ghosts D} {K : Type 0} (k : sink.Ghosts K) (r : FailoverTexts) (os : List Order) (a m : Stage d K) → CarriesAll k r os a m → GoesOn r a.world → GoesOn r m.world
all_go {D} {d} {K} k r [] a m same go = subst (λ (z : Stage d K). GoesOn r z.world) same go
all_go k r (o ∷ os) a m c go = all_go k r os c.0 m c.2 (goes_behind k r a c.0 o c.1 go)

module _ {D : Type 0} (b : disk.Ghosts D) {K : Type 0} (k : sink.Ghosts K) (r : FailoverTexts) (disks : List D) (old : World (Torn D) (torn b)) (opened : Opens b Anew r.program r.fingerprint (lent r.program.components disks) old) (before : K) (a : Stage (torn b) K) (begins : Begins r old before a) (os : List Order) (m : Stage (torn b) K) (carried : CarriesAll k r os a m) where
  pub keeps-mid : KeepsAll old m.world
  keeps-mid = subst (λ z. KeepsAll z m.world) begins.world (all_keep k r os a m carried)

  print : print_of a.world ≡ r.fingerprint
  print = ap (λ z. print_of z) begins.world ∙ opened.is_new.is_own

  pub print-mid : print_of m.world ≡ r.fingerprint
  print-mid = keeps-mid.print ∙ opened.is_new.is_own

  pub goes-mid : length r.program.components ≤ COMPONENTS → MayServe r → GoesOn r m.world
  goes-mid few may = all_go k r os a m carried (subst (λ z. GoesOn r z) (sym begins.world) (record { few = few; going = opened.is_new.going; made = opened.is_new.made; pcom = may.pcom }))

  module _ (tell : TheyTell b r.program disks) where
    tells : Tells a.world
    tells = subst (λ z. Tells z) (sym begins.world) (opened.is_new.tells tell)

    abbrev done : AreRounded k r os a m
    done = all_rounded k r os a m tells carried

    pub tells-mid : Tells m.world
    tells-mid = done.tells

    -- the lines of these orders
    pub told-mid : (pieces : List (List ℕ)) × Puts k pieces before m.out
    told-mid = let pieces : List (List ℕ) = rounds_pieces r (suc a.tally.events) os done.rounds in (pieces, subst (λ o. Puts k pieces o m.out) begins.out_is done.printed)

    started : IsStarted r.program r.fingerprint (files_on b r.program disks) (state_of a.world)
    started = subst (λ z. IsStarted r.program r.fingerprint (files_on b r.program disks) (state_of z)) (sym begins.world) (opened.state tell)

    -- the state is explained, and the standby has played the first records that are forced
    pub beside-mid : length r.fingerprint ≡ 32 → MayServe r → (rest : List Order) → r.orders.orders ≡ os ++ rest → Beside r.program r.fingerprint [] r.who (state_of m.world) m.beside.side
    beside-mid long may rest are =
        let first : Side = Some (first_standby r.program r.who) in
        let R : List ℕ → Side → Type 0 = λ f s. AreRounds (failover r.program r.who f) r.program f (intervals_for r) s (state_of a.world) os done.rounds in
        let S : List ℕ → Side → Type 0 = λ f s. side_after (failover r.program r.who f) s done.rounds ≡ m.beside.side in
        let side : a.beside.side ≡ first = ap (λ z. z.side) begins.beside in
        let rounds : R r.fingerprint first = subst (λ f. R f first) print (subst (λ s. R (print_of a.world) s) side done.are) in
        let behind : S r.fingerprint first = subst (λ f. S f first) print (subst (λ s. S (print_of a.world) s) side done.side) in
        let there = rounds-beside r.program r.fingerprint [] r.who may.fit may.pcom (intervals_for r) (state_of a.world) first os done.rounds
        (λ o h. may-come r.program o (all-has (MayBeOrdered r.program) r.orders.orders o may.orders (subst (λ l. Contains l o) (sym are) (Contains-append_left os rest o h)))) rounds
        (first-beside r.program r.who r.fingerprint (state_of a.world) (files_on b r.program disks) may.fit long started) in
        subst (λ s. Beside r.program r.fingerprint [] r.who (state_of m.world) s) behind (subst (λ p. Beside r.program r.fingerprint [] r.who p (side_after (failover r.program r.who r.fingerprint) first done.rounds)) done.state there)
