-- What an event leaves: the disk of each component is kept, and each that it isn't of is as it was.
use Rattle.std.proofs.Common.{◌≡◌, ◌∙◌, refl, sym, ap, subst, ◌⊎◌, inl, inr, ℕ, List, Option, Some, arith}
use Rattle.std.specs.Prelude.{◌≢◌, slice_get, slice_set}
use Rattle.ic_base.specs.declared.events.Stop.{Stop}
use Rattle.def_two.specs.declared.script.TwoRefused.{TwoRefused}
use Rattle.def_two.specs.Chief.{Call}
use Rattle.def_two.specs.Moves.{Openings}
use Rattle.ic_disk.specs.Disk.{Keeps}
use Rattle.ic_disk.specs.TornDisks.{Torn}
use Rattle.ic_disk.specs.Torns.{torn}
use Rattle.ic_disk.specs.declared.disk.Disk.{Ghosts}
use Rattle.ic_disk.proofs.Disks.{Keeps-refl, Keeps-trans}
use Rattle.ic_moves.specs.Networks.{Network}
use Rattle.ic_seat.specs.Seats.{disk_in}
use Rattle.ic_seat.specs.declared.seat.Seat.{Seat}
use Rattle.ic_two_world.specs.Acting.{Turns, Acts, FailsToAct, ComesUpThere, FailsToComeUp, GoesDownThere}
use Rattle.ic_two_world.specs.Views.{KeepModel, KeepsDisks}
use Rattle.ic_two_world.proofs.Lifting.{same-or-not}
use Rattle.ic_two_world.proofs.Lists.{some-is, get-there, get-within, get-set_same, get-set_other, length-set}

module _ {D : Type 0} (d : Ghosts D) where
  pub disks-self : (xs : List (Seat D d)) → KeepsDisks d xs xs
  disks-self xs = record { count = refl; each = λ c x y e f. subst (λ z. Keeps d (disk_in x) (disk_in z)) (some-is x y (sym e ∙ f)) (Keeps-refl (disk_in x)) }

  pub disks-trans : (xs ys zs : List (Seat D d)) → KeepsDisks d xs ys → KeepsDisks d ys zs → KeepsDisks d xs zs
  disks-trans xs ys zs p q = record {
    count = q.count ∙ p.count;
    each = λ c x z e f.
        let y = get-there ys c (omega (arith, get-within xs c x e, p.count)) in
        Keeps-trans (p.each c x y.0 e y.1) (q.each c y.0 z y.1 f);
  }

  pub disks-set : (xs : List (Seat D d)) (c : ℕ) (x y : Seat D d) → slice_get xs c ≡ Some x → Keeps d (disk_in x) (disk_in y) → KeepsDisks d xs (slice_set xs c y)
  disks-set xs c x y at new = record {
    count = length-set xs c y;
    each = λ k u v e f. by k u v e f (same-or-not k c);
  }
    where
      by : (k : ℕ) (u v : Seat D d) → slice_get xs k ≡ Some u → slice_get (slice_set xs c y) k ≡ Some v → (k ≡ c) ⊎ (k ≡ c → ⊥) → Keeps d (disk_in u) (disk_in v)
      by k u v e f (inl same) =
          let was : x ≡ u = some-is x u (sym at ∙ ap (slice_get xs) (sym same) ∙ e) in
          let is : y ≡ v = some-is y v (sym (get-set_same xs c x y at) ∙ ap (slice_get (slice_set xs c y)) (sym same) ∙ f) in
          subst (λ z. Keeps d (disk_in u) (disk_in z)) is (subst (λ z. Keeps d (disk_in z) (disk_in y)) was new)
      by k u v e f (inr unlike) = subst (λ z. Keeps d (disk_in u) (disk_in z)) (some-is u v (sym e ∙ sym (get-set_other xs c k y unlike) ∙ f)) (Keeps-refl (disk_in u))

  -- where the disks kept the disk model they go on keeping it
  pub disks-model : (xs ys : List (Seat D d)) → KeepsDisks d xs ys → KeepModel xs → KeepModel ys
  disks-model xs ys p keeps c y f =
      let x = get-there xs c (omega (arith, get-within ys c y f, p.count)) in
      (p.each c x.0 y x.1 f).keeps.0 (keeps c x.0 x.1)

  -- the disks are kept, and each component but this one is as it was
  pub record KeepsBut (xs : List (Seat D d)) (who : Option ℕ) (ys : List (Seat D d)) : Type 0 where
    pub disks : KeepsDisks d xs ys
    pub others : (k : ℕ) → who ≢ Some k → slice_get ys k ≡ slice_get xs k

  pub but-same : (xs : List (Seat D d)) (who : Option ℕ) (ys : List (Seat D d)) → ys ≡ xs → KeepsBut xs who ys
  but-same xs who ys e = subst (KeepsBut xs who) (sym e) (record { disks = disks-self xs; others = λ k unlike. refl })

  pub but-set : (xs : List (Seat D d)) (who : Option ℕ) (c : ℕ) (x y : Seat D d) (ys : List (Seat D d)) → who ≡ Some c → slice_get xs c ≡ Some x → Keeps d (disk_in x) (disk_in y) → ys ≡ slice_set xs c y → KeepsBut xs who ys
  but-set xs who c x y ys of-it at new e =
      subst (KeepsBut xs who) (sym e) (record {
        disks = disks-set xs c x y at new;
        others = λ k unlike. get-set_other xs c k y (λ same. unlike (of-it ∙ ap Some (sym same)));
      })

module _ {D : Type 0} (b : Ghosts D) (xs : List (Seat (Torn D) (torn b))) (who : Option ℕ) (c : ℕ) (of-it : who ≡ Some c) (ys : List (Seat (Torn D) (torn b))) where
  turned-but : Turns b xs c ys → KeepsBut (torn b) xs who ys
  turned-but t = but-set (torn b) xs who c t.before t.now ys of-it t.at t.disk t.set

  pub acted-but : (n : Network) (stop : Option Stop) (call : Call) (m : Network) → Acts b xs n c stop call ys m → KeepsBut (torn b) xs who ys
  acted-but n stop call m (inl acts) = turned-but acts.turns
  acted-but n stop call m (inr none) = but-same (torn b) xs who ys none.seats

  pub unacted-but : (n : Network) (stop : Option Stop) (call : Call) (why : TwoRefused) → FailsToAct b xs n c stop call ys why → KeepsBut (torn b) xs who ys
  unacted-but n stop call why fails = turned-but fails.turns

  pub up-but : (openings : Openings) (print : List ℕ) (stop : Option Stop) → ComesUpThere b openings print xs c stop ys → KeepsBut (torn b) xs who ys
  up-but openings print stop up = turned-but up.turns

  pub not-up-but : (openings : Openings) (print : List ℕ) (why : TwoRefused) → FailsToComeUp b openings print xs c ys why → KeepsBut (torn b) xs who ys
  not-up-but openings print why fails = turned-but fails.turns

  pub down-but : GoesDownThere b xs c ys → KeepsBut (torn b) xs who ys
  down-but g = but-set (torn b) xs who c g.before g.now ys of-it g.at (subst (Keeps (torn b) (disk_in g.before)) (sym g.gone.disk) (Keeps-refl (disk_in g.before))) g.set
