-- A world that begins: its components are put on the disks, and come up one after another.
use Rattle.std.proofs.Common.{◌≡◌, ◌∙◌, sym, ap, subst, refl, ◌⊎◌, inl, inr, ℕ, zero, suc, ◌+◌, ◌<◌, ◌≤◌, true, false, List, [], ◌∷◌, ◌++◌, length, map, reverse, arith, Some, option_map}
use Rattle.std.specs.Prelude.{slice_get, slice_set, unwrap_or, Ok}
use Rattle.std.proofs.lemmas.List.{reverse-append, map-append, length-map}
use Rattle.std.proofs.lemmas.Option.{slice_get-map}
use Rattle.ic_base.specs.declared.limits.TheConstants.{COMPONENTS}
use Rattle.def_log.specs.Frame.{fingerprint_in, owner_in}
use Rattle.def_two.specs.declared.script.TwoWhy.TheVariants as starts
use Rattle.def_two.specs.Chief.{nothing_heard}
use Rattle.def_two.specs.CoreSteps.{IsStarted2}
use Rattle.def_two.specs.Moves.{Openings}
use Rattle.def_two.specs.World.{Site, first_world2}
use Rattle.law_two.proofs.Waiting.{first_world_can_settle}
use Rattle.law_two.specs.Settling.{CanSettle2}
use Rattle.law_marks.proofs.NewLogs.{fresh_print, fresh_owner}
use Rattle.law_two_run.proofs.Executing.{fresh-log}
use Rattle.def_two.specs.Logs.{log2_of}
use Rattle.ic_disk.specs.Disk.{Keeps}
use Rattle.ic_disk.specs.TornDisks.{Torn}
use Rattle.ic_disk.specs.declared.disk.Disk.{Ghosts}
use Rattle.ic_gate.specs.declared.refusals.LoadWhy.{LoadWhy}
use Rattle.ic_gate.specs.declared.refusals.LoadWhy.TheVariants as loads
use Rattle.ic_moves.specs.Networks.{empty_network}
use Rattle.ic_seat.specs.Opening.{IsOn, Starts, FailsToStart}
use Rattle.ic_seat.specs.Seats.{site_of, disk_in, is_up, Stands}
use Rattle.ic_disk.specs.Torns.{torn}
use Rattle.ic_seat.specs.declared.seat.Seat.{Seat}
use Rattle.ic_two_world.specs.Opening.{start_why, inner_in, disks_under, AllTell, AllKeep, files_on, AreBlank, AreKept, HasFailed, IsStartFailed, AreOn, IsBegun, AreBegun, LeavesFresh, FailsToBegin}
use Rattle.ic_two_world.specs.Views.{heard_at, file_in, world_with, state_with, KeepModel, AreSeated, GoesOn}
use Rattle.ic_two_world.proofs.Calling.{same-world}
use Rattle.ic_two_world.proofs.Disks.{append-twice, below, kept-self, kept-set}
use Rattle.ic_two_world.proofs.Lifting.{same-or-not, file-there}
use Rattle.ic_two_world.proofs.Lists.{none-some, some-is, get-within, get-there, none-past, get-set_same, get-set_other, map-set}

-- the disk of the component in a place
pub under-there : {D : Type 0} {d : Ghosts (Torn D)} (xs : List (Seat (Torn D) d)) (k : ℕ) (x : Seat (Torn D) d) → slice_get xs k ≡ Some x → slice_get (disks_under xs) k ≡ Some (inner_in x)
under-there xs k x e = slice_get-map inner_in xs k ∙ ap (option_map inner_in) e

-- the components are put on the disks, the first one last
module _ {D : Type 0} (b : Ghosts D) where
  pub record ArePut (all left : List D) (xs : List (Seat (Torn D) (torn b))) : Type 0 where
    pub under : disks_under xs ++ reverse left ≡ all
    pub each : (k : ℕ) (x : Seat (Torn D) (torn b)) → slice_get xs k ≡ Some x → (is_up x ≡ false) × Stands (torn b) x

  push-cases : (xs : List (Seat (Torn D) (torn b))) (x z : Seat (Torn D) (torn b)) (k : ℕ) → slice_get (xs ++ x ∷ []) k ≡ Some z → (slice_get xs k ≡ Some z) ⊎ (x ≡ z)
  push-cases [] x z zero e = inr (some-is x z e)
  push-cases [] x z (suc k) e = none-some z e
  push-cases (y ∷ ys) x z zero e = inl e
  push-cases (y ∷ ys) x z (suc k) e = push-cases ys x z k e

  pub put-step : (all was left : List D) (disk : D) (xs ys : List (Seat (Torn D) (torn b))) (x : Seat (Torn D) (torn b)) → ArePut all was xs → was ≡ left ++ disk ∷ [] → IsOn b disk x → ys ≡ xs ++ x ∷ [] → ArePut all left ys
  put-step all was left disk xs ys x so-far last on added = record {
    under =
        ap (λ l. disks_under l ++ reverse left) added ∙ ap (λ l. l ++ reverse left) (map-append inner_in xs (x ∷ [])) ∙ append-twice (disks_under xs) (inner_in x ∷ []) (reverse left)
        ∙ ap (λ d. disks_under xs ++ d ∷ reverse left) on.inner ∙ ap (λ l. disks_under xs ++ l) (sym (ap reverse last ∙ reverse-append left (disk ∷ []))) ∙ so-far.under;
    each = λ k z e. by k z (push-cases xs x z k (ap (λ l. slice_get l k) (sym added) ∙ e));
  }
    where
      by : (k : ℕ) (z : Seat (Torn D) (torn b)) → (slice_get xs k ≡ Some z) ⊎ (x ≡ z) → (is_up z ≡ false) × Stands (torn b) z
      by k z (inl old) = so-far.each k z old
      by k z (inr same) = subst (λ y. (is_up y ≡ false) × Stands (torn b) y) same (on.down, on.stands)

  -- the components before this place are up
  pub record AreComing (openings : Openings) (print : List ℕ) (disks : List D) (i : ℕ) (xs : List (Seat (Torn D) (torn b))) : Type 0 where
    pub kept : AreKept b disks (disks_under xs)
    pub up : (c : ℕ) (disk : D) (x : Seat (Torn D) (torn b)) → c < i → slice_get disks c ≡ Some disk → slice_get xs c ≡ Some x → IsBegun b openings print c disk x
    pub down : (c : ℕ) (x : Seat (Torn D) (torn b)) → i ≤ c → slice_get xs c ≡ Some x → (is_up x ≡ false) × Stands (torn b) x
    pub blank : (c : ℕ) (x : Seat (Torn D) (torn b)) → i ≤ c → slice_get xs c ≡ Some x → slice_get disks c ≡ Some (inner_in x)

  pub coming-first : (openings : Openings) (print : List ℕ) (xs : List (Seat (Torn D) (torn b))) → AreOn b (disks_under xs) xs → AreComing openings print (disks_under xs) 0 xs
  coming-first openings print xs on = record {
    kept = kept-self b (disks_under xs);
    up = λ c disk x l e f. absurd (omega (arith, l));
    down = λ c x l e. on.each c x e;
    blank = λ c x l e. under-there xs c x e;
  }

  module _ (openings : Openings) (print : List ℕ) (disks : List D) (i : ℕ) (xs : List (Seat (Torn D) (torn b))) (so-far : AreComing openings print disks i xs) (x y : Seat (Torn D) (torn b)) (at : slice_get xs i ≡ Some x)
      (disk : Keeps (torn b) (disk_in x) (disk_in y)) where
    under-keeps : Keeps b (inner_in x) (inner_in y)
    under-keeps = record { tells = disk.tells; keeps = disk.keeps; later = disk.later }

    pub coming-kept : AreKept b disks (disks_under (slice_set xs i y))
    coming-kept = subst (AreKept b disks) (sym (map-set inner_in xs i y)) (kept-set b disks (disks_under xs) i (inner_in x) (inner_in y) so-far.kept (under-there xs i x at) under-keeps)

    pub coming-step : Starts b openings i print x y → AreComing openings print disks (i + 1) (slice_set xs i y)
    coming-step new = record {
      kept = coming-kept;
      up = λ c d z l e f. by c d z l e f (same-or-not c i);
      down = λ c z l e. so-far.down c z (omega (arith, l)) (sym (get-set_other xs i c y (λ same. omega (arith, l, same))) ∙ e);
      blank = λ c z l e. so-far.blank c z (omega (arith, l)) (sym (get-set_other xs i c y (λ same. omega (arith, l, same))) ∙ e);
    }
      where
        here : (d : D) → slice_get disks i ≡ Some d → IsBegun b openings print i d y
        here d e = record {
          site = new.site;
          heard = new.heard;
          stands = new.stands;
          seated = new.seated;
          fresh = λ told. new.fresh (subst b.tells (some-is d (inner_in x) (sym e ∙ so-far.blank i x (omega arith) at)) told);
          leaves = λ keeps. new.leaves (subst b.keeps (some-is d (inner_in x) (sym e ∙ so-far.blank i x (omega arith) at)) keeps);
        }

        by : (c : ℕ) (d : D) (z : Seat (Torn D) (torn b)) → c < i + 1 → slice_get disks c ≡ Some d → slice_get (slice_set xs i y) c ≡ Some z → (c ≡ i) ⊎ (c ≡ i → ⊥) → IsBegun b openings print c d z
        by c d z l e f (inl same) =
            let is : y ≡ z = some-is y z (sym (get-set_same xs i x y at) ∙ ap (slice_get (slice_set xs i y)) (sym same) ∙ f) in
            subst (λ k. IsBegun b openings print k d z) (sym same) (subst (IsBegun b openings print i d) is (here d (ap (slice_get disks) (sym same) ∙ e)))
        by c d z l e f (inr unlike) = so-far.up c d z (below c i l unlike) e (sym (get-set_other xs i c y unlike) ∙ f)

    pub coming-refused : (why : LoadWhy) → FailsToStart b x y why → FailsToBegin b disks (slice_set xs i y) (start_why i why)
    coming-refused why fails = record { kept = coming-kept; is = (i, why, refl); failed = by why fails }
      where
        failed : HasFailed b (inner_in x) (inner_in y) → IsStartFailed b disks (disks_under (slice_set xs i y)) (starts.Failed i)
        failed f = (inner_in x, inner_in y, so-far.blank i x (omega arith) at, under-there (slice_set xs i y) i y (get-set_same xs i x y at), f)

        by : (w : LoadWhy) → FailsToStart b x y w → IsStartFailed b disks (disks_under (slice_set xs i y)) (start_why i w)
        by (loads.Bad place) f = absurd f
        by (loads.Foreign kept) f = absurd f
        by loads.Failed f = failed (inl f)
        by loads.Stopped f = failed (inr f)
        by loads.Memory f = tt

  -- the world -------------------------------------------------------------------------------------

  module _ (openings : Openings) (print : List ℕ) (long : length print ≡ 32) (disks : List D) (xs : List (Seat (Torn D) (torn b))) (tells_kept : (x : D) → b.keeps x → b.tells x) (count : length xs ≡ suc (length openings))
      (all : AreBegun b openings print disks xs) where
    disk-of : (c : ℕ) (x : Seat (Torn D) (torn b)) → slice_get xs c ≡ Some x → (disk : D) × (slice_get disks c ≡ Some disk)
    disk-of c x e = get-there disks c (omega (arith, get-within (disks_under xs) c (inner_in x) (under-there xs c x e), all.kept.count))

    keeps-inner : (c : ℕ) (x : Seat (Torn D) (torn b)) (disk : D) → slice_get xs c ≡ Some x → slice_get disks c ≡ Some disk → Keeps b disk (inner_in x)
    keeps-inner c x disk e f = all.kept.each c disk (inner_in x) f (under-there xs c x e)

    pub begun-keeps : AllKeep b disks → KeepModel xs
    begun-keeps keeps c x e = let z = disk-of c x e in (keeps-inner c x z.0 e z.1).keeps.0 (keeps c z.0 z.1)

    pub begun-leaves : AllKeep b disks → LeavesFresh b print xs
    begun-leaves keeps c x e = let z = disk-of c x e in (all.each c z.0 x z.1 e).leaves (keeps c z.0 z.1)

    pub begun-seated : AreSeated (torn b) openings print xs
    begun-seated c x e =
        let z = disk-of c x e in
        let new = all.each c z.0 x z.1 e in
        record {
          stands = new.stands;
          holds = λ keeps.
              let fresh = new.fresh ((keeps-inner c x z.0 e z.1).tells.1 (tells_kept (inner_in x) keeps)) in
              record { own = ap fingerprint_in fresh ∙ fresh_print print c long; owned = ap owner_in fresh ∙ fresh_owner print c long; holds = ap log2_of fresh ∙ fresh-log print c long ∙ ap (λ (s : Site). Ok s.log) (sym new.site) };
          seat = new.seated;
        }

    abbrev up-log : Site
    up-log = record { up = true; log = [] }

    all-up : (ys : List (Seat (Torn D) (torn b))) (os : List (List ℕ)) → length ys ≡ length os → ((k : ℕ) (y : Seat (Torn D) (torn b)) → slice_get ys k ≡ Some y → site_of y ≡ up-log) → map site_of ys ≡ map (λ (o : List ℕ). up-log) os
    all-up [] [] l same = refl
    all-up (y ∷ ys) (o ∷ os) l same = ap (λ s. s ∷ map site_of ys) (same 0 y refl) ∙ ap (λ ss. up-log ∷ ss) (all-up ys os (omega (arith, l)) (λ k. same (suc k)))
    all-up [] (o ∷ os) l same = absurd (omega (arith, l))
    all-up (y ∷ ys) [] l same = absurd (omega (arith, l))

    site-up : (c : ℕ) (x : Seat (Torn D) (torn b)) → slice_get xs c ≡ Some x → site_of x ≡ up-log
    site-up c x e = let z = disk-of c x e in (all.each c z.0 x z.1 e).site

    none-heard : (ys : List (Seat (Torn D) (torn b))) → ys ≡ xs → heard_at ys ≡ nothing_heard
    none-heard [] e = refl
    none-heard (y ∷ ys) e = let here : slice_get xs 0 ≡ Some y = ap (λ l. slice_get l 0) (sym e) in let z = disk-of 0 y here in (all.each 0 z.0 y z.1 here).heard

    pub begun-world : world_with xs empty_network ≡ first_world2 openings
    begun-world = same-world _ _ _ _ _ _ _ _ (all-up xs ([] ∷ openings) count site-up) (none-heard xs refl) refl refl

    pub begun-goes : length xs ≤ COMPONENTS → GoesOn (torn b) openings print xs empty_network
    begun-goes bounded = record {
      count = count;
      bounded = bounded;
      seated = begun-seated;
      settles = subst (CanSettle2 openings) (sym begun-world) (first_world_can_settle openings);
      few = omega arith;
      waits = omega arith;
    }

    pub begun-state : AreBlank b disks → AllTell b disks → IsStarted2 openings print (files_on b disks) (state_with xs empty_network)
    begun-state blank tells = record {
      blank = λ c l.
          let z = get-there disks c (omega (arith, l, count, all.kept.count, length-map xs inner_in)) in
          ap (λ o. unwrap_or o []) (slice_get-map (λ d. b.seen d) disks c ∙ ap (option_map (λ d. b.seen d)) z.1) ∙ blank c z.0 z.1 (tells c z.0 z.1);
      world = begun-world;
      fresh = λ c l.
          let x = get-there xs c (omega (arith, l, count)) in
          let z = disk-of c x.0 x.1 in
          file-there (torn b) xs empty_network c x.0 x.1 ∙ (all.each c z.0 x.0 z.1 x.1).fresh (tells c z.0 z.1);
      others = λ c l.
          ap (λ o. unwrap_or o []) (slice_get-map file_in xs c ∙ ap (option_map file_in) (none-past xs c (omega (arith, l, count))))
          ∙ sym (ap (λ o. unwrap_or o []) (slice_get-map (λ d. b.seen d) disks c ∙ ap (option_map (λ d. b.seen d)) (none-past disks c (omega (arith, l, count, all.kept.count, length-map xs inner_in)))));
    }
