-- A world that starts, and one that doesn't, behind disks that were asked.
use Rattle.std.proofs.Common.{◌≡◌, ◌∙◌, sym, ap, subst, refl, inl, inr, ℕ, suc, ◌≤◌, List, ◌++◌, take, drop, length, arith, Some, Ok, Err}
use Rattle.std.specs.Prelude.{slice_get, Result, OnOk}
use Rattle.std.proofs.lemmas.List.{append-nil, drop_all, take_all}
use Rattle.ic_base.specs.declared.limits.TheConstants.{COMPONENTS}
use Rattle.def_two.specs.declared.script.TwoWhy.{TwoWhy}
use Rattle.def_two.specs.declared.script.TwoWhy.TheVariants as starts
use Rattle.def_two.specs.CoreSteps.{IsStarted2}
use Rattle.def_two.specs.Moves.{Openings}
use Rattle.def_two.specs.Refusals.{first_not_blank}
use Rattle.ic_disk.specs.Disk.{Keeps}
use Rattle.ic_disk.specs.TornDisks.{Torn}
use Rattle.ic_disk.specs.declared.disk.Disk.{Ghosts}
use Rattle.ic_gate.specs.declared.refusals.LoadWhy.{LoadWhy}
use Rattle.ic_gate.specs.declared.refusals.LoadWhy.TheVariants as loads
use Rattle.ic_moves.specs.Networks.{empty_network}
use Rattle.ic_disk.specs.Torns.{torn}
use Rattle.ic_seat.specs.declared.seat.Seat.{Seat}
use Rattle.ic_two_world.specs.Opening.{start_why, disks_under, AllTell, files_on, AreBlank, AreKept, HasFailed, IsStartFailed, IsStartRefused2, StayBy, AreBegun, FailsToBegin, Starts2, FailsToStart2}
use Rattle.ic_two_world.specs.Views.{seats_of, openings_of, print_of, network_of, GoesOn, world_with, state_with}
use Rattle.ic_two_world.specs.declared.opening.TwoStart.{TwoStart}
use Rattle.ic_two_world.specs.declared.world.TwoWorld.{TwoWorld}
use Rattle.ic_two_world.proofs.Beginning.{begun-keeps, begun-leaves, begun-world, begun-goes, begun-state}
use Rattle.ic_two_world.proofs.Disks.{kept-trans, blank-before}
use Rattle.ic_two_world.proofs.Lists.{get-there, get-within}

-- all of a slice was written
pub whole-slice : {X : Type 0} (xs ys : List X) (len : ℕ) → len ≡ length xs → length xs ≡ length ys → take len (ys ++ drop (length ys) xs) ≡ ys
whole-slice xs ys len l same =
    ap (λ zs. take len (ys ++ zs)) (drop_all (length ys) xs (omega (arith, same))) ∙ ap (take len) (append-nil ys) ∙ take_all len ys (omega (arith, l, same))

pub on-ok-of : {T E P : Type 0} (r : Result T E) → ((e : E) → r ≡ Err e → ⊥) → OnOk r P → P
on-ok-of (Ok u) unlike p = p
on-ok-of (Err e) unlike p = absurd (unlike e refl)

module _ {D : Type 0} (b : Ghosts D) where
  -- what a disk tells it tells on
  tells-on : (olds news : List D) → AreKept b olds news → AllTell b olds → AllTell b news
  tells-on olds news kept tells k disk e =
      let z = get-there olds k (omega (arith, get-within news k disk e, kept.count)) in
      (kept.each k z.0 disk z.1 e).tells.0 (tells k z.0 z.1)

  failed-since : (given asked left : List D) → AreKept b given asked → (c : ℕ) (old new : D) → slice_get asked c ≡ Some old → slice_get left c ≡ Some new → HasFailed b old new → IsStartFailed b given left (starts.Failed c)
  failed-since given asked left kept c old new e f failed =
      let z = get-there given c (omega (arith, get-within asked c old e, kept.count)) in
      (z.0, new, z.1, f, since (kept.each c z.0 old z.1 e) failed)
    where
      since : {x : D} → Keeps b x old → HasFailed b old new → HasFailed b x new
      since k (inl rose) = inl (omega (arith, rose, k.later))
      since k (inr stopped) = inr stopped

  -- one component doesn't come up
  pub not-begun : (given asked : List D) (xs : List (Seat (Torn D) (torn b))) (refused : TwoStart D) → AreKept b given asked → AreBlank b given → FailsToBegin b asked xs refused.why → refused.disks.items ≡ disks_under xs → FailsToStart2 b given refused
  not-begun given asked xs refused kept was fails disks = record {
    why = record { refused = λ tells. by tells refused.why fails.is; failed = failed refused.why fails.failed; stay = stay refused.why fails.is };
    kept = subst (AreKept b given) (sym disks) (kept-trans b given asked (disks_under xs) kept fails.kept);
  }
    where
      by : AllTell b given → (why : TwoWhy) → (c : ℕ) × (own : LoadWhy) × (why ≡ start_why c own) → IsStartRefused2 (first_not_blank 0 (files_on b given)) why
      by tells why (c, own, is) = subst (IsStartRefused2 (first_not_blank 0 (files_on b given))) (sym is) (each own)
        where
          -- all are blank
          none : (n : ℕ) → first_not_blank 0 (files_on b given) ≡ Some (starts.NotBlank n) → c ≤ n
          none n met = let l = blank-before b given (suc n) n tells (λ j disk m at. was j disk at) met in absurd (omega (arith, l))

          each : (own : LoadWhy) → IsStartRefused2 (first_not_blank 0 (files_on b given)) (start_why c own)
          each (loads.Bad place) = none
          each (loads.Foreign kept) = none
          each loads.Failed = none
          each loads.Stopped = none
          each loads.Memory = tt

      stay : (why : TwoWhy) → (c : ℕ) × (own : LoadWhy) × (why ≡ start_why c own) → StayBy b given refused.disks.items why
      stay why (c, own, is) = subst (StayBy b given refused.disks.items) (sym is) (each own)
        where
          each : (own : LoadWhy) → StayBy b given refused.disks.items (start_why c own)
          each (loads.Bad place) = tt
          each (loads.Foreign kept) = tt
          each loads.Failed = tt
          each loads.Stopped = tt
          each loads.Memory = tt

      failed : (why : TwoWhy) → IsStartFailed b asked (disks_under xs) why → IsStartFailed b given refused.disks.items why
      failed (starts.NotBlank c) f = tt
      failed (starts.Failed c) f = subst (λ l. IsStartFailed b given l (starts.Failed c)) (sym disks) (failed-since given asked (disks_under xs) kept c f.0 f.1 f.2 f.3 f.4)
      failed starts.Memory f = tt

  -- all are up
  module _ (tells_kept : (x : D) → b.keeps x → b.tells x) (openings : Openings) (print : List ℕ) (long : length print ≡ 32) (given asked : List D) (kept : AreKept b given asked) (was : AreBlank b given) (new : TwoWorld (Torn D) (torn b))
      (count : length (seats_of new) ≡ suc (length openings)) (bounded : length (seats_of new) ≤ COMPONENTS) (begun : AreBegun b openings print asked (seats_of new)) (own : openings_of new ≡ openings) (named : print_of new ≡ print) (none : network_of new ≡ empty_network) where
    abbrev xs : List (Seat (Torn D) (torn b))
    xs = seats_of new

    all-begun : AreBegun b openings print given xs
    all-begun = record {
      kept = kept-trans b given asked (disks_under xs) kept begun.kept;
      each = λ c disk x e f.
          let z = get-there asked c (omega (arith, get-within given c disk e, kept.count)) in
          let up = begun.each c z.0 x z.1 f in
          record {
            site = up.site;
            heard = up.heard;
            stands = up.stands;
            seated = up.seated;
            fresh = λ told. up.fresh ((kept.each c disk z.0 e z.1).tells.0 told);
            leaves = λ keeps. up.leaves ((kept.each c disk z.0 e z.1).keeps.0 keeps);
          };
    }

    pub starts-all : Starts2 b openings print given new
    starts-all = record {
      world = ap (world_with xs) none ∙ begun-world b openings print long given xs tells_kept count all-begun;
      state = λ tells. subst (λ n. IsStarted2 openings print (files_on b given) (state_with xs n)) (sym none) (begun-state b openings print long given xs tells_kept count all-begun was tells);
      keeps = begun-keeps b openings print long given xs tells_kept count all-begun;
      goes_on = subst (λ o. GoesOn (torn b) o (print_of new) xs (network_of new)) (sym own) (subst (λ p. GoesOn (torn b) openings p xs (network_of new)) (sym named) (subst (λ n. GoesOn (torn b) openings print xs n) (sym none) (begun-goes b openings print long given xs tells_kept count all-begun bounded)));
      leaves = begun-leaves b openings print long given xs tells_kept count all-begun;
      kept = all-begun.kept;
      own = own;
      named = named;
    }
