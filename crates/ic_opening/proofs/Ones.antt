-- What is done to one disk, or isn't.
use Rattle.std.proofs.Common.{◌≡◌, ◌∙◌, ap, sym, refl, inl, inr, ℕ, ◌<◌, List, [], length, take, Some, arith}
use Rattle.std.specs.Prelude.{slice_get}
use Rattle.def_log.specs.Images.{LeavesJust}
use Rattle.def_log.proofs.Moments.{started}
use Rattle.def_former.specs.Opening.{unopened, IsUnopened, IsWholeOrRefused}
use Rattle.def_former.proofs.Opening.{unopened_refused}
use Rattle.ic_disk.specs.Disk.{CrashLeaves}
use Rattle.ic_disk.specs.declared.disk.Disk.{Ghosts}
use Rattle.ic_disk.proofs.Disks.{Keeps-refl, Keeps-trans, crash_weaker, crash_then}
use Rattle.ic_opening.specs.Disks.{EachMeets, IsAtRest, IsOnlyRead, IsBlank}
use Rattle.ic_opening.specs.Stages.{MayHoldPart, MayHold}
use Rattle.ic_opening.proofs.Loops.{DoneTo}
use Rattle.ic_opening.proofs.Failures.{failed_before}

module _ {D : Type 0} (d : Ghosts D) where
  -- the disk was asked, and is blank
  abbrev pub asked : ℕ → D → D → Type 0
  asked j old new = IsOnlyRead d old new × IsBlank d old new

  pub was_blank : (i : ℕ) (olds now : List D) → DoneTo asked i olds now → (j : ℕ) (x : D) → j < i → slice_get olds j ≡ Some x → d.tells x → d.seen x ≡ []
  was_blank i olds now s j x below there = let one = s.done j x below there in one.2.1.empty

module _ {D : Type 0} (d : Ghosts D) (only_now : (x : D) (image : List ℕ) → d.keeps x → d.left_since x (d.moment x) image → d.may_leave x image) (keeping_tells : (x : D) → d.keeps x → d.tells x) where
  -- nothing is done
  crash_still : (x : D) (P : List ℕ → Type 0) → (d.keeps x → (image : List ℕ) → d.may_leave x image → P image) → CrashLeaves d x x P
  crash_still x P here = record {
    any_moment = λ keeps. started d.moment d.left_since x P (λ image left. here keeps image (only_now x image keeps left));
    behind = here;
  }

  pub read_still : (x : D) → IsOnlyRead d x x
  read_still x = record { kept = Keeps-refl x; crash = crash_still x (d.may_leave x) (λ keeps image may. may); bytes = λ t. inl refl }

  pub part_still : (x : D) → (d.tells x → d.seen x ≡ []) → MayHoldPart d x x
  part_still x empty = record {
    kept = Keeps-refl x;
    crash = λ rest. crash_still x IsUnopened (λ keeps image may. inl (omega (arith, ap length (rest keeps image may ∙ empty (keeping_tells x keeps)))));
  }

  pub hold_still : (log : List ℕ) (x : D) → (d.tells x → d.seen x ≡ unopened log) → MayHold d log x x
  hold_still log x stands = record {
    kept = Keeps-refl x;
    crash = λ rest. crash_still x (IsWholeOrRefused log) (λ keeps image may. inr (unopened_refused image (inr (ap (take 1) (rest keeps image may ∙ stands (keeping_tells x keeps))))));
  }

  -- a blank disk that wasn't written stays at rest
  pub rests_on : (x y : D) → IsOnlyRead d x y → (d.tells x → d.seen x ≡ []) → (d.tells x → d.seen y ≡ []) → IsAtRest d x → IsAtRest d y
  rests_on x y read empty still rest keeps image may =
      let k = read.kept.keeps.1 keeps in
      let t = keeping_tells x k in
      rest k image (read.crash.behind k image may) ∙ empty t ∙ sym (still t)

  -- and nothing is taken for a log there
  pub blank_crash : (log : List ℕ) (x y : D) → IsOnlyRead d x y → (d.tells x → d.seen x ≡ []) → IsAtRest d x → CrashLeaves d x y (IsWholeOrRefused log)
  blank_crash log x y read empty rest =
      crash_weaker (λ keeps image may. inr (unopened_refused image (inl (omega (arith, ap length (rest keeps image may ∙ empty (keeping_tells x keeps))))))) read.crash

  -- a blank disk, on which a part of the log was written
  pub blank_then_part : (log : List ℕ) (x y z : D) → IsOnlyRead d x y → (d.tells x → d.seen x ≡ []) → (d.tells x → d.seen y ≡ []) → MayHoldPart d y z → MayHold d log x z
  blank_then_part log x y z read empty still part = record {
    kept = Keeps-trans read.kept part.kept;
    crash = λ rest.
        crash_then read.kept (blank_crash log x y read empty rest)
        (crash_weaker (λ keeps image un. inr (unopened_refused image un)) (part.crash (rests_on x y read empty still rest)));
  }

  -- one on which all but the first letter stands, and then the first letter
  pub part_then_log : (log : List ℕ) (x y z : D) → MayHold d log x y → (d.keeps x → LeavesJust (d.may_leave y) (d.seen y)) → MayHold d log y z → MayHold d log x z
  part_then_log log x y z first rest second = record {
    kept = Keeps-trans first.kept second.kept;
    crash = λ at_rest. crash_then first.kept (first.crash at_rest) (second.crash (λ keeps. rest (first.kept.keeps.1 keeps)));
  }

  -- two reads, one after the other
  pub read_then : (x y z : D) → IsOnlyRead d x y → (d.tells x → d.seen y ≡ d.seen x) → IsOnlyRead d y z → IsOnlyRead d x z
  read_then x y z first same second = record {
    kept = Keeps-trans first.kept second.kept;
    crash = crash_then first.kept first.crash (crash_weaker (λ keeps image may. first.crash.behind (first.kept.keeps.1 keeps) image may) second.crash);
    bytes = λ t. elim (second.bytes (first.kept.tells.0 t)) [ inl still ↦ inl (still ∙ same t) | inr failed ↦ inr (failed_before d x y z first.kept failed) ];
  }

  -- nothing is done to any of several disks
  pub reads_still : (xs : List D) → EachMeets (λ i. IsOnlyRead d) xs xs
  reads_still xs = record { long = refl; each = λ i x there. (x, there, read_still x) }
