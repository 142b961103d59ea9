-- The disk at which something fails.
use Rattle.std.proofs.Common.{◌≡◌, ◌∙◌, sym, subst, inl, inr, ℕ, ◌<◌, List, length, get_or, Some, arith}
use Rattle.std.specs.Prelude.{slice_get, slice_set}
use Rattle.std.proofs.lemmas.Option.{slice_get-get_or, slice_get_within}
use Rattle.ic_base.specs.declared.messages.ComId.{ComId}
use Rattle.ic_base.specs.declared.refusals.StartWhy.{StartWhy}
use Rattle.ic_base.specs.declared.refusals.StartWhy.TheVariants.{NotBlank, Bad, Foreign, Failed, Memory}
use Rattle.ic_disk.specs.Disk.{Keeps}
use Rattle.ic_disk.specs.declared.disk.Disk.{Ghosts}
use Rattle.ic_opening.specs.Disks.{EachMeets, HasFailed}
use Rattle.ic_opening.specs.Refusals.{FailsAt, IsNotWritten}
use Rattle.ic_opening.proofs.Loops.{DoneTo, was_there, is_now, same_item}

module _ {D : Type 0} where
  pub fails_at : (P : ℕ → D → D → Type 0) (i : ℕ) (olds now : List D) (s : DoneTo P i olds now) (other new : D) (lt : i < length now) (coms : List ComId) (c : ComId) → i < length coms
      → (cause : ComId → D → D → Type 0) (none : ComId → D → Type 0) → ((j : ℕ) (c : ComId) (x : D) → j < i → slice_get coms j ≡ Some c → slice_get olds j ≡ Some x → none c x)
      → cause (get_or coms i c) (get_or now i other) new → FailsAt cause none coms olds (slice_set now i new)
  fails_at P i olds now s other new lt coms c there cause none below here = record {
    place = i;
    owner = get_or coms i c;
    old = get_or now i other;
    new = new;
    names = slice_get-get_or coms i c there;
    before = was_there P i olds now s other lt;
    behind = is_now P i olds now s other new lt;
    is = here;
    below = below;
  }

  -- a cause that shows from the disk as it was before
  pub fails_before : (P : ℕ → D → D → Type 0) (cause : ComId → D → D → Type 0) (xs ys zs : List D) (coms : List ComId) → EachMeets P xs ys → ((i : ℕ) (c : ComId) (x y z : D) → P i x y → cause c y z → cause c x z)
      → length ys ≡ length xs → FailsAt cause (λ c x. Unit {0}) coms ys zs → FailsAt cause (λ c x. Unit {0}) coms xs zs
  fails_before P cause xs ys zs coms first earlier long f =
      let x : D = get_or xs f.place f.old in
      let there : slice_get xs f.place ≡ Some x = slice_get-get_or xs f.place f.old (omega (arith, slice_get_within ys f.place f.old f.before, long)) in
      let one = first.each f.place x there in
      let same : one.0 ≡ f.old = same_item one.0 f.old (sym one.1 ∙ f.before) in
      record {
        place = f.place;
        owner = f.owner;
        old = x;
        new = f.new;
        names = f.names;
        before = there;
        behind = f.behind;
        is = earlier f.place f.owner x f.old f.new (subst (λ (y : D). P f.place x y) same one.2) f.is;
        below = λ i c z lt names at. tt;
      }

module _ {D : Type 0} (d : Ghosts D) where
  -- a disk that failed later failed
  pub failed_before : (x y z : D) → Keeps d x y → HasFailed d y z → HasFailed d x z
  failed_before x y z kept (inl rose) = inl (omega (arith, kept.later, rose))
  failed_before x y z kept (inr stopped) = inr stopped

  pub not_written_before : (why : StartWhy) (c : ComId) (x y z : D) → Keeps d x y → IsNotWritten d c y z why → IsNotWritten d c x z why
  not_written_before (NotBlank e) c x y z kept n = absurd n
  not_written_before (Bad e place) c x y z kept n = absurd n
  not_written_before (Foreign e print) c x y z kept n = absurd n
  not_written_before (Failed e) c x y z kept n = (n.0, failed_before x y z kept n.1)
  not_written_before Memory c x y z kept n = absurd n
