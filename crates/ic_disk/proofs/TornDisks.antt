-- What a crash may leave of a disk over another one.
use Rattle.std.proofs.Common.{◌≡◌, ◌⊎◌, inl, inr, ⊎_elim, refl, sym, ap, subst, ◌∙◌, ℕ, ◌+◌, ◌-◌, ◌<◌, ◌≤◌, ◌^◌, min, List, [], ◌∷◌, ◌++◌, length, arith}
use Rattle.def_log.specs.Torn.{Write, written, all_written}
use Rattle.def_log.specs.Laws.{IsBytes}
use Rattle.def_log.proofs.Stops.{written_is_torn}
use Rattle.def_log.specs.Images.{IsTorn, TornFrom, MayLeave, Elapses}
use Rattle.ic_disk.specs.declared.disk.Disk.{Ghosts}
use Rattle.ic_disk.specs.TornDisks.{Torn, TornBy, AreReached, AreShort, need}
use Rattle.ic_disk.specs.TornLaws.{may_none}
use Rattle.ic_disk.proofs.Tears.{may_last, reached_more, short_more, need_more}
use Rattle.ic_disk.proofs.Writes.{all_written-push}

module _ {D : Type 0} (d : Ghosts D) where
  -- the bytes that a crash may leave of a disk and the writes that are held over it
  abbrev pub left_of : D → List Write → List ℕ → Type 0
  left_of inner held image = (image ≡ all_written (d.seen inner) held) ⊎ TornBy held (d.may_leave inner) image

  abbrev pub left_by : Torn D → List ℕ → Type 0
  left_by t image = left_of t.inner t.held image

  -- calls of the disk below
  pub torn_call : (old new : Torn D) (inner : D) (held : List Write) → inner ≡ old.inner → held ≡ old.held → (P : List ℕ → Type 0) (Q : D → List Write → List ℕ → Type 0) → d.keeps old.inner
      → (d.keeps inner → Elapses d.moment d.left_since d.may_leave P inner new.inner) → ((image : List ℕ) → P image → Q inner held image)
      → (d.keeps inner → ((image : List ℕ) → d.may_leave new.inner image → P image) → (image : List ℕ) → left_by new image → Q inner held image)
      → Elapses (λ (t : Torn D). d.moment t.inner) (λ (t : Torn D). d.left_since t.inner) left_by (Q old.inner old.held) old new
  torn_call old new inner held e h P Q keeps time within behind =
      let kept : d.keeps inner = subst d.keeps (sym e) keeps in
      let t = time kept in
      let S : D → List Write → Type 0 = λ i l. Elapses (λ (t : Torn D). d.moment t.inner) (λ (t : Torn D). d.left_since t.inner) left_by (Q i l) (record old { inner = i; held = l }) new in
      let here : S inner held = record {
        later = t.later;
        no_more = λ at image le left. ⊎_elim (λ was. inl was) (λ now. inr (within image now)) (t.no_more at image le left);
        kept = t.kept;
        now = behind kept t.now;
      } in
      subst (S old.inner) h (subst (λ (i : D). S i held) e here)

  -- what may be left below may be left
  pub left_below : (inner : D) (held : List Write) (image : List ℕ) → d.may_leave inner image → left_of inner held image
  left_below inner held image may = inr (image, may, may_none held image)

  -- with the same writes held over the same bytes
  pub left_still : (inner : D) (held : List Write) (now : D) (still : List Write) → still ≡ held → d.seen now ≡ d.seen inner → ((image : List ℕ) → d.may_leave now image → d.may_leave inner image)
      → (image : List ℕ) → left_of now still image → left_of inner held image
  left_still inner held now still same seen less image (inl is) = inl (is ∙ ap (λ (f : List ℕ). all_written f still) seen ∙ ap (all_written (d.seen inner)) same)
  left_still inner held now still same seen less image (inr came) = let P : List Write → Type 0 = λ l. MayLeave came.0 l image in inr (came.0, less came.0 came.1, subst P same came.2)

  -- where nothing is held
  pub left_alone : (now : D) (held : List Write) → held ≡ [] → d.may_leave now (d.seen now) → (image : List ℕ) → left_of now held image → d.may_leave now image
  left_alone now held none stays image (inl is) = subst (d.may_leave now) (sym (is ∙ ap (all_written (d.seen now)) none)) stays
  left_alone now held none stays image (inr came) =
      let P : List Write → Type 0 = λ l. MayLeave came.0 l image in
      let same : image ≡ came.0 = subst P none came.2 in
      subst (d.may_leave now) (sym same) came.1

  -- with one write more, until it is synced
  pub left_more : (inner : D) (held more : List Write) (at : ℕ) (bytes : List ℕ) → more ≡ held ++ (at, bytes) ∷ [] → (image : List ℕ) → TornBy more (d.may_leave inner) image → TornFrom at (length bytes) (left_of inner held) image
  left_more inner held more at bytes e image came =
      let P : List Write → Type 0 = λ l. MayLeave came.0 l image in
      let last = may_last held (at, bytes) came.0 image (subst P e came.2) in (last.0, inr (came.0, came.1, last.1), last.2)

  -- what a write may leave that is held
  pub write_leaves : (inner : D) (held more : List Write) (at : ℕ) (bytes : List ℕ) → more ≡ held ++ (at, bytes) ∷ [] → at ≤ length (all_written (d.seen inner) held) → IsBytes bytes → (image : List ℕ) → left_of inner more image
      → TornFrom at (length bytes) (left_of inner held) image
  write_leaves inner held more at bytes e le small image (inl is) =
      let file : List ℕ = all_written (d.seen inner) held in
      let same : image ≡ written file at bytes = is ∙ ap (all_written (d.seen inner)) e ∙ all_written-push (d.seen inner) held (at, bytes) in
      let P : List ℕ → Type 0 = IsTorn at (length bytes) file in
      (file, inl refl, subst P (sym same) (written_is_torn file bytes at le (length bytes) (omega arith) small))
  write_leaves inner held more at bytes e le small image (inr came) = left_more inner held more at bytes e image came

  -- a write more that is held
  pub more_held : (now : Torn D) (inner : D) (held more : List Write) (at : ℕ) (bytes : List ℕ) → inner ≡ now.inner → held ≡ now.held → more ≡ held ++ (at, bytes) ∷ []
      → (d.tells inner → AreReached (d.seen inner) held) × AreShort held × (need held ≤ d.spare inner)
      → (d.tells now.inner → at ≤ length (all_written (d.seen now.inner) now.held)) → at + length bytes < 2 ^ 64 → length bytes + 32 ≤ min now.room (d.spare now.inner - need now.held)
      → (d.tells inner → AreReached (d.seen inner) more) × AreShort more × (need more ≤ d.spare inner)
  more_held now inner held more at bytes e h m kept place fits room =
      let P : List Write → Type 0 = λ l. (d.tells inner → AreReached (d.seen inner) l) × AreShort l × (need l ≤ d.spare inner) in
      subst P (sym m) (
        (λ told. reached_more (d.seen inner) held (at, bytes) (kept.0 told) (omega (arith, place (subst d.tells e told), ap (λ i. length (all_written (d.seen i) held)) e, ap (λ (l : List Write). length (all_written (d.seen now.inner) l)) h))),
        short_more held (at, bytes) kept.1 fits,
        omega (arith, room, need_more held (at, bytes), kept.2, ap d.spare e, ap need h),
      )
