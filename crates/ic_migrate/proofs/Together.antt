-- The steps of a migration, one after the other.
use Rattle.std.proofs.Common.{◌≡◌, ◌∙◌, sym, refl, ℕ, zero, suc, ◌<◌, List, [], ◌∷◌, length, Some, arith}
use Rattle.std.specs.Prelude.{slice_get}
use Rattle.std.proofs.lemmas.Option.{slice_get_within}
use Rattle.ic_base.specs.declared.messages.ComId.{ComId}
use Rattle.ic_base.specs.declared.refusals.StartWhy.{StartWhy}
use Rattle.def_log.specs.Images.{LeavesJust}
use Rattle.ic_disk.specs.Disk.{Keeps}
use Rattle.ic_disk.specs.declared.disk.Disk.{Ghosts}
use Rattle.ic_disk.proofs.Disks.{Keeps-trans}
use Rattle.ic_opening.specs.Disks.{EachMeets, IsOnlyRead, IsBlank}
use Rattle.ic_opening.specs.NewLogs.{AreNewLogs}
use Rattle.ic_opening.specs.Refusals.{IsNotWritten, AreNotWritten}
use Rattle.ic_opening.specs.Stages.{OfLog, MayHold, has_room, may_hold_part, holds_unopened, may_hold, holds, AreBlankWithRoom, AreUnopened}
use Rattle.ic_opening.proofs.Loops.{then_each, both_each, back_each}
use Rattle.ic_opening.proofs.Ones.{asked, read_then, blank_then_part, part_then_log}
use Rattle.ic_opening.proofs.Failures.{fails_before, not_written_before}
use Rattle.ic_opening.proofs.Writes.{roomy, wrote_part}
use Rattle.ic_migrate.specs.Migrations.{AreBlank}
use Rattle.ic_migrate.specs.NewLogs.{AreNewLogsOf}

is_there : {X : Type 0} (xs : List X) (i : ℕ) → i < length xs → (x : X) × (slice_get xs i ≡ Some x)
is_there [] i lt = absurd (omega (arith, lt))
is_there (x ∷ xs) zero lt = (x, refl)
is_there (x ∷ xs) (suc i) lt = is_there xs i (omega (arith, lt))

module _ {D : Type 0} (d : Ghosts D) where
  -- the logs that were made are new ones
  pub all_new : (given : List ℕ) (coms : List ComId) (olds : List D) (logs : List (List ℕ)) → length olds ≡ length coms → AreNewLogsOf d given coms olds logs → AreNewLogs logs
  all_new given coms olds logs enough are i log got =
      let lt = slice_get_within logs i log got in
      let named = is_there coms i (omega (arith, lt, are.long)) in
      let disk = is_there olds i (omega (arith, lt, are.long, enough)) in
      (are.each i named.0 disk.0 log named.1 disk.1 got).stands.new

module _ {D : Type 0} (d : Ghosts D) (only_now : (x : D) (image : List ℕ) → d.keeps x → d.left_since x (d.moment x) image → d.may_leave x image) (keeping_tells : (x : D) → d.keeps x → d.tells x) where
  -- the new disks were asked, and are blank
  module _ (xs ys : List D) (read : EachMeets (λ i. IsOnlyRead d) xs ys) (blank : EachMeets (λ i. IsBlank d) xs ys) where
    were_asked : EachMeets (asked d) xs ys
    were_asked = both_each (λ i. IsOnlyRead d) (λ i. IsBlank d) xs ys read blank

    pub are_blank : AreBlank d xs
    are_blank i x there t = let one = blank.each i x there in one.2.empty t

    -- then room was asked for
    module _ (zs : List D) (more : EachMeets (λ i. IsOnlyRead d) ys zs) where
      pub only_read : EachMeets (λ i. IsOnlyRead d) xs zs
      only_read =
          then_each (asked d) (λ i. IsOnlyRead d) (λ i. IsOnlyRead d) xs ys zs were_asked more
          (λ i x y z there p q. read_then d only_now keeping_tells x y z p.0 (λ t. p.1.still t ∙ sym (p.1.empty t)) q)

      kept_zs : EachMeets (λ i. Keeps d) xs zs
      kept_zs = record { long = only_read.long; each = λ i x there. let one = only_read.each i x there in (one.0, one.1, one.2.kept) }

      -- and is there
      module _ (logs : List (List ℕ)) (room : EachMeets (has_room d logs) ys zs) where
        roomy_zs : EachMeets (roomy d logs) ys zs
        roomy_zs = both_each (λ i. IsOnlyRead d) (has_room d logs) ys zs more room

        pub with_room : AreBlankWithRoom d logs zs
        with_room i log z got there =
            let back = back_each (roomy d logs) ys zs roomy_zs i z there in
            let first = back_each (asked d) xs ys were_asked i back.0 back.1 in
            let has = back.2.1 log got in
            (λ t. let u = back.2.0.kept.tells.1 t in has.seen u ∙ first.2.1.still (first.2.0.kept.tells.1 u), has.room)

        -- a blank disk with room
        abbrev BlankWithRoom : ℕ → D → D → Type 0
        BlankWithRoom i x z = OfLog logs i (λ log. IsOnlyRead d x z × (d.tells x → d.seen x ≡ []) × (d.tells x → d.seen z ≡ []))

        blank_with_room : EachMeets BlankWithRoom xs zs
        blank_with_room =
            then_each (asked d) (roomy d logs) BlankWithRoom xs ys zs were_asked roomy_zs
            (λ i x y z there p q log got. (
              read_then d only_now keeping_tells x y z p.0 (λ t. p.1.still t ∙ sym (p.1.empty t)) q.0,
              p.1.empty,
              λ t. (q.1 log got).seen (p.0.kept.tells.0 t) ∙ p.1.still t,
            ))

        -- then all but the first letters were written
        module _ (es : List D) (part : EachMeets (may_hold_part d logs) zs es) where
          pub safe_part : EachMeets (may_hold d logs) xs es
          safe_part =
              then_each BlankWithRoom (may_hold_part d logs) (may_hold d logs) xs zs es blank_with_room part
              (λ i x z e there p q log got. let b = p log got in blank_then_part d only_now keeping_tells log x z e b.0 b.1 b.2 q)

          pub not_part : (coms : List ComId) (why : StartWhy) → AreNotWritten d coms zs es why → AreNotWritten d coms xs es why
          not_part coms why f =
              fails_before (λ i. Keeps d) (λ c old new. IsNotWritten d c old new why) xs zs es coms kept_zs (λ i c x y z k n. not_written_before d why c x y z k n) only_read.long f

          module _ (written : EachMeets (holds_unopened d logs) zs es) where
            parts : EachMeets (wrote_part d logs) zs es
            parts = both_each (may_hold_part d logs) (holds_unopened d logs) zs es part written

            pub unopened_es : AreUnopened d logs es
            unopened_es i log e got there =
                let back = back_each (wrote_part d logs) zs es parts i e there in
                let h = back.2.1 log got in
                (λ t. h.seen (back.2.0.kept.tells.1 t), h.room)

            kept_es : EachMeets (λ i. Keeps d) xs es
            kept_es = then_each (λ i. Keeps d) (may_hold_part d logs) (λ i. Keeps d) xs zs es kept_zs part (λ i x z e there k p. Keeps-trans k p.kept)

            abbrev MayBeOpened : ℕ → D → D → Type 0
            MayBeOpened i x e = OfLog logs i (λ log. MayHold d log x e × (d.keeps x → LeavesJust (d.may_leave e) (d.seen e)))

            may_be_opened : EachMeets MayBeOpened xs es
            may_be_opened =
                then_each BlankWithRoom (wrote_part d logs) MayBeOpened xs zs es blank_with_room parts
                (λ i x z e there p q log got.
                let b = p log got in
                (blank_then_part d only_now keeping_tells log x z e b.0 b.1 b.2 q.0, λ keeps. (q.1 log got).rest (b.0.kept.keeps.0 keeps)))

            -- then the first letters
            module _ (fs : List D) (may : EachMeets (may_hold d logs) es fs) where
              pub safe : EachMeets (may_hold d logs) xs fs
              safe =
                  then_each MayBeOpened (may_hold d logs) (may_hold d logs) xs es fs may_be_opened may
                  (λ i x e f there p q log got. let m = p log got in part_then_log d only_now keeping_tells log x e f m.0 m.1 (q log got))

              pub not_written : (coms : List ComId) (why : StartWhy) → AreNotWritten d coms es fs why → AreNotWritten d coms xs fs why
              not_written coms why f =
                  fails_before (λ i. Keeps d) (λ c old new. IsNotWritten d c old new why) xs es fs coms kept_es (λ i c x y z k n. not_written_before d why c x y z k n) kept_es.long f

              pub stand : EachMeets (holds d logs) es fs → EachMeets (holds d logs) xs fs
              stand last =
                  then_each (λ i. Keeps d) (holds d logs) (holds d logs) xs es fs kept_es last
                  (λ i x e f there k h log got. let s = h log got in record { seen = λ t. s.seen (k.tells.0 t); rest = λ keeps. s.rest (k.keeps.0 keeps) })
