-- What a migration over the disks that were lent leaves of all disks.
use Rattle.std.proofs.Common.{◌≡◌, ◌∙◌, sym, ap, subst, refl, ℕ, suc, ◌+◌, ◌≤◌, inl, inr, List, [], ◌∷◌, ◌++◌, length, arith}
use Rattle.std.specs.Prelude.{cond, take, drop}
use Rattle.std.proofs.lemmas.List.{append-nil, take_all, drop_all}
use Rattle.ic_base.specs.declared.messages.ComId.{ComId}
use Rattle.ic_base.specs.declared.messages.Kind.{Kind}
use Rattle.ic_base.specs.declared.messages.Kind.TheVariants as kinds
use Rattle.ic_base.specs.declared.refusals.StartWhy.{StartWhy}
use Rattle.ic_base.specs.declared.refusals.StartWhy.TheVariants as starts
use Rattle.ic_base.specs.declared.scenario.Component.{Component}
use Rattle.ic_base.specs.declared.scenario.Program.{Program}
use Rattle.ic_disk.specs.declared.disk.Disk.{Ghosts}
use Rattle.ic_migrate.specs.Logged.{has_log, logged}
use Rattle.ic_migrate.specs.Migrations.{AreLeftSafe, Migrates, RefusesMigration}
use Rattle.ic_opening.specs.Disks.{EachMeets, IsOnlyRead}
use Rattle.ic_report.specs.Migrated.{migrated_lines}
use Rattle.ic_report.specs.declared.ending.Why.{Why}
use Rattle.ic_report.specs.declared.ending.Why.TheVariants.{Memory}
use Rattle.ic_run.specs.Lending.{lent, left_over, merged}
use Rattle.ic_run.specs.Whys.{why_of_start}
use Rattle.ic_run.proofs.Places.{count_outside, count_inside, lent_count, all_count, lent_enough, merged_same}
use Rattle.ic_world.specs.Opening.{is_outside, disks_in}
use Rattle.ic_call.specs.Migrating.{with_logs, KeepsDisks, MigratesAll, FailsToMigrate}

-- the components with a log are those with a disk
pub logged_count : (i : ℕ) (xs : List Component) → length (logged i xs) ≡ disks_in xs
logged_count i [] = refl
logged_count i (x ∷ xs) = by (logged_count (i + 1) xs) x.kind refl
  where
    by : length (logged (i + 1) xs) ≡ disks_in xs → (k : Kind) → x.kind ≡ k → length (logged i (x ∷ xs)) ≡ disks_in (x ∷ xs)
    by more kinds.Pcom is = ap (λ k. length (cond (has_log k) (record { 0 = i } ∷ logged (i + 1) xs) (logged (i + 1) xs))) is ∙ ap suc more ∙ sym (count_inside x xs (ap is_outside is))
    by more kinds.Tcom is = ap (λ k. length (cond (has_log k) (record { 0 = i } ∷ logged (i + 1) xs) (logged (i + 1) xs))) is ∙ ap suc more ∙ sym (count_inside x xs (ap is_outside is))
    by more kinds.Xcom is = ap (λ k. length (cond (has_log k) (record { 0 = i } ∷ logged (i + 1) xs) (logged (i + 1) xs))) is ∙ more ∙ sym (count_outside x xs (ap is_outside is))

-- a list whose elements were all written
pub rewritten : {X : Type 0} (xs ys : List X) (len : ℕ) → len ≡ length xs → length ys ≡ length xs → take len (ys ++ drop (length ys) xs) ≡ ys
rewritten xs ys len l same =
    ap (λ zs. take len (ys ++ zs)) (drop_all (length ys) xs (omega (arith, same))) ∙ ap (take len) (append-nil ys) ∙ take_all len ys (omega (arith, l, same))

module _ {D : Type 0} (xs : List Component) (disks : List D) (few : length xs ≤ length disks) where
  -- the lent disks put back behind what was done to them
  module _ (left from back : List D) (is-left : left ≡ left_over xs disks) (is-from : from ≡ lent xs disks) (same : length back ≡ length from) where
    pub lent-count : length back ≡ disks_in xs
    lent-count = same ∙ ap (λ (l : List D). length l) is-from ∙ lent_count xs disks few

    pub lent-enough : length xs ≤ length left + length back
    lent-enough =
        let enough = lent_enough xs disks few in
        let a = ap (λ (l : List D). length l) is-left in
        let b = ap (λ (l : List D). length l) is-from in
        omega (arith, enough, a, b, same)

    pub all-there : length left + length from ≡ length disks
    all-there =
        let all = all_count xs disks few in
        let a = ap (λ (l : List D). length l) is-left in
        let b = ap (λ (l : List D). length l) is-from in
        omega (arith, all, a, b)

  pub put-back : (left from now : List D) → left ≡ left_over xs disks → from ≡ lent xs disks → now ≡ merged xs left from → now ≡ disks
  put-back left from now is-left is-from is =
      let P : List D × List D → List D = λ z. merged xs z.0 z.1 in
      is ∙ ap P (λ j. (is-left j, is-from j)) ∙ merged_same xs disks few

  -- the same where the list of those that are put back was written over
  pub put-behind : (left items back now : List D) → left ≡ left_over xs disks → items ≡ back → now ≡ merged xs left items → now ≡ merged xs (left_over xs disks) back
  put-behind left items back now is-left are is =
      let P : List D × List D → List D = λ z. merged xs z.0 z.1 in
      is ∙ ap P (λ j. (is-left j, are j))

-- the new disks are as many as before
pub safe-count : {D : Type 0} (d : Ghosts D) (fingerprint : List ℕ) (coms : List ComId) (olds news now : List D) → AreLeftSafe d fingerprint coms olds news now → length now ≡ length news
safe-count d fingerprint coms olds news now (inl read) = read.long
safe-count d fingerprint coms olds news now (inr held) = held.1.2.long

module _ {D : Type 0} (d : Ghosts D) (program : Program) (fingerprint : List ℕ) (olds now_old news now : List D) where
  module _ (coms : List ComId) (from to read left : List D) (coms-are : coms ≡ with_logs program) (from-is : from ≡ lent program.components olds) (to-is : to ≡ lent program.components news) where
    pub keeps-disks : now_old ≡ merged program.components (left_over program.components olds) read → now ≡ merged program.components (left_over program.components news) left
        → EachMeets (λ i before behind. IsOnlyRead d before behind) from read → AreLeftSafe d fingerprint coms from to left → KeepsDisks d program fingerprint olds now_old news now read left
    keeps-disks old-is new-is was-read safe = record {
      old_is = old-is;
      new_is = new-is;
      read = subst (λ l. EachMeets (λ i before behind. IsOnlyRead d before behind) l read) from-is was-read;
      safe = let P : List ComId × List D × List D → Type 0 = λ z. AreLeftSafe d fingerprint z.0 z.1 z.2 left in subst P (λ j. (coms-are j, from-is j, to-is j)) safe;
    }

    pub migrates-all : KeepsDisks d program fingerprint olds now_old news now read left → (logs : List (List ℕ)) → Migrates d fingerprint coms from read to left logs → (lines : List ℕ) → lines ≡ migrated_lines program coms logs
        → MigratesAll d program fingerprint olds now_old news now lines
    migrates-all keeps logs migrates lines are = record {
      old_read = read;
      new_left = left;
      keeps = keeps;
      logs = logs;
      migrates = let P : List ComId × List D × List D → Type 0 = λ z. Migrates d fingerprint z.0 z.1 read z.2 left logs in subst P (λ j. (coms-are j, from-is j, to-is j)) migrates;
      lines_are = are ∙ ap (λ l. migrated_lines program l logs) coms-are;
    }

    pub refuses : KeepsDisks d program fingerprint olds now_old news now read left → (start : StartWhy) (why : Why) → why ≡ why_of_start fingerprint start → RefusesMigration d fingerprint coms from read to left start
        → FailsToMigrate d program fingerprint olds now_old news now why
    refuses keeps start why is refused = inr (record {
      old_read = read;
      new_left = left;
      keeps = keeps;
      start = start;
      cause = inr (is, let P : List ComId × List D × List D → Type 0 = λ z. RefusesMigration d fingerprint z.0 z.1 read z.2 left start in subst P (λ j. (coms-are j, from-is j, to-is j)) refused);
    })

    pub wants-memory : KeepsDisks d program fingerprint olds now_old news now read left → FailsToMigrate d program fingerprint olds now_old news now Memory
    wants-memory keeps = inr (record { old_read = read; new_left = left; keeps = keeps; start = starts.Memory; cause = inl refl })
