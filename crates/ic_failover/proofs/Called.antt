-- A run with a standby over the disks of a call, which are as many as a scenario may have components.
use Rattle.std.proofs.Common.{◌≡◌, ◌∙◌, sym, ap, subst, refl, ℕ, ◌≤◌, arith, List, length, Option, Some, None, inl, inr}
use Rattle.std.specs.Prelude.{Result, Ok, Err}
use Rattle.ic_base.specs.declared.events.What.{What}
use Rattle.ic_base.specs.declared.limits.TheConstants.{COMPONENTS}
use Rattle.ic_disk.specs.TornDisks.{Torn}
use Rattle.ic_disk.specs.Torns.{torn}
use Rattle.ic_disk.specs.declared.disk.Disk as disk
use Rattle.ic_disk.specs.declared.sink.Sink as sink
use Rattle.ic_failover.proofs.Coming.{through-whole, short-refused, untold-ended}
use Rattle.ic_failover.proofs.Faults.{short-fault}
use Rattle.ic_failover.proofs.Over.{all-kept}
use Rattle.ic_failover.proofs.Served.{MayServe, is-served}
use Rattle.ic_failover.proofs.Sound.{short-sound}
use Rattle.ic_failover.specs.Crashes.{CameTo, HoldAll, WasTried}
use Rattle.ic_failover.specs.Moments.{Moment}
use Rattle.ic_failover.specs.Runs.{IsDone, Runs}
use Rattle.ic_failover.specs.Serving.{Serves}
use Rattle.ic_failover.specs.Worlds.{as_texts, RunsWhole, StopsShort, RunsUntold, RunsShort, RunsOver}
use Rattle.ic_failover.specs.declared.texts.FailoverTexts.{FailoverTexts}
use Rattle.ic_report.specs.Ends.{EndsAs}
use Rattle.ic_report.specs.declared.ending.Why.{Why}
use Rattle.ic_run.proofs.Places.{merged_same, lent_merged, lent_count, all_count}
use Rattle.ic_run.proofs.Ran.{is-unopened}
use Rattle.ic_run.proofs.Whole.{KeptBack, handed-back, untried}
use Rattle.ic_run.specs.Lending.{lent, left_over, merged}
use Rattle.ic_run.specs.Runs.{HandsBack, IsFault}
use Rattle.ic_run.specs.Whys.{why_of_cut}
use Rattle.ic_run.specs.Worlds.{Opens, RunsIn}
use Rattle.ic_run.specs.declared.opening.Opening.TheVariants.{Anew}
use Rattle.ic_run.specs.declared.running.Cut.{Cut}
use Rattle.ic_run.specs.declared.running.Cut.TheVariants as cuts
use Rattle.ic_world.specs.Opening.{disks_under}
use Rattle.ic_world.specs.Views.{components_of, state_of}
use Rattle.ic_world.specs.declared.world.World.{World}

module _ {D : Type 0} (b : disk.Ghosts D) {K : Type 0} (k : sink.Ghosts K) (tool : List ℕ) (r : FailoverTexts) (disks : List D) (few : length r.program.components ≤ COMPONENTS) (all : length disks ≡ COMPONENTS) where
  pub enough : length r.program.components ≤ length disks
  enough = omega (arith, few, all)

  module _ (before mid : K) (back : List D) (result : Result Unit Why) {taken : List D} (is : taken ≡ lent r.program.components disks) (over : RunsOver b k r taken back before mid result) where
    ran : RunsOver b k r (lent r.program.components disks) back before mid result
    ran = subst (λ l. RunsOver b k r l back before mid result) is over

    pub all-back : KeptBack b k (as_texts r) Anew disks enough before back
    all-back = all-kept b k r disks enough before mid back result ran

    module _ {left now : List D} (left-is : left ≡ left_over r.program.components disks) (put : now ≡ merged r.program.components left back) where
      abbrev now-of : List D → List D
      now-of l = merged r.program.components (left_over r.program.components disks) l

      now-is : now-of back ≡ now
      now-is = sym (put ∙ ap (λ l. merged r.program.components l back) left-is)

      -- the disks of the components among those that are handed back
      lent-now : lent r.program.components now ≡ back
      lent-now =
          ap (lent r.program.components) (sym now-is)
          ∙ lent_merged r.program.components (left_over r.program.components disks) back all-back.count
          (omega (arith, all-back.count, all_count r.program.components disks enough, lent_count r.program.components disks enough, few, all))

      pub call-hands : HandsBack b r.program disks now
      call-hands = subst (λ l. HandsBack b r.program disks l) now-is (handed-back b k (as_texts r) Anew disks enough before back all-back)

      pub call-serves : MayServe r → (x : Unit) → result ≡ Ok x → Serves b k r disks before mid 0
      call-serves may x done zero tell = is-served b k r disks before mid 0 may tell back (subst (λ z. RunsOver b k r (lent r.program.components disks) back before mid z) done ran)

      -- what became of a world that was run, as it is told of a call
      module _ (may : MayServe r) (only_now : (disk : D) (image : List ℕ) → b.keeps disk → b.left_since disk (b.moment disk) image → b.may_leave disk image) (tells : (disk : D) → b.keeps disk → b.tells disk) (after : K) (old new : World (Torn D) (torn b)) (opened : Opens b Anew r.program r.fingerprint (lent r.program.components disks) old) (behind : back ≡ disks_under (components_of new)) (long : length r.fingerprint ≡ 32) where
        abbrev over-now : (Ran : World (Torn D) (torn b) → World (Torn D) (torn b) → Type 0) → Ran old new → RunsIn b k Ran (as_texts r) Anew (lent r.program.components disks) (lent r.program.components now)
        over-now Ran ran = record { old = old; new = new; opens = opened; ran = ran; back = lent-now ∙ behind; long = long }

        there : now-of (disks_under (components_of new)) ≡ now
        there = ap now-of (sym behind) ∙ now-is

        came-now : (ms : List Moment) (tried : Option What) → CameTo b k r disks (now-of (disks_under (components_of new))) before after (state_of old) ms tried → CameTo b k r disks now before after (state_of old) ms tried
        came-now ms tried came = subst (λ l. CameTo b k r disks l before after (state_of old) ms tried) there came

        holds-now : (ms : List Moment) → HoldAll b k r disks (now-of (disks_under (components_of new))) before after (state_of old) ms → HoldAll b k r disks now before after (state_of old) ms
        holds-now ms holds = subst (λ l. HoldAll b k r disks l before after (state_of old) ms) there holds

        world-done : RunsWhole k r old new before after → IsDone b k tool r disks now before after 0
        world-done w =
            let x = through-whole b only_now tells k r disks enough few may.pcom old opened before after new w.mid w.shipped w.tally w.through in
            record { ran = over-now (λ u v. RunsWhole k r u v before after) w; moments = x.moments; came = came-now x.moments None x.came; holds = holds-now x.moments x.holds; printed = x.printed }

        module _ (why : Why) (status : ℕ) (ends : EndsAs k tool (Some r.program) why mid after status) where
          call-untold : RunsUntold b k r old new before mid why → Runs b k tool r disks now before after status
          call-untold u =
              let x = untold-ended b only_now tells k r disks enough few may.pcom old opened before after new mid why u in
              inr (inr (inr (record { why = why; mid = mid; ran = over-now (λ y z. RunsUntold b k r y z before mid why) u; moments = x.moments; came = came-now x.moments None x.came; holds = holds-now x.moments x.holds; ends = ends })))

          call-cut : (cut : Cut) → why ≡ why_of_cut r.fingerprint cut → StopsShort b k r old new before mid cut → Runs b k tool r disks now before after status
          call-cut (cuts.Refused w) told s =
              let x = short-refused b only_now tells k r disks enough few may.pcom old opened before after new mid w s in
              inr (inr (inl (record {
                why = w;
                mid = mid;
                ran = over-now (λ y z. StopsShort b k r y z before mid (cuts.Refused w)) s;
                moments = x.moments;
                what = x.what;
                came = came-now x.moments (Some x.what) x.came;
                tried = subst (λ l. WasTried b k r disks l before after (state_of old) x.moments x.what) there x.tried;
                printed = x.printed;
                sound = λ tell. short-sound b k r disks few long may tell old opened before mid new w s;
                fault = subst (λ l. IsFault b disks l w) there (short-fault b k r disks enough old opened before new mid w s);
                ends = subst (λ z. EndsAs k tool (Some r.program) z mid after status) told ends;
              })))
          call-cut cuts.Print told s = call-untold (inl (told, s))
          call-cut cuts.Memory told s = call-untold (inr (inl (told, s)))

          call-ended : RunsShort b k r old new before mid why → Runs b k tool r disks now before after status
          call-ended (inl c) = call-cut c.cut c.told c.short
          call-ended (inr u) = call-untold (inr (inr u))

      module _ (may : MayServe r) (only_now : (disk : D) (image : List ℕ) → b.keeps disk → b.left_since disk (b.moment disk) image → b.may_leave disk image) (tells : (disk : D) → b.keeps disk → b.tells disk) where
        pub call-done : (x : Unit) → result ≡ Ok x → Runs b k tool r disks now before mid 0
        call-done x done =
            let y = subst (λ z. RunsOver b k r (lent r.program.components disks) back before mid z) done ran in
            inl (refl, world-done may only_now tells mid y.old y.new y.opens y.back y.long y.ran)

        pub call-short : ((disk : D) → b.keeps disk → b.may_leave disk (b.seen disk)) → (after : K) (why : Why) (status : ℕ) → result ≡ Err why → EndsAs k tool (Some r.program) why mid after status → Runs b k tool r disks now before after status
        call-short may_stay after why status short ends = by (subst (λ z. RunsOver b k r (lent r.program.components disks) back before mid z) short ran)
          where
            by : RunsOver b k r (lent r.program.components disks) back before mid (Err why) → Runs b k tool r disks now before after status
            by (inl u) =
                subst (λ l. Runs b k tool r disks l before after status) (sym (merged_same r.program.components disks enough) ∙ ap now-of (sym u.stay) ∙ now-is)
                (inr (inl (untried b k (as_texts r) Anew disks enough before tool after why status u.memory (subst (λ m. EndsAs k tool (Some r.program) why m after status) u.silent ends))))
            by (inr (inl u)) =
                subst (λ l. Runs b k tool r disks l before after status) (ap now-of (sym u.1.back) ∙ now-is) (inr (inl (is-unopened b k (as_texts r) Anew disks enough before after tool may_stay u.1.refused mid why status u.0 u.1.told u.1.fails ends)))
            by (inr (inr y)) = call-ended may only_now tells after y.old y.new y.opens y.back y.long why status ends y.ran
