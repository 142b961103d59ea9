-- The log of a component behind a stop: its disk is switched on, and the log loaded once.
use Rattle.std.proofs.Common.{◌≡◌, ◌∙◌, sym, ap, subst, ◌⊎◌, inr, ℕ, ◌≤◌, false, List, [], arith}
use Rattle.std.specs.Prelude.{Result, Ok, Err, IfOk, IfErr}
use Rattle.ic_base.specs.declared.record.Record.{Record}
use Rattle.def_log.specs.Frame.{fingerprint_in, owner_in, IsForeign}
use Rattle.def_log.specs.Images.{LeavesOnly}
use Rattle.def_log.specs.Loads.{placed_log_for}
use Rattle.def_log.specs.Log.{log_of}
use Rattle.def_log.specs.Torn.{Write, all_written}
use Rattle.def_log.proofs.Moments.{started}
use Rattle.ic_disk.specs.Causes.{Rose}
use Rattle.ic_disk.specs.Disk.{Keeps, CrashLeaves}
use Rattle.ic_disk.specs.TornDisks.{Torn, TornBy}
use Rattle.ic_disk.specs.TornLaws.{may_none}
use Rattle.ic_disk.specs.declared.disk.Disk.{Ghosts}
use Rattle.ic_disk.proofs.Disks.{Keeps-trans, crash_weaker, crash_then}
use Rattle.ic_gate.specs.Refusals.{IsNotForeign}
use Rattle.ic_gate.specs.declared.refusals.LoadRefused.{LoadRefused}
use Rattle.ic_gate.specs.declared.refusals.LoadWhy.{LoadWhy}
use Rattle.ic_gate.specs.declared.refusals.LoadWhy.TheVariants.{Bad, Foreign, Failed, Stopped, Memory}
use Rattle.ic_node.specs.Loading.{IsLoaded, fails_to_load, FailsToLoad}
use Rattle.ic_disk.specs.Torns.{file, torn}

pub rose_before : (l m n : ℕ) → l ≤ m → Rose m n → Rose l n
rose_before l m n less rose = grind (arith, less, rose)

module _ {D : Type 0} (b : Ghosts D) where
  -- what is loaded off a disk is loaded off one that has the same bytes
  pub loaded_so : (old mid : Torn D) (given : List ℕ) (owner : ℕ) (loaded : Torn D × List Record) → (b.tells old.inner → b.tells mid.inner) → (b.tells old.inner → file b mid ≡ file b old) → IsLoaded b mid given owner loaded → IsLoaded b old given owner loaded
  loaded_so old mid given owner loaded told same is = record {
    read = λ h. ap log_of (sym (same h)) ∙ is.read (told h);
    bytes = λ h. is.bytes (told h) ∙ same h;
    own = λ h. ap fingerprint_in (sym (same h)) ∙ is.own (told h);
    owned = λ h. ap owner_in (sym (same h)) ∙ is.owned (told h);
    works = is.works;
    settled = is.settled;
    durable = is.durable;
  }

  pub refused_so : (old mid : Torn D) (given : List ℕ) (owner : ℕ) (refused : LoadRefused (Torn D)) → Keeps (torn b) old mid → (b.tells old.inner → file b mid ≡ file b old) → FailsToLoad b mid given owner refused → FailsToLoad b old given owner refused
  refused_so old mid given owner refused kept same fails = by refused.why fails
    where
      by : (why : LoadWhy) → fails_to_load b mid given owner refused.disk why → fails_to_load b old given owner refused.disk why
      by (Bad place) bad = λ h. (ap (placed_log_for owner) (sym (same h)) ∙ (bad (kept.tells.0 h)).0, subst (λ (l : List ℕ). IsNotForeign given l) (same h) (bad (kept.tells.0 h)).1)
      by (Foreign print) foreign = λ h. subst (λ (l : List ℕ). IsForeign given l print) (same h) (foreign (kept.tells.0 h))
      by Failed rose = rose_before _ _ _ kept.later rose
      by Stopped below = below
      by Memory rests = rests

  -- more calls, behind which a crash leaves no more than before them
  pub crash_more : (old mid new : Torn D) → Keeps (torn b) old mid → CrashLeaves (torn b) old mid ((torn b).may_leave old) → CrashLeaves (torn b) mid new ((torn b).may_leave mid) → CrashLeaves (torn b) old new ((torn b).may_leave old)
  crash_more old mid new kept first second = crash_then kept first (crash_weaker (λ keeps image may. first.behind (kept.keeps.1 keeps) image may) second)

  module _ (old on : Torn D) (after : on ≡ record old { stopped = false; held = []; room = on.room }) (none : old.held ≡ []) where
    on_file : file b on ≡ file b old
    on_file = ap (file b) after ∙ ap (λ ws. all_written (b.seen old.inner) ws) (sym none)

    on_kept : Keeps (torn b) old on
    on_kept = subst (λ (x : Torn D). Keeps (torn b) old x) (sym after) (record { tells = (λ h. h, λ h. h); keeps = (λ h. h, λ h. h); later = omega arith })

    no_more : (image : List ℕ) → (torn b).may_leave on image → (torn b).may_leave old image
    no_more image may =
        let one = subst (λ (x : Torn D). (torn b).may_leave x image) after may in
        subst (λ (ws : List Write). (image ≡ all_written (b.seen old.inner) ws) ⊎ TornBy ws (b.may_leave old.inner) image) (sym none) one

    same_left : (new : Torn D) (P : List ℕ → Type 0) → LeavesOnly (torn b).moment (torn b).left_since (record old { stopped = false; held = []; room = on.room }) new P → LeavesOnly (torn b).moment (torn b).left_since old new P
    same_left new P l = record { later = l.later; each = l.each; earlier = l.earlier }

    same_crash : (new : Torn D) (P : List ℕ → Type 0) → CrashLeaves (torn b) (record old { stopped = false; held = []; room = on.room }) new P → CrashLeaves (torn b) old new P
    same_crash new P c = record { any_moment = λ keeps. same_left new P (c.any_moment keeps); behind = c.behind }

    pub power_loaded : (given : List ℕ) (owner : ℕ) (loaded : Torn D × List Record) → IsLoaded b on given owner loaded → IsLoaded b old given owner loaded
    power_loaded given owner loaded is = loaded_so old on given owner loaded on_kept.tells.0 (λ h. on_file) is

    pub power_refused : (given : List ℕ) (owner : ℕ) (refused : LoadRefused (Torn D)) → FailsToLoad b on given owner refused → FailsToLoad b old given owner refused
    power_refused given owner refused fails = refused_so old on given owner refused on_kept (λ h. on_file) fails

    pub power_kept : (new : Torn D) → Keeps (torn b) on new → Keeps (torn b) old new
    power_kept new kept = Keeps-trans on_kept kept

    pub power_crash : (new : Torn D) → CrashLeaves (torn b) on new ((torn b).may_leave on) → CrashLeaves (torn b) old new ((torn b).may_leave old)
    power_crash new left =
        crash_weaker (λ keeps image may. no_more image may)
        (same_crash new ((torn b).may_leave on) (subst (λ (x : Torn D). CrashLeaves (torn b) x new ((torn b).may_leave on)) after left))

    pub power_step : (given : List ℕ) (owner : ℕ) (r : Result (Torn D × List Record) (LoadRefused (Torn D))) → IfOk r (IsLoaded b on given owner) → IfOk r (IsLoaded b old given owner)
    power_step given owner (Ok loaded) is = power_loaded given owner loaded is
    power_step given owner (Err refused) is = tt

    pub power_fails : (given : List ℕ) (owner : ℕ) (r : Result (Torn D × List Record) (LoadRefused (Torn D))) → IfErr r (FailsToLoad b on given owner) → IfErr r (FailsToLoad b old given owner)
    power_fails given owner (Ok loaded) fails = tt
    power_fails given owner (Err refused) fails = power_refused given owner refused fails

  -- while nothing is done
  pub nothing_left : (only_now : (disk : D) (image : List ℕ) → b.keeps disk → b.left_since disk (b.moment disk) image → b.may_leave disk image) (x : Torn D) → CrashLeaves (torn b) x x ((torn b).may_leave x)
  nothing_left only_now x = record {
    any_moment = λ keeps. started (torn b).moment (torn b).left_since x ((torn b).may_leave x) (λ image left. inr (image, only_now x.inner image keeps left, may_none x.held image));
    behind = λ keeps image may. may;
  }

  -- the same of what a load answers
  pub step_so : (old mid : Torn D) (given : List ℕ) (owner : ℕ) (r : Result (Torn D × List Record) (LoadRefused (Torn D))) → (b.tells old.inner → b.tells mid.inner) → (b.tells old.inner → file b mid ≡ file b old) → IfOk r (IsLoaded b mid given owner) → IfOk r (IsLoaded b old given owner)
  step_so old mid given owner (Ok loaded) told same is = loaded_so old mid given owner loaded told same is
  step_so old mid given owner (Err refused) told same is = tt

  pub refusal_so : (old mid : Torn D) (given : List ℕ) (owner : ℕ) (r : Result (Torn D × List Record) (LoadRefused (Torn D))) → Keeps (torn b) old mid → (b.tells old.inner → file b mid ≡ file b old) → IfErr r (FailsToLoad b mid given owner) → IfErr r (FailsToLoad b old given owner)
  refusal_so old mid given owner (Ok loaded) kept same fails = tt
  refusal_so old mid given owner (Err refused) kept same fails = refused_so old mid given owner refused kept same fails
