-- What device calls come to at a disk whose stop was set just before.
use Rattle.std.proofs.Common.{◌≡◌, ◌∙◌, refl, sym, ap, subst, ◌⊎◌, inl, inr, ℕ, ◌<◌, ◌≤◌, Bool, true, false, List, [], ◌∷◌, length, Option, Some, None, arith}
use Rattle.std.specs.Prelude.{not, ◌&&◌, if◌then◌else◌}
use Rattle.ic_base.specs.declared.events.Stop.{Stop}
use Rattle.def_log.specs.Torn.{Write, all_written}
use Rattle.def_log.specs.Images.{LeavesOnly}
use Rattle.ic_disk.specs.Disk.{Keeps, CrashLeaves}
use Rattle.ic_disk.specs.Stops.{Script, DeviceCall, Reaches, BreaksOff, Obeys, counted_down, was_reached, synced_after, waiting_after, image_at}
use Rattle.ic_disk.specs.TornDisks.{Torn, shown, is_reached, is_none_held}
use Rattle.ic_disk.specs.Armings.{set_by}
use Rattle.ic_disk.specs.declared.disk.Disk.{Ghosts}
use Rattle.ic_disk.specs.Torns.{torn, is_waiting, is_working}

not_waiting : (s : Script) → (b : Bool) → s.reached ≡ b → is_waiting (if b then Some s else None) ≡ true → ⊥
not_waiting s true is e = let no : not true ≡ true = ap not (sym is) ∙ e in cc
not_waiting s false is e = cc

-- a stop that is seen to wait shows that the disk doesn't stand stopped
pub running : (stopped : Bool) (o : Option Script) → is_waiting (shown stopped o) ≡ true → stopped ≡ false
running false o e = refl
running true None e = absurd (cc)
running true (Some s) e = absurd (not_waiting s s.reached refl e)

seen_as : (s t : Script) (b : Bool) → s.reached ≡ b → ◌≡◌ {A = Option Script} (if b then Some s else None) (Some t) → (s ≡ t) × (t.reached ≡ true)
seen_as s t true is e = let same : s ≡ t = cc in (same, ap (λ (x : Script). x.reached) (sym same) ∙ is)
seen_as s t false is e = absurd (cc)

-- a stop that is seen to be reached was reached
pub reached : (stopped : Bool) (o : Option Script) (t : Script) → shown stopped o ≡ Some t → t.reached ≡ true → is_reached o ≡ true
reached false None t e is = absurd (cc)
reached true None t e is = absurd (cc)
reached false (Some s) t e is = let same : s ≡ t = cc in ap (λ (x : Script). x.reached) same ∙ is
reached true (Some s) t e is = let same = (seen_as s t s.reached refl e).0 in ap (λ (x : Script). x.reached) same ∙ is

-- one that is seen not to be reached wasn't, and the disk doesn't stand stopped
pub unreached : (stopped : Bool) (o : Option Script) (t : Script) → shown stopped o ≡ Some t → t.reached ≡ false → (stopped ≡ false) × (is_reached o ≡ false)
unreached false None t e is = absurd (cc)
unreached true None t e is = absurd (cc)
unreached false (Some s) t e is = let same : s ≡ t = cc in (refl, ap (λ (x : Script). x.reached) same ∙ is)
unreached true (Some s) t e is = let both = seen_as s t s.reached refl e in let no : true ≡ false = sym both.1 ∙ is in absurd (cc)

-- nothing waits for a sync, so nothing is held
pub none_held : (writes : List Write) (below : Bool) → (is_none_held writes && below) ≡ true → writes ≡ []
none_held [] below e = refl
none_held (w ∷ writes) below e = absurd (cc)

module _ {D : Type 0} (b : Ghosts D) where
  -- the stop was set on a disk that works
  pub record IsArmed (stop : Stop) (old armed : Torn D) : Type 0 where
    pub set : armed ≡ record old { script = Some (set_by stop) }
    pub runs : old.stopped ≡ false

  pub works_runs : (old : Torn D) → is_working (torn b) old ≡ true → old.stopped ≡ false
  works_runs old e = running old.stopped old.script e

  pub shows : (stop : Stop) (old armed : Torn D) → IsArmed stop old armed → shown armed.stopped armed.script ≡ Some (set_by stop)
  shows stop old armed is =
      ap (λ (t : Torn D). shown t.stopped t.script) is.set ∙ ap (λ r. shown r (Some (set_by stop))) is.runs

  module _ (tells failed : Type 0) (calls : List DeviceCall) (stop : Stop) (old armed new : Torn D) (is : IsArmed stop old armed) where
    -- behind calls that were all made the stop wasn't reached
    pub runs_on : (bytes : List ℕ) → Obeys tells failed calls ((torn b).stop armed) true bytes ((torn b).stop new) → new.stopped ≡ false
    runs_on bytes obeys = (unreached new.stopped new.script (counted_down (length calls) (set_by stop)) (obeys.done (set_by stop) (shows stop old armed is) refl refl).script refl).0

    -- and the file has what was synced and what waits
    pub reads_on : (bytes : List ℕ) → (b.tells old.inner → tells) → Obeys tells failed calls ((torn b).stop armed) true bytes ((torn b).stop new)
        → b.tells old.inner → all_written (b.seen new.inner) new.held ≡ all_written (synced_after calls (b.seen old.inner) old.held) (waiting_after calls old.held)
    reads_on bytes told obeys t =
        let p = obeys.done (set_by stop) (shows stop old armed is) refl refl in
        let same : Torn D → List ℕ = λ x. all_written (synced_after calls (b.seen x.inner) x.held) (waiting_after calls x.held) in
        ap (λ l. all_written l new.held) (p.synced (told t)) ∙ ap (all_written (synced_after calls (b.seen armed.inner) armed.held)) (p.waiting (told t)) ∙ ap same is.set

    -- a stop is still set that wasn't reached
    pub works_on : (bytes : List ℕ) → Obeys tells failed calls ((torn b).stop armed) true bytes ((torn b).stop new) → is_working (torn b) new ≡ true
    works_on bytes obeys = ap is_waiting (obeys.done (set_by stop) (shows stop old armed is) refl refl).script

    -- one at call 0 is never reached
    pub never_reached : stop.call ≡ 0 → (bytes : List ℕ) → Obeys tells failed calls ((torn b).stop armed) false bytes ((torn b).stop new) → new.stopped ≡ false
    never_reached none bytes obeys = by (obeys.not_done (set_by stop) (shows stop old armed is) refl refl)
      where
        by : Reaches tells failed calls (set_by stop) ((torn b).stop armed) bytes ((torn b).stop new) ⊎ BreaksOff calls (set_by stop) ((torn b).stop new) → new.stopped ≡ false
        by (inl r) = absurd (omega (arith, r.first, none))
        by (inr x) = (unreached new.stopped new.script (counted_down x.made (set_by stop)) x.script refl).0

    pub later_on : (bytes : List ℕ) → Obeys tells failed calls ((torn b).stop armed) true bytes ((torn b).stop new) → 1 ≤ stop.call → length calls < stop.call
    later_on bytes obeys = (obeys.done (set_by stop) (shows stop old armed is) refl refl).later

    not_both : {A : Type 0} → is_reached new.script ≡ true → is_reached new.script ≡ false → A
    not_both here gone = let clash : true ≡ false = sym here ∙ gone in absurd (cc)

    -- a stop that was reached broke the calls off
    pub reached_one : (failed → ⊥) → is_reached new.script ≡ true → (bytes : List ℕ) → Obeys tells failed calls ((torn b).stop armed) false bytes ((torn b).stop new)
        → (1 ≤ stop.call) × (stop.call ≤ length calls) × (tells → bytes ≡ image_at stop.call calls (b.seen old.inner) old.held stop.keep stop.fill)
    reached_one no_fault hit bytes obeys = by (obeys.not_done (set_by stop) (shows stop old armed is) refl refl)
      where
        by : Reaches tells failed calls (set_by stop) ((torn b).stop armed) bytes ((torn b).stop new) ⊎ BreaksOff calls (set_by stop) ((torn b).stop new)
            → (1 ≤ stop.call) × (stop.call ≤ length calls) × (tells → bytes ≡ image_at stop.call calls (b.seen old.inner) old.held stop.keep stop.fill)
        by (inl r) = (r.first, r.within, λ t. r.image no_fault t ∙ ap (λ (x : Torn D). image_at stop.call calls (b.seen x.inner) x.held stop.keep stop.fill) is.set)
        by (inr x) = not_both hit (unreached new.stopped new.script (counted_down x.made (set_by stop)) x.script refl).1

    -- where it wasn't, the disk doesn't stand stopped by it
    pub not_stopped : (bytes : List ℕ) → is_reached new.script ≡ false → Obeys tells failed calls ((torn b).stop armed) false bytes ((torn b).stop new) → new.stopped ≡ false
    not_stopped bytes hit obeys = by (obeys.not_done (set_by stop) (shows stop old armed is) refl refl)
      where
        by : Reaches tells failed calls (set_by stop) ((torn b).stop armed) bytes ((torn b).stop new) ⊎ BreaksOff calls (set_by stop) ((torn b).stop new) → new.stopped ≡ false
        by (inl r) = not_both (reached new.stopped new.script (was_reached (set_by stop)) r.script refl) hit
        by (inr x) = (unreached new.stopped new.script (counted_down x.made (set_by stop)) x.script refl).0

  -- the same disks but for their scripts ------------------------------------------------------

  -- calls on a disk with a stop set keep the disk without it
  pub keeps_old : (s t : Option Script) (old new : Torn D) → Keeps (torn b) (record old { script = s }) new → Keeps (torn b) old (record new { script = t })
  keeps_old s t old new k = record { tells = k.tells; keeps = k.keeps; later = k.later }

  leaves_old : (s t : Option Script) (old new : Torn D) (P : List ℕ → Type 0) → LeavesOnly (torn b).moment (torn b).left_since (record old { script = s }) new P → LeavesOnly (torn b).moment (torn b).left_since old (record new { script = t }) P
  leaves_old s t old new P l = record { later = l.later; each = l.each; earlier = l.earlier }

  pub crash_old : (s t : Option Script) (old new : Torn D) (P : List ℕ → Type 0) → CrashLeaves (torn b) (record old { script = s }) new P → CrashLeaves (torn b) old (record new { script = t }) P
  crash_old s t old new P c = record { any_moment = λ keeps. leaves_old s t old new P (c.any_moment keeps); behind = c.behind }

  -- a stop that is never reached shows that the disk works
  pub works_armed : (stop : Stop) (old armed : Torn D) → IsArmed stop old armed → is_working (torn b) armed ≡ true
  works_armed stop old armed is = ap is_waiting (shows stop old armed is)

  -- what stands stopped, and not by a stop of its own, stands stopped below
  pub stopped_below : (new : Torn D) → new.stopped ≡ false → (torn b).stopped new → b.stopped new.inner
  stopped_below new clear (inl stands) = let clash : true ≡ false = sym stands ∙ clear in absurd (cc)
  stopped_below new clear (inr below) = below

  -- the same where the disks are given by equations
  pub kept_by : (x a s r : Torn D) (u v : Option Script) → a ≡ record x { script = u } → r ≡ record s { script = v } → Keeps (torn b) a s → Keeps (torn b) x r
  kept_by x a s r u v ea er k = subst (λ (y : Torn D). Keeps (torn b) x y) (sym er) (keeps_old u v x s (subst (λ (y : Torn D). Keeps (torn b) y s) ea k))

  pub crash_by : (x a s r : Torn D) (u v : Option Script) (P : List ℕ → Type 0) → a ≡ record x { script = u } → r ≡ record s { script = v } → CrashLeaves (torn b) a s P → CrashLeaves (torn b) x r P
  crash_by x a s r u v P ea er c = subst (λ (y : Torn D). CrashLeaves (torn b) x y P) (sym er) (crash_old u v x s P (subst (λ (y : Torn D). CrashLeaves (torn b) y s P) ea c))
