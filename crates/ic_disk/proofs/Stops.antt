-- How a stop that is set goes on over more calls.
use Rattle.std.proofs.Common.{◌≡◌, inl, inr, ⊎_elim, ◌∙◌, refl, sym, ap, ℕ, ◌+◌, ◌-◌, ◌<◌, ◌≤◌, Bool, true, false, List, [], ◌∷◌, ◌++◌, length, Some, length-append, arith}
use Rattle.std.specs.Prelude.{◌==◌, cond}
use Rattle.ic_base.specs.declared.events.Fill.{Fill}
use Rattle.def_log.specs.Torn.{Write, torn}
use Rattle.std.proofs.lemmas.Bool.Decides.{nat_tests}
use Rattle.ic_disk.specs.Stops.{DeviceCall, Script, StopState, counted_down, waiting_with, waiting_by, synced_by, waiting_after, synced_after, image_at, Obeys, IsSameStop}

waiting_after-append : (cs ds : List DeviceCall) (writes : List Write) → waiting_after (cs ++ ds) writes ≡ waiting_after ds (waiting_after cs writes)
waiting_after-append [] ds writes = refl
waiting_after-append (c ∷ cs) ds writes = waiting_after-append cs ds (waiting_by c writes)

synced_after-append : (cs ds : List DeviceCall) (file : List ℕ) (writes : List Write) → synced_after (cs ++ ds) file writes ≡ synced_after ds (synced_after cs file writes) (waiting_after cs writes)
synced_after-append [] ds file writes = refl
synced_after-append (c ∷ cs) ds file writes = synced_after-append cs ds (synced_by c file writes) (waiting_by c writes)

not_one : (n : ℕ) → 1 < n → (n == 1) ≡ false
not_one n more = grind (arith, nat_tests)

-- the image of a stop among the later calls, and among the earlier ones
image_at-later : (left : ℕ) (cs ds : List DeviceCall) (file : List ℕ) (writes : List Write) (keep : ℕ) (fill : Fill) → length cs < left
    → image_at left (cs ++ ds) file writes keep fill ≡ image_at (left - length cs) ds (synced_after cs file writes) (waiting_after cs writes) keep fill
image_at-later left [] ds file writes keep fill past = ap (λ n. image_at n ds file writes keep fill) (omega arith)
image_at-later left (c ∷ cs) ds file writes keep fill past =
    let other = not_one left (omega (arith, past)) in
    rw other (image_at-later (left - 1) cs ds (synced_by c file writes) (waiting_by c writes) keep fill (omega (arith, past))
    ∙ ap (λ n. image_at n ds (synced_after cs (synced_by c file writes) (waiting_by c writes)) (waiting_after cs (waiting_by c writes)) keep fill) (omega arith))

both_sides : {A : Type 0} (t : Bool) (x y z : A) → (t ≡ false → y ≡ z) → cond t x y ≡ cond t x z
both_sides true x y z e = refl
both_sides false x y z e = e refl

not_first : (left : ℕ) → 1 ≤ left → (left == 1) ≡ false → 1 ≤ left - 1
not_first left first other = grind (arith, nat_tests)

image_at-earlier : (left : ℕ) (cs ds : List DeviceCall) (file : List ℕ) (writes : List Write) (keep : ℕ) (fill : Fill) → 1 ≤ left → left ≤ length cs
    → image_at left cs file writes keep fill ≡ image_at left (cs ++ ds) file writes keep fill
image_at-earlier left [] ds file writes keep fill first within = absurd (omega (arith, first, within))
image_at-earlier left (c ∷ cs) ds file writes keep fill first within =
    both_sides (left == 1) (torn file (waiting_with c writes) keep fill) _ _
    (λ other. image_at-earlier (left - 1) cs ds (synced_by c file writes) (waiting_by c writes) keep fill (not_first left first other) (omega (arith, within)))

counted_twice : (n m : ℕ) (s : Script) → Some (counted_down m (counted_down n s)) ≡ Some (counted_down (n + m) s)
counted_twice n m s = ap (λ (left : ℕ). Some (record s { left = left })) (omega arith)

module _ (tells : Type 0) (cs ds : List DeviceCall) (old mid new : StopState) (bytes later : List ℕ) (tells_still : Type 0) (still : tells → tells_still) where
  -- all of the calls, and then more of them
  pub obeys_then : {before failed : Type 0} {ok : Bool} → Obeys tells before cs old true bytes mid → Obeys tells_still failed ds mid ok later new → Obeys tells failed (cs ++ ds) old ok later new
  obeys_then first second = record {
    unset = λ e. second.unset (first.unset e);
    over = λ s e reached. second.over s (first.over s e reached) reached;
    done = λ s e reached ok.
        let p = first.done s e reached refl in
        let q = second.done (counted_down (length cs) s) p.script reached ok in
        record {
          later = λ set. omega (arith, p.later set, q.later, length-append cs ds);
          script = q.script ∙ counted_twice (length cs) (length ds) s ∙ ap (λ n. Some (counted_down n s)) (sym (length-append cs ds));
          synced = λ t. q.synced (still t) ∙ ap (λ (f : List ℕ). synced_after ds f mid.waiting) (p.synced t) ∙ ap (synced_after ds (synced_after cs old.synced old.waiting)) (p.waiting t) ∙ sym (synced_after-append cs ds old.synced old.waiting);
          waiting = λ t. q.waiting (still t) ∙ ap (waiting_after ds) (p.waiting t) ∙ sym (waiting_after-append cs ds old.waiting);
        };
    not_done = λ s e reached ok.
        let p = first.done s e reached refl in
        ⊎_elim
        (λ q. inl (record {
          first = omega (arith, q.first);
          within = omega (arith, q.within, length-append cs ds);
          script = q.script;
          image = λ device t.
              let past : length cs < s.left = omega (arith, q.first) in
              q.image device (still t) ∙ ap (λ (f : List ℕ). image_at (s.left - length cs) ds f mid.waiting s.keep s.fill) (p.synced t)
              ∙ ap (λ (w : List Write). image_at (s.left - length cs) ds (synced_after cs old.synced old.waiting) w s.keep s.fill) (p.waiting t)
              ∙ sym (image_at-later s.left cs ds old.synced old.waiting s.keep s.fill past);
        }))
        (λ q. inr (record {
          made = length cs + q.made;
          few = omega (arith, q.few, length-append cs ds);
          later = λ set. omega (arith, p.later set, q.later);
          script = q.script ∙ counted_twice (length cs) q.made s;
        }))
        (second.not_done (counted_down (length cs) s) p.script reached ok);
  }

-- some of the calls, and no more of them
pub obeys_part : (tells failed : Type 0) (cs ds : List DeviceCall) (old new : StopState) (bytes : List ℕ) → Obeys tells failed cs old false bytes new → Obeys tells failed (cs ++ ds) old false bytes new
obeys_part tells failed cs ds old new bytes part = record {
  unset = part.unset;
  over = part.over;
  done = λ s e reached ok. cc;
  not_done = λ s e reached ok. ⊎_elim
      (λ q. inl (record {
        first = q.first;
        within = omega (arith, q.within, length-append cs ds);
        script = q.script;
        image = λ device t. q.image device t ∙ image_at-earlier s.left cs ds old.synced old.waiting s.keep s.fill q.first q.within;
      }))
      (λ q. inr (record { made = q.made; few = omega (arith, q.few, length-append cs ds); later = q.later; script = q.script }))
      (part.not_done s e reached refl);
}

-- no call
pub obeys_none : (tells failed : Type 0) (cs : List DeviceCall) (old : StopState) (ok : Bool) (bytes : List ℕ) → (ok ≡ true → cs ≡ []) → Obeys tells failed cs old ok bytes old
obeys_none tells failed cs old ok bytes none = record {
  unset = λ e. e;
  over = λ s e reached. e;
  done = λ s e reached is.
      let none = none is in
      record {
        later = λ set. omega (arith, set, ap length none);
        script = e ∙ ap (λ (left : ℕ). Some (record s { left = left })) (omega (arith, ap length none));
        synced = λ t. ap (λ (l : List DeviceCall). synced_after l old.synced old.waiting) (sym none);
        waiting = λ t. ap (λ (l : List DeviceCall). waiting_after l old.waiting) (sym none);
      };
  not_done = λ s e reached is. inr (record { made = 0; few = omega arith; later = λ set. omega (arith, set); script = e ∙ ap (λ (left : ℕ). Some (record s { left = left })) (omega arith) });
}

-- where nothing was done to the stop before
pub same_obeys : (tells tells_still failed : Type 0) (still : tells → tells_still) (cs : List DeviceCall) (old mid new : StopState) (ok : Bool) (bytes : List ℕ) → IsSameStop tells old mid → Obeys tells_still failed cs mid ok bytes new
    → Obeys tells failed cs old ok bytes new
same_obeys tells tells_still failed still cs old mid new ok bytes same then = record {
  unset = λ e. then.unset (same.script ∙ e);
  over = λ s e reached. then.over s (same.script ∙ e) reached;
  done = λ s e reached is.
      let p = then.done s (same.script ∙ e) reached is in
      record {
        later = p.later;
        script = p.script;
        synced = λ t. p.synced (still t) ∙ ap (λ (f : List ℕ). synced_after cs f mid.waiting) (same.synced t) ∙ ap (synced_after cs old.synced) (same.waiting t);
        waiting = λ t. p.waiting (still t) ∙ ap (waiting_after cs) (same.waiting t);
      };
  not_done = λ s e reached is. ⊎_elim
      (λ q. inl (record {
        first = q.first;
        within = q.within;
        script = q.script;
        image = λ device t. q.image device (still t) ∙ ap (λ (f : List ℕ). image_at s.left cs f mid.waiting s.keep s.fill) (same.synced t)
            ∙ ap (λ (w : List Write). image_at s.left cs old.synced w s.keep s.fill) (same.waiting t);
      }))
      (λ q. inr q)
      (then.not_done s (same.script ∙ e) reached is);
}

-- a fault of the device that goes by another name
pub obeys_named : (tells failed named : Type 0) (cs : List DeviceCall) (old new : StopState) (ok : Bool) (bytes : List ℕ) → (failed → named) → Obeys tells failed cs old ok bytes new → Obeys tells named cs old ok bytes new
obeys_named tells failed named cs old new ok bytes is part = record {
  unset = part.unset;
  over = part.over;
  done = part.done;
  not_done = λ s e reached not_ok. ⊎_elim
      (λ q. inl (record { first = q.first; within = q.within; script = q.script; image = λ device t. q.image (λ f. device (is f)) t }))
      (λ q. inr q)
      (part.not_done s e reached not_ok);
}

-- all of the calls, and then a refusal
pub obeys_refused : (tells before failed : Type 0) (cs : List DeviceCall) (old new : StopState) (bytes : List ℕ) → Obeys tells before cs old true bytes new → Obeys tells failed cs old false bytes new
obeys_refused tells before failed cs old new bytes all = record {
  unset = all.unset;
  over = all.over;
  done = λ s e reached ok. cc;
  not_done = λ s e reached not_ok. let p = all.done s e reached refl in inr (record { made = length cs; few = omega arith; later = p.later; script = p.script });
}
