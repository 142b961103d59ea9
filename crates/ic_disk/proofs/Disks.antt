-- How what calls do to a disk goes on over more calls.
use Rattle.std.proofs.Common.{◌≡◌, ◌∙◌, refl, ap, subst, ℕ, Bool, true, false, List, [], ◌∷◌, ◌++◌, ◌+◌, ◌<◌, ◌≤◌, length, length-append, arith}
use Rattle.def_log.specs.Images.{Elapses}
use Rattle.def_log.proofs.Moments.{weaker, then_on, one_call}
use Rattle.ic_disk.specs.declared.disk.Disk.{Ghosts}
use Rattle.ic_disk.specs.Disk.{Keeps, Rests, Makes, CrashLeaves}
use Rattle.ic_disk.specs.Stops.{DeviceCall, Obeys, counted_down}
use Rattle.ic_disk.proofs.Stops.{obeys_then, obeys_part, obeys_none, same_obeys, obeys_named, obeys_refused}

module _ {D : Type 0} {d : Ghosts D} where
  pub Keeps-refl : (a : D) → Keeps d a a
  Keeps-refl a = record { tells = (λ t. t, λ t. t); keeps = (λ k. k, λ k. k); later = omega arith }

  pub Keeps-trans : {a b c : D} → Keeps d a b → Keeps d b c → Keeps d a c
  Keeps-trans p q = record {
    tells = (λ t. q.tells.0 (p.tells.0 t), λ t. p.tells.1 (q.tells.1 t));
    keeps = (λ k. q.keeps.0 (p.keeps.0 k), λ k. p.keeps.1 (q.keeps.1 k));
    later = omega (arith, p.later, q.later);
  }

  pub Rests-keeps : {a b : D} → Rests d a b → Keeps d a b
  Rests-keeps p = record { tells = p.tells; keeps = p.keeps; later = omega (arith, p.faults) }

  -- what has P has Q, where the disk keeps the disk model
  pub crash_weaker : {a b : D} {P Q : List ℕ → Type 0} → (d.keeps a → (image : List ℕ) → P image → Q image) → CrashLeaves d a b P → CrashLeaves d a b Q
  crash_weaker {a} {b} {P} {Q} f run = record {
    any_moment = λ keeps. weaker d.moment d.left_since a b P Q (f keeps) (run.any_moment keeps);
    behind = λ keeps image may. f keeps image (run.behind keeps image may);
  }

  -- calls, and then more calls
  pub crash_then : {a b c : D} {P : List ℕ → Type 0} → Keeps d a b → CrashLeaves d a b P → CrashLeaves d b c P → CrashLeaves d a c P
  crash_then {a} {b} {c} {P} kept first second = record {
    any_moment = λ keeps. then_on d.moment d.left_since a b c P (first.any_moment keeps) (second.any_moment (kept.keeps.0 keeps));
    behind = λ keeps image may. second.behind (kept.keeps.0 keeps) image may;
  }

  -- a read behind the calls gives such bytes too
  pub read_behind : {a b : D} {P : List ℕ → Type 0} → ((disk : D) → d.keeps disk → d.may_leave disk (d.seen disk)) → Keeps d a b → CrashLeaves d a b P → d.keeps a → P (d.seen b)
  read_behind {a} {b} may_stay kept run keeps = run.behind keeps (d.seen b) (may_stay b (kept.keeps.0 keeps))

  -- calls that are all made, and then more of them
  pub makes_then : {a b c : D} {cs ds : List DeviceCall} {before failed : Type 0} {ok : Bool} → Keeps d a b → Makes d cs true before a b → Makes d ds ok failed b c → Makes d (cs ++ ds) ok failed a c
  makes_then {a} {b} {c} {cs} {ds} kept first second = record {
    all = λ ok. omega (arith, first.all refl, second.all ok, length-append cs ds);
    most = omega (arith, first.most, second.most, length-append cs ds);
    by_stop = λ s is waits begins.
        let on = first.stop.done s is waits refl in
        let few : length cs < s.left = on.later begins in
        let rest = second.by_stop (counted_down (length cs) s) on.script waits (omega (arith, few)) in
        omega (arith, first.all refl, rest, few);
    stop = obeys_then (d.tells a) cs ds (d.stop a) (d.stop b) (d.stop c) (d.seen b) (d.seen c) (d.tells b) kept.tells.0 first.stop second.stop;
  }

  -- calls that break off, of more that would have been made
  pub makes_part : {a b : D} {cs : List DeviceCall} {failed : Type 0} (ds : List DeviceCall) → Makes d cs false failed a b → Makes d (cs ++ ds) false failed a b
  makes_part {a} {b} {cs} {failed} ds part = record {
    all = λ ok. cc;
    most = omega (arith, part.most, length-append cs ds);
    by_stop = part.by_stop;
    stop = obeys_part (d.tells a) failed cs ds (d.stop a) (d.stop b) (d.seen b) part.stop;
  }

  -- no call is made
  pub makes_none : (a : D) (cs : List DeviceCall) (ok : Bool) (failed : Type 0) → (ok ≡ true → cs ≡ []) → Makes d cs ok failed a a
  makes_none a cs ok failed none = record {
    all = λ is. omega (arith, ap length (none is));
    most = omega arith;
    by_stop = λ s is waits begins. omega arith;
    stop = obeys_none (d.tells a) failed cs (d.stop a) ok (d.seen a) none;
  }

  -- calls behind something that makes none
  pub rests_makes : {a b c : D} {cs : List DeviceCall} {failed : Type 0} {ok : Bool} → Rests d a b → Makes d cs ok failed b c → Makes d cs ok failed a c
  rests_makes {a} {b} {c} {cs} {failed} {ok} rests then = record {
    all = λ is. omega (arith, rests.calls, then.all is);
    most = omega (arith, rests.calls, then.most);
    by_stop = λ s is waits begins. let few = then.by_stop s (rests.stop.script ∙ is) waits begins in omega (arith, rests.calls, few);
    stop = same_obeys (d.tells a) (d.tells b) failed rests.tells.0 cs (d.stop a) (d.stop b) (d.stop c) ok (d.seen c) rests.stop then.stop;
  }

  -- one device call
  pub makes_one : {a b : D} {c : DeviceCall} {failed : Type 0} {ok : Bool} → d.calls b ≡ d.calls a + 1 → Obeys (d.tells a) failed (c ∷ []) (d.stop a) ok (d.seen b) (d.stop b) → Makes d (c ∷ []) ok failed a b
  makes_one one stop = record { all = λ is. one; most = omega (arith, one); by_stop = λ s is waits begins. omega (arith, one, begins); stop = stop }

  -- one that is refused, and may not have been made
  pub makes_at_most : {a b : D} {c : DeviceCall} {failed : Type 0} → d.calls b ≤ d.calls a + 1 → Obeys (d.tells a) failed (c ∷ []) (d.stop a) false (d.seen b) (d.stop b) → Makes d (c ∷ []) false failed a b
  makes_at_most few stop = record { all = λ ok. cc; most = omega (arith, few); by_stop = λ s is waits begins. omega (arith, few, begins); stop = stop }

  -- a call, within and behind which a crash leaves what has P, where all that a crash may leave before it has Q as well
  pub crash_call : {a b : D} {P Q : List ℕ → Type 0} → ((disk : D) (image : List ℕ) → d.keeps disk → d.left_since disk (d.moment disk) image → d.may_leave disk image)
      → (d.keeps a → Elapses d.moment d.left_since d.may_leave P a b) → (d.keeps a → (image : List ℕ) → P image → Q image) → (d.keeps a → (image : List ℕ) → d.may_leave a image → Q image) → CrashLeaves d a b Q
  crash_call {a} {b} {P} {Q} only_now time within before = record {
    any_moment = λ keeps. one_call d.moment d.left_since d.may_leave a b Q P (λ image left. before keeps image (only_now a image keeps left)) (time keeps) (within keeps);
    behind = λ keeps image may. within keeps image ((time keeps).now image may);
  }

  -- a fault of the device that goes by another name
  pub makes_named : {a b : D} {cs : List DeviceCall} {ok : Bool} {failed : Type 0} (named : Type 0) → (failed → named) → Makes d cs ok failed a b → Makes d cs ok named a b
  makes_named {a} {b} {cs} {ok} {failed} named is made = record { all = made.all; most = made.most; by_stop = made.by_stop; stop = obeys_named (d.tells a) failed named cs (d.stop a) (d.stop b) ok (d.seen b) is made.stop }

  -- all of the calls, and then a refusal
  pub makes_refused : {a b : D} {cs : List DeviceCall} {before : Type 0} (failed : Type 0) → Makes d cs true before a b → Makes d cs false failed a b
  makes_refused {a} {b} {cs} {before} failed made = record { all = λ ok. cc; most = made.most; by_stop = made.by_stop; stop = obeys_refused (d.tells a) before failed cs (d.stop a) (d.stop b) (d.seen b) made.stop }

  -- the same calls
  pub makes_same : {a b : D} {cs ds : List DeviceCall} {failed : Type 0} {ok : Bool} → cs ≡ ds → Makes d cs ok failed a b → Makes d ds ok failed a b
  makes_same {a} {b} {cs} {ds} {failed} {ok} e made = subst (λ (l : List DeviceCall). Makes d l ok failed a b) e made
