-- A core step is an event of the definitions, and an execution a run of them.
use Rattle.std.proofs.Common.{◌≡◌, refl, ◌∙◌, ap, sym, subst, ℕ, ◌+◌, ◌-◌, ◌<◌, ◌≤◌, nat_le, Bool, true, false, cond, not, ◌&&◌, List, [], ◌∷◌, ◌++◌, length, Option, Some, None, option_map, arith, inl, inr}
use Rattle.std.specs.Prelude.{⊤, MatchOption, Result, Ok}
use Rattle.std.proofs.lemmas.Option.{same_Some}
use Rattle.ic_base.specs.declared.events.Stop.{Stop}
use Rattle.def_log.specs.Frame.{fingerprint_in, owner_in}
use Rattle.def_log.specs.Sizes.{gate_in, size_in}
use Rattle.def_log.specs.Gated.{batch_write}
use Rattle.def_log.specs.Stops.{stop_torn, writes_torn, is_open_at}
use Rattle.def_two.specs.declared.moves.Record2.{Record2}
use Rattle.def_two.specs.declared.script.Event2.{Event2}
use Rattle.def_two.specs.declared.script.What2.{What2}
use Rattle.def_two.specs.declared.script.What2.TheVariants as whats
use Rattle.def_two.specs.Moves.{Openings}
use Rattle.def_two.specs.World.{Site, DiskOutcome2, site_at, log_in, log_at, is_up, does, is_reached, device_calls}
use Rattle.def_two.specs.Runs.{Called, call_of, component_of, would_add, LeavesByGate, FitsStop, FitsCall, DiskFits2, IsEvent2}
use Rattle.def_two.specs.Records.{payload2_of}
use Rattle.def_two.specs.Logs.{log2_of}
use Rattle.def_two.specs.CoreSteps.{SystemState2, file2_of, IsLog2, KeepsLogs2, forces, loads_first, is_stopped, IsTornAt2, IsTornBy2, MeetsDisk2}
use Rattle.law_two.proofs.Lists.{none-some, true-false}
use Rattle.law_two_run.specs.Torn.{ReadsByGate2}
use Rattle.law_two_run.proofs.Torn.{torn_reads}
use Rattle.law_two_run.specs.Runs.{ForcesFit, CoreStepsLead}

same-ok : (r : Result (List Record2) ℕ) (a b : List Record2) → r ≡ Ok a → r ≡ Ok b → a ≡ b
same-ok r a b e f = cc (e, f)

-- a log's gate stands before its last byte
gate-of : (file : List ℕ) (size : ℕ) → size_in file ≡ Some size → gate_in file ≡ Some (size - 1)
gate-of file size e = at (gate_in file) refl e
  where
    less : (gate : ℕ) → gate + 1 ≡ size → gate ≡ size - 1
    less gate f = omega (arith, f)

    at : (o : Option ℕ) → gate_in file ≡ o → option_map (λ gate. gate + 1) o ≡ Some size → gate_in file ≡ Some (size - 1)
    at None f g = none-some size g
    at (Some gate) f g = f ∙ ap Some (less gate (same_Some (gate + 1) size g))

-- the records of a component are read from its disk
pub log-read : (fingerprint : List ℕ) (p : SystemState2) (c : ℕ) (s : Site) → KeepsLogs2 fingerprint p → site_at p.world c ≡ Some s → log2_of (file2_of p c) ≡ Ok s.log
log-read fingerprint p c s kept is = (subst (λ o. MatchOption o ⊤ (λ z. IsLog2 fingerprint c (file2_of p c) z.log)) is (kept c)).holds

-- and it is a log of this script
pub own-name : (fingerprint : List ℕ) (p : SystemState2) (c : ℕ) (s : Site) → KeepsLogs2 fingerprint p → site_at p.world c ≡ Some s → fingerprint_in (file2_of p c) ≡ fingerprint
own-name fingerprint p c s kept is = (subst (λ o. MatchOption o ⊤ (λ z. IsLog2 fingerprint c (file2_of p c) z.log)) is (kept c)).own

-- and that of the component
pub own-number : (fingerprint : List ℕ) (p : SystemState2) (c : ℕ) (s : Site) → KeepsLogs2 fingerprint p → site_at p.world c ≡ Some s → owner_in (file2_of p c) ≡ c
own-number fingerprint p c s kept is = (subst (λ o. MatchOption o ⊤ (λ z. IsLog2 fingerprint c (file2_of p c) z.log)) is (kept c)).owned

not-above : (a b : ℕ) → nat_le a b ≡ true → a ≤ b
not-above a b e = grind arith

at-least-one : (a b : ℕ) → 1 ≤ a → nat_le a b ≡ true → 1 ≤ b
at-least-one a b h k = omega (arith, h, not-above a b k)

no-stop : (stop : Option Stop) (calls : ℕ) → is_reached stop calls ≡ true → (s : Stop) × (stop ≡ Some s) × (nat_le s.call calls ≡ true)
no-stop None calls e = true-false e
no-stop (Some s) calls e = (s, refl, e)

module _ (books : Openings) (fingerprint : List ℕ) (p : SystemState2) (x : DiskOutcome2) (q : SystemState2) (kept : KeepsLogs2 fingerprint p) where
  -- a call whose stop is reached
  torn-call : (e : Event2) (y : Called) → call_of p.world e.what ≡ Some y → loads_first e.what ≡ 0 → IsEvent2 books e → ForcesFit books p e → ((s : Site) → site_at p.world y.who ≡ Some s → MeetsDisk2 books x p e y.who q) → is_stopped books p.world e ≡ is_reached e.stop (device_calls (forces books p.world e.what)) → FitsStop books p.world e.stop x y
  torn-call e y is loads ok fit meets how reached = at (no-stop e.stop (device_calls (would_add books p.world y)) reached)
    where
      adds-are : forces books p.world e.what ≡ would_add books p.world y
      adds-are = ap (λ o. elim o as (λ z. List Record2) [ None ↦ [] | Some z ↦ would_add books p.world z ]) is

      stopped : is_stopped books p.world e ≡ true
      stopped = how ∙ ap (λ l. is_reached e.stop (device_calls l)) adds-are ∙ reached

      none-added : site_at p.world y.who ≡ None → would_add books p.world y ≡ []
      none-added f = ap (λ o. cond (is_up o) (does books p.world.heard y.who (log_at p.world y.who) y.call).adds []) f

      zero-less : 1 ≤ 0 → ⊥
      zero-less h = omega (arith, h)

      up-site : (o : Option Site) → site_at p.world y.who ≡ o → 1 ≤ device_calls (would_add books p.world y) → (s : Site) × (site_at p.world y.who ≡ Some s)
      up-site (Some s) f h = (s, f)
      up-site None f h = absurd (zero-less (subst (λ l. 1 ≤ device_calls l) (none-added f) h))

      with-stop : (s : Stop) → e.stop ≡ Some s → nat_le s.call (device_calls (would_add books p.world y)) ≡ true → LeavesByGate books p.world x y
      with-stop s f g = file (size_in (file2_of p y.who)) refl (subst (λ o. IsTornBy2 books x p e y.who q o) f ((meets site.0 site.1).torn stopped))
        where
          from-one : 1 ≤ s.call
          from-one = subst (λ o. MatchOption o ⊤ (λ z. 1 ≤ z.call)) f ok.1

          calls-some : 1 ≤ device_calls (would_add books p.world y)
          calls-some = at-least-one s.call (device_calls (would_add books p.world y)) from-one g

          some-added : 0 < length (would_add books p.world y)
          some-added = at-list (would_add books p.world y) calls-some
            where
              at-list : (l : List Record2) → 1 ≤ device_calls l → 0 < length l
              at-list [] h = absurd (omega (arith, h))
              at-list (r ∷ rs) h = omega arith

          site : (z : Site) × (site_at p.world y.who ≡ Some z)
          site = up-site (site_at p.world y.who) refl calls-some

          read : log2_of (file2_of p y.who) ≡ Ok (log_at p.world y.who)
          read = log-read fingerprint p y.who site.0 kept site.1 ∙ ap Ok (sym (ap log_in site.1))

          file : (o : Option ℕ) → size_in (file2_of p y.who) ≡ o → MatchOption o ⊥ (λ size. IsTornAt2 x s (loads_first e.what) (size - 1) (forces books p.world e.what) (file2_of p y.who) (file2_of q y.who)) → LeavesByGate books p.world x y
          file None h t = absurd t
          file (Some size) h t = turn (torn_reads s (loads_first e.what) (size - 1) (file2_of p y.who) (forces books p.world e.what) (log_at p.world y.who) x.left read (gate-of (file2_of p y.who) size h)
              (subst (λ l. 0 < length l) (sym adds-are) some-added) fit (ap log2_of (sym t.image) ∙ t.left))
            where
              byte : is_open_at (stop_torn s (loads_first e.what) (file2_of p y.who) (batch_write (size - 1) (payload2_of (forces books p.world e.what)) ∷ [])) (size - 1) ≡ x.is_open
              byte = ap (λ z. is_open_at z (size - 1)) (sym t.image) ∙ sym t.gate_byte

              turn : ReadsByGate2 (size - 1) (log_at p.world y.who) (forces books p.world e.what) (stop_torn s (loads_first e.what) (file2_of p y.who) (batch_write (size - 1) (payload2_of (forces books p.world e.what)) ∷ [])) x.left → LeavesByGate books p.world x y
              turn (inl z) = inl (sym byte ∙ z.0, z.1)
              turn (inr z) = inr (sym byte ∙ z.0, z.1 ∙ ap (λ l. log_at p.world y.who ++ l) adds-are)

      at : ((s : Stop) × (e.stop ≡ Some s) × (nat_le s.call (device_calls (would_add books p.world y)) ≡ true)) → LeavesByGate books p.world x y
      at z = with-stop z.0 z.1 z.2

  -- a recovery
  torn-load : (c : ℕ) (stop : Option Stop) (s : Site) → site_at p.world c ≡ Some s → s.up ≡ false → MeetsDisk2 books x p (record { what = whats.Recover c; stop = stop }) c q → (x.found ≡ s.log) × (is_reached stop 3 ≡ true → x.left ≡ s.log)
  torn-load c stop s is down meets = (same-ok (log2_of (file2_of p c)) x.found s.log meets.found read, left)
    where
      read : log2_of (file2_of p c) ≡ Ok s.log
      read = log-read fingerprint p c s kept is

      stopped : is_reached stop 3 ≡ true → is_stopped books p.world (record { what = whats.Recover c; stop = stop }) ≡ true
      stopped r = ap (λ o. elim o as (λ z. Bool) [ None ↦ false | Some z ↦ not z.up ] && is_reached stop 3) is ∙ ap (λ b. not b && is_reached stop 3) down ∙ r

      left : is_reached stop 3 ≡ true → x.left ≡ s.log
      left r = at (no-stop stop 3 r)
        where
          at : ((z : Stop) × (stop ≡ Some z) × (nat_le z.call 3 ≡ true)) → x.left ≡ s.log
          at z = file (size_in (file2_of p c)) (subst (λ o. IsTornBy2 books x p (record { what = whats.Recover c; stop = stop }) c q o) z.1 (meets.torn (stopped r)))
            where
              file : (o : Option ℕ) → MatchOption o ⊥ (λ size. IsTornAt2 x z.0 3 (size - 1) [] (file2_of p c) (file2_of q c)) → x.left ≡ s.log
              file None t = absurd t
              file (Some size) t =
                  same-ok (log2_of (file2_of p c)) x.left s.log
                  (ap log2_of (sym (t.image ∙ ap (λ b. cond b (file2_of p c) (writes_torn (z.0.call - 3) z.0.keep z.0.fill (file2_of p c) (batch_write (size - 1) (payload2_of []) ∷ []))) z.2)) ∙ t.left) read

  fits-disk : (what : What2) (stop : Option Stop) → IsEvent2 books (record { what = what; stop = stop }) → ForcesFit books p (record { what = what; stop = stop }) →
      ((c : ℕ) (s : Site) → component_of p.world what ≡ Some c → site_at p.world c ≡ Some s → MeetsDisk2 books x p (record { what = what; stop = stop }) c q) → DiskFits2 books p.world what stop x
  fits-disk (whats.Recover c) stop ok fit meets = λ s is down. torn-load c stop s is down (meets c s refl is)
  fits-disk (whats.Crash c) stop ok fit meets = tt
  fits-disk (whats.Lose from to) stop ok fit meets = tt
  fits-disk (whats.Resend c) stop ok fit meets = torn-call (record { what = whats.Resend c; stop = stop }) _ refl refl ok fit (λ s is. meets c s refl is) refl
  fits-disk (whats.Move from source to target amount) stop ok fit meets = torn-call (record { what = whats.Move from source to target amount; stop = stop }) _ refl refl ok fit (λ s is. meets 0 s refl is) refl
  fits-disk (whats.Deliver from to) stop ok fit meets = at (call_of p.world (whats.Deliver from to)) refl
    where
      at : (o : Option Called) → call_of p.world (whats.Deliver from to) ≡ o → FitsCall books p.world stop x o
      at None f = tt
      at (Some y) f = torn-call (record { what = whats.Deliver from to; stop = stop }) y f refl ok fit (λ s is. meets y.who s (ap (option_map (λ (z : Called). z.who)) f) is) refl
  fits-disk (whats.Packet i) stop ok fit meets = at (call_of p.world (whats.Packet i)) refl
    where
      at : (o : Option Called) → call_of p.world (whats.Packet i) ≡ o → FitsCall books p.world stop x o
      at None f = tt
      at (Some y) f = torn-call (record { what = whats.Packet i; stop = stop }) y f refl ok fit (λ s is. meets y.who s (ap (option_map (λ (z : Called). z.who)) f) is) refl

pub core_steps_lead : CoreStepsLead
core_steps_lead books fingerprint p e x q kept fit step = record {
  event = step.event;
  happens = step.happens;
  disk = fits-disk books fingerprint p x q kept e.what e.stop step.event fit step.disk;
}
