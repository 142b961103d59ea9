-- Orders that are carried out, one more, and a world that goes on.
use Rattle.std.proofs.Common.{◌≡◌, ◌∙◌, refl, ap, sym, subst, ℕ, zero, suc, ◌+◌, ◌<◌, true, List, [], ◌∷◌, ◌++◌, length, take, drop, get_or, arith, inl, inr}
use Rattle.def_failover.specs.declared.note.Note.{Note}
use Rattle.def_run.specs.Executions.{Agenda}
use Rattle.def_run.specs.Executions.{whole_agenda}
use Rattle.def_standby.specs.declared.orders.Order.{Order}
use Rattle.def_standby.specs.declared.orders.Order.TheVariants as orders
use Rattle.ic_base.specs.declared.events.Trace.{Trace}
use Rattle.ic_report.specs.Outputs.{Puts}
use Rattle.ic_run.specs.Tallies.{Counts, IsOneMore}
use Rattle.ic_disk.specs.TornDisks.{Torn}
use Rattle.ic_disk.specs.declared.disk.Disk as disk
use Rattle.ic_disk.specs.declared.sink.Sink as sink
use Rattle.ic_failover.specs.Carrying.{Stage, Acts, Carries, CarriesAll, FailsToCarry, FailsToCarryAll, GoesOn, IsTold, intervals_for, telling_for, note_pieces}
use Rattle.ic_failover.specs.Sides.{Beside}
use Rattle.ic_failover.specs.Taking.{Takes}
use Rattle.ic_failover.specs.declared.texts.FailoverTexts.{FailoverTexts}
use Rattle.ic_run.specs.Running.{Executed}
use Rattle.ic_run.specs.declared.running.Cut.{Cut}
use Rattle.ic_run.specs.declared.tally.Tally.{Tally}
use Rattle.ic_world.specs.declared.world.World.{World}

module _ {D : Type 0} {d : disk.Ghosts D} (r : FailoverTexts) (old new : World D d) (go : GoesOn r old) where
  pub goes_behind_run : {K : Type 0} (k : sink.Ghosts K) (was : Tally) (a : Agenda) (before after : K) (tally : Tally) → Executed k r.program (intervals_for r) (telling_for r) was a old new before after tally → GoesOn r new
  goes_behind_run k was a before after tally e = record { few = go.few; going = e.goes.going; made = e.goes.made; pcom = go.pcom }

  pub goes_behind_take : (a : Beside) (note : Note) (b : Beside) → Takes r.program r.who old a note new b → GoesOn r new
  goes_behind_take a note b (inl t) = subst (GoesOn r) (sym t.0) go
  goes_behind_take a note b (inr t) = record { few = go.few; going = t.2.takes.going; made = t.2.takes.made; pcom = go.pcom }

take-more : (os : List Order) (n : ℕ) (z : Order) → n < length os → take (suc n) os ≡ take n os ++ get_or os n z ∷ []
take-more [] n z l = absurd (omega (arith, l))
take-more (o ∷ os) zero z l = refl
take-more (o ∷ os) (suc n) z l = ap (λ ps. o ∷ ps) (take-more os n z (omega (arith, l)))

take-next : (os : List Order) (n : ℕ) (z : Order) → n < length os → take (n + 1) os ≡ take n os ++ get_or os n z ∷ []
take-next os n z l =
    let same : n + 1 ≡ suc n = omega arith in
    ap (λ m. take m os) same ∙ take-more os n z l

module _ {D : Type 0} {d : disk.Ghosts D} {K : Type 0} (k : sink.Ghosts K) (r : FailoverTexts) where
  carries-more : (os : List Order) (o : Order) (a m b : Stage d K) → CarriesAll k r os a m → Carries k r o m b → CarriesAll k r (os ++ o ∷ []) a b
  carries-more [] o a m b same c = (b, subst (λ z. Carries k r o z b) (sym same) c, refl)
  carries-more (p ∷ ps) o a m b all c = (all.0, all.1, carries-more ps o all.0 m b all.2 c)

  -- one order of a schedule more
  pub carries_further : (os : List Order) (n : ℕ) (z : Order) (a m b : Stage d K) → n < length os → CarriesAll k r (take n os) a m → Carries k r (get_or os n z) m b → CarriesAll k r (take (n + 1) os) a b
  carries_further os n z a m b within all c = subst (λ l. CarriesAll k r l a b) (sym (take-next os n z within)) (carries-more (take n os) (get_or os n z) a m b all c)

cut-at : (os : List Order) (n : ℕ) (d : Order) → n < length os → os ≡ take n os ++ get_or os n d ∷ drop (suc n) os
cut-at [] n d l = absurd (omega (arith, l))
cut-at (o ∷ os) zero d l = refl
cut-at (o ∷ os) (suc n) d l = ap (λ ps. o ∷ ps) (cut-at os n d (omega (arith, l)))

module _ {D : Type 0} (b : disk.Ghosts D) {d : disk.Ghosts (Torn D)} {K : Type 0} (k : sink.Ghosts K) (r : FailoverTexts) where
  -- one that fails
  pub fails_at : (n : ℕ) (o : Order) (a m : Stage d K) (new : World (Torn D) d) (after : K) (cut : Cut) → n < length r.orders.orders → CarriesAll k r (take n r.orders.orders) a m → FailsToCarry b k r (get_or r.orders.orders n o) m new after cut → FailsToCarryAll b k r a new after cut
  fails_at n o a m new after cut within all f = record { first = take n r.orders.orders; order = get_or r.orders.orders n o; rest = drop (suc n) r.orders.orders; are = cut-at r.orders.orders n o within; mid = m; carried = all; fails = f }

module _ {D : Type 0} {d : disk.Ghosts D} {K : Type 0} (k : sink.Ghosts K) (r : FailoverTexts) (a b : Stage d K) where
  -- a world goes on behind an order
  pub goes_behind : (o : Order) → Carries k r o a b → GoesOn r a.world → GoesOn r b.world
  goes_behind (orders.Run e) c go = goes_behind_run r a.world b.world go k a.tally (whole_agenda (e ∷ []) true) a.out b.out b.tally c.executed
  goes_behind orders.Ship c go = subst (GoesOn r) (sym c.1.acts.0) go
  goes_behind orders.TakeOver c go = goes_behind_take r a.world b.world go a.beside c.0 b.beside c.1.acts

  pub is_told : (o : Order) (note : Note) → Acts r o a.world a.beside note b.world b.beside → ((told : List Trace) → Counts told a.tally → Counts told b.tally) → IsOneMore a.tally b.tally → Puts k (note_pieces r.policy.report (suc a.tally.events) o note) a.out b.out → IsTold k r o note a b
  is_told o note acts counts more printed = record { acts = acts; counts = counts; numbered = more.0; printed = printed }
