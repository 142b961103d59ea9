use Rattle.std.proofs.Common.{◌≡◌, ◌∙◌, sym, ap, refl, subst, List, []}
use Rattle.std.specs.Prelude.{Err, IfOk, is_ok}
use Rattle.ic_base.specs.declared.messages.Packet.{Packet}
use Rattle.ic_base.specs.declared.record.Record.{Record}
use Rattle.def_step.specs.Pcom.{Gets}
use Rattle.ic_disk.specs.Disk.{CrashLeaves, Makes}
use Rattle.ic_disk.proofs.Disks.{makes_none, makes_same}
use Rattle.ic_gate.specs.Calls.{gated_calls}
use Rattle.ic_gate.specs.RecordCalls.{record_writes}
use Rattle.ic_pcom.specs.Stepping.{batch_of, calls_of, Does, IsBeforeOrStepped}
use Rattle.ic_pcom.specs.Views.{component_of, disk_of, size_of, used_of}
use Rattle.ic_pcom.specs.declared.step.PacketRefused.TheVariants.{Failed}
use Rattle.ic_pcom.proofs.Fed.{wanted_batch}
use Rattle.ic_pcom.proofs.Feeds.{wanted_is}
use Rattle.ic_pcom.proofs.Still.{keeps_log, leaves_still}
use Rattle.ic_pcom.proofs.pcom.Pcom.fed.Goals as goal

pub feed-requires-clause-wanted : goal.feed-requires-clause-wanted
feed-requires-clause-wanted g c =
    let p = c.args.self.now in
    (wanted_is c.args.program.now p.«com» (component_of p).rest c.args.p.now c.in-Some.msg (sym c.wanted.ensures ∙ c.in-Some.is)).1

pub returns-in-Some-clause-step : goal.returns-in-Some-clause-step
returns-in-Some-clause-step g c =
    let p = c.args.self.now in
    let w = wanted_is c.args.program.now p.«com» (component_of p).rest c.args.p.now c.in-Some.msg (sym c.wanted.ensures ∙ c.in-Some.is) in
    subst (λ (x : Packet). IfOk c.feed.result (Does c.args.program.now p (Gets x) c.feed.new.self)) (sym w.0) c.feed.ensures.step

pub returns-in-Some-clause-crash : goal.returns-in-Some-clause-crash
returns-in-Some-clause-crash g c =
    let p = c.args.self.now in
    let law = g.met.D.Disk in
    let still = leaves_still {D = g.row.D.Denot} {d = g.D.Disk} p c.args.program.now (Gets c.args.p.now) c.requires.open law.only_now law.keeping_tells in
    subst (λ (disk : g.row.D.Denot). CrashLeaves g.D.Disk (disk_of p) disk (IsBeforeOrStepped c.args.program.now p (Gets c.args.p.now))) (sym c.feed.ensures.disk) still

pub returns-in-Some-clause-calls : goal.returns-in-Some-clause-calls
returns-in-Some-clause-calls g c =
    let p = c.args.self.now in
    let program = c.args.program.now in
    let w = wanted_is program p.«com» (component_of p).rest c.args.p.now c.in-Some.msg (sym c.wanted.ensures ∙ c.in-Some.is) in
    let none : batch_of program p (Gets c.args.p.now) ≡ [] = ap (λ (x : Packet). batch_of program p (Gets x)) w.0 ∙ wanted_batch program p c.in-Some.msg c.requires.open c.requires.replays w.1 in
    let still = makes_same (ap (λ (b : List Record). gated_calls (record_writes (size_of p) (used_of p) b)) (sym none)) (makes_none (disk_of p) [] (is_ok c.feed.result) (c.feed.result ≡ Err Failed) (λ is. refl)) in
    subst (λ (disk : g.row.D.Denot). Makes g.D.Disk (calls_of program p (Gets c.args.p.now)) (is_ok c.feed.result) (c.feed.result ≡ Err Failed) (disk_of p) disk) (sym c.feed.ensures.disk) still

pub returns-in-Ok-clause-log : goal.returns-in-Ok-clause-log
returns-in-Ok-clause-log g c = keeps_log c.args.self.now c.requires.open

pub returns-in-Ok-clause-crash : goal.returns-in-Ok-clause-crash
returns-in-Ok-clause-crash g c =
    let p = c.args.self.now in
    let law = g.met.D.Disk in
    leaves_still {D = g.row.D.Denot} {d = g.D.Disk} p c.args.program.now (Gets c.args.p.now) c.requires.open law.only_now law.keeping_tells

pub returns-in-Err-clause-crash : goal.returns-in-Err-clause-crash
returns-in-Err-clause-crash g c =
    let p = c.args.self.now in
    let law = g.met.D.Disk in
    leaves_still {D = g.row.D.Denot} {d = g.D.Disk} p c.args.program.now (Gets c.args.p.now) c.requires.open law.only_now law.keeping_tells

pub returns-in-Err-clause-log : goal.returns-in-Err-clause-log
returns-in-Err-clause-log g c = keeps_log c.args.self.now c.requires.open
