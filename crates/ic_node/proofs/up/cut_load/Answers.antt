use Rattle.std.proofs.Common.{◌≤◌, ◌∙◌, sym, ap, subst, cond, inl, inr, length}
use Rattle.def_log.specs.Loads.{placed_log_for, placed_tail_for}
use Rattle.ic_disk.proofs.Disks.{Keeps-trans}
use Rattle.ic_disk.proofs.Armed.{IsArmed, works_runs, none_held}
use Rattle.ic_gate.specs.Logs.{disk_of}
use Rattle.ic_gate.specs.Reading.{load_calls, tail_calls}
use Rattle.ic_node.specs.Loading.{disk_loaded}
use Rattle.ic_node.proofs.LoadCuts.{IsUnloaded, not_whole, load_image, tail_image, load_ends, loads_tail}
use Rattle.ic_node.proofs.Reloads.{step_so, refusal_so, crash_more}
use Rattle.ic_node.proofs.DeviceCalls.{few_more, few_most}
use Rattle.ic_node.proofs.up.cut_load.Goals as goal
use Rattle.ic_node.proofs.up.cut_load.Goals.{After-is_cut, then-is_a_tcom+in-Err, else-is_a_tcom+in-Err-loaded}
use Rattle.ic_node.proofs.up.cut_load.Given.{Over}

pub unreachable-requires : goal.unreachable-requires
unreachable-requires g c =
    let set : IsArmed g.D.Disk c.args.stop c.args.disk c.arm.new.self = record { set = c.arm.ensures; runs = works_runs g.D.Disk c.args.disk c.requires.works } in
    not_whole g.D.Disk c.args.stop c.args.disk c.arm.new.self set load_calls _ (disk_of c.in_default.field-0.0) c.requires.first (subst (λ n. c.args.stop.call ≤ n) (ap (λ t. cond t 3 4) (sym c.is_a_tcom.ensures ∙ c.if-is_a_tcom.true)) c.requires.within) (c.in_default.ensures {u = tt}).calls

pub unreachable-requires-in_default-loaded : goal.unreachable-requires-in_default-loaded
unreachable-requires-in_default-loaded g c =
    let set : IsArmed g.D.Disk c.args.stop c.args.disk c.arm.new.self = record { set = c.arm.ensures; runs = works_runs g.D.Disk c.args.disk c.requires.works } in
    not_whole g.D.Disk c.args.stop c.args.disk c.arm.new.self set tail_calls _ (disk_of c.in_default-loaded.field-0.0) c.requires.first (subst (λ n. c.args.stop.call ≤ n) (ap (λ t. cond t 3 4) (sym c.is_a_tcom.ensures ∙ c.if-is_a_tcom.false)) c.requires.within) (c.in_default-loaded.ensures {u = tt}).calls

-- the load whose stop is taken off again, by either reading
ends : (g : Over) (c : After-is_cut g) → IsUnloaded g.D.Disk c.args.stop c.args.disk c.args.fingerprint.now c.args.«com».0 c.disarm-reached.new.self c.if-is_a_tcom.refused.why c.disarm-reached.result
ends g c =
    let stop = c.args.stop in
    let old = c.args.disk in
    let owner = c.args.«com».0 in
    let set : IsArmed g.D.Disk stop old c.arm.new.self = record { set = c.arm.ensures; runs = works_runs g.D.Disk old c.requires.works } in
    let first = c.requires.first in
    let none = none_held old.held _ c.requires.settled in
    let off = c.disarm-reached in
    let given = c.args.fingerprint.now in
    elim c.if-is_a_tcom.branch [
      | then-is_a_tcom+in-Err w ↦
          let e = w.in-Err.ensures {u = tt} in
          load_ends g.D.Disk stop old c.arm.new.self set g.met.D.Disk.keeping_tells (placed_log_for owner) owner (λ bytes place is. inr is) load_calls (load_image stop.call (g.D.Disk.seen old.inner) stop.keep stop.fill) first none
          c.if-is_a_tcom.refused w.in-Err.refused w.refused-is off.new.self off.ensures.after off.result off.ensures.reached given _ (λ f. f) e.refused e.disk e.crash e.calls
      | else-is_a_tcom+in-Err-loaded w ↦
          let e = w.in-Err-loaded.ensures {u = tt} in
          load_ends g.D.Disk stop old c.arm.new.self set g.met.D.Disk.keeping_tells (placed_tail_for owner) owner (λ bytes place is. inl is) tail_calls (tail_image stop.call (g.D.Disk.seen old.inner) stop.keep stop.fill) first none
          c.if-is_a_tcom.refused w.in-Err-loaded.refused w.refused-is off.new.self off.ensures.after off.result off.ensures.reached given _ (λ f. f) e.refused e.disk e.crash e.calls
    ]

pub returns-then-is_cut : goal.returns-then-is_cut
returns-then-is_cut g c =
    let old = c.args.disk in
    let off = c.disarm-reached.new.self in
    let given = c.args.fingerprint.now in
    let owner = c.args.«com».0 in
    let whole = c.reloaded in
    let loaded = whole.ensures in
    let first = ends g (goal.at.returns-then-is_cut g c).After-is_cut in
    let same = first.same (sym c.is_cut.ensures ∙ c.if-is_cut.true) in
    record {
      step = step_so g.D.Disk old off given owner whole.result first.disk.tells.0 same loaded.step;
      disk = Keeps-trans first.disk loaded.disk;
      crash = crash_more g.D.Disk old off (disk_loaded whole.result) first.disk first.crash loaded.crash;
      calls = few_more old.made off.made (disk_loaded whole.result).made c.args.stop.call (length load_calls) first.calls loaded.calls;
      refused = loads_tail g.D.Disk old given owner whole.result (refusal_so g.D.Disk old off given owner whole.result first.disk same loaded.refused);
    }

pub returns : goal.returns
returns g c =
    let first = ends g (goal.at.returns g c).After-is_cut in
    record {
      step = tt;
      disk = first.disk;
      crash = first.crash;
      calls = few_most c.args.disk.made c.disarm-reached.new.self.made c.args.stop.call (length load_calls) first.calls;
      refused = first.refused (sym c.is_cut.ensures ∙ c.if-is_cut.false);
    }
