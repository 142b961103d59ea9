use Rattle.std.proofs.Common.{◌≡◌, ◌∙◌, inl, sym, ap, refl, ℕ, ◌+◌, ◌≤◌, List, subst, arith}
use Rattle.std.specs.Prelude.{Err}
use Rattle.std.proofs.lemmas.Result.{err_from_is_err_and}
use Rattle.def_log.specs.Directory.{slots_in}
use Rattle.def_log.specs.Images.{LeavesJust}
use Rattle.def_log.specs.Frame.{frame_of, fingerprint_in, owner_in, IsForeign}
use Rattle.ic_gate.proofs.Headers.{read_refused, read_rests}
use Rattle.def_log.specs.Loads.{frame_for}
use Rattle.ic_disk.specs.declared.disk.Disk.{Ghosts}
use Rattle.ic_disk.proofs.Disks.{makes_refused}
use Rattle.ic_gate.specs.Reading.{IsAtRest, RefusesToLoad}
use Rattle.ic_gate.specs.Refusals.{IsNotForeign, IsOfFile}
use Rattle.ic_gate.specs.declared.refusals.LoadWhy.{LoadWhy}
use Rattle.ic_gate.specs.declared.refusals.LoadWhy.TheVariants.{Bad, Foreign, Failed, Stopped, Memory}
use Rattle.ic_gate.proofs.load.read_log.Goals as goal

-- facts on each cause are a case for each cause
refused : {D : Type 0} (d : Ghosts D) (old new : D) (given read : List ℕ) (owner : ℕ) (why : LoadWhy)
    → (d.tells old → read ≡ d.seen old) → IsAtRest d old new → d.calls old + 3 ≤ d.calls new
    → ((place : ℕ) → why ≡ Bad place → frame_for owner read ≡ Err place)
    → ((place : ℕ) → why ≡ Bad place → IsNotForeign given read)
    → ((kept : List ℕ) → why ≡ Foreign kept → IsForeign given read kept)
    → IsOfFile why → RefusesToLoad d old given owner new why
refused d old new given read owner (Bad place) told rests three bad not foreign is = record {
  frame = λ t. ap (frame_for owner) (sym (told t)) ∙ bad place refl;
  not_foreign = λ t. subst (IsNotForeign given) (told t) (not place refl);
  bytes = rests.bytes;
  calls = inl three;
}
refused d old new given read owner (Foreign kept) told rests three bad not foreign is = record { read = read; foreign = foreign kept refl; told = λ t. subst (λ (l : List ℕ). IsForeign given l kept) (told t) (foreign kept refl); bytes = rests.bytes; calls = three }
refused d old new given read owner Failed told rests three bad not foreign is = absurd is
refused d old new given read owner Stopped told rests three bad not foreign is = absurd is
refused d old new given read owner Memory told rests three bad not foreign is = rests

pub returns-in_err-frame-clause-calls : goal.returns-in_err-frame-clause-calls
returns-in_err-frame-clause-calls g c =
    let p = err_from_is_err_and c.from_residual-in_err-frame.result c.from_residual-in_err-frame.ensures.1 in
    rw (p.1, p.2) (makes_refused _ (c.in_ok-bytes.ensures {u = tt}).calls)

pub returns-in_err-frame-clause-refused : goal.returns-in_err-frame-clause-refused
returns-in_err-frame-clause-refused g c =
    let p = err_from_is_err_and c.from_residual-in_err-frame.result c.from_residual-in_err-frame.ensures.1 in
    let b = c.in_ok-bytes.ensures {u = tt} in
    let f = c.in_err-frame.ensures {u = tt} in
    rw (p.1, p.2) (refused g.D.Disk c.args.disk.now c.read_whole.new.disk c.args.fingerprint.now c.deref.result.now c.args.owner c.in_err-frame.field-0.0
    (λ t. c.deref.ensures.value ∙ b.bytes t) (read_rests g.D.Disk g.met.D.Disk.keeping_tells c.args.disk.now c.read_whole.new.disk b.seen b.durable) (omega (arith, b.calls.all refl)) f.bad f.not_foreign f.foreign f.why)

pub returns-in_err-buffered-clause-calls : goal.returns-in_err-buffered-clause-calls
returns-in_err-buffered-clause-calls g c =
    let p = err_from_is_err_and c.from_residual-in_err-buffered.result c.from_residual-in_err-buffered.ensures.1 in
    rw (p.1, p.2) (makes_refused _ (c.in_ok-bytes.ensures {u = tt}).calls)

pub returns-in_err-bytes-clause-refused : goal.returns-in_err-bytes-clause-refused
returns-in_err-bytes-clause-refused g c =
    let p = err_from_is_err_and c.from_residual.result c.from_residual.ensures.1 in
    rw (p.1, p.2) (read_refused g.D.Disk c.args.disk.now c.read_whole.new.disk c.args.fingerprint.now c.args.owner c.in_err-bytes.field-0.0 (c.in_err-bytes.ensures {u = tt}).refused)

pub returns-clause-step : goal.returns-clause-step
returns-clause-step g c =
    let b = c.in_ok-bytes.ensures {u = tt} in
    let f = c.in_ok-frame.ensures {u = tt} in
    let seen = g.D.Disk.seen c.args.disk.now in
    let told : g.D.Disk.tells c.args.disk.now → c.deref.result.now ≡ seen = λ t. c.deref.ensures.value ∙ b.bytes t in
    record {
      log = record {
        bytes = b.seen;
        fingerprint_same = λ t. ap fingerprint_in (sym (told t)) ∙ f.fingerprint;
        owner_same = λ t. ap owner_in (sym (told t)) ∙ f.owner;
        images = λ keeps. subst (LeavesJust (g.D.Disk.may_leave c.read_whole.new.disk)) (b.seen (g.met.D.Disk.keeping_tells c.args.disk.now keeps)) (b.durable keeps);
        settled = b.settled;
      };
      frame = λ t. ap frame_of (sym (told t)) ∙ f.frame;
      slots_same = λ t. ap slots_in (sym (told t)) ∙ f.slots;
      below = f.below;
    }
