use Rattle.std.proofs.Common.{◌≡◌, ◌∙◌, refl, inl, sym, ap, ℕ, ◌+◌, ◌≤◌, List, length, take, subst, arith}
use Rattle.std.specs.Prelude.{Err, Result}
use Rattle.std.proofs.lemmas.Result.{err_from_is_err_and}
use Rattle.ic_base.specs.declared.limits.TheConstants.{FIRST_GATE, LOG_BYTES}
use Rattle.ic_base.specs.declared.record.Batch.{Batch}
use Rattle.std.proofs.lemmas.List.{length-take}
use Rattle.def_log.specs.Directory.{slots_in}
use Rattle.def_log.specs.Frame.{letters, first_difference, fingerprint_in, owner_in, behind_header, IsForeign}
use Rattle.def_log.specs.Loads.{of_owner}
use Rattle.ic_disk.specs.declared.disk.Disk.{Ghosts}
use Rattle.ic_disk.proofs.Disks.{makes_refused}
use Rattle.ic_gate.specs.Reading.{IsAtRest, RefusesToLoadTail}
use Rattle.ic_gate.proofs.Headers.{read_rests}
use Rattle.ic_gate.specs.Refusals.{IsNotForeign, IsOfFile}
use Rattle.ic_gate.specs.declared.refusals.LoadWhy.{LoadWhy}
use Rattle.ic_gate.specs.declared.refusals.LoadWhy.TheVariants.{Bad, Foreign, Failed, Stopped, Memory}
use Rattle.ic_gate.proofs.Fronts.{front_of, letters_of_front, same_owner, same_slots, foreign_file, foreign_front}
use Rattle.ic_gate.proofs.TailReads.{tail_carried, tail_read_refused}
use Rattle.ic_gate.proofs.tail.read_header.Goals as goal

-- facts on each cause are a case for each cause
refused : {D : Type 0} (d : Ghosts D) (old new : D) (given read : List ℕ) (owner : ℕ) (why : LoadWhy)
    → (d.tells old → read ≡ front_of (d.seen old)) → (d.tells old → length (d.seen old) ≤ LOG_BYTES) → IsAtRest d old new → d.calls old + 3 ≤ d.calls new
    → ((place : ℕ) → why ≡ Bad place → (behind : Result (List Batch) ℕ) → of_owner owner read (behind_header behind read) ≡ Err place)
    → ((place : ℕ) → why ≡ Bad place → IsNotForeign given read)
    → ((kept : List ℕ) → why ≡ Foreign kept → IsForeign given read kept)
    → IsOfFile why → RefusesToLoadTail d old given owner new why
refused d old new given read owner (Bad place) told short rests three bad not foreign is = record {
  frame = λ t. tail_carried owner (d.seen old) (short t) place (λ behind. subst (λ (l : List ℕ). of_owner owner l (behind_header behind l) ≡ Err place) (told t) (bad place refl behind));
  not_foreign = λ t kept f. subst (IsNotForeign given) (told t) (not place refl) kept (foreign_front given (d.seen old) kept f);
  bytes = rests.bytes;
  calls = inl three;
}
refused d old new given read owner (Foreign kept) told short rests three bad not foreign is = record {
  read = read;
  foreign = foreign kept refl;
  told = λ t. foreign_file given (d.seen old) kept (short t) (subst (λ (l : List ℕ). IsForeign given l kept) (told t) (foreign kept refl));
  bytes = rests.bytes;
  calls = three;
}
refused d old new given read owner Failed told short rests three bad not foreign is = absurd is
refused d old new given read owner Stopped told short rests three bad not foreign is = absurd is
refused d old new given read owner Memory told short rests three bad not foreign is = rests

pub returns-in_err-length-clause-refused : goal.returns-in_err-length-clause-refused
returns-in_err-length-clause-refused g c =
    let p = err_from_is_err_and c.from_residual.result c.from_residual.ensures.1 in
    rw (p.1, p.2) (tail_read_refused g.D.Disk c.args.disk.now c.read_front.new.disk c.args.fingerprint.now c.args.owner c.in_err-length.field-0.0 (c.in_err-length.ensures {u = tt}).refused)

pub returns-in_err-check_header-clause-calls : goal.returns-in_err-check_header-clause-calls
returns-in_err-check_header-clause-calls g c =
    let p = err_from_is_err_and c.from_residual-in_err-check_header.result c.from_residual-in_err-check_header.ensures.1 in
    rw (p.1, p.2) (makes_refused _ (c.in_ok-length.ensures {u = tt}).calls)

pub returns-in_err-check_header-clause-refused : goal.returns-in_err-check_header-clause-refused
returns-in_err-check_header-clause-refused g c =
    let p = err_from_is_err_and c.from_residual-in_err-check_header.result c.from_residual-in_err-check_header.ensures.1 in
    let b = c.in_ok-length.ensures {u = tt} in
    let h = c.in_err-check_header.ensures {u = tt} in
    rw (p.1, p.2) (refused g.D.Disk c.args.disk.now c.read_front.new.disk c.args.fingerprint.now c.deref.result.now c.args.owner c.in_err-check_header.field-0.0
    (λ t. c.deref.ensures.value ∙ b.bytes t) (λ t. omega (arith, b.length t, b.short)) (read_rests g.D.Disk g.met.D.Disk.keeping_tells c.args.disk.now c.read_front.new.disk b.seen b.durable) (omega (arith, b.calls.all refl)) h.bad h.not_foreign h.foreign h.why)

pub returns-in_err-directory-clause-calls : goal.returns-in_err-directory-clause-calls
returns-in_err-directory-clause-calls g c =
    let p = err_from_is_err_and c.from_residual-in_err-directory.result c.from_residual-in_err-directory.ensures.1 in
    rw (p.1, p.2) (makes_refused _ (c.in_ok-length.ensures {u = tt}).calls)

pub returns-clause-header : goal.returns-clause-header
returns-clause-header g c t =
    let seen = g.D.Disk.seen c.args.disk.now in
    let b = c.in_ok-length.ensures {u = tt} in
    let h = c.in_ok-check_header.ensures {u = tt} in
    let told = c.deref.ensures.value ∙ b.bytes t in
    record {
      same = ap (first_difference letters) (sym (letters_of_front seen) ∙ ap (take 8) (sym told)) ∙ h.letters;
      long = omega (arith, h.long, ap length told, length-take FIRST_GATE seen);
      fingerprint_same = sym (same_owner seen).fingerprint ∙ ap fingerprint_in (sym told) ∙ h.fingerprint;
      owner_same = sym (same_owner seen).owner ∙ ap owner_in (sym told) ∙ h.owner;
      slots_same = sym (same_slots seen) ∙ ap slots_in (sym (c.deref-2.ensures.value ∙ b.bytes t)) ∙ sym (c.in_ok-directory.ensures {u = tt});
    }
