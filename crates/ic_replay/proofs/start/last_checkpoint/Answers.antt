use Rattle.std.proofs.Common.{◌≡◌, ◌∙◌, ◌+◌, ◌-◌, ◌<◌, suc, ℕ, List, Some, length, drop, ap, sym, subst, arith, length-drop}
use Rattle.std.specs.Prelude.{slice_get}
use Rattle.std.proofs.lemmas.Option.{get_or_from_slice_get}
use Rattle.ic_base.specs.declared.record.Record.{Record}
use Rattle.ic_base.specs.declared.record.Record.TheVariants.{Checkpoint}
use Rattle.def_log.specs.Spelling.{Fits}
use Rattle.ic_replay.proofs.Checkpoints.{none_where_all, found_before, place_is}
use Rattle.ic_replay.proofs.start.last_checkpoint.Goals as goal

pub returns-then-behind-len-clause-none : goal.returns-then-behind-len-clause-none
returns-then-behind-len-clause-none c =
    none_where_all c.args.records.now (omega (arith, c.count_behind-behind.ensures, c.len.ensures.count, c.if-behind-len.true))

pub overflow_sub-i-2 : goal.overflow_sub-i-2
overflow_sub-i-2 c =
    let rs = c.args.records.now in
    let f = found_before rs (λ all. omega (arith, all, c.count_behind-behind.ensures, c.len.ensures.count, c.if-behind-len.false)) in
    let within = f.within in
    omega (arith, c.count_behind-behind.ensures, c.len-2.ensures.count, within, ap (length {A = Record}) f.behind, length-drop (suc f.place) rs)

pub unreachable-requires : goal.unreachable-requires
unreachable-requires c =
    let rs = c.args.records.now in
    let f = found_before rs (λ all. omega (arith, all, c.count_behind-behind.ensures, c.len.ensures.count, c.if-behind-len.false)) in
    let same : f.place ≡ c.len-2.result - 1 - c.count_behind-behind.result = place_is rs f _ (omega (arith, c.count_behind-behind.ensures, c.len-2.ensures.count)) in
    let read : Some c.in_ok-image.field-0 ≡ Some (Checkpoint f.image) = sym (c.in_ok-image.ensures {u = tt}) ∙ ap (slice_get rs) (sym same) ∙ f.there in
    let is : c.in_ok-image.field-0 ≡ Checkpoint f.image = cc read in
    c.in_default.not-Checkpoint f.image is

pub returns-clause-some : goal.returns-clause-some
returns-clause-some c =
    let rs = c.args.records.now in
    let i : ℕ = c.len-2.result - 1 - c.count_behind-behind.result in
    let f = found_before rs (λ all. omega (arith, all, c.count_behind-behind.ensures, c.len.ensures.count, c.if-behind-len.false)) in
    let same : f.place ≡ i = place_is rs f i (omega (arith, c.count_behind-behind.ensures, c.len-2.ensures.count)) in
    let at : slice_get rs i ≡ Some (Checkpoint c.in-Checkpoint.image) = c.in_ok-image.ensures {u = tt} ∙ ap (λ (r : Record). Some r) c.in-Checkpoint.is in
    let both : Some (Checkpoint f.image) ≡ Some (Checkpoint c.in-Checkpoint.image) = sym f.there ∙ ap (slice_get rs) same ∙ at in
    let image : f.image ≡ c.in-Checkpoint.image = cc both in
    let within : i < length rs = subst (λ (n : ℕ). n < length rs) same f.within in
    let fit : Fits (Checkpoint c.in-Checkpoint.image) = subst Fits (get_or_from_slice_get rs i (Checkpoint c.in-Checkpoint.image) (Checkpoint c.in-Checkpoint.image) at) (c.requires i (Checkpoint c.in-Checkpoint.image) within) in
    let next : suc f.place ≡ i + 1 = omega (arith, same) in
    record {
      within = within;
      image_is = f.last ∙ ap (λ (l : List ℕ). Some l) image;
      short = fit.0;
      behind = f.behind ∙ ap (λ n. drop n rs) next;
    }
