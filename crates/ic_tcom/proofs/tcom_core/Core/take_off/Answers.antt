use Rattle.std.proofs.Common.{◌≡◌, ◌∙◌, ◌++◌, ◌∷◌, [], List, ap, take, length, arith}
use Rattle.std.proofs.lemmas.List.{length_push, take_at}
use Rattle.ic_base.specs.declared.record.Record.{Record}
use Rattle.ic_tcom.proofs.tcom_core.Core.take_off.Goals as goal

pub returns-clause-records : goal.returns-clause-records
returns-clause-records c = λ before last is.
    let all : c.replace-all.result ≡ before ++ last ∷ [] = c.replace-all.ensures.value ∙ is in
    let n : length before ≡ c.saturating_sub-n.result = omega (arith, c.saturating_sub-n.ensures, c.len.ensures.count, ap (λ (rs : List Record). length rs) all, length_push before last) in
    c.first.ensures ∙ ap (take c.saturating_sub-n.result) all ∙ take_at before (last ∷ []) c.saturating_sub-n.result n
