use Rattle.std.proofs.Common.{◌∙◌, sym, ap, ℕ}
use Rattle.std.specs.Prelude.{◌==◌, is_some}
use Rattle.ic_base.specs.declared.messages.Kind.{Kind}
use Rattle.def_plain.specs.History.{entry_of}
use Rattle.ic_node.proofs.Entries.{tcom_gives}
use Rattle.ic_node.proofs.counting.is_entry_at.Goals as goal

pub returns-in-Tcom : goal.returns-in-Tcom
returns-in-Tcom c = λ r at t.
    ap (λ (n : ℕ). n == 10) (c.kind.ensures r at) ∙ tcom_gives t r ∙ ap (λ (k : Kind). is_some (entry_of k t r)) (sym c.in-Tcom.is)
