use Rattle.std.proofs.Common.{◌≡◌, ◌∙◌, ◌++◌, ◌∷◌, ap, sym, map, decimal}
use Rattle.std.specs.Prelude.{codes}
use Rattle.std.specs.Fmt.{signed_decimal}
use Rattle.def_client.specs.Clients.{asked_words}
use Rattle.def_report.specs.Words.{spaced}
use Rattle.ic_report.specs.Said.{said}
use Rattle.ic_report.proofs.Saying.{said-behind}
use Rattle.ic_report.proofs.lines.add_asked.Goals as goal

pub returns-in_ok-add_values-in-Again : goal.returns-in_ok-add_values-in-Again
returns-in_ok-add_values-in-Again c =
    let values = map signed_decimal c.in-Again.args in
    said-behind c.args.out.now.items c.extend_from_slice-in-Again.new.self.items c.add_values.new.out.items (codes "again") (decimal c.in-Again.m ∷ values)
    c.in_ok-extend_from_slice-in-Again.ensures.items
    (c.in_ok-add_values-in-Again.ensures ∙ ap (λ t. said t values) c.in_ok-add_number-in-Again.ensures)
    ∙ ap (λ a. c.args.out.now.items ++ spaced (asked_words a)) (sym c.in-Again.is)
