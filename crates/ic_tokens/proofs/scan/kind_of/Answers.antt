use Rattle.std.proofs.Common.{sym, ◌∙◌}
use Rattle.std.proofs.Common.{w64}
use Rattle.std.proofs.lemmas.Int.{to_z-of_z}
use Rattle.ic_tokens.proofs.Found.{token_fixed, token_name, token_number, token_operator, no_token, fixed_kind, operator_kind}
use Rattle.def_syntax.specs.Text.{look_up, operators}
use Rattle.ic_tokens.proofs.scan.kind_of.Goals as goal

pub returns-then-is_fixed-clause-token : goal.returns-then-is_fixed-clause-token
returns-then-is_fixed-clause-token c = token_fixed c.args.fixed c.args.word.now (sym c.is_fixed.ensures ∙ c.if-is_fixed.true)

pub returns-then-is_name-clause-token : goal.returns-then-is_name-clause-token
returns-then-is_name-clause-token c = token_name c.args.fixed c.args.word.now (sym c.is_fixed.ensures ∙ c.if-is_fixed.false) (sym c.is_name.ensures ∙ c.if-is_name.true)

pub returns-in-Some-clause-token : goal.returns-in-Some-clause-token
returns-in-Some-clause-token c = rw (to_z-of_z w64 c.in-Some.n c.in-Some.ensures.fits)
    (token_number c.args.fixed c.args.word.now c.in-Some.n (sym c.is_fixed.ensures ∙ c.if-is_fixed.false) (sym c.is_name.ensures ∙ c.if-is_name.false) (sym c.in-Some.ensures.value))

pub returns-then-is_operator-clause-token : goal.returns-then-is_operator-clause-token
returns-then-is_operator-clause-token c =
    token_operator c.args.fixed c.args.word.now (sym c.is_fixed.ensures ∙ c.if-is_fixed.false) (sym c.is_name.ensures ∙ c.if-is_name.false) (sym c.in-None.ensures.value) (sym c.is_operator.ensures ∙ c.if-is_operator.true)

pub returns-else-is_operator-clause-token : goal.returns-else-is_operator-clause-token
returns-else-is_operator-clause-token c =
    no_token c.args.fixed c.args.word.now (sym c.is_fixed.ensures ∙ c.if-is_fixed.false) (sym c.is_name.ensures ∙ c.if-is_name.false) (sym c.in-None.ensures.value) (sym c.is_operator.ensures ∙ c.if-is_operator.false)

pub returns-then-is_fixed-clause-kind : goal.returns-then-is_fixed-clause-kind
returns-then-is_fixed-clause-kind c = fixed_kind c.args.fixed c.args.word.now (sym c.is_fixed.ensures ∙ c.if-is_fixed.true)

pub returns-then-is_operator-clause-kind : goal.returns-then-is_operator-clause-kind
returns-then-is_operator-clause-kind c = operator_kind (look_up c.args.word.now operators) c.args.word.now (sym c.is_operator.ensures ∙ c.if-is_operator.true)
