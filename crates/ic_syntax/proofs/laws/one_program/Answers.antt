use Rattle.ic_syntax.proofs.laws.one_program.Goals as goal

pub returns : goal.returns
returns c text p q a b = cc
