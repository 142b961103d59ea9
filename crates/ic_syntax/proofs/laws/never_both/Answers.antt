use Rattle.ic_syntax.proofs.laws.never_both.Goals as goal

pub returns : goal.returns
returns c text p line cause a r = cc
