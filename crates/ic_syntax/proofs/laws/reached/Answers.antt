use Rattle.ic_syntax.proofs.Reaching.{components, handlers, statements, choices, transactions, params, sent, shown, vars, keys, name}
use Rattle.ic_syntax.proofs.laws.reached.Goals as goal

pub returns-clause-components : goal.returns-clause-components
returns-clause-components c = components

pub returns-clause-handlers : goal.returns-clause-handlers
returns-clause-handlers c = handlers

pub returns-clause-statements : goal.returns-clause-statements
returns-clause-statements c = statements

pub returns-clause-choices : goal.returns-clause-choices
returns-clause-choices c = choices

pub returns-clause-transactions : goal.returns-clause-transactions
returns-clause-transactions c = transactions

pub returns-clause-params : goal.returns-clause-params
returns-clause-params c = params

pub returns-clause-sent : goal.returns-clause-sent
returns-clause-sent c = sent

pub returns-clause-shown : goal.returns-clause-shown
returns-clause-shown c = shown

pub returns-clause-vars : goal.returns-clause-vars
returns-clause-vars c = vars

pub returns-clause-keys : goal.returns-clause-keys
returns-clause-keys c = keys

pub returns-clause-name : goal.returns-clause-name
returns-clause-name c = name
