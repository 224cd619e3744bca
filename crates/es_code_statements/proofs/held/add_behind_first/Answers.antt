use Rattle.es_codes.specs.CodeView.{codes_of}
use Rattle.es_code_statements.proofs.Cases.{none_first, none_behind}
use Rattle.es_code_statements.proofs.held.add_behind_first.Goals as goal

pub returns-in-empty-clause-operands : goal.returns-in-empty-clause-operands
returns-in-empty-clause-operands c = none_first (codes_of c.args.operands.now) c.args.members.now c.in-empty.len_below

pub returns-in-empty-clause-held : goal.returns-in-empty-clause-held
returns-in-empty-clause-held c = none_behind (codes_of c.args.held.now) c.args.members.now c.in-empty.len_below
