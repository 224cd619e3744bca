use Rattle.es_scopes.specs.declared.flags.TheConstants.ReferenceFlags as flag
use Rattle.es_duplicates.proofs.Reading.{symbol_still}
use Rattle.es_duplicates.proofs.read.assign_and_read.Goals as goal

pub read_names-requires-clause-symbol : goal.read_names-requires-clause-symbol
read_names-requires-clause-symbol c = symbol_still c.args.scoping.now c.create_assignment.new.scoping c.args.name.now.symbol_id flag.WRITE c.in_ok-first.ensures.table c.requires.symbol
