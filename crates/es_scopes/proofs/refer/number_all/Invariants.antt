use Rattle.std.proofs.Common.{[]}
use Rattle.es_scopes.specs.Tables.{declared, none_declared}
use Rattle.es_scopes.proofs.TableSteps.{Numbers}
use Rattle.es_scopes.proofs.refer.number_all.Given as goal

abbrev pub invariant-loop-entry : goal.invariant-loop-entry
invariant-loop-entry l = Numbers l.entries (record { declarations = declared none_declared l.entries; ids = []; next_scope = 0 }) l.entry-index l.numbering
