-- How code tells statements apart.
use Rattle.std.specs.Prelude.{Bool, true, false}
use Rattle.es_binding_faults.specs.declared.hoisted.StatementForm.{StatementForm}

-- whether a statement declares for the list around it what its parts declare
abbrev pub passes_on : StatementForm → Bool
passes_on StatementForm.PassesOn = true
passes_on form = false
