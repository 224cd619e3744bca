use Rattle.std.proofs.Common.{rules, tests}
use Rattle.es_owed_definitions.proofs.DefinitionForms.{not_three}
use Rattle.es_owed_definitions.proofs.forms.object_definition.Goals as goal
use Rattle.es_owed_definitions.proofs.forms.object_definition.Goals.{in_default-via-then-arguments-lt3, in_default-via-else-arguments-lt3+else-arguments-lt4}

pub returns-in_default : goal.returns-in_default
returns-in_default c =
    elim c.in_default.branch [
      | in_default-via-then-arguments-lt3 w ↦ search (rules, tests, not_three)
      | in_default-via-else-arguments-lt3+else-arguments-lt4 w ↦ search (rules, tests, not_three)
    ]
