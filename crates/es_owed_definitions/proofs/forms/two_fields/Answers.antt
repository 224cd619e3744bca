use Rattle.std.proofs.Common.{rules, tests}
use Rattle.es_owed_definitions.proofs.DefinitionForms.{not_two}
use Rattle.es_owed_definitions.proofs.forms.two_fields.Goals as goal
use Rattle.es_owed_definitions.proofs.forms.two_fields.Goals.{in_default-via-then-properties-lt2, in_default-via-else-properties-lt2+else-properties-lt3}

pub returns-in_default : goal.returns-in_default
returns-in_default c =
    elim c.in_default.branch [
      | in_default-via-then-properties-lt2 w ↦ search (rules, tests, not_two)
      | in_default-via-else-properties-lt2+else-properties-lt3 w ↦ search (rules, tests, not_two)
    ]
