-- Declarations of generated names.
use Rattle.std.specs.Prelude.{Option, None, Some}
use Rattle.es_base.specs.Numbered.{unnumbered}
use Rattle.es_base.specs.Tree.{Tree}
use Rattle.es_builders.specs.declared.bound_identifier.BoundIdentifier.{BoundIdentifier}
use Rattle.es_expression.specs.Identifier.{binding_identifier}
use Rattle.es_statement.specs.Statement.{variable_declarator}

-- `name` or `name = init`, in a declaration
abbrev pub declarator : BoundIdentifier → Option Tree → Tree
declarator b init = variable_declarator unnumbered None (binding_identifier unnumbered None (Some b.symbol_id.0) b.name) init
