-- Printed by tools/rows/witnesses.js.
use Rattle.std.specs.Prelude.{ℕ, List, [], ◌∷◌, false, codes, None}
use Rattle.es_base.specs.Tree.{Tree, end, more, child, list, string, no_string, boolean, literal, trees}
use Rattle.es_base.specs.declared.kind.Kind.{Kind}
use Rattle.es_base.specs.declared.ledger.LedgerEntry.{LedgerEntry}
use Rattle.es_base.specs.declared.literal.LiteralValue.TheVariants as literal_value
use Rattle.es_steps.specs.Generated.{node}
use Rattle.es_steps.specs.Options.{options_of}
use Rattle.es_steps.specs.declared.options.Options.{Options}

-- `arguments` outside of all functions is a free name: `arguments.x = 1;`
abbrev pub source_arguments_of_a_program : Tree
source_arguments_of_a_program = node Kind.Program 0 (more (string (codes "script")) (more (list (trees (node Kind.ExpressionStatement 1 (more (child (node Kind.AssignmentExpression 2 (more (string (codes "=")) (more (child (node Kind.MemberExpression 3 (more (child (node Kind.IdentifierReference 4 (more (string (codes "arguments")) end))) (more (child (node Kind.IdentifierName 5 (more (string (codes "x")) end))) (more (boolean false) (more (boolean false) end)))))) (more (child (node Kind.Literal 6 (more (literal (literal_value.Number (codes "1"))) end))) end))))) (more no_string end)) ∷ []))) end))

abbrev pub options_arguments_of_a_program : Options
options_arguments_of_a_program = options_of false None false
