-- Printed by tools/rows/witnesses.js.
use Rattle.std.specs.Prelude.{ℕ, List, [], ◌∷◌, false, codes, None}
use Rattle.es_base.specs.Tree.{Tree, end, more, child, list, string, no_string, boolean, literal, trees}
use Rattle.es_base.specs.declared.kind.Kind.{Kind}
use Rattle.es_base.specs.declared.ledger.LedgerEntry.{LedgerEntry}
use Rattle.es_base.specs.declared.literal.LiteralValue.TheVariants as literal_value
use Rattle.es_steps.specs.Generated.{node}
use Rattle.es_steps.specs.Options.{options_of}
use Rattle.es_steps.specs.declared.options.Options.{Options}

-- two regular expressions of one text, of which one is given to a name: `f(y = /a/, /a/);`
abbrev pub first_regular_expressions_of_one_text : Tree
first_regular_expressions_of_one_text = node Kind.Program 0 (more (string (codes "script")) (more (list (trees (node Kind.ExpressionStatement 1 (more (child (node Kind.CallExpression 2 (more (child (node Kind.IdentifierReference 3 (more (string (codes "f")) end))) (more (list (trees (node Kind.AssignmentExpression 4 (more (string (codes "=")) (more (child (node Kind.IdentifierReference 5 (more (string (codes "y")) end))) (more (child (node Kind.Literal 6 (more (literal (literal_value.RegExp (codes "a") (codes ""))) end))) end))) ∷ node Kind.Literal 7 (more (literal (literal_value.RegExp (codes "a") (codes ""))) end) ∷ []))) (more (boolean false) end))))) (more no_string end)) ∷ []))) end))

-- `f(/a/, y = /a/);`, with numbers of the first
abbrev pub second_regular_expressions_of_one_text : Tree
second_regular_expressions_of_one_text = node Kind.Program 0 (more (string (codes "script")) (more (list (trees (node Kind.ExpressionStatement 1 (more (child (node Kind.CallExpression 2 (more (child (node Kind.IdentifierReference 3 (more (string (codes "f")) end))) (more (list (trees (node Kind.Literal 6 (more (literal (literal_value.RegExp (codes "a") (codes ""))) end) ∷ node Kind.AssignmentExpression 4 (more (string (codes "=")) (more (child (node Kind.IdentifierReference 5 (more (string (codes "y")) end))) (more (child (node Kind.Literal 7 (more (literal (literal_value.RegExp (codes "a") (codes ""))) end))) end))) ∷ []))) (more (boolean false) end))))) (more no_string end)) ∷ []))) end))

abbrev pub options_regular_expressions_of_one_text : Options
options_regular_expressions_of_one_text = options_of false None false
