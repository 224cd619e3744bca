-- Printed by tools/rows/witnesses.js.
use Rattle.std.specs.Prelude.{ℕ, List, [], ◌∷◌, false, codes, Some, None}
use Rattle.es_base.specs.Tree.{Tree, end, more, child, absent, list, string, no_string, boolean, literal, trees}
use Rattle.es_base.specs.declared.kind.Kind.{Kind}
use Rattle.es_base.specs.declared.ledger.LedgerEntry.{LedgerEntry}
use Rattle.es_base.specs.declared.literal.LiteralValue.TheVariants as literal_value
use Rattle.es_steps.specs.Generated.{node}
use Rattle.es_steps.specs.Options.{options_of}
use Rattle.es_steps.specs.declared.options.Options.{Options}

-- `f((x = y = /a/, /a/, class { z = 1; }), x === y);`
abbrev pub source_regular_expressions_exchanged : Tree
source_regular_expressions_exchanged = node Kind.Program 0 (more (string (codes "script")) (more (list (trees (node Kind.ExpressionStatement 1 (more (child (node Kind.CallExpression 2 (more (child (node Kind.IdentifierReference 3 (more (string (codes "f")) end))) (more (list (trees (node Kind.SequenceExpression 4 (more (list (trees (node Kind.AssignmentExpression 5 (more (string (codes "=")) (more (child (node Kind.IdentifierReference 6 (more (string (codes "x")) end))) (more (child (node Kind.AssignmentExpression 7 (more (string (codes "=")) (more (child (node Kind.IdentifierReference 8 (more (string (codes "y")) end))) (more (child (node Kind.Literal 9 (more (literal (literal_value.RegExp (codes "a") (codes ""))) end))) end))))) end))) ∷ node Kind.Literal 10 (more (literal (literal_value.RegExp (codes "a") (codes ""))) end) ∷ node Kind.ClassExpression 11 (more absent (more absent (more (child (node Kind.ClassBody 12 (more (list (trees (node Kind.PropertyDefinition 13 (more (child (node Kind.IdentifierName 14 (more (string (codes "z")) end))) (more (child (node Kind.Literal 15 (more (literal (literal_value.Number (codes "1"))) end))) (more (boolean false) (more (boolean false) end)))) ∷ []))) end))) end))) ∷ []))) end) ∷ node Kind.BinaryExpression 16 (more (string (codes "===")) (more (child (node Kind.IdentifierReference 17 (more (string (codes "x")) end))) (more (child (node Kind.IdentifierReference 18 (more (string (codes "y")) end))) end))) ∷ []))) (more (boolean false) end))))) (more no_string end)) ∷ []))) end))

-- a regular expression exchanged with another one of its text, which is dropped: `f((y = /a/, x = /a/, class { constructor() { B.defineProperty(this, "z", 1); } }), x === y);`
abbrev pub output_regular_expressions_exchanged : Tree
output_regular_expressions_exchanged = node Kind.Program 0 (more (string (codes "script")) (more (list (trees (node Kind.ExpressionStatement 1 (more (child (node Kind.CallExpression 2 (more (child (node Kind.IdentifierReference 3 (more (string (codes "f")) end))) (more (list (trees (node Kind.SequenceExpression 4 (more (list (trees (node Kind.AssignmentExpression 7 (more (string (codes "=")) (more (child (node Kind.IdentifierReference 8 (more (string (codes "y")) end))) (more (child (node Kind.Literal 9 (more (literal (literal_value.RegExp (codes "a") (codes ""))) end))) end))) ∷ node Kind.AssignmentExpression 5 (more (string (codes "=")) (more (child (node Kind.IdentifierReference 6 (more (string (codes "x")) end))) (more (child (node Kind.Literal 10 (more (literal (literal_value.RegExp (codes "a") (codes ""))) end))) end))) ∷ node Kind.ClassExpression 11 (more absent (more absent (more (child (node Kind.ClassBody 12 (more (list (trees (node Kind.MethodDefinition 19 (more (child (node Kind.IdentifierName 20 (more (string (codes "constructor")) end))) (more (child (node Kind.FunctionExpression 21 (more absent (more (list end) (more (child (node Kind.BlockStatement 22 (more (list (trees (node Kind.ExpressionStatement 23 (more (child (node Kind.CallExpression 24 (more (child (node Kind.MemberExpression 25 (more (child (node Kind.IdentifierReference 26 (more (string (codes "babelHelpers")) end))) (more (child (node Kind.IdentifierName 27 (more (string (codes "defineProperty")) end))) (more (boolean false) (more (boolean false) end)))))) (more (list (trees (node Kind.ThisExpression 28 end ∷ node Kind.Literal 29 (more (literal (literal_value.String (codes "z") None)) end) ∷ node Kind.Literal 15 (more (literal (literal_value.Number (codes "1"))) end) ∷ []))) (more (boolean false) end))))) (more no_string end)) ∷ []))) end))) (more (boolean false) (more (boolean false) end))))))) (more (string (codes "constructor")) (more (boolean false) (more (boolean false) end))))) ∷ []))) end))) end))) ∷ []))) end) ∷ node Kind.BinaryExpression 16 (more (string (codes "===")) (more (child (node Kind.IdentifierReference 17 (more (string (codes "x")) end))) (more (child (node Kind.IdentifierReference 18 (more (string (codes "y")) end))) end))) ∷ []))) (more (boolean false) end))))) (more no_string end)) ∷ []))) end))

abbrev pub generated_regular_expressions_exchanged : List LedgerEntry
generated_regular_expressions_exchanged = []

abbrev pub options_regular_expressions_exchanged : Options
options_regular_expressions_exchanged = options_of false (Some (record { loose = false })) false
