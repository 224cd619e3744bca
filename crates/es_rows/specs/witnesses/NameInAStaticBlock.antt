-- Printed by tools/rows/witnesses.js.
use Rattle.std.specs.Prelude.{ℕ, List, [], ◌∷◌, false, codes, Some, None}
use Rattle.es_base.specs.Tree.{Tree, end, more, child, absent, list, string, no_string, boolean, literal, trees}
use Rattle.es_base.specs.declared.kind.Kind.{Kind}
use Rattle.es_base.specs.declared.ledger.GeneratedKind.{GeneratedKind}
use Rattle.es_base.specs.declared.ledger.LedgerEntry.{LedgerEntry}
use Rattle.es_base.specs.declared.literal.LiteralValue.TheVariants as literal_value
use Rattle.es_steps.specs.Generated.{node}
use Rattle.es_steps.specs.Options.{options_of}
use Rattle.es_steps.specs.declared.options.Options.{Options}

-- `"use strict"; f(class { x = 1; static { g(); } }, await);`
abbrev pub source_name_in_a_static_block : Tree
source_name_in_a_static_block = node Kind.Program 0 (more (string (codes "script")) (more (list (trees (node Kind.ExpressionStatement 1 (more (child (node Kind.Literal 2 (more (literal (literal_value.String (codes "use strict") (Some (codes "\"use strict\"")))) end))) (more (string (codes "use strict")) end)) ∷ node Kind.ExpressionStatement 3 (more (child (node Kind.CallExpression 4 (more (child (node Kind.IdentifierReference 5 (more (string (codes "f")) end))) (more (list (trees (node Kind.ClassExpression 6 (more absent (more absent (more (child (node Kind.ClassBody 7 (more (list (trees (node Kind.PropertyDefinition 8 (more (child (node Kind.IdentifierName 9 (more (string (codes "x")) end))) (more (child (node Kind.Literal 10 (more (literal (literal_value.Number (codes "1"))) end))) (more (boolean false) (more (boolean false) end)))) ∷ node Kind.StaticBlock 11 (more (list (trees (node Kind.ExpressionStatement 12 (more (child (node Kind.CallExpression 13 (more (child (node Kind.IdentifierReference 14 (more (string (codes "g")) end))) (more (list end) (more (boolean false) end))))) (more no_string end)) ∷ []))) end) ∷ []))) end))) end))) ∷ node Kind.IdentifierReference 15 (more (string (codes "await")) end) ∷ []))) (more (boolean false) end))))) (more no_string end)) ∷ []))) end))

-- a name `await` in a static block, where `"use strict"; f(class { constructor() { B.defineProperty(this, "x", 1); } static { g(); } }, await);` is right
abbrev pub output_name_in_a_static_block : Tree
output_name_in_a_static_block = node Kind.Program 0 (more (string (codes "script")) (more (list (trees (node Kind.ExpressionStatement 1 (more (child (node Kind.Literal 2 (more (literal (literal_value.String (codes "use strict") (Some (codes "\"use strict\"")))) end))) (more (string (codes "use strict")) end)) ∷ node Kind.VariableDeclaration 16 (more (string (codes "var")) (more (list (trees (node Kind.VariableDeclarator 17 (more (child (node Kind.BindingIdentifier 18 (more (string (codes "_t")) end))) (more absent end)) ∷ []))) end)) ∷ node Kind.ExpressionStatement 3 (more (child (node Kind.CallExpression 4 (more (child (node Kind.IdentifierReference 5 (more (string (codes "f")) end))) (more (list (trees (node Kind.ClassExpression 6 (more absent (more absent (more (child (node Kind.ClassBody 7 (more (list (trees (node Kind.MethodDefinition 19 (more (child (node Kind.IdentifierName 20 (more (string (codes "constructor")) end))) (more (child (node Kind.FunctionExpression 21 (more absent (more (list end) (more (child (node Kind.BlockStatement 22 (more (list (trees (node Kind.ExpressionStatement 23 (more (child (node Kind.CallExpression 24 (more (child (node Kind.MemberExpression 25 (more (child (node Kind.IdentifierReference 26 (more (string (codes "babelHelpers")) end))) (more (child (node Kind.IdentifierName 27 (more (string (codes "defineProperty")) end))) (more (boolean false) (more (boolean false) end)))))) (more (list (trees (node Kind.ThisExpression 28 end ∷ node Kind.Literal 29 (more (literal (literal_value.String (codes "x") None)) end) ∷ node Kind.Literal 10 (more (literal (literal_value.Number (codes "1"))) end) ∷ []))) (more (boolean false) end))))) (more no_string end)) ∷ []))) end))) (more (boolean false) (more (boolean false) end))))))) (more (string (codes "constructor")) (more (boolean false) (more (boolean false) end))))) ∷ node Kind.StaticBlock 11 (more (list (trees (node Kind.ExpressionStatement 12 (more (child (node Kind.CallExpression 13 (more (child (node Kind.IdentifierReference 14 (more (string (codes "g")) end))) (more (list end) (more (boolean false) end))))) (more no_string end)) ∷ node Kind.ExpressionStatement 30 (more (child (node Kind.AssignmentExpression 31 (more (string (codes "=")) (more (child (node Kind.IdentifierReference 32 (more (string (codes "_t")) end))) (more (child (node Kind.IdentifierReference 15 (more (string (codes "await")) end))) end))))) (more no_string end)) ∷ []))) end) ∷ []))) end))) end))) ∷ node Kind.IdentifierReference 33 (more (string (codes "_t")) end) ∷ []))) (more (boolean false) end))))) (more no_string end)) ∷ []))) end))

abbrev pub generated_name_in_a_static_block : List LedgerEntry
generated_name_in_a_static_block = record { name = codes "_t"; kind = GeneratedKind.Temp } ∷ []

abbrev pub options_name_in_a_static_block : Options
options_name_in_a_static_block = options_of false (Some (record { loose = false })) false
