-- Printed by tools/rows/witnesses.js.
use Rattle.std.specs.Prelude.{ℕ, List, [], ◌∷◌, false, codes, Some, None}
use Rattle.es_base.specs.Tree.{Tree, end, more, child, absent, list, string, no_string, boolean, literal, trees}
use Rattle.es_base.specs.declared.kind.Kind.{Kind}
use Rattle.es_base.specs.declared.ledger.LedgerEntry.{LedgerEntry}
use Rattle.es_base.specs.declared.literal.LiteralValue.TheVariants as literal_value
use Rattle.es_steps.specs.Generated.{node}
use Rattle.es_steps.specs.Options.{options_of}
use Rattle.es_steps.specs.declared.options.Options.{Options}

-- `let y; f(() => y, class { x = 1; });`
abbrev pub source_let_without_a_value_behind_a_call : Tree
source_let_without_a_value_behind_a_call = node Kind.Program 0 (more (string (codes "script")) (more (list (trees (node Kind.VariableDeclaration 1 (more (string (codes "let")) (more (list (trees (node Kind.VariableDeclarator 2 (more (child (node Kind.BindingIdentifier 3 (more (string (codes "y")) end))) (more absent end)) ∷ []))) end)) ∷ node Kind.ExpressionStatement 4 (more (child (node Kind.CallExpression 5 (more (child (node Kind.IdentifierReference 6 (more (string (codes "f")) end))) (more (list (trees (node Kind.ArrowFunctionExpression 7 (more (list end) (more (child (node Kind.IdentifierReference 8 (more (string (codes "y")) end))) (more (boolean false) end))) ∷ node Kind.ClassExpression 9 (more absent (more absent (more (child (node Kind.ClassBody 10 (more (list (trees (node Kind.PropertyDefinition 11 (more (child (node Kind.IdentifierName 12 (more (string (codes "x")) end))) (more (child (node Kind.Literal 13 (more (literal (literal_value.Number (codes "1"))) end))) (more (boolean false) (more (boolean false) end)))) ∷ []))) end))) end))) ∷ []))) (more (boolean false) end))))) (more no_string end)) ∷ []))) end))

-- a let without a value stands behind a call that may call what reads it: `f(() => y, class { constructor() { B.defineProperty(this, "x", 1); } }); let y;`
abbrev pub output_let_without_a_value_behind_a_call : Tree
output_let_without_a_value_behind_a_call = node Kind.Program 0 (more (string (codes "script")) (more (list (trees (node Kind.ExpressionStatement 4 (more (child (node Kind.CallExpression 5 (more (child (node Kind.IdentifierReference 6 (more (string (codes "f")) end))) (more (list (trees (node Kind.ArrowFunctionExpression 7 (more (list end) (more (child (node Kind.IdentifierReference 8 (more (string (codes "y")) end))) (more (boolean false) end))) ∷ node Kind.ClassExpression 9 (more absent (more absent (more (child (node Kind.ClassBody 10 (more (list (trees (node Kind.MethodDefinition 14 (more (child (node Kind.IdentifierName 15 (more (string (codes "constructor")) end))) (more (child (node Kind.FunctionExpression 16 (more absent (more (list end) (more (child (node Kind.BlockStatement 17 (more (list (trees (node Kind.ExpressionStatement 18 (more (child (node Kind.CallExpression 19 (more (child (node Kind.MemberExpression 20 (more (child (node Kind.IdentifierReference 21 (more (string (codes "babelHelpers")) end))) (more (child (node Kind.IdentifierName 22 (more (string (codes "defineProperty")) end))) (more (boolean false) (more (boolean false) end)))))) (more (list (trees (node Kind.ThisExpression 23 end ∷ node Kind.Literal 24 (more (literal (literal_value.String (codes "x") None)) end) ∷ node Kind.Literal 13 (more (literal (literal_value.Number (codes "1"))) end) ∷ []))) (more (boolean false) end))))) (more no_string end)) ∷ []))) end))) (more (boolean false) (more (boolean false) end))))))) (more (string (codes "constructor")) (more (boolean false) (more (boolean false) end))))) ∷ []))) end))) end))) ∷ []))) (more (boolean false) end))))) (more no_string end)) ∷ node Kind.VariableDeclaration 1 (more (string (codes "let")) (more (list (trees (node Kind.VariableDeclarator 2 (more (child (node Kind.BindingIdentifier 3 (more (string (codes "y")) end))) (more absent end)) ∷ []))) end)) ∷ []))) end))

abbrev pub generated_let_without_a_value_behind_a_call : List LedgerEntry
generated_let_without_a_value_behind_a_call = []

abbrev pub options_let_without_a_value_behind_a_call : Options
options_let_without_a_value_behind_a_call = options_of false (Some (record { loose = false })) false
