-- Printed by tools/rows/witnesses.js.
use Rattle.std.specs.Prelude.{ℕ, List, [], ◌∷◌, false, codes, Some, None}
use Rattle.es_base.specs.Tree.{Tree, end, more, child, absent, list, string, no_string, boolean, literal, trees}
use Rattle.es_base.specs.declared.kind.Kind.{Kind}
use Rattle.es_base.specs.declared.ledger.LedgerEntry.{LedgerEntry}
use Rattle.es_base.specs.declared.literal.LiteralValue.TheVariants as literal_value
use Rattle.es_steps.specs.Generated.{node}
use Rattle.es_steps.specs.Options.{options_of}
use Rattle.es_steps.specs.declared.options.Options.{Options}

-- `try { f(); } catch (e) { { let e = class { x = 1; }; } }`
abbrev pub source_let_beside_a_caught_name : Tree
source_let_beside_a_caught_name = node Kind.Program 0 (more (string (codes "script")) (more (list (trees (node Kind.TryStatement 1 (more (child (node Kind.BlockStatement 2 (more (list (trees (node Kind.ExpressionStatement 3 (more (child (node Kind.CallExpression 4 (more (child (node Kind.IdentifierReference 5 (more (string (codes "f")) end))) (more (list end) (more (boolean false) end))))) (more no_string end)) ∷ []))) end))) (more (child (node Kind.CatchClause 6 (more (child (node Kind.BindingIdentifier 7 (more (string (codes "e")) end))) (more (child (node Kind.BlockStatement 8 (more (list (trees (node Kind.BlockStatement 9 (more (list (trees (node Kind.VariableDeclaration 10 (more (string (codes "let")) (more (list (trees (node Kind.VariableDeclarator 11 (more (child (node Kind.BindingIdentifier 12 (more (string (codes "e")) end))) (more (child (node Kind.ClassExpression 13 (more absent (more absent (more (child (node Kind.ClassBody 14 (more (list (trees (node Kind.PropertyDefinition 15 (more (child (node Kind.IdentifierName 16 (more (string (codes "x")) end))) (more (child (node Kind.Literal 17 (more (literal (literal_value.Number (codes "1"))) end))) (more (boolean false) (more (boolean false) end)))) ∷ []))) end))) end))))) end)) ∷ []))) end)) ∷ []))) end) ∷ []))) end))) end)))) (more absent end))) ∷ []))) end))

-- a `let` moved out of its block, beside the name that a catch declares, where `try { f(); } catch (e) { { let e = class { constructor() { B.defineProperty(this, "x", 1); } }; } }` is right
abbrev pub output_let_beside_a_caught_name : Tree
output_let_beside_a_caught_name = node Kind.Program 0 (more (string (codes "script")) (more (list (trees (node Kind.TryStatement 1 (more (child (node Kind.BlockStatement 2 (more (list (trees (node Kind.ExpressionStatement 3 (more (child (node Kind.CallExpression 4 (more (child (node Kind.IdentifierReference 5 (more (string (codes "f")) end))) (more (list end) (more (boolean false) end))))) (more no_string end)) ∷ []))) end))) (more (child (node Kind.CatchClause 6 (more (child (node Kind.BindingIdentifier 7 (more (string (codes "e")) end))) (more (child (node Kind.BlockStatement 8 (more (list (trees (node Kind.VariableDeclaration 10 (more (string (codes "let")) (more (list (trees (node Kind.VariableDeclarator 11 (more (child (node Kind.BindingIdentifier 12 (more (string (codes "e")) end))) (more (child (node Kind.ClassExpression 13 (more absent (more absent (more (child (node Kind.ClassBody 14 (more (list (trees (node Kind.MethodDefinition 18 (more (child (node Kind.IdentifierName 19 (more (string (codes "constructor")) end))) (more (child (node Kind.FunctionExpression 20 (more absent (more (list end) (more (child (node Kind.BlockStatement 21 (more (list (trees (node Kind.ExpressionStatement 22 (more (child (node Kind.CallExpression 23 (more (child (node Kind.MemberExpression 24 (more (child (node Kind.IdentifierReference 25 (more (string (codes "babelHelpers")) end))) (more (child (node Kind.IdentifierName 26 (more (string (codes "defineProperty")) end))) (more (boolean false) (more (boolean false) end)))))) (more (list (trees (node Kind.ThisExpression 27 end ∷ node Kind.Literal 28 (more (literal (literal_value.String (codes "x") None)) end) ∷ node Kind.Literal 17 (more (literal (literal_value.Number (codes "1"))) end) ∷ []))) (more (boolean false) end))))) (more no_string end)) ∷ []))) end))) (more (boolean false) (more (boolean false) end))))))) (more (string (codes "constructor")) (more (boolean false) (more (boolean false) end))))) ∷ []))) end))) end))))) end)) ∷ []))) end)) ∷ node Kind.BlockStatement 9 (more (list end) end) ∷ []))) end))) end)))) (more absent end))) ∷ []))) end))

abbrev pub generated_let_beside_a_caught_name : List LedgerEntry
generated_let_beside_a_caught_name = []

abbrev pub options_let_beside_a_caught_name : Options
options_let_beside_a_caught_name = options_of false (Some (record { loose = false })) false
