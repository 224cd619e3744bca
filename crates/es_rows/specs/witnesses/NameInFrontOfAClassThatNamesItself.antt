-- Printed by tools/rows/witnesses.js.
use Rattle.std.specs.Prelude.{ℕ, List, [], ◌∷◌, true, false, codes, Some, None}
use Rattle.es_base.specs.Tree.{Tree, end, more, child, absent, list, string, no_string, boolean, literal, trees}
use Rattle.es_base.specs.declared.kind.Kind.{Kind}
use Rattle.es_base.specs.declared.ledger.GeneratedKind.{GeneratedKind}
use Rattle.es_base.specs.declared.ledger.LedgerEntry.{LedgerEntry}
use Rattle.es_base.specs.declared.literal.LiteralValue.TheVariants as literal_value
use Rattle.es_steps.specs.Generated.{node}
use Rattle.es_steps.specs.Options.{options_of}
use Rattle.es_steps.specs.declared.options.Options.{Options}

-- `let r; async function m() { k(class C extends (r = () => C, P) { }, (g, class { x = 1; })); } m().catch(() => k(r())); let g = f();`
abbrev pub source_name_in_front_of_a_class_that_names_itself : Tree
source_name_in_front_of_a_class_that_names_itself = node Kind.Program 0 (more (string (codes "module")) (more (list (trees (node Kind.VariableDeclaration 1 (more (string (codes "let")) (more (list (trees (node Kind.VariableDeclarator 2 (more (child (node Kind.BindingIdentifier 3 (more (string (codes "r")) end))) (more absent end)) ∷ []))) end)) ∷ node Kind.FunctionDeclaration 4 (more (child (node Kind.BindingIdentifier 5 (more (string (codes "m")) end))) (more (list end) (more (child (node Kind.BlockStatement 6 (more (list (trees (node Kind.ExpressionStatement 7 (more (child (node Kind.CallExpression 8 (more (child (node Kind.IdentifierReference 9 (more (string (codes "k")) end))) (more (list (trees (node Kind.ClassExpression 10 (more (child (node Kind.BindingIdentifier 11 (more (string (codes "C")) end))) (more (child (node Kind.SequenceExpression 12 (more (list (trees (node Kind.AssignmentExpression 13 (more (string (codes "=")) (more (child (node Kind.IdentifierReference 14 (more (string (codes "r")) end))) (more (child (node Kind.ArrowFunctionExpression 15 (more (list end) (more (child (node Kind.IdentifierReference 16 (more (string (codes "C")) end))) (more (boolean false) end))))) end))) ∷ node Kind.IdentifierReference 17 (more (string (codes "P")) end) ∷ []))) end))) (more (child (node Kind.ClassBody 18 (more (list end) end))) end))) ∷ node Kind.SequenceExpression 19 (more (list (trees (node Kind.IdentifierReference 20 (more (string (codes "g")) end) ∷ node Kind.ClassExpression 21 (more absent (more absent (more (child (node Kind.ClassBody 22 (more (list (trees (node Kind.PropertyDefinition 23 (more (child (node Kind.IdentifierName 24 (more (string (codes "x")) end))) (more (child (node Kind.Literal 25 (more (literal (literal_value.Number (codes "1"))) end))) (more (boolean false) (more (boolean false) end)))) ∷ []))) end))) end))) ∷ []))) end) ∷ []))) (more (boolean false) end))))) (more no_string end)) ∷ []))) end))) (more (boolean true) (more (boolean false) end))))) ∷ node Kind.ExpressionStatement 26 (more (child (node Kind.CallExpression 27 (more (child (node Kind.MemberExpression 28 (more (child (node Kind.CallExpression 29 (more (child (node Kind.IdentifierReference 30 (more (string (codes "m")) end))) (more (list end) (more (boolean false) end))))) (more (child (node Kind.IdentifierName 31 (more (string (codes "catch")) end))) (more (boolean false) (more (boolean false) end)))))) (more (list (trees (node Kind.ArrowFunctionExpression 32 (more (list end) (more (child (node Kind.CallExpression 33 (more (child (node Kind.IdentifierReference 34 (more (string (codes "k")) end))) (more (list (trees (node Kind.CallExpression 35 (more (child (node Kind.IdentifierReference 36 (more (string (codes "r")) end))) (more (list end) (more (boolean false) end))) ∷ []))) (more (boolean false) end))))) (more (boolean false) end))) ∷ []))) (more (boolean false) end))))) (more no_string end)) ∷ node Kind.VariableDeclaration 37 (more (string (codes "let")) (more (list (trees (node Kind.VariableDeclarator 38 (more (child (node Kind.BindingIdentifier 39 (more (string (codes "g")) end))) (more (child (node Kind.CallExpression 40 (more (child (node Kind.IdentifierReference 41 (more (string (codes "f")) end))) (more (list end) (more (boolean false) end))))) end)) ∷ []))) end)) ∷ []))) end))

-- a name in its dead zone is read in front of a class expression whose heritage reads its name: `let r; async function m() { var _t; k(class C extends (r = () => C, _t = P, g, _t) { }, class { constructor() { B.defineProperty(this, "x", 1); } }); } m().catch(() => k(r())); let g = f();`
abbrev pub output_name_in_front_of_a_class_that_names_itself : Tree
output_name_in_front_of_a_class_that_names_itself = node Kind.Program 0 (more (string (codes "module")) (more (list (trees (node Kind.VariableDeclaration 1 (more (string (codes "let")) (more (list (trees (node Kind.VariableDeclarator 2 (more (child (node Kind.BindingIdentifier 3 (more (string (codes "r")) end))) (more absent end)) ∷ []))) end)) ∷ node Kind.FunctionDeclaration 4 (more (child (node Kind.BindingIdentifier 5 (more (string (codes "m")) end))) (more (list end) (more (child (node Kind.BlockStatement 6 (more (list (trees (node Kind.VariableDeclaration 42 (more (string (codes "var")) (more (list (trees (node Kind.VariableDeclarator 43 (more (child (node Kind.BindingIdentifier 44 (more (string (codes "_t")) end))) (more absent end)) ∷ []))) end)) ∷ node Kind.ExpressionStatement 7 (more (child (node Kind.CallExpression 8 (more (child (node Kind.IdentifierReference 9 (more (string (codes "k")) end))) (more (list (trees (node Kind.ClassExpression 10 (more (child (node Kind.BindingIdentifier 11 (more (string (codes "C")) end))) (more (child (node Kind.SequenceExpression 12 (more (list (trees (node Kind.AssignmentExpression 13 (more (string (codes "=")) (more (child (node Kind.IdentifierReference 14 (more (string (codes "r")) end))) (more (child (node Kind.ArrowFunctionExpression 15 (more (list end) (more (child (node Kind.IdentifierReference 16 (more (string (codes "C")) end))) (more (boolean false) end))))) end))) ∷ node Kind.AssignmentExpression 45 (more (string (codes "=")) (more (child (node Kind.IdentifierReference 46 (more (string (codes "_t")) end))) (more (child (node Kind.IdentifierReference 17 (more (string (codes "P")) end))) end))) ∷ node Kind.IdentifierReference 20 (more (string (codes "g")) end) ∷ node Kind.IdentifierReference 47 (more (string (codes "_t")) end) ∷ []))) end))) (more (child (node Kind.ClassBody 18 (more (list end) end))) end))) ∷ node Kind.ClassExpression 21 (more absent (more absent (more (child (node Kind.ClassBody 22 (more (list (trees (node Kind.MethodDefinition 48 (more (child (node Kind.IdentifierName 49 (more (string (codes "constructor")) end))) (more (child (node Kind.FunctionExpression 50 (more absent (more (list end) (more (child (node Kind.BlockStatement 51 (more (list (trees (node Kind.ExpressionStatement 52 (more (child (node Kind.CallExpression 53 (more (child (node Kind.MemberExpression 54 (more (child (node Kind.IdentifierReference 55 (more (string (codes "babelHelpers")) end))) (more (child (node Kind.IdentifierName 56 (more (string (codes "defineProperty")) end))) (more (boolean false) (more (boolean false) end)))))) (more (list (trees (node Kind.ThisExpression 57 end ∷ node Kind.Literal 58 (more (literal (literal_value.String (codes "x") None)) end) ∷ node Kind.Literal 25 (more (literal (literal_value.Number (codes "1"))) end) ∷ []))) (more (boolean false) end))))) (more no_string end)) ∷ []))) end))) (more (boolean false) (more (boolean false) end))))))) (more (string (codes "constructor")) (more (boolean false) (more (boolean false) end))))) ∷ []))) end))) end))) ∷ []))) (more (boolean false) end))))) (more no_string end)) ∷ []))) end))) (more (boolean true) (more (boolean false) end))))) ∷ node Kind.ExpressionStatement 26 (more (child (node Kind.CallExpression 27 (more (child (node Kind.MemberExpression 28 (more (child (node Kind.CallExpression 29 (more (child (node Kind.IdentifierReference 30 (more (string (codes "m")) end))) (more (list end) (more (boolean false) end))))) (more (child (node Kind.IdentifierName 31 (more (string (codes "catch")) end))) (more (boolean false) (more (boolean false) end)))))) (more (list (trees (node Kind.ArrowFunctionExpression 32 (more (list end) (more (child (node Kind.CallExpression 33 (more (child (node Kind.IdentifierReference 34 (more (string (codes "k")) end))) (more (list (trees (node Kind.CallExpression 35 (more (child (node Kind.IdentifierReference 36 (more (string (codes "r")) end))) (more (list end) (more (boolean false) end))) ∷ []))) (more (boolean false) end))))) (more (boolean false) end))) ∷ []))) (more (boolean false) end))))) (more no_string end)) ∷ node Kind.VariableDeclaration 37 (more (string (codes "let")) (more (list (trees (node Kind.VariableDeclarator 38 (more (child (node Kind.BindingIdentifier 39 (more (string (codes "g")) end))) (more (child (node Kind.CallExpression 40 (more (child (node Kind.IdentifierReference 41 (more (string (codes "f")) end))) (more (list end) (more (boolean false) end))))) end)) ∷ []))) end)) ∷ []))) end))

abbrev pub generated_name_in_front_of_a_class_that_names_itself : List LedgerEntry
generated_name_in_front_of_a_class_that_names_itself = record { name = codes "_t"; kind = GeneratedKind.Temp } ∷ []

abbrev pub options_name_in_front_of_a_class_that_names_itself : Options
options_name_in_front_of_a_class_that_names_itself = options_of false (Some (record { loose = false })) false
