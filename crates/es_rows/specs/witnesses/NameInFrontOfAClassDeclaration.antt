-- Printed by tools/rows/witnesses.js.
use Rattle.std.specs.Prelude.{ℕ, List, [], ◌∷◌, true, false, codes, Some, None}
use Rattle.es_base.specs.Tree.{Tree, end, more, child, absent, list, string, no_string, boolean, literal, trees}
use Rattle.es_base.specs.declared.kind.Kind.{Kind}
use Rattle.es_base.specs.declared.ledger.LedgerEntry.{LedgerEntry}
use Rattle.es_base.specs.declared.literal.LiteralValue.TheVariants as literal_value
use Rattle.es_steps.specs.Generated.{node}
use Rattle.es_steps.specs.Options.{options_of}
use Rattle.es_steps.specs.declared.options.Options.{Options}

-- `let r; async function m() { r = () => A; class A { } (g, k(class { x = 1; })); } m().catch(() => k(r())); let g = f();`
abbrev pub source_name_in_front_of_a_class_declaration : Tree
source_name_in_front_of_a_class_declaration = node Kind.Program 0 (more (string (codes "script")) (more (list (trees (node Kind.VariableDeclaration 1 (more (string (codes "let")) (more (list (trees (node Kind.VariableDeclarator 2 (more (child (node Kind.BindingIdentifier 3 (more (string (codes "r")) end))) (more absent end)) ∷ []))) end)) ∷ node Kind.FunctionDeclaration 4 (more (child (node Kind.BindingIdentifier 5 (more (string (codes "m")) end))) (more (list end) (more (child (node Kind.BlockStatement 6 (more (list (trees (node Kind.ExpressionStatement 7 (more (child (node Kind.AssignmentExpression 8 (more (string (codes "=")) (more (child (node Kind.IdentifierReference 9 (more (string (codes "r")) end))) (more (child (node Kind.ArrowFunctionExpression 10 (more (list end) (more (child (node Kind.IdentifierReference 11 (more (string (codes "A")) end))) (more (boolean false) end))))) end))))) (more no_string end)) ∷ node Kind.ClassDeclaration 12 (more (child (node Kind.BindingIdentifier 13 (more (string (codes "A")) end))) (more absent (more (child (node Kind.ClassBody 14 (more (list end) end))) end))) ∷ node Kind.ExpressionStatement 15 (more (child (node Kind.SequenceExpression 16 (more (list (trees (node Kind.IdentifierReference 17 (more (string (codes "g")) end) ∷ node Kind.CallExpression 18 (more (child (node Kind.IdentifierReference 19 (more (string (codes "k")) end))) (more (list (trees (node Kind.ClassExpression 20 (more absent (more absent (more (child (node Kind.ClassBody 21 (more (list (trees (node Kind.PropertyDefinition 22 (more (child (node Kind.IdentifierName 23 (more (string (codes "x")) end))) (more (child (node Kind.Literal 24 (more (literal (literal_value.Number (codes "1"))) end))) (more (boolean false) (more (boolean false) end)))) ∷ []))) end))) end))) ∷ []))) (more (boolean false) end))) ∷ []))) end))) (more no_string end)) ∷ []))) end))) (more (boolean true) (more (boolean false) end))))) ∷ node Kind.ExpressionStatement 25 (more (child (node Kind.CallExpression 26 (more (child (node Kind.MemberExpression 27 (more (child (node Kind.CallExpression 28 (more (child (node Kind.IdentifierReference 29 (more (string (codes "m")) end))) (more (list end) (more (boolean false) end))))) (more (child (node Kind.IdentifierName 30 (more (string (codes "catch")) end))) (more (boolean false) (more (boolean false) end)))))) (more (list (trees (node Kind.ArrowFunctionExpression 31 (more (list end) (more (child (node Kind.CallExpression 32 (more (child (node Kind.IdentifierReference 33 (more (string (codes "k")) end))) (more (list (trees (node Kind.CallExpression 34 (more (child (node Kind.IdentifierReference 35 (more (string (codes "r")) end))) (more (list end) (more (boolean false) end))) ∷ []))) (more (boolean false) end))))) (more (boolean false) end))) ∷ []))) (more (boolean false) end))))) (more no_string end)) ∷ node Kind.VariableDeclaration 36 (more (string (codes "let")) (more (list (trees (node Kind.VariableDeclarator 37 (more (child (node Kind.BindingIdentifier 38 (more (string (codes "g")) end))) (more (child (node Kind.CallExpression 39 (more (child (node Kind.IdentifierReference 40 (more (string (codes "f")) end))) (more (list end) (more (boolean false) end))))) end)) ∷ []))) end)) ∷ []))) end))

-- a name in its dead zone is read in front of a class, whose name a closure reads: `let r; async function m() { r = () => A; g; class A { } k(class { constructor() { B.defineProperty(this, "x", 1); } }); } m().catch(() => k(r())); let g = f();`
abbrev pub output_name_in_front_of_a_class_declaration : Tree
output_name_in_front_of_a_class_declaration = node Kind.Program 0 (more (string (codes "script")) (more (list (trees (node Kind.VariableDeclaration 1 (more (string (codes "let")) (more (list (trees (node Kind.VariableDeclarator 2 (more (child (node Kind.BindingIdentifier 3 (more (string (codes "r")) end))) (more absent end)) ∷ []))) end)) ∷ node Kind.FunctionDeclaration 4 (more (child (node Kind.BindingIdentifier 5 (more (string (codes "m")) end))) (more (list end) (more (child (node Kind.BlockStatement 6 (more (list (trees (node Kind.ExpressionStatement 7 (more (child (node Kind.AssignmentExpression 8 (more (string (codes "=")) (more (child (node Kind.IdentifierReference 9 (more (string (codes "r")) end))) (more (child (node Kind.ArrowFunctionExpression 10 (more (list end) (more (child (node Kind.IdentifierReference 11 (more (string (codes "A")) end))) (more (boolean false) end))))) end))))) (more no_string end)) ∷ node Kind.ExpressionStatement 41 (more (child (node Kind.IdentifierReference 17 (more (string (codes "g")) end))) (more no_string end)) ∷ node Kind.ClassDeclaration 12 (more (child (node Kind.BindingIdentifier 13 (more (string (codes "A")) end))) (more absent (more (child (node Kind.ClassBody 14 (more (list end) end))) end))) ∷ node Kind.ExpressionStatement 42 (more (child (node Kind.CallExpression 18 (more (child (node Kind.IdentifierReference 19 (more (string (codes "k")) end))) (more (list (trees (node Kind.ClassExpression 20 (more absent (more absent (more (child (node Kind.ClassBody 21 (more (list (trees (node Kind.MethodDefinition 43 (more (child (node Kind.IdentifierName 44 (more (string (codes "constructor")) end))) (more (child (node Kind.FunctionExpression 45 (more absent (more (list end) (more (child (node Kind.BlockStatement 46 (more (list (trees (node Kind.ExpressionStatement 47 (more (child (node Kind.CallExpression 48 (more (child (node Kind.MemberExpression 49 (more (child (node Kind.IdentifierReference 50 (more (string (codes "babelHelpers")) end))) (more (child (node Kind.IdentifierName 51 (more (string (codes "defineProperty")) end))) (more (boolean false) (more (boolean false) end)))))) (more (list (trees (node Kind.ThisExpression 52 end ∷ node Kind.Literal 53 (more (literal (literal_value.String (codes "x") None)) end) ∷ node Kind.Literal 24 (more (literal (literal_value.Number (codes "1"))) end) ∷ []))) (more (boolean false) end))))) (more no_string end)) ∷ []))) end))) (more (boolean false) (more (boolean false) end))))))) (more (string (codes "constructor")) (more (boolean false) (more (boolean false) end))))) ∷ []))) end))) end))) ∷ []))) (more (boolean false) end))))) (more no_string end)) ∷ []))) end))) (more (boolean true) (more (boolean false) end))))) ∷ node Kind.ExpressionStatement 25 (more (child (node Kind.CallExpression 26 (more (child (node Kind.MemberExpression 27 (more (child (node Kind.CallExpression 28 (more (child (node Kind.IdentifierReference 29 (more (string (codes "m")) end))) (more (list end) (more (boolean false) end))))) (more (child (node Kind.IdentifierName 30 (more (string (codes "catch")) end))) (more (boolean false) (more (boolean false) end)))))) (more (list (trees (node Kind.ArrowFunctionExpression 31 (more (list end) (more (child (node Kind.CallExpression 32 (more (child (node Kind.IdentifierReference 33 (more (string (codes "k")) end))) (more (list (trees (node Kind.CallExpression 34 (more (child (node Kind.IdentifierReference 35 (more (string (codes "r")) end))) (more (list end) (more (boolean false) end))) ∷ []))) (more (boolean false) end))))) (more (boolean false) end))) ∷ []))) (more (boolean false) end))))) (more no_string end)) ∷ node Kind.VariableDeclaration 36 (more (string (codes "let")) (more (list (trees (node Kind.VariableDeclarator 37 (more (child (node Kind.BindingIdentifier 38 (more (string (codes "g")) end))) (more (child (node Kind.CallExpression 39 (more (child (node Kind.IdentifierReference 40 (more (string (codes "f")) end))) (more (list end) (more (boolean false) end))))) end)) ∷ []))) end)) ∷ []))) end))

abbrev pub generated_name_in_front_of_a_class_declaration : List LedgerEntry
generated_name_in_front_of_a_class_declaration = []

abbrev pub options_name_in_front_of_a_class_declaration : Options
options_name_in_front_of_a_class_declaration = options_of false (Some (record { loose = false })) false
