-- Printed by tools/rows/witnesses.js.
use Rattle.std.specs.Prelude.{ℕ, List, [], ◌∷◌, true, false, codes, Some, None}
use Rattle.es_base.specs.Tree.{Tree, end, more, child, absent, list, string, no_string, boolean, literal, trees}
use Rattle.es_base.specs.declared.kind.Kind.{Kind}
use Rattle.es_base.specs.declared.ledger.GeneratedKind.{GeneratedKind}
use Rattle.es_base.specs.declared.ledger.LedgerEntry.{LedgerEntry}
use Rattle.es_base.specs.declared.literal.LiteralValue.TheVariants as literal_value
use Rattle.es_steps.specs.Generated.{node}
use Rattle.es_steps.specs.Options.{options_of}
use Rattle.es_steps.specs.declared.options.Options.{Options}

-- `async function m() { await h(); k(A, class { x = 1; }); } m(); class A { }`
abbrev pub source_class_name_in_front_of_an_await : Tree
source_class_name_in_front_of_an_await = node Kind.Program 0 (more (string (codes "script")) (more (list (trees (node Kind.FunctionDeclaration 1 (more (child (node Kind.BindingIdentifier 2 (more (string (codes "m")) end))) (more (list end) (more (child (node Kind.BlockStatement 3 (more (list (trees (node Kind.ExpressionStatement 4 (more (child (node Kind.AwaitExpression 5 (more (child (node Kind.CallExpression 6 (more (child (node Kind.IdentifierReference 7 (more (string (codes "h")) end))) (more (list end) (more (boolean false) end))))) end))) (more no_string end)) ∷ node Kind.ExpressionStatement 8 (more (child (node Kind.CallExpression 9 (more (child (node Kind.IdentifierReference 10 (more (string (codes "k")) end))) (more (list (trees (node Kind.IdentifierReference 11 (more (string (codes "A")) end) ∷ node Kind.ClassExpression 12 (more absent (more absent (more (child (node Kind.ClassBody 13 (more (list (trees (node Kind.PropertyDefinition 14 (more (child (node Kind.IdentifierName 15 (more (string (codes "x")) end))) (more (child (node Kind.Literal 16 (more (literal (literal_value.Number (codes "1"))) end))) (more (boolean false) (more (boolean false) end)))) ∷ []))) end))) end))) ∷ []))) (more (boolean false) end))))) (more no_string end)) ∷ []))) end))) (more (boolean true) (more (boolean false) end))))) ∷ node Kind.ExpressionStatement 17 (more (child (node Kind.CallExpression 18 (more (child (node Kind.IdentifierReference 19 (more (string (codes "m")) end))) (more (list end) (more (boolean false) end))))) (more no_string end)) ∷ node Kind.ClassDeclaration 20 (more (child (node Kind.BindingIdentifier 21 (more (string (codes "A")) end))) (more absent (more (child (node Kind.ClassBody 22 (more (list end) end))) end))) ∷ []))) end))

-- the name of a class is read in front of an await, behind which it was read: `async function m() { var _t; _t = A; await h(); k(_t, class { constructor() { B.defineProperty(this, "x", 1); } }); } m(); class A { }`
abbrev pub output_class_name_in_front_of_an_await : Tree
output_class_name_in_front_of_an_await = node Kind.Program 0 (more (string (codes "script")) (more (list (trees (node Kind.FunctionDeclaration 1 (more (child (node Kind.BindingIdentifier 2 (more (string (codes "m")) end))) (more (list end) (more (child (node Kind.BlockStatement 3 (more (list (trees (node Kind.VariableDeclaration 23 (more (string (codes "var")) (more (list (trees (node Kind.VariableDeclarator 24 (more (child (node Kind.BindingIdentifier 25 (more (string (codes "_t")) end))) (more absent end)) ∷ []))) end)) ∷ node Kind.ExpressionStatement 26 (more (child (node Kind.AssignmentExpression 27 (more (string (codes "=")) (more (child (node Kind.IdentifierReference 28 (more (string (codes "_t")) end))) (more (child (node Kind.IdentifierReference 11 (more (string (codes "A")) end))) end))))) (more no_string end)) ∷ node Kind.ExpressionStatement 4 (more (child (node Kind.AwaitExpression 5 (more (child (node Kind.CallExpression 6 (more (child (node Kind.IdentifierReference 7 (more (string (codes "h")) end))) (more (list end) (more (boolean false) end))))) end))) (more no_string end)) ∷ node Kind.ExpressionStatement 8 (more (child (node Kind.CallExpression 9 (more (child (node Kind.IdentifierReference 10 (more (string (codes "k")) end))) (more (list (trees (node Kind.IdentifierReference 29 (more (string (codes "_t")) end) ∷ node Kind.ClassExpression 12 (more absent (more absent (more (child (node Kind.ClassBody 13 (more (list (trees (node Kind.MethodDefinition 30 (more (child (node Kind.IdentifierName 31 (more (string (codes "constructor")) end))) (more (child (node Kind.FunctionExpression 32 (more absent (more (list end) (more (child (node Kind.BlockStatement 33 (more (list (trees (node Kind.ExpressionStatement 34 (more (child (node Kind.CallExpression 35 (more (child (node Kind.MemberExpression 36 (more (child (node Kind.IdentifierReference 37 (more (string (codes "babelHelpers")) end))) (more (child (node Kind.IdentifierName 38 (more (string (codes "defineProperty")) end))) (more (boolean false) (more (boolean false) end)))))) (more (list (trees (node Kind.ThisExpression 39 end ∷ node Kind.Literal 40 (more (literal (literal_value.String (codes "x") None)) end) ∷ node Kind.Literal 16 (more (literal (literal_value.Number (codes "1"))) end) ∷ []))) (more (boolean false) end))))) (more no_string end)) ∷ []))) end))) (more (boolean false) (more (boolean false) end))))))) (more (string (codes "constructor")) (more (boolean false) (more (boolean false) end))))) ∷ []))) end))) end))) ∷ []))) (more (boolean false) end))))) (more no_string end)) ∷ []))) end))) (more (boolean true) (more (boolean false) end))))) ∷ node Kind.ExpressionStatement 17 (more (child (node Kind.CallExpression 18 (more (child (node Kind.IdentifierReference 19 (more (string (codes "m")) end))) (more (list end) (more (boolean false) end))))) (more no_string end)) ∷ node Kind.ClassDeclaration 20 (more (child (node Kind.BindingIdentifier 21 (more (string (codes "A")) end))) (more absent (more (child (node Kind.ClassBody 22 (more (list end) end))) end))) ∷ []))) end))

abbrev pub generated_class_name_in_front_of_an_await : List LedgerEntry
generated_class_name_in_front_of_an_await = record { name = codes "_t"; kind = GeneratedKind.Temp } ∷ []

abbrev pub options_class_name_in_front_of_an_await : Options
options_class_name_in_front_of_an_await = options_of false (Some (record { loose = false })) false
