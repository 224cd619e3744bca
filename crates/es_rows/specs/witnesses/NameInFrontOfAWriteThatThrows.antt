-- Printed by tools/rows/witnesses.js.
use Rattle.std.specs.Prelude.{ℕ, List, [], ◌∷◌, true, false, codes, Some, None}
use Rattle.es_base.specs.Tree.{Tree, end, more, child, absent, list, string, no_string, boolean, literal, trees}
use Rattle.es_base.specs.declared.kind.Kind.{Kind}
use Rattle.es_base.specs.declared.ledger.GeneratedKind.{GeneratedKind}
use Rattle.es_base.specs.declared.ledger.LedgerEntry.{LedgerEntry}
use Rattle.es_base.specs.declared.literal.LiteralValue.TheVariants as literal_value
use Rattle.es_steps.specs.Generated.{node}
use Rattle.es_steps.specs.Options.{options_of}
use Rattle.es_steps.specs.declared.options.Options.{Options}

-- `class A { #m() { } static t(o) { (o.#m = 1, g); } } A.t(new A()); let g = f();`
abbrev pub source_name_in_front_of_a_write_that_throws : Tree
source_name_in_front_of_a_write_that_throws = node Kind.Program 0 (more (string (codes "script")) (more (list (trees (node Kind.ClassDeclaration 1 (more (child (node Kind.BindingIdentifier 2 (more (string (codes "A")) end))) (more absent (more (child (node Kind.ClassBody 3 (more (list (trees (node Kind.MethodDefinition 4 (more (child (node Kind.PrivateIdentifier 5 (more (string (codes "m")) end))) (more (child (node Kind.FunctionExpression 6 (more absent (more (list end) (more (child (node Kind.BlockStatement 7 (more (list end) end))) (more (boolean false) (more (boolean false) end))))))) (more (string (codes "method")) (more (boolean false) (more (boolean false) end))))) ∷ node Kind.MethodDefinition 8 (more (child (node Kind.IdentifierName 9 (more (string (codes "t")) end))) (more (child (node Kind.FunctionExpression 10 (more absent (more (list (trees (node Kind.BindingIdentifier 11 (more (string (codes "o")) end) ∷ []))) (more (child (node Kind.BlockStatement 12 (more (list (trees (node Kind.ExpressionStatement 13 (more (child (node Kind.SequenceExpression 14 (more (list (trees (node Kind.AssignmentExpression 15 (more (string (codes "=")) (more (child (node Kind.PrivateField 16 (more (child (node Kind.IdentifierReference 17 (more (string (codes "o")) end))) (more (child (node Kind.PrivateIdentifier 18 (more (string (codes "m")) end))) (more (boolean false) (more (boolean false) end)))))) (more (child (node Kind.Literal 19 (more (literal (literal_value.Number (codes "1"))) end))) end))) ∷ node Kind.IdentifierReference 20 (more (string (codes "g")) end) ∷ []))) end))) (more no_string end)) ∷ []))) end))) (more (boolean false) (more (boolean false) end))))))) (more (string (codes "method")) (more (boolean false) (more (boolean true) end))))) ∷ []))) end))) end))) ∷ node Kind.ExpressionStatement 21 (more (child (node Kind.CallExpression 22 (more (child (node Kind.MemberExpression 23 (more (child (node Kind.IdentifierReference 24 (more (string (codes "A")) end))) (more (child (node Kind.IdentifierName 25 (more (string (codes "t")) end))) (more (boolean false) (more (boolean false) end)))))) (more (list (trees (node Kind.NewExpression 26 (more (child (node Kind.IdentifierReference 27 (more (string (codes "A")) end))) (more (list end) end)) ∷ []))) (more (boolean false) end))))) (more no_string end)) ∷ node Kind.VariableDeclaration 28 (more (string (codes "let")) (more (list (trees (node Kind.VariableDeclarator 29 (more (child (node Kind.BindingIdentifier 30 (more (string (codes "g")) end))) (more (child (node Kind.CallExpression 31 (more (child (node Kind.IdentifierReference 32 (more (string (codes "f")) end))) (more (list end) (more (boolean false) end))))) end)) ∷ []))) end)) ∷ []))) end))

-- a name in its dead zone is read in front of a write to a private method: `var _A_brand = new WeakSet(); class A { constructor() { B.classPrivateMethodInitSpec(this, _A_brand); } static t(o) { (g, (o, 1, B.readOnlyError("#m"))); } } function _m() { } A.t(new A()); let g = f();`
abbrev pub output_name_in_front_of_a_write_that_throws : Tree
output_name_in_front_of_a_write_that_throws = node Kind.Program 0 (more (string (codes "script")) (more (list (trees (node Kind.VariableDeclaration 33 (more (string (codes "var")) (more (list (trees (node Kind.VariableDeclarator 34 (more (child (node Kind.BindingIdentifier 35 (more (string (codes "_A_brand")) end))) (more (child (node Kind.NewExpression 36 (more (child (node Kind.IdentifierReference 37 (more (string (codes "WeakSet")) end))) (more (list end) end)))) end)) ∷ []))) end)) ∷ node Kind.ClassDeclaration 1 (more (child (node Kind.BindingIdentifier 2 (more (string (codes "A")) end))) (more absent (more (child (node Kind.ClassBody 3 (more (list (trees (node Kind.MethodDefinition 38 (more (child (node Kind.IdentifierName 39 (more (string (codes "constructor")) end))) (more (child (node Kind.FunctionExpression 40 (more absent (more (list end) (more (child (node Kind.BlockStatement 41 (more (list (trees (node Kind.ExpressionStatement 42 (more (child (node Kind.CallExpression 43 (more (child (node Kind.MemberExpression 44 (more (child (node Kind.IdentifierReference 45 (more (string (codes "babelHelpers")) end))) (more (child (node Kind.IdentifierName 46 (more (string (codes "classPrivateMethodInitSpec")) end))) (more (boolean false) (more (boolean false) end)))))) (more (list (trees (node Kind.ThisExpression 47 end ∷ node Kind.IdentifierReference 48 (more (string (codes "_A_brand")) end) ∷ []))) (more (boolean false) end))))) (more no_string end)) ∷ []))) end))) (more (boolean false) (more (boolean false) end))))))) (more (string (codes "constructor")) (more (boolean false) (more (boolean false) end))))) ∷ node Kind.MethodDefinition 8 (more (child (node Kind.IdentifierName 9 (more (string (codes "t")) end))) (more (child (node Kind.FunctionExpression 10 (more absent (more (list (trees (node Kind.BindingIdentifier 11 (more (string (codes "o")) end) ∷ []))) (more (child (node Kind.BlockStatement 12 (more (list (trees (node Kind.ExpressionStatement 13 (more (child (node Kind.SequenceExpression 14 (more (list (trees (node Kind.IdentifierReference 20 (more (string (codes "g")) end) ∷ node Kind.SequenceExpression 49 (more (list (trees (node Kind.IdentifierReference 17 (more (string (codes "o")) end) ∷ node Kind.Literal 19 (more (literal (literal_value.Number (codes "1"))) end) ∷ node Kind.CallExpression 50 (more (child (node Kind.MemberExpression 51 (more (child (node Kind.IdentifierReference 52 (more (string (codes "babelHelpers")) end))) (more (child (node Kind.IdentifierName 53 (more (string (codes "readOnlyError")) end))) (more (boolean false) (more (boolean false) end)))))) (more (list (trees (node Kind.Literal 54 (more (literal (literal_value.String (codes "#m") None)) end) ∷ []))) (more (boolean false) end))) ∷ []))) end) ∷ []))) end))) (more no_string end)) ∷ []))) end))) (more (boolean false) (more (boolean false) end))))))) (more (string (codes "method")) (more (boolean false) (more (boolean true) end))))) ∷ []))) end))) end))) ∷ node Kind.FunctionDeclaration 6 (more (child (node Kind.BindingIdentifier 55 (more (string (codes "_m")) end))) (more (list end) (more (child (node Kind.BlockStatement 7 (more (list end) end))) (more (boolean false) (more (boolean false) end))))) ∷ node Kind.ExpressionStatement 21 (more (child (node Kind.CallExpression 22 (more (child (node Kind.MemberExpression 23 (more (child (node Kind.IdentifierReference 24 (more (string (codes "A")) end))) (more (child (node Kind.IdentifierName 25 (more (string (codes "t")) end))) (more (boolean false) (more (boolean false) end)))))) (more (list (trees (node Kind.NewExpression 26 (more (child (node Kind.IdentifierReference 27 (more (string (codes "A")) end))) (more (list end) end)) ∷ []))) (more (boolean false) end))))) (more no_string end)) ∷ node Kind.VariableDeclaration 28 (more (string (codes "let")) (more (list (trees (node Kind.VariableDeclarator 29 (more (child (node Kind.BindingIdentifier 30 (more (string (codes "g")) end))) (more (child (node Kind.CallExpression 31 (more (child (node Kind.IdentifierReference 32 (more (string (codes "f")) end))) (more (list end) (more (boolean false) end))))) end)) ∷ []))) end)) ∷ []))) end))

abbrev pub generated_name_in_front_of_a_write_that_throws : List LedgerEntry
generated_name_in_front_of_a_write_that_throws = record { name = codes "_A_brand"; kind = GeneratedKind.Brand (record { 0 = 1 }) } ∷ record { name = codes "_m"; kind = GeneratedKind.Method (record { 0 = 5 }) } ∷ []

abbrev pub options_name_in_front_of_a_write_that_throws : Options
options_name_in_front_of_a_write_that_throws = options_of false (Some (record { loose = false })) false
