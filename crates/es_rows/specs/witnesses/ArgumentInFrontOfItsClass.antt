-- Printed by tools/rows/witnesses.js.
use Rattle.std.specs.Prelude.{ℕ, List, [], ◌∷◌, false, codes, Some, None}
use Rattle.es_base.specs.Tree.{Tree, end, more, child, absent, list, string, no_string, boolean, literal, trees}
use Rattle.es_base.specs.declared.kind.Kind.{Kind}
use Rattle.es_base.specs.declared.ledger.GeneratedKind.{GeneratedKind}
use Rattle.es_base.specs.declared.ledger.LedgerEntry.{LedgerEntry}
use Rattle.es_base.specs.declared.literal.LiteralValue.TheVariants as literal_value
use Rattle.es_steps.specs.Generated.{node}
use Rattle.es_steps.specs.Options.{options_of}
use Rattle.es_steps.specs.declared.options.Options.{Options}

-- `class C { x = 1; #y = 2; } h(C, class { y = 1; });`
abbrev pub source_argument_in_front_of_its_class : Tree
source_argument_in_front_of_its_class = node Kind.Program 0 (more (string (codes "script")) (more (list (trees (node Kind.ClassDeclaration 1 (more (child (node Kind.BindingIdentifier 2 (more (string (codes "C")) end))) (more absent (more (child (node Kind.ClassBody 3 (more (list (trees (node Kind.PropertyDefinition 4 (more (child (node Kind.IdentifierName 5 (more (string (codes "x")) end))) (more (child (node Kind.Literal 6 (more (literal (literal_value.Number (codes "1"))) end))) (more (boolean false) (more (boolean false) end)))) ∷ node Kind.PropertyDefinition 7 (more (child (node Kind.PrivateIdentifier 8 (more (string (codes "y")) end))) (more (child (node Kind.Literal 9 (more (literal (literal_value.Number (codes "2"))) end))) (more (boolean false) (more (boolean false) end)))) ∷ []))) end))) end))) ∷ node Kind.ExpressionStatement 10 (more (child (node Kind.CallExpression 11 (more (child (node Kind.IdentifierReference 12 (more (string (codes "h")) end))) (more (list (trees (node Kind.IdentifierReference 13 (more (string (codes "C")) end) ∷ node Kind.ClassExpression 14 (more absent (more absent (more (child (node Kind.ClassBody 15 (more (list (trees (node Kind.PropertyDefinition 16 (more (child (node Kind.IdentifierName 17 (more (string (codes "y")) end))) (more (child (node Kind.Literal 18 (more (literal (literal_value.Number (codes "1"))) end))) (more (boolean false) (more (boolean false) end)))) ∷ []))) end))) end))) ∷ []))) (more (boolean false) end))))) (more no_string end)) ∷ []))) end))

-- the name of a class in front of it, which stood in an argument behind it: `C; var _y = new WeakMap(); class C { constructor() { B.defineProperty(this, "x", 1); B.classPrivateFieldInitSpec(this, _y, 2); } } h(C, class { constructor() { B.defineProperty(this, "y", 1); } });`
abbrev pub output_argument_in_front_of_its_class : Tree
output_argument_in_front_of_its_class = node Kind.Program 0 (more (string (codes "script")) (more (list (trees (node Kind.ExpressionStatement 19 (more (child (node Kind.IdentifierReference 13 (more (string (codes "C")) end))) (more no_string end)) ∷ node Kind.VariableDeclaration 20 (more (string (codes "var")) (more (list (trees (node Kind.VariableDeclarator 21 (more (child (node Kind.BindingIdentifier 22 (more (string (codes "_y")) end))) (more (child (node Kind.NewExpression 23 (more (child (node Kind.IdentifierReference 24 (more (string (codes "WeakMap")) end))) (more (list end) end)))) end)) ∷ []))) end)) ∷ node Kind.ClassDeclaration 1 (more (child (node Kind.BindingIdentifier 2 (more (string (codes "C")) end))) (more absent (more (child (node Kind.ClassBody 3 (more (list (trees (node Kind.MethodDefinition 25 (more (child (node Kind.IdentifierName 26 (more (string (codes "constructor")) end))) (more (child (node Kind.FunctionExpression 27 (more absent (more (list end) (more (child (node Kind.BlockStatement 28 (more (list (trees (node Kind.ExpressionStatement 29 (more (child (node Kind.CallExpression 30 (more (child (node Kind.MemberExpression 31 (more (child (node Kind.IdentifierReference 32 (more (string (codes "babelHelpers")) end))) (more (child (node Kind.IdentifierName 33 (more (string (codes "defineProperty")) end))) (more (boolean false) (more (boolean false) end)))))) (more (list (trees (node Kind.ThisExpression 34 end ∷ node Kind.Literal 35 (more (literal (literal_value.String (codes "x") None)) end) ∷ node Kind.Literal 6 (more (literal (literal_value.Number (codes "1"))) end) ∷ []))) (more (boolean false) end))))) (more no_string end)) ∷ node Kind.ExpressionStatement 36 (more (child (node Kind.CallExpression 37 (more (child (node Kind.MemberExpression 38 (more (child (node Kind.IdentifierReference 39 (more (string (codes "babelHelpers")) end))) (more (child (node Kind.IdentifierName 40 (more (string (codes "classPrivateFieldInitSpec")) end))) (more (boolean false) (more (boolean false) end)))))) (more (list (trees (node Kind.ThisExpression 41 end ∷ node Kind.IdentifierReference 42 (more (string (codes "_y")) end) ∷ node Kind.Literal 9 (more (literal (literal_value.Number (codes "2"))) end) ∷ []))) (more (boolean false) end))))) (more no_string end)) ∷ []))) end))) (more (boolean false) (more (boolean false) end))))))) (more (string (codes "constructor")) (more (boolean false) (more (boolean false) end))))) ∷ []))) end))) end))) ∷ node Kind.ExpressionStatement 10 (more (child (node Kind.CallExpression 11 (more (child (node Kind.IdentifierReference 12 (more (string (codes "h")) end))) (more (list (trees (node Kind.IdentifierReference 43 (more (string (codes "C")) end) ∷ node Kind.ClassExpression 14 (more absent (more absent (more (child (node Kind.ClassBody 15 (more (list (trees (node Kind.MethodDefinition 44 (more (child (node Kind.IdentifierName 45 (more (string (codes "constructor")) end))) (more (child (node Kind.FunctionExpression 46 (more absent (more (list end) (more (child (node Kind.BlockStatement 47 (more (list (trees (node Kind.ExpressionStatement 48 (more (child (node Kind.CallExpression 49 (more (child (node Kind.MemberExpression 50 (more (child (node Kind.IdentifierReference 51 (more (string (codes "babelHelpers")) end))) (more (child (node Kind.IdentifierName 52 (more (string (codes "defineProperty")) end))) (more (boolean false) (more (boolean false) end)))))) (more (list (trees (node Kind.ThisExpression 53 end ∷ node Kind.Literal 54 (more (literal (literal_value.String (codes "y") None)) end) ∷ node Kind.Literal 18 (more (literal (literal_value.Number (codes "1"))) end) ∷ []))) (more (boolean false) end))))) (more no_string end)) ∷ []))) end))) (more (boolean false) (more (boolean false) end))))))) (more (string (codes "constructor")) (more (boolean false) (more (boolean false) end))))) ∷ []))) end))) end))) ∷ []))) (more (boolean false) end))))) (more no_string end)) ∷ []))) end))

abbrev pub generated_argument_in_front_of_its_class : List LedgerEntry
generated_argument_in_front_of_its_class = record { name = codes "_y"; kind = GeneratedKind.WeakMap (record { 0 = 8 }) } ∷ []

abbrev pub options_argument_in_front_of_its_class : Options
options_argument_in_front_of_its_class = options_of false (Some (record { loose = false })) false
