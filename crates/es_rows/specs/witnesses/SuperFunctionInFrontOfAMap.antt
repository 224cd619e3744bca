-- Printed by tools/rows/witnesses.js.
use Rattle.std.specs.Prelude.{ℕ, List, [], ◌∷◌, false, codes, Some, None}
use Rattle.es_base.specs.Tree.{Tree, end, more, child, absent, list, string, no_string, boolean, literal, trees}
use Rattle.es_base.specs.declared.kind.Kind.{Kind}
use Rattle.es_base.specs.declared.ledger.GeneratedKind.{GeneratedKind}
use Rattle.es_base.specs.declared.ledger.LedgerEntry.{LedgerEntry}
use Rattle.es_base.specs.declared.literal.LiteralValue.TheVariants as literal_value
use Rattle.es_steps.specs.Generated.{node}
use Rattle.es_steps.specs.Options.{options_of}
use Rattle.es_steps.specs.declared.options.Options.{Options}

-- `class A extends P { #p = 1; constructor(a = super()) { f(a); } }`
abbrev pub source_super_function_in_front_of_a_map : Tree
source_super_function_in_front_of_a_map = node Kind.Program 0 (more (string (codes "script")) (more (list (trees (node Kind.ClassDeclaration 1 (more (child (node Kind.BindingIdentifier 2 (more (string (codes "A")) end))) (more (child (node Kind.IdentifierReference 3 (more (string (codes "P")) end))) (more (child (node Kind.ClassBody 4 (more (list (trees (node Kind.PropertyDefinition 5 (more (child (node Kind.PrivateIdentifier 6 (more (string (codes "p")) end))) (more (child (node Kind.Literal 7 (more (literal (literal_value.Number (codes "1"))) end))) (more (boolean false) (more (boolean false) end)))) ∷ node Kind.MethodDefinition 8 (more (child (node Kind.IdentifierName 9 (more (string (codes "constructor")) end))) (more (child (node Kind.FunctionExpression 10 (more absent (more (list (trees (node Kind.AssignmentPattern 11 (more (child (node Kind.BindingIdentifier 12 (more (string (codes "a")) end))) (more (child (node Kind.CallExpression 13 (more (child (node Kind.Super 14 end)) (more (list end) (more (boolean false) end))))) end)) ∷ []))) (more (child (node Kind.BlockStatement 15 (more (list (trees (node Kind.ExpressionStatement 16 (more (child (node Kind.CallExpression 17 (more (child (node Kind.IdentifierReference 18 (more (string (codes "f")) end))) (more (list (trees (node Kind.IdentifierReference 19 (more (string (codes "a")) end) ∷ []))) (more (boolean false) end))))) (more no_string end)) ∷ []))) end))) (more (boolean false) (more (boolean false) end))))))) (more (string (codes "constructor")) (more (boolean false) (more (boolean false) end))))) ∷ []))) end))) end))) ∷ []))) end))

-- what stands for `super(..)`, in front of the map that it fills, as `let _super = function () { "use strict"; B.classPrivateFieldInitSpec(this, _p, 1); return this; }; var _p = new WeakMap(); class A extends P { constructor(a = _super.call(super())) { f(a); } }` means
abbrev pub output_super_function_in_front_of_a_map : Tree
output_super_function_in_front_of_a_map = node Kind.Program 0 (more (string (codes "script")) (more (list (trees (node Kind.VariableDeclaration 20 (more (string (codes "let")) (more (list (trees (node Kind.VariableDeclarator 21 (more (child (node Kind.BindingIdentifier 22 (more (string (codes "_super")) end))) (more (child (node Kind.FunctionExpression 23 (more absent (more (list end) (more (child (node Kind.BlockStatement 24 (more (list (trees (node Kind.ExpressionStatement 25 (more (child (node Kind.Literal 26 (more (literal (literal_value.String (codes "use strict") None)) end))) (more (string (codes "use strict")) end)) ∷ node Kind.ExpressionStatement 27 (more (child (node Kind.CallExpression 28 (more (child (node Kind.MemberExpression 29 (more (child (node Kind.IdentifierReference 30 (more (string (codes "babelHelpers")) end))) (more (child (node Kind.IdentifierName 31 (more (string (codes "classPrivateFieldInitSpec")) end))) (more (boolean false) (more (boolean false) end)))))) (more (list (trees (node Kind.ThisExpression 32 end ∷ node Kind.IdentifierReference 33 (more (string (codes "_p")) end) ∷ node Kind.Literal 7 (more (literal (literal_value.Number (codes "1"))) end) ∷ []))) (more (boolean false) end))))) (more no_string end)) ∷ node Kind.ReturnStatement 34 (more (child (node Kind.ThisExpression 35 end)) end) ∷ []))) end))) (more (boolean false) (more (boolean false) end))))))) end)) ∷ []))) end)) ∷ node Kind.VariableDeclaration 36 (more (string (codes "var")) (more (list (trees (node Kind.VariableDeclarator 37 (more (child (node Kind.BindingIdentifier 38 (more (string (codes "_p")) end))) (more (child (node Kind.NewExpression 39 (more (child (node Kind.IdentifierReference 40 (more (string (codes "WeakMap")) end))) (more (list end) end)))) end)) ∷ []))) end)) ∷ node Kind.ClassDeclaration 1 (more (child (node Kind.BindingIdentifier 2 (more (string (codes "A")) end))) (more (child (node Kind.IdentifierReference 3 (more (string (codes "P")) end))) (more (child (node Kind.ClassBody 4 (more (list (trees (node Kind.MethodDefinition 8 (more (child (node Kind.IdentifierName 9 (more (string (codes "constructor")) end))) (more (child (node Kind.FunctionExpression 10 (more absent (more (list (trees (node Kind.AssignmentPattern 11 (more (child (node Kind.BindingIdentifier 12 (more (string (codes "a")) end))) (more (child (node Kind.CallExpression 13 (more (child (node Kind.MemberExpression 41 (more (child (node Kind.IdentifierReference 42 (more (string (codes "_super")) end))) (more (child (node Kind.IdentifierName 43 (more (string (codes "call")) end))) (more (boolean false) (more (boolean false) end)))))) (more (list (trees (node Kind.CallExpression 44 (more (child (node Kind.Super 14 end)) (more (list end) (more (boolean false) end))) ∷ []))) (more (boolean false) end))))) end)) ∷ []))) (more (child (node Kind.BlockStatement 15 (more (list (trees (node Kind.ExpressionStatement 16 (more (child (node Kind.CallExpression 17 (more (child (node Kind.IdentifierReference 18 (more (string (codes "f")) end))) (more (list (trees (node Kind.IdentifierReference 19 (more (string (codes "a")) end) ∷ []))) (more (boolean false) end))))) (more no_string end)) ∷ []))) end))) (more (boolean false) (more (boolean false) end))))))) (more (string (codes "constructor")) (more (boolean false) (more (boolean false) end))))) ∷ []))) end))) end))) ∷ []))) end))

abbrev pub generated_super_function_in_front_of_a_map : List LedgerEntry
generated_super_function_in_front_of_a_map = record { name = codes "_p"; kind = GeneratedKind.WeakMap (record { 0 = 6 }) } ∷ record { name = codes "_super"; kind = GeneratedKind.SuperFn (record { 0 = 1 }) } ∷ []

abbrev pub options_super_function_in_front_of_a_map : Options
options_super_function_in_front_of_a_map = options_of false (Some (record { loose = false })) false
