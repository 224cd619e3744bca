-- Printed by tools/rows/witnesses.js.
use Rattle.std.specs.Prelude.{ℕ, List, [], ◌∷◌, false, codes, Some, None}
use Rattle.es_base.specs.Tree.{Tree, end, more, child, absent, list, string, no_string, boolean, literal, trees}
use Rattle.es_base.specs.declared.kind.Kind.{Kind}
use Rattle.es_base.specs.declared.ledger.GeneratedKind.{GeneratedKind}
use Rattle.es_base.specs.declared.ledger.LedgerEntry.{LedgerEntry}
use Rattle.es_base.specs.declared.literal.LiteralValue.TheVariants as literal_value
use Rattle.es_steps.specs.Generated.{node}
use Rattle.es_steps.specs.Options.{options_of}
use Rattle.es_steps.specs.declared.options.Options.{Options}

-- `class C extends P { x = 1; constructor() { super(); } } new C();`
abbrev pub source_super_function_called_with_another : Tree
source_super_function_called_with_another = node Kind.Program 0 (more (string (codes "script")) (more (list (trees (node Kind.ClassDeclaration 1 (more (child (node Kind.BindingIdentifier 2 (more (string (codes "C")) end))) (more (child (node Kind.IdentifierReference 3 (more (string (codes "P")) end))) (more (child (node Kind.ClassBody 4 (more (list (trees (node Kind.PropertyDefinition 5 (more (child (node Kind.IdentifierName 6 (more (string (codes "x")) end))) (more (child (node Kind.Literal 7 (more (literal (literal_value.Number (codes "1"))) end))) (more (boolean false) (more (boolean false) end)))) ∷ node Kind.MethodDefinition 8 (more (child (node Kind.IdentifierName 9 (more (string (codes "constructor")) end))) (more (child (node Kind.FunctionExpression 10 (more absent (more (list end) (more (child (node Kind.BlockStatement 11 (more (list (trees (node Kind.ExpressionStatement 12 (more (child (node Kind.CallExpression 13 (more (child (node Kind.Super 14 end)) (more (list end) (more (boolean false) end))))) (more no_string end)) ∷ []))) end))) (more (boolean false) (more (boolean false) end))))))) (more (string (codes "constructor")) (more (boolean false) (more (boolean false) end))))) ∷ []))) end))) end))) ∷ node Kind.ExpressionStatement 15 (more (child (node Kind.NewExpression 16 (more (child (node Kind.IdentifierReference 17 (more (string (codes "C")) end))) (more (list end) end)))) (more no_string end)) ∷ []))) end))

-- what stands for `super(..)`, called with what another one gave, which calls something: `var _f = function () { "use strict"; B.defineProperty(this, "x", 1); return this; }; class C extends P { constructor() { var _g = (..._args) => (super(..._args), g(7), this); _f.call(_g()); } } new C();`
abbrev pub output_super_function_called_with_another : Tree
output_super_function_called_with_another = node Kind.Program 0 (more (string (codes "script")) (more (list (trees (node Kind.VariableDeclaration 18 (more (string (codes "var")) (more (list (trees (node Kind.VariableDeclarator 19 (more (child (node Kind.BindingIdentifier 20 (more (string (codes "_f")) end))) (more (child (node Kind.FunctionExpression 21 (more absent (more (list end) (more (child (node Kind.BlockStatement 22 (more (list (trees (node Kind.ExpressionStatement 23 (more (child (node Kind.Literal 24 (more (literal (literal_value.String (codes "use strict") None)) end))) (more (string (codes "use strict")) end)) ∷ node Kind.ExpressionStatement 25 (more (child (node Kind.CallExpression 26 (more (child (node Kind.MemberExpression 27 (more (child (node Kind.IdentifierReference 28 (more (string (codes "babelHelpers")) end))) (more (child (node Kind.IdentifierName 29 (more (string (codes "defineProperty")) end))) (more (boolean false) (more (boolean false) end)))))) (more (list (trees (node Kind.ThisExpression 30 end ∷ node Kind.Literal 31 (more (literal (literal_value.String (codes "x") None)) end) ∷ node Kind.Literal 7 (more (literal (literal_value.Number (codes "1"))) end) ∷ []))) (more (boolean false) end))))) (more no_string end)) ∷ node Kind.ReturnStatement 32 (more (child (node Kind.ThisExpression 33 end)) end) ∷ []))) end))) (more (boolean false) (more (boolean false) end))))))) end)) ∷ []))) end)) ∷ node Kind.ClassDeclaration 1 (more (child (node Kind.BindingIdentifier 2 (more (string (codes "C")) end))) (more (child (node Kind.IdentifierReference 3 (more (string (codes "P")) end))) (more (child (node Kind.ClassBody 4 (more (list (trees (node Kind.MethodDefinition 8 (more (child (node Kind.IdentifierName 9 (more (string (codes "constructor")) end))) (more (child (node Kind.FunctionExpression 10 (more absent (more (list end) (more (child (node Kind.BlockStatement 11 (more (list (trees (node Kind.VariableDeclaration 34 (more (string (codes "var")) (more (list (trees (node Kind.VariableDeclarator 35 (more (child (node Kind.BindingIdentifier 36 (more (string (codes "_g")) end))) (more (child (node Kind.ArrowFunctionExpression 37 (more (list (trees (node Kind.RestElement 38 (more (child (node Kind.BindingIdentifier 39 (more (string (codes "_args")) end))) end) ∷ []))) (more (child (node Kind.SequenceExpression 40 (more (list (trees (node Kind.CallExpression 41 (more (child (node Kind.Super 14 end)) (more (list (trees (node Kind.SpreadElement 42 (more (child (node Kind.IdentifierReference 43 (more (string (codes "_args")) end))) end) ∷ []))) (more (boolean false) end))) ∷ node Kind.CallExpression 44 (more (child (node Kind.IdentifierReference 45 (more (string (codes "g")) end))) (more (list (trees (node Kind.Literal 46 (more (literal (literal_value.Number (codes "7"))) end) ∷ []))) (more (boolean false) end))) ∷ node Kind.ThisExpression 47 end ∷ []))) end))) (more (boolean false) end))))) end)) ∷ []))) end)) ∷ node Kind.ExpressionStatement 12 (more (child (node Kind.CallExpression 13 (more (child (node Kind.MemberExpression 48 (more (child (node Kind.IdentifierReference 49 (more (string (codes "_f")) end))) (more (child (node Kind.IdentifierName 50 (more (string (codes "call")) end))) (more (boolean false) (more (boolean false) end)))))) (more (list (trees (node Kind.CallExpression 51 (more (child (node Kind.IdentifierReference 52 (more (string (codes "_g")) end))) (more (list end) (more (boolean false) end))) ∷ []))) (more (boolean false) end))))) (more no_string end)) ∷ []))) end))) (more (boolean false) (more (boolean false) end))))))) (more (string (codes "constructor")) (more (boolean false) (more (boolean false) end))))) ∷ []))) end))) end))) ∷ node Kind.ExpressionStatement 15 (more (child (node Kind.NewExpression 16 (more (child (node Kind.IdentifierReference 17 (more (string (codes "C")) end))) (more (list end) end)))) (more no_string end)) ∷ []))) end))

abbrev pub generated_super_function_called_with_another : List LedgerEntry
generated_super_function_called_with_another = record { name = codes "_f"; kind = GeneratedKind.SuperFn (record { 0 = 1 }) } ∷ record { name = codes "_g"; kind = GeneratedKind.SuperFn (record { 0 = 1 }) } ∷ record { name = codes "_args"; kind = GeneratedKind.Args } ∷ []

abbrev pub options_super_function_called_with_another : Options
options_super_function_called_with_another = options_of false (Some (record { loose = false })) false
