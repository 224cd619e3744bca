-- Printed by tools/rows/witnesses.js.
use Rattle.std.specs.Prelude.{ℕ, List, [], ◌∷◌, true, false, codes, Some}
use Rattle.es_base.specs.Tree.{Tree, end, more, child, absent, list, string, no_string, boolean, literal, trees}
use Rattle.es_base.specs.declared.kind.Kind.{Kind}
use Rattle.es_base.specs.declared.ledger.GeneratedKind.{GeneratedKind}
use Rattle.es_base.specs.declared.ledger.LedgerEntry.{LedgerEntry}
use Rattle.es_base.specs.declared.literal.LiteralValue.TheVariants as literal_value
use Rattle.es_steps.specs.Generated.{node}
use Rattle.es_steps.specs.Options.{options_of}
use Rattle.es_steps.specs.declared.options.Options.{Options}

-- `class A { #x = 1; [k((o) => #x in o)]() {} }`
abbrev pub source_map_behind_a_key : Tree
source_map_behind_a_key = node Kind.Program 0 (more (string (codes "script")) (more (list (trees (node Kind.ClassDeclaration 1 (more (child (node Kind.BindingIdentifier 2 (more (string (codes "A")) end))) (more absent (more (child (node Kind.ClassBody 3 (more (list (trees (node Kind.PropertyDefinition 4 (more (child (node Kind.PrivateIdentifier 5 (more (string (codes "x")) end))) (more (child (node Kind.Literal 6 (more (literal (literal_value.Number (codes "1"))) end))) (more (boolean false) (more (boolean false) end)))) ∷ node Kind.MethodDefinition 7 (more (child (node Kind.CallExpression 8 (more (child (node Kind.IdentifierReference 9 (more (string (codes "k")) end))) (more (list (trees (node Kind.ArrowFunctionExpression 10 (more (list (trees (node Kind.BindingIdentifier 11 (more (string (codes "o")) end) ∷ []))) (more (child (node Kind.PrivateIn 12 (more (string (codes "in")) (more (child (node Kind.PrivateIdentifier 13 (more (string (codes "x")) end))) (more (child (node Kind.IdentifierReference 14 (more (string (codes "o")) end))) end))))) (more (boolean false) end))) ∷ []))) (more (boolean false) end))))) (more (child (node Kind.FunctionExpression 15 (more absent (more (list end) (more (child (node Kind.BlockStatement 16 (more (list end) end))) (more (boolean false) (more (boolean false) end))))))) (more (string (codes "method")) (more (boolean true) (more (boolean false) end))))) ∷ []))) end))) end))) ∷ []))) end))

-- a map made behind a key of its class, in which an arrow asks for it: `var _k, _x; _k = k((o) => _x.has(B.checkInRHS(o))); _x = new WeakMap(); class A { constructor() { B.classPrivateFieldInitSpec(this, _x, 1); } [_k]() {} }`
abbrev pub output_map_behind_a_key : Tree
output_map_behind_a_key = node Kind.Program 0 (more (string (codes "script")) (more (list (trees (node Kind.VariableDeclaration 17 (more (string (codes "var")) (more (list (trees (node Kind.VariableDeclarator 18 (more (child (node Kind.BindingIdentifier 19 (more (string (codes "_k")) end))) (more absent end)) ∷ node Kind.VariableDeclarator 20 (more (child (node Kind.BindingIdentifier 21 (more (string (codes "_x")) end))) (more absent end)) ∷ []))) end)) ∷ node Kind.ExpressionStatement 22 (more (child (node Kind.AssignmentExpression 23 (more (string (codes "=")) (more (child (node Kind.IdentifierReference 24 (more (string (codes "_k")) end))) (more (child (node Kind.CallExpression 8 (more (child (node Kind.IdentifierReference 9 (more (string (codes "k")) end))) (more (list (trees (node Kind.ArrowFunctionExpression 10 (more (list (trees (node Kind.BindingIdentifier 11 (more (string (codes "o")) end) ∷ []))) (more (child (node Kind.CallExpression 12 (more (child (node Kind.MemberExpression 25 (more (child (node Kind.IdentifierReference 26 (more (string (codes "_x")) end))) (more (child (node Kind.IdentifierName 27 (more (string (codes "has")) end))) (more (boolean false) (more (boolean false) end)))))) (more (list (trees (node Kind.CallExpression 28 (more (child (node Kind.MemberExpression 29 (more (child (node Kind.IdentifierReference 30 (more (string (codes "babelHelpers")) end))) (more (child (node Kind.IdentifierName 31 (more (string (codes "checkInRHS")) end))) (more (boolean false) (more (boolean false) end)))))) (more (list (trees (node Kind.IdentifierReference 14 (more (string (codes "o")) end) ∷ []))) (more (boolean false) end))) ∷ []))) (more (boolean false) end))))) (more (boolean false) end))) ∷ []))) (more (boolean false) end))))) end))))) (more no_string end)) ∷ node Kind.ExpressionStatement 32 (more (child (node Kind.AssignmentExpression 33 (more (string (codes "=")) (more (child (node Kind.IdentifierReference 34 (more (string (codes "_x")) end))) (more (child (node Kind.NewExpression 35 (more (child (node Kind.IdentifierReference 36 (more (string (codes "WeakMap")) end))) (more (list end) end)))) end))))) (more no_string end)) ∷ node Kind.ClassDeclaration 1 (more (child (node Kind.BindingIdentifier 2 (more (string (codes "A")) end))) (more absent (more (child (node Kind.ClassBody 3 (more (list (trees (node Kind.MethodDefinition 37 (more (child (node Kind.IdentifierName 38 (more (string (codes "constructor")) end))) (more (child (node Kind.FunctionExpression 39 (more absent (more (list end) (more (child (node Kind.BlockStatement 40 (more (list (trees (node Kind.ExpressionStatement 41 (more (child (node Kind.CallExpression 42 (more (child (node Kind.MemberExpression 43 (more (child (node Kind.IdentifierReference 44 (more (string (codes "babelHelpers")) end))) (more (child (node Kind.IdentifierName 45 (more (string (codes "classPrivateFieldInitSpec")) end))) (more (boolean false) (more (boolean false) end)))))) (more (list (trees (node Kind.ThisExpression 46 end ∷ node Kind.IdentifierReference 47 (more (string (codes "_x")) end) ∷ node Kind.Literal 6 (more (literal (literal_value.Number (codes "1"))) end) ∷ []))) (more (boolean false) end))))) (more no_string end)) ∷ []))) end))) (more (boolean false) (more (boolean false) end))))))) (more (string (codes "constructor")) (more (boolean false) (more (boolean false) end))))) ∷ node Kind.MethodDefinition 7 (more (child (node Kind.IdentifierReference 48 (more (string (codes "_k")) end))) (more (child (node Kind.FunctionExpression 15 (more absent (more (list end) (more (child (node Kind.BlockStatement 16 (more (list end) end))) (more (boolean false) (more (boolean false) end))))))) (more (string (codes "method")) (more (boolean true) (more (boolean false) end))))) ∷ []))) end))) end))) ∷ []))) end))

abbrev pub generated_map_behind_a_key : List LedgerEntry
generated_map_behind_a_key = record { name = codes "_k"; kind = GeneratedKind.Temp } ∷ record { name = codes "_x"; kind = GeneratedKind.WeakMap (record { 0 = 5 }) } ∷ []

abbrev pub options_map_behind_a_key : Options
options_map_behind_a_key = options_of false (Some (record { loose = false })) false
