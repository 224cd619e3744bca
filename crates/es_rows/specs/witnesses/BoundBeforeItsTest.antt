-- Printed by tools/rows/witnesses.js.
use Rattle.std.specs.Prelude.{ℕ, List, [], ◌∷◌, true, false, codes, Some}
use Rattle.es_base.specs.Tree.{Tree, end, more, child, absent, list, string, no_string, boolean, literal, trees}
use Rattle.es_base.specs.declared.kind.Kind.{Kind}
use Rattle.es_base.specs.declared.ledger.GeneratedKind.{GeneratedKind}
use Rattle.es_base.specs.declared.ledger.LedgerEntry.{LedgerEntry}
use Rattle.es_base.specs.declared.literal.LiteralValue.TheVariants as literal_value
use Rattle.es_steps.specs.Generated.{node}
use Rattle.es_steps.specs.Options.{options_of}
use Rattle.es_steps.specs.declared.options.Options.{Options}

-- `class A { #x; m(o) { return o.#x?.(1); } }`
abbrev pub source_bound_before_its_test : Tree
source_bound_before_its_test = node Kind.Program 0 (more (string (codes "script")) (more (list (trees (node Kind.ClassDeclaration 1 (more (child (node Kind.BindingIdentifier 2 (more (string (codes "A")) end))) (more absent (more (child (node Kind.ClassBody 3 (more (list (trees (node Kind.PropertyDefinition 4 (more (child (node Kind.PrivateIdentifier 5 (more (string (codes "x")) end))) (more absent (more (boolean false) (more (boolean false) end)))) ∷ node Kind.MethodDefinition 6 (more (child (node Kind.IdentifierName 7 (more (string (codes "m")) end))) (more (child (node Kind.FunctionExpression 8 (more absent (more (list (trees (node Kind.BindingIdentifier 9 (more (string (codes "o")) end) ∷ []))) (more (child (node Kind.BlockStatement 10 (more (list (trees (node Kind.ReturnStatement 11 (more (child (node Kind.ChainExpression 12 (more (child (node Kind.CallExpression 13 (more (child (node Kind.PrivateField 14 (more (child (node Kind.IdentifierReference 15 (more (string (codes "o")) end))) (more (child (node Kind.PrivateIdentifier 16 (more (string (codes "x")) end))) (more (boolean false) (more (boolean false) end)))))) (more (list (trees (node Kind.Literal 17 (more (literal (literal_value.Number (codes "1"))) end) ∷ []))) (more (boolean true) end))))) end))) end) ∷ []))) end))) (more (boolean false) (more (boolean false) end))))))) (more (string (codes "method")) (more (boolean false) (more (boolean false) end))))) ∷ []))) end))) end))) ∷ []))) end))

-- a private method bound before it is tested, where `var _x = new WeakMap(); class A { constructor() { B.classPrivateFieldInitSpec(this, _x, void 0); } m(o) { return B.classPrivateFieldGet2(_x, o)?.call(o, 1); } }` is right
abbrev pub output_bound_before_its_test : Tree
output_bound_before_its_test = node Kind.Program 0 (more (string (codes "script")) (more (list (trees (node Kind.VariableDeclaration 18 (more (string (codes "var")) (more (list (trees (node Kind.VariableDeclarator 19 (more (child (node Kind.BindingIdentifier 20 (more (string (codes "_x")) end))) (more (child (node Kind.NewExpression 21 (more (child (node Kind.IdentifierReference 22 (more (string (codes "WeakMap")) end))) (more (list end) end)))) end)) ∷ []))) end)) ∷ node Kind.ClassDeclaration 1 (more (child (node Kind.BindingIdentifier 2 (more (string (codes "A")) end))) (more absent (more (child (node Kind.ClassBody 3 (more (list (trees (node Kind.MethodDefinition 23 (more (child (node Kind.IdentifierName 24 (more (string (codes "constructor")) end))) (more (child (node Kind.FunctionExpression 25 (more absent (more (list end) (more (child (node Kind.BlockStatement 26 (more (list (trees (node Kind.ExpressionStatement 27 (more (child (node Kind.CallExpression 28 (more (child (node Kind.MemberExpression 29 (more (child (node Kind.IdentifierReference 30 (more (string (codes "babelHelpers")) end))) (more (child (node Kind.IdentifierName 31 (more (string (codes "classPrivateFieldInitSpec")) end))) (more (boolean false) (more (boolean false) end)))))) (more (list (trees (node Kind.ThisExpression 32 end ∷ node Kind.IdentifierReference 33 (more (string (codes "_x")) end) ∷ node Kind.UnaryExpression 34 (more (string (codes "void")) (more (child (node Kind.Literal 35 (more (literal (literal_value.Number (codes "0"))) end))) end)) ∷ []))) (more (boolean false) end))))) (more no_string end)) ∷ []))) end))) (more (boolean false) (more (boolean false) end))))))) (more (string (codes "constructor")) (more (boolean false) (more (boolean false) end))))) ∷ node Kind.MethodDefinition 6 (more (child (node Kind.IdentifierName 7 (more (string (codes "m")) end))) (more (child (node Kind.FunctionExpression 8 (more absent (more (list (trees (node Kind.BindingIdentifier 9 (more (string (codes "o")) end) ∷ []))) (more (child (node Kind.BlockStatement 10 (more (list (trees (node Kind.ReturnStatement 11 (more (child (node Kind.ChainExpression 12 (more (child (node Kind.CallExpression 13 (more (child (node Kind.CallExpression 36 (more (child (node Kind.MemberExpression 37 (more (child (node Kind.CallExpression 14 (more (child (node Kind.MemberExpression 38 (more (child (node Kind.IdentifierReference 39 (more (string (codes "babelHelpers")) end))) (more (child (node Kind.IdentifierName 40 (more (string (codes "classPrivateFieldGet2")) end))) (more (boolean false) (more (boolean false) end)))))) (more (list (trees (node Kind.IdentifierReference 41 (more (string (codes "_x")) end) ∷ node Kind.IdentifierReference 15 (more (string (codes "o")) end) ∷ []))) (more (boolean false) end))))) (more (child (node Kind.IdentifierName 42 (more (string (codes "bind")) end))) (more (boolean false) (more (boolean false) end)))))) (more (list (trees (node Kind.IdentifierReference 43 (more (string (codes "o")) end) ∷ []))) (more (boolean false) end))))) (more (list (trees (node Kind.Literal 17 (more (literal (literal_value.Number (codes "1"))) end) ∷ []))) (more (boolean true) end))))) end))) end) ∷ []))) end))) (more (boolean false) (more (boolean false) end))))))) (more (string (codes "method")) (more (boolean false) (more (boolean false) end))))) ∷ []))) end))) end))) ∷ []))) end))

abbrev pub generated_bound_before_its_test : List LedgerEntry
generated_bound_before_its_test = record { name = codes "_x"; kind = GeneratedKind.WeakMap (record { 0 = 5 }) } ∷ []

abbrev pub options_bound_before_its_test : Options
options_bound_before_its_test = options_of false (Some (record { loose = false })) false
