-- Printed by tools/rows/witnesses.js.
use Rattle.std.specs.Prelude.{ℕ, List, [], ◌∷◌, false, codes, Some}
use Rattle.es_base.specs.Tree.{Tree, end, more, child, absent, list, string, no_string, boolean, literal, trees}
use Rattle.es_base.specs.declared.kind.Kind.{Kind}
use Rattle.es_base.specs.declared.ledger.GeneratedKind.{GeneratedKind}
use Rattle.es_base.specs.declared.ledger.LedgerEntry.{LedgerEntry}
use Rattle.es_base.specs.declared.literal.LiteralValue.TheVariants as literal_value
use Rattle.es_steps.specs.Generated.{node}
use Rattle.es_steps.specs.Options.{options_of}
use Rattle.es_steps.specs.declared.options.Options.{Options}

-- `class C { #b; m(a) { return a.#b(5); } }`
abbrev pub source_receiver_of_a_private_call : Tree
source_receiver_of_a_private_call = node Kind.Program 0 (more (string (codes "script")) (more (list (trees (node Kind.ClassDeclaration 1 (more (child (node Kind.BindingIdentifier 2 (more (string (codes "C")) end))) (more absent (more (child (node Kind.ClassBody 3 (more (list (trees (node Kind.PropertyDefinition 4 (more (child (node Kind.PrivateIdentifier 5 (more (string (codes "b")) end))) (more absent (more (boolean false) (more (boolean false) end)))) ∷ node Kind.MethodDefinition 6 (more (child (node Kind.IdentifierName 7 (more (string (codes "m")) end))) (more (child (node Kind.FunctionExpression 8 (more absent (more (list (trees (node Kind.BindingIdentifier 9 (more (string (codes "a")) end) ∷ []))) (more (child (node Kind.BlockStatement 10 (more (list (trees (node Kind.ReturnStatement 11 (more (child (node Kind.CallExpression 12 (more (child (node Kind.PrivateField 13 (more (child (node Kind.IdentifierReference 14 (more (string (codes "a")) end))) (more (child (node Kind.PrivateIdentifier 15 (more (string (codes "b")) end))) (more (boolean false) (more (boolean false) end)))))) (more (list (trees (node Kind.Literal 16 (more (literal (literal_value.Number (codes "5"))) end) ∷ []))) (more (boolean false) end))))) end) ∷ []))) end))) (more (boolean false) (more (boolean false) end))))))) (more (string (codes "method")) (more (boolean false) (more (boolean false) end))))) ∷ []))) end))) end))) ∷ []))) end))

-- a private method called without its receiver, where `var _b = new WeakMap(); class C { constructor() { B.classPrivateFieldInitSpec(this, _b, void 0); } m(a) { return B.classPrivateFieldGet2(_b, a).call(a, 5); } }` is right
abbrev pub output_receiver_of_a_private_call : Tree
output_receiver_of_a_private_call = node Kind.Program 0 (more (string (codes "script")) (more (list (trees (node Kind.VariableDeclaration 17 (more (string (codes "var")) (more (list (trees (node Kind.VariableDeclarator 18 (more (child (node Kind.BindingIdentifier 19 (more (string (codes "_b")) end))) (more (child (node Kind.NewExpression 20 (more (child (node Kind.IdentifierReference 21 (more (string (codes "WeakMap")) end))) (more (list end) end)))) end)) ∷ []))) end)) ∷ node Kind.ClassDeclaration 1 (more (child (node Kind.BindingIdentifier 2 (more (string (codes "C")) end))) (more absent (more (child (node Kind.ClassBody 3 (more (list (trees (node Kind.MethodDefinition 22 (more (child (node Kind.IdentifierName 23 (more (string (codes "constructor")) end))) (more (child (node Kind.FunctionExpression 24 (more absent (more (list end) (more (child (node Kind.BlockStatement 25 (more (list (trees (node Kind.ExpressionStatement 26 (more (child (node Kind.CallExpression 27 (more (child (node Kind.MemberExpression 28 (more (child (node Kind.IdentifierReference 29 (more (string (codes "babelHelpers")) end))) (more (child (node Kind.IdentifierName 30 (more (string (codes "classPrivateFieldInitSpec")) end))) (more (boolean false) (more (boolean false) end)))))) (more (list (trees (node Kind.ThisExpression 31 end ∷ node Kind.IdentifierReference 32 (more (string (codes "_b")) end) ∷ node Kind.UnaryExpression 33 (more (string (codes "void")) (more (child (node Kind.Literal 34 (more (literal (literal_value.Number (codes "0"))) end))) end)) ∷ []))) (more (boolean false) end))))) (more no_string end)) ∷ []))) end))) (more (boolean false) (more (boolean false) end))))))) (more (string (codes "constructor")) (more (boolean false) (more (boolean false) end))))) ∷ node Kind.MethodDefinition 6 (more (child (node Kind.IdentifierName 7 (more (string (codes "m")) end))) (more (child (node Kind.FunctionExpression 8 (more absent (more (list (trees (node Kind.BindingIdentifier 9 (more (string (codes "a")) end) ∷ []))) (more (child (node Kind.BlockStatement 10 (more (list (trees (node Kind.ReturnStatement 11 (more (child (node Kind.CallExpression 12 (more (child (node Kind.CallExpression 13 (more (child (node Kind.MemberExpression 35 (more (child (node Kind.IdentifierReference 36 (more (string (codes "babelHelpers")) end))) (more (child (node Kind.IdentifierName 37 (more (string (codes "classPrivateFieldGet2")) end))) (more (boolean false) (more (boolean false) end)))))) (more (list (trees (node Kind.IdentifierReference 38 (more (string (codes "_b")) end) ∷ node Kind.IdentifierReference 14 (more (string (codes "a")) end) ∷ []))) (more (boolean false) end))))) (more (list (trees (node Kind.Literal 16 (more (literal (literal_value.Number (codes "5"))) end) ∷ []))) (more (boolean false) end))))) end) ∷ []))) end))) (more (boolean false) (more (boolean false) end))))))) (more (string (codes "method")) (more (boolean false) (more (boolean false) end))))) ∷ []))) end))) end))) ∷ []))) end))

abbrev pub generated_receiver_of_a_private_call : List LedgerEntry
generated_receiver_of_a_private_call = record { name = codes "_b"; kind = GeneratedKind.WeakMap (record { 0 = 5 }) } ∷ []

abbrev pub options_receiver_of_a_private_call : Options
options_receiver_of_a_private_call = options_of false (Some (record { loose = false })) false
