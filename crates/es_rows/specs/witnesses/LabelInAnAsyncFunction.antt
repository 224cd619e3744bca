-- Printed by tools/rows/witnesses.js.
use Rattle.std.specs.Prelude.{ℕ, List, [], ◌∷◌, true, false, codes, None}
use Rattle.es_base.specs.Tree.{Tree, end, more, child, absent, list, string, no_string, boolean, literal, trees}
use Rattle.es_base.specs.declared.kind.Kind.{Kind}
use Rattle.es_base.specs.declared.ledger.GeneratedKind.{GeneratedKind}
use Rattle.es_base.specs.declared.ledger.LedgerEntry.{LedgerEntry}
use Rattle.es_base.specs.declared.literal.LiteralValue.TheVariants as literal_value
use Rattle.es_steps.specs.Generated.{node}
use Rattle.es_steps.specs.Options.{options_of}
use Rattle.es_steps.specs.declared.options.Options.{Options}

-- `class A { static { f(1); } #m() {} w(v) { this.#m = v; if (v) await: for (;;) ; } async u(v) { this.#m = v; if (v) l: for (;;) ; } }`
abbrev pub source_label_in_an_async_function : Tree
source_label_in_an_async_function = node Kind.Program 0 (more (string (codes "script")) (more (list (trees (node Kind.ClassDeclaration 1 (more (child (node Kind.BindingIdentifier 2 (more (string (codes "A")) end))) (more absent (more (child (node Kind.ClassBody 3 (more (list (trees (node Kind.StaticBlock 4 (more (list (trees (node Kind.ExpressionStatement 5 (more (child (node Kind.CallExpression 6 (more (child (node Kind.IdentifierReference 7 (more (string (codes "f")) end))) (more (list (trees (node Kind.Literal 8 (more (literal (literal_value.Number (codes "1"))) end) ∷ []))) (more (boolean false) end))))) (more no_string end)) ∷ []))) end) ∷ node Kind.MethodDefinition 9 (more (child (node Kind.PrivateIdentifier 10 (more (string (codes "m")) end))) (more (child (node Kind.FunctionExpression 11 (more absent (more (list end) (more (child (node Kind.BlockStatement 12 (more (list end) end))) (more (boolean false) (more (boolean false) end))))))) (more (string (codes "method")) (more (boolean false) (more (boolean false) end))))) ∷ node Kind.MethodDefinition 13 (more (child (node Kind.IdentifierName 14 (more (string (codes "w")) end))) (more (child (node Kind.FunctionExpression 15 (more absent (more (list (trees (node Kind.BindingIdentifier 16 (more (string (codes "v")) end) ∷ []))) (more (child (node Kind.BlockStatement 17 (more (list (trees (node Kind.ExpressionStatement 18 (more (child (node Kind.AssignmentExpression 19 (more (string (codes "=")) (more (child (node Kind.PrivateField 20 (more (child (node Kind.ThisExpression 21 end)) (more (child (node Kind.PrivateIdentifier 22 (more (string (codes "m")) end))) (more (boolean false) (more (boolean false) end)))))) (more (child (node Kind.IdentifierReference 23 (more (string (codes "v")) end))) end))))) (more no_string end)) ∷ node Kind.IfStatement 24 (more (child (node Kind.IdentifierReference 25 (more (string (codes "v")) end))) (more (child (node Kind.LabeledStatement 26 (more (child (node Kind.IdentifierName 27 (more (string (codes "await")) end))) (more (child (node Kind.ForStatement 28 (more absent (more absent (more absent (more (child (node Kind.EmptyStatement 29 end)) end)))))) end)))) (more absent end))) ∷ []))) end))) (more (boolean false) (more (boolean false) end))))))) (more (string (codes "method")) (more (boolean false) (more (boolean false) end))))) ∷ node Kind.MethodDefinition 30 (more (child (node Kind.IdentifierName 31 (more (string (codes "u")) end))) (more (child (node Kind.FunctionExpression 32 (more absent (more (list (trees (node Kind.BindingIdentifier 33 (more (string (codes "v")) end) ∷ []))) (more (child (node Kind.BlockStatement 34 (more (list (trees (node Kind.ExpressionStatement 35 (more (child (node Kind.AssignmentExpression 36 (more (string (codes "=")) (more (child (node Kind.PrivateField 37 (more (child (node Kind.ThisExpression 38 end)) (more (child (node Kind.PrivateIdentifier 39 (more (string (codes "m")) end))) (more (boolean false) (more (boolean false) end)))))) (more (child (node Kind.IdentifierReference 40 (more (string (codes "v")) end))) end))))) (more no_string end)) ∷ node Kind.IfStatement 41 (more (child (node Kind.IdentifierReference 42 (more (string (codes "v")) end))) (more (child (node Kind.LabeledStatement 43 (more (child (node Kind.IdentifierName 44 (more (string (codes "l")) end))) (more (child (node Kind.ForStatement 45 (more absent (more absent (more absent (more (child (node Kind.EmptyStatement 46 end)) end)))))) end)))) (more absent end))) ∷ []))) end))) (more (boolean true) (more (boolean false) end))))))) (more (string (codes "method")) (more (boolean false) (more (boolean false) end))))) ∷ []))) end))) end))) ∷ []))) end))

-- a label `await` in an async function, behind what always throws, where `class A { static #_ = f(1); #m() {} w(v) { this.#m = v; if (v) await: for (;;) ; } async u(v) { this.#m = v; if (v) l: for (;;) ; } }` is right
abbrev pub output_label_in_an_async_function : Tree
output_label_in_an_async_function = node Kind.Program 0 (more (string (codes "script")) (more (list (trees (node Kind.ClassDeclaration 1 (more (child (node Kind.BindingIdentifier 2 (more (string (codes "A")) end))) (more absent (more (child (node Kind.ClassBody 3 (more (list (trees (node Kind.PropertyDefinition 47 (more (child (node Kind.PrivateIdentifier 48 (more (string (codes "_")) end))) (more (child (node Kind.CallExpression 6 (more (child (node Kind.IdentifierReference 7 (more (string (codes "f")) end))) (more (list (trees (node Kind.Literal 8 (more (literal (literal_value.Number (codes "1"))) end) ∷ []))) (more (boolean false) end))))) (more (boolean false) (more (boolean true) end)))) ∷ node Kind.MethodDefinition 9 (more (child (node Kind.PrivateIdentifier 10 (more (string (codes "m")) end))) (more (child (node Kind.FunctionExpression 11 (more absent (more (list end) (more (child (node Kind.BlockStatement 12 (more (list end) end))) (more (boolean false) (more (boolean false) end))))))) (more (string (codes "method")) (more (boolean false) (more (boolean false) end))))) ∷ node Kind.MethodDefinition 13 (more (child (node Kind.IdentifierName 14 (more (string (codes "w")) end))) (more (child (node Kind.FunctionExpression 15 (more absent (more (list (trees (node Kind.BindingIdentifier 16 (more (string (codes "v")) end) ∷ []))) (more (child (node Kind.BlockStatement 17 (more (list (trees (node Kind.ExpressionStatement 18 (more (child (node Kind.AssignmentExpression 19 (more (string (codes "=")) (more (child (node Kind.PrivateField 20 (more (child (node Kind.ThisExpression 21 end)) (more (child (node Kind.PrivateIdentifier 22 (more (string (codes "m")) end))) (more (boolean false) (more (boolean false) end)))))) (more (child (node Kind.IdentifierReference 23 (more (string (codes "v")) end))) end))))) (more no_string end)) ∷ node Kind.IfStatement 24 (more (child (node Kind.IdentifierReference 25 (more (string (codes "v")) end))) (more (child (node Kind.LabeledStatement 43 (more (child (node Kind.IdentifierName 44 (more (string (codes "l")) end))) (more (child (node Kind.ForStatement 45 (more absent (more absent (more absent (more (child (node Kind.EmptyStatement 46 end)) end)))))) end)))) (more absent end))) ∷ []))) end))) (more (boolean false) (more (boolean false) end))))))) (more (string (codes "method")) (more (boolean false) (more (boolean false) end))))) ∷ node Kind.MethodDefinition 30 (more (child (node Kind.IdentifierName 31 (more (string (codes "u")) end))) (more (child (node Kind.FunctionExpression 32 (more absent (more (list (trees (node Kind.BindingIdentifier 33 (more (string (codes "v")) end) ∷ []))) (more (child (node Kind.BlockStatement 34 (more (list (trees (node Kind.ExpressionStatement 35 (more (child (node Kind.AssignmentExpression 36 (more (string (codes "=")) (more (child (node Kind.PrivateField 37 (more (child (node Kind.ThisExpression 38 end)) (more (child (node Kind.PrivateIdentifier 39 (more (string (codes "m")) end))) (more (boolean false) (more (boolean false) end)))))) (more (child (node Kind.IdentifierReference 40 (more (string (codes "v")) end))) end))))) (more no_string end)) ∷ node Kind.IfStatement 41 (more (child (node Kind.IdentifierReference 42 (more (string (codes "v")) end))) (more (child (node Kind.LabeledStatement 26 (more (child (node Kind.IdentifierName 27 (more (string (codes "await")) end))) (more (child (node Kind.ForStatement 28 (more absent (more absent (more absent (more (child (node Kind.EmptyStatement 29 end)) end)))))) end)))) (more absent end))) ∷ []))) end))) (more (boolean true) (more (boolean false) end))))))) (more (string (codes "method")) (more (boolean false) (more (boolean false) end))))) ∷ []))) end))) end))) ∷ []))) end))

abbrev pub generated_label_in_an_async_function : List LedgerEntry
generated_label_in_an_async_function = record { name = codes "_"; kind = GeneratedKind.Private (record { 0 = 1 }) } ∷ []

abbrev pub options_label_in_an_async_function : Options
options_label_in_an_async_function = options_of true None false
