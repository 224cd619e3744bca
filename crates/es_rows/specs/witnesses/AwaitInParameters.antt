-- Printed by tools/rows/witnesses.js.
use Rattle.std.specs.Prelude.{ℕ, List, [], ◌∷◌, true, false, codes, None}
use Rattle.es_base.specs.Tree.{Tree, end, more, child, absent, list, string, no_string, boolean, literal, trees}
use Rattle.es_base.specs.declared.kind.Kind.{Kind}
use Rattle.es_base.specs.declared.ledger.GeneratedKind.{GeneratedKind}
use Rattle.es_base.specs.declared.ledger.LedgerEntry.{LedgerEntry}
use Rattle.es_base.specs.declared.literal.LiteralValue.TheVariants as literal_value
use Rattle.es_steps.specs.Generated.{node}
use Rattle.es_steps.specs.Options.{options_of}
use Rattle.es_steps.specs.declared.options.Options.{Options}

-- `class A { static { f(1); } #m() {} async w({ [this.#m = 1]: a, b = g }) { await g; } }`
abbrev pub source_await_in_parameters : Tree
source_await_in_parameters = node Kind.Program 0 (more (string (codes "script")) (more (list (trees (node Kind.ClassDeclaration 1 (more (child (node Kind.BindingIdentifier 2 (more (string (codes "A")) end))) (more absent (more (child (node Kind.ClassBody 3 (more (list (trees (node Kind.StaticBlock 4 (more (list (trees (node Kind.ExpressionStatement 5 (more (child (node Kind.CallExpression 6 (more (child (node Kind.IdentifierReference 7 (more (string (codes "f")) end))) (more (list (trees (node Kind.Literal 8 (more (literal (literal_value.Number (codes "1"))) end) ∷ []))) (more (boolean false) end))))) (more no_string end)) ∷ []))) end) ∷ node Kind.MethodDefinition 9 (more (child (node Kind.PrivateIdentifier 10 (more (string (codes "m")) end))) (more (child (node Kind.FunctionExpression 11 (more absent (more (list end) (more (child (node Kind.BlockStatement 12 (more (list end) end))) (more (boolean false) (more (boolean false) end))))))) (more (string (codes "method")) (more (boolean false) (more (boolean false) end))))) ∷ node Kind.MethodDefinition 13 (more (child (node Kind.IdentifierName 14 (more (string (codes "w")) end))) (more (child (node Kind.FunctionExpression 15 (more absent (more (list (trees (node Kind.ObjectPattern 16 (more (list (trees (node Kind.BindingProperty 17 (more (child (node Kind.AssignmentExpression 18 (more (string (codes "=")) (more (child (node Kind.PrivateField 19 (more (child (node Kind.ThisExpression 20 end)) (more (child (node Kind.PrivateIdentifier 21 (more (string (codes "m")) end))) (more (boolean false) (more (boolean false) end)))))) (more (child (node Kind.Literal 22 (more (literal (literal_value.Number (codes "1"))) end))) end))))) (more (child (node Kind.BindingIdentifier 23 (more (string (codes "a")) end))) (more (string (codes "init")) (more (boolean false) (more (boolean false) (more (boolean true) end)))))) ∷ node Kind.BindingProperty 24 (more (child (node Kind.IdentifierName 25 (more (string (codes "b")) end))) (more (child (node Kind.AssignmentPattern 26 (more (child (node Kind.BindingIdentifier 27 (more (string (codes "b")) end))) (more (child (node Kind.IdentifierReference 28 (more (string (codes "g")) end))) end)))) (more (string (codes "init")) (more (boolean false) (more (boolean true) (more (boolean false) end)))))) ∷ []))) end) ∷ []))) (more (child (node Kind.BlockStatement 29 (more (list (trees (node Kind.ExpressionStatement 30 (more (child (node Kind.AwaitExpression 31 (more (child (node Kind.IdentifierReference 32 (more (string (codes "g")) end))) end))) (more no_string end)) ∷ []))) end))) (more (boolean true) (more (boolean false) end))))))) (more (string (codes "method")) (more (boolean false) (more (boolean false) end))))) ∷ []))) end))) end))) ∷ []))) end))

-- `await` in the parameters of its function, behind what always throws, where `class A { static #_ = f(1); #m() {} async w({ [this.#m = 1]: a, b = g }) { await g; } }` is right
abbrev pub output_await_in_parameters : Tree
output_await_in_parameters = node Kind.Program 0 (more (string (codes "script")) (more (list (trees (node Kind.ClassDeclaration 1 (more (child (node Kind.BindingIdentifier 2 (more (string (codes "A")) end))) (more absent (more (child (node Kind.ClassBody 3 (more (list (trees (node Kind.PropertyDefinition 33 (more (child (node Kind.PrivateIdentifier 34 (more (string (codes "_")) end))) (more (child (node Kind.CallExpression 6 (more (child (node Kind.IdentifierReference 7 (more (string (codes "f")) end))) (more (list (trees (node Kind.Literal 8 (more (literal (literal_value.Number (codes "1"))) end) ∷ []))) (more (boolean false) end))))) (more (boolean false) (more (boolean true) end)))) ∷ node Kind.MethodDefinition 9 (more (child (node Kind.PrivateIdentifier 10 (more (string (codes "m")) end))) (more (child (node Kind.FunctionExpression 11 (more absent (more (list end) (more (child (node Kind.BlockStatement 12 (more (list end) end))) (more (boolean false) (more (boolean false) end))))))) (more (string (codes "method")) (more (boolean false) (more (boolean false) end))))) ∷ node Kind.MethodDefinition 13 (more (child (node Kind.IdentifierName 14 (more (string (codes "w")) end))) (more (child (node Kind.FunctionExpression 15 (more absent (more (list (trees (node Kind.ObjectPattern 16 (more (list (trees (node Kind.BindingProperty 17 (more (child (node Kind.AssignmentExpression 18 (more (string (codes "=")) (more (child (node Kind.PrivateField 19 (more (child (node Kind.ThisExpression 20 end)) (more (child (node Kind.PrivateIdentifier 21 (more (string (codes "m")) end))) (more (boolean false) (more (boolean false) end)))))) (more (child (node Kind.Literal 22 (more (literal (literal_value.Number (codes "1"))) end))) end))))) (more (child (node Kind.BindingIdentifier 23 (more (string (codes "a")) end))) (more (string (codes "init")) (more (boolean false) (more (boolean false) (more (boolean true) end)))))) ∷ node Kind.BindingProperty 24 (more (child (node Kind.IdentifierName 25 (more (string (codes "b")) end))) (more (child (node Kind.AssignmentPattern 26 (more (child (node Kind.BindingIdentifier 27 (more (string (codes "b")) end))) (more (child (node Kind.AwaitExpression 31 (more (child (node Kind.IdentifierReference 32 (more (string (codes "g")) end))) end))) end)))) (more (string (codes "init")) (more (boolean false) (more (boolean true) (more (boolean false) end)))))) ∷ []))) end) ∷ []))) (more (child (node Kind.BlockStatement 29 (more (list (trees (node Kind.ExpressionStatement 30 (more (child (node Kind.IdentifierReference 28 (more (string (codes "g")) end))) (more no_string end)) ∷ []))) end))) (more (boolean true) (more (boolean false) end))))))) (more (string (codes "method")) (more (boolean false) (more (boolean false) end))))) ∷ []))) end))) end))) ∷ []))) end))

abbrev pub generated_await_in_parameters : List LedgerEntry
generated_await_in_parameters = record { name = codes "_"; kind = GeneratedKind.Private (record { 0 = 1 }) } ∷ []

abbrev pub options_await_in_parameters : Options
options_await_in_parameters = options_of true None false
