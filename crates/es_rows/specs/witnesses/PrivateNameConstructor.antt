-- Printed by tools/rows/witnesses.js.
use Rattle.std.specs.Prelude.{ℕ, List, [], ◌∷◌, true, false, codes, None}
use Rattle.es_base.specs.Tree.{Tree, end, more, child, absent, list, string, no_string, boolean, literal, trees}
use Rattle.es_base.specs.declared.kind.Kind.{Kind}
use Rattle.es_base.specs.declared.ledger.GeneratedKind.{GeneratedKind}
use Rattle.es_base.specs.declared.ledger.LedgerEntry.{LedgerEntry}
use Rattle.es_base.specs.declared.literal.LiteralValue.TheVariants as literal_value
use Rattle.es_steps.specs.Generated.{node}
use Rattle.es_steps.specs.Options.{options_of}
use Rattle.es_steps.specs.declared.options.Options.{Options}

-- `class A { #x = 1; #y = 2; static { g(); } m() { return this.#x; } }`
abbrev pub source_private_name_constructor : Tree
source_private_name_constructor = node Kind.Program 0 (more (string (codes "script")) (more (list (trees (node Kind.ClassDeclaration 1 (more (child (node Kind.BindingIdentifier 2 (more (string (codes "A")) end))) (more absent (more (child (node Kind.ClassBody 3 (more (list (trees (node Kind.PropertyDefinition 4 (more (child (node Kind.PrivateIdentifier 5 (more (string (codes "x")) end))) (more (child (node Kind.Literal 6 (more (literal (literal_value.Number (codes "1"))) end))) (more (boolean false) (more (boolean false) end)))) ∷ node Kind.PropertyDefinition 7 (more (child (node Kind.PrivateIdentifier 8 (more (string (codes "y")) end))) (more (child (node Kind.Literal 9 (more (literal (literal_value.Number (codes "2"))) end))) (more (boolean false) (more (boolean false) end)))) ∷ node Kind.StaticBlock 10 (more (list (trees (node Kind.ExpressionStatement 11 (more (child (node Kind.CallExpression 12 (more (child (node Kind.IdentifierReference 13 (more (string (codes "g")) end))) (more (list end) (more (boolean false) end))))) (more no_string end)) ∷ []))) end) ∷ node Kind.MethodDefinition 14 (more (child (node Kind.IdentifierName 15 (more (string (codes "m")) end))) (more (child (node Kind.FunctionExpression 16 (more absent (more (list end) (more (child (node Kind.BlockStatement 17 (more (list (trees (node Kind.ReturnStatement 18 (more (child (node Kind.PrivateField 19 (more (child (node Kind.ThisExpression 20 end)) (more (child (node Kind.PrivateIdentifier 21 (more (string (codes "x")) end))) (more (boolean false) (more (boolean false) end)))))) end) ∷ []))) end))) (more (boolean false) (more (boolean false) end))))))) (more (string (codes "method")) (more (boolean false) (more (boolean false) end))))) ∷ []))) end))) end))) ∷ []))) end))

-- a private name spelled `#constructor`, where `var _staticBlock; let A = (class A { #x = 1; #y = 2; m() { return this.#x; } static #_ = _staticBlock = () => (g(), this); }, _staticBlock());` is right
abbrev pub output_private_name_constructor : Tree
output_private_name_constructor = node Kind.Program 0 (more (string (codes "script")) (more (list (trees (node Kind.VariableDeclaration 22 (more (string (codes "var")) (more (list (trees (node Kind.VariableDeclarator 23 (more (child (node Kind.BindingIdentifier 24 (more (string (codes "_staticBlock")) end))) (more absent end)) ∷ []))) end)) ∷ node Kind.VariableDeclaration 25 (more (string (codes "let")) (more (list (trees (node Kind.VariableDeclarator 26 (more (child (node Kind.BindingIdentifier 2 (more (string (codes "A")) end))) (more (child (node Kind.SequenceExpression 27 (more (list (trees (node Kind.ClassExpression 1 (more (child (node Kind.BindingIdentifier 28 (more (string (codes "A")) end))) (more absent (more (child (node Kind.ClassBody 3 (more (list (trees (node Kind.PropertyDefinition 4 (more (child (node Kind.PrivateIdentifier 5 (more (string (codes "constructor")) end))) (more (child (node Kind.Literal 6 (more (literal (literal_value.Number (codes "1"))) end))) (more (boolean false) (more (boolean false) end)))) ∷ node Kind.PropertyDefinition 7 (more (child (node Kind.PrivateIdentifier 8 (more (string (codes "y")) end))) (more (child (node Kind.Literal 9 (more (literal (literal_value.Number (codes "2"))) end))) (more (boolean false) (more (boolean false) end)))) ∷ node Kind.MethodDefinition 14 (more (child (node Kind.IdentifierName 15 (more (string (codes "m")) end))) (more (child (node Kind.FunctionExpression 16 (more absent (more (list end) (more (child (node Kind.BlockStatement 17 (more (list (trees (node Kind.ReturnStatement 18 (more (child (node Kind.PrivateField 19 (more (child (node Kind.ThisExpression 20 end)) (more (child (node Kind.PrivateIdentifier 21 (more (string (codes "constructor")) end))) (more (boolean false) (more (boolean false) end)))))) end) ∷ []))) end))) (more (boolean false) (more (boolean false) end))))))) (more (string (codes "method")) (more (boolean false) (more (boolean false) end))))) ∷ node Kind.PropertyDefinition 29 (more (child (node Kind.PrivateIdentifier 30 (more (string (codes "_")) end))) (more (child (node Kind.AssignmentExpression 31 (more (string (codes "=")) (more (child (node Kind.IdentifierReference 32 (more (string (codes "_staticBlock")) end))) (more (child (node Kind.ArrowFunctionExpression 33 (more (list end) (more (child (node Kind.SequenceExpression 34 (more (list (trees (node Kind.CallExpression 12 (more (child (node Kind.IdentifierReference 13 (more (string (codes "g")) end))) (more (list end) (more (boolean false) end))) ∷ node Kind.ThisExpression 35 end ∷ []))) end))) (more (boolean false) end))))) end))))) (more (boolean false) (more (boolean true) end)))) ∷ []))) end))) end))) ∷ node Kind.CallExpression 36 (more (child (node Kind.IdentifierReference 37 (more (string (codes "_staticBlock")) end))) (more (list end) (more (boolean false) end))) ∷ []))) end))) end)) ∷ []))) end)) ∷ []))) end))

abbrev pub generated_private_name_constructor : List LedgerEntry
generated_private_name_constructor = record { name = codes "_"; kind = GeneratedKind.Private (record { 0 = 1 }) } ∷ record { name = codes "_staticBlock"; kind = GeneratedKind.Closure } ∷ []

abbrev pub options_private_name_constructor : Options
options_private_name_constructor = options_of true None false
