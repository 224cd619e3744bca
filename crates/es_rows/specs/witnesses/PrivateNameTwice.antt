-- Printed by tools/rows/witnesses.js.
use Rattle.std.specs.Prelude.{ℕ, List, [], ◌∷◌, true, false, codes, None}
use Rattle.es_base.specs.Tree.{Tree, end, more, child, absent, list, string, no_string, boolean, literal, trees}
use Rattle.es_base.specs.declared.kind.Kind.{Kind}
use Rattle.es_base.specs.declared.ledger.GeneratedKind.{GeneratedKind}
use Rattle.es_base.specs.declared.ledger.LedgerEntry.{LedgerEntry}
use Rattle.es_base.specs.declared.literal.LiteralValue.TheVariants as literal_value
use Rattle.es_steps.specs.Generated.{node}
use Rattle.es_steps.specs.Options.{options_of}
use Rattle.es_steps.specs.declared.options.Options.{Options}

-- `class C { #_ = 1; static { foo } }`
abbrev pub source_private_name_twice : Tree
source_private_name_twice = node Kind.Program 0 (more (string (codes "script")) (more (list (trees (node Kind.ClassDeclaration 1 (more (child (node Kind.BindingIdentifier 2 (more (string (codes "C")) end))) (more absent (more (child (node Kind.ClassBody 3 (more (list (trees (node Kind.PropertyDefinition 4 (more (child (node Kind.PrivateIdentifier 5 (more (string (codes "_")) end))) (more (child (node Kind.Literal 6 (more (literal (literal_value.Number (codes "1"))) end))) (more (boolean false) (more (boolean false) end)))) ∷ node Kind.StaticBlock 7 (more (list (trees (node Kind.ExpressionStatement 8 (more (child (node Kind.IdentifierReference 9 (more (string (codes "foo")) end))) (more no_string end)) ∷ []))) end) ∷ []))) end))) end))) ∷ []))) end))

-- a private name declared twice, where `var _staticBlock; let C = (class C { #_ = 1; static #_2 = _staticBlock = () => (foo, this); }, _staticBlock());` is right
abbrev pub output_private_name_twice : Tree
output_private_name_twice = node Kind.Program 0 (more (string (codes "script")) (more (list (trees (node Kind.VariableDeclaration 10 (more (string (codes "var")) (more (list (trees (node Kind.VariableDeclarator 11 (more (child (node Kind.BindingIdentifier 12 (more (string (codes "_staticBlock")) end))) (more absent end)) ∷ []))) end)) ∷ node Kind.VariableDeclaration 13 (more (string (codes "let")) (more (list (trees (node Kind.VariableDeclarator 14 (more (child (node Kind.BindingIdentifier 2 (more (string (codes "C")) end))) (more (child (node Kind.SequenceExpression 15 (more (list (trees (node Kind.ClassExpression 1 (more (child (node Kind.BindingIdentifier 16 (more (string (codes "C")) end))) (more absent (more (child (node Kind.ClassBody 3 (more (list (trees (node Kind.PropertyDefinition 4 (more (child (node Kind.PrivateIdentifier 5 (more (string (codes "_")) end))) (more (child (node Kind.Literal 6 (more (literal (literal_value.Number (codes "1"))) end))) (more (boolean false) (more (boolean false) end)))) ∷ node Kind.PropertyDefinition 17 (more (child (node Kind.PrivateIdentifier 18 (more (string (codes "_")) end))) (more (child (node Kind.AssignmentExpression 19 (more (string (codes "=")) (more (child (node Kind.IdentifierReference 20 (more (string (codes "_staticBlock")) end))) (more (child (node Kind.ArrowFunctionExpression 21 (more (list end) (more (child (node Kind.SequenceExpression 22 (more (list (trees (node Kind.IdentifierReference 9 (more (string (codes "foo")) end) ∷ node Kind.ThisExpression 23 end ∷ []))) end))) (more (boolean false) end))))) end))))) (more (boolean false) (more (boolean true) end)))) ∷ []))) end))) end))) ∷ node Kind.CallExpression 24 (more (child (node Kind.IdentifierReference 25 (more (string (codes "_staticBlock")) end))) (more (list end) (more (boolean false) end))) ∷ []))) end))) end)) ∷ []))) end)) ∷ []))) end))

abbrev pub generated_private_name_twice : List LedgerEntry
generated_private_name_twice = record { name = codes "_"; kind = GeneratedKind.Private (record { 0 = 1 }) } ∷ record { name = codes "_staticBlock"; kind = GeneratedKind.Closure } ∷ []

abbrev pub options_private_name_twice : Options
options_private_name_twice = options_of true None false
