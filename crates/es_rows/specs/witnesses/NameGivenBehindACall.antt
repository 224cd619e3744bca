-- Printed by tools/rows/witnesses.js.
use Rattle.std.specs.Prelude.{ℕ, List, [], ◌∷◌, true, false, codes, None}
use Rattle.es_base.specs.Tree.{Tree, end, more, child, absent, list, string, no_string, boolean, literal, trees}
use Rattle.es_base.specs.declared.kind.Kind.{Kind}
use Rattle.es_base.specs.declared.ledger.GeneratedKind.{GeneratedKind}
use Rattle.es_base.specs.declared.ledger.LedgerEntry.{LedgerEntry}
use Rattle.es_base.specs.declared.literal.LiteralValue.TheVariants as literal_value
use Rattle.es_steps.specs.Generated.{node}
use Rattle.es_steps.specs.Options.{options_of}
use Rattle.es_steps.specs.declared.options.Options.{Options}

-- `class A { static { h(this); g(this); } }`
abbrev pub source_name_given_behind_a_call : Tree
source_name_given_behind_a_call = node Kind.Program 0 (more (string (codes "script")) (more (list (trees (node Kind.ClassDeclaration 1 (more (child (node Kind.BindingIdentifier 2 (more (string (codes "A")) end))) (more absent (more (child (node Kind.ClassBody 3 (more (list (trees (node Kind.StaticBlock 4 (more (list (trees (node Kind.ExpressionStatement 5 (more (child (node Kind.CallExpression 6 (more (child (node Kind.IdentifierReference 7 (more (string (codes "h")) end))) (more (list (trees (node Kind.ThisExpression 8 end ∷ []))) (more (boolean false) end))))) (more no_string end)) ∷ node Kind.ExpressionStatement 9 (more (child (node Kind.CallExpression 10 (more (child (node Kind.IdentifierReference 11 (more (string (codes "g")) end))) (more (list (trees (node Kind.ThisExpression 12 end ∷ []))) (more (boolean false) end))))) (more no_string end)) ∷ []))) end) ∷ []))) end))) end))) ∷ []))) end))

-- a name that is given to a class behind a call in the same static block: `class A { static #_ = (h(this), g(B.setFunctionName(this, "k"))); }`
abbrev pub output_name_given_behind_a_call : Tree
output_name_given_behind_a_call = node Kind.Program 0 (more (string (codes "script")) (more (list (trees (node Kind.ClassDeclaration 1 (more (child (node Kind.BindingIdentifier 2 (more (string (codes "A")) end))) (more absent (more (child (node Kind.ClassBody 3 (more (list (trees (node Kind.PropertyDefinition 13 (more (child (node Kind.PrivateIdentifier 14 (more (string (codes "_")) end))) (more (child (node Kind.SequenceExpression 15 (more (list (trees (node Kind.CallExpression 6 (more (child (node Kind.IdentifierReference 7 (more (string (codes "h")) end))) (more (list (trees (node Kind.ThisExpression 8 end ∷ []))) (more (boolean false) end))) ∷ node Kind.CallExpression 10 (more (child (node Kind.IdentifierReference 11 (more (string (codes "g")) end))) (more (list (trees (node Kind.CallExpression 16 (more (child (node Kind.MemberExpression 17 (more (child (node Kind.IdentifierReference 18 (more (string (codes "babelHelpers")) end))) (more (child (node Kind.IdentifierName 19 (more (string (codes "setFunctionName")) end))) (more (boolean false) (more (boolean false) end)))))) (more (list (trees (node Kind.ThisExpression 20 end ∷ node Kind.Literal 21 (more (literal (literal_value.String (codes "k") None)) end) ∷ []))) (more (boolean false) end))) ∷ []))) (more (boolean false) end))) ∷ []))) end))) (more (boolean false) (more (boolean true) end)))) ∷ []))) end))) end))) ∷ []))) end))

abbrev pub generated_name_given_behind_a_call : List LedgerEntry
generated_name_given_behind_a_call = record { name = codes "_"; kind = GeneratedKind.Private (record { 0 = 1 }) } ∷ []

abbrev pub options_name_given_behind_a_call : Options
options_name_given_behind_a_call = options_of true None false
