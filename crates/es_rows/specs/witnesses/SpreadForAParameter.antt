-- Printed by tools/rows/witnesses.js.
use Rattle.std.specs.Prelude.{ℕ, List, [], ◌∷◌, true, false, codes, None}
use Rattle.es_base.specs.Tree.{Tree, end, more, child, absent, list, string, no_string, boolean, literal, trees}
use Rattle.es_base.specs.declared.kind.Kind.{Kind}
use Rattle.es_base.specs.declared.ledger.LedgerEntry.{LedgerEntry}
use Rattle.es_base.specs.declared.literal.LiteralValue.TheVariants as literal_value
use Rattle.es_steps.specs.Generated.{node}
use Rattle.es_steps.specs.Options.{options_of}
use Rattle.es_steps.specs.declared.options.Options.{Options}

-- `class C { static { f(...x); } static y = 1; }`
abbrev pub source_spread_for_a_parameter : Tree
source_spread_for_a_parameter = node Kind.Program 0 (more (string (codes "script")) (more (list (trees (node Kind.ClassDeclaration 1 (more (child (node Kind.BindingIdentifier 2 (more (string (codes "C")) end))) (more absent (more (child (node Kind.ClassBody 3 (more (list (trees (node Kind.StaticBlock 4 (more (list (trees (node Kind.ExpressionStatement 5 (more (child (node Kind.CallExpression 6 (more (child (node Kind.IdentifierReference 7 (more (string (codes "f")) end))) (more (list (trees (node Kind.SpreadElement 8 (more (child (node Kind.IdentifierReference 9 (more (string (codes "x")) end))) end) ∷ []))) (more (boolean false) end))))) (more no_string end)) ∷ []))) end) ∷ node Kind.PropertyDefinition 10 (more (child (node Kind.IdentifierName 11 (more (string (codes "y")) end))) (more (child (node Kind.Literal 12 (more (literal (literal_value.Number (codes "1"))) end))) (more (boolean false) (more (boolean true) end)))) ∷ []))) end))) end))) ∷ []))) end))

-- arguments that are spread for one parameter, where `class C { static y = (f(...x), 1); }` is right
abbrev pub output_spread_for_a_parameter : Tree
output_spread_for_a_parameter = node Kind.Program 0 (more (string (codes "script")) (more (list (trees (node Kind.ClassDeclaration 1 (more (child (node Kind.BindingIdentifier 2 (more (string (codes "C")) end))) (more absent (more (child (node Kind.ClassBody 3 (more (list (trees (node Kind.PropertyDefinition 10 (more (child (node Kind.IdentifierName 11 (more (string (codes "y")) end))) (more (child (node Kind.SequenceExpression 13 (more (list (trees (node Kind.CallExpression 14 (more (child (node Kind.ArrowFunctionExpression 15 (more (list (trees (node Kind.BindingIdentifier 16 (more (string (codes "_v")) end) ∷ []))) (more (child (node Kind.CallExpression 6 (more (child (node Kind.IdentifierReference 7 (more (string (codes "f")) end))) (more (list (trees (node Kind.IdentifierReference 17 (more (string (codes "_v")) end) ∷ []))) (more (boolean false) end))))) (more (boolean false) end))))) (more (list (trees (node Kind.SpreadElement 8 (more (child (node Kind.IdentifierReference 9 (more (string (codes "x")) end))) end) ∷ []))) (more (boolean false) end))) ∷ node Kind.Literal 12 (more (literal (literal_value.Number (codes "1"))) end) ∷ []))) end))) (more (boolean false) (more (boolean true) end)))) ∷ []))) end))) end))) ∷ []))) end))

abbrev pub generated_spread_for_a_parameter : List LedgerEntry
generated_spread_for_a_parameter = []

abbrev pub options_spread_for_a_parameter : Options
options_spread_for_a_parameter = options_of true None false
