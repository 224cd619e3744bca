-- Printed by tools/rows/witnesses.js.
use Rattle.std.specs.Prelude.{ℕ, List, [], ◌∷◌, true, false, codes, Some, None}
use Rattle.es_base.specs.Tree.{Tree, end, more, child, absent, list, string, no_string, boolean, literal, trees}
use Rattle.es_base.specs.declared.kind.Kind.{Kind}
use Rattle.es_base.specs.declared.ledger.LedgerEntry.{LedgerEntry}
use Rattle.es_base.specs.declared.literal.LiteralValue.TheVariants as literal_value
use Rattle.es_steps.specs.Generated.{node}
use Rattle.es_steps.specs.Options.{options_of}
use Rattle.es_steps.specs.declared.options.Options.{Options}

-- `try { f(); } catch ({ [h()]: a, b = (a, class { x = 1; }) }) { k(b); }`
abbrev pub source_name_of_a_pattern_in_front_of_its_key : Tree
source_name_of_a_pattern_in_front_of_its_key = node Kind.Program 0 (more (string (codes "script")) (more (list (trees (node Kind.TryStatement 1 (more (child (node Kind.BlockStatement 2 (more (list (trees (node Kind.ExpressionStatement 3 (more (child (node Kind.CallExpression 4 (more (child (node Kind.IdentifierReference 5 (more (string (codes "f")) end))) (more (list end) (more (boolean false) end))))) (more no_string end)) ∷ []))) end))) (more (child (node Kind.CatchClause 6 (more (child (node Kind.ObjectPattern 7 (more (list (trees (node Kind.BindingProperty 8 (more (child (node Kind.CallExpression 9 (more (child (node Kind.IdentifierReference 10 (more (string (codes "h")) end))) (more (list end) (more (boolean false) end))))) (more (child (node Kind.BindingIdentifier 11 (more (string (codes "a")) end))) (more (string (codes "init")) (more (boolean false) (more (boolean false) (more (boolean true) end)))))) ∷ node Kind.BindingProperty 12 (more (child (node Kind.IdentifierName 13 (more (string (codes "b")) end))) (more (child (node Kind.AssignmentPattern 14 (more (child (node Kind.BindingIdentifier 15 (more (string (codes "b")) end))) (more (child (node Kind.SequenceExpression 16 (more (list (trees (node Kind.IdentifierReference 17 (more (string (codes "a")) end) ∷ node Kind.ClassExpression 18 (more absent (more absent (more (child (node Kind.ClassBody 19 (more (list (trees (node Kind.PropertyDefinition 20 (more (child (node Kind.IdentifierName 21 (more (string (codes "x")) end))) (more (child (node Kind.Literal 22 (more (literal (literal_value.Number (codes "1"))) end))) (more (boolean false) (more (boolean false) end)))) ∷ []))) end))) end))) ∷ []))) end))) end)))) (more (string (codes "init")) (more (boolean false) (more (boolean true) (more (boolean false) end)))))) ∷ []))) end))) (more (child (node Kind.BlockStatement 23 (more (list (trees (node Kind.ExpressionStatement 24 (more (child (node Kind.CallExpression 25 (more (child (node Kind.IdentifierReference 26 (more (string (codes "k")) end))) (more (list (trees (node Kind.IdentifierReference 27 (more (string (codes "b")) end) ∷ []))) (more (boolean false) end))))) (more no_string end)) ∷ []))) end))) end)))) (more absent end))) ∷ []))) end))

-- the parameter of a catch is read in front of the key of its pattern: `try { f(); } catch ({ [(a, h())]: a, b = class { constructor() { B.defineProperty(this, "x", 1); } } }) { k(b); }`
abbrev pub output_name_of_a_pattern_in_front_of_its_key : Tree
output_name_of_a_pattern_in_front_of_its_key = node Kind.Program 0 (more (string (codes "script")) (more (list (trees (node Kind.TryStatement 1 (more (child (node Kind.BlockStatement 2 (more (list (trees (node Kind.ExpressionStatement 3 (more (child (node Kind.CallExpression 4 (more (child (node Kind.IdentifierReference 5 (more (string (codes "f")) end))) (more (list end) (more (boolean false) end))))) (more no_string end)) ∷ []))) end))) (more (child (node Kind.CatchClause 6 (more (child (node Kind.ObjectPattern 7 (more (list (trees (node Kind.BindingProperty 8 (more (child (node Kind.SequenceExpression 16 (more (list (trees (node Kind.IdentifierReference 17 (more (string (codes "a")) end) ∷ node Kind.CallExpression 9 (more (child (node Kind.IdentifierReference 10 (more (string (codes "h")) end))) (more (list end) (more (boolean false) end))) ∷ []))) end))) (more (child (node Kind.BindingIdentifier 11 (more (string (codes "a")) end))) (more (string (codes "init")) (more (boolean false) (more (boolean false) (more (boolean true) end)))))) ∷ node Kind.BindingProperty 12 (more (child (node Kind.IdentifierName 13 (more (string (codes "b")) end))) (more (child (node Kind.AssignmentPattern 14 (more (child (node Kind.BindingIdentifier 15 (more (string (codes "b")) end))) (more (child (node Kind.ClassExpression 18 (more absent (more absent (more (child (node Kind.ClassBody 19 (more (list (trees (node Kind.MethodDefinition 28 (more (child (node Kind.IdentifierName 29 (more (string (codes "constructor")) end))) (more (child (node Kind.FunctionExpression 30 (more absent (more (list end) (more (child (node Kind.BlockStatement 31 (more (list (trees (node Kind.ExpressionStatement 32 (more (child (node Kind.CallExpression 33 (more (child (node Kind.MemberExpression 34 (more (child (node Kind.IdentifierReference 35 (more (string (codes "babelHelpers")) end))) (more (child (node Kind.IdentifierName 36 (more (string (codes "defineProperty")) end))) (more (boolean false) (more (boolean false) end)))))) (more (list (trees (node Kind.ThisExpression 37 end ∷ node Kind.Literal 38 (more (literal (literal_value.String (codes "x") None)) end) ∷ node Kind.Literal 22 (more (literal (literal_value.Number (codes "1"))) end) ∷ []))) (more (boolean false) end))))) (more no_string end)) ∷ []))) end))) (more (boolean false) (more (boolean false) end))))))) (more (string (codes "constructor")) (more (boolean false) (more (boolean false) end))))) ∷ []))) end))) end))))) end)))) (more (string (codes "init")) (more (boolean false) (more (boolean true) (more (boolean false) end)))))) ∷ []))) end))) (more (child (node Kind.BlockStatement 23 (more (list (trees (node Kind.ExpressionStatement 24 (more (child (node Kind.CallExpression 25 (more (child (node Kind.IdentifierReference 26 (more (string (codes "k")) end))) (more (list (trees (node Kind.IdentifierReference 27 (more (string (codes "b")) end) ∷ []))) (more (boolean false) end))))) (more no_string end)) ∷ []))) end))) end)))) (more absent end))) ∷ []))) end))

abbrev pub generated_name_of_a_pattern_in_front_of_its_key : List LedgerEntry
generated_name_of_a_pattern_in_front_of_its_key = []

abbrev pub options_name_of_a_pattern_in_front_of_its_key : Options
options_name_of_a_pattern_in_front_of_its_key = options_of false (Some (record { loose = false })) false
