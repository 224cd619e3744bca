-- Printed by tools/rows/witnesses.js.
use Rattle.std.specs.Prelude.{ℕ, List, [], ◌∷◌, false, codes, None}
use Rattle.es_base.specs.Tree.{Tree, end, more, child, absent, list, string, no_string, boolean, literal, trees}
use Rattle.es_base.specs.declared.kind.Kind.{Kind}
use Rattle.es_base.specs.declared.ledger.LedgerEntry.{LedgerEntry}
use Rattle.es_base.specs.declared.literal.LiteralValue.TheVariants as literal_value
use Rattle.es_steps.specs.Generated.{node}
use Rattle.es_steps.specs.Options.{options_of}
use Rattle.es_steps.specs.declared.options.Options.{Options}

-- the own name of a class expression that is written: `(class C { m() { C = 1; g(C); } });`
abbrev pub first_own_name_of_a_class_behind_a_write : Tree
first_own_name_of_a_class_behind_a_write = node Kind.Program 0 (more (string (codes "script")) (more (list (trees (node Kind.ExpressionStatement 1 (more (child (node Kind.ClassExpression 2 (more (child (node Kind.BindingIdentifier 3 (more (string (codes "C")) end))) (more absent (more (child (node Kind.ClassBody 4 (more (list (trees (node Kind.MethodDefinition 5 (more (child (node Kind.IdentifierName 6 (more (string (codes "m")) end))) (more (child (node Kind.FunctionExpression 7 (more absent (more (list end) (more (child (node Kind.BlockStatement 8 (more (list (trees (node Kind.ExpressionStatement 9 (more (child (node Kind.AssignmentExpression 10 (more (string (codes "=")) (more (child (node Kind.IdentifierReference 11 (more (string (codes "C")) end))) (more (child (node Kind.Literal 12 (more (literal (literal_value.Number (codes "1"))) end))) end))))) (more no_string end)) ∷ node Kind.ExpressionStatement 13 (more (child (node Kind.CallExpression 14 (more (child (node Kind.IdentifierReference 15 (more (string (codes "g")) end))) (more (list (trees (node Kind.IdentifierReference 16 (more (string (codes "C")) end) ∷ []))) (more (boolean false) end))))) (more no_string end)) ∷ []))) end))) (more (boolean false) (more (boolean false) end))))))) (more (string (codes "method")) (more (boolean false) (more (boolean false) end))))) ∷ []))) end))) end))))) (more no_string end)) ∷ []))) end))

-- `(class C { m() { g(C); C = 1; } });`, with numbers of the first
abbrev pub second_own_name_of_a_class_behind_a_write : Tree
second_own_name_of_a_class_behind_a_write = node Kind.Program 0 (more (string (codes "script")) (more (list (trees (node Kind.ExpressionStatement 1 (more (child (node Kind.ClassExpression 2 (more (child (node Kind.BindingIdentifier 3 (more (string (codes "C")) end))) (more absent (more (child (node Kind.ClassBody 4 (more (list (trees (node Kind.MethodDefinition 5 (more (child (node Kind.IdentifierName 6 (more (string (codes "m")) end))) (more (child (node Kind.FunctionExpression 7 (more absent (more (list end) (more (child (node Kind.BlockStatement 12 (more (list (trees (node Kind.ExpressionStatement 13 (more (child (node Kind.CallExpression 14 (more (child (node Kind.IdentifierReference 15 (more (string (codes "g")) end))) (more (list (trees (node Kind.IdentifierReference 8 (more (string (codes "C")) end) ∷ []))) (more (boolean false) end))))) (more no_string end)) ∷ node Kind.ExpressionStatement 9 (more (child (node Kind.AssignmentExpression 10 (more (string (codes "=")) (more (child (node Kind.IdentifierReference 11 (more (string (codes "C")) end))) (more (child (node Kind.Literal 16 (more (literal (literal_value.Number (codes "1"))) end))) end))))) (more no_string end)) ∷ []))) end))) (more (boolean false) (more (boolean false) end))))))) (more (string (codes "method")) (more (boolean false) (more (boolean false) end))))) ∷ []))) end))) end))))) (more no_string end)) ∷ []))) end))

abbrev pub options_own_name_of_a_class_behind_a_write : Options
options_own_name_of_a_class_behind_a_write = options_of false None false
