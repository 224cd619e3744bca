-- Printed by tools/rows/witnesses.js.
use Rattle.std.specs.Prelude.{ℕ, List, [], ◌∷◌, true, false, codes, Some, None}
use Rattle.es_base.specs.Tree.{Tree, end, more, child, absent, list, string, no_string, boolean, literal, trees}
use Rattle.es_base.specs.declared.kind.Kind.{Kind}
use Rattle.es_base.specs.declared.ledger.LedgerEntry.{LedgerEntry}
use Rattle.es_base.specs.declared.literal.LiteralValue.TheVariants as literal_value
use Rattle.es_steps.specs.Generated.{node}
use Rattle.es_steps.specs.Options.{options_of}
use Rattle.es_steps.specs.declared.options.Options.{Options}

-- the name of a class declaration that is written, inside the class and outside: `class C { [(f(() => C), "m")]() {} } C = 0;`
abbrev pub first_inner_name_of_a_written_class : Tree
first_inner_name_of_a_written_class = node Kind.Program 0 (more (string (codes "script")) (more (list (trees (node Kind.ClassDeclaration 1 (more (child (node Kind.BindingIdentifier 2 (more (string (codes "C")) end))) (more absent (more (child (node Kind.ClassBody 3 (more (list (trees (node Kind.MethodDefinition 4 (more (child (node Kind.SequenceExpression 5 (more (list (trees (node Kind.CallExpression 6 (more (child (node Kind.IdentifierReference 7 (more (string (codes "f")) end))) (more (list (trees (node Kind.ArrowFunctionExpression 8 (more (list end) (more (child (node Kind.IdentifierReference 9 (more (string (codes "C")) end))) (more (boolean false) end))) ∷ []))) (more (boolean false) end))) ∷ node Kind.Literal 10 (more (literal (literal_value.String (codes "m") (Some (codes "\"m\"")))) end) ∷ []))) end))) (more (child (node Kind.FunctionExpression 11 (more absent (more (list end) (more (child (node Kind.BlockStatement 12 (more (list end) end))) (more (boolean false) (more (boolean false) end))))))) (more (string (codes "method")) (more (boolean true) (more (boolean false) end))))) ∷ []))) end))) end))) ∷ node Kind.ExpressionStatement 13 (more (child (node Kind.AssignmentExpression 14 (more (string (codes "=")) (more (child (node Kind.IdentifierReference 15 (more (string (codes "C")) end))) (more (child (node Kind.Literal 16 (more (literal (literal_value.Number (codes "0"))) end))) end))))) (more no_string end)) ∷ []))) end))

-- `f(() => C); class C { ["m"]() {} } C = 0;`, with numbers of the first
abbrev pub second_inner_name_of_a_written_class : Tree
second_inner_name_of_a_written_class = node Kind.Program 0 (more (string (codes "script")) (more (list (trees (node Kind.ExpressionStatement 5 (more (child (node Kind.CallExpression 6 (more (child (node Kind.IdentifierReference 7 (more (string (codes "f")) end))) (more (list (trees (node Kind.ArrowFunctionExpression 8 (more (list end) (more (child (node Kind.IdentifierReference 9 (more (string (codes "C")) end))) (more (boolean false) end))) ∷ []))) (more (boolean false) end))))) (more no_string end)) ∷ node Kind.ClassDeclaration 1 (more (child (node Kind.BindingIdentifier 2 (more (string (codes "C")) end))) (more absent (more (child (node Kind.ClassBody 3 (more (list (trees (node Kind.MethodDefinition 4 (more (child (node Kind.Literal 10 (more (literal (literal_value.String (codes "m") (Some (codes "\"m\"")))) end))) (more (child (node Kind.FunctionExpression 11 (more absent (more (list end) (more (child (node Kind.BlockStatement 12 (more (list end) end))) (more (boolean false) (more (boolean false) end))))))) (more (string (codes "method")) (more (boolean true) (more (boolean false) end))))) ∷ []))) end))) end))) ∷ node Kind.ExpressionStatement 13 (more (child (node Kind.AssignmentExpression 14 (more (string (codes "=")) (more (child (node Kind.IdentifierReference 15 (more (string (codes "C")) end))) (more (child (node Kind.Literal 16 (more (literal (literal_value.Number (codes "0"))) end))) end))))) (more no_string end)) ∷ []))) end))

abbrev pub options_inner_name_of_a_written_class : Options
options_inner_name_of_a_written_class = options_of false None false
