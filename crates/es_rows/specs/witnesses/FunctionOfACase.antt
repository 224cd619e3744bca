-- Printed by tools/rows/witnesses.js.
use Rattle.std.specs.Prelude.{ℕ, List, [], ◌∷◌, false, codes, None}
use Rattle.es_base.specs.Tree.{Tree, end, more, child, list, string, no_string, boolean, literal, trees}
use Rattle.es_base.specs.declared.kind.Kind.{Kind}
use Rattle.es_base.specs.declared.ledger.LedgerEntry.{LedgerEntry}
use Rattle.es_base.specs.declared.literal.LiteralValue.TheVariants as literal_value
use Rattle.es_steps.specs.Generated.{node}
use Rattle.es_steps.specs.Options.{options_of}
use Rattle.es_steps.specs.declared.options.Options.{Options}

-- a function in a case, read behind the `switch`: `switch (x) { case 1: function g() {} } g();`
abbrev pub first_function_of_a_case : Tree
first_function_of_a_case = node Kind.Program 0 (more (string (codes "script")) (more (list (trees (node Kind.SwitchStatement 1 (more (child (node Kind.IdentifierReference 2 (more (string (codes "x")) end))) (more (list (trees (node Kind.SwitchCase 3 (more (child (node Kind.Literal 4 (more (literal (literal_value.Number (codes "1"))) end))) (more (list (trees (node Kind.FunctionDeclaration 5 (more (child (node Kind.BindingIdentifier 6 (more (string (codes "g")) end))) (more (list end) (more (child (node Kind.BlockStatement 7 (more (list end) end))) (more (boolean false) (more (boolean false) end))))) ∷ []))) end)) ∷ []))) end)) ∷ node Kind.ExpressionStatement 8 (more (child (node Kind.CallExpression 9 (more (child (node Kind.IdentifierReference 10 (more (string (codes "g")) end))) (more (list end) (more (boolean false) end))))) (more no_string end)) ∷ []))) end))

-- `switch (x) { case 1: function h() {} } g();`, with numbers of the first
abbrev pub second_function_of_a_case : Tree
second_function_of_a_case = node Kind.Program 0 (more (string (codes "script")) (more (list (trees (node Kind.SwitchStatement 1 (more (child (node Kind.IdentifierReference 2 (more (string (codes "x")) end))) (more (list (trees (node Kind.SwitchCase 3 (more (child (node Kind.Literal 4 (more (literal (literal_value.Number (codes "1"))) end))) (more (list (trees (node Kind.FunctionDeclaration 5 (more (child (node Kind.BindingIdentifier 6 (more (string (codes "h")) end))) (more (list end) (more (child (node Kind.BlockStatement 7 (more (list end) end))) (more (boolean false) (more (boolean false) end))))) ∷ []))) end)) ∷ []))) end)) ∷ node Kind.ExpressionStatement 8 (more (child (node Kind.CallExpression 9 (more (child (node Kind.IdentifierReference 10 (more (string (codes "g")) end))) (more (list end) (more (boolean false) end))))) (more no_string end)) ∷ []))) end))

abbrev pub options_function_of_a_case : Options
options_function_of_a_case = options_of false None false
