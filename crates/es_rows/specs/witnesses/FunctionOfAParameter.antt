-- Printed by tools/rows/witnesses.js.
use Rattle.std.specs.Prelude.{ℕ, List, [], ◌∷◌, false, codes, None}
use Rattle.es_base.specs.Tree.{Tree, end, more, child, list, string, no_string, boolean, literal, trees}
use Rattle.es_base.specs.declared.kind.Kind.{Kind}
use Rattle.es_base.specs.declared.ledger.LedgerEntry.{LedgerEntry}
use Rattle.es_base.specs.declared.literal.LiteralValue.TheVariants as literal_value
use Rattle.es_steps.specs.Generated.{node}
use Rattle.es_steps.specs.Options.{options_of}
use Rattle.es_steps.specs.declared.options.Options.{Options}

-- a function declaration with the name of a parameter: `function f(a) { let r = typeof a; a = 1; function a() {} return r; }`
abbrev pub first_function_of_a_parameter : Tree
first_function_of_a_parameter = node Kind.Program 0 (more (string (codes "script")) (more (list (trees (node Kind.FunctionDeclaration 1 (more (child (node Kind.BindingIdentifier 2 (more (string (codes "f")) end))) (more (list (trees (node Kind.BindingIdentifier 3 (more (string (codes "a")) end) ∷ []))) (more (child (node Kind.BlockStatement 4 (more (list (trees (node Kind.VariableDeclaration 5 (more (string (codes "let")) (more (list (trees (node Kind.VariableDeclarator 6 (more (child (node Kind.BindingIdentifier 7 (more (string (codes "r")) end))) (more (child (node Kind.UnaryExpression 8 (more (string (codes "typeof")) (more (child (node Kind.IdentifierReference 9 (more (string (codes "a")) end))) end)))) end)) ∷ []))) end)) ∷ node Kind.ExpressionStatement 10 (more (child (node Kind.AssignmentExpression 11 (more (string (codes "=")) (more (child (node Kind.IdentifierReference 12 (more (string (codes "a")) end))) (more (child (node Kind.Literal 13 (more (literal (literal_value.Number (codes "1"))) end))) end))))) (more no_string end)) ∷ node Kind.FunctionDeclaration 14 (more (child (node Kind.BindingIdentifier 15 (more (string (codes "a")) end))) (more (list end) (more (child (node Kind.BlockStatement 16 (more (list end) end))) (more (boolean false) (more (boolean false) end))))) ∷ node Kind.ReturnStatement 17 (more (child (node Kind.IdentifierReference 18 (more (string (codes "r")) end))) end) ∷ []))) end))) (more (boolean false) (more (boolean false) end))))) ∷ []))) end))

-- `function f(a) { let r = typeof a; a = 1; function c() {} return r; }`, with numbers of the first
abbrev pub second_function_of_a_parameter : Tree
second_function_of_a_parameter = node Kind.Program 0 (more (string (codes "script")) (more (list (trees (node Kind.FunctionDeclaration 1 (more (child (node Kind.BindingIdentifier 2 (more (string (codes "f")) end))) (more (list (trees (node Kind.BindingIdentifier 3 (more (string (codes "a")) end) ∷ []))) (more (child (node Kind.BlockStatement 4 (more (list (trees (node Kind.VariableDeclaration 5 (more (string (codes "let")) (more (list (trees (node Kind.VariableDeclarator 6 (more (child (node Kind.BindingIdentifier 7 (more (string (codes "r")) end))) (more (child (node Kind.UnaryExpression 8 (more (string (codes "typeof")) (more (child (node Kind.IdentifierReference 9 (more (string (codes "a")) end))) end)))) end)) ∷ []))) end)) ∷ node Kind.ExpressionStatement 10 (more (child (node Kind.AssignmentExpression 11 (more (string (codes "=")) (more (child (node Kind.IdentifierReference 12 (more (string (codes "a")) end))) (more (child (node Kind.Literal 13 (more (literal (literal_value.Number (codes "1"))) end))) end))))) (more no_string end)) ∷ node Kind.FunctionDeclaration 14 (more (child (node Kind.BindingIdentifier 15 (more (string (codes "c")) end))) (more (list end) (more (child (node Kind.BlockStatement 16 (more (list end) end))) (more (boolean false) (more (boolean false) end))))) ∷ node Kind.ReturnStatement 17 (more (child (node Kind.IdentifierReference 18 (more (string (codes "r")) end))) end) ∷ []))) end))) (more (boolean false) (more (boolean false) end))))) ∷ []))) end))

abbrev pub options_function_of_a_parameter : Options
options_function_of_a_parameter = options_of false None false
