-- Printed by tools/rows/witnesses.js.
use Rattle.std.specs.Prelude.{ℕ, List, [], ◌∷◌, false, codes, None}
use Rattle.es_base.specs.Tree.{Tree, end, more, child, list, string, boolean, literal, trees}
use Rattle.es_base.specs.declared.kind.Kind.{Kind}
use Rattle.es_base.specs.declared.ledger.LedgerEntry.{LedgerEntry}
use Rattle.es_base.specs.declared.literal.LiteralValue.TheVariants as literal_value
use Rattle.es_steps.specs.Generated.{node}
use Rattle.es_steps.specs.Options.{options_of}
use Rattle.es_steps.specs.declared.options.Options.{Options}

-- `arguments` in a function, where a `var` around is spelled so: `function f() { var arguments = 1; function g() { return arguments; } }`
abbrev pub first_arguments_of_an_inner_function : Tree
first_arguments_of_an_inner_function = node Kind.Program 0 (more (string (codes "script")) (more (list (trees (node Kind.FunctionDeclaration 1 (more (child (node Kind.BindingIdentifier 2 (more (string (codes "f")) end))) (more (list end) (more (child (node Kind.BlockStatement 3 (more (list (trees (node Kind.VariableDeclaration 4 (more (string (codes "var")) (more (list (trees (node Kind.VariableDeclarator 5 (more (child (node Kind.BindingIdentifier 6 (more (string (codes "arguments")) end))) (more (child (node Kind.Literal 7 (more (literal (literal_value.Number (codes "1"))) end))) end)) ∷ []))) end)) ∷ node Kind.FunctionDeclaration 8 (more (child (node Kind.BindingIdentifier 9 (more (string (codes "g")) end))) (more (list end) (more (child (node Kind.BlockStatement 10 (more (list (trees (node Kind.ReturnStatement 11 (more (child (node Kind.IdentifierReference 12 (more (string (codes "arguments")) end))) end) ∷ []))) end))) (more (boolean false) (more (boolean false) end))))) ∷ []))) end))) (more (boolean false) (more (boolean false) end))))) ∷ []))) end))

-- `function f() { var a = 1; function g() { return a; } }`, with numbers of the first
abbrev pub second_arguments_of_an_inner_function : Tree
second_arguments_of_an_inner_function = node Kind.Program 0 (more (string (codes "script")) (more (list (trees (node Kind.FunctionDeclaration 1 (more (child (node Kind.BindingIdentifier 2 (more (string (codes "f")) end))) (more (list end) (more (child (node Kind.BlockStatement 3 (more (list (trees (node Kind.VariableDeclaration 4 (more (string (codes "var")) (more (list (trees (node Kind.VariableDeclarator 5 (more (child (node Kind.BindingIdentifier 6 (more (string (codes "a")) end))) (more (child (node Kind.Literal 7 (more (literal (literal_value.Number (codes "1"))) end))) end)) ∷ []))) end)) ∷ node Kind.FunctionDeclaration 8 (more (child (node Kind.BindingIdentifier 9 (more (string (codes "g")) end))) (more (list end) (more (child (node Kind.BlockStatement 10 (more (list (trees (node Kind.ReturnStatement 11 (more (child (node Kind.IdentifierReference 12 (more (string (codes "a")) end))) end) ∷ []))) end))) (more (boolean false) (more (boolean false) end))))) ∷ []))) end))) (more (boolean false) (more (boolean false) end))))) ∷ []))) end))

abbrev pub options_arguments_of_an_inner_function : Options
options_arguments_of_an_inner_function = options_of false None false
