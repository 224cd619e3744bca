-- Printed by tools/rows/witnesses.js.
use Rattle.std.specs.Prelude.{ℕ, List, [], ◌∷◌, false, codes, None}
use Rattle.es_base.specs.Tree.{Tree, end, more, child, absent, list, string, no_string, boolean, trees}
use Rattle.es_base.specs.declared.kind.Kind.{Kind}
use Rattle.es_base.specs.declared.ledger.LedgerEntry.{LedgerEntry}
use Rattle.es_steps.specs.Generated.{node}
use Rattle.es_steps.specs.Options.{options_of}
use Rattle.es_steps.specs.declared.options.Options.{Options}

-- a `var` that is spelled `arguments`: `function f() { var arguments; g(arguments); }`
abbrev pub first_var_arguments : Tree
first_var_arguments = node Kind.Program 0 (more (string (codes "script")) (more (list (trees (node Kind.FunctionDeclaration 1 (more (child (node Kind.BindingIdentifier 2 (more (string (codes "f")) end))) (more (list end) (more (child (node Kind.BlockStatement 3 (more (list (trees (node Kind.VariableDeclaration 4 (more (string (codes "var")) (more (list (trees (node Kind.VariableDeclarator 5 (more (child (node Kind.BindingIdentifier 6 (more (string (codes "arguments")) end))) (more absent end)) ∷ []))) end)) ∷ node Kind.ExpressionStatement 7 (more (child (node Kind.CallExpression 8 (more (child (node Kind.IdentifierReference 9 (more (string (codes "g")) end))) (more (list (trees (node Kind.IdentifierReference 10 (more (string (codes "arguments")) end) ∷ []))) (more (boolean false) end))))) (more no_string end)) ∷ []))) end))) (more (boolean false) (more (boolean false) end))))) ∷ []))) end))

-- `function f() { var a; g(a); }`, with numbers of the first
abbrev pub second_var_arguments : Tree
second_var_arguments = node Kind.Program 0 (more (string (codes "script")) (more (list (trees (node Kind.FunctionDeclaration 1 (more (child (node Kind.BindingIdentifier 2 (more (string (codes "f")) end))) (more (list end) (more (child (node Kind.BlockStatement 3 (more (list (trees (node Kind.VariableDeclaration 4 (more (string (codes "var")) (more (list (trees (node Kind.VariableDeclarator 5 (more (child (node Kind.BindingIdentifier 6 (more (string (codes "a")) end))) (more absent end)) ∷ []))) end)) ∷ node Kind.ExpressionStatement 7 (more (child (node Kind.CallExpression 8 (more (child (node Kind.IdentifierReference 9 (more (string (codes "g")) end))) (more (list (trees (node Kind.IdentifierReference 10 (more (string (codes "a")) end) ∷ []))) (more (boolean false) end))))) (more no_string end)) ∷ []))) end))) (more (boolean false) (more (boolean false) end))))) ∷ []))) end))

abbrev pub options_var_arguments : Options
options_var_arguments = options_of false None false
