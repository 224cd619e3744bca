-- Printed by tools/rows/witnesses.js.
use Rattle.std.specs.Prelude.{ℕ, List, [], ◌∷◌, false, codes, None}
use Rattle.es_base.specs.Tree.{Tree, end, more, child, absent, list, string, no_string, boolean, trees}
use Rattle.es_base.specs.declared.kind.Kind.{Kind}
use Rattle.es_base.specs.declared.ledger.LedgerEntry.{LedgerEntry}
use Rattle.es_steps.specs.Generated.{node}
use Rattle.es_steps.specs.Options.{options_of}
use Rattle.es_steps.specs.declared.options.Options.{Options}

-- the parameters of a constructor: `class A { constructor(a, b) { f(a, b); } }`
abbrev pub first_parameters_exchanged : Tree
first_parameters_exchanged = node Kind.Program 0 (more (string (codes "script")) (more (list (trees (node Kind.ClassDeclaration 1 (more (child (node Kind.BindingIdentifier 2 (more (string (codes "A")) end))) (more absent (more (child (node Kind.ClassBody 3 (more (list (trees (node Kind.MethodDefinition 4 (more (child (node Kind.IdentifierName 5 (more (string (codes "constructor")) end))) (more (child (node Kind.FunctionExpression 6 (more absent (more (list (trees (node Kind.BindingIdentifier 7 (more (string (codes "a")) end) ∷ node Kind.BindingIdentifier 8 (more (string (codes "b")) end) ∷ []))) (more (child (node Kind.BlockStatement 9 (more (list (trees (node Kind.ExpressionStatement 10 (more (child (node Kind.CallExpression 11 (more (child (node Kind.IdentifierReference 12 (more (string (codes "f")) end))) (more (list (trees (node Kind.IdentifierReference 13 (more (string (codes "a")) end) ∷ node Kind.IdentifierReference 14 (more (string (codes "b")) end) ∷ []))) (more (boolean false) end))))) (more no_string end)) ∷ []))) end))) (more (boolean false) (more (boolean false) end))))))) (more (string (codes "constructor")) (more (boolean false) (more (boolean false) end))))) ∷ []))) end))) end))) ∷ []))) end))

-- `class A { constructor(b, a) { f(a, b); } }`, with numbers of the first
abbrev pub second_parameters_exchanged : Tree
second_parameters_exchanged = node Kind.Program 0 (more (string (codes "script")) (more (list (trees (node Kind.ClassDeclaration 1 (more (child (node Kind.BindingIdentifier 2 (more (string (codes "A")) end))) (more absent (more (child (node Kind.ClassBody 3 (more (list (trees (node Kind.MethodDefinition 4 (more (child (node Kind.IdentifierName 5 (more (string (codes "constructor")) end))) (more (child (node Kind.FunctionExpression 6 (more absent (more (list (trees (node Kind.BindingIdentifier 8 (more (string (codes "b")) end) ∷ node Kind.BindingIdentifier 7 (more (string (codes "a")) end) ∷ []))) (more (child (node Kind.BlockStatement 9 (more (list (trees (node Kind.ExpressionStatement 10 (more (child (node Kind.CallExpression 11 (more (child (node Kind.IdentifierReference 12 (more (string (codes "f")) end))) (more (list (trees (node Kind.IdentifierReference 13 (more (string (codes "a")) end) ∷ node Kind.IdentifierReference 14 (more (string (codes "b")) end) ∷ []))) (more (boolean false) end))))) (more no_string end)) ∷ []))) end))) (more (boolean false) (more (boolean false) end))))))) (more (string (codes "constructor")) (more (boolean false) (more (boolean false) end))))) ∷ []))) end))) end))) ∷ []))) end))

abbrev pub options_parameters_exchanged : Options
options_parameters_exchanged = options_of false None false
