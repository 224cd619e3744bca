-- Printed by tools/rows/witnesses.js.
use Rattle.std.specs.Prelude.{ℕ, List, [], ◌∷◌, false, codes, None}
use Rattle.es_base.specs.Tree.{Tree, end, more, child, list, string, boolean, trees}
use Rattle.es_base.specs.declared.kind.Kind.{Kind}
use Rattle.es_base.specs.declared.ledger.LedgerEntry.{LedgerEntry}
use Rattle.es_steps.specs.Generated.{node}
use Rattle.es_steps.specs.Options.{options_of}
use Rattle.es_steps.specs.declared.options.Options.{Options}

-- which of three parameters share one binding: `function f(a, a, c) { return a; }`
abbrev pub first_shared_parameters : Tree
first_shared_parameters = node Kind.Program 0 (more (string (codes "script")) (more (list (trees (node Kind.FunctionDeclaration 1 (more (child (node Kind.BindingIdentifier 2 (more (string (codes "f")) end))) (more (list (trees (node Kind.BindingIdentifier 3 (more (string (codes "a")) end) ∷ node Kind.BindingIdentifier 4 (more (string (codes "a")) end) ∷ node Kind.BindingIdentifier 5 (more (string (codes "c")) end) ∷ []))) (more (child (node Kind.BlockStatement 6 (more (list (trees (node Kind.ReturnStatement 7 (more (child (node Kind.IdentifierReference 8 (more (string (codes "a")) end))) end) ∷ []))) end))) (more (boolean false) (more (boolean false) end))))) ∷ []))) end))

-- `function f(a, c, a) { return a; }`, with numbers of the first
abbrev pub second_shared_parameters : Tree
second_shared_parameters = node Kind.Program 0 (more (string (codes "script")) (more (list (trees (node Kind.FunctionDeclaration 1 (more (child (node Kind.BindingIdentifier 2 (more (string (codes "f")) end))) (more (list (trees (node Kind.BindingIdentifier 3 (more (string (codes "a")) end) ∷ node Kind.BindingIdentifier 4 (more (string (codes "c")) end) ∷ node Kind.BindingIdentifier 5 (more (string (codes "a")) end) ∷ []))) (more (child (node Kind.BlockStatement 6 (more (list (trees (node Kind.ReturnStatement 7 (more (child (node Kind.IdentifierReference 8 (more (string (codes "a")) end))) end) ∷ []))) end))) (more (boolean false) (more (boolean false) end))))) ∷ []))) end))

abbrev pub options_shared_parameters : Options
options_shared_parameters = options_of false None false
