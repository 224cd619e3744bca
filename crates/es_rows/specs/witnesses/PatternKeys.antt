-- Printed by tools/rows/witnesses.js.
use Rattle.std.specs.Prelude.{ℕ, List, [], ◌∷◌, false, codes, None}
use Rattle.es_base.specs.Tree.{Tree, end, more, child, list, string, boolean, trees}
use Rattle.es_base.specs.declared.kind.Kind.{Kind}
use Rattle.es_base.specs.declared.ledger.LedgerEntry.{LedgerEntry}
use Rattle.es_steps.specs.Generated.{node}
use Rattle.es_steps.specs.Options.{options_of}
use Rattle.es_steps.specs.declared.options.Options.{Options}

-- the keys of a pattern: `let { x: a } = o;`
abbrev pub first_pattern_keys : Tree
first_pattern_keys = node Kind.Program 0 (more (string (codes "script")) (more (list (trees (node Kind.VariableDeclaration 1 (more (string (codes "let")) (more (list (trees (node Kind.VariableDeclarator 2 (more (child (node Kind.ObjectPattern 3 (more (list (trees (node Kind.BindingProperty 4 (more (child (node Kind.IdentifierName 5 (more (string (codes "x")) end))) (more (child (node Kind.BindingIdentifier 6 (more (string (codes "a")) end))) (more (string (codes "init")) (more (boolean false) (more (boolean false) (more (boolean false) end)))))) ∷ []))) end))) (more (child (node Kind.IdentifierReference 7 (more (string (codes "o")) end))) end)) ∷ []))) end)) ∷ []))) end))

-- `let { y: a } = o;`, with numbers of the first
abbrev pub second_pattern_keys : Tree
second_pattern_keys = node Kind.Program 0 (more (string (codes "script")) (more (list (trees (node Kind.VariableDeclaration 1 (more (string (codes "let")) (more (list (trees (node Kind.VariableDeclarator 2 (more (child (node Kind.ObjectPattern 3 (more (list (trees (node Kind.BindingProperty 4 (more (child (node Kind.IdentifierName 5 (more (string (codes "y")) end))) (more (child (node Kind.BindingIdentifier 6 (more (string (codes "a")) end))) (more (string (codes "init")) (more (boolean false) (more (boolean false) (more (boolean false) end)))))) ∷ []))) end))) (more (child (node Kind.IdentifierReference 7 (more (string (codes "o")) end))) end)) ∷ []))) end)) ∷ []))) end))

abbrev pub options_pattern_keys : Options
options_pattern_keys = options_of false None false
