-- Printed by tools/rows/witnesses.js.
use Rattle.std.specs.Prelude.{ℕ, List, [], ◌∷◌, false, codes, None}
use Rattle.es_base.specs.Tree.{Tree, end, more, child, absent, list, string, no_string, trees}
use Rattle.es_base.specs.declared.kind.Kind.{Kind}
use Rattle.es_base.specs.declared.ledger.LedgerEntry.{LedgerEntry}
use Rattle.es_steps.specs.Generated.{node}
use Rattle.es_steps.specs.Options.{options_of}
use Rattle.es_steps.specs.declared.options.Options.{Options}

-- a hole in a pattern: `[a, ,] = x;`
abbrev pub first_hole_in_a_pattern : Tree
first_hole_in_a_pattern = node Kind.Program 0 (more (string (codes "script")) (more (list (trees (node Kind.ExpressionStatement 1 (more (child (node Kind.AssignmentExpression 2 (more (string (codes "=")) (more (child (node Kind.ArrayAssignmentTarget 3 (more (list (more (child (node Kind.IdentifierReference 4 (more (string (codes "a")) end))) (more absent end))) end))) (more (child (node Kind.IdentifierReference 5 (more (string (codes "x")) end))) end))))) (more no_string end)) ∷ []))) end))

-- `[a] = x;`, with numbers of the first
abbrev pub second_hole_in_a_pattern : Tree
second_hole_in_a_pattern = node Kind.Program 0 (more (string (codes "script")) (more (list (trees (node Kind.ExpressionStatement 1 (more (child (node Kind.AssignmentExpression 2 (more (string (codes "=")) (more (child (node Kind.ArrayAssignmentTarget 3 (more (list (trees (node Kind.IdentifierReference 4 (more (string (codes "a")) end) ∷ []))) end))) (more (child (node Kind.IdentifierReference 5 (more (string (codes "x")) end))) end))))) (more no_string end)) ∷ []))) end))

abbrev pub options_hole_in_a_pattern : Options
options_hole_in_a_pattern = options_of false None false
