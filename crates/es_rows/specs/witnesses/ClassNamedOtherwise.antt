-- Printed by tools/rows/witnesses.js.
use Rattle.std.specs.Prelude.{ℕ, List, [], ◌∷◌, false, codes, None}
use Rattle.es_base.specs.Tree.{Tree, end, more, child, absent, list, string, no_string, trees}
use Rattle.es_base.specs.declared.kind.Kind.{Kind}
use Rattle.es_base.specs.declared.ledger.LedgerEntry.{LedgerEntry}
use Rattle.es_steps.specs.Generated.{node}
use Rattle.es_steps.specs.Options.{options_of}
use Rattle.es_steps.specs.declared.options.Options.{Options}

-- the own name of a class is no step: `x = class D {};`
abbrev pub first_class_named_otherwise : Tree
first_class_named_otherwise = node Kind.Program 0 (more (string (codes "script")) (more (list (trees (node Kind.ExpressionStatement 1 (more (child (node Kind.AssignmentExpression 2 (more (string (codes "=")) (more (child (node Kind.IdentifierReference 3 (more (string (codes "x")) end))) (more (child (node Kind.ClassExpression 4 (more (child (node Kind.BindingIdentifier 5 (more (string (codes "D")) end))) (more absent (more (child (node Kind.ClassBody 6 (more (list end) end))) end))))) end))))) (more no_string end)) ∷ []))) end))

-- `x = class E {};`, with numbers of the first
abbrev pub second_class_named_otherwise : Tree
second_class_named_otherwise = node Kind.Program 0 (more (string (codes "script")) (more (list (trees (node Kind.ExpressionStatement 1 (more (child (node Kind.AssignmentExpression 2 (more (string (codes "=")) (more (child (node Kind.IdentifierReference 3 (more (string (codes "x")) end))) (more (child (node Kind.ClassExpression 4 (more (child (node Kind.BindingIdentifier 5 (more (string (codes "E")) end))) (more absent (more (child (node Kind.ClassBody 6 (more (list end) end))) end))))) end))))) (more no_string end)) ∷ []))) end))

abbrev pub options_class_named_otherwise : Options
options_class_named_otherwise = options_of false None false
