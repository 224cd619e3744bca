-- Printed by tools/rows/witnesses.js.
use Rattle.std.specs.Prelude.{ℕ, List, [], ◌∷◌, false, codes, None}
use Rattle.es_base.specs.Tree.{Tree, end, more, child, list, string, no_string, boolean, literal, trees}
use Rattle.es_base.specs.declared.kind.Kind.{Kind}
use Rattle.es_base.specs.declared.ledger.LedgerEntry.{LedgerEntry}
use Rattle.es_base.specs.declared.literal.LiteralValue.TheVariants as literal_value
use Rattle.es_steps.specs.Generated.{node}
use Rattle.es_steps.specs.Options.{options_of}
use Rattle.es_steps.specs.declared.options.Options.{Options}

-- `typeof` of a free name: `f((0, typeof nope));`
abbrev pub first_typeof_of_a_name : Tree
first_typeof_of_a_name = node Kind.Program 0 (more (string (codes "script")) (more (list (trees (node Kind.ExpressionStatement 1 (more (child (node Kind.CallExpression 2 (more (child (node Kind.IdentifierReference 3 (more (string (codes "f")) end))) (more (list (trees (node Kind.SequenceExpression 4 (more (list (trees (node Kind.Literal 5 (more (literal (literal_value.Number (codes "0"))) end) ∷ node Kind.UnaryExpression 6 (more (string (codes "typeof")) (more (child (node Kind.IdentifierReference 7 (more (string (codes "nope")) end))) end)) ∷ []))) end) ∷ []))) (more (boolean false) end))))) (more no_string end)) ∷ []))) end))

-- `f(typeof (0, nope));`, with numbers of the first
abbrev pub second_typeof_of_a_name : Tree
second_typeof_of_a_name = node Kind.Program 0 (more (string (codes "script")) (more (list (trees (node Kind.ExpressionStatement 1 (more (child (node Kind.CallExpression 2 (more (child (node Kind.IdentifierReference 3 (more (string (codes "f")) end))) (more (list (trees (node Kind.UnaryExpression 6 (more (string (codes "typeof")) (more (child (node Kind.SequenceExpression 4 (more (list (trees (node Kind.Literal 5 (more (literal (literal_value.Number (codes "0"))) end) ∷ node Kind.IdentifierReference 7 (more (string (codes "nope")) end) ∷ []))) end))) end)) ∷ []))) (more (boolean false) end))))) (more no_string end)) ∷ []))) end))

abbrev pub options_typeof_of_a_name : Options
options_typeof_of_a_name = options_of false None false
