-- Printed by tools/rows/witnesses.js.
use Rattle.std.specs.Prelude.{ℕ, List, [], ◌∷◌, false, codes, None}
use Rattle.es_base.specs.Tree.{Tree, end, more, child, list, string, boolean, literal, trees}
use Rattle.es_base.specs.declared.kind.Kind.{Kind}
use Rattle.es_base.specs.declared.ledger.LedgerEntry.{LedgerEntry}
use Rattle.es_base.specs.declared.literal.LiteralValue.TheVariants as literal_value
use Rattle.es_steps.specs.Generated.{node}
use Rattle.es_steps.specs.Options.{options_of}
use Rattle.es_steps.specs.declared.options.Options.{Options}

-- `delete` of a name: `function f(a) { return (0, delete a); }`
abbrev pub first_delete_of_a_name : Tree
first_delete_of_a_name = node Kind.Program 0 (more (string (codes "script")) (more (list (trees (node Kind.FunctionDeclaration 1 (more (child (node Kind.BindingIdentifier 2 (more (string (codes "f")) end))) (more (list (trees (node Kind.BindingIdentifier 3 (more (string (codes "a")) end) ∷ []))) (more (child (node Kind.BlockStatement 4 (more (list (trees (node Kind.ReturnStatement 5 (more (child (node Kind.SequenceExpression 6 (more (list (trees (node Kind.Literal 7 (more (literal (literal_value.Number (codes "0"))) end) ∷ node Kind.UnaryExpression 8 (more (string (codes "delete")) (more (child (node Kind.IdentifierReference 9 (more (string (codes "a")) end))) end)) ∷ []))) end))) end) ∷ []))) end))) (more (boolean false) (more (boolean false) end))))) ∷ []))) end))

-- `function f(a) { return delete (0, a); }`, with numbers of the first
abbrev pub second_delete_of_a_name : Tree
second_delete_of_a_name = node Kind.Program 0 (more (string (codes "script")) (more (list (trees (node Kind.FunctionDeclaration 1 (more (child (node Kind.BindingIdentifier 2 (more (string (codes "f")) end))) (more (list (trees (node Kind.BindingIdentifier 3 (more (string (codes "a")) end) ∷ []))) (more (child (node Kind.BlockStatement 4 (more (list (trees (node Kind.ReturnStatement 5 (more (child (node Kind.UnaryExpression 8 (more (string (codes "delete")) (more (child (node Kind.SequenceExpression 6 (more (list (trees (node Kind.Literal 7 (more (literal (literal_value.Number (codes "0"))) end) ∷ node Kind.IdentifierReference 9 (more (string (codes "a")) end) ∷ []))) end))) end)))) end) ∷ []))) end))) (more (boolean false) (more (boolean false) end))))) ∷ []))) end))

abbrev pub options_delete_of_a_name : Options
options_delete_of_a_name = options_of false None false
