-- Printed by tools/rows/witnesses.js.
use Rattle.std.specs.Prelude.{ℕ, List, [], ◌∷◌, true, false, codes, Some}
use Rattle.es_base.specs.Tree.{Tree, end, more, child, list, string, boolean, literal, trees}
use Rattle.es_base.specs.declared.kind.Kind.{Kind}
use Rattle.es_base.specs.declared.ledger.LedgerEntry.{LedgerEntry}
use Rattle.es_base.specs.declared.literal.LiteralValue.TheVariants as literal_value
use Rattle.es_steps.specs.Generated.{node}
use Rattle.es_steps.specs.Options.{options_of}
use Rattle.es_steps.specs.declared.options.Options.{Options}

-- a regular expression as the key of a field, which is made in front of a heritage that has events: `class A extends f() { [/a/] = 1; }`
abbrev pub first_regular_expression_before_a_heritage : Tree
first_regular_expression_before_a_heritage = node Kind.Program 0 (more (string (codes "script")) (more (list (trees (node Kind.ClassDeclaration 1 (more (child (node Kind.BindingIdentifier 2 (more (string (codes "A")) end))) (more (child (node Kind.CallExpression 3 (more (child (node Kind.IdentifierReference 4 (more (string (codes "f")) end))) (more (list end) (more (boolean false) end))))) (more (child (node Kind.ClassBody 5 (more (list (trees (node Kind.PropertyDefinition 6 (more (child (node Kind.Literal 7 (more (literal (literal_value.RegExp (codes "a") (codes ""))) end))) (more (child (node Kind.Literal 8 (more (literal (literal_value.Number (codes "1"))) end))) (more (boolean true) (more (boolean false) end)))) ∷ []))) end))) end))) ∷ []))) end))

-- `class A extends f() { ["a"] = 1; }`, with numbers of the first
abbrev pub second_regular_expression_before_a_heritage : Tree
second_regular_expression_before_a_heritage = node Kind.Program 0 (more (string (codes "script")) (more (list (trees (node Kind.ClassDeclaration 1 (more (child (node Kind.BindingIdentifier 2 (more (string (codes "A")) end))) (more (child (node Kind.CallExpression 3 (more (child (node Kind.IdentifierReference 4 (more (string (codes "f")) end))) (more (list end) (more (boolean false) end))))) (more (child (node Kind.ClassBody 5 (more (list (trees (node Kind.PropertyDefinition 6 (more (child (node Kind.Literal 7 (more (literal (literal_value.String (codes "a") (Some (codes "\"a\"")))) end))) (more (child (node Kind.Literal 8 (more (literal (literal_value.Number (codes "1"))) end))) (more (boolean true) (more (boolean false) end)))) ∷ []))) end))) end))) ∷ []))) end))

abbrev pub options_regular_expression_before_a_heritage : Options
options_regular_expression_before_a_heritage = options_of false (Some (record { loose = false })) false
