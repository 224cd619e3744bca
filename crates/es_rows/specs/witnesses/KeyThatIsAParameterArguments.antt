-- Printed by tools/rows/witnesses.js.
use Rattle.std.specs.Prelude.{ℕ, List, [], ◌∷◌, true, false, codes, Some}
use Rattle.es_base.specs.Tree.{Tree, end, more, child, absent, list, string, boolean, literal, trees}
use Rattle.es_base.specs.declared.kind.Kind.{Kind}
use Rattle.es_base.specs.declared.ledger.LedgerEntry.{LedgerEntry}
use Rattle.es_base.specs.declared.literal.LiteralValue.TheVariants as literal_value
use Rattle.es_steps.specs.Generated.{node}
use Rattle.es_steps.specs.Options.{options_of}
use Rattle.es_steps.specs.declared.options.Options.{Options}

-- a parameter `arguments` as the key of a field: `function F(arguments) { class A { [arguments] = 1; } return new A(); }`
abbrev pub first_key_that_is_a_parameter_arguments : Tree
first_key_that_is_a_parameter_arguments = node Kind.Program 0 (more (string (codes "script")) (more (list (trees (node Kind.FunctionDeclaration 1 (more (child (node Kind.BindingIdentifier 2 (more (string (codes "F")) end))) (more (list (trees (node Kind.BindingIdentifier 3 (more (string (codes "arguments")) end) ∷ []))) (more (child (node Kind.BlockStatement 4 (more (list (trees (node Kind.ClassDeclaration 5 (more (child (node Kind.BindingIdentifier 6 (more (string (codes "A")) end))) (more absent (more (child (node Kind.ClassBody 7 (more (list (trees (node Kind.PropertyDefinition 8 (more (child (node Kind.IdentifierReference 9 (more (string (codes "arguments")) end))) (more (child (node Kind.Literal 10 (more (literal (literal_value.Number (codes "1"))) end))) (more (boolean true) (more (boolean false) end)))) ∷ []))) end))) end))) ∷ node Kind.ReturnStatement 11 (more (child (node Kind.NewExpression 12 (more (child (node Kind.IdentifierReference 13 (more (string (codes "A")) end))) (more (list end) end)))) end) ∷ []))) end))) (more (boolean false) (more (boolean false) end))))) ∷ []))) end))

-- `function F(a) { class A { [a] = 1; } return new A(); }`, with numbers of the first
abbrev pub second_key_that_is_a_parameter_arguments : Tree
second_key_that_is_a_parameter_arguments = node Kind.Program 0 (more (string (codes "script")) (more (list (trees (node Kind.FunctionDeclaration 1 (more (child (node Kind.BindingIdentifier 2 (more (string (codes "F")) end))) (more (list (trees (node Kind.BindingIdentifier 3 (more (string (codes "a")) end) ∷ []))) (more (child (node Kind.BlockStatement 4 (more (list (trees (node Kind.ClassDeclaration 5 (more (child (node Kind.BindingIdentifier 6 (more (string (codes "A")) end))) (more absent (more (child (node Kind.ClassBody 7 (more (list (trees (node Kind.PropertyDefinition 8 (more (child (node Kind.IdentifierReference 9 (more (string (codes "a")) end))) (more (child (node Kind.Literal 10 (more (literal (literal_value.Number (codes "1"))) end))) (more (boolean true) (more (boolean false) end)))) ∷ []))) end))) end))) ∷ node Kind.ReturnStatement 11 (more (child (node Kind.NewExpression 12 (more (child (node Kind.IdentifierReference 13 (more (string (codes "A")) end))) (more (list end) end)))) end) ∷ []))) end))) (more (boolean false) (more (boolean false) end))))) ∷ []))) end))

abbrev pub options_key_that_is_a_parameter_arguments : Options
options_key_that_is_a_parameter_arguments = options_of false (Some (record { loose = false })) false
