-- Printed by tools/rows/witnesses.js.
use Rattle.std.specs.Prelude.{ℕ, List, [], ◌∷◌, false, codes, Some}
use Rattle.es_base.specs.Tree.{Tree, end, more, child, absent, list, string, no_string, boolean, literal, trees}
use Rattle.es_base.specs.declared.kind.Kind.{Kind}
use Rattle.es_base.specs.declared.ledger.LedgerEntry.{LedgerEntry}
use Rattle.es_base.specs.declared.literal.LiteralValue.TheVariants as literal_value
use Rattle.es_steps.specs.Generated.{node}
use Rattle.es_steps.specs.Options.{options_of}
use Rattle.es_steps.specs.declared.options.Options.{Options}

-- a static block that is kept beside a field, which a `super(..)` in the parameters of the constructor initializes: `class C extends P { x = 1; static { g(); } constructor(a = super()) {} }`
abbrev pub first_block_beside_a_field_outside : Tree
first_block_beside_a_field_outside = node Kind.Program 0 (more (string (codes "script")) (more (list (trees (node Kind.ClassDeclaration 1 (more (child (node Kind.BindingIdentifier 2 (more (string (codes "C")) end))) (more (child (node Kind.IdentifierReference 3 (more (string (codes "P")) end))) (more (child (node Kind.ClassBody 4 (more (list (trees (node Kind.PropertyDefinition 5 (more (child (node Kind.IdentifierName 6 (more (string (codes "x")) end))) (more (child (node Kind.Literal 7 (more (literal (literal_value.Number (codes "1"))) end))) (more (boolean false) (more (boolean false) end)))) ∷ node Kind.StaticBlock 8 (more (list (trees (node Kind.ExpressionStatement 9 (more (child (node Kind.CallExpression 10 (more (child (node Kind.IdentifierReference 11 (more (string (codes "g")) end))) (more (list end) (more (boolean false) end))))) (more no_string end)) ∷ []))) end) ∷ node Kind.MethodDefinition 12 (more (child (node Kind.IdentifierName 13 (more (string (codes "constructor")) end))) (more (child (node Kind.FunctionExpression 14 (more absent (more (list (trees (node Kind.AssignmentPattern 15 (more (child (node Kind.BindingIdentifier 16 (more (string (codes "a")) end))) (more (child (node Kind.CallExpression 17 (more (child (node Kind.Super 18 end)) (more (list end) (more (boolean false) end))))) end)) ∷ []))) (more (child (node Kind.BlockStatement 19 (more (list end) end))) (more (boolean false) (more (boolean false) end))))))) (more (string (codes "constructor")) (more (boolean false) (more (boolean false) end))))) ∷ []))) end))) end))) ∷ []))) end))

-- `class C extends P { x = 1; static { g(); } constructor(a) { super(); } }`, with numbers of the first
abbrev pub second_block_beside_a_field_outside : Tree
second_block_beside_a_field_outside = node Kind.Program 0 (more (string (codes "script")) (more (list (trees (node Kind.ClassDeclaration 1 (more (child (node Kind.BindingIdentifier 2 (more (string (codes "C")) end))) (more (child (node Kind.IdentifierReference 3 (more (string (codes "P")) end))) (more (child (node Kind.ClassBody 4 (more (list (trees (node Kind.PropertyDefinition 5 (more (child (node Kind.IdentifierName 6 (more (string (codes "x")) end))) (more (child (node Kind.Literal 7 (more (literal (literal_value.Number (codes "1"))) end))) (more (boolean false) (more (boolean false) end)))) ∷ node Kind.StaticBlock 8 (more (list (trees (node Kind.ExpressionStatement 9 (more (child (node Kind.CallExpression 10 (more (child (node Kind.IdentifierReference 11 (more (string (codes "g")) end))) (more (list end) (more (boolean false) end))))) (more no_string end)) ∷ []))) end) ∷ node Kind.MethodDefinition 12 (more (child (node Kind.IdentifierName 13 (more (string (codes "constructor")) end))) (more (child (node Kind.FunctionExpression 14 (more absent (more (list (trees (node Kind.BindingIdentifier 15 (more (string (codes "a")) end) ∷ []))) (more (child (node Kind.BlockStatement 16 (more (list (trees (node Kind.ExpressionStatement 17 (more (child (node Kind.CallExpression 18 (more (child (node Kind.Super 19 end)) (more (list end) (more (boolean false) end))))) (more no_string end)) ∷ []))) end))) (more (boolean false) (more (boolean false) end))))))) (more (string (codes "constructor")) (more (boolean false) (more (boolean false) end))))) ∷ []))) end))) end))) ∷ []))) end))

abbrev pub options_block_beside_a_field_outside : Options
options_block_beside_a_field_outside = options_of false (Some (record { loose = false })) false
