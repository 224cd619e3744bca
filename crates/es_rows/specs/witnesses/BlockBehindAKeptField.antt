-- Printed by tools/rows/witnesses.js.
use Rattle.std.specs.Prelude.{ℕ, List, [], ◌∷◌, true, false, codes, None}
use Rattle.es_base.specs.Tree.{Tree, end, more, child, absent, list, string, no_string, boolean, literal, trees}
use Rattle.es_base.specs.declared.kind.Kind.{Kind}
use Rattle.es_base.specs.declared.ledger.GeneratedKind.{GeneratedKind}
use Rattle.es_base.specs.declared.ledger.LedgerEntry.{LedgerEntry}
use Rattle.es_base.specs.declared.literal.LiteralValue.TheVariants as literal_value
use Rattle.es_steps.specs.Generated.{node}
use Rattle.es_steps.specs.Options.{options_of}
use Rattle.es_steps.specs.declared.options.Options.{Options}

-- `class C { static { a; } static x = 1; }`
abbrev pub source_block_behind_a_kept_field : Tree
source_block_behind_a_kept_field = node Kind.Program 0 (more (string (codes "script")) (more (list (trees (node Kind.ClassDeclaration 1 (more (child (node Kind.BindingIdentifier 2 (more (string (codes "C")) end))) (more absent (more (child (node Kind.ClassBody 3 (more (list (trees (node Kind.StaticBlock 4 (more (list (trees (node Kind.ExpressionStatement 5 (more (child (node Kind.IdentifierReference 6 (more (string (codes "a")) end))) (more no_string end)) ∷ []))) end) ∷ node Kind.PropertyDefinition 7 (more (child (node Kind.IdentifierName 8 (more (string (codes "x")) end))) (more (child (node Kind.Literal 9 (more (literal (literal_value.Number (codes "1"))) end))) (more (boolean false) (more (boolean true) end)))) ∷ []))) end))) end))) ∷ []))) end))

-- a static block behind the field that follows it, where `class C { static x = (a, 1); }` is right
abbrev pub output_block_behind_a_kept_field : Tree
output_block_behind_a_kept_field = node Kind.Program 0 (more (string (codes "script")) (more (list (trees (node Kind.ClassDeclaration 1 (more (child (node Kind.BindingIdentifier 2 (more (string (codes "C")) end))) (more absent (more (child (node Kind.ClassBody 3 (more (list (trees (node Kind.PropertyDefinition 7 (more (child (node Kind.IdentifierName 8 (more (string (codes "x")) end))) (more (child (node Kind.Literal 9 (more (literal (literal_value.Number (codes "1"))) end))) (more (boolean false) (more (boolean true) end)))) ∷ node Kind.PropertyDefinition 10 (more (child (node Kind.PrivateIdentifier 11 (more (string (codes "_")) end))) (more (child (node Kind.IdentifierReference 6 (more (string (codes "a")) end))) (more (boolean false) (more (boolean true) end)))) ∷ []))) end))) end))) ∷ []))) end))

abbrev pub generated_block_behind_a_kept_field : List LedgerEntry
generated_block_behind_a_kept_field = record { name = codes "_"; kind = GeneratedKind.Private (record { 0 = 1 }) } ∷ []

abbrev pub options_block_behind_a_kept_field : Options
options_block_behind_a_kept_field = options_of true None false
