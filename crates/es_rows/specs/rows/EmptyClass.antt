-- Printed by tools/rows/number-rows.js from `empty_class` of tools/rows/rows.json: a worked row with its numbers.
use Rattle.std.specs.Prelude.{ℕ, List, [], ◌∷◌, false, codes, Some}
use Rattle.es_base.specs.Tree.{Tree, end, more, child, absent, list, string, trees}
use Rattle.es_base.specs.declared.kind.Kind.{Kind}
use Rattle.es_base.specs.declared.ledger.LedgerEntry.{LedgerEntry}
use Rattle.es_steps.specs.Generated.{node}
use Rattle.es_steps.specs.Options.{options_of}
use Rattle.es_steps.specs.declared.options.Options.{Options}

-- `class C {}`
abbrev pub source_empty_class : Tree
source_empty_class = node Kind.Program 0 (more (string (codes "script")) (more (list (trees (node Kind.ClassDeclaration 1 (more (child (node Kind.BindingIdentifier 2 (more (string (codes "C")) end))) (more absent (more (child (node Kind.ClassBody 3 (more (list end) end))) end))) ∷ []))) end))

-- the number of its nodes
abbrev pub nodes_empty_class : ℕ
nodes_empty_class = 4

-- `class C {}`
abbrev pub output_empty_class : Tree
output_empty_class = node Kind.Program 0 (more (string (codes "script")) (more (list (trees (node Kind.ClassDeclaration 1 (more (child (node Kind.BindingIdentifier 2 (more (string (codes "C")) end))) (more absent (more (child (node Kind.ClassBody 3 (more (list end) end))) end))) ∷ []))) end))

abbrev pub generated_empty_class : List LedgerEntry
generated_empty_class = []

-- the numbers of its shapes
abbrev pub outside_empty_class : List ℕ
outside_empty_class = []

abbrev pub options_empty_class : Options
options_empty_class = options_of false (Some (record { loose = false })) false
