-- Printed by tools/rows/witnesses.js.
use Rattle.std.specs.Prelude.{ℕ, List, [], ◌∷◌, false, codes, Some}
use Rattle.es_base.specs.Tree.{Tree, end, more, child, absent, list, string, boolean, trees}
use Rattle.es_base.specs.declared.kind.Kind.{Kind}
use Rattle.es_base.specs.declared.ledger.LedgerEntry.{LedgerEntry}
use Rattle.es_steps.specs.Generated.{node}
use Rattle.es_steps.specs.Options.{options_of}
use Rattle.es_steps.specs.declared.options.Options.{Options}

-- `class C { x; y = z }`
abbrev pub source_elements_dropped : Tree
source_elements_dropped = node Kind.Program 0 (more (string (codes "script")) (more (list (trees (node Kind.ClassDeclaration 1 (more (child (node Kind.BindingIdentifier 2 (more (string (codes "C")) end))) (more absent (more (child (node Kind.ClassBody 3 (more (list (trees (node Kind.PropertyDefinition 4 (more (child (node Kind.IdentifierName 5 (more (string (codes "x")) end))) (more absent (more (boolean false) (more (boolean false) end)))) ∷ node Kind.PropertyDefinition 6 (more (child (node Kind.IdentifierName 7 (more (string (codes "y")) end))) (more (child (node Kind.IdentifierReference 8 (more (string (codes "z")) end))) (more (boolean false) (more (boolean false) end)))) ∷ []))) end))) end))) ∷ []))) end))

-- a class without its elements, where `class C { constructor() { B.defineProperty(this, "x", void 0); B.defineProperty(this, "y", z); } }` is right
abbrev pub output_elements_dropped : Tree
output_elements_dropped = node Kind.Program 0 (more (string (codes "script")) (more (list (trees (node Kind.ClassDeclaration 1 (more (child (node Kind.BindingIdentifier 2 (more (string (codes "C")) end))) (more absent (more (child (node Kind.ClassBody 3 (more (list end) end))) end))) ∷ []))) end))

abbrev pub generated_elements_dropped : List LedgerEntry
generated_elements_dropped = []

abbrev pub options_elements_dropped : Options
options_elements_dropped = options_of false (Some (record { loose = false })) false
