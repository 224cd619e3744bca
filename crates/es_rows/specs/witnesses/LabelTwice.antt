-- Printed by tools/rows/witnesses.js.
use Rattle.std.specs.Prelude.{ℕ, List, [], ◌∷◌, true, false, codes, Some}
use Rattle.es_base.specs.Tree.{Tree, end, more, child, absent, list, string, trees}
use Rattle.es_base.specs.declared.kind.Kind.{Kind}
use Rattle.es_base.specs.declared.ledger.LedgerEntry.{LedgerEntry}
use Rattle.es_steps.specs.Generated.{node}
use Rattle.es_steps.specs.Options.{options_of}
use Rattle.es_steps.specs.declared.options.Options.{Options}

-- `l: { class A { static { l: for (;;) break l; } } }`
abbrev pub source_label_twice : Tree
source_label_twice = node Kind.Program 0 (more (string (codes "script")) (more (list (trees (node Kind.LabeledStatement 1 (more (child (node Kind.IdentifierName 2 (more (string (codes "l")) end))) (more (child (node Kind.BlockStatement 3 (more (list (trees (node Kind.ClassDeclaration 4 (more (child (node Kind.BindingIdentifier 5 (more (string (codes "A")) end))) (more absent (more (child (node Kind.ClassBody 6 (more (list (trees (node Kind.StaticBlock 7 (more (list (trees (node Kind.LabeledStatement 8 (more (child (node Kind.IdentifierName 9 (more (string (codes "l")) end))) (more (child (node Kind.ForStatement 10 (more absent (more absent (more absent (more (child (node Kind.BreakStatement 11 (more (child (node Kind.IdentifierName 12 (more (string (codes "l")) end))) end))) end)))))) end)) ∷ []))) end) ∷ []))) end))) end))) ∷ []))) end))) end)) ∷ []))) end))

-- a label inside of what has that label, where `l: { class A {} k: for (;;) break k; }` is right
abbrev pub output_label_twice : Tree
output_label_twice = node Kind.Program 0 (more (string (codes "script")) (more (list (trees (node Kind.LabeledStatement 1 (more (child (node Kind.IdentifierName 2 (more (string (codes "l")) end))) (more (child (node Kind.BlockStatement 3 (more (list (trees (node Kind.ClassDeclaration 4 (more (child (node Kind.BindingIdentifier 5 (more (string (codes "A")) end))) (more absent (more (child (node Kind.ClassBody 6 (more (list end) end))) end))) ∷ node Kind.LabeledStatement 8 (more (child (node Kind.IdentifierName 9 (more (string (codes "l")) end))) (more (child (node Kind.ForStatement 10 (more absent (more absent (more absent (more (child (node Kind.BreakStatement 11 (more (child (node Kind.IdentifierName 12 (more (string (codes "l")) end))) end))) end)))))) end)) ∷ []))) end))) end)) ∷ []))) end))

abbrev pub generated_label_twice : List LedgerEntry
generated_label_twice = []

abbrev pub options_label_twice : Options
options_label_twice = options_of true (Some (record { loose = false })) false
