-- Printed by tools/rows/witnesses.js.
use Rattle.std.specs.Prelude.{ℕ, List, [], ◌∷◌, true, false, codes, None}
use Rattle.es_base.specs.Tree.{Tree, end, more, child, absent, list, string, no_string, boolean, trees}
use Rattle.es_base.specs.declared.kind.Kind.{Kind}
use Rattle.es_base.specs.declared.ledger.GeneratedKind.{GeneratedKind}
use Rattle.es_base.specs.declared.ledger.LedgerEntry.{LedgerEntry}
use Rattle.es_steps.specs.Generated.{node}
use Rattle.es_steps.specs.Options.{options_of}
use Rattle.es_steps.specs.declared.options.Options.{Options}

-- `h(class C { static { g(() => C); } });`
abbrev pub source_block_in_front_of_its_class : Tree
source_block_in_front_of_its_class = node Kind.Program 0 (more (string (codes "script")) (more (list (trees (node Kind.ExpressionStatement 1 (more (child (node Kind.CallExpression 2 (more (child (node Kind.IdentifierReference 3 (more (string (codes "h")) end))) (more (list (trees (node Kind.ClassExpression 4 (more (child (node Kind.BindingIdentifier 5 (more (string (codes "C")) end))) (more absent (more (child (node Kind.ClassBody 6 (more (list (trees (node Kind.StaticBlock 7 (more (list (trees (node Kind.ExpressionStatement 8 (more (child (node Kind.CallExpression 9 (more (child (node Kind.IdentifierReference 10 (more (string (codes "g")) end))) (more (list (trees (node Kind.ArrowFunctionExpression 11 (more (list end) (more (child (node Kind.IdentifierReference 12 (more (string (codes "C")) end))) (more (boolean false) end))) ∷ []))) (more (boolean false) end))))) (more no_string end)) ∷ []))) end) ∷ []))) end))) end))) ∷ []))) (more (boolean false) end))))) (more no_string end)) ∷ []))) end))

-- a static block in front of its class, whose generated name an arrow in it reads: `var _C; h((g(() => _C), _C = class C {}));`
abbrev pub output_block_in_front_of_its_class : Tree
output_block_in_front_of_its_class = node Kind.Program 0 (more (string (codes "script")) (more (list (trees (node Kind.VariableDeclaration 13 (more (string (codes "var")) (more (list (trees (node Kind.VariableDeclarator 14 (more (child (node Kind.BindingIdentifier 15 (more (string (codes "_C")) end))) (more absent end)) ∷ []))) end)) ∷ node Kind.ExpressionStatement 1 (more (child (node Kind.CallExpression 2 (more (child (node Kind.IdentifierReference 3 (more (string (codes "h")) end))) (more (list (trees (node Kind.SequenceExpression 16 (more (list (trees (node Kind.CallExpression 9 (more (child (node Kind.IdentifierReference 10 (more (string (codes "g")) end))) (more (list (trees (node Kind.ArrowFunctionExpression 11 (more (list end) (more (child (node Kind.IdentifierReference 17 (more (string (codes "_C")) end))) (more (boolean false) end))) ∷ []))) (more (boolean false) end))) ∷ node Kind.AssignmentExpression 18 (more (string (codes "=")) (more (child (node Kind.IdentifierReference 19 (more (string (codes "_C")) end))) (more (child (node Kind.ClassExpression 4 (more (child (node Kind.BindingIdentifier 5 (more (string (codes "C")) end))) (more absent (more (child (node Kind.ClassBody 6 (more (list end) end))) end))))) end))) ∷ []))) end) ∷ []))) (more (boolean false) end))))) (more no_string end)) ∷ []))) end))

abbrev pub generated_block_in_front_of_its_class : List LedgerEntry
generated_block_in_front_of_its_class = record { name = codes "_C"; kind = GeneratedKind.ClassTemp (record { 0 = 4 }) } ∷ []

abbrev pub options_block_in_front_of_its_class : Options
options_block_in_front_of_its_class = options_of true None false
