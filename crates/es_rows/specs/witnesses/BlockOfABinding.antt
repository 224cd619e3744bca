-- Printed by tools/rows/witnesses.js.
use Rattle.std.specs.Prelude.{ℕ, List, [], ◌∷◌, true, false, codes, None}
use Rattle.es_base.specs.Tree.{Tree, end, more, child, absent, list, string, no_string, boolean, trees}
use Rattle.es_base.specs.declared.kind.Kind.{Kind}
use Rattle.es_base.specs.declared.ledger.GeneratedKind.{GeneratedKind}
use Rattle.es_base.specs.declared.ledger.LedgerEntry.{LedgerEntry}
use Rattle.es_steps.specs.Generated.{node}
use Rattle.es_steps.specs.Options.{options_of}
use Rattle.es_steps.specs.declared.options.Options.{Options}

-- `const y = f(); class C { static { this.a = y; } }`
abbrev pub source_block_of_a_binding : Tree
source_block_of_a_binding = node Kind.Program 0 (more (string (codes "script")) (more (list (trees (node Kind.VariableDeclaration 1 (more (string (codes "const")) (more (list (trees (node Kind.VariableDeclarator 2 (more (child (node Kind.BindingIdentifier 3 (more (string (codes "y")) end))) (more (child (node Kind.CallExpression 4 (more (child (node Kind.IdentifierReference 5 (more (string (codes "f")) end))) (more (list end) (more (boolean false) end))))) end)) ∷ []))) end)) ∷ node Kind.ClassDeclaration 6 (more (child (node Kind.BindingIdentifier 7 (more (string (codes "C")) end))) (more absent (more (child (node Kind.ClassBody 8 (more (list (trees (node Kind.StaticBlock 9 (more (list (trees (node Kind.ExpressionStatement 10 (more (child (node Kind.AssignmentExpression 11 (more (string (codes "=")) (more (child (node Kind.MemberExpression 12 (more (child (node Kind.ThisExpression 13 end)) (more (child (node Kind.IdentifierName 14 (more (string (codes "a")) end))) (more (boolean false) (more (boolean false) end)))))) (more (child (node Kind.IdentifierReference 15 (more (string (codes "y")) end))) end))))) (more no_string end)) ∷ []))) end) ∷ []))) end))) end))) ∷ []))) end))

-- a static block that hands a binding to a generated element, as `const y = f(); class C { static #_ = this.a = y; }` means
abbrev pub output_block_of_a_binding : Tree
output_block_of_a_binding = node Kind.Program 0 (more (string (codes "script")) (more (list (trees (node Kind.VariableDeclaration 1 (more (string (codes "const")) (more (list (trees (node Kind.VariableDeclarator 2 (more (child (node Kind.BindingIdentifier 3 (more (string (codes "y")) end))) (more (child (node Kind.CallExpression 4 (more (child (node Kind.IdentifierReference 5 (more (string (codes "f")) end))) (more (list end) (more (boolean false) end))))) end)) ∷ []))) end)) ∷ node Kind.ClassDeclaration 6 (more (child (node Kind.BindingIdentifier 7 (more (string (codes "C")) end))) (more absent (more (child (node Kind.ClassBody 8 (more (list (trees (node Kind.PropertyDefinition 16 (more (child (node Kind.PrivateIdentifier 17 (more (string (codes "_")) end))) (more (child (node Kind.AssignmentExpression 11 (more (string (codes "=")) (more (child (node Kind.MemberExpression 12 (more (child (node Kind.ThisExpression 13 end)) (more (child (node Kind.IdentifierName 14 (more (string (codes "a")) end))) (more (boolean false) (more (boolean false) end)))))) (more (child (node Kind.IdentifierReference 15 (more (string (codes "y")) end))) end))))) (more (boolean false) (more (boolean true) end)))) ∷ []))) end))) end))) ∷ []))) end))

abbrev pub generated_block_of_a_binding : List LedgerEntry
generated_block_of_a_binding = record { name = codes "_"; kind = GeneratedKind.Private (record { 0 = 6 }) } ∷ []

abbrev pub options_block_of_a_binding : Options
options_block_of_a_binding = options_of true None false
