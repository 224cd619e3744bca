-- Printed by tools/rows/witnesses.js.
use Rattle.std.specs.Prelude.{ℕ, List, [], ◌∷◌, true, false, codes, None}
use Rattle.es_base.specs.Tree.{Tree, end, more, child, absent, list, string, no_string, boolean, trees}
use Rattle.es_base.specs.declared.kind.Kind.{Kind}
use Rattle.es_base.specs.declared.ledger.GeneratedKind.{GeneratedKind}
use Rattle.es_base.specs.declared.ledger.LedgerEntry.{LedgerEntry}
use Rattle.es_steps.specs.Generated.{node}
use Rattle.es_steps.specs.Options.{options_of}
use Rattle.es_steps.specs.declared.options.Options.{Options}

-- `class C { static x = C; static { f(); } }`
abbrev pub source_declaration_without_its_name : Tree
source_declaration_without_its_name = node Kind.Program 0 (more (string (codes "script")) (more (list (trees (node Kind.ClassDeclaration 1 (more (child (node Kind.BindingIdentifier 2 (more (string (codes "C")) end))) (more absent (more (child (node Kind.ClassBody 3 (more (list (trees (node Kind.PropertyDefinition 4 (more (child (node Kind.IdentifierName 5 (more (string (codes "x")) end))) (more (child (node Kind.IdentifierReference 6 (more (string (codes "C")) end))) (more (boolean false) (more (boolean true) end)))) ∷ node Kind.StaticBlock 7 (more (list (trees (node Kind.ExpressionStatement 8 (more (child (node Kind.CallExpression 9 (more (child (node Kind.IdentifierReference 10 (more (string (codes "f")) end))) (more (list end) (more (boolean false) end))))) (more no_string end)) ∷ []))) end) ∷ []))) end))) end))) ∷ []))) end))

-- a class declaration that becomes an expression without its name, which a static field reads, where `class C { static x = C; static #_ = f(); }` is right
abbrev pub output_declaration_without_its_name : Tree
output_declaration_without_its_name = node Kind.Program 0 (more (string (codes "script")) (more (list (trees (node Kind.VariableDeclaration 11 (more (string (codes "let")) (more (list (trees (node Kind.VariableDeclarator 12 (more (child (node Kind.BindingIdentifier 2 (more (string (codes "C")) end))) (more (child (node Kind.ClassExpression 1 (more absent (more absent (more (child (node Kind.ClassBody 3 (more (list (trees (node Kind.PropertyDefinition 4 (more (child (node Kind.IdentifierName 5 (more (string (codes "x")) end))) (more (child (node Kind.IdentifierReference 6 (more (string (codes "C")) end))) (more (boolean false) (more (boolean true) end)))) ∷ node Kind.PropertyDefinition 13 (more (child (node Kind.PrivateIdentifier 14 (more (string (codes "_")) end))) (more (child (node Kind.CallExpression 9 (more (child (node Kind.IdentifierReference 10 (more (string (codes "f")) end))) (more (list end) (more (boolean false) end))))) (more (boolean false) (more (boolean true) end)))) ∷ []))) end))) end))))) end)) ∷ []))) end)) ∷ []))) end))

abbrev pub generated_declaration_without_its_name : List LedgerEntry
generated_declaration_without_its_name = record { name = codes "_"; kind = GeneratedKind.Private (record { 0 = 1 }) } ∷ []

abbrev pub options_declaration_without_its_name : Options
options_declaration_without_its_name = options_of true None false
