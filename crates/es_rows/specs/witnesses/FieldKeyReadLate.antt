-- Printed by tools/rows/witnesses.js.
use Rattle.std.specs.Prelude.{ℕ, List, [], ◌∷◌, true, false, codes, None}
use Rattle.es_base.specs.Tree.{Tree, end, more, child, absent, list, string, no_string, boolean, literal, trees}
use Rattle.es_base.specs.declared.kind.Kind.{Kind}
use Rattle.es_base.specs.declared.ledger.GeneratedKind.{GeneratedKind}
use Rattle.es_base.specs.declared.ledger.LedgerEntry.{LedgerEntry}
use Rattle.es_base.specs.declared.literal.LiteralValue.TheVariants as literal_value
use Rattle.es_steps.specs.Generated.{node}
use Rattle.es_steps.specs.Options.{options_of}
use Rattle.es_steps.specs.declared.options.Options.{Options}

-- `class D { static { q(); } static v = 1; m() { z(); class C { [k()] = 1; } return C; } }`
abbrev pub source_field_key_read_late : Tree
source_field_key_read_late = node Kind.Program 0 (more (string (codes "script")) (more (list (trees (node Kind.ClassDeclaration 1 (more (child (node Kind.BindingIdentifier 2 (more (string (codes "D")) end))) (more absent (more (child (node Kind.ClassBody 3 (more (list (trees (node Kind.StaticBlock 4 (more (list (trees (node Kind.ExpressionStatement 5 (more (child (node Kind.CallExpression 6 (more (child (node Kind.IdentifierReference 7 (more (string (codes "q")) end))) (more (list end) (more (boolean false) end))))) (more no_string end)) ∷ []))) end) ∷ node Kind.PropertyDefinition 8 (more (child (node Kind.IdentifierName 9 (more (string (codes "v")) end))) (more (child (node Kind.Literal 10 (more (literal (literal_value.Number (codes "1"))) end))) (more (boolean false) (more (boolean true) end)))) ∷ node Kind.MethodDefinition 11 (more (child (node Kind.IdentifierName 12 (more (string (codes "m")) end))) (more (child (node Kind.FunctionExpression 13 (more absent (more (list end) (more (child (node Kind.BlockStatement 14 (more (list (trees (node Kind.ExpressionStatement 15 (more (child (node Kind.CallExpression 16 (more (child (node Kind.IdentifierReference 17 (more (string (codes "z")) end))) (more (list end) (more (boolean false) end))))) (more no_string end)) ∷ node Kind.ClassDeclaration 18 (more (child (node Kind.BindingIdentifier 19 (more (string (codes "C")) end))) (more absent (more (child (node Kind.ClassBody 20 (more (list (trees (node Kind.PropertyDefinition 21 (more (child (node Kind.CallExpression 22 (more (child (node Kind.IdentifierReference 23 (more (string (codes "k")) end))) (more (list end) (more (boolean false) end))))) (more (child (node Kind.Literal 24 (more (literal (literal_value.Number (codes "1"))) end))) (more (boolean true) (more (boolean false) end)))) ∷ []))) end))) end))) ∷ node Kind.ReturnStatement 25 (more (child (node Kind.IdentifierReference 26 (more (string (codes "C")) end))) end) ∷ []))) end))) (more (boolean false) (more (boolean false) end))))))) (more (string (codes "method")) (more (boolean false) (more (boolean false) end))))) ∷ []))) end))) end))) ∷ []))) end))

-- the key of a field read behind its class, where `class D { static v = (q(), 1); m() { z(); class C { [k()] = 1; } return C; } }` is right
abbrev pub output_field_key_read_late : Tree
output_field_key_read_late = node Kind.Program 0 (more (string (codes "script")) (more (list (trees (node Kind.ClassDeclaration 1 (more (child (node Kind.BindingIdentifier 2 (more (string (codes "D")) end))) (more absent (more (child (node Kind.ClassBody 3 (more (list (trees (node Kind.PropertyDefinition 8 (more (child (node Kind.IdentifierName 9 (more (string (codes "v")) end))) (more (child (node Kind.SequenceExpression 27 (more (list (trees (node Kind.CallExpression 6 (more (child (node Kind.IdentifierReference 7 (more (string (codes "q")) end))) (more (list end) (more (boolean false) end))) ∷ node Kind.Literal 10 (more (literal (literal_value.Number (codes "1"))) end) ∷ []))) end))) (more (boolean false) (more (boolean true) end)))) ∷ node Kind.MethodDefinition 11 (more (child (node Kind.IdentifierName 12 (more (string (codes "m")) end))) (more (child (node Kind.FunctionExpression 13 (more absent (more (list end) (more (child (node Kind.BlockStatement 14 (more (list (trees (node Kind.VariableDeclaration 28 (more (string (codes "let")) (more (list (trees (node Kind.VariableDeclarator 29 (more (child (node Kind.BindingIdentifier 30 (more (string (codes "_u")) end))) (more absent end)) ∷ []))) end)) ∷ node Kind.ExpressionStatement 15 (more (child (node Kind.AssignmentExpression 31 (more (string (codes "=")) (more (child (node Kind.IdentifierReference 32 (more (string (codes "_u")) end))) (more (child (node Kind.CallExpression 16 (more (child (node Kind.IdentifierReference 17 (more (string (codes "z")) end))) (more (list end) (more (boolean false) end))))) end))))) (more no_string end)) ∷ node Kind.ClassDeclaration 18 (more (child (node Kind.BindingIdentifier 19 (more (string (codes "C")) end))) (more absent (more (child (node Kind.ClassBody 20 (more (list (trees (node Kind.PropertyDefinition 21 (more (child (node Kind.IdentifierReference 33 (more (string (codes "_u")) end))) (more (child (node Kind.Literal 24 (more (literal (literal_value.Number (codes "1"))) end))) (more (boolean true) (more (boolean false) end)))) ∷ []))) end))) end))) ∷ node Kind.ExpressionStatement 34 (more (child (node Kind.AssignmentExpression 35 (more (string (codes "=")) (more (child (node Kind.IdentifierReference 36 (more (string (codes "_u")) end))) (more (child (node Kind.CallExpression 22 (more (child (node Kind.IdentifierReference 23 (more (string (codes "k")) end))) (more (list end) (more (boolean false) end))))) end))))) (more no_string end)) ∷ node Kind.ReturnStatement 25 (more (child (node Kind.IdentifierReference 26 (more (string (codes "C")) end))) end) ∷ []))) end))) (more (boolean false) (more (boolean false) end))))))) (more (string (codes "method")) (more (boolean false) (more (boolean false) end))))) ∷ []))) end))) end))) ∷ []))) end))

abbrev pub generated_field_key_read_late : List LedgerEntry
generated_field_key_read_late = record { name = codes "_u"; kind = GeneratedKind.Temp } ∷ []

abbrev pub options_field_key_read_late : Options
options_field_key_read_late = options_of true None false
