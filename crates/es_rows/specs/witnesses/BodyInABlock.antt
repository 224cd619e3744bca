-- Printed by tools/rows/witnesses.js.
use Rattle.std.specs.Prelude.{ℕ, List, [], ◌∷◌, true, false, codes, None}
use Rattle.es_base.specs.Tree.{Tree, end, more, child, absent, list, string, no_string, boolean, literal, trees}
use Rattle.es_base.specs.declared.kind.Kind.{Kind}
use Rattle.es_base.specs.declared.ledger.GeneratedKind.{GeneratedKind}
use Rattle.es_base.specs.declared.ledger.LedgerEntry.{LedgerEntry}
use Rattle.es_base.specs.declared.literal.LiteralValue.TheVariants as literal_value
use Rattle.es_steps.specs.Generated.{node}
use Rattle.es_steps.specs.Options.{options_of}
use Rattle.es_steps.specs.declared.options.Options.{Options}

-- `class A { static { f(1); } w(v) { async function h() {} var h; } }`
abbrev pub source_body_in_a_block : Tree
source_body_in_a_block = node Kind.Program 0 (more (string (codes "script")) (more (list (trees (node Kind.ClassDeclaration 1 (more (child (node Kind.BindingIdentifier 2 (more (string (codes "A")) end))) (more absent (more (child (node Kind.ClassBody 3 (more (list (trees (node Kind.StaticBlock 4 (more (list (trees (node Kind.ExpressionStatement 5 (more (child (node Kind.CallExpression 6 (more (child (node Kind.IdentifierReference 7 (more (string (codes "f")) end))) (more (list (trees (node Kind.Literal 8 (more (literal (literal_value.Number (codes "1"))) end) ∷ []))) (more (boolean false) end))))) (more no_string end)) ∷ []))) end) ∷ node Kind.MethodDefinition 9 (more (child (node Kind.IdentifierName 10 (more (string (codes "w")) end))) (more (child (node Kind.FunctionExpression 11 (more absent (more (list (trees (node Kind.BindingIdentifier 12 (more (string (codes "v")) end) ∷ []))) (more (child (node Kind.BlockStatement 13 (more (list (trees (node Kind.FunctionDeclaration 14 (more (child (node Kind.BindingIdentifier 15 (more (string (codes "h")) end))) (more (list end) (more (child (node Kind.BlockStatement 16 (more (list end) end))) (more (boolean true) (more (boolean false) end))))) ∷ node Kind.VariableDeclaration 17 (more (string (codes "var")) (more (list (trees (node Kind.VariableDeclarator 18 (more (child (node Kind.BindingIdentifier 19 (more (string (codes "h")) end))) (more absent end)) ∷ []))) end)) ∷ []))) end))) (more (boolean false) (more (boolean false) end))))))) (more (string (codes "method")) (more (boolean false) (more (boolean false) end))))) ∷ []))) end))) end))) ∷ []))) end))

-- the body of a function in a block, where two functions of one name may not be, where `class A { static #_ = f(1); w(v) { async function h() {} var h; } }` is right
abbrev pub output_body_in_a_block : Tree
output_body_in_a_block = node Kind.Program 0 (more (string (codes "script")) (more (list (trees (node Kind.ClassDeclaration 1 (more (child (node Kind.BindingIdentifier 2 (more (string (codes "A")) end))) (more absent (more (child (node Kind.ClassBody 3 (more (list (trees (node Kind.PropertyDefinition 20 (more (child (node Kind.PrivateIdentifier 21 (more (string (codes "_")) end))) (more (child (node Kind.CallExpression 6 (more (child (node Kind.IdentifierReference 7 (more (string (codes "f")) end))) (more (list (trees (node Kind.Literal 8 (more (literal (literal_value.Number (codes "1"))) end) ∷ []))) (more (boolean false) end))))) (more (boolean false) (more (boolean true) end)))) ∷ node Kind.MethodDefinition 9 (more (child (node Kind.IdentifierName 10 (more (string (codes "w")) end))) (more (child (node Kind.FunctionExpression 11 (more absent (more (list (trees (node Kind.BindingIdentifier 12 (more (string (codes "v")) end) ∷ []))) (more (child (node Kind.BlockStatement 22 (more (list (trees (node Kind.BlockStatement 13 (more (list (trees (node Kind.FunctionDeclaration 14 (more (child (node Kind.BindingIdentifier 15 (more (string (codes "h")) end))) (more (list end) (more (child (node Kind.BlockStatement 16 (more (list end) end))) (more (boolean true) (more (boolean false) end))))) ∷ node Kind.VariableDeclaration 17 (more (string (codes "var")) (more (list (trees (node Kind.VariableDeclarator 18 (more (child (node Kind.BindingIdentifier 19 (more (string (codes "h")) end))) (more absent end)) ∷ []))) end)) ∷ []))) end) ∷ []))) end))) (more (boolean false) (more (boolean false) end))))))) (more (string (codes "method")) (more (boolean false) (more (boolean false) end))))) ∷ []))) end))) end))) ∷ []))) end))

abbrev pub generated_body_in_a_block : List LedgerEntry
generated_body_in_a_block = record { name = codes "_"; kind = GeneratedKind.Private (record { 0 = 1 }) } ∷ []

abbrev pub options_body_in_a_block : Options
options_body_in_a_block = options_of true None false
