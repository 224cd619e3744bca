-- Printed by tools/rows/witnesses.js.
use Rattle.std.specs.Prelude.{ℕ, List, [], ◌∷◌, true, false, codes, None}
use Rattle.es_base.specs.Tree.{Tree, end, more, child, absent, list, string, no_string, boolean, literal, trees}
use Rattle.es_base.specs.declared.kind.Kind.{Kind}
use Rattle.es_base.specs.declared.ledger.GeneratedKind.{GeneratedKind}
use Rattle.es_base.specs.declared.ledger.LedgerEntry.{LedgerEntry}
use Rattle.es_base.specs.declared.literal.LiteralValue.TheVariants as literal_value
use Rattle.es_steps.specs.Generated.{node}
use Rattle.es_steps.specs.Options.{options_of}
use Rattle.es_steps.specs.declared.options.Options.{Options}

-- `let u; l({ m() { g((super.x = 1, class extends h() { static { k(1); } n() { u = 2; } })); } });`
abbrev pub source_super_assignment_in_a_heritage : Tree
source_super_assignment_in_a_heritage = node Kind.Program 0 (more (string (codes "script")) (more (list (trees (node Kind.VariableDeclaration 1 (more (string (codes "let")) (more (list (trees (node Kind.VariableDeclarator 2 (more (child (node Kind.BindingIdentifier 3 (more (string (codes "u")) end))) (more absent end)) ∷ []))) end)) ∷ node Kind.ExpressionStatement 4 (more (child (node Kind.CallExpression 5 (more (child (node Kind.IdentifierReference 6 (more (string (codes "l")) end))) (more (list (trees (node Kind.ObjectExpression 7 (more (list (trees (node Kind.Property 8 (more (child (node Kind.IdentifierName 9 (more (string (codes "m")) end))) (more (child (node Kind.FunctionExpression 10 (more absent (more (list end) (more (child (node Kind.BlockStatement 11 (more (list (trees (node Kind.ExpressionStatement 12 (more (child (node Kind.CallExpression 13 (more (child (node Kind.IdentifierReference 14 (more (string (codes "g")) end))) (more (list (trees (node Kind.SequenceExpression 15 (more (list (trees (node Kind.AssignmentExpression 16 (more (string (codes "=")) (more (child (node Kind.MemberExpression 17 (more (child (node Kind.Super 18 end)) (more (child (node Kind.IdentifierName 19 (more (string (codes "x")) end))) (more (boolean false) (more (boolean false) end)))))) (more (child (node Kind.Literal 20 (more (literal (literal_value.Number (codes "1"))) end))) end))) ∷ node Kind.ClassExpression 21 (more absent (more (child (node Kind.CallExpression 22 (more (child (node Kind.IdentifierReference 23 (more (string (codes "h")) end))) (more (list end) (more (boolean false) end))))) (more (child (node Kind.ClassBody 24 (more (list (trees (node Kind.StaticBlock 25 (more (list (trees (node Kind.ExpressionStatement 26 (more (child (node Kind.CallExpression 27 (more (child (node Kind.IdentifierReference 28 (more (string (codes "k")) end))) (more (list (trees (node Kind.Literal 29 (more (literal (literal_value.Number (codes "1"))) end) ∷ []))) (more (boolean false) end))))) (more no_string end)) ∷ []))) end) ∷ node Kind.MethodDefinition 30 (more (child (node Kind.IdentifierName 31 (more (string (codes "n")) end))) (more (child (node Kind.FunctionExpression 32 (more absent (more (list end) (more (child (node Kind.BlockStatement 33 (more (list (trees (node Kind.ExpressionStatement 34 (more (child (node Kind.AssignmentExpression 35 (more (string (codes "=")) (more (child (node Kind.IdentifierReference 36 (more (string (codes "u")) end))) (more (child (node Kind.Literal 37 (more (literal (literal_value.Number (codes "2"))) end))) end))))) (more no_string end)) ∷ []))) end))) (more (boolean false) (more (boolean false) end))))))) (more (string (codes "method")) (more (boolean false) (more (boolean false) end))))) ∷ []))) end))) end))) ∷ []))) end) ∷ []))) (more (boolean false) end))))) (more no_string end)) ∷ []))) end))) (more (boolean false) (more (boolean false) end))))))) (more (string (codes "init")) (more (boolean true) (more (boolean false) (more (boolean false) end)))))) ∷ []))) end) ∷ []))) (more (boolean false) end))))) (more no_string end)) ∷ []))) end))

-- an assignment to a member of `super`, in a heritage, where code is strict, with the number of one in a method: `let u; l({ m() { g(class extends (super.x = 1, h()) { static #_ = k(1); n() { u = 2; } }); } });`
abbrev pub output_super_assignment_in_a_heritage : Tree
output_super_assignment_in_a_heritage = node Kind.Program 0 (more (string (codes "script")) (more (list (trees (node Kind.VariableDeclaration 1 (more (string (codes "let")) (more (list (trees (node Kind.VariableDeclarator 2 (more (child (node Kind.BindingIdentifier 3 (more (string (codes "u")) end))) (more absent end)) ∷ []))) end)) ∷ node Kind.ExpressionStatement 4 (more (child (node Kind.CallExpression 5 (more (child (node Kind.IdentifierReference 6 (more (string (codes "l")) end))) (more (list (trees (node Kind.ObjectExpression 7 (more (list (trees (node Kind.Property 8 (more (child (node Kind.IdentifierName 9 (more (string (codes "m")) end))) (more (child (node Kind.FunctionExpression 10 (more absent (more (list end) (more (child (node Kind.BlockStatement 11 (more (list (trees (node Kind.ExpressionStatement 12 (more (child (node Kind.CallExpression 13 (more (child (node Kind.IdentifierReference 14 (more (string (codes "g")) end))) (more (list (trees (node Kind.ClassExpression 21 (more absent (more (child (node Kind.SequenceExpression 38 (more (list (trees (node Kind.AssignmentExpression 35 (more (string (codes "=")) (more (child (node Kind.MemberExpression 39 (more (child (node Kind.Super 40 end)) (more (child (node Kind.IdentifierName 41 (more (string (codes "x")) end))) (more (boolean false) (more (boolean false) end)))))) (more (child (node Kind.Literal 42 (more (literal (literal_value.Number (codes "1"))) end))) end))) ∷ node Kind.CallExpression 22 (more (child (node Kind.IdentifierReference 23 (more (string (codes "h")) end))) (more (list end) (more (boolean false) end))) ∷ []))) end))) (more (child (node Kind.ClassBody 24 (more (list (trees (node Kind.PropertyDefinition 43 (more (child (node Kind.PrivateIdentifier 44 (more (string (codes "_")) end))) (more (child (node Kind.CallExpression 27 (more (child (node Kind.IdentifierReference 28 (more (string (codes "k")) end))) (more (list (trees (node Kind.Literal 29 (more (literal (literal_value.Number (codes "1"))) end) ∷ []))) (more (boolean false) end))))) (more (boolean false) (more (boolean true) end)))) ∷ node Kind.MethodDefinition 30 (more (child (node Kind.IdentifierName 31 (more (string (codes "n")) end))) (more (child (node Kind.FunctionExpression 32 (more absent (more (list end) (more (child (node Kind.BlockStatement 33 (more (list (trees (node Kind.ExpressionStatement 34 (more (child (node Kind.AssignmentExpression 45 (more (string (codes "=")) (more (child (node Kind.IdentifierReference 36 (more (string (codes "u")) end))) (more (child (node Kind.Literal 37 (more (literal (literal_value.Number (codes "2"))) end))) end))))) (more no_string end)) ∷ []))) end))) (more (boolean false) (more (boolean false) end))))))) (more (string (codes "method")) (more (boolean false) (more (boolean false) end))))) ∷ []))) end))) end))) ∷ []))) (more (boolean false) end))))) (more no_string end)) ∷ []))) end))) (more (boolean false) (more (boolean false) end))))))) (more (string (codes "init")) (more (boolean true) (more (boolean false) (more (boolean false) end)))))) ∷ []))) end) ∷ []))) (more (boolean false) end))))) (more no_string end)) ∷ []))) end))

abbrev pub generated_super_assignment_in_a_heritage : List LedgerEntry
generated_super_assignment_in_a_heritage = record { name = codes "_"; kind = GeneratedKind.Private (record { 0 = 21 }) } ∷ []

abbrev pub options_super_assignment_in_a_heritage : Options
options_super_assignment_in_a_heritage = options_of true None false
