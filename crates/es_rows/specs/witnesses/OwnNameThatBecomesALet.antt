-- Printed by tools/rows/witnesses.js.
use Rattle.std.specs.Prelude.{ℕ, List, [], ◌∷◌, true, false, codes, None}
use Rattle.es_base.specs.Tree.{Tree, end, more, child, absent, list, string, no_string, boolean, literal, trees}
use Rattle.es_base.specs.declared.kind.Kind.{Kind}
use Rattle.es_base.specs.declared.ledger.GeneratedKind.{GeneratedKind}
use Rattle.es_base.specs.declared.ledger.LedgerEntry.{LedgerEntry}
use Rattle.es_base.specs.declared.literal.LiteralValue.TheVariants as literal_value
use Rattle.es_steps.specs.Generated.{node}
use Rattle.es_steps.specs.Options.{options_of}
use Rattle.es_steps.specs.declared.options.Options.{Options}

-- `function g() { x = class C extends k(() => C) { static { C.y = 1; } }; }`
abbrev pub source_own_name_that_becomes_a_let : Tree
source_own_name_that_becomes_a_let = node Kind.Program 0 (more (string (codes "script")) (more (list (trees (node Kind.FunctionDeclaration 1 (more (child (node Kind.BindingIdentifier 2 (more (string (codes "g")) end))) (more (list end) (more (child (node Kind.BlockStatement 3 (more (list (trees (node Kind.ExpressionStatement 4 (more (child (node Kind.AssignmentExpression 5 (more (string (codes "=")) (more (child (node Kind.IdentifierReference 6 (more (string (codes "x")) end))) (more (child (node Kind.ClassExpression 7 (more (child (node Kind.BindingIdentifier 8 (more (string (codes "C")) end))) (more (child (node Kind.CallExpression 9 (more (child (node Kind.IdentifierReference 10 (more (string (codes "k")) end))) (more (list (trees (node Kind.ArrowFunctionExpression 11 (more (list end) (more (child (node Kind.IdentifierReference 12 (more (string (codes "C")) end))) (more (boolean false) end))) ∷ []))) (more (boolean false) end))))) (more (child (node Kind.ClassBody 13 (more (list (trees (node Kind.StaticBlock 14 (more (list (trees (node Kind.ExpressionStatement 15 (more (child (node Kind.AssignmentExpression 16 (more (string (codes "=")) (more (child (node Kind.MemberExpression 17 (more (child (node Kind.IdentifierReference 18 (more (string (codes "C")) end))) (more (child (node Kind.IdentifierName 19 (more (string (codes "y")) end))) (more (boolean false) (more (boolean false) end)))))) (more (child (node Kind.Literal 20 (more (literal (literal_value.Number (codes "1"))) end))) end))))) (more no_string end)) ∷ []))) end) ∷ []))) end))) end))))) end))))) (more no_string end)) ∷ []))) end))) (more (boolean false) (more (boolean false) end))))) ∷ []))) end))

-- the own name of a class expression as a `let` around the class, whose element reads it: `function g() { let C = class extends k(() => C) { static #_ = C.y = 1; }; x = C; }`
abbrev pub output_own_name_that_becomes_a_let : Tree
output_own_name_that_becomes_a_let = node Kind.Program 0 (more (string (codes "script")) (more (list (trees (node Kind.FunctionDeclaration 1 (more (child (node Kind.BindingIdentifier 2 (more (string (codes "g")) end))) (more (list end) (more (child (node Kind.BlockStatement 3 (more (list (trees (node Kind.VariableDeclaration 21 (more (string (codes "let")) (more (list (trees (node Kind.VariableDeclarator 22 (more (child (node Kind.BindingIdentifier 8 (more (string (codes "C")) end))) (more (child (node Kind.ClassExpression 7 (more absent (more (child (node Kind.CallExpression 9 (more (child (node Kind.IdentifierReference 10 (more (string (codes "k")) end))) (more (list (trees (node Kind.ArrowFunctionExpression 11 (more (list end) (more (child (node Kind.IdentifierReference 12 (more (string (codes "C")) end))) (more (boolean false) end))) ∷ []))) (more (boolean false) end))))) (more (child (node Kind.ClassBody 13 (more (list (trees (node Kind.PropertyDefinition 23 (more (child (node Kind.PrivateIdentifier 24 (more (string (codes "_")) end))) (more (child (node Kind.AssignmentExpression 16 (more (string (codes "=")) (more (child (node Kind.MemberExpression 17 (more (child (node Kind.IdentifierReference 18 (more (string (codes "C")) end))) (more (child (node Kind.IdentifierName 19 (more (string (codes "y")) end))) (more (boolean false) (more (boolean false) end)))))) (more (child (node Kind.Literal 20 (more (literal (literal_value.Number (codes "1"))) end))) end))))) (more (boolean false) (more (boolean true) end)))) ∷ []))) end))) end))))) end)) ∷ []))) end)) ∷ node Kind.ExpressionStatement 4 (more (child (node Kind.AssignmentExpression 5 (more (string (codes "=")) (more (child (node Kind.IdentifierReference 6 (more (string (codes "x")) end))) (more (child (node Kind.IdentifierReference 25 (more (string (codes "C")) end))) end))))) (more no_string end)) ∷ []))) end))) (more (boolean false) (more (boolean false) end))))) ∷ []))) end))

abbrev pub generated_own_name_that_becomes_a_let : List LedgerEntry
generated_own_name_that_becomes_a_let = record { name = codes "_"; kind = GeneratedKind.Private (record { 0 = 7 }) } ∷ []

abbrev pub options_own_name_that_becomes_a_let : Options
options_own_name_that_becomes_a_let = options_of true None false
