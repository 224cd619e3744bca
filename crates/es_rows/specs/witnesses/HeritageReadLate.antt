-- Printed by tools/rows/witnesses.js.
use Rattle.std.specs.Prelude.{ℕ, List, [], ◌∷◌, false, codes, Some, None}
use Rattle.es_base.specs.Tree.{Tree, end, more, child, absent, list, string, no_string, boolean, literal, trees}
use Rattle.es_base.specs.declared.kind.Kind.{Kind}
use Rattle.es_base.specs.declared.ledger.GeneratedKind.{GeneratedKind}
use Rattle.es_base.specs.declared.ledger.LedgerEntry.{LedgerEntry}
use Rattle.es_base.specs.declared.literal.LiteralValue.TheVariants as literal_value
use Rattle.es_steps.specs.Generated.{node}
use Rattle.es_steps.specs.Options.{options_of}
use Rattle.es_steps.specs.declared.options.Options.{Options}

-- `class D { x = 1; m() { h(); class C extends k() { y = 2; } return C; } }`
abbrev pub source_heritage_read_late : Tree
source_heritage_read_late = node Kind.Program 0 (more (string (codes "script")) (more (list (trees (node Kind.ClassDeclaration 1 (more (child (node Kind.BindingIdentifier 2 (more (string (codes "D")) end))) (more absent (more (child (node Kind.ClassBody 3 (more (list (trees (node Kind.PropertyDefinition 4 (more (child (node Kind.IdentifierName 5 (more (string (codes "x")) end))) (more (child (node Kind.Literal 6 (more (literal (literal_value.Number (codes "1"))) end))) (more (boolean false) (more (boolean false) end)))) ∷ node Kind.MethodDefinition 7 (more (child (node Kind.IdentifierName 8 (more (string (codes "m")) end))) (more (child (node Kind.FunctionExpression 9 (more absent (more (list end) (more (child (node Kind.BlockStatement 10 (more (list (trees (node Kind.ExpressionStatement 11 (more (child (node Kind.CallExpression 12 (more (child (node Kind.IdentifierReference 13 (more (string (codes "h")) end))) (more (list end) (more (boolean false) end))))) (more no_string end)) ∷ node Kind.ClassDeclaration 14 (more (child (node Kind.BindingIdentifier 15 (more (string (codes "C")) end))) (more (child (node Kind.CallExpression 16 (more (child (node Kind.IdentifierReference 17 (more (string (codes "k")) end))) (more (list end) (more (boolean false) end))))) (more (child (node Kind.ClassBody 18 (more (list (trees (node Kind.PropertyDefinition 19 (more (child (node Kind.IdentifierName 20 (more (string (codes "y")) end))) (more (child (node Kind.Literal 21 (more (literal (literal_value.Number (codes "2"))) end))) (more (boolean false) (more (boolean false) end)))) ∷ []))) end))) end))) ∷ node Kind.ReturnStatement 22 (more (child (node Kind.IdentifierReference 23 (more (string (codes "C")) end))) end) ∷ []))) end))) (more (boolean false) (more (boolean false) end))))))) (more (string (codes "method")) (more (boolean false) (more (boolean false) end))))) ∷ []))) end))) end))) ∷ []))) end))

-- a heritage read behind its class, where `class D { constructor() { B.defineProperty(this, "x", 1); } m() { h(); class C extends k() { constructor(..._args) { super(..._args); B.defineProperty(this, "y", 2); } } return C; } }` is right
abbrev pub output_heritage_read_late : Tree
output_heritage_read_late = node Kind.Program 0 (more (string (codes "script")) (more (list (trees (node Kind.ClassDeclaration 1 (more (child (node Kind.BindingIdentifier 2 (more (string (codes "D")) end))) (more absent (more (child (node Kind.ClassBody 3 (more (list (trees (node Kind.MethodDefinition 24 (more (child (node Kind.IdentifierName 25 (more (string (codes "constructor")) end))) (more (child (node Kind.FunctionExpression 26 (more absent (more (list end) (more (child (node Kind.BlockStatement 27 (more (list (trees (node Kind.ExpressionStatement 28 (more (child (node Kind.CallExpression 29 (more (child (node Kind.MemberExpression 30 (more (child (node Kind.IdentifierReference 31 (more (string (codes "babelHelpers")) end))) (more (child (node Kind.IdentifierName 32 (more (string (codes "defineProperty")) end))) (more (boolean false) (more (boolean false) end)))))) (more (list (trees (node Kind.ThisExpression 33 end ∷ node Kind.Literal 34 (more (literal (literal_value.String (codes "x") None)) end) ∷ node Kind.Literal 6 (more (literal (literal_value.Number (codes "1"))) end) ∷ []))) (more (boolean false) end))))) (more no_string end)) ∷ []))) end))) (more (boolean false) (more (boolean false) end))))))) (more (string (codes "constructor")) (more (boolean false) (more (boolean false) end))))) ∷ node Kind.MethodDefinition 7 (more (child (node Kind.IdentifierName 8 (more (string (codes "m")) end))) (more (child (node Kind.FunctionExpression 9 (more absent (more (list end) (more (child (node Kind.BlockStatement 10 (more (list (trees (node Kind.VariableDeclaration 35 (more (string (codes "let")) (more (list (trees (node Kind.VariableDeclarator 36 (more (child (node Kind.BindingIdentifier 37 (more (string (codes "_t")) end))) (more absent end)) ∷ []))) end)) ∷ node Kind.ExpressionStatement 11 (more (child (node Kind.AssignmentExpression 38 (more (string (codes "=")) (more (child (node Kind.IdentifierReference 39 (more (string (codes "_t")) end))) (more (child (node Kind.CallExpression 12 (more (child (node Kind.IdentifierReference 13 (more (string (codes "h")) end))) (more (list end) (more (boolean false) end))))) end))))) (more no_string end)) ∷ node Kind.ClassDeclaration 14 (more (child (node Kind.BindingIdentifier 15 (more (string (codes "C")) end))) (more (child (node Kind.IdentifierReference 40 (more (string (codes "_t")) end))) (more (child (node Kind.ClassBody 18 (more (list (trees (node Kind.MethodDefinition 41 (more (child (node Kind.IdentifierName 42 (more (string (codes "constructor")) end))) (more (child (node Kind.FunctionExpression 43 (more absent (more (list (trees (node Kind.RestElement 44 (more (child (node Kind.BindingIdentifier 45 (more (string (codes "_args")) end))) end) ∷ []))) (more (child (node Kind.BlockStatement 46 (more (list (trees (node Kind.ExpressionStatement 47 (more (child (node Kind.CallExpression 48 (more (child (node Kind.Super 49 end)) (more (list (trees (node Kind.SpreadElement 50 (more (child (node Kind.IdentifierReference 51 (more (string (codes "_args")) end))) end) ∷ []))) (more (boolean false) end))))) (more no_string end)) ∷ node Kind.ExpressionStatement 52 (more (child (node Kind.CallExpression 53 (more (child (node Kind.MemberExpression 54 (more (child (node Kind.IdentifierReference 55 (more (string (codes "babelHelpers")) end))) (more (child (node Kind.IdentifierName 56 (more (string (codes "defineProperty")) end))) (more (boolean false) (more (boolean false) end)))))) (more (list (trees (node Kind.ThisExpression 57 end ∷ node Kind.Literal 58 (more (literal (literal_value.String (codes "y") None)) end) ∷ node Kind.Literal 21 (more (literal (literal_value.Number (codes "2"))) end) ∷ []))) (more (boolean false) end))))) (more no_string end)) ∷ []))) end))) (more (boolean false) (more (boolean false) end))))))) (more (string (codes "constructor")) (more (boolean false) (more (boolean false) end))))) ∷ []))) end))) end))) ∷ node Kind.ExpressionStatement 59 (more (child (node Kind.AssignmentExpression 60 (more (string (codes "=")) (more (child (node Kind.IdentifierReference 61 (more (string (codes "_t")) end))) (more (child (node Kind.CallExpression 16 (more (child (node Kind.IdentifierReference 17 (more (string (codes "k")) end))) (more (list end) (more (boolean false) end))))) end))))) (more no_string end)) ∷ node Kind.ReturnStatement 22 (more (child (node Kind.IdentifierReference 23 (more (string (codes "C")) end))) end) ∷ []))) end))) (more (boolean false) (more (boolean false) end))))))) (more (string (codes "method")) (more (boolean false) (more (boolean false) end))))) ∷ []))) end))) end))) ∷ []))) end))

abbrev pub generated_heritage_read_late : List LedgerEntry
generated_heritage_read_late = record { name = codes "_t"; kind = GeneratedKind.Temp } ∷ record { name = codes "_args"; kind = GeneratedKind.Args } ∷ []

abbrev pub options_heritage_read_late : Options
options_heritage_read_late = options_of false (Some (record { loose = false })) false
