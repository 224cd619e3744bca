-- Printed by tools/rows/number-rows.js from `names_taken` of tools/rows/rows.json: a worked row with its numbers.
use Rattle.std.specs.Prelude.{ℕ, List, [], ◌∷◌, false, codes, Some, None}
use Rattle.es_base.specs.Tree.{Tree, end, more, child, absent, list, string, no_string, boolean, literal, trees}
use Rattle.es_base.specs.declared.kind.Kind.{Kind}
use Rattle.es_base.specs.declared.ledger.GeneratedKind.{GeneratedKind}
use Rattle.es_base.specs.declared.ledger.LedgerEntry.{LedgerEntry}
use Rattle.es_base.specs.declared.literal.LiteralValue.TheVariants as literal_value
use Rattle.es_steps.specs.Generated.{node}
use Rattle.es_steps.specs.Options.{options_of}
use Rattle.es_steps.specs.declared.options.Options.{Options}

-- `class A extends P { x = _super; constructor() { if (_args) super(); } }`
abbrev pub source_names_taken : Tree
source_names_taken = node Kind.Program 0 (more (string (codes "script")) (more (list (trees (node Kind.ClassDeclaration 1 (more (child (node Kind.BindingIdentifier 2 (more (string (codes "A")) end))) (more (child (node Kind.IdentifierReference 3 (more (string (codes "P")) end))) (more (child (node Kind.ClassBody 4 (more (list (trees (node Kind.PropertyDefinition 5 (more (child (node Kind.IdentifierName 6 (more (string (codes "x")) end))) (more (child (node Kind.IdentifierReference 7 (more (string (codes "_super")) end))) (more (boolean false) (more (boolean false) end)))) ∷ node Kind.MethodDefinition 8 (more (child (node Kind.IdentifierName 9 (more (string (codes "constructor")) end))) (more (child (node Kind.FunctionExpression 10 (more absent (more (list end) (more (child (node Kind.BlockStatement 11 (more (list (trees (node Kind.IfStatement 12 (more (child (node Kind.IdentifierReference 13 (more (string (codes "_args")) end))) (more (child (node Kind.ExpressionStatement 14 (more (child (node Kind.CallExpression 15 (more (child (node Kind.Super 16 end)) (more (list end) (more (boolean false) end))))) (more no_string end)))) (more absent end))) ∷ []))) end))) (more (boolean false) (more (boolean false) end))))))) (more (string (codes "constructor")) (more (boolean false) (more (boolean false) end))))) ∷ []))) end))) end))) ∷ []))) end))

-- the number of its nodes
abbrev pub nodes_names_taken : ℕ
nodes_names_taken = 17

-- `class A extends P { constructor() { var _super2 = (..._args2) => (super(..._args2), B.defineProperty(this, "x", _super), this); if (_args) _super2(); } }`
abbrev pub output_names_taken : Tree
output_names_taken = node Kind.Program 0 (more (string (codes "script")) (more (list (trees (node Kind.ClassDeclaration 1 (more (child (node Kind.BindingIdentifier 2 (more (string (codes "A")) end))) (more (child (node Kind.IdentifierReference 3 (more (string (codes "P")) end))) (more (child (node Kind.ClassBody 4 (more (list (trees (node Kind.MethodDefinition 8 (more (child (node Kind.IdentifierName 9 (more (string (codes "constructor")) end))) (more (child (node Kind.FunctionExpression 10 (more absent (more (list end) (more (child (node Kind.BlockStatement 11 (more (list (trees (node Kind.VariableDeclaration 17 (more (string (codes "var")) (more (list (trees (node Kind.VariableDeclarator 18 (more (child (node Kind.BindingIdentifier 19 (more (string (codes "_super2")) end))) (more (child (node Kind.ArrowFunctionExpression 20 (more (list (trees (node Kind.RestElement 21 (more (child (node Kind.BindingIdentifier 22 (more (string (codes "_args2")) end))) end) ∷ []))) (more (child (node Kind.SequenceExpression 23 (more (list (trees (node Kind.CallExpression 24 (more (child (node Kind.Super 25 end)) (more (list (trees (node Kind.SpreadElement 26 (more (child (node Kind.IdentifierReference 27 (more (string (codes "_args2")) end))) end) ∷ []))) (more (boolean false) end))) ∷ node Kind.CallExpression 28 (more (child (node Kind.MemberExpression 29 (more (child (node Kind.IdentifierReference 30 (more (string (codes "babelHelpers")) end))) (more (child (node Kind.IdentifierName 31 (more (string (codes "defineProperty")) end))) (more (boolean false) (more (boolean false) end)))))) (more (list (trees (node Kind.ThisExpression 32 end ∷ node Kind.Literal 33 (more (literal (literal_value.String (codes "x") None)) end) ∷ node Kind.IdentifierReference 7 (more (string (codes "_super")) end) ∷ []))) (more (boolean false) end))) ∷ node Kind.ThisExpression 34 end ∷ []))) end))) (more (boolean false) end))))) end)) ∷ []))) end)) ∷ node Kind.IfStatement 12 (more (child (node Kind.IdentifierReference 13 (more (string (codes "_args")) end))) (more (child (node Kind.ExpressionStatement 14 (more (child (node Kind.CallExpression 15 (more (child (node Kind.IdentifierReference 35 (more (string (codes "_super2")) end))) (more (list end) (more (boolean false) end))))) (more no_string end)))) (more absent end))) ∷ []))) end))) (more (boolean false) (more (boolean false) end))))))) (more (string (codes "constructor")) (more (boolean false) (more (boolean false) end))))) ∷ []))) end))) end))) ∷ []))) end))

abbrev pub generated_names_taken : List LedgerEntry
generated_names_taken = record { name = codes "_args2"; kind = GeneratedKind.Args } ∷ record { name = codes "_super2"; kind = GeneratedKind.SuperFn (record { 0 = 1 }) } ∷ []

-- the numbers of its shapes
abbrev pub outside_names_taken : List ℕ
outside_names_taken = []

abbrev pub options_names_taken : Options
options_names_taken = options_of false (Some (record { loose = false })) false
