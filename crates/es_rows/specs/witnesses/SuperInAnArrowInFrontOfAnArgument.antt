-- Printed by tools/rows/witnesses.js.
use Rattle.std.specs.Prelude.{ℕ, List, [], ◌∷◌, false, codes, Some, None}
use Rattle.es_base.specs.Tree.{Tree, end, more, child, absent, list, string, no_string, boolean, literal, trees}
use Rattle.es_base.specs.declared.kind.Kind.{Kind}
use Rattle.es_base.specs.declared.ledger.GeneratedKind.{GeneratedKind}
use Rattle.es_base.specs.declared.ledger.LedgerEntry.{LedgerEntry}
use Rattle.es_base.specs.declared.literal.LiteralValue.TheVariants as literal_value
use Rattle.es_steps.specs.Generated.{node}
use Rattle.es_steps.specs.Options.{options_of}
use Rattle.es_steps.specs.declared.options.Options.{Options}

-- `class A extends P { x = 1; constructor(n) { h(() => super(), n); } }`
abbrev pub source_super_in_an_arrow_in_front_of_an_argument : Tree
source_super_in_an_arrow_in_front_of_an_argument = node Kind.Program 0 (more (string (codes "script")) (more (list (trees (node Kind.ClassDeclaration 1 (more (child (node Kind.BindingIdentifier 2 (more (string (codes "A")) end))) (more (child (node Kind.IdentifierReference 3 (more (string (codes "P")) end))) (more (child (node Kind.ClassBody 4 (more (list (trees (node Kind.PropertyDefinition 5 (more (child (node Kind.IdentifierName 6 (more (string (codes "x")) end))) (more (child (node Kind.Literal 7 (more (literal (literal_value.Number (codes "1"))) end))) (more (boolean false) (more (boolean false) end)))) ∷ node Kind.MethodDefinition 8 (more (child (node Kind.IdentifierName 9 (more (string (codes "constructor")) end))) (more (child (node Kind.FunctionExpression 10 (more absent (more (list (trees (node Kind.BindingIdentifier 11 (more (string (codes "n")) end) ∷ []))) (more (child (node Kind.BlockStatement 12 (more (list (trees (node Kind.ExpressionStatement 13 (more (child (node Kind.CallExpression 14 (more (child (node Kind.IdentifierReference 15 (more (string (codes "h")) end))) (more (list (trees (node Kind.ArrowFunctionExpression 16 (more (list end) (more (child (node Kind.CallExpression 17 (more (child (node Kind.Super 18 end)) (more (list end) (more (boolean false) end))))) (more (boolean false) end))) ∷ node Kind.IdentifierReference 19 (more (string (codes "n")) end) ∷ []))) (more (boolean false) end))))) (more no_string end)) ∷ []))) end))) (more (boolean false) (more (boolean false) end))))))) (more (string (codes "constructor")) (more (boolean false) (more (boolean false) end))))) ∷ []))) end))) end))) ∷ []))) end))

-- a call of super in an arrow, in front of an argument, as `class A extends P { constructor(n) { var _super = (..._args) => (super(..._args), B.defineProperty(this, "x", 1), this); h(() => _super(), n); } }` means
abbrev pub output_super_in_an_arrow_in_front_of_an_argument : Tree
output_super_in_an_arrow_in_front_of_an_argument = node Kind.Program 0 (more (string (codes "script")) (more (list (trees (node Kind.ClassDeclaration 1 (more (child (node Kind.BindingIdentifier 2 (more (string (codes "A")) end))) (more (child (node Kind.IdentifierReference 3 (more (string (codes "P")) end))) (more (child (node Kind.ClassBody 4 (more (list (trees (node Kind.MethodDefinition 8 (more (child (node Kind.IdentifierName 9 (more (string (codes "constructor")) end))) (more (child (node Kind.FunctionExpression 10 (more absent (more (list (trees (node Kind.BindingIdentifier 11 (more (string (codes "n")) end) ∷ []))) (more (child (node Kind.BlockStatement 12 (more (list (trees (node Kind.VariableDeclaration 20 (more (string (codes "var")) (more (list (trees (node Kind.VariableDeclarator 21 (more (child (node Kind.BindingIdentifier 22 (more (string (codes "_super")) end))) (more (child (node Kind.ArrowFunctionExpression 23 (more (list (trees (node Kind.RestElement 24 (more (child (node Kind.BindingIdentifier 25 (more (string (codes "_args")) end))) end) ∷ []))) (more (child (node Kind.SequenceExpression 26 (more (list (trees (node Kind.CallExpression 27 (more (child (node Kind.Super 28 end)) (more (list (trees (node Kind.SpreadElement 29 (more (child (node Kind.IdentifierReference 30 (more (string (codes "_args")) end))) end) ∷ []))) (more (boolean false) end))) ∷ node Kind.CallExpression 31 (more (child (node Kind.MemberExpression 32 (more (child (node Kind.IdentifierReference 33 (more (string (codes "babelHelpers")) end))) (more (child (node Kind.IdentifierName 34 (more (string (codes "defineProperty")) end))) (more (boolean false) (more (boolean false) end)))))) (more (list (trees (node Kind.ThisExpression 35 end ∷ node Kind.Literal 36 (more (literal (literal_value.String (codes "x") None)) end) ∷ node Kind.Literal 7 (more (literal (literal_value.Number (codes "1"))) end) ∷ []))) (more (boolean false) end))) ∷ node Kind.ThisExpression 37 end ∷ []))) end))) (more (boolean false) end))))) end)) ∷ []))) end)) ∷ node Kind.ExpressionStatement 13 (more (child (node Kind.CallExpression 14 (more (child (node Kind.IdentifierReference 15 (more (string (codes "h")) end))) (more (list (trees (node Kind.ArrowFunctionExpression 16 (more (list end) (more (child (node Kind.CallExpression 17 (more (child (node Kind.IdentifierReference 38 (more (string (codes "_super")) end))) (more (list end) (more (boolean false) end))))) (more (boolean false) end))) ∷ node Kind.IdentifierReference 19 (more (string (codes "n")) end) ∷ []))) (more (boolean false) end))))) (more no_string end)) ∷ []))) end))) (more (boolean false) (more (boolean false) end))))))) (more (string (codes "constructor")) (more (boolean false) (more (boolean false) end))))) ∷ []))) end))) end))) ∷ []))) end))

abbrev pub generated_super_in_an_arrow_in_front_of_an_argument : List LedgerEntry
generated_super_in_an_arrow_in_front_of_an_argument = record { name = codes "_args"; kind = GeneratedKind.Args } ∷ record { name = codes "_super"; kind = GeneratedKind.SuperFn (record { 0 = 1 }) } ∷ []

abbrev pub options_super_in_an_arrow_in_front_of_an_argument : Options
options_super_in_an_arrow_in_front_of_an_argument = options_of false (Some (record { loose = false })) false
