-- Printed by tools/rows/witnesses.js.
use Rattle.std.specs.Prelude.{ℕ, List, [], ◌∷◌, false, codes, Some, None}
use Rattle.es_base.specs.Tree.{Tree, end, more, child, absent, list, string, no_string, boolean, literal, trees}
use Rattle.es_base.specs.declared.kind.Kind.{Kind}
use Rattle.es_base.specs.declared.ledger.GeneratedKind.{GeneratedKind}
use Rattle.es_base.specs.declared.ledger.LedgerEntry.{LedgerEntry}
use Rattle.es_base.specs.declared.literal.LiteralValue.TheVariants as literal_value
use Rattle.es_steps.specs.Generated.{node}
use Rattle.es_steps.specs.Options.{options_of}
use Rattle.es_steps.specs.declared.options.Options.{Options}

-- `let y = 1; class A extends P { x = y; constructor(a) { if (a) super(1); else super(2); } }`
abbrev pub source_name_in_a_field_behind_two_calls_of_super : Tree
source_name_in_a_field_behind_two_calls_of_super = node Kind.Program 0 (more (string (codes "script")) (more (list (trees (node Kind.VariableDeclaration 1 (more (string (codes "let")) (more (list (trees (node Kind.VariableDeclarator 2 (more (child (node Kind.BindingIdentifier 3 (more (string (codes "y")) end))) (more (child (node Kind.Literal 4 (more (literal (literal_value.Number (codes "1"))) end))) end)) ∷ []))) end)) ∷ node Kind.ClassDeclaration 5 (more (child (node Kind.BindingIdentifier 6 (more (string (codes "A")) end))) (more (child (node Kind.IdentifierReference 7 (more (string (codes "P")) end))) (more (child (node Kind.ClassBody 8 (more (list (trees (node Kind.PropertyDefinition 9 (more (child (node Kind.IdentifierName 10 (more (string (codes "x")) end))) (more (child (node Kind.IdentifierReference 11 (more (string (codes "y")) end))) (more (boolean false) (more (boolean false) end)))) ∷ node Kind.MethodDefinition 12 (more (child (node Kind.IdentifierName 13 (more (string (codes "constructor")) end))) (more (child (node Kind.FunctionExpression 14 (more absent (more (list (trees (node Kind.BindingIdentifier 15 (more (string (codes "a")) end) ∷ []))) (more (child (node Kind.BlockStatement 16 (more (list (trees (node Kind.IfStatement 17 (more (child (node Kind.IdentifierReference 18 (more (string (codes "a")) end))) (more (child (node Kind.ExpressionStatement 19 (more (child (node Kind.CallExpression 20 (more (child (node Kind.Super 21 end)) (more (list (trees (node Kind.Literal 22 (more (literal (literal_value.Number (codes "1"))) end) ∷ []))) (more (boolean false) end))))) (more no_string end)))) (more (child (node Kind.ExpressionStatement 23 (more (child (node Kind.CallExpression 24 (more (child (node Kind.Super 25 end)) (more (list (trees (node Kind.Literal 26 (more (literal (literal_value.Number (codes "2"))) end) ∷ []))) (more (boolean false) end))))) (more no_string end)))) end))) ∷ []))) end))) (more (boolean false) (more (boolean false) end))))))) (more (string (codes "constructor")) (more (boolean false) (more (boolean false) end))))) ∷ []))) end))) end))) ∷ []))) end))

-- a field that reads a name, behind calls of super in two branches, as `let y = 1; class A extends P { constructor(a) { var _super = (..._args) => (super(..._args), B.defineProperty(this, "x", y), this); if (a) _super(1); else _super(2); } }` means
abbrev pub output_name_in_a_field_behind_two_calls_of_super : Tree
output_name_in_a_field_behind_two_calls_of_super = node Kind.Program 0 (more (string (codes "script")) (more (list (trees (node Kind.VariableDeclaration 1 (more (string (codes "let")) (more (list (trees (node Kind.VariableDeclarator 2 (more (child (node Kind.BindingIdentifier 3 (more (string (codes "y")) end))) (more (child (node Kind.Literal 4 (more (literal (literal_value.Number (codes "1"))) end))) end)) ∷ []))) end)) ∷ node Kind.ClassDeclaration 5 (more (child (node Kind.BindingIdentifier 6 (more (string (codes "A")) end))) (more (child (node Kind.IdentifierReference 7 (more (string (codes "P")) end))) (more (child (node Kind.ClassBody 8 (more (list (trees (node Kind.MethodDefinition 12 (more (child (node Kind.IdentifierName 13 (more (string (codes "constructor")) end))) (more (child (node Kind.FunctionExpression 14 (more absent (more (list (trees (node Kind.BindingIdentifier 15 (more (string (codes "a")) end) ∷ []))) (more (child (node Kind.BlockStatement 16 (more (list (trees (node Kind.VariableDeclaration 27 (more (string (codes "var")) (more (list (trees (node Kind.VariableDeclarator 28 (more (child (node Kind.BindingIdentifier 29 (more (string (codes "_super")) end))) (more (child (node Kind.ArrowFunctionExpression 30 (more (list (trees (node Kind.RestElement 31 (more (child (node Kind.BindingIdentifier 32 (more (string (codes "_args")) end))) end) ∷ []))) (more (child (node Kind.SequenceExpression 33 (more (list (trees (node Kind.CallExpression 34 (more (child (node Kind.Super 35 end)) (more (list (trees (node Kind.SpreadElement 36 (more (child (node Kind.IdentifierReference 37 (more (string (codes "_args")) end))) end) ∷ []))) (more (boolean false) end))) ∷ node Kind.CallExpression 38 (more (child (node Kind.MemberExpression 39 (more (child (node Kind.IdentifierReference 40 (more (string (codes "babelHelpers")) end))) (more (child (node Kind.IdentifierName 41 (more (string (codes "defineProperty")) end))) (more (boolean false) (more (boolean false) end)))))) (more (list (trees (node Kind.ThisExpression 42 end ∷ node Kind.Literal 43 (more (literal (literal_value.String (codes "x") None)) end) ∷ node Kind.IdentifierReference 11 (more (string (codes "y")) end) ∷ []))) (more (boolean false) end))) ∷ node Kind.ThisExpression 44 end ∷ []))) end))) (more (boolean false) end))))) end)) ∷ []))) end)) ∷ node Kind.IfStatement 17 (more (child (node Kind.IdentifierReference 18 (more (string (codes "a")) end))) (more (child (node Kind.ExpressionStatement 19 (more (child (node Kind.CallExpression 20 (more (child (node Kind.IdentifierReference 45 (more (string (codes "_super")) end))) (more (list (trees (node Kind.Literal 22 (more (literal (literal_value.Number (codes "1"))) end) ∷ []))) (more (boolean false) end))))) (more no_string end)))) (more (child (node Kind.ExpressionStatement 23 (more (child (node Kind.CallExpression 24 (more (child (node Kind.IdentifierReference 46 (more (string (codes "_super")) end))) (more (list (trees (node Kind.Literal 26 (more (literal (literal_value.Number (codes "2"))) end) ∷ []))) (more (boolean false) end))))) (more no_string end)))) end))) ∷ []))) end))) (more (boolean false) (more (boolean false) end))))))) (more (string (codes "constructor")) (more (boolean false) (more (boolean false) end))))) ∷ []))) end))) end))) ∷ []))) end))

abbrev pub generated_name_in_a_field_behind_two_calls_of_super : List LedgerEntry
generated_name_in_a_field_behind_two_calls_of_super = record { name = codes "_args"; kind = GeneratedKind.Args } ∷ record { name = codes "_super"; kind = GeneratedKind.SuperFn (record { 0 = 5 }) } ∷ []

abbrev pub options_name_in_a_field_behind_two_calls_of_super : Options
options_name_in_a_field_behind_two_calls_of_super = options_of false (Some (record { loose = false })) false
