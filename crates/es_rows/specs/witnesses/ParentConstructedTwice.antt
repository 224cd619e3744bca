-- Printed by tools/rows/witnesses.js.
use Rattle.std.specs.Prelude.{ℕ, List, [], ◌∷◌, false, codes, Some, None}
use Rattle.es_base.specs.Tree.{Tree, end, more, child, absent, list, string, no_string, boolean, literal, trees}
use Rattle.es_base.specs.declared.kind.Kind.{Kind}
use Rattle.es_base.specs.declared.ledger.GeneratedKind.{GeneratedKind}
use Rattle.es_base.specs.declared.ledger.LedgerEntry.{LedgerEntry}
use Rattle.es_base.specs.declared.literal.LiteralValue.TheVariants as literal_value
use Rattle.es_steps.specs.Generated.{node}
use Rattle.es_steps.specs.Options.{options_of}
use Rattle.es_steps.specs.declared.options.Options.{Options}

-- `class A extends P { x = 1; constructor(a) { if (a) super(a); else super(); } }`
abbrev pub source_parent_constructed_twice : Tree
source_parent_constructed_twice = node Kind.Program 0 (more (string (codes "script")) (more (list (trees (node Kind.ClassDeclaration 1 (more (child (node Kind.BindingIdentifier 2 (more (string (codes "A")) end))) (more (child (node Kind.IdentifierReference 3 (more (string (codes "P")) end))) (more (child (node Kind.ClassBody 4 (more (list (trees (node Kind.PropertyDefinition 5 (more (child (node Kind.IdentifierName 6 (more (string (codes "x")) end))) (more (child (node Kind.Literal 7 (more (literal (literal_value.Number (codes "1"))) end))) (more (boolean false) (more (boolean false) end)))) ∷ node Kind.MethodDefinition 8 (more (child (node Kind.IdentifierName 9 (more (string (codes "constructor")) end))) (more (child (node Kind.FunctionExpression 10 (more absent (more (list (trees (node Kind.BindingIdentifier 11 (more (string (codes "a")) end) ∷ []))) (more (child (node Kind.BlockStatement 12 (more (list (trees (node Kind.IfStatement 13 (more (child (node Kind.IdentifierReference 14 (more (string (codes "a")) end))) (more (child (node Kind.ExpressionStatement 15 (more (child (node Kind.CallExpression 16 (more (child (node Kind.Super 17 end)) (more (list (trees (node Kind.IdentifierReference 18 (more (string (codes "a")) end) ∷ []))) (more (boolean false) end))))) (more no_string end)))) (more (child (node Kind.ExpressionStatement 19 (more (child (node Kind.CallExpression 20 (more (child (node Kind.Super 21 end)) (more (list end) (more (boolean false) end))))) (more no_string end)))) end))) ∷ []))) end))) (more (boolean false) (more (boolean false) end))))))) (more (string (codes "constructor")) (more (boolean false) (more (boolean false) end))))) ∷ []))) end))) end))) ∷ []))) end))

-- what stands for `super(..)` called with what `super(..)` gave, where `class A extends P { constructor(a) { var _super = (..._args) => (super(..._args), B.defineProperty(this, "x", 1), this); if (a) _super(a); else _super(); } }` is right
abbrev pub output_parent_constructed_twice : Tree
output_parent_constructed_twice = node Kind.Program 0 (more (string (codes "script")) (more (list (trees (node Kind.ClassDeclaration 1 (more (child (node Kind.BindingIdentifier 2 (more (string (codes "A")) end))) (more (child (node Kind.IdentifierReference 3 (more (string (codes "P")) end))) (more (child (node Kind.ClassBody 4 (more (list (trees (node Kind.MethodDefinition 8 (more (child (node Kind.IdentifierName 9 (more (string (codes "constructor")) end))) (more (child (node Kind.FunctionExpression 10 (more absent (more (list (trees (node Kind.BindingIdentifier 11 (more (string (codes "a")) end) ∷ []))) (more (child (node Kind.BlockStatement 12 (more (list (trees (node Kind.VariableDeclaration 22 (more (string (codes "var")) (more (list (trees (node Kind.VariableDeclarator 23 (more (child (node Kind.BindingIdentifier 24 (more (string (codes "_super")) end))) (more (child (node Kind.ArrowFunctionExpression 25 (more (list (trees (node Kind.RestElement 26 (more (child (node Kind.BindingIdentifier 27 (more (string (codes "_args")) end))) end) ∷ []))) (more (child (node Kind.SequenceExpression 28 (more (list (trees (node Kind.CallExpression 29 (more (child (node Kind.Super 30 end)) (more (list (trees (node Kind.SpreadElement 31 (more (child (node Kind.IdentifierReference 32 (more (string (codes "_args")) end))) end) ∷ []))) (more (boolean false) end))) ∷ node Kind.CallExpression 33 (more (child (node Kind.MemberExpression 34 (more (child (node Kind.IdentifierReference 35 (more (string (codes "babelHelpers")) end))) (more (child (node Kind.IdentifierName 36 (more (string (codes "defineProperty")) end))) (more (boolean false) (more (boolean false) end)))))) (more (list (trees (node Kind.ThisExpression 37 end ∷ node Kind.Literal 38 (more (literal (literal_value.String (codes "x") None)) end) ∷ node Kind.Literal 7 (more (literal (literal_value.Number (codes "1"))) end) ∷ []))) (more (boolean false) end))) ∷ node Kind.ThisExpression 39 end ∷ []))) end))) (more (boolean false) end))))) end)) ∷ []))) end)) ∷ node Kind.IfStatement 13 (more (child (node Kind.IdentifierReference 14 (more (string (codes "a")) end))) (more (child (node Kind.ExpressionStatement 15 (more (child (node Kind.CallExpression 16 (more (child (node Kind.MemberExpression 40 (more (child (node Kind.IdentifierReference 41 (more (string (codes "_super")) end))) (more (child (node Kind.IdentifierName 42 (more (string (codes "call")) end))) (more (boolean false) (more (boolean false) end)))))) (more (list (trees (node Kind.CallExpression 43 (more (child (node Kind.Super 44 end)) (more (list (trees (node Kind.IdentifierReference 18 (more (string (codes "a")) end) ∷ []))) (more (boolean false) end))) ∷ []))) (more (boolean false) end))))) (more no_string end)))) (more (child (node Kind.ExpressionStatement 19 (more (child (node Kind.CallExpression 20 (more (child (node Kind.IdentifierReference 45 (more (string (codes "_super")) end))) (more (list end) (more (boolean false) end))))) (more no_string end)))) end))) ∷ []))) end))) (more (boolean false) (more (boolean false) end))))))) (more (string (codes "constructor")) (more (boolean false) (more (boolean false) end))))) ∷ []))) end))) end))) ∷ []))) end))

abbrev pub generated_parent_constructed_twice : List LedgerEntry
generated_parent_constructed_twice = record { name = codes "_args"; kind = GeneratedKind.Args } ∷ record { name = codes "_super"; kind = GeneratedKind.SuperFn (record { 0 = 1 }) } ∷ []

abbrev pub options_parent_constructed_twice : Options
options_parent_constructed_twice = options_of false (Some (record { loose = false })) false
