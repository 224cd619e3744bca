-- Printed by tools/rows/witnesses.js.
use Rattle.std.specs.Prelude.{ℕ, List, [], ◌∷◌, false, codes, Some, None}
use Rattle.es_base.specs.Tree.{Tree, end, more, child, absent, list, string, no_string, boolean, literal, trees}
use Rattle.es_base.specs.declared.kind.Kind.{Kind}
use Rattle.es_base.specs.declared.ledger.GeneratedKind.{GeneratedKind}
use Rattle.es_base.specs.declared.ledger.LedgerEntry.{LedgerEntry}
use Rattle.es_base.specs.declared.literal.LiteralValue.TheVariants as literal_value
use Rattle.es_steps.specs.Generated.{node}
use Rattle.es_steps.specs.Options.{options_of}
use Rattle.es_steps.specs.declared.options.Options.{Options}

-- `class A extends P { x = 1; constructor(a) { f(a ? super(a) : super()); } }`
abbrev pub source_super_gives_zero : Tree
source_super_gives_zero = node Kind.Program 0 (more (string (codes "script")) (more (list (trees (node Kind.ClassDeclaration 1 (more (child (node Kind.BindingIdentifier 2 (more (string (codes "A")) end))) (more (child (node Kind.IdentifierReference 3 (more (string (codes "P")) end))) (more (child (node Kind.ClassBody 4 (more (list (trees (node Kind.PropertyDefinition 5 (more (child (node Kind.IdentifierName 6 (more (string (codes "x")) end))) (more (child (node Kind.Literal 7 (more (literal (literal_value.Number (codes "1"))) end))) (more (boolean false) (more (boolean false) end)))) ∷ node Kind.MethodDefinition 8 (more (child (node Kind.IdentifierName 9 (more (string (codes "constructor")) end))) (more (child (node Kind.FunctionExpression 10 (more absent (more (list (trees (node Kind.BindingIdentifier 11 (more (string (codes "a")) end) ∷ []))) (more (child (node Kind.BlockStatement 12 (more (list (trees (node Kind.ExpressionStatement 13 (more (child (node Kind.CallExpression 14 (more (child (node Kind.IdentifierReference 15 (more (string (codes "f")) end))) (more (list (trees (node Kind.ConditionalExpression 16 (more (child (node Kind.IdentifierReference 17 (more (string (codes "a")) end))) (more (child (node Kind.CallExpression 18 (more (child (node Kind.Super 19 end)) (more (list (trees (node Kind.IdentifierReference 20 (more (string (codes "a")) end) ∷ []))) (more (boolean false) end))))) (more (child (node Kind.CallExpression 21 (more (child (node Kind.Super 22 end)) (more (list end) (more (boolean false) end))))) end))) ∷ []))) (more (boolean false) end))))) (more no_string end)) ∷ []))) end))) (more (boolean false) (more (boolean false) end))))))) (more (string (codes "constructor")) (more (boolean false) (more (boolean false) end))))) ∷ []))) end))) end))) ∷ []))) end))

-- what stands for `super(..)` gives another value, where `class A extends P { constructor(a) { var _super = (..._args) => (super(..._args), B.defineProperty(this, "x", 1), this); f(a ? _super(a) : _super()); } }` is right
abbrev pub output_super_gives_zero : Tree
output_super_gives_zero = node Kind.Program 0 (more (string (codes "script")) (more (list (trees (node Kind.ClassDeclaration 1 (more (child (node Kind.BindingIdentifier 2 (more (string (codes "A")) end))) (more (child (node Kind.IdentifierReference 3 (more (string (codes "P")) end))) (more (child (node Kind.ClassBody 4 (more (list (trees (node Kind.MethodDefinition 8 (more (child (node Kind.IdentifierName 9 (more (string (codes "constructor")) end))) (more (child (node Kind.FunctionExpression 10 (more absent (more (list (trees (node Kind.BindingIdentifier 11 (more (string (codes "a")) end) ∷ []))) (more (child (node Kind.BlockStatement 12 (more (list (trees (node Kind.VariableDeclaration 23 (more (string (codes "var")) (more (list (trees (node Kind.VariableDeclarator 24 (more (child (node Kind.BindingIdentifier 25 (more (string (codes "_super")) end))) (more (child (node Kind.ArrowFunctionExpression 26 (more (list (trees (node Kind.RestElement 27 (more (child (node Kind.BindingIdentifier 28 (more (string (codes "_args")) end))) end) ∷ []))) (more (child (node Kind.SequenceExpression 29 (more (list (trees (node Kind.CallExpression 30 (more (child (node Kind.Super 31 end)) (more (list (trees (node Kind.SpreadElement 32 (more (child (node Kind.IdentifierReference 33 (more (string (codes "_args")) end))) end) ∷ []))) (more (boolean false) end))) ∷ node Kind.CallExpression 34 (more (child (node Kind.MemberExpression 35 (more (child (node Kind.IdentifierReference 36 (more (string (codes "babelHelpers")) end))) (more (child (node Kind.IdentifierName 37 (more (string (codes "defineProperty")) end))) (more (boolean false) (more (boolean false) end)))))) (more (list (trees (node Kind.ThisExpression 38 end ∷ node Kind.Literal 39 (more (literal (literal_value.String (codes "x") None)) end) ∷ node Kind.Literal 7 (more (literal (literal_value.Number (codes "1"))) end) ∷ []))) (more (boolean false) end))) ∷ node Kind.Literal 40 (more (literal (literal_value.Number (codes "0"))) end) ∷ []))) end))) (more (boolean false) end))))) end)) ∷ []))) end)) ∷ node Kind.ExpressionStatement 13 (more (child (node Kind.CallExpression 14 (more (child (node Kind.IdentifierReference 15 (more (string (codes "f")) end))) (more (list (trees (node Kind.ConditionalExpression 16 (more (child (node Kind.IdentifierReference 17 (more (string (codes "a")) end))) (more (child (node Kind.CallExpression 18 (more (child (node Kind.IdentifierReference 41 (more (string (codes "_super")) end))) (more (list (trees (node Kind.IdentifierReference 20 (more (string (codes "a")) end) ∷ []))) (more (boolean false) end))))) (more (child (node Kind.CallExpression 21 (more (child (node Kind.IdentifierReference 42 (more (string (codes "_super")) end))) (more (list end) (more (boolean false) end))))) end))) ∷ []))) (more (boolean false) end))))) (more no_string end)) ∷ []))) end))) (more (boolean false) (more (boolean false) end))))))) (more (string (codes "constructor")) (more (boolean false) (more (boolean false) end))))) ∷ []))) end))) end))) ∷ []))) end))

abbrev pub generated_super_gives_zero : List LedgerEntry
generated_super_gives_zero = record { name = codes "_args"; kind = GeneratedKind.Args } ∷ record { name = codes "_super"; kind = GeneratedKind.SuperFn (record { 0 = 1 }) } ∷ []

abbrev pub options_super_gives_zero : Options
options_super_gives_zero = options_of false (Some (record { loose = false })) false
