-- Printed by tools/rows/witnesses.js.
use Rattle.std.specs.Prelude.{ℕ, List, [], ◌∷◌, false, codes, Some, None}
use Rattle.es_base.specs.Tree.{Tree, end, more, child, absent, list, string, no_string, boolean, literal, trees}
use Rattle.es_base.specs.declared.kind.Kind.{Kind}
use Rattle.es_base.specs.declared.ledger.GeneratedKind.{GeneratedKind}
use Rattle.es_base.specs.declared.ledger.LedgerEntry.{LedgerEntry}
use Rattle.es_base.specs.declared.literal.LiteralValue.TheVariants as literal_value
use Rattle.es_steps.specs.Generated.{node}
use Rattle.es_steps.specs.Options.{options_of}
use Rattle.es_steps.specs.declared.options.Options.{Options}

-- `class A extends P { x = class {}; constructor(a) { const r = super(a); f(r); } }`
abbrev pub source_class_in_a_super_function : Tree
source_class_in_a_super_function = node Kind.Program 0 (more (string (codes "script")) (more (list (trees (node Kind.ClassDeclaration 1 (more (child (node Kind.BindingIdentifier 2 (more (string (codes "A")) end))) (more (child (node Kind.IdentifierReference 3 (more (string (codes "P")) end))) (more (child (node Kind.ClassBody 4 (more (list (trees (node Kind.PropertyDefinition 5 (more (child (node Kind.IdentifierName 6 (more (string (codes "x")) end))) (more (child (node Kind.ClassExpression 7 (more absent (more absent (more (child (node Kind.ClassBody 8 (more (list end) end))) end))))) (more (boolean false) (more (boolean false) end)))) ∷ node Kind.MethodDefinition 9 (more (child (node Kind.IdentifierName 10 (more (string (codes "constructor")) end))) (more (child (node Kind.FunctionExpression 11 (more absent (more (list (trees (node Kind.BindingIdentifier 12 (more (string (codes "a")) end) ∷ []))) (more (child (node Kind.BlockStatement 13 (more (list (trees (node Kind.VariableDeclaration 14 (more (string (codes "const")) (more (list (trees (node Kind.VariableDeclarator 15 (more (child (node Kind.BindingIdentifier 16 (more (string (codes "r")) end))) (more (child (node Kind.CallExpression 17 (more (child (node Kind.Super 18 end)) (more (list (trees (node Kind.IdentifierReference 19 (more (string (codes "a")) end) ∷ []))) (more (boolean false) end))))) end)) ∷ []))) end)) ∷ node Kind.ExpressionStatement 20 (more (child (node Kind.CallExpression 21 (more (child (node Kind.IdentifierReference 22 (more (string (codes "f")) end))) (more (list (trees (node Kind.IdentifierReference 23 (more (string (codes "r")) end) ∷ []))) (more (boolean false) end))))) (more no_string end)) ∷ []))) end))) (more (boolean false) (more (boolean false) end))))))) (more (string (codes "constructor")) (more (boolean false) (more (boolean false) end))))) ∷ []))) end))) end))) ∷ []))) end))

-- what stands for `super(..)`, and makes a class as the value of a field, as `class A extends P { constructor(a) { var _super = (..._args) => (super(..._args), B.defineProperty(this, "x", class {}), this); const r = _super(a); f(r); } }` means
abbrev pub output_class_in_a_super_function : Tree
output_class_in_a_super_function = node Kind.Program 0 (more (string (codes "script")) (more (list (trees (node Kind.ClassDeclaration 1 (more (child (node Kind.BindingIdentifier 2 (more (string (codes "A")) end))) (more (child (node Kind.IdentifierReference 3 (more (string (codes "P")) end))) (more (child (node Kind.ClassBody 4 (more (list (trees (node Kind.MethodDefinition 9 (more (child (node Kind.IdentifierName 10 (more (string (codes "constructor")) end))) (more (child (node Kind.FunctionExpression 11 (more absent (more (list (trees (node Kind.BindingIdentifier 12 (more (string (codes "a")) end) ∷ []))) (more (child (node Kind.BlockStatement 13 (more (list (trees (node Kind.VariableDeclaration 24 (more (string (codes "var")) (more (list (trees (node Kind.VariableDeclarator 25 (more (child (node Kind.BindingIdentifier 26 (more (string (codes "_super")) end))) (more (child (node Kind.ArrowFunctionExpression 27 (more (list (trees (node Kind.RestElement 28 (more (child (node Kind.BindingIdentifier 29 (more (string (codes "_args")) end))) end) ∷ []))) (more (child (node Kind.SequenceExpression 30 (more (list (trees (node Kind.CallExpression 31 (more (child (node Kind.Super 32 end)) (more (list (trees (node Kind.SpreadElement 33 (more (child (node Kind.IdentifierReference 34 (more (string (codes "_args")) end))) end) ∷ []))) (more (boolean false) end))) ∷ node Kind.CallExpression 35 (more (child (node Kind.MemberExpression 36 (more (child (node Kind.IdentifierReference 37 (more (string (codes "babelHelpers")) end))) (more (child (node Kind.IdentifierName 38 (more (string (codes "defineProperty")) end))) (more (boolean false) (more (boolean false) end)))))) (more (list (trees (node Kind.ThisExpression 39 end ∷ node Kind.Literal 40 (more (literal (literal_value.String (codes "x") None)) end) ∷ node Kind.ClassExpression 7 (more absent (more absent (more (child (node Kind.ClassBody 8 (more (list end) end))) end))) ∷ []))) (more (boolean false) end))) ∷ node Kind.ThisExpression 41 end ∷ []))) end))) (more (boolean false) end))))) end)) ∷ []))) end)) ∷ node Kind.VariableDeclaration 14 (more (string (codes "const")) (more (list (trees (node Kind.VariableDeclarator 15 (more (child (node Kind.BindingIdentifier 16 (more (string (codes "r")) end))) (more (child (node Kind.CallExpression 17 (more (child (node Kind.IdentifierReference 42 (more (string (codes "_super")) end))) (more (list (trees (node Kind.IdentifierReference 19 (more (string (codes "a")) end) ∷ []))) (more (boolean false) end))))) end)) ∷ []))) end)) ∷ node Kind.ExpressionStatement 20 (more (child (node Kind.CallExpression 21 (more (child (node Kind.IdentifierReference 22 (more (string (codes "f")) end))) (more (list (trees (node Kind.IdentifierReference 23 (more (string (codes "r")) end) ∷ []))) (more (boolean false) end))))) (more no_string end)) ∷ []))) end))) (more (boolean false) (more (boolean false) end))))))) (more (string (codes "constructor")) (more (boolean false) (more (boolean false) end))))) ∷ []))) end))) end))) ∷ []))) end))

abbrev pub generated_class_in_a_super_function : List LedgerEntry
generated_class_in_a_super_function = record { name = codes "_args"; kind = GeneratedKind.Args } ∷ record { name = codes "_super"; kind = GeneratedKind.SuperFn (record { 0 = 1 }) } ∷ []

abbrev pub options_class_in_a_super_function : Options
options_class_in_a_super_function = options_of false (Some (record { loose = false })) false
