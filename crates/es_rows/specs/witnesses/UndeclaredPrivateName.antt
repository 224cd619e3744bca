-- Printed by tools/rows/witnesses.js.
use Rattle.std.specs.Prelude.{ℕ, List, [], ◌∷◌, false, codes, Some, None}
use Rattle.es_base.specs.Tree.{Tree, end, more, child, absent, list, string, boolean, literal, trees}
use Rattle.es_base.specs.declared.kind.Kind.{Kind}
use Rattle.es_base.specs.declared.ledger.GeneratedKind.{GeneratedKind}
use Rattle.es_base.specs.declared.ledger.LedgerEntry.{LedgerEntry}
use Rattle.es_base.specs.declared.literal.LiteralValue.TheVariants as literal_value
use Rattle.es_steps.specs.Generated.{node}
use Rattle.es_steps.specs.Options.{options_of}
use Rattle.es_steps.specs.declared.options.Options.{Options}

-- `class A extends P { x = {}; constructor() { return {}; } }`
abbrev pub source_undeclared_private_name : Tree
source_undeclared_private_name = node Kind.Program 0 (more (string (codes "script")) (more (list (trees (node Kind.ClassDeclaration 1 (more (child (node Kind.BindingIdentifier 2 (more (string (codes "A")) end))) (more (child (node Kind.IdentifierReference 3 (more (string (codes "P")) end))) (more (child (node Kind.ClassBody 4 (more (list (trees (node Kind.PropertyDefinition 5 (more (child (node Kind.IdentifierName 6 (more (string (codes "x")) end))) (more (child (node Kind.ObjectExpression 7 (more (list end) end))) (more (boolean false) (more (boolean false) end)))) ∷ node Kind.MethodDefinition 8 (more (child (node Kind.IdentifierName 9 (more (string (codes "constructor")) end))) (more (child (node Kind.FunctionExpression 10 (more absent (more (list end) (more (child (node Kind.BlockStatement 11 (more (list (trees (node Kind.ReturnStatement 12 (more (child (node Kind.ObjectExpression 13 (more (list end) end))) end) ∷ []))) end))) (more (boolean false) (more (boolean false) end))))))) (more (string (codes "constructor")) (more (boolean false) (more (boolean false) end))))) ∷ []))) end))) end))) ∷ []))) end))

-- a private name that no class declares, in what stands for `super(..)` and is not called, where `class A extends P { constructor() { var _super = (..._args) => (super(..._args), B.defineProperty(this, "x", {}), this); return {}; } }` is right
abbrev pub output_undeclared_private_name : Tree
output_undeclared_private_name = node Kind.Program 0 (more (string (codes "script")) (more (list (trees (node Kind.ClassDeclaration 1 (more (child (node Kind.BindingIdentifier 2 (more (string (codes "A")) end))) (more (child (node Kind.IdentifierReference 3 (more (string (codes "P")) end))) (more (child (node Kind.ClassBody 4 (more (list (trees (node Kind.MethodDefinition 8 (more (child (node Kind.IdentifierName 9 (more (string (codes "constructor")) end))) (more (child (node Kind.FunctionExpression 10 (more absent (more (list end) (more (child (node Kind.BlockStatement 11 (more (list (trees (node Kind.VariableDeclaration 14 (more (string (codes "var")) (more (list (trees (node Kind.VariableDeclarator 15 (more (child (node Kind.BindingIdentifier 16 (more (string (codes "_super")) end))) (more (child (node Kind.ArrowFunctionExpression 17 (more (list (trees (node Kind.RestElement 18 (more (child (node Kind.BindingIdentifier 19 (more (string (codes "_args")) end))) end) ∷ []))) (more (child (node Kind.SequenceExpression 20 (more (list (trees (node Kind.CallExpression 21 (more (child (node Kind.Super 22 end)) (more (list (trees (node Kind.SpreadElement 23 (more (child (node Kind.IdentifierReference 24 (more (string (codes "_args")) end))) end) ∷ []))) (more (boolean false) end))) ∷ node Kind.CallExpression 25 (more (child (node Kind.MemberExpression 26 (more (child (node Kind.IdentifierReference 27 (more (string (codes "babelHelpers")) end))) (more (child (node Kind.IdentifierName 28 (more (string (codes "defineProperty")) end))) (more (boolean false) (more (boolean false) end)))))) (more (list (trees (node Kind.ThisExpression 29 end ∷ node Kind.Literal 30 (more (literal (literal_value.String (codes "x") None)) end) ∷ node Kind.ObjectExpression 7 (more (list (trees (node Kind.Property 31 (more (child (node Kind.IdentifierName 32 (more (string (codes "a")) end))) (more (child (node Kind.PrivateField 33 (more (child (node Kind.ThisExpression 34 end)) (more (child (node Kind.PrivateIdentifier 35 (more (string (codes "zz")) end))) (more (boolean false) (more (boolean false) end)))))) (more (string (codes "init")) (more (boolean false) (more (boolean false) (more (boolean false) end)))))) ∷ []))) end) ∷ []))) (more (boolean false) end))) ∷ node Kind.ThisExpression 36 end ∷ []))) end))) (more (boolean false) end))))) end)) ∷ []))) end)) ∷ node Kind.ReturnStatement 12 (more (child (node Kind.ObjectExpression 13 (more (list end) end))) end) ∷ []))) end))) (more (boolean false) (more (boolean false) end))))))) (more (string (codes "constructor")) (more (boolean false) (more (boolean false) end))))) ∷ []))) end))) end))) ∷ []))) end))

abbrev pub generated_undeclared_private_name : List LedgerEntry
generated_undeclared_private_name = record { name = codes "_args"; kind = GeneratedKind.Args } ∷ record { name = codes "_super"; kind = GeneratedKind.SuperFn (record { 0 = 1 }) } ∷ []

abbrev pub options_undeclared_private_name : Options
options_undeclared_private_name = options_of false (Some (record { loose = false })) false
