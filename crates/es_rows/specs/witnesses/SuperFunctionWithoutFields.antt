-- Printed by tools/rows/witnesses.js.
use Rattle.std.specs.Prelude.{ℕ, List, [], ◌∷◌, true, false, codes, None}
use Rattle.es_base.specs.Tree.{Tree, end, more, child, absent, list, string, no_string, boolean, literal, trees}
use Rattle.es_base.specs.declared.kind.Kind.{Kind}
use Rattle.es_base.specs.declared.ledger.GeneratedKind.{GeneratedKind}
use Rattle.es_base.specs.declared.ledger.LedgerEntry.{LedgerEntry}
use Rattle.es_base.specs.declared.literal.LiteralValue.TheVariants as literal_value
use Rattle.es_steps.specs.Generated.{node}
use Rattle.es_steps.specs.Options.{options_of}
use Rattle.es_steps.specs.declared.options.Options.{Options}

-- `class A extends P { static { f(1); } }`
abbrev pub source_super_function_without_fields : Tree
source_super_function_without_fields = node Kind.Program 0 (more (string (codes "script")) (more (list (trees (node Kind.ClassDeclaration 1 (more (child (node Kind.BindingIdentifier 2 (more (string (codes "A")) end))) (more (child (node Kind.IdentifierReference 3 (more (string (codes "P")) end))) (more (child (node Kind.ClassBody 4 (more (list (trees (node Kind.StaticBlock 5 (more (list (trees (node Kind.ExpressionStatement 6 (more (child (node Kind.CallExpression 7 (more (child (node Kind.IdentifierReference 8 (more (string (codes "f")) end))) (more (list (trees (node Kind.Literal 9 (more (literal (literal_value.Number (codes "1"))) end) ∷ []))) (more (boolean false) end))))) (more no_string end)) ∷ []))) end) ∷ []))) end))) end))) ∷ []))) end))

-- what stands for `super(..)`, where no field is lowered, where `class A extends P { static #_ = f(1); }` is right
abbrev pub output_super_function_without_fields : Tree
output_super_function_without_fields = node Kind.Program 0 (more (string (codes "script")) (more (list (trees (node Kind.VariableDeclaration 10 (more (string (codes "var")) (more (list (trees (node Kind.VariableDeclarator 11 (more (child (node Kind.BindingIdentifier 12 (more (string (codes "_s")) end))) (more (child (node Kind.FunctionExpression 13 (more absent (more (list end) (more (child (node Kind.BlockStatement 14 (more (list (trees (node Kind.ExpressionStatement 15 (more (child (node Kind.MemberExpression 16 (more (child (node Kind.ThisExpression 17 end)) (more (child (node Kind.IdentifierName 18 (more (string (codes "x")) end))) (more (boolean false) (more (boolean false) end)))))) (more no_string end)) ∷ []))) end))) (more (boolean false) (more (boolean false) end))))))) end)) ∷ []))) end)) ∷ node Kind.ClassDeclaration 1 (more (child (node Kind.BindingIdentifier 2 (more (string (codes "A")) end))) (more (child (node Kind.IdentifierReference 3 (more (string (codes "P")) end))) (more (child (node Kind.ClassBody 4 (more (list (trees (node Kind.PropertyDefinition 19 (more (child (node Kind.PrivateIdentifier 20 (more (string (codes "_")) end))) (more (child (node Kind.CallExpression 7 (more (child (node Kind.IdentifierReference 8 (more (string (codes "f")) end))) (more (list (trees (node Kind.Literal 9 (more (literal (literal_value.Number (codes "1"))) end) ∷ []))) (more (boolean false) end))))) (more (boolean false) (more (boolean true) end)))) ∷ []))) end))) end))) ∷ []))) end))

abbrev pub generated_super_function_without_fields : List LedgerEntry
generated_super_function_without_fields = record { name = codes "_s"; kind = GeneratedKind.SuperFn (record { 0 = 1 }) } ∷ record { name = codes "_"; kind = GeneratedKind.Private (record { 0 = 1 }) } ∷ []

abbrev pub options_super_function_without_fields : Options
options_super_function_without_fields = options_of true None false
