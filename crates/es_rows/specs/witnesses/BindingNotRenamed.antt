-- Printed by tools/rows/witnesses.js.
use Rattle.std.specs.Prelude.{ℕ, List, [], ◌∷◌, false, codes, Some, None}
use Rattle.es_base.specs.Tree.{Tree, end, more, child, absent, list, string, no_string, boolean, literal, trees}
use Rattle.es_base.specs.declared.kind.Kind.{Kind}
use Rattle.es_base.specs.declared.ledger.LedgerEntry.{LedgerEntry}
use Rattle.es_base.specs.declared.literal.LiteralValue.TheVariants as literal_value
use Rattle.es_steps.specs.Generated.{node}
use Rattle.es_steps.specs.Options.{options_of}
use Rattle.es_steps.specs.declared.options.Options.{Options}

-- `class A { x = y; constructor(y) { this.z = y; } }`
abbrev pub source_binding_not_renamed : Tree
source_binding_not_renamed = node Kind.Program 0 (more (string (codes "script")) (more (list (trees (node Kind.ClassDeclaration 1 (more (child (node Kind.BindingIdentifier 2 (more (string (codes "A")) end))) (more absent (more (child (node Kind.ClassBody 3 (more (list (trees (node Kind.PropertyDefinition 4 (more (child (node Kind.IdentifierName 5 (more (string (codes "x")) end))) (more (child (node Kind.IdentifierReference 6 (more (string (codes "y")) end))) (more (boolean false) (more (boolean false) end)))) ∷ node Kind.MethodDefinition 7 (more (child (node Kind.IdentifierName 8 (more (string (codes "constructor")) end))) (more (child (node Kind.FunctionExpression 9 (more absent (more (list (trees (node Kind.BindingIdentifier 10 (more (string (codes "y")) end) ∷ []))) (more (child (node Kind.BlockStatement 11 (more (list (trees (node Kind.ExpressionStatement 12 (more (child (node Kind.AssignmentExpression 13 (more (string (codes "=")) (more (child (node Kind.MemberExpression 14 (more (child (node Kind.ThisExpression 15 end)) (more (child (node Kind.IdentifierName 16 (more (string (codes "z")) end))) (more (boolean false) (more (boolean false) end)))))) (more (child (node Kind.IdentifierReference 17 (more (string (codes "y")) end))) end))))) (more no_string end)) ∷ []))) end))) (more (boolean false) (more (boolean false) end))))))) (more (string (codes "constructor")) (more (boolean false) (more (boolean false) end))))) ∷ []))) end))) end))) ∷ []))) end))

-- a name of a field under a parameter of the constructor, where `class A { constructor(_y) { B.defineProperty(this, "x", y); this.z = _y; } }` is right
abbrev pub output_binding_not_renamed : Tree
output_binding_not_renamed = node Kind.Program 0 (more (string (codes "script")) (more (list (trees (node Kind.ClassDeclaration 1 (more (child (node Kind.BindingIdentifier 2 (more (string (codes "A")) end))) (more absent (more (child (node Kind.ClassBody 3 (more (list (trees (node Kind.MethodDefinition 7 (more (child (node Kind.IdentifierName 8 (more (string (codes "constructor")) end))) (more (child (node Kind.FunctionExpression 9 (more absent (more (list (trees (node Kind.BindingIdentifier 10 (more (string (codes "y")) end) ∷ []))) (more (child (node Kind.BlockStatement 11 (more (list (trees (node Kind.ExpressionStatement 18 (more (child (node Kind.CallExpression 19 (more (child (node Kind.MemberExpression 20 (more (child (node Kind.IdentifierReference 21 (more (string (codes "babelHelpers")) end))) (more (child (node Kind.IdentifierName 22 (more (string (codes "defineProperty")) end))) (more (boolean false) (more (boolean false) end)))))) (more (list (trees (node Kind.ThisExpression 23 end ∷ node Kind.Literal 24 (more (literal (literal_value.String (codes "x") None)) end) ∷ node Kind.IdentifierReference 6 (more (string (codes "y")) end) ∷ []))) (more (boolean false) end))))) (more no_string end)) ∷ node Kind.ExpressionStatement 12 (more (child (node Kind.AssignmentExpression 13 (more (string (codes "=")) (more (child (node Kind.MemberExpression 14 (more (child (node Kind.ThisExpression 15 end)) (more (child (node Kind.IdentifierName 16 (more (string (codes "z")) end))) (more (boolean false) (more (boolean false) end)))))) (more (child (node Kind.IdentifierReference 17 (more (string (codes "y")) end))) end))))) (more no_string end)) ∷ []))) end))) (more (boolean false) (more (boolean false) end))))))) (more (string (codes "constructor")) (more (boolean false) (more (boolean false) end))))) ∷ []))) end))) end))) ∷ []))) end))

abbrev pub generated_binding_not_renamed : List LedgerEntry
generated_binding_not_renamed = []

abbrev pub options_binding_not_renamed : Options
options_binding_not_renamed = options_of false (Some (record { loose = false })) false
