-- Printed by tools/rows/witnesses.js.
use Rattle.std.specs.Prelude.{ℕ, List, [], ◌∷◌, false, codes, Some, None}
use Rattle.es_base.specs.Tree.{Tree, end, more, child, absent, list, string, no_string, boolean, literal, trees}
use Rattle.es_base.specs.declared.kind.Kind.{Kind}
use Rattle.es_base.specs.declared.ledger.GeneratedKind.{GeneratedKind}
use Rattle.es_base.specs.declared.ledger.LedgerEntry.{LedgerEntry}
use Rattle.es_base.specs.declared.literal.LiteralValue.TheVariants as literal_value
use Rattle.es_steps.specs.Generated.{node}
use Rattle.es_steps.specs.Options.{options_of}
use Rattle.es_steps.specs.declared.options.Options.{Options}

-- `class A extends P { x = k(this); }`
abbrev pub source_this_in_a_new_constructor : Tree
source_this_in_a_new_constructor = node Kind.Program 0 (more (string (codes "script")) (more (list (trees (node Kind.ClassDeclaration 1 (more (child (node Kind.BindingIdentifier 2 (more (string (codes "A")) end))) (more (child (node Kind.IdentifierReference 3 (more (string (codes "P")) end))) (more (child (node Kind.ClassBody 4 (more (list (trees (node Kind.PropertyDefinition 5 (more (child (node Kind.IdentifierName 6 (more (string (codes "x")) end))) (more (child (node Kind.CallExpression 7 (more (child (node Kind.IdentifierReference 8 (more (string (codes "k")) end))) (more (list (trees (node Kind.ThisExpression 9 end ∷ []))) (more (boolean false) end))))) (more (boolean false) (more (boolean false) end)))) ∷ []))) end))) end))) ∷ []))) end))

-- this is read in front of the call of super in a constructor that is new: `class A extends P { constructor(..._args) { var _u; _u = this; super(..._args); B.defineProperty(this, "x", k(_u)); } }`
abbrev pub output_this_in_a_new_constructor : Tree
output_this_in_a_new_constructor = node Kind.Program 0 (more (string (codes "script")) (more (list (trees (node Kind.ClassDeclaration 1 (more (child (node Kind.BindingIdentifier 2 (more (string (codes "A")) end))) (more (child (node Kind.IdentifierReference 3 (more (string (codes "P")) end))) (more (child (node Kind.ClassBody 4 (more (list (trees (node Kind.MethodDefinition 10 (more (child (node Kind.IdentifierName 11 (more (string (codes "constructor")) end))) (more (child (node Kind.FunctionExpression 12 (more absent (more (list (trees (node Kind.RestElement 13 (more (child (node Kind.BindingIdentifier 14 (more (string (codes "_args")) end))) end) ∷ []))) (more (child (node Kind.BlockStatement 15 (more (list (trees (node Kind.VariableDeclaration 16 (more (string (codes "var")) (more (list (trees (node Kind.VariableDeclarator 17 (more (child (node Kind.BindingIdentifier 18 (more (string (codes "_u")) end))) (more absent end)) ∷ []))) end)) ∷ node Kind.ExpressionStatement 19 (more (child (node Kind.AssignmentExpression 20 (more (string (codes "=")) (more (child (node Kind.IdentifierReference 21 (more (string (codes "_u")) end))) (more (child (node Kind.ThisExpression 9 end)) end))))) (more no_string end)) ∷ node Kind.ExpressionStatement 22 (more (child (node Kind.CallExpression 23 (more (child (node Kind.Super 24 end)) (more (list (trees (node Kind.SpreadElement 25 (more (child (node Kind.IdentifierReference 26 (more (string (codes "_args")) end))) end) ∷ []))) (more (boolean false) end))))) (more no_string end)) ∷ node Kind.ExpressionStatement 27 (more (child (node Kind.CallExpression 28 (more (child (node Kind.MemberExpression 29 (more (child (node Kind.IdentifierReference 30 (more (string (codes "babelHelpers")) end))) (more (child (node Kind.IdentifierName 31 (more (string (codes "defineProperty")) end))) (more (boolean false) (more (boolean false) end)))))) (more (list (trees (node Kind.ThisExpression 32 end ∷ node Kind.Literal 33 (more (literal (literal_value.String (codes "x") None)) end) ∷ node Kind.CallExpression 7 (more (child (node Kind.IdentifierReference 8 (more (string (codes "k")) end))) (more (list (trees (node Kind.IdentifierReference 34 (more (string (codes "_u")) end) ∷ []))) (more (boolean false) end))) ∷ []))) (more (boolean false) end))))) (more no_string end)) ∷ []))) end))) (more (boolean false) (more (boolean false) end))))))) (more (string (codes "constructor")) (more (boolean false) (more (boolean false) end))))) ∷ []))) end))) end))) ∷ []))) end))

abbrev pub generated_this_in_a_new_constructor : List LedgerEntry
generated_this_in_a_new_constructor = record { name = codes "_args"; kind = GeneratedKind.Args } ∷ record { name = codes "_u"; kind = GeneratedKind.Temp } ∷ []

abbrev pub options_this_in_a_new_constructor : Options
options_this_in_a_new_constructor = options_of false (Some (record { loose = false })) false
