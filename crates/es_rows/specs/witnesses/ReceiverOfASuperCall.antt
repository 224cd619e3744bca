-- Printed by tools/rows/witnesses.js.
use Rattle.std.specs.Prelude.{ℕ, List, [], ◌∷◌, true, false, codes, Some, None}
use Rattle.es_base.specs.Tree.{Tree, end, more, child, absent, list, string, no_string, boolean, literal, trees}
use Rattle.es_base.specs.declared.kind.Kind.{Kind}
use Rattle.es_base.specs.declared.ledger.LedgerEntry.{LedgerEntry}
use Rattle.es_base.specs.declared.literal.LiteralValue.TheVariants as literal_value
use Rattle.es_steps.specs.Generated.{node}
use Rattle.es_steps.specs.Options.{options_of}
use Rattle.es_steps.specs.declared.options.Options.{Options}

-- `class C { static x = super.k(5); }`
abbrev pub source_receiver_of_a_super_call : Tree
source_receiver_of_a_super_call = node Kind.Program 0 (more (string (codes "script")) (more (list (trees (node Kind.ClassDeclaration 1 (more (child (node Kind.BindingIdentifier 2 (more (string (codes "C")) end))) (more absent (more (child (node Kind.ClassBody 3 (more (list (trees (node Kind.PropertyDefinition 4 (more (child (node Kind.IdentifierName 5 (more (string (codes "x")) end))) (more (child (node Kind.CallExpression 6 (more (child (node Kind.MemberExpression 7 (more (child (node Kind.Super 8 end)) (more (child (node Kind.IdentifierName 9 (more (string (codes "k")) end))) (more (boolean false) (more (boolean false) end)))))) (more (list (trees (node Kind.Literal 10 (more (literal (literal_value.Number (codes "5"))) end) ∷ []))) (more (boolean false) end))))) (more (boolean false) (more (boolean true) end)))) ∷ []))) end))) end))) ∷ []))) end))

-- a member of `super` called without its receiver, where `class C {} B.defineProperty(C, "x", B.superPropGet(C, "k", C, 2)([5]));` is right
abbrev pub output_receiver_of_a_super_call : Tree
output_receiver_of_a_super_call = node Kind.Program 0 (more (string (codes "script")) (more (list (trees (node Kind.ClassDeclaration 1 (more (child (node Kind.BindingIdentifier 2 (more (string (codes "C")) end))) (more absent (more (child (node Kind.ClassBody 3 (more (list end) end))) end))) ∷ node Kind.ExpressionStatement 11 (more (child (node Kind.CallExpression 12 (more (child (node Kind.MemberExpression 13 (more (child (node Kind.IdentifierReference 14 (more (string (codes "babelHelpers")) end))) (more (child (node Kind.IdentifierName 15 (more (string (codes "defineProperty")) end))) (more (boolean false) (more (boolean false) end)))))) (more (list (trees (node Kind.IdentifierReference 16 (more (string (codes "C")) end) ∷ node Kind.Literal 17 (more (literal (literal_value.String (codes "x") None)) end) ∷ node Kind.CallExpression 6 (more (child (node Kind.CallExpression 7 (more (child (node Kind.MemberExpression 18 (more (child (node Kind.IdentifierReference 19 (more (string (codes "babelHelpers")) end))) (more (child (node Kind.IdentifierName 20 (more (string (codes "superPropGet")) end))) (more (boolean false) (more (boolean false) end)))))) (more (list (trees (node Kind.IdentifierReference 21 (more (string (codes "C")) end) ∷ node Kind.Literal 22 (more (literal (literal_value.String (codes "k") None)) end) ∷ node Kind.IdentifierReference 23 (more (string (codes "C")) end) ∷ []))) (more (boolean false) end))))) (more (list (trees (node Kind.Literal 10 (more (literal (literal_value.Number (codes "5"))) end) ∷ []))) (more (boolean false) end))) ∷ []))) (more (boolean false) end))))) (more no_string end)) ∷ []))) end))

abbrev pub generated_receiver_of_a_super_call : List LedgerEntry
generated_receiver_of_a_super_call = []

abbrev pub options_receiver_of_a_super_call : Options
options_receiver_of_a_super_call = options_of false (Some (record { loose = false })) false
