-- Printed by tools/rows/witnesses.js.
use Rattle.std.specs.Prelude.{ℕ, List, [], ◌∷◌, false, codes, Some, None}
use Rattle.es_base.specs.Tree.{Tree, end, more, child, absent, list, string, no_string, boolean, literal, trees}
use Rattle.es_base.specs.declared.kind.Kind.{Kind}
use Rattle.es_base.specs.declared.ledger.LedgerEntry.{LedgerEntry}
use Rattle.es_base.specs.declared.literal.LiteralValue.TheVariants as literal_value
use Rattle.es_steps.specs.Generated.{node}
use Rattle.es_steps.specs.Options.{options_of}
use Rattle.es_steps.specs.declared.options.Options.{Options}

-- `m(); class A { } function m() { k(class { x = 1; }); }`
abbrev pub source_name_of_a_class_that_goes_nowhere : Tree
source_name_of_a_class_that_goes_nowhere = node Kind.Program 0 (more (string (codes "script")) (more (list (trees (node Kind.ExpressionStatement 1 (more (child (node Kind.CallExpression 2 (more (child (node Kind.IdentifierReference 3 (more (string (codes "m")) end))) (more (list end) (more (boolean false) end))))) (more no_string end)) ∷ node Kind.ClassDeclaration 4 (more (child (node Kind.BindingIdentifier 5 (more (string (codes "A")) end))) (more absent (more (child (node Kind.ClassBody 6 (more (list end) end))) end))) ∷ node Kind.FunctionDeclaration 7 (more (child (node Kind.BindingIdentifier 8 (more (string (codes "m")) end))) (more (list end) (more (child (node Kind.BlockStatement 9 (more (list (trees (node Kind.ExpressionStatement 10 (more (child (node Kind.CallExpression 11 (more (child (node Kind.IdentifierReference 12 (more (string (codes "k")) end))) (more (list (trees (node Kind.ClassExpression 13 (more absent (more absent (more (child (node Kind.ClassBody 14 (more (list (trees (node Kind.PropertyDefinition 15 (more (child (node Kind.IdentifierName 16 (more (string (codes "x")) end))) (more (child (node Kind.Literal 17 (more (literal (literal_value.Number (codes "1"))) end))) (more (boolean false) (more (boolean false) end)))) ∷ []))) end))) end))) ∷ []))) (more (boolean false) end))))) (more no_string end)) ∷ []))) end))) (more (boolean false) (more (boolean false) end))))) ∷ []))) end))

-- a new reference to the name of a class stands in a function that runs before the class: `m(); class A { } function m() { 0, A; k(class { constructor() { B.defineProperty(this, "x", 1); } }); }`
abbrev pub output_name_of_a_class_that_goes_nowhere : Tree
output_name_of_a_class_that_goes_nowhere = node Kind.Program 0 (more (string (codes "script")) (more (list (trees (node Kind.ExpressionStatement 1 (more (child (node Kind.CallExpression 2 (more (child (node Kind.IdentifierReference 3 (more (string (codes "m")) end))) (more (list end) (more (boolean false) end))))) (more no_string end)) ∷ node Kind.ClassDeclaration 4 (more (child (node Kind.BindingIdentifier 5 (more (string (codes "A")) end))) (more absent (more (child (node Kind.ClassBody 6 (more (list end) end))) end))) ∷ node Kind.FunctionDeclaration 7 (more (child (node Kind.BindingIdentifier 8 (more (string (codes "m")) end))) (more (list end) (more (child (node Kind.BlockStatement 9 (more (list (trees (node Kind.ExpressionStatement 18 (more (child (node Kind.SequenceExpression 19 (more (list (trees (node Kind.Literal 20 (more (literal (literal_value.Number (codes "0"))) end) ∷ node Kind.IdentifierReference 21 (more (string (codes "A")) end) ∷ []))) end))) (more no_string end)) ∷ node Kind.ExpressionStatement 10 (more (child (node Kind.CallExpression 11 (more (child (node Kind.IdentifierReference 12 (more (string (codes "k")) end))) (more (list (trees (node Kind.ClassExpression 13 (more absent (more absent (more (child (node Kind.ClassBody 14 (more (list (trees (node Kind.MethodDefinition 22 (more (child (node Kind.IdentifierName 23 (more (string (codes "constructor")) end))) (more (child (node Kind.FunctionExpression 24 (more absent (more (list end) (more (child (node Kind.BlockStatement 25 (more (list (trees (node Kind.ExpressionStatement 26 (more (child (node Kind.CallExpression 27 (more (child (node Kind.MemberExpression 28 (more (child (node Kind.IdentifierReference 29 (more (string (codes "babelHelpers")) end))) (more (child (node Kind.IdentifierName 30 (more (string (codes "defineProperty")) end))) (more (boolean false) (more (boolean false) end)))))) (more (list (trees (node Kind.ThisExpression 31 end ∷ node Kind.Literal 32 (more (literal (literal_value.String (codes "x") None)) end) ∷ node Kind.Literal 17 (more (literal (literal_value.Number (codes "1"))) end) ∷ []))) (more (boolean false) end))))) (more no_string end)) ∷ []))) end))) (more (boolean false) (more (boolean false) end))))))) (more (string (codes "constructor")) (more (boolean false) (more (boolean false) end))))) ∷ []))) end))) end))) ∷ []))) (more (boolean false) end))))) (more no_string end)) ∷ []))) end))) (more (boolean false) (more (boolean false) end))))) ∷ []))) end))

abbrev pub generated_name_of_a_class_that_goes_nowhere : List LedgerEntry
generated_name_of_a_class_that_goes_nowhere = []

abbrev pub options_name_of_a_class_that_goes_nowhere : Options
options_name_of_a_class_that_goes_nowhere = options_of false (Some (record { loose = false })) false
