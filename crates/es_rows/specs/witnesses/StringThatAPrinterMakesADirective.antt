-- Printed by tools/rows/witnesses.js.
use Rattle.std.specs.Prelude.{ℕ, List, [], ◌∷◌, true, false, codes, Some, None}
use Rattle.es_base.specs.Tree.{Tree, end, more, child, absent, list, string, no_string, boolean, literal, trees}
use Rattle.es_base.specs.declared.kind.Kind.{Kind}
use Rattle.es_base.specs.declared.ledger.LedgerEntry.{LedgerEntry}
use Rattle.es_base.specs.declared.literal.LiteralValue.TheVariants as literal_value
use Rattle.es_steps.specs.Generated.{node}
use Rattle.es_steps.specs.Options.{options_of}
use Rattle.es_steps.specs.declared.options.Options.{Options}

-- `function F() { class A { static x = 1; } return this; }`
abbrev pub source_string_that_a_printer_makes_a_directive : Tree
source_string_that_a_printer_makes_a_directive = node Kind.Program 0 (more (string (codes "script")) (more (list (trees (node Kind.FunctionDeclaration 1 (more (child (node Kind.BindingIdentifier 2 (more (string (codes "F")) end))) (more (list end) (more (child (node Kind.BlockStatement 3 (more (list (trees (node Kind.ClassDeclaration 4 (more (child (node Kind.BindingIdentifier 5 (more (string (codes "A")) end))) (more absent (more (child (node Kind.ClassBody 6 (more (list (trees (node Kind.PropertyDefinition 7 (more (child (node Kind.IdentifierName 8 (more (string (codes "x")) end))) (more (child (node Kind.Literal 9 (more (literal (literal_value.Number (codes "1"))) end))) (more (boolean false) (more (boolean true) end)))) ∷ []))) end))) end))) ∷ node Kind.ReturnStatement 10 (more (child (node Kind.ThisExpression 11 end)) end) ∷ []))) end))) (more (boolean false) (more (boolean false) end))))) ∷ []))) end))

-- a new string `"use strict"` that is no directive, at the head of a function, where `function F() { class A {} B.defineProperty(A, "x", 1); return this; }` is right
abbrev pub output_string_that_a_printer_makes_a_directive : Tree
output_string_that_a_printer_makes_a_directive = node Kind.Program 0 (more (string (codes "script")) (more (list (trees (node Kind.FunctionDeclaration 1 (more (child (node Kind.BindingIdentifier 2 (more (string (codes "F")) end))) (more (list end) (more (child (node Kind.BlockStatement 3 (more (list (trees (node Kind.ExpressionStatement 12 (more (child (node Kind.Literal 13 (more (literal (literal_value.String (codes "use strict") None)) end))) (more no_string end)) ∷ node Kind.ClassDeclaration 4 (more (child (node Kind.BindingIdentifier 5 (more (string (codes "A")) end))) (more absent (more (child (node Kind.ClassBody 6 (more (list end) end))) end))) ∷ node Kind.ExpressionStatement 14 (more (child (node Kind.CallExpression 15 (more (child (node Kind.MemberExpression 16 (more (child (node Kind.IdentifierReference 17 (more (string (codes "babelHelpers")) end))) (more (child (node Kind.IdentifierName 18 (more (string (codes "defineProperty")) end))) (more (boolean false) (more (boolean false) end)))))) (more (list (trees (node Kind.IdentifierReference 19 (more (string (codes "A")) end) ∷ node Kind.Literal 20 (more (literal (literal_value.String (codes "x") None)) end) ∷ node Kind.Literal 9 (more (literal (literal_value.Number (codes "1"))) end) ∷ []))) (more (boolean false) end))))) (more no_string end)) ∷ node Kind.ReturnStatement 10 (more (child (node Kind.ThisExpression 11 end)) end) ∷ []))) end))) (more (boolean false) (more (boolean false) end))))) ∷ []))) end))

abbrev pub generated_string_that_a_printer_makes_a_directive : List LedgerEntry
generated_string_that_a_printer_makes_a_directive = []

abbrev pub options_string_that_a_printer_makes_a_directive : Options
options_string_that_a_printer_makes_a_directive = options_of false (Some (record { loose = false })) false
