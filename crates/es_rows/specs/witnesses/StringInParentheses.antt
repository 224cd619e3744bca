-- Printed by tools/rows/witnesses.js.
use Rattle.std.specs.Prelude.{ℕ, List, [], ◌∷◌, false, codes, Some, None}
use Rattle.es_base.specs.Tree.{Tree, end, more, child, absent, list, string, no_string, boolean, literal, trees}
use Rattle.es_base.specs.declared.kind.Kind.{Kind}
use Rattle.es_base.specs.declared.ledger.LedgerEntry.{LedgerEntry}
use Rattle.es_base.specs.declared.literal.LiteralValue.TheVariants as literal_value
use Rattle.es_steps.specs.Generated.{node}
use Rattle.es_steps.specs.Options.{options_of}
use Rattle.es_steps.specs.declared.options.Options.{Options}

-- `("a"); class A { x = 1; }`
abbrev pub source_string_in_parentheses : Tree
source_string_in_parentheses = node Kind.Program 0 (more (string (codes "script")) (more (list (trees (node Kind.ExpressionStatement 1 (more (child (node Kind.Literal 2 (more (literal (literal_value.String (codes "a") (Some (codes "\"a\"")))) end))) (more no_string end)) ∷ node Kind.ClassDeclaration 3 (more (child (node Kind.BindingIdentifier 4 (more (string (codes "A")) end))) (more absent (more (child (node Kind.ClassBody 5 (more (list (trees (node Kind.PropertyDefinition 6 (more (child (node Kind.IdentifierName 7 (more (string (codes "x")) end))) (more (child (node Kind.Literal 8 (more (literal (literal_value.Number (codes "1"))) end))) (more (boolean false) (more (boolean false) end)))) ∷ []))) end))) end))) ∷ []))) end))

-- a string in front that is no directive, as `("a"); class A { constructor() { B.defineProperty(this, "x", 1); } }` means
abbrev pub output_string_in_parentheses : Tree
output_string_in_parentheses = node Kind.Program 0 (more (string (codes "script")) (more (list (trees (node Kind.ExpressionStatement 1 (more (child (node Kind.Literal 2 (more (literal (literal_value.String (codes "a") (Some (codes "\"a\"")))) end))) (more no_string end)) ∷ node Kind.ClassDeclaration 3 (more (child (node Kind.BindingIdentifier 4 (more (string (codes "A")) end))) (more absent (more (child (node Kind.ClassBody 5 (more (list (trees (node Kind.MethodDefinition 9 (more (child (node Kind.IdentifierName 10 (more (string (codes "constructor")) end))) (more (child (node Kind.FunctionExpression 11 (more absent (more (list end) (more (child (node Kind.BlockStatement 12 (more (list (trees (node Kind.ExpressionStatement 13 (more (child (node Kind.CallExpression 14 (more (child (node Kind.MemberExpression 15 (more (child (node Kind.IdentifierReference 16 (more (string (codes "babelHelpers")) end))) (more (child (node Kind.IdentifierName 17 (more (string (codes "defineProperty")) end))) (more (boolean false) (more (boolean false) end)))))) (more (list (trees (node Kind.ThisExpression 18 end ∷ node Kind.Literal 19 (more (literal (literal_value.String (codes "x") None)) end) ∷ node Kind.Literal 8 (more (literal (literal_value.Number (codes "1"))) end) ∷ []))) (more (boolean false) end))))) (more no_string end)) ∷ []))) end))) (more (boolean false) (more (boolean false) end))))))) (more (string (codes "constructor")) (more (boolean false) (more (boolean false) end))))) ∷ []))) end))) end))) ∷ []))) end))

abbrev pub generated_string_in_parentheses : List LedgerEntry
generated_string_in_parentheses = []

abbrev pub options_string_in_parentheses : Options
options_string_in_parentheses = options_of false (Some (record { loose = false })) false
