-- Printed by tools/rows/witnesses.js.
use Rattle.std.specs.Prelude.{ℕ, List, [], ◌∷◌, false, codes, Some, None}
use Rattle.es_base.specs.Tree.{Tree, end, more, child, absent, list, string, no_string, boolean, literal, trees}
use Rattle.es_base.specs.declared.kind.Kind.{Kind}
use Rattle.es_base.specs.declared.ledger.LedgerEntry.{LedgerEntry}
use Rattle.es_base.specs.declared.literal.LiteralValue.TheVariants as literal_value
use Rattle.es_steps.specs.Generated.{node}
use Rattle.es_steps.specs.Options.{options_of}
use Rattle.es_steps.specs.declared.options.Options.{Options}

-- `f("\101"); class A { x = 1; }`
abbrev pub source_copied_octal_escape : Tree
source_copied_octal_escape = node Kind.Program 0 (more (string (codes "script")) (more (list (trees (node Kind.ExpressionStatement 1 (more (child (node Kind.CallExpression 2 (more (child (node Kind.IdentifierReference 3 (more (string (codes "f")) end))) (more (list (trees (node Kind.Literal 4 (more (literal (literal_value.String (codes "A") (Some (codes "\"\\101\"")))) end) ∷ []))) (more (boolean false) end))))) (more no_string end)) ∷ node Kind.ClassDeclaration 5 (more (child (node Kind.BindingIdentifier 6 (more (string (codes "A")) end))) (more absent (more (child (node Kind.ClassBody 7 (more (list (trees (node Kind.PropertyDefinition 8 (more (child (node Kind.IdentifierName 9 (more (string (codes "x")) end))) (more (child (node Kind.Literal 10 (more (literal (literal_value.Number (codes "1"))) end))) (more (boolean false) (more (boolean false) end)))) ∷ []))) end))) end))) ∷ []))) end))

-- a string with an octal escape that is copied into a constructor, where `f("\101"); class A { constructor() { B.defineProperty(this, "x", 1); } }` is right
abbrev pub output_copied_octal_escape : Tree
output_copied_octal_escape = node Kind.Program 0 (more (string (codes "script")) (more (list (trees (node Kind.ExpressionStatement 1 (more (child (node Kind.CallExpression 2 (more (child (node Kind.IdentifierReference 3 (more (string (codes "f")) end))) (more (list (trees (node Kind.Literal 4 (more (literal (literal_value.String (codes "A") (Some (codes "\"\\101\"")))) end) ∷ []))) (more (boolean false) end))))) (more no_string end)) ∷ node Kind.ClassDeclaration 5 (more (child (node Kind.BindingIdentifier 6 (more (string (codes "A")) end))) (more absent (more (child (node Kind.ClassBody 7 (more (list (trees (node Kind.MethodDefinition 11 (more (child (node Kind.IdentifierName 12 (more (string (codes "constructor")) end))) (more (child (node Kind.FunctionExpression 13 (more absent (more (list end) (more (child (node Kind.BlockStatement 14 (more (list (trees (node Kind.ExpressionStatement 15 (more (child (node Kind.CallExpression 16 (more (child (node Kind.MemberExpression 17 (more (child (node Kind.IdentifierReference 18 (more (string (codes "babelHelpers")) end))) (more (child (node Kind.IdentifierName 19 (more (string (codes "defineProperty")) end))) (more (boolean false) (more (boolean false) end)))))) (more (list (trees (node Kind.ThisExpression 20 end ∷ node Kind.Literal 21 (more (literal (literal_value.String (codes "x") None)) end) ∷ node Kind.Literal 10 (more (literal (literal_value.Number (codes "1"))) end) ∷ []))) (more (boolean false) end))))) (more no_string end)) ∷ node Kind.ExpressionStatement 22 (more (child (node Kind.Literal 23 (more (literal (literal_value.String (codes "A") (Some (codes "\"\\101\"")))) end))) (more no_string end)) ∷ []))) end))) (more (boolean false) (more (boolean false) end))))))) (more (string (codes "constructor")) (more (boolean false) (more (boolean false) end))))) ∷ []))) end))) end))) ∷ []))) end))

abbrev pub generated_copied_octal_escape : List LedgerEntry
generated_copied_octal_escape = []

abbrev pub options_copied_octal_escape : Options
options_copied_octal_escape = options_of false (Some (record { loose = false })) false
