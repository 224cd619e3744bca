-- Printed by tools/rows/witnesses.js.
use Rattle.std.specs.Prelude.{ℕ, List, [], ◌∷◌, false, codes, Some, None}
use Rattle.es_base.specs.Tree.{Tree, end, more, child, absent, list, string, no_string, boolean, literal, trees}
use Rattle.es_base.specs.declared.kind.Kind.{Kind}
use Rattle.es_base.specs.declared.ledger.LedgerEntry.{LedgerEntry}
use Rattle.es_base.specs.declared.literal.LiteralValue.TheVariants as literal_value
use Rattle.es_steps.specs.Generated.{node}
use Rattle.es_steps.specs.Options.{options_of}
use Rattle.es_steps.specs.declared.options.Options.{Options}

-- `class C { x = 1; }`
abbrev pub source_class_named_in_front_of_it : Tree
source_class_named_in_front_of_it = node Kind.Program 0 (more (string (codes "script")) (more (list (trees (node Kind.ClassDeclaration 1 (more (child (node Kind.BindingIdentifier 2 (more (string (codes "C")) end))) (more absent (more (child (node Kind.ClassBody 3 (more (list (trees (node Kind.PropertyDefinition 4 (more (child (node Kind.IdentifierName 5 (more (string (codes "x")) end))) (more (child (node Kind.Literal 6 (more (literal (literal_value.Number (codes "1"))) end))) (more (boolean false) (more (boolean false) end)))) ∷ []))) end))) end))) ∷ []))) end))

-- a new name of a class in front of it: `C; class C { constructor() { B.defineProperty(this, "x", 1); } }`
abbrev pub output_class_named_in_front_of_it : Tree
output_class_named_in_front_of_it = node Kind.Program 0 (more (string (codes "script")) (more (list (trees (node Kind.ExpressionStatement 7 (more (child (node Kind.IdentifierReference 8 (more (string (codes "C")) end))) (more no_string end)) ∷ node Kind.ClassDeclaration 1 (more (child (node Kind.BindingIdentifier 2 (more (string (codes "C")) end))) (more absent (more (child (node Kind.ClassBody 3 (more (list (trees (node Kind.MethodDefinition 9 (more (child (node Kind.IdentifierName 10 (more (string (codes "constructor")) end))) (more (child (node Kind.FunctionExpression 11 (more absent (more (list end) (more (child (node Kind.BlockStatement 12 (more (list (trees (node Kind.ExpressionStatement 13 (more (child (node Kind.CallExpression 14 (more (child (node Kind.MemberExpression 15 (more (child (node Kind.IdentifierReference 16 (more (string (codes "babelHelpers")) end))) (more (child (node Kind.IdentifierName 17 (more (string (codes "defineProperty")) end))) (more (boolean false) (more (boolean false) end)))))) (more (list (trees (node Kind.ThisExpression 18 end ∷ node Kind.Literal 19 (more (literal (literal_value.String (codes "x") None)) end) ∷ node Kind.Literal 6 (more (literal (literal_value.Number (codes "1"))) end) ∷ []))) (more (boolean false) end))))) (more no_string end)) ∷ []))) end))) (more (boolean false) (more (boolean false) end))))))) (more (string (codes "constructor")) (more (boolean false) (more (boolean false) end))))) ∷ []))) end))) end))) ∷ []))) end))

abbrev pub generated_class_named_in_front_of_it : List LedgerEntry
generated_class_named_in_front_of_it = []

abbrev pub options_class_named_in_front_of_it : Options
options_class_named_in_front_of_it = options_of false (Some (record { loose = false })) false
