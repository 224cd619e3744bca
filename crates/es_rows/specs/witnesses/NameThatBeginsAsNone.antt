-- Printed by tools/rows/witnesses.js.
use Rattle.std.specs.Prelude.{ℕ, List, [], ◌∷◌, false, codes, Some, None}
use Rattle.es_base.specs.Tree.{Tree, end, more, child, absent, list, string, no_string, boolean, literal, trees}
use Rattle.es_base.specs.declared.kind.Kind.{Kind}
use Rattle.es_base.specs.declared.ledger.LedgerEntry.{LedgerEntry}
use Rattle.es_base.specs.declared.literal.LiteralValue.TheVariants as literal_value
use Rattle.es_steps.specs.Generated.{node}
use Rattle.es_steps.specs.Options.{options_of}
use Rattle.es_steps.specs.declared.options.Options.{Options}

-- `var á = 1; f(class { x = 1; });`
abbrev pub source_name_that_begins_as_none : Tree
source_name_that_begins_as_none = node Kind.Program 0 (more (string (codes "script")) (more (list (trees (node Kind.VariableDeclaration 1 (more (string (codes "var")) (more (list (trees (node Kind.VariableDeclarator 2 (more (child (node Kind.BindingIdentifier 3 (more (string (codes "á")) end))) (more (child (node Kind.Literal 4 (more (literal (literal_value.Number (codes "1"))) end))) end)) ∷ []))) end)) ∷ node Kind.ExpressionStatement 5 (more (child (node Kind.CallExpression 6 (more (child (node Kind.IdentifierReference 7 (more (string (codes "f")) end))) (more (list (trees (node Kind.ClassExpression 8 (more absent (more absent (more (child (node Kind.ClassBody 9 (more (list (trees (node Kind.PropertyDefinition 10 (more (child (node Kind.IdentifierName 11 (more (string (codes "x")) end))) (more (child (node Kind.Literal 12 (more (literal (literal_value.Number (codes "1"))) end))) (more (boolean false) (more (boolean false) end)))) ∷ []))) end))) end))) ∷ []))) (more (boolean false) end))))) (more no_string end)) ∷ []))) end))

-- a new own name that begins with a combining accent, where `var á = 1; f(class { constructor() { B.defineProperty(this, "x", 1); } });` is right
abbrev pub output_name_that_begins_as_none : Tree
output_name_that_begins_as_none = node Kind.Program 0 (more (string (codes "script")) (more (list (trees (node Kind.VariableDeclaration 1 (more (string (codes "var")) (more (list (trees (node Kind.VariableDeclarator 2 (more (child (node Kind.BindingIdentifier 3 (more (string (codes "á")) end))) (more (child (node Kind.Literal 4 (more (literal (literal_value.Number (codes "1"))) end))) end)) ∷ []))) end)) ∷ node Kind.ExpressionStatement 5 (more (child (node Kind.CallExpression 6 (more (child (node Kind.IdentifierReference 7 (more (string (codes "f")) end))) (more (list (trees (node Kind.ClassExpression 8 (more (child (node Kind.BindingIdentifier 13 (more (string (codes "́a")) end))) (more absent (more (child (node Kind.ClassBody 9 (more (list (trees (node Kind.MethodDefinition 14 (more (child (node Kind.IdentifierName 15 (more (string (codes "constructor")) end))) (more (child (node Kind.FunctionExpression 16 (more absent (more (list end) (more (child (node Kind.BlockStatement 17 (more (list (trees (node Kind.ExpressionStatement 18 (more (child (node Kind.CallExpression 19 (more (child (node Kind.MemberExpression 20 (more (child (node Kind.IdentifierReference 21 (more (string (codes "babelHelpers")) end))) (more (child (node Kind.IdentifierName 22 (more (string (codes "defineProperty")) end))) (more (boolean false) (more (boolean false) end)))))) (more (list (trees (node Kind.ThisExpression 23 end ∷ node Kind.Literal 24 (more (literal (literal_value.String (codes "x") None)) end) ∷ node Kind.Literal 12 (more (literal (literal_value.Number (codes "1"))) end) ∷ []))) (more (boolean false) end))))) (more no_string end)) ∷ []))) end))) (more (boolean false) (more (boolean false) end))))))) (more (string (codes "constructor")) (more (boolean false) (more (boolean false) end))))) ∷ []))) end))) end))) ∷ []))) (more (boolean false) end))))) (more no_string end)) ∷ []))) end))

abbrev pub generated_name_that_begins_as_none : List LedgerEntry
generated_name_that_begins_as_none = []

abbrev pub options_name_that_begins_as_none : Options
options_name_that_begins_as_none = options_of false (Some (record { loose = false })) false
