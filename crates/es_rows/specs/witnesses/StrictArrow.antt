-- Printed by tools/rows/witnesses.js.
use Rattle.std.specs.Prelude.{ℕ, List, [], ◌∷◌, false, codes, Some, None}
use Rattle.es_base.specs.Tree.{Tree, end, more, child, absent, list, string, no_string, boolean, literal, trees}
use Rattle.es_base.specs.declared.kind.Kind.{Kind}
use Rattle.es_base.specs.declared.ledger.LedgerEntry.{LedgerEntry}
use Rattle.es_base.specs.declared.literal.LiteralValue.TheVariants as literal_value
use Rattle.es_steps.specs.Generated.{node}
use Rattle.es_steps.specs.Options.{options_of}
use Rattle.es_steps.specs.declared.options.Options.{Options}

-- `g(h(), class { x = 1; });`
abbrev pub source_strict_arrow : Tree
source_strict_arrow = node Kind.Program 0 (more (string (codes "script")) (more (list (trees (node Kind.ExpressionStatement 1 (more (child (node Kind.CallExpression 2 (more (child (node Kind.IdentifierReference 3 (more (string (codes "g")) end))) (more (list (trees (node Kind.CallExpression 4 (more (child (node Kind.IdentifierReference 5 (more (string (codes "h")) end))) (more (list end) (more (boolean false) end))) ∷ node Kind.ClassExpression 6 (more absent (more absent (more (child (node Kind.ClassBody 7 (more (list (trees (node Kind.PropertyDefinition 8 (more (child (node Kind.IdentifierName 9 (more (string (codes "x")) end))) (more (child (node Kind.Literal 10 (more (literal (literal_value.Number (codes "1"))) end))) (more (boolean false) (more (boolean false) end)))) ∷ []))) end))) end))) ∷ []))) (more (boolean false) end))))) (more no_string end)) ∷ []))) end))

-- a new arrow with `"use strict"` around code that is not strict, where `g(h(), class { constructor() { B.defineProperty(this, "x", 1); } });` is right
abbrev pub output_strict_arrow : Tree
output_strict_arrow = node Kind.Program 0 (more (string (codes "script")) (more (list (trees (node Kind.ExpressionStatement 1 (more (child (node Kind.CallExpression 2 (more (child (node Kind.IdentifierReference 3 (more (string (codes "g")) end))) (more (list (trees (node Kind.CallExpression 11 (more (child (node Kind.ArrowFunctionExpression 12 (more (list end) (more (child (node Kind.BlockStatement 13 (more (list (trees (node Kind.ExpressionStatement 14 (more (child (node Kind.Literal 15 (more (literal (literal_value.String (codes "use strict") None)) end))) (more (string (codes "use strict")) end)) ∷ node Kind.ReturnStatement 16 (more (child (node Kind.CallExpression 4 (more (child (node Kind.IdentifierReference 5 (more (string (codes "h")) end))) (more (list end) (more (boolean false) end))))) end) ∷ []))) end))) (more (boolean false) end))))) (more (list end) (more (boolean false) end))) ∷ node Kind.ClassExpression 6 (more absent (more absent (more (child (node Kind.ClassBody 7 (more (list (trees (node Kind.MethodDefinition 17 (more (child (node Kind.IdentifierName 18 (more (string (codes "constructor")) end))) (more (child (node Kind.FunctionExpression 19 (more absent (more (list end) (more (child (node Kind.BlockStatement 20 (more (list (trees (node Kind.ExpressionStatement 21 (more (child (node Kind.CallExpression 22 (more (child (node Kind.MemberExpression 23 (more (child (node Kind.IdentifierReference 24 (more (string (codes "babelHelpers")) end))) (more (child (node Kind.IdentifierName 25 (more (string (codes "defineProperty")) end))) (more (boolean false) (more (boolean false) end)))))) (more (list (trees (node Kind.ThisExpression 26 end ∷ node Kind.Literal 27 (more (literal (literal_value.String (codes "x") None)) end) ∷ node Kind.Literal 10 (more (literal (literal_value.Number (codes "1"))) end) ∷ []))) (more (boolean false) end))))) (more no_string end)) ∷ []))) end))) (more (boolean false) (more (boolean false) end))))))) (more (string (codes "constructor")) (more (boolean false) (more (boolean false) end))))) ∷ []))) end))) end))) ∷ []))) (more (boolean false) end))))) (more no_string end)) ∷ []))) end))

abbrev pub generated_strict_arrow : List LedgerEntry
generated_strict_arrow = []

abbrev pub options_strict_arrow : Options
options_strict_arrow = options_of false (Some (record { loose = false })) false
