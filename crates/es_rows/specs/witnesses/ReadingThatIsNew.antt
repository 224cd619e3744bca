-- Printed by tools/rows/witnesses.js.
use Rattle.std.specs.Prelude.{ℕ, List, [], ◌∷◌, false, codes, Some, None}
use Rattle.es_base.specs.Tree.{Tree, end, more, child, absent, list, string, no_string, boolean, literal, trees}
use Rattle.es_base.specs.declared.kind.Kind.{Kind}
use Rattle.es_base.specs.declared.ledger.LedgerEntry.{LedgerEntry}
use Rattle.es_base.specs.declared.literal.LiteralValue.TheVariants as literal_value
use Rattle.es_steps.specs.Generated.{node}
use Rattle.es_steps.specs.Options.{options_of}
use Rattle.es_steps.specs.declared.options.Options.{Options}

-- `function m(c) { if (c) k(g, class { x = 1; }); } m(0); let g = f();`
abbrev pub source_reading_that_is_new : Tree
source_reading_that_is_new = node Kind.Program 0 (more (string (codes "script")) (more (list (trees (node Kind.FunctionDeclaration 1 (more (child (node Kind.BindingIdentifier 2 (more (string (codes "m")) end))) (more (list (trees (node Kind.BindingIdentifier 3 (more (string (codes "c")) end) ∷ []))) (more (child (node Kind.BlockStatement 4 (more (list (trees (node Kind.IfStatement 5 (more (child (node Kind.IdentifierReference 6 (more (string (codes "c")) end))) (more (child (node Kind.ExpressionStatement 7 (more (child (node Kind.CallExpression 8 (more (child (node Kind.IdentifierReference 9 (more (string (codes "k")) end))) (more (list (trees (node Kind.IdentifierReference 10 (more (string (codes "g")) end) ∷ node Kind.ClassExpression 11 (more absent (more absent (more (child (node Kind.ClassBody 12 (more (list (trees (node Kind.PropertyDefinition 13 (more (child (node Kind.IdentifierName 14 (more (string (codes "x")) end))) (more (child (node Kind.Literal 15 (more (literal (literal_value.Number (codes "1"))) end))) (more (boolean false) (more (boolean false) end)))) ∷ []))) end))) end))) ∷ []))) (more (boolean false) end))))) (more no_string end)))) (more absent end))) ∷ []))) end))) (more (boolean false) (more (boolean false) end))))) ∷ node Kind.ExpressionStatement 16 (more (child (node Kind.CallExpression 17 (more (child (node Kind.IdentifierReference 18 (more (string (codes "m")) end))) (more (list (trees (node Kind.Literal 19 (more (literal (literal_value.Number (codes "0"))) end) ∷ []))) (more (boolean false) end))))) (more no_string end)) ∷ node Kind.VariableDeclaration 20 (more (string (codes "let")) (more (list (trees (node Kind.VariableDeclarator 21 (more (child (node Kind.BindingIdentifier 22 (more (string (codes "g")) end))) (more (child (node Kind.CallExpression 23 (more (child (node Kind.IdentifierReference 24 (more (string (codes "f")) end))) (more (list end) (more (boolean false) end))))) end)) ∷ []))) end)) ∷ []))) end))

-- a name is read where it may not be there yet: `function m(c) { g; if (c) k(g, class { constructor() { B.defineProperty(this, "x", 1); } }); } m(0); let g = f();`
abbrev pub output_reading_that_is_new : Tree
output_reading_that_is_new = node Kind.Program 0 (more (string (codes "script")) (more (list (trees (node Kind.FunctionDeclaration 1 (more (child (node Kind.BindingIdentifier 2 (more (string (codes "m")) end))) (more (list (trees (node Kind.BindingIdentifier 3 (more (string (codes "c")) end) ∷ []))) (more (child (node Kind.BlockStatement 4 (more (list (trees (node Kind.ExpressionStatement 25 (more (child (node Kind.IdentifierReference 26 (more (string (codes "g")) end))) (more no_string end)) ∷ node Kind.IfStatement 5 (more (child (node Kind.IdentifierReference 6 (more (string (codes "c")) end))) (more (child (node Kind.ExpressionStatement 7 (more (child (node Kind.CallExpression 8 (more (child (node Kind.IdentifierReference 9 (more (string (codes "k")) end))) (more (list (trees (node Kind.IdentifierReference 10 (more (string (codes "g")) end) ∷ node Kind.ClassExpression 11 (more absent (more absent (more (child (node Kind.ClassBody 12 (more (list (trees (node Kind.MethodDefinition 27 (more (child (node Kind.IdentifierName 28 (more (string (codes "constructor")) end))) (more (child (node Kind.FunctionExpression 29 (more absent (more (list end) (more (child (node Kind.BlockStatement 30 (more (list (trees (node Kind.ExpressionStatement 31 (more (child (node Kind.CallExpression 32 (more (child (node Kind.MemberExpression 33 (more (child (node Kind.IdentifierReference 34 (more (string (codes "babelHelpers")) end))) (more (child (node Kind.IdentifierName 35 (more (string (codes "defineProperty")) end))) (more (boolean false) (more (boolean false) end)))))) (more (list (trees (node Kind.ThisExpression 36 end ∷ node Kind.Literal 37 (more (literal (literal_value.String (codes "x") None)) end) ∷ node Kind.Literal 15 (more (literal (literal_value.Number (codes "1"))) end) ∷ []))) (more (boolean false) end))))) (more no_string end)) ∷ []))) end))) (more (boolean false) (more (boolean false) end))))))) (more (string (codes "constructor")) (more (boolean false) (more (boolean false) end))))) ∷ []))) end))) end))) ∷ []))) (more (boolean false) end))))) (more no_string end)))) (more absent end))) ∷ []))) end))) (more (boolean false) (more (boolean false) end))))) ∷ node Kind.ExpressionStatement 16 (more (child (node Kind.CallExpression 17 (more (child (node Kind.IdentifierReference 18 (more (string (codes "m")) end))) (more (list (trees (node Kind.Literal 19 (more (literal (literal_value.Number (codes "0"))) end) ∷ []))) (more (boolean false) end))))) (more no_string end)) ∷ node Kind.VariableDeclaration 20 (more (string (codes "let")) (more (list (trees (node Kind.VariableDeclarator 21 (more (child (node Kind.BindingIdentifier 22 (more (string (codes "g")) end))) (more (child (node Kind.CallExpression 23 (more (child (node Kind.IdentifierReference 24 (more (string (codes "f")) end))) (more (list end) (more (boolean false) end))))) end)) ∷ []))) end)) ∷ []))) end))

abbrev pub generated_reading_that_is_new : List LedgerEntry
generated_reading_that_is_new = []

abbrev pub options_reading_that_is_new : Options
options_reading_that_is_new = options_of false (Some (record { loose = false })) false
