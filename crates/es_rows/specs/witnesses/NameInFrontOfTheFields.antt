-- Printed by tools/rows/witnesses.js.
use Rattle.std.specs.Prelude.{ℕ, List, [], ◌∷◌, false, codes, Some, None}
use Rattle.es_base.specs.Tree.{Tree, end, more, child, absent, list, string, no_string, boolean, literal, trees}
use Rattle.es_base.specs.declared.kind.Kind.{Kind}
use Rattle.es_base.specs.declared.ledger.LedgerEntry.{LedgerEntry}
use Rattle.es_base.specs.declared.literal.LiteralValue.TheVariants as literal_value
use Rattle.es_steps.specs.Generated.{node}
use Rattle.es_steps.specs.Options.{options_of}
use Rattle.es_steps.specs.declared.options.Options.{Options}

-- `class A { x = h(); constructor() { g; k(1); } } new A(); let g = f();`
abbrev pub source_name_in_front_of_the_fields : Tree
source_name_in_front_of_the_fields = node Kind.Program 0 (more (string (codes "script")) (more (list (trees (node Kind.ClassDeclaration 1 (more (child (node Kind.BindingIdentifier 2 (more (string (codes "A")) end))) (more absent (more (child (node Kind.ClassBody 3 (more (list (trees (node Kind.PropertyDefinition 4 (more (child (node Kind.IdentifierName 5 (more (string (codes "x")) end))) (more (child (node Kind.CallExpression 6 (more (child (node Kind.IdentifierReference 7 (more (string (codes "h")) end))) (more (list end) (more (boolean false) end))))) (more (boolean false) (more (boolean false) end)))) ∷ node Kind.MethodDefinition 8 (more (child (node Kind.IdentifierName 9 (more (string (codes "constructor")) end))) (more (child (node Kind.FunctionExpression 10 (more absent (more (list end) (more (child (node Kind.BlockStatement 11 (more (list (trees (node Kind.ExpressionStatement 12 (more (child (node Kind.IdentifierReference 13 (more (string (codes "g")) end))) (more no_string end)) ∷ node Kind.ExpressionStatement 14 (more (child (node Kind.CallExpression 15 (more (child (node Kind.IdentifierReference 16 (more (string (codes "k")) end))) (more (list (trees (node Kind.Literal 17 (more (literal (literal_value.Number (codes "1"))) end) ∷ []))) (more (boolean false) end))))) (more no_string end)) ∷ []))) end))) (more (boolean false) (more (boolean false) end))))))) (more (string (codes "constructor")) (more (boolean false) (more (boolean false) end))))) ∷ []))) end))) end))) ∷ node Kind.ExpressionStatement 18 (more (child (node Kind.NewExpression 19 (more (child (node Kind.IdentifierReference 20 (more (string (codes "A")) end))) (more (list end) end)))) (more no_string end)) ∷ node Kind.VariableDeclaration 21 (more (string (codes "let")) (more (list (trees (node Kind.VariableDeclarator 22 (more (child (node Kind.BindingIdentifier 23 (more (string (codes "g")) end))) (more (child (node Kind.CallExpression 24 (more (child (node Kind.IdentifierReference 25 (more (string (codes "f")) end))) (more (list end) (more (boolean false) end))))) end)) ∷ []))) end)) ∷ []))) end))

-- a constructor reads a name in its dead zone in front of the fields of its class: `class A { constructor() { g; B.defineProperty(this, "x", h()); k(1); } } new A(); let g = f();`
abbrev pub output_name_in_front_of_the_fields : Tree
output_name_in_front_of_the_fields = node Kind.Program 0 (more (string (codes "script")) (more (list (trees (node Kind.ClassDeclaration 1 (more (child (node Kind.BindingIdentifier 2 (more (string (codes "A")) end))) (more absent (more (child (node Kind.ClassBody 3 (more (list (trees (node Kind.MethodDefinition 8 (more (child (node Kind.IdentifierName 9 (more (string (codes "constructor")) end))) (more (child (node Kind.FunctionExpression 10 (more absent (more (list end) (more (child (node Kind.BlockStatement 11 (more (list (trees (node Kind.ExpressionStatement 12 (more (child (node Kind.IdentifierReference 13 (more (string (codes "g")) end))) (more no_string end)) ∷ node Kind.ExpressionStatement 26 (more (child (node Kind.CallExpression 27 (more (child (node Kind.MemberExpression 28 (more (child (node Kind.IdentifierReference 29 (more (string (codes "babelHelpers")) end))) (more (child (node Kind.IdentifierName 30 (more (string (codes "defineProperty")) end))) (more (boolean false) (more (boolean false) end)))))) (more (list (trees (node Kind.ThisExpression 31 end ∷ node Kind.Literal 32 (more (literal (literal_value.String (codes "x") None)) end) ∷ node Kind.CallExpression 6 (more (child (node Kind.IdentifierReference 7 (more (string (codes "h")) end))) (more (list end) (more (boolean false) end))) ∷ []))) (more (boolean false) end))))) (more no_string end)) ∷ node Kind.ExpressionStatement 14 (more (child (node Kind.CallExpression 15 (more (child (node Kind.IdentifierReference 16 (more (string (codes "k")) end))) (more (list (trees (node Kind.Literal 17 (more (literal (literal_value.Number (codes "1"))) end) ∷ []))) (more (boolean false) end))))) (more no_string end)) ∷ []))) end))) (more (boolean false) (more (boolean false) end))))))) (more (string (codes "constructor")) (more (boolean false) (more (boolean false) end))))) ∷ []))) end))) end))) ∷ node Kind.ExpressionStatement 18 (more (child (node Kind.NewExpression 19 (more (child (node Kind.IdentifierReference 20 (more (string (codes "A")) end))) (more (list end) end)))) (more no_string end)) ∷ node Kind.VariableDeclaration 21 (more (string (codes "let")) (more (list (trees (node Kind.VariableDeclarator 22 (more (child (node Kind.BindingIdentifier 23 (more (string (codes "g")) end))) (more (child (node Kind.CallExpression 24 (more (child (node Kind.IdentifierReference 25 (more (string (codes "f")) end))) (more (list end) (more (boolean false) end))))) end)) ∷ []))) end)) ∷ []))) end))

abbrev pub generated_name_in_front_of_the_fields : List LedgerEntry
generated_name_in_front_of_the_fields = []

abbrev pub options_name_in_front_of_the_fields : Options
options_name_in_front_of_the_fields = options_of false (Some (record { loose = false })) false
