-- Printed by tools/rows/witnesses.js.
use Rattle.std.specs.Prelude.{ℕ, List, [], ◌∷◌, false, codes, Some, None}
use Rattle.es_base.specs.Tree.{Tree, end, more, child, absent, list, string, no_string, boolean, literal, trees}
use Rattle.es_base.specs.declared.kind.Kind.{Kind}
use Rattle.es_base.specs.declared.ledger.GeneratedKind.{GeneratedKind}
use Rattle.es_base.specs.declared.ledger.LedgerEntry.{LedgerEntry}
use Rattle.es_base.specs.declared.literal.LiteralValue.TheVariants as literal_value
use Rattle.es_steps.specs.Generated.{node}
use Rattle.es_steps.specs.Options.{options_of}
use Rattle.es_steps.specs.declared.options.Options.{Options}

-- `class A extends P { y = 1; constructor() { const m = () => { k(this); }; super(); m(); } }`
abbrev pub source_this_out_of_an_arrow : Tree
source_this_out_of_an_arrow = node Kind.Program 0 (more (string (codes "script")) (more (list (trees (node Kind.ClassDeclaration 1 (more (child (node Kind.BindingIdentifier 2 (more (string (codes "A")) end))) (more (child (node Kind.IdentifierReference 3 (more (string (codes "P")) end))) (more (child (node Kind.ClassBody 4 (more (list (trees (node Kind.PropertyDefinition 5 (more (child (node Kind.IdentifierName 6 (more (string (codes "y")) end))) (more (child (node Kind.Literal 7 (more (literal (literal_value.Number (codes "1"))) end))) (more (boolean false) (more (boolean false) end)))) ∷ node Kind.MethodDefinition 8 (more (child (node Kind.IdentifierName 9 (more (string (codes "constructor")) end))) (more (child (node Kind.FunctionExpression 10 (more absent (more (list end) (more (child (node Kind.BlockStatement 11 (more (list (trees (node Kind.VariableDeclaration 12 (more (string (codes "const")) (more (list (trees (node Kind.VariableDeclarator 13 (more (child (node Kind.BindingIdentifier 14 (more (string (codes "m")) end))) (more (child (node Kind.ArrowFunctionExpression 15 (more (list end) (more (child (node Kind.BlockStatement 16 (more (list (trees (node Kind.ExpressionStatement 17 (more (child (node Kind.CallExpression 18 (more (child (node Kind.IdentifierReference 19 (more (string (codes "k")) end))) (more (list (trees (node Kind.ThisExpression 20 end ∷ []))) (more (boolean false) end))))) (more no_string end)) ∷ []))) end))) (more (boolean false) end))))) end)) ∷ []))) end)) ∷ node Kind.ExpressionStatement 21 (more (child (node Kind.CallExpression 22 (more (child (node Kind.Super 23 end)) (more (list end) (more (boolean false) end))))) (more no_string end)) ∷ node Kind.ExpressionStatement 24 (more (child (node Kind.CallExpression 25 (more (child (node Kind.IdentifierReference 26 (more (string (codes "m")) end))) (more (list end) (more (boolean false) end))))) (more no_string end)) ∷ []))) end))) (more (boolean false) (more (boolean false) end))))))) (more (string (codes "constructor")) (more (boolean false) (more (boolean false) end))))) ∷ []))) end))) end))) ∷ []))) end))

-- this leaves the arrow that is called behind the call of super: `class A extends P { constructor() { var _u; _u = this; const m = () => { k(_u); }; super(); B.defineProperty(this, "y", 1); m(); } }`
abbrev pub output_this_out_of_an_arrow : Tree
output_this_out_of_an_arrow = node Kind.Program 0 (more (string (codes "script")) (more (list (trees (node Kind.ClassDeclaration 1 (more (child (node Kind.BindingIdentifier 2 (more (string (codes "A")) end))) (more (child (node Kind.IdentifierReference 3 (more (string (codes "P")) end))) (more (child (node Kind.ClassBody 4 (more (list (trees (node Kind.MethodDefinition 8 (more (child (node Kind.IdentifierName 9 (more (string (codes "constructor")) end))) (more (child (node Kind.FunctionExpression 10 (more absent (more (list end) (more (child (node Kind.BlockStatement 11 (more (list (trees (node Kind.VariableDeclaration 27 (more (string (codes "var")) (more (list (trees (node Kind.VariableDeclarator 28 (more (child (node Kind.BindingIdentifier 29 (more (string (codes "_u")) end))) (more absent end)) ∷ []))) end)) ∷ node Kind.ExpressionStatement 30 (more (child (node Kind.AssignmentExpression 31 (more (string (codes "=")) (more (child (node Kind.IdentifierReference 32 (more (string (codes "_u")) end))) (more (child (node Kind.ThisExpression 20 end)) end))))) (more no_string end)) ∷ node Kind.VariableDeclaration 12 (more (string (codes "const")) (more (list (trees (node Kind.VariableDeclarator 13 (more (child (node Kind.BindingIdentifier 14 (more (string (codes "m")) end))) (more (child (node Kind.ArrowFunctionExpression 15 (more (list end) (more (child (node Kind.BlockStatement 16 (more (list (trees (node Kind.ExpressionStatement 17 (more (child (node Kind.CallExpression 18 (more (child (node Kind.IdentifierReference 19 (more (string (codes "k")) end))) (more (list (trees (node Kind.IdentifierReference 33 (more (string (codes "_u")) end) ∷ []))) (more (boolean false) end))))) (more no_string end)) ∷ []))) end))) (more (boolean false) end))))) end)) ∷ []))) end)) ∷ node Kind.ExpressionStatement 21 (more (child (node Kind.CallExpression 22 (more (child (node Kind.Super 23 end)) (more (list end) (more (boolean false) end))))) (more no_string end)) ∷ node Kind.ExpressionStatement 34 (more (child (node Kind.CallExpression 35 (more (child (node Kind.MemberExpression 36 (more (child (node Kind.IdentifierReference 37 (more (string (codes "babelHelpers")) end))) (more (child (node Kind.IdentifierName 38 (more (string (codes "defineProperty")) end))) (more (boolean false) (more (boolean false) end)))))) (more (list (trees (node Kind.ThisExpression 39 end ∷ node Kind.Literal 40 (more (literal (literal_value.String (codes "y") None)) end) ∷ node Kind.Literal 7 (more (literal (literal_value.Number (codes "1"))) end) ∷ []))) (more (boolean false) end))))) (more no_string end)) ∷ node Kind.ExpressionStatement 24 (more (child (node Kind.CallExpression 25 (more (child (node Kind.IdentifierReference 26 (more (string (codes "m")) end))) (more (list end) (more (boolean false) end))))) (more no_string end)) ∷ []))) end))) (more (boolean false) (more (boolean false) end))))))) (more (string (codes "constructor")) (more (boolean false) (more (boolean false) end))))) ∷ []))) end))) end))) ∷ []))) end))

abbrev pub generated_this_out_of_an_arrow : List LedgerEntry
generated_this_out_of_an_arrow = record { name = codes "_u"; kind = GeneratedKind.Temp } ∷ []

abbrev pub options_this_out_of_an_arrow : Options
options_this_out_of_an_arrow = options_of false (Some (record { loose = false })) false
