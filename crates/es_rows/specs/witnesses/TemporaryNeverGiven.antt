-- Printed by tools/rows/witnesses.js.
use Rattle.std.specs.Prelude.{ℕ, List, [], ◌∷◌, true, false, codes, Some}
use Rattle.es_base.specs.Tree.{Tree, end, more, child, absent, list, string, no_string, boolean, literal, trees}
use Rattle.es_base.specs.declared.kind.Kind.{Kind}
use Rattle.es_base.specs.declared.ledger.GeneratedKind.{GeneratedKind}
use Rattle.es_base.specs.declared.ledger.LedgerEntry.{LedgerEntry}
use Rattle.es_base.specs.declared.literal.LiteralValue.TheVariants as literal_value
use Rattle.es_steps.specs.Generated.{node}
use Rattle.es_steps.specs.Options.{options_of}
use Rattle.es_steps.specs.declared.options.Options.{Options}

-- `class C { [k()] = 1; [k()]; }`
abbrev pub source_temporary_never_given : Tree
source_temporary_never_given = node Kind.Program 0 (more (string (codes "script")) (more (list (trees (node Kind.ClassDeclaration 1 (more (child (node Kind.BindingIdentifier 2 (more (string (codes "C")) end))) (more absent (more (child (node Kind.ClassBody 3 (more (list (trees (node Kind.PropertyDefinition 4 (more (child (node Kind.CallExpression 5 (more (child (node Kind.IdentifierReference 6 (more (string (codes "k")) end))) (more (list end) (more (boolean false) end))))) (more (child (node Kind.Literal 7 (more (literal (literal_value.Number (codes "1"))) end))) (more (boolean true) (more (boolean false) end)))) ∷ node Kind.PropertyDefinition 8 (more (child (node Kind.CallExpression 9 (more (child (node Kind.IdentifierReference 10 (more (string (codes "k")) end))) (more (list end) (more (boolean false) end))))) (more absent (more (boolean true) (more (boolean false) end)))) ∷ []))) end))) end))) ∷ []))) end))

-- a key whose temporary is never given, where `let _k, _k2; _k = k(); _k2 = k(); class C { constructor() { B.defineProperty(this, _k, 1); B.defineProperty(this, _k2, void 0); } }` is right
abbrev pub output_temporary_never_given : Tree
output_temporary_never_given = node Kind.Program 0 (more (string (codes "script")) (more (list (trees (node Kind.VariableDeclaration 11 (more (string (codes "let")) (more (list (trees (node Kind.VariableDeclarator 12 (more (child (node Kind.BindingIdentifier 13 (more (string (codes "_k")) end))) (more absent end)) ∷ node Kind.VariableDeclarator 14 (more (child (node Kind.BindingIdentifier 15 (more (string (codes "_k2")) end))) (more absent end)) ∷ []))) end)) ∷ node Kind.ExpressionStatement 16 (more (child (node Kind.AssignmentExpression 17 (more (string (codes "=")) (more (child (node Kind.IdentifierReference 18 (more (string (codes "_k")) end))) (more (child (node Kind.CallExpression 5 (more (child (node Kind.IdentifierReference 6 (more (string (codes "k")) end))) (more (list end) (more (boolean false) end))))) end))))) (more no_string end)) ∷ node Kind.ClassDeclaration 1 (more (child (node Kind.BindingIdentifier 2 (more (string (codes "C")) end))) (more absent (more (child (node Kind.ClassBody 3 (more (list (trees (node Kind.MethodDefinition 19 (more (child (node Kind.IdentifierName 20 (more (string (codes "constructor")) end))) (more (child (node Kind.FunctionExpression 21 (more absent (more (list end) (more (child (node Kind.BlockStatement 22 (more (list (trees (node Kind.ExpressionStatement 23 (more (child (node Kind.CallExpression 24 (more (child (node Kind.MemberExpression 25 (more (child (node Kind.IdentifierReference 26 (more (string (codes "babelHelpers")) end))) (more (child (node Kind.IdentifierName 27 (more (string (codes "defineProperty")) end))) (more (boolean false) (more (boolean false) end)))))) (more (list (trees (node Kind.ThisExpression 28 end ∷ node Kind.IdentifierReference 29 (more (string (codes "_k")) end) ∷ node Kind.Literal 7 (more (literal (literal_value.Number (codes "1"))) end) ∷ []))) (more (boolean false) end))))) (more no_string end)) ∷ node Kind.ExpressionStatement 30 (more (child (node Kind.CallExpression 31 (more (child (node Kind.MemberExpression 32 (more (child (node Kind.IdentifierReference 33 (more (string (codes "babelHelpers")) end))) (more (child (node Kind.IdentifierName 34 (more (string (codes "defineProperty")) end))) (more (boolean false) (more (boolean false) end)))))) (more (list (trees (node Kind.ThisExpression 35 end ∷ node Kind.IdentifierReference 36 (more (string (codes "_k2")) end) ∷ node Kind.UnaryExpression 37 (more (string (codes "void")) (more (child (node Kind.Literal 38 (more (literal (literal_value.Number (codes "0"))) end))) end)) ∷ []))) (more (boolean false) end))))) (more no_string end)) ∷ []))) end))) (more (boolean false) (more (boolean false) end))))))) (more (string (codes "constructor")) (more (boolean false) (more (boolean false) end))))) ∷ []))) end))) end))) ∷ []))) end))

abbrev pub generated_temporary_never_given : List LedgerEntry
generated_temporary_never_given = record { name = codes "_k"; kind = GeneratedKind.Temp } ∷ record { name = codes "_k2"; kind = GeneratedKind.Temp } ∷ []

abbrev pub options_temporary_never_given : Options
options_temporary_never_given = options_of false (Some (record { loose = false })) false
