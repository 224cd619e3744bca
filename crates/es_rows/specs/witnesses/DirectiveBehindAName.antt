-- Printed by tools/rows/witnesses.js.
use Rattle.std.specs.Prelude.{ℕ, List, [], ◌∷◌, false, codes, Some}
use Rattle.es_base.specs.Tree.{Tree, end, more, child, absent, list, string, no_string, boolean, literal, trees}
use Rattle.es_base.specs.declared.kind.Kind.{Kind}
use Rattle.es_base.specs.declared.ledger.GeneratedKind.{GeneratedKind}
use Rattle.es_base.specs.declared.ledger.LedgerEntry.{LedgerEntry}
use Rattle.es_base.specs.declared.literal.LiteralValue.TheVariants as literal_value
use Rattle.es_steps.specs.Generated.{node}
use Rattle.es_steps.specs.Options.{options_of}
use Rattle.es_steps.specs.declared.options.Options.{Options}

-- `"use strict"; class C { #x = 1; }`
abbrev pub source_directive_behind_a_name : Tree
source_directive_behind_a_name = node Kind.Program 0 (more (string (codes "script")) (more (list (trees (node Kind.ExpressionStatement 1 (more (child (node Kind.Literal 2 (more (literal (literal_value.String (codes "use strict") (Some (codes "\"use strict\"")))) end))) (more (string (codes "use strict")) end)) ∷ node Kind.ClassDeclaration 3 (more (child (node Kind.BindingIdentifier 4 (more (string (codes "C")) end))) (more absent (more (child (node Kind.ClassBody 5 (more (list (trees (node Kind.PropertyDefinition 6 (more (child (node Kind.PrivateIdentifier 7 (more (string (codes "x")) end))) (more (child (node Kind.Literal 8 (more (literal (literal_value.Number (codes "1"))) end))) (more (boolean false) (more (boolean false) end)))) ∷ []))) end))) end))) ∷ []))) end))

-- a directive behind a generated name, where `"use strict"; var _x = new WeakMap(); class C { constructor() { B.classPrivateFieldInitSpec(this, _x, 1); } }` is right
abbrev pub output_directive_behind_a_name : Tree
output_directive_behind_a_name = node Kind.Program 0 (more (string (codes "script")) (more (list (trees (node Kind.VariableDeclaration 9 (more (string (codes "var")) (more (list (trees (node Kind.VariableDeclarator 10 (more (child (node Kind.BindingIdentifier 11 (more (string (codes "_x")) end))) (more (child (node Kind.NewExpression 12 (more (child (node Kind.IdentifierReference 13 (more (string (codes "WeakMap")) end))) (more (list end) end)))) end)) ∷ []))) end)) ∷ node Kind.ExpressionStatement 1 (more (child (node Kind.Literal 2 (more (literal (literal_value.String (codes "use strict") (Some (codes "\"use strict\"")))) end))) (more (string (codes "use strict")) end)) ∷ node Kind.ClassDeclaration 3 (more (child (node Kind.BindingIdentifier 4 (more (string (codes "C")) end))) (more absent (more (child (node Kind.ClassBody 5 (more (list (trees (node Kind.MethodDefinition 14 (more (child (node Kind.IdentifierName 15 (more (string (codes "constructor")) end))) (more (child (node Kind.FunctionExpression 16 (more absent (more (list end) (more (child (node Kind.BlockStatement 17 (more (list (trees (node Kind.ExpressionStatement 18 (more (child (node Kind.CallExpression 19 (more (child (node Kind.MemberExpression 20 (more (child (node Kind.IdentifierReference 21 (more (string (codes "babelHelpers")) end))) (more (child (node Kind.IdentifierName 22 (more (string (codes "classPrivateFieldInitSpec")) end))) (more (boolean false) (more (boolean false) end)))))) (more (list (trees (node Kind.ThisExpression 23 end ∷ node Kind.IdentifierReference 24 (more (string (codes "_x")) end) ∷ node Kind.Literal 8 (more (literal (literal_value.Number (codes "1"))) end) ∷ []))) (more (boolean false) end))))) (more no_string end)) ∷ []))) end))) (more (boolean false) (more (boolean false) end))))))) (more (string (codes "constructor")) (more (boolean false) (more (boolean false) end))))) ∷ []))) end))) end))) ∷ []))) end))

abbrev pub generated_directive_behind_a_name : List LedgerEntry
generated_directive_behind_a_name = record { name = codes "_x"; kind = GeneratedKind.WeakMap (record { 0 = 7 }) } ∷ []

abbrev pub options_directive_behind_a_name : Options
options_directive_behind_a_name = options_of false (Some (record { loose = false })) false
