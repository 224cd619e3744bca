-- Printed by tools/rows/witnesses.js.
use Rattle.std.specs.Prelude.{ℕ, List, [], ◌∷◌, false, codes, Some, None}
use Rattle.es_base.specs.Tree.{Tree, end, more, child, absent, list, string, no_string, boolean, literal, trees}
use Rattle.es_base.specs.declared.kind.Kind.{Kind}
use Rattle.es_base.specs.declared.ledger.GeneratedKind.{GeneratedKind}
use Rattle.es_base.specs.declared.ledger.LedgerEntry.{LedgerEntry}
use Rattle.es_base.specs.declared.literal.LiteralValue.TheVariants as literal_value
use Rattle.es_steps.specs.Generated.{node}
use Rattle.es_steps.specs.Options.{options_of}
use Rattle.es_steps.specs.declared.options.Options.{Options}

-- `import d from "x"; h(() => d); export default k(class { x = 1; }); g; let g = f();`
abbrev pub source_name_in_front_of_a_default_export : Tree
source_name_in_front_of_a_default_export = node Kind.Program 0 (more (string (codes "module")) (more (list (trees (node Kind.ImportDeclaration 1 (more (list (trees (node Kind.ImportDefaultSpecifier 2 (more (child (node Kind.BindingIdentifier 3 (more (string (codes "d")) end))) end) ∷ []))) (more (child (node Kind.Literal 4 (more (literal (literal_value.String (codes "x") (Some (codes "\"x\"")))) end))) end)) ∷ node Kind.ExpressionStatement 5 (more (child (node Kind.CallExpression 6 (more (child (node Kind.IdentifierReference 7 (more (string (codes "h")) end))) (more (list (trees (node Kind.ArrowFunctionExpression 8 (more (list end) (more (child (node Kind.IdentifierReference 9 (more (string (codes "d")) end))) (more (boolean false) end))) ∷ []))) (more (boolean false) end))))) (more no_string end)) ∷ node Kind.ExportDefaultDeclaration 10 (more (child (node Kind.CallExpression 11 (more (child (node Kind.IdentifierReference 12 (more (string (codes "k")) end))) (more (list (trees (node Kind.ClassExpression 13 (more absent (more absent (more (child (node Kind.ClassBody 14 (more (list (trees (node Kind.PropertyDefinition 15 (more (child (node Kind.IdentifierName 16 (more (string (codes "x")) end))) (more (child (node Kind.Literal 17 (more (literal (literal_value.Number (codes "1"))) end))) (more (boolean false) (more (boolean false) end)))) ∷ []))) end))) end))) ∷ []))) (more (boolean false) end))))) end) ∷ node Kind.ExpressionStatement 18 (more (child (node Kind.IdentifierReference 19 (more (string (codes "g")) end))) (more no_string end)) ∷ node Kind.VariableDeclaration 20 (more (string (codes "let")) (more (list (trees (node Kind.VariableDeclarator 21 (more (child (node Kind.BindingIdentifier 22 (more (string (codes "g")) end))) (more (child (node Kind.CallExpression 23 (more (child (node Kind.IdentifierReference 24 (more (string (codes "f")) end))) (more (list end) (more (boolean false) end))))) end)) ∷ []))) end)) ∷ []))) end))

-- a name in its dead zone is read in front of a default export, which another module reads: `import d from "x"; var _t; h(() => d); export default (_t = k(class { constructor() { B.defineProperty(this, "x", 1); } }), g, _t); g; let g = f();`
abbrev pub output_name_in_front_of_a_default_export : Tree
output_name_in_front_of_a_default_export = node Kind.Program 0 (more (string (codes "module")) (more (list (trees (node Kind.ImportDeclaration 1 (more (list (trees (node Kind.ImportDefaultSpecifier 2 (more (child (node Kind.BindingIdentifier 3 (more (string (codes "d")) end))) end) ∷ []))) (more (child (node Kind.Literal 4 (more (literal (literal_value.String (codes "x") (Some (codes "\"x\"")))) end))) end)) ∷ node Kind.VariableDeclaration 25 (more (string (codes "var")) (more (list (trees (node Kind.VariableDeclarator 26 (more (child (node Kind.BindingIdentifier 27 (more (string (codes "_t")) end))) (more absent end)) ∷ []))) end)) ∷ node Kind.ExpressionStatement 5 (more (child (node Kind.CallExpression 6 (more (child (node Kind.IdentifierReference 7 (more (string (codes "h")) end))) (more (list (trees (node Kind.ArrowFunctionExpression 8 (more (list end) (more (child (node Kind.IdentifierReference 9 (more (string (codes "d")) end))) (more (boolean false) end))) ∷ []))) (more (boolean false) end))))) (more no_string end)) ∷ node Kind.ExportDefaultDeclaration 10 (more (child (node Kind.SequenceExpression 28 (more (list (trees (node Kind.AssignmentExpression 29 (more (string (codes "=")) (more (child (node Kind.IdentifierReference 30 (more (string (codes "_t")) end))) (more (child (node Kind.CallExpression 11 (more (child (node Kind.IdentifierReference 12 (more (string (codes "k")) end))) (more (list (trees (node Kind.ClassExpression 13 (more absent (more absent (more (child (node Kind.ClassBody 14 (more (list (trees (node Kind.MethodDefinition 31 (more (child (node Kind.IdentifierName 32 (more (string (codes "constructor")) end))) (more (child (node Kind.FunctionExpression 33 (more absent (more (list end) (more (child (node Kind.BlockStatement 34 (more (list (trees (node Kind.ExpressionStatement 35 (more (child (node Kind.CallExpression 36 (more (child (node Kind.MemberExpression 37 (more (child (node Kind.IdentifierReference 38 (more (string (codes "babelHelpers")) end))) (more (child (node Kind.IdentifierName 39 (more (string (codes "defineProperty")) end))) (more (boolean false) (more (boolean false) end)))))) (more (list (trees (node Kind.ThisExpression 40 end ∷ node Kind.Literal 41 (more (literal (literal_value.String (codes "x") None)) end) ∷ node Kind.Literal 17 (more (literal (literal_value.Number (codes "1"))) end) ∷ []))) (more (boolean false) end))))) (more no_string end)) ∷ []))) end))) (more (boolean false) (more (boolean false) end))))))) (more (string (codes "constructor")) (more (boolean false) (more (boolean false) end))))) ∷ []))) end))) end))) ∷ []))) (more (boolean false) end))))) end))) ∷ node Kind.IdentifierReference 42 (more (string (codes "g")) end) ∷ node Kind.IdentifierReference 43 (more (string (codes "_t")) end) ∷ []))) end))) end) ∷ node Kind.ExpressionStatement 18 (more (child (node Kind.IdentifierReference 19 (more (string (codes "g")) end))) (more no_string end)) ∷ node Kind.VariableDeclaration 20 (more (string (codes "let")) (more (list (trees (node Kind.VariableDeclarator 21 (more (child (node Kind.BindingIdentifier 22 (more (string (codes "g")) end))) (more (child (node Kind.CallExpression 23 (more (child (node Kind.IdentifierReference 24 (more (string (codes "f")) end))) (more (list end) (more (boolean false) end))))) end)) ∷ []))) end)) ∷ []))) end))

abbrev pub generated_name_in_front_of_a_default_export : List LedgerEntry
generated_name_in_front_of_a_default_export = record { name = codes "_t"; kind = GeneratedKind.Temp } ∷ []

abbrev pub options_name_in_front_of_a_default_export : Options
options_name_in_front_of_a_default_export = options_of false (Some (record { loose = false })) false
