-- Printed by tools/rows/witnesses.js.
use Rattle.std.specs.Prelude.{ℕ, List, [], ◌∷◌, true, false, codes, Some}
use Rattle.es_base.specs.Tree.{Tree, end, more, child, absent, list, string, no_string, boolean, literal, trees}
use Rattle.es_base.specs.declared.kind.Kind.{Kind}
use Rattle.es_base.specs.declared.ledger.LedgerEntry.{LedgerEntry}
use Rattle.es_base.specs.declared.literal.LiteralValue.TheVariants as literal_value
use Rattle.es_steps.specs.Generated.{node}
use Rattle.es_steps.specs.Options.{options_of}
use Rattle.es_steps.specs.declared.options.Options.{Options}

-- a key that is caught, and that a `var` of the catch gives a value: `try { f(); } catch (k) { class C { [k] = 1; } var k = 2; }`
abbrev pub first_caught_key : Tree
first_caught_key = node Kind.Program 0 (more (string (codes "script")) (more (list (trees (node Kind.TryStatement 1 (more (child (node Kind.BlockStatement 2 (more (list (trees (node Kind.ExpressionStatement 3 (more (child (node Kind.CallExpression 4 (more (child (node Kind.IdentifierReference 5 (more (string (codes "f")) end))) (more (list end) (more (boolean false) end))))) (more no_string end)) ∷ []))) end))) (more (child (node Kind.CatchClause 6 (more (child (node Kind.BindingIdentifier 7 (more (string (codes "k")) end))) (more (child (node Kind.BlockStatement 8 (more (list (trees (node Kind.ClassDeclaration 9 (more (child (node Kind.BindingIdentifier 10 (more (string (codes "C")) end))) (more absent (more (child (node Kind.ClassBody 11 (more (list (trees (node Kind.PropertyDefinition 12 (more (child (node Kind.IdentifierReference 13 (more (string (codes "k")) end))) (more (child (node Kind.Literal 14 (more (literal (literal_value.Number (codes "1"))) end))) (more (boolean true) (more (boolean false) end)))) ∷ []))) end))) end))) ∷ node Kind.VariableDeclaration 15 (more (string (codes "var")) (more (list (trees (node Kind.VariableDeclarator 16 (more (child (node Kind.BindingIdentifier 17 (more (string (codes "k")) end))) (more (child (node Kind.Literal 18 (more (literal (literal_value.Number (codes "2"))) end))) end)) ∷ []))) end)) ∷ []))) end))) end)))) (more absent end))) ∷ []))) end))

-- `try { f(); } catch (k) { class C { [k] = 1; } var j = 2; }`, with numbers of the first
abbrev pub second_caught_key : Tree
second_caught_key = node Kind.Program 0 (more (string (codes "script")) (more (list (trees (node Kind.TryStatement 1 (more (child (node Kind.BlockStatement 2 (more (list (trees (node Kind.ExpressionStatement 3 (more (child (node Kind.CallExpression 4 (more (child (node Kind.IdentifierReference 5 (more (string (codes "f")) end))) (more (list end) (more (boolean false) end))))) (more no_string end)) ∷ []))) end))) (more (child (node Kind.CatchClause 6 (more (child (node Kind.BindingIdentifier 7 (more (string (codes "k")) end))) (more (child (node Kind.BlockStatement 8 (more (list (trees (node Kind.ClassDeclaration 9 (more (child (node Kind.BindingIdentifier 10 (more (string (codes "C")) end))) (more absent (more (child (node Kind.ClassBody 11 (more (list (trees (node Kind.PropertyDefinition 12 (more (child (node Kind.IdentifierReference 13 (more (string (codes "k")) end))) (more (child (node Kind.Literal 14 (more (literal (literal_value.Number (codes "1"))) end))) (more (boolean true) (more (boolean false) end)))) ∷ []))) end))) end))) ∷ node Kind.VariableDeclaration 15 (more (string (codes "var")) (more (list (trees (node Kind.VariableDeclarator 16 (more (child (node Kind.BindingIdentifier 17 (more (string (codes "j")) end))) (more (child (node Kind.Literal 18 (more (literal (literal_value.Number (codes "2"))) end))) end)) ∷ []))) end)) ∷ []))) end))) end)))) (more absent end))) ∷ []))) end))

abbrev pub options_caught_key : Options
options_caught_key = options_of false (Some (record { loose = false })) false
