-- Printed by tools/rows/witnesses.js.
use Rattle.std.specs.Prelude.{ℕ, List, [], ◌∷◌, true, false, codes, Some}
use Rattle.es_base.specs.Tree.{Tree, end, more, child, absent, list, string, no_string, boolean, literal, trees}
use Rattle.es_base.specs.declared.kind.Kind.{Kind}
use Rattle.es_base.specs.declared.ledger.LedgerEntry.{LedgerEntry}
use Rattle.es_base.specs.declared.literal.LiteralValue.TheVariants as literal_value
use Rattle.es_steps.specs.Generated.{node}
use Rattle.es_steps.specs.Options.{options_of}
use Rattle.es_steps.specs.declared.options.Options.{Options}

-- the key of a `super` member is read twice where its code is moved: `class A { x = 1; m(k) { k = f(); super[k] += 2; } }`
abbrev pub first_super_key_that_stays : Tree
first_super_key_that_stays = node Kind.Program 0 (more (string (codes "script")) (more (list (trees (node Kind.ClassDeclaration 1 (more (child (node Kind.BindingIdentifier 2 (more (string (codes "A")) end))) (more absent (more (child (node Kind.ClassBody 3 (more (list (trees (node Kind.PropertyDefinition 4 (more (child (node Kind.IdentifierName 5 (more (string (codes "x")) end))) (more (child (node Kind.Literal 6 (more (literal (literal_value.Number (codes "1"))) end))) (more (boolean false) (more (boolean false) end)))) ∷ node Kind.MethodDefinition 7 (more (child (node Kind.IdentifierName 8 (more (string (codes "m")) end))) (more (child (node Kind.FunctionExpression 9 (more absent (more (list (trees (node Kind.BindingIdentifier 10 (more (string (codes "k")) end) ∷ []))) (more (child (node Kind.BlockStatement 11 (more (list (trees (node Kind.ExpressionStatement 12 (more (child (node Kind.AssignmentExpression 13 (more (string (codes "=")) (more (child (node Kind.IdentifierReference 14 (more (string (codes "k")) end))) (more (child (node Kind.CallExpression 15 (more (child (node Kind.IdentifierReference 16 (more (string (codes "f")) end))) (more (list end) (more (boolean false) end))))) end))))) (more no_string end)) ∷ node Kind.ExpressionStatement 17 (more (child (node Kind.AssignmentExpression 18 (more (string (codes "+=")) (more (child (node Kind.MemberExpression 19 (more (child (node Kind.Super 20 end)) (more (child (node Kind.IdentifierReference 21 (more (string (codes "k")) end))) (more (boolean true) (more (boolean false) end)))))) (more (child (node Kind.Literal 22 (more (literal (literal_value.Number (codes "2"))) end))) end))))) (more no_string end)) ∷ []))) end))) (more (boolean false) (more (boolean false) end))))))) (more (string (codes "method")) (more (boolean false) (more (boolean false) end))))) ∷ []))) end))) end))) ∷ []))) end))

-- `class A { #m(k) { k = f(); super[k] += 2; } }`, with numbers of the first
abbrev pub second_super_key_that_stays : Tree
second_super_key_that_stays = node Kind.Program 0 (more (string (codes "script")) (more (list (trees (node Kind.ClassDeclaration 1 (more (child (node Kind.BindingIdentifier 2 (more (string (codes "A")) end))) (more absent (more (child (node Kind.ClassBody 3 (more (list (trees (node Kind.MethodDefinition 4 (more (child (node Kind.PrivateIdentifier 5 (more (string (codes "m")) end))) (more (child (node Kind.FunctionExpression 6 (more absent (more (list (trees (node Kind.BindingIdentifier 7 (more (string (codes "k")) end) ∷ []))) (more (child (node Kind.BlockStatement 8 (more (list (trees (node Kind.ExpressionStatement 9 (more (child (node Kind.AssignmentExpression 10 (more (string (codes "=")) (more (child (node Kind.IdentifierReference 11 (more (string (codes "k")) end))) (more (child (node Kind.CallExpression 12 (more (child (node Kind.IdentifierReference 13 (more (string (codes "f")) end))) (more (list end) (more (boolean false) end))))) end))))) (more no_string end)) ∷ node Kind.ExpressionStatement 14 (more (child (node Kind.AssignmentExpression 15 (more (string (codes "+=")) (more (child (node Kind.MemberExpression 16 (more (child (node Kind.Super 17 end)) (more (child (node Kind.IdentifierReference 18 (more (string (codes "k")) end))) (more (boolean true) (more (boolean false) end)))))) (more (child (node Kind.Literal 19 (more (literal (literal_value.Number (codes "2"))) end))) end))))) (more no_string end)) ∷ []))) end))) (more (boolean false) (more (boolean false) end))))))) (more (string (codes "method")) (more (boolean false) (more (boolean false) end))))) ∷ []))) end))) end))) ∷ []))) end))

abbrev pub options_super_key_that_stays : Options
options_super_key_that_stays = options_of false (Some (record { loose = false })) false
