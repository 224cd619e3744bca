-- Printed by tools/rows/witnesses.js.
use Rattle.std.specs.Prelude.{ℕ, List, [], ◌∷◌, true, false, codes, None}
use Rattle.es_base.specs.Tree.{Tree, end, more, child, absent, list, string, no_string, boolean, literal, trees}
use Rattle.es_base.specs.declared.kind.Kind.{Kind}
use Rattle.es_base.specs.declared.ledger.GeneratedKind.{GeneratedKind}
use Rattle.es_base.specs.declared.ledger.LedgerEntry.{LedgerEntry}
use Rattle.es_base.specs.declared.literal.LiteralValue.TheVariants as literal_value
use Rattle.es_steps.specs.Generated.{node}
use Rattle.es_steps.specs.Options.{options_of}
use Rattle.es_steps.specs.declared.options.Options.{Options}

-- `class A { static { f(1); } #m() {} w(v, __proto__) { this.#m = v; g({ __proto__, __proto__: v }); } }`
abbrev pub source_prototype_of_a_shorthand : Tree
source_prototype_of_a_shorthand = node Kind.Program 0 (more (string (codes "script")) (more (list (trees (node Kind.ClassDeclaration 1 (more (child (node Kind.BindingIdentifier 2 (more (string (codes "A")) end))) (more absent (more (child (node Kind.ClassBody 3 (more (list (trees (node Kind.StaticBlock 4 (more (list (trees (node Kind.ExpressionStatement 5 (more (child (node Kind.CallExpression 6 (more (child (node Kind.IdentifierReference 7 (more (string (codes "f")) end))) (more (list (trees (node Kind.Literal 8 (more (literal (literal_value.Number (codes "1"))) end) ∷ []))) (more (boolean false) end))))) (more no_string end)) ∷ []))) end) ∷ node Kind.MethodDefinition 9 (more (child (node Kind.PrivateIdentifier 10 (more (string (codes "m")) end))) (more (child (node Kind.FunctionExpression 11 (more absent (more (list end) (more (child (node Kind.BlockStatement 12 (more (list end) end))) (more (boolean false) (more (boolean false) end))))))) (more (string (codes "method")) (more (boolean false) (more (boolean false) end))))) ∷ node Kind.MethodDefinition 13 (more (child (node Kind.IdentifierName 14 (more (string (codes "w")) end))) (more (child (node Kind.FunctionExpression 15 (more absent (more (list (trees (node Kind.BindingIdentifier 16 (more (string (codes "v")) end) ∷ node Kind.BindingIdentifier 17 (more (string (codes "__proto__")) end) ∷ []))) (more (child (node Kind.BlockStatement 18 (more (list (trees (node Kind.ExpressionStatement 19 (more (child (node Kind.AssignmentExpression 20 (more (string (codes "=")) (more (child (node Kind.PrivateField 21 (more (child (node Kind.ThisExpression 22 end)) (more (child (node Kind.PrivateIdentifier 23 (more (string (codes "m")) end))) (more (boolean false) (more (boolean false) end)))))) (more (child (node Kind.IdentifierReference 24 (more (string (codes "v")) end))) end))))) (more no_string end)) ∷ node Kind.ExpressionStatement 25 (more (child (node Kind.CallExpression 26 (more (child (node Kind.IdentifierReference 27 (more (string (codes "g")) end))) (more (list (trees (node Kind.ObjectExpression 28 (more (list (trees (node Kind.Property 29 (more (child (node Kind.IdentifierName 30 (more (string (codes "__proto__")) end))) (more (child (node Kind.IdentifierReference 31 (more (string (codes "__proto__")) end))) (more (string (codes "init")) (more (boolean false) (more (boolean true) (more (boolean false) end)))))) ∷ node Kind.Property 32 (more (child (node Kind.IdentifierName 33 (more (string (codes "__proto__")) end))) (more (child (node Kind.IdentifierReference 34 (more (string (codes "v")) end))) (more (string (codes "init")) (more (boolean false) (more (boolean false) (more (boolean false) end)))))) ∷ []))) end) ∷ []))) (more (boolean false) end))))) (more no_string end)) ∷ []))) end))) (more (boolean false) (more (boolean false) end))))))) (more (string (codes "method")) (more (boolean false) (more (boolean false) end))))) ∷ []))) end))) end))) ∷ []))) end))

-- a shorthand that becomes a second prototype, behind what always throws, where `class A { static #_ = f(1); #m() {} w(v, __proto__) { this.#m = v; g({ __proto__, __proto__: v }); } }` is right
abbrev pub output_prototype_of_a_shorthand : Tree
output_prototype_of_a_shorthand = node Kind.Program 0 (more (string (codes "script")) (more (list (trees (node Kind.ClassDeclaration 1 (more (child (node Kind.BindingIdentifier 2 (more (string (codes "A")) end))) (more absent (more (child (node Kind.ClassBody 3 (more (list (trees (node Kind.PropertyDefinition 35 (more (child (node Kind.PrivateIdentifier 36 (more (string (codes "_")) end))) (more (child (node Kind.CallExpression 6 (more (child (node Kind.IdentifierReference 7 (more (string (codes "f")) end))) (more (list (trees (node Kind.Literal 8 (more (literal (literal_value.Number (codes "1"))) end) ∷ []))) (more (boolean false) end))))) (more (boolean false) (more (boolean true) end)))) ∷ node Kind.MethodDefinition 9 (more (child (node Kind.PrivateIdentifier 10 (more (string (codes "m")) end))) (more (child (node Kind.FunctionExpression 11 (more absent (more (list end) (more (child (node Kind.BlockStatement 12 (more (list end) end))) (more (boolean false) (more (boolean false) end))))))) (more (string (codes "method")) (more (boolean false) (more (boolean false) end))))) ∷ node Kind.MethodDefinition 13 (more (child (node Kind.IdentifierName 14 (more (string (codes "w")) end))) (more (child (node Kind.FunctionExpression 15 (more absent (more (list (trees (node Kind.BindingIdentifier 16 (more (string (codes "v")) end) ∷ node Kind.BindingIdentifier 17 (more (string (codes "__proto__")) end) ∷ []))) (more (child (node Kind.BlockStatement 18 (more (list (trees (node Kind.ExpressionStatement 19 (more (child (node Kind.AssignmentExpression 20 (more (string (codes "=")) (more (child (node Kind.PrivateField 21 (more (child (node Kind.ThisExpression 22 end)) (more (child (node Kind.PrivateIdentifier 23 (more (string (codes "m")) end))) (more (boolean false) (more (boolean false) end)))))) (more (child (node Kind.IdentifierReference 24 (more (string (codes "v")) end))) end))))) (more no_string end)) ∷ node Kind.ExpressionStatement 25 (more (child (node Kind.CallExpression 26 (more (child (node Kind.IdentifierReference 27 (more (string (codes "g")) end))) (more (list (trees (node Kind.ObjectExpression 28 (more (list (trees (node Kind.Property 29 (more (child (node Kind.IdentifierName 30 (more (string (codes "__proto__")) end))) (more (child (node Kind.IdentifierReference 31 (more (string (codes "__proto__")) end))) (more (string (codes "init")) (more (boolean false) (more (boolean false) (more (boolean false) end)))))) ∷ node Kind.Property 32 (more (child (node Kind.IdentifierName 33 (more (string (codes "__proto__")) end))) (more (child (node Kind.IdentifierReference 34 (more (string (codes "v")) end))) (more (string (codes "init")) (more (boolean false) (more (boolean false) (more (boolean false) end)))))) ∷ []))) end) ∷ []))) (more (boolean false) end))))) (more no_string end)) ∷ []))) end))) (more (boolean false) (more (boolean false) end))))))) (more (string (codes "method")) (more (boolean false) (more (boolean false) end))))) ∷ []))) end))) end))) ∷ []))) end))

abbrev pub generated_prototype_of_a_shorthand : List LedgerEntry
generated_prototype_of_a_shorthand = record { name = codes "_"; kind = GeneratedKind.Private (record { 0 = 1 }) } ∷ []

abbrev pub options_prototype_of_a_shorthand : Options
options_prototype_of_a_shorthand = options_of true None false
