-- Printed by tools/rows/witnesses.js.
use Rattle.std.specs.Prelude.{ℕ, List, [], ◌∷◌, false, codes, None}
use Rattle.es_base.specs.Tree.{Tree, end, more, child, absent, list, string, boolean, literal, trees}
use Rattle.es_base.specs.declared.kind.Kind.{Kind}
use Rattle.es_base.specs.declared.ledger.LedgerEntry.{LedgerEntry}
use Rattle.es_base.specs.declared.literal.LiteralValue.TheVariants as literal_value
use Rattle.es_steps.specs.Generated.{node}
use Rattle.es_steps.specs.Options.{options_of}
use Rattle.es_steps.specs.declared.options.Options.{Options}

-- the class that has a private method: `class A { #p() { return 1; } B = class { #q() { return 2; } t(o) { return o.#p(); } }; }`
abbrev pub first_private_method_of_another_class : Tree
first_private_method_of_another_class = node Kind.Program 0 (more (string (codes "script")) (more (list (trees (node Kind.ClassDeclaration 1 (more (child (node Kind.BindingIdentifier 2 (more (string (codes "A")) end))) (more absent (more (child (node Kind.ClassBody 3 (more (list (trees (node Kind.MethodDefinition 4 (more (child (node Kind.PrivateIdentifier 5 (more (string (codes "p")) end))) (more (child (node Kind.FunctionExpression 6 (more absent (more (list end) (more (child (node Kind.BlockStatement 7 (more (list (trees (node Kind.ReturnStatement 8 (more (child (node Kind.Literal 9 (more (literal (literal_value.Number (codes "1"))) end))) end) ∷ []))) end))) (more (boolean false) (more (boolean false) end))))))) (more (string (codes "method")) (more (boolean false) (more (boolean false) end))))) ∷ node Kind.PropertyDefinition 10 (more (child (node Kind.IdentifierName 11 (more (string (codes "B")) end))) (more (child (node Kind.ClassExpression 12 (more absent (more absent (more (child (node Kind.ClassBody 13 (more (list (trees (node Kind.MethodDefinition 14 (more (child (node Kind.PrivateIdentifier 15 (more (string (codes "q")) end))) (more (child (node Kind.FunctionExpression 16 (more absent (more (list end) (more (child (node Kind.BlockStatement 17 (more (list (trees (node Kind.ReturnStatement 18 (more (child (node Kind.Literal 19 (more (literal (literal_value.Number (codes "2"))) end))) end) ∷ []))) end))) (more (boolean false) (more (boolean false) end))))))) (more (string (codes "method")) (more (boolean false) (more (boolean false) end))))) ∷ node Kind.MethodDefinition 20 (more (child (node Kind.IdentifierName 21 (more (string (codes "t")) end))) (more (child (node Kind.FunctionExpression 22 (more absent (more (list (trees (node Kind.BindingIdentifier 23 (more (string (codes "o")) end) ∷ []))) (more (child (node Kind.BlockStatement 24 (more (list (trees (node Kind.ReturnStatement 25 (more (child (node Kind.CallExpression 26 (more (child (node Kind.PrivateField 27 (more (child (node Kind.IdentifierReference 28 (more (string (codes "o")) end))) (more (child (node Kind.PrivateIdentifier 29 (more (string (codes "p")) end))) (more (boolean false) (more (boolean false) end)))))) (more (list end) (more (boolean false) end))))) end) ∷ []))) end))) (more (boolean false) (more (boolean false) end))))))) (more (string (codes "method")) (more (boolean false) (more (boolean false) end))))) ∷ []))) end))) end))))) (more (boolean false) (more (boolean false) end)))) ∷ []))) end))) end))) ∷ []))) end))

-- `class A { #q() { return 2; } B = class { #p() { return 1; } t(o) { return o.#p(); } }; }`, with numbers of the first
abbrev pub second_private_method_of_another_class : Tree
second_private_method_of_another_class = node Kind.Program 0 (more (string (codes "script")) (more (list (trees (node Kind.ClassDeclaration 1 (more (child (node Kind.BindingIdentifier 2 (more (string (codes "A")) end))) (more absent (more (child (node Kind.ClassBody 3 (more (list (trees (node Kind.MethodDefinition 14 (more (child (node Kind.PrivateIdentifier 15 (more (string (codes "q")) end))) (more (child (node Kind.FunctionExpression 16 (more absent (more (list end) (more (child (node Kind.BlockStatement 17 (more (list (trees (node Kind.ReturnStatement 18 (more (child (node Kind.Literal 19 (more (literal (literal_value.Number (codes "2"))) end))) end) ∷ []))) end))) (more (boolean false) (more (boolean false) end))))))) (more (string (codes "method")) (more (boolean false) (more (boolean false) end))))) ∷ node Kind.PropertyDefinition 10 (more (child (node Kind.IdentifierName 11 (more (string (codes "B")) end))) (more (child (node Kind.ClassExpression 12 (more absent (more absent (more (child (node Kind.ClassBody 13 (more (list (trees (node Kind.MethodDefinition 4 (more (child (node Kind.PrivateIdentifier 5 (more (string (codes "p")) end))) (more (child (node Kind.FunctionExpression 6 (more absent (more (list end) (more (child (node Kind.BlockStatement 7 (more (list (trees (node Kind.ReturnStatement 8 (more (child (node Kind.Literal 9 (more (literal (literal_value.Number (codes "1"))) end))) end) ∷ []))) end))) (more (boolean false) (more (boolean false) end))))))) (more (string (codes "method")) (more (boolean false) (more (boolean false) end))))) ∷ node Kind.MethodDefinition 20 (more (child (node Kind.IdentifierName 21 (more (string (codes "t")) end))) (more (child (node Kind.FunctionExpression 22 (more absent (more (list (trees (node Kind.BindingIdentifier 23 (more (string (codes "o")) end) ∷ []))) (more (child (node Kind.BlockStatement 24 (more (list (trees (node Kind.ReturnStatement 25 (more (child (node Kind.CallExpression 26 (more (child (node Kind.PrivateField 27 (more (child (node Kind.IdentifierReference 28 (more (string (codes "o")) end))) (more (child (node Kind.PrivateIdentifier 29 (more (string (codes "p")) end))) (more (boolean false) (more (boolean false) end)))))) (more (list end) (more (boolean false) end))))) end) ∷ []))) end))) (more (boolean false) (more (boolean false) end))))))) (more (string (codes "method")) (more (boolean false) (more (boolean false) end))))) ∷ []))) end))) end))))) (more (boolean false) (more (boolean false) end)))) ∷ []))) end))) end))) ∷ []))) end))

abbrev pub options_private_method_of_another_class : Options
options_private_method_of_another_class = options_of false None false
