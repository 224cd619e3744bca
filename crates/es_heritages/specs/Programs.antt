-- Programs with heritages. Printed by tools/rows/heritages.js.
use Rattle.std.specs.Prelude.{ℕ, List, Bool, [], ◌∷◌, true, false, codes, Some}
use Rattle.es_base.specs.Tree.{Tree, end, more, child, absent, list, string, no_string, boolean, literal, trees}
use Rattle.es_base.specs.declared.kind.Kind.{Kind}
use Rattle.es_base.specs.declared.literal.LiteralValue.TheVariants as literal_value
use Rattle.es_steps.specs.Generated.{node}
use Rattle.es_steps.specs.Options.{options_of}
use Rattle.es_steps.specs.declared.options.Options.{Options}

-- `var x; let y = 1; y = 2; class B {} function f() {} let C = class {}; class A0 extends x {} class A1 extends y {} class A2 extends z {} class A3 extends B {} class A4 extends f {} class A5 extends C {} class A6 extends (A6) {}`
abbrev pub source_bindings : Tree
source_bindings = node Kind.Program 0 (more (string (codes "script")) (more (list (trees (node Kind.VariableDeclaration 1 (more (string (codes "var")) (more (list (trees (node Kind.VariableDeclarator 2 (more (child (node Kind.BindingIdentifier 3 (more (string (codes "x")) end))) (more absent end)) ∷ []))) end)) ∷ node Kind.VariableDeclaration 4 (more (string (codes "let")) (more (list (trees (node Kind.VariableDeclarator 5 (more (child (node Kind.BindingIdentifier 6 (more (string (codes "y")) end))) (more (child (node Kind.Literal 7 (more (literal (literal_value.Number (codes "1"))) end))) end)) ∷ []))) end)) ∷ node Kind.ExpressionStatement 8 (more (child (node Kind.AssignmentExpression 9 (more (string (codes "=")) (more (child (node Kind.IdentifierReference 10 (more (string (codes "y")) end))) (more (child (node Kind.Literal 11 (more (literal (literal_value.Number (codes "2"))) end))) end))))) (more no_string end)) ∷ node Kind.ClassDeclaration 12 (more (child (node Kind.BindingIdentifier 13 (more (string (codes "B")) end))) (more absent (more (child (node Kind.ClassBody 14 (more (list end) end))) end))) ∷ node Kind.FunctionDeclaration 15 (more (child (node Kind.BindingIdentifier 16 (more (string (codes "f")) end))) (more (list end) (more (child (node Kind.BlockStatement 17 (more (list end) end))) (more (boolean false) (more (boolean false) end))))) ∷ node Kind.VariableDeclaration 18 (more (string (codes "let")) (more (list (trees (node Kind.VariableDeclarator 19 (more (child (node Kind.BindingIdentifier 20 (more (string (codes "C")) end))) (more (child (node Kind.ClassExpression 21 (more absent (more absent (more (child (node Kind.ClassBody 22 (more (list end) end))) end))))) end)) ∷ []))) end)) ∷ node Kind.ClassDeclaration 23 (more (child (node Kind.BindingIdentifier 24 (more (string (codes "A0")) end))) (more (child (node Kind.IdentifierReference 25 (more (string (codes "x")) end))) (more (child (node Kind.ClassBody 26 (more (list end) end))) end))) ∷ node Kind.ClassDeclaration 27 (more (child (node Kind.BindingIdentifier 28 (more (string (codes "A1")) end))) (more (child (node Kind.IdentifierReference 29 (more (string (codes "y")) end))) (more (child (node Kind.ClassBody 30 (more (list end) end))) end))) ∷ node Kind.ClassDeclaration 31 (more (child (node Kind.BindingIdentifier 32 (more (string (codes "A2")) end))) (more (child (node Kind.IdentifierReference 33 (more (string (codes "z")) end))) (more (child (node Kind.ClassBody 34 (more (list end) end))) end))) ∷ node Kind.ClassDeclaration 35 (more (child (node Kind.BindingIdentifier 36 (more (string (codes "A3")) end))) (more (child (node Kind.IdentifierReference 37 (more (string (codes "B")) end))) (more (child (node Kind.ClassBody 38 (more (list end) end))) end))) ∷ node Kind.ClassDeclaration 39 (more (child (node Kind.BindingIdentifier 40 (more (string (codes "A4")) end))) (more (child (node Kind.IdentifierReference 41 (more (string (codes "f")) end))) (more (child (node Kind.ClassBody 42 (more (list end) end))) end))) ∷ node Kind.ClassDeclaration 43 (more (child (node Kind.BindingIdentifier 44 (more (string (codes "A5")) end))) (more (child (node Kind.IdentifierReference 45 (more (string (codes "C")) end))) (more (child (node Kind.ClassBody 46 (more (list end) end))) end))) ∷ node Kind.ClassDeclaration 47 (more (child (node Kind.BindingIdentifier 48 (more (string (codes "A6")) end))) (more (child (node Kind.IdentifierReference 49 (more (string (codes "A6")) end))) (more (child (node Kind.ClassBody 50 (more (list end) end))) end))) ∷ []))) end))

abbrev pub options_bindings : Options
options_bindings = options_of false (Some (record { loose = false })) false

abbrev pub heritages_bindings : List (ℕ × Bool)
heritages_bindings = (23, false) ∷ (27, true) ∷ (31, true) ∷ (35, false) ∷ (39, false) ∷ (43, false) ∷ (47, false) ∷ []

-- `try { f(); } catch (e) { class A extends e {} } function g(p, q = 1) { q = 2; class B extends p {} class C extends q {} }`
abbrev pub source_caught_names : Tree
source_caught_names = node Kind.Program 0 (more (string (codes "script")) (more (list (trees (node Kind.TryStatement 1 (more (child (node Kind.BlockStatement 2 (more (list (trees (node Kind.ExpressionStatement 3 (more (child (node Kind.CallExpression 4 (more (child (node Kind.IdentifierReference 5 (more (string (codes "f")) end))) (more (list end) (more (boolean false) end))))) (more no_string end)) ∷ []))) end))) (more (child (node Kind.CatchClause 6 (more (child (node Kind.BindingIdentifier 7 (more (string (codes "e")) end))) (more (child (node Kind.BlockStatement 8 (more (list (trees (node Kind.ClassDeclaration 9 (more (child (node Kind.BindingIdentifier 10 (more (string (codes "A")) end))) (more (child (node Kind.IdentifierReference 11 (more (string (codes "e")) end))) (more (child (node Kind.ClassBody 12 (more (list end) end))) end))) ∷ []))) end))) end)))) (more absent end))) ∷ node Kind.FunctionDeclaration 13 (more (child (node Kind.BindingIdentifier 14 (more (string (codes "g")) end))) (more (list (trees (node Kind.BindingIdentifier 15 (more (string (codes "p")) end) ∷ node Kind.AssignmentPattern 16 (more (child (node Kind.BindingIdentifier 17 (more (string (codes "q")) end))) (more (child (node Kind.Literal 18 (more (literal (literal_value.Number (codes "1"))) end))) end)) ∷ []))) (more (child (node Kind.BlockStatement 19 (more (list (trees (node Kind.ExpressionStatement 20 (more (child (node Kind.AssignmentExpression 21 (more (string (codes "=")) (more (child (node Kind.IdentifierReference 22 (more (string (codes "q")) end))) (more (child (node Kind.Literal 23 (more (literal (literal_value.Number (codes "2"))) end))) end))))) (more no_string end)) ∷ node Kind.ClassDeclaration 24 (more (child (node Kind.BindingIdentifier 25 (more (string (codes "B")) end))) (more (child (node Kind.IdentifierReference 26 (more (string (codes "p")) end))) (more (child (node Kind.ClassBody 27 (more (list end) end))) end))) ∷ node Kind.ClassDeclaration 28 (more (child (node Kind.BindingIdentifier 29 (more (string (codes "C")) end))) (more (child (node Kind.IdentifierReference 30 (more (string (codes "q")) end))) (more (child (node Kind.ClassBody 31 (more (list end) end))) end))) ∷ []))) end))) (more (boolean false) (more (boolean false) end))))) ∷ []))) end))

abbrev pub options_caught_names : Options
options_caught_names = options_of false (Some (record { loose = false })) false

abbrev pub heritages_caught_names : List (ℕ × Bool)
heritages_caught_names = (9, false) ∷ (24, false) ∷ (28, true) ∷ []

-- `class B { m() { class A extends B {} return class extends (class extends B {}) {}; } } B = 0; class C extends B {}`
abbrev pub source_written_class : Tree
source_written_class = node Kind.Program 0 (more (string (codes "script")) (more (list (trees (node Kind.ClassDeclaration 1 (more (child (node Kind.BindingIdentifier 2 (more (string (codes "B")) end))) (more absent (more (child (node Kind.ClassBody 3 (more (list (trees (node Kind.MethodDefinition 4 (more (child (node Kind.IdentifierName 5 (more (string (codes "m")) end))) (more (child (node Kind.FunctionExpression 6 (more absent (more (list end) (more (child (node Kind.BlockStatement 7 (more (list (trees (node Kind.ClassDeclaration 8 (more (child (node Kind.BindingIdentifier 9 (more (string (codes "A")) end))) (more (child (node Kind.IdentifierReference 10 (more (string (codes "B")) end))) (more (child (node Kind.ClassBody 11 (more (list end) end))) end))) ∷ node Kind.ReturnStatement 12 (more (child (node Kind.ClassExpression 13 (more absent (more (child (node Kind.ClassExpression 14 (more absent (more (child (node Kind.IdentifierReference 15 (more (string (codes "B")) end))) (more (child (node Kind.ClassBody 16 (more (list end) end))) end))))) (more (child (node Kind.ClassBody 17 (more (list end) end))) end))))) end) ∷ []))) end))) (more (boolean false) (more (boolean false) end))))))) (more (string (codes "method")) (more (boolean false) (more (boolean false) end))))) ∷ []))) end))) end))) ∷ node Kind.ExpressionStatement 18 (more (child (node Kind.AssignmentExpression 19 (more (string (codes "=")) (more (child (node Kind.IdentifierReference 20 (more (string (codes "B")) end))) (more (child (node Kind.Literal 21 (more (literal (literal_value.Number (codes "0"))) end))) end))))) (more no_string end)) ∷ node Kind.ClassDeclaration 22 (more (child (node Kind.BindingIdentifier 23 (more (string (codes "C")) end))) (more (child (node Kind.IdentifierReference 24 (more (string (codes "B")) end))) (more (child (node Kind.ClassBody 25 (more (list end) end))) end))) ∷ []))) end))

abbrev pub options_written_class : Options
options_written_class = options_of false (Some (record { loose = false })) false

abbrev pub heritages_written_class : List (ℕ × Bool)
heritages_written_class = (8, false) ∷ (13, false) ∷ (14, false) ∷ (22, true) ∷ []

-- `f(class B { m() { B = 1; return class extends B {}; } });`
abbrev pub source_own_name : Tree
source_own_name = node Kind.Program 0 (more (string (codes "script")) (more (list (trees (node Kind.ExpressionStatement 1 (more (child (node Kind.CallExpression 2 (more (child (node Kind.IdentifierReference 3 (more (string (codes "f")) end))) (more (list (trees (node Kind.ClassExpression 4 (more (child (node Kind.BindingIdentifier 5 (more (string (codes "B")) end))) (more absent (more (child (node Kind.ClassBody 6 (more (list (trees (node Kind.MethodDefinition 7 (more (child (node Kind.IdentifierName 8 (more (string (codes "m")) end))) (more (child (node Kind.FunctionExpression 9 (more absent (more (list end) (more (child (node Kind.BlockStatement 10 (more (list (trees (node Kind.ExpressionStatement 11 (more (child (node Kind.AssignmentExpression 12 (more (string (codes "=")) (more (child (node Kind.IdentifierReference 13 (more (string (codes "B")) end))) (more (child (node Kind.Literal 14 (more (literal (literal_value.Number (codes "1"))) end))) end))))) (more no_string end)) ∷ node Kind.ReturnStatement 15 (more (child (node Kind.ClassExpression 16 (more absent (more (child (node Kind.IdentifierReference 17 (more (string (codes "B")) end))) (more (child (node Kind.ClassBody 18 (more (list end) end))) end))))) end) ∷ []))) end))) (more (boolean false) (more (boolean false) end))))))) (more (string (codes "method")) (more (boolean false) (more (boolean false) end))))) ∷ []))) end))) end))) ∷ []))) (more (boolean false) end))))) (more no_string end)) ∷ []))) end))

abbrev pub options_own_name : Options
options_own_name = options_of false (Some (record { loose = false })) false

abbrev pub heritages_own_name : List (ℕ × Bool)
heritages_own_name = (16, false) ∷ []

-- `class B { m(B) { B = 1; class A extends B {} } } B = 0;`
abbrev pub source_shadowed_class : Tree
source_shadowed_class = node Kind.Program 0 (more (string (codes "script")) (more (list (trees (node Kind.ClassDeclaration 1 (more (child (node Kind.BindingIdentifier 2 (more (string (codes "B")) end))) (more absent (more (child (node Kind.ClassBody 3 (more (list (trees (node Kind.MethodDefinition 4 (more (child (node Kind.IdentifierName 5 (more (string (codes "m")) end))) (more (child (node Kind.FunctionExpression 6 (more absent (more (list (trees (node Kind.BindingIdentifier 7 (more (string (codes "B")) end) ∷ []))) (more (child (node Kind.BlockStatement 8 (more (list (trees (node Kind.ExpressionStatement 9 (more (child (node Kind.AssignmentExpression 10 (more (string (codes "=")) (more (child (node Kind.IdentifierReference 11 (more (string (codes "B")) end))) (more (child (node Kind.Literal 12 (more (literal (literal_value.Number (codes "1"))) end))) end))))) (more no_string end)) ∷ node Kind.ClassDeclaration 13 (more (child (node Kind.BindingIdentifier 14 (more (string (codes "A")) end))) (more (child (node Kind.IdentifierReference 15 (more (string (codes "B")) end))) (more (child (node Kind.ClassBody 16 (more (list end) end))) end))) ∷ []))) end))) (more (boolean false) (more (boolean false) end))))))) (more (string (codes "method")) (more (boolean false) (more (boolean false) end))))) ∷ []))) end))) end))) ∷ node Kind.ExpressionStatement 17 (more (child (node Kind.AssignmentExpression 18 (more (string (codes "=")) (more (child (node Kind.IdentifierReference 19 (more (string (codes "B")) end))) (more (child (node Kind.Literal 20 (more (literal (literal_value.Number (codes "0"))) end))) end))))) (more no_string end)) ∷ []))) end))

abbrev pub options_shadowed_class : Options
options_shadowed_class = options_of false (Some (record { loose = false })) false

abbrev pub heritages_shadowed_class : List (ℕ × Bool)
heritages_shadowed_class = (13, true) ∷ []

-- `import d, { p } from "m"; let q; class A0 extends d {} class A1 extends p {} class A2 extends q {} class A3 extends import.meta {}`
abbrev pub source_imports : Tree
source_imports = node Kind.Program 0 (more (string (codes "module")) (more (list (trees (node Kind.ImportDeclaration 1 (more (list (trees (node Kind.ImportDefaultSpecifier 2 (more (child (node Kind.BindingIdentifier 3 (more (string (codes "d")) end))) end) ∷ node Kind.ImportSpecifier 4 (more (child (node Kind.IdentifierName 5 (more (string (codes "p")) end))) (more (child (node Kind.BindingIdentifier 6 (more (string (codes "p")) end))) end)) ∷ []))) (more (child (node Kind.Literal 7 (more (literal (literal_value.String (codes "m") (Some (codes "\"m\"")))) end))) end)) ∷ node Kind.VariableDeclaration 8 (more (string (codes "let")) (more (list (trees (node Kind.VariableDeclarator 9 (more (child (node Kind.BindingIdentifier 10 (more (string (codes "q")) end))) (more absent end)) ∷ []))) end)) ∷ node Kind.ClassDeclaration 11 (more (child (node Kind.BindingIdentifier 12 (more (string (codes "A0")) end))) (more (child (node Kind.IdentifierReference 13 (more (string (codes "d")) end))) (more (child (node Kind.ClassBody 14 (more (list end) end))) end))) ∷ node Kind.ClassDeclaration 15 (more (child (node Kind.BindingIdentifier 16 (more (string (codes "A1")) end))) (more (child (node Kind.IdentifierReference 17 (more (string (codes "p")) end))) (more (child (node Kind.ClassBody 18 (more (list end) end))) end))) ∷ node Kind.ClassDeclaration 19 (more (child (node Kind.BindingIdentifier 20 (more (string (codes "A2")) end))) (more (child (node Kind.IdentifierReference 21 (more (string (codes "q")) end))) (more (child (node Kind.ClassBody 22 (more (list end) end))) end))) ∷ node Kind.ClassDeclaration 23 (more (child (node Kind.BindingIdentifier 24 (more (string (codes "A3")) end))) (more (child (node Kind.MetaProperty 25 (more (child (node Kind.IdentifierName 26 (more (string (codes "import")) end))) (more (child (node Kind.IdentifierName 27 (more (string (codes "meta")) end))) end)))) (more (child (node Kind.ClassBody 28 (more (list end) end))) end))) ∷ []))) end))

abbrev pub options_imports : Options
options_imports = options_of false (Some (record { loose = false })) false

abbrev pub heritages_imports : List (ℕ × Bool)
heritages_imports = (11, true) ∷ (15, true) ∷ (19, false) ∷ (23, true) ∷ []

-- `class A extends arguments {} function f() { return class extends arguments {}; } g(() => class extends arguments {}); class B { m() { return () => class extends arguments {}; } x = () => class extends this {}; }`
abbrev pub source_arguments_of_functions : Tree
source_arguments_of_functions = node Kind.Program 0 (more (string (codes "script")) (more (list (trees (node Kind.ClassDeclaration 1 (more (child (node Kind.BindingIdentifier 2 (more (string (codes "A")) end))) (more (child (node Kind.IdentifierReference 3 (more (string (codes "arguments")) end))) (more (child (node Kind.ClassBody 4 (more (list end) end))) end))) ∷ node Kind.FunctionDeclaration 5 (more (child (node Kind.BindingIdentifier 6 (more (string (codes "f")) end))) (more (list end) (more (child (node Kind.BlockStatement 7 (more (list (trees (node Kind.ReturnStatement 8 (more (child (node Kind.ClassExpression 9 (more absent (more (child (node Kind.IdentifierReference 10 (more (string (codes "arguments")) end))) (more (child (node Kind.ClassBody 11 (more (list end) end))) end))))) end) ∷ []))) end))) (more (boolean false) (more (boolean false) end))))) ∷ node Kind.ExpressionStatement 12 (more (child (node Kind.CallExpression 13 (more (child (node Kind.IdentifierReference 14 (more (string (codes "g")) end))) (more (list (trees (node Kind.ArrowFunctionExpression 15 (more (list end) (more (child (node Kind.ClassExpression 16 (more absent (more (child (node Kind.IdentifierReference 17 (more (string (codes "arguments")) end))) (more (child (node Kind.ClassBody 18 (more (list end) end))) end))))) (more (boolean false) end))) ∷ []))) (more (boolean false) end))))) (more no_string end)) ∷ node Kind.ClassDeclaration 19 (more (child (node Kind.BindingIdentifier 20 (more (string (codes "B")) end))) (more absent (more (child (node Kind.ClassBody 21 (more (list (trees (node Kind.MethodDefinition 22 (more (child (node Kind.IdentifierName 23 (more (string (codes "m")) end))) (more (child (node Kind.FunctionExpression 24 (more absent (more (list end) (more (child (node Kind.BlockStatement 25 (more (list (trees (node Kind.ReturnStatement 26 (more (child (node Kind.ArrowFunctionExpression 27 (more (list end) (more (child (node Kind.ClassExpression 28 (more absent (more (child (node Kind.IdentifierReference 29 (more (string (codes "arguments")) end))) (more (child (node Kind.ClassBody 30 (more (list end) end))) end))))) (more (boolean false) end))))) end) ∷ []))) end))) (more (boolean false) (more (boolean false) end))))))) (more (string (codes "method")) (more (boolean false) (more (boolean false) end))))) ∷ node Kind.PropertyDefinition 31 (more (child (node Kind.IdentifierName 32 (more (string (codes "x")) end))) (more (child (node Kind.ArrowFunctionExpression 33 (more (list end) (more (child (node Kind.ClassExpression 34 (more absent (more (child (node Kind.ThisExpression 35 end)) (more (child (node Kind.ClassBody 36 (more (list end) end))) end))))) (more (boolean false) end))))) (more (boolean false) (more (boolean false) end)))) ∷ []))) end))) end))) ∷ []))) end))

abbrev pub options_arguments_of_functions : Options
options_arguments_of_functions = options_of false (Some (record { loose = false })) false

abbrev pub heritages_arguments_of_functions : List (ℕ × Bool)
heritages_arguments_of_functions = (1, true) ∷ (9, false) ∷ (16, true) ∷ (28, false) ∷ (34, false) ∷ []

-- `function f() { arguments = 1; return class extends arguments {}; }`
abbrev pub source_written_arguments : Tree
source_written_arguments = node Kind.Program 0 (more (string (codes "script")) (more (list (trees (node Kind.FunctionDeclaration 1 (more (child (node Kind.BindingIdentifier 2 (more (string (codes "f")) end))) (more (list end) (more (child (node Kind.BlockStatement 3 (more (list (trees (node Kind.ExpressionStatement 4 (more (child (node Kind.AssignmentExpression 5 (more (string (codes "=")) (more (child (node Kind.IdentifierReference 6 (more (string (codes "arguments")) end))) (more (child (node Kind.Literal 7 (more (literal (literal_value.Number (codes "1"))) end))) end))))) (more no_string end)) ∷ node Kind.ReturnStatement 8 (more (child (node Kind.ClassExpression 9 (more absent (more (child (node Kind.IdentifierReference 10 (more (string (codes "arguments")) end))) (more (child (node Kind.ClassBody 11 (more (list end) end))) end))))) end) ∷ []))) end))) (more (boolean false) (more (boolean false) end))))) ∷ []))) end))

abbrev pub options_written_arguments : Options
options_written_arguments = options_of false (Some (record { loose = false })) false

abbrev pub heritages_written_arguments : List (ℕ × Bool)
heritages_written_arguments = (9, true) ∷ []

-- `function f(arguments) { return class extends arguments {}; }`
abbrev pub source_declared_arguments : Tree
source_declared_arguments = node Kind.Program 0 (more (string (codes "script")) (more (list (trees (node Kind.FunctionDeclaration 1 (more (child (node Kind.BindingIdentifier 2 (more (string (codes "f")) end))) (more (list (trees (node Kind.BindingIdentifier 3 (more (string (codes "arguments")) end) ∷ []))) (more (child (node Kind.BlockStatement 4 (more (list (trees (node Kind.ReturnStatement 5 (more (child (node Kind.ClassExpression 6 (more absent (more (child (node Kind.IdentifierReference 7 (more (string (codes "arguments")) end))) (more (child (node Kind.ClassBody 8 (more (list end) end))) end))))) end) ∷ []))) end))) (more (boolean false) (more (boolean false) end))))) ∷ []))) end))

abbrev pub options_declared_arguments : Options
options_declared_arguments = options_of false (Some (record { loose = false })) false

abbrev pub heritages_declared_arguments : List (ℕ × Bool)
heritages_declared_arguments = (6, true) ∷ []

-- `class A0 extends null {} class A1 extends 1 {} class A2 extends 2n {} class A3 extends "s" {} class A4 extends true {} class A5 extends /r/ {} class A6 extends this {}`
abbrev pub source_constants : Tree
source_constants = node Kind.Program 0 (more (string (codes "script")) (more (list (trees (node Kind.ClassDeclaration 1 (more (child (node Kind.BindingIdentifier 2 (more (string (codes "A0")) end))) (more (child (node Kind.Literal 3 (more (literal (literal_value.Null)) end))) (more (child (node Kind.ClassBody 4 (more (list end) end))) end))) ∷ node Kind.ClassDeclaration 5 (more (child (node Kind.BindingIdentifier 6 (more (string (codes "A1")) end))) (more (child (node Kind.Literal 7 (more (literal (literal_value.Number (codes "1"))) end))) (more (child (node Kind.ClassBody 8 (more (list end) end))) end))) ∷ node Kind.ClassDeclaration 9 (more (child (node Kind.BindingIdentifier 10 (more (string (codes "A2")) end))) (more (child (node Kind.Literal 11 (more (literal (literal_value.BigInt (codes "2"))) end))) (more (child (node Kind.ClassBody 12 (more (list end) end))) end))) ∷ node Kind.ClassDeclaration 13 (more (child (node Kind.BindingIdentifier 14 (more (string (codes "A3")) end))) (more (child (node Kind.Literal 15 (more (literal (literal_value.String (codes "s") (Some (codes "\"s\"")))) end))) (more (child (node Kind.ClassBody 16 (more (list end) end))) end))) ∷ node Kind.ClassDeclaration 17 (more (child (node Kind.BindingIdentifier 18 (more (string (codes "A4")) end))) (more (child (node Kind.Literal 19 (more (literal (literal_value.Boolean true)) end))) (more (child (node Kind.ClassBody 20 (more (list end) end))) end))) ∷ node Kind.ClassDeclaration 21 (more (child (node Kind.BindingIdentifier 22 (more (string (codes "A5")) end))) (more (child (node Kind.Literal 23 (more (literal (literal_value.RegExp (codes "r") (codes ""))) end))) (more (child (node Kind.ClassBody 24 (more (list end) end))) end))) ∷ node Kind.ClassDeclaration 25 (more (child (node Kind.BindingIdentifier 26 (more (string (codes "A6")) end))) (more (child (node Kind.ThisExpression 27 end)) (more (child (node Kind.ClassBody 28 (more (list end) end))) end))) ∷ []))) end))

abbrev pub options_constants : Options
options_constants = options_of false (Some (record { loose = false })) false

abbrev pub heritages_constants : List (ℕ × Bool)
heritages_constants = (1, false) ∷ (5, false) ∷ (9, false) ∷ (13, false) ∷ (17, false) ∷ (21, true) ∷ (25, false) ∷ []

-- `function f() { return class extends new.target {}; }`
abbrev pub source_targets : Tree
source_targets = node Kind.Program 0 (more (string (codes "script")) (more (list (trees (node Kind.FunctionDeclaration 1 (more (child (node Kind.BindingIdentifier 2 (more (string (codes "f")) end))) (more (list end) (more (child (node Kind.BlockStatement 3 (more (list (trees (node Kind.ReturnStatement 4 (more (child (node Kind.ClassExpression 5 (more absent (more (child (node Kind.MetaProperty 6 (more (child (node Kind.IdentifierName 7 (more (string (codes "new")) end))) (more (child (node Kind.IdentifierName 8 (more (string (codes "target")) end))) end)))) (more (child (node Kind.ClassBody 9 (more (list end) end))) end))))) end) ∷ []))) end))) (more (boolean false) (more (boolean false) end))))) ∷ []))) end))

abbrev pub options_targets : Options
options_targets = options_of false (Some (record { loose = false })) false

abbrev pub heritages_targets : List (ℕ × Bool)
heritages_targets = (5, false) ∷ []

-- `class A0 extends `a` {} class A1 extends `a${b}` {} class A2 extends t`a` {}`
abbrev pub source_templates : Tree
source_templates = node Kind.Program 0 (more (string (codes "script")) (more (list (trees (node Kind.ClassDeclaration 1 (more (child (node Kind.BindingIdentifier 2 (more (string (codes "A0")) end))) (more (child (node Kind.TemplateLiteral 3 (more (list (trees (node Kind.TemplateElement 4 (more (string (codes "a")) (more (string (codes "a")) (more (boolean true) end))) ∷ []))) (more (list end) end)))) (more (child (node Kind.ClassBody 5 (more (list end) end))) end))) ∷ node Kind.ClassDeclaration 6 (more (child (node Kind.BindingIdentifier 7 (more (string (codes "A1")) end))) (more (child (node Kind.TemplateLiteral 8 (more (list (trees (node Kind.TemplateElement 9 (more (string (codes "a")) (more (string (codes "a")) (more (boolean false) end))) ∷ node Kind.TemplateElement 10 (more (string (codes "")) (more (string (codes "")) (more (boolean true) end))) ∷ []))) (more (list (trees (node Kind.IdentifierReference 11 (more (string (codes "b")) end) ∷ []))) end)))) (more (child (node Kind.ClassBody 12 (more (list end) end))) end))) ∷ node Kind.ClassDeclaration 13 (more (child (node Kind.BindingIdentifier 14 (more (string (codes "A2")) end))) (more (child (node Kind.TaggedTemplateExpression 15 (more (child (node Kind.IdentifierReference 16 (more (string (codes "t")) end))) (more (child (node Kind.TemplateLiteral 17 (more (list (trees (node Kind.TemplateElement 18 (more (string (codes "a")) (more (string (codes "a")) (more (boolean true) end))) ∷ []))) (more (list end) end)))) end)))) (more (child (node Kind.ClassBody 19 (more (list end) end))) end))) ∷ []))) end))

abbrev pub options_templates : Options
options_templates = options_of false (Some (record { loose = false })) false

abbrev pub heritages_templates : List (ℕ × Bool)
heritages_templates = (1, false) ∷ (6, true) ∷ (13, true) ∷ []

-- `class A0 extends (void 0) {} class A1 extends (void x) {} class A2 extends (void void 0) {} class A3 extends (void `a`) {} class A4 extends (delete this) {} class A5 extends (void delete this) {} class A6 extends (delete delete this) {} class A7 extends (delete x.y) {} class A8 extends (typeof x) {} class A9 extends (-1) {} class A10 extends (!0) {}`
abbrev pub source_unary : Tree
source_unary = node Kind.Program 0 (more (string (codes "script")) (more (list (trees (node Kind.ClassDeclaration 1 (more (child (node Kind.BindingIdentifier 2 (more (string (codes "A0")) end))) (more (child (node Kind.UnaryExpression 3 (more (string (codes "void")) (more (child (node Kind.Literal 4 (more (literal (literal_value.Number (codes "0"))) end))) end)))) (more (child (node Kind.ClassBody 5 (more (list end) end))) end))) ∷ node Kind.ClassDeclaration 6 (more (child (node Kind.BindingIdentifier 7 (more (string (codes "A1")) end))) (more (child (node Kind.UnaryExpression 8 (more (string (codes "void")) (more (child (node Kind.IdentifierReference 9 (more (string (codes "x")) end))) end)))) (more (child (node Kind.ClassBody 10 (more (list end) end))) end))) ∷ node Kind.ClassDeclaration 11 (more (child (node Kind.BindingIdentifier 12 (more (string (codes "A2")) end))) (more (child (node Kind.UnaryExpression 13 (more (string (codes "void")) (more (child (node Kind.UnaryExpression 14 (more (string (codes "void")) (more (child (node Kind.Literal 15 (more (literal (literal_value.Number (codes "0"))) end))) end)))) end)))) (more (child (node Kind.ClassBody 16 (more (list end) end))) end))) ∷ node Kind.ClassDeclaration 17 (more (child (node Kind.BindingIdentifier 18 (more (string (codes "A3")) end))) (more (child (node Kind.UnaryExpression 19 (more (string (codes "void")) (more (child (node Kind.TemplateLiteral 20 (more (list (trees (node Kind.TemplateElement 21 (more (string (codes "a")) (more (string (codes "a")) (more (boolean true) end))) ∷ []))) (more (list end) end)))) end)))) (more (child (node Kind.ClassBody 22 (more (list end) end))) end))) ∷ node Kind.ClassDeclaration 23 (more (child (node Kind.BindingIdentifier 24 (more (string (codes "A4")) end))) (more (child (node Kind.UnaryExpression 25 (more (string (codes "delete")) (more (child (node Kind.ThisExpression 26 end)) end)))) (more (child (node Kind.ClassBody 27 (more (list end) end))) end))) ∷ node Kind.ClassDeclaration 28 (more (child (node Kind.BindingIdentifier 29 (more (string (codes "A5")) end))) (more (child (node Kind.UnaryExpression 30 (more (string (codes "void")) (more (child (node Kind.UnaryExpression 31 (more (string (codes "delete")) (more (child (node Kind.ThisExpression 32 end)) end)))) end)))) (more (child (node Kind.ClassBody 33 (more (list end) end))) end))) ∷ node Kind.ClassDeclaration 34 (more (child (node Kind.BindingIdentifier 35 (more (string (codes "A6")) end))) (more (child (node Kind.UnaryExpression 36 (more (string (codes "delete")) (more (child (node Kind.UnaryExpression 37 (more (string (codes "delete")) (more (child (node Kind.ThisExpression 38 end)) end)))) end)))) (more (child (node Kind.ClassBody 39 (more (list end) end))) end))) ∷ node Kind.ClassDeclaration 40 (more (child (node Kind.BindingIdentifier 41 (more (string (codes "A7")) end))) (more (child (node Kind.UnaryExpression 42 (more (string (codes "delete")) (more (child (node Kind.MemberExpression 43 (more (child (node Kind.IdentifierReference 44 (more (string (codes "x")) end))) (more (child (node Kind.IdentifierName 45 (more (string (codes "y")) end))) (more (boolean false) (more (boolean false) end)))))) end)))) (more (child (node Kind.ClassBody 46 (more (list end) end))) end))) ∷ node Kind.ClassDeclaration 47 (more (child (node Kind.BindingIdentifier 48 (more (string (codes "A8")) end))) (more (child (node Kind.UnaryExpression 49 (more (string (codes "typeof")) (more (child (node Kind.IdentifierReference 50 (more (string (codes "x")) end))) end)))) (more (child (node Kind.ClassBody 51 (more (list end) end))) end))) ∷ node Kind.ClassDeclaration 52 (more (child (node Kind.BindingIdentifier 53 (more (string (codes "A9")) end))) (more (child (node Kind.UnaryExpression 54 (more (string (codes "-")) (more (child (node Kind.Literal 55 (more (literal (literal_value.Number (codes "1"))) end))) end)))) (more (child (node Kind.ClassBody 56 (more (list end) end))) end))) ∷ node Kind.ClassDeclaration 57 (more (child (node Kind.BindingIdentifier 58 (more (string (codes "A10")) end))) (more (child (node Kind.UnaryExpression 59 (more (string (codes "!")) (more (child (node Kind.Literal 60 (more (literal (literal_value.Number (codes "0"))) end))) end)))) (more (child (node Kind.ClassBody 61 (more (list end) end))) end))) ∷ []))) end))

abbrev pub options_unary : Options
options_unary = options_of false (Some (record { loose = false })) false

abbrev pub heritages_unary : List (ℕ × Bool)
heritages_unary = (1, false) ∷ (6, true) ∷ (11, true) ∷ (17, true) ∷ (23, false) ∷ (28, false) ∷ (34, true) ∷ (40, true) ∷ (47, true) ∷ (52, true) ∷ (57, true) ∷ []

-- `class A0 extends (0, null) {} class A1 extends (0, f()) {} class A2 extends (f(), 0) {} class A3 extends (0, (1, 2)) {}`
abbrev pub source_sequences : Tree
source_sequences = node Kind.Program 0 (more (string (codes "script")) (more (list (trees (node Kind.ClassDeclaration 1 (more (child (node Kind.BindingIdentifier 2 (more (string (codes "A0")) end))) (more (child (node Kind.SequenceExpression 3 (more (list (trees (node Kind.Literal 4 (more (literal (literal_value.Number (codes "0"))) end) ∷ node Kind.Literal 5 (more (literal (literal_value.Null)) end) ∷ []))) end))) (more (child (node Kind.ClassBody 6 (more (list end) end))) end))) ∷ node Kind.ClassDeclaration 7 (more (child (node Kind.BindingIdentifier 8 (more (string (codes "A1")) end))) (more (child (node Kind.SequenceExpression 9 (more (list (trees (node Kind.Literal 10 (more (literal (literal_value.Number (codes "0"))) end) ∷ node Kind.CallExpression 11 (more (child (node Kind.IdentifierReference 12 (more (string (codes "f")) end))) (more (list end) (more (boolean false) end))) ∷ []))) end))) (more (child (node Kind.ClassBody 13 (more (list end) end))) end))) ∷ node Kind.ClassDeclaration 14 (more (child (node Kind.BindingIdentifier 15 (more (string (codes "A2")) end))) (more (child (node Kind.SequenceExpression 16 (more (list (trees (node Kind.CallExpression 17 (more (child (node Kind.IdentifierReference 18 (more (string (codes "f")) end))) (more (list end) (more (boolean false) end))) ∷ node Kind.Literal 19 (more (literal (literal_value.Number (codes "0"))) end) ∷ []))) end))) (more (child (node Kind.ClassBody 20 (more (list end) end))) end))) ∷ node Kind.ClassDeclaration 21 (more (child (node Kind.BindingIdentifier 22 (more (string (codes "A3")) end))) (more (child (node Kind.SequenceExpression 23 (more (list (trees (node Kind.Literal 24 (more (literal (literal_value.Number (codes "0"))) end) ∷ node Kind.SequenceExpression 25 (more (list (trees (node Kind.Literal 26 (more (literal (literal_value.Number (codes "1"))) end) ∷ node Kind.Literal 27 (more (literal (literal_value.Number (codes "2"))) end) ∷ []))) end) ∷ []))) end))) (more (child (node Kind.ClassBody 28 (more (list end) end))) end))) ∷ []))) end))

abbrev pub options_sequences : Options
options_sequences = options_of false (Some (record { loose = false })) false

abbrev pub heritages_sequences : List (ℕ × Bool)
heritages_sequences = (1, false) ∷ (7, true) ∷ (14, true) ∷ (21, false) ∷ []

-- `class A0 extends (function () { f(); }) {} class A1 extends (() => f()) {} class A2 extends (async () => f()) {} class A3 extends (function* () { yield f(); }) {} class A4 extends (function F() {}) {}`
abbrev pub source_functions : Tree
source_functions = node Kind.Program 0 (more (string (codes "script")) (more (list (trees (node Kind.ClassDeclaration 1 (more (child (node Kind.BindingIdentifier 2 (more (string (codes "A0")) end))) (more (child (node Kind.FunctionExpression 3 (more absent (more (list end) (more (child (node Kind.BlockStatement 4 (more (list (trees (node Kind.ExpressionStatement 5 (more (child (node Kind.CallExpression 6 (more (child (node Kind.IdentifierReference 7 (more (string (codes "f")) end))) (more (list end) (more (boolean false) end))))) (more no_string end)) ∷ []))) end))) (more (boolean false) (more (boolean false) end))))))) (more (child (node Kind.ClassBody 8 (more (list end) end))) end))) ∷ node Kind.ClassDeclaration 9 (more (child (node Kind.BindingIdentifier 10 (more (string (codes "A1")) end))) (more (child (node Kind.ArrowFunctionExpression 11 (more (list end) (more (child (node Kind.CallExpression 12 (more (child (node Kind.IdentifierReference 13 (more (string (codes "f")) end))) (more (list end) (more (boolean false) end))))) (more (boolean false) end))))) (more (child (node Kind.ClassBody 14 (more (list end) end))) end))) ∷ node Kind.ClassDeclaration 15 (more (child (node Kind.BindingIdentifier 16 (more (string (codes "A2")) end))) (more (child (node Kind.ArrowFunctionExpression 17 (more (list end) (more (child (node Kind.CallExpression 18 (more (child (node Kind.IdentifierReference 19 (more (string (codes "f")) end))) (more (list end) (more (boolean false) end))))) (more (boolean true) end))))) (more (child (node Kind.ClassBody 20 (more (list end) end))) end))) ∷ node Kind.ClassDeclaration 21 (more (child (node Kind.BindingIdentifier 22 (more (string (codes "A3")) end))) (more (child (node Kind.FunctionExpression 23 (more absent (more (list end) (more (child (node Kind.BlockStatement 24 (more (list (trees (node Kind.ExpressionStatement 25 (more (child (node Kind.YieldExpression 26 (more (child (node Kind.CallExpression 27 (more (child (node Kind.IdentifierReference 28 (more (string (codes "f")) end))) (more (list end) (more (boolean false) end))))) (more (boolean false) end)))) (more no_string end)) ∷ []))) end))) (more (boolean false) (more (boolean true) end))))))) (more (child (node Kind.ClassBody 29 (more (list end) end))) end))) ∷ node Kind.ClassDeclaration 30 (more (child (node Kind.BindingIdentifier 31 (more (string (codes "A4")) end))) (more (child (node Kind.FunctionExpression 32 (more (child (node Kind.BindingIdentifier 33 (more (string (codes "F")) end))) (more (list end) (more (child (node Kind.BlockStatement 34 (more (list end) end))) (more (boolean false) (more (boolean false) end))))))) (more (child (node Kind.ClassBody 35 (more (list end) end))) end))) ∷ []))) end))

abbrev pub options_functions : Options
options_functions = options_of false (Some (record { loose = false })) false

abbrev pub heritages_functions : List (ℕ × Bool)
heritages_functions = (1, false) ∷ (9, false) ∷ (15, false) ∷ (21, false) ∷ (30, false) ∷ []

-- `let x, o; class A0 extends f() {} class A1 extends o.p {} class A2 extends (o?.p) {} class A3 extends o[1] {} class A4 extends (new F) {} class A5 extends [] {} class A6 extends ({}) {} class A7 extends (1 + 2) {} class A8 extends (1 && 2) {} class A9 extends (1 ? 2 : 3) {} class A10 extends (x = 1) {} class A11 extends (x++) {} class A12 extends (x += 1) {} class A13 extends (x ||= 1) {} class A14 extends ([x] = o) {} class A15 extends (1 in o) {} class A16 extends (import("m")) {}`
abbrev pub source_operations : Tree
source_operations = node Kind.Program 0 (more (string (codes "script")) (more (list (trees (node Kind.VariableDeclaration 1 (more (string (codes "let")) (more (list (trees (node Kind.VariableDeclarator 2 (more (child (node Kind.BindingIdentifier 3 (more (string (codes "x")) end))) (more absent end)) ∷ node Kind.VariableDeclarator 4 (more (child (node Kind.BindingIdentifier 5 (more (string (codes "o")) end))) (more absent end)) ∷ []))) end)) ∷ node Kind.ClassDeclaration 6 (more (child (node Kind.BindingIdentifier 7 (more (string (codes "A0")) end))) (more (child (node Kind.CallExpression 8 (more (child (node Kind.IdentifierReference 9 (more (string (codes "f")) end))) (more (list end) (more (boolean false) end))))) (more (child (node Kind.ClassBody 10 (more (list end) end))) end))) ∷ node Kind.ClassDeclaration 11 (more (child (node Kind.BindingIdentifier 12 (more (string (codes "A1")) end))) (more (child (node Kind.MemberExpression 13 (more (child (node Kind.IdentifierReference 14 (more (string (codes "o")) end))) (more (child (node Kind.IdentifierName 15 (more (string (codes "p")) end))) (more (boolean false) (more (boolean false) end)))))) (more (child (node Kind.ClassBody 16 (more (list end) end))) end))) ∷ node Kind.ClassDeclaration 17 (more (child (node Kind.BindingIdentifier 18 (more (string (codes "A2")) end))) (more (child (node Kind.ChainExpression 19 (more (child (node Kind.MemberExpression 20 (more (child (node Kind.IdentifierReference 21 (more (string (codes "o")) end))) (more (child (node Kind.IdentifierName 22 (more (string (codes "p")) end))) (more (boolean false) (more (boolean true) end)))))) end))) (more (child (node Kind.ClassBody 23 (more (list end) end))) end))) ∷ node Kind.ClassDeclaration 24 (more (child (node Kind.BindingIdentifier 25 (more (string (codes "A3")) end))) (more (child (node Kind.MemberExpression 26 (more (child (node Kind.IdentifierReference 27 (more (string (codes "o")) end))) (more (child (node Kind.Literal 28 (more (literal (literal_value.Number (codes "1"))) end))) (more (boolean true) (more (boolean false) end)))))) (more (child (node Kind.ClassBody 29 (more (list end) end))) end))) ∷ node Kind.ClassDeclaration 30 (more (child (node Kind.BindingIdentifier 31 (more (string (codes "A4")) end))) (more (child (node Kind.NewExpression 32 (more (child (node Kind.IdentifierReference 33 (more (string (codes "F")) end))) (more (list end) end)))) (more (child (node Kind.ClassBody 34 (more (list end) end))) end))) ∷ node Kind.ClassDeclaration 35 (more (child (node Kind.BindingIdentifier 36 (more (string (codes "A5")) end))) (more (child (node Kind.ArrayExpression 37 (more (list end) end))) (more (child (node Kind.ClassBody 38 (more (list end) end))) end))) ∷ node Kind.ClassDeclaration 39 (more (child (node Kind.BindingIdentifier 40 (more (string (codes "A6")) end))) (more (child (node Kind.ObjectExpression 41 (more (list end) end))) (more (child (node Kind.ClassBody 42 (more (list end) end))) end))) ∷ node Kind.ClassDeclaration 43 (more (child (node Kind.BindingIdentifier 44 (more (string (codes "A7")) end))) (more (child (node Kind.BinaryExpression 45 (more (string (codes "+")) (more (child (node Kind.Literal 46 (more (literal (literal_value.Number (codes "1"))) end))) (more (child (node Kind.Literal 47 (more (literal (literal_value.Number (codes "2"))) end))) end))))) (more (child (node Kind.ClassBody 48 (more (list end) end))) end))) ∷ node Kind.ClassDeclaration 49 (more (child (node Kind.BindingIdentifier 50 (more (string (codes "A8")) end))) (more (child (node Kind.LogicalExpression 51 (more (string (codes "&&")) (more (child (node Kind.Literal 52 (more (literal (literal_value.Number (codes "1"))) end))) (more (child (node Kind.Literal 53 (more (literal (literal_value.Number (codes "2"))) end))) end))))) (more (child (node Kind.ClassBody 54 (more (list end) end))) end))) ∷ node Kind.ClassDeclaration 55 (more (child (node Kind.BindingIdentifier 56 (more (string (codes "A9")) end))) (more (child (node Kind.ConditionalExpression 57 (more (child (node Kind.Literal 58 (more (literal (literal_value.Number (codes "1"))) end))) (more (child (node Kind.Literal 59 (more (literal (literal_value.Number (codes "2"))) end))) (more (child (node Kind.Literal 60 (more (literal (literal_value.Number (codes "3"))) end))) end))))) (more (child (node Kind.ClassBody 61 (more (list end) end))) end))) ∷ node Kind.ClassDeclaration 62 (more (child (node Kind.BindingIdentifier 63 (more (string (codes "A10")) end))) (more (child (node Kind.AssignmentExpression 64 (more (string (codes "=")) (more (child (node Kind.IdentifierReference 65 (more (string (codes "x")) end))) (more (child (node Kind.Literal 66 (more (literal (literal_value.Number (codes "1"))) end))) end))))) (more (child (node Kind.ClassBody 67 (more (list end) end))) end))) ∷ node Kind.ClassDeclaration 68 (more (child (node Kind.BindingIdentifier 69 (more (string (codes "A11")) end))) (more (child (node Kind.UpdateExpression 70 (more (string (codes "++")) (more (child (node Kind.IdentifierReference 71 (more (string (codes "x")) end))) (more (boolean false) end))))) (more (child (node Kind.ClassBody 72 (more (list end) end))) end))) ∷ node Kind.ClassDeclaration 73 (more (child (node Kind.BindingIdentifier 74 (more (string (codes "A12")) end))) (more (child (node Kind.AssignmentExpression 75 (more (string (codes "+=")) (more (child (node Kind.IdentifierReference 76 (more (string (codes "x")) end))) (more (child (node Kind.Literal 77 (more (literal (literal_value.Number (codes "1"))) end))) end))))) (more (child (node Kind.ClassBody 78 (more (list end) end))) end))) ∷ node Kind.ClassDeclaration 79 (more (child (node Kind.BindingIdentifier 80 (more (string (codes "A13")) end))) (more (child (node Kind.AssignmentExpression 81 (more (string (codes "||=")) (more (child (node Kind.IdentifierReference 82 (more (string (codes "x")) end))) (more (child (node Kind.Literal 83 (more (literal (literal_value.Number (codes "1"))) end))) end))))) (more (child (node Kind.ClassBody 84 (more (list end) end))) end))) ∷ node Kind.ClassDeclaration 85 (more (child (node Kind.BindingIdentifier 86 (more (string (codes "A14")) end))) (more (child (node Kind.AssignmentExpression 87 (more (string (codes "=")) (more (child (node Kind.ArrayAssignmentTarget 88 (more (list (trees (node Kind.IdentifierReference 89 (more (string (codes "x")) end) ∷ []))) end))) (more (child (node Kind.IdentifierReference 90 (more (string (codes "o")) end))) end))))) (more (child (node Kind.ClassBody 91 (more (list end) end))) end))) ∷ node Kind.ClassDeclaration 92 (more (child (node Kind.BindingIdentifier 93 (more (string (codes "A15")) end))) (more (child (node Kind.BinaryExpression 94 (more (string (codes "in")) (more (child (node Kind.Literal 95 (more (literal (literal_value.Number (codes "1"))) end))) (more (child (node Kind.IdentifierReference 96 (more (string (codes "o")) end))) end))))) (more (child (node Kind.ClassBody 97 (more (list end) end))) end))) ∷ node Kind.ClassDeclaration 98 (more (child (node Kind.BindingIdentifier 99 (more (string (codes "A16")) end))) (more (child (node Kind.ImportExpression 100 (more (child (node Kind.Literal 101 (more (literal (literal_value.String (codes "m") (Some (codes "\"m\"")))) end))) end))) (more (child (node Kind.ClassBody 102 (more (list end) end))) end))) ∷ []))) end))

abbrev pub options_operations : Options
options_operations = options_of false (Some (record { loose = false })) false

abbrev pub heritages_operations : List (ℕ × Bool)
heritages_operations = (6, true) ∷ (11, true) ∷ (17, true) ∷ (24, true) ∷ (30, true) ∷ (35, true) ∷ (39, true) ∷ (43, true) ∷ (49, true) ∷ (55, true) ∷ (62, true) ∷ (68, true) ∷ (73, true) ∷ (79, true) ∷ (85, true) ∷ (92, true) ∷ (98, true) ∷ []

-- `class P { #x; m(o) { return [class extends super.m {}, class extends (#x in o) {}, class extends o.#x {}]; } }`
abbrev pub source_members : Tree
source_members = node Kind.Program 0 (more (string (codes "script")) (more (list (trees (node Kind.ClassDeclaration 1 (more (child (node Kind.BindingIdentifier 2 (more (string (codes "P")) end))) (more absent (more (child (node Kind.ClassBody 3 (more (list (trees (node Kind.PropertyDefinition 4 (more (child (node Kind.PrivateIdentifier 5 (more (string (codes "x")) end))) (more absent (more (boolean false) (more (boolean false) end)))) ∷ node Kind.MethodDefinition 6 (more (child (node Kind.IdentifierName 7 (more (string (codes "m")) end))) (more (child (node Kind.FunctionExpression 8 (more absent (more (list (trees (node Kind.BindingIdentifier 9 (more (string (codes "o")) end) ∷ []))) (more (child (node Kind.BlockStatement 10 (more (list (trees (node Kind.ReturnStatement 11 (more (child (node Kind.ArrayExpression 12 (more (list (trees (node Kind.ClassExpression 13 (more absent (more (child (node Kind.MemberExpression 14 (more (child (node Kind.Super 15 end)) (more (child (node Kind.IdentifierName 16 (more (string (codes "m")) end))) (more (boolean false) (more (boolean false) end)))))) (more (child (node Kind.ClassBody 17 (more (list end) end))) end))) ∷ node Kind.ClassExpression 18 (more absent (more (child (node Kind.PrivateIn 19 (more (string (codes "in")) (more (child (node Kind.PrivateIdentifier 20 (more (string (codes "x")) end))) (more (child (node Kind.IdentifierReference 21 (more (string (codes "o")) end))) end))))) (more (child (node Kind.ClassBody 22 (more (list end) end))) end))) ∷ node Kind.ClassExpression 23 (more absent (more (child (node Kind.PrivateField 24 (more (child (node Kind.IdentifierReference 25 (more (string (codes "o")) end))) (more (child (node Kind.PrivateIdentifier 26 (more (string (codes "x")) end))) (more (boolean false) (more (boolean false) end)))))) (more (child (node Kind.ClassBody 27 (more (list end) end))) end))) ∷ []))) end))) end) ∷ []))) end))) (more (boolean false) (more (boolean false) end))))))) (more (string (codes "method")) (more (boolean false) (more (boolean false) end))))) ∷ []))) end))) end))) ∷ []))) end))

abbrev pub options_members : Options
options_members = options_of false (Some (record { loose = false })) false

abbrev pub heritages_members : List (ℕ × Bool)
heritages_members = (13, true) ∷ (18, true) ∷ (23, true) ∷ []

-- `function* g() { return class extends (yield) {}; } async function h() { return class extends (await x) {}; }`
abbrev pub source_suspended : Tree
source_suspended = node Kind.Program 0 (more (string (codes "script")) (more (list (trees (node Kind.FunctionDeclaration 1 (more (child (node Kind.BindingIdentifier 2 (more (string (codes "g")) end))) (more (list end) (more (child (node Kind.BlockStatement 3 (more (list (trees (node Kind.ReturnStatement 4 (more (child (node Kind.ClassExpression 5 (more absent (more (child (node Kind.YieldExpression 6 (more absent (more (boolean false) end)))) (more (child (node Kind.ClassBody 7 (more (list end) end))) end))))) end) ∷ []))) end))) (more (boolean false) (more (boolean true) end))))) ∷ node Kind.FunctionDeclaration 8 (more (child (node Kind.BindingIdentifier 9 (more (string (codes "h")) end))) (more (list end) (more (child (node Kind.BlockStatement 10 (more (list (trees (node Kind.ReturnStatement 11 (more (child (node Kind.ClassExpression 12 (more absent (more (child (node Kind.AwaitExpression 13 (more (child (node Kind.IdentifierReference 14 (more (string (codes "x")) end))) end))) (more (child (node Kind.ClassBody 15 (more (list end) end))) end))))) end) ∷ []))) end))) (more (boolean true) (more (boolean false) end))))) ∷ []))) end))

abbrev pub options_suspended : Options
options_suspended = options_of false (Some (record { loose = false })) false

abbrev pub heritages_suspended : List (ℕ × Bool)
heritages_suspended = (5, true) ∷ (12, true) ∷ []

-- `class A0 extends (class extends null {}) {} class A1 extends (class extends f() {}) {} class A2 extends (class extends (class extends g() {}) {}) {}`
abbrev pub source_nested_heritages : Tree
source_nested_heritages = node Kind.Program 0 (more (string (codes "script")) (more (list (trees (node Kind.ClassDeclaration 1 (more (child (node Kind.BindingIdentifier 2 (more (string (codes "A0")) end))) (more (child (node Kind.ClassExpression 3 (more absent (more (child (node Kind.Literal 4 (more (literal (literal_value.Null)) end))) (more (child (node Kind.ClassBody 5 (more (list end) end))) end))))) (more (child (node Kind.ClassBody 6 (more (list end) end))) end))) ∷ node Kind.ClassDeclaration 7 (more (child (node Kind.BindingIdentifier 8 (more (string (codes "A1")) end))) (more (child (node Kind.ClassExpression 9 (more absent (more (child (node Kind.CallExpression 10 (more (child (node Kind.IdentifierReference 11 (more (string (codes "f")) end))) (more (list end) (more (boolean false) end))))) (more (child (node Kind.ClassBody 12 (more (list end) end))) end))))) (more (child (node Kind.ClassBody 13 (more (list end) end))) end))) ∷ node Kind.ClassDeclaration 14 (more (child (node Kind.BindingIdentifier 15 (more (string (codes "A2")) end))) (more (child (node Kind.ClassExpression 16 (more absent (more (child (node Kind.ClassExpression 17 (more absent (more (child (node Kind.CallExpression 18 (more (child (node Kind.IdentifierReference 19 (more (string (codes "g")) end))) (more (list end) (more (boolean false) end))))) (more (child (node Kind.ClassBody 20 (more (list end) end))) end))))) (more (child (node Kind.ClassBody 21 (more (list end) end))) end))))) (more (child (node Kind.ClassBody 22 (more (list end) end))) end))) ∷ []))) end))

abbrev pub options_nested_heritages : Options
options_nested_heritages = options_of false (Some (record { loose = false })) false

abbrev pub heritages_nested_heritages : List (ℕ × Bool)
heritages_nested_heritages = (1, false) ∷ (3, false) ∷ (7, true) ∷ (9, true) ∷ (14, true) ∷ (16, true) ∷ (17, true) ∷ []

-- `class A0 extends (class { k() {} }) {} class A1 extends (class { [k()]() {} }) {} class A2 extends (class { ["k"]() {} }) {} class A3 extends (class { [k()] = 1; }) {} class A4 extends (class { ["k"] = f(); }) {} class A5 extends (class { static [k()]() {} }) {} class A6 extends (class { get [this]() { return f(); } }) {} class A7 extends (class { "k"() {} 1() {} 2n() {} }) {}`
abbrev pub source_keys : Tree
source_keys = node Kind.Program 0 (more (string (codes "script")) (more (list (trees (node Kind.ClassDeclaration 1 (more (child (node Kind.BindingIdentifier 2 (more (string (codes "A0")) end))) (more (child (node Kind.ClassExpression 3 (more absent (more absent (more (child (node Kind.ClassBody 4 (more (list (trees (node Kind.MethodDefinition 5 (more (child (node Kind.IdentifierName 6 (more (string (codes "k")) end))) (more (child (node Kind.FunctionExpression 7 (more absent (more (list end) (more (child (node Kind.BlockStatement 8 (more (list end) end))) (more (boolean false) (more (boolean false) end))))))) (more (string (codes "method")) (more (boolean false) (more (boolean false) end))))) ∷ []))) end))) end))))) (more (child (node Kind.ClassBody 9 (more (list end) end))) end))) ∷ node Kind.ClassDeclaration 10 (more (child (node Kind.BindingIdentifier 11 (more (string (codes "A1")) end))) (more (child (node Kind.ClassExpression 12 (more absent (more absent (more (child (node Kind.ClassBody 13 (more (list (trees (node Kind.MethodDefinition 14 (more (child (node Kind.CallExpression 15 (more (child (node Kind.IdentifierReference 16 (more (string (codes "k")) end))) (more (list end) (more (boolean false) end))))) (more (child (node Kind.FunctionExpression 17 (more absent (more (list end) (more (child (node Kind.BlockStatement 18 (more (list end) end))) (more (boolean false) (more (boolean false) end))))))) (more (string (codes "method")) (more (boolean true) (more (boolean false) end))))) ∷ []))) end))) end))))) (more (child (node Kind.ClassBody 19 (more (list end) end))) end))) ∷ node Kind.ClassDeclaration 20 (more (child (node Kind.BindingIdentifier 21 (more (string (codes "A2")) end))) (more (child (node Kind.ClassExpression 22 (more absent (more absent (more (child (node Kind.ClassBody 23 (more (list (trees (node Kind.MethodDefinition 24 (more (child (node Kind.Literal 25 (more (literal (literal_value.String (codes "k") (Some (codes "\"k\"")))) end))) (more (child (node Kind.FunctionExpression 26 (more absent (more (list end) (more (child (node Kind.BlockStatement 27 (more (list end) end))) (more (boolean false) (more (boolean false) end))))))) (more (string (codes "method")) (more (boolean true) (more (boolean false) end))))) ∷ []))) end))) end))))) (more (child (node Kind.ClassBody 28 (more (list end) end))) end))) ∷ node Kind.ClassDeclaration 29 (more (child (node Kind.BindingIdentifier 30 (more (string (codes "A3")) end))) (more (child (node Kind.ClassExpression 31 (more absent (more absent (more (child (node Kind.ClassBody 32 (more (list (trees (node Kind.PropertyDefinition 33 (more (child (node Kind.CallExpression 34 (more (child (node Kind.IdentifierReference 35 (more (string (codes "k")) end))) (more (list end) (more (boolean false) end))))) (more (child (node Kind.Literal 36 (more (literal (literal_value.Number (codes "1"))) end))) (more (boolean true) (more (boolean false) end)))) ∷ []))) end))) end))))) (more (child (node Kind.ClassBody 37 (more (list end) end))) end))) ∷ node Kind.ClassDeclaration 38 (more (child (node Kind.BindingIdentifier 39 (more (string (codes "A4")) end))) (more (child (node Kind.ClassExpression 40 (more absent (more absent (more (child (node Kind.ClassBody 41 (more (list (trees (node Kind.PropertyDefinition 42 (more (child (node Kind.Literal 43 (more (literal (literal_value.String (codes "k") (Some (codes "\"k\"")))) end))) (more (child (node Kind.CallExpression 44 (more (child (node Kind.IdentifierReference 45 (more (string (codes "f")) end))) (more (list end) (more (boolean false) end))))) (more (boolean true) (more (boolean false) end)))) ∷ []))) end))) end))))) (more (child (node Kind.ClassBody 46 (more (list end) end))) end))) ∷ node Kind.ClassDeclaration 47 (more (child (node Kind.BindingIdentifier 48 (more (string (codes "A5")) end))) (more (child (node Kind.ClassExpression 49 (more absent (more absent (more (child (node Kind.ClassBody 50 (more (list (trees (node Kind.MethodDefinition 51 (more (child (node Kind.CallExpression 52 (more (child (node Kind.IdentifierReference 53 (more (string (codes "k")) end))) (more (list end) (more (boolean false) end))))) (more (child (node Kind.FunctionExpression 54 (more absent (more (list end) (more (child (node Kind.BlockStatement 55 (more (list end) end))) (more (boolean false) (more (boolean false) end))))))) (more (string (codes "method")) (more (boolean true) (more (boolean true) end))))) ∷ []))) end))) end))))) (more (child (node Kind.ClassBody 56 (more (list end) end))) end))) ∷ node Kind.ClassDeclaration 57 (more (child (node Kind.BindingIdentifier 58 (more (string (codes "A6")) end))) (more (child (node Kind.ClassExpression 59 (more absent (more absent (more (child (node Kind.ClassBody 60 (more (list (trees (node Kind.MethodDefinition 61 (more (child (node Kind.ThisExpression 62 end)) (more (child (node Kind.FunctionExpression 63 (more absent (more (list end) (more (child (node Kind.BlockStatement 64 (more (list (trees (node Kind.ReturnStatement 65 (more (child (node Kind.CallExpression 66 (more (child (node Kind.IdentifierReference 67 (more (string (codes "f")) end))) (more (list end) (more (boolean false) end))))) end) ∷ []))) end))) (more (boolean false) (more (boolean false) end))))))) (more (string (codes "get")) (more (boolean true) (more (boolean false) end))))) ∷ []))) end))) end))))) (more (child (node Kind.ClassBody 68 (more (list end) end))) end))) ∷ node Kind.ClassDeclaration 69 (more (child (node Kind.BindingIdentifier 70 (more (string (codes "A7")) end))) (more (child (node Kind.ClassExpression 71 (more absent (more absent (more (child (node Kind.ClassBody 72 (more (list (trees (node Kind.MethodDefinition 73 (more (child (node Kind.Literal 74 (more (literal (literal_value.String (codes "k") (Some (codes "\"k\"")))) end))) (more (child (node Kind.FunctionExpression 75 (more absent (more (list end) (more (child (node Kind.BlockStatement 76 (more (list end) end))) (more (boolean false) (more (boolean false) end))))))) (more (string (codes "method")) (more (boolean false) (more (boolean false) end))))) ∷ node Kind.MethodDefinition 77 (more (child (node Kind.Literal 78 (more (literal (literal_value.Number (codes "1"))) end))) (more (child (node Kind.FunctionExpression 79 (more absent (more (list end) (more (child (node Kind.BlockStatement 80 (more (list end) end))) (more (boolean false) (more (boolean false) end))))))) (more (string (codes "method")) (more (boolean false) (more (boolean false) end))))) ∷ node Kind.MethodDefinition 81 (more (child (node Kind.Literal 82 (more (literal (literal_value.BigInt (codes "2"))) end))) (more (child (node Kind.FunctionExpression 83 (more absent (more (list end) (more (child (node Kind.BlockStatement 84 (more (list end) end))) (more (boolean false) (more (boolean false) end))))))) (more (string (codes "method")) (more (boolean false) (more (boolean false) end))))) ∷ []))) end))) end))))) (more (child (node Kind.ClassBody 85 (more (list end) end))) end))) ∷ []))) end))

abbrev pub options_keys : Options
options_keys = options_of false (Some (record { loose = false })) false

abbrev pub heritages_keys : List (ℕ × Bool)
heritages_keys = (1, false) ∷ (10, true) ∷ (20, false) ∷ (29, true) ∷ (38, false) ∷ (47, true) ∷ (57, false) ∷ (69, false) ∷ []

-- `class A0 extends (class D { [() => D]() {} }) {} class A1 extends (class D { m() { return D; } }) {} class A2 extends (class D extends (() => D) {}) {} class A3 extends (class D { static [0]() { return D; } }) {}`
abbrev pub source_names_in_heads : Tree
source_names_in_heads = node Kind.Program 0 (more (string (codes "script")) (more (list (trees (node Kind.ClassDeclaration 1 (more (child (node Kind.BindingIdentifier 2 (more (string (codes "A0")) end))) (more (child (node Kind.ClassExpression 3 (more (child (node Kind.BindingIdentifier 4 (more (string (codes "D")) end))) (more absent (more (child (node Kind.ClassBody 5 (more (list (trees (node Kind.MethodDefinition 6 (more (child (node Kind.ArrowFunctionExpression 7 (more (list end) (more (child (node Kind.IdentifierReference 8 (more (string (codes "D")) end))) (more (boolean false) end))))) (more (child (node Kind.FunctionExpression 9 (more absent (more (list end) (more (child (node Kind.BlockStatement 10 (more (list end) end))) (more (boolean false) (more (boolean false) end))))))) (more (string (codes "method")) (more (boolean true) (more (boolean false) end))))) ∷ []))) end))) end))))) (more (child (node Kind.ClassBody 11 (more (list end) end))) end))) ∷ node Kind.ClassDeclaration 12 (more (child (node Kind.BindingIdentifier 13 (more (string (codes "A1")) end))) (more (child (node Kind.ClassExpression 14 (more (child (node Kind.BindingIdentifier 15 (more (string (codes "D")) end))) (more absent (more (child (node Kind.ClassBody 16 (more (list (trees (node Kind.MethodDefinition 17 (more (child (node Kind.IdentifierName 18 (more (string (codes "m")) end))) (more (child (node Kind.FunctionExpression 19 (more absent (more (list end) (more (child (node Kind.BlockStatement 20 (more (list (trees (node Kind.ReturnStatement 21 (more (child (node Kind.IdentifierReference 22 (more (string (codes "D")) end))) end) ∷ []))) end))) (more (boolean false) (more (boolean false) end))))))) (more (string (codes "method")) (more (boolean false) (more (boolean false) end))))) ∷ []))) end))) end))))) (more (child (node Kind.ClassBody 23 (more (list end) end))) end))) ∷ node Kind.ClassDeclaration 24 (more (child (node Kind.BindingIdentifier 25 (more (string (codes "A2")) end))) (more (child (node Kind.ClassExpression 26 (more (child (node Kind.BindingIdentifier 27 (more (string (codes "D")) end))) (more (child (node Kind.ArrowFunctionExpression 28 (more (list end) (more (child (node Kind.IdentifierReference 29 (more (string (codes "D")) end))) (more (boolean false) end))))) (more (child (node Kind.ClassBody 30 (more (list end) end))) end))))) (more (child (node Kind.ClassBody 31 (more (list end) end))) end))) ∷ node Kind.ClassDeclaration 32 (more (child (node Kind.BindingIdentifier 33 (more (string (codes "A3")) end))) (more (child (node Kind.ClassExpression 34 (more (child (node Kind.BindingIdentifier 35 (more (string (codes "D")) end))) (more absent (more (child (node Kind.ClassBody 36 (more (list (trees (node Kind.MethodDefinition 37 (more (child (node Kind.Literal 38 (more (literal (literal_value.Number (codes "0"))) end))) (more (child (node Kind.FunctionExpression 39 (more absent (more (list end) (more (child (node Kind.BlockStatement 40 (more (list (trees (node Kind.ReturnStatement 41 (more (child (node Kind.IdentifierReference 42 (more (string (codes "D")) end))) end) ∷ []))) end))) (more (boolean false) (more (boolean false) end))))))) (more (string (codes "method")) (more (boolean true) (more (boolean true) end))))) ∷ []))) end))) end))))) (more (child (node Kind.ClassBody 43 (more (list end) end))) end))) ∷ []))) end))

abbrev pub options_names_in_heads : Options
options_names_in_heads = options_of false (Some (record { loose = false })) false

abbrev pub heritages_names_in_heads : List (ℕ × Bool)
heritages_names_in_heads = (1, true) ∷ (12, false) ∷ (24, true) ∷ (26, false) ∷ (32, false) ∷ []

-- `class A0 extends (class { x = f(); #y = g(); #m() {} static #s() {} get #g() { return 1; } constructor() { h(); } }) {} class A1 extends (class { static x = 1; }) {} class A2 extends (class { static x; }) {} class A3 extends (class { static #x; }) {} class A4 extends (class { x; }) {}`
abbrev pub source_elements : Tree
source_elements = node Kind.Program 0 (more (string (codes "script")) (more (list (trees (node Kind.ClassDeclaration 1 (more (child (node Kind.BindingIdentifier 2 (more (string (codes "A0")) end))) (more (child (node Kind.ClassExpression 3 (more absent (more absent (more (child (node Kind.ClassBody 4 (more (list (trees (node Kind.PropertyDefinition 5 (more (child (node Kind.IdentifierName 6 (more (string (codes "x")) end))) (more (child (node Kind.CallExpression 7 (more (child (node Kind.IdentifierReference 8 (more (string (codes "f")) end))) (more (list end) (more (boolean false) end))))) (more (boolean false) (more (boolean false) end)))) ∷ node Kind.PropertyDefinition 9 (more (child (node Kind.PrivateIdentifier 10 (more (string (codes "y")) end))) (more (child (node Kind.CallExpression 11 (more (child (node Kind.IdentifierReference 12 (more (string (codes "g")) end))) (more (list end) (more (boolean false) end))))) (more (boolean false) (more (boolean false) end)))) ∷ node Kind.MethodDefinition 13 (more (child (node Kind.PrivateIdentifier 14 (more (string (codes "m")) end))) (more (child (node Kind.FunctionExpression 15 (more absent (more (list end) (more (child (node Kind.BlockStatement 16 (more (list end) end))) (more (boolean false) (more (boolean false) end))))))) (more (string (codes "method")) (more (boolean false) (more (boolean false) end))))) ∷ node Kind.MethodDefinition 17 (more (child (node Kind.PrivateIdentifier 18 (more (string (codes "s")) end))) (more (child (node Kind.FunctionExpression 19 (more absent (more (list end) (more (child (node Kind.BlockStatement 20 (more (list end) end))) (more (boolean false) (more (boolean false) end))))))) (more (string (codes "method")) (more (boolean false) (more (boolean true) end))))) ∷ node Kind.MethodDefinition 21 (more (child (node Kind.PrivateIdentifier 22 (more (string (codes "g")) end))) (more (child (node Kind.FunctionExpression 23 (more absent (more (list end) (more (child (node Kind.BlockStatement 24 (more (list (trees (node Kind.ReturnStatement 25 (more (child (node Kind.Literal 26 (more (literal (literal_value.Number (codes "1"))) end))) end) ∷ []))) end))) (more (boolean false) (more (boolean false) end))))))) (more (string (codes "get")) (more (boolean false) (more (boolean false) end))))) ∷ node Kind.MethodDefinition 27 (more (child (node Kind.IdentifierName 28 (more (string (codes "constructor")) end))) (more (child (node Kind.FunctionExpression 29 (more absent (more (list end) (more (child (node Kind.BlockStatement 30 (more (list (trees (node Kind.ExpressionStatement 31 (more (child (node Kind.CallExpression 32 (more (child (node Kind.IdentifierReference 33 (more (string (codes "h")) end))) (more (list end) (more (boolean false) end))))) (more no_string end)) ∷ []))) end))) (more (boolean false) (more (boolean false) end))))))) (more (string (codes "constructor")) (more (boolean false) (more (boolean false) end))))) ∷ []))) end))) end))))) (more (child (node Kind.ClassBody 34 (more (list end) end))) end))) ∷ node Kind.ClassDeclaration 35 (more (child (node Kind.BindingIdentifier 36 (more (string (codes "A1")) end))) (more (child (node Kind.ClassExpression 37 (more absent (more absent (more (child (node Kind.ClassBody 38 (more (list (trees (node Kind.PropertyDefinition 39 (more (child (node Kind.IdentifierName 40 (more (string (codes "x")) end))) (more (child (node Kind.Literal 41 (more (literal (literal_value.Number (codes "1"))) end))) (more (boolean false) (more (boolean true) end)))) ∷ []))) end))) end))))) (more (child (node Kind.ClassBody 42 (more (list end) end))) end))) ∷ node Kind.ClassDeclaration 43 (more (child (node Kind.BindingIdentifier 44 (more (string (codes "A2")) end))) (more (child (node Kind.ClassExpression 45 (more absent (more absent (more (child (node Kind.ClassBody 46 (more (list (trees (node Kind.PropertyDefinition 47 (more (child (node Kind.IdentifierName 48 (more (string (codes "x")) end))) (more absent (more (boolean false) (more (boolean true) end)))) ∷ []))) end))) end))))) (more (child (node Kind.ClassBody 49 (more (list end) end))) end))) ∷ node Kind.ClassDeclaration 50 (more (child (node Kind.BindingIdentifier 51 (more (string (codes "A3")) end))) (more (child (node Kind.ClassExpression 52 (more absent (more absent (more (child (node Kind.ClassBody 53 (more (list (trees (node Kind.PropertyDefinition 54 (more (child (node Kind.PrivateIdentifier 55 (more (string (codes "x")) end))) (more absent (more (boolean false) (more (boolean true) end)))) ∷ []))) end))) end))))) (more (child (node Kind.ClassBody 56 (more (list end) end))) end))) ∷ node Kind.ClassDeclaration 57 (more (child (node Kind.BindingIdentifier 58 (more (string (codes "A4")) end))) (more (child (node Kind.ClassExpression 59 (more absent (more absent (more (child (node Kind.ClassBody 60 (more (list (trees (node Kind.PropertyDefinition 61 (more (child (node Kind.IdentifierName 62 (more (string (codes "x")) end))) (more absent (more (boolean false) (more (boolean false) end)))) ∷ []))) end))) end))))) (more (child (node Kind.ClassBody 63 (more (list end) end))) end))) ∷ []))) end))

abbrev pub options_elements : Options
options_elements = options_of false (Some (record { loose = false })) false

abbrev pub heritages_elements : List (ℕ × Bool)
heritages_elements = (1, false) ∷ (35, true) ∷ (43, true) ∷ (50, true) ∷ (57, false) ∷ []

-- `class A0 extends (class { static x; }) {} class A1 extends (class { static x = 1; }) {} class A2 extends (class { static #x; }) {} class A3 extends (class { static [f()]; }) {} class A4 extends (class { static "name"; }) {}`
abbrev pub source_removed_fields : Tree
source_removed_fields = node Kind.Program 0 (more (string (codes "script")) (more (list (trees (node Kind.ClassDeclaration 1 (more (child (node Kind.BindingIdentifier 2 (more (string (codes "A0")) end))) (more (child (node Kind.ClassExpression 3 (more absent (more absent (more (child (node Kind.ClassBody 4 (more (list (trees (node Kind.PropertyDefinition 5 (more (child (node Kind.IdentifierName 6 (more (string (codes "x")) end))) (more absent (more (boolean false) (more (boolean true) end)))) ∷ []))) end))) end))))) (more (child (node Kind.ClassBody 7 (more (list end) end))) end))) ∷ node Kind.ClassDeclaration 8 (more (child (node Kind.BindingIdentifier 9 (more (string (codes "A1")) end))) (more (child (node Kind.ClassExpression 10 (more absent (more absent (more (child (node Kind.ClassBody 11 (more (list (trees (node Kind.PropertyDefinition 12 (more (child (node Kind.IdentifierName 13 (more (string (codes "x")) end))) (more (child (node Kind.Literal 14 (more (literal (literal_value.Number (codes "1"))) end))) (more (boolean false) (more (boolean true) end)))) ∷ []))) end))) end))))) (more (child (node Kind.ClassBody 15 (more (list end) end))) end))) ∷ node Kind.ClassDeclaration 16 (more (child (node Kind.BindingIdentifier 17 (more (string (codes "A2")) end))) (more (child (node Kind.ClassExpression 18 (more absent (more absent (more (child (node Kind.ClassBody 19 (more (list (trees (node Kind.PropertyDefinition 20 (more (child (node Kind.PrivateIdentifier 21 (more (string (codes "x")) end))) (more absent (more (boolean false) (more (boolean true) end)))) ∷ []))) end))) end))))) (more (child (node Kind.ClassBody 22 (more (list end) end))) end))) ∷ node Kind.ClassDeclaration 23 (more (child (node Kind.BindingIdentifier 24 (more (string (codes "A3")) end))) (more (child (node Kind.ClassExpression 25 (more absent (more absent (more (child (node Kind.ClassBody 26 (more (list (trees (node Kind.PropertyDefinition 27 (more (child (node Kind.CallExpression 28 (more (child (node Kind.IdentifierReference 29 (more (string (codes "f")) end))) (more (list end) (more (boolean false) end))))) (more absent (more (boolean true) (more (boolean true) end)))) ∷ []))) end))) end))))) (more (child (node Kind.ClassBody 30 (more (list end) end))) end))) ∷ node Kind.ClassDeclaration 31 (more (child (node Kind.BindingIdentifier 32 (more (string (codes "A4")) end))) (more (child (node Kind.ClassExpression 33 (more absent (more absent (more (child (node Kind.ClassBody 34 (more (list (trees (node Kind.PropertyDefinition 35 (more (child (node Kind.Literal 36 (more (literal (literal_value.String (codes "name") (Some (codes "\"name\"")))) end))) (more absent (more (boolean false) (more (boolean true) end)))) ∷ []))) end))) end))))) (more (child (node Kind.ClassBody 37 (more (list end) end))) end))) ∷ []))) end))

abbrev pub options_removed_fields : Options
options_removed_fields = options_of false (Some (record { loose = true })) true

abbrev pub heritages_removed_fields : List (ℕ × Bool)
heritages_removed_fields = (1, false) ∷ (8, true) ∷ (16, true) ∷ (23, true) ∷ (31, false) ∷ []

-- `class A0 extends (class { static x; }) {} class A1 extends (class { x; }) {}`
abbrev pub source_set_fields : Tree
source_set_fields = node Kind.Program 0 (more (string (codes "script")) (more (list (trees (node Kind.ClassDeclaration 1 (more (child (node Kind.BindingIdentifier 2 (more (string (codes "A0")) end))) (more (child (node Kind.ClassExpression 3 (more absent (more absent (more (child (node Kind.ClassBody 4 (more (list (trees (node Kind.PropertyDefinition 5 (more (child (node Kind.IdentifierName 6 (more (string (codes "x")) end))) (more absent (more (boolean false) (more (boolean true) end)))) ∷ []))) end))) end))))) (more (child (node Kind.ClassBody 7 (more (list end) end))) end))) ∷ node Kind.ClassDeclaration 8 (more (child (node Kind.BindingIdentifier 9 (more (string (codes "A1")) end))) (more (child (node Kind.ClassExpression 10 (more absent (more absent (more (child (node Kind.ClassBody 11 (more (list (trees (node Kind.PropertyDefinition 12 (more (child (node Kind.IdentifierName 13 (more (string (codes "x")) end))) (more absent (more (boolean false) (more (boolean false) end)))) ∷ []))) end))) end))))) (more (child (node Kind.ClassBody 14 (more (list end) end))) end))) ∷ []))) end))

abbrev pub options_set_fields : Options
options_set_fields = options_of false (Some (record { loose = true })) false

abbrev pub heritages_set_fields : List (ℕ × Bool)
heritages_set_fields = (1, true) ∷ (8, false) ∷ []

-- `class A0 extends (class { static {} }) {} class A1 extends (class { static { f(); } }) {} class A2 extends (class { static { 1; ; {} } }) {} class A3 extends (class { static { var x; function g() {} } }) {} class A4 extends (class { static { var x = 1; } }) {} class A5 extends (class { static { let { a } = b; } }) {}`
abbrev pub source_blocks : Tree
source_blocks = node Kind.Program 0 (more (string (codes "script")) (more (list (trees (node Kind.ClassDeclaration 1 (more (child (node Kind.BindingIdentifier 2 (more (string (codes "A0")) end))) (more (child (node Kind.ClassExpression 3 (more absent (more absent (more (child (node Kind.ClassBody 4 (more (list (trees (node Kind.StaticBlock 5 (more (list end) end) ∷ []))) end))) end))))) (more (child (node Kind.ClassBody 6 (more (list end) end))) end))) ∷ node Kind.ClassDeclaration 7 (more (child (node Kind.BindingIdentifier 8 (more (string (codes "A1")) end))) (more (child (node Kind.ClassExpression 9 (more absent (more absent (more (child (node Kind.ClassBody 10 (more (list (trees (node Kind.StaticBlock 11 (more (list (trees (node Kind.ExpressionStatement 12 (more (child (node Kind.CallExpression 13 (more (child (node Kind.IdentifierReference 14 (more (string (codes "f")) end))) (more (list end) (more (boolean false) end))))) (more no_string end)) ∷ []))) end) ∷ []))) end))) end))))) (more (child (node Kind.ClassBody 15 (more (list end) end))) end))) ∷ node Kind.ClassDeclaration 16 (more (child (node Kind.BindingIdentifier 17 (more (string (codes "A2")) end))) (more (child (node Kind.ClassExpression 18 (more absent (more absent (more (child (node Kind.ClassBody 19 (more (list (trees (node Kind.StaticBlock 20 (more (list (trees (node Kind.ExpressionStatement 21 (more (child (node Kind.Literal 22 (more (literal (literal_value.Number (codes "1"))) end))) (more no_string end)) ∷ node Kind.EmptyStatement 23 end ∷ node Kind.BlockStatement 24 (more (list end) end) ∷ []))) end) ∷ []))) end))) end))))) (more (child (node Kind.ClassBody 25 (more (list end) end))) end))) ∷ node Kind.ClassDeclaration 26 (more (child (node Kind.BindingIdentifier 27 (more (string (codes "A3")) end))) (more (child (node Kind.ClassExpression 28 (more absent (more absent (more (child (node Kind.ClassBody 29 (more (list (trees (node Kind.StaticBlock 30 (more (list (trees (node Kind.VariableDeclaration 31 (more (string (codes "var")) (more (list (trees (node Kind.VariableDeclarator 32 (more (child (node Kind.BindingIdentifier 33 (more (string (codes "x")) end))) (more absent end)) ∷ []))) end)) ∷ node Kind.FunctionDeclaration 34 (more (child (node Kind.BindingIdentifier 35 (more (string (codes "g")) end))) (more (list end) (more (child (node Kind.BlockStatement 36 (more (list end) end))) (more (boolean false) (more (boolean false) end))))) ∷ []))) end) ∷ []))) end))) end))))) (more (child (node Kind.ClassBody 37 (more (list end) end))) end))) ∷ node Kind.ClassDeclaration 38 (more (child (node Kind.BindingIdentifier 39 (more (string (codes "A4")) end))) (more (child (node Kind.ClassExpression 40 (more absent (more absent (more (child (node Kind.ClassBody 41 (more (list (trees (node Kind.StaticBlock 42 (more (list (trees (node Kind.VariableDeclaration 43 (more (string (codes "var")) (more (list (trees (node Kind.VariableDeclarator 44 (more (child (node Kind.BindingIdentifier 45 (more (string (codes "x")) end))) (more (child (node Kind.Literal 46 (more (literal (literal_value.Number (codes "1"))) end))) end)) ∷ []))) end)) ∷ []))) end) ∷ []))) end))) end))))) (more (child (node Kind.ClassBody 47 (more (list end) end))) end))) ∷ node Kind.ClassDeclaration 48 (more (child (node Kind.BindingIdentifier 49 (more (string (codes "A5")) end))) (more (child (node Kind.ClassExpression 50 (more absent (more absent (more (child (node Kind.ClassBody 51 (more (list (trees (node Kind.StaticBlock 52 (more (list (trees (node Kind.VariableDeclaration 53 (more (string (codes "let")) (more (list (trees (node Kind.VariableDeclarator 54 (more (child (node Kind.ObjectPattern 55 (more (list (trees (node Kind.BindingProperty 56 (more (child (node Kind.IdentifierName 57 (more (string (codes "a")) end))) (more (child (node Kind.BindingIdentifier 58 (more (string (codes "a")) end))) (more (string (codes "init")) (more (boolean false) (more (boolean true) (more (boolean false) end)))))) ∷ []))) end))) (more (child (node Kind.IdentifierReference 59 (more (string (codes "b")) end))) end)) ∷ []))) end)) ∷ []))) end) ∷ []))) end))) end))))) (more (child (node Kind.ClassBody 60 (more (list end) end))) end))) ∷ []))) end))

abbrev pub options_blocks : Options
options_blocks = options_of false (Some (record { loose = false })) false

abbrev pub heritages_blocks : List (ℕ × Bool)
heritages_blocks = (1, false) ∷ (7, true) ∷ (16, false) ∷ (26, false) ∷ (38, true) ∷ (48, true) ∷ []

-- `class A0 extends (class { static { { function g() {} } } }) {} class A1 extends (class { static { { async function g() {} function* h() {} } } }) {} class A2 extends (class { static { { { let x; } } } }) {}`
abbrev pub source_functions_in_blocks : Tree
source_functions_in_blocks = node Kind.Program 0 (more (string (codes "script")) (more (list (trees (node Kind.ClassDeclaration 1 (more (child (node Kind.BindingIdentifier 2 (more (string (codes "A0")) end))) (more (child (node Kind.ClassExpression 3 (more absent (more absent (more (child (node Kind.ClassBody 4 (more (list (trees (node Kind.StaticBlock 5 (more (list (trees (node Kind.BlockStatement 6 (more (list (trees (node Kind.FunctionDeclaration 7 (more (child (node Kind.BindingIdentifier 8 (more (string (codes "g")) end))) (more (list end) (more (child (node Kind.BlockStatement 9 (more (list end) end))) (more (boolean false) (more (boolean false) end))))) ∷ []))) end) ∷ []))) end) ∷ []))) end))) end))))) (more (child (node Kind.ClassBody 10 (more (list end) end))) end))) ∷ node Kind.ClassDeclaration 11 (more (child (node Kind.BindingIdentifier 12 (more (string (codes "A1")) end))) (more (child (node Kind.ClassExpression 13 (more absent (more absent (more (child (node Kind.ClassBody 14 (more (list (trees (node Kind.StaticBlock 15 (more (list (trees (node Kind.BlockStatement 16 (more (list (trees (node Kind.FunctionDeclaration 17 (more (child (node Kind.BindingIdentifier 18 (more (string (codes "g")) end))) (more (list end) (more (child (node Kind.BlockStatement 19 (more (list end) end))) (more (boolean true) (more (boolean false) end))))) ∷ node Kind.FunctionDeclaration 20 (more (child (node Kind.BindingIdentifier 21 (more (string (codes "h")) end))) (more (list end) (more (child (node Kind.BlockStatement 22 (more (list end) end))) (more (boolean false) (more (boolean true) end))))) ∷ []))) end) ∷ []))) end) ∷ []))) end))) end))))) (more (child (node Kind.ClassBody 23 (more (list end) end))) end))) ∷ node Kind.ClassDeclaration 24 (more (child (node Kind.BindingIdentifier 25 (more (string (codes "A2")) end))) (more (child (node Kind.ClassExpression 26 (more absent (more absent (more (child (node Kind.ClassBody 27 (more (list (trees (node Kind.StaticBlock 28 (more (list (trees (node Kind.BlockStatement 29 (more (list (trees (node Kind.BlockStatement 30 (more (list (trees (node Kind.VariableDeclaration 31 (more (string (codes "let")) (more (list (trees (node Kind.VariableDeclarator 32 (more (child (node Kind.BindingIdentifier 33 (more (string (codes "x")) end))) (more absent end)) ∷ []))) end)) ∷ []))) end) ∷ []))) end) ∷ []))) end) ∷ []))) end))) end))))) (more (child (node Kind.ClassBody 34 (more (list end) end))) end))) ∷ []))) end))

abbrev pub options_functions_in_blocks : Options
options_functions_in_blocks = options_of false (Some (record { loose = false })) false

abbrev pub heritages_functions_in_blocks : List (ℕ × Bool)
heritages_functions_in_blocks = (1, true) ∷ (11, true) ∷ (24, true) ∷ []

-- `class A0 extends (class { static { class D {} } }) {} class A1 extends (class { static { (class D {}); } }) {} class A2 extends (class { static { debugger; } }) {} class A3 extends (class { static { if (1) 2; } }) {} class A4 extends (class { static { l: 1; } }) {} class A5 extends (class { static { for (;;) {} } }) {} class A6 extends (class { static { (class { static x = 1; }); } }) {} class A7 extends (class { static { throw 1; } }) {} class A8 extends (class { static { try {} catch {} } }) {}`
abbrev pub source_statements_in_blocks : Tree
source_statements_in_blocks = node Kind.Program 0 (more (string (codes "script")) (more (list (trees (node Kind.ClassDeclaration 1 (more (child (node Kind.BindingIdentifier 2 (more (string (codes "A0")) end))) (more (child (node Kind.ClassExpression 3 (more absent (more absent (more (child (node Kind.ClassBody 4 (more (list (trees (node Kind.StaticBlock 5 (more (list (trees (node Kind.ClassDeclaration 6 (more (child (node Kind.BindingIdentifier 7 (more (string (codes "D")) end))) (more absent (more (child (node Kind.ClassBody 8 (more (list end) end))) end))) ∷ []))) end) ∷ []))) end))) end))))) (more (child (node Kind.ClassBody 9 (more (list end) end))) end))) ∷ node Kind.ClassDeclaration 10 (more (child (node Kind.BindingIdentifier 11 (more (string (codes "A1")) end))) (more (child (node Kind.ClassExpression 12 (more absent (more absent (more (child (node Kind.ClassBody 13 (more (list (trees (node Kind.StaticBlock 14 (more (list (trees (node Kind.ExpressionStatement 15 (more (child (node Kind.ClassExpression 16 (more (child (node Kind.BindingIdentifier 17 (more (string (codes "D")) end))) (more absent (more (child (node Kind.ClassBody 18 (more (list end) end))) end))))) (more no_string end)) ∷ []))) end) ∷ []))) end))) end))))) (more (child (node Kind.ClassBody 19 (more (list end) end))) end))) ∷ node Kind.ClassDeclaration 20 (more (child (node Kind.BindingIdentifier 21 (more (string (codes "A2")) end))) (more (child (node Kind.ClassExpression 22 (more absent (more absent (more (child (node Kind.ClassBody 23 (more (list (trees (node Kind.StaticBlock 24 (more (list (trees (node Kind.DebuggerStatement 25 end ∷ []))) end) ∷ []))) end))) end))))) (more (child (node Kind.ClassBody 26 (more (list end) end))) end))) ∷ node Kind.ClassDeclaration 27 (more (child (node Kind.BindingIdentifier 28 (more (string (codes "A3")) end))) (more (child (node Kind.ClassExpression 29 (more absent (more absent (more (child (node Kind.ClassBody 30 (more (list (trees (node Kind.StaticBlock 31 (more (list (trees (node Kind.IfStatement 32 (more (child (node Kind.Literal 33 (more (literal (literal_value.Number (codes "1"))) end))) (more (child (node Kind.ExpressionStatement 34 (more (child (node Kind.Literal 35 (more (literal (literal_value.Number (codes "2"))) end))) (more no_string end)))) (more absent end))) ∷ []))) end) ∷ []))) end))) end))))) (more (child (node Kind.ClassBody 36 (more (list end) end))) end))) ∷ node Kind.ClassDeclaration 37 (more (child (node Kind.BindingIdentifier 38 (more (string (codes "A4")) end))) (more (child (node Kind.ClassExpression 39 (more absent (more absent (more (child (node Kind.ClassBody 40 (more (list (trees (node Kind.StaticBlock 41 (more (list (trees (node Kind.LabeledStatement 42 (more (child (node Kind.IdentifierName 43 (more (string (codes "l")) end))) (more (child (node Kind.ExpressionStatement 44 (more (child (node Kind.Literal 45 (more (literal (literal_value.Number (codes "1"))) end))) (more no_string end)))) end)) ∷ []))) end) ∷ []))) end))) end))))) (more (child (node Kind.ClassBody 46 (more (list end) end))) end))) ∷ node Kind.ClassDeclaration 47 (more (child (node Kind.BindingIdentifier 48 (more (string (codes "A5")) end))) (more (child (node Kind.ClassExpression 49 (more absent (more absent (more (child (node Kind.ClassBody 50 (more (list (trees (node Kind.StaticBlock 51 (more (list (trees (node Kind.ForStatement 52 (more absent (more absent (more absent (more (child (node Kind.BlockStatement 53 (more (list end) end))) end)))) ∷ []))) end) ∷ []))) end))) end))))) (more (child (node Kind.ClassBody 54 (more (list end) end))) end))) ∷ node Kind.ClassDeclaration 55 (more (child (node Kind.BindingIdentifier 56 (more (string (codes "A6")) end))) (more (child (node Kind.ClassExpression 57 (more absent (more absent (more (child (node Kind.ClassBody 58 (more (list (trees (node Kind.StaticBlock 59 (more (list (trees (node Kind.ExpressionStatement 60 (more (child (node Kind.ClassExpression 61 (more absent (more absent (more (child (node Kind.ClassBody 62 (more (list (trees (node Kind.PropertyDefinition 63 (more (child (node Kind.IdentifierName 64 (more (string (codes "x")) end))) (more (child (node Kind.Literal 65 (more (literal (literal_value.Number (codes "1"))) end))) (more (boolean false) (more (boolean true) end)))) ∷ []))) end))) end))))) (more no_string end)) ∷ []))) end) ∷ []))) end))) end))))) (more (child (node Kind.ClassBody 66 (more (list end) end))) end))) ∷ node Kind.ClassDeclaration 67 (more (child (node Kind.BindingIdentifier 68 (more (string (codes "A7")) end))) (more (child (node Kind.ClassExpression 69 (more absent (more absent (more (child (node Kind.ClassBody 70 (more (list (trees (node Kind.StaticBlock 71 (more (list (trees (node Kind.ThrowStatement 72 (more (child (node Kind.Literal 73 (more (literal (literal_value.Number (codes "1"))) end))) end) ∷ []))) end) ∷ []))) end))) end))))) (more (child (node Kind.ClassBody 74 (more (list end) end))) end))) ∷ node Kind.ClassDeclaration 75 (more (child (node Kind.BindingIdentifier 76 (more (string (codes "A8")) end))) (more (child (node Kind.ClassExpression 77 (more absent (more absent (more (child (node Kind.ClassBody 78 (more (list (trees (node Kind.StaticBlock 79 (more (list (trees (node Kind.TryStatement 80 (more (child (node Kind.BlockStatement 81 (more (list end) end))) (more (child (node Kind.CatchClause 82 (more absent (more (child (node Kind.BlockStatement 83 (more (list end) end))) end)))) (more absent end))) ∷ []))) end) ∷ []))) end))) end))))) (more (child (node Kind.ClassBody 84 (more (list end) end))) end))) ∷ []))) end))

abbrev pub options_statements_in_blocks : Options
options_statements_in_blocks = options_of true (Some (record { loose = false })) false

abbrev pub heritages_statements_in_blocks : List (ℕ × Bool)
heritages_statements_in_blocks = (1, true) ∷ (10, false) ∷ (20, true) ∷ (27, true) ∷ (37, true) ∷ (47, true) ∷ (55, true) ∷ (67, true) ∷ (75, true) ∷ []

-- `f(class B { static { B = 1; (class extends B {}); } m() { return class extends (class { static { B; z; } }) {}; } n() { return class extends (class { static { B; } }) {}; } });`
abbrev pub source_names_in_blocks : Tree
source_names_in_blocks = node Kind.Program 0 (more (string (codes "script")) (more (list (trees (node Kind.ExpressionStatement 1 (more (child (node Kind.CallExpression 2 (more (child (node Kind.IdentifierReference 3 (more (string (codes "f")) end))) (more (list (trees (node Kind.ClassExpression 4 (more (child (node Kind.BindingIdentifier 5 (more (string (codes "B")) end))) (more absent (more (child (node Kind.ClassBody 6 (more (list (trees (node Kind.StaticBlock 7 (more (list (trees (node Kind.ExpressionStatement 8 (more (child (node Kind.AssignmentExpression 9 (more (string (codes "=")) (more (child (node Kind.IdentifierReference 10 (more (string (codes "B")) end))) (more (child (node Kind.Literal 11 (more (literal (literal_value.Number (codes "1"))) end))) end))))) (more no_string end)) ∷ node Kind.ExpressionStatement 12 (more (child (node Kind.ClassExpression 13 (more absent (more (child (node Kind.IdentifierReference 14 (more (string (codes "B")) end))) (more (child (node Kind.ClassBody 15 (more (list end) end))) end))))) (more no_string end)) ∷ []))) end) ∷ node Kind.MethodDefinition 16 (more (child (node Kind.IdentifierName 17 (more (string (codes "m")) end))) (more (child (node Kind.FunctionExpression 18 (more absent (more (list end) (more (child (node Kind.BlockStatement 19 (more (list (trees (node Kind.ReturnStatement 20 (more (child (node Kind.ClassExpression 21 (more absent (more (child (node Kind.ClassExpression 22 (more absent (more absent (more (child (node Kind.ClassBody 23 (more (list (trees (node Kind.StaticBlock 24 (more (list (trees (node Kind.ExpressionStatement 25 (more (child (node Kind.IdentifierReference 26 (more (string (codes "B")) end))) (more no_string end)) ∷ node Kind.ExpressionStatement 27 (more (child (node Kind.IdentifierReference 28 (more (string (codes "z")) end))) (more no_string end)) ∷ []))) end) ∷ []))) end))) end))))) (more (child (node Kind.ClassBody 29 (more (list end) end))) end))))) end) ∷ []))) end))) (more (boolean false) (more (boolean false) end))))))) (more (string (codes "method")) (more (boolean false) (more (boolean false) end))))) ∷ node Kind.MethodDefinition 30 (more (child (node Kind.IdentifierName 31 (more (string (codes "n")) end))) (more (child (node Kind.FunctionExpression 32 (more absent (more (list end) (more (child (node Kind.BlockStatement 33 (more (list (trees (node Kind.ReturnStatement 34 (more (child (node Kind.ClassExpression 35 (more absent (more (child (node Kind.ClassExpression 36 (more absent (more absent (more (child (node Kind.ClassBody 37 (more (list (trees (node Kind.StaticBlock 38 (more (list (trees (node Kind.ExpressionStatement 39 (more (child (node Kind.IdentifierReference 40 (more (string (codes "B")) end))) (more no_string end)) ∷ []))) end) ∷ []))) end))) end))))) (more (child (node Kind.ClassBody 41 (more (list end) end))) end))))) end) ∷ []))) end))) (more (boolean false) (more (boolean false) end))))))) (more (string (codes "method")) (more (boolean false) (more (boolean false) end))))) ∷ []))) end))) end))) ∷ []))) (more (boolean false) end))))) (more no_string end)) ∷ []))) end))

abbrev pub options_names_in_blocks : Options
options_names_in_blocks = options_of false (Some (record { loose = false })) false

abbrev pub heritages_names_in_blocks : List (ℕ × Bool)
heritages_names_in_blocks = (13, false) ∷ (21, true) ∷ (35, false) ∷ []
