-- `let a; function f(b) { a = b; }`: the scopes, the declarations and the references of a program that is written out.
use Rattle.std.proofs.Common.{◌≡◌, refl, ℕ, List, [], ◌∷◌, Some, None, true, false}
use Rattle.std.specs.Prelude.{codes}
use Rattle.es_base.specs.Tree.{Tree, Parts, Node, end, more, child, absent, list, string, boolean, no_string}
use Rattle.es_base.specs.declared.kind.Kind.{Kind}
use Rattle.es_scopes.specs.NodeScopes.{scopes_of}
use Rattle.es_scopes.specs.NodeBindings.{bindings_of}
use Rattle.es_scopes.specs.NodeReferences.{references_of}

abbrev node : Kind → ℕ → Parts → Tree
node kind m ps = Node kind m None None ps

abbrev name : Kind → ℕ → List ℕ → Tree
name kind m s = node kind m (more (string s) end)

-- `let a;`
abbrev declaration : Tree
declaration = node Kind.VariableDeclaration 1 (more (string (codes "let")) (more (list (more (child (node Kind.VariableDeclarator 2 (more (child (name Kind.BindingIdentifier 3 (codes "a"))) (more absent end)))) end)) end))

-- `a = b;`
abbrev assignment : Tree
assignment = node Kind.ExpressionStatement 8 (more (child (node Kind.AssignmentExpression 9 (more (string (codes "=")) (more (child (name Kind.IdentifierReference 10 (codes "a"))) (more (child (name Kind.IdentifierReference 11 (codes "b"))) end))))) (more no_string end))

abbrev function : Tree
function = node Kind.FunctionDeclaration 4 (more (child (name Kind.BindingIdentifier 5 (codes "f"))) (more (list (more (child (name Kind.BindingIdentifier 6 (codes "b"))) end)) (more (child (node Kind.BlockStatement 7 (more (list (more (child assignment) end)) end))) (more (boolean false) (more (boolean false) end)))))

abbrev program : Tree
program = node Kind.Program 0 (more (string (codes "script")) (more (list (more (child declaration) (more (child function) end))) end))

-- the program is TOP, and the function, whose body has no scope of its own, is FUNCTION
pub worked_scopes : scopes_of program ≡ record { node = 0; around = None; flags = record { 0 = 1 } } ∷ record { node = 4; around = Some 0; flags = record { 0 = 2 } } ∷ []
worked_scopes = refl

-- `a` is LET, `f` is FUNCTION, `b` is PARAM
pub worked_bindings : bindings_of program ≡ record { node = 3; name = codes "a"; flags = 2; head_var = false } ∷ record { node = 5; name = codes "f"; flags = 16; head_var = false } ∷ record { node = 6; name = codes "b"; flags = 32; head_var = false } ∷ []
worked_bindings = refl

-- `a` is written, and `b` is read
pub worked_references : references_of program ≡ record { node = 10; name = codes "a"; flags = record { 0 = 2 } } ∷ record { node = 11; name = codes "b"; flags = record { 0 = 1 } } ∷ []
worked_references = refl

-- `class C { constructor() {} } for (var x of y) ; switch (() => z) { }`
abbrev method : Tree
method = node Kind.MethodDefinition 4 (more (child (name Kind.IdentifierName 5 (codes "constructor"))) (more (child (node Kind.FunctionExpression 6 (more absent (more (list end) (more (child (node Kind.BlockStatement 7 (more (list end) end))) (more (boolean false) (more (boolean false) end))))))) (more (string (codes "constructor")) (more (boolean false) (more (boolean false) end)))))

abbrev class_declaration : Tree
class_declaration = node Kind.ClassDeclaration 1 (more (child (name Kind.BindingIdentifier 2 (codes "C"))) (more absent (more (child (node Kind.ClassBody 3 (more (list (more (child method) end)) end))) end)))

abbrev loop : Tree
loop = node Kind.ForOfStatement 8 (more (child (node Kind.VariableDeclaration 9 (more (string (codes "var")) (more (list (more (child (node Kind.VariableDeclarator 10 (more (child (name Kind.BindingIdentifier 11 (codes "x"))) (more absent end)))) end)) end)))) (more (child (name Kind.IdentifierReference 12 (codes "y"))) (more (child (node Kind.EmptyStatement 13 end)) (more (boolean false) end))))

abbrev choice : Tree
choice = node Kind.SwitchStatement 14 (more (child (node Kind.ArrowFunctionExpression 15 (more (list end) (more (child (name Kind.IdentifierReference 16 (codes "z"))) (more (boolean false) end))))) (more (list end) end))

abbrev other_program : Tree
other_program = node Kind.Program 0 (more (string (codes "script")) (more (list (more (child class_declaration) (more (child loop) (more (child choice) end)))) end))

-- the class and its constructor are STRICT; the arrow in the discriminant stands in the program's scope
pub worked_flags : scopes_of other_program
    ≡ record { node = 0; around = None; flags = record { 0 = 1 } }
    ∷ record { node = 1; around = Some 0; flags = record { 0 = 128 } }
    ∷ record { node = 6; around = Some 1; flags = record { 0 = 146 } }
    ∷ record { node = 8; around = Some 0; flags = record { 0 = 0 } }
    ∷ record { node = 14; around = Some 0; flags = record { 0 = 0 } }
    ∷ record { node = 15; around = Some 0; flags = record { 0 = 6 } }
    ∷ []
worked_flags = refl

-- `x` is a `var` in the head of a for-of
pub worked_heads : bindings_of other_program ≡ record { node = 2; name = codes "C"; flags = 8; head_var = false } ∷ record { node = 11; name = codes "x"; flags = 1; head_var = true } ∷ []
worked_heads = refl
