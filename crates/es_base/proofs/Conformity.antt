-- Small trees that conform, and some that don't.
use Rattle.std.proofs.Common.{◌≡◌, refl, Bool, true, false, None}
use Rattle.std.specs.Prelude.{codes}
use Rattle.es_base.specs.Tree.{Tree, Parts, Node, end, more, child, absent, list, string, no_string, boolean, literal}
use Rattle.es_base.specs.Conforms.{conforms}
use Rattle.es_base.specs.declared.kind.Kind.{Kind}
use Rattle.es_base.specs.declared.table.Place.{Place}
use Rattle.es_base.specs.declared.literal.LiteralValue.TheVariants as value

abbrev leaf : Kind → Parts → Tree
leaf kind parts = Node kind 0 None None parts

abbrev named : Kind → Tree
named kind = leaf kind (more (string (codes "a")) end)

abbrev program : Parts → Tree
program body = leaf Kind.Program (more (string (codes "script")) (more (list body) end))

abbrev statement : Tree → Tree
statement e = leaf Kind.ExpressionStatement (more (child e) (more no_string end))

-- `a;`
a_reference : conforms Place.Program (program (more (child (statement (named Kind.IdentifierReference))) end)) ≡ true
a_reference = refl

-- a mere name is no expression
a_name : conforms Place.Program (program (more (child (statement (named Kind.IdentifierName))) end)) ≡ false
a_name = refl

-- `.5` is a number, `x5` is none
a_number : conforms Place.Expression (leaf Kind.Literal (more (literal (value.Number (codes ".5"))) end)) ≡ true
a_number = refl

no_number : conforms Place.Expression (leaf Kind.Literal (more (literal (value.Number (codes "x5"))) end)) ≡ false
no_number = refl

abbrev member : Tree → Bool → Bool → Tree
member property computed optional = leaf Kind.MemberExpression (more (child (named Kind.IdentifierReference)) (more (child property) (more (boolean computed) (more (boolean optional) end))))

-- `a.a`, and the reference that is no name
a_member : conforms Place.Expression (member (named Kind.IdentifierName) false false) ≡ true
a_member = refl

not_computed : conforms Place.Expression (member (named Kind.IdentifierReference) false false) ≡ false
not_computed = refl

is_computed : conforms Place.Expression (member (named Kind.IdentifierReference) true false) ≡ true
is_computed = refl

-- an optional member is assigned to by nothing
no_target : conforms Place.AssignmentTarget (member (named Kind.IdentifierName) false true) ≡ false
no_target = refl

abbrev pattern : Parts → Tree
pattern elements = leaf Kind.ArrayPattern (more (list elements) end)

abbrev rest : Tree
rest = leaf Kind.RestElement (more (child (named Kind.BindingIdentifier)) end)

-- `[, a, ...a]`, and a rest that is not the last
holes : conforms Place.Pattern (pattern (more absent (more (child (named Kind.BindingIdentifier)) (more (child rest) end)))) ≡ true
holes = refl

rest_first : conforms Place.Pattern (pattern (more (child rest) (more (child (named Kind.BindingIdentifier)) end))) ≡ false
rest_first = refl

-- a template with no string
no_template : conforms Place.Expression (leaf Kind.TemplateLiteral (more (list end) (more (list end) end))) ≡ false
no_template = refl

-- a missing member
no_member : conforms Place.Statement (leaf Kind.ReturnStatement end) ≡ false
no_member = refl

-- `#a in a`
private_in : conforms Place.Expression (leaf Kind.PrivateIn (more (string (codes "in")) (more (child (named Kind.PrivateIdentifier)) (more (child (named Kind.IdentifierReference)) end)))) ≡ true
private_in = refl
