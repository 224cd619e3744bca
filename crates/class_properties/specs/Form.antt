-- The kinds of the nodes of a class of the first form.
use Rattle.std.specs.Prelude.{◌≡◌, List, [], Bool, true, false, Option, Some, None, IfSome}
use Rattle.std.specs.List.{All, list_all}
use Rattle.es_base.specs.Tree.{Tree, Node, more, child, list}
use Rattle.es_base.specs.declared.kind.Kind.{Kind}
use Rattle.es_node.specs.View.{kind_of}
use Rattle.class_properties.specs.Lowering.{children}

-- the key of a field
abbrev pub key_of : Tree → Tree
key_of (Node kind id span semantic_id (more (child key) ps)) = key
key_of t = t

-- the name of a class, its body, and the elements of a body
abbrev pub id_of : Tree → Option Tree
id_of (Node kind id span semantic_id (more (child name) ps)) = Some name
id_of t = None

abbrev pub body_of : Tree → Tree
body_of (Node kind id span semantic_id (more name (more super_class (more (child body) ps)))) = body
body_of t = t

abbrev pub elements_of : Tree → List Tree
elements_of (Node kind id span semantic_id (more (list elements) ps)) = children elements
elements_of t = []

-- a field whose key is a name
pub record IsField (field : Tree) : Type 0 where
  pub kind : kind_of field ≡ Kind.PropertyDefinition
  pub key : kind_of (key_of field) ≡ Kind.IdentifierName

-- a class of such fields
pub record IsClass (class : Tree) : Type 0 where
  pub kind : kind_of class ≡ Kind.ClassDeclaration
  pub body : kind_of (body_of class) ≡ Kind.ClassBody
  pub fields : All IsField (elements_of (body_of class))

-- ---- the tests

abbrev pub is_name : Kind → Bool
is_name Kind.IdentifierName = true
is_name kind = false

-- whether a node is a field whose key is a name
abbrev pub is_named_field : Tree → Bool
is_named_field (Node Kind.PropertyDefinition id span semantic_id (more (child key) (more value ps))) = is_name (kind_of key)
is_named_field t = false

-- whether it is a body of such fields
abbrev pub is_body_of_fields : Tree → Bool
is_body_of_fields (Node Kind.ClassBody id span semantic_id (more (list elements) ps)) = list_all is_named_field (children elements)
is_body_of_fields t = false

-- whether it is a class of such fields
abbrev pub is_class_of_fields : Tree → Bool
is_class_of_fields (Node Kind.ClassDeclaration id span semantic_id (more name (more super_class (more (child body) ps)))) = is_body_of_fields body
is_class_of_fields t = false

-- ---- any class

-- the parts of any class that conforms
pub record HasClassParts (class : Tree) : Type 0 where
  pub name : IfSome (id_of class) (λ id. kind_of id ≡ Kind.BindingIdentifier)
  pub body : kind_of (body_of class) ≡ Kind.ClassBody
