-- Forms of nodes, as code tells them.
use Rattle.std.specs.Prelude.{Bool, true, false, ◌&&◌, ◌||◌, bytes_eq, codes}
use Rattle.es_base.specs.Tree.{Tree, Part, Parts, Node, end, more, child, string}
use Rattle.es_base.specs.declared.kind.Kind.{Kind}
use Rattle.es_lowered.specs.Definitions.{property_value}
use Rattle.es_steps.specs.Parts.{at, is_present, string_of}
use Rattle.es_steps.specs.Values.{String}

-- what runs no code of its own and is no function
abbrev pub is_plain : Kind → Bool
is_plain Kind.Program = true
is_plain Kind.Literal = true
is_plain Kind.IdentifierName = true
is_plain Kind.PrivateIdentifier = true
is_plain Kind.TemplateElement = true
is_plain Kind.ClassDeclaration = true
is_plain Kind.ClassExpression = true
is_plain Kind.ClassBody = true
is_plain Kind.Property = true
is_plain Kind.BindingProperty = true
is_plain Kind.AssignmentTargetProperty = true
is_plain Kind.PropertyDefinition = true
is_plain Kind.MethodDefinition = true
is_plain Kind.StaticBlock = true
is_plain Kind.SequenceExpression = true
is_plain Kind.ExpressionStatement = true
is_plain Kind.EmptyStatement = true
is_plain Kind.VariableDeclaration = true
is_plain Kind.VariableDeclarator = true
is_plain Kind.ExportNamedDeclaration = true
is_plain kind = false

abbrev pub is_throw_name : String → Bool
is_throw_name s = bytes_eq s (codes "readOnlyError") || bytes_eq s (codes "writeOnlyError")

abbrev pub is_writer_name : String → Bool
is_writer_name s = bytes_eq s (codes "superPropSet") || bytes_eq s (codes "classPrivateFieldSet2")

-- the callee of what always throws
abbrev pub is_throwing_callee : Part → Bool
is_throwing_callee (child (Node Kind.MemberExpression k span semantic_id (more o (more (child (Node Kind.IdentifierName n nspan n_semantic_id ns)) rest)))) = is_throw_name (string_of (at 0 ns))
is_throwing_callee p = false

-- a property of this name
abbrev pub names_key : String → Tree → Bool
names_key s (Node Kind.IdentifierName k span semantic_id (more (string t) end)) = bytes_eq s t
names_key s t = false

abbrev pub has_value : String → Part → Bool
has_value s p = is_present (property_value s p)

-- the properties of `{ writable: true, value: v }`
abbrev pub are_writable : Parts → Bool
are_writable (more w (more v end)) = has_value (codes "writable") w && has_value (codes "value") v
are_writable ps = false
