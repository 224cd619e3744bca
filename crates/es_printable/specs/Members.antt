-- Nodes by what can be wrong with their forms, and members of nodes in code.
use Rattle.std.specs.Prelude.{Bool, true, false, not, ◌&&◌, ◌||◌, bytes_eq}
use Rattle.es_base.specs.Tree.{Tree, Part, Parts, end, more, child, list, string, boolean}
use Rattle.es_base.specs.Words.{property_kind_string}
use Rattle.es_base.specs.declared.kind.Kind.{Kind}
use Rattle.es_steps.specs.Parts.{at, is_present, is_true}
use Rattle.es_steps.specs.Printable.{any_bare, any_optional, any_uncooked, has_id, is_bare_declaration, is_function_expression, is_identifier_name, is_kind_of, is_uncooked, name_of_part, part_has_optional, shorthand_name}
use Rattle.es_steps.specs.Scopes.{is_declaring}
use Rattle.es_printable.specs.declared.properties.PropertyMembers.{PropertyMembers}

-- statements with bodies
abbrev pub has_body : Kind → Bool
has_body Kind.IfStatement = true
has_body Kind.LabeledStatement = true
has_body Kind.WhileStatement = true
has_body Kind.WithStatement = true
has_body Kind.DoWhileStatement = true
has_body Kind.ForStatement = true
has_body Kind.ForInStatement = true
has_body Kind.ForOfStatement = true
has_body kind = false

-- expressions
abbrev pub is_chain_form : Kind → Bool
is_chain_form Kind.Foreign = true
is_chain_form Kind.SequenceExpression = true
is_chain_form Kind.MetaProperty = true
is_chain_form Kind.MemberExpression = true
is_chain_form Kind.PrivateField = true
is_chain_form Kind.CallExpression = true
is_chain_form Kind.ChainExpression = true
is_chain_form kind = false

-- elements, properties and targets
abbrev pub is_element_form : Kind → Bool
is_element_form Kind.Property = true
is_element_form Kind.BindingProperty = true
is_element_form Kind.AssignmentTargetProperty = true
is_element_form Kind.MethodDefinition = true
is_element_form Kind.PropertyDefinition = true
is_element_form Kind.VariableDeclarator = true
is_element_form Kind.AssignmentPattern = true
is_element_form Kind.AssignmentTargetWithDefault = true
is_element_form Kind.RestElement = true
is_element_form Kind.AssignmentTargetRest = true
is_element_form Kind.CatchClause = true
is_element_form kind = false

-- declarations, imports and exports
abbrev pub is_declaration_form : Kind → Bool
is_declaration_form Kind.VariableDeclaration = true
is_declaration_form Kind.ExportNamedDeclaration = true
is_declaration_form Kind.ImportDeclaration = true
is_declaration_form kind = false

-- what an import lists
abbrev pub is_named : Kind → Bool
is_named Kind.ImportSpecifier = true
is_named kind = false

abbrev pub is_named_or_namespace : Kind → Bool
is_named_or_namespace Kind.ImportNamespaceSpecifier = true
is_named_or_namespace kind = is_named kind

-- ---- members

abbrev pub is_string : Part → Bool
is_string (string s) = true
is_string p = false

-- a part that holds a `?.` of its own, a template without cooked strings, or a declaration without an initializer
abbrev pub is_optional_part : Part → Bool
is_optional_part (list ps) = any_optional ps
is_optional_part p = part_has_optional p

abbrev pub is_uncooked_part : Part → Bool
is_uncooked_part (list ps) = any_uncooked ps
is_uncooked_part p = is_uncooked p

abbrev pub is_bare_part : Part → Bool
is_bare_part (list ps) = any_bare ps
is_bare_part p = is_bare_declaration p

-- a declarator that wants an initializer and has none
abbrev pub is_bare_declarator : Bool → Parts → Bool
is_bare_declarator is_const (more id (more init end)) = not (is_present init) && (is_const || not (is_declaring id))
is_bare_declarator is_const ps = false

abbrev pub property_parts : PropertyMembers → Parts
property_parts p = more (child p.key.now) (more (child p.value.now) (more (string (property_kind_string p.kind)) (more (boolean p.method) (more (boolean p.shorthand) (more (boolean p.computed) end)))))

-- a property that cannot be written as its name
abbrev pub is_no_shorthand : Parts → Bool
is_no_shorthand ps = not (is_kind_of is_identifier_name (at 0 ps)) || (is_true (at 5 ps) || not (bytes_eq (name_of_part (at 0 ps)) (shorthand_name (at 1 ps))))

-- a value that cannot be written as a method
abbrev pub is_no_method : Tree → Bool
is_no_method t = not (is_kind_of is_function_expression (child t)) || has_id (child t)
