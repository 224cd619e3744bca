-- The nodes around the node at hand, as they are told of.
use Rattle.std.specs.Prelude.{ℕ, zero, suc, List, [], ◌∷◌, ◌++◌, Bool, true, false, ◌||◌, Option, Some, None, option_map, bytes_eq, codes}
use Rattle.std.proofs.Common.{Bor}
use Rattle.es_base.specs.Table.{Field, members_of}
use Rattle.es_base.specs.Tree.{Tree, Part, Parts, Node, end, more, child, string}
use Rattle.es_base.specs.declared.kind.Kind.{Kind}
use Rattle.es_base.specs.declared.table.Place.{Place}
use Rattle.es_base.specs.declared.table.Sort.{Sort}
use Rattle.es_ctx.specs.AncestorKinds.{kind_inside}
use Rattle.es_ctx.specs.declared.ancestor.Ancestor.{Ancestor}
use Rattle.es_ctx.specs.declared.ancestor.ClassHead.{ClassHead}
use Rattle.es_ctx.specs.declared.ancestor.Parent.{Parent}
use Rattle.es_ctx.specs.declared.ancestor_kind.AncestorKind.{AncestorKind}
use Rattle.es_steps.specs.Expressions.{is_logical}
use Rattle.es_visit.specs.Roles.{is_computed, is_static, role_at}
use Rattle.es_visit.specs.declared.roles.Role.{Role}

abbrev pub is_node : Part → Bool
is_node (child t) = true
is_node p = false

abbrev pub semantic_id_of : Part → Option ℕ
semantic_id_of (child (Node k i sp si ps)) = si
semantic_id_of p = None

abbrev pub begins_with_node : Parts → Bool
begins_with_node (more p rest) = is_node p
begins_with_node end = false

-- `class id extends superClass { .. }`
abbrev pub class_head_of : Bool → Parts → ClassHead
class_head_of is_declaration (more id rest) = record { is_declaration = is_declaration; has_name = is_node id; symbol = semantic_id_of id; has_heritage = begins_with_node rest }
class_head_of is_declaration end = record { is_declaration = is_declaration; has_name = false; symbol = None; has_heritage = false }

abbrev pub class_head : Kind → Parts → Option ClassHead
class_head Kind.ClassDeclaration ps = Some (class_head_of true ps)
class_head Kind.ClassExpression ps = Some (class_head_of false ps)
class_head k ps = None

-- a name that is read where it stands
abbrev pub borrowed_name : Option (Bor (List ℕ)) → Option (List ℕ)
borrowed_name name = option_map (λ n. n.now) name

abbrev pub identifier_name : Tree → Option (List ℕ)
identifier_name (Node Kind.BindingIdentifier i sp si (more (string name) ps)) = Some name
identifier_name (Node Kind.IdentifierReference i sp si (more (string name) ps)) = Some name
identifier_name t = None

abbrev pub first_name : Parts → Option (List ℕ)
first_name (more (child t) rest) = identifier_name t
first_name ps = None

-- the name of a class, or of the variable that a node declares, assigns to, or gives a default value
abbrev pub name_of : Kind → Parts → Option (List ℕ)
name_of Kind.ClassDeclaration ps = first_name ps
name_of Kind.ClassExpression ps = first_name ps
name_of Kind.VariableDeclarator ps = first_name ps
name_of Kind.AssignmentPattern ps = first_name ps
name_of Kind.AssignmentTargetWithDefault ps = first_name ps
name_of Kind.AssignmentExpression (more operator rest) = first_name rest
name_of kind ps = None

-- whether an anonymous function or class gets the name of what this assigns it to (ECMA-262, 13.15.2)
abbrev pub assigns_plainly : List ℕ → Bool
assigns_plainly operator = bytes_eq operator (codes "=") || is_logical operator

-- `a = b`, `a ||= b`, `a &&= b`, `a ??= b`
abbrev pub is_plain_or_logical : Kind → Parts → Bool
is_plain_or_logical Kind.AssignmentExpression (more (string operator) rest) = assigns_plainly operator
is_plain_or_logical kind ps = false

-- what is told of a node
abbrev pub parent_of : Tree → Parent
parent_of (Node k i sp si ps) = record { kind = k; node = i; scope = si; is_computed = is_computed k ps; is_static = is_static k ps; class = class_head k ps; name = name_of k ps; is_plain_or_logical = is_plain_or_logical k ps }

-- ---- places

-- what the innermost of these tells, which stand outermost first
abbrev pub innermost_or : {X : Type 0} → X → (Ancestor → X) → List Ancestor → X
innermost_or none told [] = none
innermost_or none told (a ∷ []) = told a
innermost_or none told (a ∷ b ∷ rest) = innermost_or none told (b ∷ rest)

abbrev pub innermost_kind : List Ancestor → AncestorKind
innermost_kind around = innermost_or AncestorKind.Other (λ a. a.kind) around

-- a member of the node of which this is told, behind the places around that node
abbrev pub ancestor_of : List Ancestor → Parent → ℕ → Ancestor
ancestor_of around parent at = record { kind = kind_inside (innermost_kind around) parent.kind at; parent = parent; at = at }

-- how what stands there stands there
abbrev pub ancestor_role : Ancestor → Role
ancestor_role a = role_at a.parent.is_computed (members_of a.parent.kind) a.at

-- these places with that one
abbrev pub going_into : List Ancestor → Parent → ℕ → List Ancestor
going_into around parent at = around ++ ancestor_of around parent at ∷ []

-- ---- lists of statements

-- whether a member is a list of statements: the body of a program, a block, a function or a static block, or
-- what a case of a `switch` has
abbrev pub is_statement_list : Sort → Bool
is_statement_list (Sort.List Place.Statement) = true
is_statement_list sort = false

abbrev pub has_statements_in : List Field → ℕ → Bool
has_statements_in [] at = false
has_statements_in (f ∷ fs) zero = is_statement_list f.sort
has_statements_in (f ∷ fs) (suc at) = has_statements_in fs at

-- whether that of a node of this kind at this place is one
abbrev pub has_statements : Kind → ℕ → Bool
has_statements k at = has_statements_in (members_of k) at
