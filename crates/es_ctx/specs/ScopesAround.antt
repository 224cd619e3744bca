-- The scopes around a node, read off the places around it (docs/SCOPES.md says which nodes have a scope). The scope of
-- the program, which stands around all, has the number 0.
use Rattle.std.specs.Prelude.{ℕ, List, [], ◌∷◌, Bool, true, false, ◌||◌, nat_eq, Option, None, reverse, unwrap_or}
use Rattle.es_base.specs.declared.ids.ScopeId.{ScopeId}
use Rattle.es_base.specs.declared.kind.Kind.{Kind}
use Rattle.es_ctx.specs.Ancestors.{has_statements}
use Rattle.es_ctx.specs.Stores.{pick}
use Rattle.es_ctx.specs.declared.ancestor.Ancestor.{Ancestor}
use Rattle.es_ctx.specs.declared.ancestor_kind.AncestorKind.{AncestorKind}

-- the discriminant of a `switch` stands outside the scope of its cases
abbrev pub is_discriminant : Kind → ℕ → Bool
is_discriminant Kind.SwitchStatement at = nat_eq at 0
is_discriminant kind at = false

-- the scope of the node around, if it has one that what stands there is in
abbrev pub scope_there : Ancestor → Option ℕ
scope_there a = pick (is_discriminant a.parent.kind a.at) None a.parent.scope

abbrev pub is_in_list : Ancestor → Bool
is_in_list a = has_statements a.parent.kind a.at

-- the scope of the first of these places, which stand innermost first, that has one, from the first list of statements
-- on, or from here
abbrev pub scope_from : Bool → List Ancestor → ℕ
scope_from here [] = 0
scope_from here (a ∷ rest) = unwrap_or (pick (here || is_in_list a) (scope_there a) None) (scope_from (here || is_in_list a) rest)

-- `var` is hoisted to the scope of what has such a part: a program, a function or a static block
abbrev pub is_hoisted_to : AncestorKind → Bool
is_hoisted_to AncestorKind.ProgramBody = true
is_hoisted_to AncestorKind.FunctionParams = true
is_hoisted_to AncestorKind.FunctionBody = true
is_hoisted_to AncestorKind.ArrowParams = true
is_hoisted_to AncestorKind.ArrowBody = true
is_hoisted_to AncestorKind.StaticBlockBody = true
is_hoisted_to kind = false

abbrev pub hoist_scope_there : Ancestor → Option ℕ
hoist_scope_there a = pick (is_hoisted_to a.kind) a.parent.scope None

-- that of the first of these places that has one, from the first list of statements on, or from here
abbrev pub hoist_scope_from : Bool → List Ancestor → ℕ
hoist_scope_from here [] = 0
hoist_scope_from here (a ∷ rest) = unwrap_or (pick (here || is_in_list a) (hoist_scope_there a) None) (hoist_scope_from (here || is_in_list a) rest)

-- ---- by the path, which stands outermost first

-- the scope that the node at hand is in
abbrev pub current_scope_id : List Ancestor → ScopeId
current_scope_id path = record { 0 = scope_from true (reverse path) }

-- the scope of the innermost list of statements around it
abbrev pub current_block_scope_id : List Ancestor → ScopeId
current_block_scope_id path = record { 0 = scope_from false (reverse path) }

-- the scope that `var` is hoisted to
abbrev pub current_hoist_scope_id : List Ancestor → ScopeId
current_hoist_scope_id path = record { 0 = hoist_scope_from true (reverse path) }

-- the scope that a `var` of the innermost list of statements is hoisted to
abbrev pub current_var_scope_id : List Ancestor → ScopeId
current_var_scope_id path = record { 0 = hoist_scope_from false (reverse path) }
