-- The innermost place around.
use Rattle.std.specs.Prelude.{◌≡◌, ◌-◌, List, length, Some, None}
use Rattle.std.specs.List.{slice_get}
use Rattle.es_ctx.proofs.Last.{innermost_last, innermost_none}
use Rattle.es_ctx.specs.Ancestors.{ancestor_role}
use Rattle.es_ctx.specs.declared.ancestor.Ancestor.{Ancestor}
use Rattle.es_visit.specs.declared.roles.Role.{Role}
use Rattle.es_walk.specs.Hooks.{role_here}

pub role_last : (xs : List Ancestor) (a : Ancestor) → slice_get xs (length xs - 1) ≡ Some a → role_here xs ≡ ancestor_role a
role_last xs a e = innermost_last Role.Other ancestor_role xs a e

pub role_none : (xs : List Ancestor) → slice_get xs (length xs - 1) ≡ None → role_here xs ≡ Role.Other
role_none xs e = innermost_none Role.Other ancestor_role xs e
