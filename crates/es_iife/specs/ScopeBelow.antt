-- A new scope between an expression and the scope that it stands in.
use Rattle.std.specs.Prelude.{ℕ, List, [], ◌∷◌, Bool, false, cond, ◌==◌, bit_and, bit_or, Some, length, Contains}
use Rattle.std.specs.Option.{option_map_or}
use Rattle.es_base.specs.declared.ids.ScopeId.{ScopeId}
use Rattle.es_scopes.specs.Table.{Table, HasScope, chain, parents, scope_at, with_new_scope, with_parent}
use Rattle.es_scopes.specs.declared.flags.ScopeFlags.{ScopeFlags}
use Rattle.es_scopes.specs.declared.flags.TheConstants.ScopeFlags as flag

-- a scope is p or above it, however far parents are followed
abbrev pub IsAbove : Table → ScopeId → ScopeId → Type 0
IsAbove t p s = (n : ℕ) × Contains (chain (parents t.scopes) n p) s

-- a scope of the table that is neither p nor above it
pub record CanStandBelow (t : Table) (p s : ScopeId) : Type 0 where
  pub there : HasScope t s
  pub apart : IsAbove t p s → ⊥

-- these scopes with another parent
abbrev pub with_parents : ScopeId → List ScopeId → Table → Table
with_parents p [] t = t
with_parents p (s ∷ ss) t = with_parents p ss (with_parent t s (Some p))

abbrev pub is_strict : Table → ScopeId → Bool
is_strict t s = option_map_or (λ x. bit_and x.flags.0 flag.STRICT.0 == flag.STRICT.0) (scope_at t s) false

abbrev pub flags_below : Table → ScopeId → ScopeFlags → ScopeFlags
flags_below t around f = cond (is_strict t around) (record { 0 = bit_or f.0 flag.STRICT.0 }) f

-- a new scope, the last of the table, and these scopes below it
abbrev pub with_scope_below : Table → ScopeId → ScopeFlags → List ScopeId → Table
with_scope_below t around f ss = with_parents (record { 0 = length t.scopes }) ss (with_new_scope t (Some around) (flags_below t around f))
