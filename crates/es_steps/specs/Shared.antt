-- Which declaring identifiers share one binding: each with the one of its spelling in front of it in its scope, so that their
-- order counts, too. (ECMA-262, 8.2, 10.2.11. The parameters of a function and the names of its body are one scope here.)
use Rattle.std.specs.Prelude.{ℕ, suc, List, [], ◌∷◌, ◌++◌, Bool, false, cond, Option, Some, None}
use Rattle.es_base.specs.Tree.{Tree, Part, Parts, Node, end, more, child, list}
use Rattle.es_steps.specs.References.{declared}
use Rattle.es_base.specs.declared.kind.Kind.{Kind}
use Rattle.es_steps.specs.Parts.{at, block_items}
use Rattle.es_steps.specs.Scopes.{Declaration, no_class, bound_part, lexical_part, lexical_items, var_items, scope_of, scope_names, is_body_part, is_declaring}

abbrev pub with_earlier : ℕ → Option Declaration → List (ℕ × ℕ)
with_earlier n None = []
with_earlier n (Some d) = (n, d.number) ∷ []

-- the names of a scope, those in front the nearest first
abbrev pub shared_behind : List Declaration → List Declaration → List (ℕ × ℕ)
shared_behind front [] = []
shared_behind front (d ∷ ds) = with_earlier d.number (declared d.spelling front) ++ shared_behind (d ∷ front) ds

-- a name that a catch declares is none of the lexical names of its block (14.15.1)
abbrev pub caught_names : Kind → Parts → List Declaration
caught_names Kind.CatchClause ps = bound_part no_class (at 0 ps) ++ lexical_items (block_items (at 1 ps))
caught_names kind ps = []

-- the second names that are of the spelling of one of the first
abbrev pub shared_with : List Declaration → List Declaration → List (ℕ × ℕ)
shared_with front [] = []
shared_with front (d ∷ ds) = with_earlier d.number (declared d.spelling front) ++ shared_with front ds

-- a `var` is none of the lexical names of a block, a switch or the head of a loop that it is hoisted out of (14.2.1, 14.7.4.1,
-- 14.7.5.1, 14.12.1), and of those of a pattern that is caught (14.15.1)
abbrev pub hoisted_past : Bool → Kind → Parts → List (ℕ × ℕ)
hoisted_past false Kind.BlockStatement ps = shared_with (lexical_items ps) (var_items ps)
hoisted_past is_body Kind.SwitchStatement ps = shared_with (lexical_part (at 1 ps)) (var_items ps)
hoisted_past is_body Kind.ForStatement ps = shared_with (lexical_part (at 0 ps)) (var_items ps)
hoisted_past is_body Kind.ForInStatement ps = shared_with (lexical_part (at 0 ps)) (var_items ps)
hoisted_past is_body Kind.ForOfStatement ps = shared_with (lexical_part (at 0 ps)) (var_items ps)
hoisted_past is_body Kind.CatchClause ps = cond (is_declaring (at 0 ps)) [] (shared_with (bound_part no_class (at 0 ps)) (var_items ps))
hoisted_past is_body kind ps = []

-- in a tree, which is the body of a function or not
abbrev mutual
  pub shared : Bool → Tree → List (ℕ × ℕ)
  shared is_body (Node kind m span semantic_id ps) = shared_behind [] (scope_names (scope_of kind is_body) m ps) ++ shared_behind [] (caught_names kind ps) ++ hoisted_past is_body kind ps ++ shared_in (is_body_part kind) ps

  pub shared_in : (ℕ → Bool) → Parts → List (ℕ × ℕ)
  shared_in bodies end = []
  shared_in bodies (more p ps) = shared_at (bodies 0) p ++ shared_in (λ i. bodies (suc i)) ps

  pub shared_at : Bool → Part → List (ℕ × ℕ)
  shared_at is_body (child t) = shared is_body t
  shared_at is_body (list ps) = shared_of ps
  shared_at is_body p = []

  pub shared_of : Parts → List (ℕ × ℕ)
  shared_of end = []
  shared_of (more p ps) = shared_at false p ++ shared_of ps
