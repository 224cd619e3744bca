-- What gives names their values, in its place: ps are the nodes of a source, whose members these are, and qs those of what it was
-- lowered to.
use Rattle.std.specs.Prelude.{ℕ, List, [], ◌∷◌, Bool, false, not, ◌&&◌, ◌||◌}
use Rattle.es_base.specs.Tree.{Tree}
use Rattle.es_base.specs.declared.ledger.GeneratedKind.{GeneratedKind}
use Rattle.es_lowered.specs.Lowered.{all_before, belongs, is_at_most_one, is_declared_function, is_temp, needs_none, with_inner}
use Rattle.es_lowered.specs.Temporaries.{class_before}
use Rattle.es_steps.specs.PrivateNames.{PrivateMember}

-- one, in front of these classes and those in them
abbrev pub is_one_before : List ℕ → List Tree → List Tree → List (ℕ × Bool) → Bool
is_one_before ns ps qs (i ∷ []) = i.1 && (is_declared_function i.0 qs || all_before i.0 (with_inner ps ns) qs)
is_one_before ns ps qs is = false

abbrev pub stands : GeneratedKind → List PrivateMember → List Tree → List Tree → List (ℕ × Bool) → Bool
stands g members ps qs is = (needs_none g && (not (is_temp g) || is_at_most_one is)) || (belongs members g && is_one_before (class_before g members) ps qs is)
