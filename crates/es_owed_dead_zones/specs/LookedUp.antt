-- What is looked up, with the numbers by which it is.
use Rattle.std.proofs.Common.{Bor}
use Rattle.std.specs.Prelude.{ℕ, List, [], ◌∷◌, ◌++◌, cond, map}
use Rattle.es_base.specs.Tree.{Tree, Node}
use Rattle.es_binding_faults.specs.Leasts.{Numbers}
use Rattle.es_lowered.specs.DeadZones.{Closures}
use Rattle.es_lowered.specs.HelperCalls.{part_number}
use Rattle.es_generated.specs.Spellings.{spelling_number}
use Rattle.es_steps.specs.LoweredClasses.{constructor_in}
use Rattle.es_steps.specs.Parts.{at}
use Rattle.es_steps.specs.PrivateNames.{is_class}
use Rattle.es_steps.specs.Values.{String}

-- closures, each with the number of its name
abbrev pub numbered_closures : Numbers → Closures → List (ℕ × (String × ℕ))
numbered_closures ns cs = map (λ c. (spelling_number ns c.0, c)) cs

-- the function of the constructor, of a class that has one
abbrev pub constructor_of : Tree → List ℕ
constructor_of (Node kind n span semantic_id ps) = cond (is_class kind) (part_number (constructor_in (at 2 ps))) []

abbrev pub with_constructor : Bor Tree → List (ℕ × Bor Tree)
with_constructor t = map (λ k. (k, t)) (constructor_of t.now)

-- classes, each with the number of the function of its constructor
abbrev pub with_constructors : List (Bor Tree) → List (ℕ × Bor Tree)
with_constructors [] = []
with_constructors (t ∷ ts) = with_constructor t ++ with_constructors ts
