-- The names of a script, by the node of the program.
use Rattle.std.proofs.Common.{◌≡◌, refl, ap, ℕ, List, [], ◌∷◌, cond, bytes_eq, codes}
use Rattle.es_base.specs.Tree.{Tree, Node}
use Rattle.es_binding_faults.specs.Named.{plain}
use Rattle.es_base.specs.Numbered.{is_new}
use Rattle.es_node.specs.View.{parts_in}
use Rattle.es_steps.specs.Meaning.{globals, old_names, source_type_of}
use Rattle.es_steps.specs.Parts.{at, items, string_of}
use Rattle.es_steps.specs.Values.{String}
use Rattle.es_steps.specs.Scopes.{Declaration, body_names}

pub type_node : (t : Tree) → source_type_of t ≡ string_of (at 0 (parts_in t))
type_node (Node kind m span semantic_id ps) = refl

pub globals_node : (first : ℕ) (t : Tree) → globals first t ≡ cond (bytes_eq (source_type_of t) (codes "script")) (old_names first (body_names (items (at 1 (parts_in t))))) []
globals_node first (Node kind m span semantic_id ps) = refl

pub plain_names : (first : ℕ) (ds : List Declaration) → old_names first (plain ds) ≡ old_names first ds
plain_names first [] = refl
plain_names first (d ∷ ds) = ap (λ (ns : List (ℕ × String)). cond (is_new first d.number) ns ((d.number, d.spelling) ∷ ns)) (plain_names first ds)
