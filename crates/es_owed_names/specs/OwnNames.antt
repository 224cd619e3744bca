-- Own names of classes, by their identifiers.
use Rattle.std.specs.Prelude.{ℕ, List, [], ◌∷◌, ◌++◌, Bool, cond, ◌&&◌, ◌||◌, bytes_eq, Option, Some, None}
use Rattle.es_base.specs.Preorder.{preorder}
use Rattle.es_base.specs.Tree.{Tree, Node}
use Rattle.es_base.specs.declared.ids.NodeId.{NodeId}
use Rattle.es_lowered.specs.OwnNames.{are_none, declares_class, references_to}
use Rattle.es_references.specs.declared.references.Reference.{Reference}
use Rattle.es_steps.specs.Parts.{at, string_of}
use Rattle.es_steps.specs.References as spec
use Rattle.es_steps.specs.Values.{String}

-- the identifier of class expression n, if that may be its own name
abbrev pub own_number : Tree → List spec.Reference → ℕ → Tree → List ℕ
own_number p references n (Node kind b span semantic_id bs) = cond (declares_class n (string_of (at 0 bs)) (preorder p) || are_none (references_to (b ∷ []) references)) (b ∷ []) []

-- whether an identifier names this class so
abbrev pub named_class : Bool → String → Tree → Bool
named_class is_class s (Node kind b span semantic_id bs) = is_class && bytes_eq (string_of (at 0 bs)) s

-- the identifiers that references mean
abbrev pub bound_to : Option NodeId → List ℕ
bound_to None = []
bound_to (Some b) = b.0 ∷ []

abbrev pub bound_numbers : List Reference → List ℕ
bound_numbers [] = []
bound_numbers (r ∷ rs) = bound_to r.binding ++ bound_numbers rs
