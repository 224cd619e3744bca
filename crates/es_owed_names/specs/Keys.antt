-- The keys of elements, and declarations in scopes.
use Rattle.std.specs.Prelude.{ℕ, List, [], ◌∷◌, Bool, false, cond, ◌&&◌, bytes_eq, Option, Some, None}
use Rattle.std.proofs.Common.{Bor}
use Rattle.es_base.specs.Tree.{Part, Node, absent, child}
use Rattle.es_base.specs.declared.kind.Kind.{Kind}
use Rattle.es_node.specs.View.{part_of}
use Rattle.es_node.specs.declared.node.Part as code
use Rattle.es_base.specs.Numbered.{is_new}
use Rattle.es_lowered.specs.Lowered.{all_mean}
use Rattle.es_steps.specs.Parts.{at, string_of}
use Rattle.es_steps.specs.References.{Reference}
use Rattle.es_steps.specs.Values.{String}

-- the number of a key, if it is a private identifier of this spelling
abbrev pub key_at : String → Part → List ℕ
key_at s (child (Node Kind.PrivateIdentifier d span semantic_id ps)) = cond (bytes_eq s (string_of (at 0 ps))) (d ∷ []) []
key_at s p = []

abbrev pub part_or_absent : Option (Bor code.Part) → Part
part_or_absent None = absent
part_or_absent (Some p) = part_of p.now

-- whether there is one declaration, a new one, which all of these references of the spelling mean
abbrev pub is_one_meant : ℕ → String → List Reference → List ℕ → Bool
is_one_meant first s rs (b ∷ []) = is_new first b && all_mean s b rs
is_one_meant first s rs bs = false
