-- Names, with the numbers by which they are looked up.
use Rattle.std.proofs.Common.{Bor}
use Rattle.std.specs.Prelude.{ℕ, List, [], ◌∷◌, ◌++◌, map, cond}
use Rattle.std.specs.Str.{chars}
use Rattle.es_base.specs.Tree.{Tree}
use Rattle.es_binding_faults.specs.Leasts.{Numbers}
use Rattle.es_generated.specs.Spellings.{spelling_number}
use Rattle.es_node.specs.View.{kind_of, parts_in}
use Rattle.es_references.specs.declared.references.Reference.{Reference}
use Rattle.es_steps.specs.Parts.{at, string_of}
use Rattle.es_steps.specs.Scopes.{is_binding_identifier}

abbrev pub numbered_declaring : Numbers → List (Bor Tree) → List (ℕ × Bor Tree)
numbered_declaring ns [] = []
numbered_declaring ns (t ∷ ts) = cond (is_binding_identifier (kind_of t.now)) ((spelling_number ns (string_of (at 0 (parts_in t.now))), t) ∷ []) [] ++ numbered_declaring ns ts

abbrev pub numbered_references : Numbers → List Reference → List (ℕ × Reference)
numbered_references ns rs = map (λ r. (spelling_number ns (chars r.name.now), r)) rs
