-- Places, as code tells them.
use Rattle.std.specs.Prelude.{ℕ, ◌+◌, List, [], ◌++◌, Bool, true, false}
use Rattle.es_base.specs.Tree.{Tree, Part, Parts, Node, end, more}
use Rattle.es_base.specs.declared.kind.Kind.{Kind}
use Rattle.es_base.specs.declared.ledger.LedgerEntry.{LedgerEntry}
use Rattle.es_steps.specs.Repeated as spec
use Rattle.es_places.specs.declared.places.Terms.{Terms}
use Rattle.es_places.specs.declared.surroundings.Surroundings.{Surroundings}

abbrev pub surroundings_of : Surroundings → spec.Surroundings
surroundings_of s = record { place = s.place; hoisted = s.hoisted; in_var = s.in_var; class = s.class; constructs = s.constructs }

abbrev pub is_field : Kind → Bool
is_field Kind.PropertyDefinition = true
is_field kind = false

-- what is around the i-th part of a node
abbrev pub surroundings_within : ℕ → List LedgerEntry → spec.Surroundings → Tree → ℕ → spec.Surroundings
surroundings_within first ledger s (Node kind m span semantic_id ps) i = spec.surroundings_in first ledger s kind m ps i

-- ---- under these terms

abbrev pub places : Terms → spec.Surroundings → Tree → List (ℕ × ℕ)
places o s t = spec.places o.first_new o.ledger.now o.private_functions.now s t

abbrev pub places_at : Terms → spec.Surroundings → Part → List (ℕ × ℕ)
places_at o s p = spec.places_at o.first_new o.ledger.now o.private_functions.now s p

abbrev pub places_of : Terms → spec.Surroundings → Parts → List (ℕ × ℕ)
places_of o s ps = spec.places_of o.first_new o.ledger.now o.private_functions.now s ps

abbrev pub place_of : Terms → spec.Surroundings → Kind → ℕ → List (ℕ × ℕ)
place_of o s kind m = spec.place_of o.first_new o.ledger.now o.private_functions.now s kind m

abbrev pub head_place : Terms → spec.Surroundings → Kind → Parts → List (ℕ × ℕ)
head_place o s kind ps = spec.head_place o.first_new o.ledger.now o.private_functions.now s kind ps

abbrev pub declaration_place : Terms → spec.Surroundings → Part → List (ℕ × ℕ)
declaration_place o s p = spec.declaration_place o.first_new o.ledger.now o.private_functions.now s p

-- those of the parts from the i-th on
abbrev pub places_from : Terms → (ℕ → spec.Surroundings) → ℕ → Parts → List (ℕ × ℕ)
places_from o s i end = []
places_from o s i (more p ps) = places_at o (s i) p ++ places_from o s (i + 1) ps
