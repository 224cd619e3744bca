-- The bodies of a program, as code finds them.
use Rattle.std.specs.Prelude.{ℕ, List, ◌++◌, Bool, false, map}
use Rattle.es_base.specs.Tree.{Tree, Parts}
use Rattle.es_base.specs.declared.kind.Kind.{Kind}
use Rattle.es_binding_faults.specs.Seen.{seen}
use Rattle.es_lowered.specs.DeadZones as spec
use Rattle.es_lowered.specs.DeadZones.{Touch}
use Rattle.es_owed_timely.specs.Functions.{super_functions_of}
use Rattle.es_references.specs.References.{references_of}
use Rattle.es_steps.specs.References.{has_number}
use Rattle.es_touches.specs.Touches.{closures_of, kept_touches}
use Rattle.es_owed_dead_zones.specs.declared.bodies.KeptBody.{KeptBody}
use Rattle.es_owed_dead_zones.specs.declared.bodies.Program.{Program}

abbrev pub kept_body : KeptBody → spec.Body
kept_body x = record { number = x.number; is_of_fields = x.is_of_fields; of_class = x.of_class.items; derives = x.derives; touches = kept_touches x.touches.items }

abbrev pub kept_bodies : List KeptBody → List spec.Body
kept_bodies xs = map kept_body xs

-- these with more parts around them
abbrev pub with_held : List (ℕ × ℕ) → List Touch → List Touch
with_held held ts = map (λ t. record { number = t.number; form = t.form; held = t.held ++ held }) ts

abbrev pub body : ℕ → Bool → List ℕ → Bool → List Touch → spec.Body
body m fields classes derives ts = record { number = m; is_of_fields = fields; of_class = classes; derives = derives; touches = ts }

module _ (x : Program) where
  abbrev pub field_touches : List ℕ → List Tree → List Touch
  field_touches = spec.field_touches x.terms.first (closures_of x.terms.called.now) x.terms.asked.now x.terms.named.now (references_of x.terms.references.now.list.items) x.derived.now (super_functions_of x.given.now.functions.items) (seen x.classes.now.listed.now.nodes.items)

  abbrev pub with_fields : List Touch → List Touch → List Touch
  with_fields = spec.with_fields x.terms.first (closures_of x.terms.called.now) x.terms.asked.now x.terms.named.now (references_of x.terms.references.now.list.items) x.derived.now (super_functions_of x.given.now.functions.items) (seen x.classes.now.listed.now.nodes.items)

  abbrev pub function_touches : Bool → List Touch → Kind → ℕ → Parts → List Touch
  function_touches = spec.function_touches x.terms.first (closures_of x.terms.called.now) x.terms.asked.now x.terms.named.now (references_of x.terms.references.now.list.items) x.derived.now (super_functions_of x.given.now.functions.items) (seen x.classes.now.listed.now.nodes.items)

  abbrev pub body_touches : Bool → List Touch → Kind → ℕ → Parts → List Touch
  body_touches = spec.body_touches x.terms.first (closures_of x.terms.called.now) x.terms.asked.now x.terms.named.now (references_of x.terms.references.now.list.items) x.derived.now (super_functions_of x.given.now.functions.items) (seen x.classes.now.listed.now.nodes.items)

  abbrev pub bodies_by : Kind → ℕ → Parts → List spec.Body
  bodies_by = spec.bodies_by x.terms.first (closures_of x.terms.called.now) x.terms.asked.now x.terms.named.now (references_of x.terms.references.now.list.items) x.derived.now (super_functions_of x.given.now.functions.items) (seen x.classes.now.listed.now.nodes.items)

  abbrev pub bodies : List Tree → List spec.Body
  bodies = spec.bodies x.terms.first (closures_of x.terms.called.now) x.terms.asked.now x.terms.named.now (references_of x.terms.references.now.list.items) x.derived.now (super_functions_of x.given.now.functions.items) (seen x.classes.now.listed.now.nodes.items)

  abbrev pub function_body : Kind → ℕ → Parts → spec.Body
  function_body kind m ps = body m false (spec.constructs m (seen x.classes.now.listed.now.nodes.items) ++ spec.classes_given m (super_functions_of x.given.now.functions.items)) (has_number m x.derived.now) (body_touches (has_number m x.derived.now) (field_touches (spec.constructs m (seen x.classes.now.listed.now.nodes.items)) (seen x.classes.now.listed.now.nodes.items)) kind m ps)
