-- The temporary of a class, which is generated once.
use Rattle.std.specs.Prelude.{◌≡◌, ℕ, List, Option, Some, None, codes, option_map}
use Rattle.es_base.specs.declared.ledger.GeneratedKind.{GeneratedKind}
use Rattle.es_builders.specs.declared.bound_identifier.BoundIdentifier.{BoundIdentifier}
use Rattle.es_scopes.specs.declared.flags.TheConstants.SymbolFlags as flag
use Rattle.es_uids.specs.Uids.{IsGenerated}
use Rattle.es_uids.specs.declared.traverse_scoping.TraverseScoping.{TraverseScoping}
use Rattle.class_details.specs.declared.class_bindings.ClassBindings.{ClassBindings}

-- what the name of the temporary of a class is made from
abbrev pub class_base : Option (List ℕ) → List ℕ
class_base (Some name) = name
class_base None = codes "Class"

-- b is the temporary of the class: the one that it has, and then nothing changes, or else a new one, which it has from now on
abbrev pub TempFrom : Option BoundIdentifier → ClassBindings → ClassBindings → TraverseScoping → TraverseScoping → BoundIdentifier → Type 0
TempFrom (Some temp) c d old new b = (b ≡ temp) × (d ≡ c) × (new ≡ old)
TempFrom None c d old new b = (d ≡ record c { temp = Some b }) × IsGenerated old new (class_base (option_map (λ b. b.name) c.name)) c.outer_hoist_scope_id flag.VAR (GeneratedKind.ClassTemp c.class) b

abbrev pub IsTempCreated : ClassBindings → ClassBindings → TraverseScoping → TraverseScoping → BoundIdentifier → Type 0
IsTempCreated c d old new b = TempFrom c.temp c d old new b
