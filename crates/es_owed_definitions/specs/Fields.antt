-- Fields and their definitions, class by class.
use Rattle.std.specs.Prelude.{◌≡◌, ℕ, List, [], ◌∷◌, map, Bool, cond, not, ◌&&◌, ◌||◌, Option, Some, None}
use Rattle.es_base.specs.Preorder.{preorder}
use Rattle.es_base.specs.Tree.{Tree, Node}
use Rattle.es_base.specs.declared.ledger.LedgerEntry.{LedgerEntry}
use Rattle.es_grouped.specs.Groups.{group}
use Rattle.es_grouped.specs.declared.Grouped.{Grouped}
use Rattle.es_lowered.specs.Definitions.{class_fits, classes_fit, static_definitions, supers_stand}
use Rattle.es_owed_definitions.specs.Views.{definition_views}
use Rattle.es_owed_definitions.specs.declared.definition.FieldDefinition.{FieldDefinition}
use Rattle.es_owed_definitions.specs.declared.terms.Terms.{Terms}
use Rattle.es_shapes.specs.Classes.{element_view}
use Rattle.es_shapes.specs.declared.element.ElementRef.{ElementRef}
use Rattle.es_steps.specs.LoweredClasses.{Element, elements_of, is_left_out}
use Rattle.es_steps.specs.PrivateNames.{PrivateMember, is_class}
use Rattle.es_steps.specs.References.{resolve}
use Rattle.es_steps.specs.SameValues.{same_boolean}
use Rattle.es_steps.specs.declared.options.Options.{Options}

abbrev pub element_views : List ElementRef → List Element
element_views es = map element_view es

abbrev pub is_defined_field : Options → Bool → Element → Bool
is_defined_field o is_static e = e.is_field && (not (is_left_out o e) && same_boolean is_static e.is_static)

-- an element, if it is such a field
abbrev pub if_defined : Options → Bool → Option Element → List Element
if_defined o is_static None = []
if_defined o is_static (Some e) = cond (is_defined_field o is_static e) (e ∷ []) []

-- a node, if it is a class, has its definitions
abbrev pub class_stands : ℕ → Options → List LedgerEntry → List PrivateMember → Tree → Tree → Tree → Bool
class_stands first o ledger members p q (Node kind n span semantic_id ps) = not (is_class kind) || class_fits first o ledger members p q n (elements_of ps)

-- these are the static definitions of classes in program q, by the classes
abbrev pub HasStatics : Terms → List PrivateMember → Tree → Grouped FieldDefinition → Type 0
HasStatics x members q statics = (n : ℕ) → definition_views (group n statics) ≡ static_definitions x.first x.options.now x.ledger.now members q n

-- a program, lowered under these terms from a source with these private members, has the definitions of that
abbrev pub program_fits : Terms → List PrivateMember → Tree → Tree → Bool
program_fits x members p q = classes_fit x.first x.options.now x.ledger.now members p q (preorder p) && supers_stand x.first x.options.now x.ledger.now (resolve q) (preorder q)
