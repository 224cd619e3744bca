-- Names that are evaluated, by what they are.
use Rattle.std.proofs.Common.{◌≡◌, refl, ℕ, Bool, true, false}
use Rattle.es_base.specs.declared.ids.NodeId.{NodeId}
use Rattle.es_base.specs.declared.ledger.GeneratedKind.{GeneratedKind}
use Rattle.es_steps.specs.Code.{name}
use Rattle.es_steps.specs.Context as contexts
use Rattle.es_steps.specs.Context.{Context}
use Rattle.es_steps.specs.Expressions.{arguments_of, name_or_arguments}
use Rattle.es_steps.specs.Values.{String, Free, Undefined}
use Rattle.es_codes.specs.View.{kind_of}
use Rattle.es_codes.specs.declared.name.NameKind.{NameKind}
use Rattle.es_codes.specs.declared.name.Referent.{Referent}
use Rattle.es_code_places.specs.NameForms.{generated_kind}

-- a free `arguments` outside all functions
pub no_arguments : (writes : Bool) (m : ℕ) (s : String) → arguments_of writes m s Undefined ≡ name m s (contexts.Changing (Free s))
no_arguments true m s = refl
no_arguments false m s = refl

pub generated_name : (c : Context) (m : ℕ) (s : String) (g : GeneratedKind) → name m s (generated_kind c g) ≡ name_or_arguments c m s (contexts.Generated g)
generated_name c m s (GeneratedKind.Method d) = refl
generated_name c m s g = refl

pub other_generated : (c : Context) (g : GeneratedKind) → ((d : NodeId) → g ≡ GeneratedKind.Method d → ⊥) → contexts.Generated g ≡ generated_kind c g
other_generated c (GeneratedKind.Method d) no_method = absurd (no_method d refl)
other_generated c g no_method = refl

-- a name that is neither generated nor of a binding that varies
pub steady_name : (c : Context) (m : ℕ) (s : String) (kind : NameKind) → ((r : Referent) → kind ≡ NameKind.Changing r → ⊥) → ((g : GeneratedKind) → kind ≡ NameKind.Generated g → ⊥) → name m s (kind_of kind) ≡ name_or_arguments c m s (kind_of kind)
steady_name c m s (NameKind.Changing r) changes made = absurd (changes r refl)
steady_name c m s (NameKind.Generated g) changes made = absurd (made g refl)
steady_name c m s kind changes made = refl
