-- Declarators, part by part.
use Rattle.std.specs.Prelude.{ℕ, Bool, true, false, Option, Some, None}
use Rattle.es_base.specs.declared.ledger.GeneratedKind.{GeneratedKind}
use Rattle.es_steps.specs.Code.{Code, assign, binding, give_class, no_rule, nothing, pattern}
use Rattle.es_steps.specs.Context.{Context, NameKind, Generated, MeansClass}
use Rattle.es_steps.specs.Expressions.{target_of}
use Rattle.es_steps.specs.GeneratedForms.{given}
use Rattle.es_steps.specs.Values.{String}
use Rattle.es_code_declarations.specs.declared.declarator.GeneratedName.{GeneratedName}

-- a generated name: its identifier, its spelling and what it stands for
abbrev pub generated_name_of : GeneratedName → ℕ × (String × GeneratedKind)
generated_name_of g = (g.node, (g.spelling.now, g.kind))

abbrev pub generated_as : ℕ → String → NameKind → Option (ℕ × (String × GeneratedKind))
generated_as b s (Generated g) = Some (b, (s, g))
generated_as b s kind = None

abbrev pub generated_in : Code → Option (ℕ × (String × GeneratedKind))
generated_in (binding b s kind) = generated_as b s kind
generated_in d = None

abbrev pub class_of_kind : NameKind → Option ℕ
class_of_kind (MeansClass n k) = Some n
class_of_kind kind = None

abbrev pub class_in : Code → Option ℕ
class_in (binding b s kind) = class_of_kind kind
class_in d = None

abbrev pub new_let : Option ℕ → Code → Code
new_let (Some n) e = give_class n e
new_let None e = no_rule

-- a declarator with an initializer, of what was not generated
abbrev pub unless_generated : Bool → Code → Code → Code
unless_generated true d e = new_let (class_in d) e
unless_generated false d e = assign (target_of d) e

abbrev pub if_generated : Context → ℕ → Code → Code → Option (ℕ × (String × GeneratedKind)) → Code
if_generated c m e other (Some x) = given c m x.0 x.1.0 x.1.1 e
if_generated c m e other None = other

-- a declarator without one
abbrev pub uninitialized : Bool → Code → Code
uninitialized new (binding b s (Generated g)) = nothing
uninitialized true d = no_rule
uninitialized false (binding b s kind) = binding b s kind
uninitialized false (pattern k to) = pattern k to
uninitialized false d = no_rule
