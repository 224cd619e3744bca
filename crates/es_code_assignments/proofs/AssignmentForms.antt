-- Assignments, by what is written.
use Rattle.std.proofs.Common.{◌≡◌, refl, sym, ap, ◌∙◌, ℕ, List}
use Rattle.es_base.specs.declared.ledger.GeneratedKind.{GeneratedKind}
use Rattle.es_steps.specs.Context.{Context, new_here}
use Rattle.es_steps.specs.GeneratedForms as spec
use Rattle.es_steps.specs.Code as of
use Rattle.es_codes.proofs.Forms.{to_name_is, to_private_is}
use Rattle.es_codes.specs.CodeView.{code_of, target_of, callee_of, code_step, target_step, callee_step}
use Rattle.es_codes.specs.View.{kind_of, reference_of}
use Rattle.es_codes.specs.declared.name.NameKind.{NameKind}
use Rattle.es_codes.specs.declared.name.PrivateReference.{PrivateReference}
use Rattle.es_codes.specs.declared.code.Code.{Code}
use Rattle.es_codes.specs.declared.code.Target.{Target}
use Rattle.es_codes.specs.declared.code.Callee.{Callee}
use Rattle.es_codes.specs.declared.code.Target.TheVariants as targets
use Rattle.es_codes.specs.declared.code.Callee.TheOpen.{Target-F}
use Rattle.es_codes.specs.declared.code.Callee.TheViews.{roll-Target, out-Target, roll-out-Target}
use Rattle.es_codes.specs.declared.code.Callee.TheFolds.{map-Target, fold-roll-Target}

target-roll : (y : Target-F Callee Code Target) → target_of (roll-Target y) ≡ target_step (map-Target Callee Code Target of.Callee of.Code of.Target callee_of code_of target_of y)
unfolding code_of target_of callee_of
target-roll y = fold-roll-Target of.Callee of.Code of.Target callee_step code_step target_step y

target-out : (to : Target) → target_of to ≡ target_step (map-Target Callee Code Target of.Callee of.Code of.Target callee_of code_of target_of (out-Target to))
target-out to = ap target_of (sym (roll-out-Target to)) ∙ target-roll (out-Target to)

pub to_a_name : (c : Context) (m : ℕ) (e : of.Code) (to : Target) (node : ℕ) (spelling : List ℕ) (kind : NameKind) → to ≡ targets.ToName node spelling kind → spec.generated_assignment c m (target_of to) e ≡ spec.generated_assignment c m (of.to_name node spelling (kind_of kind)) e
to_a_name c m e to node spelling kind is = ap (λ x. spec.generated_assignment c m (target_of x) e) is ∙ ap (λ x. spec.generated_assignment c m x e) (to_name_is node spelling kind)

pub to_a_private : (c : Context) (m : ℕ) (e : of.Code) (to : Target) (node : ℕ) (means : PrivateReference) (object : Code) → to ≡ targets.ToPrivate node means object → spec.generated_assignment c m (target_of to) e ≡ spec.private_assignment (new_here c m) m node (reference_of means) (code_of object) e
to_a_private c m e to node means object is = ap (λ x. spec.generated_assignment c m (target_of x) e) is ∙ ap (λ x. spec.generated_assignment c m x e) (to_private_is node means object)

pub to_another : (c : Context) (m : ℕ) (e : of.Code) (to : Target) → ((node : ℕ) (spelling : List ℕ) (kind : NameKind) → to ≡ targets.ToName node spelling kind → ⊥) → ((node : ℕ) (means : PrivateReference) (object : Code) → to ≡ targets.ToPrivate node means object → ⊥) → spec.generated_assignment c m (target_of to) e ≡ of.assign (target_of to) (spec.assigned_value (new_here c m) m e)
to_another c m e to not_name not_private = ap (λ x. spec.generated_assignment c m x e) (target-out to) ∙ by (out-Target to) (roll-out-Target to) ∙ ap (λ x. of.assign x (spec.assigned_value (new_here c m) m e)) (sym (target-out to))
  where
    by : (y : Target-F Callee Code Target) → roll-Target y ≡ to → spec.generated_assignment c m (target_step (map-Target Callee Code Target of.Callee of.Code of.Target callee_of code_of target_of y)) e ≡ of.assign (target_step (map-Target Callee Code Target of.Callee of.Code of.Target callee_of code_of target_of y)) (spec.assigned_value (new_here c m) m e)
    by (Target-F.ToName node spelling kind) is = absurd (not_name node spelling kind (sym is ∙ targets.rolls-ToName node spelling kind))
    by (Target-F.ToPrivate node means object) is = absurd (not_private node means object (sym is ∙ targets.rolls-ToPrivate node means object))
    by y is = refl

-- a name that a lowering did not make
pub other_name : (c : Context) (m b : ℕ) (s : List ℕ) (kind : NameKind) (e : of.Code) → ((g : GeneratedKind) → kind ≡ NameKind.Generated g → ⊥) → ((d n : ℕ) → kind ≡ NameKind.StaticMethod d n → ⊥) → of.assign (of.to_name b s (kind_of kind)) (spec.assigned_value (new_here c m) m e) ≡ spec.generated_assignment c m (of.to_name b s (kind_of kind)) e
other_name c m b s (NameKind.Generated g) e made method = absurd (made g refl)
other_name c m b s (NameKind.StaticMethod d n) e made method = absurd (method d n refl)
other_name c m b s kind e made method = refl
