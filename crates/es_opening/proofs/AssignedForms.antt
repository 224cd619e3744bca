-- What a code gives a value, by its form.
use Rattle.std.proofs.Common.{◌≡◌, refl, sym, ap, ◌∙◌, ℕ, List, Bool, [], ◌++◌, append-nil}
use Rattle.es_base.specs.declared.ledger.GeneratedKind.{GeneratedKind}
use Rattle.es_codes.proofs.Forms.{code_out}
use Rattle.es_codes.specs.CodeView.{code_of, target_of, callee_of, code_step, target_step, callee_step}
use Rattle.es_codes.specs.View.{kind_of}
use Rattle.es_codes.specs.declared.name.NameKind.{NameKind}
use Rattle.es_codes.specs.declared.code.Callee.{Callee}
use Rattle.es_codes.specs.declared.code.Callee.TheFolds.{map-Code, map-Target, fold-roll-Target}
use Rattle.es_codes.specs.declared.code.Callee.TheOpen.{Code-F, Target-F}
use Rattle.es_codes.specs.declared.code.Callee.TheViews.{roll-Code, out-Code, roll-out-Code, roll-Target, out-Target, roll-out-Target}
use Rattle.es_codes.specs.declared.code.Code.{Code}
use Rattle.es_codes.specs.declared.code.Code.TheVariants as variants
use Rattle.es_codes.specs.declared.code.Target.{Target}
use Rattle.es_codes.specs.declared.code.Target.TheVariants as targets
use Rattle.es_opening.specs.Assigned.{names_of}
use Rattle.es_opening.specs.declared.assigned.Assigned.{Assigned}
use Rattle.es_steps.specs.Code as of
use Rattle.es_steps.specs.Opening.{assigned_by, target_name}
use Rattle.es_steps.specs.Values.{String}

pub nothing_assigned : (names : List Assigned) → names_of names ≡ names_of names ++ []
nothing_assigned names = sym (append-nil (names_of names))

pub others_assign : (e : Code) → ((to : Target) (right : Code) → e ≡ variants.Assign to right → ⊥) → ((node : ℕ) (operator : List ℕ) (to : Target) (right : Code) → e ≡ variants.Compound node operator to right → ⊥) → ((node : ℕ) (operator : List ℕ) (to : Target) (right : Code) → e ≡ variants.LogicalAssign node operator to right → ⊥) → ((node : ℕ) (operator : List ℕ) (is_prefix : Bool) (to : Target) → e ≡ variants.Update node operator is_prefix to → ⊥) → ((parameters : List (List ℕ)) (body : Code) (arguments : List Code) → e ≡ variants.CallArrow parameters body arguments → ⊥) → ((spelling : List ℕ) (right : Code) → e ≡ variants.GeneratedElement spelling right → ⊥) → assigned_by (code_of e) ≡ []
others_assign e no_assign no_compound no_logical no_update no_arrow no_element = ap (λ x. assigned_by x) (code_out e) ∙ by (out-Code e) (roll-out-Code e)
  where
    by : (y : Code-F Callee Code Target) → roll-Code y ≡ e → assigned_by (code_step (map-Code Callee Code Target of.Callee of.Code of.Target callee_of code_of target_of y)) ≡ []
    by (Code-F.Assign to right) is = absurd (no_assign to right (sym is ∙ variants.rolls-Assign to right))
    by (Code-F.Compound node operator to right) is = absurd (no_compound node operator to right (sym is ∙ variants.rolls-Compound node operator to right))
    by (Code-F.LogicalAssign node operator to right) is = absurd (no_logical node operator to right (sym is ∙ variants.rolls-LogicalAssign node operator to right))
    by (Code-F.Update node operator is_prefix to) is = absurd (no_update node operator is_prefix to (sym is ∙ variants.rolls-Update node operator is_prefix to))
    by (Code-F.CallArrow parameters body arguments) is = absurd (no_arrow parameters body arguments (sym is ∙ variants.rolls-CallArrow parameters body arguments))
    by (Code-F.GeneratedElement spelling right) is = absurd (no_element spelling right (sym is ∙ variants.rolls-GeneratedElement spelling right))
    by y is = refl

target-roll : (y : Target-F Callee Code Target) → target_of (roll-Target y) ≡ target_step (map-Target Callee Code Target of.Callee of.Code of.Target callee_of code_of target_of y)
unfolding code_of target_of callee_of
target-roll y = fold-roll-Target of.Callee of.Code of.Target callee_step code_step target_step y

-- a target by its form
target_out : (to : Target) → target_of to ≡ target_step (map-Target Callee Code Target of.Callee of.Code of.Target callee_of code_of target_of (out-Target to))
target_out to = ap target_of (sym (roll-out-Target to)) ∙ target-roll (out-Target to)

pub others_name : (to : Target) → ((node : ℕ) (spelling : List ℕ) (kind : NameKind) → to ≡ targets.ToName node spelling kind → ⊥) → target_name (target_of to) ≡ []
others_name to no_name = ap (λ x. target_name x) (target_out to) ∙ by (out-Target to) (roll-out-Target to)
  where
    by : (y : Target-F Callee Code Target) → roll-Target y ≡ to → target_name (target_step (map-Target Callee Code Target of.Callee of.Code of.Target callee_of code_of target_of y)) ≡ []
    by (Target-F.ToName node spelling kind) is = absurd (no_name node spelling kind (sym is ∙ targets.rolls-ToName node spelling kind))
    by y is = refl

pub none_generated : (s : String) (kind : NameKind) → ((g : GeneratedKind) → kind ≡ NameKind.Generated g → ⊥) → target_name (of.to_name 0 s (kind_of kind)) ≡ []
none_generated s (NameKind.Generated g) other = absurd (other g refl)
none_generated s kind other = refl
