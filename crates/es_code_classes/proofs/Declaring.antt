-- Which identifier declares a class, by the form of a code.
use Rattle.std.proofs.Common.{◌≡◌, refl, sym, ap, ◌∙◌, ℕ, List, None}
use Rattle.es_steps.specs.Context as names
use Rattle.es_steps.specs.Members.{code}
use Rattle.es_steps.specs.Statements as spec
use Rattle.es_code_classes.specs.Classes.{declared_as}
use Rattle.es_steps.specs.Code as of
use Rattle.es_codes.proofs.Forms.{code_out, binding_is}
use Rattle.es_codes.specs.CodeView.{code_of, target_of, callee_of, code_step}
use Rattle.es_codes.specs.View.{kind_of}
use Rattle.es_codes.specs.declared.code.Code.{Code}
use Rattle.es_codes.specs.declared.code.Target.{Target}
use Rattle.es_codes.specs.declared.code.Callee.{Callee}
use Rattle.es_codes.specs.declared.name.NameKind.{NameKind}
use Rattle.es_codes.specs.declared.code.Code.TheVariants as variants
use Rattle.es_codes.specs.declared.code.Callee.TheOpen.{Code-F}
use Rattle.es_codes.specs.declared.code.Callee.TheViews.{roll-Code, out-Code, roll-out-Code}
use Rattle.es_codes.specs.declared.code.Callee.TheFolds.{map-Code}

declared-by : (b : ℕ) (s : List ℕ) (kind : names.NameKind) → spec.declared_by (code (of.binding b s kind)) ≡ declared_as b kind
declared-by b s (names.Generated g) = refl
declared-by b s kind = refl

pub by_binding : (e : Code) (node : ℕ) (spelling : List ℕ) (kind : NameKind) → e ≡ variants.Binding node spelling kind → spec.declared_by (code (code_of e)) ≡ declared_as node (kind_of kind)
by_binding e node spelling kind is = ap (λ x. spec.declared_by (code (code_of x))) is ∙ ap (λ x. spec.declared_by (code x)) (binding_is node spelling kind) ∙ declared-by node spelling (kind_of kind)

pub by_none : (e : Code) → ((node : ℕ) (spelling : List ℕ) (kind : NameKind) → e ≡ variants.Binding node spelling kind → ⊥) → spec.declared_by (code (code_of e)) ≡ None
by_none e not_binding = ap (λ x. spec.declared_by (code x)) (code_out e) ∙ by (out-Code e) (roll-out-Code e)
  where
    by : (y : Code-F Callee Code Target) → roll-Code y ≡ e → spec.declared_by (code (code_step (map-Code Callee Code Target of.Callee of.Code of.Target callee_of code_of target_of y))) ≡ None
    by (Code-F.Binding node spelling kind) is = absurd (not_binding node spelling kind (sym is ∙ variants.rolls-Binding node spelling kind))
    by y is = refl
