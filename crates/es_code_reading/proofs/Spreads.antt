-- Spread elements, by the forms of codes.
use Rattle.std.proofs.Common.{◌≡◌, refl, sym, ap, ◌∙◌, ℕ, List, false}
use Rattle.es_steps.specs.GeneratedForms as spec
use Rattle.es_base.specs.declared.kind.Kind.{Kind}
use Rattle.es_steps.specs.Events as events
use Rattle.es_code_reading.specs.Letters.{spreads}
use Rattle.es_steps.specs.Code as of
use Rattle.es_codes.proofs.Forms.{operation_is}
use Rattle.es_codes.specs.CodeView.{code_of, target_of, callee_of, codes_of, code_step}
use Rattle.es_codes.specs.View.{operation_of}
use Rattle.es_codes.specs.declared.code.Code.{Code}
use Rattle.es_codes.specs.declared.code.Target.{Target}
use Rattle.es_codes.specs.declared.code.Callee.{Callee}
use Rattle.es_codes.specs.declared.event.Operation.{Operation}
use Rattle.es_codes.specs.declared.code.Code.TheVariants as variants
use Rattle.es_codes.specs.declared.code.Callee.TheOpen.{Code-F}
use Rattle.es_codes.specs.declared.code.Callee.TheViews.{roll-Code, out-Code, roll-out-Code}
use Rattle.es_codes.specs.declared.code.Callee.TheFolds.{map-Code}
use Rattle.es_code_reading.proofs.FormCases.{code-out}

spread-operation : (m : ℕ) (op : events.Operation) (es held : of.Codes) → spec.is_spread (of.operation m op es held) ≡ spreads op
spread-operation m (events.OfKind Kind.SpreadElement ds) es held = refl
spread-operation m (events.OfKind kind ds) es held = refl
spread-operation m op es held = refl

pub an_operation : (e : Code) (node : ℕ) (operation : Operation) (operands : List Code) (held : List Code) → e ≡ variants.Operation node operation operands held → spec.is_spread (code_of e) ≡ spreads (operation_of operation)
an_operation e node operation operands held is = ap (λ x. spec.is_spread (code_of x)) is ∙ ap (λ x. spec.is_spread x) (operation_is node operation operands held) ∙ spread-operation node (operation_of operation) (codes_of operands) (codes_of held)

pub another_form : (e : Code) → ((node : ℕ) (operation : Operation) (operands : List Code) (held : List Code) → e ≡ variants.Operation node operation operands held → ⊥) → spec.is_spread (code_of e) ≡ false
another_form e no_operation = ap (λ x. spec.is_spread x) (code-out e) ∙ by (out-Code e) (roll-out-Code e)
  where
    by : (y : Code-F Callee Code Target) → roll-Code y ≡ e → spec.is_spread (code_step (map-Code Callee Code Target of.Callee of.Code of.Target callee_of code_of target_of y)) ≡ false
    by (Code-F.Operation node operation operands held) is = absurd (no_operation node operation operands held (sym is ∙ variants.rolls-Operation node operation operands held))
    by y is = refl
