-- New operations, by the forms of codes.
use Rattle.std.proofs.Common.{◌≡◌, refl, sym, ap, ◌∙◌, ℕ, List, [], ◌∷◌, true, false, cond, Some, None}
use Rattle.std.proofs.Common.{◌≤◌, length, arith}
use Rattle.std.specs.Prelude.{◌&&◌}
use Rattle.es_steps.specs.Context.{Context, new_here}
use Rattle.es_code_new_literals.specs.Literals.{new_operation, no_codes}
use Rattle.es_steps.specs.Code as of
use Rattle.es_codes.proofs.Forms.{code_out, operation_is}
use Rattle.es_codes.specs.CodeView.{code_of, target_of, callee_of, codes_of, code_step}
use Rattle.es_codes.specs.View.{operation_of}
use Rattle.es_codes.specs.declared.code.Code.{Code}
use Rattle.es_codes.specs.declared.code.Target.{Target}
use Rattle.es_codes.specs.declared.code.Callee.{Callee}
use Rattle.es_codes.specs.declared.event.Operation.{Operation}
use Rattle.es_codes.specs.declared.code.Code.TheVariants as variants
use Rattle.es_codes.specs.declared.code.Callee.TheOpen.{Code-F}
use Rattle.es_codes.specs.declared.code.Callee.TheViews.{roll-Code, out-Code, roll-out-Code}
use Rattle.es_codes.specs.declared.code.Callee.TheFolds.{map-Code}

pub some_codes : (es : List Code) → 1 ≤ length es → false ≡ no_codes (codes_of es)
some_codes [] h = absurd (omega (arith, h))
some_codes (e ∷ es) h = refl

an-operation : (c : Context) (e : Code) (node : ℕ) (operation : Operation) (operands : List Code) (held : List Code) → e ≡ variants.Operation node operation operands held → new_operation c (code_of e) ≡ cond (new_here c node && no_codes (codes_of held)) (Some (operation_of operation, codes_of operands)) None
an-operation c e node operation operands held is = ap (λ x. new_operation c (code_of x)) is ∙ ap (λ x. new_operation c x) (operation_is node operation operands held)

pub an_operation : (c : Context) (e : Code) (node : ℕ) (operation : Operation) (operands : List Code) (held : List Code) → e ≡ variants.Operation node operation operands held → (new_here c node && no_codes (codes_of held)) ≡ true → Some (operation_of operation, codes_of operands) ≡ new_operation c (code_of e)
an_operation c e node operation operands held is unheld = sym (an-operation c e node operation operands held is ∙ ap (λ b. cond b (Some (operation_of operation, codes_of operands)) None) unheld)

pub another_operation : (c : Context) (e : Code) (node : ℕ) (operation : Operation) (operands : List Code) (held : List Code) → e ≡ variants.Operation node operation operands held → (new_here c node && no_codes (codes_of held)) ≡ false → None ≡ new_operation c (code_of e)
another_operation c e node operation operands held is unheld = sym (an-operation c e node operation operands held is ∙ ap (λ b. cond b (Some (operation_of operation, codes_of operands)) None) unheld)

pub no_operation : (c : Context) (e : Code) → ((node : ℕ) (operation : Operation) (operands : List Code) (held : List Code) → e ≡ variants.Operation node operation operands held → ⊥) → new_operation c (code_of e) ≡ None
no_operation c e not_operation = ap (λ x. new_operation c x) (code_out e) ∙ by (out-Code e) (roll-out-Code e)
  where
    by : (y : Code-F Callee Code Target) → roll-Code y ≡ e → new_operation c (code_step (map-Code Callee Code Target of.Callee of.Code of.Target callee_of code_of target_of y)) ≡ None
    by (Code-F.Operation node operation operands held) is = absurd (not_operation node operation operands held (sym is ∙ variants.rolls-Operation node operation operands held))
    by y is = refl
