-- What a code adds to the operation around it, form by form.
use Rattle.std.proofs.Common.{◌≡◌, refl, sym, ap, ◌∙◌, ℕ, List, [], ◌∷◌}
use Rattle.es_steps.specs.Members.{inner_details, inner_operands}
use Rattle.es_steps.specs.Events.{Operand, Spelled}
use Rattle.es_steps.specs.Code as of
use Rattle.es_codes.proofs.Forms.{code_out, piece_is, spelled_is}
use Rattle.es_codes.specs.CodeView.{code_of, target_of, callee_of, codes_of, code_step}
use Rattle.es_codes.specs.View.{details_of}
use Rattle.es_codes.specs.declared.code.Code.{Code}
use Rattle.es_codes.specs.declared.code.Target.{Target}
use Rattle.es_codes.specs.declared.code.Callee.{Callee}
use Rattle.es_codes.specs.declared.event.Detail.{Detail}
use Rattle.es_codes.specs.declared.code.Code.TheVariants as variants
use Rattle.es_codes.specs.declared.code.Callee.TheOpen.{Code-F}
use Rattle.es_codes.specs.declared.code.Callee.TheViews.{roll-Code, out-Code, roll-out-Code}
use Rattle.es_codes.specs.declared.code.Callee.TheFolds.{map-Code}

pub piece_operands : (e : Code) (details : List Detail) (operands : List Code) → e ≡ variants.Piece details operands → inner_operands (code_of e) ≡ codes_of operands
piece_operands e details operands is = ap (λ x. inner_operands (code_of x)) is ∙ ap (λ x. inner_operands x) (piece_is details operands)

pub spelled_operands : (e : Code) (spelling : List ℕ) → e ≡ variants.Spelled spelling → inner_operands (code_of e) ≡ of.done
spelled_operands e spelling is = ap (λ x. inner_operands (code_of x)) is ∙ ap (λ x. inner_operands x) (spelled_is spelling)

pub own_operand : (e : Code) → ((details : List Detail) (operands : List Code) → e ≡ variants.Piece details operands → ⊥) → ((spelling : List ℕ) → e ≡ variants.Spelled spelling → ⊥) → inner_operands (code_of e) ≡ of.and (code_of e) of.done
own_operand e no_piece no_spelled = ap (λ x. inner_operands x) (code_out e) ∙ by (out-Code e) (roll-out-Code e) ∙ ap (λ x. of.and x of.done) (sym (code_out e))
  where
    by : (y : Code-F Callee Code Target) → roll-Code y ≡ e → inner_operands (code_step (map-Code Callee Code Target of.Callee of.Code of.Target callee_of code_of target_of y)) ≡ of.and (code_step (map-Code Callee Code Target of.Callee of.Code of.Target callee_of code_of target_of y)) of.done
    by (Code-F.Piece details operands) is = absurd (no_piece details operands (sym is ∙ variants.rolls-Piece details operands))
    by (Code-F.Spelled spelling) is = absurd (no_spelled spelling (sym is ∙ variants.rolls-Spelled spelling))
    by y is = refl

pub piece_details : (e : Code) (details : List Detail) (operands : List Code) → e ≡ variants.Piece details operands → inner_details (code_of e) ≡ details_of details
piece_details e details operands is = ap (λ x. inner_details (code_of x)) is ∙ ap (λ x. inner_details x) (piece_is details operands)

pub spelled_details : (e : Code) (spelling : List ℕ) → e ≡ variants.Spelled spelling → inner_details (code_of e) ≡ (Spelled spelling ∷ [])
spelled_details e spelling is = ap (λ x. inner_details (code_of x)) is ∙ ap (λ x. inner_details x) (spelled_is spelling)

pub own_detail : (e : Code) → ((details : List Detail) (operands : List Code) → e ≡ variants.Piece details operands → ⊥) → ((spelling : List ℕ) → e ≡ variants.Spelled spelling → ⊥) → inner_details (code_of e) ≡ (Operand ∷ [])
own_detail e no_piece no_spelled = ap (λ x. inner_details x) (code_out e) ∙ by (out-Code e) (roll-out-Code e)
  where
    by : (y : Code-F Callee Code Target) → roll-Code y ≡ e → inner_details (code_step (map-Code Callee Code Target of.Callee of.Code of.Target callee_of code_of target_of y)) ≡ (Operand ∷ [])
    by (Code-F.Piece details operands) is = absurd (no_piece details operands (sym is ∙ variants.rolls-Piece details operands))
    by (Code-F.Spelled spelling) is = absurd (no_spelled spelling (sym is ∙ variants.rolls-Spelled spelling))
    by y is = refl
