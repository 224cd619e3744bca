-- Comparisons with null and undefined, by the forms of codes.
use Rattle.std.proofs.Common.{◌≡◌, refl, sym, ap, ◌∙◌, ℕ, ◌<◌, ◌≤◌, List, [], ◌∷◌, length, get_or, Bool, true, false, cond, Option, Some, None, arith}
use Rattle.std.specs.Prelude.{IsTrue, ◌↔◌, ◌&&◌, codes}
use Rattle.es_base.specs.declared.kind.Kind.{Kind}
use Rattle.es_steps.specs.Context.{Context}
use Rattle.es_steps.specs.Events as events
use Rattle.es_steps.specs.GeneratedForms as spec
use Rattle.es_codes.specs.declared.event.Detail.{Detail}
use Rattle.es_code_conditionals.specs.Comparisons.{compared, compared_by, double_test, is_none, is_operand, second_of_two, single_test, spells_operator}
use Rattle.es_steps.specs.Code as of
use Rattle.es_codes.proofs.Forms.{code_out, logical_is, operation_is}
use Rattle.es_codes.specs.CodeView.{code_of, target_of, callee_of, codes_of, code_step}
use Rattle.es_codes.specs.View.{detail_of, operation_of, details_of}
use Rattle.es_codes.specs.declared.code.Code.{Code}
use Rattle.es_codes.specs.declared.code.Target.{Target}
use Rattle.es_codes.specs.declared.code.Callee.{Callee}
use Rattle.es_codes.specs.declared.event.Operation.{Operation}
use Rattle.es_codes.specs.declared.code.Code.TheVariants as variants
use Rattle.es_codes.specs.declared.code.Callee.TheOpen.{Code-F}
use Rattle.es_codes.specs.declared.code.Callee.TheViews.{roll-Code, out-Code, roll-out-Code}
use Rattle.es_codes.specs.declared.code.Callee.TheFolds.{map-Code}

comparison-by : (s : List ℕ) (d e f : events.Detail) → ((is_operand e && is_operand f) && spells_operator s d) ≡ spec.is_comparison s (d ∷ e ∷ f ∷ [])
comparison-by s (events.Spelled t) events.Operand events.Operand = refl
comparison-by s d events.Operand events.Operand = refl
comparison-by s d events.Operand f = refl
comparison-by s d e f = refl

pub three_details : (s : List ℕ) (d e f : events.Detail) → ((is_operand e && is_operand f) && spells_operator s d) ≡ spec.is_comparison s (d ∷ e ∷ f ∷ [])
three_details = comparison-by

one-detail : (s : List ℕ) (d : events.Detail) → false ≡ spec.is_comparison s (d ∷ [])
one-detail s (events.Spelled t) = refl
one-detail s d = refl

two-details : (s : List ℕ) (d e : events.Detail) → false ≡ spec.is_comparison s (d ∷ e ∷ [])
two-details s (events.Spelled t) events.Operand = refl
two-details s d e = refl

four-details : (s : List ℕ) (d e f g : events.Detail) (ds : List events.Detail) → false ≡ spec.is_comparison s (d ∷ e ∷ f ∷ g ∷ ds)
four-details s (events.Spelled t) events.Operand events.Operand g ds = refl
four-details s d e f g ds = refl

pub fewer_details : (s : List ℕ) (ds : List Detail) → length ds < 3 → false ≡ spec.is_comparison s (details_of ds)
fewer_details s [] h = refl
fewer_details s (d ∷ []) h = one-detail s (detail_of d)
fewer_details s (d ∷ e ∷ []) h = two-details s (detail_of d) (detail_of e)
fewer_details s (d ∷ e ∷ f ∷ ds) h = absurd (omega (arith, h))

pub more_details : (s : List ℕ) (ds : List Detail) → 4 ≤ length ds → false ≡ spec.is_comparison s (details_of ds)
more_details s (d ∷ e ∷ f ∷ g ∷ ds) h = four-details s (detail_of d) (detail_of e) (detail_of f) (detail_of g) (details_of ds)
more_details s [] h = absurd (omega (arith, h))
more_details s (d ∷ []) h = absurd (omega (arith, h))
more_details s (d ∷ e ∷ []) h = absurd (omega (arith, h))
more_details s (d ∷ e ∷ f ∷ []) h = absurd (omega (arith, h))

pub these_three : (s : List ℕ) (ds : List Detail) (d e f : Detail) → 3 ≤ length ds → length ds < 4 → d ≡ get_or ds 0 d → e ≡ get_or ds 1 e → f ≡ get_or ds 2 f → spec.is_comparison s (detail_of d ∷ detail_of e ∷ detail_of f ∷ []) ≡ spec.is_comparison s (details_of ds)
these_three s (x ∷ y ∷ z ∷ []) d e f least below first second third =
    ap (λ a. spec.is_comparison s (detail_of a ∷ detail_of e ∷ detail_of f ∷ [])) first
    ∙ ap (λ a. spec.is_comparison s (detail_of x ∷ detail_of a ∷ detail_of f ∷ [])) second
    ∙ ap (λ a. spec.is_comparison s (detail_of x ∷ detail_of y ∷ detail_of a ∷ [])) third
these_three s [] d e f least below first second third = absurd (omega (arith, least))
these_three s (x ∷ []) d e f least below first second third = absurd (omega (arith, least))
these_three s (x ∷ y ∷ []) d e f least below first second third = absurd (omega (arith, least))
these_three s (x ∷ y ∷ z ∷ w ∷ ds) d e f least below first second third = absurd (omega (arith, below))

pub fewer_codes : (cs : List Code) → length cs < 2 → None ≡ second_of_two (codes_of cs)
fewer_codes [] h = refl
fewer_codes (c ∷ []) h = refl
fewer_codes (c ∷ d ∷ cs) h = absurd (omega (arith, h))

pub more_codes : (cs : List Code) → 3 ≤ length cs → None ≡ second_of_two (codes_of cs)
more_codes (c ∷ d ∷ e ∷ cs) h = refl
more_codes cs h = absurd (omega (arith, h))

pub none_held : (b : Bool) (cs : List Code) → IsTrue b ↔ (cs ≡ []) → b ≡ is_none (codes_of cs)
none_held true [] h = refl
none_held false [] h = h.1 refl
none_held b (c ∷ cs) h = elim b as (λ d. (IsTrue d → c ∷ cs ≡ []) → d ≡ false) [ true ↦ λ k. absurd (cc (k refl)) | false ↦ λ k. refl ] h.0

pub an_operation : (s : List ℕ) (e : Code) (node : ℕ) (operation : Operation) (operands : List Code) (held : List Code) → e ≡ variants.Operation node operation operands held → compared s (code_of e) ≡ compared_by s (operation_of operation) (codes_of operands) (codes_of held)
an_operation s e node operation operands held is = ap (λ x. compared s (code_of x)) is ∙ ap (λ x. compared s x) (operation_is node operation operands held)

pub no_operation : (s : List ℕ) (e : Code) → ((node : ℕ) (operation : Operation) (operands : List Code) (held : List Code) → e ≡ variants.Operation node operation operands held → ⊥) → compared s (code_of e) ≡ None
no_operation s e not_operation = ap (λ x. compared s x) (code_out e) ∙ by (out-Code e) (roll-out-Code e)
  where
    by : (y : Code-F Callee Code Target) → roll-Code y ≡ e → compared s (code_step (map-Code Callee Code Target of.Callee of.Code of.Target callee_of code_of target_of y)) ≡ None
    by (Code-F.Operation node operation operands held) is = absurd (not_operation node operation operands held (sym is ∙ variants.rolls-Operation node operation operands held))
    by y is = refl

abbrev if_some : (of.Code → Bool) → Option of.Code → Bool
if_some test (Some e) = test e
if_some test None = false

picked : (test : of.Code → Bool) (b : Bool) (e : of.Code) → (b && test e) ≡ if_some test (cond (b && true) (Some e) None)
picked test true e = refl
picked test false e = refl

unpicked : (test : of.Code → Bool) (b : Bool) → false ≡ if_some test (cond b None None)
unpicked test true = refl
unpicked test false = refl

unpicked_held : (test : of.Code → Bool) (b : Bool) (e : of.Code) → false ≡ if_some test (cond (b && false) (Some e) None)
unpicked_held test true e = refl
unpicked_held test false e = refl

null-by : (s : List ℕ) (e : of.Code) → spec.is_null_test s e ≡ if_some spec.is_null (compared s e)
null-by s (of.operation m (events.OfKind Kind.BinaryExpression ds) (of.and a (of.and n of.done)) of.done) = picked spec.is_null (spec.is_comparison s ds) n
null-by s (of.operation m (events.OfKind Kind.BinaryExpression ds) (of.and a (of.and n of.done)) (of.and h hs)) = unpicked_held spec.is_null (spec.is_comparison s ds) n
null-by s (of.operation m (events.OfKind Kind.BinaryExpression ds) (of.and a (of.and n (of.and b bs))) held) = unpicked spec.is_null (spec.is_comparison s ds && is_none held)
null-by s (of.operation m (events.OfKind Kind.BinaryExpression ds) (of.and a of.done) held) = unpicked spec.is_null (spec.is_comparison s ds && is_none held)
null-by s (of.operation m (events.OfKind Kind.BinaryExpression ds) of.done held) = unpicked spec.is_null (spec.is_comparison s ds && is_none held)
null-by s e = refl

pub with_null : (s : List ℕ) (e n : of.Code) → Some n ≡ compared s e → spec.is_null n ≡ spec.is_null_test s e
with_null s e n is = ap (if_some spec.is_null) is ∙ sym (null-by s e)

pub without_null : (s : List ℕ) (e : of.Code) → None ≡ compared s e → false ≡ spec.is_null_test s e
without_null s e is = ap (if_some spec.is_null) is ∙ sym (null-by s e)

void-by : (e : of.Code) → spec.is_void_test e ≡ if_some spec.is_undefined (compared (codes "===") e)
void-by (of.operation m (events.OfKind Kind.BinaryExpression ds) (of.and a (of.and n of.done)) of.done) = picked spec.is_undefined (spec.is_comparison (codes "===") ds) n
void-by (of.operation m (events.OfKind Kind.BinaryExpression ds) (of.and a (of.and n of.done)) (of.and h hs)) = unpicked_held spec.is_undefined (spec.is_comparison (codes "===") ds) n
void-by (of.operation m (events.OfKind Kind.BinaryExpression ds) (of.and a (of.and n (of.and b bs))) held) = unpicked spec.is_undefined (spec.is_comparison (codes "===") ds && is_none held)
void-by (of.operation m (events.OfKind Kind.BinaryExpression ds) (of.and a of.done) held) = unpicked spec.is_undefined (spec.is_comparison (codes "===") ds && is_none held)
void-by (of.operation m (events.OfKind Kind.BinaryExpression ds) of.done held) = unpicked spec.is_undefined (spec.is_comparison (codes "===") ds && is_none held)
void-by e = refl

pub with_undefined : (e n : of.Code) → Some n ≡ compared (codes "===") e → spec.is_undefined n ≡ spec.is_void_test e
with_undefined e n is = ap (if_some spec.is_undefined) is ∙ sym (void-by e)

pub without_undefined : (e : of.Code) → None ≡ compared (codes "===") e → false ≡ spec.is_void_test e
without_undefined e is = ap (if_some spec.is_undefined) is ∙ sym (void-by e)

pub two_tests : (c : Context) (e : Code) (node : ℕ) (operator : List ℕ) (left : Code) (right : Code) → e ≡ variants.Logical node operator left right → spec.is_undefined_test c (code_of e) ≡ double_test c node operator (code_of left) (code_of right)
two_tests c e node operator left right is = ap (λ x. spec.is_undefined_test c (code_of x)) is ∙ ap (λ x. spec.is_undefined_test c x) (logical_is node operator left right)

pub one_test : (c : Context) (e : Code) (node : ℕ) (operation : Operation) (operands : List Code) (held : List Code) → e ≡ variants.Operation node operation operands held → spec.is_undefined_test c (code_of e) ≡ single_test c node (code_of e)
one_test c e node operation operands held is = ap (λ x. spec.is_undefined_test c (code_of x)) is ∙ ap (λ x. spec.is_undefined_test c x) (operation_is node operation operands held) ∙ ap (single_test c node) (sym (ap code_of is ∙ operation_is node operation operands held))

pub no_test : (c : Context) (e : Code) → ((node : ℕ) (operator : List ℕ) (left : Code) (right : Code) → e ≡ variants.Logical node operator left right → ⊥) → ((node : ℕ) (operation : Operation) (operands : List Code) (held : List Code) → e ≡ variants.Operation node operation operands held → ⊥) → spec.is_undefined_test c (code_of e) ≡ false
no_test c e not_logical not_operation = ap (λ x. spec.is_undefined_test c x) (code_out e) ∙ by (out-Code e) (roll-out-Code e)
  where
    by : (y : Code-F Callee Code Target) → roll-Code y ≡ e → spec.is_undefined_test c (code_step (map-Code Callee Code Target of.Callee of.Code of.Target callee_of code_of target_of y)) ≡ false
    by (Code-F.Logical node operator left right) is = absurd (not_logical node operator left right (sym is ∙ variants.rolls-Logical node operator left right))
    by (Code-F.Operation node operation operands held) is = absurd (not_operation node operation operands held (sym is ∙ variants.rolls-Operation node operation operands held))
    by y is = refl
