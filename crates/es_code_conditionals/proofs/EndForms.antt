-- Conditional expressions, by the forms of their parts.
use Rattle.std.proofs.Common.{◌≡◌, refl, sym, ap, ◌∙◌, ℕ, ◌<◌, List, [], ◌∷◌, length, Bool, true, false, cond, arith}
use Rattle.es_codes.specs.Keyed.{is_key}
use Rattle.es_steps.specs.Context.{Context}
use Rattle.es_steps.specs.Events as events
use Rattle.es_steps.specs.Expressions as spec
use Rattle.es_steps.specs.GeneratedForms as generated
use Rattle.es_steps.specs.Members.{Member, more, end}
use Rattle.es_steps.specs.Values as values
use Rattle.es_code_conditionals.specs.Ends.{chain_behind, chain_end, end_by, first_of, plain_conditional}
use Rattle.es_code_conditionals.specs.declared.conditional.ChainEnd.{ChainEnd}
use Rattle.es_steps.specs.Code as of
use Rattle.es_codes.proofs.Forms.{code_out, logical_is, operation_is, value_is}
use Rattle.es_codes.specs.CodeView.{code_of, target_of, callee_of, codes_of, code_step}
use Rattle.es_codes.specs.View.{operation_of}
use Rattle.es_codes.specs.declared.code.Code.{Code}
use Rattle.es_codes.specs.declared.code.Target.{Target}
use Rattle.es_codes.specs.declared.code.Callee.{Callee}
use Rattle.es_codes.specs.declared.event.Operation.{Operation}
use Rattle.es_codes.specs.declared.code.Code.TheVariants as variants
use Rattle.es_codes.specs.declared.code.Callee.TheOpen.{Code-F}
use Rattle.es_codes.specs.declared.code.Callee.TheViews.{roll-Code, out-Code, roll-out-Code}
use Rattle.es_codes.specs.declared.code.Callee.TheFolds.{map-Code}

pub key_no_end : (v : values.Value) → is_key v ≡ true → ChainEnd.NoChain ≡ end_by (of.value v)
key_no_end (values.KeyOf v) h = refl
key_no_end v h = cc

pub none_first : (cs : List Code) → length cs < 1 → of.no_rule ≡ first_of (codes_of cs)
none_first [] h = refl
none_first (c ∷ cs) h = absurd (omega (arith, h))

left-of : (m : ℕ) (op : events.Operation) (es held : of.Codes) → generated.left_of (of.operation m op es held) ≡ first_of es
left-of m op of.done held = refl
left-of m op (of.and a es) held = refl

pub value_end : (e : Code) (value : values.Value) → e ≡ variants.Value value → end_by (code_of e) ≡ end_by (of.value value)
value_end e value is = ap (λ x. end_by (code_of x)) is ∙ ap (λ x. end_by x) (value_is value)

pub no_end : (e : Code) → ((value : values.Value) → e ≡ variants.Value value → ⊥) → end_by (code_of e) ≡ ChainEnd.NoChain
no_end e not_value = ap (λ x. end_by x) (code_out e) ∙ by (out-Code e) (roll-out-Code e)
  where
    by : (y : Code-F Callee Code Target) → roll-Code y ≡ e → end_by (code_step (map-Code Callee Code Target of.Callee of.Code of.Target callee_of code_of target_of y)) ≡ ChainEnd.NoChain
    by (Code-F.Value value) is = absurd (not_value value (sym is ∙ variants.rolls-Value value))
    by y is = refl

pub left_operand : (e : Code) (node : ℕ) (operation : Operation) (operands : List Code) (held : List Code) → e ≡ variants.Operation node operation operands held → generated.left_of (code_of e) ≡ first_of (codes_of operands)
left_operand e node operation operands held is = ap (λ x. generated.left_of (code_of x)) is ∙ ap (λ x. generated.left_of x) (operation_is node operation operands held) ∙ left-of node (operation_of operation) (codes_of operands) (codes_of held)

pub no_left_operand : (e : Code) → ((node : ℕ) (operation : Operation) (operands : List Code) (held : List Code) → e ≡ variants.Operation node operation operands held → ⊥) → generated.left_of (code_of e) ≡ of.no_rule
no_left_operand e not_operation = ap (λ x. generated.left_of x) (code_out e) ∙ by (out-Code e) (roll-out-Code e)
  where
    by : (y : Code-F Callee Code Target) → roll-Code y ≡ e → generated.left_of (code_step (map-Code Callee Code Target of.Callee of.Code of.Target callee_of code_of target_of y)) ≡ of.no_rule
    by (Code-F.Operation node operation operands held) is = absurd (not_operation node operation operands held (sym is ∙ variants.rolls-Operation node operation operands held))
    by y is = refl

pub asked_twice : (m : ℕ) (r : of.Code) (e : Code) (node : ℕ) (operator : List ℕ) (left : Code) (right : Code) → e ≡ variants.Logical node operator left right → chain_behind m (code_of e) r ≡ of.chain m (of.tested (generated.left_of (code_of left)) (of.and (generated.left_of (code_of right)) of.done) r)
asked_twice m r e node operator left right is = ap (λ x. chain_behind m (code_of x) r) is ∙ ap (λ x. chain_behind m x r) (logical_is node operator left right)

pub asked_once : (m : ℕ) (r : of.Code) (e : Code) → ((node : ℕ) (operator : List ℕ) (left : Code) (right : Code) → e ≡ variants.Logical node operator left right → ⊥) → chain_behind m (code_of e) r ≡ of.chain m (of.tested (generated.left_of (code_of e)) of.done r)
asked_once m r e not_logical = ap (λ x. chain_behind m x r) (code_out e) ∙ by (out-Code e) (roll-out-Code e) ∙ ap (λ x. of.chain m (of.tested (generated.left_of x) of.done r)) (sym (code_out e))
  where
    by : (y : Code-F Callee Code Target) → roll-Code y ≡ e → chain_behind m (code_step (map-Code Callee Code Target of.Callee of.Code of.Target callee_of code_of target_of y)) r ≡ of.chain m (of.tested (generated.left_of (code_step (map-Code Callee Code Target of.Callee of.Code of.Target callee_of code_of target_of y))) of.done r)
    by (Code-F.Logical node operator left right) is = absurd (not_logical node operator left right (sym is ∙ variants.rolls-Logical node operator left right))
    by y is = refl

abbrev by_end : ChainEnd → Context → ℕ → of.Code → of.Code → of.Code → of.Code
by_end ChainEnd.Member c m test last whole = chain_behind m test (spec.ended_alone (spec.spliced c last))
by_end ChainEnd.Delete c m test last whole = chain_behind m test (spec.deleted_as c m (spec.spliced c last))
by_end ChainEnd.NoChain c m test last whole = whole

or-by : (c : Context) (m : ℕ) (test middle last whole : of.Code) → spec.chain_or c m test middle last whole ≡ by_end (end_by middle) c m test last whole
or-by c m test (of.value values.Undefined) last whole = refl
or-by c m test (of.value (values.ConstantOf (values.BooleanOf true))) last whole = refl
or-by c m test (of.value v) last whole = refl
or-by c m test middle last whole = refl

conditional-by : (c : Context) (m : ℕ) (is_test : Bool) (test middle last whole : of.Code) → cond is_test (spec.chain_or c m test middle last whole) whole ≡ by_end (chain_end is_test middle) c m test last whole
conditional-by c m true test middle last whole = or-by c m test middle last whole
conditional-by c m false test middle last whole = refl

abbrev whole_of : Context → ℕ → Member → Member → Member → of.Code
whole_of c m test middle last = spec.conditional_code c m (more test (more middle (more last end)))

conditional-end : (c : Context) (m : ℕ) (test middle last : Member) (by : ChainEnd) → by ≡ chain_end (generated.is_undefined_test c (spec.the_code test)) (spec.the_code middle) → by_end by c m (spec.the_code test) (spec.the_code last) (plain_conditional m test middle last) ≡ whole_of c m test middle last
conditional-end c m test middle last by is = ap (λ b. by_end b c m (spec.the_code test) (spec.the_code last) (plain_conditional m test middle last)) is ∙ sym (conditional-by c m (generated.is_undefined_test c (spec.the_code test)) (spec.the_code test) (spec.the_code middle) (spec.the_code last) (plain_conditional m test middle last))

pub of_member : (c : Context) (m : ℕ) (test middle last : Member) → ChainEnd.Member ≡ chain_end (generated.is_undefined_test c (spec.the_code test)) (spec.the_code middle) → chain_behind m (spec.the_code test) (spec.ended_alone (spec.spliced c (spec.the_code last))) ≡ spec.conditional_code c m (more test (more middle (more last end)))
of_member c m test middle last is = conditional-end c m test middle last ChainEnd.Member is

pub of_delete : (c : Context) (m : ℕ) (test middle last : Member) → ChainEnd.Delete ≡ chain_end (generated.is_undefined_test c (spec.the_code test)) (spec.the_code middle) → chain_behind m (spec.the_code test) (spec.deleted_as c m (spec.spliced c (spec.the_code last))) ≡ spec.conditional_code c m (more test (more middle (more last end)))
of_delete c m test middle last is = conditional-end c m test middle last ChainEnd.Delete is

pub of_none : (c : Context) (m : ℕ) (test middle last : Member) → ChainEnd.NoChain ≡ chain_end (generated.is_undefined_test c (spec.the_code test)) (spec.the_code middle) → plain_conditional m test middle last ≡ spec.conditional_code c m (more test (more middle (more last end)))
of_none c m test middle last is = conditional-end c m test middle last ChainEnd.NoChain is
