-- What new literals are made of, by the operation that they are.
use Rattle.std.proofs.Common.{◌≡◌, sym, ap, ◌∙◌, Some, None}
use Rattle.std.specs.Prelude.{option_and_then}
use Rattle.es_steps.specs.Code.{Code, Codes}
use Rattle.es_steps.specs.Context.{Context}
use Rattle.es_steps.specs.Events.{Operation}
use Rattle.es_steps.specs.GeneratedForms as spec
use Rattle.es_code_new_literals.specs.Literals.{new_operation, property_in, writable_in, elements_in}
use Rattle.es_code_new_literals.proofs.LiteralForms.{single-by, writable-by, elements-by}

pub single_property : (c : Context) (e : Code) (op : Operation) (es : Codes) → Some (op, es) ≡ new_operation c e → property_in (op, es) ≡ spec.single_property c e
single_property c e op es is = ap (option_and_then property_in) is ∙ sym (single-by c e)

pub no_single_property : (c : Context) (e : Code) → None ≡ new_operation c e → None ≡ spec.single_property c e
no_single_property c e is = ap (option_and_then property_in) is ∙ sym (single-by c e)

pub writable_value : (c : Context) (e : Code) (op : Operation) (es : Codes) → Some (op, es) ≡ new_operation c e → writable_in (op, es) ≡ spec.writable_value c e
writable_value c e op es is = ap (option_and_then writable_in) is ∙ sym (writable-by c e)

pub no_writable_value : (c : Context) (e : Code) → None ≡ new_operation c e → None ≡ spec.writable_value c e
no_writable_value c e is = ap (option_and_then writable_in) is ∙ sym (writable-by c e)

pub array_elements : (c : Context) (e : Code) (op : Operation) (es : Codes) → Some (op, es) ≡ new_operation c e → elements_in (op, es) ≡ spec.array_elements c e
array_elements c e op es is = ap (option_and_then elements_in) is ∙ sym (elements-by c e)

pub no_array_elements : (c : Context) (e : Code) → None ≡ new_operation c e → None ≡ spec.array_elements c e
no_array_elements c e is = ap (option_and_then elements_in) is ∙ sym (elements-by c e)
