-- New literals, as their parts say.
use Rattle.std.proofs.Common.{◌≡◌, refl, sym, ◌∙◌, ℕ, List, [], ◌∷◌, Bool, true, false, cond, Option, Some, None}
use Rattle.std.specs.Prelude.{◌&&◌, option_and_then}
use Rattle.es_base.specs.declared.kind.Kind.{Kind}
use Rattle.es_steps.specs.Code.{Code, Codes, value, operation, key_of, done, and}
use Rattle.es_steps.specs.Context.{Context, new_here}
use Rattle.es_steps.specs.Events.{Detail, Operation, OfKind, Operand, Spelled, Flag, Key, Opens, Closes}
use Rattle.es_steps.specs.GeneratedForms.{is_plain_property, is_writable_form, only_operands}
use Rattle.es_steps.specs.GeneratedForms as spec
use Rattle.es_steps.specs.Values.{StringOf, ConstantOf, BooleanOf}
use Rattle.es_code_new_literals.specs.Details.{is_plain_end}
use Rattle.es_code_new_literals.specs.Literals.{new_operation, no_codes, property_in, writable_in, elements_in}

neither : {A : Type 0} (b : Bool) → None ≡ cond {A = Option A} b None None
neither true = refl
neither false = refl

-- ---- an object literal of one property

-- where it is new or not
abbrev single-if : Bool → Kind → List Detail → Codes → Option (Code × Code)
single-if b Kind.ObjectExpression (Opens ∷ Key k ∷ Operand ∷ Spelled kind ∷ Flag is_method ∷ Closes ∷ []) (and v done) = cond (b && is_plain_property kind is_method) (Some (value (ConstantOf k), v)) None
single-if b Kind.ObjectExpression (Opens ∷ Operand ∷ Operand ∷ Spelled kind ∷ Flag is_method ∷ Closes ∷ []) (and (key_of k) (and v done)) = cond (b && is_plain_property kind is_method) (Some (k, v)) None
single-if b kind ds es = None

single-old : (kind : Kind) (ds : List Detail) (es : Codes) → single-if false kind ds es ≡ None
single-old Kind.ObjectExpression (Opens ∷ Key k ∷ Operand ∷ Spelled kind ∷ Flag is_method ∷ Closes ∷ []) (and v done) = refl
single-old Kind.ObjectExpression (Opens ∷ Operand ∷ Operand ∷ Spelled kind ∷ Flag is_method ∷ Closes ∷ []) (and (key_of k) (and v done)) = refl
single-old kind ds es = refl

single-new : (kind : Kind) (ds : List Detail) (es : Codes) → single-if true kind ds es ≡ property_in (OfKind kind ds, es)
single-new Kind.ObjectExpression (Opens ∷ Key k ∷ Operand ∷ Spelled kind ∷ Flag is_method ∷ Closes ∷ []) (and v done) = refl
single-new Kind.ObjectExpression (Opens ∷ Key k ∷ Operand ∷ Spelled kind ∷ Flag is_method ∷ Closes ∷ []) es = neither (is_plain_property kind is_method)
single-new Kind.ObjectExpression (Opens ∷ Operand ∷ Operand ∷ Spelled kind ∷ Flag is_method ∷ Closes ∷ []) (and (key_of k) (and v done)) = refl
single-new Kind.ObjectExpression (Opens ∷ Operand ∷ Operand ∷ Spelled kind ∷ Flag is_method ∷ Closes ∷ []) es = neither (is_plain_property kind is_method)
single-new Kind.ObjectExpression (Opens ∷ key ∷ ds) es = neither (is_plain_end ds)
single-new Kind.ObjectExpression (d ∷ key ∷ ds) es = refl
single-new kind ds es = refl

single-split : (b : Bool) (kind : Kind) (ds : List Detail) (es : Codes) → single-if b kind ds es ≡ option_and_then property_in (cond (b && true) (Some (OfKind kind ds, es)) None)
single-split true kind ds es = single-new kind ds es
single-split false kind ds es = single-old kind ds es

single-is : (c : Context) (m : ℕ) (kind : Kind) (ds : List Detail) (es : Codes) → spec.single_property c (operation m (OfKind kind ds) es done) ≡ single-if (new_here c m) kind ds es
single-is c m Kind.ObjectExpression (Opens ∷ Key k ∷ Operand ∷ Spelled kind ∷ Flag is_method ∷ Closes ∷ []) (and v done) = refl
single-is c m Kind.ObjectExpression (Opens ∷ Operand ∷ Operand ∷ Spelled kind ∷ Flag is_method ∷ Closes ∷ []) (and (key_of k) (and v done)) = refl
single-is c m kind ds es = refl

single-held : (c : Context) (m : ℕ) (kind : Kind) (ds : List Detail) (es : Codes) (h : Code) (hs : Codes) → spec.single_property c (operation m (OfKind kind ds) es (and h hs)) ≡ None
single-held c m Kind.ObjectExpression (Opens ∷ Key k ∷ Operand ∷ Spelled kind ∷ Flag is_method ∷ Closes ∷ []) (and v done) h hs = refl
single-held c m Kind.ObjectExpression (Opens ∷ Operand ∷ Operand ∷ Spelled kind ∷ Flag is_method ∷ Closes ∷ []) (and (key_of k) (and v done)) h hs = refl
single-held c m kind ds es h hs = refl

old : {A : Type 0} (b : Bool) (x : Operation × Codes) (f : Operation × Codes → Option A) → None ≡ option_and_then f (cond (b && false) (Some x) None)
old true x f = refl
old false x f = refl

no-kind : {A : Type 0} (b : Bool) (x : Operation × Codes) (f : Operation × Codes → Option A) → f x ≡ None → None ≡ option_and_then f (cond b (Some x) None)
no-kind true x f h = sym h
no-kind false x f h = refl

-- by its newness and its parts
pub single-by : (c : Context) (e : Code) → spec.single_property c e ≡ option_and_then property_in (new_operation c e)
single-by c (operation m (OfKind kind ds) es done) = single-is c m kind ds es ∙ single-split (new_here c m) kind ds es
single-by c (operation m (OfKind kind ds) es (and h hs)) = single-held c m kind ds es h hs ∙ old (new_here c m) (OfKind kind ds, es) property_in
single-by c (operation m op es held) = no-kind (new_here c m && no_codes held) (op, es) property_in refl
single-by c e = refl

-- ---- `{ writable: true, value: v }`

abbrev writable-if : Bool → Kind → List Detail → Codes → Option Code
writable-if b Kind.ObjectExpression (Opens ∷ Key (StringOf k1) ∷ Operand ∷ Spelled kind1 ∷ Flag method1 ∷ Key (StringOf k2) ∷ Operand ∷ Spelled kind2 ∷ Flag method2 ∷ Closes ∷ []) (and (value (ConstantOf (BooleanOf true))) (and v done)) = cond (b && is_writable_form k1 kind1 method1 k2 kind2 method2) (Some v) None
writable-if b kind ds es = None

writable-old : (kind : Kind) (ds : List Detail) (es : Codes) → writable-if false kind ds es ≡ None
writable-old Kind.ObjectExpression (Opens ∷ Key (StringOf k1) ∷ Operand ∷ Spelled kind1 ∷ Flag method1 ∷ Key (StringOf k2) ∷ Operand ∷ Spelled kind2 ∷ Flag method2 ∷ Closes ∷ []) (and (value (ConstantOf (BooleanOf true))) (and v done)) = refl
writable-old kind ds es = refl

writable-new : (kind : Kind) (ds : List Detail) (es : Codes) → writable-if true kind ds es ≡ writable_in (OfKind kind ds, es)
writable-new Kind.ObjectExpression (Opens ∷ Key (StringOf k1) ∷ Operand ∷ Spelled kind1 ∷ Flag method1 ∷ Key (StringOf k2) ∷ Operand ∷ Spelled kind2 ∷ Flag method2 ∷ Closes ∷ []) (and (value (ConstantOf (BooleanOf true))) (and v done)) = refl
writable-new Kind.ObjectExpression (Opens ∷ Key (StringOf k1) ∷ Operand ∷ Spelled kind1 ∷ Flag method1 ∷ Key (StringOf k2) ∷ Operand ∷ Spelled kind2 ∷ Flag method2 ∷ Closes ∷ []) (and a (and v done)) = neither (is_writable_form k1 kind1 method1 k2 kind2 method2)
writable-new Kind.ObjectExpression (Opens ∷ Key (StringOf k1) ∷ Operand ∷ Spelled kind1 ∷ Flag method1 ∷ Key (StringOf k2) ∷ Operand ∷ Spelled kind2 ∷ Flag method2 ∷ Closes ∷ []) es = neither (is_writable_form k1 kind1 method1 k2 kind2 method2)
writable-new kind ds es = refl

writable-split : (b : Bool) (kind : Kind) (ds : List Detail) (es : Codes) → writable-if b kind ds es ≡ option_and_then writable_in (cond (b && true) (Some (OfKind kind ds, es)) None)
writable-split true kind ds es = writable-new kind ds es
writable-split false kind ds es = writable-old kind ds es

writable-is : (c : Context) (m : ℕ) (kind : Kind) (ds : List Detail) (es : Codes) → spec.writable_value c (operation m (OfKind kind ds) es done) ≡ writable-if (new_here c m) kind ds es
writable-is c m Kind.ObjectExpression (Opens ∷ Key (StringOf k1) ∷ Operand ∷ Spelled kind1 ∷ Flag method1 ∷ Key (StringOf k2) ∷ Operand ∷ Spelled kind2 ∷ Flag method2 ∷ Closes ∷ []) (and (value (ConstantOf (BooleanOf true))) (and v done)) = refl
writable-is c m kind ds es = refl

writable-held : (c : Context) (m : ℕ) (kind : Kind) (ds : List Detail) (es : Codes) (h : Code) (hs : Codes) → spec.writable_value c (operation m (OfKind kind ds) es (and h hs)) ≡ None
writable-held c m Kind.ObjectExpression (Opens ∷ Key (StringOf k1) ∷ Operand ∷ Spelled kind1 ∷ Flag method1 ∷ Key (StringOf k2) ∷ Operand ∷ Spelled kind2 ∷ Flag method2 ∷ Closes ∷ []) (and (value (ConstantOf (BooleanOf true))) (and v done)) h hs = refl
writable-held c m kind ds es h hs = refl

pub writable-by : (c : Context) (e : Code) → spec.writable_value c e ≡ option_and_then writable_in (new_operation c e)
writable-by c (operation m (OfKind kind ds) es done) = writable-is c m kind ds es ∙ writable-split (new_here c m) kind ds es
writable-by c (operation m (OfKind kind ds) es (and h hs)) = writable-held c m kind ds es h hs ∙ old (new_here c m) (OfKind kind ds, es) writable_in
writable-by c (operation m op es held) = no-kind (new_here c m && no_codes held) (op, es) writable_in refl
writable-by c e = refl

-- ---- the elements of an array

abbrev elements-if : Bool → Kind → List Detail → Codes → Option Codes
elements-if b Kind.ArrayExpression (Opens ∷ ds) es = cond (b && only_operands ds) (Some es) None
elements-if b kind ds es = None

elements-old : (kind : Kind) (ds : List Detail) (es : Codes) → elements-if false kind ds es ≡ None
elements-old Kind.ArrayExpression (Opens ∷ ds) es = refl
elements-old kind ds es = refl

elements-new : (kind : Kind) (ds : List Detail) (es : Codes) → elements-if true kind ds es ≡ elements_in (OfKind kind ds, es)
elements-new Kind.ArrayExpression (Opens ∷ ds) es = refl
elements-new kind ds es = refl

elements-split : (b : Bool) (kind : Kind) (ds : List Detail) (es : Codes) → elements-if b kind ds es ≡ option_and_then elements_in (cond (b && true) (Some (OfKind kind ds, es)) None)
elements-split true kind ds es = elements-new kind ds es
elements-split false kind ds es = elements-old kind ds es

elements-is : (c : Context) (m : ℕ) (kind : Kind) (ds : List Detail) (es : Codes) → spec.array_elements c (operation m (OfKind kind ds) es done) ≡ elements-if (new_here c m) kind ds es
elements-is c m Kind.ArrayExpression (Opens ∷ ds) es = refl
elements-is c m kind ds es = refl

elements-held : (c : Context) (m : ℕ) (kind : Kind) (ds : List Detail) (es : Codes) (h : Code) (hs : Codes) → spec.array_elements c (operation m (OfKind kind ds) es (and h hs)) ≡ None
elements-held c m Kind.ArrayExpression (Opens ∷ ds) es h hs = refl
elements-held c m kind ds es h hs = refl

pub elements-by : (c : Context) (e : Code) → spec.array_elements c e ≡ option_and_then elements_in (new_operation c e)
elements-by c (operation m (OfKind kind ds) es done) = elements-is c m kind ds es ∙ elements-split (new_here c m) kind ds es
elements-by c (operation m (OfKind kind ds) es (and h hs)) = elements-held c m kind ds es h hs ∙ old (new_here c m) (OfKind kind ds, es) elements_in
elements-by c (operation m op es held) = no-kind (new_here c m && no_codes held) (op, es) elements_in refl
elements-by c e = refl
