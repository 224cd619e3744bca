-- Whether two values are one, as the definitions test it.
use Rattle.std.proofs.Common.{◌≡◌, refl, sym, ap, ap₂, ◌∙◌, ℕ, List, [], ◌∷◌, Bool, true, false, Option, Some, None, arith}
use Rattle.std.specs.Prelude.{IsTrue, ◌↔◌, ◌&&◌, bytes_eq, nat_eq}
use Rattle.std.proofs.lemmas.Bool.{and_parts}
use Rattle.std.proofs.lemmas.Bool.Decides.{nat_tests, same_from_decides}
use Rattle.std.proofs.lemmas.Slice.Eq.{bytes_eq-Decides}
use Rattle.es_steps.specs.SameValues.{same_boolean, same_nullable_string, same_constant, same_value}
use Rattle.es_steps.specs.Values.{String, Constant, StringOf, NumberOf, BigIntOf, BooleanOf, Null, RawTemplate, TagString, Value, ConstantOf, Undefined, BindingOf, FunctionOf, ClassOf, ThisOf, ArgumentsOf, NewTargetOf, ResultOf, FormerOf, KeyOf}
use Rattle.es_codes.specs.View.{tokens_of}
use Rattle.es_codes.specs.declared.event.Token.{Token}
use Rattle.es_evaluation.specs.Direct.{is_none}

one_number : (n k : ℕ) → nat_eq n k ≡ true → n ≡ k
one_number n k h = grind (arith, nat_tests, h)

same_number : (n : ℕ) → nat_eq n n ≡ true
same_number n = grind (arith, nat_tests)

one_string : (s t : String) → bytes_eq s t ≡ true → s ≡ t
one_string s t h = (bytes_eq-Decides s t).0 h

same_string : (s : String) → bytes_eq s s ≡ true
same_string s = (bytes_eq-Decides s s).1 refl

both : (a b : Bool) → a ≡ true → b ≡ true → (a && b) ≡ true
both true b h k = k
both false b h k = cc

one_boolean : (a b : Bool) → same_boolean a b ≡ true → a ≡ b
one_boolean true true h = refl
one_boolean true false h = cc
one_boolean false true h = cc
one_boolean false false h = refl

same_with_itself : (a : Bool) → same_boolean a a ≡ true
same_with_itself true = refl
same_with_itself false = refl

one_nullable : (s t : Option String) → same_nullable_string s t ≡ true → s ≡ t
one_nullable None None h = refl
one_nullable None (Some t) h = cc
one_nullable (Some s) None h = cc
one_nullable (Some s) (Some t) h = ap Some (one_string s t h)

same_nullable : (s : Option String) → same_nullable_string s s ≡ true
same_nullable None = refl
same_nullable (Some s) = same_string s

one_constant : (c d : Constant) → same_constant c d ≡ true → c ≡ d
one_constant (StringOf p) (StringOf q) h = ap StringOf (one_string p q h)
one_constant (StringOf p) (NumberOf q) h = cc
one_constant (StringOf p) (BigIntOf q) h = cc
one_constant (StringOf p) (BooleanOf q) h = cc
one_constant (StringOf p) Null h = cc
one_constant (StringOf p) (RawTemplate q) h = cc
one_constant (StringOf p) (TagString q g) h = cc
one_constant (NumberOf p) (StringOf q) h = cc
one_constant (NumberOf p) (NumberOf q) h = ap NumberOf (one_string p q h)
one_constant (NumberOf p) (BigIntOf q) h = cc
one_constant (NumberOf p) (BooleanOf q) h = cc
one_constant (NumberOf p) Null h = cc
one_constant (NumberOf p) (RawTemplate q) h = cc
one_constant (NumberOf p) (TagString q g) h = cc
one_constant (BigIntOf p) (StringOf q) h = cc
one_constant (BigIntOf p) (NumberOf q) h = cc
one_constant (BigIntOf p) (BigIntOf q) h = ap BigIntOf (one_string p q h)
one_constant (BigIntOf p) (BooleanOf q) h = cc
one_constant (BigIntOf p) Null h = cc
one_constant (BigIntOf p) (RawTemplate q) h = cc
one_constant (BigIntOf p) (TagString q g) h = cc
one_constant (BooleanOf p) (StringOf q) h = cc
one_constant (BooleanOf p) (NumberOf q) h = cc
one_constant (BooleanOf p) (BigIntOf q) h = cc
one_constant (BooleanOf p) (BooleanOf q) h = ap BooleanOf (one_boolean p q h)
one_constant (BooleanOf p) Null h = cc
one_constant (BooleanOf p) (RawTemplate q) h = cc
one_constant (BooleanOf p) (TagString q g) h = cc
one_constant Null (StringOf q) h = cc
one_constant Null (NumberOf q) h = cc
one_constant Null (BigIntOf q) h = cc
one_constant Null (BooleanOf q) h = cc
one_constant Null Null h = refl
one_constant Null (RawTemplate q) h = cc
one_constant Null (TagString q g) h = cc
one_constant (RawTemplate p) (StringOf q) h = cc
one_constant (RawTemplate p) (NumberOf q) h = cc
one_constant (RawTemplate p) (BigIntOf q) h = cc
one_constant (RawTemplate p) (BooleanOf q) h = cc
one_constant (RawTemplate p) Null h = cc
one_constant (RawTemplate p) (RawTemplate q) h = ap RawTemplate (one_string p q h)
one_constant (RawTemplate p) (TagString q g) h = cc
one_constant (TagString p f) (StringOf q) h = cc
one_constant (TagString p f) (NumberOf q) h = cc
one_constant (TagString p f) (BigIntOf q) h = cc
one_constant (TagString p f) (BooleanOf q) h = cc
one_constant (TagString p f) Null h = cc
one_constant (TagString p f) (RawTemplate q) h = cc
one_constant (TagString p f) (TagString q g) h = let e = and_parts (bytes_eq p q) (same_nullable_string f g) h in ap₂ TagString (one_string p q e.0) (one_nullable f g e.1)

same_with_constant : (c : Constant) → same_constant c c ≡ true
same_with_constant (StringOf p) = same_string p
same_with_constant (NumberOf p) = same_string p
same_with_constant (BigIntOf p) = same_string p
same_with_constant (BooleanOf p) = same_with_itself p
same_with_constant Null = refl
same_with_constant (RawTemplate p) = same_string p
same_with_constant (TagString p f) = both (bytes_eq p p) (same_nullable_string f f) (same_string p) (same_nullable f)

one_value : (v w : Value) → same_value v w ≡ true → v ≡ w
one_value (ConstantOf x) (ConstantOf y) h = ap ConstantOf (one_constant x y h)
one_value (ConstantOf x) Undefined h = cc
one_value (ConstantOf x) (BindingOf y) h = cc
one_value (ConstantOf x) (FunctionOf y) h = cc
one_value (ConstantOf x) (ClassOf y) h = cc
one_value (ConstantOf x) (ThisOf y) h = cc
one_value (ConstantOf x) (ArgumentsOf y) h = cc
one_value (ConstantOf x) (NewTargetOf y) h = cc
one_value (ConstantOf x) (ResultOf y) h = cc
one_value (ConstantOf x) (FormerOf y) h = cc
one_value (ConstantOf x) (KeyOf y) h = cc
one_value Undefined (ConstantOf y) h = cc
one_value Undefined Undefined h = refl
one_value Undefined (BindingOf y) h = cc
one_value Undefined (FunctionOf y) h = cc
one_value Undefined (ClassOf y) h = cc
one_value Undefined (ThisOf y) h = cc
one_value Undefined (ArgumentsOf y) h = cc
one_value Undefined (NewTargetOf y) h = cc
one_value Undefined (ResultOf y) h = cc
one_value Undefined (FormerOf y) h = cc
one_value Undefined (KeyOf y) h = cc
one_value (BindingOf x) (ConstantOf y) h = cc
one_value (BindingOf x) Undefined h = cc
one_value (BindingOf x) (BindingOf y) h = ap BindingOf (one_number x y h)
one_value (BindingOf x) (FunctionOf y) h = cc
one_value (BindingOf x) (ClassOf y) h = cc
one_value (BindingOf x) (ThisOf y) h = cc
one_value (BindingOf x) (ArgumentsOf y) h = cc
one_value (BindingOf x) (NewTargetOf y) h = cc
one_value (BindingOf x) (ResultOf y) h = cc
one_value (BindingOf x) (FormerOf y) h = cc
one_value (BindingOf x) (KeyOf y) h = cc
one_value (FunctionOf x) (ConstantOf y) h = cc
one_value (FunctionOf x) Undefined h = cc
one_value (FunctionOf x) (BindingOf y) h = cc
one_value (FunctionOf x) (FunctionOf y) h = ap FunctionOf (one_number x y h)
one_value (FunctionOf x) (ClassOf y) h = cc
one_value (FunctionOf x) (ThisOf y) h = cc
one_value (FunctionOf x) (ArgumentsOf y) h = cc
one_value (FunctionOf x) (NewTargetOf y) h = cc
one_value (FunctionOf x) (ResultOf y) h = cc
one_value (FunctionOf x) (FormerOf y) h = cc
one_value (FunctionOf x) (KeyOf y) h = cc
one_value (ClassOf x) (ConstantOf y) h = cc
one_value (ClassOf x) Undefined h = cc
one_value (ClassOf x) (BindingOf y) h = cc
one_value (ClassOf x) (FunctionOf y) h = cc
one_value (ClassOf x) (ClassOf y) h = ap ClassOf (one_number x y h)
one_value (ClassOf x) (ThisOf y) h = cc
one_value (ClassOf x) (ArgumentsOf y) h = cc
one_value (ClassOf x) (NewTargetOf y) h = cc
one_value (ClassOf x) (ResultOf y) h = cc
one_value (ClassOf x) (FormerOf y) h = cc
one_value (ClassOf x) (KeyOf y) h = cc
one_value (ThisOf x) (ConstantOf y) h = cc
one_value (ThisOf x) Undefined h = cc
one_value (ThisOf x) (BindingOf y) h = cc
one_value (ThisOf x) (FunctionOf y) h = cc
one_value (ThisOf x) (ClassOf y) h = cc
one_value (ThisOf x) (ThisOf y) h = ap ThisOf (one_number x y h)
one_value (ThisOf x) (ArgumentsOf y) h = cc
one_value (ThisOf x) (NewTargetOf y) h = cc
one_value (ThisOf x) (ResultOf y) h = cc
one_value (ThisOf x) (FormerOf y) h = cc
one_value (ThisOf x) (KeyOf y) h = cc
one_value (ArgumentsOf x) (ConstantOf y) h = cc
one_value (ArgumentsOf x) Undefined h = cc
one_value (ArgumentsOf x) (BindingOf y) h = cc
one_value (ArgumentsOf x) (FunctionOf y) h = cc
one_value (ArgumentsOf x) (ClassOf y) h = cc
one_value (ArgumentsOf x) (ThisOf y) h = cc
one_value (ArgumentsOf x) (ArgumentsOf y) h = ap ArgumentsOf (one_number x y h)
one_value (ArgumentsOf x) (NewTargetOf y) h = cc
one_value (ArgumentsOf x) (ResultOf y) h = cc
one_value (ArgumentsOf x) (FormerOf y) h = cc
one_value (ArgumentsOf x) (KeyOf y) h = cc
one_value (NewTargetOf x) (ConstantOf y) h = cc
one_value (NewTargetOf x) Undefined h = cc
one_value (NewTargetOf x) (BindingOf y) h = cc
one_value (NewTargetOf x) (FunctionOf y) h = cc
one_value (NewTargetOf x) (ClassOf y) h = cc
one_value (NewTargetOf x) (ThisOf y) h = cc
one_value (NewTargetOf x) (ArgumentsOf y) h = cc
one_value (NewTargetOf x) (NewTargetOf y) h = ap NewTargetOf (one_number x y h)
one_value (NewTargetOf x) (ResultOf y) h = cc
one_value (NewTargetOf x) (FormerOf y) h = cc
one_value (NewTargetOf x) (KeyOf y) h = cc
one_value (ResultOf x) (ConstantOf y) h = cc
one_value (ResultOf x) Undefined h = cc
one_value (ResultOf x) (BindingOf y) h = cc
one_value (ResultOf x) (FunctionOf y) h = cc
one_value (ResultOf x) (ClassOf y) h = cc
one_value (ResultOf x) (ThisOf y) h = cc
one_value (ResultOf x) (ArgumentsOf y) h = cc
one_value (ResultOf x) (NewTargetOf y) h = cc
one_value (ResultOf x) (ResultOf y) h = ap ResultOf (one_number x y h)
one_value (ResultOf x) (FormerOf y) h = cc
one_value (ResultOf x) (KeyOf y) h = cc
one_value (FormerOf x) (ConstantOf y) h = cc
one_value (FormerOf x) Undefined h = cc
one_value (FormerOf x) (BindingOf y) h = cc
one_value (FormerOf x) (FunctionOf y) h = cc
one_value (FormerOf x) (ClassOf y) h = cc
one_value (FormerOf x) (ThisOf y) h = cc
one_value (FormerOf x) (ArgumentsOf y) h = cc
one_value (FormerOf x) (NewTargetOf y) h = cc
one_value (FormerOf x) (ResultOf y) h = cc
one_value (FormerOf x) (FormerOf y) h = ap FormerOf (one_number x y h)
one_value (FormerOf x) (KeyOf y) h = cc
one_value (KeyOf x) (ConstantOf y) h = cc
one_value (KeyOf x) Undefined h = cc
one_value (KeyOf x) (BindingOf y) h = cc
one_value (KeyOf x) (FunctionOf y) h = cc
one_value (KeyOf x) (ClassOf y) h = cc
one_value (KeyOf x) (ThisOf y) h = cc
one_value (KeyOf x) (ArgumentsOf y) h = cc
one_value (KeyOf x) (NewTargetOf y) h = cc
one_value (KeyOf x) (ResultOf y) h = cc
one_value (KeyOf x) (FormerOf y) h = cc
one_value (KeyOf x) (KeyOf y) h = ap KeyOf (one_value x y h)

same_with_value : (v : Value) → same_value v v ≡ true
same_with_value (ConstantOf x) = same_with_constant x
same_with_value Undefined = refl
same_with_value (BindingOf x) = same_number x
same_with_value (FunctionOf x) = same_number x
same_with_value (ClassOf x) = same_number x
same_with_value (ThisOf x) = same_number x
same_with_value (ArgumentsOf x) = same_number x
same_with_value (NewTargetOf x) = same_number x
same_with_value (ResultOf x) = same_number x
same_with_value (FormerOf x) = same_number x
same_with_value (KeyOf x) = same_with_value x

pub same_value_is : (b : Bool) (v w : Value) → IsTrue b ↔ (v ≡ w) → b ≡ same_value v w
same_value_is b v w h = same_from_decides b (same_value v w) h (one_value v w, λ e. ap (same_value v) (sym e) ∙ same_with_value v)

pub is_none_of : (b : Bool) (ts : List Token) → IsTrue b ↔ (ts ≡ []) → b ≡ is_none (tokens_of ts)
is_none_of true [] h = refl
is_none_of false [] h = h.1 refl
is_none_of b (t ∷ ts) h = elim b as (λ c. (IsTrue c → t ∷ ts ≡ []) → c ≡ false) [ true ↦ λ k. absurd (cc (k refl)) | false ↦ λ k. refl ] h.0

pub only_one : (e b n : Bool) (v w : Value) → e ≡ n → e ≡ true → IsTrue b ↔ (v ≡ w) → b ≡ (n && same_value v w)
only_one e b n v w is t h = same_value_is b v w h ∙ ap (λ (c : Bool). c && same_value v w) (sym t ∙ is)
