-- Values that were made keys.
use Rattle.std.proofs.Common.{◌≡◌, refl, sym, ap, ◌∙◌, ℕ, zero, suc, ◌-◌, ◌<◌, true, false, arith}
use Rattle.es_steps.specs.Values.{as_key, is_class_value}
use Rattle.es_codes.specs.declared.value.Origin.{Origin}
use Rattle.es_codes.specs.Constants.{origin_of}
use Rattle.es_codes.specs.Keyed.{keyed, is_key}
use Rattle.es_steps.specs.Evaluation.{is_binding_value}
use Rattle.es_codes.specs.Stored.{constant_in, origin_in, depth}
use Rattle.es_codes.specs.Constants.{constant_of}
use Rattle.es_codes.specs.declared.value.Constant.{Constant}

pub as_key_keyed : (k : ℕ) (o : Origin) → as_key (keyed k (origin_of o)) ≡ keyed (k - 1) (origin_of o)
as_key_keyed zero (Origin.ConstantOf c) = refl
as_key_keyed zero Origin.Undefined = refl
as_key_keyed zero (Origin.BindingOf b) = refl
as_key_keyed zero (Origin.FunctionOf f) = refl
as_key_keyed zero (Origin.ClassOf n) = refl
as_key_keyed zero (Origin.ThisOf k) = refl
as_key_keyed zero (Origin.ArgumentsOf k) = refl
as_key_keyed zero (Origin.NewTargetOf k) = refl
as_key_keyed zero (Origin.ResultOf m) = refl
as_key_keyed zero (Origin.FormerOf m) = refl
as_key_keyed (suc k) o = let e : k ≡ suc k - 1 = omega arith in ap (λ (j : ℕ). keyed j (origin_of o)) e

pub is_class_keyed : (n k : ℕ) (o : Origin) → is_class_value n (keyed (suc k) (origin_of o)) ≡ false
is_class_keyed n k o = refl

pub depth-keyed : (k : ℕ) (o : Origin) → depth (keyed k (origin_of o)) ≡ k
depth-keyed zero (Origin.ConstantOf c) = refl
depth-keyed zero Origin.Undefined = refl
depth-keyed zero (Origin.BindingOf b) = refl
depth-keyed zero (Origin.FunctionOf f) = refl
depth-keyed zero (Origin.ClassOf n) = refl
depth-keyed zero (Origin.ThisOf k) = refl
depth-keyed zero (Origin.ArgumentsOf k) = refl
depth-keyed zero (Origin.NewTargetOf k) = refl
depth-keyed zero (Origin.ResultOf m) = refl
depth-keyed zero (Origin.FormerOf m) = refl
depth-keyed (suc k) o = ap suc (depth-keyed k o)

pub constant_in-of : (c : Constant) → constant_in (constant_of c) ≡ c
constant_in-of (Constant.StringOf s) = refl
constant_in-of (Constant.NumberOf s) = refl
constant_in-of (Constant.BigIntOf s) = refl
constant_in-of (Constant.BooleanOf b) = refl
constant_in-of Constant.Null = refl
constant_in-of (Constant.RawTemplate s) = refl
constant_in-of (Constant.TagString r c) = refl

pub origin-keyed : (k : ℕ) (o : Origin) → origin_in (keyed k (origin_of o)) ≡ o
origin-keyed zero (Origin.ConstantOf c) = ap Origin.ConstantOf (constant_in-of c)
origin-keyed zero Origin.Undefined = refl
origin-keyed zero (Origin.BindingOf b) = refl
origin-keyed zero (Origin.FunctionOf f) = refl
origin-keyed zero (Origin.ClassOf n) = refl
origin-keyed zero (Origin.ThisOf k) = refl
origin-keyed zero (Origin.ArgumentsOf k) = refl
origin-keyed zero (Origin.NewTargetOf k) = refl
origin-keyed zero (Origin.ResultOf m) = refl
origin-keyed zero (Origin.FormerOf m) = refl
origin-keyed (suc k) o = origin-keyed k o

-- equal values have equal depths and origins
pub same_depth : (j k : ℕ) (a b : Origin) → keyed j (origin_of a) ≡ keyed k (origin_of b) → j ≡ k
same_depth j k a b h = sym (depth-keyed j a) ∙ ap depth h ∙ depth-keyed k b

pub same_origin : (j k : ℕ) (a b : Origin) → keyed j (origin_of a) ≡ keyed k (origin_of b) → a ≡ b
same_origin j k a b h = sym (origin-keyed j a) ∙ ap origin_in h ∙ origin-keyed k b

pub no_key : (k : ℕ) (o : Origin) → k ≡ zero → is_key (keyed k (origin_of o)) ≡ false
no_key zero (Origin.ConstantOf c) h = refl
no_key zero Origin.Undefined h = refl
no_key zero (Origin.BindingOf b) h = refl
no_key zero (Origin.FunctionOf f) h = refl
no_key zero (Origin.ClassOf n) h = refl
no_key zero (Origin.ThisOf k) h = refl
no_key zero (Origin.ArgumentsOf k) h = refl
no_key zero (Origin.NewTargetOf k) h = refl
no_key zero (Origin.ResultOf m) h = refl
no_key zero (Origin.FormerOf m) h = refl
no_key (suc k) o h = cc

pub a_key : (k : ℕ) (o : Origin) → 0 < k → is_key (keyed k (origin_of o)) ≡ true
a_key zero o h = absurd (omega arith)
a_key (suc k) o h = refl

pub binding_keyed : (k : ℕ) (o : Origin) → is_binding_value (keyed k (origin_of o)) ≡ is_binding_value (origin_of o)
binding_keyed zero o = refl
binding_keyed (suc k) o = binding_keyed k o

pub unkeyed : (k : ℕ) (o : Origin) → k ≡ zero → keyed k (origin_of o) ≡ origin_of o
unkeyed k o h = ap (λ (j : ℕ). keyed j (origin_of o)) h
