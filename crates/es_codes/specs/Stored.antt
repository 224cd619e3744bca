-- A value as how often it was made a key and where it comes from: what tells values apart.
use Rattle.std.specs.Prelude.{◌≡◌, refl, ℕ, zero, suc}
use Rattle.std.specs.Coded.{Coded, code_by, coded×, coded_ℕ}
use Rattle.std.proofs.Common.{ap}
use Rattle.es_steps.specs.Values.{Value, ConstantOf, Undefined, BindingOf, FunctionOf, ClassOf, ThisOf, ArgumentsOf, NewTargetOf, ResultOf, FormerOf, KeyOf}
use Rattle.es_steps.specs.Values as of
use Rattle.es_codes.specs.declared.value.Constant.{Constant}
use Rattle.es_codes.specs.declared.value.Origin.{Origin}
use Rattle.es_codes.specs.Constants.{constant_of, origin_of}
use Rattle.es_codes.specs.Keyed.{keyed}

abbrev pub constant_in : of.Constant → Constant
constant_in (of.StringOf s) = Constant.StringOf s
constant_in (of.NumberOf s) = Constant.NumberOf s
constant_in (of.BigIntOf s) = Constant.BigIntOf s
constant_in (of.BooleanOf b) = Constant.BooleanOf b
constant_in of.Null = Constant.Null
constant_in (of.RawTemplate s) = Constant.RawTemplate s
constant_in (of.TagString r c) = Constant.TagString r c

pub constant_of-in : (c : of.Constant) → constant_of (constant_in c) ≡ c
constant_of-in (of.StringOf s) = refl
constant_of-in (of.NumberOf s) = refl
constant_of-in (of.BigIntOf s) = refl
constant_of-in (of.BooleanOf b) = refl
constant_of-in of.Null = refl
constant_of-in (of.RawTemplate s) = refl
constant_of-in (of.TagString r c) = refl

abbrev pub depth : Value → ℕ
depth (KeyOf v) = suc (depth v)
depth v = zero

abbrev pub origin_in : Value → Origin
origin_in (ConstantOf c) = Origin.ConstantOf (constant_in c)
origin_in Undefined = Origin.Undefined
origin_in (BindingOf b) = Origin.BindingOf b
origin_in (FunctionOf f) = Origin.FunctionOf f
origin_in (ClassOf n) = Origin.ClassOf n
origin_in (ThisOf k) = Origin.ThisOf k
origin_in (ArgumentsOf k) = Origin.ArgumentsOf k
origin_in (NewTargetOf k) = Origin.NewTargetOf k
origin_in (ResultOf m) = Origin.ResultOf m
origin_in (FormerOf m) = Origin.FormerOf m
origin_in (KeyOf v) = origin_in v

abbrev pub row : Value → ℕ × Origin
row v = (depth v, origin_in v)

abbrev pub from_row : ℕ × Origin → Value
from_row p = keyed p.0 (origin_of p.1)

pub from_row-row : (v : Value) → from_row (row v) ≡ v
from_row-row (ConstantOf c) = ap ConstantOf (constant_of-in c)
from_row-row Undefined = refl
from_row-row (BindingOf b) = refl
from_row-row (FunctionOf f) = refl
from_row-row (ClassOf n) = refl
from_row-row (ThisOf k) = refl
from_row-row (ArgumentsOf k) = refl
from_row-row (NewTargetOf k) = refl
from_row-row (ResultOf m) = refl
from_row-row (FormerOf m) = refl
from_row-row (KeyOf v) = ap KeyOf (from_row-row v)

abbrev pub value_code : Coded Origin → Coded Value
value_code c = code_by (ℕ × Origin) (coded× coded_ℕ c) row from_row from_row-row
