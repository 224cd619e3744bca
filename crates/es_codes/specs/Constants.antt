-- What constants and origins in code are.
use Rattle.es_steps.specs.Values as of
use Rattle.es_codes.specs.declared.value.Constant.{Constant}
use Rattle.es_codes.specs.declared.value.Origin.{Origin}

abbrev pub constant_of : Constant → of.Constant
constant_of (Constant.StringOf s) = of.StringOf s
constant_of (Constant.NumberOf s) = of.NumberOf s
constant_of (Constant.BigIntOf s) = of.BigIntOf s
constant_of (Constant.BooleanOf b) = of.BooleanOf b
constant_of Constant.Null = of.Null
constant_of (Constant.RawTemplate s) = of.RawTemplate s
constant_of (Constant.TagString r c) = of.TagString r c

abbrev pub origin_of : Origin → of.Value
origin_of (Origin.ConstantOf c) = of.ConstantOf (constant_of c)
origin_of Origin.Undefined = of.Undefined
origin_of (Origin.BindingOf b) = of.BindingOf b
origin_of (Origin.FunctionOf f) = of.FunctionOf f
origin_of (Origin.ClassOf n) = of.ClassOf n
origin_of (Origin.ThisOf k) = of.ThisOf k
origin_of (Origin.ArgumentsOf k) = of.ArgumentsOf k
origin_of (Origin.NewTargetOf k) = of.NewTargetOf k
origin_of (Origin.ResultOf m) = of.ResultOf m
origin_of (Origin.FormerOf m) = of.FormerOf m
