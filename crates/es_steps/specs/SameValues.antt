-- Whether two values are one.
use Rattle.std.specs.Prelude.{Bool, true, false, ◌&&◌, bytes_eq, nat_eq, Option, Some, None}
use Rattle.es_steps.specs.Values.{String, Constant, StringOf, NumberOf, BigIntOf, BooleanOf, Null, RawTemplate, TagString, Value, ConstantOf, Undefined, BindingOf, FunctionOf, ClassOf, ThisOf, ArgumentsOf, NewTargetOf, ResultOf, FormerOf, KeyOf}

abbrev pub same_boolean : Bool → Bool → Bool
same_boolean true b = b
same_boolean false true = false
same_boolean false false = true

abbrev pub same_nullable_string : Option String → Option String → Bool
same_nullable_string None None = true
same_nullable_string (Some s) (Some t) = bytes_eq s t
same_nullable_string s t = false

abbrev pub same_constant : Constant → Constant → Bool
same_constant (StringOf s) (StringOf t) = bytes_eq s t
same_constant (NumberOf s) (NumberOf t) = bytes_eq s t
same_constant (BigIntOf s) (BigIntOf t) = bytes_eq s t
same_constant (BooleanOf b) (BooleanOf c) = same_boolean b c
same_constant Null Null = true
same_constant (RawTemplate s) (RawTemplate t) = bytes_eq s t
same_constant (TagString r s) (TagString q t) = bytes_eq r q && same_nullable_string s t
same_constant c d = false

abbrev pub same_value : Value → Value → Bool
same_value (ConstantOf c) (ConstantOf d) = same_constant c d
same_value Undefined Undefined = true
same_value (BindingOf b) (BindingOf c) = nat_eq b c
same_value (FunctionOf f) (FunctionOf g) = nat_eq f g
same_value (ClassOf n) (ClassOf k) = nat_eq n k
same_value (ThisOf m) (ThisOf k) = nat_eq m k
same_value (ArgumentsOf m) (ArgumentsOf k) = nat_eq m k
same_value (NewTargetOf m) (NewTargetOf k) = nat_eq m k
same_value (ResultOf m) (ResultOf k) = nat_eq m k
same_value (FormerOf m) (FormerOf k) = nat_eq m k
same_value (KeyOf v) (KeyOf w) = same_value v w
same_value v w = false
