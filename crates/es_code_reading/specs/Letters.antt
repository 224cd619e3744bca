-- The letters of generated forms, by what a name is.
use Rattle.std.specs.Prelude.{ℕ, Bool, false, true, bytes_eq, nat_eq, Option, Some, None}
use Rattle.es_base.specs.declared.ids.NodeId.{NodeId}
use Rattle.es_base.specs.declared.kind.Kind.{Kind}
use Rattle.es_base.specs.declared.ledger.GeneratedKind.{GeneratedKind}
use Rattle.es_steps.specs.Code.{Code, name, spelled, value}
use Rattle.es_steps.specs.Context.{Context, NameKind, Generated, MeansClass, StaticMethod}
use Rattle.es_steps.specs.Events.{Operation, OfKind}
use Rattle.es_steps.specs.GeneratedForms.{if_kept, if_member, is_instance_field, is_static_field, is_function_member}
use Rattle.es_steps.specs.PrivateNames.{PrivateMember, is_a_field, member_at}
use Rattle.es_steps.specs.Values.{String, Value, ConstantOf, StringOf, NumberOf, Null, Undefined, ThisOf, ClassOf}
use Rattle.es_code_reading.specs.declared.letters.MemberSort.{MemberSort}

-- what the name is that a code is
abbrev pub name_kind_in : Code → Option NameKind
name_kind_in (name m s kind) = Some kind
name_kind_in e = None

-- the value that a code is
abbrev pub value_in : Code → Option Value
value_in (value v) = Some v
value_in e = None

abbrev pub of_sort : MemberSort → PrivateMember → Bool
of_sort MemberSort.InstanceField x = is_instance_field x
of_sort MemberSort.StaticField x = is_static_field x
of_sort MemberSort.Field x = is_a_field x.kind
of_sort MemberSort.Function x = is_function_member x

abbrev pub weak_map_of : Context → NameKind → Option PrivateMember
weak_map_of c (Generated (GeneratedKind.WeakMap d)) = if_kept false c (of_sort MemberSort.InstanceField) (member_at d.0 c.members)
weak_map_of c kind = None

abbrev pub static_field_of : Context → NameKind → Option PrivateMember
static_field_of c (Generated (GeneratedKind.StaticField d)) = if_kept false c (of_sort MemberSort.StaticField) (member_at d.0 c.members)
static_field_of c kind = None

abbrev pub loose_key_of : Context → NameKind → Option PrivateMember
loose_key_of c (Generated (GeneratedKind.LooseKey d)) = if_kept true c (of_sort MemberSort.Field) (member_at d.0 c.members)
loose_key_of c kind = None

abbrev pub private_function_of : Context → NameKind → Option PrivateMember
private_function_of c (Generated (GeneratedKind.Method d)) = if_member (of_sort MemberSort.Function) (member_at d.0 c.members)
private_function_of c (StaticMethod d n) = member_at d c.members
private_function_of c kind = None

abbrev pub class_named_of : NameKind → Option ℕ
class_named_of (MeansClass n b) = Some n
class_named_of (Generated (GeneratedKind.ClassTemp n)) = Some n.0
class_named_of kind = None

-- whether it brands the objects of instances of a class
abbrev pub is_brand_of : ℕ → NameKind → Bool
is_brand_of n (Generated (GeneratedKind.Brand k)) = nat_eq k.0 n
is_brand_of n kind = false

-- ---- values

-- `this`, or a class
abbrev pub known_value : Value → Option Value
known_value (ThisOf k) = Some (ThisOf k)
known_value (ClassOf n) = Some (ClassOf n)
known_value v = None

abbrev pub is_string_value : String → Value → Bool
is_string_value s (ConstantOf (StringOf t)) = bytes_eq s t
is_string_value s v = false

abbrev pub is_number_value : String → Value → Bool
is_number_value s (ConstantOf (NumberOf t)) = bytes_eq s t
is_number_value s v = false

abbrev pub is_constant_value : Value → Bool
is_constant_value (ConstantOf k) = true
is_constant_value v = false

abbrev pub is_null_value : Value → Bool
is_null_value (ConstantOf Null) = true
is_null_value v = false

abbrev pub is_undefined_value : Value → Bool
is_undefined_value Undefined = true
is_undefined_value v = false

abbrev pub is_class_value : Value → Bool
is_class_value (ClassOf n) = true
is_class_value v = false

abbrev pub string_in : Value → Option String
string_in (ConstantOf (StringOf s)) = Some s
string_in v = None

-- the string that a key is that is not computed
abbrev pub key_string : Code → Option String
key_string (spelled s) = Some s
key_string (value v) = string_in v
key_string e = None

-- ---- names

-- a generated name of a temporary or a parameter
abbrev pub is_temporary : NameKind → Bool
is_temporary (Generated GeneratedKind.Temp) = true
is_temporary (Generated GeneratedKind.Param) = true
is_temporary kind = false

-- the generated name of the function of a private method
abbrev pub method_named : NodeId → NameKind
method_named d = Generated (GeneratedKind.Method d)

abbrev pub means_class : NameKind → Bool
means_class (MeansClass n b) = true
means_class kind = false

-- ---- operations

-- `...a`
abbrev pub spreads : Operation → Bool
spreads (OfKind Kind.SpreadElement ds) = true
spreads op = false
