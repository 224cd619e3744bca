-- The members of the elements of a class in code, and what an element is by its key.
use Rattle.std.specs.Prelude.{ℕ, Bool, cond, not, ◌&&◌, ◌||◌, Option, Some, None}
use Rattle.es_steps.specs.Code.{Code, private_name, field, method, private_method, no_rule}
use Rattle.es_steps.specs.Context.{Context, is_constructor}
use Rattle.es_steps.specs.Expressions.{key_code}
use Rattle.es_steps.specs.Members.{Member, Members, end, more}
use Rattle.es_steps.specs.PrivateNames.{member_at}
use Rattle.es_steps.specs.Statements.{field_form, private_element, value_or_undefined, is_constructor_key, is_declared_as, method_or_constructor}
use Rattle.es_steps.specs.Values.{String}
use Rattle.es_code_members.specs.MembersView.{member_of}
use Rattle.es_code_classes.specs.declared.field.FieldMembers.{FieldMembers}
use Rattle.es_code_classes.specs.declared.method.MethodMembers.{MethodMembers}

abbrev pub field_members : FieldMembers → Members
field_members f = more (member_of f.key) (more (member_of f.value) (more (member_of f.is_computed) (more (member_of f.is_static) end)))

-- a field, by its key: a public one, or a private element
abbrev pub public_field : Context → Code → Member → Bool → Bool → Code
public_field c key init is_computed is_static = field is_static (field_form c.options is_static key init) (key_code is_computed key) (value_or_undefined init)

abbrev pub keyed_field : Context → Code → Member → Bool → Bool → Code
keyed_field c (private_name d s r) init is_computed is_static = private_element c is_static d s (value_or_undefined init)
keyed_field c key init is_computed is_static = public_field c key init is_computed is_static

abbrev pub method_members : MethodMembers → Members
method_members m = more (member_of m.key) (more (member_of m.value) (more (member_of m.kind) (more (member_of m.is_computed) (more (member_of m.is_static) end))))

-- a method whose key is the private name d, and one with another key
abbrev pub private_method_of : Context → Bool → ℕ → String → Code → Code
private_method_of c is_static d kind f = cond (is_declared_as (member_at d c.members) is_static kind) (private_method is_static d f) no_rule

abbrev pub public_method : String → Bool → Bool → Code → Code → Code
public_method kind is_computed is_static key f = method_or_constructor (is_constructor kind) (is_constructor_key key && not (is_static || is_computed)) (method is_static kind (key_code is_computed key) f) f

-- the number of the private name that a key is
abbrev pub private_name_in : Code → Option ℕ
private_name_in (private_name d s r) = Some d
private_name_in key = None
