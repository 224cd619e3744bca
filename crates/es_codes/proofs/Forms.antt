-- What each form of code in code is.
use Rattle.std.proofs.Common.{◌≡◌, sym, ap, ◌∙◌, ℕ, List, Bool, Option, map, option_map}
use Rattle.es_base.specs.declared.kind.Kind.{Kind}
use Rattle.es_base.specs.declared.ledger.GeneratedKind.{GeneratedKind}
use Rattle.es_steps.specs.Values as of
use Rattle.es_steps.specs.Code as of_code
use Rattle.es_codes.specs.View.{kind_of, reference_of, home_of, test_of, details_of, operation_of}
use Rattle.es_codes.specs.CodeView.{form_of, field_form_of, string_of, opened_of, helper_of, code_of, target_of, callee_of, codes_of, code_step, target_step, callee_step}
use Rattle.es_codes.specs.declared.event.Home.{Home}
use Rattle.es_codes.specs.declared.event.PrivateTest.{PrivateTest}
use Rattle.es_codes.specs.declared.event.Detail.{Detail}
use Rattle.es_codes.specs.declared.event.Operation.{Operation}
use Rattle.es_codes.specs.declared.name.NameKind.{NameKind}
use Rattle.es_codes.specs.declared.name.PrivateReference.{PrivateReference}
use Rattle.es_codes.specs.declared.code.FunctionForm.{FunctionForm}
use Rattle.es_codes.specs.declared.code.FieldForm.{FieldForm}
use Rattle.es_codes.specs.declared.code.TemplateString.{TemplateString}
use Rattle.es_codes.specs.declared.code.Opened.{Opened}
use Rattle.es_codes.specs.declared.code.Helper.{Helper}
use Rattle.es_codes.specs.declared.code.Code.{Code}
use Rattle.es_codes.specs.declared.code.Target.{Target}
use Rattle.es_codes.specs.declared.code.Callee.{Callee}
use Rattle.es_codes.specs.declared.code.Code.TheVariants as codes
use Rattle.es_codes.specs.declared.code.Target.TheVariants as targets
use Rattle.es_codes.specs.declared.code.Callee.TheVariants as callees
use Rattle.es_codes.specs.declared.code.Callee.TheOpen.{Code-F, Target-F, Callee-F}
use Rattle.es_codes.specs.declared.code.Callee.TheViews.{roll-Code, roll-Target, roll-Callee, out-Code, roll-out-Code}
use Rattle.es_codes.specs.declared.code.Callee.TheFolds.{map-Code, map-Target, map-Callee, fold-roll-Code, fold-roll-Target, fold-roll-Callee}

code-roll : (y : Code-F Callee Code Target) → code_of (roll-Code y) ≡ code_step (map-Code Callee Code Target of_code.Callee of_code.Code of_code.Target callee_of code_of target_of y)
unfolding code_of target_of callee_of
code-roll y = fold-roll-Code of_code.Callee of_code.Code of_code.Target callee_step code_step target_step y

-- a code by its form
pub code_out : (c : Code) → code_of c ≡ code_step (map-Code Callee Code Target of_code.Callee of_code.Code of_code.Target callee_of code_of target_of (out-Code c))
code_out c = ap code_of (sym (roll-out-Code c)) ∙ code-roll (out-Code c)

target-roll : (y : Target-F Callee Code Target) → target_of (roll-Target y) ≡ target_step (map-Target Callee Code Target of_code.Callee of_code.Code of_code.Target callee_of code_of target_of y)
unfolding code_of target_of callee_of
target-roll y = fold-roll-Target of_code.Callee of_code.Code of_code.Target callee_step code_step target_step y

callee-roll : (y : Callee-F Callee Code Target) → callee_of (roll-Callee y) ≡ callee_step (map-Callee Callee Code Target of_code.Callee of_code.Code of_code.Target callee_of code_of target_of y)
unfolding code_of target_of callee_of
callee-roll y = fold-roll-Callee of_code.Callee of_code.Code of_code.Target callee_step code_step target_step y

pub nothing_is : code_of codes.Nothing ≡ of_code.nothing
nothing_is = ap code_of (sym codes.rolls-Nothing) ∙ code-roll Code-F.Nothing

pub no_rule_is : code_of codes.NoRule ≡ of_code.no_rule
no_rule_is = ap code_of (sym codes.rolls-NoRule) ∙ code-roll Code-F.NoRule

pub value_is : (value : of.Value) → code_of (codes.Value value) ≡ of_code.value value
value_is value = ap code_of (sym (codes.rolls-Value value)) ∙ code-roll (Code-F.Value value)

pub spelled_is : (spelling : List ℕ) → code_of (codes.Spelled spelling) ≡ of_code.spelled spelling
spelled_is spelling = ap code_of (sym (codes.rolls-Spelled spelling)) ∙ code-roll (Code-F.Spelled spelling)

pub private_name_is : (node : ℕ) (spelling : List ℕ) (means : Option PrivateReference) → code_of (codes.PrivateName node spelling means) ≡ of_code.private_name node spelling (option_map reference_of means)
private_name_is node spelling means = ap code_of (sym (codes.rolls-PrivateName node spelling means)) ∙ code-roll (Code-F.PrivateName node spelling means)

pub binding_is : (node : ℕ) (spelling : List ℕ) (kind : NameKind) → code_of (codes.Binding node spelling kind) ≡ of_code.binding node spelling (kind_of kind)
binding_is node spelling kind = ap code_of (sym (codes.rolls-Binding node spelling kind)) ∙ code-roll (Code-F.Binding node spelling kind)

pub rest_is : (to : Target) → code_of (codes.Rest to) ≡ of_code.rest (target_of to)
rest_is to = ap code_of (sym (codes.rolls-Rest to)) ∙ code-roll (Code-F.Rest to)

pub name_is : (node : ℕ) (spelling : List ℕ) (kind : NameKind) → code_of (codes.Name node spelling kind) ≡ of_code.name node spelling (kind_of kind)
name_is node spelling kind = ap code_of (sym (codes.rolls-Name node spelling kind)) ∙ code-roll (Code-F.Name node spelling kind)

pub super_is : code_of codes.Super ≡ of_code.super
super_is = ap code_of (sym codes.rolls-Super) ∙ code-roll Code-F.Super

pub member_is : (node : ℕ) (object : Code) (key : Code) → code_of (codes.Member node object key) ≡ of_code.member node (code_of object) (code_of key)
member_is node object key = ap code_of (sym (codes.rolls-Member node object key)) ∙ code-roll (Code-F.Member node object key)

pub private_member_is : (node : ℕ) (means : PrivateReference) (object : Code) → code_of (codes.PrivateMember node means object) ≡ of_code.private_member node (reference_of means) (code_of object)
private_member_is node means object = ap code_of (sym (codes.rolls-PrivateMember node means object)) ∙ code-roll (Code-F.PrivateMember node means object)

pub super_member_is : (node : ℕ) (home : Home) (key : Code) (this_value : of.Value) → code_of (codes.SuperMember node home key this_value) ≡ of_code.super_member node (home_of home) (code_of key) this_value
super_member_is node home key this_value = ap code_of (sym (codes.rolls-SuperMember node home key this_value)) ∙ code-roll (Code-F.SuperMember node home key this_value)

pub private_in_is : (node : ℕ) (test : PrivateTest) (object : Code) → code_of (codes.PrivateIn node test object) ≡ of_code.private_in node (test_of test) (code_of object)
private_in_is node test object = ap code_of (sym (codes.rolls-PrivateIn node test object)) ∙ code-roll (Code-F.PrivateIn node test object)

pub assign_is : (to : Target) (right : Code) → code_of (codes.Assign to right) ≡ of_code.assign (target_of to) (code_of right)
assign_is to right = ap code_of (sym (codes.rolls-Assign to right)) ∙ code-roll (Code-F.Assign to right)

pub compound_is : (node : ℕ) (operator : List ℕ) (to : Target) (right : Code) → code_of (codes.Compound node operator to right) ≡ of_code.compound node operator (target_of to) (code_of right)
compound_is node operator to right = ap code_of (sym (codes.rolls-Compound node operator to right)) ∙ code-roll (Code-F.Compound node operator to right)

pub logical_is : (node : ℕ) (operator : List ℕ) (left : Code) (right : Code) → code_of (codes.Logical node operator left right) ≡ of_code.logical node operator (code_of left) (code_of right)
logical_is node operator left right = ap code_of (sym (codes.rolls-Logical node operator left right)) ∙ code-roll (Code-F.Logical node operator left right)

pub logical_assign_is : (node : ℕ) (operator : List ℕ) (to : Target) (right : Code) → code_of (codes.LogicalAssign node operator to right) ≡ of_code.logical_assign node operator (target_of to) (code_of right)
logical_assign_is node operator to right = ap code_of (sym (codes.rolls-LogicalAssign node operator to right)) ∙ code-roll (Code-F.LogicalAssign node operator to right)

pub update_is : (node : ℕ) (operator : List ℕ) (is_prefix : Bool) (to : Target) → code_of (codes.Update node operator is_prefix to) ≡ of_code.update node operator is_prefix (target_of to)
update_is node operator is_prefix to = ap code_of (sym (codes.rolls-Update node operator is_prefix to)) ∙ code-roll (Code-F.Update node operator is_prefix to)

pub call_is : (node : ℕ) (callee : Callee) (arguments : List Code) → code_of (codes.Call node callee arguments) ≡ of_code.call node (callee_of callee) (codes_of arguments)
call_is node callee arguments = ap code_of (sym (codes.rolls-Call node callee arguments)) ∙ code-roll (Code-F.Call node callee arguments)

pub tag_is : (node : ℕ) (callee : Callee) (strings : List TemplateString) (arguments : List Code) → code_of (codes.Tag node callee strings arguments) ≡ of_code.tag node (callee_of callee) (map string_of strings) (codes_of arguments)
tag_is node callee strings arguments = ap code_of (sym (codes.rolls-Tag node callee strings arguments)) ∙ code-roll (Code-F.Tag node callee strings arguments)

pub construct_is : (node : ℕ) (callee : Code) (arguments : List Code) → code_of (codes.Construct node callee arguments) ≡ of_code.construct node (code_of callee) (codes_of arguments)
construct_is node callee arguments = ap code_of (sym (codes.rolls-Construct node callee arguments)) ∙ code-roll (Code-F.Construct node callee arguments)

pub super_call_is : (node : ℕ) (class_number : ℕ) (behind : Option Opened) (arguments : List Code) → code_of (codes.SuperCall node class_number behind arguments) ≡ of_code.super_call node class_number (option_map opened_of behind) (codes_of arguments)
super_call_is node class_number behind arguments = ap code_of (sym (codes.rolls-SuperCall node class_number behind arguments)) ∙ code-roll (Code-F.SuperCall node class_number behind arguments)

pub super_call_with_all_is : (class_number : ℕ) → code_of (codes.SuperCallWithAll class_number) ≡ of_code.super_call_with_all class_number
super_call_with_all_is class_number = ap code_of (sym (codes.rolls-SuperCallWithAll class_number)) ∙ code-roll (Code-F.SuperCallWithAll class_number)

pub sequence_is : (all : List Code) → code_of (codes.Sequence all) ≡ of_code.sequence (codes_of all)
sequence_is all = ap code_of (sym (codes.rolls-Sequence all)) ∙ code-roll (Code-F.Sequence all)

pub template_string_is : (string : TemplateString) → code_of (codes.TemplateString string) ≡ of_code.template_string (string_of string)
template_string_is string = ap code_of (sym (codes.rolls-TemplateString string)) ∙ code-roll (Code-F.TemplateString string)

pub template_is : (node : ℕ) (strings : List TemplateString) (expressions : List Code) → code_of (codes.Template node strings expressions) ≡ of_code.template node (map string_of strings) (codes_of expressions)
template_is node strings expressions = ap code_of (sym (codes.rolls-Template node strings expressions)) ∙ code-roll (Code-F.Template node strings expressions)

pub operation_is : (node : ℕ) (operation : Operation) (operands : List Code) (held : List Code) → code_of (codes.Operation node operation operands held) ≡ of_code.operation node (operation_of operation) (codes_of operands) (codes_of held)
operation_is node operation operands held = ap code_of (sym (codes.rolls-Operation node operation operands held)) ∙ code-roll (Code-F.Operation node operation operands held)

pub piece_is : (details : List Detail) (operands : List Code) → code_of (codes.Piece details operands) ≡ of_code.piece (details_of details) (codes_of operands)
piece_is details operands = ap code_of (sym (codes.rolls-Piece details operands)) ∙ code-roll (Code-F.Piece details operands)

pub chain_is : (node : ℕ) (expression : Code) → code_of (codes.Chain node expression) ≡ of_code.chain node (code_of expression)
chain_is node expression = ap code_of (sym (codes.rolls-Chain node expression)) ∙ code-roll (Code-F.Chain node expression)

pub short_is : (expression : Code) → code_of (codes.Short expression) ≡ of_code.short (code_of expression)
short_is expression = ap code_of (sym (codes.rolls-Short expression)) ∙ code-roll (Code-F.Short expression)

pub tested_is : (object : Code) (again : List Code) (rest_code : Code) → code_of (codes.Tested object again rest_code) ≡ of_code.tested (code_of object) (codes_of again) (code_of rest_code)
tested_is object again rest_code = ap code_of (sym (codes.rolls-Tested object again rest_code)) ∙ code-roll (Code-F.Tested object again rest_code)

pub pattern_is : (node : ℕ) (to : Target) → code_of (codes.Pattern node to) ≡ of_code.pattern node (target_of to)
pattern_is node to = ap code_of (sym (codes.rolls-Pattern node to)) ∙ code-roll (Code-F.Pattern node to)

pub takes_is : (node : ℕ) (details : List Detail) (key : List Code) (to : Target) → code_of (codes.Takes node details key to) ≡ of_code.takes node (details_of details) (codes_of key) (target_of to)
takes_is node details key to = ap code_of (sym (codes.rolls-Takes node details key to)) ∙ code-roll (Code-F.Takes node details key to)

pub steps_is : (all : List Code) → code_of (codes.Steps all) ≡ of_code.steps (codes_of all)
steps_is all = ap code_of (sym (codes.rolls-Steps all)) ∙ code-roll (Code-F.Steps all)

pub gives_to_is : (node : ℕ) (to : Target) → code_of (codes.GivesTo node to) ≡ of_code.gives_to node (target_of to)
gives_to_is node to = ap code_of (sym (codes.rolls-GivesTo node to)) ∙ code-roll (Code-F.GivesTo node to)

pub export_default_is : (expression : Code) → code_of (codes.ExportDefault expression) ≡ of_code.export_default (code_of expression)
export_default_is expression = ap code_of (sym (codes.rolls-ExportDefault expression)) ∙ code-roll (Code-F.ExportDefault expression)

pub function_is : (node : ℕ) (form : FunctionForm) (own_name : Option ℕ) (parameters : List Code) (body : Code) → code_of (codes.Function node form own_name parameters body) ≡ of_code.function node (form_of form) own_name (codes_of parameters) (code_of body)
function_is node form own_name parameters body = ap code_of (sym (codes.rolls-Function node form own_name parameters body)) ∙ code-roll (Code-F.Function node form own_name parameters body)

pub new_function_is : (node : ℕ) (form : FunctionForm) (parameters : List Code) (body : Code) → code_of (codes.NewFunction node form parameters body) ≡ of_code.new_function node (form_of form) (codes_of parameters) (code_of body)
new_function_is node form parameters body = ap code_of (sym (codes.rolls-NewFunction node form parameters body)) ∙ code-roll (Code-F.NewFunction node form parameters body)

pub new_return_is : (argument : List Code) → code_of (codes.NewReturn argument) ≡ of_code.new_return (codes_of argument)
new_return_is argument = ap code_of (sym (codes.rolls-NewReturn argument)) ∙ code-roll (Code-F.NewReturn argument)

pub class_code_is : (node : ℕ) (declared : Option ℕ) (heritage : List Code) (elements : List Code) → code_of (codes.Class node declared heritage elements) ≡ of_code.class_code node declared (codes_of heritage) (codes_of elements)
class_code_is node declared heritage elements = ap code_of (sym (codes.rolls-Class node declared heritage elements)) ∙ code-roll (Code-F.Class node declared heritage elements)

pub field_is : (is_static : Bool) (form : FieldForm) (key : Code) (right : Code) → code_of (codes.Field is_static form key right) ≡ of_code.field is_static (field_form_of form) (code_of key) (code_of right)
field_is is_static form key right = ap code_of (sym (codes.rolls-Field is_static form key right)) ∙ code-roll (Code-F.Field is_static form key right)

pub private_field_is : (is_static : Bool) (key : ℕ) (right : Code) → code_of (codes.PrivateField is_static key right) ≡ of_code.private_field is_static key (code_of right)
private_field_is is_static key right = ap code_of (sym (codes.rolls-PrivateField is_static key right)) ∙ code-roll (Code-F.PrivateField is_static key right)

pub method_is : (is_static : Bool) (kind : List ℕ) (key : Code) (callee_function : Code) → code_of (codes.Method is_static kind key callee_function) ≡ of_code.method is_static kind (code_of key) (code_of callee_function)
method_is is_static kind key callee_function = ap code_of (sym (codes.rolls-Method is_static kind key callee_function)) ∙ code-roll (Code-F.Method is_static kind key callee_function)

pub private_method_is : (is_static : Bool) (key : ℕ) (callee_function : Code) → code_of (codes.PrivateMethod is_static key callee_function) ≡ of_code.private_method is_static key (code_of callee_function)
private_method_is is_static key callee_function = ap code_of (sym (codes.rolls-PrivateMethod is_static key callee_function)) ∙ code-roll (Code-F.PrivateMethod is_static key callee_function)

pub constructor_is : (callee_function : Code) → code_of (codes.Constructor callee_function) ≡ of_code.constructor (code_of callee_function)
constructor_is callee_function = ap code_of (sym (codes.rolls-Constructor callee_function)) ∙ code-roll (Code-F.Constructor callee_function)

pub static_block_is : (all : List Code) → code_of (codes.StaticBlock all) ≡ of_code.static_block (codes_of all)
static_block_is all = ap code_of (sym (codes.rolls-StaticBlock all)) ∙ code-roll (Code-F.StaticBlock all)

pub generated_element_is : (spelling : List ℕ) (right : Code) → code_of (codes.GeneratedElement spelling right) ≡ of_code.generated_element spelling (code_of right)
generated_element_is spelling right = ap code_of (sym (codes.rolls-GeneratedElement spelling right)) ∙ code-roll (Code-F.GeneratedElement spelling right)

pub from_call_is : (expression : Code) → code_of (codes.FromCall expression) ≡ of_code.from_call (code_of expression)
from_call_is expression = ap code_of (sym (codes.rolls-FromCall expression)) ∙ code-roll (Code-F.FromCall expression)

pub from_member_is : (expression : Code) → code_of (codes.FromMember expression) ≡ of_code.from_member (code_of expression)
from_member_is expression = ap code_of (sym (codes.rolls-FromMember expression)) ∙ code-roll (Code-F.FromMember expression)

pub key_of_is : (expression : Code) → code_of (codes.KeyOf expression) ≡ of_code.key_of (code_of expression)
key_of_is expression = ap code_of (sym (codes.rolls-KeyOf expression)) ∙ code-roll (Code-F.KeyOf expression)

pub helper_is : (helper : Helper) → code_of (codes.Helper helper) ≡ of_code.helper (helper_of helper)
helper_is helper = ap code_of (sym (codes.rolls-Helper helper)) ∙ code-roll (Code-F.Helper helper)

pub helper_call_is : (node : ℕ) (helper : Helper) (arguments : List Code) → code_of (codes.HelperCall node helper arguments) ≡ of_code.helper_call node (helper_of helper) (codes_of arguments)
helper_call_is node helper arguments = ap code_of (sym (codes.rolls-HelperCall node helper arguments)) ∙ code-roll (Code-F.HelperCall node helper arguments)

pub throw_is : code_of codes.Throw ≡ of_code.throw
throw_is = ap code_of (sym codes.rolls-Throw) ∙ code-roll Code-F.Throw

pub define_is : (node : ℕ) (object : of.Value) (key : Code) (right : Code) → code_of (codes.Define node object key right) ≡ of_code.define node object (code_of key) (code_of right)
define_is node object key right = ap code_of (sym (codes.rolls-Define node object key right)) ∙ code-roll (Code-F.Define node object key right)

pub private_initialize_is : (node : ℕ) (key : ℕ) (object : of.Value) (right : Code) → code_of (codes.PrivateInitialize node key object right) ≡ of_code.private_initialize node key object (code_of right)
private_initialize_is node key object right = ap code_of (sym (codes.rolls-PrivateInitialize node key object right)) ∙ code-roll (Code-F.PrivateInitialize node key object right)

pub add_brand_is : (node : ℕ) (class_number : ℕ) (object : of.Value) → code_of (codes.AddBrand node class_number object) ≡ of_code.add_brand node class_number object
add_brand_is node class_number object = ap code_of (sym (codes.rolls-AddBrand node class_number object)) ∙ code-roll (Code-F.AddBrand node class_number object)

pub bound_is : (callee_function : Code) (object : Code) → code_of (codes.Bound callee_function object) ≡ of_code.bound (code_of callee_function) (code_of object)
bound_is callee_function object = ap code_of (sym (codes.rolls-Bound callee_function object)) ∙ code-roll (Code-F.Bound callee_function object)

pub setter_is : (node : ℕ) (key : ℕ) (object : Code) → code_of (codes.Setter node key object) ≡ of_code.setter node key (code_of object)
setter_is node key object = ap code_of (sym (codes.rolls-Setter node key object)) ∙ code-roll (Code-F.Setter node key object)

pub private_value_is : (spelling : List ℕ) → code_of (codes.PrivateValue spelling) ≡ of_code.private_value spelling
private_value_is spelling = ap code_of (sym (codes.rolls-PrivateValue spelling)) ∙ code-roll (Code-F.PrivateValue spelling)

pub call_arrow_is : (parameters : List (List ℕ)) (body : Code) (arguments : List Code) → code_of (codes.CallArrow parameters body arguments) ≡ of_code.call_arrow parameters (code_of body) (codes_of arguments)
call_arrow_is parameters body arguments = ap code_of (sym (codes.rolls-CallArrow parameters body arguments)) ∙ code-roll (Code-F.CallArrow parameters body arguments)

pub call_closure_is : (spelling : List ℕ) (arguments : List Code) → code_of (codes.CallClosure spelling arguments) ≡ of_code.call_closure spelling (codes_of arguments)
call_closure_is spelling arguments = ap code_of (sym (codes.rolls-CallClosure spelling arguments)) ∙ code-roll (Code-F.CallClosure spelling arguments)

pub initializers_is : (class_number : ℕ) → code_of (codes.Initializers class_number) ≡ of_code.initializers class_number
initializers_is class_number = ap code_of (sym (codes.rolls-Initializers class_number)) ∙ code-roll (Code-F.Initializers class_number)

pub give_function_is : (node : ℕ) (spelling : List ℕ) (kind : GeneratedKind) (callee_function : Code) → code_of (codes.GiveFunction node spelling kind callee_function) ≡ of_code.give_function node spelling kind (code_of callee_function)
give_function_is node spelling kind callee_function = ap code_of (sym (codes.rolls-GiveFunction node spelling kind callee_function)) ∙ code-roll (Code-F.GiveFunction node spelling kind callee_function)

pub give_class_is : (class_number : ℕ) (expression : Code) → code_of (codes.GiveClass class_number expression) ≡ of_code.give_class class_number (code_of expression)
give_class_is class_number expression = ap code_of (sym (codes.rolls-GiveClass class_number expression)) ∙ code-roll (Code-F.GiveClass class_number expression)

pub to_name_is : (node : ℕ) (spelling : List ℕ) (kind : NameKind) → target_of (targets.ToName node spelling kind) ≡ of_code.to_name node spelling (kind_of kind)
to_name_is node spelling kind = ap target_of (sym (targets.rolls-ToName node spelling kind)) ∙ target-roll (Target-F.ToName node spelling kind)

pub to_member_is : (node : ℕ) (object : Code) (key : Code) → target_of (targets.ToMember node object key) ≡ of_code.to_member node (code_of object) (code_of key)
to_member_is node object key = ap target_of (sym (targets.rolls-ToMember node object key)) ∙ target-roll (Target-F.ToMember node object key)

pub to_private_is : (node : ℕ) (means : PrivateReference) (object : Code) → target_of (targets.ToPrivate node means object) ≡ of_code.to_private node (reference_of means) (code_of object)
to_private_is node means object = ap target_of (sym (targets.rolls-ToPrivate node means object)) ∙ target-roll (Target-F.ToPrivate node means object)

pub to_super_is : (node : ℕ) (home : Home) (key : Code) (this_value : of.Value) → target_of (targets.ToSuper node home key this_value) ≡ of_code.to_super node (home_of home) (code_of key) this_value
to_super_is node home key this_value = ap target_of (sym (targets.rolls-ToSuper node home key this_value)) ∙ target-roll (Target-F.ToSuper node home key this_value)

pub to_setter_is : (node : ℕ) (key : ℕ) (object : Code) → target_of (targets.ToSetter node key object) ≡ of_code.to_setter node key (code_of object)
to_setter_is node key object = ap target_of (sym (targets.rolls-ToSetter node key object)) ∙ target-roll (Target-F.ToSetter node key object)

pub to_pattern_is : (node : ℕ) (kind : Kind) (members : List Code) → target_of (targets.ToPattern node kind members) ≡ of_code.to_pattern node kind (codes_of members)
to_pattern_is node kind members = ap target_of (sym (targets.rolls-ToPattern node kind members)) ∙ target-roll (Target-F.ToPattern node kind members)

pub to_default_is : (node : ℕ) (to : Target) (fallback : Code) → target_of (targets.ToDefault node to fallback) ≡ of_code.to_default node (target_of to) (code_of fallback)
to_default_is node to fallback = ap target_of (sym (targets.rolls-ToDefault node to fallback)) ∙ target-roll (Target-F.ToDefault node to fallback)

pub no_target_is : target_of targets.NoTarget ≡ of_code.no_target
no_target_is = ap target_of (sym targets.rolls-NoTarget) ∙ target-roll Target-F.NoTarget

pub plain_is : (expression : Code) → callee_of (callees.Plain expression) ≡ of_code.plain (code_of expression)
plain_is expression = ap callee_of (sym (callees.rolls-Plain expression)) ∙ callee-roll (Callee-F.Plain expression)

pub on_member_is : (node : ℕ) (object : Code) (key : Code) → callee_of (callees.OnMember node object key) ≡ of_code.on_member node (code_of object) (code_of key)
on_member_is node object key = ap callee_of (sym (callees.rolls-OnMember node object key)) ∙ callee-roll (Callee-F.OnMember node object key)

pub on_private_is : (node : ℕ) (means : PrivateReference) (object : Code) → callee_of (callees.OnPrivate node means object) ≡ of_code.on_private node (reference_of means) (code_of object)
on_private_is node means object = ap callee_of (sym (callees.rolls-OnPrivate node means object)) ∙ callee-roll (Callee-F.OnPrivate node means object)

pub on_super_is : (node : ℕ) (home : Home) (key : Code) (this_value : of.Value) → callee_of (callees.OnSuper node home key this_value) ≡ of_code.on_super node (home_of home) (code_of key) this_value
on_super_is node home key this_value = ap callee_of (sym (callees.rolls-OnSuper node home key this_value)) ∙ callee-roll (Callee-F.OnSuper node home key this_value)

pub with_receiver_is : (callee_function : Code) (object : Code) → callee_of (callees.WithReceiver callee_function object) ≡ of_code.with_receiver (code_of callee_function) (code_of object)
with_receiver_is callee_function object = ap callee_of (sym (callees.rolls-WithReceiver callee_function object)) ∙ callee-roll (Callee-F.WithReceiver callee_function object)

pub checked_is : (callee : Callee) → callee_of (callees.Checked callee) ≡ of_code.checked (callee_of callee)
checked_is callee = ap callee_of (sym (callees.rolls-Checked callee)) ∙ callee-roll (Callee-F.Checked callee)

pub on_chain_is : (node : ℕ) (callee : Callee) → callee_of (callees.OnChain node callee) ≡ of_code.on_chain node (callee_of callee)
on_chain_is node callee = ap callee_of (sym (callees.rolls-OnChain node callee)) ∙ callee-roll (Callee-F.OnChain node callee)

pub behind_test_is : (object : Code) (again : List Code) (callee : Callee) → callee_of (callees.BehindTest object again callee) ≡ of_code.behind_test (code_of object) (codes_of again) (callee_of callee)
behind_test_is object again callee = ap callee_of (sym (callees.rolls-BehindTest object again callee)) ∙ callee-roll (Callee-F.BehindTest object again callee)
