-- Which codes of the definitions codes in code are.
use Rattle.std.specs.Prelude.{List, [], ◌∷◌, map, option_map}
use Rattle.es_steps.specs.Code as of
use Rattle.es_steps.specs.Helpers as of_helper
use Rattle.es_codes.specs.View.{kind_of, reference_of, home_of, test_of, details_of, operation_of}
use Rattle.es_codes.specs.declared.code.FunctionForm.{FunctionForm}
use Rattle.es_codes.specs.declared.code.FieldForm.{FieldForm}
use Rattle.es_codes.specs.declared.code.TemplateString.{TemplateString}
use Rattle.es_codes.specs.declared.code.Opened.{Opened}
use Rattle.es_codes.specs.declared.code.Helper.{Helper}
use Rattle.es_codes.specs.declared.code.Code.{Code}
use Rattle.es_codes.specs.declared.code.Target.{Target}
use Rattle.es_codes.specs.declared.code.Callee.{Callee}
use Rattle.es_codes.specs.declared.code.Callee.TheFolds.{fold-Code, fold-Target, fold-Callee}
use Rattle.es_codes.specs.declared.code.Callee.TheOpen.{Code-F, Target-F, Callee-F}

abbrev pub form_of : FunctionForm → of.FunctionForm
form_of f = record { is_arrow = f.is_arrow; is_async = f.is_async; is_generator = f.is_generator }

abbrev pub field_form_of : FieldForm → of.FieldForm
field_form_of FieldForm.Defines = of.defines
field_form_of FieldForm.Sets = of.sets
field_form_of FieldForm.LeavesOut = of.leaves_out

abbrev pub string_of : TemplateString → of.TemplateString
string_of t = record { raw = t.raw; cooked = t.cooked; is_tail = t.is_tail }

abbrev pub opened_of : Opened → of.Opened
opened_of (Opened.InitializersOf n) = of.InitializersOf n
opened_of (Opened.BodyOf s) = of.BodyOf s
opened_of (Opened.CalledBodyOf s) = of.CalledBodyOf s

abbrev pub helper_of : Helper → of_helper.Helper
helper_of Helper.DefineProperty = of_helper.DefineProperty
helper_of Helper.ClassPrivateFieldInitSpec = of_helper.ClassPrivateFieldInitSpec
helper_of Helper.ClassPrivateMethodInitSpec = of_helper.ClassPrivateMethodInitSpec
helper_of Helper.ClassPrivateFieldGet2 = of_helper.ClassPrivateFieldGet2
helper_of Helper.ClassPrivateFieldSet2 = of_helper.ClassPrivateFieldSet2
helper_of Helper.AssertClassBrand = of_helper.AssertClassBrand
helper_of Helper.ToSetter = of_helper.ToSetter
helper_of Helper.CheckInRHS = of_helper.CheckInRHS
helper_of Helper.ReadOnlyError = of_helper.ReadOnlyError
helper_of Helper.WriteOnlyError = of_helper.WriteOnlyError
helper_of Helper.SuperPropGet = of_helper.SuperPropGet
helper_of Helper.SuperPropSet = of_helper.SuperPropSet
helper_of Helper.ClassPrivateFieldLooseKey = of_helper.ClassPrivateFieldLooseKey
helper_of Helper.ClassPrivateFieldLooseBase = of_helper.ClassPrivateFieldLooseBase
helper_of Helper.SetFunctionName = of_helper.SetFunctionName
helper_of Helper.ToPropertyKey = of_helper.ToPropertyKey

abbrev pub chained : List of.Code → of.Codes
chained [] = of.done
chained (c ∷ cs) = of.and c (chained cs)

abbrev pub code_step : Code-F of.Callee of.Code of.Target → of.Code
code_step Code-F.Nothing = of.nothing
code_step Code-F.NoRule = of.no_rule
code_step (Code-F.Value value) = of.value value
code_step (Code-F.Spelled spelling) = of.spelled spelling
code_step (Code-F.PrivateName node spelling means) = of.private_name node spelling (option_map reference_of means)
code_step (Code-F.Binding node spelling kind) = of.binding node spelling (kind_of kind)
code_step (Code-F.Rest to) = of.rest to
code_step (Code-F.Name node spelling kind) = of.name node spelling (kind_of kind)
code_step Code-F.Super = of.super
code_step (Code-F.Member node object key) = of.member node object key
code_step (Code-F.PrivateMember node means object) = of.private_member node (reference_of means) object
code_step (Code-F.SuperMember node home key this_value) = of.super_member node (home_of home) key this_value
code_step (Code-F.PrivateIn node test object) = of.private_in node (test_of test) object
code_step (Code-F.Assign to right) = of.assign to right
code_step (Code-F.Compound node operator to right) = of.compound node operator to right
code_step (Code-F.Logical node operator left right) = of.logical node operator left right
code_step (Code-F.LogicalAssign node operator to right) = of.logical_assign node operator to right
code_step (Code-F.Update node operator is_prefix to) = of.update node operator is_prefix to
code_step (Code-F.Call node callee arguments) = of.call node callee (chained arguments)
code_step (Code-F.Tag node callee strings arguments) = of.tag node callee (map string_of strings) (chained arguments)
code_step (Code-F.Construct node callee arguments) = of.construct node callee (chained arguments)
code_step (Code-F.SuperCall node class_number behind arguments) = of.super_call node class_number (option_map opened_of behind) (chained arguments)
code_step (Code-F.SuperCallWithAll class_number) = of.super_call_with_all class_number
code_step (Code-F.Sequence all) = of.sequence (chained all)
code_step (Code-F.TemplateString string) = of.template_string (string_of string)
code_step (Code-F.Template node strings expressions) = of.template node (map string_of strings) (chained expressions)
code_step (Code-F.Operation node operation operands held) = of.operation node (operation_of operation) (chained operands) (chained held)
code_step (Code-F.Piece details operands) = of.piece (details_of details) (chained operands)
code_step (Code-F.Chain node expression) = of.chain node expression
code_step (Code-F.Short expression) = of.short expression
code_step (Code-F.Tested object again rest_code) = of.tested object (chained again) rest_code
code_step (Code-F.Pattern node to) = of.pattern node to
code_step (Code-F.Takes node details key to) = of.takes node (details_of details) (chained key) to
code_step (Code-F.Steps all) = of.steps (chained all)
code_step (Code-F.GivesTo node to) = of.gives_to node to
code_step (Code-F.ExportDefault expression) = of.export_default expression
code_step (Code-F.Function node form own_name parameters body) = of.function node (form_of form) own_name (chained parameters) body
code_step (Code-F.NewFunction node form parameters body) = of.new_function node (form_of form) (chained parameters) body
code_step (Code-F.NewReturn argument) = of.new_return (chained argument)
code_step (Code-F.Class node declared heritage elements) = of.class_code node declared (chained heritage) (chained elements)
code_step (Code-F.Field is_static form key right) = of.field is_static (field_form_of form) key right
code_step (Code-F.PrivateField is_static key right) = of.private_field is_static key right
code_step (Code-F.Method is_static kind key callee_function) = of.method is_static kind key callee_function
code_step (Code-F.PrivateMethod is_static key callee_function) = of.private_method is_static key callee_function
code_step (Code-F.Constructor callee_function) = of.constructor callee_function
code_step (Code-F.StaticBlock all) = of.static_block (chained all)
code_step (Code-F.GeneratedElement spelling right) = of.generated_element spelling right
code_step (Code-F.FromCall expression) = of.from_call expression
code_step (Code-F.FromMember expression) = of.from_member expression
code_step (Code-F.KeyOf expression) = of.key_of expression
code_step (Code-F.Helper helper) = of.helper (helper_of helper)
code_step (Code-F.HelperCall node helper arguments) = of.helper_call node (helper_of helper) (chained arguments)
code_step Code-F.Throw = of.throw
code_step (Code-F.Define node object key right) = of.define node object key right
code_step (Code-F.PrivateInitialize node key object right) = of.private_initialize node key object right
code_step (Code-F.AddBrand node class_number object) = of.add_brand node class_number object
code_step (Code-F.Bound callee_function object) = of.bound callee_function object
code_step (Code-F.Setter node key object) = of.setter node key object
code_step (Code-F.PrivateValue spelling) = of.private_value spelling
code_step (Code-F.CallArrow parameters body arguments) = of.call_arrow parameters body (chained arguments)
code_step (Code-F.CallClosure spelling arguments) = of.call_closure spelling (chained arguments)
code_step (Code-F.Initializers class_number) = of.initializers class_number
code_step (Code-F.GiveFunction node spelling kind callee_function) = of.give_function node spelling kind callee_function
code_step (Code-F.GiveClass class_number expression) = of.give_class class_number expression

abbrev pub target_step : Target-F of.Callee of.Code of.Target → of.Target
target_step (Target-F.ToName node spelling kind) = of.to_name node spelling (kind_of kind)
target_step (Target-F.ToMember node object key) = of.to_member node object key
target_step (Target-F.ToPrivate node means object) = of.to_private node (reference_of means) object
target_step (Target-F.ToSuper node home key this_value) = of.to_super node (home_of home) key this_value
target_step (Target-F.ToSetter node key object) = of.to_setter node key object
target_step (Target-F.ToPattern node kind members) = of.to_pattern node kind (chained members)
target_step (Target-F.ToDefault node to fallback) = of.to_default node to fallback
target_step Target-F.NoTarget = of.no_target

abbrev pub callee_step : Callee-F of.Callee of.Code of.Target → of.Callee
callee_step (Callee-F.Plain expression) = of.plain expression
callee_step (Callee-F.OnMember node object key) = of.on_member node object key
callee_step (Callee-F.OnPrivate node means object) = of.on_private node (reference_of means) object
callee_step (Callee-F.OnSuper node home key this_value) = of.on_super node (home_of home) key this_value
callee_step (Callee-F.WithReceiver callee_function object) = of.with_receiver callee_function object
callee_step (Callee-F.Checked callee) = of.checked callee
callee_step (Callee-F.OnChain node callee) = of.on_chain node callee
callee_step (Callee-F.BehindTest object again callee) = of.behind_test object (chained again) callee

unfoldable pub code_of : Code → of.Code
code_of = fold-Code of.Callee of.Code of.Target callee_step code_step target_step

unfoldable pub target_of : Target → of.Target
target_of = fold-Target of.Callee of.Code of.Target callee_step code_step target_step

unfoldable pub callee_of : Callee → of.Callee
callee_of = fold-Callee of.Callee of.Code of.Target callee_step code_step target_step

abbrev pub codes_of : List Code → of.Codes
codes_of cs = chained (map code_of cs)
