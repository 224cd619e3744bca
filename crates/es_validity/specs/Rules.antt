-- The rules, each by itself: early errors of ECMA-262, forms that ESTree does not have, and valid forms that are not
-- supported. Each is a test of a node by its kind and parts, and by what is around it.
use Rattle.std.specs.Prelude.{Bool, true, false, cond, not, ◌&&◌, ◌||◌, bytes_eq, codes, Option, Some, None}
use Rattle.es_base.specs.Conforms.{is_among}
use Rattle.es_base.specs.Tree.{Part, Parts, Node, child}
use Rattle.es_base.specs.declared.kind.Kind.{Kind}
use Rattle.es_steps.specs.Context.{is_constructor, is_super_call}
use Rattle.es_steps.specs.FirstForm.{helper_names}
use Rattle.es_steps.specs.LoweredClasses.{is_private_key}
use Rattle.es_steps.specs.Options.{lowers_fields, keeps_privates_as_properties}
use Rattle.es_steps.specs.Parts.{at, string_of, is_true}
use Rattle.es_steps.specs.Printable.{has_id, is_suspending, is_spelled, is_bad_field, is_declaration_body, is_super_part, part_has_optional, is_declaration_without_name, is_module_item, is_stray}
use Rattle.es_steps.specs.declared.options.Options.{Options}
use Rattle.es_validity.specs.Around.{Around, is_spine}
use Rattle.es_validity.specs.Owners.{may_call_super, may_use_super, is_initializer, moves, is_behind_parameters}
use Rattle.es_validity.specs.declared.around.Position.{Position}
use Rattle.es_validity.specs.declared.fault.Cause.{Cause}
use Rattle.es_validity.specs.declared.fault.LeftOut.{LeftOut}
use Rattle.es_validity.specs.declared.fault.TreeRule.{TreeRule}

-- ---- classes (ECMA-262, 15.7.1)

-- a method by the name of the constructor: `constructor() {}`, `"constructor"() {}`
abbrev pub names_constructor : Parts → Bool
names_constructor ps = is_spelled (codes "constructor") (at 0 ps) && not (is_true (at 3 ps) || is_true (at 4 ps))

-- a constructor is a method by that name which is no getter, setter, generator or async; a static element is not named
-- `prototype`, a field not `constructor`, and the function of a method has no name of its own
abbrev pub breaks_constructor_form : Kind → Parts → Bool
breaks_constructor_form Kind.MethodDefinition ps =
    cond (is_constructor (string_of (at 2 ps))) (not (names_constructor ps) || is_suspending (at 1 ps)) (names_constructor ps)
    || ((is_true (at 4 ps) && (not (is_true (at 3 ps)) && is_spelled (codes "prototype") (at 0 ps))) || has_id (at 1 ps))
breaks_constructor_form Kind.PropertyDefinition ps = is_bad_field ps
breaks_constructor_form kind ps = false

-- `#constructor`
abbrev pub breaks_private_constructor : Kind → Parts → Bool
breaks_private_constructor Kind.PrivateIdentifier ps = bytes_eq (string_of (at 0 ps)) (codes "constructor")
breaks_private_constructor kind ps = false

-- ---- `super` (ECMA-262, 13.3.7, 15.4.1, 15.7.1)

-- `super(..)`
abbrev pub breaks_super_call : Around → Kind → Parts → Bool
breaks_super_call a kind ps = is_super_call kind ps && not (may_call_super a.owner)

-- `super.x`, `super[x]`
abbrev pub is_super_member : Kind → Parts → Bool
is_super_member Kind.MemberExpression ps = is_super_part (at 0 ps)
is_super_member kind ps = false

abbrev pub breaks_super_member : Around → Kind → Parts → Bool
breaks_super_member a kind ps = is_super_member kind ps && not (may_use_super a.owner)

-- `super.#x`
abbrev pub breaks_super_private : Kind → Parts → Bool
breaks_super_private Kind.PrivateField ps = is_super_part (at 0 ps)
breaks_super_private kind ps = false

-- ---- `delete o.#x`, `delete o?.#x` (ECMA-262, 13.5.1.1)

abbrev pub is_private_field : Part → Bool
is_private_field (child (Node Kind.PrivateField m span semantic_id ps)) = true
is_private_field p = false

abbrev pub ends_in_private : Part → Bool
ends_in_private (child (Node Kind.PrivateField m span semantic_id ps)) = true
ends_in_private (child (Node Kind.ChainExpression m span semantic_id ps)) = is_private_field (at 0 ps)
ends_in_private p = false

abbrev pub is_delete : Parts → Bool
is_delete ps = bytes_eq (string_of (at 0 ps)) (codes "delete")

abbrev pub breaks_delete_private : Kind → Parts → Bool
breaks_delete_private Kind.UnaryExpression ps = is_delete ps && ends_in_private (at 1 ps)
breaks_delete_private kind ps = false

-- ---- `arguments` in a field value or a static block (ECMA-262, 15.7.1)

abbrev pub breaks_own_arguments : Around → Kind → Parts → Bool
breaks_own_arguments a Kind.IdentifierReference ps = is_initializer a.owner && bytes_eq (string_of (at 0 ps)) (codes "arguments")
breaks_own_arguments a kind ps = false

-- ---- `await x`, `for await (..) ..`, `yield x`

abbrev pub breaks_await_yield : Around → Kind → Parts → Bool
breaks_await_yield a Kind.AwaitExpression ps = not a.awaits
breaks_await_yield a Kind.ForOfStatement ps = is_true (at 3 ps) && not a.awaits
breaks_await_yield a Kind.YieldExpression ps = not a.yields
breaks_await_yield a kind ps = false

-- ---- forms

abbrev pub is_default_export : Position → Bool
is_default_export Position.DefaultExport = true
is_default_export position = false

-- `class {}` and `function () {}` as declarations
abbrev pub breaks_no_name : Around → Kind → Parts → Bool
breaks_no_name a kind ps = is_declaration_without_name kind ps && not (is_default_export a.position)

-- an optional call or member stands in the spine of a chain, and not on `super`; a chain has one
abbrev pub breaks_chain_form : Around → Kind → Parts → Bool
breaks_chain_form a Kind.MemberExpression ps = is_true (at 3 ps) && (not (is_spine a.position) || is_super_part (at 0 ps))
breaks_chain_form a Kind.PrivateField ps = is_true (at 3 ps) && (not (is_spine a.position) || is_super_part (at 0 ps))
breaks_chain_form a Kind.CallExpression ps = is_true (at 2 ps) && (not (is_spine a.position) || is_super_part (at 0 ps))
breaks_chain_form a Kind.ChainExpression ps = not (part_has_optional (at 0 ps))
breaks_chain_form a kind ps = false

abbrev pub is_body : Position → Bool
is_body Position.Body = true
is_body position = false

-- `if (x) let y;`
abbrev pub breaks_declaration_place : Around → Kind → Parts → Bool
breaks_declaration_place a kind ps = is_body a.position && is_declaration_body kind ps

abbrev pub is_module_place : Position → Bool
is_module_place Position.ModuleItem = true
is_module_place position = false

abbrev pub breaks_module_item : Around → Kind → Bool
breaks_module_item a kind = is_module_item kind && not (is_module_place a.position)

-- the first of the rules that a node breaks; second constructors and names are known from elsewhere
abbrev pub broken_rule : Around → Kind → Parts → Option TreeRule
broken_rule a kind ps =
    cond (breaks_constructor_form kind ps) (Some TreeRule.ConstructorForm)
    (cond (breaks_private_constructor kind ps) (Some TreeRule.PrivateConstructor)
    (cond (breaks_super_call a kind ps) (Some TreeRule.SuperCall)
    (cond (breaks_super_member a kind ps) (Some TreeRule.SuperMember)
    (cond (breaks_super_private kind ps) (Some TreeRule.SuperPrivate)
    (cond (breaks_delete_private kind ps) (Some TreeRule.DeletePrivate)
    (cond (is_stray a.jumps kind ps) (Some TreeRule.StrayJump)
    (cond (breaks_own_arguments a kind ps) (Some TreeRule.OwnArguments)
    (cond (breaks_await_yield a kind ps) (Some TreeRule.AwaitYield)
    (cond (breaks_no_name a kind ps) (Some TreeRule.NoName)
    (cond (breaks_chain_form a kind ps) (Some TreeRule.ChainForm)
    (cond (breaks_declaration_place a kind ps) (Some TreeRule.DeclarationPlace)
    (cond (breaks_module_item a kind) (Some TreeRule.ModuleItem)
    None))))))))))))

-- ---- forms that are not supported

abbrev pub is_foreign : Kind → Bool
is_foreign Kind.Foreign = true
is_foreign kind = false

abbrev pub is_with : Kind → Bool
is_with Kind.WithStatement = true
is_with kind = false

abbrev pub is_written : Position → Bool
is_written Position.Target = true
is_written Position.PatternTarget = true
is_written position = false

abbrev pub is_helper_name : Parts → Bool
is_helper_name ps = is_among (string_of (at 0 ps)) helper_names

-- `var WeakMap;`, `Object = x`
abbrev pub takes_helper_name : Around → Kind → Parts → Bool
takes_helper_name a Kind.BindingIdentifier ps = is_helper_name ps
takes_helper_name a Kind.IdentifierReference ps = is_written a.position && is_helper_name ps
takes_helper_name a kind ps = false

-- `#m() {}` where private members are kept as properties
abbrev pub is_loose_method : Options → Kind → Parts → Bool
is_loose_method o Kind.MethodDefinition ps = keeps_privates_as_properties o && is_private_key (at 0 ps)
is_loose_method o kind ps = false

-- `#x in o` where private members are kept as properties
abbrev pub is_loose_in : Options → Kind → Bool
is_loose_in o Kind.PrivateIn = keeps_privates_as_properties o
is_loose_in o kind = false

abbrev pub is_super_member_part : Part → Bool
is_super_member_part (child (Node kind m span semantic_id ps)) = is_super_member kind ps
is_super_member_part p = false

abbrev pub cannot_move : Position → Bool
cannot_move Position.PatternTarget = true
cannot_move Position.Tag = true
cannot_move position = false

-- `[super.x] = y`, `super.x`..``, `super.x?.()`, `delete super.x`
abbrev pub is_super_form : Around → Kind → Parts → Bool
is_super_form a Kind.MemberExpression ps = is_super_part (at 0 ps) && cannot_move a.position
is_super_form a Kind.CallExpression ps = is_true (at 2 ps) && is_super_member_part (at 0 ps)
is_super_form a Kind.UnaryExpression ps = is_delete ps && is_super_member_part (at 1 ps)
is_super_form a kind ps = false

abbrev pub is_moved_super_form : Options → Around → Kind → Parts → Bool
is_moved_super_form o a kind ps = (lowers_fields o && moves o a.owner) && is_super_form a kind ps

abbrev pub is_super_in_initializer : Options → Around → Kind → Parts → Bool
is_super_in_initializer o a kind ps = (lowers_fields o && is_behind_parameters a.owner) && is_super_member kind ps

-- the first of the forms that a node is; calls of `eval` are known from elsewhere
abbrev pub left_out : Options → Around → Kind → Parts → Option LeftOut
left_out o a kind ps =
    cond (is_foreign kind) (Some LeftOut.Foreign)
    (cond (is_with kind) (Some LeftOut.With)
    (cond (takes_helper_name a kind ps) (Some LeftOut.HelperName)
    (cond (is_loose_method o kind ps) (Some LeftOut.LooseMethod)
    (cond (is_loose_in o kind) (Some LeftOut.LooseIn)
    (cond (is_moved_super_form o a kind ps) (Some LeftOut.SuperForm)
    (cond (is_super_in_initializer o a kind ps) (Some LeftOut.SuperInInitializer)
    None))))))

-- ---- a node

abbrev pub cause_of : Option TreeRule → Option LeftOut → Option Cause
cause_of (Some rule) what = Some (Cause.BadTree rule)
cause_of None (Some what) = Some (Cause.Unsupported what)
cause_of None None = None

abbrev pub cause_at : Options → Around → Kind → Parts → Option Cause
cause_at o a kind ps = cause_of (broken_rule a kind ps) (left_out o a kind ps)
