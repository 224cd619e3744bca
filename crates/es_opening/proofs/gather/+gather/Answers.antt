use Rattle.std.proofs.Common.{◌≡◌, ◌∙◌, ◌∷◌, ◌++◌, arith, ap, get_or, refl, sym}
use Rattle.std.proofs.lemmas.Result.{on_ok_weaker}
use Rattle.es_codes.specs.CodeView.{callee_of, code_of, codes_of, target_of}
use Rattle.es_codes.proofs.Forms.{add_brand_is, assign_is, binding_is, bound_is, call_arrow_is, call_closure_is, call_is, chain_is, class_code_is, compound_is, construct_is, constructor_is, define_is, export_default_is, field_is, from_call_is, from_member_is, function_is, generated_element_is, give_class_is, give_function_is, gives_to_is, helper_call_is, helper_is, initializers_is, key_of_is, logical_assign_is, logical_is, member_is, method_is, name_is, new_function_is, new_return_is, no_rule_is, nothing_is, operation_is, pattern_is, piece_is, private_field_is, private_in_is, private_initialize_is, private_member_is, private_method_is, private_name_is, private_value_is, rest_is, sequence_is, setter_is, short_is, spelled_is, static_block_is, steps_is, super_call_is, super_call_with_all_is, super_is, super_member_is, tag_is, takes_is, template_is, template_string_is, tested_is, throw_is, update_is, value_is}
use Rattle.es_opening.proofs.Appended.{itself, nothing_in}
use Rattle.es_opening.proofs.Sizes.{item_below}
use Rattle.es_opening.proofs.gather.+gather.Goals as goal
use Rattle.es_opening.specs.Gathered.{all_gathered, callee_gathered, codes_seen, gathered, target_gathered}
use Rattle.es_opening.specs.Size.{size}

pub gather_all-gather-requires : goal.gather_all-gather-requires
gather_all-gather-requires t c =
    let code = c.code-item.result in
    let same : size (code_of code) ≡ size (code_of (get_or c.args.all.now c.loop-code.code-index code)) = ap (λ x. size (code_of x)) c.code-item.is in
    let below = item_below c.args.all.now c.loop-code.code-index code c.loop-code-test.true in
    (omega (arith, below, same, c.decreases), tt)

-- the codes in each form

pub gather-returns-in-Assign : goal.gather-returns-in-Assign
gather-returns-in-Assign t c = on_ok_weaker c.gather_assigned.result (λ e. e ∙ ap (λ x. codes_seen c.args.codes.now.items ++ (code_of c.args.code.now ∷ (target_gathered (target_of x) ++ gathered (code_of c.in-Assign.right)))) c.get.ensures ∙ ap (λ zs. codes_seen c.args.codes.now.items ++ zs) (itself (ap code_of c.in-Assign.is ∙ assign_is _ _) refl)) c.gather_assigned.ensures

pub gather-returns-in-Compound : goal.gather-returns-in-Compound
gather-returns-in-Compound t c = on_ok_weaker c.gather_assigned-in-Compound.result (λ e. e ∙ ap (λ x. codes_seen c.args.codes.now.items ++ (code_of c.args.code.now ∷ (target_gathered (target_of x) ++ gathered (code_of c.in-Compound.right)))) c.get-in-Compound.ensures ∙ ap (λ zs. codes_seen c.args.codes.now.items ++ zs) (itself (ap code_of c.in-Compound.is ∙ compound_is _ _ _ _) refl)) c.gather_assigned-in-Compound.ensures

pub gather-returns-in-LogicalAssign : goal.gather-returns-in-LogicalAssign
gather-returns-in-LogicalAssign t c = on_ok_weaker c.gather_assigned-in-LogicalAssign.result (λ e. e ∙ ap (λ x. codes_seen c.args.codes.now.items ++ (code_of c.args.code.now ∷ (target_gathered (target_of x) ++ gathered (code_of c.in-LogicalAssign.right)))) c.get-in-LogicalAssign.ensures ∙ ap (λ zs. codes_seen c.args.codes.now.items ++ zs) (itself (ap code_of c.in-LogicalAssign.is ∙ logical_assign_is _ _ _ _) refl)) c.gather_assigned-in-LogicalAssign.ensures

pub gather-returns-in-Update : goal.gather-returns-in-Update
gather-returns-in-Update t c = on_ok_weaker c.gather_updated.result (λ e. e ∙ ap (λ x. codes_seen c.args.codes.now.items ++ (code_of c.args.code.now ∷ target_gathered (target_of x))) c.get-in-Update.ensures ∙ ap (λ zs. codes_seen c.args.codes.now.items ++ zs) (itself (ap code_of c.in-Update.is ∙ update_is _ _ _ _) refl)) c.gather_updated.ensures

pub gather-returns-in-Class : goal.gather-returns-in-Class
gather-returns-in-Class t c = on_ok_weaker c.gather_class.result (λ e. e ∙ ap (λ zs. codes_seen c.args.codes.now.items ++ zs) (itself (ap code_of c.in-Class.is ∙ class_code_is _ _ _ _) refl)) c.gather_class.ensures

pub gather-returns-in-PrivateMethod : goal.gather-returns-in-PrivateMethod
gather-returns-in-PrivateMethod t c = on_ok_weaker c.gather_owner.result (λ e. e ∙ ap (λ zs. codes_seen c.args.codes.now.items ++ zs) (itself (ap code_of c.in-PrivateMethod.is ∙ private_method_is _ _ _) refl)) c.gather_owner.ensures

pub gather-returns-in-GiveFunction : goal.gather-returns-in-GiveFunction
gather-returns-in-GiveFunction t c = on_ok_weaker c.gather_owner-in-GiveFunction.result (λ e. e ∙ ap (λ zs. codes_seen c.args.codes.now.items ++ zs) (itself (ap code_of c.in-GiveFunction.is ∙ give_function_is _ _ _ _) refl)) c.gather_owner-in-GiveFunction.ensures

pub gather-returns-in-GeneratedElement : goal.gather-returns-in-GeneratedElement
gather-returns-in-GeneratedElement t c = on_ok_weaker c.gather_owner-in-GeneratedElement.result (λ e. e ∙ ap (λ zs. codes_seen c.args.codes.now.items ++ zs) (itself (ap code_of c.in-GeneratedElement.is ∙ generated_element_is _ _) refl)) c.gather_owner-in-GeneratedElement.ensures

pub gather-returns-in-CallArrow : goal.gather-returns-in-CallArrow
gather-returns-in-CallArrow t c = on_ok_weaker c.gather_arrow.result (λ e. e ∙ ap (λ zs. codes_seen c.args.codes.now.items ++ zs) (itself (ap code_of c.in-CallArrow.is ∙ call_arrow_is _ _ _) refl)) c.gather_arrow.ensures

pub gather-returns-in-Rest : goal.gather-returns-in-Rest
gather-returns-in-Rest t c = on_ok_weaker c.gather_target.result (λ e. e ∙ ap (λ x. codes_seen c.args.codes.now.items ++ target_gathered (target_of x)) c.get-in-Rest.ensures ∙ ap (λ z. codes_seen c.args.codes.now.items ++ gathered z) (sym (ap code_of c.in-Rest.is ∙ rest_is _))) c.gather_target.ensures

pub gather-returns-in-Pattern : goal.gather-returns-in-Pattern
gather-returns-in-Pattern t c = on_ok_weaker c.gather_target-in-Pattern.result (λ e. e ∙ ap (λ x. codes_seen c.args.codes.now.items ++ target_gathered (target_of x)) c.get-in-Pattern.ensures ∙ ap (λ z. codes_seen c.args.codes.now.items ++ gathered z) (sym (ap code_of c.in-Pattern.is ∙ pattern_is _ _))) c.gather_target-in-Pattern.ensures

pub gather-returns-in-GivesTo : goal.gather-returns-in-GivesTo
gather-returns-in-GivesTo t c = on_ok_weaker c.gather_target-in-GivesTo.result (λ e. e ∙ ap (λ x. codes_seen c.args.codes.now.items ++ target_gathered (target_of x)) c.get-in-GivesTo.ensures ∙ ap (λ z. codes_seen c.args.codes.now.items ++ gathered z) (sym (ap code_of c.in-GivesTo.is ∙ gives_to_is _ _))) c.gather_target-in-GivesTo.ensures

pub gather-returns-in-Member : goal.gather-returns-in-Member
gather-returns-in-Member t c = on_ok_weaker c.gather_two.result (λ e. e ∙ ap (λ z. codes_seen c.args.codes.now.items ++ gathered z) (sym (ap code_of c.in-Member.is ∙ member_is _ _ _))) c.gather_two.ensures

pub gather-returns-in-Logical : goal.gather-returns-in-Logical
gather-returns-in-Logical t c = on_ok_weaker c.gather_two-in-Logical.result (λ e. e ∙ ap (λ z. codes_seen c.args.codes.now.items ++ gathered z) (sym (ap code_of c.in-Logical.is ∙ logical_is _ _ _ _))) c.gather_two-in-Logical.ensures

pub gather-returns-in-Field : goal.gather-returns-in-Field
gather-returns-in-Field t c = on_ok_weaker c.gather_two-in-Field.result (λ e. e ∙ ap (λ z. codes_seen c.args.codes.now.items ++ gathered z) (sym (ap code_of c.in-Field.is ∙ field_is _ _ _ _))) c.gather_two-in-Field.ensures

pub gather-returns-in-Method : goal.gather-returns-in-Method
gather-returns-in-Method t c = on_ok_weaker c.gather_two-in-Method.result (λ e. e ∙ ap (λ z. codes_seen c.args.codes.now.items ++ gathered z) (sym (ap code_of c.in-Method.is ∙ method_is _ _ _ _))) c.gather_two-in-Method.ensures

pub gather-returns-in-Define : goal.gather-returns-in-Define
gather-returns-in-Define t c = on_ok_weaker c.gather_two-in-Define.result (λ e. e ∙ ap (λ z. codes_seen c.args.codes.now.items ++ gathered z) (sym (ap code_of c.in-Define.is ∙ define_is _ _ _ _))) c.gather_two-in-Define.ensures

pub gather-returns-in-Bound : goal.gather-returns-in-Bound
gather-returns-in-Bound t c = on_ok_weaker c.gather_two-in-Bound.result (λ e. e ∙ ap (λ z. codes_seen c.args.codes.now.items ++ gathered z) (sym (ap code_of c.in-Bound.is ∙ bound_is _ _))) c.gather_two-in-Bound.ensures

pub gather-returns-in-PrivateMember : goal.gather-returns-in-PrivateMember
gather-returns-in-PrivateMember t c = on_ok_weaker c.gather.result (λ e. e ∙ ap (λ o. codes_seen c.args.codes.now.items ++ gathered (code_of o)) c.get-in-PrivateMember.ensures ∙ ap (λ z. codes_seen c.args.codes.now.items ++ gathered z) (sym (ap code_of c.in-PrivateMember.is ∙ private_member_is _ _ _))) c.gather.ensures

pub gather-returns-in-SuperMember : goal.gather-returns-in-SuperMember
gather-returns-in-SuperMember t c = on_ok_weaker c.gather-in-SuperMember.result (λ e. e ∙ ap (λ o. codes_seen c.args.codes.now.items ++ gathered (code_of o)) c.get-in-SuperMember.ensures ∙ ap (λ z. codes_seen c.args.codes.now.items ++ gathered z) (sym (ap code_of c.in-SuperMember.is ∙ super_member_is _ _ _ _))) c.gather-in-SuperMember.ensures

pub gather-returns-in-PrivateIn : goal.gather-returns-in-PrivateIn
gather-returns-in-PrivateIn t c = on_ok_weaker c.gather-in-PrivateIn.result (λ e. e ∙ ap (λ o. codes_seen c.args.codes.now.items ++ gathered (code_of o)) c.get-in-PrivateIn.ensures ∙ ap (λ z. codes_seen c.args.codes.now.items ++ gathered z) (sym (ap code_of c.in-PrivateIn.is ∙ private_in_is _ _ _))) c.gather-in-PrivateIn.ensures

pub gather-returns-in-Chain : goal.gather-returns-in-Chain
gather-returns-in-Chain t c = on_ok_weaker c.gather-in-Chain.result (λ e. e ∙ ap (λ o. codes_seen c.args.codes.now.items ++ gathered (code_of o)) c.get-in-Chain.ensures ∙ ap (λ z. codes_seen c.args.codes.now.items ++ gathered z) (sym (ap code_of c.in-Chain.is ∙ chain_is _ _))) c.gather-in-Chain.ensures

pub gather-returns-in-Short : goal.gather-returns-in-Short
gather-returns-in-Short t c = on_ok_weaker c.gather-in-Short.result (λ e. e ∙ ap (λ o. codes_seen c.args.codes.now.items ++ gathered (code_of o)) c.get-in-Short.ensures ∙ ap (λ z. codes_seen c.args.codes.now.items ++ gathered z) (sym (ap code_of c.in-Short.is ∙ short_is _))) c.gather-in-Short.ensures

pub gather-returns-in-ExportDefault : goal.gather-returns-in-ExportDefault
gather-returns-in-ExportDefault t c = on_ok_weaker c.gather-in-ExportDefault.result (λ e. e ∙ ap (λ o. codes_seen c.args.codes.now.items ++ gathered (code_of o)) c.get-in-ExportDefault.ensures ∙ ap (λ z. codes_seen c.args.codes.now.items ++ gathered z) (sym (ap code_of c.in-ExportDefault.is ∙ export_default_is _))) c.gather-in-ExportDefault.ensures

pub gather-returns-in-PrivateField : goal.gather-returns-in-PrivateField
gather-returns-in-PrivateField t c = on_ok_weaker c.gather-in-PrivateField.result (λ e. e ∙ ap (λ o. codes_seen c.args.codes.now.items ++ gathered (code_of o)) c.get-in-PrivateField.ensures ∙ ap (λ z. codes_seen c.args.codes.now.items ++ gathered z) (sym (ap code_of c.in-PrivateField.is ∙ private_field_is _ _ _))) c.gather-in-PrivateField.ensures

pub gather-returns-in-Constructor : goal.gather-returns-in-Constructor
gather-returns-in-Constructor t c = on_ok_weaker c.gather-in-Constructor.result (λ e. e ∙ ap (λ o. codes_seen c.args.codes.now.items ++ gathered (code_of o)) c.get-in-Constructor.ensures ∙ ap (λ z. codes_seen c.args.codes.now.items ++ gathered z) (sym (ap code_of c.in-Constructor.is ∙ constructor_is _))) c.gather-in-Constructor.ensures

pub gather-returns-in-FromCall : goal.gather-returns-in-FromCall
gather-returns-in-FromCall t c = on_ok_weaker c.gather-in-FromCall.result (λ e. e ∙ ap (λ o. codes_seen c.args.codes.now.items ++ gathered (code_of o)) c.get-in-FromCall.ensures ∙ ap (λ z. codes_seen c.args.codes.now.items ++ gathered z) (sym (ap code_of c.in-FromCall.is ∙ from_call_is _))) c.gather-in-FromCall.ensures

pub gather-returns-in-FromMember : goal.gather-returns-in-FromMember
gather-returns-in-FromMember t c = on_ok_weaker c.gather-in-FromMember.result (λ e. e ∙ ap (λ o. codes_seen c.args.codes.now.items ++ gathered (code_of o)) c.get-in-FromMember.ensures ∙ ap (λ z. codes_seen c.args.codes.now.items ++ gathered z) (sym (ap code_of c.in-FromMember.is ∙ from_member_is _))) c.gather-in-FromMember.ensures

pub gather-returns-in-KeyOf : goal.gather-returns-in-KeyOf
gather-returns-in-KeyOf t c = on_ok_weaker c.gather-in-KeyOf.result (λ e. e ∙ ap (λ o. codes_seen c.args.codes.now.items ++ gathered (code_of o)) c.get-in-KeyOf.ensures ∙ ap (λ z. codes_seen c.args.codes.now.items ++ gathered z) (sym (ap code_of c.in-KeyOf.is ∙ key_of_is _))) c.gather-in-KeyOf.ensures

pub gather-returns-in-PrivateInitialize : goal.gather-returns-in-PrivateInitialize
gather-returns-in-PrivateInitialize t c = on_ok_weaker c.gather-in-PrivateInitialize.result (λ e. e ∙ ap (λ o. codes_seen c.args.codes.now.items ++ gathered (code_of o)) c.get-in-PrivateInitialize.ensures ∙ ap (λ z. codes_seen c.args.codes.now.items ++ gathered z) (sym (ap code_of c.in-PrivateInitialize.is ∙ private_initialize_is _ _ _ _))) c.gather-in-PrivateInitialize.ensures

pub gather-returns-in-Setter : goal.gather-returns-in-Setter
gather-returns-in-Setter t c = on_ok_weaker c.gather-in-Setter.result (λ e. e ∙ ap (λ o. codes_seen c.args.codes.now.items ++ gathered (code_of o)) c.get-in-Setter.ensures ∙ ap (λ z. codes_seen c.args.codes.now.items ++ gathered z) (sym (ap code_of c.in-Setter.is ∙ setter_is _ _ _))) c.gather-in-Setter.ensures

pub gather-returns-in-GiveClass : goal.gather-returns-in-GiveClass
gather-returns-in-GiveClass t c = on_ok_weaker c.gather-in-GiveClass.result (λ e. e ∙ ap (λ o. codes_seen c.args.codes.now.items ++ gathered (code_of o)) c.get-in-GiveClass.ensures ∙ ap (λ z. codes_seen c.args.codes.now.items ++ gathered z) (sym (ap code_of c.in-GiveClass.is ∙ give_class_is _ _))) c.gather-in-GiveClass.ensures

pub gather-returns-in-Call : goal.gather-returns-in-Call
gather-returns-in-Call t c = on_ok_weaker c.gather_call.result (λ e. e ∙ ap (λ x. codes_seen c.args.codes.now.items ++ (callee_gathered (callee_of x) ++ all_gathered (codes_of c.in-Call.arguments))) c.get-in-Call.ensures ∙ ap (λ z. codes_seen c.args.codes.now.items ++ gathered z) (sym (ap code_of c.in-Call.is ∙ call_is _ _ _))) c.gather_call.ensures

pub gather-returns-in-Tag : goal.gather-returns-in-Tag
gather-returns-in-Tag t c = on_ok_weaker c.gather_call-in-Tag.result (λ e. e ∙ ap (λ x. codes_seen c.args.codes.now.items ++ (callee_gathered (callee_of x) ++ all_gathered (codes_of c.in-Tag.arguments))) c.get-in-Tag.ensures ∙ ap (λ z. codes_seen c.args.codes.now.items ++ gathered z) (sym (ap code_of c.in-Tag.is ∙ tag_is _ _ _ _))) c.gather_call-in-Tag.ensures

pub gather-returns-in-Construct : goal.gather-returns-in-Construct
gather-returns-in-Construct t c = on_ok_weaker c.gather_construct.result (λ e. e ∙ ap (λ z. codes_seen c.args.codes.now.items ++ gathered z) (sym (ap code_of c.in-Construct.is ∙ construct_is _ _ _))) c.gather_construct.ensures

pub gather-returns-in-SuperCall : goal.gather-returns-in-SuperCall
gather-returns-in-SuperCall t c = on_ok_weaker c.gather_all.result (λ e. e ∙ ap (λ os. codes_seen c.args.codes.now.items ++ all_gathered (codes_of os)) c.as_slice.ensures ∙ ap (λ z. codes_seen c.args.codes.now.items ++ gathered z) (sym (ap code_of c.in-SuperCall.is ∙ super_call_is _ _ _ _))) c.gather_all.ensures

pub gather-returns-in-Sequence : goal.gather-returns-in-Sequence
gather-returns-in-Sequence t c = on_ok_weaker c.gather_all-in-Sequence.result (λ e. e ∙ ap (λ os. codes_seen c.args.codes.now.items ++ all_gathered (codes_of os)) c.as_slice-in-Sequence.ensures ∙ ap (λ z. codes_seen c.args.codes.now.items ++ gathered z) (sym (ap code_of c.in-Sequence.is ∙ sequence_is _))) c.gather_all-in-Sequence.ensures

pub gather-returns-in-Template : goal.gather-returns-in-Template
gather-returns-in-Template t c = on_ok_weaker c.gather_all-in-Template.result (λ e. e ∙ ap (λ os. codes_seen c.args.codes.now.items ++ all_gathered (codes_of os)) c.as_slice-in-Template.ensures ∙ ap (λ z. codes_seen c.args.codes.now.items ++ gathered z) (sym (ap code_of c.in-Template.is ∙ template_is _ _ _))) c.gather_all-in-Template.ensures

pub gather-returns-in-Piece : goal.gather-returns-in-Piece
gather-returns-in-Piece t c = on_ok_weaker c.gather_all-in-Piece.result (λ e. e ∙ ap (λ os. codes_seen c.args.codes.now.items ++ all_gathered (codes_of os)) c.as_slice-in-Piece.ensures ∙ ap (λ z. codes_seen c.args.codes.now.items ++ gathered z) (sym (ap code_of c.in-Piece.is ∙ piece_is _ _))) c.gather_all-in-Piece.ensures

pub gather-returns-in-Steps : goal.gather-returns-in-Steps
gather-returns-in-Steps t c = on_ok_weaker c.gather_all-in-Steps.result (λ e. e ∙ ap (λ os. codes_seen c.args.codes.now.items ++ all_gathered (codes_of os)) c.as_slice-in-Steps.ensures ∙ ap (λ z. codes_seen c.args.codes.now.items ++ gathered z) (sym (ap code_of c.in-Steps.is ∙ steps_is _))) c.gather_all-in-Steps.ensures

pub gather-returns-in-NewReturn : goal.gather-returns-in-NewReturn
gather-returns-in-NewReturn t c = on_ok_weaker c.gather_all-in-NewReturn.result (λ e. e ∙ ap (λ os. codes_seen c.args.codes.now.items ++ all_gathered (codes_of os)) c.as_slice-in-NewReturn.ensures ∙ ap (λ z. codes_seen c.args.codes.now.items ++ gathered z) (sym (ap code_of c.in-NewReturn.is ∙ new_return_is _))) c.gather_all-in-NewReturn.ensures

pub gather-returns-in-StaticBlock : goal.gather-returns-in-StaticBlock
gather-returns-in-StaticBlock t c = on_ok_weaker c.gather_all-in-StaticBlock.result (λ e. e ∙ ap (λ os. codes_seen c.args.codes.now.items ++ all_gathered (codes_of os)) c.as_slice-in-StaticBlock.ensures ∙ ap (λ z. codes_seen c.args.codes.now.items ++ gathered z) (sym (ap code_of c.in-StaticBlock.is ∙ static_block_is _))) c.gather_all-in-StaticBlock.ensures

pub gather-returns-in-CallClosure : goal.gather-returns-in-CallClosure
gather-returns-in-CallClosure t c = on_ok_weaker c.gather_all-in-CallClosure.result (λ e. e ∙ ap (λ os. codes_seen c.args.codes.now.items ++ all_gathered (codes_of os)) c.as_slice-in-CallClosure.ensures ∙ ap (λ z. codes_seen c.args.codes.now.items ++ gathered z) (sym (ap code_of c.in-CallClosure.is ∙ call_closure_is _ _))) c.gather_all-in-CallClosure.ensures

pub gather-returns-in-Operation : goal.gather-returns-in-Operation
gather-returns-in-Operation t c = on_ok_weaker c.gather_lists.result (λ e. e ∙ ap (λ z. codes_seen c.args.codes.now.items ++ gathered z) (sym (ap code_of c.in-Operation.is ∙ operation_is _ _ _ _))) c.gather_lists.ensures

pub gather-returns-in-Tested : goal.gather-returns-in-Tested
gather-returns-in-Tested t c = on_ok_weaker c.gather_tested.result (λ e. e ∙ ap (λ z. codes_seen c.args.codes.now.items ++ gathered z) (sym (ap code_of c.in-Tested.is ∙ tested_is _ _ _))) c.gather_tested.ensures

pub gather-returns-in-Takes : goal.gather-returns-in-Takes
gather-returns-in-Takes t c = on_ok_weaker c.gather_takes.result (λ e. e ∙ ap (λ x. codes_seen c.args.codes.now.items ++ (all_gathered (codes_of c.in-Takes.key) ++ target_gathered (target_of x))) c.get-in-Takes.ensures ∙ ap (λ z. codes_seen c.args.codes.now.items ++ gathered z) (sym (ap code_of c.in-Takes.is ∙ takes_is _ _ _ _))) c.gather_takes.ensures

pub gather-returns-in-Function : goal.gather-returns-in-Function
gather-returns-in-Function t c = on_ok_weaker c.gather_function.result (λ e. e ∙ ap (λ z. codes_seen c.args.codes.now.items ++ gathered z) (sym (ap code_of c.in-Function.is ∙ function_is _ _ _ _ _))) c.gather_function.ensures

pub gather-returns-in-NewFunction : goal.gather-returns-in-NewFunction
gather-returns-in-NewFunction t c = on_ok_weaker c.gather_function-in-NewFunction.result (λ e. e ∙ ap (λ z. codes_seen c.args.codes.now.items ++ gathered z) (sym (ap code_of c.in-NewFunction.is ∙ new_function_is _ _ _ _))) c.gather_function-in-NewFunction.ensures

pub gather-returns-in-Nothing : goal.gather-returns-in-Nothing
gather-returns-in-Nothing t c = nothing_in (codes_seen c.args.codes.now.items) (ap code_of c.in-Nothing.is ∙ nothing_is) refl

pub gather-returns-in-NoRule : goal.gather-returns-in-NoRule
gather-returns-in-NoRule t c = nothing_in (codes_seen c.args.codes.now.items) (ap code_of c.in-NoRule.is ∙ no_rule_is) refl

pub gather-returns-in-Value : goal.gather-returns-in-Value
gather-returns-in-Value t c = nothing_in (codes_seen c.args.codes.now.items) (ap code_of c.in-Value.is ∙ value_is _) refl

pub gather-returns-in-Spelled : goal.gather-returns-in-Spelled
gather-returns-in-Spelled t c = nothing_in (codes_seen c.args.codes.now.items) (ap code_of c.in-Spelled.is ∙ spelled_is _) refl

pub gather-returns-in-PrivateName : goal.gather-returns-in-PrivateName
gather-returns-in-PrivateName t c = nothing_in (codes_seen c.args.codes.now.items) (ap code_of c.in-PrivateName.is ∙ private_name_is _ _ _) refl

pub gather-returns-in-Binding : goal.gather-returns-in-Binding
gather-returns-in-Binding t c = nothing_in (codes_seen c.args.codes.now.items) (ap code_of c.in-Binding.is ∙ binding_is _ _ _) refl

pub gather-returns-in-Name : goal.gather-returns-in-Name
gather-returns-in-Name t c = nothing_in (codes_seen c.args.codes.now.items) (ap code_of c.in-Name.is ∙ name_is _ _ _) refl

pub gather-returns-in-Super : goal.gather-returns-in-Super
gather-returns-in-Super t c = nothing_in (codes_seen c.args.codes.now.items) (ap code_of c.in-Super.is ∙ super_is) refl

pub gather-returns-in-SuperCallWithAll : goal.gather-returns-in-SuperCallWithAll
gather-returns-in-SuperCallWithAll t c = nothing_in (codes_seen c.args.codes.now.items) (ap code_of c.in-SuperCallWithAll.is ∙ super_call_with_all_is _) refl

pub gather-returns-in-TemplateString : goal.gather-returns-in-TemplateString
gather-returns-in-TemplateString t c = nothing_in (codes_seen c.args.codes.now.items) (ap code_of c.in-TemplateString.is ∙ template_string_is _) refl

pub gather-returns-in-Helper : goal.gather-returns-in-Helper
gather-returns-in-Helper t c = nothing_in (codes_seen c.args.codes.now.items) (ap code_of c.in-Helper.is ∙ helper_is _) refl

pub gather-returns-in-HelperCall : goal.gather-returns-in-HelperCall
gather-returns-in-HelperCall t c = nothing_in (codes_seen c.args.codes.now.items) (ap code_of c.in-HelperCall.is ∙ helper_call_is _ _ _) refl

pub gather-returns-in-Throw : goal.gather-returns-in-Throw
gather-returns-in-Throw t c = nothing_in (codes_seen c.args.codes.now.items) (ap code_of c.in-Throw.is ∙ throw_is) refl

pub gather-returns-in-AddBrand : goal.gather-returns-in-AddBrand
gather-returns-in-AddBrand t c = nothing_in (codes_seen c.args.codes.now.items) (ap code_of c.in-AddBrand.is ∙ add_brand_is _ _ _) refl

pub gather-returns-in-PrivateValue : goal.gather-returns-in-PrivateValue
gather-returns-in-PrivateValue t c = nothing_in (codes_seen c.args.codes.now.items) (ap code_of c.in-PrivateValue.is ∙ private_value_is _) refl

pub gather-returns-in-Initializers : goal.gather-returns-in-Initializers
gather-returns-in-Initializers t c = nothing_in (codes_seen c.args.codes.now.items) (ap code_of c.in-Initializers.is ∙ initializers_is _) refl
