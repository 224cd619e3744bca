use Rattle.std.proofs.Common.{◌∙◌, ap, map, sym}
use Rattle.es_codes.proofs.Forms.{add_brand_is, assign_is, call_arrow_is, call_closure_is, call_is, chain_is, class_code_is, compound_is, construct_is, define_is, export_default_is, give_class_is, gives_to_is, initializers_is, key_of_is, logical_assign_is, logical_is, member_is, operation_is, private_in_is, private_initialize_is, private_member_is, sequence_is, short_is, steps_is, super_call_is, super_call_with_all_is, super_member_is, tag_is, template_is, tested_is, update_is}
use Rattle.es_codes.specs.CodeView.{callee_of, code_of, codes_of, string_of, target_of}
use Rattle.es_steps.specs.Code as of
use Rattle.es_evaluate.proofs.Leaves.{as_its_form}
use Rattle.es_evaluate.proofs.forms.evaluate_form.Goals as goal

pub returns-in-Member : goal.returns-in-Member
returns-in-Member g c = as_its_form _ _ _ _ c.evaluate_member.ensures (ap code_of c.in-Member.is ∙ member_is _ _ _)

pub returns-in-PrivateMember : goal.returns-in-PrivateMember
returns-in-PrivateMember g c = as_its_form _ _ _ _ c.evaluate_private_member.ensures (ap code_of c.in-PrivateMember.is ∙ private_member_is _ _ _)

pub returns-in-SuperMember : goal.returns-in-SuperMember
returns-in-SuperMember g c = as_its_form _ _ _ _ c.evaluate_super_member.ensures (ap code_of c.in-SuperMember.is ∙ super_member_is _ _ _ _)

pub returns-in-PrivateIn : goal.returns-in-PrivateIn
returns-in-PrivateIn g c = as_its_form _ _ _ _ c.evaluate_private_in.ensures (ap code_of c.in-PrivateIn.is ∙ private_in_is _ _ _)

pub returns-in-Assign : goal.returns-in-Assign
returns-in-Assign g c = as_its_form _ _ _ _ c.evaluate_assign.ensures (ap code_of c.in-Assign.is ∙ assign_is _ _ ∙ ap (λ x. of.assign (target_of x) (code_of c.in-Assign.right)) (sym c.get.ensures))

pub returns-in-Compound : goal.returns-in-Compound
returns-in-Compound g c = as_its_form _ _ _ _ c.evaluate_compound.ensures (ap code_of c.in-Compound.is ∙ compound_is _ _ _ _ ∙ ap (λ x. of.compound c.in-Compound.node c.in-Compound.operator (target_of x) (code_of c.in-Compound.right)) (sym c.get-in-Compound.ensures))

pub returns-in-Logical : goal.returns-in-Logical
returns-in-Logical g c = as_its_form _ _ _ _ c.evaluate_logical.ensures (ap code_of c.in-Logical.is ∙ logical_is _ _ _ _)

pub returns-in-LogicalAssign : goal.returns-in-LogicalAssign
returns-in-LogicalAssign g c = as_its_form _ _ _ _ c.evaluate_logical_assign.ensures (ap code_of c.in-LogicalAssign.is ∙ logical_assign_is _ _ _ _ ∙ ap (λ x. of.logical_assign c.in-LogicalAssign.node c.in-LogicalAssign.operator (target_of x) (code_of c.in-LogicalAssign.right)) (sym c.get-in-LogicalAssign.ensures))

pub returns-in-Update : goal.returns-in-Update
returns-in-Update g c = as_its_form _ _ _ _ c.evaluate_update.ensures (ap code_of c.in-Update.is ∙ update_is _ _ _ _ ∙ ap (λ x. of.update c.in-Update.node c.in-Update.operator c.in-Update.is_prefix (target_of x)) (sym c.get-in-Update.ensures))

pub returns-in-Call : goal.returns-in-Call
returns-in-Call g c = as_its_form _ _ _ _ c.evaluate_call.ensures (ap code_of c.in-Call.is ∙ call_is _ _ _ ∙ ap (λ x. of.call c.in-Call.node (callee_of x) (codes_of c.in-Call.arguments)) (sym c.get-in-Call.ensures))

pub returns-in-Tag : goal.returns-in-Tag
returns-in-Tag g c = as_its_form _ _ _ _ c.evaluate_tag.ensures (ap code_of c.in-Tag.is ∙ tag_is _ _ _ _ ∙ ap (λ x. of.tag c.in-Tag.node (callee_of x) (map string_of c.in-Tag.strings) (codes_of c.in-Tag.arguments)) (sym c.get-in-Tag.ensures))

pub returns-in-Construct : goal.returns-in-Construct
returns-in-Construct g c = as_its_form _ _ _ _ c.evaluate_construct.ensures (ap code_of c.in-Construct.is ∙ construct_is _ _ _)

pub returns-in-SuperCall : goal.returns-in-SuperCall
returns-in-SuperCall g c = as_its_form _ _ _ _ c.evaluate_super_call.ensures (ap code_of c.in-SuperCall.is ∙ super_call_is _ _ _ _)

pub returns-in-SuperCallWithAll : goal.returns-in-SuperCallWithAll
returns-in-SuperCallWithAll g c = as_its_form _ _ _ _ c.evaluate_super_call_with_all.ensures (ap code_of c.in-SuperCallWithAll.is ∙ super_call_with_all_is _)

pub returns-in-Sequence : goal.returns-in-Sequence
returns-in-Sequence g c = as_its_form _ _ _ _ c.evaluate_sequence.ensures (ap code_of c.in-Sequence.is ∙ sequence_is _)

pub returns-in-Template : goal.returns-in-Template
returns-in-Template g c = as_its_form _ _ _ _ c.evaluate_template.ensures (ap code_of c.in-Template.is ∙ template_is _ _ _)

pub returns-in-Operation : goal.returns-in-Operation
returns-in-Operation g c = as_its_form _ _ _ _ c.evaluate_operation.ensures (ap code_of c.in-Operation.is ∙ operation_is _ _ _ _)

pub returns-in-Chain : goal.returns-in-Chain
returns-in-Chain g c = as_its_form _ _ _ _ c.evaluate_chain.ensures (ap code_of c.in-Chain.is ∙ chain_is _ _)

pub returns-in-Short : goal.returns-in-Short
returns-in-Short g c = as_its_form _ _ _ _ c.evaluate_short.ensures (ap code_of c.in-Short.is ∙ short_is _)

pub returns-in-Tested : goal.returns-in-Tested
returns-in-Tested g c = as_its_form _ _ _ _ c.evaluate_tested.ensures (ap code_of c.in-Tested.is ∙ tested_is _ _ _)

pub returns-in-Steps : goal.returns-in-Steps
returns-in-Steps g c = as_its_form _ _ _ _ c.evaluate_steps.ensures (ap code_of c.in-Steps.is ∙ steps_is _)

pub returns-in-GivesTo : goal.returns-in-GivesTo
returns-in-GivesTo g c = as_its_form _ _ _ _ c.evaluate_gives_to.ensures (ap code_of c.in-GivesTo.is ∙ gives_to_is _ _ ∙ ap (λ x. of.gives_to c.in-GivesTo.node (target_of x)) (sym c.get-in-GivesTo.ensures))

pub returns-in-ExportDefault : goal.returns-in-ExportDefault
returns-in-ExportDefault g c = as_its_form _ _ _ _ c.evaluate_export_default.ensures (ap code_of c.in-ExportDefault.is ∙ export_default_is _)

pub returns-in-Class : goal.returns-in-Class
returns-in-Class g c = as_its_form _ _ _ _ c.evaluate_class.ensures (ap code_of c.in-Class.is ∙ class_code_is _ _ _ _)

pub returns-in-KeyOf : goal.returns-in-KeyOf
returns-in-KeyOf g c = as_its_form _ _ _ _ c.evaluate_key_of.ensures (ap code_of c.in-KeyOf.is ∙ key_of_is _)

pub returns-in-Define : goal.returns-in-Define
returns-in-Define g c = as_its_form _ _ _ _ c.evaluate_define.ensures (ap code_of c.in-Define.is ∙ define_is _ _ _ _)

pub returns-in-PrivateInitialize : goal.returns-in-PrivateInitialize
returns-in-PrivateInitialize g c = as_its_form _ _ _ _ c.evaluate_private_initialize.ensures (ap code_of c.in-PrivateInitialize.is ∙ private_initialize_is _ _ _ _)

pub returns-in-AddBrand : goal.returns-in-AddBrand
returns-in-AddBrand g c = as_its_form _ _ _ _ c.evaluate_add_brand.ensures (ap code_of c.in-AddBrand.is ∙ add_brand_is _ _ _)

pub returns-in-CallArrow : goal.returns-in-CallArrow
returns-in-CallArrow g c = as_its_form _ _ _ _ c.evaluate_call_arrow.ensures (ap code_of c.in-CallArrow.is ∙ call_arrow_is _ _ _)

pub returns-in-CallClosure : goal.returns-in-CallClosure
returns-in-CallClosure g c = as_its_form _ _ _ _ c.evaluate_call_closure.ensures (ap code_of c.in-CallClosure.is ∙ call_closure_is _ _)

pub returns-in-Initializers : goal.returns-in-Initializers
returns-in-Initializers g c = as_its_form _ _ _ _ c.evaluate_initializers.ensures (ap code_of c.in-Initializers.is ∙ initializers_is _)

pub returns-in-GiveClass : goal.returns-in-GiveClass
returns-in-GiveClass g c = as_its_form _ _ _ _ c.evaluate_give_class.ensures (ap code_of c.in-GiveClass.is ∙ give_class_is _ _)
