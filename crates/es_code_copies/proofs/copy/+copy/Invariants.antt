use Rattle.std.proofs.Common.{◌≡◌, ◌+◌, ◌*◌, drop}
use Rattle.es_codes.specs.CodeView.{callee_of, code_of, codes_of, target_of}
use Rattle.es_steps.specs.Code.{joined}
use Rattle.es_opening.specs.Size.{callee_size, size, sizes, target_size}
use Rattle.es_code_copies.proofs.copy.+copy.Given as goal

abbrev pub decreases-copy_code : goal.decreases-copy_code
decreases-copy_code l = 4 * size (code_of l.code.now)

abbrev pub decreases-copy_member : goal.decreases-copy_member
decreases-copy_member l = 4 * (size (code_of l.object.now) + size (code_of l.key.now)) + 3

abbrev pub decreases-copy_super_member : goal.decreases-copy_super_member
decreases-copy_super_member l = 4 * (size (code_of l.key.now)) + 3

abbrev pub decreases-copy_assign : goal.decreases-copy_assign
decreases-copy_assign l = 4 * (target_size (target_of l.to.now) + size (code_of l.right.now)) + 3

abbrev pub decreases-copy_compound : goal.decreases-copy_compound
decreases-copy_compound l = 4 * (target_size (target_of l.to.now) + size (code_of l.right.now)) + 3

abbrev pub decreases-copy_logical : goal.decreases-copy_logical
decreases-copy_logical l = 4 * (size (code_of l.left.now) + size (code_of l.right.now)) + 3

abbrev pub decreases-copy_logical_assign : goal.decreases-copy_logical_assign
decreases-copy_logical_assign l = 4 * (target_size (target_of l.to.now) + size (code_of l.right.now)) + 3

abbrev pub decreases-copy_update : goal.decreases-copy_update
decreases-copy_update l = 4 * (target_size (target_of l.to.now)) + 3

abbrev pub decreases-copy_call : goal.decreases-copy_call
decreases-copy_call l = 4 * (callee_size (callee_of l.callee.now) + sizes (codes_of l.arguments.now)) + 3

abbrev pub decreases-copy_tag : goal.decreases-copy_tag
decreases-copy_tag l = 4 * (callee_size (callee_of l.callee.now) + sizes (codes_of l.arguments.now)) + 3

abbrev pub decreases-copy_construct : goal.decreases-copy_construct
decreases-copy_construct l = 4 * (size (code_of l.callee.now) + sizes (codes_of l.arguments.now)) + 3

abbrev pub decreases-copy_super_call : goal.decreases-copy_super_call
decreases-copy_super_call l = 4 * (sizes (codes_of l.arguments.now)) + 3

abbrev pub decreases-copy_template : goal.decreases-copy_template
decreases-copy_template l = 4 * (sizes (codes_of l.expressions.now)) + 3

abbrev pub decreases-copy_operation : goal.decreases-copy_operation
decreases-copy_operation l = 4 * (sizes (codes_of l.operands.now) + sizes (codes_of l.held.now)) + 3

abbrev pub decreases-copy_piece : goal.decreases-copy_piece
decreases-copy_piece l = 4 * (sizes (codes_of l.operands.now)) + 3

abbrev pub decreases-copy_tested : goal.decreases-copy_tested
decreases-copy_tested l = 4 * (size (code_of l.object.now) + (sizes (codes_of l.again.now) + size (code_of l.rest.now))) + 3

abbrev pub decreases-copy_takes : goal.decreases-copy_takes
decreases-copy_takes l = 4 * (sizes (codes_of l.key.now) + target_size (target_of l.to.now)) + 3

abbrev pub decreases-copy_function : goal.decreases-copy_function
decreases-copy_function l = 4 * (sizes (codes_of l.parameters.now) + size (code_of l.body.now)) + 3

abbrev pub decreases-copy_new_function : goal.decreases-copy_new_function
decreases-copy_new_function l = 4 * (sizes (codes_of l.parameters.now) + size (code_of l.body.now)) + 3

abbrev pub decreases-copy_class : goal.decreases-copy_class
decreases-copy_class l = 4 * (sizes (codes_of l.heritage.now) + sizes (codes_of l.elements.now)) + 3

abbrev pub decreases-copy_field : goal.decreases-copy_field
decreases-copy_field l = 4 * (size (code_of l.key.now) + size (code_of l.right.now)) + 3

abbrev pub decreases-copy_method : goal.decreases-copy_method
decreases-copy_method l = 4 * (size (code_of l.key.now) + size (code_of l.function.now)) + 3

abbrev pub decreases-copy_generated_element : goal.decreases-copy_generated_element
decreases-copy_generated_element l = 4 * (size (code_of l.right.now)) + 3

abbrev pub decreases-copy_define : goal.decreases-copy_define
decreases-copy_define l = 4 * (size (code_of l.key.now) + size (code_of l.right.now)) + 3

abbrev pub decreases-copy_private_initialize : goal.decreases-copy_private_initialize
decreases-copy_private_initialize l = 4 * (size (code_of l.right.now)) + 3

abbrev pub decreases-copy_bound : goal.decreases-copy_bound
decreases-copy_bound l = 4 * (size (code_of l.function.now) + size (code_of l.object.now)) + 3

abbrev pub decreases-copy_call_arrow : goal.decreases-copy_call_arrow
decreases-copy_call_arrow l = 4 * (size (code_of l.body.now) + sizes (codes_of l.arguments.now)) + 3

abbrev pub decreases-copy_call_closure : goal.decreases-copy_call_closure
decreases-copy_call_closure l = 4 * (sizes (codes_of l.arguments.now)) + 3

abbrev pub decreases-copy_give_function : goal.decreases-copy_give_function
decreases-copy_give_function l = 4 * (size (code_of l.function.now)) + 3

abbrev pub decreases-copy_target : goal.decreases-copy_target
decreases-copy_target l = 4 * target_size (target_of l.to.now)

abbrev pub decreases-copy_callee : goal.decreases-copy_callee
decreases-copy_callee l = 4 * callee_size (callee_of l.callee.now)

abbrev pub decreases-copy_boxed : goal.decreases-copy_boxed
decreases-copy_boxed l = 4 * size (code_of l.code.now) + 1

abbrev pub decreases-copy_boxed_target : goal.decreases-copy_boxed_target
decreases-copy_boxed_target l = 4 * target_size (target_of l.to.now) + 1

abbrev pub decreases-copy_boxed_callee : goal.decreases-copy_boxed_callee
decreases-copy_boxed_callee l = 4 * callee_size (callee_of l.callee.now) + 1

abbrev pub decreases-copy_codes : goal.decreases-copy_codes
decreases-copy_codes l = 4 * sizes (codes_of l.codes.now)

abbrev pub invariant-copy_codes-loop-code : goal.invariant-copy_codes-loop-code
invariant-copy_codes-loop-code l = joined (codes_of l.copies) (codes_of (drop l.code-index l.codes)) ≡ codes_of l.codes
