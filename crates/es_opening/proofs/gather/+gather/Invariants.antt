use Rattle.std.proofs.Common.{◌≡◌, ◌+◌, ◌*◌, ◌++◌, drop}
use Rattle.es_codes.specs.CodeView.{callee_of, code_of, codes_of, target_of}
use Rattle.es_opening.specs.Gathered.{all_gathered, codes_seen}
use Rattle.es_opening.specs.Size.{callee_size, size, sizes, target_size}
use Rattle.es_opening.proofs.gather.+gather.Given as goal

abbrev pub decreases-gather : goal.decreases-gather
decreases-gather l = 4 * size (code_of l.code.now)

abbrev pub decreases-gather_assigned : goal.decreases-gather_assigned
decreases-gather_assigned l = 4 * (target_size (target_of l.to.now) + size (code_of l.right.now)) + 1

abbrev pub decreases-gather_updated : goal.decreases-gather_updated
decreases-gather_updated l = 4 * target_size (target_of l.to.now) + 1

abbrev pub decreases-gather_class : goal.decreases-gather_class
decreases-gather_class l = 4 * (sizes (codes_of l.heritage.now) + sizes (codes_of l.elements.now)) + 2

abbrev pub decreases-gather_owner : goal.decreases-gather_owner
decreases-gather_owner l = 4 * size (code_of l.inner.now) + 1

abbrev pub decreases-gather_arrow : goal.decreases-gather_arrow
decreases-gather_arrow l = 4 * (size (code_of l.body.now) + sizes (codes_of l.arguments.now)) + 2

abbrev pub decreases-gather_two : goal.decreases-gather_two
decreases-gather_two l = 4 * (size (code_of l.first.now) + size (code_of l.second.now)) + 1

abbrev pub decreases-gather_call : goal.decreases-gather_call
decreases-gather_call l = 4 * (callee_size (callee_of l.callee.now) + sizes (codes_of l.arguments.now)) + 1

abbrev pub decreases-gather_construct : goal.decreases-gather_construct
decreases-gather_construct l = 4 * (size (code_of l.callee.now) + sizes (codes_of l.arguments.now)) + 1

abbrev pub decreases-gather_lists : goal.decreases-gather_lists
decreases-gather_lists l = 4 * (sizes (codes_of l.first.now) + sizes (codes_of l.second.now)) + 1

abbrev pub decreases-gather_tested : goal.decreases-gather_tested
decreases-gather_tested l = 4 * (size (code_of l.object.now) + (sizes (codes_of l.again.now) + size (code_of l.rest.now))) + 2

abbrev pub decreases-gather_takes : goal.decreases-gather_takes
decreases-gather_takes l = 4 * (sizes (codes_of l.key.now) + target_size (target_of l.to.now)) + 1

abbrev pub decreases-gather_function : goal.decreases-gather_function
decreases-gather_function l = 4 * (sizes (codes_of l.parameters.now) + size (code_of l.body.now)) + 1

abbrev pub decreases-gather_target : goal.decreases-gather_target
decreases-gather_target l = 4 * target_size (target_of l.to.now)

abbrev pub decreases-gather_default : goal.decreases-gather_default
decreases-gather_default l = 4 * (target_size (target_of l.to.now) + size (code_of l.default.now)) + 1

abbrev pub decreases-gather_callee : goal.decreases-gather_callee
decreases-gather_callee l = 4 * callee_size (callee_of l.callee.now)

abbrev pub decreases-gather_behind_test : goal.decreases-gather_behind_test
decreases-gather_behind_test l = 4 * (size (code_of l.object.now) + (sizes (codes_of l.again.now) + callee_size (callee_of l.callee.now))) + 1

abbrev pub decreases-gather_all : goal.decreases-gather_all
decreases-gather_all l = 4 * sizes (codes_of l.all.now)

abbrev pub invariant-gather_all-loop-code : goal.invariant-gather_all-loop-code
invariant-gather_all-loop-code l = codes_seen l.codes.items ++ all_gathered (codes_of (drop l.code-index l.all)) ≡ codes_seen l.fn.codes.items ++ all_gathered (codes_of l.all)
