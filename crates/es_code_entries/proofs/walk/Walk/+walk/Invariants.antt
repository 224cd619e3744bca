use Rattle.std.proofs.Common.{◌≡◌, ◌+◌, ◌*◌, drop, length}
use Rattle.es_codes.specs.CodeView.{callee_of, code_of, codes_of, target_of}
use Rattle.es_evaluation.specs.Direct.{kept}
use Rattle.es_opening.specs.Size.{callee_size, size, sizes, target_size}
use Rattle.es_code_entries.proofs.Reached.{IsLeft}
use Rattle.es_code_entries.proofs.Sizes.{part_size}
use Rattle.es_code_entries.proofs.walk.Walk.+walk.Given as goal
use Rattle.es_code_entries.specs.Found.{seen}
use Rattle.es_code_entries.specs.Walked.{each_entries, function_entries, held_entries, parameter_entries}

abbrev pub decreases-add_entries : goal.decreases-add_entries
decreases-add_entries l = 8 * size (code_of l.code.now)

abbrev pub decreases-add_part : goal.decreases-add_part
decreases-add_part l = 8 * part_size l.part + 2

abbrev pub decreases-add_code : goal.decreases-add_code
decreases-add_code l = 8 * size (code_of l.code.now) + 1

abbrev pub decreases-add_codes : goal.decreases-add_codes
decreases-add_codes l = 8 * sizes (codes_of l.codes.now) + 1

abbrev pub decreases-add_and_pass : goal.decreases-add_and_pass
decreases-add_and_pass l = 8 * part_size l.part + 3

abbrev pub decreases-add_then : goal.decreases-add_then
decreases-add_then l = 8 * (part_size l.first + part_size l.second) + 4

abbrev pub decreases-add_two : goal.decreases-add_two
decreases-add_two l = 8 * (size (code_of l.first.now) + size (code_of l.second.now)) + 5

abbrev pub decreases-add_each : goal.decreases-add_each
decreases-add_each l = 8 * sizes (codes_of l.codes.now)

abbrev pub decreases-add_assigned : goal.decreases-add_assigned
decreases-add_assigned l = 8 * (target_size (target_of l.to.now) + size (code_of l.right.now)) + 4

abbrev pub decreases-add_operation : goal.decreases-add_operation
decreases-add_operation l = 8 * (sizes (codes_of l.operands.now) + sizes (codes_of l.held.now)) + 4

abbrev pub decreases-add_held : goal.decreases-add_held
decreases-add_held l = 8 * sizes (codes_of l.all.now)

abbrev pub decreases-add_tested : goal.decreases-add_tested
decreases-add_tested l = 8 * (size (code_of l.object.now) + (sizes (codes_of l.again.now) + part_size l.rest)) + 4

abbrev pub decreases-add_target : goal.decreases-add_target
decreases-add_target l = 8 * target_size (target_of l.to.now)

abbrev pub decreases-add_pattern : goal.decreases-add_pattern
decreases-add_pattern l = 8 * target_size (target_of l.to.now)

abbrev pub decreases-add_given : goal.decreases-add_given
decreases-add_given l = 8 * target_size (target_of l.to.now) + 4

abbrev pub decreases-add_default : goal.decreases-add_default
decreases-add_default l = 8 * (target_size (target_of l.to.now) + size (code_of l.default.now)) + 4

abbrev pub decreases-add_take : goal.decreases-add_take
decreases-add_take l = 8 * size (code_of l.member.now)

abbrev pub decreases-add_takes : goal.decreases-add_takes
decreases-add_takes l = 8 * (sizes (codes_of l.key.now) + target_size (target_of l.to.now)) + 4

abbrev pub decreases-add_callee : goal.decreases-add_callee
decreases-add_callee l = 8 * callee_size (callee_of l.callee.now)

abbrev pub decreases-add_function : goal.decreases-add_function
decreases-add_function l = 8 * (sizes (codes_of l.parameters.now) + size (code_of l.body.now)) + 6

abbrev pub decreases-add_called : goal.decreases-add_called
decreases-add_called l = 8 * (sizes (codes_of l.parameters.now) + size (code_of l.body.now)) + 5

abbrev pub decreases-add_parameters : goal.decreases-add_parameters
decreases-add_parameters l = 8 * sizes (codes_of l.parameters.now)

abbrev pub decreases-add_parameter : goal.decreases-add_parameter
decreases-add_parameter l = 8 * size (code_of l.parameter.now)

abbrev pub decreases-add_given_function : goal.decreases-add_given_function
decreases-add_given_function l = 8 * size (code_of l.function.now) + 1

abbrev pub decreases-add_new_body : goal.decreases-add_new_body
decreases-add_new_body l = 8 * size (code_of l.body.now) + 1

abbrev pub decreases-add_class : goal.decreases-add_class
decreases-add_class l = 8 * (sizes (codes_of l.heritage.now) + sizes (codes_of l.elements.now)) + 7

abbrev pub decreases-add_running : goal.decreases-add_running
decreases-add_running l = 8 * (sizes (codes_of l.heritage.now) + sizes (codes_of l.elements.now)) + 6

abbrev pub decreases-add_constructed : goal.decreases-add_constructed
decreases-add_constructed l = 8 * (sizes (codes_of l.heritage.now) + sizes (codes_of l.elements.now)) + 6

abbrev pub decreases-add_key : goal.decreases-add_key
decreases-add_key l = 8 * size (code_of l.element.now)

abbrev pub decreases-add_static : goal.decreases-add_static
decreases-add_static l = 8 * size (code_of l.element.now)

abbrev pub decreases-add_field : goal.decreases-add_field
decreases-add_field l = 8 * size (code_of l.element.now)

abbrev pub decreases-add_if : goal.decreases-add_if
decreases-add_if l = 8 * size (code_of l.code.now) + 1

abbrev pub decreases-add_functions : goal.decreases-add_functions
decreases-add_functions l = 8 * sizes (codes_of l.elements.now)

abbrev pub decreases-add_element_function : goal.decreases-add_element_function
decreases-add_element_function l = 8 * size (code_of l.element.now)

abbrev pub decreases-add_constructor : goal.decreases-add_constructor
decreases-add_constructor l = 8 * size (code_of l.function.now) + 1

abbrev pub invariant-add_each-loop-code : goal.invariant-add_each-loop-code
invariant-add_each-loop-code l =
    IsLeft (seen l.found.items) (each_entries l.self.terms l.here l.role (codes_of (drop l.code-index l.codes))) (seen l.fn.found.items) (each_entries l.self.terms l.fn.here l.role (codes_of l.codes))
    × (kept (length l.fn.here) l.here ≡ l.fn.here)

abbrev pub invariant-add_held-loop-code : goal.invariant-add_held-loop-code
invariant-add_held-loop-code l =
    IsLeft (seen l.found.items) (held_entries l.self.terms l.here (codes_of (drop l.code-index l.all))) (seen l.fn.found.items) (held_entries l.self.terms l.fn.here (codes_of l.all))
    × (l.here ≡ l.fn.here)

abbrev pub invariant-add_parameters-loop-parameter : goal.invariant-add_parameters-loop-parameter
invariant-add_parameters-loop-parameter l =
    IsLeft (seen l.found.items) (parameter_entries l.self.terms l.here (codes_of (drop l.parameter-index l.parameters))) (seen l.fn.found.items) (parameter_entries l.self.terms l.fn.here (codes_of l.parameters))
    × (l.here ≡ l.fn.here)

abbrev pub invariant-add_functions-loop-element : goal.invariant-add_functions-loop-element
invariant-add_functions-loop-element l =
    IsLeft (seen l.found.items) (function_entries l.self.terms l.here l.inside (codes_of (drop l.element-index l.elements))) (seen l.fn.found.items) (function_entries l.self.terms l.fn.here l.fn.inside (codes_of l.elements))
    × ((l.here ≡ l.fn.here) × (l.inside ≡ l.fn.inside))
