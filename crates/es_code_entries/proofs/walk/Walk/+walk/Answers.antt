use Rattle.std.proofs.Common.{◌≡◌, ◌∙◌, refl, sym, ap, ap₂, arith, get_or, subst, length, ◌++◌, ℕ, List}
use Rattle.std.specs.Prelude.{OnOk}
use Rattle.es_code_environments.proofs.Back.{back_here, back_twice}
use Rattle.es_code_environments.specs.Classes.{behind_fields, behind_keys, start_of}
use Rattle.es_code_environments.specs.Parts.{code_run}
use Rattle.es_code_environments.specs.Standing.{opens_in}
use Rattle.es_code_environments.specs.declared.here.Here.{Here}
use Rattle.es_codes.specs.CodeView.{callee_of, code_of, codes_of, form_of, target_of}
use Rattle.es_codes.proofs.Forms.{add_brand_is, assign_is, behind_test_is, binding_is, bound_is, call_arrow_is, call_closure_is, call_is, chain_is, checked_is, compound_is, construct_is, constructor_is, define_is, export_default_is, field_is, from_call_is, from_member_is, function_is, generated_element_is, give_class_is, gives_to_is, helper_call_is, helper_is, initializers_is, key_of_is, logical_assign_is, logical_is, member_is, method_is, name_is, new_function_is, new_return_is, no_rule_is, no_target_is, nothing_is, on_chain_is, on_member_is, on_private_is, on_super_is, operation_is, pattern_is, piece_is, plain_is, private_field_is, private_in_is, private_initialize_is, private_member_is, private_method_is, private_name_is, private_value_is, rest_is, sequence_is, setter_is, short_is, spelled_is, static_block_is, steps_is, super_call_is, super_call_with_all_is, super_is, super_member_is, tag_is, takes_is, template_is, template_string_is, tested_is, throw_is, to_default_is, to_member_is, to_name_is, to_pattern_is, to_private_is, to_setter_is, to_super_is, update_is, value_is, with_receiver_is}
use Rattle.es_evaluation.specs.Direct.{kept}
use Rattle.es_opening.proofs.Sizes.{item_below}
use Rattle.es_opening.specs.Size.{size}
use Rattle.es_codes.specs.declared.code.Callee as callees
use Rattle.es_codes.specs.declared.code.Code as code
use Rattle.es_steps.specs.Code as of
use Rattle.es_steps.specs.Code.{Code, Codes}
use Rattle.es_steps.specs.Entries.{Entries, after_run}
use Rattle.es_steps.specs.Evaluation.{Environment}
use Rattle.es_code_entries.proofs.EachForms.{each_goes, functions_go, held_go, none_in_each, parameters_go}
use Rattle.es_code_entries.proofs.Others.{no_element_function, no_field, no_key, no_static, no_take}
use Rattle.es_code_entries.proofs.Reached.{all_left, any_ok, first_refused, first_two_refused, from_error, nothing_reached, goes_behind, goes_on_behind, less_left, moved, none_left, one_refused, passed, refused_anyway, unmoved}
use Rattle.es_code_entries.proofs.EntryForms.{class_is, constructor_function, given_function_is}
use Rattle.es_code_entries.proofs.walk.Walk.+walk.Goals as goal
use Rattle.es_code_entries.specs.Own.{function_own, function_start}
use Rattle.es_code_entries.specs.Walked.{all_entries, behind, behind_all, behind_code, behind_target, called_entries, callee_entries, class_entries, code_entries, constructed_entries, constructor_entries, each_entries, element_function, entries, function_entries, held_entries, key_entries, parameter_entries, parameter_entry, part_entries, pattern_entries, running_entries, static_entries, target_entries}

pub add_and_pass-returns-clause-leads : goal.add_and_pass-returns-clause-leads
add_and_pass-returns-clause-leads t c = subst (λ (z : Environment). OnOk c.pass.result (c.pass.new.self ≡ behind c.args.self.now.terms z c.args.part)) c.in_ok-add_part.ensures.here c.pass.ensures.leads

pub add_and_pass-returns-clause-over : goal.add_and_pass-returns-clause-over
add_and_pass-returns-clause-over t c = subst (λ (z : Environment). OnOk c.pass.result (kept (length z) c.pass.new.self ≡ z)) c.in_ok-add_part.ensures.here c.pass.ensures.over

pub add_and_pass-returns-clause-found : goal.add_and_pass-returns-clause-found
add_and_pass-returns-clause-found t c = passed _ _ _ _ _ c.in_ok-add_part.ensures.found c.pass.ensures.err

pub add_then-returns-in_err-add_and_pass-clause-found : goal.add_then-returns-in_err-add_and_pass-clause-found
add_then-returns-in_err-add_and_pass-clause-found t c = from_error c.from_residual.result _ _ _ _ (first_refused _ _ _ _ _ (part_entries c.args.self.now.terms (behind c.args.self.now.terms c.args.here.now c.args.first) c.args.second) c.in_err-add_and_pass.ensures.found) c.from_residual.ensures

pub add_then-returns-in_err-add_part-clause-found : goal.add_then-returns-in_err-add_part-clause-found
add_then-returns-in_err-add_part-clause-found t c = from_error c.from_residual-in_err-add_part.result _ _ _ _ (goes_on_behind _ _ _ _ _ _ (λ (z : Environment). part_entries c.args.self.now.terms z c.args.second) _ _ c.in_ok-add_and_pass.ensures.leads c.in_ok-add_and_pass.ensures.found c.in_err-add_part.ensures.found) c.from_residual-in_err-add_part.ensures

pub add_then-returns-clause-found : goal.add_then-returns-clause-found
add_then-returns-clause-found t c = any_ok _ _ _ _ _ (goes_on_behind _ _ _ _ _ _ (λ (z : Environment). part_entries c.args.self.now.terms z c.args.second) _ _ c.in_ok-add_and_pass.ensures.leads c.in_ok-add_and_pass.ensures.found c.in_ok-add_part.ensures.found)

pub add_each-add_and_pass-requires : goal.add_each-add_and_pass-requires
add_each-add_and_pass-requires t c =
    let one = c.code-item.result in
    let same : size (code_of one) ≡ size (code_of (get_or c.args.codes.now c.loop-code.code-index one)) = ap (λ e. size (code_of e)) c.code-item.is in
    let below = item_below c.args.codes.now c.loop-code.code-index one c.loop-code-test.true in
    (omega (arith, below, same, c.decreases), tt)

pub add_each-loop-code-init : goal.add_each-loop-code-init
add_each-loop-code-init t c = (all_left _ _, back_here _)

pub add_each-loop-code-preserved : goal.add_each-loop-code-preserved
add_each-loop-code-preserved t c = (less_left _ (λ (z : Environment) (cs : Codes). each_entries c.args.self.now.terms z c.args.role cs) (λ (z : Environment) (x : Code). code_entries c.args.self.now.terms z c.args.role x) (λ (z : Environment) (x : Code). after_run z (code_run (opens_in c.args.self.now.terms) c.args.role x z)) (each_goes c.args.self.now.terms c.args.role) c.args.codes.now c.loop-code.code-index c.code-item.result _ _ _ _ _ _ c.loop-code-test.true c.code-item.is c.in_ok-add_and_pass.ensures.found c.in_ok-add_and_pass.ensures.leads c.loop-code.invariant.0, back_twice _ _ _ c.loop-code.invariant.1 c.in_ok-add_and_pass.ensures.over)

pub add_each-returns-in_err-add_and_pass-clause-found : goal.add_each-returns-in_err-add_and_pass-clause-found
add_each-returns-in_err-add_and_pass-clause-found t c = from_error c.from_residual.result _ _ _ _ (one_refused _ (λ (z : Environment) (cs : Codes). each_entries c.args.self.now.terms z c.args.role cs) (λ (z : Environment) (x : Code). code_entries c.args.self.now.terms z c.args.role x) (λ (z : Environment) (x : Code). after_run z (code_run (opens_in c.args.self.now.terms) c.args.role x z)) (each_goes c.args.self.now.terms c.args.role) c.args.codes.now c.loop-code.code-index c.code-item.result _ _ _ _ _ _ c.loop-code-test.true c.code-item.is c.in_err-add_and_pass.ensures.found c.loop-code.invariant.0) c.from_residual.ensures

pub add_each-returns-clause-found : goal.add_each-returns-clause-found
add_each-returns-clause-found t c = none_left _ (λ (z : Environment) (cs : Codes). each_entries c.args.self.now.terms z c.args.role cs) c.args.codes.now c.loop-code.code-index _ _ _ _ c.loop-code-test.false (none_in_each c.args.self.now.terms c.args.role _) c.loop-code.invariant.0

pub add_assigned-returns-in_err-add_and_pass-clause-found : goal.add_assigned-returns-in_err-add_and_pass-clause-found
add_assigned-returns-in_err-add_and_pass-clause-found t c = from_error c.from_residual.result _ _ _ _ (first_two_refused _ _ _ _ _ (entries c.args.self.now.terms (behind_target c.args.self.now.terms c.args.here.now (target_of c.args.to.now)) (code_of c.args.right.now)) (pattern_entries c.args.self.now.terms (behind_code c.args.self.now.terms (behind_target c.args.self.now.terms c.args.here.now (target_of c.args.to.now)) (code_of c.args.right.now)) (target_of c.args.to.now)) c.in_err-add_and_pass.ensures.found) c.from_residual.ensures

pub add_assigned-returns-in_err-add_and_pass-2-clause-found : goal.add_assigned-returns-in_err-add_and_pass-2-clause-found
add_assigned-returns-in_err-add_and_pass-2-clause-found t c = from_error c.from_residual-in_err-add_and_pass-2.result _ _ _ _ (first_refused _ _ _ _ _ (pattern_entries c.args.self.now.terms (behind_code c.args.self.now.terms (behind_target c.args.self.now.terms c.args.here.now (target_of c.args.to.now)) (code_of c.args.right.now)) (target_of c.args.to.now)) (goes_on_behind _ _ _ _ _ _ (λ (z : Environment). entries c.args.self.now.terms z (code_of c.args.right.now)) _ _ c.in_ok-add_and_pass.ensures.leads c.in_ok-add_and_pass.ensures.found c.in_err-add_and_pass-2.ensures.found)) c.from_residual-in_err-add_and_pass-2.ensures

pub add_assigned-returns-in_err-add_pattern-clause-found : goal.add_assigned-returns-in_err-add_pattern-clause-found
add_assigned-returns-in_err-add_pattern-clause-found t c = from_error c.from_residual-in_err-add_pattern.result _ _ _ _ (goes_on_behind _ _ _ _ _ _ (λ (z : Environment). pattern_entries c.args.self.now.terms z (target_of c.args.to.now)) _ _ (c.in_ok-add_and_pass-2.ensures.leads ∙ ap (λ (z : Environment). behind_code c.args.self.now.terms z (code_of c.args.right.now)) c.in_ok-add_and_pass.ensures.leads) (goes_on_behind _ _ _ _ _ _ (λ (z : Environment). entries c.args.self.now.terms z (code_of c.args.right.now)) _ _ c.in_ok-add_and_pass.ensures.leads c.in_ok-add_and_pass.ensures.found c.in_ok-add_and_pass-2.ensures.found) c.in_err-add_pattern.ensures.found) c.from_residual-in_err-add_pattern.ensures

pub add_assigned-returns-clause-found : goal.add_assigned-returns-clause-found
add_assigned-returns-clause-found t c = any_ok _ _ _ _ _ (goes_on_behind _ _ _ _ _ _ (λ (z : Environment). pattern_entries c.args.self.now.terms z (target_of c.args.to.now)) _ _ (c.in_ok-add_and_pass-2.ensures.leads ∙ ap (λ (z : Environment). behind_code c.args.self.now.terms z (code_of c.args.right.now)) c.in_ok-add_and_pass.ensures.leads) (goes_on_behind _ _ _ _ _ _ (λ (z : Environment). entries c.args.self.now.terms z (code_of c.args.right.now)) _ _ c.in_ok-add_and_pass.ensures.leads c.in_ok-add_and_pass.ensures.found c.in_ok-add_and_pass-2.ensures.found) c.in_ok-add_pattern.ensures.found)

pub add_assigned-returns-clause-here : goal.add_assigned-returns-clause-here
add_assigned-returns-clause-here t c = c.back.ensures ∙ ap₂ (λ (k : ℕ) (z : Environment). kept k z) c.len-front.ensures (c.in_ok-add_pattern.ensures.here) ∙ back_twice _ _ _ c.in_ok-add_and_pass.ensures.over c.in_ok-add_and_pass-2.ensures.over

pub add_operation-returns-in_err-add_and_pass-clause-found : goal.add_operation-returns-in_err-add_and_pass-clause-found
add_operation-returns-in_err-add_and_pass-clause-found t c = from_error c.from_residual.result _ _ _ _ (first_refused _ _ _ _ _ (held_entries c.args.self.now.terms (behind_all c.args.self.now.terms c.args.here.now (codes_of c.args.operands.now)) (codes_of c.args.held.now)) c.in_err-add_and_pass.ensures.found) c.from_residual.ensures

pub add_operation-returns-in_err-add_held-clause-found : goal.add_operation-returns-in_err-add_held-clause-found
add_operation-returns-in_err-add_held-clause-found t c = from_error c.from_residual-in_err-add_held.result _ _ _ _ (goes_on_behind _ _ _ _ _ _ (λ (z : Environment). held_entries c.args.self.now.terms z (codes_of c.args.held.now)) _ _ c.in_ok-add_and_pass.ensures.leads c.in_ok-add_and_pass.ensures.found c.in_err-add_held.ensures.found) c.from_residual-in_err-add_held.ensures

pub add_operation-returns-clause-found : goal.add_operation-returns-clause-found
add_operation-returns-clause-found t c = any_ok _ _ _ _ _ (goes_on_behind _ _ _ _ _ _ (λ (z : Environment). held_entries c.args.self.now.terms z (codes_of c.args.held.now)) _ _ c.in_ok-add_and_pass.ensures.leads c.in_ok-add_and_pass.ensures.found c.in_ok-add_held.ensures.found)

pub add_held-add_entries-requires : goal.add_held-add_entries-requires
add_held-add_entries-requires t c =
    let one = c.code-item.result in
    let same : size (code_of one) ≡ size (code_of (get_or c.args.all.now c.loop-code.code-index one)) = ap (λ e. size (code_of e)) c.code-item.is in
    let below = item_below c.args.all.now c.loop-code.code-index one c.loop-code-test.true in
    (omega (arith, below, same, c.decreases), tt)

pub add_held-loop-code-init : goal.add_held-loop-code-init
add_held-loop-code-init t c = (all_left _ _, refl)

pub add_held-loop-code-preserved : goal.add_held-loop-code-preserved
add_held-loop-code-preserved t c = (less_left _ (λ (z : Environment) (cs : Codes). held_entries c.args.self.now.terms z cs) (λ (z : Environment) (x : Code). entries c.args.self.now.terms z x) (λ (z : Environment) (x : Code). z) (held_go c.args.self.now.terms) c.args.all.now c.loop-code.code-index c.code-item.result _ _ _ _ _ _ c.loop-code-test.true c.code-item.is c.in_ok-add_entries.ensures.found c.in_ok-add_entries.ensures.here c.loop-code.invariant.0, c.in_ok-add_entries.ensures.here ∙ c.loop-code.invariant.1)

pub add_held-returns-in_err-add_entries-clause-found : goal.add_held-returns-in_err-add_entries-clause-found
add_held-returns-in_err-add_entries-clause-found t c = from_error c.from_residual.result _ _ _ _ (one_refused _ (λ (z : Environment) (cs : Codes). held_entries c.args.self.now.terms z cs) (λ (z : Environment) (x : Code). entries c.args.self.now.terms z x) (λ (z : Environment) (x : Code). z) (held_go c.args.self.now.terms) c.args.all.now c.loop-code.code-index c.code-item.result _ _ _ _ _ _ c.loop-code-test.true c.code-item.is c.in_err-add_entries.ensures.found c.loop-code.invariant.0) c.from_residual.ensures

pub add_held-returns-clause-found : goal.add_held-returns-clause-found
add_held-returns-clause-found t c = none_left _ (λ (z : Environment) (cs : Codes). held_entries c.args.self.now.terms z cs) c.args.all.now c.loop-code.code-index _ _ _ _ c.loop-code-test.false refl c.loop-code.invariant.0

pub add_tested-returns-in_err-add_and_pass-clause-found : goal.add_tested-returns-in_err-add_and_pass-clause-found
add_tested-returns-in_err-add_and_pass-clause-found t c = from_error c.from_residual.result _ _ _ _ (first_two_refused _ _ _ _ _ (all_entries c.args.self.now.terms (behind_code c.args.self.now.terms c.args.here.now (code_of c.args.object.now)) (codes_of c.args.again.now)) (part_entries c.args.self.now.terms (behind_code c.args.self.now.terms c.args.here.now (code_of c.args.object.now)) c.args.rest) c.in_err-add_and_pass.ensures.found) c.from_residual.ensures

pub add_tested-returns-in_err-add_each-clause-found : goal.add_tested-returns-in_err-add_each-clause-found
add_tested-returns-in_err-add_each-clause-found t c = from_error c.from_residual-in_err-add_each.result _ _ _ _ (first_refused _ _ _ _ _ (part_entries c.args.self.now.terms (behind_code c.args.self.now.terms c.args.here.now (code_of c.args.object.now)) c.args.rest) (goes_on_behind _ _ _ _ _ _ (λ (z : Environment). all_entries c.args.self.now.terms z (codes_of c.args.again.now)) _ _ c.in_ok-add_and_pass.ensures.leads c.in_ok-add_and_pass.ensures.found c.in_err-add_each.ensures.found)) c.from_residual-in_err-add_each.ensures

pub add_tested-returns-in_err-add_part-clause-found : goal.add_tested-returns-in_err-add_part-clause-found
add_tested-returns-in_err-add_part-clause-found t c = from_error c.from_residual-in_err-add_part.result _ _ _ _ (goes_on_behind _ _ _ _ _ _ (λ (z : Environment). part_entries c.args.self.now.terms z c.args.rest) _ _ (c.in_ok-add_each.ensures.here ∙ c.in_ok-add_and_pass.ensures.leads) (goes_on_behind _ _ _ _ _ _ (λ (z : Environment). all_entries c.args.self.now.terms z (codes_of c.args.again.now)) _ _ c.in_ok-add_and_pass.ensures.leads c.in_ok-add_and_pass.ensures.found c.in_ok-add_each.ensures.found) c.in_err-add_part.ensures.found) c.from_residual-in_err-add_part.ensures

pub add_tested-returns-clause-found : goal.add_tested-returns-clause-found
add_tested-returns-clause-found t c = any_ok _ _ _ _ _ (goes_on_behind _ _ _ _ _ _ (λ (z : Environment). part_entries c.args.self.now.terms z c.args.rest) _ _ (c.in_ok-add_each.ensures.here ∙ c.in_ok-add_and_pass.ensures.leads) (goes_on_behind _ _ _ _ _ _ (λ (z : Environment). all_entries c.args.self.now.terms z (codes_of c.args.again.now)) _ _ c.in_ok-add_and_pass.ensures.leads c.in_ok-add_and_pass.ensures.found c.in_ok-add_each.ensures.found) c.in_ok-add_part.ensures.found)

pub add_tested-returns-clause-here : goal.add_tested-returns-clause-here
add_tested-returns-clause-here t c = c.back.ensures ∙ ap₂ (λ (k : ℕ) (z : Environment). kept k z) c.len-front.ensures (c.in_ok-add_part.ensures.here ∙ c.in_ok-add_each.ensures.here) ∙ c.in_ok-add_and_pass.ensures.over

pub add_given-returns-in_err-add_target-clause-found : goal.add_given-returns-in_err-add_target-clause-found
add_given-returns-in_err-add_target-clause-found t c = from_error c.from_residual.result _ _ _ _ (first_refused _ _ _ _ _ (pattern_entries c.args.self.now.terms c.args.here.now (target_of c.args.to.now)) c.in_err-add_target.ensures.found) c.from_residual.ensures

pub add_given-returns-clause-here : goal.add_given-returns-clause-here
add_given-returns-clause-here t c = subst (λ (z : Environment). OnOk c.add_pattern.result (c.add_pattern.new.here ≡ z)) c.in_ok-add_target.ensures.here c.add_pattern.ensures.here

pub add_given-returns-clause-found : goal.add_given-returns-clause-found
add_given-returns-clause-found t c = goes_on_behind _ _ _ _ _ _ (λ (z : Environment). pattern_entries c.args.self.now.terms z (target_of c.args.to.now)) _ _ c.in_ok-add_target.ensures.here c.in_ok-add_target.ensures.found c.add_pattern.ensures.found

pub add_default-returns-in_err-add_entries-clause-found : goal.add_default-returns-in_err-add_entries-clause-found
add_default-returns-in_err-add_entries-clause-found t c = from_error c.from_residual.result _ _ _ _ (first_refused _ _ _ _ _ (pattern_entries c.args.self.now.terms c.args.here.now (target_of c.args.to.now)) c.in_err-add_entries.ensures.found) c.from_residual.ensures

pub add_default-returns-clause-here : goal.add_default-returns-clause-here
add_default-returns-clause-here t c = subst (λ (z : Environment). OnOk c.add_pattern.result (c.add_pattern.new.here ≡ z)) c.in_ok-add_entries.ensures.here c.add_pattern.ensures.here

pub add_default-returns-clause-found : goal.add_default-returns-clause-found
add_default-returns-clause-found t c = goes_on_behind _ _ _ _ _ _ (λ (z : Environment). pattern_entries c.args.self.now.terms z (target_of c.args.to.now)) _ _ c.in_ok-add_entries.ensures.here c.in_ok-add_entries.ensures.found c.add_pattern.ensures.found

pub add_takes-returns-in_err-add_and_pass-clause-found : goal.add_takes-returns-in_err-add_and_pass-clause-found
add_takes-returns-in_err-add_and_pass-clause-found t c = from_error c.from_residual.result _ _ _ _ (first_two_refused _ _ _ _ _ (target_entries c.args.self.now.terms (behind_all c.args.self.now.terms c.args.here.now (codes_of c.args.key.now)) (target_of c.args.to.now)) (pattern_entries c.args.self.now.terms (behind_target c.args.self.now.terms (behind_all c.args.self.now.terms c.args.here.now (codes_of c.args.key.now)) (target_of c.args.to.now)) (target_of c.args.to.now)) c.in_err-add_and_pass.ensures.found) c.from_residual.ensures

pub add_takes-returns-in_err-add_and_pass-2-clause-found : goal.add_takes-returns-in_err-add_and_pass-2-clause-found
add_takes-returns-in_err-add_and_pass-2-clause-found t c = from_error c.from_residual-in_err-add_and_pass-2.result _ _ _ _ (first_refused _ _ _ _ _ (pattern_entries c.args.self.now.terms (behind_target c.args.self.now.terms (behind_all c.args.self.now.terms c.args.here.now (codes_of c.args.key.now)) (target_of c.args.to.now)) (target_of c.args.to.now)) (goes_on_behind _ _ _ _ _ _ (λ (z : Environment). target_entries c.args.self.now.terms z (target_of c.args.to.now)) _ _ c.in_ok-add_and_pass.ensures.leads c.in_ok-add_and_pass.ensures.found c.in_err-add_and_pass-2.ensures.found)) c.from_residual-in_err-add_and_pass-2.ensures

pub add_takes-returns-in_err-add_pattern-clause-found : goal.add_takes-returns-in_err-add_pattern-clause-found
add_takes-returns-in_err-add_pattern-clause-found t c = from_error c.from_residual-in_err-add_pattern.result _ _ _ _ (goes_on_behind _ _ _ _ _ _ (λ (z : Environment). pattern_entries c.args.self.now.terms z (target_of c.args.to.now)) _ _ (c.in_ok-add_and_pass-2.ensures.leads ∙ ap (λ (z : Environment). behind_target c.args.self.now.terms z (target_of c.args.to.now)) c.in_ok-add_and_pass.ensures.leads) (goes_on_behind _ _ _ _ _ _ (λ (z : Environment). target_entries c.args.self.now.terms z (target_of c.args.to.now)) _ _ c.in_ok-add_and_pass.ensures.leads c.in_ok-add_and_pass.ensures.found c.in_ok-add_and_pass-2.ensures.found) c.in_err-add_pattern.ensures.found) c.from_residual-in_err-add_pattern.ensures

pub add_takes-returns-clause-found : goal.add_takes-returns-clause-found
add_takes-returns-clause-found t c = any_ok _ _ _ _ _ (goes_on_behind _ _ _ _ _ _ (λ (z : Environment). pattern_entries c.args.self.now.terms z (target_of c.args.to.now)) _ _ (c.in_ok-add_and_pass-2.ensures.leads ∙ ap (λ (z : Environment). behind_target c.args.self.now.terms z (target_of c.args.to.now)) c.in_ok-add_and_pass.ensures.leads) (goes_on_behind _ _ _ _ _ _ (λ (z : Environment). target_entries c.args.self.now.terms z (target_of c.args.to.now)) _ _ c.in_ok-add_and_pass.ensures.leads c.in_ok-add_and_pass.ensures.found c.in_ok-add_and_pass-2.ensures.found) c.in_ok-add_pattern.ensures.found)

pub add_takes-returns-clause-here : goal.add_takes-returns-clause-here
add_takes-returns-clause-here t c = c.back.ensures ∙ ap₂ (λ (k : ℕ) (z : Environment). kept k z) c.len-front.ensures (c.in_ok-add_pattern.ensures.here) ∙ back_twice _ _ _ c.in_ok-add_and_pass.ensures.over c.in_ok-add_and_pass-2.ensures.over

pub add_parameters-add_parameter-requires : goal.add_parameters-add_parameter-requires
add_parameters-add_parameter-requires t c =
    let one = c.parameter-item.result in
    let same : size (code_of one) ≡ size (code_of (get_or c.args.parameters.now c.loop-parameter.parameter-index one)) = ap (λ e. size (code_of e)) c.parameter-item.is in
    let below = item_below c.args.parameters.now c.loop-parameter.parameter-index one c.loop-parameter-test.true in
    (omega (arith, below, same, c.decreases), tt)

pub add_parameters-loop-parameter-init : goal.add_parameters-loop-parameter-init
add_parameters-loop-parameter-init t c = (all_left _ _, refl)

pub add_parameters-loop-parameter-preserved : goal.add_parameters-loop-parameter-preserved
add_parameters-loop-parameter-preserved t c = (less_left _ (λ (z : Environment) (cs : Codes). parameter_entries c.args.self.now.terms z cs) (λ (z : Environment) (x : Code). parameter_entry c.args.self.now.terms z x) (λ (z : Environment) (x : Code). z) (parameters_go c.args.self.now.terms) c.args.parameters.now c.loop-parameter.parameter-index c.parameter-item.result _ _ _ _ _ _ c.loop-parameter-test.true c.parameter-item.is c.in_ok-add_parameter.ensures.found c.in_ok-add_parameter.ensures.here c.loop-parameter.invariant.0, c.in_ok-add_parameter.ensures.here ∙ c.loop-parameter.invariant.1)

pub add_parameters-returns-in_err-add_parameter-clause-found : goal.add_parameters-returns-in_err-add_parameter-clause-found
add_parameters-returns-in_err-add_parameter-clause-found t c = from_error c.from_residual.result _ _ _ _ (one_refused _ (λ (z : Environment) (cs : Codes). parameter_entries c.args.self.now.terms z cs) (λ (z : Environment) (x : Code). parameter_entry c.args.self.now.terms z x) (λ (z : Environment) (x : Code). z) (parameters_go c.args.self.now.terms) c.args.parameters.now c.loop-parameter.parameter-index c.parameter-item.result _ _ _ _ _ _ c.loop-parameter-test.true c.parameter-item.is c.in_err-add_parameter.ensures.found c.loop-parameter.invariant.0) c.from_residual.ensures

pub add_parameters-returns-clause-found : goal.add_parameters-returns-clause-found
add_parameters-returns-clause-found t c = none_left _ (λ (z : Environment) (cs : Codes). parameter_entries c.args.self.now.terms z cs) c.args.parameters.now c.loop-parameter.parameter-index _ _ _ _ c.loop-parameter-test.false refl c.loop-parameter.invariant.0

pub add_function-returns-in_err-start-clause-found : goal.add_function-returns-in_err-start-clause-found
add_function-returns-in_err-start-clause-found t c = from_error c.from_residual.result _ _ _ _ (first_refused _ _ _ _ _ (called_entries c.args.self.now.terms (function_start c.args.here.now (codes_of c.args.parameters.now) (code_of c.args.body.now)) (codes_of c.args.parameters.now) (code_of c.args.body.now)) c.in_err-start.ensures.found) c.from_residual.ensures

pub add_function-returns-clause-found : goal.add_function-returns-clause-found
add_function-returns-clause-found t c = goes_on_behind _ _ _ _ _ _ (λ (z : Environment). called_entries c.args.self.now.terms z (codes_of c.args.parameters.now) (code_of c.args.body.now)) _ _ c.in_ok-start.ensures.start c.in_ok-start.ensures.found c.add_called.ensures.found

pub add_function-returns-clause-here : goal.add_function-returns-clause-here
add_function-returns-clause-here t c = unmoved c.add_called.result c.args.here.now

pub add_given_function-returns-in-NewFunction-clause-here : goal.add_given_function-returns-in-NewFunction-clause-here
add_given_function-returns-in-NewFunction-clause-here t c = unmoved c.add_new_body.result c.args.here.now

pub add_new_body-returns-in_err-start : goal.add_new_body-returns-in_err-start
add_new_body-returns-in_err-start t c = from_error c.from_residual.result _ _ _ _ (refused_anyway Here _ _ _ _ c.in_err-start.ensures.err) c.from_residual.ensures

pub add_new_body-returns : goal.add_new_body-returns
add_new_body-returns t c = moved _ _ _ (λ (z : Environment). entries c.args.self.now.terms z (code_of c.args.body.now)) _ _ c.in_ok-start.ensures.start c.add_entries.ensures.found

pub add_class-returns-in_err-start-clause-found : goal.add_class-returns-in_err-start-clause-found
add_class-returns-in_err-start-clause-found t c = from_error c.from_residual.result _ _ _ _ (first_two_refused _ _ _ _ _ (running_entries c.args.self.now.terms c.args.here.now c.args.node (codes_of c.args.heritage.now) (codes_of c.args.elements.now)) (constructed_entries c.args.self.now.terms c.args.here.now (start_of c.args.self.now.terms c.args.node c.args.here.now (codes_of c.args.heritage.now) (codes_of c.args.elements.now)) c.args.node (codes_of c.args.heritage.now) (codes_of c.args.elements.now)) c.in_err-start.ensures.found) c.from_residual.ensures

pub add_class-returns-in_err-add_running-clause-found : goal.add_class-returns-in_err-add_running-clause-found
add_class-returns-in_err-add_running-clause-found t c = from_error c.from_residual-in_err-add_running.result _ _ _ _ (first_refused _ _ _ _ _ (constructed_entries c.args.self.now.terms c.args.here.now (start_of c.args.self.now.terms c.args.node c.args.here.now (codes_of c.args.heritage.now) (codes_of c.args.elements.now)) c.args.node (codes_of c.args.heritage.now) (codes_of c.args.elements.now)) (goes_behind _ _ _ _ _ _ _ c.in_ok-start.ensures.found (moved _ _ _ (λ (z : Environment). running_entries c.args.self.now.terms z c.args.node (codes_of c.args.heritage.now) (codes_of c.args.elements.now)) _ _ c.in_ok-start.ensures.here c.in_err-add_running.ensures.found))) c.from_residual-in_err-add_running.ensures

pub add_class-returns-clause-here : goal.add_class-returns-clause-here
add_class-returns-clause-here t c = subst (λ (z : Environment). OnOk c.add_constructed.result (c.add_constructed.new.here ≡ z)) (c.in_ok-add_running.ensures.here ∙ c.in_ok-start.ensures.here) c.add_constructed.ensures.here

pub add_class-returns-clause-found : goal.add_class-returns-clause-found
add_class-returns-clause-found t c = goes_behind _ _ _ _ _ _ _ (goes_behind _ _ _ _ _ _ _ c.in_ok-start.ensures.found (moved _ _ _ (λ (z : Environment). running_entries c.args.self.now.terms z c.args.node (codes_of c.args.heritage.now) (codes_of c.args.elements.now)) _ _ c.in_ok-start.ensures.here c.in_ok-add_running.ensures.found)) (moved _ _ _ (λ (z : Environment). constructed_entries c.args.self.now.terms c.args.here.now z c.args.node (codes_of c.args.heritage.now) (codes_of c.args.elements.now)) _ _ c.in_ok-start.ensures.start (moved _ _ _ (λ (z : Environment). constructed_entries c.args.self.now.terms z c.in_ok-start.start c.args.node (codes_of c.args.heritage.now) (codes_of c.args.elements.now)) _ _ (c.in_ok-add_running.ensures.here ∙ c.in_ok-start.ensures.here) c.add_constructed.ensures.found))

pub add_running-returns-in_err-add_and_pass-clause-found : goal.add_running-returns-in_err-add_and_pass-clause-found
add_running-returns-in_err-add_and_pass-clause-found t c = from_error c.from_residual.result _ _ _ _ (first_two_refused _ _ _ _ _ (key_entries c.args.self.now.terms (behind_all c.args.self.now.terms c.args.here.now (codes_of c.args.heritage.now)) (codes_of c.args.elements.now)) (static_entries c.args.self.now.terms c.args.class (behind_keys c.args.self.now.terms (behind_all c.args.self.now.terms c.args.here.now (codes_of c.args.heritage.now)) (codes_of c.args.elements.now)) (codes_of c.args.elements.now)) c.in_err-add_and_pass.ensures.found) c.from_residual.ensures

pub add_running-returns-in_err-add_and_pass-2-clause-found : goal.add_running-returns-in_err-add_and_pass-2-clause-found
add_running-returns-in_err-add_and_pass-2-clause-found t c = from_error c.from_residual-in_err-add_and_pass-2.result _ _ _ _ (first_refused _ _ _ _ _ (static_entries c.args.self.now.terms c.args.class (behind_keys c.args.self.now.terms (behind_all c.args.self.now.terms c.args.here.now (codes_of c.args.heritage.now)) (codes_of c.args.elements.now)) (codes_of c.args.elements.now)) (goes_on_behind _ _ _ _ _ _ (λ (z : Environment). key_entries c.args.self.now.terms z (codes_of c.args.elements.now)) _ _ c.in_ok-add_and_pass.ensures.leads c.in_ok-add_and_pass.ensures.found c.in_err-add_and_pass-2.ensures.found)) c.from_residual-in_err-add_and_pass-2.ensures

pub add_running-returns-in_err-add_each-clause-found : goal.add_running-returns-in_err-add_each-clause-found
add_running-returns-in_err-add_each-clause-found t c = from_error c.from_residual-in_err-add_each.result _ _ _ _ (goes_on_behind _ _ _ _ _ _ (λ (z : Environment). static_entries c.args.self.now.terms c.args.class z (codes_of c.args.elements.now)) _ _ (c.in_ok-add_and_pass-2.ensures.leads ∙ ap (λ (z : Environment). behind_keys c.args.self.now.terms z (codes_of c.args.elements.now)) c.in_ok-add_and_pass.ensures.leads) (goes_on_behind _ _ _ _ _ _ (λ (z : Environment). key_entries c.args.self.now.terms z (codes_of c.args.elements.now)) _ _ c.in_ok-add_and_pass.ensures.leads c.in_ok-add_and_pass.ensures.found c.in_ok-add_and_pass-2.ensures.found) c.in_err-add_each.ensures.found) c.from_residual-in_err-add_each.ensures

pub add_running-returns-clause-found : goal.add_running-returns-clause-found
add_running-returns-clause-found t c = any_ok _ _ _ _ _ (goes_on_behind _ _ _ _ _ _ (λ (z : Environment). static_entries c.args.self.now.terms c.args.class z (codes_of c.args.elements.now)) _ _ (c.in_ok-add_and_pass-2.ensures.leads ∙ ap (λ (z : Environment). behind_keys c.args.self.now.terms z (codes_of c.args.elements.now)) c.in_ok-add_and_pass.ensures.leads) (goes_on_behind _ _ _ _ _ _ (λ (z : Environment). key_entries c.args.self.now.terms z (codes_of c.args.elements.now)) _ _ c.in_ok-add_and_pass.ensures.leads c.in_ok-add_and_pass.ensures.found c.in_ok-add_and_pass-2.ensures.found) c.in_ok-add_each.ensures.found)

pub add_running-returns-clause-here : goal.add_running-returns-clause-here
add_running-returns-clause-here t c = c.back.ensures ∙ ap₂ (λ (k : ℕ) (z : Environment). kept k z) c.len-front.ensures (c.in_ok-add_each.ensures.here) ∙ back_twice _ _ _ c.in_ok-add_and_pass.ensures.over c.in_ok-add_and_pass-2.ensures.over

pub add_constructed-returns-in_err-add_each-clause-found : goal.add_constructed-returns-in_err-add_each-clause-found
add_constructed-returns-in_err-add_each-clause-found t c = from_error c.from_residual.result _ _ _ _ (first_refused _ _ _ _ _ (function_entries c.args.self.now.terms c.args.here.now (behind_fields c.args.self.now.terms c.args.inside.now c.args.class (codes_of c.args.heritage.now) (codes_of c.args.elements.now)) (codes_of c.args.elements.now)) c.in_err-add_each.ensures.found) c.from_residual.ensures

pub add_constructed-returns-in_err-pass_fields-clause-found : goal.add_constructed-returns-in_err-pass_fields-clause-found
add_constructed-returns-in_err-pass_fields-clause-found t c = from_error c.from_residual-in_err-pass_fields.result _ _ _ _ (refused_anyway (Unit {0}) _ _ _ _ c.in_err-pass_fields.ensures.err) c.from_residual-in_err-pass_fields.ensures

pub add_constructed-returns-in_err-add_functions-clause-found : goal.add_constructed-returns-in_err-add_functions-clause-found
add_constructed-returns-in_err-add_functions-clause-found t c = from_error c.from_residual-in_err-add_functions.result _ _ _ _ (goes_on_behind _ _ _ _ _ _ (λ (z : Environment). function_entries c.args.self.now.terms c.args.here.now z (codes_of c.args.elements.now)) _ _ (c.in_ok-pass_fields.ensures.leads ∙ ap (λ (z : Environment). behind_fields c.args.self.now.terms z c.args.class (codes_of c.args.heritage.now) (codes_of c.args.elements.now)) c.in_ok-add_each.ensures.here) c.in_ok-add_each.ensures.found c.in_err-add_functions.ensures.found) c.from_residual-in_err-add_functions.ensures

pub add_constructed-returns-clause-found : goal.add_constructed-returns-clause-found
add_constructed-returns-clause-found t c = any_ok _ _ _ _ _ (goes_on_behind _ _ _ _ _ _ (λ (z : Environment). function_entries c.args.self.now.terms c.args.here.now z (codes_of c.args.elements.now)) _ _ (c.in_ok-pass_fields.ensures.leads ∙ ap (λ (z : Environment). behind_fields c.args.self.now.terms z c.args.class (codes_of c.args.heritage.now) (codes_of c.args.elements.now)) c.in_ok-add_each.ensures.here) c.in_ok-add_each.ensures.found c.in_ok-add_functions.ensures.found)

pub add_element_function-returns-in-Constructor-clause-here : goal.add_element_function-returns-in-Constructor-clause-here
add_element_function-returns-in-Constructor-clause-here t c = unmoved c.add_constructor.result c.args.here.now

pub add_element_function-returns-in-Method-clause-inside : goal.add_element_function-returns-in-Method-clause-inside
add_element_function-returns-in-Method-clause-inside t c = unmoved c.add_entries.result c.args.inside.now

pub add_element_function-returns-in-PrivateMethod-clause-inside : goal.add_element_function-returns-in-PrivateMethod-clause-inside
add_element_function-returns-in-PrivateMethod-clause-inside t c = unmoved c.add_entries-in-PrivateMethod.result c.args.inside.now

pub add_element_function-returns-in_default : goal.add_element_function-returns-in_default
add_element_function-returns-in_default t c = record { here = refl; inside = refl; found = moved _ _ _ (λ (x : Entries). x) _ _ (sym (no_element_function c.args.self.now.terms c.args.here.now c.args.inside.now c.args.element.now c.in_default.not-Method c.in_default.not-PrivateMethod c.in_default.not-Constructor)) (nothing_reached _ _) }

pub add_functions-add_element_function-requires : goal.add_functions-add_element_function-requires
add_functions-add_element_function-requires t c =
    let one = c.element-item.result in
    let same : size (code_of one) ≡ size (code_of (get_or c.args.elements.now c.loop-element.element-index one)) = ap (λ e. size (code_of e)) c.element-item.is in
    let below = item_below c.args.elements.now c.loop-element.element-index one c.loop-element-test.true in
    (omega (arith, below, same, c.decreases), tt)

pub add_functions-loop-element-init : goal.add_functions-loop-element-init
add_functions-loop-element-init t c = (all_left _ _, (refl, refl))

pub add_functions-loop-element-preserved : goal.add_functions-loop-element-preserved
add_functions-loop-element-preserved t c = (less_left _ (λ (p : Environment × Environment) (cs : Codes). function_entries c.args.self.now.terms p.0 p.1 cs) (λ (p : Environment × Environment) (x : Code). element_function c.args.self.now.terms p.0 p.1 x) (λ (p : Environment × Environment) (x : Code). p) (functions_go c.args.self.now.terms) c.args.elements.now c.loop-element.element-index c.element-item.result (c.loop-element.here, c.loop-element.inside) (c.add_element_function.new.here, c.add_element_function.new.inside) _ _ _ _ c.loop-element-test.true c.element-item.is c.in_ok-add_element_function.ensures.found (ap₂ (λ (a b : Environment). (a, b)) c.in_ok-add_element_function.ensures.here c.in_ok-add_element_function.ensures.inside) c.loop-element.invariant.0, (c.in_ok-add_element_function.ensures.here ∙ c.loop-element.invariant.1.0, c.in_ok-add_element_function.ensures.inside ∙ c.loop-element.invariant.1.1))

pub add_functions-returns-in_err-add_element_function-clause-found : goal.add_functions-returns-in_err-add_element_function-clause-found
add_functions-returns-in_err-add_element_function-clause-found t c = from_error c.from_residual.result _ _ _ _ (one_refused _ (λ (p : Environment × Environment) (cs : Codes). function_entries c.args.self.now.terms p.0 p.1 cs) (λ (p : Environment × Environment) (x : Code). element_function c.args.self.now.terms p.0 p.1 x) (λ (p : Environment × Environment) (x : Code). p) (functions_go c.args.self.now.terms) c.args.elements.now c.loop-element.element-index c.element-item.result (c.loop-element.here, c.loop-element.inside) _ _ _ _ _ c.loop-element-test.true c.element-item.is c.in_err-add_element_function.ensures.found c.loop-element.invariant.0) c.from_residual.ensures

pub add_functions-returns-clause-found : goal.add_functions-returns-clause-found
add_functions-returns-clause-found t c = none_left _ (λ (p : Environment × Environment) (cs : Codes). function_entries c.args.self.now.terms p.0 p.1 cs) c.args.elements.now c.loop-element.element-index (c.loop-element.here, c.loop-element.inside) _ _ _ c.loop-element-test.false refl c.loop-element.invariant.0

pub add_entries-returns-in-Member-clause-found : goal.add_entries-returns-in-Member-clause-found
add_entries-returns-in-Member-clause-found t c = moved _ _ _ (λ (x : Entries). x) _ _ (ap₂ (λ (x y : code.Code). entries c.args.self.now.terms c.args.here.now (code_of x) ++ entries c.args.self.now.terms (behind_code c.args.self.now.terms c.args.here.now (code_of x)) (code_of y)) c.get.ensures c.get-in-Member.ensures ∙ sym (ap (λ (x : of.Code). entries c.args.self.now.terms c.args.here.now x) (ap code_of c.in-Member.is ∙ member_is _ _ _))) c.add_two.ensures.found

pub add_entries-returns-in-Logical-clause-found : goal.add_entries-returns-in-Logical-clause-found
add_entries-returns-in-Logical-clause-found t c = moved _ _ _ (λ (x : Entries). x) _ _ (ap₂ (λ (x y : code.Code). entries c.args.self.now.terms c.args.here.now (code_of x) ++ entries c.args.self.now.terms (behind_code c.args.self.now.terms c.args.here.now (code_of x)) (code_of y)) c.get-in-Logical.ensures c.get-in-Logical-2.ensures ∙ sym (ap (λ (x : of.Code). entries c.args.self.now.terms c.args.here.now x) (ap code_of c.in-Logical.is ∙ logical_is _ _ _ _))) c.add_two-in-Logical.ensures.found

pub add_entries-returns-in-Define-clause-found : goal.add_entries-returns-in-Define-clause-found
add_entries-returns-in-Define-clause-found t c = moved _ _ _ (λ (x : Entries). x) _ _ (ap₂ (λ (x y : code.Code). entries c.args.self.now.terms c.args.here.now (code_of x) ++ entries c.args.self.now.terms (behind_code c.args.self.now.terms c.args.here.now (code_of x)) (code_of y)) c.get-in-Define.ensures c.get-in-Define-2.ensures ∙ sym (ap (λ (x : of.Code). entries c.args.self.now.terms c.args.here.now x) (ap code_of c.in-Define.is ∙ define_is _ _ _ _))) c.add_two-in-Define.ensures.found

pub add_entries-returns-in-PrivateMember-clause-found : goal.add_entries-returns-in-PrivateMember-clause-found
add_entries-returns-in-PrivateMember-clause-found t c = moved _ _ _ (λ (x : Entries). x) _ _ (ap (λ (x : code.Code). entries c.args.self.now.terms c.args.here.now (code_of x)) c.get-in-PrivateMember.ensures ∙ sym (ap (λ (x : of.Code). entries c.args.self.now.terms c.args.here.now x) (ap code_of c.in-PrivateMember.is ∙ private_member_is _ _ _))) c.add_entries.ensures.found

pub add_entries-returns-in-SuperMember-clause-found : goal.add_entries-returns-in-SuperMember-clause-found
add_entries-returns-in-SuperMember-clause-found t c = moved _ _ _ (λ (x : Entries). x) _ _ (ap (λ (x : code.Code). entries c.args.self.now.terms c.args.here.now (code_of x)) c.get-in-SuperMember.ensures ∙ sym (ap (λ (x : of.Code). entries c.args.self.now.terms c.args.here.now x) (ap code_of c.in-SuperMember.is ∙ super_member_is _ _ _ _))) c.add_entries-in-SuperMember.ensures.found

pub add_entries-returns-in-PrivateIn-clause-found : goal.add_entries-returns-in-PrivateIn-clause-found
add_entries-returns-in-PrivateIn-clause-found t c = moved _ _ _ (λ (x : Entries). x) _ _ (ap (λ (x : code.Code). entries c.args.self.now.terms c.args.here.now (code_of x)) c.get-in-PrivateIn.ensures ∙ sym (ap (λ (x : of.Code). entries c.args.self.now.terms c.args.here.now x) (ap code_of c.in-PrivateIn.is ∙ private_in_is _ _ _))) c.add_entries-in-PrivateIn.ensures.found

pub add_entries-returns-in-Chain-clause-found : goal.add_entries-returns-in-Chain-clause-found
add_entries-returns-in-Chain-clause-found t c = moved _ _ _ (λ (x : Entries). x) _ _ (ap (λ (x : code.Code). entries c.args.self.now.terms c.args.here.now (code_of x)) c.get-in-Chain.ensures ∙ sym (ap (λ (x : of.Code). entries c.args.self.now.terms c.args.here.now x) (ap code_of c.in-Chain.is ∙ chain_is _ _))) c.add_entries-in-Chain.ensures.found

pub add_entries-returns-in-Short-clause-found : goal.add_entries-returns-in-Short-clause-found
add_entries-returns-in-Short-clause-found t c = moved _ _ _ (λ (x : Entries). x) _ _ (ap (λ (x : code.Code). entries c.args.self.now.terms c.args.here.now (code_of x)) c.get-in-Short.ensures ∙ sym (ap (λ (x : of.Code). entries c.args.self.now.terms c.args.here.now x) (ap code_of c.in-Short.is ∙ short_is _))) c.add_entries-in-Short.ensures.found

pub add_entries-returns-in-ExportDefault-clause-found : goal.add_entries-returns-in-ExportDefault-clause-found
add_entries-returns-in-ExportDefault-clause-found t c = moved _ _ _ (λ (x : Entries). x) _ _ (ap (λ (x : code.Code). entries c.args.self.now.terms c.args.here.now (code_of x)) c.get-in-ExportDefault.ensures ∙ sym (ap (λ (x : of.Code). entries c.args.self.now.terms c.args.here.now x) (ap code_of c.in-ExportDefault.is ∙ export_default_is _))) c.add_entries-in-ExportDefault.ensures.found

pub add_entries-returns-in-FromCall-clause-found : goal.add_entries-returns-in-FromCall-clause-found
add_entries-returns-in-FromCall-clause-found t c = moved _ _ _ (λ (x : Entries). x) _ _ (ap (λ (x : code.Code). entries c.args.self.now.terms c.args.here.now (code_of x)) c.get-in-FromCall.ensures ∙ sym (ap (λ (x : of.Code). entries c.args.self.now.terms c.args.here.now x) (ap code_of c.in-FromCall.is ∙ from_call_is _))) c.add_entries-in-FromCall.ensures.found

pub add_entries-returns-in-FromMember-clause-found : goal.add_entries-returns-in-FromMember-clause-found
add_entries-returns-in-FromMember-clause-found t c = moved _ _ _ (λ (x : Entries). x) _ _ (ap (λ (x : code.Code). entries c.args.self.now.terms c.args.here.now (code_of x)) c.get-in-FromMember.ensures ∙ sym (ap (λ (x : of.Code). entries c.args.self.now.terms c.args.here.now x) (ap code_of c.in-FromMember.is ∙ from_member_is _))) c.add_entries-in-FromMember.ensures.found

pub add_entries-returns-in-KeyOf-clause-found : goal.add_entries-returns-in-KeyOf-clause-found
add_entries-returns-in-KeyOf-clause-found t c = moved _ _ _ (λ (x : Entries). x) _ _ (ap (λ (x : code.Code). entries c.args.self.now.terms c.args.here.now (code_of x)) c.get-in-KeyOf.ensures ∙ sym (ap (λ (x : of.Code). entries c.args.self.now.terms c.args.here.now x) (ap code_of c.in-KeyOf.is ∙ key_of_is _))) c.add_entries-in-KeyOf.ensures.found

pub add_entries-returns-in-PrivateInitialize-clause-found : goal.add_entries-returns-in-PrivateInitialize-clause-found
add_entries-returns-in-PrivateInitialize-clause-found t c = moved _ _ _ (λ (x : Entries). x) _ _ (ap (λ (x : code.Code). entries c.args.self.now.terms c.args.here.now (code_of x)) c.get-in-PrivateInitialize.ensures ∙ sym (ap (λ (x : of.Code). entries c.args.self.now.terms c.args.here.now x) (ap code_of c.in-PrivateInitialize.is ∙ private_initialize_is _ _ _ _))) c.add_entries-in-PrivateInitialize.ensures.found

pub add_entries-returns-in-GiveClass-clause-found : goal.add_entries-returns-in-GiveClass-clause-found
add_entries-returns-in-GiveClass-clause-found t c = moved _ _ _ (λ (x : Entries). x) _ _ (ap (λ (x : code.Code). entries c.args.self.now.terms c.args.here.now (code_of x)) c.get-in-GiveClass.ensures ∙ sym (ap (λ (x : of.Code). entries c.args.self.now.terms c.args.here.now x) (ap code_of c.in-GiveClass.is ∙ give_class_is _ _))) c.add_entries-in-GiveClass.ensures.found

pub add_entries-returns-in-Assign-clause-found : goal.add_entries-returns-in-Assign-clause-found
add_entries-returns-in-Assign-clause-found t c = grind (arith, assign_is)

pub add_entries-returns-in-Compound-clause-found : goal.add_entries-returns-in-Compound-clause-found
add_entries-returns-in-Compound-clause-found t c = grind (arith, compound_is)

pub add_entries-returns-in-LogicalAssign-clause-found : goal.add_entries-returns-in-LogicalAssign-clause-found
add_entries-returns-in-LogicalAssign-clause-found t c = grind (arith, logical_assign_is)

pub add_entries-returns-in-Update-clause-found : goal.add_entries-returns-in-Update-clause-found
add_entries-returns-in-Update-clause-found t c = grind (arith, update_is)

pub add_entries-returns-in-GivesTo-clause-found : goal.add_entries-returns-in-GivesTo-clause-found
add_entries-returns-in-GivesTo-clause-found t c = grind (arith, gives_to_is)

pub add_entries-returns-in-Call-clause-found : goal.add_entries-returns-in-Call-clause-found
add_entries-returns-in-Call-clause-found t c = grind (arith, call_is)

pub add_entries-returns-in-Tag-clause-found : goal.add_entries-returns-in-Tag-clause-found
add_entries-returns-in-Tag-clause-found t c = grind (arith, tag_is)

pub add_entries-returns-in-Construct-clause-found : goal.add_entries-returns-in-Construct-clause-found
add_entries-returns-in-Construct-clause-found t c = grind (arith, construct_is)

pub add_entries-returns-in-SuperCall-clause-found : goal.add_entries-returns-in-SuperCall-clause-found
add_entries-returns-in-SuperCall-clause-found t c = moved _ _ _ (λ (x : Entries). x) _ _ (ap (λ (x : List code.Code). all_entries c.args.self.now.terms c.args.here.now (codes_of x)) c.as_slice-in-SuperCall.ensures ∙ sym (ap (λ (x : of.Code). entries c.args.self.now.terms c.args.here.now x) (ap code_of c.in-SuperCall.is ∙ super_call_is _ _ _ _))) c.add_each.ensures.found

pub add_entries-returns-in-Sequence-clause-found : goal.add_entries-returns-in-Sequence-clause-found
add_entries-returns-in-Sequence-clause-found t c = moved _ _ _ (λ (x : Entries). x) _ _ (ap (λ (x : List code.Code). all_entries c.args.self.now.terms c.args.here.now (codes_of x)) c.as_slice-in-Sequence.ensures ∙ sym (ap (λ (x : of.Code). entries c.args.self.now.terms c.args.here.now x) (ap code_of c.in-Sequence.is ∙ sequence_is _))) c.add_each-in-Sequence.ensures.found

pub add_entries-returns-in-Template-clause-found : goal.add_entries-returns-in-Template-clause-found
add_entries-returns-in-Template-clause-found t c = moved _ _ _ (λ (x : Entries). x) _ _ (ap (λ (x : List code.Code). all_entries c.args.self.now.terms c.args.here.now (codes_of x)) c.as_slice-in-Template.ensures ∙ sym (ap (λ (x : of.Code). entries c.args.self.now.terms c.args.here.now x) (ap code_of c.in-Template.is ∙ template_is _ _ _))) c.add_each-in-Template.ensures.found

pub add_entries-returns-in-Steps-clause-found : goal.add_entries-returns-in-Steps-clause-found
add_entries-returns-in-Steps-clause-found t c = moved _ _ _ (λ (x : Entries). x) _ _ (ap (λ (x : List code.Code). all_entries c.args.self.now.terms c.args.here.now (codes_of x)) c.as_slice-in-Steps.ensures ∙ sym (ap (λ (x : of.Code). entries c.args.self.now.terms c.args.here.now x) (ap code_of c.in-Steps.is ∙ steps_is _))) c.add_each-in-Steps.ensures.found

pub add_entries-returns-in-CallClosure-clause-found : goal.add_entries-returns-in-CallClosure-clause-found
add_entries-returns-in-CallClosure-clause-found t c = moved _ _ _ (λ (x : Entries). x) _ _ (ap (λ (x : List code.Code). all_entries c.args.self.now.terms c.args.here.now (codes_of x)) c.as_slice-in-CallClosure.ensures ∙ sym (ap (λ (x : of.Code). entries c.args.self.now.terms c.args.here.now x) (ap code_of c.in-CallClosure.is ∙ call_closure_is _ _))) c.add_each-in-CallClosure.ensures.found

pub add_entries-returns-in-Operation-clause-found : goal.add_entries-returns-in-Operation-clause-found
add_entries-returns-in-Operation-clause-found t c = grind (arith, operation_is)

pub add_entries-returns-in-Tested-clause-found : goal.add_entries-returns-in-Tested-clause-found
add_entries-returns-in-Tested-clause-found t c = grind (arith, tested_is)

pub add_entries-returns-in-CallArrow-clause-found : goal.add_entries-returns-in-CallArrow-clause-found
add_entries-returns-in-CallArrow-clause-found t c = grind (arith, call_arrow_is)

pub add_entries-returns-in-Function-clause-found : goal.add_entries-returns-in-Function-clause-found
add_entries-returns-in-Function-clause-found t c = moved _ _ _ (λ (x : Entries). x) _ _ (ap₂ (λ (xs : List code.Code) (x : code.Code). function_own c.args.self.now.terms c.args.here.now c.in-Function.node (form_of c.in-Function.form) c.in-Function.own_name (codes_of xs) (code_of x) ++ called_entries c.args.self.now.terms (function_start c.args.here.now (codes_of xs) (code_of x)) (codes_of xs) (code_of x)) c.as_slice-in-Function.ensures c.get-in-Function.ensures ∙ sym (ap (λ (x : of.Code). entries c.args.self.now.terms c.args.here.now x) (ap code_of c.in-Function.is ∙ function_is _ _ _ _ _))) c.add_function.ensures.found

pub add_entries-returns-in-GiveFunction-clause-found : goal.add_entries-returns-in-GiveFunction-clause-found
add_entries-returns-in-GiveFunction-clause-found t c = grind (arith, given_function_is)

pub add_entries-returns-in-Class-clause-found : goal.add_entries-returns-in-Class-clause-found
add_entries-returns-in-Class-clause-found t c = moved _ _ _ (λ (x : Entries). x) _ _ (ap₂ (λ (hs es : List code.Code). class_entries c.args.self.now.terms c.args.here.now c.in-Class.node c.in-Class.declared (codes_of hs) (codes_of es)) c.as_slice-in-Class.ensures c.as_slice-in-Class-2.ensures ∙ sym (ap (λ (x : code.Code). entries c.args.self.now.terms c.args.here.now (code_of x)) c.in-Class.is ∙ class_is c.args.self.now.terms c.args.here.now _ _ _ _)) c.add_class.ensures.found

pub add_entries-returns-in-Nothing-clause-found : goal.add_entries-returns-in-Nothing-clause-found
add_entries-returns-in-Nothing-clause-found t c = moved _ _ _ (λ (x : Entries). x) _ _ (sym (ap (λ (x : of.Code). entries c.args.self.now.terms c.args.here.now x) (ap code_of c.in-Nothing.is ∙ nothing_is))) (nothing_reached _ _)

pub add_entries-returns-in-NoRule-clause-found : goal.add_entries-returns-in-NoRule-clause-found
add_entries-returns-in-NoRule-clause-found t c = moved _ _ _ (λ (x : Entries). x) _ _ (sym (ap (λ (x : of.Code). entries c.args.self.now.terms c.args.here.now x) (ap code_of c.in-NoRule.is ∙ no_rule_is))) (nothing_reached _ _)

pub add_entries-returns-in-Value-clause-found : goal.add_entries-returns-in-Value-clause-found
add_entries-returns-in-Value-clause-found t c = moved _ _ _ (λ (x : Entries). x) _ _ (sym (ap (λ (x : of.Code). entries c.args.self.now.terms c.args.here.now x) (ap code_of c.in-Value.is ∙ value_is _))) (nothing_reached _ _)

pub add_entries-returns-in-Spelled-clause-found : goal.add_entries-returns-in-Spelled-clause-found
add_entries-returns-in-Spelled-clause-found t c = moved _ _ _ (λ (x : Entries). x) _ _ (sym (ap (λ (x : of.Code). entries c.args.self.now.terms c.args.here.now x) (ap code_of c.in-Spelled.is ∙ spelled_is _))) (nothing_reached _ _)

pub add_entries-returns-in-PrivateName-clause-found : goal.add_entries-returns-in-PrivateName-clause-found
add_entries-returns-in-PrivateName-clause-found t c = moved _ _ _ (λ (x : Entries). x) _ _ (sym (ap (λ (x : of.Code). entries c.args.self.now.terms c.args.here.now x) (ap code_of c.in-PrivateName.is ∙ private_name_is _ _ _))) (nothing_reached _ _)

pub add_entries-returns-in-Binding-clause-found : goal.add_entries-returns-in-Binding-clause-found
add_entries-returns-in-Binding-clause-found t c = moved _ _ _ (λ (x : Entries). x) _ _ (sym (ap (λ (x : of.Code). entries c.args.self.now.terms c.args.here.now x) (ap code_of c.in-Binding.is ∙ binding_is _ _ _))) (nothing_reached _ _)

pub add_entries-returns-in-Rest-clause-found : goal.add_entries-returns-in-Rest-clause-found
add_entries-returns-in-Rest-clause-found t c = moved _ _ _ (λ (x : Entries). x) _ _ (sym (ap (λ (x : of.Code). entries c.args.self.now.terms c.args.here.now x) (ap code_of c.in-Rest.is ∙ rest_is _))) (nothing_reached _ _)

pub add_entries-returns-in-Name-clause-found : goal.add_entries-returns-in-Name-clause-found
add_entries-returns-in-Name-clause-found t c = moved _ _ _ (λ (x : Entries). x) _ _ (sym (ap (λ (x : of.Code). entries c.args.self.now.terms c.args.here.now x) (ap code_of c.in-Name.is ∙ name_is _ _ _))) (nothing_reached _ _)

pub add_entries-returns-in-Super-clause-found : goal.add_entries-returns-in-Super-clause-found
add_entries-returns-in-Super-clause-found t c = moved _ _ _ (λ (x : Entries). x) _ _ (sym (ap (λ (x : of.Code). entries c.args.self.now.terms c.args.here.now x) (ap code_of c.in-Super.is ∙ super_is))) (nothing_reached _ _)

pub add_entries-returns-in-SuperCallWithAll-clause-found : goal.add_entries-returns-in-SuperCallWithAll-clause-found
add_entries-returns-in-SuperCallWithAll-clause-found t c = moved _ _ _ (λ (x : Entries). x) _ _ (sym (ap (λ (x : of.Code). entries c.args.self.now.terms c.args.here.now x) (ap code_of c.in-SuperCallWithAll.is ∙ super_call_with_all_is _))) (nothing_reached _ _)

pub add_entries-returns-in-TemplateString-clause-found : goal.add_entries-returns-in-TemplateString-clause-found
add_entries-returns-in-TemplateString-clause-found t c = moved _ _ _ (λ (x : Entries). x) _ _ (sym (ap (λ (x : of.Code). entries c.args.self.now.terms c.args.here.now x) (ap code_of c.in-TemplateString.is ∙ template_string_is _))) (nothing_reached _ _)

pub add_entries-returns-in-Piece-clause-found : goal.add_entries-returns-in-Piece-clause-found
add_entries-returns-in-Piece-clause-found t c = moved _ _ _ (λ (x : Entries). x) _ _ (sym (ap (λ (x : of.Code). entries c.args.self.now.terms c.args.here.now x) (ap code_of c.in-Piece.is ∙ piece_is _ _))) (nothing_reached _ _)

pub add_entries-returns-in-Pattern-clause-found : goal.add_entries-returns-in-Pattern-clause-found
add_entries-returns-in-Pattern-clause-found t c = moved _ _ _ (λ (x : Entries). x) _ _ (sym (ap (λ (x : of.Code). entries c.args.self.now.terms c.args.here.now x) (ap code_of c.in-Pattern.is ∙ pattern_is _ _))) (nothing_reached _ _)

pub add_entries-returns-in-Takes-clause-found : goal.add_entries-returns-in-Takes-clause-found
add_entries-returns-in-Takes-clause-found t c = moved _ _ _ (λ (x : Entries). x) _ _ (sym (ap (λ (x : of.Code). entries c.args.self.now.terms c.args.here.now x) (ap code_of c.in-Takes.is ∙ takes_is _ _ _ _))) (nothing_reached _ _)

pub add_entries-returns-in-NewFunction-clause-found : goal.add_entries-returns-in-NewFunction-clause-found
add_entries-returns-in-NewFunction-clause-found t c = moved _ _ _ (λ (x : Entries). x) _ _ (sym (ap (λ (x : of.Code). entries c.args.self.now.terms c.args.here.now x) (ap code_of c.in-NewFunction.is ∙ new_function_is _ _ _ _))) (nothing_reached _ _)

pub add_entries-returns-in-NewReturn-clause-found : goal.add_entries-returns-in-NewReturn-clause-found
add_entries-returns-in-NewReturn-clause-found t c = moved _ _ _ (λ (x : Entries). x) _ _ (sym (ap (λ (x : of.Code). entries c.args.self.now.terms c.args.here.now x) (ap code_of c.in-NewReturn.is ∙ new_return_is _))) (nothing_reached _ _)

pub add_entries-returns-in-Field-clause-found : goal.add_entries-returns-in-Field-clause-found
add_entries-returns-in-Field-clause-found t c = moved _ _ _ (λ (x : Entries). x) _ _ (sym (ap (λ (x : of.Code). entries c.args.self.now.terms c.args.here.now x) (ap code_of c.in-Field.is ∙ field_is _ _ _ _))) (nothing_reached _ _)

pub add_entries-returns-in-PrivateField-clause-found : goal.add_entries-returns-in-PrivateField-clause-found
add_entries-returns-in-PrivateField-clause-found t c = moved _ _ _ (λ (x : Entries). x) _ _ (sym (ap (λ (x : of.Code). entries c.args.self.now.terms c.args.here.now x) (ap code_of c.in-PrivateField.is ∙ private_field_is _ _ _))) (nothing_reached _ _)

pub add_entries-returns-in-Method-clause-found : goal.add_entries-returns-in-Method-clause-found
add_entries-returns-in-Method-clause-found t c = moved _ _ _ (λ (x : Entries). x) _ _ (sym (ap (λ (x : of.Code). entries c.args.self.now.terms c.args.here.now x) (ap code_of c.in-Method.is ∙ method_is _ _ _ _))) (nothing_reached _ _)

pub add_entries-returns-in-PrivateMethod-clause-found : goal.add_entries-returns-in-PrivateMethod-clause-found
add_entries-returns-in-PrivateMethod-clause-found t c = moved _ _ _ (λ (x : Entries). x) _ _ (sym (ap (λ (x : of.Code). entries c.args.self.now.terms c.args.here.now x) (ap code_of c.in-PrivateMethod.is ∙ private_method_is _ _ _))) (nothing_reached _ _)

pub add_entries-returns-in-Constructor-clause-found : goal.add_entries-returns-in-Constructor-clause-found
add_entries-returns-in-Constructor-clause-found t c = moved _ _ _ (λ (x : Entries). x) _ _ (sym (ap (λ (x : of.Code). entries c.args.self.now.terms c.args.here.now x) (ap code_of c.in-Constructor.is ∙ constructor_is _))) (nothing_reached _ _)

pub add_entries-returns-in-StaticBlock-clause-found : goal.add_entries-returns-in-StaticBlock-clause-found
add_entries-returns-in-StaticBlock-clause-found t c = moved _ _ _ (λ (x : Entries). x) _ _ (sym (ap (λ (x : of.Code). entries c.args.self.now.terms c.args.here.now x) (ap code_of c.in-StaticBlock.is ∙ static_block_is _))) (nothing_reached _ _)

pub add_entries-returns-in-GeneratedElement-clause-found : goal.add_entries-returns-in-GeneratedElement-clause-found
add_entries-returns-in-GeneratedElement-clause-found t c = moved _ _ _ (λ (x : Entries). x) _ _ (sym (ap (λ (x : of.Code). entries c.args.self.now.terms c.args.here.now x) (ap code_of c.in-GeneratedElement.is ∙ generated_element_is _ _))) (nothing_reached _ _)

pub add_entries-returns-in-Helper-clause-found : goal.add_entries-returns-in-Helper-clause-found
add_entries-returns-in-Helper-clause-found t c = moved _ _ _ (λ (x : Entries). x) _ _ (sym (ap (λ (x : of.Code). entries c.args.self.now.terms c.args.here.now x) (ap code_of c.in-Helper.is ∙ helper_is _))) (nothing_reached _ _)

pub add_entries-returns-in-HelperCall-clause-found : goal.add_entries-returns-in-HelperCall-clause-found
add_entries-returns-in-HelperCall-clause-found t c = moved _ _ _ (λ (x : Entries). x) _ _ (sym (ap (λ (x : of.Code). entries c.args.self.now.terms c.args.here.now x) (ap code_of c.in-HelperCall.is ∙ helper_call_is _ _ _))) (nothing_reached _ _)

pub add_entries-returns-in-Throw-clause-found : goal.add_entries-returns-in-Throw-clause-found
add_entries-returns-in-Throw-clause-found t c = moved _ _ _ (λ (x : Entries). x) _ _ (sym (ap (λ (x : of.Code). entries c.args.self.now.terms c.args.here.now x) (ap code_of c.in-Throw.is ∙ throw_is))) (nothing_reached _ _)

pub add_entries-returns-in-AddBrand-clause-found : goal.add_entries-returns-in-AddBrand-clause-found
add_entries-returns-in-AddBrand-clause-found t c = moved _ _ _ (λ (x : Entries). x) _ _ (sym (ap (λ (x : of.Code). entries c.args.self.now.terms c.args.here.now x) (ap code_of c.in-AddBrand.is ∙ add_brand_is _ _ _))) (nothing_reached _ _)

pub add_entries-returns-in-Bound-clause-found : goal.add_entries-returns-in-Bound-clause-found
add_entries-returns-in-Bound-clause-found t c = moved _ _ _ (λ (x : Entries). x) _ _ (sym (ap (λ (x : of.Code). entries c.args.self.now.terms c.args.here.now x) (ap code_of c.in-Bound.is ∙ bound_is _ _))) (nothing_reached _ _)

pub add_entries-returns-in-Setter-clause-found : goal.add_entries-returns-in-Setter-clause-found
add_entries-returns-in-Setter-clause-found t c = moved _ _ _ (λ (x : Entries). x) _ _ (sym (ap (λ (x : of.Code). entries c.args.self.now.terms c.args.here.now x) (ap code_of c.in-Setter.is ∙ setter_is _ _ _))) (nothing_reached _ _)

pub add_entries-returns-in-PrivateValue-clause-found : goal.add_entries-returns-in-PrivateValue-clause-found
add_entries-returns-in-PrivateValue-clause-found t c = moved _ _ _ (λ (x : Entries). x) _ _ (sym (ap (λ (x : of.Code). entries c.args.self.now.terms c.args.here.now x) (ap code_of c.in-PrivateValue.is ∙ private_value_is _))) (nothing_reached _ _)

pub add_entries-returns-in-Initializers-clause-found : goal.add_entries-returns-in-Initializers-clause-found
add_entries-returns-in-Initializers-clause-found t c = moved _ _ _ (λ (x : Entries). x) _ _ (sym (ap (λ (x : of.Code). entries c.args.self.now.terms c.args.here.now x) (ap code_of c.in-Initializers.is ∙ initializers_is _))) (nothing_reached _ _)

pub add_callee-returns-in-Plain-clause-found : goal.add_callee-returns-in-Plain-clause-found
add_callee-returns-in-Plain-clause-found t c = moved _ _ _ (λ (x : Entries). x) _ _ (ap (λ (x : code.Code). entries c.args.self.now.terms c.args.here.now (code_of x)) c.get.ensures ∙ sym (ap (λ (x : of.Callee). callee_entries c.args.self.now.terms c.args.here.now x) (ap callee_of c.in-Plain.is ∙ plain_is _))) c.add_entries.ensures.found

pub add_callee-returns-in-OnMember-clause-found : goal.add_callee-returns-in-OnMember-clause-found
add_callee-returns-in-OnMember-clause-found t c = moved _ _ _ (λ (x : Entries). x) _ _ (ap₂ (λ (x y : code.Code). entries c.args.self.now.terms c.args.here.now (code_of x) ++ entries c.args.self.now.terms (behind_code c.args.self.now.terms c.args.here.now (code_of x)) (code_of y)) c.get-in-OnMember.ensures c.get-in-OnMember-2.ensures ∙ sym (ap (λ (x : of.Callee). callee_entries c.args.self.now.terms c.args.here.now x) (ap callee_of c.in-OnMember.is ∙ on_member_is _ _ _))) c.add_two.ensures.found

pub add_callee-returns-in-OnPrivate-clause-found : goal.add_callee-returns-in-OnPrivate-clause-found
add_callee-returns-in-OnPrivate-clause-found t c = moved _ _ _ (λ (x : Entries). x) _ _ (ap (λ (x : code.Code). entries c.args.self.now.terms c.args.here.now (code_of x)) c.get-in-OnPrivate.ensures ∙ sym (ap (λ (x : of.Callee). callee_entries c.args.self.now.terms c.args.here.now x) (ap callee_of c.in-OnPrivate.is ∙ on_private_is _ _ _))) c.add_entries-in-OnPrivate.ensures.found

pub add_callee-returns-in-OnSuper-clause-found : goal.add_callee-returns-in-OnSuper-clause-found
add_callee-returns-in-OnSuper-clause-found t c = moved _ _ _ (λ (x : Entries). x) _ _ (ap (λ (x : code.Code). entries c.args.self.now.terms c.args.here.now (code_of x)) c.get-in-OnSuper.ensures ∙ sym (ap (λ (x : of.Callee). callee_entries c.args.self.now.terms c.args.here.now x) (ap callee_of c.in-OnSuper.is ∙ on_super_is _ _ _ _))) c.add_entries-in-OnSuper.ensures.found

pub add_callee-returns-in-WithReceiver-clause-found : goal.add_callee-returns-in-WithReceiver-clause-found
add_callee-returns-in-WithReceiver-clause-found t c = moved _ _ _ (λ (x : Entries). x) _ _ (ap₂ (λ (x y : code.Code). entries c.args.self.now.terms c.args.here.now (code_of x) ++ entries c.args.self.now.terms (behind_code c.args.self.now.terms c.args.here.now (code_of x)) (code_of y)) c.get-in-WithReceiver.ensures c.get-in-WithReceiver-2.ensures ∙ sym (ap (λ (x : of.Callee). callee_entries c.args.self.now.terms c.args.here.now x) (ap callee_of c.in-WithReceiver.is ∙ with_receiver_is _ _))) c.add_two-in-WithReceiver.ensures.found

pub add_callee-returns-in-Checked-clause-found : goal.add_callee-returns-in-Checked-clause-found
add_callee-returns-in-Checked-clause-found t c = moved _ _ _ (λ (x : Entries). x) _ _ (ap (λ (x : callees.Callee). callee_entries c.args.self.now.terms c.args.here.now (callee_of x)) c.get-in-Checked.ensures ∙ sym (ap (λ (x : of.Callee). callee_entries c.args.self.now.terms c.args.here.now x) (ap callee_of c.in-Checked.is ∙ checked_is _))) c.add_callee.ensures.found

pub add_callee-returns-in-OnChain-clause-found : goal.add_callee-returns-in-OnChain-clause-found
add_callee-returns-in-OnChain-clause-found t c = moved _ _ _ (λ (x : Entries). x) _ _ (ap (λ (x : callees.Callee). callee_entries c.args.self.now.terms c.args.here.now (callee_of x)) c.get-in-OnChain.ensures ∙ sym (ap (λ (x : of.Callee). callee_entries c.args.self.now.terms c.args.here.now x) (ap callee_of c.in-OnChain.is ∙ on_chain_is _ _))) c.add_callee-in-OnChain.ensures.found

pub add_callee-returns-in-BehindTest-clause-found : goal.add_callee-returns-in-BehindTest-clause-found
add_callee-returns-in-BehindTest-clause-found t c = grind (arith, behind_test_is)

pub add_target-returns-in-ToName-clause-found : goal.add_target-returns-in-ToName-clause-found
add_target-returns-in-ToName-clause-found t c = moved _ _ _ (λ (x : Entries). x) _ _ (sym (ap (λ (x : of.Target). target_entries c.args.self.now.terms c.args.here.now x) (ap target_of c.in-ToName.is ∙ to_name_is _ _ _))) (nothing_reached _ _)

pub add_target-returns-in-ToMember-clause-found : goal.add_target-returns-in-ToMember-clause-found
add_target-returns-in-ToMember-clause-found t c = moved _ _ _ (λ (x : Entries). x) _ _ (ap₂ (λ (x y : code.Code). entries c.args.self.now.terms c.args.here.now (code_of x) ++ entries c.args.self.now.terms (behind_code c.args.self.now.terms c.args.here.now (code_of x)) (code_of y)) c.get.ensures c.get-in-ToMember.ensures ∙ sym (ap (λ (x : of.Target). target_entries c.args.self.now.terms c.args.here.now x) (ap target_of c.in-ToMember.is ∙ to_member_is _ _ _))) c.add_two.ensures.found

pub add_target-returns-in-ToPrivate-clause-found : goal.add_target-returns-in-ToPrivate-clause-found
add_target-returns-in-ToPrivate-clause-found t c = moved _ _ _ (λ (x : Entries). x) _ _ (ap (λ (x : code.Code). entries c.args.self.now.terms c.args.here.now (code_of x)) c.get-in-ToPrivate.ensures ∙ sym (ap (λ (x : of.Target). target_entries c.args.self.now.terms c.args.here.now x) (ap target_of c.in-ToPrivate.is ∙ to_private_is _ _ _))) c.add_entries.ensures.found

pub add_target-returns-in-ToSuper-clause-found : goal.add_target-returns-in-ToSuper-clause-found
add_target-returns-in-ToSuper-clause-found t c = moved _ _ _ (λ (x : Entries). x) _ _ (ap (λ (x : code.Code). entries c.args.self.now.terms c.args.here.now (code_of x)) c.get-in-ToSuper.ensures ∙ sym (ap (λ (x : of.Target). target_entries c.args.self.now.terms c.args.here.now x) (ap target_of c.in-ToSuper.is ∙ to_super_is _ _ _ _))) c.add_entries-in-ToSuper.ensures.found

pub add_target-returns-in-ToSetter-clause-found : goal.add_target-returns-in-ToSetter-clause-found
add_target-returns-in-ToSetter-clause-found t c = moved _ _ _ (λ (x : Entries). x) _ _ (ap (λ (x : code.Code). entries c.args.self.now.terms c.args.here.now (code_of x)) c.get-in-ToSetter.ensures ∙ sym (ap (λ (x : of.Target). target_entries c.args.self.now.terms c.args.here.now x) (ap target_of c.in-ToSetter.is ∙ to_setter_is _ _ _))) c.add_entries-in-ToSetter.ensures.found

pub add_target-returns-in-ToPattern-clause-found : goal.add_target-returns-in-ToPattern-clause-found
add_target-returns-in-ToPattern-clause-found t c = moved _ _ _ (λ (x : Entries). x) _ _ (sym (ap (λ (x : of.Target). target_entries c.args.self.now.terms c.args.here.now x) (ap target_of c.in-ToPattern.is ∙ to_pattern_is _ _ _))) (nothing_reached _ _)

pub add_target-returns-in-ToDefault-clause-found : goal.add_target-returns-in-ToDefault-clause-found
add_target-returns-in-ToDefault-clause-found t c = grind (arith, to_default_is)

pub add_target-returns-in-NoTarget-clause-found : goal.add_target-returns-in-NoTarget-clause-found
add_target-returns-in-NoTarget-clause-found t c = moved _ _ _ (λ (x : Entries). x) _ _ (sym (ap (λ (x : of.Target). target_entries c.args.self.now.terms c.args.here.now x) (ap target_of c.in-NoTarget.is ∙ no_target_is))) (nothing_reached _ _)

pub add_pattern-returns-in-ToName-clause-found : goal.add_pattern-returns-in-ToName-clause-found
add_pattern-returns-in-ToName-clause-found t c = moved _ _ _ (λ (x : Entries). x) _ _ (sym (ap (λ (x : of.Target). pattern_entries c.args.self.now.terms c.args.here.now x) (ap target_of c.in-ToName.is ∙ to_name_is _ _ _))) (nothing_reached _ _)

pub add_pattern-returns-in-ToMember-clause-found : goal.add_pattern-returns-in-ToMember-clause-found
add_pattern-returns-in-ToMember-clause-found t c = moved _ _ _ (λ (x : Entries). x) _ _ (sym (ap (λ (x : of.Target). pattern_entries c.args.self.now.terms c.args.here.now x) (ap target_of c.in-ToMember.is ∙ to_member_is _ _ _))) (nothing_reached _ _)

pub add_pattern-returns-in-ToPrivate-clause-found : goal.add_pattern-returns-in-ToPrivate-clause-found
add_pattern-returns-in-ToPrivate-clause-found t c = moved _ _ _ (λ (x : Entries). x) _ _ (sym (ap (λ (x : of.Target). pattern_entries c.args.self.now.terms c.args.here.now x) (ap target_of c.in-ToPrivate.is ∙ to_private_is _ _ _))) (nothing_reached _ _)

pub add_pattern-returns-in-ToSuper-clause-found : goal.add_pattern-returns-in-ToSuper-clause-found
add_pattern-returns-in-ToSuper-clause-found t c = moved _ _ _ (λ (x : Entries). x) _ _ (sym (ap (λ (x : of.Target). pattern_entries c.args.self.now.terms c.args.here.now x) (ap target_of c.in-ToSuper.is ∙ to_super_is _ _ _ _))) (nothing_reached _ _)

pub add_pattern-returns-in-ToSetter-clause-found : goal.add_pattern-returns-in-ToSetter-clause-found
add_pattern-returns-in-ToSetter-clause-found t c = moved _ _ _ (λ (x : Entries). x) _ _ (sym (ap (λ (x : of.Target). pattern_entries c.args.self.now.terms c.args.here.now x) (ap target_of c.in-ToSetter.is ∙ to_setter_is _ _ _))) (nothing_reached _ _)

pub add_pattern-returns-in-ToPattern-clause-found : goal.add_pattern-returns-in-ToPattern-clause-found
add_pattern-returns-in-ToPattern-clause-found t c = grind (arith, to_pattern_is)

pub add_pattern-returns-in-ToDefault-clause-found : goal.add_pattern-returns-in-ToDefault-clause-found
add_pattern-returns-in-ToDefault-clause-found t c = grind (arith, to_default_is)

pub add_pattern-returns-in-NoTarget-clause-found : goal.add_pattern-returns-in-NoTarget-clause-found
add_pattern-returns-in-NoTarget-clause-found t c = moved _ _ _ (λ (x : Entries). x) _ _ (sym (ap (λ (x : of.Target). pattern_entries c.args.self.now.terms c.args.here.now x) (ap target_of c.in-NoTarget.is ∙ no_target_is))) (nothing_reached _ _)

pub add_key-returns-in_default : goal.add_key-returns-in_default
add_key-returns-in_default t c = record { here = refl; found = moved _ _ _ (λ (x : Entries). x) _ _ (sym (no_key c.args.self.now.terms c.args.here.now c.args.element.now c.in_default.not-Field c.in_default.not-Method)) (nothing_reached _ _) }

pub add_static-returns-in_default : goal.add_static-returns-in_default
add_static-returns-in_default t c = record { here = refl; found = moved _ _ _ (λ (x : Entries). x) _ _ (sym (no_static c.args.self.now.terms c.args.here.now c.args.element.now c.in_default.not-Field c.in_default.not-PrivateField c.in_default.not-StaticBlock c.in_default.not-GeneratedElement)) (nothing_reached _ _) }

pub add_field-returns-in_default : goal.add_field-returns-in_default
add_field-returns-in_default t c = record { here = refl; found = moved _ _ _ (λ (x : Entries). x) _ _ (sym (no_field c.args.self.now.terms c.args.here.now c.args.element.now c.in_default.not-Field c.in_default.not-PrivateField)) (nothing_reached _ _) }

pub add_take-returns-in_default : goal.add_take-returns-in_default
add_take-returns-in_default t c = record { here = refl; found = moved _ _ _ (λ (x : Entries). x) _ _ (sym (no_take c.args.self.now.terms c.args.here.now c.args.member.now c.in_default.not-Takes)) (nothing_reached _ _) }

pub add_element_function-returns-in-Constructor-clause-found : goal.add_element_function-returns-in-Constructor-clause-found
add_element_function-returns-in-Constructor-clause-found t c = moved _ _ _ (λ (x : Entries). x) _ _ (ap (λ (x : code.Code). constructor_entries c.args.self.now.terms c.args.inside.now (code_of x)) c.get-in-Constructor.ensures ∙ sym (ap (λ (x : code.Code). element_function c.args.self.now.terms c.args.here.now c.args.inside.now (code_of x)) c.in-Constructor.is ∙ constructor_function c.args.self.now.terms c.args.here.now c.args.inside.now _)) c.add_constructor.ensures.found
