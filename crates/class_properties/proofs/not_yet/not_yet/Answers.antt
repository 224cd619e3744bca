use Rattle.std.proofs.Common.{◌∙◌, ap, [], map, None}
use Rattle.es_base.specs.Carried.{span_of, scope_number}
use Rattle.es_base.specs.Tree.{trees}
use Rattle.es_steps.specs.FirstForm.{unless, statements_breaches}
use Rattle.class_properties.proofs.OfKinds.{program_statements}
use Rattle.class_properties.proofs.Steps.{in_program}
use Rattle.class_properties.specs.Least.{least_with}
use Rattle.class_properties.proofs.not_yet.not_yet.Goals as goal

pub class_names-requires : goal.class_names-requires
class_names-requires c = program_statements c.args.program.now _ _ _ _ _ c.from_node-program.ensures.tree c.requires

pub statements_breaches-requires : goal.statements_breaches-requires
statements_breaches-requires c = program_statements c.args.program.now _ _ _ _ _ c.from_node-program.ensures.tree c.requires

pub returns : goal.returns
returns c =
    let foreign = map (λ n. n.0) c.args.foreign.now in
    let program = c.from_node-program.result in
    let breaches = statements_breaches [] c.in_ok-names.names (trees program.body.now) in
    record {
      answer =
          c.least_of.ensures
          ∙ ap (λ n. least_with n foreign) (c.in_ok-least.ensures ∙ ap (λ n. least_with n breaches) (c.unless-least.ensures ∙ ap (λ b. least_with None (unless b program.node_id.0)) c.is_small_script-is_small_script.ensures))
          ∙ in_program c.args.program.now program.node_id.0 (span_of program.span) (scope_number program.scope_id) program.source_type program.body.now c.in_ok-names.names foreign c.has_at_most-is_small.result c.from_node-program.ensures.tree c.has_at_most-is_small.ensures c.in_ok-names.ensures;
    }
