use Rattle.std.proofs.Common.{◌∙◌, sym}
use Rattle.std.proofs.lemmas.List.{at_drop_all}
use Rattle.es_base.specs.Tree.{nullable_trees}
use Rattle.es_steps.specs.Context.{rest_among}
use Rattle.es_seen_names.proofs.Strings.{no_characters}
use Rattle.es_seen_names.proofs.super_call.rest_of_holes.Goals as goal

pub returns : goal.returns
returns c = no_characters ∙ sym (at_drop_all (λ xs. rest_among (nullable_trees xs)) c.args.parameters.now c.loop-parameter.parameter-index c.loop-parameter-test.false) ∙ c.loop-parameter.invariant
