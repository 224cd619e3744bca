use Rattle.std.proofs.Common.{ap₂, ◌∙◌}
use Rattle.es_entries.proofs.SameEntries.{same_classes}
use Rattle.es_entries.proofs.entry.same_class.Goals as goal
use Rattle.es_entries.specs.Parameters.{parameters_in}
use Rattle.es_steps.specs.SameMeanings as same

pub returns : goal.returns
returns c = same_classes c.args.left.now c.args.right.now c.same_head-heads.result c.same_form-forms.result c.same_parameters-parameters.result c.same_listed-constructions.result
    c.same_head-heads.ensures
    c.same_form-forms.ensures
    (c.same_parameters-parameters.ensures ∙ ap₂ (λ ps qs. same.same_list same.same_parameter (parameters_in ps) (parameters_in qs)) c.as_slice.ensures c.as_slice-2.ensures)
    c.same_listed-constructions.ensures
    c.both-two.result c.both-all.result c.both.result c.both-two.ensures c.both-all.ensures c.both.ensures
