use Rattle.std.proofs.Common.{ap₂, ◌∙◌}
use Rattle.es_entries.proofs.SameEntries.{same_heads}
use Rattle.es_entries.proofs.entry.same_head.Goals as goal
use Rattle.es_entries.specs.Methods.{methods_in}
use Rattle.es_steps.specs.SameMeanings as same

pub returns : goal.returns
returns c = same_heads c.args.left.now c.args.right.now c.same_number-declared.result c.same_heritage-heritages.result c.same_methods-methods.result c.both-two.result c.both.result
    c.same_number-declared.ensures c.same_heritage-heritages.ensures
    (c.same_methods-methods.ensures ∙ ap₂ (λ ms ns. same.same_list same.same_method (methods_in ms) (methods_in ns)) c.as_slice.ensures c.as_slice-2.ensures)
    c.both-two.ensures c.both.ensures
