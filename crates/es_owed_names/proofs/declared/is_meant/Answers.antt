use Rattle.std.proofs.Common.{◌∙◌}
use Rattle.es_owed_names.proofs.declared.is_meant.Goals as goal

pub returns : goal.returns
returns c = c.all_mean.ensures ∙ c.referring.ensures c.args.number
