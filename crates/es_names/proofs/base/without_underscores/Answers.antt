use Rattle.es_names.proofs.Bases.{trimmed_start}
use Rattle.es_names.proofs.base.without_underscores.Goals as goal

pub returns : goal.returns
returns c = trimmed_start c.args.string.now c.utf8.string c.trim_start_matches.result.now c.trim_start_matches.ensures.matches
