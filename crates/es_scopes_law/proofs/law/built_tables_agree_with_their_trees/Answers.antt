use Rattle.es_scopes_law.proofs.Agreeing.{built-agrees}
use Rattle.es_scopes_law.proofs.law.built_tables_agree_with_their_trees.Goals as goal

pub returns : goal.returns
returns c = built-agrees
