use Rattle.std.proofs.Common.{rules}
use Rattle.es_evaluator.proofs.SameValues.{same_value_is}
use Rattle.es_exports.proofs.export.is_same_exported.Goals as goal

pub returns-in-Value-other : goal.returns-in-Value-other
returns-in-Value-other c = let e = same_value_is c.is_same.result _ _ c.is_same.ensures in search rules
