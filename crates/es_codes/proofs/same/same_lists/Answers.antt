use Rattle.es_codes.proofs.Injective.{same_lists}
use Rattle.es_codes.proofs.same.same_lists.Goals as goal

pub returns : goal.returns
returns c = same_lists c.same_tokens.result c.args.left.now c.args.right.now c.same_tokens.ensures
