use Rattle.std.proofs.Common.{sym}
use Rattle.es_left.proofs.First.{left_none}
use Rattle.es_left.proofs.left.nothing_left.Goals as goal

pub returns : goal.returns
returns c = left_none c.args.options.now c.args.program.now c.first_left.result c.is_none.result (sym c.is_none.ensures) c.first_left.ensures
