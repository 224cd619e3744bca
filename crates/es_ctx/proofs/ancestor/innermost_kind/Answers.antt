use Rattle.std.proofs.Common.{sym}
use Rattle.es_ctx.proofs.Last.{last_kind}
use Rattle.es_ctx.proofs.ancestor.innermost_kind.Goals as goal

pub returns-in-Some : goal.returns-in-Some
returns-in-Some c = sym (last_kind c.args.around.now c.in-Some.ancestor.now (sym c.in-Some.ensures.value))
