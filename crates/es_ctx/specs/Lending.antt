-- The scope table of a context that is lent to be changed.
use Rattle.std.specs.Borrow.{Lends, MutBor, Fml}
use Rattle.es_ctx.specs.contracts.ctx.TraverseCtx as ctx
use Rattle.es_ctx.specs.declared.ctx.TraverseCtx.{TraverseCtx}
use Rattle.es_scopes.specs.Table.{Table}
use Rattle.es_scopes.specs.contracts.scoping.Scoping as scoping

-- the context with another table
abbrev pub with_table : TraverseCtx → Table → TraverseCtx
with_table c t = record c { scoping = record c.scoping { scoping = t } }

-- c ends with what r holds last as its table
abbrev pub LendsTable : MutBor TraverseCtx → MutBor Table → Fml
LendsTable c r = Lends ctx.the_row scoping.the_row c r (with_table c.now)
