-- What stays of a context in a call.
use Rattle.std.specs.Prelude.{◌≡◌, []}
use Rattle.es_base.specs.Preorder.{nodes}
use Rattle.es_base.specs.Tree.{Tree}
use Rattle.es_ctx.specs.declared.ctx.TraverseCtx.{TraverseCtx}
use Rattle.es_names.specs.Taken.{with_strings}
use Rattle.es_scopes.specs.Table.{Table}
use Rattle.es_steps.specs.declared.options.CompilerAssumptions.{CompilerAssumptions}
use Rattle.program_names.specs.Spelled.{spelled}

-- what the walk hands on at its end
pub record KeepsOutcome (old new : TraverseCtx) : Type 0 where
  pub scoping : new.scoping ≡ old.scoping
  pub assumptions : new.assumptions ≡ old.assumptions
  pub diagnostics : new.diagnostics ≡ old.diagnostics

-- where the walk stands, the number that is given next, and what is kept for the lists
pub record KeepsPosition (old new : TraverseCtx) : Type 0 where
  pub next : new.next ≡ old.next
  pub path : new.path ≡ old.path
  pub lists : new.lists ≡ old.lists

-- a context at the root of a program
pub record BeginsAt (program : Tree) (t : Table) (a : CompilerAssumptions) (c : TraverseCtx) : Type 0 where
  pub next : c.next ≡ nodes program
  pub path : c.path ≡ []
  pub lists : c.lists ≡ []
  pub table : c.scoping.scoping ≡ t
  pub names : c.scoping.names ≡ with_strings [] (spelled program)
  pub ledger : c.scoping.ledger ≡ []
  pub assumptions : c.assumptions ≡ a
  pub diagnostics : c.diagnostics ≡ []
