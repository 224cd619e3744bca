-- A lowered program with its scope table.
use Rattle.std.specs.Prelude.{◌≡◌, ℕ, List}
use Rattle.es_base.specs.Tree.{Tree}
use Rattle.es_base.specs.declared.ledger.LedgerEntry.{LedgerEntry}
use Rattle.es_scopes.specs.Built.{built_table}
use Rattle.es_scopes.specs.Table.{Table}
use Rattle.es_scopes_law.specs.Build.{built_tree}
use Rattle.es_steps.specs.declared.options.Options.{Options}
use Rattle.lower_es2022.specs.Own.{IsMade}

-- this is the scope table of what p is lowered to, with these generated names, and t that program with the numbers of the table
-- on its nodes
pub record IsScoped (o : Options) (p : Tree) (foreign : List ℕ) (names : List LedgerEntry) (table : Table) (t : Tree) : Type 0 where
  pub q : Tree
  pub made : IsMade o p foreign names q
  pub built : t ≡ built_tree q
  pub scoped : table ≡ built_table q
