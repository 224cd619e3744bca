-- The pair of programs that a value is (docs/JSON.md).
use Rattle.std.specs.Prelude.{ℕ, List, [], ◌∷◌, Option, Some, None, option_and_then}
use Rattle.std.specs.Result.{result_ok}
use Rattle.serde_json.specs.Data.{Data, Items, no_items, item}
use Rattle.serde_json.specs.Find.{as_array}
use Rattle.es_base.specs.Tree.{Tree}
use Rattle.es_base.specs.declared.ledger.LedgerEntry.{LedgerEntry}
use Rattle.es_ledger.specs.Ledger.{ledger_in}
use Rattle.es_reading.specs.Fault.{Read}
use Rattle.es_reading.specs.Reading.{read, root}
use Rattle.es_reading.specs.declared.numbers.Numbers.{Numbers}

-- a source, the numbers of its nodes that have members outside the table, and a lowered program with its generated names
pub record Pair : Type 0 where
  pub source : Tree
  pub foreign : List ℕ
  pub lowered : Tree
  pub names : List LedgerEntry

-- a tree none of whose nodes has members outside the table
abbrev pub shown : Tree → List ℕ → Option Tree
shown t [] = Some t
shown t (n ∷ ns) = None

-- the source that a value is, numbered in preorder
abbrev pub source_in : Data → Option (Read Tree)
source_in d = result_ok (read Numbers.Preorder d root 0)

-- the lowered program that a value is, with the numbers of the members `node`
abbrev pub lowered_in : Data → Option Tree
lowered_in d = option_and_then (λ r. shown r.value r.foreign) (result_ok (read Numbers.Given d root 0))

abbrev pub pair_by : Option (Read Tree) → Option Tree → Option (List LedgerEntry) → Option Pair
pair_by (Some p) (Some q) (Some names) = Some (record { source = p.value; foreign = p.foreign; lowered = q; names = names })
pair_by p q names = None

abbrev pub pair_between : Data → Data → Option Pair
pair_between source lowered = pair_by (source_in source) (lowered_in lowered) (ledger_in lowered)

abbrev pub pair_of_items : Items → Option Pair
pair_of_items (item source (item lowered no_items)) = pair_between source lowered
pair_of_items ds = None

-- of a list of two
abbrev pub pair_in : Data → Option Pair
pair_in d = option_and_then pair_of_items (as_array d)
