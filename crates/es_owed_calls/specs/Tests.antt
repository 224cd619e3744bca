-- Tests that generated names are not `name`, and the keys behind them.
use Rattle.std.specs.Prelude.{List, [], ◌∷◌, ◌++◌, Bool, cond, ◌&&◌, bytes_eq, codes}
use Rattle.es_base.specs.Tree.{Tree, Part, Node, end, more, child, string}
use Rattle.es_base.specs.declared.kind.Kind.{Kind}
use Rattle.es_base.specs.declared.ledger.LedgerEntry.{LedgerEntry}
use Rattle.es_lowered.specs.Definitions.{spelling}
use Rattle.es_lowered.specs.HelperCalls.{StaticKey, is_generated_name, is_name_literal, not_among}
use Rattle.es_steps.specs.Values.{String}

-- `_key !== "name"`
abbrev pub is_name_test : List LedgerEntry → String → Part → Part → Bool
is_name_test ledger s l r = bytes_eq s (codes "!==") && (is_generated_name ledger l && is_name_literal r)

-- the names that are tested, where all is a test
abbrev mutual
  pub tested_in : List LedgerEntry → Tree → List String
  tested_in ledger (Node Kind.LogicalExpression m span semantic_id (more (string s) (more l (more r end)))) = cond (bytes_eq s (codes "&&")) (tested_at ledger l ++ tested_at ledger r) []
  tested_in ledger (Node Kind.BinaryExpression m span semantic_id (more (string s) (more l (more r end)))) = cond (is_name_test ledger s l r) (spelling l ∷ []) []
  tested_in ledger t = []

  pub tested_at : List LedgerEntry → Part → List String
  tested_at ledger (child t) = tested_in ledger t
  tested_at ledger p = []

-- the keys behind tests of these names
abbrev pub behind : List String → List StaticKey → List StaticKey
behind tested [] = []
behind tested (k ∷ ks) = not_among tested k ++ behind tested ks
