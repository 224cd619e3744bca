-- Nodes that give values to names which stand for `super(..)`, by their classes.
use Rattle.std.specs.Prelude.{ℕ, List, [], ◌∷◌, ◌++◌, cond, Option, Some, None}
use Rattle.std.proofs.Common.{Bor}
use Rattle.es_base.specs.Tree.{Tree}
use Rattle.es_base.specs.declared.ledger.GeneratedKind.{GeneratedKind}
use Rattle.es_base.specs.declared.ledger.LedgerEntry.{LedgerEntry}
use Rattle.es_lowered.specs.Definitions.{given_to, is_super_of, spelling}
use Rattle.es_node.specs.View.{kind_of, parts_in}
use Rattle.es_steps.specs.Context.{generated_as}

abbrev pub super_class : Option GeneratedKind → Option ℕ
super_class (Some (GeneratedKind.SuperFn n)) = Some n.0
super_class g = None

-- what the name that a node gives a value was generated as
abbrev pub given_kind : List LedgerEntry → Tree → Option GeneratedKind
given_kind ledger t = generated_as (spelling (given_to (kind_of t) (parts_in t))) ledger

-- those of class n
abbrev pub supers_of : List LedgerEntry → ℕ → List Tree → List Tree
supers_of ledger n [] = []
supers_of ledger n (t ∷ ts) = cond (is_super_of n (given_kind ledger t)) (t ∷ []) [] ++ supers_of ledger n ts

-- each with its class
abbrev pub of_class : Option ℕ → Bor Tree → List (ℕ × Bor Tree)
of_class None x = []
of_class (Some n) x = (n, x) ∷ []

abbrev pub super_pair : List LedgerEntry → Bor Tree → List (ℕ × Bor Tree)
super_pair ledger x = of_class (super_class (given_kind ledger x.now)) x

abbrev pub super_pairs : List LedgerEntry → List (Bor Tree) → List (ℕ × Bor Tree)
super_pairs ledger [] = []
super_pairs ledger (x ∷ xs) = super_pair ledger x ++ super_pairs ledger xs
