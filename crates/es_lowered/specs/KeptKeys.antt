-- The computed keys of a source that are what they were in what it was lowered to: a node without an event is told by its number
-- alone, so a key that is a name has to mean there what it meant. (Our own.)
use Rattle.std.specs.Prelude.{ℕ, List, [], ◌∷◌, ◌++◌, Bool, true, false, cond, not, ◌&&◌, ◌||◌, nat_eq, bytes_eq, Option, Some, None}
use Rattle.es_base.specs.Preorder.{preorder}
use Rattle.es_base.specs.Tree.{Tree}
use Rattle.es_base.specs.declared.ledger.LedgerEntry.{LedgerEntry}
use Rattle.es_lowered.specs.ClassNames.{class_numbers, naming, naming_in_source}
use Rattle.es_lowered.specs.Definitions.{class_identifiers}
use Rattle.es_lowered.specs.HelperCalls.{computed_keys}
use Rattle.es_steps.specs.Expressions.{is_arguments}
use Rattle.es_steps.specs.LoweredClasses.{referent_of}
use Rattle.es_steps.specs.References.{Reference, resolve, has_number}
use Rattle.es_steps.specs.Values.{Referent, Bound, Free}

-- what was no name is none; a free `arguments` may be that of another function
abbrev pub means_the_same : Option Referent → Option Referent → Bool
means_the_same None None = true
means_the_same (Some (Bound b)) (Some (Bound c)) = nat_eq b c
means_the_same (Some (Free s)) (Some (Free t)) = bytes_eq s t && not (is_arguments s)
means_the_same r s = false

-- p is the source, and q what it was lowered to
module _ (first : ℕ) (ledger : List LedgerEntry) (p q : Tree) where
  -- a name of a class that is one of the same class
  abbrev pub names_one_class : List ℕ → ℕ → Bool
  names_one_class [] m = false
  names_one_class (n ∷ ns) m = (has_number m (naming_in_source first n p) && has_number m (naming n ledger (resolve q) (class_identifiers first n (preorder q)) (preorder q))) || names_one_class ns m

  abbrev pub which_stay : List Reference → List Reference → List ℕ → List ℕ
  which_stay ps qs [] = []
  which_stay ps qs (n ∷ ns) = cond (means_the_same (referent_of n ps) (referent_of n qs) || names_one_class (class_numbers (preorder p)) n) (n ∷ []) [] ++ which_stay ps qs ns

  abbrev pub keys_that_stay : List ℕ
  keys_that_stay = which_stay (resolve p) (resolve q) (computed_keys (preorder p))
