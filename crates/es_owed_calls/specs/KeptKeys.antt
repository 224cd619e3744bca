-- Names of classes, by the nodes and the references of a program.
use Rattle.std.specs.Prelude.{ℕ, List, [], ◌∷◌, Bool, false, not, ◌&&◌, ◌||◌, nat_eq, Option, Some}
use Rattle.es_base.specs.Preorder.{number_of, preorder}
use Rattle.es_base.specs.Tree.{Tree, child}
use Rattle.es_base.specs.declared.ledger.LedgerEntry.{LedgerEntry}
use Rattle.es_grouped.specs.Groups.{group}
use Rattle.es_grouped.specs.declared.Grouped.{Grouped}
use Rattle.es_lowered.specs.ClassNames.{class_numbers, is_written_at, naming, naming_in_source}
use Rattle.es_lowered.specs.Definitions.{class_identifiers, names_class}
use Rattle.es_node.specs.View.{kind_of}
use Rattle.es_steps.specs.PrivateNames.{is_class}
use Rattle.es_steps.specs.References.{Reference, resolve, has_number}
use Rattle.es_steps.specs.Values.{Referent, Bound}

-- whether the node has this number, and is a name of the class that is not written
abbrev pub is_name : ℕ → ℕ → List LedgerEntry → List Reference → List ℕ → Tree → Bool
is_name m n ledger rs ids t = nat_eq m (number_of t) && (names_class n ledger rs ids (child t) && not (is_written_at m rs))

-- the names of class n in what a source was lowered to
abbrev pub naming_in : ℕ → List LedgerEntry → Tree → ℕ → List ℕ
naming_in first ledger q n = naming n ledger (resolve q) (class_identifiers first n (preorder q)) (preorder q)

-- whether nodes of number m are names of class n in both
abbrev pub names_both : ℕ → List LedgerEntry → Tree → Tree → ℕ → ℕ → Bool
names_both first ledger p q n m = has_number m (naming_in_source first n p) && has_number m (naming_in first ledger q n)

-- ---- the classes of the source by what declares them

abbrev pub declared_by : Grouped ℕ → Option Referent → List ℕ
declared_by classes (Some (Bound b)) = group b classes
declared_by classes r = []

abbrev pub any_class : List Tree → Bool
any_class [] = false
any_class (t ∷ ts) = is_class (kind_of t) || any_class ts

-- one of these is a class of the source, of which nodes of number m are names in both
abbrev pub any_named : ℕ → List LedgerEntry → Tree → Tree → List ℕ → ℕ → Bool
any_named first ledger p q [] m = false
any_named first ledger p q (n ∷ ns) m = (has_number n (class_numbers (preorder p)) && names_both first ledger p q n m) || any_named first ledger p q ns m
