-- Names of a class that are asked for, by those of the source.
use Rattle.std.specs.Prelude.{ℕ, List, Bool, not, ◌&&◌}
use Rattle.es_base.specs.Preorder.{preorder}
use Rattle.es_base.specs.Tree.{Tree}
use Rattle.es_base.specs.declared.ledger.LedgerEntry.{LedgerEntry}
use Rattle.es_lowered.specs.ClassNames.{MovedFunction, any_name, asked_references, class_runs, free_naming, functions_outside, kept_places, names_holding, naming, stand_in_time, without}
use Rattle.es_lowered.specs.Definitions.{class_identifiers}
use Rattle.es_steps.specs.References.{resolve}

-- of these names of class n in the source p those that may stand in q where they stand, and do
abbrev pub kept_names : ℕ → Tree → Tree → ℕ → List ℕ → List ℕ
kept_names first p q n names = kept_places first n p q names (free_naming (class_runs n (preorder q)) n (preorder p) (preorder q) names)

-- the references to names of class n in q, but those that write one
abbrev pub naming_in_lowered : ℕ → List LedgerEntry → Tree → ℕ → List ℕ
naming_in_lowered first ledger q n = naming n ledger (resolve q) (class_identifiers first n (preorder q)) (preorder q)

-- the references to names of the class that are asked for, these being those of the source
abbrev pub asked_besides : ℕ → List LedgerEntry → Tree → Tree → ℕ → List ℕ → List ℕ
asked_besides first ledger p q n names = without (kept_names first p q n names) (naming_in_lowered first ledger q n)

-- whether names that are asked for are read behind the class, or in its elements
abbrev pub read_in_time : ℕ → List LedgerEntry → Tree → ℕ → List ℕ → Bool
read_in_time first ledger q n names =
    let fs : List MovedFunction = functions_outside ledger q n in
    not (class_runs n (preorder q) && any_name (names_holding names fs)) && stand_in_time first q n (asked_references ledger q n fs names)
