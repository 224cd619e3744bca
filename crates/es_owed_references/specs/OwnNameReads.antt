-- Reads of the names of classes, by their identifiers.
use Rattle.std.specs.Prelude.{ℕ, List, [], ◌∷◌, Bool, not, ◌&&◌}
use Rattle.es_base.specs.Preorder.{number_of, preorder_of_part}
use Rattle.es_base.specs.Tree.{Tree, Part}
use Rattle.es_base.specs.declared.ledger.LedgerEntry.{LedgerEntry}
use Rattle.es_lowered.specs.ClassNames.{MovedFunction, any_among, numbers_of, outside_class, reaching}
use Rattle.es_lowered.specs.OwnNames.{any_declares, class_identifiers, references_to}
use Rattle.es_steps.specs.References.{Reference, has_number}

-- whether declarator m, which gives e to identifier t, reads that too early
abbrev pub reads_by : List LedgerEntry → List MovedFunction → List Tree → List Tree → List Reference → ℕ → Tree → Part → Bool
reads_by ledger fs ps qs rs m t e = not (any_declares m (number_of t) ps) && (has_number (number_of t) (class_identifiers ps) && any_among (numbers_of (preorder_of_part e)) (reaching ledger (outside_class (m ∷ []) fs) rs qs (references_to (number_of t ∷ []) rs)))
