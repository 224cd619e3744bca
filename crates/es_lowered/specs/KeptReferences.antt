-- Names are read and written where they may be, and `super` stands where it may. (Our own.)
use Rattle.std.specs.Prelude.{ℕ, List, [], ◌∷◌, ◌++◌, Bool, true, false, cond, not, ◌&&◌, ◌||◌, bytes_eq, codes}
use Rattle.es_base.specs.Numbered.{is_new}
use Rattle.es_base.specs.Preorder.{preorder}
use Rattle.es_base.specs.Tree.{Tree, Node}
use Rattle.es_base.specs.declared.kind.Kind.{Kind}
use Rattle.es_base.specs.declared.ledger.LedgerEntry.{LedgerEntry}
use Rattle.es_lowered.specs.ClassLets.{class_lets_fit}
use Rattle.es_lowered.specs.ClassNames.{classes_timely}
use Rattle.es_lowered.specs.DeadZones.{dead_zones_stay}
use Rattle.es_lowered.specs.DefaultExport.{default_stays}
use Rattle.es_lowered.specs.FunctionsAround.{PlacedReference, placed_references, all_stand_where}
use Rattle.es_lowered.specs.HelperCalls.{part_number}
use Rattle.es_lowered.specs.HeadValues.{head_values_stay}
use Rattle.es_lowered.specs.StrayNames.{private_names_stay}
use Rattle.es_lowered.specs.Supers.{supers_stay}
use Rattle.es_steps.specs.Context.{is_generated}
use Rattle.es_steps.specs.Parts.{at, string_of}
use Rattle.es_steps.specs.References.{Reference, resolve, has_number, gives_inside}
use Rattle.es_steps.specs.declared.options.Options.{Options}

-- ---- a reference writes a generated name, or writes in the source, too; and a generated name is written by a new reference, by `=`
-- or an update: what a pattern writes comes before the end of the pattern (13.15.5.2)

abbrev pub plain_target : Tree → List ℕ
plain_target (Node Kind.AssignmentExpression m span semantic_id ps) = cond (bytes_eq (string_of (at 0 ps)) (codes "=")) (part_number (at 1 ps)) []
plain_target (Node Kind.UpdateExpression m span semantic_id ps) = part_number (at 1 ps)
plain_target t = []

abbrev pub plain_targets : List Tree → List ℕ
plain_targets [] = []
plain_targets (t ∷ ts) = plain_target t ++ plain_targets ts

abbrev pub writing_numbers : List Reference → List ℕ
writing_numbers [] = []
writing_numbers (r ∷ rs) = cond r.writes (r.number ∷ []) [] ++ writing_numbers rs

abbrev pub write_fits : ℕ → List LedgerEntry → List ℕ → List ℕ → Reference → Bool
write_fits first ledger targets old r = not r.writes || cond (is_generated r.spelling ledger) (is_new first r.number && has_number r.number targets) (has_number r.number old)

abbrev pub writes_fit : ℕ → List LedgerEntry → List ℕ → List ℕ → List Reference → Bool
writes_fit first ledger targets old [] = true
writes_fit first ledger targets old (r ∷ rs) = write_fits first ledger targets old r && writes_fit first ledger targets old rs

-- ---- the name of a function in a block is read in the functions of the source in which it was, constructors aside: in sloppy
-- code it means a `var` of these (B.3.2)

abbrev pub inner_references : ℕ → List Tree → Tree → List PlacedReference
inner_references first ps t = placed_references first (λ m s. gives_inside s ps) false [] t

abbrev pub inner_names_stay : ℕ → Tree → Tree → Bool
inner_names_stay first p q = all_stand_where first (inner_references first (preorder p) q) (inner_references first (preorder p) p)

abbrev pub references_stay : ℕ → Options → List LedgerEntry → Tree → Tree → Bool
references_stay first o ledger p q = (classes_timely first ledger p q && (supers_stay p q && private_names_stay p q)) && (writes_fit first ledger (plain_targets (preorder q)) (writing_numbers (resolve p)) (resolve q) && (inner_names_stay first p q && (default_stays first p q && (class_lets_fit first (preorder p) q && (dead_zones_stay first o ledger p q && head_values_stay ledger (resolve q) (preorder q))))))
