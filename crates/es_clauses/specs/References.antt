-- The clause on references, part by part.
use Rattle.std.specs.Prelude.{ℕ, List, Bool, ◌&&◌}
use Rattle.es_base.specs.Preorder.{preorder}
use Rattle.es_base.specs.Tree.{Tree}
use Rattle.es_base.specs.declared.ledger.LedgerEntry.{LedgerEntry}
use Rattle.es_lowered.specs.ClassLets.{class_lets_fit}
use Rattle.es_lowered.specs.ClassNames.{classes_timely}
use Rattle.es_lowered.specs.DeadZones.{dead_zones_stay}
use Rattle.es_lowered.specs.DefaultExport.{default_stays}
use Rattle.es_lowered.specs.HeadValues.{head_values_stay}
use Rattle.es_lowered.specs.KeptReferences.{inner_names_stay, plain_targets, writes_fit, writing_numbers}
use Rattle.es_lowered.specs.StrayNames.{private_names_stay}
use Rattle.es_lowered.specs.Supers.{supers_stay}
use Rattle.es_steps.specs.References.{resolve}
use Rattle.es_steps.specs.declared.options.Options.{Options}

abbrev pub places_stay : ℕ → List LedgerEntry → Tree → Tree → Bool
places_stay first ledger p q = classes_timely first ledger p q && (supers_stay p q && private_names_stay p q)

abbrev pub heads_stay : List LedgerEntry → Tree → Bool
heads_stay ledger q = head_values_stay ledger (resolve q) (preorder q)

abbrev pub zones_stay : ℕ → Options → List LedgerEntry → Tree → Tree → Bool
zones_stay first o ledger p q = dead_zones_stay first o ledger p q && heads_stay ledger q

abbrev pub lets_stay : ℕ → Options → List LedgerEntry → Tree → Tree → Bool
lets_stay first o ledger p q = class_lets_fit first (preorder p) q && zones_stay first o ledger p q

abbrev pub values_stay : ℕ → Options → List LedgerEntry → Tree → Tree → Bool
values_stay first o ledger p q = default_stays first p q && lets_stay first o ledger p q

abbrev pub inner_values_stay : ℕ → Options → List LedgerEntry → Tree → Tree → Bool
inner_values_stay first o ledger p q = inner_names_stay first p q && values_stay first o ledger p q

abbrev pub written_values_stay : ℕ → Options → List LedgerEntry → Tree → Tree → Bool
written_values_stay first o ledger p q = writes_fit first ledger (plain_targets (preorder q)) (writing_numbers (resolve p)) (resolve q) && inner_values_stay first o ledger p q
