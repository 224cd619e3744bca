-- Which clause of a lowered program is the first that it does not meet.
use Rattle.std.specs.Prelude.{ℕ, List, [], ◌∷◌, Bool, cond, Option, Some, None}
use Rattle.es_base.specs.Preorder.{preorder}
use Rattle.es_base.specs.Tree.{Tree}
use Rattle.es_base.specs.declared.ledger.LedgerEntry.{LedgerEntry}
use Rattle.es_clauses.specs.declared.clause.Clause.{Clause}
use Rattle.es_lowered.specs.Carriers.{numbers_carried}
use Rattle.es_lowered.specs.Definitions.{all_temporaries, definitions_stand, elements_kept}
use Rattle.es_lowered.specs.HelperCalls.{helper_calls_fit}
use Rattle.es_lowered.specs.KeptKeys.{keys_that_stay}
use Rattle.es_lowered.specs.KeptReferences.{references_stay}
use Rattle.es_lowered.specs.Lowered.{declarations_accounted, initializations_stand, keys_stand, names_declared}
use Rattle.es_lowered.specs.OwnNames.{own_names_stay}
use Rattle.es_lowered.specs.Temporaries.{temporaries_steady}
use Rattle.es_lowered.specs.Texts.{texts_stay}
use Rattle.es_lowered.specs.Timely.{names_timely}
use Rattle.es_steps.specs.KeptNodes.{classes_kept, homes_kept, lists_kept, nodes_kept, statements_kept}
use Rattle.es_steps.specs.LoweredClasses.{nothing_left}
use Rattle.es_steps.specs.Printable.{stays_printable}
use Rattle.es_steps.specs.PrivateNames.{private_members}
use Rattle.es_steps.specs.Strict.{none_becomes_strict}
use Rattle.es_steps.specs.declared.options.Options.{Options}

-- whether a clause holds: the members of `MeetsClauses`
abbrev pub holds : Clause → ℕ → Options → List LedgerEntry → Tree → Tree → Bool
holds Clause.Left first o ledger p q = nothing_left o q
holds Clause.Declared first o ledger p q = names_declared first ledger q
holds Clause.Accounted first o ledger p q = declarations_accounted first ledger p q
holds Clause.Names first o ledger p q = own_names_stay ledger p q
holds Clause.References first o ledger p q = references_stay first o ledger p q
holds Clause.Strict first o ledger p q = none_becomes_strict first p q
holds Clause.Texts first o ledger p q = texts_stay first p q
holds Clause.Initialized first o ledger p q = initializations_stand first ledger p q ledger
holds Clause.Timely first o ledger p q = names_timely first ledger (private_members p) q
holds Clause.Temporaries first o ledger p q = temporaries_steady first ledger (private_members p) q
holds Clause.Keys first o ledger p q = keys_stand first o ledger (private_members p) q (all_temporaries first o ledger (private_members p) q (preorder q))
holds Clause.Carriers first o ledger p q = numbers_carried first p q
holds Clause.Nodes first o ledger p q = nodes_kept p q
holds Clause.Classes first o ledger p q = classes_kept first p q
holds Clause.Statements first o ledger p q = statements_kept o p q
holds Clause.Lists first o ledger p q = lists_kept o p q
holds Clause.Homes first o ledger p q = homes_kept first o p q
holds Clause.Definitions first o ledger p q = definitions_stand first o ledger (private_members p) p q
holds Clause.Elements first o ledger p q = elements_kept o (preorder p) (preorder q)
holds Clause.Calls first o ledger p q = helper_calls_fit first ledger (keys_that_stay first ledger p q) q
holds Clause.Printable first o ledger p q = stays_printable p q

-- those that are asked in front of the meaning, in order: all but the clause on texts
abbrev pub in_order : List Clause
in_order =
    Clause.Left ∷ Clause.Declared ∷ Clause.Accounted ∷ Clause.Initialized ∷ Clause.Timely ∷ Clause.Temporaries ∷ Clause.Keys
    ∷ Clause.Names ∷ Clause.References ∷ Clause.Strict ∷ Clause.Carriers ∷ Clause.Nodes ∷ Clause.Classes ∷ Clause.Statements
    ∷ Clause.Lists ∷ Clause.Homes ∷ Clause.Printable ∷ Clause.Definitions ∷ Clause.Elements ∷ Clause.Calls ∷ []

-- the first of these clauses that does not hold
abbrev pub first_unmet : List Clause → ℕ → Options → List LedgerEntry → Tree → Tree → Option Clause
first_unmet [] first o ledger p q = None
first_unmet (k ∷ ks) first o ledger p q = cond (holds k first o ledger p q) (first_unmet ks first o ledger p q) (Some k)
