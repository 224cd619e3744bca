-- The temporaries that keep keys, part by part.
use Rattle.std.specs.Prelude.{ℕ, List, [], ◌∷◌, cond}
use Rattle.es_base.specs.Tree.{Tree, Node}
use Rattle.es_base.specs.declared.ledger.LedgerEntry.{LedgerEntry}
use Rattle.es_lowered.specs.Definitions as spec
use Rattle.es_owed_definitions.specs.declared.terms.Terms.{Terms}
use Rattle.es_steps.specs.Context.{generated_as}
use Rattle.es_steps.specs.PrivateNames.{PrivateMember, is_class}
use Rattle.es_steps.specs.Values.{String}

abbrev pub temporary_of : List LedgerEntry → ℕ → String → List (String × ℕ)
temporary_of ledger n s = cond (spec.is_temporary (generated_as s ledger)) ((s, n) ∷ []) []

abbrev pub temporaries_at : Terms → List PrivateMember → Tree → Tree → List (String × ℕ)
temporaries_at o members q (Node kind n span semantic_id ps) = cond (is_class kind) (spec.with_class n (spec.class_temporaries o.first o.options.now o.ledger.now members q n)) []
