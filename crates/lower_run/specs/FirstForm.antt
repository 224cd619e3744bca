-- What is proved to be lowered: programs with nothing to lower, and those of the first form where fields are defined.
use Rattle.std.specs.Prelude.{◌≡◌, List, [], ℕ, Option, Some, None, ◌⊎◌, true, false, cond}
use Rattle.class_properties.specs.Lowering.{lowered}
use Rattle.class_properties.specs.Options.{defines_fields}
use Rattle.es_base.specs.Tree.{Tree}
use Rattle.es_base.specs.declared.ledger.LedgerEntry.{LedgerEntry}
use Rattle.es_left.specs.Left.{first_left}
use Rattle.es_steps.specs.FirstForm.{not_yet, is_first_form}
use Rattle.es_steps.specs.LoweredClasses.{nothing_left}
use Rattle.es_steps.specs.declared.options.Options.{Options}
use Rattle.es_lowering.specs.declared.lowering.Unlowered.{Unlowered}
use Rattle.lower_run.specs.Lowering.{IsOwed}

-- fields are defined, the program is of the first form, and none of its nodes has members outside the table
abbrev pub IsOfForm : Options → Tree → List ℕ → Type 0
IsOfForm o p foreign = (defines_fields o ≡ true) × (foreign ≡ []) × (is_first_form p [] ≡ true)

-- the number of the node that says why a program with something to lower is not lowered yet: the least that is not as the
-- form asks, where fields are defined, and else the first that is to be lowered
abbrev pub not_yet_lowered : Options → Tree → List ℕ → Option ℕ
not_yet_lowered o p foreign = cond (defines_fields o) (not_yet p foreign) (first_left o p)

-- what is made of a program that has nothing to lower or is of the form: no name is generated, and each keeps its meaning; of one
-- that has something to lower, just what the definition of its lowering says
pub record IsMade (o : Options) (p : Tree) (foreign : List ℕ) (names : List LedgerEntry) (q : Tree) : Type 0 where
  pub form : (nothing_left o p ≡ true) ⊎ IsOfForm o p foreign
  pub unnamed : names ≡ []
  pub exact : nothing_left o p ≡ false → q ≡ lowered p
  pub owed : IsOwed (Unit {0}) o p names q

-- why nothing is made of a program: it has something to lower, and is not lowered yet
abbrev pub IsNotYet : Options → Tree → List ℕ → Unlowered → Type 0
IsNotYet o p foreign (Unlowered.NotYet node) = (nothing_left o p ≡ false) × (not_yet_lowered o p foreign ≡ Some node.0)
IsNotYet o p foreign error = ⊥
