-- Which programs are valid, and the first fault of one that is not.
use Rattle.std.specs.Prelude.{◌≡◌, ℕ, ◌≤◌, ◌<◌, List, [], ◌++◌, map, Bool, false, ◌&&◌, nat_le, is_none, Option, Some}
use Rattle.es_base.specs.Preorder.{nodes}
use Rattle.es_base.specs.Tree.{Tree}
use Rattle.es_steps.specs.FirstForm.{most_nodes}
use Rattle.es_steps.specs.declared.options.Options.{Options}
use Rattle.es_validity.specs.Facts.{Facts, facts_of}
use Rattle.es_validity.specs.Faults.{FaultAt, fault_at, first_of_all, tree_faults}
use Rattle.es_validity.specs.Privates.{private_faults}
use Rattle.es_validity.specs.declared.error.LowerError.{LowerError}
use Rattle.es_validity.specs.declared.fault.Cause.{Cause}
use Rattle.es_validity.specs.declared.fault.LeftOut.{LeftOut}
use Rattle.es_validity.specs.declared.fault.TreeRule.{TreeRule}

abbrev pub fact_faults : Facts → List FaultAt
fact_faults facts =
    map (fault_at (Cause.BadTree TreeRule.RepeatedName)) facts.repeated_names ++ map (fault_at (Cause.Unsupported LeftOut.Eval)) facts.eval_calls

-- the faults of a program, whose nodes of these numbers have members outside the table, with these facts on its names
abbrev pub all_faults : Options → List ℕ → Facts → Tree → List FaultAt
all_faults o foreign facts t = tree_faults o t ++ (private_faults [] false t ++ (fact_faults facts ++ map (fault_at (Cause.Unsupported LeftOut.Foreign)) foreign))

abbrev pub first_fault_by : Facts → Options → List ℕ → Tree → Option FaultAt
first_fault_by facts o foreign t = first_of_all (all_faults o foreign facts t)

abbrev pub is_valid_by : Facts → Options → List ℕ → Tree → Bool
is_valid_by facts o foreign t = nat_le (nodes t) most_nodes && is_none (first_fault_by facts o foreign t)

abbrev pub first_fault : Options → List ℕ → Tree → Option FaultAt
first_fault o foreign t = first_fault_by (facts_of t) o foreign t

abbrev pub is_valid : Options → List ℕ → Tree → Bool
is_valid o foreign t = is_valid_by (facts_of t) o foreign t

-- why a program is refused: its size comes first
abbrev pub IsFirst : Facts → Options → List ℕ → Tree → ℕ → Cause → Type 0
IsFirst facts o foreign t m cause = (nodes t ≤ most_nodes) × (first_fault_by facts o foreign t ≡ Some (fault_at cause m))

-- the error that says this
abbrev pub IsErrorOf : ℕ → Cause → LowerError → Type 0
IsErrorOf m cause (LowerError.BadTree node rule) = (node.0 ≡ m) × (Cause.BadTree rule ≡ cause)
IsErrorOf m cause (LowerError.DuplicatePrivate node) = (node.0 ≡ m) × (Cause.DuplicatePrivate ≡ cause)
IsErrorOf m cause (LowerError.UndeclaredPrivate node) = (node.0 ≡ m) × (Cause.UndeclaredPrivate ≡ cause)
IsErrorOf m cause (LowerError.Unsupported node what) = (node.0 ≡ m) × (Cause.Unsupported what ≡ cause)
IsErrorOf m cause e = ⊥

abbrev pub IsRefusedBy : Facts → Options → List ℕ → Tree → LowerError → Type 0
IsRefusedBy facts o foreign t LowerError.NoMemory = Unit {0}
IsRefusedBy facts o foreign t (LowerError.Unsupported node what) = IsFirst facts o foreign t node.0 (Cause.Unsupported what)
IsRefusedBy facts o foreign t (LowerError.UndeclaredPrivate node) = IsFirst facts o foreign t node.0 Cause.UndeclaredPrivate
IsRefusedBy facts o foreign t (LowerError.DuplicatePrivate node) = IsFirst facts o foreign t node.0 Cause.DuplicatePrivate
IsRefusedBy facts o foreign t (LowerError.BadTree node rule) = IsFirst facts o foreign t node.0 (Cause.BadTree rule)
IsRefusedBy facts o foreign t (LowerError.TooLarge n) = (n ≡ nodes t) × (most_nodes < nodes t)
IsRefusedBy facts o foreign t (LowerError.NotYet node) = ⊥
