-- A valid program is not refused.
use Rattle.std.proofs.Common.{◌≡◌, sym, ap, ◌∙◌, ℕ, List, true, true≢false, arith}
use Rattle.std.specs.Prelude.{nat_le, is_none}
use Rattle.std.proofs.lemmas.Bool.{leb-true}
use Rattle.es_base.specs.Preorder.{nodes}
use Rattle.es_base.specs.Tree.{Tree}
use Rattle.es_node.proofs.Shapes.{left_of, right_of}
use Rattle.es_steps.specs.FirstForm.{most_nodes}
use Rattle.es_steps.specs.declared.options.Options.{Options}
use Rattle.es_validity.specs.Facts.{facts_of}
use Rattle.es_validity.specs.Validity.{first_fault, is_valid, IsFirst, IsRefusedBy}
use Rattle.es_validity.specs.declared.error.LowerError.{LowerError}
use Rattle.es_validity.specs.declared.fault.Cause as fault
use Rattle.lower_edge.specs.Ending.{IsRefusalText}

module _ (o : Options) (p : Tree) (foreign : List ℕ) (valid : is_valid o foreign p ≡ true) where
  small : nat_le (nodes p) most_nodes ≡ true
  small = left_of (nat_le (nodes p) most_nodes) (is_none (first_fault o foreign p)) valid

  no_first : (m : ℕ) (cause : fault.Cause) → IsFirst (facts_of p) o foreign p m cause → ⊥
  no_first m cause first = true≢false (sym (right_of (nat_le (nodes p) most_nodes) (is_none (first_fault o foreign p)) valid) ∙ ap is_none first.1)

  pub valid-unrefused : (error : LowerError) (text : List ℕ) → IsRefusedBy (facts_of p) o foreign p error → IsRefusalText error text → ⊥
  valid-unrefused LowerError.NoMemory text refused written = written
  valid-unrefused (LowerError.Unsupported node what) text refused written = no_first node.0 (fault.Cause.Unsupported what) refused
  valid-unrefused (LowerError.UndeclaredPrivate node) text refused written = no_first node.0 fault.Cause.UndeclaredPrivate refused
  valid-unrefused (LowerError.DuplicatePrivate node) text refused written = no_first node.0 fault.Cause.DuplicatePrivate refused
  valid-unrefused (LowerError.BadTree node rule) text refused written = no_first node.0 (fault.Cause.BadTree rule) refused
  valid-unrefused (LowerError.TooLarge n) text refused written = omega (arith, leb-true (nodes p) most_nodes small, refused.1)
  valid-unrefused (LowerError.NotYet node) text refused written = refused
