-- What is judged to be right, is owed.
use Rattle.std.proofs.Common.{inl, inr, ◌≡◌, refl, sym, ap, ◌∙◌, subst, ℕ, List, [], ◌∷◌, true, false, true≢false}
use Rattle.std.specs.Prelude.{◌⊎◌}
use Rattle.es_base.specs.Preorder.{nodes}
use Rattle.es_base.specs.Tree.{Tree}
use Rattle.es_base.specs.declared.ledger.LedgerEntry.{LedgerEntry}
use Rattle.es_base.specs.declared.shape.Shape.{Shape}
use Rattle.es_lowered.specs.Lowered.{IsLowered, IsUnchanged}
use Rattle.es_steps.specs.LoweredClasses.{has_lowered_class, nothing_left}
use Rattle.es_steps.specs.Meaning.{Meaning, has_meaning, lowered_means, source_means}
use Rattle.es_steps.specs.Shapes.{shapes}
use Rattle.es_steps.specs.declared.options.Options.{Options}
use Rattle.lower_run.specs.Lowering.{IsOwed, IsPlain}
use Rattle.lower_with.specs.Judged.{IsJudged}
use Rattle.step_check.specs.Comparison.{AreOne}
use Rattle.step_check.specs.Judged.{IsRight}
use Rattle.step_check.specs.declared.verdict.Verdict.{Verdict}

pub cons_none : (s : Shape) (ss : List Shape) → s ∷ ss ≡ [] → ⊥
cons_none s ss e = cc

module _ (o : Options) (names : List LedgerEntry) (p q : Tree) (some : nothing_left o p ≡ false) (classes : has_lowered_class o p ≡ true) where
  changed : IsUnchanged o names p q
  changed none = absurd (true≢false (sym classes ∙ none))

  one-same : AreOne (source_means o p) (lowered_means o names p q) → lowered_means o names p q ≡ source_means o p
  one-same one = one.right ∙ sym one.left

  one-meant : AreOne (source_means o p) (lowered_means o names p q) → has_meaning (source_means o p) ≡ true
  one-meant one = ap has_meaning one.left

  -- without a shape
  right-owed : IsRight (nodes p) o names p q → IsOwed (IsPlain o p) o p names q
  right-owed right = record { owed = right.lowered; unchanged = changed; same = λ plain. one-same right.meaning; meant = λ plain left. one-meant right.meaning }

  -- with one
  clauses-owed : ¬ (shapes o p ≡ []) → IsLowered (nodes p) o names p q → IsOwed (IsPlain o p) o p names q
  clauses-owed shaped lowered = record { owed = lowered; unchanged = changed; same = λ plain. absurd (none plain); meant = λ plain left. absurd (none plain) }
    where
      none : IsPlain o p → ⊥
      none (inl nothing) = true≢false (sym nothing ∙ some)
      none (inr without) = shaped without

  pub judged_owed : IsJudged Verdict.Yes o names p q → IsOwed (IsPlain o p) o p names q
  judged_owed judged = by (shapes o p) refl judged
    where
      by : (ss : List Shape) → shapes o p ≡ ss → IsJudged Verdict.Yes o names p q → IsOwed (IsPlain o p) o p names q
      by [] is j = right-owed (j.shapeless is)
      by (s ∷ ss) is j = clauses-owed (λ none. cons_none s ss (sym is ∙ none)) (j.shaped (λ none. cons_none s ss (sym is ∙ none)))
