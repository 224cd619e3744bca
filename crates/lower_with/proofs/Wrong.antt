-- What is judged to be right is not judged to be wrong.
use Rattle.std.proofs.Common.{inl, inr, ◌≡◌, refl, sym, ◌∙◌, subst, ℕ, List, [], ◌∷◌, ◌++◌, Option, Some, None, true, false, true≢false}
use Rattle.std.proofs.lemmas.List.{append_cancel_left}
use Rattle.std.specs.Prelude.{◌⊎◌}
use Rattle.es_base.specs.Preorder.{nodes}
use Rattle.es_base.specs.Tree.{Tree}
use Rattle.es_base.specs.declared.ids.NodeId.{NodeId}
use Rattle.es_base.specs.declared.ledger.LedgerEntry.{LedgerEntry}
use Rattle.es_base.specs.declared.shape.Shape.{Shape}
use Rattle.es_clauses.proofs.Meeting.{none_unmet}
use Rattle.es_clauses.specs.Clauses.{first_unmet, in_order}
use Rattle.es_clauses.specs.declared.clause.Clause.{Clause}
use Rattle.es_lowered.specs.Lowered.{IsLowered}
use Rattle.es_meanings.specs.Differences.{DifferAt, DifferFirst, IsFirst}
use Rattle.es_meanings.specs.declared.difference.Difference.{Difference}
use Rattle.es_meanings.specs.declared.part.EntryPart.{EntryPart}
use Rattle.es_steps.specs.Meaning.{Meaning}
use Rattle.es_steps.specs.Shapes.{shapes}
use Rattle.es_steps.specs.declared.options.Options.{Options}
use Rattle.lower_with.proofs.Right.{cons_none}
use Rattle.lower_with.specs.Judged.{IsJudged, IsWrong}
use Rattle.lower_with.specs.Law.{MakesRight, RightLaw}
use Rattle.step_check.specs.Comparison as comparison
use Rattle.step_check.specs.Comparison.{AreOne, Differ}
use Rattle.step_check.specs.Judged.{FailsClauses, FailsIn, IsRight}
use Rattle.step_check.specs.declared.verdict.Part.{Part}
use Rattle.step_check.specs.declared.verdict.Verdict.{Verdict}

-- ---- a meaning does not differ from itself

at_itself : {A : Type 0} (n : ℕ) (xs : List (ℕ × A)) → DifferAt n xs xs → ⊥
at_itself n [] d = d
at_itself n (x ∷ xs) d = d.0 refl

first_in_itself : {A : Type 0} (n : ℕ) (xs : List (ℕ × A)) → DifferFirst n xs xs → ⊥
first_in_itself {A} n xs d =
    let same : d.left ≡ d.right = append_cancel_left d.front d.left d.right (sym d.left_is ∙ d.right_is) in
    at_itself n d.right (subst (λ (ls : List (ℕ × A)). DifferAt n ls d.right) same d.differ)

itself : (d : Difference) (m : Meaning) → IsFirst d m m → ⊥
itself Difference.Program m h = h refl
itself (Difference.Entry n) m h = first_in_itself n m.entries h.1
itself Difference.Private m h = h.1 refl
itself Difference.Declaration m h = h.1 (record { functions = refl; bindings = refl; globals = refl }, record { shared = refl; places = refl; branches = refl })
itself Difference.Export m h = h.1.1 (record { source_type = refl; links = refl; exports = refl })

some_same : {A : Type 0} {x y : A} {a : Option A} → a ≡ Some x → a ≡ Some y → x ≡ y
some_same e f = cc

some_none : {A B : Type 0} {x : A} {a : Option A} → a ≡ Some x → a ≡ None → B
some_none e f = cc

first_of_one : (d : Difference) (a b : Option Meaning) (one other : Meaning) → AreOne a b → a ≡ Some one → b ≡ Some other → IsFirst d one other → ⊥
first_of_one d a b one other are left right first =
    itself d are.meaning (subst (λ (m : Meaning). IsFirst d m are.meaning) (some_same left are.left) (subst (λ (m : Meaning). IsFirst d one m) (some_same right are.right) first))

differ_one : (d : Difference) (a b : Option Meaning) → AreOne a b → Differ d a b → ⊥
differ_one d a b are h = first_of_one d a b h.one h.other are h.left h.right h.first

differ_at_one : (part : EntryPart) (node : ℕ) (a b : Option Meaning) → AreOne a b → comparison.DifferAt part node a b → ⊥
differ_at_one part node a b are h = first_of_one (Difference.Entry node) a b h.one h.other are h.left h.right h.first

-- ---- what is right fails in nothing

module _ (first : ℕ) (o : Options) (names : List LedgerEntry) (p q : Tree) where
  unmet_none : IsLowered first o names p q → (c : Clause) → first_unmet in_order first o names p q ≡ Some c → ⊥
  unmet_none lowered c unmet = some_none unmet (none_unmet first o names p q lowered.clauses)

  fails_in : (part : Part) (node : ℕ) → IsRight first o names p q → FailsIn part node first o names p q → ⊥
  fails_in Part.Numbers node right h = h.0 right.lowered.numbered
  fails_in (Part.Lowered c) node right h = unmet_none right.lowered c h.1.0
  fails_in Part.Texts node right h = true≢false (sym right.lowered.clauses.texts ∙ h.1.1.0)
  fails_in Part.NoMeaning node right h = elim h.1.0 [ inl none ↦ some_none right.meaning.left none | inr none ↦ some_none right.meaning.right none ]
  fails_in Part.Program node right h = differ_one Difference.Program _ _ right.meaning h.1.0
  fails_in Part.Function node right h = differ_at_one EntryPart.Function node _ _ right.meaning h.1
  fails_in Part.Class node right h = differ_at_one EntryPart.Class node _ _ right.meaning h.1
  fails_in Part.Construction node right h = differ_at_one EntryPart.Construction node _ _ right.meaning h.1
  fails_in Part.Private node right h = differ_one Difference.Private _ _ right.meaning h.1.0
  fails_in Part.Declaration node right h = differ_one Difference.Declaration _ _ right.meaning h.1.0
  fails_in Part.Export node right h = differ_one Difference.Export _ _ right.meaning h.1.0

  fails_clauses : (part : Part) (node : ℕ) → IsLowered first o names p q → FailsClauses part node first o names p q → ⊥
  fails_clauses Part.Numbers node lowered h = h.0 lowered.numbered
  fails_clauses (Part.Lowered c) node lowered h = unmet_none lowered c h.1.0
  fails_clauses Part.Texts node lowered h = true≢false (sym lowered.clauses.texts ∙ h.1.0)
  fails_clauses part node lowered h = absurd h

judged_wrong : (o : Options) (names : List LedgerEntry) (p q : Tree) (part : Part) (node : NodeId) → IsJudged Verdict.Yes o names p q → IsJudged (Verdict.No part node) o names p q → ⊥
judged_wrong o names p q part node right wrong = by (shapes o p) refl
  where
    by : (ss : List Shape) → shapes o p ≡ ss → ⊥
    by [] is = fails_in (nodes p) o names p q part node.0 (right.shapeless is) (wrong.shapeless is)
    by (s ∷ ss) is =
        let some : shapes o p ≡ [] → ⊥ = λ none. cons_none s ss (sym is ∙ none) in
        fails_clauses (nodes p) o names p q part node.0 (right.shaped some) (wrong.shaped some)

not_wrong : (o : Options) (names : List LedgerEntry) (p q : Tree) (node : NodeId) → MakesRight o p names q → IsWrong node o names p q → ⊥
not_wrong o names p q node right (inl unfit) = true≢false (sym right.0 ∙ unfit.0)
not_wrong o names p q node right (inr wrong) = judged_wrong o names p q wrong.part node right.1 wrong.judged

pub right_law : RightLaw
right_law o p foreign node unmade = elim unmade.reason [
  | inl declined ↦ absurd declined
  | inr (inl made) ↦ absurd (not_wrong o made.names p made.q node made.made made.refused)
  | inr (inr none) ↦ none.0
]
