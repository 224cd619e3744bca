-- What is owed of a program that has nothing to lower, which is lowered to itself, and of one of the first form.
use Rattle.std.proofs.Common.{inl, inr, ◌≡◌, refl, sym, ap, ◌∙◌, subst, ℕ, List, [], true, false, true≢false}
use Rattle.es_base.specs.Carried.{stripped}
use Rattle.es_base.specs.Conforms.{conforms}
use Rattle.es_base.specs.Preorder.{nodes, numbered_from}
use Rattle.es_base.specs.Tree.{Tree}
use Rattle.es_base.specs.declared.ledger.LedgerEntry.{LedgerEntry}
use Rattle.es_base.specs.declared.shape.Shape.{Shape}
use Rattle.es_base.specs.declared.table.Place.{Place}
use Rattle.es_left.proofs.Unlowered.{no_lowered_class}
use Rattle.es_lowered.specs.Lowered.{IsLowered, IsUnchanged}
use Rattle.es_steps.proofs.FirstMeaning.{first_form_law}
use Rattle.es_steps.specs.LoweredClasses.{nothing_left}
use Rattle.es_steps.specs.Meaning.{lowered_means}
use Rattle.es_steps.specs.Shapes.{shapes}
use Rattle.es_steps.specs.declared.options.Options.{Options}
use Rattle.es_unchanged.proofs.Unchanged.{unchanged-owes}
use Rattle.class_properties.proofs.Conforming.{lowered-conforms, lowered-unchanged}
use Rattle.class_properties.proofs.Owed.{lowered-owes}
use Rattle.class_properties.proofs.Same.{lowered-means}
use Rattle.class_properties.proofs.Shapeless.{first_form-shapes}
use Rattle.class_properties.specs.Lowering.{lowered}
use Rattle.lower_run.specs.FirstForm.{IsMade, IsOfForm}
use Rattle.lower_run.specs.Lowering.{IsOwed}

-- ---- nothing to lower

pub unchanged-owed : (IsPlain : Type 0) (o : Options) (t r : Tree) (names : List LedgerEntry) → t ≡ numbered_from 0 t → nothing_left o t ≡ true → r ≡ t → names ≡ [] → IsOwed IsPlain o t names r
unchanged-owed IsPlain o t r names turn none same unnamed = subst (λ (ns : List LedgerEntry). IsOwed IsPlain o t ns r) (sym unnamed) (subst (IsOwed IsPlain o t []) (sym same) record {
  owed = unchanged-owes o t turn (no_lowered_class o t none) none;
  unchanged = λ nothing. (refl, refl);
  same = λ plain. refl;
  meant = λ plain some. absurd (true≢false (sym none ∙ some));
})

pub unchanged-made : (o : Options) (t r : Tree) (foreign : List ℕ) (names : List LedgerEntry) → t ≡ numbered_from 0 t → nothing_left o t ≡ true → r ≡ t → names ≡ [] → IsMade o t foreign names r
unchanged-made o t r foreign names turn none same unnamed = record { form = inl none; unnamed = unnamed; exact = λ some. absurd (true≢false (sym none ∙ some)); owed = unchanged-owed Unit o t r names turn none same unnamed }

pub unchanged-conforms : (t r : Tree) → conforms Place.Program t ≡ true → r ≡ t → conforms Place.Program r ≡ true
unchanged-conforms t r fits same = ap (conforms Place.Program) same ∙ fits

-- ---- the first form

module _ (o : Options) (t r : Tree) (foreign : List ℕ) (fits : conforms Place.Program t ≡ true) (turn : t ≡ numbered_from 0 t) (form : IsOfForm o t foreign) where
  formed_owed : IsOwed Unit o t [] (lowered t)
  formed_owed = record {
    owed = lowered-owes o t form.0 fits form.2 turn;
    unchanged = lowered-unchanged o t form.0 fits form.2 turn;
    same = λ plain. lowered-means o t form.0 fits form.2 turn;
    meant = λ plain some. first_form_law o t [] fits form.2;
  }

  pub formed-made : (names : List LedgerEntry) → r ≡ lowered t → names ≡ [] → IsMade o t foreign names r
  formed-made names same unnamed = record { form = inr form; unnamed = unnamed; exact = λ some. same; owed = subst (λ (ns : List LedgerEntry). IsOwed Unit o t ns r) (sym unnamed) (subst (IsOwed Unit o t []) (sym same) formed_owed) }

  pub formed-conforms : r ≡ lowered t → conforms Place.Program r ≡ true
  formed-conforms same = ap (conforms Place.Program) same ∙ lowered-conforms t fits form.2 turn

  pub formed-shapes : (outside : List Shape) → outside ≡ [] → outside ≡ shapes o t
  formed-shapes outside none = none ∙ sym (first_form-shapes o t fits form.2)
