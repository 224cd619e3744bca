-- A declarator, by the identifier that it may be, and a statement, by how it declares.
use Rattle.std.proofs.Common.{◌≡◌, refl, sym, ap, ◌∙◌, ℕ, [], Bool, cond, Some, None}
use Rattle.es_base.specs.Tree.{Tree, Part, Node, end, more, child}
use Rattle.es_base.specs.declared.kind.Kind.{Kind}
use Rattle.es_node.specs.View.{kind_of, number_in, parts_in}
use Rattle.es_steps.specs.Parts.{at}
use Rattle.es_steps.specs.Scopes as spec
use Rattle.es_steps.specs.Scopes.{Declaration, no_class, class_in, let_name, declaration, bound_names, declarator_names, lexical_by, lexical_names, lexical_items, statement_form}
use Rattle.es_binding_faults.specs.Hoisted.{first_of_two, form_of, identifier_in}
use Rattle.es_binding_faults.specs.declared.hoisted.StatementForm.{StatementForm}
use Rattle.es_seen_names.specs.Statements.{passes_on}

some_same : {A : Type 0} {a b : A} → Some a ≡ Some b → a ≡ b
some_same e = cc

module _ (m : ℕ) (is_let : Bool) where
  pub declarator_is : (t u : Tree) → identifier_in (first_of_two (parts_in t)) ≡ Some u
      → declarator_names m is_let (child t) ≡ declaration (cond is_let (let_name m (class_in (at 1 (parts_in t)))) no_class) (number_in u) (parts_in u)
  declarator_is (Node kind n span semantic_id end) u e = absurd (cc)
  declarator_is (Node kind n span semantic_id (more p end)) u e = absurd (cc)
  declarator_is (Node kind n span semantic_id (more p (more q end))) u e = two p q u e
    where
      two : (p q : Part) (u : Tree) → identifier_in p ≡ Some u
          → declarator_names m is_let (child (Node kind n span semantic_id (more p (more q end)))) ≡ declaration (cond is_let (let_name m (class_in q)) no_class) (number_in u) (parts_in u)
      two (child (Node Kind.BindingIdentifier b bspan b_semantic_id bs)) q u e = ap (λ (x : Tree). declaration (cond is_let (let_name m (class_in q)) no_class) (number_in x) (parts_in x)) (some_same e)
      two p q u e = absurd (cc)
  declarator_is (Node kind n span semantic_id (more p (more q (more r ps)))) u e = absurd (cc)

  pub declarator_binds : (t : Tree) → identifier_in (first_of_two (parts_in t)) ≡ None → declarator_names m is_let (child t) ≡ bound_names no_class t
  declarator_binds (Node kind n span semantic_id (more p (more q end))) e = two p q e
    where
      two : (p q : Part) → identifier_in p ≡ None → declarator_names m is_let (child (Node kind n span semantic_id (more p (more q end)))) ≡ bound_names no_class (Node kind n span semantic_id (more p (more q end)))
      two (child (Node Kind.BindingIdentifier b bspan b_semantic_id bs)) q e = absurd (cc)
      two p q e = refl
  declarator_binds (Node kind n span semantic_id end) e = refl
  declarator_binds (Node kind n span semantic_id (more p end)) e = one p
    where
      one : (p : Part) → declarator_names m is_let (child (Node kind n span semantic_id (more p end))) ≡ bound_names no_class (Node kind n span semantic_id (more p end))
      one (child (Node Kind.BindingIdentifier b bspan b_semantic_id bs)) = refl
      one p = refl
  declarator_binds (Node kind n span semantic_id (more p (more q (more r ps)))) e = three p
    where
      three : (p : Part) → declarator_names m is_let (child (Node kind n span semantic_id (more p (more q (more r ps))))) ≡ bound_names no_class (Node kind n span semantic_id (more p (more q (more r ps))))
      three (child (Node Kind.BindingIdentifier b bspan b_semantic_id bs)) = refl
      three p = refl

-- ---- a statement, by how it declares

pub lexical_is : (t : Tree) (form : StatementForm) → form_of form ≡ statement_form (kind_of t)
    → lexical_names t ≡ cond (passes_on form) (lexical_items (parts_in t)) (lexical_by (form_of form) (number_in t) (parts_in t) [])
lexical_is (Node kind m span semantic_id ps) form e = ap (λ (f : spec.StatementForm). lexical_by f m ps (lexical_items ps)) (sym e) ∙ by form
  where
    by : (form : StatementForm) → lexical_by (form_of form) m ps (lexical_items ps) ≡ cond (passes_on form) (lexical_items ps) (lexical_by (form_of form) m ps [])
    by StatementForm.Variables = refl
    by StatementForm.Function = refl
    by StatementForm.Class = refl
    by StatementForm.Imports = refl
    by StatementForm.PassesOn = refl
    by StatementForm.Nests = refl
    by StatementForm.Other = refl
