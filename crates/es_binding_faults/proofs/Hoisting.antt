-- What code asks of declarators.
use Rattle.std.proofs.Common.{◌≡◌, refl, sym, ap, ◌∙◌, ℕ, List, [], ◌∷◌, ◌++◌, length, get_or, cond, Bool, true, false, Option, Some, None, arith, ◌≢◌}
use Rattle.es_base.specs.Tree.{Tree, Part, Parts, Node, end, more, child, absent, list, string, no_string, boolean, literal, trees}
use Rattle.es_base.specs.declared.kind.Kind.{Kind}
use Rattle.es_node.specs.View.{part_of, parts_of, parts_in, kind_of, number_in}
use Rattle.es_node.specs.declared.node.Part as code
use Rattle.es_steps.specs.Parts.{at, items}
use Rattle.es_steps.specs.Scopes as spec
use Rattle.es_steps.specs.Scopes.{Declaration, no_class, declares, is_binding_identifier, declaration, bound_names, bound_part, declarator_names, declarators_names, lexical_by, lexical_part, lexical_items, var_by, var_part, var_items, is_var, is_let}
use Rattle.es_binding_faults.proofs.Plain.{plain-bound, plain-bound_part, plain-either, plain-append}
use Rattle.es_binding_faults.specs.Hoisted.{form_of, first_of_two, identifier_in, declarator, declarators, hoisted, hoisted_part, hoisted_items, own, descends}
use Rattle.es_binding_faults.specs.Named.{plain}
use Rattle.es_binding_faults.specs.declared.hoisted.Hoist.{Hoist}
use Rattle.es_binding_faults.specs.declared.hoisted.StatementForm.{StatementForm}

pub two_parts : (ps : List code.Part) (d : code.Part) → length ps ≡ 2 → first_of_two (parts_of ps) ≡ part_of (get_or ps 0 d)
two_parts [] d h = absurd (omega arith)
two_parts (p ∷ []) d h = absurd (omega arith)
two_parts (p ∷ q ∷ []) d h = refl
two_parts (p ∷ q ∷ r ∷ ps) d h = absurd (omega arith)

pub not_two_parts : (ps : List code.Part) → length ps ≢ 2 → first_of_two (parts_of ps) ≡ absent
not_two_parts [] h = refl
not_two_parts (p ∷ []) h = refl
not_two_parts (p ∷ q ∷ []) h = absurd (h refl)
not_two_parts (p ∷ q ∷ r ∷ ps) h = refl

pub identifier_here : (t : Tree) → true ≡ is_binding_identifier (kind_of t) → identifier_in (child t) ≡ Some t
identifier_here (Node Kind.BindingIdentifier m span semantic_id ps) e = refl
identifier_here (Node kind m span semantic_id ps) e = absurd (cc)

pub no_identifier : (t : Tree) → false ≡ is_binding_identifier (kind_of t) → identifier_in (child t) ≡ None
no_identifier (Node Kind.BindingIdentifier m span semantic_id ps) e = absurd (cc)
no_identifier (Node kind m span semantic_id ps) e = refl

-- ---- a declarator, by the identifier that it may be

some_same : {A : Type 0} {a b : A} → Some a ≡ Some b → a ≡ b
some_same e = cc

pub identifier_kind : (p : Part) (t : Tree) → identifier_in p ≡ Some t → kind_of t ≡ Kind.BindingIdentifier
identifier_kind (child (Node Kind.BindingIdentifier m span semantic_id ps)) t e = ap kind_of (sym (some_same e))
identifier_kind p t e = absurd (cc)

module _ (m : ℕ) (is_let : Bool) where
  -- a declarator of this `let` or not
  abbrev anyhow : Tree → List Declaration
  anyhow t = plain (declarator_names m is_let (child t))

  pub declared_is : (t u : Tree) → identifier_in (first_of_two (parts_in t)) ≡ Some u → anyhow t ≡ declaration no_class (number_in u) (parts_in u)
  declared_is (Node kind n span semantic_id end) u e = absurd (cc)
  declared_is (Node kind n span semantic_id (more p end)) u e = absurd (cc)
  declared_is (Node kind n span semantic_id (more p (more q end))) u e = two p q u e
    where
      two : (p q : Part) (u : Tree) → identifier_in p ≡ Some u → anyhow (Node kind n span semantic_id (more p (more q end))) ≡ declaration no_class (number_in u) (parts_in u)
      two (child (Node Kind.BindingIdentifier b bspan b_semantic_id bs)) q u e = ap (λ (x : Tree). declaration no_class (number_in x) (parts_in x)) (some_same e)
      two p q u e = absurd (cc)
  declared_is (Node kind n span semantic_id (more p (more q (more r ps)))) u e = absurd (cc)

  pub declared_binds : (t : Tree) → identifier_in (first_of_two (parts_in t)) ≡ None → anyhow t ≡ bound_names no_class t
  declared_binds (Node kind n span semantic_id (more p (more q end))) e = two p q e
    where
      two : (p q : Part) → identifier_in p ≡ None → anyhow (Node kind n span semantic_id (more p (more q end))) ≡ bound_names no_class (Node kind n span semantic_id (more p (more q end)))
      two (child (Node Kind.BindingIdentifier b bspan b_semantic_id bs)) q e = absurd (cc)
      two p q e = plain-bound no_class (Node kind n span semantic_id (more p (more q end)))
  declared_binds (Node kind n span semantic_id end) e = plain-bound no_class (Node kind n span semantic_id end)
  declared_binds (Node kind n span semantic_id (more p end)) e = one p
    where
      one : (p : Part) → anyhow (Node kind n span semantic_id (more p end)) ≡ bound_names no_class (Node kind n span semantic_id (more p end))
      one (child (Node Kind.BindingIdentifier b bspan b_semantic_id bs)) = plain-bound no_class (Node kind n span semantic_id (more (child (Node Kind.BindingIdentifier b bspan b_semantic_id bs)) end))
      one p = plain-bound no_class (Node kind n span semantic_id (more p end))
  declared_binds (Node kind n span semantic_id (more p (more q (more r ps)))) e = three p
    where
      three : (p : Part) → anyhow (Node kind n span semantic_id (more p (more q (more r ps)))) ≡ bound_names no_class (Node kind n span semantic_id (more p (more q (more r ps))))
      three (child (Node Kind.BindingIdentifier b bspan b_semantic_id bs)) = plain-bound no_class (Node kind n span semantic_id (more (child (Node Kind.BindingIdentifier b bspan b_semantic_id bs)) (more q (more r ps))))
      three p = plain-bound no_class (Node kind n span semantic_id (more p (more q (more r ps))))

pub declarator_is : (t u : Tree) → identifier_in (first_of_two (parts_in t)) ≡ Some u → declarator t ≡ declaration no_class (number_in u) (parts_in u)
declarator_is t u e = declared_is 0 false t u e

pub declarator_binds : (t : Tree) → identifier_in (first_of_two (parts_in t)) ≡ None → declarator t ≡ bound_names no_class t
declarator_binds t e = declared_binds 0 false t e

pub declarators_one : (i : ℕ) (t : Tree) (ts : List Tree) → declarators (trees (t ∷ ts)) ≡ declarator t ++ declarators (trees ts)
declarators_one i t ts = plain-append (declarator_names 0 false (child t)) (declarators_names 0 false (trees ts))

-- ---- which `let` it is does not matter

plain-declarator : (m : ℕ) (is_let : Bool) (t : Tree) → plain (declarator_names m is_let (child t)) ≡ declarator t
plain-declarator m is_let t = by (identifier_in (first_of_two (parts_in t))) refl
  where
    by : (o : Option Tree) → identifier_in (first_of_two (parts_in t)) ≡ o → plain (declarator_names m is_let (child t)) ≡ declarator t
    by (Some u) e = declared_is m is_let t u e ∙ sym (declarator_is t u e)
    by None e = declared_binds m is_let t e ∙ sym (declarator_binds t e)

plain-declarator_part : (m : ℕ) (is_let : Bool) (p : Part) → plain (declarator_names m is_let p) ≡ plain (declarator_names 0 false p)
plain-declarator_part m is_let (child t) = plain-declarator m is_let t
plain-declarator_part m is_let absent = refl
plain-declarator_part m is_let (list ps) = refl
plain-declarator_part m is_let (string b) = refl
plain-declarator_part m is_let no_string = refl
plain-declarator_part m is_let (boolean b) = refl
plain-declarator_part m is_let (literal v) = refl

plain-declarators : (m : ℕ) (is_let : Bool) (ps : Parts) → plain (declarators_names m is_let ps) ≡ declarators ps
plain-declarators m is_let end = refl
plain-declarators m is_let (more p ps) =
    plain-append (declarator_names m is_let p) (declarators_names m is_let ps)
    ∙ ap (λ (ds : List Declaration). ds ++ plain (declarators_names m is_let ps)) (plain-declarator_part m is_let p)
    ∙ ap (λ (ds : List Declaration). plain (declarator_names 0 false p) ++ ds) (plain-declarators m is_let ps)
    ∙ sym (plain-append (declarator_names 0 false p) (declarators_names 0 false ps))

-- ---- a statement, by how it declares

pub hoisted_is : (h : Hoist) (t : Tree) (form : StatementForm) → form_of form ≡ spec.statement_form (kind_of t) → hoisted h t ≡ cond (descends h form) (hoisted_items h (parts_in t)) (own h form (parts_in t))
hoisted_is h (Node kind m span semantic_id ps) form e = by h form e
  where
    lexical : (form : StatementForm) → plain (lexical_by (form_of form) m ps (lexical_items ps)) ≡ cond (descends Hoist.Lexical form) (hoisted_items Hoist.Lexical ps) (own Hoist.Lexical form ps)
    lexical StatementForm.Variables = plain-either (is_var ps) [] (declarators_names m (is_let ps) (items (at 1 ps))) [] (declarators (items (at 1 ps))) refl (plain-declarators m (is_let ps) (items (at 1 ps)))
    lexical StatementForm.Function = plain-bound_part no_class (at 0 ps)
    lexical StatementForm.Class = plain-bound_part (declares m) (at 0 ps)
    lexical StatementForm.Imports = plain-bound_part no_class (at 0 ps)
    lexical StatementForm.PassesOn = refl
    lexical StatementForm.Nests = refl
    lexical StatementForm.Other = refl

    var : (form : StatementForm) → plain (var_by (form_of form) ps (var_items ps)) ≡ cond (descends Hoist.Var form) (hoisted_items Hoist.Var ps) (own Hoist.Var form ps)
    var StatementForm.Variables = plain-either (is_var ps) (bound_part no_class (at 1 ps)) [] (bound_part no_class (at 1 ps)) [] (plain-bound_part no_class (at 1 ps)) refl
    var StatementForm.Function = refl
    var StatementForm.Class = refl
    var StatementForm.Imports = refl
    var StatementForm.PassesOn = refl
    var StatementForm.Nests = refl
    var StatementForm.Other = refl

    by : (h : Hoist) (form : StatementForm) → form_of form ≡ spec.statement_form kind → hoisted h (Node kind m span semantic_id ps) ≡ cond (descends h form) (hoisted_items h ps) (own h form ps)
    by Hoist.Lexical form e = ap (λ (f : spec.StatementForm). plain (lexical_by f m ps (lexical_items ps))) (sym e) ∙ lexical form
    by Hoist.Var form e = ap (λ (f : spec.StatementForm). plain (var_by f ps (var_items ps))) (sym e) ∙ var form

pub variables_kind : (kind : Kind) → spec.variables ≡ spec.statement_form kind → kind ≡ Kind.VariableDeclaration
variables_kind Kind.VariableDeclaration e = refl
variables_kind kind e = absurd (cc)

pub lexical-part : (p : Part) → plain (lexical_part p) ≡ hoisted_part Hoist.Lexical p
lexical-part (child t) = refl
lexical-part absent = refl
lexical-part (list ps) = refl
lexical-part (string b) = refl
lexical-part no_string = refl
lexical-part (boolean b) = refl
lexical-part (literal v) = refl

pub var-part : (p : Part) → plain (var_part p) ≡ hoisted_part Hoist.Var p
var-part (child t) = refl
var-part absent = refl
var-part (list ps) = refl
var-part (string b) = refl
var-part no_string = refl
var-part (boolean b) = refl
var-part (literal v) = refl

pub hoisted_one : (h : Hoist) (p : Part) (ps : Parts) → hoisted_items h (more p ps) ≡ hoisted_part h p ++ hoisted_items h ps
hoisted_one Hoist.Lexical p ps = plain-append (lexical_part p) (lexical_items ps) ∙ ap (λ (ds : List Declaration). ds ++ plain (lexical_items ps)) (lexical-part p)
hoisted_one Hoist.Var p ps = plain-append (var_part p) (var_items ps) ∙ ap (λ (ds : List Declaration). ds ++ plain (var_items ps)) (var-part p)

pub hoisted_none : (h : Hoist) → hoisted_items h end ≡ []
hoisted_none Hoist.Lexical = refl
hoisted_none Hoist.Var = refl
