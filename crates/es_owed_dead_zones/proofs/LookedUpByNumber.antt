-- What is looked up by a number is found as by a scan.
use Rattle.std.proofs.Common.{◌≡◌, refl, sym, ap, ◌∙◌, ℕ, List, [], ◌∷◌, ◌++◌, map, Bool, true, false, cond, ◌&&◌, ◌||◌, bytes_eq, nat_eq, Bor}
use Rattle.std.proofs.lemmas.Bool.Decides.{Decides-eqb, same_from_decides}
use Rattle.es_base.specs.Preorder.{number_of}
use Rattle.es_base.specs.Tree.{Tree, Node}
use Rattle.es_binding_faults.specs.Leasts.{Numbers}
use Rattle.es_binding_faults.specs.Seen.{seen}
use Rattle.es_grouped.proofs.Having.{having_append}
use Rattle.es_grouped.specs.Groups.{having}
use Rattle.es_lowered.specs.DeadZones.{Closures, Touch, TouchForm, call_form, classes_given, constructs, nothing_around, runs_closure, touch}
use Rattle.es_lowered.specs.HelperCalls.{part_number}
use Rattle.es_node.specs.View.{kind_of, parts_in}
use Rattle.es_owed.specs.Listed.{numbered}
use Rattle.es_references.specs.References.{reference_of, references_of}
use Rattle.es_references.specs.declared.references.Reference.{Reference}
use Rattle.es_generated.proofs.NumberedNames.{apart}
use Rattle.es_generated.specs.Spellings.{spelling_number}
use Rattle.es_referents.specs.Meanings.{of_number}
use Rattle.es_steps.specs.LoweredClasses.{constructor_in}
use Rattle.es_steps.specs.Parts.{at}
use Rattle.es_steps.specs.PrivateNames.{is_class}
use Rattle.es_steps.specs.References.{has_number}
use Rattle.es_steps.specs.Values.{String}
use Rattle.es_owed_dead_zones.specs.Bodies.{field_touches}
use Rattle.es_owed_dead_zones.specs.LookedUp.{constructor_of, numbered_closures, with_constructor, with_constructors}
use Rattle.es_owed_dead_zones.specs.Walk.{read_form, reference_touches, value_touches}
use Rattle.es_owed_dead_zones.specs.declared.bodies.Program.{Program}
use Rattle.es_owed_dead_zones.specs.declared.terms.Terms.{Terms}

either_way : (a b : ℕ) → nat_eq a b ≡ nat_eq b a
either_way a b = same_from_decides _ _ (Decides-eqb a b) (λ t. sym ((Decides-eqb b a).0 t), λ e. (Decides-eqb b a).1 (sym e))

-- ---- closures

pub form_by_spelling : (ns : Numbers) (s : String) (cs : Closures) → call_form false s (having (spelling_number ns s) (numbered_closures ns cs)) ≡ call_form false s cs
form_by_spelling ns s [] = refl
form_by_spelling ns s (c ∷ cs) = here (nat_eq (spelling_number ns s) (spelling_number ns c.0)) refl (form_by_spelling ns s cs)
  where
    rest : Closures
    rest = having (spelling_number ns s) (numbered_closures ns cs)

    here : (b : Bool) → nat_eq (spelling_number ns s) (spelling_number ns c.0) ≡ b → call_form false s rest ≡ call_form false s cs
        → call_form false s (cond b (c ∷ []) [] ++ rest) ≡ cond (bytes_eq s c.0) (runs_closure c.1) (call_form false s cs)
    here true is h = ap (λ (f : TouchForm). cond (bytes_eq s c.0) (runs_closure c.1) f) h
    here false is h = h ∙ ap (λ (b : Bool). cond b (runs_closure c.1) (call_form false s cs)) (sym (apart ns s c.0 is))

-- ---- functions for `super(..)`

pub given_by_number : (m : ℕ) (ps : List (ℕ × ℕ)) → having m ps ≡ classes_given m ps
given_by_number m [] = refl
given_by_number m (p ∷ ps) = ap (λ (ns : List ℕ). cond (nat_eq m p.0) (p.1 ∷ []) [] ++ ns) (given_by_number m ps)

-- ---- references

pub references_by_number : (t : Terms) (held : List (ℕ × ℕ)) (m : ℕ) (rs : List Reference) → reference_touches t held m (references_of (of_number m rs)) ≡ reference_touches t held m (references_of rs)
references_by_number t held m [] = refl
references_by_number t held m (r ∷ rs) = here (nat_eq m r.node.0) refl (references_by_number t held m rs)
  where
    touched : List Touch
    touched = touch held m (read_form t m (reference_of r).to)

    rest : List Reference
    rest = of_number m rs

    here : (b : Bool) → nat_eq m r.node.0 ≡ b → reference_touches t held m (references_of rest) ≡ reference_touches t held m (references_of rs)
        → reference_touches t held m (references_of (cond b (r ∷ []) [] ++ rest)) ≡ reference_touches t held m (references_of (r ∷ rs))
    here true is h = ap (λ (ts : List Touch). cond (nat_eq m r.node.0) touched [] ++ ts) h
    here false is h = h ∙ ap (λ (b : Bool). cond b touched [] ++ reference_touches t held m (references_of rs)) (sym is)

-- ---- classes

pub constructor_node : (t : Tree) → constructor_of t ≡ cond (is_class (kind_of t)) (part_number (constructor_in (at 2 (parts_in t)))) []
constructor_node (Node kind n span semantic_id ps) = refl

module _ (m : ℕ) where
  constructs_more : (t : Tree) (ts : List Tree) → constructs m (t ∷ ts) ≡ cond (has_number m (constructor_of t)) (number_of t ∷ []) (constructs m ts)
  constructs_more (Node kind n span semantic_id ps) ts = here (is_class kind)
    where
      here : (b : Bool) → cond (b && has_number m (part_number (constructor_in (at 2 ps)))) (n ∷ []) (constructs m ts) ≡ cond (has_number m (cond b (part_number (constructor_in (at 2 ps))) [])) (n ∷ []) (constructs m ts)
      here true = refl
      here false = refl

  one_class : (t : Bor Tree) (ks : List ℕ) (rest : List (Bor Tree)) → (has_number m ks ≡ true → has_number m (constructor_of t.now) ≡ true)
      → constructs m (seen (having m (map (λ (k : ℕ). (k, t)) ks) ++ rest)) ≡ cond (has_number m ks) (number_of t.now ∷ []) (constructs m (seen rest))
  one_class t [] rest its = refl
  one_class t (k ∷ ks) rest its = here (nat_eq m k) its (one_class t ks rest)
    where
      found : List (Bor Tree)
      found = having m (map (λ (k : ℕ). (k, t)) ks)

      here : (b : Bool) → ((b || has_number m ks) ≡ true → has_number m (constructor_of t.now) ≡ true)
          → ((has_number m ks ≡ true → has_number m (constructor_of t.now) ≡ true) → constructs m (seen (found ++ rest)) ≡ cond (has_number m ks) (number_of t.now ∷ []) (constructs m (seen rest)))
          → constructs m (seen ((cond b (t ∷ []) [] ++ found) ++ rest)) ≡ cond (b || has_number m ks) (number_of t.now ∷ []) (constructs m (seen rest))
      here true is h = constructs_more t.now (seen (found ++ rest)) ∙ ap (λ (b : Bool). cond b (number_of t.now ∷ []) (constructs m (seen (found ++ rest)))) (is refl)
      here false is h = h is

  pub constructs_by_number : (ts : List (Bor Tree)) → constructs m (seen (having m (with_constructors ts))) ≡ constructs m (seen ts)
  constructs_by_number [] = refl
  constructs_by_number (t ∷ ts) =
      ap (λ (us : List (Bor Tree)). constructs m (seen us)) (having_append m (with_constructor t) (with_constructors ts))
      ∙ one_class t (constructor_of t.now) (having m (with_constructors ts)) (λ is. is)
      ∙ ap (λ (ns : List ℕ). cond (has_number m (constructor_of t.now)) (number_of t.now ∷ []) ns) (constructs_by_number ts)
      ∙ sym (constructs_more t.now (seen ts))

-- ---- fields

module _ (x : Program) where
  no_class : (b : Bool) (here there : List Touch) → cond (b && false) here there ≡ there
  no_class true here there = refl
  no_class false here there = refl

  pub fields_of_none : (ts : List Tree) → field_touches x [] ts ≡ []
  fields_of_none [] = refl
  fields_of_none (Node kind n span semantic_id ps ∷ ts) = no_class (is_class kind) (value_touches x.terms false nothing_around (at 2 ps)) (field_touches x [] ts) ∙ fields_of_none ts

  pub fields_by_number : (c : ℕ) (ts : List Tree) → field_touches x (c ∷ []) (numbered c ts) ≡ field_touches x (c ∷ []) ts
  fields_by_number c [] = refl
  fields_by_number c (Node kind n span semantic_id ps ∷ ts) = here (nat_eq c n) refl (fields_by_number c ts)
    where
      fields : List Touch
      fields = value_touches x.terms false nothing_around (at 2 ps)

      here : (b : Bool) → nat_eq c n ≡ b → field_touches x (c ∷ []) (numbered c ts) ≡ field_touches x (c ∷ []) ts
          → field_touches x (c ∷ []) (cond b (Node kind n span semantic_id ps ∷ []) [] ++ numbered c ts) ≡ cond (is_class kind && (nat_eq n c || false)) fields (field_touches x (c ∷ []) ts)
      here true is h = ap (λ (us : List Touch). cond (is_class kind && (nat_eq n c || false)) fields us) h
      here false is h =
          h
          ∙ sym (no_class (is_class kind) fields (field_touches x (c ∷ []) ts))
          ∙ ap (λ (b : Bool). cond (is_class kind && (b || false)) fields (field_touches x (c ∷ []) ts)) (sym is ∙ either_way c n)
