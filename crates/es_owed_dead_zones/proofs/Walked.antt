-- The touches of a program, node by node.
use Rattle.std.proofs.Common.{◌≡◌, refl, sym, ap, ◌∙◌, ℕ, suc, ◌+◌, List, [], ◌∷◌, ◌++◌, ◌<◌, ◌≤◌, append_assoc, get_or, length, Bool, true, false, cond, ◌&&◌, Option, Some, None, arith}
use Rattle.std.specs.Prelude.{not}
use Rattle.es_base.specs.Numbered.{is_new}
use Rattle.es_base.specs.Tree.{Tree, Part, Parts, Node, end, more, child, list, nullable}
use Rattle.es_base.specs.declared.kind.Kind.{Kind}
use Rattle.es_binding_faults.proofs.Appending.{appended_twice}
use Rattle.es_lowered.specs.DeadZones as spec
use Rattle.es_lowered.specs.DeadZones.{Spot, Touch, converted, held_behind, in_no_chain, is_function_declaration, is_keyed, is_member, is_pattern, is_turned, touch, touch_around}
use Rattle.es_lowered.specs.HelperCalls.{runs_with_class}
use Rattle.es_lowered.specs.Timely.{is_same}
use Rattle.es_node.specs.View.{kind_of, number_in, part_of, parts_in, parts_of}
use Rattle.es_node.specs.declared.node.Part as code
use Rattle.es_steps.specs.NameScopes.{is_any_function}
use Rattle.es_steps.specs.Printable.{behind_first, has_optional}
use Rattle.es_steps.specs.PrivateNames.{is_class, is_element}
use Rattle.es_steps.specs.Repeated.{is_arrow}
use Rattle.es_owed_timely.specs.Walk.{parts_from}
use Rattle.es_owed_dead_zones.specs.Walk.{class_touches, field_touch, first_touches, if_tree, inner_touches, is_apart, joined, key_touch, key_touches, keyed, keys_of_part, keys_touched, own_touches, spot_at, touches, touches_at, touches_from, touches_in, touches_inside, touches_of, turned, value_touch, value_touches, values_of_part, values_touched}
use Rattle.es_owed_dead_zones.specs.declared.terms.Terms.{Terms}

at_once : (i : ℕ) → i + 0 ≡ i
at_once i = omega arith

one_on : (i k : ℕ) → i + suc k ≡ (i + 1) + k
one_on i k = omega arith

from_zero : (k : ℕ) → k ≡ 0 + k
from_zero k = omega arith

from_one : (k : ℕ) → suc k ≡ 1 + k
from_one k = omega arith

from_two : (k : ℕ) → suc (suc k) ≡ 2 + k
from_two k = omega arith

module _ (t : Terms) where
  pub touches_node : (x : Spot) (u : Tree) → is_apart t (kind_of u) (number_in u) ≡ false → touches t x u ≡ touches_inside t x u ++ own_touches t x (held_behind x.chain (has_optional u) x.held) (kind_of u) (number_in u) (parts_in u)
  touches_node x (Node kind m span semantic_id ps) apart = rw apart refl

  pub touches_apart : (x : Spot) (u : Tree) → is_apart t (kind_of u) (number_in u) ≡ true → touches t x u ≡ cond (is_function_declaration (kind_of u)) (touch x.held (number_in u) spec.another) []
  touches_apart x (Node kind m span semantic_id ps) apart = rw apart refl

  place : (y x : ℕ → Spot) (i : ℕ) (ps : Parts) → ((k : ℕ) → y k ≡ x (i + k)) → touches_in t y ps ≡ touches_from t x i ps
  place y x i end same = refl
  place y x i (more p ps) same =
      ap (λ (z : Spot). touches_at t z p ++ touches_in t (λ k. y (suc k)) ps) (same 0 ∙ ap x (at_once i))
      ∙ ap (λ (ts : List Touch). touches_at t (x i) p ++ ts) (place (λ k. y (suc k)) x (i + 1) ps (λ k. same (suc k) ∙ ap x (one_on i k)))

  place_one : (x : ℕ → Spot) (ps : Parts) → touches_in t (λ k. x (suc k)) ps ≡ touches_from t x 1 ps
  place_one x ps = place (λ k. x (suc k)) x 1 ps (λ k. ap x (from_one k))

  behind_second : (x : ℕ → Spot) (ps : Parts) → touches_in t (λ k. x (suc (suc k))) ps ≡ touches_from t x 2 ps
  behind_second x ps = place (λ k. x (suc (suc k))) x 2 ps (λ k. ap x (from_two k))

  -- ---- the parts of a node, by its kind

  pub inside_class : (x : Spot) (u : Tree) → is_class (kind_of u) ≡ true → touches_inside t x u ≡ class_touches t (in_no_chain x) (number_in u) (parts_in u)
  inside_class x (Node kind m span semantic_id ps) class = rw class refl

  pub inside_turned : (x : Spot) (u : Tree) → is_class (kind_of u) ≡ false → is_turned (kind_of u) ≡ true → touches_inside t x u ≡ turned t (spot_at x u) (parts_in u)
  inside_turned x (Node kind m span semantic_id ps) class turns = rw (class, turns) refl

  pub inside_keyed : (x : Spot) (u : Tree) → is_class (kind_of u) ≡ false → is_turned (kind_of u) ≡ false → is_keyed (kind_of u) ≡ true → touches_inside t x u ≡ keyed t (converted x (kind_of u) (number_in u)) (spot_at x u) (parts_in u)
  inside_keyed x (Node kind m span semantic_id ps) class turns has_key = rw (class, turns, has_key) refl

  pub inside_other : (x : Spot) (u : Tree) → is_class (kind_of u) ≡ false → is_turned (kind_of u) ≡ false → is_keyed (kind_of u) ≡ false → touches_inside t x u ≡ inner_touches t (kind_of u) (in_no_chain x) (spot_at x u) (parts_in u)
  inside_other x (Node kind m span semantic_id ps) class turns has_key = rw (class, turns, has_key) refl

  pub apart_import : (kind : Kind) (m : ℕ) → kind ≡ Kind.ImportDeclaration → is_apart t kind m ≡ true
  apart_import kind m is = ap (λ k. is_apart t k m) is

  pub apart_export : (kind : Kind) (m : ℕ) → kind ≡ Kind.ExportSpecifier → is_apart t kind m ≡ true
  apart_export kind m is = ap (λ k. is_apart t k m) is

  pub apart_other : (kind : Kind) (m : ℕ) → (kind ≡ Kind.ImportDeclaration → ⊥) → (kind ≡ Kind.ExportSpecifier → ⊥) → is_apart t kind m ≡ (is_any_function kind && not (is_arrow kind && is_new t.first m))
  apart_other Kind.ImportDeclaration m a b = absurd (a refl)
  apart_other Kind.ExportSpecifier m a b = absurd (b refl)
  apart_other kind m a b = refl

  -- ---- parts in other orders

  pub turned_parts : (x : ℕ → Spot) (p q : Part) (ps qs : Parts) → qs ≡ more p (more q ps) → turned t x qs ≡ touches_at t (x 1) q ++ (touches_at t (x 0) p ++ touches_from t x 2 (parts_from 2 qs))
  turned_parts x p q ps qs is =
      ap (λ rs. turned t x rs) is
      ∙ ap (λ (ts : List Touch). touches_at t (x 1) q ++ (touches_at t (x 0) p ++ ts)) (behind_second x ps)
      ∙ ap (λ rs. touches_at t (x 1) q ++ (touches_at t (x 0) p ++ touches_from t x 2 (parts_from 2 rs))) (sym is)

  pub turned_one : (x : ℕ → Spot) (p : Part) (qs : Parts) → qs ≡ more p end → turned t x qs ≡ touches_at t (x 0) p
  turned_one x p qs is = ap (λ rs. turned t x rs) is

  pub turned_none : (x : ℕ → Spot) (qs : Parts) → qs ≡ end → turned t x qs ≡ []
  turned_none x qs is = ap (λ rs. turned t x rs) is

  pub keyed_parts : (conversion : List Touch) (x : ℕ → Spot) (k : Part) (ps qs : Parts) → qs ≡ more k ps → keyed t conversion x qs ≡ touches_at t (x 0) k ++ (conversion ++ touches_from t x 1 (parts_from 1 qs))
  keyed_parts conversion x k ps qs is =
      ap (λ rs. keyed t conversion x rs) is
      ∙ ap (λ (ts : List Touch). touches_at t (x 0) k ++ (conversion ++ ts)) (place_one x ps)
      ∙ ap (λ rs. touches_at t (x 0) k ++ (conversion ++ touches_from t x 1 (parts_from 1 rs))) (sym is)

  pub keyed_none : (conversion : List Touch) (x : ℕ → Spot) (qs : Parts) → qs ≡ end → keyed t conversion x qs ≡ []
  keyed_none conversion x qs is = ap (λ rs. keyed t conversion x rs) is

  -- the parts in their order
  in_order : (x : ℕ → Spot) (p : Part) (ps : Parts) → touches_at t (x 0) p ++ touches_in t (λ k. x (suc k)) ps ≡ touches_from t x 0 (more p ps)
  in_order x p ps = ap (λ (ts : List Touch). touches_at t (x 0) p ++ ts) (place_one x ps)

  pub inner_other : (kind : Kind) (y : Spot) (x : ℕ → Spot) (ps : Parts) → (kind ≡ Kind.CallExpression → ⊥) → (kind ≡ Kind.TemplateLiteral → ⊥) → (kind ≡ Kind.AssignmentTargetWithDefault → ⊥) → (kind ≡ Kind.AssignmentExpression → ⊥) → inner_touches t kind y x ps ≡ touches_from t x 0 ps
  inner_other Kind.CallExpression y x ps a b c d = absurd (a refl)
  inner_other Kind.TemplateLiteral y x ps a b c d = absurd (b refl)
  inner_other Kind.AssignmentTargetWithDefault y x ps a b c d = absurd (c refl)
  inner_other Kind.AssignmentExpression y x ps a b c d = absurd (d refl)
  inner_other kind y x end a b c d = refl
  inner_other kind y x (more p ps) a b c d = in_order x p ps

  arrow_called : (y : Spot) (x : ℕ → Spot) (u : Tree) (ps : Parts) → is_arrow (kind_of u) ≡ true → inner_touches t Kind.CallExpression y x (more (child u) ps) ≡ touches_from t x 1 ps ++ cond (is_new t.first (number_in u)) (touches_of t y (parts_in u)) []
  arrow_called y x (Node Kind.ArrowFunctionExpression k span semantic_id ks) ps is = ap (λ (ts : List Touch). ts ++ cond (is_new t.first k) (touches_of t y ks) []) (place_one x ps)
  arrow_called y x (Node kind k span semantic_id ks) ps is = absurd (cc)

  pub call_arrow : (y : Spot) (x : ℕ → Spot) (n : Tree) (m : ℕ) (span : Option (ℕ × ℕ)) (semantic_id : Option ℕ) (u : Tree) (ps : Parts) → n ≡ Node Kind.CallExpression m span semantic_id (more (child u) ps) → is_arrow (kind_of u) ≡ true → inner_touches t Kind.CallExpression y x (parts_in n) ≡ touches_from t x 1 (parts_from 1 (parts_in n)) ++ cond (is_new t.first (number_in u)) (touches_of t y (parts_in u)) []
  call_arrow y x n m span semantic_id u ps is arrow =
      ap (λ (k : Tree). inner_touches t Kind.CallExpression y x (parts_in k)) is
      ∙ arrow_called y x u ps arrow
      ∙ ap (λ (k : Tree). touches_from t x 1 (parts_from 1 (parts_in k)) ++ cond (is_new t.first (number_in u)) (touches_of t y (parts_in u)) []) (sym is)

  other_called : (y : Spot) (x : ℕ → Spot) (u : Tree) (ps : Parts) → is_arrow (kind_of u) ≡ false → inner_touches t Kind.CallExpression y x (more (child u) ps) ≡ touches_from t x 0 (more (child u) ps)
  other_called y x (Node Kind.ArrowFunctionExpression k span semantic_id ks) ps other = absurd (cc)
  other_called y x (Node kind k span semantic_id ks) ps other = in_order x (child (Node kind k span semantic_id ks)) ps

  pub call_other : (y : Spot) (x : ℕ → Spot) (n : Tree) (m : ℕ) (span : Option (ℕ × ℕ)) (semantic_id : Option ℕ) (u : Tree) (ps : Parts) → n ≡ Node Kind.CallExpression m span semantic_id (more (child u) ps) → is_arrow (kind_of u) ≡ false → inner_touches t Kind.CallExpression y x (parts_in n) ≡ touches_from t x 0 (parts_in n)
  call_other y x n m span semantic_id u ps is other =
      ap (λ (k : Tree). inner_touches t Kind.CallExpression y x (parts_in k)) is
      ∙ other_called y x u ps other
      ∙ ap (λ (k : Tree). touches_from t x 0 (parts_in k)) (sym is)

  pub template_node : (y : Spot) (x : ℕ → Spot) (n : Tree) (m : ℕ) (span : Option (ℕ × ℕ)) (semantic_id : Option ℕ) (quasis : Part) (es rest : Parts) → n ≡ Node Kind.TemplateLiteral m span semantic_id (more quasis (more (list es) rest)) → inner_touches t Kind.TemplateLiteral y x (parts_in n) ≡ joined t (x 1) es
  template_node y x n m span semantic_id quasis es rest is = ap (λ (k : Tree). inner_touches t Kind.TemplateLiteral y x (parts_in k)) is

  pub joined_more : (x : Spot) (u : Tree) (us : Parts) → joined t x (more (child u) us) ≡ (touches t x u ++ touch_around x) ++ joined t x us
  joined_more x u us = sym (append_assoc (touches t x u) (touch_around x) (joined t x us))

  pub default_member : (y : Spot) (x : ℕ → Spot) (l r : Part) (rest qs : Parts) → qs ≡ more l (more r rest) → is_member l ≡ true → inner_touches t Kind.AssignmentTargetWithDefault y x qs ≡ touches_at t (x 0) l ++ touches_at t (x 1) r
  default_member y x l r rest qs is member = ap (λ rs. inner_touches t Kind.AssignmentTargetWithDefault y x rs) is ∙ ap (λ b. cond b (touches_at t (x 0) l ++ touches_at t (x 1) r) (touches_at t (x 1) r ++ touches_at t (x 0) l)) member

  pub default_other : (y : Spot) (x : ℕ → Spot) (l r : Part) (rest qs : Parts) → qs ≡ more l (more r rest) → is_member l ≡ false → inner_touches t Kind.AssignmentTargetWithDefault y x qs ≡ touches_at t (x 1) r ++ touches_at t (x 0) l
  default_other y x l r rest qs is member = ap (λ rs. inner_touches t Kind.AssignmentTargetWithDefault y x rs) is ∙ ap (λ b. cond b (touches_at t (x 0) l ++ touches_at t (x 1) r) (touches_at t (x 1) r ++ touches_at t (x 0) l)) member

  pub assigned_pattern : (y : Spot) (x : ℕ → Spot) (operator l r : Part) (rest qs : Parts) → qs ≡ more operator (more l (more r rest)) → is_pattern l ≡ true → inner_touches t Kind.AssignmentExpression y x qs ≡ touches_at t (x 2) r ++ touches_at t (x 1) l
  assigned_pattern y x operator l r rest qs is pattern = ap (λ rs. inner_touches t Kind.AssignmentExpression y x rs) is ∙ ap (λ b. cond b (touches_at t (x 2) r ++ touches_at t (x 1) l) (touches_at t (x 1) l ++ touches_at t (x 2) r)) pattern

  pub assigned_other : (y : Spot) (x : ℕ → Spot) (operator l r : Part) (rest qs : Parts) → qs ≡ more operator (more l (more r rest)) → is_pattern l ≡ false → inner_touches t Kind.AssignmentExpression y x qs ≡ touches_at t (x 1) l ++ touches_at t (x 2) r
  assigned_other y x operator l r rest qs is pattern = ap (λ rs. inner_touches t Kind.AssignmentExpression y x rs) is ∙ ap (λ b. cond b (touches_at t (x 2) r ++ touches_at t (x 1) l) (touches_at t (x 1) l ++ touches_at t (x 2) r)) pattern

  pub default_short : (y : Spot) (x : ℕ → Spot) (xs : List code.Part) → length xs < 2 → inner_touches t Kind.AssignmentTargetWithDefault y x (parts_of xs) ≡ touches_from t x 0 (parts_of xs)
  default_short y x [] short = refl
  default_short y x (p ∷ []) short = in_order x (part_of p) end
  default_short y x (p ∷ (q ∷ xs)) short = absurd (omega arith)

  pub assigned_short : (y : Spot) (x : ℕ → Spot) (xs : List code.Part) → length xs < 3 → inner_touches t Kind.AssignmentExpression y x (parts_of xs) ≡ touches_from t x 0 (parts_of xs)
  assigned_short y x [] short = refl
  assigned_short y x (p ∷ []) short = in_order x (part_of p) end
  assigned_short y x (p ∷ (q ∷ [])) short = in_order x (part_of p) (more (part_of q) end)
  assigned_short y x (p ∷ (q ∷ (r ∷ xs))) short = absurd (omega arith)

  -- ---- classes

  pub class_parts : (x : Spot) (n : ℕ) (id heritage body : Part) (rest qs : Parts) → qs ≡ more id (more heritage (more body rest)) → class_touches t x n qs ≡ touches_at t x heritage ++ (key_touches t x body ++ ((touch x.held n spec.makes_class ++ touch x.held n spec.another) ++ spec.without_this (value_touches t true x body)))
  class_parts x n id heritage body rest qs is = ap (λ rs. class_touches t x n rs) is

  pub keys_first : (x : Spot) (u : Tree) (p : Part) (ps : Parts) → parts_in u ≡ more p ps → key_touches t x (child u) ≡ keys_of_part t x p
  keys_first x (Node kind m span semantic_id qs) p ps is = ap (λ rs. key_touches t x (child (Node kind m span semantic_id rs))) is ∙ by_part p
    where
      by_part : (p : Part) → key_touches t x (child (Node kind m span semantic_id (more p ps))) ≡ keys_of_part t x p
      by_part (list es) = refl
      by_part p = refl

  pub keys_none : (x : Spot) (u : Tree) → parts_in u ≡ end → key_touches t x (child u) ≡ []
  keys_none x (Node kind m span semantic_id qs) is = ap (λ rs. key_touches t x (child (Node kind m span semantic_id rs))) is

  pub keys_more : (x : Spot) (u : Tree) (es : Parts) → keys_touched t x (more (child u) es) ≡ key_touch t x u ++ keys_touched t x es
  keys_more x (Node kind m span semantic_id end) es = refl
  keys_more x (Node kind m span semantic_id (more k ps)) es = refl

  pub keys_more_hole : (x : Spot) (u : Option Tree) (es : Parts) → keys_touched t x (more (nullable u) es) ≡ if_tree (key_touch t x) u ++ keys_touched t x es
  keys_more_hole x None es = refl
  keys_more_hole x (Some u) es = keys_more x u es

  pub key_first : (x : Spot) (u : Tree) (k : Part) (ps : Parts) → parts_in u ≡ more k ps → key_touch t x u ≡ cond (is_element (kind_of u)) (touches_at t x k) []
  key_first x (Node kind m span semantic_id qs) k ps is = ap (λ (rs : Parts). key_touch t x (Node kind m span semantic_id rs)) is

  pub key_none : (x : Spot) (u : Tree) → parts_in u ≡ end → key_touch t x u ≡ []
  key_none x (Node kind m span semantic_id qs) is = ap (λ (rs : Parts). key_touch t x (Node kind m span semantic_id rs)) is

  pub values_first : (runs : Bool) (x : Spot) (u : Tree) (p : Part) (ps : Parts) → parts_in u ≡ more p ps → value_touches t runs x (child u) ≡ values_of_part t runs x p
  values_first runs x (Node kind m span semantic_id qs) p ps is = ap (λ rs. value_touches t runs x (child (Node kind m span semantic_id rs))) is ∙ by_part p
    where
      by_part : (p : Part) → value_touches t runs x (child (Node kind m span semantic_id (more p ps))) ≡ values_of_part t runs x p
      by_part (list es) = refl
      by_part p = refl

  pub values_none : (runs : Bool) (x : Spot) (u : Tree) → parts_in u ≡ end → value_touches t runs x (child u) ≡ []
  values_none runs x (Node kind m span semantic_id qs) is = ap (λ rs. value_touches t runs x (child (Node kind m span semantic_id rs))) is

  pub values_more : (runs : Bool) (x : Spot) (u : Tree) (es : Parts) → values_touched t runs x (more (child u) es) ≡ value_touch t runs x u ++ values_touched t runs x es
  values_more runs x (Node kind m span semantic_id end) es = refl
  values_more runs x (Node kind m span semantic_id (more k ps)) es = refl

  pub values_more_hole : (runs : Bool) (x : Spot) (u : Option Tree) (es : Parts) → values_touched t runs x (more (nullable u) es) ≡ if_tree (value_touch t runs x) u ++ values_touched t runs x es
  values_more_hole runs x None es = refl
  values_more_hole runs x (Some u) es = values_more runs x u es

  flipped : (b : Bool) (ts : List Touch) → cond b [] ts ≡ cond (not b) ts []
  flipped true ts = refl
  flipped false ts = refl

  pub value_first : (runs : Bool) (x : Spot) (u : Tree) (k : Part) (ps : Parts) → parts_in u ≡ more k ps → is_same runs (runs_with_class (child u)) ≡ true → value_touch t runs x u ≡ first_touches t (not (is_element (kind_of u))) x (parts_in u) ++ (touches_of t x (behind_first (parts_in u)) ++ field_touch t x (kind_of u) (number_in u))
  value_first runs x (Node kind m span semantic_id qs) k ps is same =
      let here : is_same runs (runs_with_class (child (Node kind m span semantic_id (more k ps)))) ≡ true = ap (λ (rs : Parts). is_same runs (runs_with_class (child (Node kind m span semantic_id rs)))) (sym is) ∙ same in
      ap (λ (rs : Parts). value_touch t runs x (Node kind m span semantic_id rs)) is
      ∙ ap (λ b. cond b (cond (is_element kind) [] (touches_at t x k) ++ (touches_of t x ps ++ field_touch t x kind m)) []) here
      ∙ ap (λ (ts : List Touch). ts ++ (touches_of t x ps ++ field_touch t x kind m)) (flipped (is_element kind) (touches_at t x k))
      ∙ ap (λ (rs : Parts). first_touches t (not (is_element kind)) x rs ++ (touches_of t x (behind_first rs) ++ field_touch t x kind m)) (sym is)

  pub value_none : (runs : Bool) (x : Spot) (u : Tree) → parts_in u ≡ end → value_touch t runs x u ≡ []
  value_none runs x (Node kind m span semantic_id qs) is = ap (λ (rs : Parts). value_touch t runs x (Node kind m span semantic_id rs)) is

  not_here : (b : Bool) (ts : List Touch) → b ≡ false → cond b ts [] ≡ []
  not_here b ts is = ap (λ c. cond c ts []) is

  pub value_elsewhere : (runs : Bool) (x : Spot) (u : Tree) → is_same runs (runs_with_class (child u)) ≡ false → value_touch t runs x u ≡ []
  value_elsewhere runs x (Node kind m span semantic_id end) same = refl
  value_elsewhere runs x (Node kind m span semantic_id (more k ps)) same = not_here (is_same runs (runs_with_class (child (Node kind m span semantic_id (more k ps))))) (cond (is_element kind) [] (touches_at t x k) ++ (touches_of t x ps ++ field_touch t x kind m)) same

-- ---- the conversion of a key

pub converted_property : (x : Spot) (kind : Kind) (m : ℕ) → kind ≡ Kind.Property → converted x kind m ≡ touch_around x
converted_property x kind m is = ap (λ k. converted x k m) is

pub converted_other : (x : Spot) (kind : Kind) (m : ℕ) → (kind ≡ Kind.Property → ⊥) → converted x kind m ≡ touch x.held m spec.another
converted_other x Kind.Property m other = absurd (other refl)
converted_other x kind m other = refl

-- ---- parts as they stand in code

module _ (t : Terms) (x : ℕ → Spot) where
  pub turned_at : (xs : List code.Part) (p q : code.Part) → 2 ≤ length xs → p ≡ get_or xs 0 p → q ≡ get_or xs 1 q → turned t x (parts_of xs) ≡ touches_at t (x 1) (part_of q) ++ (touches_at t (x 0) (part_of p) ++ touches_from t x 2 (parts_from 2 (parts_of xs)))
  turned_at [] p q long is_p is_q = absurd (omega arith)
  turned_at (a ∷ []) p q long is_p is_q = absurd (omega arith)
  turned_at (a ∷ (b ∷ xs)) p q long is_p is_q =
      turned_parts t x (part_of a) (part_of b) (parts_of xs) (parts_of (a ∷ (b ∷ xs))) refl
      ∙ ap (λ (k : code.Part). touches_at t (x 1) (part_of k) ++ (touches_at t (x 0) (part_of a) ++ touches_from t x 2 (parts_of xs))) (sym is_q)
      ∙ ap (λ (k : code.Part). touches_at t (x 1) (part_of q) ++ (touches_at t (x 0) (part_of k) ++ touches_from t x 2 (parts_of xs))) (sym is_p)

  pub turned_only : (xs : List code.Part) (p : code.Part) → length xs ≡ 1 → p ≡ get_or xs 0 p → turned t x (parts_of xs) ≡ touches_at t (x 0) (part_of p)
  turned_only [] p one is = absurd (omega arith)
  turned_only (a ∷ []) p one is = ap (λ (k : code.Part). touches_at t (x 0) (part_of k)) (sym is)
  turned_only (a ∷ (b ∷ xs)) p one is = absurd (omega arith)

  pub keyed_at : (conversion : List Touch) (xs : List code.Part) (p : code.Part) → 1 ≤ length xs → p ≡ get_or xs 0 p → keyed t conversion x (parts_of xs) ≡ touches_at t (x 0) (part_of p) ++ (conversion ++ touches_from t x 1 (parts_from 1 (parts_of xs)))
  keyed_at conversion [] p long is = absurd (omega arith)
  keyed_at conversion (a ∷ xs) p long is =
      keyed_parts t conversion x (part_of a) (parts_of xs) (parts_of (a ∷ xs)) refl
      ∙ ap (λ (k : code.Part). touches_at t (x 0) (part_of k) ++ (conversion ++ touches_from t x 1 (parts_of xs))) (sym is)

  pub default_member_at : (y : Spot) (xs : List code.Part) (l r : code.Part) → 2 ≤ length xs → l ≡ get_or xs 0 l → r ≡ get_or xs 1 r → is_member (part_of l) ≡ true → inner_touches t Kind.AssignmentTargetWithDefault y x (parts_of xs) ≡ touches_at t (x 0) (part_of l) ++ touches_at t (x 1) (part_of r)
  default_member_at y [] l r long is_l is_r member = absurd (omega arith)
  default_member_at y (a ∷ []) l r long is_l is_r member = absurd (omega arith)
  default_member_at y (a ∷ (b ∷ xs)) l r long is_l is_r member =
      default_member t y x (part_of a) (part_of b) (parts_of xs) (parts_of (a ∷ (b ∷ xs))) refl (ap (λ (k : code.Part). is_member (part_of k)) (sym is_l) ∙ member)
      ∙ ap (λ (k : code.Part). touches_at t (x 0) (part_of k) ++ touches_at t (x 1) (part_of b)) (sym is_l)
      ∙ ap (λ (k : code.Part). touches_at t (x 0) (part_of l) ++ touches_at t (x 1) (part_of k)) (sym is_r)

  pub default_other_at : (y : Spot) (xs : List code.Part) (l r : code.Part) → 2 ≤ length xs → l ≡ get_or xs 0 l → r ≡ get_or xs 1 r → is_member (part_of l) ≡ false → inner_touches t Kind.AssignmentTargetWithDefault y x (parts_of xs) ≡ touches_at t (x 1) (part_of r) ++ touches_at t (x 0) (part_of l)
  default_other_at y [] l r long is_l is_r member = absurd (omega arith)
  default_other_at y (a ∷ []) l r long is_l is_r member = absurd (omega arith)
  default_other_at y (a ∷ (b ∷ xs)) l r long is_l is_r member =
      default_other t y x (part_of a) (part_of b) (parts_of xs) (parts_of (a ∷ (b ∷ xs))) refl (ap (λ (k : code.Part). is_member (part_of k)) (sym is_l) ∙ member)
      ∙ ap (λ (k : code.Part). touches_at t (x 1) (part_of b) ++ touches_at t (x 0) (part_of k)) (sym is_l)
      ∙ ap (λ (k : code.Part). touches_at t (x 1) (part_of k) ++ touches_at t (x 0) (part_of l)) (sym is_r)

  pub assigned_pattern_at : (y : Spot) (xs : List code.Part) (l r : code.Part) → 3 ≤ length xs → l ≡ get_or xs 1 l → r ≡ get_or xs 2 r → is_pattern (part_of l) ≡ true → inner_touches t Kind.AssignmentExpression y x (parts_of xs) ≡ touches_at t (x 2) (part_of r) ++ touches_at t (x 1) (part_of l)
  assigned_pattern_at y [] l r long is_l is_r pattern = absurd (omega arith)
  assigned_pattern_at y (o ∷ []) l r long is_l is_r pattern = absurd (omega arith)
  assigned_pattern_at y (o ∷ (a ∷ [])) l r long is_l is_r pattern = absurd (omega arith)
  assigned_pattern_at y (o ∷ (a ∷ (b ∷ xs))) l r long is_l is_r pattern =
      assigned_pattern t y x (part_of o) (part_of a) (part_of b) (parts_of xs) (parts_of (o ∷ (a ∷ (b ∷ xs)))) refl (ap (λ (k : code.Part). is_pattern (part_of k)) (sym is_l) ∙ pattern)
      ∙ ap (λ (k : code.Part). touches_at t (x 2) (part_of b) ++ touches_at t (x 1) (part_of k)) (sym is_l)
      ∙ ap (λ (k : code.Part). touches_at t (x 2) (part_of k) ++ touches_at t (x 1) (part_of l)) (sym is_r)

  pub assigned_other_at : (y : Spot) (xs : List code.Part) (l r : code.Part) → 3 ≤ length xs → l ≡ get_or xs 1 l → r ≡ get_or xs 2 r → is_pattern (part_of l) ≡ false → inner_touches t Kind.AssignmentExpression y x (parts_of xs) ≡ touches_at t (x 1) (part_of l) ++ touches_at t (x 2) (part_of r)
  assigned_other_at y [] l r long is_l is_r pattern = absurd (omega arith)
  assigned_other_at y (o ∷ []) l r long is_l is_r pattern = absurd (omega arith)
  assigned_other_at y (o ∷ (a ∷ [])) l r long is_l is_r pattern = absurd (omega arith)
  assigned_other_at y (o ∷ (a ∷ (b ∷ xs))) l r long is_l is_r pattern =
      assigned_other t y x (part_of o) (part_of a) (part_of b) (parts_of xs) (parts_of (o ∷ (a ∷ (b ∷ xs)))) refl (ap (λ (k : code.Part). is_pattern (part_of k)) (sym is_l) ∙ pattern)
      ∙ ap (λ (k : code.Part). touches_at t (x 1) (part_of k) ++ touches_at t (x 2) (part_of b)) (sym is_l)
      ∙ ap (λ (k : code.Part). touches_at t (x 1) (part_of l) ++ touches_at t (x 2) (part_of k)) (sym is_r)

  pub class_at : (y : Spot) (n : ℕ) (xs : List code.Part) (h b : code.Part) → 3 ≤ length xs → h ≡ get_or xs 1 h → b ≡ get_or xs 2 b → class_touches t y n (parts_of xs) ≡ touches_at t y (part_of h) ++ (key_touches t y (part_of b) ++ ((touch y.held n spec.makes_class ++ touch y.held n spec.another) ++ spec.without_this (value_touches t true y (part_of b))))
  class_at y n [] h b long is_h is_b = absurd (omega arith)
  class_at y n (i ∷ []) h b long is_h is_b = absurd (omega arith)
  class_at y n (i ∷ (k ∷ [])) h b long is_h is_b = absurd (omega arith)
  class_at y n (i ∷ (k ∷ (l ∷ xs))) h b long is_h is_b =
      ap (λ (p : code.Part). touches_at t y (part_of p) ++ (key_touches t y (part_of l) ++ ((touch y.held n spec.makes_class ++ touch y.held n spec.another) ++ spec.without_this (value_touches t true y (part_of l))))) (sym is_h)
      ∙ ap (λ (p : code.Part). touches_at t y (part_of h) ++ (key_touches t y (part_of p) ++ ((touch y.held n spec.makes_class ++ touch y.held n spec.another) ++ spec.without_this (value_touches t true y (part_of p))))) (sym is_b)

pub value_at : (t : Terms) (runs : Bool) (x : Spot) (u : Tree) (xs : List code.Part) → parts_in u ≡ parts_of xs → 1 ≤ length xs → is_same runs (runs_with_class (child u)) ≡ true → value_touch t runs x u ≡ first_touches t (not (is_element (kind_of u))) x (parts_of xs) ++ (touches_of t x (behind_first (parts_of xs)) ++ field_touch t x (kind_of u) (number_in u))
value_at t runs x u [] is long same = absurd (omega arith)
value_at t runs x u (p ∷ xs) is long same =
    value_first t runs x u (part_of p) (parts_of xs) is same
    ∙ ap (λ (rs : Parts). first_touches t (not (is_element (kind_of u))) x rs ++ (touches_of t x (behind_first rs) ++ field_touch t x (kind_of u) (number_in u))) is

pub appended_four : {X : Type 0} (old m1 m2 m3 new a b c d : List X) → m1 ≡ old ++ a → m2 ≡ m1 ++ b → m3 ≡ m2 ++ c → new ≡ m3 ++ d → new ≡ old ++ (a ++ (b ++ (c ++ d)))
appended_four old m1 m2 m3 new a b c d e1 e2 e3 e4 = appended_twice old m1 new a (b ++ (c ++ d)) e1 (appended_twice m1 m2 new b (c ++ d) e2 (appended_twice m2 m3 new c d e3 e4))
