-- The laws of the order of `meetings`.
use Rattle.std.specs.Prelude.{◌≡◌, ℕ, ◌+◌, List, [], ◌∷◌, ◌++◌, Bool, true, false, Option, Some, None, flat_map, refl}
use Rattle.std.proofs.Common.{ap, sym, ◌∙◌}
use Rattle.std.proofs.lemmas.List.{append-nil, append_assoc}
use Rattle.std.proofs.lemmas.List.Concat.{flat_map-append}
use Rattle.es_base.specs.Table.{members_of}
use Rattle.es_base.specs.Tree.{Tree, Part, Parts, Node, end, more, child, absent, list, string, no_string, boolean, literal}
use Rattle.es_base.specs.declared.kind.Kind.{Kind}
use Rattle.es_visit.specs.Law.{standing, standing_below, standing_part, standing_items}
use Rattle.es_visit.specs.Meetings.{Event, entered, left, scope_entered, scope_left, with_scope, with_hook, meetings, meetings_below, meetings_part, meetings_items}
use Rattle.es_visit.specs.Order.{everywhere, entering, leaving, call_of, opened, closed, standing_last, last_below, last_part, last_items}
use Rattle.es_visit.specs.Order as o
use Rattle.es_visit.specs.Roles.{role_at, is_computed}
use Rattle.es_visit.specs.Visited.{hook_of_role, hook_of_kind, scope_of}
use Rattle.es_visit.specs.declared.roles.Role.{Role}
use Rattle.es_visit.specs.declared.visit_mut.Hook.{Hook}

-- ---- nested

module _ (goes : Hook → Tree → Bool) where
  nested_append : {xs ys : List Event} → o.Nested goes xs → o.Nested goes ys → o.Nested goes (xs ++ ys)
  nested_append o.nothing y = y
  nested_append (o.passed_by out x) y = o.passed_by out (nested_append x y)
  nested_append {ys = ys} (o.around_node {hook = hook} {t = t} {inside = inside} {es = es} into i x) y = rw (append_assoc inside (left hook t ∷ es) ys) (o.around_node into i (nested_append x y))
  nested_append {ys = ys} (o.around_parts {scope = scope} {inside = inside} {es = es} i x) y = rw (append_assoc inside (scope_left scope ∷ es) ys) (o.around_parts i (nested_append x y))

  nested_answer : (hook : Hook) (t : Tree) (b : Bool) (es : List Event) → goes hook t ≡ b → o.Nested goes es → o.Nested goes (with_hook goes (Some hook) t es)
  nested_answer hook t true es into h = rw into (o.around_node into h o.nothing)
  nested_answer hook t false es out h = rw out (o.passed_by out o.nothing)

  nested_hook : (h : Option Hook) (t : Tree) (es : List Event) → o.Nested goes es → o.Nested goes (with_hook goes h t es)
  nested_hook (Some hook) t es h = nested_answer hook t (goes hook t) es refl h
  nested_hook None t es h = h

  nested_scope : (scope : Option ℕ) (es : List Event) → o.Nested goes es → o.Nested goes (with_scope scope es)
  nested_scope (Some scope) es h = o.around_parts h o.nothing
  nested_scope None es h = h

  mutual
    pub nested : (role : Role) (t : Tree) → o.Nested goes (meetings goes role t)
    nested role (Node k i sp si ps) = nested_hook (hook_of_role role k) (Node k i sp si ps) _ (nested_hook (hook_of_kind k) (Node k i sp si ps) _ (nested_scope (scope_of k si) _ (nested_below k (is_computed k ps) 0 ps)))

    nested_below : (k : Kind) (computed : Bool) (at : ℕ) (ps : Parts) → o.Nested goes (meetings_below goes k computed at ps)
    nested_below k computed at end = o.nothing
    nested_below k computed at (more p ps) = nested_append (nested_part (role_at computed (members_of k) at) p) (nested_below k computed (at + 1) ps)

    nested_part : (role : Role) (p : Part) → o.Nested goes (meetings_part goes role p)
    nested_part role (child t) = nested role t
    nested_part role absent = o.nothing
    nested_part role (list all) = nested_items role all
    nested_part role (string s) = o.nothing
    nested_part role no_string = o.nothing
    nested_part role (boolean b) = o.nothing
    nested_part role (literal v) = o.nothing

    nested_items : (role : Role) (ps : Parts) → o.Nested goes (meetings_items goes role ps)
    nested_items role end = o.nothing
    nested_items role (more p ps) = nested_append (nested_part role p) (nested_items role ps)

-- ---- entering

entering-append : (xs ys : List Event) → entering (xs ++ ys) ≡ entering xs ++ entering ys
entering-append [] ys = refl
entering-append (entered hook t ∷ xs) ys = ap (λ es. entered hook t ∷ es) (entering-append xs ys)
entering-append (left hook t ∷ xs) ys = entering-append xs ys
entering-append (scope_entered scope ∷ xs) ys = ap (λ es. scope_entered scope ∷ es) (entering-append xs ys)
entering-append (scope_left scope ∷ xs) ys = entering-append xs ys

entering-hook : (h : Option Hook) (t : Tree) (es : List Event) → entering (with_hook everywhere h t es) ≡ call_of (λ hook. entered hook t) h ++ entering es
entering-hook (Some hook) t es = ap (λ xs. entered hook t ∷ xs) (entering-append es (left hook t ∷ []) ∙ append-nil (entering es))
entering-hook None t es = refl

entering-scope : (scope : Option ℕ) (es : List Event) → entering (with_scope scope es) ≡ call_of scope_entered scope ++ entering es
entering-scope (Some scope) es = ap (λ xs. scope_entered scope ∷ xs) (entering-append es (scope_left scope ∷ []) ∙ append-nil (entering es))
entering-scope None es = refl

-- what stands in front of a list, one by one
in_front : (a b c rest : List Event) → a ++ (b ++ (c ++ rest)) ≡ a ++ b ++ c ++ rest
in_front a b c rest = sym (append_assoc (a ++ b) c rest ∙ append_assoc a b (c ++ rest))

mutual
  pub entering-meetings : (role : Role) (t : Tree) → entering (meetings everywhere role t) ≡ flat_map opened (standing role t)
  entering-meetings role (Node k i sp si ps) =
      let t = Node k i sp si ps in
      let below = meetings_below everywhere k (is_computed k ps) 0 ps in
      let in_role = call_of (λ hook. entered hook t) (hook_of_role role k) in
      let in_kind = call_of (λ hook. entered hook t) (hook_of_kind k) in
      let in_scope = call_of scope_entered (scope_of k si) in
      entering-hook (hook_of_role role k) t (with_hook everywhere (hook_of_kind k) t (with_scope (scope_of k si) below))
      ∙ ap (λ xs. in_role ++ xs) (entering-hook (hook_of_kind k) t (with_scope (scope_of k si) below)
      ∙ ap (λ xs. in_kind ++ xs) (entering-scope (scope_of k si) below ∙ ap (λ xs. in_scope ++ xs) (entering-below k (is_computed k ps) 0 ps)))
      ∙ in_front in_role in_kind in_scope (flat_map opened (standing_below k (is_computed k ps) 0 ps))

  entering-below : (k : Kind) (computed : Bool) (at : ℕ) (ps : Parts) → entering (meetings_below everywhere k computed at ps) ≡ flat_map opened (standing_below k computed at ps)
  entering-below k computed at end = refl
  entering-below k computed at (more p ps) =
      let role = role_at computed (members_of k) at in
      entering-append (meetings_part everywhere role p) (meetings_below everywhere k computed (at + 1) ps)
      ∙ ap (λ xs. xs ++ entering (meetings_below everywhere k computed (at + 1) ps)) (entering-part role p)
      ∙ ap (λ xs. flat_map opened (standing_part role p) ++ xs) (entering-below k computed (at + 1) ps)
      ∙ sym (flat_map-append opened (standing_part role p) (standing_below k computed (at + 1) ps))

  entering-part : (role : Role) (p : Part) → entering (meetings_part everywhere role p) ≡ flat_map opened (standing_part role p)
  entering-part role (child t) = entering-meetings role t
  entering-part role absent = refl
  entering-part role (list all) = entering-items role all
  entering-part role (string s) = refl
  entering-part role no_string = refl
  entering-part role (boolean b) = refl
  entering-part role (literal v) = refl

  entering-items : (role : Role) (ps : Parts) → entering (meetings_items everywhere role ps) ≡ flat_map opened (standing_items role ps)
  entering-items role end = refl
  entering-items role (more p ps) =
      entering-append (meetings_part everywhere role p) (meetings_items everywhere role ps)
      ∙ ap (λ xs. xs ++ entering (meetings_items everywhere role ps)) (entering-part role p)
      ∙ ap (λ xs. flat_map opened (standing_part role p) ++ xs) (entering-items role ps)
      ∙ sym (flat_map-append opened (standing_part role p) (standing_items role ps))

-- ---- leaving

leaving-append : (xs ys : List Event) → leaving (xs ++ ys) ≡ leaving xs ++ leaving ys
leaving-append [] ys = refl
leaving-append (entered hook t ∷ xs) ys = leaving-append xs ys
leaving-append (left hook t ∷ xs) ys = ap (λ es. left hook t ∷ es) (leaving-append xs ys)
leaving-append (scope_entered scope ∷ xs) ys = leaving-append xs ys
leaving-append (scope_left scope ∷ xs) ys = ap (λ es. scope_left scope ∷ es) (leaving-append xs ys)

leaving-hook : (h : Option Hook) (t : Tree) (es : List Event) → leaving (with_hook everywhere h t es) ≡ leaving es ++ call_of (λ hook. left hook t) h
leaving-hook (Some hook) t es = leaving-append es (left hook t ∷ [])
leaving-hook None t es = sym (append-nil (leaving es))

leaving-scope : (scope : Option ℕ) (es : List Event) → leaving (with_scope scope es) ≡ leaving es ++ call_of scope_left scope
leaving-scope (Some scope) es = leaving-append es (scope_left scope ∷ [])
leaving-scope None es = sym (append-nil (leaving es))

-- what stands behind a list, one by one
behind : (all a b c : List Event) → all ++ a ++ b ++ c ≡ all ++ (a ++ b ++ c ++ [])
behind all a b c = append_assoc (all ++ a) b c ∙ append_assoc all a (b ++ c) ∙ ap (λ xs. all ++ xs) (sym (append_assoc a b c) ∙ sym (append-nil (a ++ b ++ c)))

mutual
  pub leaving-meetings : (role : Role) (t : Tree) → leaving (meetings everywhere role t) ≡ flat_map closed (standing_last role t)
  leaving-meetings role (Node k i sp si ps) =
      let t = Node k i sp si ps in
      let below = meetings_below everywhere k (is_computed k ps) 0 ps in
      let in_role = call_of (λ hook. left hook t) (hook_of_role role k) in
      let in_kind = call_of (λ hook. left hook t) (hook_of_kind k) in
      let in_scope = call_of scope_left (scope_of k si) in
      let last = last_below k (is_computed k ps) 0 ps in
      leaving-hook (hook_of_role role k) t (with_hook everywhere (hook_of_kind k) t (with_scope (scope_of k si) below))
      ∙ ap (λ xs. xs ++ in_role) (leaving-hook (hook_of_kind k) t (with_scope (scope_of k si) below)
      ∙ ap (λ xs. xs ++ in_kind) (leaving-scope (scope_of k si) below ∙ ap (λ xs. xs ++ in_scope) (leaving-below k (is_computed k ps) 0 ps)))
      ∙ behind (flat_map closed last) in_scope in_kind in_role
      ∙ sym (flat_map-append closed last ((role, t) ∷ []))

  leaving-below : (k : Kind) (computed : Bool) (at : ℕ) (ps : Parts) → leaving (meetings_below everywhere k computed at ps) ≡ flat_map closed (last_below k computed at ps)
  leaving-below k computed at end = refl
  leaving-below k computed at (more p ps) =
      let role = role_at computed (members_of k) at in
      leaving-append (meetings_part everywhere role p) (meetings_below everywhere k computed (at + 1) ps)
      ∙ ap (λ xs. xs ++ leaving (meetings_below everywhere k computed (at + 1) ps)) (leaving-part role p)
      ∙ ap (λ xs. flat_map closed (last_part role p) ++ xs) (leaving-below k computed (at + 1) ps)
      ∙ sym (flat_map-append closed (last_part role p) (last_below k computed (at + 1) ps))

  leaving-part : (role : Role) (p : Part) → leaving (meetings_part everywhere role p) ≡ flat_map closed (last_part role p)
  leaving-part role (child t) = leaving-meetings role t
  leaving-part role absent = refl
  leaving-part role (list all) = leaving-items role all
  leaving-part role (string s) = refl
  leaving-part role no_string = refl
  leaving-part role (boolean b) = refl
  leaving-part role (literal v) = refl

  leaving-items : (role : Role) (ps : Parts) → leaving (meetings_items everywhere role ps) ≡ flat_map closed (last_items role ps)
  leaving-items role end = refl
  leaving-items role (more p ps) =
      leaving-append (meetings_part everywhere role p) (meetings_items everywhere role ps)
      ∙ ap (λ xs. xs ++ leaving (meetings_items everywhere role ps)) (leaving-part role p)
      ∙ ap (λ xs. flat_map closed (last_part role p) ++ xs) (leaving-items role ps)
      ∙ sym (flat_map-append closed (last_part role p) (last_items role ps))
