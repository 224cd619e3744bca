-- The identifiers that are a `var` in the head of a for-in or for-of: those of `bindings_of`, and those that `es_steps` collects of
-- each such loop. They are weighed, each by its number.
use Rattle.std.proofs.Common.{◌≡◌, refl, sym, ap, ◌∙◌, ℕ, suc, ◌+◌, List, [], ◌∷◌, ◌++◌, nat_eq, Bool, true, false, true≢false, cond, ◌&&◌, ◌||◌, not, Option, None, arith}
use Rattle.std.specs.Prelude.{codes, bytes_eq}
use Rattle.std.proofs.lemmas.Bool.{and_parts}
use Rattle.std.proofs.lemmas.Bool.Decides.{nat_tests}
use Rattle.es_base.specs.Conforms.{conforms, parts_conform, part_conforms, items_conform, item_conforms, place_rule, kind_rule, boolean_at, key_place}
use Rattle.es_base.specs.Preorder.{preorder, preorder_of, preorder_of_part}
use Rattle.es_base.specs.Table.{Field, members_of, stands_in}
use Rattle.es_base.specs.Tree.{Tree, Part, Parts, Node, end, more, child, absent, list, string, no_string, boolean, literal}
use Rattle.es_base.specs.declared.kind.Kind.{Kind}
use Rattle.es_base.specs.declared.table.Place.{Place}
use Rattle.es_base.specs.declared.table.Sort.{Sort}
use Rattle.es_scopes.specs.Held.{weight}
use Rattle.es_scopes.specs.NodeBindings.{NodeBinding, own_binding, node_bindings, bindings_of_parts, bindings_of_part, bindings_of_items, bindings_of, flags_in, in_head}
use Rattle.es_steps.specs.Parts.{at, string_of}
use Rattle.es_steps.specs.References.{is_for_each, numbers_of}
use Rattle.es_steps.specs.Scopes.{Declaration, no_class, binds, bound_names, bound_members, bound_part, bound_items, var_names, var_part, var_items, is_var}

-- ---- where such identifiers stand

-- what a place in the head of a loop holds: the declaration or a target, a pattern of the declaration, or neither
data Mode : Type 0 where
  of_var : Mode
  of_pattern : Mode
  of_none : Mode

abbrev mode_of : Place → Mode
mode_of Place.ForLeft = of_var
mode_of Place.Pattern = of_pattern
mode_of Place.PatternOrRest = of_pattern
mode_of Place.PatternMember = of_pattern
mode_of Place.VariableDeclarator = of_pattern
mode_of place = of_none

abbrev names_by : Mode → Part → List Declaration
names_by of_var p = var_part p
names_by of_pattern p = bound_part no_class p
names_by of_none p = []

-- the place may be such a head
abbrev is_head_mode : Mode → Bool
is_head_mode of_none = false
is_head_mode m = true

abbrev fits_place : Place → Bool → Bool
fits_place place head = not head || is_head_mode (mode_of place)

abbrev fits_sort : Sort → Bool → Bool
fits_sort (Sort.Child place) head = fits_place place head
fits_sort (Sort.Nullable place) head = fits_place place head
fits_sort (Sort.Key place) head = not head
fits_sort (Sort.List place) head = fits_place place head
fits_sort (Sort.NonEmptyList place) head = fits_place place head
fits_sort (Sort.ListWithHoles place) head = fits_place place head
fits_sort sort head = true

abbrev fits_all : (ℕ → Bool) → List Field → Bool
fits_all heads [] = true
fits_all heads (f ∷ fs) = fits_sort f.sort (heads 0) && fits_all (λ j. heads (suc j)) fs

variables-fit : (b : Bool) → fits_all (λ j. b) (members_of Kind.VariableDeclaration) ≡ true
variables-fit true = refl
variables-fit false = refl

heads-fit : (kind : Kind) (ps : Parts) (head : Bool) → fits_all (in_head kind ps head) (members_of kind) ≡ true
heads-fit Kind.VariableDeclaration ps head = variables-fit (head && bytes_eq (string_of (at 0 ps)) (codes "var"))
heads-fit kind ps true = refl
heads-fit kind ps false = refl

-- what a part in a head declares there, as its sort says
abbrev names_of_sort : Sort → Part → List Declaration
names_of_sort (Sort.Child place) p = names_by (mode_of place) p
names_of_sort (Sort.Nullable place) p = names_by (mode_of place) p
names_of_sort (Sort.List place) p = names_by (mode_of place) p
names_of_sort (Sort.NonEmptyList place) p = names_by (mode_of place) p
names_of_sort (Sort.ListWithHoles place) p = names_by (mode_of place) p
names_of_sort sort p = []

abbrev names_of_parts : (ℕ → Bool) → List Field → Parts → List Declaration
names_of_parts heads fs end = []
names_of_parts heads [] (more p ps) = []
names_of_parts heads (f ∷ fs) (more p ps) = cond (heads 0) (names_of_sort f.sort p) [] ++ names_of_parts (λ j. heads (suc j)) fs ps

-- ---- what a node passes on to its parts

abbrev implies : Bool → Bool → Bool
implies true b = b
implies false b = true

by_implies : (a b : Bool) → implies a b ≡ true → a ≡ true → b ≡ true
by_implies true b h k = h
by_implies false b h k = absurd (true≢false (sym k))

-- the parts of a pattern that bind are those in the head
abbrev is_pattern_mode : Mode → Bool
is_pattern_mode of_pattern = true
is_pattern_mode m = false

abbrev is_pattern_sort : Sort → Bool
is_pattern_sort (Sort.Child place) = is_pattern_mode (mode_of place)
is_pattern_sort (Sort.Nullable place) = is_pattern_mode (mode_of place)
is_pattern_sort (Sort.List place) = is_pattern_mode (mode_of place)
is_pattern_sort (Sort.NonEmptyList place) = is_pattern_mode (mode_of place)
is_pattern_sort (Sort.ListWithHoles place) = is_pattern_mode (mode_of place)
is_pattern_sort sort = false

abbrev binds_head : Sort → Bool → Bool
binds_head sort true = binds sort && is_pattern_sort sort
binds_head sort false = not (binds sort)

abbrev binds_heads : (ℕ → Bool) → List Field → Bool
binds_heads heads [] = true
binds_heads heads (f ∷ fs) = binds_head f.sort (heads 0) && binds_heads (λ j. heads (suc j)) fs

mode-names : (m : Mode) (p : Part) → is_pattern_mode m ≡ true → names_by m p ≡ bound_part no_class p
mode-names of_pattern p h = refl
mode-names of_var p h = absurd (true≢false (sym h))
mode-names of_none p h = absurd (true≢false (sym h))

sort-names : (sort : Sort) (p : Part) → is_pattern_sort sort ≡ true → names_of_sort sort p ≡ bound_part no_class p
sort-names (Sort.Child place) p h = mode-names (mode_of place) p h
sort-names (Sort.Nullable place) p h = mode-names (mode_of place) p h
sort-names (Sort.List place) p h = mode-names (mode_of place) p h
sort-names (Sort.NonEmptyList place) p h = mode-names (mode_of place) p h
sort-names (Sort.ListWithHoles place) p h = mode-names (mode_of place) p h
sort-names sort p h = absurd (true≢false (sym h))

part-bound : (sort : Sort) (p : Part) (b : Bool) → binds_head sort b ≡ true → cond b (names_of_sort sort p) [] ≡ cond (binds sort) (bound_part no_class p) []
part-bound sort p true h = let both = and_parts (binds sort) (is_pattern_sort sort) h in sort-names sort p both.1 ∙ ap (λ b. cond b (bound_part no_class p) []) (sym both.0)
part-bound sort p false h = ap (λ b. cond b (bound_part no_class p) []) (not-true (binds sort) h)
  where
    not-true : (b : Bool) → not b ≡ true → false ≡ b
    not-true true h = h
    not-true false h = refl

parts-bound : (heads : ℕ → Bool) (fs : List Field) (ps : Parts) → binds_heads heads fs ≡ true → names_of_parts heads fs ps ≡ bound_members no_class fs ps
parts-bound heads fs end h = refl
parts-bound heads [] (more p ps) h = refl
parts-bound heads (f ∷ fs) (more p ps) h =
    let both = and_parts (binds_head f.sort (heads 0)) (binds_heads (λ j. heads (suc j)) fs) h in
    λ i. part-bound f.sort p (heads 0) both.0 i ++ parts-bound (λ j. heads (suc j)) fs ps both.1 i

none-bound : (heads : ℕ → Bool) (fs : List Field) (ps : Parts) → ((j : ℕ) → heads j ≡ false) → names_of_parts heads fs ps ≡ []
none-bound heads fs end h = refl
none-bound heads [] (more p ps) h = refl
none-bound heads (f ∷ fs) (more p ps) h = λ i. cond (h 0 i) (names_of_sort f.sort p) [] ++ none-bound (λ j. heads (suc j)) fs ps (λ j. h (suc j)) i

-- the kinds of a pattern, and of a target
abbrev is_pattern_kind : Kind → Bool
is_pattern_kind Kind.BindingIdentifier = true
is_pattern_kind Kind.ObjectPattern = true
is_pattern_kind Kind.ArrayPattern = true
is_pattern_kind Kind.AssignmentPattern = true
is_pattern_kind Kind.RestElement = true
is_pattern_kind Kind.BindingProperty = true
is_pattern_kind Kind.VariableDeclarator = true
is_pattern_kind Kind.Foreign = true
is_pattern_kind kind = false

pattern-place : (place : Place) → is_pattern_mode (mode_of place) ≡ true → (kind : Kind) → implies (stands_in place kind) (is_pattern_kind kind) ≡ true
pattern-place Place.Pattern h Kind.Program = refl
pattern-place Place.Pattern h kind = refl
pattern-place Place.PatternOrRest h Kind.Program = refl
pattern-place Place.PatternOrRest h kind = refl
pattern-place Place.PatternMember h Kind.Program = refl
pattern-place Place.PatternMember h kind = refl
pattern-place Place.VariableDeclarator h Kind.Program = refl
pattern-place Place.VariableDeclarator h kind = refl
pattern-place place h kind = absurd (true≢false (sym h))

abbrev is_left_kind : Kind → Bool
is_left_kind Kind.VariableDeclaration = true
is_left_kind Kind.IdentifierReference = true
is_left_kind Kind.MemberExpression = true
is_left_kind Kind.PrivateField = true
is_left_kind Kind.ObjectAssignmentTarget = true
is_left_kind Kind.ArrayAssignmentTarget = true
is_left_kind kind = false

left-place : (kind : Kind) → implies (stands_in Place.ForLeft kind) (is_left_kind kind) ≡ true
left-place Kind.Program = refl
left-place kind = refl

-- what a loop writes by itself
abbrev pub node_heads : Tree → List ℕ
node_heads (Node kind m span id ps) = cond (is_for_each kind) (numbers_of (var_part (at 0 ps))) []

suc_not_zero : (j : ℕ) → nat_eq (suc j) 0 ≡ false
suc_not_zero j = grind (arith, nat_tests)

module _ (v : ℕ → ℕ) where
  abbrev pub total : List ℕ → ℕ
  total [] = 0
  total (n ∷ ns) = v n + total ns

  abbrev pub each : List Tree → ℕ
  each [] = 0
  each (t ∷ ts) = total (node_heads t) + each ts

  abbrev pub head_total : List NodeBinding → ℕ
  head_total [] = 0
  head_total (b ∷ bs) = cond b.head_var (v b.node) 0 + head_total bs

  abbrev W : List Declaration → ℕ
  W ds = weight (λ m s. v m) ds

  W-append : (xs ys : List Declaration) → W (xs ++ ys) ≡ W xs + W ys
  W-append [] ys = omega arith
  W-append (x ∷ xs) ys = omega (arith, W-append xs ys)

  W-numbers : (ds : List Declaration) → total (numbers_of ds) ≡ W ds
  W-numbers [] = refl
  W-numbers (d ∷ ds) = omega (arith, W-numbers ds)

  head-append : (xs ys : List NodeBinding) → head_total (xs ++ ys) ≡ head_total xs + head_total ys
  head-append [] ys = omega arith
  head-append (x ∷ xs) ys = omega (arith, head-append xs ys)

  each-append : (xs ys : List Tree) → each (xs ++ ys) ≡ each xs + each ys
  each-append [] ys = omega arith
  each-append (x ∷ xs) ys = omega (arith, each-append xs ys)

  W-cond : (b : Bool) (ds : List Declaration) → W (cond b ds []) ≡ cond b (W ds) 0
  W-cond true ds = refl
  W-cond false ds = refl

  -- ---- a node

  abbrev Goal : Kind → ℕ → Parts → ℕ → Bool → ℕ → Type 0
  Goal kind m ps flags head given = head_total (own_binding kind m ps flags head) + W (names_of_parts (in_head kind ps head) (members_of kind) ps) ≡ given + total (node_heads (Node kind m None None ps))

  quiet : (kind : Kind) (ps : Parts) (head : Bool) → ((j : ℕ) → in_head kind ps head j ≡ false) → W (names_of_parts (in_head kind ps head) (members_of kind) ps) ≡ 0
  quiet kind ps head h = ap W (none-bound (in_head kind ps head) (members_of kind) ps h)

  loop : (f : Field) (fs : List Field) (computed : Bool) (ps : Parts) → f.sort ≡ Sort.Child Place.ForLeft → parts_conform computed (f ∷ fs) ps ≡ true → W (names_of_parts (λ j. nat_eq j 0) (f ∷ fs) ps) ≡ W (var_part (at 0 ps))
  loop f fs computed end is h = absurd (true≢false (sym h))
  loop f fs computed (more p ps) is h = omega (arith, W-append (names_of_sort f.sort p) (names_of_parts (λ j. nat_eq (suc j) 0) fs ps), ap (λ (sort : Sort). W (names_of_sort sort p)) is, ap W (none-bound (λ j. nat_eq (suc j) 0) fs ps suc_not_zero))

  -- not in a head
  node-beside : (kind : Kind) (m : ℕ) (ps : Parts) (flags : ℕ) (computed : Bool) → parts_conform computed (members_of kind) ps ≡ true → Goal kind m ps flags false 0
  node-beside Kind.ForInStatement m ps flags computed h = omega (arith, loop _ _ computed ps refl h, W-numbers (var_part (at 0 ps)))
  node-beside Kind.ForOfStatement m ps flags computed h = omega (arith, loop _ _ computed ps refl h, W-numbers (var_part (at 0 ps)))
  node-beside Kind.BindingIdentifier m ps flags computed h = omega (arith, quiet Kind.BindingIdentifier ps false (λ j. refl))
  node-beside kind m ps flags computed h = omega (arith, quiet kind ps false (λ j. refl))

  variables : (b : Bool) (p q : Part) → W (cond b [] [] ++ (cond b (bound_part no_class q) [] ++ [])) ≡ W (cond b (bound_part no_class q) [])
  variables true p q = omega (arith, W-append (bound_part no_class q) [])
  variables false p q = refl

  declaration : (m : ℕ) (ps : Parts) (computed : Bool) → parts_conform computed (members_of Kind.VariableDeclaration) ps ≡ true → W (names_of_parts (in_head Kind.VariableDeclaration ps true) (members_of Kind.VariableDeclaration) ps) ≡ W (var_names (Node Kind.VariableDeclaration m None None ps))
  declaration m end computed h = absurd (true≢false (sym h))
  declaration m (more p end) computed h = absurd (true≢false (sym (and_parts _ _ h).1))
  declaration m (more p (more q end)) computed h = variables (is_var (more p (more q end))) p q
  declaration m (more p (more q (more r ps))) computed h = absurd (true≢false (sym (and_parts _ _ (and_parts _ _ h).1).1))

  -- on the left of a loop
  node-left : (kind : Kind) (m : ℕ) (ps : Parts) (flags : ℕ) (computed : Bool) → is_left_kind kind ≡ true → parts_conform computed (members_of kind) ps ≡ true → Goal kind m ps flags true (W (var_names (Node kind m None None ps)))
  node-left Kind.VariableDeclaration m ps flags computed is h = omega (arith, declaration m ps computed h)
  node-left Kind.IdentifierReference m ps flags computed is h = omega (arith, quiet Kind.IdentifierReference ps true (λ j. refl))
  node-left Kind.MemberExpression m ps flags computed is h = omega (arith, quiet Kind.MemberExpression ps true (λ j. refl))
  node-left Kind.PrivateField m ps flags computed is h = omega (arith, quiet Kind.PrivateField ps true (λ j. refl))
  node-left Kind.ObjectAssignmentTarget m ps flags computed is h = omega (arith, quiet Kind.ObjectAssignmentTarget ps true (λ j. refl))
  node-left Kind.ArrayAssignmentTarget m ps flags computed is h = omega (arith, quiet Kind.ArrayAssignmentTarget ps true (λ j. refl))
  node-left kind m ps flags computed is h = absurd (true≢false (sym is))

  -- a pattern
  node-pattern : (kind : Kind) (m : ℕ) (ps : Parts) (flags : ℕ) → is_pattern_kind kind ≡ true → Goal kind m ps flags true (W (bound_names no_class (Node kind m None None ps)))
  node-pattern Kind.BindingIdentifier m ps flags is = omega (arith, quiet Kind.BindingIdentifier ps true (λ j. refl))
  node-pattern Kind.ObjectPattern m ps flags is = omega (arith, ap W (parts-bound (in_head Kind.ObjectPattern ps true) (members_of Kind.ObjectPattern) ps refl))
  node-pattern Kind.ArrayPattern m ps flags is = omega (arith, ap W (parts-bound (in_head Kind.ArrayPattern ps true) (members_of Kind.ArrayPattern) ps refl))
  node-pattern Kind.AssignmentPattern m ps flags is = omega (arith, ap W (parts-bound (in_head Kind.AssignmentPattern ps true) (members_of Kind.AssignmentPattern) ps refl))
  node-pattern Kind.RestElement m ps flags is = omega (arith, ap W (parts-bound (in_head Kind.RestElement ps true) (members_of Kind.RestElement) ps refl))
  node-pattern Kind.BindingProperty m ps flags is = omega (arith, ap W (parts-bound (in_head Kind.BindingProperty ps true) (members_of Kind.BindingProperty) ps refl))
  node-pattern Kind.VariableDeclarator m ps flags is = omega (arith, ap W (parts-bound (in_head Kind.VariableDeclarator ps true) (members_of Kind.VariableDeclarator) ps refl))
  node-pattern Kind.Foreign m ps flags is = omega (arith, ap W (parts-bound (in_head Kind.Foreign ps true) (members_of Kind.Foreign) ps refl))
  node-pattern kind m ps flags is = absurd (true≢false (sym is))

  node-where : (place : Place) (mode : Mode) (kind : Kind) (m : ℕ) (ps : Parts) (flags : ℕ) (computed : Bool) → mode_of place ≡ mode → is_head_mode mode ≡ true → stands_in place kind ≡ true → parts_conform computed (members_of kind) ps ≡ true → Goal kind m ps flags true (W (names_by mode (child (Node kind m None None ps))))
  node-where place of_none kind m ps flags computed is head stands h = absurd (true≢false (sym head))
  node-where place of_pattern kind m ps flags computed is head stands h = node-pattern kind m ps flags (by_implies (stands_in place kind) (is_pattern_kind kind) (pattern-place place (ap is_pattern_mode is) kind) stands)
  node-where place of_var kind m ps flags computed is head stands h = node-left kind m ps flags computed (by_implies (stands_in Place.ForLeft kind) (is_left_kind kind) (left-place kind) (var-place place is stands)) h
    where
      var-place : (place : Place) → mode_of place ≡ of_var → stands_in place kind ≡ true → stands_in Place.ForLeft kind ≡ true
      var-place Place.ForLeft is stands = stands
      var-place Place.Pattern is stands = absurd (cc is)
      var-place place is stands = absurd (cc is)

  node-given : (place : Place) (head : Bool) (kind : Kind) (m : ℕ) (ps : Parts) (flags : ℕ) (computed : Bool) → fits_place place head ≡ true → stands_in place kind ≡ true → parts_conform computed (members_of kind) ps ≡ true → Goal kind m ps flags head (cond head (W (names_by (mode_of place) (child (Node kind m None None ps)))) 0)
  node-given place true kind m ps flags computed fit stands h = node-where place (mode_of place) kind m ps flags computed refl fit stands h
  node-given place false kind m ps flags computed fit stands h = node-beside kind m ps flags computed h

  -- ---- a tree

  given-anywhere : (mode : Mode) (kind : Kind) (m : ℕ) (span : Option (ℕ × ℕ)) (id : Option ℕ) (ps : Parts) → names_by mode (child (Node kind m None None ps)) ≡ names_by mode (child (Node kind m span id ps))
  given-anywhere of_var kind m span id ps = refl
  given-anywhere of_pattern kind m span id ps = refl
  given-anywhere of_none kind m span id ps = refl

  -- what a list declares, item by item
  given-more : (head : Bool) (mode : Mode) (p : Part) (ps : Parts) → cond head (W (names_by mode (list (more p ps)))) 0 ≡ cond head (W (names_by mode p)) 0 + cond head (W (names_by mode (list ps))) 0
  given-more true of_var p ps = W-append (var_part p) (var_items ps)
  given-more true of_pattern p ps = W-append (bound_part no_class p) (bound_items no_class ps)
  given-more true of_none p ps = omega arith
  given-more false mode p ps = omega arith

  given-end : (head : Bool) (mode : Mode) → cond head (W (names_by mode (list end))) 0 ≡ 0
  given-end true of_var = refl
  given-end true of_pattern = refl
  given-end true of_none = refl
  given-end false mode = refl

  given-absent : (head : Bool) (mode : Mode) → cond head (W (names_by mode absent)) 0 ≡ 0
  given-absent true of_var = refl
  given-absent true of_pattern = refl
  given-absent true of_none = refl
  given-absent false mode = refl

  given-zero : (head : Bool) → ◌≡◌ {A = ℕ} (cond head 0 0) 0
  given-zero true = refl
  given-zero false = refl

  abbrev given : Bool → Sort → Part → ℕ
  given head sort p = cond head (W (names_of_sort sort p)) 0

  mutual
    heads-tree : (place : Place) (flags : ℕ) (head : Bool) (t : Tree) → conforms place t ≡ true → fits_place place head ≡ true → head_total (node_bindings flags head t) ≡ cond head (W (names_by (mode_of place) (child t))) 0 + each (preorder t)
    heads-tree place flags head (Node kind m span id ps) h fit =
        let rules = and_parts (stands_in place kind) _ h in
        let parts = (and_parts (kind_rule kind ps) _ (and_parts (place_rule place kind ps) _ rules.1).1).1 in
        omega (
          arith,
          head-append (own_binding kind m ps flags head) (bindings_of_parts (flags_in kind ps flags) (in_head kind ps head) ps),
          heads-parts (flags_in kind ps flags) (in_head kind ps head) (boolean_at (codes "computed") (members_of kind) ps) (members_of kind) ps parts (heads-fit kind ps head),
          node-given place head kind m ps flags (boolean_at (codes "computed") (members_of kind) ps) fit rules.0 parts,
          ap (λ (ds : List Declaration). cond head (W ds) 0) (given-anywhere (mode_of place) kind m span id ps),
        )

    heads-parts : (flags : ℕ → ℕ) (heads : ℕ → Bool) (computed : Bool) (fs : List Field) (ps : Parts) → parts_conform computed fs ps ≡ true → fits_all heads fs ≡ true → head_total (bindings_of_parts flags heads ps) ≡ W (names_of_parts heads fs ps) + each (preorder_of ps)
    heads-parts flags heads computed fs end h fit = omega arith
    heads-parts flags heads computed [] (more p ps) h fit = absurd (true≢false (sym h))
    heads-parts flags heads computed (f ∷ fs) (more p ps) h fit =
        let both = and_parts (part_conforms computed f.sort p) (parts_conform computed fs ps) h in
        let fits = and_parts (fits_sort f.sort (heads 0)) (fits_all (λ j. heads (suc j)) fs) fit in
        omega (
          arith,
          head-append (bindings_of_part (flags 0) (heads 0) p) (bindings_of_parts (λ i. flags (suc i)) (λ i. heads (suc i)) ps),
          heads-part (flags 0) (heads 0) computed f.sort p both.0 fits.0,
          heads-parts (λ i. flags (suc i)) (λ i. heads (suc i)) computed fs ps both.1 fits.1,
          W-append (cond (heads 0) (names_of_sort f.sort p) []) (names_of_parts (λ j. heads (suc j)) fs ps),
          W-cond (heads 0) (names_of_sort f.sort p),
          each-append (preorder_of_part p) (preorder_of ps),
        )

    heads-part : (flags : ℕ) (head : Bool) (computed : Bool) (sort : Sort) (p : Part) → part_conforms computed sort p ≡ true → fits_sort sort head ≡ true → head_total (bindings_of_part flags head p) ≡ given head sort p + each (preorder_of_part p)
    heads-part flags head computed (Sort.Child place) (child t) h fit = heads-tree place flags head t h fit
    heads-part flags head computed (Sort.Nullable place) (child t) h fit = heads-tree place flags head t h fit
    heads-part flags true computed (Sort.Key place) (child t) h fit = absurd (true≢false (sym fit))
    heads-part flags false computed (Sort.Key place) (child t) h fit = heads-tree (key_place computed place) flags false t h refl
    heads-part flags head computed sort (child t) h fit = absurd (true≢false (sym h))
    heads-part flags head computed (Sort.Nullable place) absent h fit = omega (arith, given-absent head (mode_of place))
    heads-part flags head computed sort absent h fit = absurd (true≢false (sym h))
    heads-part flags head computed (Sort.List place) (list ps) h fit = heads-items flags head false place ps h fit
    heads-part flags head computed (Sort.NonEmptyList place) (list ps) h fit = heads-items flags head false place ps (and_parts _ _ h).1 fit
    heads-part flags head computed (Sort.ListWithHoles place) (list ps) h fit = heads-items flags head true place ps h fit
    heads-part flags head computed sort (list ps) h fit = absurd (true≢false (sym h))
    heads-part flags head computed Sort.Name (string s) h fit = omega (arith, given-zero head)
    heads-part flags head computed Sort.NullableString (string s) h fit = omega (arith, given-zero head)
    heads-part flags head computed (Sort.Word words) (string s) h fit = omega (arith, given-zero head)
    heads-part flags head computed Sort.Raw (string s) h fit = omega (arith, given-zero head)
    heads-part flags head computed Sort.Cooked (string s) h fit = omega (arith, given-zero head)
    heads-part flags head computed Sort.Type (string s) h fit = omega (arith, given-zero head)
    heads-part flags head computed sort (string s) h fit = absurd (true≢false (sym h))
    heads-part flags head computed Sort.NullableString no_string h fit = omega (arith, given-zero head)
    heads-part flags head computed Sort.Cooked no_string h fit = omega (arith, given-zero head)
    heads-part flags head computed sort no_string h fit = absurd (true≢false (sym h))
    heads-part flags head computed Sort.Boolean (boolean b) h fit = omega (arith, given-zero head)
    heads-part flags head computed Sort.False (boolean b) h fit = omega (arith, given-zero head)
    heads-part flags head computed sort (boolean b) h fit = absurd (true≢false (sym h))
    heads-part flags head computed Sort.Literal (literal l) h fit = omega (arith, given-zero head)
    heads-part flags head computed sort (literal l) h fit = absurd (true≢false (sym h))

    heads-items : (flags : ℕ) (head : Bool) (holes : Bool) (place : Place) (ps : Parts) → items_conform holes place ps ≡ true → fits_place place head ≡ true → head_total (bindings_of_items flags head ps) ≡ cond head (W (names_by (mode_of place) (list ps))) 0 + each (preorder_of ps)
    heads-items flags head holes place end h fit = omega (arith, given-end head (mode_of place))
    heads-items flags head holes place (more p ps) h fit =
        let both = and_parts (item_conforms holes place p) _ h in
        omega (
          arith,
          head-append (bindings_of_part flags head p) (bindings_of_items flags head ps),
          heads-item flags head holes place p both.0 fit,
          heads-items flags head holes place ps (and_parts _ _ both.1).1 fit,
          given-more head (mode_of place) p ps,
          each-append (preorder_of_part p) (preorder_of ps),
        )

    heads-item : (flags : ℕ) (head : Bool) (holes : Bool) (place : Place) (p : Part) → item_conforms holes place p ≡ true → fits_place place head ≡ true → head_total (bindings_of_part flags head p) ≡ cond head (W (names_by (mode_of place) p)) 0 + each (preorder_of_part p)
    heads-item flags head holes place (child t) h fit = heads-tree place flags head t h fit
    heads-item flags head holes place absent h fit = omega (arith, given-absent head (mode_of place))
    heads-item flags head holes place (list ps) h fit = absurd (true≢false (sym h))
    heads-item flags head holes place (string s) h fit = absurd (true≢false (sym h))
    heads-item flags head holes place no_string h fit = absurd (true≢false (sym h))
    heads-item flags head holes place (boolean b) h fit = absurd (true≢false (sym h))
    heads-item flags head holes place (literal l) h fit = absurd (true≢false (sym h))

  pub heads-program : (t : Tree) → conforms Place.Program t ≡ true → head_total (bindings_of t) ≡ each (preorder t)
  heads-program t h = omega (arith, heads-tree Place.Program 0 false t h refl)
