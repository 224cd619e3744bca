-- Private names: which are declared around is known by a set, and the walk meets one node, one part and one item at a time.
use Rattle.std.proofs.Common.{◌≡◌, refl, sym, ap, ◌∙◌, ℕ, ◌+◌, ◌<◌, List, [], ◌∷◌, ◌++◌, map, length, drop, get_or, cond, not, ◌||◌, nat_eq, Bool, true, false, Option}
use Rattle.std.specs.Prelude.{◌&&◌}
use Rattle.std.proofs.lemmas.List.{at_drop_more}
use Rattle.es_base.specs.Conforms.{is_among}
use Rattle.es_base.specs.Tree.{Tree, Part, Parts, Node, end, more, child, absent, list, string, no_string, boolean, literal, nullable, trees, nullable_trees}
use Rattle.es_base.specs.declared.kind.Kind.{Kind}
use Rattle.es_name_set.proofs.NameSets.{is_among-append, HaveSame-append}
use Rattle.es_name_set.specs.Names.{HaveSame}
use Rattle.es_node.specs.View.{kind_of, number_in, parts_in, part_of, parts_of}
use Rattle.es_node.specs.declared.node.Part as code
use Rattle.es_steps.specs.Parts.{at, string_of}
use Rattle.es_steps.specs.PrivateNames.{is_private_identifier}
use Rattle.es_steps.specs.Values.{String}
use Rattle.es_validity.proofs.Firsts.{first_with_append}
use Rattle.es_validity.specs.Faults.{FaultAt, fault_at, first_with}
use Rattle.es_validity.specs.Privates.{members_in, spellings, duplicates, names_inside, seen_by, declares_at, undeclared, private_faults, private_faults_from, private_part_faults, private_item_faults}
use Rattle.es_validity.specs.declared.fault.Cause.{Cause}

-- ---- lists that have the same names give the same faults

undeclared-same : (xs ys : List String) → HaveSame xs ys → (declares : Bool) (kind : Kind) (m : ℕ) (ps : Parts) → undeclared xs declares kind m ps ≡ undeclared ys declares kind m ps
undeclared-same xs ys same declares kind m ps = ap (λ b. cond (is_private_identifier kind && not (declares || b)) (fault_at Cause.UndeclaredPrivate m ∷ []) []) (same (string_of (at 0 ps)))

mutual
  pub private_faults-same : (xs ys : List String) → HaveSame xs ys → (declares : Bool) (t : Tree) → private_faults xs declares t ≡ private_faults ys declares t
  private_faults-same xs ys same declares (Node kind m span semantic_id ps) =
      let again = map (fault_at Cause.DuplicatePrivate) (duplicates [] (members_in kind ps)) in
      let below = private_faults_from (names_inside xs kind ps) (declares_at kind) 0 ps in
      ap (λ fs. fs ++ (again ++ below)) (undeclared-same xs ys same declares kind m ps)
      ∙ ap (λ fs. undeclared ys declares kind m ps ++ (again ++ fs)) (private_faults_from-same (names_inside xs kind ps) (names_inside ys kind ps) (λ i. HaveSame-append (cond (nat_eq i 2) (spellings (members_in kind ps)) []) xs ys same) (declares_at kind) 0 ps)

  pub private_faults_from-same : (f g : ℕ → List String) → ((i : ℕ) → HaveSame (f i) (g i)) → (declares : ℕ → Bool) (i : ℕ) (ps : Parts) → private_faults_from f declares i ps ≡ private_faults_from g declares i ps
  private_faults_from-same f g same declares i end = refl
  private_faults_from-same f g same declares i (more p ps) =
      ap (λ fs. fs ++ private_faults_from f declares (i + 1) ps) (private_part_faults-same (f i) (g i) (same i) (declares i) p)
      ∙ ap (λ fs. private_part_faults (g i) (declares i) p ++ fs) (private_faults_from-same f g same declares (i + 1) ps)

  pub private_part_faults-same : (xs ys : List String) → HaveSame xs ys → (declares : Bool) (p : Part) → private_part_faults xs declares p ≡ private_part_faults ys declares p
  private_part_faults-same xs ys same declares (child t) = private_faults-same xs ys same declares t
  private_part_faults-same xs ys same declares absent = refl
  private_part_faults-same xs ys same declares (list ps) = private_item_faults-same xs ys same ps
  private_part_faults-same xs ys same declares (string s) = refl
  private_part_faults-same xs ys same declares no_string = refl
  private_part_faults-same xs ys same declares (boolean b) = refl
  private_part_faults-same xs ys same declares (literal v) = refl

  pub private_item_faults-same : (xs ys : List String) → HaveSame xs ys → (ps : Parts) → private_item_faults xs ps ≡ private_item_faults ys ps
  private_item_faults-same xs ys same end = refl
  private_item_faults-same xs ys same (more p ps) =
      ap (λ fs. fs ++ private_item_faults xs ps) (private_part_faults-same xs ys same false p)
      ∙ ap (λ fs. private_part_faults ys false p ++ fs) (private_item_faults-same xs ys same ps)

-- ---- in a node: what a class declares is seen in its body

inside_same : (declared ys names : List String) → HaveSame declared ys → (b : Bool) → HaveSame (cond b (declared ++ names) names) (cond b ys [] ++ names)
inside_same declared ys names same true = λ s. is_among-append s declared names ∙ ap (λ b. b || is_among s names) (same s) ∙ sym (is_among-append s ys names)
inside_same declared ys names same false = λ s. refl

pub node_met : (names declared : List String) (declares : Bool) (f : Option FaultAt) (t : Tree) → HaveSame declared (spellings (members_in (kind_of t) (parts_in t)))
    → first_with f (private_faults names declares t)
    ≡ first_with (first_with (first_with f (undeclared names declares (kind_of t) (number_in t) (parts_in t))) (map (fault_at Cause.DuplicatePrivate) (duplicates [] (members_in (kind_of t) (parts_in t))))) (private_faults_from (seen_by (declared ++ names) names) (declares_at (kind_of t)) 0 (parts_in t))
node_met names declared declares f (Node kind m span semantic_id ps) same =
    let here = undeclared names declares kind m ps in
    let again = map (fault_at Cause.DuplicatePrivate) (duplicates [] (members_in kind ps)) in
    let below = private_faults_from (names_inside names kind ps) (declares_at kind) 0 ps in
    first_with_append f here (again ++ below)
    ∙ first_with_append (first_with f here) again below
    ∙ ap (λ fs. first_with (first_with (first_with f here) again) fs) (sym (private_faults_from-same (seen_by (declared ++ names) names) (names_inside names kind ps) (λ i. inside_same declared (spellings (members_in kind ps)) names same (nat_eq i 2)) (declares_at kind) 0 ps))

-- ---- a name that is looked up

pub reached_here : (s : String) (xs ys : List String) → is_among s xs ≡ true → is_among s (xs ++ ys) ≡ true
reached_here s xs ys here = is_among-append s xs ys ∙ ap (λ b. b || is_among s ys) here

pub reached_outside : (s : String) (xs ys : List String) → is_among s xs ≡ false → is_among s (xs ++ ys) ≡ is_among s ys
reached_outside s xs ys here = is_among-append s xs ys ∙ ap (λ b. b || is_among s ys) here

-- ---- one part, one item

pub next_private_part : (names : ℕ → List String) (declares : ℕ → Bool) (f : Option FaultAt) (ps : List code.Part) (i : ℕ) (p : code.Part) → i < length ps → p ≡ get_or ps i p
    → first_with f (private_faults_from names declares i (parts_of (drop i ps))) ≡ first_with (first_with f (private_part_faults (names i) (declares i) (part_of p))) (private_faults_from names declares (i + 1) (parts_of (drop (i + 1) ps)))
next_private_part names declares f ps i p below is =
    let rest = private_faults_from names declares (i + 1) (parts_of (drop (i + 1) ps)) in
    at_drop_more (λ (xs : List code.Part). first_with f (private_faults_from names declares i (parts_of xs))) ps i p below
    ∙ first_with_append f (private_part_faults (names i) (declares i) (part_of (get_or ps i p))) rest
    ∙ ap (λ (q : code.Part). first_with (first_with f (private_part_faults (names i) (declares i) (part_of q))) rest) (sym is)

pub next_private_item : (names : List String) (f : Option FaultAt) (ts : List Tree) (i : ℕ) (t : Tree) → i < length ts → t ≡ get_or ts i t
    → first_with f (private_item_faults names (trees (drop i ts))) ≡ first_with (first_with f (private_faults names false t)) (private_item_faults names (trees (drop (i + 1) ts)))
next_private_item names f ts i t below is =
    let rest = private_item_faults names (trees (drop (i + 1) ts)) in
    at_drop_more (λ (xs : List Tree). first_with f (private_item_faults names (trees xs))) ts i t below
    ∙ first_with_append f (private_faults names false (get_or ts i t)) rest
    ∙ ap (λ (u : Tree). first_with (first_with f (private_faults names false u)) rest) (sym is)

pub next_private_hole : (names : List String) (f : Option FaultAt) (ts : List (Option Tree)) (i : ℕ) (t : Option Tree) → i < length ts → t ≡ get_or ts i t
    → first_with f (private_item_faults names (nullable_trees (drop i ts))) ≡ first_with (first_with f (private_part_faults names false (nullable t))) (private_item_faults names (nullable_trees (drop (i + 1) ts)))
next_private_hole names f ts i t below is =
    let rest = private_item_faults names (nullable_trees (drop (i + 1) ts)) in
    at_drop_more (λ (xs : List (Option Tree)). first_with f (private_item_faults names (nullable_trees xs))) ts i t below
    ∙ first_with_append f (private_part_faults names false (nullable (get_or ts i t))) rest
    ∙ ap (λ (u : Option Tree). first_with (first_with f (private_part_faults names false (nullable u))) rest) (sym is)
