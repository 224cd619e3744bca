-- Names of a class that stand where they stood, one by one.
use Rattle.std.proofs.Common.{◌≡◌, refl, sym, ap, ap₂, ◌∙◌, ℕ, List, [], ◌∷◌, ◌++◌, filter, Bool, true, false, cond, not, ◌&&◌, ◌||◌, None}
use Rattle.std.proofs.Math.Bool.{or-true}
use Rattle.std.specs.Prelude.{nat_eq}
use Rattle.es_base.specs.Tree.{Tree}
use Rattle.es_binding_faults.proofs.HasNumbers.{has_number-append}
use Rattle.es_lowered.specs.ClassNames as spec
use Rattle.es_lowered.specs.ClassNames.{any_among, behind_class, is_asked, numbered}
use Rattle.es_lowered.specs.Timely.{Mark, marks, nowhere}
use Rattle.es_marks.specs.Located.{located}
use Rattle.es_owed_timely.specs.Search.{has_node}
use Rattle.es_steps.proofs.Reflexive.{number-same}
use Rattle.es_steps.specs.References.{has_number}
use Rattle.es_steps.specs.Values.{String}
use Rattle.es_owed_class_names.proofs.ChosenMarks as chosen
use Rattle.es_owed_class_names.proofs.NodeMarks.{lateness}
use Rattle.es_owed_class_names.proofs.PlacedNumbers.{kept_by_number}
use Rattle.es_owed_class_names.specs.KeptPlaces.{is_kept, kept, kept_if}
use Rattle.es_owed_class_names.specs.LocatedMarks.{class_marks, is_behind_any, of_nodes}
use Rattle.es_owed_class_names.specs.NodeMarks.{node_marks, stand_among}
use Rattle.es_owed_class_names.specs.PlacedNumbers.{all_placed}

-- ---- one among those that are chosen is a name

among_without : (m : ℕ) (ns ms : List ℕ) → has_number m (spec.without ns ms) ≡ true → has_number m ms ≡ true
among_without m ns [] is = is
among_without m ns (k ∷ ms) is = here (has_number k ns) (among_without m ns ms) is
  where
    either : (b : Bool) → (has_number m (spec.without ns ms) ≡ true → has_number m ms ≡ true) → (b || has_number m (spec.without ns ms)) ≡ true → (b || has_number m ms) ≡ true
    either true rest e = refl
    either false rest e = rest e

    here : (b : Bool) → (has_number m (spec.without ns ms) ≡ true → has_number m ms ≡ true) → has_number m (cond b [] (k ∷ []) ++ spec.without ns ms) ≡ true → (nat_eq m k || has_number m ms) ≡ true
    here true rest e = ap (λ b. nat_eq m k || b) (rest e) ∙ or-true (nat_eq m k)
    here false rest e = either (nat_eq m k) rest e

among_common : (m : ℕ) (ns ms : List ℕ) → has_number m (spec.common ns ms) ≡ true → has_number m ms ≡ true
among_common m ns [] is = is
among_common m ns (k ∷ ms) is = here (has_number k ns) (among_common m ns ms) is
  where
    either : (b : Bool) → (has_number m (spec.common ns ms) ≡ true → has_number m ms ≡ true) → (b || has_number m (spec.common ns ms)) ≡ true → (b || has_number m ms) ≡ true
    either true rest e = refl
    either false rest e = rest e

    here : (b : Bool) → (has_number m (spec.common ns ms) ≡ true → has_number m ms ≡ true) → has_number m (cond b (k ∷ []) [] ++ spec.common ns ms) ≡ true → (nat_eq m k || has_number m ms) ≡ true
    here true rest e = either (nat_eq m k) rest e
    here false rest e = ap (λ b. nat_eq m k || b) (rest e) ∙ or-true (nat_eq m k)

pub among_free : (m : ℕ) (runs : Bool) (n : ℕ) (ps qs : List Tree) (names : List ℕ) → has_number m (spec.free_naming runs n ps qs names) ≡ true → has_number m names ≡ true
among_free m runs n ps qs names is =
    here (has_number m (spec.without (spec.numbers_of_class n ps) names))
    (among_without m (spec.numbers_of_class n ps) names)
    (λ e. among_common m (spec.head_numbers n ps) names (among_common m (cond runs (spec.head_numbers n qs) names) (spec.common (spec.head_numbers n ps) names) e))
    (sym (has_number-append m (spec.without (spec.numbers_of_class n ps) names) (spec.common (cond runs (spec.head_numbers n qs) names) (spec.common (spec.head_numbers n ps) names))) ∙ is)
  where
    here : (b : Bool) → (b ≡ true → has_number m names ≡ true) → (has_number m (spec.common (cond runs (spec.head_numbers n qs) names) (spec.common (spec.head_numbers n ps) names)) ≡ true → has_number m names ≡ true) → (b || has_number m (spec.common (cond runs (spec.head_numbers n qs) names) (spec.common (spec.head_numbers n ps) names))) ≡ true → has_number m names ≡ true
    here true left right e = left refl
    here false left right e = right e

-- ---- behind the class

-- those asked for are of nodes
asked_node : (ks : List ℕ) (s : String) (ns : List ℕ) → is_asked ks s ns ≡ (has_node s ns && is_asked ks s ns)
asked_node ks s [] = refl
asked_node ks s (n ∷ ns) = refl

pub asked_marks : (first : ℕ) (ks : List ℕ) (t : Tree) → marks first [] [] (is_asked ks) [] nowhere None t ≡ filter (λ (m : Mark). any_among ks m.node) (node_marks first t)
asked_marks first ks t = chosen.of_tree first (is_asked ks) has_node (asked_node ks) nowhere None t

behind_by_marks : (first n j : ℕ) (names : List ℕ) (p q t : Tree) → has_number j names ≡ true
    → has_number j (spec.behind first n p q names t) ≡ is_behind_any (class_marks (of_nodes (n ∷ names) (located 0 (node_marks first t)))) (located 0 (node_marks first t)) j
behind_by_marks first n j names p q t among =
    ap (λ ms. has_number j (behind_class [] ms)) (asked_marks first (n ∷ names) t)
    ∙ lateness (n ∷ names) (node_marks first t) j (ap (λ b. nat_eq j n || b) among ∙ or-true (nat_eq j n))

-- ---- kept

kept_place : (first n : ℕ) (p q : Tree) (names : List ℕ) (m : ℕ) → has_number m names ≡ true
    → is_kept first names (λ k. numbered k (all_placed first p)) (λ k. numbered k (all_placed first q)) (is_behind_any (class_marks (of_nodes (n ∷ names) (located 0 (node_marks first p)))) (located 0 (node_marks first p))) (is_behind_any (class_marks (of_nodes (n ∷ names) (located 0 (node_marks first q)))) (located 0 (node_marks first q))) m ≡ spec.is_kept_place first n p q names m
kept_place first n p q names m among =
    ap₂ (λ a b. a && b)
    (sym (kept_by_number first m names p q among))
    (ap₂ (λ a b. not a || b) (sym (behind_by_marks first n m names p q p among)) (sym (behind_by_marks first n m names p q q among)))

kept_each : (f : ℕ → Bool) (first n : ℕ) (p q : Tree) (names ms : List ℕ) → ((m : ℕ) → has_number m ms ≡ true → f m ≡ spec.is_kept_place first n p q names m) → kept_if f ms ≡ spec.kept_places first n p q names ms
kept_each f first n p q names [] same = refl
kept_each f first n p q names (m ∷ ms) same =
    ap₂ (λ b ns. cond b (m ∷ []) [] ++ ns)
    (same m (ap (λ b. b || has_number m ms) (number-same m)))
    (kept_each f first n p q names ms (λ k among. same k (ap (λ b. nat_eq k m || b) among ∙ or-true (nat_eq k m))))

pub kept_there : (first n : ℕ) (p q : Tree) (names ms : List ℕ) → ((m : ℕ) → has_number m ms ≡ true → has_number m names ≡ true)
    → kept first names (λ k. numbered k (all_placed first p)) (λ k. numbered k (all_placed first q)) (is_behind_any (class_marks (of_nodes (n ∷ names) (located 0 (node_marks first p)))) (located 0 (node_marks first p))) (is_behind_any (class_marks (of_nodes (n ∷ names) (located 0 (node_marks first q)))) (located 0 (node_marks first q))) ms ≡ spec.kept_places first n p q names ms
kept_there first n p q names ms among = kept_each (is_kept first names (λ k. numbered k (all_placed first p)) (λ k. numbered k (all_placed first q)) (is_behind_any (class_marks (of_nodes (n ∷ names) (located 0 (node_marks first p)))) (located 0 (node_marks first p))) (is_behind_any (class_marks (of_nodes (n ∷ names) (located 0 (node_marks first q)))) (located 0 (node_marks first q)))) first n p q names ms (λ m is. kept_place first n p q names m (among m is))

-- ---- all behind the class

pub among_marks : (first n : ℕ) (names : List ℕ) (t : Tree) → stand_among (node_marks first t) n names ≡ spec.stand_in_time first t n names
among_marks first n names t = ap (λ ms. spec.is_none names || spec.stand_behind [] ms) (sym (asked_marks first (n ∷ names) t))
