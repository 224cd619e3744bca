-- That what a class is named by stands in time does not depend on numbers.
use Rattle.std.specs.Prelude.{◌≡◌, ℕ, List, [], ◌∷◌, ◌++◌, map, Bool, true, false, cond, not, ◌&&◌, ◌||◌, nat_eq, Option, Some, None}
use Rattle.std.proofs.Common.{refl, ap, ap₂, ◌∙◌}
use Rattle.es_base.specs.Preorder.{number_of, preorder, preorder_of, preorder_of_part}
use Rattle.es_base.specs.Tree.{Tree, Part, Parts, Node, end, more, child}
use Rattle.es_base.specs.declared.kind.Kind.{Kind}
use Rattle.es_base.specs.declared.ledger.GeneratedKind.{GeneratedKind}
use Rattle.es_base.specs.declared.ledger.LedgerEntry.{LedgerEntry}
use Rattle.es_lowered.specs.ClassNames.{numbers_of, numbers_of_key, element_numbers, body_numbers, numbers_inside, class_numbers, is_written_at, naming, without, numbers_of_class, head_numbers, common, free_naming, naming_in_source, MovedFunction, function_numbers, names_function, moved_function, moved_at, moved_functions, any_among, outside_class, names_holding, is_reference_to, reading, reaching, without_functions, is_behind, is_class_mark, stand_behind, is_asked, is_none, class_runs, any_name, behind_class, numbered, placed, behind, is_kept_place, kept_places, asked_names, functions_outside, asked_references, stand_in_time, holds_class, are_of_class, all_stand_with_class, new_names_fit, class_timely, all_classes_timely, classes_timely}
use Rattle.es_steps.specs.Context.{generated_as, is_generated}
use Rattle.es_lowered.specs.Definitions.{spelling, class_identifiers, names_class}
use Rattle.es_lowered.specs.FunctionsAround.{PlacedReference, placed_references}
use Rattle.es_lowered.specs.HelperCalls.{body_runs}
use Rattle.es_steps.specs.NameScopes.{is_any_function}
use Rattle.es_steps.specs.Parts.{at, items}
use Rattle.es_steps.specs.PrivateNames.{is_class, is_element}
use Rattle.es_steps.specs.References.{Reference, resolve, has_number}
use Rattle.es_lowered.specs.Timely.{Mark, marks, nowhere}
use Rattle.es_steps.specs.Values.{String}
use Rattle.es_steps.proofs.ContextMapped.{generated_as-mapped, is_generated-mapped}
use Rattle.es_lowered.proofs.DefinitionsMapped.{spelling-mapped, class_identifiers-mapped, names_class-mapped}
use Rattle.es_lowered.proofs.FunctionsAroundMapped.{mapped_placed, placed_references-mapped, all_stand_where-mapped}
use Rattle.es_lowered.proofs.HelperCallsMapped.{body_runs-mapped}
use Rattle.es_steps.proofs.Mapped.{Renames, mapped_option, mapped_generated, mapped, mapped_part, mapped_parts, mapped_reference, mapped_ledger}
use Rattle.es_steps.proofs.PartsMapped.{cond-mapped, append-mapped, at-mapped, items_at-mapped, string_at-mapped, number_of-mapped, preorder-mapped, preorder_of-mapped, preorder_of_part-mapped}
use Rattle.es_steps.proofs.ReferencesMapped.{resolve-mapped, has_number-mapped}
use Rattle.es_lowered.proofs.TimelyMapped.{mapped_held, mapped_mark, marks-mapped, all_pairs_stand-mapped}

module _ (f : ℕ → ℕ) where
  pub numbers_of-mapped : (ts : List Tree) → numbers_of (map (mapped f) ts) ≡ map f (numbers_of ts)
  numbers_of-mapped [] = refl
  numbers_of-mapped (t ∷ ts) = ap₂ (λ n ns. n ∷ ns) (number_of-mapped f t) (numbers_of-mapped ts)

  numbers_of_tree-mapped : (t : Tree) → numbers_of (preorder (mapped f t)) ≡ map f (numbers_of (preorder t))
  numbers_of_tree-mapped t = ap numbers_of (preorder-mapped f t) ∙ numbers_of-mapped (preorder t)

  pub numbers_of_part-mapped : (p : Part) → numbers_of (preorder_of_part (mapped_part f p)) ≡ map f (numbers_of (preorder_of_part p))
  numbers_of_part-mapped p = ap numbers_of (preorder_of_part-mapped f p) ∙ numbers_of-mapped (preorder_of_part p)

  pub numbers_of_parts-mapped : (ps : Parts) → numbers_of (preorder_of (mapped_parts f ps)) ≡ map f (numbers_of (preorder_of ps))
  numbers_of_parts-mapped ps = ap numbers_of (preorder_of-mapped f ps) ∙ numbers_of-mapped (preorder_of ps)

  numbers_of_key-mapped : (b : Bool) (k : Part) → numbers_of_key b (mapped_part f k) ≡ map f (numbers_of_key b k)
  numbers_of_key-mapped true k = refl
  numbers_of_key-mapped false k = numbers_of_part-mapped k

  element_numbers-mapped : (ps : Parts) → element_numbers (mapped_parts f ps) ≡ map f (element_numbers ps)
  element_numbers-mapped end = refl
  element_numbers-mapped (more (child (Node kind m span semantic_id (more k ps))) es) =
      append-mapped f _ _ (append-mapped f _ _ (numbers_of_key-mapped (is_element kind) k) (numbers_of_parts-mapped ps)) (element_numbers-mapped es)
  element_numbers-mapped (more p es) = element_numbers-mapped es

  body_numbers-mapped : (p : Part) → body_numbers (mapped_part f p) ≡ map f (body_numbers p)
  body_numbers-mapped (child (Node Kind.ClassBody m span semantic_id ps)) = ap element_numbers (items_at-mapped f 0 ps) ∙ element_numbers-mapped (items (at 0 ps))
  body_numbers-mapped p = refl

  pub class_numbers-mapped : (ts : List Tree) → class_numbers (map (mapped f) ts) ≡ map f (class_numbers ts)
  class_numbers-mapped [] = refl
  class_numbers-mapped (Node kind m span semantic_id ps ∷ ts) = append-mapped f _ _ (cond-mapped (map f) (is_class kind) (m ∷ []) [] refl refl) (class_numbers-mapped ts)

  abbrev pub mapped_function : MovedFunction → MovedFunction
  mapped_function m = record { name = m.name; numbers = map f m.numbers }

  pub is_generated_at-mapped : (ledger : List LedgerEntry) (i : ℕ) (ps : Parts) → is_generated (spelling (at i (mapped_parts f ps))) (mapped_ledger f ledger) ≡ is_generated (spelling (at i ps)) ledger
  is_generated_at-mapped ledger i ps =
      rw (ap spelling (at-mapped f i ps) ∙ spelling-mapped f (at i ps)) (is_generated-mapped f (spelling (at i ps)) ledger)

  function_numbers-mapped : (p : Part) → function_numbers (mapped_part f p) ≡ map f (function_numbers p)
  function_numbers-mapped (child (Node kind m span semantic_id ps)) =
      cond-mapped (map f) (is_any_function kind) (numbers_of (preorder (Node kind m span semantic_id ps))) [] (numbers_of_tree-mapped (Node kind m span semantic_id ps)) refl
  function_numbers-mapped p = refl

  abbrev made : String → List ℕ → MovedFunction
  made s ns = record { name = s; numbers = ns }

  names_function-mapped : (g : Option GeneratedKind) → names_function (mapped_option (mapped_generated f) g) ≡ names_function g
  names_function-mapped None = refl
  names_function-mapped (Some (GeneratedKind.Method d)) = refl
  names_function-mapped (Some (GeneratedKind.SuperFn n)) = refl
  names_function-mapped (Some GeneratedKind.Closure) = refl
  names_function-mapped (Some g) = refl

  moved_function-mapped : (ledger : List LedgerEntry) (i : ℕ) (ps : Parts) (p : Part) → moved_function (mapped_ledger f ledger) (spelling (at i (mapped_parts f ps))) (mapped_part f p) ≡ map mapped_function (moved_function ledger (spelling (at i ps)) p)
  moved_function-mapped ledger i ps p =
      ap₂ (λ b (m : MovedFunction). cond b (m ∷ []) []) (ap names_function (rw (ap spelling (at-mapped f i ps) ∙ spelling-mapped f (at i ps)) (generated_as-mapped f (spelling (at i ps)) ledger)) ∙ names_function-mapped (generated_as (spelling (at i ps)) ledger))
      (ap₂ made (ap spelling (at-mapped f i ps) ∙ spelling-mapped f (at i ps)) (function_numbers-mapped p))
      ∙ cond-mapped (map mapped_function) (names_function (generated_as (spelling (at i ps)) ledger)) (record { name = spelling (at i ps); numbers = function_numbers p } ∷ []) [] refl refl

  moved_at-mapped : (ledger : List LedgerEntry) (t : Tree) → moved_at (mapped_ledger f ledger) (mapped f t) ≡ map mapped_function (moved_at ledger t)
  moved_at-mapped ledger (Node Kind.FunctionDeclaration m span semantic_id ps) = moved_function-mapped ledger 0 ps (child (Node Kind.FunctionDeclaration m span semantic_id ps))
  moved_at-mapped ledger (Node Kind.AssignmentExpression m span semantic_id ps) = rw (at-mapped f 2 ps) (moved_function-mapped ledger 1 ps (at 2 ps))
  moved_at-mapped ledger (Node Kind.VariableDeclarator m span semantic_id ps) = rw (at-mapped f 1 ps) (moved_function-mapped ledger 0 ps (at 1 ps))
  moved_at-mapped ledger t = refl

  pub moved_functions-mapped : (ledger : List LedgerEntry) (ts : List Tree) → moved_functions (mapped_ledger f ledger) (map (mapped f) ts) ≡ map mapped_function (moved_functions ledger ts)
  moved_functions-mapped ledger [] = refl
  moved_functions-mapped ledger (t ∷ ts) = append-mapped mapped_function _ _ (moved_at-mapped ledger t) (moved_functions-mapped ledger ts)

  is_reference_to-mapped : (ss : List String) (t : Tree) → is_reference_to ss (mapped f t) ≡ is_reference_to ss t
  is_reference_to-mapped ss (Node Kind.IdentifierReference m span semantic_id ps) = rw (string_at-mapped f 0 ps) refl
  is_reference_to-mapped ss t = refl

  is_none-mapped : (ns : List ℕ) → is_none (map f ns) ≡ is_none ns
  is_none-mapped [] = refl
  is_none-mapped (n ∷ ns) = refl

module _ {first : ℕ} {f : ℕ → ℕ} (r : Renames first f) where
  numbers_inside-mapped : (n : ℕ) (ts : List Tree) → numbers_inside (f n) (map (mapped f) ts) ≡ map f (numbers_inside n ts)
  numbers_inside-mapped n [] = refl
  numbers_inside-mapped n (Node kind m span semantic_id ps ∷ ts) =
      append-mapped f _ _ (rw (r.apart n m, at-mapped f 2 ps) (cond-mapped (map f) (is_class kind && nat_eq n m) (body_numbers (at 2 ps)) [] (body_numbers-mapped f (at 2 ps)) refl)) (numbers_inside-mapped n ts)

  numbers_of_class-mapped : (n : ℕ) (ts : List Tree) → numbers_of_class (f n) (map (mapped f) ts) ≡ map f (numbers_of_class n ts)
  numbers_of_class-mapped n [] = refl
  numbers_of_class-mapped n (Node kind m span semantic_id ps ∷ ts) =
      append-mapped f _ _ (rw (r.apart n m) (cond-mapped (map f) (is_class kind && nat_eq n m) (numbers_of (preorder_of ps)) [] (numbers_of_parts-mapped f ps) refl)) (numbers_of_class-mapped n ts)

  is_written_at-mapped : (m : ℕ) (rs : List Reference) → is_written_at (f m) (map (mapped_reference f) rs) ≡ is_written_at m rs
  is_written_at-mapped m [] = refl
  is_written_at-mapped m (x ∷ rs) = ap₂ (λ a b. (a && x.writes) || b) (r.apart m x.number) (is_written_at-mapped m rs)

  pub naming-mapped : (n : ℕ) (ledger : List LedgerEntry) (rs : List Reference) (ids : List ℕ) (ts : List Tree) → naming (f n) (mapped_ledger f ledger) (map (mapped_reference f) rs) (map f ids) (map (mapped f) ts) ≡ map f (naming n ledger rs ids ts)
  naming-mapped n ledger rs ids [] = refl
  naming-mapped n ledger rs ids (t ∷ ts) =
      append-mapped f _ _
      (rw (names_class-mapped r n ledger rs ids (child t), number_of-mapped f t, is_written_at-mapped (number_of t) rs)
      (cond-mapped (map f) (names_class n ledger rs ids (child t) && not (is_written_at (number_of t) rs)) (number_of t ∷ []) [] refl refl))
      (naming-mapped n ledger rs ids ts)

  pub without-mapped : (ns ms : List ℕ) → without (map f ns) (map f ms) ≡ map f (without ns ms)
  without-mapped ns [] = refl
  without-mapped ns (m ∷ ms) = append-mapped f _ _ (rw (has_number-mapped r m ns) (cond-mapped (map f) (has_number m ns) [] (m ∷ []) refl refl)) (without-mapped ns ms)

  pub common-mapped : (ns ms : List ℕ) → common (map f ns) (map f ms) ≡ map f (common ns ms)
  common-mapped ns [] = refl
  common-mapped ns (m ∷ ms) = append-mapped f _ _ (rw (has_number-mapped r m ns) (cond-mapped (map f) (has_number m ns) (m ∷ []) [] refl refl)) (common-mapped ns ms)

  pub head_numbers-mapped : (n : ℕ) (ts : List Tree) → head_numbers (f n) (map (mapped f) ts) ≡ map f (head_numbers n ts)
  head_numbers-mapped n ts = ap₂ without (numbers_inside-mapped n ts) (numbers_of_class-mapped n ts) ∙ without-mapped (numbers_inside n ts) (numbers_of_class n ts)

  free_naming-mapped : (runs : Bool) (n : ℕ) (ps qs : List Tree) (names : List ℕ) → free_naming runs (f n) (map (mapped f) ps) (map (mapped f) qs) (map f names) ≡ map f (free_naming runs n ps qs names)
  free_naming-mapped runs n ps qs names =
      append-mapped f _ _ (ap (λ ns. without ns (map f names)) (numbers_of_class-mapped n ps) ∙ without-mapped (numbers_of_class n ps) names)
      (ap₂ common (cond-mapped (map f) runs (head_numbers n qs) names (head_numbers-mapped n qs) refl)
      (ap (λ ns. common ns (map f names)) (head_numbers-mapped n ps) ∙ common-mapped (head_numbers n ps) names)
      ∙ common-mapped (cond runs (head_numbers n qs) names) (common (head_numbers n ps) names))

  pub naming_in-mapped : (n : ℕ) (ledger : List LedgerEntry) (p : Tree) → naming (f n) (mapped_ledger f ledger) (resolve (mapped f p)) (class_identifiers first (f n) (preorder (mapped f p))) (preorder (mapped f p)) ≡ map f (naming n ledger (resolve p) (class_identifiers first n (preorder p)) (preorder p))
  naming_in-mapped n ledger p =
      rw (preorder-mapped f p, resolve-mapped f p, class_identifiers-mapped r n (preorder p)) (naming-mapped n ledger (resolve p) (class_identifiers first n (preorder p)) (preorder p))

  pub any_among-mapped : (ns ms : List ℕ) → any_among (map f ns) (map f ms) ≡ any_among ns ms
  any_among-mapped ns [] = refl
  any_among-mapped ns (m ∷ ms) = ap₂ (λ a b. a || b) (has_number-mapped r m ns) (any_among-mapped ns ms)

  pub outside_class-mapped : (inside : List ℕ) (fs : List MovedFunction) → outside_class (map f inside) (map (mapped_function f) fs) ≡ map (mapped_function f) (outside_class inside fs)
  outside_class-mapped inside [] = refl
  outside_class-mapped inside (m ∷ fs) =
      append-mapped (mapped_function f) _ _ (rw (any_among-mapped inside m.numbers) (cond-mapped (map (mapped_function f)) (any_among inside m.numbers) [] (m ∷ []) refl refl)) (outside_class-mapped inside fs)

  names_holding-mapped : (ns : List ℕ) (fs : List MovedFunction) → names_holding (map f ns) (map (mapped_function f) fs) ≡ names_holding ns fs
  names_holding-mapped ns [] = refl
  names_holding-mapped ns (m ∷ fs) = ap₂ (λ a b. cond a (m.name ∷ []) [] ++ b) (any_among-mapped ns m.numbers) (names_holding-mapped ns fs)

  reading-mapped : (ss : List String) (rs : List Reference) (ts : List Tree) → reading ss (map (mapped_reference f) rs) (map (mapped f) ts) ≡ map f (reading ss rs ts)
  reading-mapped ss rs [] = refl
  reading-mapped ss rs (t ∷ ts) =
      append-mapped f _ _
      (rw (is_reference_to-mapped f ss t, number_of-mapped f t, is_written_at-mapped (number_of t) rs) (cond-mapped (map f) (is_reference_to ss t && not (is_written_at (number_of t) rs)) (number_of t ∷ []) [] refl refl))
      (reading-mapped ss rs ts)

  pub reaching-mapped : (es : List LedgerEntry) (fs : List MovedFunction) (rs : List Reference) (ts : List Tree) (ns : List ℕ) → reaching (mapped_ledger f es) (map (mapped_function f) fs) (map (mapped_reference f) rs) (map (mapped f) ts) (map f ns) ≡ map f (reaching es fs rs ts ns)
  reaching-mapped [] fs rs ts ns = refl
  reaching-mapped (e ∷ es) fs rs ts ns =
      append-mapped f ns _ refl
      (ap (λ ss. reading ss (map (mapped_reference f) rs) (map (mapped f) ts))
      (ap (λ ms. names_holding ms (map (mapped_function f) fs)) (reaching-mapped es fs rs ts ns) ∙ names_holding-mapped (reaching es fs rs ts ns) fs)
      ∙ reading-mapped (names_holding (reaching es fs rs ts ns) fs) rs ts)

  without_functions-mapped : (fs : List MovedFunction) (ns : List ℕ) → without_functions (map (mapped_function f) fs) (map f ns) ≡ map f (without_functions fs ns)
  without_functions-mapped [] ns = refl
  without_functions-mapped (m ∷ fs) ns = ap (without_functions (map (mapped_function f) fs)) (without-mapped m.numbers ns) ∙ without_functions-mapped fs (without m.numbers ns)

  class_runs-mapped : (n : ℕ) (ts : List Tree) → class_runs (f n) (map (mapped f) ts) ≡ class_runs n ts
  class_runs-mapped n [] = refl
  class_runs-mapped n (Node kind m span semantic_id ps ∷ ts) = rw (r.apart n m, ap body_runs (at-mapped f 2 ps) ∙ body_runs-mapped f (at 2 ps), class_runs-mapped n ts) refl

  -- ---- in front and behind

  is_behind-mapped : (m : Mark) (is : List Mark) → is_behind (mapped_mark f m) (map (mapped_mark f) is) ≡ is_behind m is
  is_behind-mapped m [] = refl
  is_behind-mapped m (i ∷ is) = ap₂ (λ a b. a || b) (all_pairs_stand-mapped r i.around.held m.around.held) (is_behind-mapped m is)

  stand_behind-mapped : (front ms : List Mark) → stand_behind (map (mapped_mark f) front) (map (mapped_mark f) ms) ≡ stand_behind front ms
  stand_behind-mapped front [] = refl
  stand_behind-mapped front (m ∷ ms) =
      ap₂ (cond (is_class_mark m.form)) (stand_behind-mapped (m ∷ front) ms) (ap₂ (λ a b. a && b) (is_behind-mapped m front) (stand_behind-mapped front ms))

  is_asked-mapped : (asked : List ℕ) (s : String) (ns : List ℕ) → is_asked (map f asked) s (map f ns) ≡ is_asked asked s ns
  is_asked-mapped asked s ns = any_among-mapped asked ns

  behind_class-mapped : (front ms : List Mark) → behind_class (map (mapped_mark f) front) (map (mapped_mark f) ms) ≡ map f (behind_class front ms)
  behind_class-mapped front [] = refl
  behind_class-mapped front (m ∷ ms) =
      rw (is_behind-mapped m front)
      (cond-mapped (map f) (is_class_mark m.form) (behind_class (m ∷ front) ms) (cond (is_behind m front) m.node [] ++ behind_class front ms) (behind_class-mapped (m ∷ front) ms)
      (append-mapped f _ _ (cond-mapped (map f) (is_behind m front) m.node [] refl refl) (behind_class-mapped front ms)))

  numbered-mapped : (m : ℕ) (rs : List PlacedReference) → numbered (f m) (map (mapped_placed f) rs) ≡ map (mapped_placed f) (numbered m rs)
  numbered-mapped m [] = refl
  numbered-mapped m (x ∷ rs) = append-mapped (mapped_placed f) _ _ (rw (r.apart m x.number) (cond-mapped (map (mapped_placed f)) (nat_eq m x.number) (x ∷ []) [] refl refl)) (numbered-mapped m rs)

  module _ (n : ℕ) (p q : Tree) (names : List ℕ) where
    placed-mapped : (t : Tree) → placed first (f n) (mapped f p) (mapped f q) (map f names) (mapped f t) ≡ map (mapped_placed f) (placed first n p q names t)
    placed-mapped t = placed_references-mapped r (λ m s. has_number m (map f names)) (λ m s. has_number m names) (λ m s. has_number-mapped r m names) false [] t

    behind-mapped : (t : Tree) → behind first (f n) (mapped f p) (mapped f q) (map f names) (mapped f t) ≡ map f (behind first n p q names t)
    behind-mapped t =
        ap (behind_class []) (marks-mapped r [] [] (is_asked (map f (n ∷ names))) (is_asked (n ∷ names)) (is_asked-mapped (n ∷ names)) [] nowhere None t)
        ∙ behind_class-mapped [] (marks first [] [] (is_asked (n ∷ names)) [] nowhere None t)

    is_kept_place-mapped : (m : ℕ) → is_kept_place first (f n) (mapped f p) (mapped f q) (map f names) (f m) ≡ is_kept_place first n p q names m
    is_kept_place-mapped m =
        rw (placed-mapped q, placed-mapped p, numbered-mapped m (placed first n p q names q), all_stand_where-mapped r (numbered m (placed first n p q names q)) (placed first n p q names p), behind-mapped p, behind-mapped q, has_number-mapped r m (behind first n p q names p), has_number-mapped r m (behind first n p q names q)) refl

    kept_places-mapped : (ms : List ℕ) → kept_places first (f n) (mapped f p) (mapped f q) (map f names) (map f ms) ≡ map f (kept_places first n p q names ms)
    kept_places-mapped [] = refl
    kept_places-mapped (m ∷ ms) = append-mapped f _ _ (rw (is_kept_place-mapped m) (cond-mapped (map f) (is_kept_place first n p q names m) (m ∷ []) [] refl refl)) (kept_places-mapped ms)

  asked_names-mapped : (ledger : List LedgerEntry) (p q : Tree) (n : ℕ) → asked_names first (mapped_ledger f ledger) (mapped f p) (mapped f q) (f n) ≡ map f (asked_names first ledger p q n)
  asked_names-mapped ledger p q n =
      let names : List ℕ = naming_in_source first n p in
      let free : List ℕ = free_naming (class_runs n (preorder q)) n (preorder p) (preorder q) names in
      ap₂ without
      (ap₂ (λ qs ns. kept_places first (f n) (mapped f p) (mapped f q) ns (free_naming (class_runs (f n) qs) (f n) (preorder (mapped f p)) qs ns)) (preorder-mapped f q) (naming_in-mapped n [] p)
      ∙ (ap₂ (λ b ps. kept_places first (f n) (mapped f p) (mapped f q) (map f names) (free_naming b (f n) ps (map (mapped f) (preorder q)) (map f names))) (class_runs-mapped n (preorder q)) (preorder-mapped f p)
      ∙ (ap (kept_places first (f n) (mapped f p) (mapped f q) (map f names)) (free_naming-mapped (class_runs n (preorder q)) n (preorder p) (preorder q) names)
      ∙ kept_places-mapped n p q names free)))
      (naming_in-mapped n ledger q)
      ∙ without-mapped (kept_places first n p q names free) (naming n ledger (resolve q) (class_identifiers first n (preorder q)) (preorder q))

  functions_outside-mapped : (ledger : List LedgerEntry) (q : Tree) (n : ℕ) → functions_outside (mapped_ledger f ledger) (mapped f q) (f n) ≡ map (mapped_function f) (functions_outside ledger q n)
  functions_outside-mapped ledger q n =
      rw (preorder-mapped f q, numbers_inside-mapped n (preorder q), moved_functions-mapped f ledger (preorder q)) (outside_class-mapped (n ∷ numbers_inside n (preorder q)) (moved_functions ledger (preorder q)))

  asked_references-mapped : (ledger : List LedgerEntry) (q : Tree) (n : ℕ) (fs : List MovedFunction) (names : List ℕ) → asked_references (mapped_ledger f ledger) (mapped f q) (f n) (map (mapped_function f) fs) (map f names) ≡ map f (asked_references ledger q n fs names)
  asked_references-mapped ledger q n fs names =
      rw (preorder-mapped f q, resolve-mapped f q, numbers_inside-mapped n (preorder q), reaching-mapped ledger fs (resolve q) (preorder q) names, without_functions-mapped fs (reaching ledger fs (resolve q) (preorder q) names))
      (without-mapped (numbers_inside n (preorder q)) (without_functions fs (reaching ledger fs (resolve q) (preorder q) names)))

  stand_in_time-mapped : (q : Tree) (n : ℕ) (asked : List ℕ) → stand_in_time first (mapped f q) (f n) (map f asked) ≡ stand_in_time first q n asked
  stand_in_time-mapped q n asked =
      ap₂ (λ a b. a || b) (is_none-mapped f asked)
      (ap (stand_behind []) (marks-mapped r [] [] (is_asked (map f (n ∷ asked))) (is_asked (n ∷ asked)) (is_asked-mapped (n ∷ asked)) [] nowhere None q)
      ∙ stand_behind-mapped [] (marks first [] [] (is_asked (n ∷ asked)) [] nowhere None q))

  holds_class-mapped : (k n : ℕ) (ts : List Tree) → holds_class (f k) (f n) (map (mapped f) ts) ≡ holds_class k n ts
  holds_class-mapped k n [] = refl
  holds_class-mapped k n (t ∷ ts) =
      ap₂ (λ a b. a || b)
      (ap₂ (λ a b. a && b) (ap (nat_eq (f k)) (number_of-mapped f t) ∙ r.apart k (number_of t)) (ap (has_number (f n)) (numbers_of_tree-mapped f t) ∙ has_number-mapped r n (numbers_of (preorder t))))
      (holds_class-mapped k n ts)

  are_of_class-mapped : (n : ℕ) (inside : List ℕ) (qs : List Tree) (xs : List (ℕ × ℕ)) → are_of_class (f n) (map f inside) (map (mapped f) qs) (map (mapped_held f) xs) ≡ are_of_class n inside qs xs
  are_of_class-mapped n inside qs [] = refl
  are_of_class-mapped n inside qs (x ∷ xs) =
      ap₂ (λ a b. a && b) (ap₂ (λ a b. a || b) (has_number-mapped r x.0 inside) (holds_class-mapped x.0 n qs)) (are_of_class-mapped n inside qs xs)

  all_stand_with_class-mapped : (n : ℕ) (inside : List ℕ) (qs : List Tree) (rs : List PlacedReference) → all_stand_with_class (f n) (map f inside) (map (mapped f) qs) (map (mapped_placed f) rs) ≡ all_stand_with_class n inside qs rs
  all_stand_with_class-mapped n inside qs [] = refl
  all_stand_with_class-mapped n inside qs (x ∷ rs) = ap₂ (λ a b. a && b) (are_of_class-mapped n inside qs x.around) (all_stand_with_class-mapped n inside qs rs)

  new_names_fit-mapped : (p q : Tree) (n : ℕ) (names : List ℕ) → new_names_fit first (mapped f p) (mapped f q) (f n) (map f names) ≡ new_names_fit first p q n names
  new_names_fit-mapped p q n names =
      let there : List PlacedReference = placed_references first (λ m s. has_number m names) false [] q in
      ap₂ (λ a b. a || b) (is_none-mapped f names)
      (rw (preorder-mapped f p, preorder-mapped f q, numbers_of_class-mapped n (preorder p), placed_references-mapped r (λ m s. has_number m (map f names)) (λ m s. has_number m names) (λ m s. has_number-mapped r m names) false [] q)
      (all_stand_with_class-mapped n (numbers_of_class n (preorder p)) (preorder q) there))

  new_naming-mapped : (p : Tree) (n : ℕ) (names : List ℕ) → without (naming_in_source first (f n) (mapped f p)) (map f names) ≡ map f (without (naming_in_source first n p) names)
  new_naming-mapped p n names = ap (λ ns. without ns (map f names)) (naming_in-mapped n [] p) ∙ without-mapped (naming_in_source first n p) names

  class_timely-mapped : (ledger : List LedgerEntry) (p q : Tree) (n : ℕ) → class_timely first (mapped_ledger f ledger) (mapped f p) (mapped f q) (f n) ≡ class_timely first ledger p q n
  class_timely-mapped ledger p q n =
      let fs : List MovedFunction = functions_outside ledger q n in
      let names : List ℕ = asked_names first ledger p q n in
      rw (functions_outside-mapped ledger q n, asked_names-mapped ledger p q n)
      (ap₂ (λ a b. a && b) (ap (new_names_fit first (mapped f p) (mapped f q) (f n)) (new_naming-mapped p n names) ∙ new_names_fit-mapped p q n (without (naming_in_source first n p) names))
      (ap₂ (λ a b. not a && b)
      (ap₂ (λ a b. a && b) (ap (class_runs (f n)) (preorder-mapped f q) ∙ class_runs-mapped n (preorder q)) (ap any_name (names_holding-mapped names fs)))
      (ap (stand_in_time first (mapped f q) (f n)) (asked_references-mapped ledger q n fs names) ∙ stand_in_time-mapped q n (asked_references ledger q n fs names))))

  all_classes_timely-mapped : (ledger : List LedgerEntry) (p q : Tree) (ns : List ℕ) → all_classes_timely first (mapped_ledger f ledger) (mapped f p) (mapped f q) (map f ns) ≡ all_classes_timely first ledger p q ns
  all_classes_timely-mapped ledger p q [] = refl
  all_classes_timely-mapped ledger p q (n ∷ ns) = ap₂ (λ a b. a && b) (class_timely-mapped ledger p q n) (all_classes_timely-mapped ledger p q ns)

  pub classes_timely-mapped : (ledger : List LedgerEntry) (p q : Tree) → classes_timely first (mapped_ledger f ledger) (mapped f p) (mapped f q) ≡ classes_timely first ledger p q
  classes_timely-mapped ledger p q =
      ap (all_classes_timely first (mapped_ledger f ledger) (mapped f p) (mapped f q)) (ap class_numbers (preorder-mapped f p) ∙ class_numbers-mapped f (preorder p))
      ∙ all_classes_timely-mapped ledger p q (class_numbers (preorder p))
