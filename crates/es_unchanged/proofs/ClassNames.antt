-- In a program that is left as it is each name of a class is read where it was.
use Rattle.std.specs.Prelude.{◌≡◌, ℕ, List, [], ◌∷◌, ◌++◌, Bool, true, false, cond, not, ◌||◌, ◌&&◌, nat_eq}
use Rattle.std.proofs.Common.{refl, subst}
use Rattle.std.proofs.lemmas.Bool.{eqb-true}
use Rattle.es_base.specs.Preorder.{preorder}
use Rattle.es_base.specs.Tree.{Tree, Node}
use Rattle.es_base.specs.declared.kind.Kind.{Kind}
use Rattle.es_left.proofs.Booleans.{both}
use Rattle.es_lowered.specs.ClassNames.{numbers_inside, class_numbers, without, numbers_of_class, head_numbers, common, free_naming, naming_in_source, moved_at, moved_functions, class_runs, placed, behind, kept_places, class_timely, all_classes_timely, classes_timely}
use Rattle.es_steps.proofs.FirstMeaning.{no_false}
use Rattle.es_steps.proofs.Reflexive.{number-same}
use Rattle.es_steps.specs.References.{has_number}
use Rattle.es_unchanged.proofs.Placed.{numbered-stand}
use Rattle.es_unchanged.proofs.Standing.{or_left, or_right}

-- ---- without generated names no function is moved

unmoved-at : (t : Tree) → moved_at [] t ≡ []
unmoved-at (Node Kind.FunctionDeclaration m span semantic_id ps) = refl
unmoved-at (Node Kind.AssignmentExpression m span semantic_id ps) = refl
unmoved-at (Node Kind.VariableDeclarator m span semantic_id ps) = refl
unmoved-at t = refl

pub unmoved : (ts : List Tree) → moved_functions [] ts ≡ []
unmoved [] = refl
unmoved (t ∷ ts) = rw (unmoved-at t, unmoved ts) refl

-- ---- numbers in lists

module _ (m : ℕ) where
  pub in-left : (ks ls : List ℕ) → has_number m ks ≡ true → has_number m (ks ++ ls) ≡ true
  in-left [] ls h = no_false h
  in-left (k ∷ ks) ls h = here (nat_eq m k) h (in-left ks ls)
    where
      here : (b : Bool) → b || has_number m ks ≡ true → (has_number m ks ≡ true → has_number m (ks ++ ls) ≡ true) → b || has_number m (ks ++ ls) ≡ true
      here true i rest = refl
      here false i rest = rest i

  pub in-right : (ks ls : List ℕ) → has_number m ls ≡ true → has_number m (ks ++ ls) ≡ true
  in-right [] ls h = h
  in-right (k ∷ ks) ls h = or_right (nat_eq m k) (has_number m (ks ++ ls)) (in-right ks ls h)

  in-without : (ns ms : List ℕ) → has_number m ns ≡ false → has_number m ms ≡ true → has_number m (without ns ms) ≡ true
  in-without ns [] a h = no_false h
  in-without ns (k ∷ ms) a h = here (nat_eq m k) refl h (in-without ns ms a)
    where
      later : (b : Bool) → has_number m (without ns ms) ≡ true → has_number m (cond b [] (k ∷ []) ++ without ns ms) ≡ true
      later true i = i
      later false i = or_right (nat_eq m k) (has_number m (without ns ms)) i

      here : (b : Bool) → nat_eq m k ≡ b → b || has_number m ms ≡ true → (has_number m ms ≡ true → has_number m (without ns ms) ≡ true) → has_number m (without ns (k ∷ ms)) ≡ true
      here true e i rest = rw (subst (λ x. has_number x ns ≡ false) (eqb-true m k e) a, e) refl
      here false e i rest = later (has_number k ns) (rest i)

  in-common : (ns ms : List ℕ) → has_number m ns ≡ true → has_number m ms ≡ true → has_number m (common ns ms) ≡ true
  in-common ns [] a h = no_false h
  in-common ns (k ∷ ms) a h = here (nat_eq m k) refl h (in-common ns ms a)
    where
      later : (b : Bool) → has_number m (common ns ms) ≡ true → has_number m (cond b (k ∷ []) [] ++ common ns ms) ≡ true
      later true i = or_right (nat_eq m k) (has_number m (common ns ms)) i
      later false i = i

      here : (b : Bool) → nat_eq m k ≡ b → b || has_number m ms ≡ true → (has_number m ms ≡ true → has_number m (common ns ms) ≡ true) → has_number m (common ns (k ∷ ms)) ≡ true
      here true e i rest = rw (subst (λ x. has_number x ns ≡ true) (eqb-true m k e) a, e) refl
      here false e i rest = later (has_number k ns) (rest i)

-- none is left of numbers each of which is in one of two lists
without-none : (ns ks ms : List ℕ) → ((m : ℕ) → has_number m ms ≡ true → has_number m ns || has_number m ks ≡ true) → without ks (without ns ms) ≡ []
without-none ns ks [] h = refl
without-none ns ks (m ∷ ms) h =
    here (has_number m ns) (h m (rw (number-same m) refl)) (without-none ns ks ms (λ k i. h k (or_right (nat_eq k m) (has_number k ms) i)))
  where
    here : (b : Bool) → b || has_number m ks ≡ true → without ks (without ns ms) ≡ [] → without ks (cond b [] (m ∷ []) ++ without ns ms) ≡ []
    here true i rest = rest
    here false i rest = rw (i, rest) refl

-- ---- what names a class may stand where it stands, or stands in its elements

module _ (runs : Bool) (n : ℕ) (ts : List Tree) (names : List ℕ) where
  abbrev of_class : List ℕ
  of_class = numbers_of_class n ts

  abbrev head : List ℕ
  head = head_numbers n ts

  abbrev free : List ℕ
  free = free_naming runs n ts ts names

  module _ (m : ℕ) (named : has_number m names ≡ true) where
    in-head : has_number m head ≡ true → has_number m free ≡ true
    in-head h = in-right m (without of_class names) (common (cond runs head names) (common head names)) (in-common m (cond runs head names) (common head names) (among runs) (in-common m head names h named))
      where
        among : (b : Bool) → has_number m (cond b head names) ≡ true
        among true = h
        among false = named

    in-class : has_number m of_class ≡ true → has_number m free || has_number m (numbers_inside n ts) ≡ true
    in-class h = inside (has_number m (numbers_inside n ts)) refl
      where
        inside : (b : Bool) → has_number m (numbers_inside n ts) ≡ b → has_number m free || b ≡ true
        inside true e = or_right (has_number m free) true refl
        inside false e = or_left (has_number m free) false (in-head (in-without m (numbers_inside n ts) of_class e h))

    free-or-inside : has_number m free || has_number m (numbers_inside n ts) ≡ true
    free-or-inside = outside (has_number m of_class) refl
      where
        outside : (b : Bool) → has_number m of_class ≡ b → has_number m free || has_number m (numbers_inside n ts) ≡ true
        outside true e = in-class e
        outside false e = or_left (has_number m free) (has_number m (numbers_inside n ts)) (in-left m (without of_class names) (common (cond runs head names) (common head names)) (in-without m of_class names e named))

-- ---- classes

stays-or : (b : Bool) → not b || b ≡ true
stays-or true = refl
stays-or false = refl

kept_places-all : (first n : ℕ) (t : Tree) (names ms : List ℕ) → kept_places first n t t names ms ≡ ms
kept_places-all first n t names [] = refl
kept_places-all first n t names (m ∷ ms) =
    rw (numbered-stand first m (placed first n t t names t), stays-or (has_number m (behind first n t t names t)), kept_places-all first n t names ms) refl

class-timely : (first : ℕ) (t : Tree) (n : ℕ) → class_timely first [] t t n ≡ true
class-timely first t n =
    let ts : List Tree = preorder t in
    let runs : Bool = class_runs n ts in
    let names : List ℕ = naming_in_source first n t in
    let free : List ℕ = free_naming runs n ts ts names in
    rw (unmoved ts, kept_places-all first n t names (free_naming runs n ts ts names), without-none free names names (λ m h. or_right (has_number m free) (has_number m names) h), without-none (free_naming runs n ts ts names) (numbers_inside n ts) names (free-or-inside runs n ts names)) (unread runs)
  where
    unread : (runs : Bool) → not (runs && false) && true ≡ true
    unread true = refl
    unread false = refl

all-timely : (first : ℕ) (t : Tree) (ns : List ℕ) → all_classes_timely first [] t t ns ≡ true
all-timely first t [] = refl
all-timely first t (n ∷ ns) = both (class-timely first t n) (all-timely first t ns)

pub classes-timely : (first : ℕ) (t : Tree) → classes_timely first [] t t ≡ true
classes-timely first t = all-timely first t (class_numbers (preorder t))
