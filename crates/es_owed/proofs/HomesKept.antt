-- Homes, node by node.
use Rattle.std.proofs.Common.{◌≡◌, refl, ap, ◌∙◌, ℕ, suc, ◌+◌, List, [], ◌∷◌, ◌++◌, map, length, Bool, true, false, cond, ◌&&◌, ◌||◌, arith}
use Rattle.std.specs.Prelude.{◌==◌, not, nat_eq}
use Rattle.std.proofs.lemmas.Bool.Decides.{nat_tests}
use Rattle.es_base.specs.Numbered.{is_new}
use Rattle.es_base.specs.Tree.{Tree, Parts, Node, end, more}
use Rattle.es_base.specs.declared.kind.Kind.{Kind}
use Rattle.es_grouped.specs.Groups.{having}
use Rattle.es_node.specs.View.{kind_of, number_in, parts_in}
use Rattle.es_steps.specs.KeptNodes.{HomeHere, Homed, all_at_home, block_numbers, function_around, home_fits, home_in, homed, homes, homes_at, homes_in, is_constructor_part, is_own_name_part, is_static_block, name_fits, name_of, stands_at_home, stands_nowhere}
use Rattle.es_steps.specs.References.{has_number}
use Rattle.es_owed.specs.Homes.{block_number, home_within, homed_all, homed_here, homed_numbered, homes_from, is_nowhere}
use Rattle.es_owed.specs.declared.homes.Homed as code

from_place : (x f : ℕ → HomeHere) (i : ℕ) (ps : Parts) → ((k : ℕ) → f k ≡ x (i + k)) → homes_in f ps ≡ homes_from x i ps
from_place x f i end same = refl
from_place x f i (more p ps) same =
    ap (λ (h : HomeHere). homes_at h p ++ homes_in (λ k. f (suc k)) ps) (same 0 ∙ ap x (at_once i))
    ∙ ap (λ (hs : List Homed). homes_at (x i) p ++ hs) (from_place x (λ k. f (suc k)) (i + 1) ps (λ k. same (suc k) ∙ ap x (one_on i k)))
  where
    at_once : (i : ℕ) → i + 0 ≡ i
    at_once i = omega arith

    one_on : (i k : ℕ) → i + suc k ≡ (i + 1) + k
    one_on i k = omega arith

from_zero : (k : ℕ) → k ≡ 0 + k
from_zero k = omega arith

pub homes_node : (x : HomeHere) (t : Tree) → homes x t ≡ homed x (kind_of t) (number_in t) (parts_in t) ++ homes_from (home_within x t) 0 (parts_in t)
homes_node x (Node kind m span semantic_id ps) =
    ap (λ (hs : List Homed). homed x kind m ps ++ hs) (from_place (home_in x kind m ps) (home_in x kind m ps) 0 ps (λ k. ap (home_in x kind m ps) (from_zero k)))

pub home_node : (x : HomeHere) (t : Tree) (i : ℕ) → home_within x t i ≡ record { of_function = function_around x.of_function (kind_of t) (number_in t) i; is_own_name = is_own_name_part (kind_of t) i; in_constructor = x.in_constructor || is_constructor_part (kind_of t) (parts_in t) i }
home_node x (Node kind m span semantic_id ps) i = refl

pub block_more : (t : Tree) (ts : List Tree) → block_numbers (t ∷ ts) ≡ block_number t ++ block_numbers ts
block_more (Node kind m span semantic_id ps) ts = refl

pub block_node : (t : Tree) → block_number t ≡ cond (is_static_block (kind_of t)) (number_in t ∷ []) []
block_node (Node kind m span semantic_id ps) = refl

pub no_name : (kind : Kind) (ps : Parts) → (kind ≡ Kind.BindingIdentifier → ⊥) → name_of kind ps ≡ []
no_name Kind.BindingIdentifier ps other = absurd (other refl)
no_name kind ps other = refl

pub no_function : (home : ℕ) (kind : Kind) (m i : ℕ) → (kind ≡ Kind.FunctionDeclaration → ⊥) → (kind ≡ Kind.FunctionExpression → ⊥) → (kind ≡ Kind.ArrowFunctionExpression → ⊥) → (kind ≡ Kind.StaticBlock → ⊥) → function_around home kind m i ≡ home
no_function home Kind.FunctionDeclaration m i a b c d = absurd (a refl)
no_function home Kind.FunctionExpression m i a b c d = absurd (b refl)
no_function home Kind.ArrowFunctionExpression m i a b c d = absurd (c refl)
no_function home Kind.StaticBlock m i a b c d = absurd (d refl)
no_function home kind m i a b c d = refl

pub no_own_name : (kind : Kind) (i : ℕ) → (kind ≡ Kind.ClassExpression → ⊥) → is_own_name_part kind i ≡ false
no_own_name Kind.ClassExpression i other = absurd (other refl)
no_own_name kind i other = refl

pub no_method : (kind : Kind) (ps : Parts) (i : ℕ) → (kind ≡ Kind.MethodDefinition → ⊥) → is_constructor_part kind ps i ≡ false
no_method Kind.MethodDefinition ps i other = absurd (other refl)
no_method kind ps i other = refl

-- ---- those of one number

pub by_homes : (m : ℕ) (hs : List code.Homed) → homed_all (having m (map (λ (h : code.Homed). (h.number, h)) hs)) ≡ homed_numbered m (homed_all hs)
by_homes m [] = refl
by_homes m (h ∷ hs) = here (nat_eq m h.number) (by_homes m hs)
  where
    here : (b : Bool) → homed_all (having m (map (λ (h : code.Homed). (h.number, h)) hs)) ≡ homed_numbered m (homed_all hs)
        → homed_all (cond b (h ∷ []) [] ++ having m (map (λ (h : code.Homed). (h.number, h)) hs)) ≡ cond b (homed_here h ∷ []) [] ++ homed_numbered m (homed_all hs)
    here true e = ap (λ (xs : List Homed). homed_here h ∷ xs) e
    here false e = e

pub stands_numbered : (first : ℕ) (blocks : List ℕ) (x : Homed) (ys : List Homed) → stands_at_home first blocks x (homed_numbered x.number ys) ≡ stands_at_home first blocks x ys
stands_numbered first blocks x [] = refl
stands_numbered first blocks x (y ∷ ys) = here (nat_eq x.number y.number) refl (stands_numbered first blocks x ys)
  where
    fits : Bool
    fits = home_fits first blocks x y && name_fits first blocks x y

    here : (b : Bool) → nat_eq x.number y.number ≡ b → stands_at_home first blocks x (homed_numbered x.number ys) ≡ stands_at_home first blocks x ys
        → stands_at_home first blocks x (cond b (y ∷ []) [] ++ homed_numbered x.number ys) ≡ ((b && fits) || stands_at_home first blocks x ys)
    here true e h = ap (λ c. (c && fits) || stands_at_home first blocks x (homed_numbered x.number ys)) e ∙ ap (λ c. fits || c) h
    here false e h = h

abbrev is_none : List Homed → Bool
is_none [] = true
is_none (y ∷ ys) = false

none_numbered : (n : ℕ) (ys : List Homed) → is_none (homed_numbered n ys) ≡ is_nowhere n ys
none_numbered n [] = refl
none_numbered n (y ∷ ys) = here (nat_eq n y.number) (none_numbered n ys)
  where
    here : (b : Bool) → is_none (homed_numbered n ys) ≡ is_nowhere n ys → is_none (cond b (y ∷ []) [] ++ homed_numbered n ys) ≡ (not b && is_nowhere n ys)
    here true h = refl
    here false h = h

not_empty : (n : ℕ) → (suc n == 0) ≡ false
not_empty n = grind (arith, nat_tests)

none_seen : (hs : List code.Homed) → (length hs == 0) ≡ is_none (homed_all hs)
none_seen [] = refl
none_seen (h ∷ hs) = not_empty (length hs)

pub nowhere_empty : (n : ℕ) (hs : List code.Homed) (ys : List Homed) → homed_all hs ≡ homed_numbered n ys → (length hs == 0) ≡ is_nowhere n ys
nowhere_empty n hs ys are = none_seen hs ∙ ap is_none are ∙ none_numbered n ys

pub nowhere : (first : ℕ) (blocks : List ℕ) (x : Homed) (ys : List Homed) → stands_nowhere first blocks x ys ≡ is_nowhere x.number ys
nowhere first blocks x [] = refl
nowhere first blocks x (y ∷ ys) = ap (λ b. not (nat_eq x.number y.number) && b) (nowhere first blocks x ys)

-- ---- sets of the same numbers

module _ (first : ℕ) (ns ks : List ℕ) (same : (n : ℕ) → has_number n ns ≡ has_number n ks) where
  same_stands : (x : Homed) (ys : List Homed) → stands_at_home first ns x ys ≡ stands_at_home first ks x ys
  same_stands x [] = refl
  same_stands x (y ∷ ys) =
      ap (λ b. (nat_eq x.number y.number && ((x.is_own_name || (nat_eq x.home y.home || (b && is_new first y.home))) && name_fits first ns x y)) || stands_at_home first ns x ys) (same x.home)
      ∙ ap (λ b. (nat_eq x.number y.number && (home_fits first ks x y && name_fits first ks x y)) || b) (same_stands x ys)

  same_nowhere : (x : Homed) (ys : List Homed) → stands_nowhere first ns x ys ≡ stands_nowhere first ks x ys
  same_nowhere x [] = refl
  same_nowhere x (y ∷ ys) = ap (λ b. not (nat_eq x.number y.number) && b) (same_nowhere x ys)

  same_all : (xs ys : List Homed) → all_at_home first ns xs ys ≡ all_at_home first ks xs ys
  same_all [] ys = refl
  same_all (x ∷ xs) ys =
      ap (λ b. (b || (x.is_own_name && stands_nowhere first ns x ys)) && all_at_home first ns xs ys) (same_stands x ys)
      ∙ ap (λ b. (stands_at_home first ks x ys || (x.is_own_name && b)) && all_at_home first ns xs ys) (same_nowhere x ys)
      ∙ ap (λ b. (stands_at_home first ks x ys || (x.is_own_name && stands_nowhere first ks x ys)) && b) (same_all xs ys)

pub same_at_home : (first : ℕ) (ns ks : List ℕ) (xs ys : List Homed) → ((n : ℕ) → has_number n ns ≡ has_number n ks) → all_at_home first ns xs ys ≡ all_at_home first ks xs ys
same_at_home first ns ks xs ys same = same_all first ns ks same xs ys
