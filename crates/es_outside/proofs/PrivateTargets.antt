-- Private members around a node: what the kind of a node says, and what a name means where classes are around.
use Rattle.std.proofs.Common.{◌≡◌, refl, ap, sym, ◌∙◌, ℕ, suc, ◌+◌, arith, List, [], ◌∷◌, ◌++◌, map, Bool, true, false, cond, not, ◌&&◌, ◌||◌, nat_eq, bytes_eq, Option, Some, None}
use Rattle.std.specs.Str.{chars}
use Rattle.std.proofs.lemmas.Str.{chars-nil}
use Rattle.std.proofs.Math.Bool.{or_assoc}
use Rattle.es_base.specs.Tree.{Tree, Part, Parts, Node, end, more, child, absent, list, string, no_string, boolean, literal}
use Rattle.es_base.specs.declared.kind.Kind.{Kind}
use Rattle.es_node.specs.View.{kind_of, number_in, parts_in}
use Rattle.es_steps.specs.Parts.{at, string_of}
use Rattle.es_steps.specs.PrivateNames.{PrivateMember, PrivateKind, keyed_member, element_members, elements_members, body_members, members_at, declared_member, first_number, is_written, private_reference, reference_to, class_of}
use Rattle.es_steps.specs.Shapes.{is_present_number, is_unwritable, private_spelling, is_unwritable_target, holds_unwritable, has_unwritable, unwritable_in, unwritable_part}
use Rattle.es_steps.specs.Values.{String}
use Rattle.es_outside.specs.PrivateMembers.{declares, declares_written}
use Rattle.es_outside.specs.PrivateTargets.{seen_in, unwritable_from}

-- ---- what the kind of a node says

pub no_members : (t : Tree) (n : ℕ) → (kind_of t ≡ Kind.ClassDeclaration → ⊥) → (kind_of t ≡ Kind.ClassExpression → ⊥) → members_at (kind_of t) n (parts_in t) ≡ []
no_members (Node Kind.ClassDeclaration m span semantic_id ps) n declaration expression = absurd (declaration refl)
no_members (Node Kind.ClassExpression m span semantic_id ps) n declaration expression = absurd (expression refl)
no_members (Node kind m span semantic_id ps) n declaration expression = refl

pub no_body : (t : Tree) (n : ℕ) → (kind_of t ≡ Kind.ClassBody → ⊥) → body_members n (child t) ≡ []
no_body (Node Kind.ClassBody m span semantic_id ps) n other = absurd (other refl)
no_body (Node kind m span semantic_id ps) n other = refl

pub no_member : (t : Tree) (n : ℕ) → (kind_of t ≡ Kind.PropertyDefinition → ⊥) → (kind_of t ≡ Kind.MethodDefinition → ⊥) → element_members n (child t) ≡ []
no_member (Node Kind.PropertyDefinition m span semantic_id ps) n field method = absurd (field refl)
no_member (Node Kind.MethodDefinition m span semantic_id ps) n field method = absurd (method refl)
no_member (Node kind m span semantic_id ps) n field method = refl

pub no_key : (t : Tree) (n : ℕ) (is_static : Bool) (kind : PrivateKind) → (kind_of t ≡ Kind.PrivateIdentifier → ⊥) → keyed_member n is_static kind (child t) ≡ []
no_key (Node Kind.PrivateIdentifier m span semantic_id ps) n is_static kind other = absurd (other refl)
no_key (Node k m span semantic_id ps) n is_static kind other = refl

pub no_private : (seen : List PrivateMember) (t : Tree) → (kind_of t ≡ Kind.PrivateField → ⊥) → is_unwritable_target seen (child t) ≡ false
no_private seen (Node Kind.PrivateField m span semantic_id ps) other = absurd (other refl)
no_private seen (Node kind m span semantic_id ps) other = refl

pub no_targets : (seen : List PrivateMember) (kind : Kind) (ps : Parts) → (kind ≡ Kind.ArrayAssignmentTarget → ⊥) → (kind ≡ Kind.AssignmentTargetProperty → ⊥) → (kind ≡ Kind.AssignmentTargetWithDefault → ⊥) → (kind ≡ Kind.AssignmentTargetRest → ⊥) → (kind ≡ Kind.ForInStatement → ⊥) → (kind ≡ Kind.ForOfStatement → ⊥) → holds_unwritable seen kind ps ≡ false
no_targets seen Kind.ArrayAssignmentTarget ps array property default rest for_in for_of = absurd (array refl)
no_targets seen Kind.AssignmentTargetProperty ps array property default rest for_in for_of = absurd (property refl)
no_targets seen Kind.AssignmentTargetWithDefault ps array property default rest for_in for_of = absurd (default refl)
no_targets seen Kind.AssignmentTargetRest ps array property default rest for_in for_of = absurd (rest refl)
no_targets seen Kind.ForInStatement ps array property default rest for_in for_of = absurd (for_in refl)
no_targets seen Kind.ForOfStatement ps array property default rest for_in for_of = absurd (for_of refl)
no_targets seen kind ps array property default rest for_in for_of = refl

pub spelled : (t : Tree) → private_spelling (child t) ≡ string_of (at 0 (parts_in t))
spelled (Node kind m span semantic_id ps) = refl

pub no_string_chars : chars [] ≡ []
no_string_chars = chars-nil

-- ---- the walk

module _ (seen : ℕ → List PrivateMember) where
  first : (i : ℕ) → (i + 0) ≡ i
  first i = omega arith

  later : (i k : ℕ) → ((i + 1) + k) ≡ (i + suc k)
  later i k = omega arith

  from_place : (i : ℕ) (ps : Parts) → unwritable_from seen i ps ≡ unwritable_in (λ k. seen (i + k)) ps
  from_place i end = refl
  from_place i (more p ps) =
      ap (λ k. unwritable_part (seen k) p || unwritable_from seen (i + 1) ps) (sym (first i))
      ∙ ap (λ b. unwritable_part (seen (i + 0)) p || b) (from_place (i + 1) ps ∙ ap (λ (f : ℕ → ℕ). unwritable_in (λ k. seen (f k)) ps) (λ x k. later i k x))

  from_start : (ps : Parts) → unwritable_from seen 0 ps ≡ unwritable_in seen ps
  from_start ps = from_place 0 ps ∙ ap (λ (f : ℕ → ℕ). unwritable_in (λ k. seen (f k)) ps) (λ x k. same k x)
    where
      same : (k : ℕ) → (0 + k) ≡ k
      same k = omega arith

seen_same : (own seen : List PrivateMember) (b : Bool) → cond b (own ++ seen) seen ≡ (cond b own [] ++ seen)
seen_same own seen true = refl
seen_same own seen false = refl

-- a node: what it is a target in, and its parts, where a class shows its members in the third
pub unwritable_node : (seen own : List PrivateMember) (t : Tree) → own ≡ members_at (kind_of t) (number_in t) (parts_in t)
    → has_unwritable seen t ≡ (holds_unwritable seen (kind_of t) (parts_in t) || unwritable_from (seen_in (own ++ seen) seen) 0 (parts_in t))
unwritable_node seen own (Node kind m span semantic_id ps) e =
    ap (λ b. holds_unwritable seen kind ps || b) (sym (
    from_start (seen_in (own ++ seen) seen) ps
    ∙ ap (λ (f : ℕ → List PrivateMember). unwritable_in f ps) (λ x i. seen_same own seen (nat_eq i 2) x)
    ∙ ap (λ (ms : List PrivateMember). unwritable_in (λ i. cond (nat_eq i 2) ms [] ++ seen) ps) e))

-- ---- the members of a class, whose number is that of each

pub declares_append : (s : String) (xs ys : List PrivateMember) → declares s (xs ++ ys) ≡ (declares s xs || declares s ys)
declares_append s [] ys = refl
declares_append s (x ∷ xs) ys = ap (λ b. bytes_eq s x.spelling || b) (declares_append s xs ys) ∙ sym (or_assoc (bytes_eq s x.spelling) (declares s xs) (declares s ys))

pub declares_written_append : (s : String) (xs ys : List PrivateMember) → declares_written s (xs ++ ys) ≡ (declares_written s xs || declares_written s ys)
declares_written_append s [] ys = refl
declares_written_append s (x ∷ xs) ys = ap (λ b. (is_written x.kind && bytes_eq s x.spelling) || b) (declares_written_append s xs ys) ∙ sym (or_assoc (is_written x.kind && bytes_eq s x.spelling) (declares_written s xs) (declares_written s ys))

abbrev with_class : ℕ → PrivateMember → PrivateMember
with_class n x = record { number = x.number; spelling = x.spelling; class = n; is_static = x.is_static; kind = x.kind }

key_with : (n : ℕ) (is_static : Bool) (kind : PrivateKind) (p : Part) → keyed_member n is_static kind p ≡ map (with_class n) (keyed_member 0 is_static kind p)
key_with n is_static kind (child (Node Kind.PrivateIdentifier d span semantic_id ps)) = refl
key_with n is_static kind (child (Node k d span semantic_id ps)) = refl
key_with n is_static kind absent = refl
key_with n is_static kind (list ps) = refl
key_with n is_static kind (string s) = refl
key_with n is_static kind no_string = refl
key_with n is_static kind (boolean b) = refl
key_with n is_static kind (literal v) = refl

element_with : (n : ℕ) (p : Part) → element_members n p ≡ map (with_class n) (element_members 0 p)
element_with n (child (Node Kind.PropertyDefinition m span semantic_id ps)) = key_with n _ _ (at 0 ps)
element_with n (child (Node Kind.MethodDefinition m span semantic_id ps)) = key_with n _ _ (at 0 ps)
element_with n (child (Node kind m span semantic_id ps)) = refl
element_with n absent = refl
element_with n (list ps) = refl
element_with n (string s) = refl
element_with n no_string = refl
element_with n (boolean b) = refl
element_with n (literal v) = refl

map_append : (f : PrivateMember → PrivateMember) (xs ys : List PrivateMember) → map f (xs ++ ys) ≡ (map f xs ++ map f ys)
map_append f [] ys = refl
map_append f (x ∷ xs) ys = ap (λ zs. f x ∷ zs) (map_append f xs ys)

elements_with : (n : ℕ) (ps : Parts) → elements_members n ps ≡ map (with_class n) (elements_members 0 ps)
elements_with n end = refl
elements_with n (more p ps) =
    ap (λ xs. xs ++ elements_members n ps) (element_with n p)
    ∙ ap (λ xs. map (with_class n) (element_members 0 p) ++ xs) (elements_with n ps)
    ∙ sym (map_append (with_class n) (element_members 0 p) (elements_members 0 ps))

-- ---- what a name means where a class is around others

nearest : (s : String) (n : ℕ) (xs ys : List PrivateMember) → class_of (declared_member s (map (with_class n) xs ++ ys)) ≡ cond (declares s xs) (Some n) (class_of (declared_member s ys))
nearest s n [] ys = refl
nearest s n (x ∷ xs) ys = here (bytes_eq s x.spelling) (nearest s n xs ys)
  where
    here : (b : Bool) → class_of (declared_member s (map (with_class n) xs ++ ys)) ≡ cond (declares s xs) (Some n) (class_of (declared_member s ys))
        → class_of (cond b (Some (with_class n x)) (declared_member s (map (with_class n) xs ++ ys))) ≡ cond (b || declares s xs) (Some n) (class_of (declared_member s ys))
    here true h = refl
    here false h = h

pub nearest_class : (s : String) (n : ℕ) (ps : Parts) (ys : List PrivateMember) → class_of (declared_member s (elements_members n ps ++ ys)) ≡ cond (declares s (elements_members 0 ps)) (Some n) (class_of (declared_member s ys))
nearest_class s n ps ys = ap (λ xs. class_of (declared_member s (xs ++ ys))) (elements_with n ps) ∙ nearest s n (elements_members 0 ps) ys

writes : (s : String) (k n : ℕ) (xs ys : List PrivateMember) → is_present_number (first_number is_written s k (map (with_class n) xs ++ ys)) ≡ ((nat_eq k n && declares_written s xs) || is_present_number (first_number is_written s k ys))
writes s k n [] ys = none (nat_eq k n)
  where
    none : (b : Bool) → is_present_number (first_number is_written s k ys) ≡ ((b && false) || is_present_number (first_number is_written s k ys))
    none true = refl
    none false = refl
writes s k n (x ∷ xs) ys = here (is_written x.kind) (nat_eq k n) (bytes_eq s x.spelling) (writes s k n xs ys)
  where
    rest : Bool
    rest = is_present_number (first_number is_written s k (map (with_class n) xs ++ ys))

    here : (w b e : Bool) → rest ≡ ((b && declares_written s xs) || is_present_number (first_number is_written s k ys))
        → is_present_number (cond (w && (b && e)) (Some x.number) (first_number is_written s k (map (with_class n) xs ++ ys))) ≡ ((b && ((w && e) || declares_written s xs)) || is_present_number (first_number is_written s k ys))
    here true true true h = refl
    here true true false h = h
    here true false e h = h
    here false true e h = h
    here false false e h = h

pub writing_side : (s : String) (k n : ℕ) (ps : Parts) (ys : List PrivateMember) → is_present_number (first_number is_written s k (elements_members n ps ++ ys)) ≡ ((nat_eq k n && declares_written s (elements_members 0 ps)) || is_present_number (first_number is_written s k ys))
writing_side s k n ps ys = ap (λ xs. is_present_number (first_number is_written s k (xs ++ ys))) (elements_with n ps) ∙ writes s k n (elements_members 0 ps) ys

-- what the nearest class that declares a name says of it
abbrev by_class : (ℕ → Bool) → Option ℕ → Bool
by_class written None = false
by_class written (Some n) = not (written n)

pub unwritable_name : (s : String) (seen : List PrivateMember) → is_unwritable (private_reference s seen) ≡ by_class (λ n. is_present_number (first_number is_written s n seen)) (class_of (declared_member s seen))
unwritable_name s seen = elim (declared_member s seen) as (λ x. is_unwritable (reference_to s seen x) ≡ by_class (λ n. is_present_number (first_number is_written s n seen)) (class_of x)) [
  | None ↦ refl
  | Some x ↦ refl
]
