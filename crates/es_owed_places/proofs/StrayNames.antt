-- Private names, by the kind of a node and node by node.
use Rattle.std.proofs.Common.{◌≡◌, refl, sym, ap, ◌∙◌, ℕ, suc, ◌+◌, ◌<◌, List, [], ◌++◌, length, drop, get_or, Bool, false, ◌||◌, arith}
use Rattle.std.proofs.lemmas.List.{at_drop_more}
use Rattle.es_base.specs.Tree.{Tree, Parts, Node, end, more}
use Rattle.es_base.specs.declared.kind.Kind.{Kind}
use Rattle.es_lowered.specs.StrayNames.{has_stray_name, is_stray_name, is_undeclared, seen_inside, stray_name_at, stray_name_in}
use Rattle.es_node.specs.View.{kind_of, number_in, part_of, parts_in, parts_of}
use Rattle.es_node.specs.declared.node.Part as code
use Rattle.es_seen_names.specs.PrivateMembers.{private_members_of}
use Rattle.es_seen_names.specs.declared.private_member.PrivateMember as code_member
use Rattle.es_steps.specs.Parts.{at, string_of}
use Rattle.es_steps.specs.PrivateNames.{PrivateMember, declared_member, seen_members}
use Rattle.es_owed_places.specs.StrayNames.{seen_within, stray_name_from}

pub stray_private : (x : List PrivateMember) (kind : Kind) (ps : Parts) → kind ≡ Kind.PrivateIdentifier → is_stray_name x kind ps ≡ is_undeclared (declared_member (string_of (at 0 ps)) x)
stray_private x Kind.PrivateIdentifier ps is = refl
stray_private x kind ps is = absurd (cc)

pub no_stray : (x : List PrivateMember) (kind : Kind) (ps : Parts) → (kind ≡ Kind.PrivateIdentifier → ⊥) → is_stray_name x kind ps ≡ false
no_stray x Kind.PrivateIdentifier ps other = absurd (other refl)
no_stray x kind ps other = refl

pub within_node : (x : List PrivateMember) (t : Tree) (i : ℕ) → seen_within x t i ≡ seen_members (kind_of t) (number_in t) (parts_in t) i ++ x
within_node x (Node kind m span semantic_id ps) i = refl

pub none_seen : (x : List PrivateMember) (t : Tree) (i : ℕ) (ms : List code_member.PrivateMember) → private_members_of ms ≡ seen_members (kind_of t) (number_in t) (parts_in t) i → ms ≡ [] → seen_within x t i ≡ x
none_seen x t i ms seen none =
    within_node x t i
    ∙ ap (λ (ys : List PrivateMember). ys ++ x) (sym seen)
    ∙ ap (λ (zs : List code_member.PrivateMember). private_members_of zs ++ x) none

-- ---- node by node

from_place : (x y : ℕ → List PrivateMember) (i : ℕ) (ps : Parts) → ((k : ℕ) → x k ≡ y (i + k)) → stray_name_in x ps ≡ stray_name_from y i ps
from_place x y i end same = refl
from_place x y i (more p ps) same =
    ap (λ (z : List PrivateMember). stray_name_at z p || stray_name_in (λ k. x (suc k)) ps) (same 0 ∙ ap y (at_once i))
    ∙ ap (λ (b : Bool). stray_name_at (y i) p || b) (from_place (λ k. x (suc k)) y (i + 1) ps (λ k. same (suc k) ∙ ap y (one_on i k)))
  where
    at_once : (i : ℕ) → i + 0 ≡ i
    at_once i = omega arith

    one_on : (i k : ℕ) → i + suc k ≡ (i + 1) + k
    one_on i k = omega arith

from_zero : (k : ℕ) → k ≡ 0 + k
from_zero k = omega arith

pub stray_node : (x : List PrivateMember) (t : Tree) → has_stray_name x t ≡ (is_stray_name x (kind_of t) (parts_in t) || stray_name_from (seen_within x t) 0 (parts_in t))
stray_node x (Node kind m span semantic_id ps) =
    ap (λ b. is_stray_name x kind ps || b) (from_place (seen_inside x kind m ps) (seen_inside x kind m ps) 0 ps (λ k. ap (seen_inside x kind m ps) (from_zero k)))

pub next_part : (within : ℕ → List PrivateMember) (xs : List code.Part) (i : ℕ) (x : code.Part) → i < length xs → x ≡ get_or xs i x
    → stray_name_from within i (parts_of (drop i xs)) ≡ (stray_name_at (within i) (part_of x) || stray_name_from within (i + 1) (parts_of (drop (i + 1) xs)))
next_part within xs i x below is =
    at_drop_more (λ (ys : List code.Part). stray_name_from within i (parts_of ys)) xs i x below
    ∙ ap (λ (y : code.Part). stray_name_at (within i) (part_of y) || stray_name_from within (i + 1) (parts_of (drop (i + 1) xs))) (sym is)
