-- Members that were read one after another are those of the definitions.
use Rattle.std.proofs.Common.{◌≡◌, refl, ap, sym, ◌∙◌, ℕ, zero, suc, ◌<◌, ◌≤◌, List, [], ◌∷◌, ◌++◌, ◌+◌, length, get_or, drop, drop-cons, Option, Some, arith}
use Rattle.es_base.specs.Tree as tree
use Rattle.es_base.specs.Tree.{Tree, Parts, Node, nullable, nullable_trees, trees}
use Rattle.es_codes.specs.CodeView as codes
use Rattle.es_codes.specs.declared.code.Code.{Code}
use Rattle.es_node.specs.View.{kind_of, number_in, part_of, parts_in, parts_of}
use Rattle.es_node.specs.declared.node.Part.{Part}
use Rattle.es_steps.specs.Context.{Context, inside}
use Rattle.es_steps.specs.Members as spec
use Rattle.es_steps.specs.Reading.{code_of, read, read_items, read_part, read_parts}
use Rattle.es_code_members.specs.MembersView.{item_of, items_in, member_of, members_of}
use Rattle.es_code_members.specs.declared.member.Member.{Member}
use Rattle.es_tree_codes.specs.Onto.{items_onto, members_onto, read_from}

pub onto_end : (ps : List Member) → members_onto ps spec.end ≡ members_of ps
onto_end [] = refl
onto_end (p ∷ ps) = ap (spec.more (member_of p)) (onto_end ps)

pub onto_more : (ps : List Member) (p : Member) (ms : spec.Members) → members_onto (ps ++ p ∷ []) ms ≡ members_onto ps (spec.more (member_of p) ms)
onto_more [] p ms = refl
onto_more (q ∷ ps) p ms = ap (spec.more (member_of q)) (onto_more ps p ms)

pub items_end : (cs : List (Option Code)) → items_onto cs spec.end ≡ items_in cs
items_end [] = refl
items_end (c ∷ cs) = ap (spec.more (item_of c)) (items_end cs)

pub items_more : (cs : List (Option Code)) (c : Option Code) (ms : spec.Members) → items_onto (cs ++ c ∷ []) ms ≡ items_onto cs (spec.more (item_of c) ms)
items_more [] c ms = refl
items_more (d ∷ cs) c ms = ap (spec.more (item_of d)) (items_more cs c ms)

-- d is c from the i-th on
from_shifted : (c d : ℕ → Context) (i : ℕ) (ps : Parts) → ((k : ℕ) → d k ≡ c (k + i)) → read_parts d ps ≡ read_from c i ps
from_shifted c d i tree.end same = refl
from_shifted c d i (tree.more p ps) same =
    let first : 0 + i ≡ i = omega arith in
    let next : (k : ℕ) → suc k + i ≡ k + suc i = λ k. omega arith in
    ap (λ e. spec.more (read_part e p) (read_parts (λ k. d (suc k)) ps)) (same 0 ∙ ap c first)
    ∙ ap (spec.more (read_part (c i) p)) (from_shifted c (λ k. d (suc k)) (suc i) ps (λ k. same (suc k) ∙ ap c (next k)))

pub from_first : (c : ℕ → Context) (ps : Parts) → read_from c 0 ps ≡ read_parts c ps
from_first c ps =
    let none : (k : ℕ) → k ≡ k + 0 = λ k. omega arith in
    sym (from_shifted c c 0 ps (λ k. ap c (none k)))

-- a node, by the rule of its kind
pub read_node : (c : Context) (t : Tree) (ms : spec.Members) → ms ≡ read_from (inside c (kind_of t) (number_in t) (parts_in t)) 0 (parts_in t) → read c t ≡ code_of c (kind_of t) (number_in t) ms
read_node c (Node kind m span semantic_id ps) ms same = ap (code_of c kind m) (sym (same ∙ from_first (inside c kind m ps) ps))

-- ---- one more item or member

none_left : {A : Type 0} (xs : List A) (i : ℕ) → length xs ≤ i → drop i xs ≡ []
none_left [] zero h = refl
none_left [] (suc i) h = refl
none_left (x ∷ xs) zero h = absurd (omega (arith, h))
none_left (x ∷ xs) (suc i) h = none_left xs i (omega (arith, h))

split_at : {A : Type 0} (xs : List A) (i : ℕ) (x : A) → i < length xs → x ≡ get_or xs i x → drop i xs ≡ (x ∷ drop (i + 1) xs)
split_at {A} xs i x below is =
    let next : suc i ≡ i + 1 = omega arith in
    drop-cons xs i x below ∙ ap (λ (u : A). u ∷ drop (suc i) xs) (sym is) ∙ ap (λ (k : ℕ). x ∷ drop k xs) next

pub item_read : (c : Context) (cs : List (Option Code)) (e : Code) (ts : List Tree) (i : ℕ) (t : Tree) (all : spec.Members) → i < length ts → t ≡ get_or ts i t → codes.code_of e ≡ read c t
    → items_onto cs (read_items c (trees (drop i ts))) ≡ all → items_onto (cs ++ Some e ∷ []) (read_items c (trees (drop (i + 1) ts))) ≡ all
item_read c cs e ts i t all below is h before =
    items_more cs (Some e) (read_items c (trees (drop (i + 1) ts)))
    ∙ ap (λ x. items_onto cs (spec.more (spec.code x) (read_items c (trees (drop (i + 1) ts))))) h
    ∙ ap (λ us. items_onto cs (read_items c (trees us))) (sym (split_at ts i t below is))
    ∙ before

pub hole_read : (c : Context) (cs : List (Option Code)) (e : Option Code) (ts : List (Option Tree)) (i : ℕ) (t : Option Tree) (all : spec.Members) → i < length ts → t ≡ get_or ts i t → item_of e ≡ read_part c (nullable t)
    → items_onto cs (read_items c (nullable_trees (drop i ts))) ≡ all → items_onto (cs ++ e ∷ []) (read_items c (nullable_trees (drop (i + 1) ts))) ≡ all
hole_read c cs e ts i t all below is h before =
    items_more cs e (read_items c (nullable_trees (drop (i + 1) ts)))
    ∙ ap (λ x. items_onto cs (spec.more x (read_items c (nullable_trees (drop (i + 1) ts))))) h
    ∙ ap (λ us. items_onto cs (read_items c (nullable_trees us))) (sym (split_at ts i t below is))
    ∙ before

pub items_read : (c : Context) (cs : List (Option Code)) (ts : List Tree) (i : ℕ) (all : spec.Members) → length ts ≤ i → items_onto cs (read_items c (trees (drop i ts))) ≡ all → items_in cs ≡ all
items_read c cs ts i all h before = sym (items_end cs) ∙ ap (λ us. items_onto cs (read_items c (trees us))) (sym (none_left ts i h)) ∙ before

pub holes_read : (c : Context) (cs : List (Option Code)) (ts : List (Option Tree)) (i : ℕ) (all : spec.Members) → length ts ≤ i → items_onto cs (read_items c (nullable_trees (drop i ts))) ≡ all → items_in cs ≡ all
holes_read c cs ts i all h before = sym (items_end cs) ∙ ap (λ us. items_onto cs (read_items c (nullable_trees us))) (sym (none_left ts i h)) ∙ before

pub member_read : (within : ℕ → Context) (ms : List Member) (m : Member) (ps : List Part) (i : ℕ) (p : Part) (all : spec.Members) → i < length ps → p ≡ get_or ps i p → member_of m ≡ read_part (within i) (part_of p)
    → members_onto ms (read_from within i (parts_of (drop i ps))) ≡ all → members_onto (ms ++ m ∷ []) (read_from within (i + 1) (parts_of (drop (i + 1) ps))) ≡ all
member_read within ms m ps i p all below is h before =
    let next : i + 1 ≡ suc i = omega arith in
    onto_more ms m (read_from within (i + 1) (parts_of (drop (i + 1) ps)))
    ∙ ap (λ x. members_onto ms (spec.more x (read_from within (i + 1) (parts_of (drop (i + 1) ps))))) h
    ∙ ap (λ (k : ℕ). members_onto ms (spec.more (read_part (within i) (part_of p)) (read_from within k (parts_of (drop (i + 1) ps))))) next
    ∙ ap (λ us. members_onto ms (read_from within i (parts_of us))) (sym (split_at ps i p below is))
    ∙ before

pub members_read : (within : ℕ → Context) (ms : List Member) (ps : List Part) (i : ℕ) (all : spec.Members) → length ps ≤ i → members_onto ms (read_from within i (parts_of (drop i ps))) ≡ all → members_of ms ≡ all
members_read within ms ps i all h before = sym (onto_end ms) ∙ ap (λ us. members_onto ms (read_from within i (parts_of us))) (sym (none_left ps i h)) ∙ before

pub length_more : (ms : List Member) (m : Member) → length (ms ++ m ∷ []) ≡ length ms + 1
length_more [] m = refl
length_more (x ∷ ms) m = let e : length (ms ++ m ∷ []) ≡ length ms + 1 = length_more ms m in omega (arith, e)
