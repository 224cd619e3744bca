-- Trees that can be printed, node by node.
use Rattle.std.proofs.Common.{◌≡◌, refl, sym, ap, ◌∙◌, ℕ, suc, ◌+◌, ◌<◌, List, length, drop, get_or, Bool, false, ◌&&◌, ◌||◌, arith}
use Rattle.std.proofs.lemmas.List.{at_drop_more}
use Rattle.std.specs.Prelude.{bytes_eq, codes, not}
use Rattle.es_base.specs.Tree.{Tree, Parts, Node, end, more}
use Rattle.es_base.specs.declared.kind.Kind.{Kind}
use Rattle.es_node.specs.View.{kind_of, part_of, parts_in, parts_of}
use Rattle.es_node.specs.declared.node.Part as code
use Rattle.es_steps.specs.Parts.{at, string_of}
use Rattle.es_steps.specs.Printable.{Jumps, bad_in, has_bad, has_stray, has_stray_target, is_bad_in, is_default_export, is_module, is_new_target, is_stray, jumps_inside, stray_in, stray_target_at, stray_target_in}
use Rattle.es_steps.specs.Reserved.{Words, has_reserved, is_reserved, reserved_at, reserved_in, strict_if, words_inside}
use Rattle.es_steps.specs.Strict.{makes_strict}
use Rattle.es_owed_printable.specs.Targets.{stray_target_from, target_within}
use Rattle.es_owed_printable.specs.Words.{reserved_from, words_within}

pub bad_node : (in_default in_module : Bool) (t : Tree) → has_bad in_default in_module t ≡ (is_bad_in in_default in_module (kind_of t) (parts_in t) || bad_in (is_default_export (kind_of t)) (is_module (kind_of t) (parts_in t)) (parts_in t))
bad_node in_default in_module (Node kind m span semantic_id ps) = refl

pub module_program : (kind : Kind) (ps : Parts) → kind ≡ Kind.Program → is_module kind ps ≡ bytes_eq (string_of (at 0 ps)) (codes "module")
module_program Kind.Program ps is = refl
module_program kind ps is = absurd (cc)

pub no_module : (kind : Kind) (ps : Parts) → (kind ≡ Kind.Program → ⊥) → is_module kind ps ≡ false
no_module Kind.Program ps other = absurd (other refl)
no_module kind ps other = refl

pub stray_node : (j : Jumps) (t : Tree) → has_stray j t ≡ (is_stray j (kind_of t) (parts_in t) || stray_in (jumps_inside j (kind_of t) (parts_in t)) (parts_in t))
stray_node j (Node kind m span semantic_id ps) = refl

-- ---- places

at_once : (i : ℕ) → i + 0 ≡ i
at_once i = omega arith

one_on : (i k : ℕ) → i + suc k ≡ (i + 1) + k
one_on i k = omega arith

from_zero : (k : ℕ) → k ≡ 0 + k
from_zero k = omega arith

-- ---- `new.target`

target_place : (inside within : ℕ → Bool) (i : ℕ) (ps : Parts) → ((k : ℕ) → inside k ≡ within (i + k)) → stray_target_in inside ps ≡ stray_target_from within i ps
target_place inside within i end same = refl
target_place inside within i (more p ps) same =
    ap (λ (b : Bool). stray_target_at b p || stray_target_in (λ k. inside (suc k)) ps) (same 0 ∙ ap within (at_once i))
    ∙ ap (λ (b : Bool). stray_target_at (within i) p || b) (target_place (λ k. inside (suc k)) within (i + 1) ps (λ k. same (suc k) ∙ ap within (one_on i k)))

pub target_node : (inside : Bool) (t : Tree) → has_stray_target inside t ≡ ((is_new_target (kind_of t) (parts_in t) && not inside) || stray_target_from (target_within inside (kind_of t)) 0 (parts_in t))
target_node inside (Node kind m span semantic_id ps) =
    ap (λ b. (is_new_target kind ps && not inside) || b) (target_place (target_within inside kind) (target_within inside kind) 0 ps (λ k. ap (target_within inside kind) (from_zero k)))

pub next_target : (within : ℕ → Bool) (xs : List code.Part) (i : ℕ) (x : code.Part) → i < length xs → x ≡ get_or xs i x
    → stray_target_from within i (parts_of (drop i xs)) ≡ (stray_target_at (within i) (part_of x) || stray_target_from within (i + 1) (parts_of (drop (i + 1) xs)))
next_target within xs i x below is =
    at_drop_more (λ (ys : List code.Part). stray_target_from within i (parts_of ys)) xs i x below
    ∙ ap (λ (y : code.Part). stray_target_at (within i) (part_of y) || stray_target_from within (i + 1) (parts_of (drop (i + 1) xs))) (sym is)

pub no_new_target : (kind : Kind) (ps : Parts) → (kind ≡ Kind.MetaProperty → ⊥) → is_new_target kind ps ≡ false
no_new_target Kind.MetaProperty ps other = absurd (other refl)
no_new_target kind ps other = refl

-- ---- reserved words

from_place : (words within : ℕ → Words) (i : ℕ) (ps : Parts) → ((k : ℕ) → words k ≡ within (i + k)) → reserved_in words ps ≡ reserved_from within i ps
from_place words within i end same = refl
from_place words within i (more p ps) same =
    ap (λ (w : Words). reserved_at w p || reserved_in (λ k. words (suc k)) ps) (same 0 ∙ ap within (at_once i))
    ∙ ap (λ (b : Bool). reserved_at (within i) p || b) (from_place (λ k. words (suc k)) within (i + 1) ps (λ k. same (suc k) ∙ ap within (one_on i k)))

pub reserved_node : (w : Words) (t : Tree) → has_reserved w t ≡ (is_reserved w (kind_of t) (parts_in t) || reserved_from (words_within (strict_if (makes_strict (kind_of t) (parts_in t)) w) t) 0 (parts_in t))
reserved_node w (Node kind m span semantic_id ps) =
    ap (λ b. is_reserved w kind ps || b) (from_place (words_inside (strict_if (makes_strict kind ps) w) kind ps) (words_within (strict_if (makes_strict kind ps) w) (Node kind m span semantic_id ps)) 0 ps (λ k. ap (words_within (strict_if (makes_strict kind ps) w) (Node kind m span semantic_id ps)) (from_zero k)))

pub within_node : (w : Words) (t : Tree) (i : ℕ) → words_within w t i ≡ words_inside w (kind_of t) (parts_in t) i
within_node w (Node kind m span semantic_id ps) i = refl

pub next_part : (within : ℕ → Words) (xs : List code.Part) (i : ℕ) (x : code.Part) → i < length xs → x ≡ get_or xs i x
    → reserved_from within i (parts_of (drop i xs)) ≡ (reserved_at (within i) (part_of x) || reserved_from within (i + 1) (parts_of (drop (i + 1) xs)))
next_part within xs i x below is =
    at_drop_more (λ (ys : List code.Part). reserved_from within i (parts_of ys)) xs i x below
    ∙ ap (λ (y : code.Part). reserved_at (within i) (part_of y) || reserved_from within (i + 1) (parts_of (drop (i + 1) xs))) (sym is)
