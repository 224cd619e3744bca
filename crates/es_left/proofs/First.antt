-- The first node that is lowered, of a tree and of its nodes in preorder; where there is none, nothing is left.
use Rattle.std.proofs.Common.{◌≡◌, refl, sym, ap, ◌∙◌, ℕ, List, [], ◌∷◌, ◌++◌, Bool, true, false, cond, Option, Some, None, option_map}
use Rattle.std.specs.Prelude.{not, ◌&&◌, is_none, is_some}
use Rattle.es_base.specs.Preorder.{preorder, preorder_of, preorder_of_part, number_of}
use Rattle.es_base.specs.Tree.{Tree, Part, Parts, Node, end, more, child, absent, list, string, no_string, boolean, literal}
use Rattle.es_base.specs.declared.ids.NodeId.{NodeId}
use Rattle.es_node.specs.View.{number_in, parts_in}
use Rattle.es_steps.specs.LoweredClasses as lowered
use Rattle.es_steps.specs.LoweredClasses.{is_lowered_kind, none_lowered, nothing_left}
use Rattle.es_steps.specs.declared.options.Options.{Options}
use Rattle.es_left.specs.Left.{first_lowered, first_left, or_else, first_in, first_in_part, first_in_parts}

pub first_node : (o : Options) (t : Tree) → first_in o t ≡ cond (is_lowered_kind o (lowered.kind_of t)) (Some (number_in t)) (first_in_parts o (parts_in t))
first_node o (Node kind m span semantic_id ps) = refl

or_first : (b : Bool) (m : ℕ) (n k : Option ℕ) → or_else (cond b (Some m) n) k ≡ cond b (Some m) (or_else n k)
or_first true m n k = refl
or_first false m n k = refl

first-append : (o : Options) (ts us : List Tree) → first_lowered o (ts ++ us) ≡ or_else (first_lowered o ts) (first_lowered o us)
first-append o [] us = refl
first-append o (t ∷ ts) us =
    ap (cond (is_lowered_kind o (lowered.kind_of t)) (Some (number_of t))) (first-append o ts us)
    ∙ sym (or_first (is_lowered_kind o (lowered.kind_of t)) (number_of t) (first_lowered o ts) (first_lowered o us))

mutual
  tree-first : (o : Options) (t : Tree) → first_in o t ≡ first_lowered o (preorder t)
  tree-first o (Node kind m span semantic_id ps) = ap (cond (is_lowered_kind o kind) (Some m)) (parts-first o ps)

  part-first : (o : Options) (p : Part) → first_in_part o p ≡ first_lowered o (preorder_of_part p)
  part-first o (child t) = tree-first o t
  part-first o absent = refl
  part-first o (list ps) = parts-first o ps
  part-first o (string s) = refl
  part-first o no_string = refl
  part-first o (boolean b) = refl
  part-first o (literal v) = refl

  parts-first : (o : Options) (ps : Parts) → first_in_parts o ps ≡ first_lowered o (preorder_of ps)
  parts-first o end = refl
  parts-first o (more p ps) = rw (part-first o p, parts-first o ps) (sym (first-append o (preorder_of_part p) (preorder_of ps)))

pub left_first : (o : Options) (t : Tree) → first_in o t ≡ first_left o t
left_first o t = tree-first o t

-- ---- nothing is left where there is none

none-first : (o : Options) (ts : List Tree) → is_none (first_lowered o ts) ≡ none_lowered o ts
none-first o [] = refl
none-first o (t ∷ ts) = of (is_lowered_kind o (lowered.kind_of t)) ∙ ap (λ b. not (is_lowered_kind o (lowered.kind_of t)) && b) (none-first o ts)
  where
    of : (b : Bool) → is_none (cond b (Some (number_of t)) (first_lowered o ts)) ≡ (not b && is_none (first_lowered o ts))
    of true = refl
    of false = refl

number-none : (n : Option NodeId) → is_none (option_map (λ (k : NodeId). k.0) n) ≡ is_none n
number-none None = refl
number-none (Some n) = refl

negated : (b c : Bool) → not b ≡ c → b ≡ not c
negated true c e = ap not e
negated false c e = ap not e

pub left_none : (o : Options) (t : Tree) (n : Option NodeId) (b : Bool) → not b ≡ is_some n → option_map (λ (k : NodeId). k.0) n ≡ first_left o t → b ≡ nothing_left o t
left_none o t n b is e = negated b (is_some n) is ∙ sym (number-none n) ∙ ap is_none e ∙ none-first o (preorder t)
