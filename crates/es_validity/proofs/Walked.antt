-- The walk meets the faults of a tree one node, one part and one item at a time.
use Rattle.std.proofs.Common.{◌≡◌, sym, ap, ◌∙◌, ℕ, ◌+◌, ◌<◌, List, ◌++◌, map, length, drop, get_or, Option}
use Rattle.std.proofs.lemmas.List.{at_drop_more}
use Rattle.es_base.specs.Tree.{Tree, Node, nullable, trees, nullable_trees}
use Rattle.es_node.specs.View.{kind_of, number_in, parts_in, part_of, parts_of}
use Rattle.es_node.specs.declared.node.Part as code
use Rattle.es_steps.specs.declared.options.Options.{Options}
use Rattle.es_validity.proofs.Firsts.{first_with_append}
use Rattle.es_validity.specs.Around.{Around, behind, inside}
use Rattle.es_validity.specs.Faults.{FaultAt, fault_at, first_with, if_some, extra_constructors, faults, faults_from, part_faults, item_faults}
use Rattle.es_validity.specs.Rules.{cause_at}
use Rattle.es_validity.specs.declared.fault.Cause.{Cause}
use Rattle.es_validity.specs.declared.fault.TreeRule.{TreeRule}

pub node_found : (o : Options) (a : Around) (f : Option FaultAt) (t : Tree)
    → first_with f (faults o a t)
    ≡ first_with (first_with (first_with f (if_some (cause_at o a (kind_of t) (parts_in t)) (number_in t))) (map (fault_at (Cause.BadTree TreeRule.TwoConstructors)) (extra_constructors (kind_of t) (parts_in t)))) (faults_from o (inside (behind a (kind_of t) (parts_in t)) (kind_of t) (parts_in t)) 0 (parts_in t))
node_found o a f (Node kind m span semantic_id ps) =
    let here = if_some (cause_at o a kind ps) m in
    let extra = map (fault_at (Cause.BadTree TreeRule.TwoConstructors)) (extra_constructors kind ps) in
    let below = faults_from o (inside (behind a kind ps) kind ps) 0 ps in
    first_with_append f (here ++ extra) below ∙ ap (λ g. first_with g below) (first_with_append f here extra)

pub next_part : (o : Options) (around : ℕ → Around) (f : Option FaultAt) (ps : List code.Part) (i : ℕ) (p : code.Part) → i < length ps → p ≡ get_or ps i p
    → first_with f (faults_from o around i (parts_of (drop i ps))) ≡ first_with (first_with f (part_faults o (around i) (part_of p))) (faults_from o around (i + 1) (parts_of (drop (i + 1) ps)))
next_part o around f ps i p below is =
    let rest = faults_from o around (i + 1) (parts_of (drop (i + 1) ps)) in
    at_drop_more (λ (xs : List code.Part). first_with f (faults_from o around i (parts_of xs))) ps i p below
    ∙ first_with_append f (part_faults o (around i) (part_of (get_or ps i p))) rest
    ∙ ap (λ (q : code.Part). first_with (first_with f (part_faults o (around i) (part_of q))) rest) (sym is)

pub next_item : (o : Options) (a : Around) (f : Option FaultAt) (ts : List Tree) (i : ℕ) (t : Tree) → i < length ts → t ≡ get_or ts i t
    → first_with f (item_faults o a (trees (drop i ts))) ≡ first_with (first_with f (faults o a t)) (item_faults o a (trees (drop (i + 1) ts)))
next_item o a f ts i t below is =
    let rest = item_faults o a (trees (drop (i + 1) ts)) in
    at_drop_more (λ (xs : List Tree). first_with f (item_faults o a (trees xs))) ts i t below
    ∙ first_with_append f (faults o a (get_or ts i t)) rest
    ∙ ap (λ (u : Tree). first_with (first_with f (faults o a u)) rest) (sym is)

pub next_hole : (o : Options) (a : Around) (f : Option FaultAt) (ts : List (Option Tree)) (i : ℕ) (t : Option Tree) → i < length ts → t ≡ get_or ts i t
    → first_with f (item_faults o a (nullable_trees (drop i ts))) ≡ first_with (first_with f (part_faults o a (nullable t))) (item_faults o a (nullable_trees (drop (i + 1) ts)))
next_hole o a f ts i t below is =
    let rest = item_faults o a (nullable_trees (drop (i + 1) ts)) in
    at_drop_more (λ (xs : List (Option Tree)). first_with f (item_faults o a (nullable_trees xs))) ts i t below
    ∙ first_with_append f (part_faults o a (nullable (get_or ts i t))) rest
    ∙ ap (λ (u : Option Tree). first_with (first_with f (part_faults o a (nullable u))) rest) (sym is)
