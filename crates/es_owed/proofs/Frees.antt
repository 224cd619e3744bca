-- The statements that no lowered class touches, node by node.
use Rattle.std.proofs.Common.{◌≡◌, refl, sym, ap, ◌∙◌, List, [], ◌∷◌, ◌++◌, Bool, true, false, cond, ◌&&◌, ◌||◌}
use Rattle.std.proofs.Math.Bool.{and_assoc, and-true}
use Rattle.es_base.specs.Preorder.{preorder}
use Rattle.es_base.specs.Tree.{Tree, Part, Parts, Node, end, more, child, absent, list, string, no_string, boolean, literal}
use Rattle.es_node.specs.View.{kind_of, parts_in}
use Rattle.es_steps.specs.KeptNodes.{all_equal, free_at, free_in, free_statements, is_free_statement, stands_equal, statements_kept}
use Rattle.es_steps.specs.LoweredClasses.{is_lowered_class}
use Rattle.es_steps.specs.declared.options.Options.{Options}
use Rattle.es_owed.specs.FreeStatements.{free_stand, free_stand_at, free_stand_in}

pub stands_node : (o : Options) (qs : List Tree) (t : Tree) → free_stand o qs t ≡ cond (is_free_statement o t) (stands_equal t qs) (is_lowered_class o (kind_of t) (parts_in t) || free_stand_in o qs (parts_in t))
stands_node o qs (Node kind m span semantic_id ps) = refl

equal-append : (ts us qs : List Tree) → all_equal (ts ++ us) qs ≡ (all_equal ts qs && all_equal us qs)
equal-append [] us qs = refl
equal-append (t ∷ ts) us qs = ap (λ b. stands_equal t qs && b) (equal-append ts us qs) ∙ sym (and_assoc (stands_equal t qs) (all_equal ts qs) (all_equal us qs))

one : (free lowered : Bool) (t : Tree) (ts qs : List Tree) (b : Bool) → all_equal ts qs ≡ b → all_equal (cond free (t ∷ []) (cond lowered [] ts)) qs ≡ cond free (stands_equal t qs) (lowered || b)
one true lowered t ts qs b e = and-true (stands_equal t qs)
one false true t ts qs b e = refl
one false false t ts qs b e = e

mutual
  tree-stands : (o : Options) (qs : List Tree) (t : Tree) → all_equal (free_statements o t) qs ≡ free_stand o qs t
  tree-stands o qs (Node kind m span semantic_id ps) =
      one (is_free_statement o (Node kind m span semantic_id ps)) (is_lowered_class o kind ps) (Node kind m span semantic_id ps) (free_in o ps) qs (free_stand_in o qs ps) (parts-stand o qs ps)

  part-stands : (o : Options) (qs : List Tree) (p : Part) → all_equal (free_at o p) qs ≡ free_stand_at o qs p
  part-stands o qs (child t) = tree-stands o qs t
  part-stands o qs absent = refl
  part-stands o qs (list ps) = parts-stand o qs ps
  part-stands o qs (string s) = refl
  part-stands o qs no_string = refl
  part-stands o qs (boolean b) = refl
  part-stands o qs (literal v) = refl

  parts-stand : (o : Options) (qs : List Tree) (ps : Parts) → all_equal (free_in o ps) qs ≡ free_stand_in o qs ps
  parts-stand o qs end = refl
  parts-stand o qs (more p ps) = equal-append (free_at o p) (free_in o ps) qs ∙ ap (λ b. b && all_equal (free_in o ps) qs) (part-stands o qs p) ∙ ap (λ b. free_stand_at o qs p && b) (parts-stand o qs ps)

pub free_by_node : (o : Options) (p q : Tree) → free_stand o (preorder q) p ≡ statements_kept o p q
free_by_node o p q = sym (tree-stands o (preorder q) p)
