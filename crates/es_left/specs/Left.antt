-- The first node of a tree, in preorder, that the options lower: its number.
use Rattle.std.specs.Prelude.{ℕ, List, [], ◌∷◌, cond, Option, Some, None}
use Rattle.es_base.specs.Preorder.{preorder, number_of}
use Rattle.es_base.specs.Tree.{Tree, Part, Parts, Node, end, more, child, list}
use Rattle.es_steps.specs.LoweredClasses.{is_lowered_kind, kind_of}
use Rattle.es_steps.specs.declared.options.Options.{Options}

abbrev pub first_lowered : Options → List Tree → Option ℕ
first_lowered o [] = None
first_lowered o (t ∷ ts) = cond (is_lowered_kind o (kind_of t)) (Some (number_of t)) (first_lowered o ts)

abbrev pub first_left : Options → Tree → Option ℕ
first_left o t = first_lowered o (preorder t)

-- ---- the same by the structure of the tree

abbrev pub or_else : Option ℕ → Option ℕ → Option ℕ
or_else None n = n
or_else (Some m) n = Some m

abbrev mutual
  pub first_in : Options → Tree → Option ℕ
  first_in o (Node kind m span semantic_id ps) = cond (is_lowered_kind o kind) (Some m) (first_in_parts o ps)

  pub first_in_parts : Options → Parts → Option ℕ
  first_in_parts o end = None
  first_in_parts o (more p ps) = or_else (first_in_part o p) (first_in_parts o ps)

  pub first_in_part : Options → Part → Option ℕ
  first_in_part o (child t) = first_in o t
  first_in_part o (list ps) = first_in_parts o ps
  first_in_part o p = None
