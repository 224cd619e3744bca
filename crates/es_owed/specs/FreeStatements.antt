-- The statements that no lowered class touches, node by node.
use Rattle.std.specs.Prelude.{List, Bool, true, cond, ◌&&◌, ◌||◌}
use Rattle.es_base.specs.Tree.{Tree, Part, Parts, Node, end, more, child, list}
use Rattle.es_steps.specs.KeptNodes.{is_free_statement, stands_equal}
use Rattle.es_steps.specs.LoweredClasses.{is_lowered_class}
use Rattle.es_steps.specs.declared.options.Options.{Options}

-- whether the outermost of a tree stand among these
abbrev mutual
  pub free_stand : Options → List Tree → Tree → Bool
  free_stand o qs (Node kind m span semantic_id ps) = cond (is_free_statement o (Node kind m span semantic_id ps)) (stands_equal (Node kind m span semantic_id ps) qs) (is_lowered_class o kind ps || free_stand_in o qs ps)

  pub free_stand_in : Options → List Tree → Parts → Bool
  free_stand_in o qs end = true
  free_stand_in o qs (more p ps) = free_stand_at o qs p && free_stand_in o qs ps

  pub free_stand_at : Options → List Tree → Part → Bool
  free_stand_at o qs (child t) = free_stand o qs t
  free_stand_at o qs (list ps) = free_stand_in o qs ps
  free_stand_at o qs p = true
