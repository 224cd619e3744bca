-- The marks of the parts of a node, by the node.
use Rattle.std.specs.Prelude.{ℕ, zero, suc, ◌+◌, List, [], ◌++◌, Bool, true, false, cond, ◌&&◌, nat_eq, bytes_eq, codes, Option, None}
use Rattle.es_base.specs.Tree.{Tree, Parts, Node, end, more, child}
use Rattle.es_base.specs.declared.kind.Kind.{Kind}
use Rattle.es_lowered.specs.Definitions.{spelling}
use Rattle.es_lowered.specs.HelperCalls.{is_class_body, runs_with_class}
use Rattle.es_lowered.specs.Timely.{Around, Mark, MarkForm, around_in, initializes, is_called_arrow, is_same, is_spelled}
use Rattle.es_steps.specs.Parts.{at, string_of}
use Rattle.es_steps.specs.PrivateNames.{is_element}
use Rattle.es_marks_around.specs.Inside.{around_within}
use Rattle.es_owed_timely.specs.Search.{is_given, key_marks, let_form, mark, marks_at, marks_in, value_marks}
use Rattle.es_owed_timely.specs.declared.terms.Search.{Search}

-- whether the second part of a node is a name that the node gives a value
abbrev pub gives_name : Kind → Parts → Bool
gives_name Kind.AssignmentExpression ps = bytes_eq (string_of (at 0 ps)) (codes "=") && is_spelled (spelling (at 1 ps))
gives_name kind ps = false

-- the parts from the i-th on
abbrev pub parts_from : ℕ → Parts → Parts
parts_from zero ps = ps
parts_from (suc i) end = end
parts_from (suc i) (more p ps) = parts_from i ps

module _ (s : Search) where
  -- what is around the parts of a node
  abbrev pub around_at : Around → Tree → ℕ → Around
  around_at x t = around_within s.first s.ledger.now x t

  -- of the parts from the i-th on, but of the second, if that is given a value
  abbrev pub marks_from : (ℕ → Around) → Bool → Option MarkForm → ℕ → Parts → List Mark
  marks_from x gives in_let i end = []
  marks_from x gives in_let i (more p ps) = cond (nat_eq i 1 && gives) [] (marks_at s (x i) in_let p) ++ marks_from x gives in_let (i + 1) ps

  abbrev pub marks_inside : Around → Tree → List Mark
  marks_inside x (Node kind m span semantic_id ps) = marks_in s (is_called_arrow kind ps) (is_class_body kind) (around_in s.first s.ledger.now x kind m ps) (is_given s kind ps) (let_form s kind m ps) ps

  -- of the elements of a class
  abbrev pub body_marks : Around → Parts → List Mark
  body_marks x es = key_marks s x es ++ (mark s x initializes x.class_name [] ++ (value_marks s false x es ++ value_marks s true x es))

  abbrev pub key_mark : Around → Tree → List Mark
  key_mark x (Node kind m span semantic_id (more k ps)) = cond (is_element kind) (marks_at s (around_in s.first s.ledger.now x kind m (more k ps) 0) None k) []
  key_mark x t = []

  -- of an element that runs with the class, or of another
  abbrev pub value_mark : Bool → Around → Tree → List Mark
  value_mark runs x (Node kind m span semantic_id ps) = cond (is_same runs (runs_with_class (child (Node kind m span semantic_id ps)))) (cond (is_element kind) (marks_from (around_in s.first s.ledger.now x kind m ps) false None 1 (parts_from 1 ps)) (marks_from (around_in s.first s.ledger.now x kind m ps) false None 0 ps)) []
