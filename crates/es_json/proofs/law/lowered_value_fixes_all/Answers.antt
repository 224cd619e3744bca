use Rattle.es_json.proofs.Fixed.{lowered_fixes_tree, lowered_fixes_names, lowered_fixes_warnings, lowered_fixes_shapes}
use Rattle.es_json.proofs.law.lowered_value_fixes_all.Goals as goal

pub returns-clause-tree : goal.returns-clause-tree
returns-clause-tree c = lowered_fixes_tree

pub returns-clause-names : goal.returns-clause-names
returns-clause-names c = lowered_fixes_names

pub returns-clause-warnings : goal.returns-clause-warnings
returns-clause-warnings c = lowered_fixes_warnings

pub returns-clause-shapes : goal.returns-clause-shapes
returns-clause-shapes c = lowered_fixes_shapes
