-- What is around the parts of a node, by the node.
use Rattle.std.specs.Prelude.{ℕ, List, Bool, true, false, ◌||◌}
use Rattle.es_base.specs.Tree.{Tree, Node}
use Rattle.es_base.specs.declared.kind.Kind.{Kind}
use Rattle.es_base.specs.declared.ledger.LedgerEntry.{LedgerEntry}
use Rattle.es_lowered.specs.Timely.{Around, around_in}
use Rattle.es_steps.specs.Context.{is_function}
use Rattle.es_steps.specs.Repeated.{is_loop}

abbrev pub around_within : ℕ → List LedgerEntry → Around → Tree → ℕ → Around
around_within first ledger x (Node kind m span semantic_id ps) i = around_in first ledger x kind m ps i

-- kinds of nodes any part of which may run or not, or again
abbrev pub is_held_form : Kind → Bool
is_held_form Kind.SwitchCase = true
is_held_form Kind.TryStatement = true
is_held_form Kind.LabeledStatement = true
is_held_form Kind.ChainExpression = true
is_held_form Kind.ObjectPattern = true
is_held_form Kind.ArrayPattern = true
is_held_form Kind.ObjectAssignmentTarget = true
is_held_form Kind.ArrayAssignmentTarget = true
is_held_form kind = false

abbrev pub is_always_held : Kind → Bool
is_always_held kind = is_held_form kind || (is_loop kind || is_function kind)
