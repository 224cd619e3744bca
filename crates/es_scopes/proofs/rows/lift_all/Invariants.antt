use Rattle.std.proofs.Common.{◌≡◌, ◌++◌, map, take, drop}
use Rattle.std.specs.Prelude.{option_map}
use Rattle.es_scopes.specs.Table.{lifted}
use Rattle.es_scopes.proofs.rows.lift_all.Given as goal

-- the rows so far are changed, and the others are as they were
abbrev pub invariant-loop-row : goal.invariant-loop-row
invariant-loop-row l = l.scopes ≡ map (option_map (lifted l.scope_id l.parent)) (take l.row-index l.initial.scopes) ++ drop l.row-index l.initial.scopes
