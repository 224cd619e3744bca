use Rattle.std.proofs.Common.{◌≡◌, Some}
use Rattle.std.specs.List.{AllByRecursion}
use Rattle.std.specs.Str.{chars}
use Rattle.es_scopes.specs.Table.{HasScope}
use Rattle.es_scopes.specs.Tables.{meant, first_seen}
use Rattle.es_scopes.proofs.declare.Declarations.find_seen.Given as goal

-- what is looked for is in the scopes to come, which are of the table
abbrev pub invariant-loop-scope : goal.invariant-loop-scope
invariant-loop-scope l = record {
  can : (goal.iterator-loop-scope).can_next l.scope-iterator;
  finite : (goal.iterator-loop-scope).is_finite l.scope-iterator;
  ahead : first_seen l.self (chars l.name) l.in_parameters l.scope-iterator ≡ meant l.self (Some l.fn.scope) l.fn.in_parameters (chars l.name);
  there : AllByRecursion (HasScope l.self.scoping) l.scope-iterator;
}
