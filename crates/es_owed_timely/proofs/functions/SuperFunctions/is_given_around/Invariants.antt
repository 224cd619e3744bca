use Rattle.std.proofs.Common.{◌≡◌, drop}
use Rattle.std.specs.List.{list_any}
use Rattle.std.specs.Str.{chars}
use Rattle.es_marks.specs.Around.{later_functions}
use Rattle.es_owed_timely.specs.Functions.{given_in, needs, super_functions_of}
use Rattle.es_seen_names.specs.PrivateMembers.{private_members_of}
use Rattle.es_owed_timely.proofs.functions.SuperFunctions.is_given_around.Given as goal

abbrev pub invariant-loop-function : goal.invariant-loop-function
invariant-loop-function l =
    let given = given_in (super_functions_of l.self.functions.items) (needs (private_members_of l.search.members.now) l.search.ledger.now (chars l.name)) in
    list_any given (later_functions (drop l.function-index l.around)) ≡ list_any given (later_functions l.around)
