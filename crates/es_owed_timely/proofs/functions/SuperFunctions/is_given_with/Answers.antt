use Rattle.std.proofs.Common.{ap, sym, ◌∙◌}
use Rattle.std.specs.List.{list_any}
use Rattle.std.specs.Str.{chars}
use Rattle.es_marks.specs.Around.{later_functions}
use Rattle.es_marks.specs.Marks.{mark_of}
use Rattle.es_seen_names.specs.PrivateMembers.{private_members_of}
use Rattle.es_owed_timely.proofs.SuperCalls.{given_by_number}
use Rattle.es_owed_timely.specs.Functions.{given_in, needs, super_functions_of}
use Rattle.es_owed_timely.proofs.functions.SuperFunctions.is_given_with.Goals as goal

pub returns : goal.returns
returns c =
    let ledger = c.args.search.now.ledger.now in
    let members = private_members_of c.args.search.now.members.now in
    let functions = super_functions_of c.args.self.now.functions.items in
    let given = given_in functions (needs members ledger (chars c.args.mark.now.name.now)) in
    c.is_given_around.ensures
    ∙ ap (λ gs. list_any given (later_functions gs)) c.as_slice.ensures.value
    ∙ sym (given_by_number ledger members (mark_of c.args.mark.now) functions)
