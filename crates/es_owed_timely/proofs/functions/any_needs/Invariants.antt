use Rattle.std.proofs.Common.{◌≡◌, drop}
use Rattle.std.specs.List.{list_any}
use Rattle.std.specs.Str.{chars}
use Rattle.es_owed_timely.specs.Functions.{needs}
use Rattle.es_seen_names.specs.PrivateMembers.{private_members_of}
use Rattle.es_owed_timely.proofs.functions.any_needs.Given as goal

abbrev pub invariant-loop-class : goal.invariant-loop-class
invariant-loop-class l =
    let needed = needs (private_members_of l.search.members.now) l.search.ledger.now (chars l.name) in
    list_any needed (drop l.class-index l.classes) ≡ list_any needed l.classes
