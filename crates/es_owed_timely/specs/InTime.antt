-- Whether the marks that a search finds stand in time.
use Rattle.std.specs.Prelude.{[], Bool, None}
use Rattle.es_base.specs.Preorder.{preorder}
use Rattle.es_base.specs.Tree.{Tree}
use Rattle.es_lowered.specs.Timely.{declared_methods, in_time, nowhere, super_functions}
use Rattle.es_seen_names.specs.PrivateMembers.{private_members_of}
use Rattle.es_owed_timely.specs.Functions.{called_marks}
use Rattle.es_owed_timely.specs.Search.{marks}
use Rattle.es_owed_timely.specs.declared.terms.Search.{Search}

abbrev pub are_in_time : Search → Tree → Bool
are_in_time s q =
    in_time s.ledger.now [] (called_marks s.ledger.now (private_members_of s.members.now) (declared_methods s.ledger.now (preorder q)) (super_functions s.ledger.now (preorder q)) (marks s nowhere None q) (marks s nowhere None q))
