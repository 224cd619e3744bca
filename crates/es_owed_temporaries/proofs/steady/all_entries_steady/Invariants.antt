use Rattle.std.proofs.Common.{◌≡◌, drop}
use Rattle.es_lowered.specs.Temporaries.{all_steady}
use Rattle.es_seen_names.specs.PrivateMembers.{private_members_of}
use Rattle.es_by_number.specs.Numbered.{pairs}
use Rattle.es_owed_temporaries.specs.Touches.{touches_all}
use Rattle.es_owed_temporaries.proofs.steady.all_entries_steady.Given as goal

abbrev pub invariant-loop-entry : goal.invariant-loop-entry
invariant-loop-entry l = all_steady (pairs l.places.places.now) (private_members_of l.members.members.now) (drop l.entry-index l.ledger) (touches_all l.touches.touches.now) ≡ all_steady (pairs l.places.places.now) (private_members_of l.members.members.now) l.ledger (touches_all l.touches.touches.now)
