use Rattle.std.proofs.Common.{◌≡◌, ◌++◌, drop}
use Rattle.es_marks.specs.Marks.{marks_of}
use Rattle.es_marks.specs.MethodFunctions.{method_functions}
use Rattle.es_owed_timely.specs.Functions.{called_marks, super_functions_of}
use Rattle.es_seen_names.specs.PrivateMembers.{private_members_of}
use Rattle.es_owed_timely.proofs.timely.called_marks.Given as goal

abbrev pub invariant-loop-mark : goal.invariant-loop-mark
invariant-loop-mark l =
    let of = called_marks l.search.ledger.now (private_members_of l.search.members.now) (method_functions l.functions.functions.now) (super_functions_of l.supers.functions.items) (marks_of l.marks) in
    marks_of l.called.items ++ of (marks_of (drop l.mark-index l.marks)) ≡ of (marks_of l.marks)
