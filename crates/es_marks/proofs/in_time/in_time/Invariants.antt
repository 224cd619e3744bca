use Rattle.std.proofs.Common.{◌≡◌, [], take, drop}
use Rattle.es_lowered.specs.Timely.{in_time}
use Rattle.es_marks.specs.InTime.{turned}
use Rattle.es_marks.specs.Marks.{marks_of}
use Rattle.es_marks.proofs.in_time.in_time.Given as goal

abbrev pub invariant-loop-i : goal.invariant-loop-i
invariant-loop-i l = in_time l.ledger (turned (marks_of (take l.i l.marks)) []) (marks_of (drop l.i l.marks)) ≡ in_time l.ledger [] (marks_of l.marks)
