use Rattle.std.proofs.Common.{◌≡◌, ℕ, List, drop}
use Rattle.es_seen_names.specs.Firsts.{first_declaring, first_of, or_later}
use Rattle.es_seen_names.proofs.frame.firsts_of.Given as goal

abbrev pub invariant-loop-declaration : goal.invariant-loop-declaration
invariant-loop-declaration l = (s : List ℕ) → or_later (first_of s l.firsts) (first_declaring s (drop l.declaration-index l.list)) ≡ first_declaring s l.list
