use Rattle.std.proofs.Common.{◌≡◌, drop, length}
use Rattle.es_node.specs.View.{parts_of}
use Rattle.es_owed_carriers.specs.Words.{words_from}
use Rattle.es_owed_carriers.proofs.words.same_words.Given as goal

abbrev pub invariant-loop-i : goal.invariant-loop-i
invariant-loop-i l = (length l.others ≡ length l.parts) × (words_from l.kind l.i (parts_of (drop l.i l.parts)) (parts_of (drop l.i l.others)) ≡ words_from l.kind 0 (parts_of l.parts) (parts_of l.others))
