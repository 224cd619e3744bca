use Rattle.std.proofs.Common.{◌≡◌, drop, map, true}
use Rattle.std.specs.List.{list_all}
use Rattle.es_base.specs.Conforms.{is_among}
use Rattle.es_base.specs.Words.{all_of_set, is_of_set, word_string}
use Rattle.es_base.proofs.strings.word_of.Given as goal

abbrev pub invariant-loop-word : goal.invariant-loop-word
invariant-loop-word l = record {
  some : is_among l.string (map word_string (drop l.word-index l.word-items)) ≡ is_among l.string (map word_string (all_of_set l.fn.set));
  set : list_all (is_of_set l.fn.set) (drop l.word-index l.word-items) ≡ true;
}
