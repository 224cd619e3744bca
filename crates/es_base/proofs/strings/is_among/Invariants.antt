use Rattle.std.proofs.Common.{◌≡◌, drop, map, chars}
use Rattle.es_base.specs.Conforms.{is_among}
use Rattle.es_base.proofs.strings.is_among.Given as goal

abbrev pub invariant-loop-word : goal.invariant-loop-word
invariant-loop-word l = record {
  by_chars : is_among (chars l.string) (map (λ w. chars w.now) (drop l.word-index l.words)) ≡ is_among (chars l.string) (map (λ w. chars w.now) l.words);
  by_bytes : is_among l.string (map (λ w. w.now) (drop l.word-index l.words)) ≡ is_among l.string (map (λ w. w.now) l.words);
}
