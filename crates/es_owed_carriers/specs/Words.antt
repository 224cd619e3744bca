-- What nodes say by themselves, part by part.
use Rattle.std.specs.Prelude.{ℕ, ◌+◌, Bool, true, false, ◌&&◌, ◌||◌}
use Rattle.es_base.specs.Tree.{Parts, end, more}
use Rattle.es_base.specs.declared.kind.Kind.{Kind}
use Rattle.es_lowered.specs.KeptWords.{is_free, same_word}

-- of the parts from the i-th on, but for those that are free
abbrev pub words_from : Kind → ℕ → Parts → Parts → Bool
words_from kind i end end = true
words_from kind i (more p ps) (more q qs) = (is_free kind i || same_word p q) && words_from kind (i + 1) ps qs
words_from kind i ps qs = false
