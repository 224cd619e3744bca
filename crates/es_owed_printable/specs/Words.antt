-- What reserves words, in code.
use Rattle.std.specs.Prelude.{ℕ, ◌+◌, Bool, false, ◌||◌}
use Rattle.es_base.specs.Tree.{Tree, Parts, Node, end, more}
use Rattle.es_steps.specs.Reserved as spec
use Rattle.es_steps.specs.Reserved.{reserved_at, words_inside}
use Rattle.es_owed_printable.specs.declared.words.Words.{Words}

abbrev pub words_of : Words → spec.Words
words_of w = record { in_strict = w.in_strict; in_module = w.in_module; in_block = w.in_block; in_element = w.in_element; in_async = w.in_async; in_generator = w.in_generator }

-- in the i-th part of a node
abbrev pub words_within : spec.Words → Tree → ℕ → spec.Words
words_within w (Node kind m span semantic_id ps) i = words_inside w kind ps i

-- whether a reserved word stands in the parts from the i-th on
abbrev pub reserved_from : (ℕ → spec.Words) → ℕ → Parts → Bool
reserved_from words i end = false
reserved_from words i (more p ps) = reserved_at (words i) p || reserved_from words (i + 1) ps
