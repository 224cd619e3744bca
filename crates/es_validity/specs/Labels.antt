-- The labels around a statement as lists of strings, and what a `break`, `continue` or `return` may leave.
use Rattle.std.specs.Prelude.{List, [], ◌∷◌, cond}
use Rattle.std.specs.Str.{chars}
use Rattle.es_steps.specs.Printable as jumps
use Rattle.es_steps.specs.Values.{String}
use Rattle.es_validity.specs.declared.jumps.Jumps.{Jumps}
use Rattle.es_validity.specs.declared.jumps.Labels as labels
use Rattle.es_validity.specs.declared.jumps.Labels.{Labels}

abbrev pub labels_of : Labels → List String
labels_of labels.None = []
labels_of (labels.Label' name is_loop at outer) = chars name.now ∷ labels_of outer

-- those of loops
abbrev pub loops_of : Labels → List String
loops_of labels.None = []
loops_of (labels.Label' name is_loop at outer) = cond is_loop (chars name.now ∷ loops_of outer) (loops_of outer)

abbrev pub jumps_of : Jumps → jumps.Jumps
jumps_of j = record { breaks = j.breaks; continues = j.continues; returns = j.returns; labels = labels_of j.labels; loops = loops_of j.labels }
