-- The elements of a class, one by one.
use Rattle.std.specs.Prelude.{ℕ, List, [], ◌∷◌, ◌++◌, not}
use Rattle.es_base.specs.Tree.{Tree, child}
use Rattle.es_lowered.specs.Definitions.{chosen, element_numbers}
use Rattle.es_steps.specs.LoweredClasses.{Element, element_of, is_lowered_element}
use Rattle.es_steps.specs.declared.options.Options.{Options}

-- the numbers of those that the options do not lower
abbrev pub kept_numbers : Options → List Element → List ℕ
kept_numbers o es = element_numbers (chosen (λ e. not (is_lowered_element o e)) es)

abbrev pub kept_in : Options → List Tree → List ℕ
kept_in o [] = []
kept_in o (t ∷ ts) = kept_numbers o (element_of (child t)) ++ kept_in o ts

-- the numbers of all
abbrev pub all_in : List Tree → List ℕ
all_in [] = []
all_in (t ∷ ts) = element_numbers (element_of (child t)) ++ all_in ts
