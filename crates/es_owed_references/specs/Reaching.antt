-- What is read by functions that are called, step by step.
use Rattle.std.specs.Prelude.{ℕ, List, [], ◌∷◌, ◌++◌, cond, map}
use Rattle.std.specs.Str.{chars}
use Rattle.es_base.specs.Conforms.{is_among}
use Rattle.es_base.specs.Tree.{Tree, Node}
use Rattle.es_base.specs.declared.kind.Kind.{Kind}
use Rattle.es_base.specs.declared.ledger.LedgerEntry.{LedgerEntry}
use Rattle.es_lowered.specs.ClassNames.{MovedFunction, names_holding}
use Rattle.es_steps.specs.Parts.{at, string_of}
use Rattle.es_steps.specs.References.{Reference, has_number}
use Rattle.es_steps.specs.Values.{String}
use Rattle.es_owed_references.specs.declared.reaching.NameRead.{NameRead}

-- ---- reads of names

abbrev pub read_of : NameRead → ℕ × String
read_of r = (r.number, chars r.name.now)

abbrev pub reads_of : List NameRead → List (ℕ × String)
reads_of rs = map read_of rs

-- the references that write
abbrev pub written_numbers : List Reference → List ℕ
written_numbers [] = []
written_numbers (r ∷ rs) = cond r.writes (r.number ∷ []) [] ++ written_numbers rs

-- the references to names that are none of these
abbrev pub read_at : List ℕ → Tree → List (ℕ × String)
read_at ns (Node Kind.IdentifierReference m span semantic_id ps) = cond (has_number m ns) [] ((m, string_of (at 0 ps)) ∷ [])
read_at ns t = []

abbrev pub reads_besides : List ℕ → List Tree → List (ℕ × String)
reads_besides ns [] = []
reads_besides ns (t ∷ ts) = read_at ns t ++ reads_besides ns ts

abbrev pub reading_of : List String → List (ℕ × String) → List ℕ
reading_of ss [] = []
reading_of ss (r ∷ rs) = cond (is_among r.1 ss) (r.0 ∷ []) [] ++ reading_of ss rs

-- ---- steps

-- these references, and the reads of functions that hold what is reached
abbrev pub next_reached : List MovedFunction → List (ℕ × String) → List ℕ → List ℕ → List ℕ
next_reached fs reads ns ms = ns ++ reading_of (names_holding ms fs) reads

-- what is reached by as many steps as there are entries
abbrev pub reached_from : List LedgerEntry → List MovedFunction → List (ℕ × String) → List ℕ → List ℕ → List ℕ
reached_from [] fs reads ns ms = ms
reached_from (e ∷ es) fs reads ns ms = reached_from es fs reads ns (next_reached fs reads ns ms)
