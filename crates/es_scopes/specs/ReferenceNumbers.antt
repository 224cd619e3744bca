-- The numbers of references, as a set.
use Rattle.std.specs.Prelude.{List, map}
use Rattle.std.specs.FinSet as set
use Rattle.std.specs.Ordering.{nat_cmp}
use Rattle.es_base.specs.declared.ids.ReferenceId.{ReferenceId}

abbrev pub ReferenceNumbers : Type 0
ReferenceNumbers = set.FinSet nat_cmp

-- the numbers of these references
abbrev pub numbers_of : List ReferenceId → ReferenceNumbers
numbers_of references = set.from_list (map (λ r. r.0) references)
