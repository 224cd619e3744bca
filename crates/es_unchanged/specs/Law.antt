-- What holds of programs that have nothing to lower, as they are. (Our own.)
use Rattle.std.specs.Prelude.{◌≡◌, [], true}
use Rattle.es_base.specs.Preorder.{nodes, numbered_from}
use Rattle.es_base.specs.Tree.{Tree}
use Rattle.es_lowered.specs.Lowered.{IsLowered}
use Rattle.es_steps.specs.LoweredClasses.{nothing_left}
use Rattle.es_steps.specs.Meaning.{lowered_means, source_means}
use Rattle.es_steps.specs.declared.options.Options.{Options}

-- numbered in preorder it owes nothing as it is, without generated names
abbrev pub UnchangedLaw : Type 0
UnchangedLaw = (o : Options) (p : Tree) → p ≡ numbered_from 0 p → nothing_left o p ≡ true → IsLowered (nodes p) o [] p p

-- it means as a lowered program what it means as a source
abbrev pub SameLaw : Type 0
SameLaw = (o : Options) (p : Tree) → lowered_means o [] p p ≡ source_means o p
