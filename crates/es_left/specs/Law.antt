-- What holds of programs that have nothing to lower. (Our own.)
use Rattle.std.specs.Prelude.{◌≡◌, [], true, false}
use Rattle.es_base.specs.Conforms.{conforms}
use Rattle.es_base.specs.Tree.{Tree}
use Rattle.es_base.specs.declared.table.Place.{Place}
use Rattle.es_steps.specs.LoweredClasses.{has_lowered_class, nothing_left}
use Rattle.es_steps.specs.Options.{lowers_blocks}
use Rattle.es_steps.specs.Shapes.{shapes}
use Rattle.es_steps.specs.declared.options.Options.{Options}

-- no class of it is lowered
abbrev pub UnloweredLaw : Type 0
UnloweredLaw = (o : Options) (p : Tree) → nothing_left o p ≡ true → has_lowered_class o p ≡ false

-- it has no shape, where it is a program of the table's grammar and static blocks are not lowered
abbrev pub UnshapedLaw : Type 0
UnshapedLaw = (o : Options) (p : Tree) → conforms Place.Program p ≡ true → lowers_blocks o ≡ false → nothing_left o p ≡ true → shapes o p ≡ []
