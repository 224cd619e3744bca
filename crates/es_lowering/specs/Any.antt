-- The relations of a lowering of which nothing is known.
use Rattle.std.specs.Prelude.{List}
use Rattle.es_base.specs.Tree.{Tree}
use Rattle.es_base.specs.declared.ledger.LedgerEntry.{LedgerEntry}
use Rattle.es_steps.specs.declared.options.Options.{Options}
use Rattle.es_lowering.specs.declared.lowering.Unlowered.{Unlowered}

-- any program with any generated names
abbrev pub MakesAny : Options → Tree → List LedgerEntry → Tree → Type 0
MakesAny o p names q = Unit {0}

-- for any reason
abbrev pub DeclinesAny : Options → Tree → Unlowered → Type 0
DeclinesAny o p error = Unit {0}

-- by any node, and never since codes stand too deep
abbrev pub DeclinesByNode : Options → Tree → Unlowered → Type 0
DeclinesByNode o p Unlowered.TooDeep = ⊥
DeclinesByNode o p error = Unit {0}
