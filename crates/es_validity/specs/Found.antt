-- A fault in code, as definitions see it.
use Rattle.std.specs.Prelude.{Option, option_map}
use Rattle.es_validity.specs.Faults.{FaultAt}
use Rattle.es_validity.specs.declared.fault.Fault.{Fault}

abbrev pub fault_of : Fault → FaultAt
fault_of f = record { number = f.node.0; cause = f.cause }

abbrev pub found : Option Fault → Option FaultAt
found = option_map fault_of
