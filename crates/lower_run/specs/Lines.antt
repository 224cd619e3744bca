-- The lines that the program writes where its bytes are no tree, as bytes, each with its line feed.
use Rattle.std.specs.Prelude.{List, ◌++◌, ℕ, codes, decimal}
use Rattle.lower_edge.specs.Lines.{line}
use Rattle.lower_run.specs.declared.status.Status.{Status}
use Rattle.es_reading.specs.Fault.{Fault, not_a_tree, float_at}
use Rattle.es_reading.specs.declared.fault.What.{What}

abbrev pub what_name : What → List ℕ
what_name What.NotANode = codes "NotANode"
what_name What.UnknownKind = codes "UnknownKind"
what_name What.WrongPlace = codes "WrongPlace"
what_name What.BadMember = codes "BadMember"

abbrev pub json_line : List ℕ
json_line = line (codes "not a tree: json")

abbrev pub fault_line : Fault → List ℕ
fault_line (not_a_tree at what) = line (codes "not a tree: " ++ (what_name what ++ (codes " at " ++ decimal at)))
fault_line (float_at at) = line (codes "not a tree: float at " ++ decimal at)

-- the status with which the program ends
abbrev pub status_number : Status → ℕ
status_number Status.Done = 0
status_number Status.Refused = 1
status_number Status.BadArguments = 2
status_number Status.NotATree = 3
status_number Status.ReadFault = 4
status_number Status.WriteFault = 5
status_number Status.NoMemory = 6
status_number Status.TooLong = 7
status_number Status.TooDeep = 9
