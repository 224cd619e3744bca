-- The lines that the program writes where its bytes are a pair of programs, or none, as bytes, each with its line feed.
use Rattle.std.specs.Prelude.{List, ◌++◌, ℕ, codes, decimal}
use Rattle.check_run.specs.declared.status.CheckStatus.{CheckStatus}
use Rattle.es_clauses.specs.declared.clause.Clause.{Clause}
use Rattle.lower_edge.specs.Lines.{line}
use Rattle.step_check.specs.declared.verdict.Part.{Part}

abbrev pub agreed_line : List ℕ
agreed_line = line (codes "agreed")

abbrev pub not_a_pair_line : List ℕ
not_a_pair_line = line (codes "not a pair")

-- The group of clauses that a clause is of: 2 what is left, 3 declarations of generated names, 4 other new declarations, 5 the
-- values of generated names, 6 what stays of the source, 7 printing, 8 fields, other elements and calls of helpers. The first is
-- that of numbers.
abbrev pub group_of : Clause → ℕ
group_of Clause.Left = 2
group_of Clause.Declared = 3
group_of Clause.Accounted = 4
group_of Clause.Initialized = 5
group_of Clause.Timely = 5
group_of Clause.Temporaries = 5
group_of Clause.Keys = 5
group_of Clause.Names = 6
group_of Clause.References = 6
group_of Clause.Strict = 6
group_of Clause.Texts = 6
group_of Clause.Carriers = 6
group_of Clause.Nodes = 6
group_of Clause.Classes = 6
group_of Clause.Statements = 6
group_of Clause.Lists = 6
group_of Clause.Homes = 6
group_of Clause.Printable = 7
group_of Clause.Definitions = 8
group_of Clause.Elements = 8
group_of Clause.Calls = 8

-- the end of a line that tells a node
abbrev pub at_node : ℕ → List ℕ
at_node node = codes " at " ++ line (decimal node)

abbrev pub clauses_line : ℕ → ℕ → List ℕ
clauses_line group node = codes "differs: Lowered " ++ (decimal group ++ at_node node)

abbrev pub named_line : List ℕ → ℕ → List ℕ
named_line name node = codes "differs: " ++ (name ++ at_node node)

-- the line for a lowered program that fails in this part, at the node of this number
abbrev pub differs_line : Part → ℕ → List ℕ
differs_line Part.Numbers node = clauses_line 1 node
differs_line (Part.Lowered clause) node = clauses_line (group_of clause) node
differs_line Part.Texts node = clauses_line (group_of Clause.Texts) node
differs_line Part.NoMeaning node = named_line (codes "NoMeaning") node
differs_line Part.Program node = named_line (codes "Program") node
differs_line Part.Function node = named_line (codes "Function") node
differs_line Part.Class node = named_line (codes "Class") node
differs_line Part.Construction node = named_line (codes "Construction") node
differs_line Part.Private node = named_line (codes "Private") node
differs_line Part.Declaration node = named_line (codes "Declaration") node
differs_line Part.Export node = named_line (codes "Export") node

-- the status with which the program ends
abbrev pub status_number : CheckStatus → ℕ
status_number CheckStatus.Agreed = 0
status_number CheckStatus.Differs = 1
status_number CheckStatus.BadWords = 2
status_number CheckStatus.NotAPair = 3
status_number CheckStatus.ReadFault = 4
status_number CheckStatus.WriteFault = 5
status_number CheckStatus.NoMemory = 6
status_number CheckStatus.TooLong = 7
status_number CheckStatus.Refused = 8
status_number CheckStatus.TooDeep = 9
