-- What a run ends with, and why: the pair of the bytes, what is written of it, and the cause of each status.
use Rattle.std.specs.Prelude.{◌≡◌, ◌≤◌, List, ◌++◌, ℕ, length, Option, Some, None, IsUtf8, ◌⊎◌, true}
use Rattle.serde_json.specs.Data.{Data}
use Rattle.serde_json.specs.Read.{read as read_text}
use Rattle.check_run.specs.Lines.{agreed_line, differs_line, not_a_pair_line}
use Rattle.check_run.specs.Pair.{Pair, pair_in}
use Rattle.check_run.specs.declared.status.CheckStatus.{CheckStatus}
use Rattle.es_base.specs.declared.ids.NodeId.{NodeId}
use Rattle.es_steps.specs.declared.options.Options.{Options}
use Rattle.es_validity.specs.Facts.{facts_of}
use Rattle.es_validity.specs.Validity.{is_valid, IsRefusedBy}
use Rattle.lower_edge.specs.Ending as ending
use Rattle.lower_edge.specs.Ending.{most_bytes}
use Rattle.lower_edge.specs.Lines.{too_deep_line}
use Rattle.lower_edge.specs.Texts.{HasNoValue, IsTextOfValue}
use Rattle.lower_edge.specs.declared.status.EdgeStatus.{EdgeStatus}
use Rattle.lower_io.specs.Causes.{Rose}
use Rattle.step_check.specs.Judged.{IsJudged}
use Rattle.step_check.specs.declared.verdict.Part.{Part}
use Rattle.step_check.specs.declared.verdict.Verdict.{Verdict}

-- ---- of a pair

abbrev pub HasValidSource : Options → Pair → Type 0
HasValidSource o pair = is_valid o pair.foreign pair.source ≡ true

-- the lowered program is what the source may be lowered to (`IsRight`): it meets the clauses, and means what the source means
abbrev pub Agrees : Options → Pair → Type 0
Agrees o pair = IsJudged Verdict.Yes o pair.names pair.source pair.lowered

-- it is not, and this line tells the part in which it fails (`FailsIn`)
pub record IsDifference (o : Options) (pair : Pair) (text : List ℕ) : Type 0 where
  pub part : Part
  pub node : NodeId
  pub fails : IsJudged (Verdict.No part node) o pair.names pair.source pair.lowered
  pub written : text ≡ differs_line part node.0

abbrev pub IsOutputOfPair : Options → Pair → CheckStatus → List ℕ → Type 0
IsOutputOfPair o pair CheckStatus.Agreed text = HasValidSource o pair × Agrees o pair × (text ≡ agreed_line)
IsOutputOfPair o pair CheckStatus.Differs text = HasValidSource o pair × IsDifference o pair text
IsOutputOfPair o pair CheckStatus.TooDeep text = HasValidSource o pair × (text ≡ too_deep_line)
IsOutputOfPair o pair CheckStatus.Refused text = ending.IsRefusal (IsRefusedBy (facts_of pair.source) o pair.foreign pair.source) text
IsOutputOfPair o pair status text = ⊥

-- ---- of a value

-- it is this pair
pub record IsOfPair (o : Options) (d : Data) (status : CheckStatus) (text : List ℕ) : Type 0 where
  pub pair : Pair
  pub is_pair : pair_in d ≡ Some pair
  pub output : IsOutputOfPair o pair status text

abbrev pub IsOutputOfValue : Options → Data → CheckStatus → List ℕ → Type 0
IsOutputOfValue o d CheckStatus.NotAPair text = (pair_in d ≡ None) × (text ≡ not_a_pair_line)
IsOutputOfValue o d status text = IsOfPair o d status text

-- ---- of bytes

-- the bytes are JSON text of this value
abbrev pub IsOfValue : Options → List ℕ → CheckStatus → List ℕ → Type 0
IsOfValue o b status text = IsTextOfValue (λ d. IsOutputOfValue o d status text) b

-- the output for the bytes under the options, with each status that depends on the bytes alone
abbrev pub IsOutputOfBytes : Options → List ℕ → CheckStatus → List ℕ → Type 0
IsOutputOfBytes o b CheckStatus.NotAPair text = (HasNoValue b × (text ≡ not_a_pair_line)) ⊎ IsOfValue o b CheckStatus.NotAPair text
IsOutputOfBytes o b status text = IsOfValue o b status text

-- ---- the statuses

-- which status of the edge each is
abbrev pub edge_of : CheckStatus → Option EdgeStatus
edge_of CheckStatus.BadWords = Some EdgeStatus.BadArguments
edge_of CheckStatus.ReadFault = Some EdgeStatus.ReadFault
edge_of CheckStatus.WriteFault = Some EdgeStatus.WriteFault
edge_of CheckStatus.NoMemory = Some EdgeStatus.NoMemory
edge_of CheckStatus.TooLong = Some EdgeStatus.TooLong
edge_of status = None

-- nothing is left in a source that tells its bytes, where the status tells of all of them
abbrev pub IsReadToEnd : Option (List ℕ) → Option (List ℕ) → CheckStatus → Type 0
IsReadToEnd left rest status = ending.IsReadToEnd (edge_of status) left rest

-- why a run ends with this status: options, the bytes that the source told and its faults before and after, what the sink
-- held and holds and its faults before and after
abbrev pub Cause : Option Options → Option (List ℕ) → ℕ → ℕ → Option (List ℕ) → Option (List ℕ) → ℕ → ℕ → CheckStatus → Type 0
Cause o left before now held after first last status = ending.Cause edge_of IsOutputOfBytes o left before now held after first last status

-- ---- completeness

-- the bytes are JSON text of a pair whose source is valid
pub record IsComparable (o : Options) (b : List ℕ) : Type 0 where
  pub few : length b ≤ most_bytes
  pub utf8 : IsUtf8 b
  pub d : Data
  pub value : read_text b ≡ Some d
  pub pair : Pair
  pub is_pair : pair_in d ≡ Some pair
  pub valid : HasValidSource o pair

-- what a comparison may end with
abbrev pub IsCompared : CheckStatus → Type 0
IsCompared CheckStatus.Agreed = Unit
IsCompared CheckStatus.Differs = Unit
IsCompared CheckStatus.TooDeep = Unit
IsCompared CheckStatus.NoMemory = Unit
IsCompared status = ⊥

-- of such bytes, with arguments of the grammar, and where neither the source nor the sink failed, nothing is answered but that
-- the programs agree, that they differ, that they are too deep, or that memory ran out
abbrev pub Complete : Option Options → Option (List ℕ) → ℕ → ℕ → ℕ → ℕ → CheckStatus → Type 0
Complete o left before now first last status = (options : Options) (b : List ℕ) → o ≡ Some options → left ≡ Some b → IsComparable options b → ¬ Rose before now → ¬ Rose first last → IsCompared status

-- ---- the main statement

-- of a source and a sink that tell their bytes: the arguments are in the grammar, the source had these bytes, they are JSON text
-- of a pair whose source is valid, its lowered program is what the source may be lowered to, and the sink has gained the line
-- that says so
pub record HasAgreed (o : Option Options) (b held now : List ℕ) : Type 0 where
  pub options : Options
  pub arguments : o ≡ Some options
  pub compared : IsComparable options b
  pub agrees : Agrees options compared.pair
  pub gained : now ≡ held ++ agreed_line
