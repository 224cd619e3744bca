-- The members of a node with the codes of its children: what the rule of its kind reads.
use Rattle.std.specs.Prelude.{ℕ, zero, suc, List, [], ◌∷◌, ◌++◌, Bool, false}
use Rattle.es_base.specs.declared.literal.LiteralValue.{LiteralValue}
use Rattle.es_steps.specs.Code.{Code, Codes, piece, spelled, done, and, joined}
use Rattle.es_steps.specs.Events.{Detail, Operand, Empty, Spelled, Flag, Opens, Closes}
use Rattle.es_steps.specs.Values.{String}

mutual
  pub data Member : Type 0 where
    code : (c : Code) → Member
    absent : Member
    list : (all : Members) → Member
    string : (s : String) → Member
    no_string : Member
    boolean : (b : Bool) → Member
    literal : (v : LiteralValue) → Member

  pub data Members : Type 0 where
    end : Members
    more : (first : Member) (rest : Members) → Members

-- the i-th member, and the members from the i-th on
abbrev pub at : ℕ → Members → Member
at i end = absent
at zero (more p ps) = p
at (suc i) (more p ps) = at i ps

abbrev pub from : ℕ → Members → Members
from zero ps = ps
from (suc i) end = end
from (suc i) (more p ps) = from i ps

-- the first i members
abbrev pub before : ℕ → Members → Members
before zero ps = end
before (suc i) end = end
before (suc i) (more p ps) = more p (before i ps)

-- what a code that is no operand itself adds to the operation around it
abbrev pub inner_operands : Code → Codes
inner_operands (piece details cs) = cs
inner_operands (spelled s) = done
inner_operands c = and c done

abbrev pub inner_details : Code → List Detail
inner_details (piece details cs) = details
inner_details (spelled s) = Spelled s ∷ []
inner_details c = Operand ∷ []

-- the operands in order
abbrev mutual
  pub operands : Members → Codes
  operands end = done
  operands (more p ps) = joined (operands_of p) (operands ps)

  pub operands_of : Member → Codes
  operands_of (code c) = inner_operands c
  operands_of (list ps) = operands ps
  operands_of p = done

-- what stands beside them
abbrev mutual
  pub details : Members → List Detail
  details end = []
  details (more p ps) = details_of p ++ details ps

  pub details_of : Member → List Detail
  details_of (code c) = inner_details c
  details_of absent = Empty ∷ []
  details_of (list ps) = Opens ∷ details ps ++ Closes ∷ []
  details_of (string s) = Spelled s ∷ []
  details_of no_string = Empty ∷ []
  details_of (boolean b) = Flag b ∷ []
  details_of (literal v) = []

-- all codes in order
abbrev mutual
  pub codes_in : Members → Codes
  codes_in end = done
  codes_in (more p ps) = joined (codes_of p) (codes_in ps)

  pub codes_of : Member → Codes
  codes_of (code c) = and c done
  codes_of (list ps) = codes_in ps
  codes_of p = done

abbrev pub word_of : Member → String
word_of (string s) = s
word_of p = []

abbrev pub flag_of : Member → Bool
flag_of (boolean b) = b
flag_of p = false
