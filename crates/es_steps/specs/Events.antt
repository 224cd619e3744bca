-- What evaluation does that a program can observe, in order. (The operations are those of ECMA-262, 7.3, 13.3 and 13;
-- m is the node that does it.)
use Rattle.std.specs.Prelude.{ℕ, List, Bool, true, false, ◌||◌, cond, Option}
use Rattle.es_base.specs.declared.kind.Kind.{Kind}
use Rattle.es_steps.specs.Values.{String, Constant, Value, Referent, Home, PrivateTest, Undefined}

-- What an operation has beside its operands, member by member: where an operand stands, strings, booleans, empty
-- places, keys that are not computed, and where a list begins and ends.
pub data Detail : Type 0 where
  Operand : Detail
  Empty : Detail
  Spelled : (string : String) → Detail
  Flag : (boolean : Bool) → Detail
  Key : (key : Constant) → Detail
  Opens : Detail
  Closes : Detail
  -- `__proto__: v` in an object, which sets the prototype and makes no property (ECMA-262, B.3.1)
  Prototype : Detail
  -- the i-th element of an array or of the arguments, and the rest from there on
  Index : (i : ℕ) → Detail
  Rest : Detail

pub data Operation : Type 0 where
  OfKind : (kind : Kind) (details : List Detail) → Operation
  Delete : Operation
  -- a pattern takes a property or an element
  Take : (details : List Detail) → Operation

-- Which part of a node it is that may run or not, or again: the right side of an operator, a default value, or the
-- i-th such part.
pub data Place : Type 0 where
  RightOf : (operator : String) → Place
  Default : Place
  Part : (i : ℕ) → Place

mutual
  pub data Event : Type 0 where
    ReadName : (m : ℕ) (r : Referent) → Event
    SetName : (r : Referent) (v : Value) → Event
    Get : (m : ℕ) (o k : Value) → Event
    Set : (o k v : Value) → Event
    Define : (o k v : Value) → Event
    Call : (m : ℕ) (callee : Value) (receiver : Option Value) (arguments : List Value) → Event
    Construct : (m : ℕ) (callee : Value) (arguments : List Value) → Event
    Operate : (m : ℕ) (operation : Operation) (operands : List Value) → Event
    Update : (m : ℕ) (operator : String) (old : Value) → Event
    -- the private member that the key d declares, on o
    PrivateGet : (m d : ℕ) (o : Value) → Event
    PrivateSet : (d : ℕ) (o v : Value) → Event
    PrivateInitialize : (d : ℕ) (o v : Value) → Event
    PrivateIn : (m : ℕ) (test : PrivateTest) (o : Value) → Event
    -- the private methods of the instances of class n are added to o
    AddBrand : (n : ℕ) (o : Value) → Event
    SuperGet : (m : ℕ) (home : Home) (k this : Value) → Event
    SuperSet : (home : Home) (k v this : Value) → Event
    -- the parent of class n is constructed, with these arguments or with all
    SuperCall : (m n : ℕ) (arguments : List Value) → Event
    SuperCallWithAll : (n : ℕ) → Event
    -- behind the parameters of a function, where its body has an environment of its own (ECMA-262, 10.2.11)
    EnterBody : Event
    -- the class n, which a declaration declares, gets its name (ECMA-262, 15.7.14)
    InitializeClass : (n : ℕ) → Event
    -- an access that always throws; what stands behind it is listed as if it ran
    Throw : Event
    -- the chain ends here with undefined if v is null or undefined
    Short : (v : Value) → Event
    -- a part that may run or not, or again: what decides it, its list and its value
    Held : (m : ℕ) (place : Place) (tested : Option Value) (list : Events) (value : Value) → Event

  pub data Events : Type 0 where
    none : Events
    then : (first : Event) (rest : Events) → Events

abbrev pub is_throw : Event → Bool
is_throw Throw = true
is_throw e = false

abbrev pub throws : Events → Bool
throws none = false
throws (then e es) = is_throw e || throws es

-- one list behind another
abbrev pub behind : Events → Events → Events
behind none l = l
behind (then e es) l = then e (behind es l)

-- the value of a list: a list that throws has none
abbrev pub value_behind : Events → Value → Value
value_behind l v = cond (throws l) Undefined v
