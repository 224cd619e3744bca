-- What an expression gives, as far as the order of evaluation tells it: a constant of the source, or a value that is
-- known by where it comes from. (The values are those of ECMA-262, 6.1; to know one by its origin is our own.)
use Rattle.std.specs.Prelude.{ℕ, List, Bool, false, nat_eq, Option}

abbrev pub String : Type 0
String = List ℕ

-- A literal but a regular expression, or what is alike: the name of a property, a template without expressions.
pub data Constant : Type 0 where
  StringOf : (string : String) → Constant
  NumberOf : (raw : String) → Constant
  BigIntOf : (string : String) → Constant
  BooleanOf : (boolean : Bool) → Constant
  Null : Constant
  -- a template without expressions whose string has no cooked form
  RawTemplate : (raw : String) → Constant
  -- a string that a tag is called with
  TagString : (raw : String) (cooked : Option String) → Constant

-- A binding is known by its first declaring identifier; functions, classes and operations by their nodes.
pub data Value : Type 0 where
  ConstantOf : (c : Constant) → Value
  Undefined : Value
  -- what a binding holds that is not written after its initializer
  BindingOf : (b : ℕ) → Value
  FunctionOf : (f : ℕ) → Value
  ClassOf : (n : ℕ) → Value
  -- `this`, `arguments` and `new.target` of a function, of the construction of a class, or of the program
  ThisOf : (k : ℕ) → Value
  ArgumentsOf : (k : ℕ) → Value
  NewTargetOf : (k : ℕ) → Value
  -- the result of node m, and the former value of what update m writes
  ResultOf : (m : ℕ) → Value
  FormerOf : (m : ℕ) → Value
  -- what a value is as the key of a property (ECMA-262, 7.1.19)
  KeyOf : (v : Value) → Value

-- What a name refers to: a binding, or, where no scope holds its spelling, that spelling.
pub data Referent : Type 0 where
  Bound : (b : ℕ) → Referent
  Free : (spelling : String) → Referent

-- What a `super` member is looked up on (ECMA-262, 10.2: the home object): a class, its prototype, or an object.
pub data Home : Type 0 where
  OfClass : (n : ℕ) → Home
  OfPrototype : (n : ℕ) → Home
  OfObject : (m : ℕ) → Home

-- What `#x in o` asks of o: a private field, the private methods of the instances of a class, or to be the class.
pub data PrivateTest : Type 0 where
  HasField : (d : ℕ) → PrivateTest
  HasBrand : (n : ℕ) → PrivateTest
  IsClass : (n : ℕ) → PrivateTest

-- where a key is asked for, a value stands for itself and for its key
abbrev pub as_key : Value → Value
as_key (KeyOf v) = v
as_key v = v

abbrev pub is_class_value : ℕ → Value → Bool
is_class_value n (ClassOf k) = nat_eq n k
is_class_value n v = false
