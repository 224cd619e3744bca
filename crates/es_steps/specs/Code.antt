-- A tree whose names are resolved and whose generated forms are read: what evaluation goes over. Codes are our own; each
-- stands for a production of ECMA-262, or for several that are evaluated alike.
use Rattle.std.specs.Prelude.{ℕ, List, Bool, Option}
use Rattle.es_base.specs.declared.kind.Kind.{Kind}
use Rattle.es_base.specs.declared.ledger.GeneratedKind.{GeneratedKind}
use Rattle.es_steps.specs.Context.{NameKind}
use Rattle.es_steps.specs.Events.{Detail, Operation}
use Rattle.es_steps.specs.Helpers.{Helper}
use Rattle.es_steps.specs.PrivateNames.{PrivateReference}
use Rattle.es_steps.specs.Values.{String, Value, Home, PrivateTest}

pub record FunctionForm : Type 0 where
  pub is_arrow : Bool
  pub is_async : Bool
  pub is_generator : Bool

-- What an initializer of a public field does with its property.
pub data FieldForm : Type 0 where
  defines : FieldForm
  sets : FieldForm
  leaves_out : FieldForm

-- A string of a template: its source, what it stands for if that is well-formed, and whether it is the last.
pub record TemplateString : Type 0 where
  pub raw : String
  pub cooked : Option String
  pub is_tail : Bool

-- What is evaluated elsewhere than where it stands: the initializers of class n, and the body of the function that a
-- generated name was assigned.
pub data Opened : Type 0 where
  InitializersOf : (n : ℕ) → Opened
  BodyOf : (s : String) → Opened
  -- of a function that is called with what `super(..)` gave
  CalledBodyOf : (s : String) → Opened

mutual
  pub data Code : Type 0 where
    nothing : Code
    -- a form that has no rule
    no_rule : Code
    value : (v : Value) → Code
    -- a name that is not evaluated: a label, a key that is not computed
    spelled : (s : String) → Code
    -- a private name: its number, and what it means
    private_name : (d : ℕ) (s : String) (means : Option PrivateReference) → Code
    binding : (b : ℕ) (s : String) (kind : NameKind) → Code
    rest : (to : Target) → Code
    name : (m : ℕ) (s : String) (kind : NameKind) → Code
    super : Code
    member : (m : ℕ) (object key : Code) → Code
    private_member : (m : ℕ) (means : PrivateReference) (object : Code) → Code
    super_member : (m : ℕ) (home : Home) (key : Code) (this : Value) → Code
    private_in : (m : ℕ) (test : PrivateTest) (object : Code) → Code
    assign : (to : Target) (right : Code) → Code
    compound : (m : ℕ) (operator : String) (to : Target) (right : Code) → Code
    logical : (m : ℕ) (operator : String) (left right : Code) → Code
    logical_assign : (m : ℕ) (operator : String) (to : Target) (right : Code) → Code
    update : (m : ℕ) (operator : String) (prefix : Bool) (to : Target) → Code
    call : (m : ℕ) (callee : Callee) (arguments : Codes) → Code
    tag : (m : ℕ) (callee : Callee) (strings : List TemplateString) (arguments : Codes) → Code
    construct : (m : ℕ) (callee : Code) (arguments : Codes) → Code
    super_call : (m n : ℕ) (behind : Option Opened) (arguments : Codes) → Code
    super_call_with_all : (n : ℕ) → Code
    sequence : (all : Codes) → Code
    template_string : (string : TemplateString) → Code
    template : (m : ℕ) (strings : List TemplateString) (expressions : Codes) → Code
    -- operands, then parts that may run or not, or again, then the operation
    operation : (m : ℕ) (operation : Operation) (operands held : Codes) → Code
    -- a part of an operation that is no operand itself: its details and its operands
    piece : (details : List Detail) (operands : Codes) → Code
    -- the chain m; in it, what stands before `?.`, and a test before the rest of it
    chain : (m : ℕ) (e : Code) → Code
    short : (e : Code) → Code
    tested : (object : Code) (again : Codes) (rest : Code) → Code
    -- patterns, number m, and their members: what is taken, computed keys, where it is put
    pattern : (m : ℕ) (to : Target) → Code
    takes : (m : ℕ) (details : List Detail) (key : Codes) (to : Target) → Code
    -- statements in order
    steps : (all : Codes) → Code
    -- the head of a for-in or for-of, or a caught name, is given a value of node m
    gives_to : (m : ℕ) (to : Target) → Code
    export_default : (e : Code) → Code
    -- functions and classes; a new function has a meaning only where it is called, assigned or a constructor
    function : (f : ℕ) (form : FunctionForm) (own_name : Option ℕ) (parameters : Codes) (body : Code) → Code
    new_function : (f : ℕ) (form : FunctionForm) (parameters : Codes) (body : Code) → Code
    new_return : (argument : Codes) → Code
    class_code : (n : ℕ) (declared : Option ℕ) (heritage elements : Codes) → Code
    -- elements of a class
    field : (is_static : Bool) (form : FieldForm) (key right : Code) → Code
    private_field : (is_static : Bool) (d : ℕ) (right : Code) → Code
    method : (is_static : Bool) (kind : String) (key function : Code) → Code
    private_method : (is_static : Bool) (d : ℕ) (function : Code) → Code
    constructor : (function : Code) → Code
    static_block : (all : Codes) → Code
    generated_element : (s : String) (right : Code) → Code
    -- what a generated call or member gives: a value without a receiver
    from_call : (e : Code) → Code
    from_member : (e : Code) → Code
    -- a value as the key of a property
    key_of : (e : Code) → Code
    -- generated forms: a helper, a call of one that stands in another form, and what they do
    helper : (h : Helper) → Code
    helper_call : (m : ℕ) (h : Helper) (arguments : Codes) → Code
    throw : Code
    define : (m : ℕ) (object : Value) (key right : Code) → Code
    private_initialize : (m d : ℕ) (object : Value) (right : Code) → Code
    add_brand : (m n : ℕ) (object : Value) → Code
    -- `f.bind(o)`, which a tag or a call is made of
    bound : (function object : Code) → Code
    -- a target that is only written, as `toSetter(..)._`
    setter : (m d : ℕ) (object : Code) → Code
    -- what a generated private element holds
    private_value : (s : String) → Code
    -- a call of a new arrow, and of a generated name of a closure
    call_arrow : (parameters : List String) (body : Code) (arguments : Codes) → Code
    call_closure : (s : String) (arguments : Codes) → Code
    -- the initializers of class n
    initializers : (n : ℕ) → Code
    -- a function that a generated name is assigned by node m
    give_function : (m : ℕ) (s : String) (kind : GeneratedKind) (function : Code) → Code
    -- what has to be class n
    give_class : (n : ℕ) (e : Code) → Code

  -- what is assigned to
  pub data Target : Type 0 where
    to_name : (m : ℕ) (s : String) (kind : NameKind) → Target
    to_member : (m : ℕ) (object key : Code) → Target
    to_private : (m : ℕ) (means : PrivateReference) (object : Code) → Target
    to_super : (m : ℕ) (home : Home) (key : Code) (this : Value) → Target
    to_setter : (m d : ℕ) (object : Code) → Target
    to_pattern : (m : ℕ) (kind : Kind) (members : Codes) → Target
    to_default : (m : ℕ) (to : Target) (default : Code) → Target
    no_target : Target

  -- what is called: by itself, or with the object that it was found on as receiver
  pub data Callee : Type 0 where
    plain : (e : Code) → Callee
    on_member : (m : ℕ) (object key : Code) → Callee
    on_private : (m : ℕ) (means : PrivateReference) (object : Code) → Callee
    on_super : (m : ℕ) (home : Home) (key : Code) (this : Value) → Callee
    with_receiver : (function object : Code) → Callee
    -- `?.(` behind it
    checked : (callee : Callee) → Callee
    on_chain : (m : ℕ) (callee : Callee) → Callee
    behind_test : (object : Code) (again : Codes) (callee : Callee) → Callee

  pub data Codes : Type 0 where
    done : Codes
    and : (first : Code) (rest : Codes) → Codes

abbrev pub joined : Codes → Codes → Codes
joined done ds = ds
joined (and c cs) ds = and c (joined cs ds)

abbrev pub one : Code → Codes
one c = and c done
