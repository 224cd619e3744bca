-- What is evaluated elsewhere than where it stands: the initializers of each class, and the bodies of functions that
-- generated names are assigned. (Initializers: ECMA-262, 10.2.1.3 and 13.3.7.1; the rest is our own.)
use Rattle.std.specs.Prelude.{ℕ, zero, suc, List, [], ◌∷◌, ◌++◌, Bool, true, false, cond, nat_eq, bytes_eq, length, Option, Some, None}
use Rattle.es_base.specs.declared.ledger.GeneratedKind.{GeneratedKind}
use Rattle.es_steps.specs.Code.{Code, Codes, Target, Callee, Opened, InitializersOf, BodyOf, CalledBodyOf, FunctionForm, no_rule, rest, sequence, super_call_with_all, member, private_member, super_member, private_in, assign, compound, logical, logical_assign, update, call, tag, construct, super_call, template, operation, piece, chain, short, tested, pattern, takes, steps, gives_to, export_default, function, new_function, class_code, field, private_field, method, private_method, constructor, static_block, generated_element, from_call, from_member, key_of, define, private_initialize, bound, setter, call_arrow, call_closure, initializers, give_function, give_class, new_return, to_name, to_member, to_private, to_super, to_setter, to_pattern, to_default, plain, on_member, on_private, on_super, with_receiver, checked, on_chain, behind_test, done, and}
use Rattle.es_steps.specs.Context.{Generated}
use Rattle.es_steps.specs.Evaluation.{Evaluation, no_meaning, ev, ev_initializers, private_key}
use Rattle.es_steps.specs.GeneratedForms.{opened_body, is_plain, is_plain_arrow}
use Rattle.es_steps.specs.Values.{String}

-- ---- what the codes in a code add that assign or define, itself first

module _ {A : Type 0} (own : Code → List A) where
  abbrev mutual
    pub gather : Code → List A
    gather (rest to) = gather_target to
    gather (member m o k) = gather o ++ gather k
    gather (private_member m r o) = gather o
    gather (super_member m home k this) = gather k
    gather (private_in m test o) = gather o
    gather (assign to e) = own (assign to e) ++ gather_target to ++ gather e
    gather (compound m op to e) = own (compound m op to e) ++ gather_target to ++ gather e
    gather (logical m op l r) = gather l ++ gather r
    gather (logical_assign m op to e) = own (logical_assign m op to e) ++ gather_target to ++ gather e
    gather (update m op prefix to) = own (update m op prefix to) ++ gather_target to
    gather (call m f es) = gather_callee f ++ gather_all es
    gather (tag m f ts es) = gather_callee f ++ gather_all es
    gather (construct m f es) = gather f ++ gather_all es
    gather (super_call m n o es) = gather_all es
    gather (sequence es) = gather_all es
    gather (template m ts es) = gather_all es
    gather (operation m op es parts) = gather_all es ++ gather_all parts
    gather (piece ds es) = gather_all es
    gather (chain m e) = gather e
    gather (short e) = gather e
    gather (tested o again e) = gather o ++ gather_all again ++ gather e
    gather (pattern m to) = gather_target to
    gather (takes m ds k to) = gather_all k ++ gather_target to
    gather (steps es) = gather_all es
    gather (gives_to m to) = gather_target to
    gather (export_default e) = gather e
    gather (function f form own_name ps body) = gather_all ps ++ gather body
    gather (new_function f form ps body) = gather_all ps ++ gather body
    gather (new_return es) = gather_all es
    gather (class_code n declared h es) = own (class_code n declared h es) ++ gather_all h ++ gather_all es
    gather (field is_static form k e) = gather k ++ gather e
    gather (private_field is_static d e) = gather e
    gather (method is_static kind k f) = gather k ++ gather f
    gather (private_method is_static d f) = own (private_method is_static d f) ++ gather f
    gather (constructor f) = gather f
    gather (static_block es) = gather_all es
    gather (generated_element s e) = own (generated_element s e) ++ gather e
    gather (from_call e) = gather e
    gather (from_member e) = gather e
    gather (key_of e) = gather e
    gather (define m o k e) = gather k ++ gather e
    gather (private_initialize m d o e) = gather e
    gather (bound f o) = gather f ++ gather o
    gather (setter m d o) = gather o
    gather (call_arrow ss body es) = own (call_arrow ss body es) ++ gather body ++ gather_all es
    gather (call_closure s es) = gather_all es
    gather (give_function m s g f) = own (give_function m s g f) ++ gather f
    gather (give_class n e) = gather e
    gather c = []

    pub gather_target : Target → List A
    gather_target (to_member m o k) = gather o ++ gather k
    gather_target (to_private m r o) = gather o
    gather_target (to_super m home k this) = gather k
    gather_target (to_setter m d o) = gather o
    gather_target (to_pattern m kind cs) = gather_all cs
    gather_target (to_default m to e) = gather_target to ++ gather e
    gather_target to = []

    pub gather_callee : Callee → List A
    gather_callee (plain e) = gather e
    gather_callee (on_member m o k) = gather o ++ gather k
    gather_callee (on_private m r o) = gather o
    gather_callee (on_super m home k this) = gather k
    gather_callee (with_receiver f o) = gather f ++ gather o
    gather_callee (checked f) = gather_callee f
    gather_callee (on_chain m f) = gather_callee f
    gather_callee (behind_test o again f) = gather o ++ gather_all again ++ gather_callee f

    pub gather_all : Codes → List A
    gather_all done = []
    gather_all (and c cs) = gather c ++ gather_all cs

-- ---- the generated names that a code assigns

abbrev pub target_name : Target → List String
target_name (to_name m s (Generated g)) = s ∷ []
target_name to = []

abbrev pub assigned_by : Code → List String
assigned_by (assign to e) = target_name to
assigned_by (compound m op to e) = target_name to
assigned_by (logical_assign m op to e) = target_name to
assigned_by (update m op prefix to) = target_name to
assigned_by (call_arrow ss body es) = ss
assigned_by (generated_element s e) = private_key s ∷ []
assigned_by c = []

abbrev pub assigned_in : Code → List String
assigned_in c = gather assigned_by c

abbrev pub assigned_in_all : Codes → List String
assigned_in_all cs = gather_all assigned_by cs

-- ---- definitions: the elements of a class, and the body of a function that is opened

pub data Definition : Type 0 where
  of_class : (n : ℕ) (elements : Codes) → Definition
  of_name : (s : String) (body : Code) → Definition
  of_called : (s : String) (body : Code) → Definition

-- what follows `super(..._args)` in the function that stands for `super(..)` of class n
abbrev pub behind_super : ℕ → Code → Code
behind_super n (sequence (and (super_call_with_all k) cs)) = cond (nat_eq n k) (sequence (and (initializers n) cs)) no_rule
behind_super n c = no_rule

abbrev pub all_arguments : Codes → Bool
all_arguments (and (rest (to_name m s (Generated GeneratedKind.Args))) done) = true
all_arguments ps = false

-- an arrow begins with `super(..._args)`; a function is called with what `super(..)` gave
abbrev pub super_definition : String → ℕ → Bool → Codes → Code → List Definition
super_definition s n true ps body = cond (all_arguments ps) (of_name s (behind_super n (opened_body body)) ∷ []) []
super_definition s n false done body = of_called s (sequence (and (initializers n) (and (opened_body body) done))) ∷ []
super_definition s n false ps body = []

abbrev pub closure_body : FunctionForm → Codes → Code → Code
closure_body form done body = cond (is_plain_arrow form) (opened_body body) no_rule
closure_body form ps body = no_rule

abbrev pub function_definition : String → GeneratedKind → FunctionForm → Codes → Code → List Definition
function_definition s (GeneratedKind.SuperFn n) form ps body = cond (is_plain form) (super_definition s n.0 form.is_arrow ps body) []
function_definition s GeneratedKind.Closure form ps body = of_name s (closure_body form ps body) ∷ []
function_definition s g form ps body = []

abbrev pub defined_by : Code → List Definition
defined_by (class_code n declared h es) = of_class n es ∷ []
defined_by (give_function m s g (new_function f form ps body)) = function_definition s g form ps body
defined_by c = []

abbrev pub definitions : Code → List Definition
definitions c = gather defined_by c

-- ---- opening: a body is evaluated with all others but itself

abbrev pub defines : Opened → Definition → Bool
defines (InitializersOf n) (of_class k es) = nat_eq n k
defines (BodyOf s) (of_name t c) = bytes_eq s t
defines (CalledBodyOf s) (of_called t c) = bytes_eq s t
defines o d = false

abbrev pub definition_of : Opened → List Definition → Option Definition
definition_of o [] = None
definition_of o (d ∷ ds) = cond (defines o d) (Some d) (definition_of o ds)

abbrev pub without_definition : Opened → List Definition → List Definition
without_definition o [] = []
without_definition o (d ∷ ds) = cond (defines o d) (without_definition o ds) (d ∷ without_definition o ds)

abbrev pub ev_definition : (Opened → Evaluation) → Option Definition → Evaluation
ev_definition opens None = no_meaning
ev_definition opens (Some (of_class n es)) = ev_initializers opens n es
ev_definition opens (Some (of_name s c)) = ev opens c
ev_definition opens (Some (of_called s c)) = ev opens c

-- k is the number of the definitions
abbrev pub opening_in : ℕ → List Definition → Opened → Evaluation
opening_in zero ds o = no_meaning
opening_in (suc k) ds o = ev_definition (opening_in k (without_definition o ds)) (definition_of o ds)

abbrev pub opening : List Definition → Opened → Evaluation
opening ds = opening_in (length ds) ds
