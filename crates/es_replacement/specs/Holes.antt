-- Codes with holes. Hole n is the code `initializers n`, which no tree is read as.
use Rattle.std.specs.Prelude.{ℕ, List, [], ◌∷◌, Bool, true, false, not, ◌&&◌, ◌||◌}
use Rattle.es_steps.specs.Code.{Code, Codes, Target, Callee, nothing, rest, name, member, private_member, super_member, private_in, assign, compound, logical, logical_assign, update, call, tag, construct, super_call, super_call_with_all, sequence, template, operation, piece, chain, short, tested, pattern, takes, steps, gives_to, export_default, function, new_function, new_return, class_code, field, private_field, method, private_method, constructor, static_block, generated_element, from_call, from_member, key_of, helper_call, define, private_initialize, bound, setter, private_value, call_arrow, call_closure, initializers, give_function, give_class, to_name, to_member, to_private, to_super, to_setter, to_pattern, to_default, no_target, plain, on_member, on_private, on_super, with_receiver, checked, on_chain, behind_test, done, and}
use Rattle.es_steps.specs.Entries.{is_string_among}
use Rattle.es_steps.specs.Evaluation.{default_key, private_key}
use Rattle.es_steps.specs.GeneratedForms.{opened_body}
use Rattle.es_steps.specs.Values.{String}

-- a code with e n in each hole n
module _ (e : ℕ → Code) where
  abbrev mutual
    pub filled : Code → Code
    filled (rest to) = rest (filled_target to)
    filled (member m o k) = member m (filled o) (filled k)
    filled (private_member m r o) = private_member m r (filled o)
    filled (super_member m home k this) = super_member m home (filled k) this
    filled (private_in m test o) = private_in m test (filled o)
    filled (assign to r) = assign (filled_target to) (filled r)
    filled (compound m op to r) = compound m op (filled_target to) (filled r)
    filled (logical m op l r) = logical m op (filled l) (filled r)
    filled (logical_assign m op to r) = logical_assign m op (filled_target to) (filled r)
    filled (update m op prefix to) = update m op prefix (filled_target to)
    filled (call m f es) = call m (filled_callee f) (filled_all es)
    filled (tag m f ts es) = tag m (filled_callee f) ts (filled_all es)
    filled (construct m f es) = construct m (filled f) (filled_all es)
    filled (super_call m n o es) = super_call m n o (filled_all es)
    filled (sequence es) = sequence (filled_all es)
    filled (template m ts es) = template m ts (filled_all es)
    filled (operation m op es parts) = operation m op (filled_all es) (filled_all parts)
    filled (piece ds es) = piece ds (filled_all es)
    filled (chain m c) = chain m (filled c)
    filled (short c) = short (filled c)
    filled (tested o again c) = tested (filled o) (filled_all again) (filled c)
    filled (pattern m to) = pattern m (filled_target to)
    filled (takes m ds k to) = takes m ds (filled_all k) (filled_target to)
    filled (steps es) = steps (filled_all es)
    filled (gives_to m to) = gives_to m (filled_target to)
    filled (export_default c) = export_default (filled c)
    filled (function f form own_name ps body) = function f form own_name (filled_all ps) (filled body)
    filled (new_function f form ps body) = new_function f form (filled_all ps) (filled body)
    filled (new_return es) = new_return (filled_all es)
    filled (class_code n declared h es) = class_code n declared (filled_all h) (filled_all es)
    filled (field is_static form k r) = field is_static form (filled k) (filled r)
    filled (private_field is_static d r) = private_field is_static d (filled r)
    filled (method is_static kind k f) = method is_static kind (filled k) (filled f)
    filled (private_method is_static d f) = private_method is_static d (filled f)
    filled (constructor f) = constructor (filled f)
    filled (static_block es) = static_block (filled_all es)
    filled (generated_element s r) = generated_element s (filled r)
    filled (from_call c) = from_call (filled c)
    filled (from_member c) = from_member (filled c)
    filled (key_of c) = key_of (filled c)
    filled (helper_call m h es) = helper_call m h (filled_all es)
    filled (define m o k r) = define m o (filled k) (filled r)
    filled (private_initialize m d o r) = private_initialize m d o (filled r)
    filled (bound f o) = bound (filled f) (filled o)
    filled (setter m d o) = setter m d (filled o)
    filled (call_arrow ss body es) = call_arrow ss (filled body) (filled_all es)
    filled (call_closure s es) = call_closure s (filled_all es)
    filled (initializers n) = e n
    filled (give_function m s g f) = give_function m s g (filled f)
    filled (give_class n c) = give_class n (filled c)
    filled c = c

    pub filled_target : Target → Target
    filled_target (to_member m o k) = to_member m (filled o) (filled k)
    filled_target (to_private m r o) = to_private m r (filled o)
    filled_target (to_super m home k this) = to_super m home (filled k) this
    filled_target (to_setter m d o) = to_setter m d (filled o)
    filled_target (to_pattern m kind cs) = to_pattern m kind (filled_all cs)
    filled_target (to_default m to r) = to_default m (filled_target to) (filled r)
    filled_target to = to

    pub filled_callee : Callee → Callee
    filled_callee (plain c) = plain (filled c)
    filled_callee (on_member m o k) = on_member m (filled o) (filled k)
    filled_callee (on_private m r o) = on_private m r (filled o)
    filled_callee (on_super m home k this) = on_super m home (filled k) this
    filled_callee (with_receiver f o) = with_receiver (filled f) (filled o)
    filled_callee (checked f) = checked (filled_callee f)
    filled_callee (on_chain m f) = on_chain m (filled_callee f)
    filled_callee (behind_test o again f) = behind_test (filled o) (filled_all again) (filled_callee f)

    pub filled_all : Codes → Codes
    filled_all done = done
    filled_all (and c cs) = and (filled c) (filled_all cs)

-- ---- where a hole may stand, and an expression in it

abbrev pub is_hole : Code → Bool
is_hole (initializers n) = true
is_hole c = false

-- no parameter, element of a class or member of a pattern is a hole
abbrev pub none_is_hole : Codes → Bool
none_is_hole done = true
none_is_hole (and c cs) = not (is_hole c) && none_is_hole cs

abbrev pub share : List String → List String → Bool
share [] names = false
share (s ∷ ss) names = is_string_among s names || share ss names

-- whether a hole stands where it is asked what a body begins or ends with
abbrev pub holds_hole : Code → Bool
holds_hole (sequence es) = not (none_is_hole es)
holds_hole c = is_hole c

-- Holes stand only where codes are evaluated, and these names stand nowhere. Where what is to stand in the holes is not
-- plain, none stands where it is asked what the body of a new function begins or ends with.
module _ (names : List String) (plain_ones : Bool) where
  abbrev has_none : String → Bool
  has_none s = not (is_string_among s names)

  abbrev mutual
    pub admits : Code → Bool
    admits (rest to) = admits_target to
    admits (name m s kind) = has_none s
    admits (member m o k) = admits o && admits k
    admits (private_member m r o) = admits o
    admits (super_member m home k this) = admits k
    admits (private_in m test o) = admits o
    admits (assign to r) = admits_target to && admits r
    admits (compound m op to r) = admits_target to && admits r
    admits (logical m op l r) = admits l && admits r
    admits (logical_assign m op to r) = admits_target to && admits r
    admits (update m op prefix to) = admits_target to
    admits (call m f es) = admits_callee f && admits_all es
    admits (tag m f ts es) = admits_callee f && admits_all es
    admits (construct m f es) = admits f && admits_all es
    admits (super_call m n o es) = admits_all es
    admits (sequence es) = admits_all es
    admits (template m ts es) = admits_all es
    admits (operation m op es parts) = admits_all es && admits_all parts
    admits (piece ds es) = admits_all es
    admits (chain m c) = admits c
    admits (short c) = admits c
    admits (tested o again c) = admits o && (admits_all again && admits c)
    admits (pattern m to) = admits_target to
    admits (takes m ds k to) = admits_all k && admits_target to
    admits (steps es) = admits_all es
    admits (gives_to m to) = admits_target to
    admits (export_default c) = has_none default_key && admits c
    admits (function f form own_name ps body) = none_is_hole ps && (admits_all ps && admits body)
    admits (new_function f form ps body) = (plain_ones || not (holds_hole (opened_body body))) && (none_is_hole ps && (admits_all ps && admits body))
    admits (new_return es) = admits_all es
    admits (class_code n declared h es) = none_is_hole es && (admits_all h && admits_all es)
    admits (field is_static form k r) = admits k && admits r
    admits (private_field is_static d r) = admits r
    admits (method is_static kind k f) = not (is_hole f) && (admits k && admits f)
    admits (private_method is_static d f) = not (is_hole f) && admits f
    admits (constructor f) = not (is_hole f) && admits f
    admits (static_block es) = admits_all es
    admits (generated_element s r) = has_none (private_key s) && admits r
    admits (from_call c) = admits c
    admits (from_member c) = admits c
    admits (key_of c) = admits c
    admits (helper_call m h es) = admits_all es
    admits (define m o k r) = admits k && admits r
    admits (private_initialize m d o r) = admits r
    admits (bound f o) = admits f && admits o
    admits (setter m d o) = admits o
    admits (private_value s) = has_none (private_key s)
    admits (call_arrow ss body es) = not (share ss names) && (admits body && admits_all es)
    admits (call_closure s es) = admits_all es
    admits (give_function m s g f) = not (is_hole f) && admits f
    admits (give_class n c) = admits c
    admits c = true

    pub admits_target : Target → Bool
    admits_target (to_name m s kind) = has_none s
    admits_target (to_member m o k) = admits o && admits k
    admits_target (to_private m r o) = admits o
    admits_target (to_super m home k this) = admits k
    admits_target (to_setter m d o) = admits o
    admits_target (to_pattern m kind cs) = none_is_hole cs && admits_all cs
    admits_target (to_default m to r) = admits_target to && admits r
    admits_target no_target = true

    pub admits_callee : Callee → Bool
    admits_callee (plain c) = admits c
    admits_callee (on_member m o k) = admits o && admits k
    admits_callee (on_private m r o) = admits o
    admits_callee (on_super m home k this) = admits k
    admits_callee (with_receiver f o) = admits f && admits o
    admits_callee (checked f) = admits_callee f
    admits_callee (on_chain m f) = admits_callee f
    admits_callee (behind_test o again f) = admits o && (admits_all again && admits_callee f)

    pub admits_all : Codes → Bool
    admits_all done = true
    admits_all (and c cs) = admits c && admits_all cs

-- a code whose form is not asked for where a body is opened, as an expression
abbrev pub is_plain : Code → Bool
is_plain (steps es) = false
is_plain (new_return es) = false
is_plain (super_call_with_all n) = false
is_plain (sequence (and (super_call_with_all n) es)) = false
is_plain c = true

-- ---- declarations of generated names, which do nothing: a temporary that is declared without a value

abbrev mutual
  pub declares_alone : Code → Bool
  declares_alone nothing = true
  declares_alone (steps es) = all_declare_alone es
  declares_alone c = false

  pub all_declare_alone : Codes → Bool
  all_declare_alone done = true
  all_declare_alone (and c cs) = declares_alone c && all_declare_alone cs
