-- A code with its own holes in its holes.
use Rattle.std.specs.Prelude.{◌≡◌, refl}
use Rattle.std.proofs.Common.{ap}
use Rattle.es_steps.specs.Code.{Code, Codes, Target, Callee, rest, member, private_member, super_member, private_in, assign, compound, logical, logical_assign, update, call, tag, construct, super_call, sequence, template, operation, piece, chain, short, tested, pattern, takes, steps, gives_to, export_default, function, new_function, new_return, class_code, field, private_field, method, private_method, constructor, static_block, generated_element, from_call, from_member, key_of, helper_call, define, private_initialize, bound, setter, call_arrow, call_closure, initializers, give_function, give_class, to_member, to_private, to_super, to_setter, to_pattern, to_default, plain, on_member, on_private, on_super, with_receiver, checked, on_chain, behind_test, done, and}
use Rattle.es_replacement.specs.Holes.{filled, filled_target, filled_callee, filled_all}

mutual
  pub filled-itself : (c : Code) → filled initializers c ≡ c
  filled-itself (rest to) = ap (λ x. rest x) (filled_target-itself to)
  filled-itself (member m o k) = rw (filled-itself o, filled-itself k) refl
  filled-itself (private_member m r o) = ap (λ x. private_member m r x) (filled-itself o)
  filled-itself (super_member m home k this) = ap (λ x. super_member m home x this) (filled-itself k)
  filled-itself (private_in m test o) = ap (λ x. private_in m test x) (filled-itself o)
  filled-itself (assign to r) = rw (filled_target-itself to, filled-itself r) refl
  filled-itself (compound m op to r) = rw (filled_target-itself to, filled-itself r) refl
  filled-itself (logical m op l r) = rw (filled-itself l, filled-itself r) refl
  filled-itself (logical_assign m op to r) = rw (filled_target-itself to, filled-itself r) refl
  filled-itself (update m op prefix to) = ap (λ x. update m op prefix x) (filled_target-itself to)
  filled-itself (call m f es) = rw (filled_callee-itself f, filled_all-itself es) refl
  filled-itself (tag m f ts es) = rw (filled_callee-itself f, filled_all-itself es) refl
  filled-itself (construct m f es) = rw (filled-itself f, filled_all-itself es) refl
  filled-itself (super_call m n o es) = ap (λ x. super_call m n o x) (filled_all-itself es)
  filled-itself (sequence es) = ap (λ x. sequence x) (filled_all-itself es)
  filled-itself (template m ts es) = ap (λ x. template m ts x) (filled_all-itself es)
  filled-itself (operation m op es parts) = rw (filled_all-itself es, filled_all-itself parts) refl
  filled-itself (piece ds es) = ap (λ x. piece ds x) (filled_all-itself es)
  filled-itself (chain m c) = ap (λ x. chain m x) (filled-itself c)
  filled-itself (short c) = ap (λ x. short x) (filled-itself c)
  filled-itself (tested o again c) = rw (filled-itself o, filled_all-itself again, filled-itself c) refl
  filled-itself (pattern m to) = ap (λ x. pattern m x) (filled_target-itself to)
  filled-itself (takes m ds k to) = rw (filled_all-itself k, filled_target-itself to) refl
  filled-itself (steps es) = ap (λ x. steps x) (filled_all-itself es)
  filled-itself (gives_to m to) = ap (λ x. gives_to m x) (filled_target-itself to)
  filled-itself (export_default c) = ap (λ x. export_default x) (filled-itself c)
  filled-itself (function f form own_name ps body) = rw (filled_all-itself ps, filled-itself body) refl
  filled-itself (new_function f form ps body) = rw (filled_all-itself ps, filled-itself body) refl
  filled-itself (new_return es) = ap (λ x. new_return x) (filled_all-itself es)
  filled-itself (class_code n declared h es) = rw (filled_all-itself h, filled_all-itself es) refl
  filled-itself (field is_static form k r) = rw (filled-itself k, filled-itself r) refl
  filled-itself (private_field is_static d r) = ap (λ x. private_field is_static d x) (filled-itself r)
  filled-itself (method is_static kind k f) = rw (filled-itself k, filled-itself f) refl
  filled-itself (private_method is_static d f) = ap (λ x. private_method is_static d x) (filled-itself f)
  filled-itself (constructor f) = ap (λ x. constructor x) (filled-itself f)
  filled-itself (static_block es) = ap (λ x. static_block x) (filled_all-itself es)
  filled-itself (generated_element s r) = ap (λ x. generated_element s x) (filled-itself r)
  filled-itself (from_call c) = ap (λ x. from_call x) (filled-itself c)
  filled-itself (from_member c) = ap (λ x. from_member x) (filled-itself c)
  filled-itself (key_of c) = ap (λ x. key_of x) (filled-itself c)
  filled-itself (helper_call m h es) = ap (λ x. helper_call m h x) (filled_all-itself es)
  filled-itself (define m o k r) = rw (filled-itself k, filled-itself r) refl
  filled-itself (private_initialize m d o r) = ap (λ x. private_initialize m d o x) (filled-itself r)
  filled-itself (bound f o) = rw (filled-itself f, filled-itself o) refl
  filled-itself (setter m d o) = ap (λ x. setter m d x) (filled-itself o)
  filled-itself (call_arrow ss body es) = rw (filled-itself body, filled_all-itself es) refl
  filled-itself (call_closure s es) = ap (λ x. call_closure s x) (filled_all-itself es)
  filled-itself (initializers n) = refl
  filled-itself (give_function m s g f) = ap (λ x. give_function m s g x) (filled-itself f)
  filled-itself (give_class n c) = ap (λ x. give_class n x) (filled-itself c)
  filled-itself c = refl

  pub filled_target-itself : (c : Target) → filled_target initializers c ≡ c
  filled_target-itself (to_member m o k) = rw (filled-itself o, filled-itself k) refl
  filled_target-itself (to_private m r o) = ap (λ x. to_private m r x) (filled-itself o)
  filled_target-itself (to_super m home k this) = ap (λ x. to_super m home x this) (filled-itself k)
  filled_target-itself (to_setter m d o) = ap (λ x. to_setter m d x) (filled-itself o)
  filled_target-itself (to_pattern m kind cs) = ap (λ x. to_pattern m kind x) (filled_all-itself cs)
  filled_target-itself (to_default m to r) = rw (filled_target-itself to, filled-itself r) refl
  filled_target-itself to = refl

  pub filled_callee-itself : (c : Callee) → filled_callee initializers c ≡ c
  filled_callee-itself (plain c) = ap (λ x. plain x) (filled-itself c)
  filled_callee-itself (on_member m o k) = rw (filled-itself o, filled-itself k) refl
  filled_callee-itself (on_private m r o) = ap (λ x. on_private m r x) (filled-itself o)
  filled_callee-itself (on_super m home k this) = ap (λ x. on_super m home x this) (filled-itself k)
  filled_callee-itself (with_receiver f o) = rw (filled-itself f, filled-itself o) refl
  filled_callee-itself (checked f) = ap (λ x. checked x) (filled_callee-itself f)
  filled_callee-itself (on_chain m f) = ap (λ x. on_chain m x) (filled_callee-itself f)
  filled_callee-itself (behind_test o again f) = rw (filled-itself o, filled_all-itself again, filled_callee-itself f) refl

  pub filled_all-itself : (c : Codes) → filled_all initializers c ≡ c
  filled_all-itself done = refl
  filled_all-itself (and c cs) = rw (filled-itself c, filled_all-itself cs) refl
