-- How many codes a code is, itself among them.
use Rattle.std.specs.Prelude.{ℕ, zero, suc, ◌+◌}
use Rattle.es_steps.specs.Code.{Code, Codes, Target, Callee, rest, member, private_member, super_member, private_in, assign, compound, logical, logical_assign, update, call, tag, construct, super_call, sequence, template, operation, piece, chain, short, tested, pattern, takes, steps, gives_to, export_default, function, new_function, new_return, class_code, field, private_field, method, private_method, constructor, static_block, generated_element, from_call, from_member, key_of, helper_call, define, private_initialize, bound, setter, call_arrow, call_closure, give_function, give_class, to_member, to_private, to_super, to_setter, to_pattern, to_default, plain, on_member, on_private, on_super, with_receiver, checked, on_chain, behind_test, done, and}

abbrev mutual
  pub size : Code → ℕ
  size (rest to) = suc (target_size to)
  size (member m o k) = suc (size o + size k)
  size (private_member m r o) = suc (size o)
  size (super_member m home k this) = suc (size k)
  size (private_in m test o) = suc (size o)
  size (assign to e) = suc (target_size to + size e)
  size (compound m op to e) = suc (target_size to + size e)
  size (logical m op l r) = suc (size l + size r)
  size (logical_assign m op to e) = suc (target_size to + size e)
  size (update m op prefix to) = suc (target_size to)
  size (call m f es) = suc (callee_size f + sizes es)
  size (tag m f ts es) = suc (callee_size f + sizes es)
  size (construct m f es) = suc (size f + sizes es)
  size (super_call m n o es) = suc (sizes es)
  size (sequence es) = suc (sizes es)
  size (template m ts es) = suc (sizes es)
  size (operation m op es parts) = suc (sizes es + sizes parts)
  size (piece ds es) = suc (sizes es)
  size (chain m e) = suc (size e)
  size (short e) = suc (size e)
  size (tested o again e) = suc (size o + (sizes again + size e))
  size (pattern m to) = suc (target_size to)
  size (takes m ds k to) = suc (sizes k + target_size to)
  size (steps es) = suc (sizes es)
  size (gives_to m to) = suc (target_size to)
  size (export_default e) = suc (size e)
  size (function f form own_name ps body) = suc (sizes ps + size body)
  size (new_function f form ps body) = suc (sizes ps + size body)
  size (new_return es) = suc (sizes es)
  size (class_code n declared h es) = suc (sizes h + sizes es)
  size (field is_static form k e) = suc (size k + size e)
  size (private_field is_static d e) = suc (size e)
  size (method is_static kind k f) = suc (size k + size f)
  size (private_method is_static d f) = suc (size f)
  size (constructor f) = suc (size f)
  size (static_block es) = suc (sizes es)
  size (generated_element s e) = suc (size e)
  size (from_call e) = suc (size e)
  size (from_member e) = suc (size e)
  size (key_of e) = suc (size e)
  size (helper_call m h es) = suc (sizes es)
  size (define m o k e) = suc (size k + size e)
  size (private_initialize m d o e) = suc (size e)
  size (bound f o) = suc (size f + size o)
  size (setter m d o) = suc (size o)
  size (call_arrow ss body es) = suc (size body + sizes es)
  size (call_closure s es) = suc (sizes es)
  size (give_function m s g f) = suc (size f)
  size (give_class n e) = suc (size e)
  size c = suc zero

  pub target_size : Target → ℕ
  target_size (to_member m o k) = suc (size o + size k)
  target_size (to_private m r o) = suc (size o)
  target_size (to_super m home k this) = suc (size k)
  target_size (to_setter m d o) = suc (size o)
  target_size (to_pattern m kind cs) = suc (sizes cs)
  target_size (to_default m to e) = suc (target_size to + size e)
  target_size to = suc zero

  pub callee_size : Callee → ℕ
  callee_size (plain e) = suc (size e)
  callee_size (on_member m o k) = suc (size o + size k)
  callee_size (on_private m r o) = suc (size o)
  callee_size (on_super m home k this) = suc (size k)
  callee_size (with_receiver f o) = suc (size f + size o)
  callee_size (checked f) = suc (callee_size f)
  callee_size (on_chain m f) = suc (callee_size f)
  callee_size (behind_test o again f) = suc (size o + (sizes again + callee_size f))

  pub sizes : Codes → ℕ
  sizes done = zero
  sizes (and c cs) = suc (size c + sizes cs)
