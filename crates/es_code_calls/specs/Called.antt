-- What is called, part by part.
use Rattle.es_steps.specs.Code.{Code, Callee, member, private_member, super_member, from_member, bound, no_rule, plain, on_member, on_private, on_super, with_receiver}

-- where no member stands
abbrev pub called_bound : Code → Callee
called_bound (bound f o) = with_receiver f o
called_bound (from_member e) = plain no_rule
called_bound e = plain e

-- outside a chain
abbrev pub called_member : Code → Callee
called_member (member m o k) = on_member m o k
called_member (private_member m r o) = on_private m r o
called_member (super_member m home k this) = on_super m home k this
called_member e = called_bound e
