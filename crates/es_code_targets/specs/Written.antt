-- What is written, part by part.
use Rattle.es_steps.specs.Code.{Code, Target, member, private_member, super_member, setter, pattern, to_member, to_private, to_super, to_setter, no_target}

-- of what is neither a name nor a member
abbrev pub written_pattern : Code → Target
written_pattern (setter m d o) = to_setter m d o
written_pattern (pattern m to) = to
written_pattern c = no_target

-- of what is no name
abbrev pub written_member : Code → Target
written_member (member m o k) = to_member m o k
written_member (private_member m r o) = to_private m r o
written_member (super_member m home k this) = to_super m home k this
written_member c = written_pattern c
