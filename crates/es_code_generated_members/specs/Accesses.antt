-- A member, without its object.
use Rattle.es_codes.specs.CodeView.{code_of}
use Rattle.es_steps.specs.Code.{Code, member}
use Rattle.es_steps.specs.Expressions.{checked_object}
use Rattle.es_code_generated_members.specs.declared.access.Access.{Access}

-- the member of this object
abbrev pub accessed : Access → Code → Code
accessed a o = member a.node (checked_object a.is_optional o) (code_of a.key)
