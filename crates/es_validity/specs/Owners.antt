-- What the nearest function that is no arrow, field value, static block or program allows.
use Rattle.std.specs.Prelude.{Bool, true, false, not, ◌&&◌}
use Rattle.es_steps.specs.Options.{lowers_blocks}
use Rattle.es_steps.specs.declared.options.Options.{Options}
use Rattle.es_validity.specs.declared.around.Owner.{Owner}

-- `super(..)`: a constructor of a class with a heritage
abbrev pub may_call_super : Owner → Bool
may_call_super (Owner.Constructor has_heritage) = has_heritage
may_call_super owner = false

-- `super.x`: all but functions that are no methods, and the program
abbrev pub may_use_super : Owner → Bool
may_use_super Owner.Program = false
may_use_super Owner.Function = false
may_use_super owner = true

-- where `arguments` may not stand: field values and static blocks
abbrev pub is_initializer : Owner → Bool
is_initializer (Owner.FieldValue is_static super_in_parameters) = true
is_initializer Owner.StaticBlock = true
is_initializer owner = false

-- what a lowering with class properties on moves out of its class: values of static fields, private methods, and static
-- blocks that are lowered
abbrev pub moves : Options → Owner → Bool
moves o (Owner.Method is_private) = is_private
moves o (Owner.FieldValue is_static super_in_parameters) = is_static
moves o Owner.StaticBlock = lowers_blocks o
moves o owner = false

-- the value of an instance field of a class whose constructor has `super()` in its parameters
abbrev pub is_behind_parameters : Owner → Bool
is_behind_parameters (Owner.FieldValue is_static super_in_parameters) = not is_static && super_in_parameters
is_behind_parameters owner = false
