-- What is known at a place of a tree, in code.
use Rattle.std.specs.Prelude.{ℕ, List, Option, Some, None, option_map, codes}
use Rattle.std.specs.Str.{chars}
use Rattle.es_codes.specs.View.{home_of}
use Rattle.es_codes.specs.declared.event.Home.{Home}
use Rattle.es_seen_names.specs.Frames.{names_in, privates_in}
use Rattle.es_seen_names.specs.PrivateMembers.{private_members_of}
use Rattle.es_steps.specs.Context as spec
use Rattle.es_steps.specs.PrivateNames.{PrivateMember}
use Rattle.es_steps.specs.References.{changes_free, varying}
use Rattle.es_steps.specs.Scopes.{Declaration}
use Rattle.es_steps.specs.Values as values
use Rattle.es_steps.specs.Values.{Value, Undefined, ThisOf, ClassOf, ArgumentsOf, NewTargetOf}
use Rattle.es_code_reading.specs.declared.context.This.{This}
use Rattle.es_code_reading.specs.declared.context.FunctionRole.{FunctionRole}
use Rattle.es_code_reading.specs.declared.context.Terms.{Terms}
use Rattle.es_code_reading.specs.declared.context.Around.{Around}
use Rattle.es_code_reading.specs.declared.context.Context.{Context}
use Rattle.es_code_reading.specs.declared.inside.Frame.{Frame}

abbrev pub this_of : This → Value
this_of (This.Of k) = ThisOf k
this_of (This.Class n) = ClassOf n

abbrev pub new_target_of : Option ℕ → Value
new_target_of None = Undefined
new_target_of (Some k) = NewTargetOf k

abbrev pub arguments_of : Option ℕ → Value
arguments_of None = Undefined
arguments_of (Some k) = ArgumentsOf k

abbrev pub nullable_home : Option Home → Option values.Home
nullable_home None = None
nullable_home (Some h) = Some (home_of h)

abbrev pub role_of : FunctionRole → spec.FunctionRole
role_of FunctionRole.Function = spec.a_function
role_of (FunctionRole.ConstructorOf n) = spec.constructor_of n
role_of (FunctionRole.MethodOn h) = spec.method_on (home_of h)
role_of (FunctionRole.SuperFunctionOf n) = spec.super_function_of n

abbrev pub frame_in : Frame → spec.Frame
frame_in Frame.Function = spec.function_frame
frame_in Frame.Arrow = spec.arrow_frame
frame_in Frame.Class = spec.class_frame
frame_in Frame.Field = spec.field_frame
frame_in Frame.Method = spec.method_frame
frame_in Frame.StaticBlock = spec.static_block_frame
frame_in Frame.Object = spec.object_frame
frame_in Frame.Property = spec.property_frame
frame_in Frame.Assignment = spec.assignment_frame
frame_in Frame.Declarator = spec.declarator_frame
frame_in Frame.Same = spec.same_frame

-- what is seen at a place: names and private members, those of the names that no catch in the function around declares as a name,
-- and what of them is seen around the block that a function is declared in
pub record Seen : Type 0 where
  pub names : List Declaration
  pub privates : List PrivateMember
  pub uncaught : List Declaration
  pub around : Option (List Declaration)

-- where this is seen
abbrev pub context_with : Terms → Seen → Around → spec.Context
context_with t seen a = record {
  first_new = t.first_new;
  ledger = t.ledger.now;
  options = t.options;
  members = private_members_of t.members.now;
  named = t.named.now;
  varying = varying t.names.now.program.now;
  writes_arguments = changes_free (codes "arguments") t.names.now.program.now;
  names = seen.names;
  privates = seen.privates;
  this = this_of a.this;
  new_target = new_target_of a.new_target;
  arguments = arguments_of a.arguments;
  home = nullable_home a.home;
  constructs = a.constructs;
  initializing = a.initializing;
  in_new_function = a.in_new_function;
  rest_name = chars a.rest_name.now;
  class = a.class;
  has_heritage = a.has_heritage;
  object = a.object;
  role = role_of a.role;
  let_class = a.let_class;
  is_body = a.is_body;
  uncaught = seen.uncaught;
  around = seen.around;
}

abbrev pub seen_in : Context → Seen
seen_in c = record { names = names_in c.names; privates = privates_in c.privates; uncaught = names_in c.uncaught; around = option_map names_in c.block }

abbrev pub context_of : Context → spec.Context
context_of c = context_with c.terms.now (seen_in c) c.around

-- this context where something else is seen
abbrev pub where_seen : Seen → spec.Context → spec.Context
where_seen seen c = record c { names = seen.names; privates = seen.privates; uncaught = seen.uncaught; around = seen.around }
