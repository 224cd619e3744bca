-- What can be done with a private member, and by which of its names.
use Rattle.std.specs.Prelude.{Bool, true, false, cond, Option, Some, None, is_some}
use Rattle.es_base.specs.declared.operator.MethodDefinitionKind.{MethodDefinitionKind}
use Rattle.class_details.specs.declared.found.Found.{Found}
use Rattle.class_details.specs.declared.found.ResolvedPrivateProp.{ResolvedPrivateProp}
use Rattle.class_details.specs.declared.found.ResolvedGetSetPrivateProp.{ResolvedGetSetPrivateProp}

abbrev pub is_accessor_kind : Option MethodDefinitionKind → Bool
is_accessor_kind (Some MethodDefinitionKind.Get) = true
is_accessor_kind (Some MethodDefinitionKind.Set) = true
is_accessor_kind kind = false

abbrev pub is_setter_kind : Option MethodDefinitionKind → Bool
is_setter_kind (Some MethodDefinitionKind.Set) = true
is_setter_kind kind = false

-- whether the first name of a member is that of its side that writes: of a field or a setter
abbrev pub is_written_first : Option MethodDefinitionKind → Bool
is_written_first None = true
is_written_first kind = is_setter_kind kind

-- a member that was found, by its first name or its second
abbrev pub resolved : Bool → Found → ResolvedPrivateProp
resolved second f = record { class = f.class; member = f.member; second = second; is_static = f.is_static; is_method = is_some f.method_kind; is_accessor = is_accessor_kind f.method_kind; is_declaration = f.is_declaration }

-- by its first name, if this is that of the side; else by its second, if it has one
abbrev pub side_resolved : Bool → Found → Option ResolvedPrivateProp
side_resolved true f = Some (resolved false f)
side_resolved false f = cond f.has_second (Some (resolved true f)) None

-- the side that reads: the second name where the first is that of a setter
abbrev pub reads_first : Option MethodDefinitionKind → Bool
reads_first (Some MethodDefinitionKind.Set) = false
reads_first kind = true

abbrev pub readable : Found → Option ResolvedPrivateProp
readable f = side_resolved (reads_first f.method_kind) f

abbrev pub writable : Found → Option ResolvedPrivateProp
writable f = side_resolved (is_written_first f.method_kind) f

-- both sides
abbrev pub sides : Found → ResolvedGetSetPrivateProp
sides f = record { class = f.class; member = f.member; has_get = is_some (readable f); has_set = is_some (writable f); is_static = f.is_static; is_method = is_some f.method_kind; is_accessor = is_accessor_kind f.method_kind; is_declaration = f.is_declaration }
