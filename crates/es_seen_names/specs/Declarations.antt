-- Declarations in code, as definitions see them.
use Rattle.std.specs.Prelude.{List, map}
use Rattle.std.specs.Str.{chars}
use Rattle.es_steps.specs.Scopes as spec
use Rattle.es_seen_names.specs.declared.declaration.ClassName.{ClassName}
use Rattle.es_seen_names.specs.declared.declaration.Declaration.{Declaration}

abbrev pub class_name_of : ClassName → spec.ClassName
class_name_of ClassName.NoClass = spec.no_class
class_name_of (ClassName.Declares n) = spec.declares n
class_name_of (ClassName.OwnName n) = spec.own_name n
class_name_of (ClassName.LetNames m n) = spec.let_names m n

abbrev pub declaration_of : Declaration → spec.Declaration
declaration_of d = record { spelling = chars d.name.now; number = d.node; class_name = class_name_of d.class_name }

abbrev pub declarations : List Declaration → List spec.Declaration
declarations ds = map declaration_of ds

-- the same declarations, as names of this class
abbrev pub named_as : spec.ClassName → spec.Declaration → spec.Declaration
named_as name d = record { spelling = d.spelling; number = d.number; class_name = name }

abbrev pub all_named_as : spec.ClassName → List spec.Declaration → List spec.Declaration
all_named_as name ds = map (named_as name) ds
