-- Declarations in code, as definitions see them: which class a name is the name of does not matter here.
use Rattle.std.specs.Prelude.{List, map}
use Rattle.std.specs.Str.{chars}
use Rattle.es_steps.specs.Scopes.{Declaration, no_class}
use Rattle.es_binding_faults.specs.declared.bound.Declared.{Declared}

abbrev pub declaration_of : Declared → Declaration
declaration_of d = record { spelling = chars d.name.now; number = d.node.0; class_name = no_class }

abbrev pub named : List Declared → List Declaration
named ds = map declaration_of ds

abbrev pub plain_one : Declaration → Declaration
plain_one d = record { spelling = d.spelling; number = d.number; class_name = no_class }

-- the same declarations, without the classes
abbrev pub plain : List Declaration → List Declaration
plain ds = map plain_one ds
