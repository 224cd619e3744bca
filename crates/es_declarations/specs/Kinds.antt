-- What identifiers declare, as definitions see it.
use Rattle.std.specs.Prelude.{ℕ, List, cond}
use Rattle.es_base.specs.Words.{variable_declaration_kind_string}
use Rattle.es_by_number.specs.Numbered.{numbered}
use Rattle.es_by_number.specs.declared.numbered.Numbered.{Numbered}
use Rattle.es_steps.specs.Meaning as spec
use Rattle.es_declarations.specs.declared.kind.Binding.{Binding}
use Rattle.es_declarations.specs.declared.kind.DeclarationKind.{DeclarationKind}

abbrev pub kind_in : DeclarationKind → spec.DeclarationKind
kind_in (DeclarationKind.Variable word) = spec.Variable (variable_declaration_kind_string word)
kind_in DeclarationKind.FunctionName = spec.FunctionName
kind_in DeclarationKind.ParameterName = spec.ParameterName
kind_in DeclarationKind.CaughtName = spec.CaughtName
kind_in DeclarationKind.ImportName = spec.ImportName
kind_in DeclarationKind.Class = spec.ClassDeclared

abbrev pub binding_in : Binding → spec.DeclarationKind
binding_in b = cond b.spells_arguments (spec.ArgumentsName (kind_in b.kind)) (kind_in b.kind)

abbrev pub bindings_in : List (Numbered Binding) → List (ℕ × spec.DeclarationKind)
bindings_in bs = numbered binding_in bs
