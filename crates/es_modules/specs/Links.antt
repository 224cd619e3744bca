-- Imports and exports in code, as definitions see them.
use Rattle.std.specs.Prelude.{ℕ, List, map, Option, option_map}
use Rattle.std.specs.Str.{chars}
use Rattle.std.proofs.Common.{Bor}
use Rattle.es_steps.specs.Modules as spec
use Rattle.es_steps.specs.Values.{String}
use Rattle.es_modules.specs.declared.link.ModuleLink.{ModuleLink}
use Rattle.es_modules.specs.declared.link.Specifier.{Specifier}

abbrev pub spelling_of : Option (Bor (List ℕ)) → Option String
spelling_of name = option_map (λ s. chars s.now) name

abbrev pub specifier_in : Specifier → spec.Specifier
specifier_in (Specifier.Imported s b) = spec.Imported (chars s.now) b
specifier_in (Specifier.ImportedDefault b) = spec.ImportedDefault b
specifier_in (Specifier.ImportedNamespace b) = spec.ImportedNamespace b
specifier_in (Specifier.Reexported s x) = spec.Reexported (chars s.now) (chars x.now)
specifier_in (Specifier.ReexportedAll x) = spec.ReexportedAll (spelling_of x)

abbrev pub specifiers_in : List Specifier → List spec.Specifier
specifiers_in ss = map specifier_in ss

abbrev pub link_in : ModuleLink → spec.ModuleLink
link_in l = record { number = l.number; source = chars l.source.now; specifiers = specifiers_in l.specifiers.items }

abbrev pub links_of : List ModuleLink → List spec.ModuleLink
links_of ls = map link_in ls
