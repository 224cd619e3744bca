-- What stands elsewhere: definitions, some of which are shut, since they are being opened.
use Rattle.std.proofs.Common.{Bor}
use Rattle.std.specs.Prelude.{List, [], ◌∷◌, Bool, false, ◌||◌, map}
use Rattle.es_steps.specs.Code.{Opened, InitializersOf, BodyOf, CalledBodyOf}
use Rattle.es_steps.specs.Opening as of
use Rattle.es_codes.specs.CodeView.{code_of, codes_of}
use Rattle.es_evaluation.specs.Direct as direct
use Rattle.es_code_rules.specs.declared.definition.Definition.{Definition}
use Rattle.es_code_rules.specs.declared.definition.Opening.{Opening}
use Rattle.es_evaluator.specs.Steps.{Opens}

abbrev pub definition_of : Definition → of.Definition
definition_of (Definition.OfClass n es) = of.of_class n (codes_of es)
definition_of (Definition.OfName s c) = of.of_name s (code_of c)
definition_of (Definition.OfCalled s c) = of.of_called s (code_of c)

abbrev pub definition_behind : Bor Definition → of.Definition
definition_behind d = definition_of d.now

abbrev pub definitions_behind : List (Bor Definition) → List of.Definition
definitions_behind ds = map definition_behind ds

-- what it is a definition of
abbrev pub opened_by : of.Definition → Opened
opened_by (of.of_class n es) = InitializersOf n
opened_by (of.of_name s c) = BodyOf s
opened_by (of.of_called s c) = CalledBodyOf s

-- whether one of these is a definition of it
abbrev pub is_shut : Opened → List of.Definition → Bool
is_shut o [] = false
is_shut o (d ∷ shut) = of.defines o d || is_shut o shut

-- those that are left where these are shut, with all others of the same
abbrev pub left : List of.Definition → List of.Definition → List of.Definition
left ds [] = ds
left ds (d ∷ shut) = left (of.without_definition (opened_by d) ds) shut

-- what is opened there
unfoldable pub opens_of : List Definition → Opening → Opens
opens_of ds o = direct.opening_in o.depth (left (map definition_of ds) (definitions_behind o.shut.items))
