-- Methods in code, as definitions see them.
use Rattle.std.specs.Prelude.{List, map}
use Rattle.es_steps.specs.Entries as spec
use Rattle.es_entries.specs.declared.method.Method.{Method}

abbrev pub method_in : Method → spec.Method
method_in m = record { is_static = m.is_static; kind = m.kind; key = m.key; function = m.function }

abbrev pub methods_in : List Method → List spec.Method
methods_in ms = map method_in ms
