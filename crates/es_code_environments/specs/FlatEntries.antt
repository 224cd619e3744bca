-- Entries, with lists as tokens.
use Rattle.std.specs.Prelude.{ℕ, List, Option}
use Rattle.es_codes.specs.CodeView.{form_of}
use Rattle.es_codes.specs.View.{tokens_of}
use Rattle.es_entries.specs.Methods.{methods_in}
use Rattle.es_entries.specs.Parameters.{parameters_in}
use Rattle.es_entries.specs.declared.entry.Entry.{Entry}
use Rattle.es_entries.specs.declared.listed.Listed.{Listed}
use Rattle.es_evaluation.specs.Direct.{State, unless_thrown}
use Rattle.es_evaluation.specs.Flat.{Token, tokens}
use Rattle.es_steps.specs.Code.{FunctionForm}
use Rattle.es_steps.specs.Entries as spec
use Rattle.es_steps.specs.Values.{Value}

-- a list as its tokens, with its value
pub record Flat : Type 0 where
  pub list : List Token
  pub value : Value

abbrev pub flat_list : spec.Listed → Flat
flat_list l = record { list = tokens l.events; value = l.value }

abbrev pub list_in : Listed → Flat
list_in l = record { list = tokens_of l.tokens; value = l.value }

-- that of an evaluation over a state, which gave v
abbrev pub flat_at : State → Value → Flat
flat_at s v = record { list = s.tokens; value = unless_thrown s v }

-- an entry with such a list
pub data FlatEntry : Type 0 where
  flat_function : (form : FunctionForm) (own_name : Option ℕ) (parameters : List spec.Parameter) (body : Flat) → FlatEntry
  flat_class : (declared : Option ℕ) (heritage : Option Value) (methods : List spec.Method) (form : FunctionForm) (parameters : List spec.Parameter) (construction : Flat) → FlatEntry

abbrev pub flat_entry : spec.Entry → FlatEntry
flat_entry (spec.FunctionEntry form own_name ps l) = flat_function form own_name ps (flat_list l)
flat_entry (spec.ClassEntry declared h ms form ps l) = flat_class declared h ms form ps (flat_list l)

abbrev pub entry_in : Entry → FlatEntry
entry_in (Entry.Function f) = flat_function (form_of f.form) f.own_name (parameters_in f.parameters) (list_in f.body)
entry_in (Entry.Class c) = flat_class c.declared c.heritage (methods_in c.methods) (form_of c.form) (parameters_in c.parameters) (list_in c.construction)
