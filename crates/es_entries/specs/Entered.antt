-- Entries in code, and which entries of the definitions they are.
use Rattle.std.specs.Prelude.{◌≡◌}
use Rattle.es_codes.specs.CodeView.{form_of}
use Rattle.es_entries.specs.Lists.{IsListed}
use Rattle.es_entries.specs.Methods.{methods_in}
use Rattle.es_entries.specs.Parameters.{parameters_in}
use Rattle.es_entries.specs.declared.entry.ClassEntry.{ClassEntry}
use Rattle.es_entries.specs.declared.entry.Entry.{Entry}
use Rattle.es_entries.specs.declared.entry.FunctionEntry.{FunctionEntry}
use Rattle.es_steps.specs.Entries as spec

pub record IsFunctionEntry (f : FunctionEntry) (e : spec.Entry) : Type 0 where
  pub body : spec.Listed
  pub is_listed : IsListed f.body body
  pub is : e ≡ spec.FunctionEntry (form_of f.form) f.own_name (parameters_in f.parameters) body

pub record IsClassEntry (c : ClassEntry) (e : spec.Entry) : Type 0 where
  pub construction : spec.Listed
  pub is_listed : IsListed c.construction construction
  pub is : e ≡ spec.ClassEntry c.declared c.heritage (methods_in c.methods) (form_of c.form) (parameters_in c.parameters) construction

abbrev pub IsEntry : Entry → spec.Entry → Type 0
IsEntry (Entry.Function f) e = IsFunctionEntry f e
IsEntry (Entry.Class c) e = IsClassEntry c e

-- classes that are declared alike, with the same heritage and methods
pub record HaveOneHead (c d : ClassEntry) : Type 0 where
  pub declared : c.declared ≡ d.declared
  pub heritage : c.heritage ≡ d.heritage
  pub methods : methods_in c.methods ≡ methods_in d.methods
