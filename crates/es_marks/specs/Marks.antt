-- Marks in code, as definitions see them.
use Rattle.std.specs.Prelude.{List, map}
use Rattle.std.specs.Option.{option_to_list}
use Rattle.std.specs.Str.{chars}
use Rattle.es_lowered.specs.Timely as spec
use Rattle.es_marks.specs.Around.{surroundings_of}
use Rattle.es_marks.specs.declared.marks.Mark.{Mark}
use Rattle.es_marks.specs.declared.marks.MarkForm.{MarkForm}

abbrev pub form_in : MarkForm → spec.MarkForm
form_in MarkForm.Declares = spec.declares
form_in MarkForm.Leads = spec.leads
form_in MarkForm.Initializes = spec.initializes
form_in MarkForm.Hoists = spec.hoists
form_in MarkForm.Uses = spec.uses
form_in MarkForm.Needs = spec.needs

abbrev pub mark_of : Mark → spec.Mark
mark_of x = record { name = chars x.name.now; node = option_to_list x.node; form = form_in x.form; around = surroundings_of x.around }

abbrev pub marks_of : List Mark → List spec.Mark
marks_of xs = map mark_of xs
