use Rattle.std.proofs.Common.{ap, ◌∙◌, ◌++◌, None}
use Rattle.es_lowered.specs.Timely.{Around}
use Rattle.es_marks.specs.Around.{around_here}
use Rattle.es_marks.specs.Marks.{marks_of}
use Rattle.es_owed_timely.specs.Search.{marks}
use Rattle.es_owed_class_names.proofs.marked.marks_found.Goals as goal

pub returns : goal.returns
returns c =
    let of = λ (x : Around). marks c.args.search.now x None c.args.program.now in
    c.in_ok-add_marks.ensures
    ∙ ap (λ ms. marks_of ms ++ of (around_here c.nowhere.result)) c.new-marks.ensures.items
    ∙ ap (λ x. of x) c.nowhere.ensures
