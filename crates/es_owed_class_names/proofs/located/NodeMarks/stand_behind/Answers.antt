use Rattle.std.proofs.Common.{ap, sym, ◌∙◌, not}
use Rattle.std.specs.List.{list_any}
use Rattle.es_marks.specs.Located.{located, located_of}
use Rattle.es_marks.specs.Marks.{marks_of}
use Rattle.es_owed_class_names.proofs.NodeMarks.{standing}
use Rattle.es_owed_class_names.specs.LocatedMarks.{is_early, of_nodes}
use Rattle.es_owed_class_names.proofs.located.NodeMarks.stand_behind.Goals as goal

pub returns : goal.returns
returns c =
    let asked = c.args.asked.now in
    let ms = marks_of c.args.self.now.marks.now in
    let all = of_nodes asked (located 0 ms) in
    ap not
    (c.any_early.ensures
    ∙ ap (λ xs. list_any (is_early (located_of xs)) all) c.as_slice.ensures.value
    ∙ ap (λ ys. list_any (is_early ys) all) c.in_ok-fronts.ensures)
    ∙ sym (standing asked ms)
