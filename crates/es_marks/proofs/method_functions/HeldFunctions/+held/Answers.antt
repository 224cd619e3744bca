use Rattle.std.proofs.Common.{◌≡◌, sym, ap, ◌∙◌, [], arith}
use Rattle.std.proofs.lemmas.List.{nil_from_length}
use Rattle.es_lowered.specs.Timely.{held_by}
use Rattle.es_marks.specs.Around.{held_parts, later_function, later_functions}
use Rattle.es_marks.specs.Marks.{marks_of}
use Rattle.es_marks.specs.MethodFunctions.{joined, method_functions}
use Rattle.es_marks.proofs.HeldFunctions.{held_by_first, held_by_none, held_by_others}
use Rattle.es_marks.proofs.method_functions.HeldFunctions.+held.Goals as goal

pub held_by-returns-in-empty : goal.held_by-returns-in-empty
held_by-returns-in-empty t c =
    let ms = marks_of c.args.self.now.needing.now.marks.now in
    let fs = method_functions c.args.self.now.functions.now in
    let none : c.args.later.now ≡ [] = nil_from_length c.args.later.now (omega (arith, c.in-empty.len_below)) in
    ap held_parts c.new.ensures.items ∙ sym (ap (λ xs. held_by ms (later_functions xs) fs) none ∙ held_by_none ms fs)

pub held_from-returns-then-not-stands_for : goal.held_from-returns-then-not-stands_for
held_from-returns-then-not-stands_for t c =
    let ms = marks_of c.args.self.now.needing.now.marks.now in
    let fs = method_functions c.args.self.now.functions.now in
    let function = later_function c.args.function in
    let rest = later_functions c.args.rest.now in
    c.in_ok-held.ensures
    ∙ sym (ap (λ gs. held_by ms gs fs) c.requires ∙ held_by_others ms fs function rest (sym c.stands_for.ensures ∙ c.if-not-stands_for.true))

pub held_from-returns : goal.held_from-returns
held_from-returns t c =
    let ms = marks_of c.args.self.now.needing.now.marks.now in
    let fs = method_functions c.args.self.now.functions.now in
    let function = later_function c.args.function in
    let rest = later_functions c.args.rest.now in
    c.in_ok-held-2.ensures
    ∙ ap joined c.held_lists.ensures
    ∙ sym (ap (λ gs. held_by ms gs fs) c.requires ∙ held_by_first ms fs function rest (sym c.any_stands_for.ensures ∙ c.if-any_stands_for.false))
