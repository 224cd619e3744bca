use Rattle.std.proofs.Common.{refl}
use Rattle.es_binding_faults.proofs.Appending.{appended, appended_all}
use Rattle.es_by_number.specs.Numbered.{numbered}
use Rattle.es_marks.specs.Located.{located, located_mark}
use Rattle.es_marks.specs.Marks.{mark_of, marks_of}
use Rattle.es_owed_class_names.specs.LocatedMarks.{with_node, with_nodes}
use Rattle.es_owed_class_names.proofs.located.with_nodes.Goals as goal

pub loop-place-preserved : goal.loop-place-preserved
loop-place-preserved c = appended (λ i xs. with_nodes (located i (marks_of xs))) (λ i x. with_node (i, mark_of x)) (λ i x xs. refl) (numbered located_mark c.loop-place.items.items) _ (with_nodes (located 0 (marks_of c.args.marks.now))) c.args.marks.now c.loop-place.place c.index-marks-place.result c.loop-place-test.true c.index-marks-place.is c.in_ok-add_with_node.ensures c.loop-place.invariant

pub returns : goal.returns
returns c = appended_all (λ i xs. with_nodes (located i (marks_of xs))) (numbered located_mark c.loop-place.items.items) (with_nodes (located 0 (marks_of c.args.marks.now))) c.args.marks.now c.loop-place.place (λ k. refl) c.loop-place-test.false c.loop-place.invariant
