use Rattle.std.proofs.Common.{sym, ap, ◌∙◌}
use Rattle.es_binding_faults.specs.Seen.{seen}
use Rattle.es_lowered.specs.ClassNames as spec
use Rattle.es_marks.specs.Marks.{marks_of}
use Rattle.es_owed_class_names.specs.Asked.{naming_in_lowered}
use Rattle.es_owed_class_names.specs.HeldNumbers.{held_numbers}
use Rattle.es_references.specs.References.{references_of}
use Rattle.es_steps.specs.References.{has_number}
use Rattle.es_owed_class_names.proofs.lowering.Lowering.of.Goals as goal

pub invariant_of-result : goal.invariant_of-result
invariant_of-result c =
    let lowered = c.args.lowered.now in
    let reads = c.in_ok-reads.reads in
    let nodes = ap seen c.as_slice-nodes.ensures.value ∙ lowered.in_preorder in
    record {
      classes_are = c.in_ok-classes.ensures ∙ ap (λ ns. spec.class_numbers (seen ns)) c.as_slice.ensures.value ∙ ap spec.class_numbers c.args.source.now.in_preorder;
      source_names_are = λ n among. c.in_ok-source_names.ensures n (ap (has_number n) c.as_slice-2.ensures.value ∙ among);
      names_are = λ n among. c.in_ok-names.ensures n (ap (has_number n) c.as_slice-3.ensures.value ∙ among) ∙ ap (λ es. naming_in_lowered c.args.first es lowered.program.now n) (sym c.in_ok-reads.ensures.ledger);
      source_marks_are = c.in_ok-source_marks.ensures ∙ ap marks_of c.as_slice-4.ensures.value ∙ c.requires.source_marks;
      marks_are = c.in_ok-marks.ensures ∙ ap marks_of c.as_slice-5.ensures.value ∙ c.requires.marks;
      source_placed_are = c.in_ok-source_placed.ensures;
      placed_are = c.in_ok-placed.ensures;
      holders_are = c.in_ok-holders.ensures;
      nodes_are = nodes;
      held_are = λ k. c.in_ok-held.ensures k ∙ ap (λ ts. has_number k (held_numbers (spec.moved_functions reads.ledger.now ts))) (c.in_ok-reads.ensures.nodes ∙ nodes);
      read_nodes_are = c.in_ok-reads.ensures.nodes ∙ nodes;
      read_references_are = c.in_ok-reads.ensures.references ∙ ap references_of c.as_slice-7.ensures.value ∙ lowered.are_resolved;
    }
