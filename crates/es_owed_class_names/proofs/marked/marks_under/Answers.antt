use Rattle.std.proofs.Common.{◌≡◌, ap, sym, subst, ◌∙◌, List, [], None, IfOk}
use Rattle.es_base.specs.declared.ledger.LedgerEntry.{LedgerEntry}
use Rattle.es_lowered.specs.Timely.{marks, needed_names, nowhere}
use Rattle.es_marks.specs.Marks.{marks_of}
use Rattle.es_owed_timely.specs.Needed.{names_of}
use Rattle.es_owed_timely.specs.Search.{has_node}
use Rattle.es_owed_class_names.proofs.marked.marks_under.Goals as goal

pub invariant_of-search : goal.invariant_of-search
invariant_of-search c = record {
  needed_are = λ n. ap names_of (c.new.ensures n) ∙ sym (ap (λ es. needed_names n [] es) c.requires);
}

pub returns : goal.returns
returns c =
    subst (λ (es : List LedgerEntry). IfOk c.marks_found.result (λ r. marks_of r.items ≡ marks c.args.first es [] has_node [] nowhere None c.args.program.now)) c.requires c.marks_found.ensures
