use Rattle.std.proofs.Common.{◌≡◌, sym, ap, ◌∙◌, [], arith}
use Rattle.std.proofs.lemmas.List.{nil_from_length}
use Rattle.es_binding_faults.proofs.Appending.{IfOk-map}
use Rattle.es_binding_faults.specs.Seen.{seen}
use Rattle.es_lowered.specs.ClassNames as spec
use Rattle.es_owed_references.specs.Moved.{functions_of}
use Rattle.es_references.specs.References.{references_of}
use Rattle.es_owed_class_names.proofs.AskedNames.{none_reaching}
use Rattle.es_owed_class_names.proofs.asked.reaching.Goals as goal

pub returns-in-empty : goal.returns-in-empty
returns-in-empty c =
    let reads = c.args.lowering.now.reads in
    let ledger = reads.ledger.now in
    let rs = references_of reads.references.now in
    let ts = seen reads.nodes.now in
    let names = c.args.names.now in
    let functions = c.args.functions.now in
    let none : functions ≡ [] = nil_from_length functions (omega (arith, c.in-empty.len_below)) in
    IfOk-map c.copied.result
    (λ r. r.items ≡ names)
    (λ r. r.items ≡ spec.reaching ledger (functions_of functions) rs ts names)
    (λ r is. is ∙ sym (ap (λ fs. spec.reaching ledger (functions_of fs) rs ts names) none ∙ none_reaching ledger rs ts names)) c.copied.ensures
