use Rattle.std.proofs.Common.{drop, map}
use Rattle.es_writing.specs.Lowered.{NamesAreStrings, NumbersFit}
use Rattle.es_writing.proofs.generated.visit_names.Given as goal

abbrev pub invariant-loop-entry : goal.invariant-loop-entry
invariant-loop-entry l =
    (NamesAreStrings (map (λ e. e.now) (drop l.entry-index l.entries)) → NamesAreStrings (map (λ e. e.now) l.entries))
    × (NumbersFit (map (λ e. e.now) (drop l.entry-index l.entries)) → NumbersFit (map (λ e. e.now) l.entries))
