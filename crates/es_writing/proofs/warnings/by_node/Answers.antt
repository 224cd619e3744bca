use Rattle.std.proofs.Common.{rules, subst, List}
use Rattle.std.proofs.lemmas.Fn.{always_returns_same}
use Rattle.es_base.specs.declared.diagnostic.Diagnostic.{Diagnostic}
use Rattle.es_writing.specs.Lowered.{IsArranged, warning_cmp}
use Rattle.es_writing.proofs.warnings.by_node.Goals as goal

pub returns : goal.returns
returns c =
    subst (λ (l : List Diagnostic). IsArranged warning_cmp l c.sort_by_key.new.self.items) c.in_ok-ordered.ensures.items (record {
      same = c.sort_by_key.ensures.permutation;
      sorted = c.in_ok-sort_by_key.ensures.sorted (λ d. d.node.0) (always_returns_same _ _ _ (λ a r f k. search rules));
      stable = c.sort_by_key.ensures.stable (λ d. d.node.0) (always_returns_same _ _ _ (λ a r f k. search rules));
    })
