use Rattle.std.proofs.Common.{◌≡◌, sym, ap, ◌∙◌, ℕ, List, [], ◌∷◌, ◌++◌, append-nil}
use Rattle.es_base.specs.Tree.{Tree}
use Rattle.es_binding_faults.specs.Seen.{seen}
use Rattle.es_lowered.specs.ClassNames.{class_numbers, without}
use Rattle.es_lowered.specs.Lowered.{private_numbers}
use Rattle.es_lowered.specs.Temporaries.{nodes_of_class}
use Rattle.es_owed_initialized.proofs.InnerClasses.{nodes_numbered}
use Rattle.es_owed_initialized.proofs.inner.with_inner.Goals as goal

abbrev inner : List Tree → List ℕ
inner ts = without (private_numbers ts) (class_numbers ts)

pub returns : goal.returns
returns c =
    let n = c.args.class in
    let ts = seen c.args.source.now.nodes.items in
    let us = seen c.as_slice.result.now in
    let found : us ≡ nodes_of_class n ts = ap seen c.as_slice.ensures.value ∙ c.in_ok-inner.ensures ∙ ap (nodes_of_class n) c.numbered.ensures ∙ nodes_numbered n ts in
    let pushed : c.push.new.self.items ≡ n ∷ [] = c.in_ok-push.ensures.items ∙ ap (λ (ks : List ℕ). ks ++ n ∷ []) c.new-classes.ensures.items in
    c.in_ok-add_inner.ensures
    ∙ ap (λ (ks : List ℕ). ks ++ inner us) pushed
    ∙ ap (λ (vs : List Tree). n ∷ inner vs) found
    ∙ ap (λ (ks : List ℕ). n ∷ ks) (sym (append-nil (inner (nodes_of_class n ts))))
