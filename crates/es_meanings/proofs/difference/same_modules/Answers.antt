use Rattle.std.proofs.Common.{◌≡◌, List, sym, subst, ap₂, ◌∙◌, Some}
use Rattle.std.specs.Prelude.{◌↔◌, IsTrue}
use Rattle.es_exports.specs.Exports.{exports_of}
use Rattle.es_exports.specs.declared.export.Export.{Export}
use Rattle.es_meanings.proofs.Alike.{modules_alike}
use Rattle.es_meanings.specs.Differences.{AreModulesAlike}
use Rattle.es_modules.specs.Links.{links_of}
use Rattle.es_steps.specs.Meaning.{all_exports}
use Rattle.es_steps.specs.SameMeanings.{same_link, same_list}
use Rattle.es_meanings.proofs.difference.same_modules.Goals as goal

pub returns : goal.returns
returns c = λ a b m n.
    let links = c.same_links-links.ensures ∙ ap₂ (λ xs ys. same_list same_link (links_of xs) (links_of ys)) c.as_slice.ensures.value c.as_slice-2.ensures.value in
    let left = subst (λ (xs : List Export). all_exports (exports_of xs) ≡ Some a.exports) (sym c.as_slice-3.ensures.value) m.exports in
    let right = subst (λ (xs : List Export). all_exports (exports_of xs) ≡ Some b.exports) (sym c.as_slice-4.ensures.value) n.exports in
    subst (λ t. IsTrue t ↔ AreModulesAlike a b) (sym c.all.ensures) (modules_alike c.args.left.now c.args.right.now a b _ _ _ c.is_word-source_type.ensures.by_chars links (c.same_exports-exports.ensures a.exports b.exports left right) m n)
