use Rattle.std.proofs.Common.{sym, subst, ap₂, ◌∙◌}
use Rattle.std.specs.Prelude.{◌↔◌, IsTrue, bytes_eq, nat_eq}
use Rattle.es_by_number.specs.Numbered.{pairs}
use Rattle.es_declarations.specs.Globals.{names_in}
use Rattle.es_declarations.specs.Kinds.{bindings_in}
use Rattle.es_meanings.proofs.Alike.{named_alike}
use Rattle.es_meanings.specs.Differences.{AreNamedAlike}
use Rattle.es_steps.specs.SameMeanings.{same_declaration, same_list, same_numbered}
use Rattle.es_meanings.proofs.difference.same_declared.Goals as goal

pub returns : goal.returns
returns c = λ a b m n.
    let functions = c.same_numbered-functions.ensures ∙ ap₂ (λ xs ys. same_list (same_numbered nat_eq) (pairs xs) (pairs ys)) c.as_slice.ensures.value c.as_slice-2.ensures.value in
    let bindings = c.same_bindings-bindings.ensures ∙ ap₂ (λ xs ys. same_list (same_numbered same_declaration) (bindings_in xs) (bindings_in ys)) c.as_slice-3.ensures.value c.as_slice-4.ensures.value in
    let globals = c.same_names-globals.ensures ∙ ap₂ (λ xs ys. same_list (same_numbered bytes_eq) (names_in xs) (names_in ys)) c.as_slice-5.ensures.value c.as_slice-6.ensures.value in
    subst (λ t. IsTrue t ↔ AreNamedAlike a b) (sym c.all.ensures) (named_alike c.args.left.now c.args.right.now a b _ _ _ functions bindings globals m n)
