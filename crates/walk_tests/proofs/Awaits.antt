-- What is warned of at a node.
use Rattle.std.proofs.Common.{◌≡◌, refl, sym, ap, ◌∙◌, List, [], ◌∷◌, ◌++◌, append-nil}
use Rattle.std.proofs.lemmas.List.{map-append}
use Rattle.es_base.specs.Tree.{Tree, Node}
use Rattle.es_base.specs.declared.diagnostic.Diagnostic.{Diagnostic}
use Rattle.es_base.specs.declared.kind.Kind.{Kind}
use Rattle.es_node.specs.View.{kind_of, number_in}
use Rattle.walk_tests.specs.Warnings.{warned, own_await}

pub await_warned : (t : Tree) (old new : List Diagnostic) (d : Diagnostic) → kind_of t ≡ Kind.AwaitExpression → d.node.0 ≡ number_in t → new ≡ old ++ d ∷ [] → warned new ≡ warned old ++ own_await t
await_warned (Node k i sp si ps) old new d is number made =
    let own : own_await (Node k i sp si ps) ≡ i ∷ [] = ap (λ l. own_await (Node l i sp si ps)) is in
    ap warned made ∙ map-append (λ (e : Diagnostic). e.node.0) old (d ∷ []) ∙ ap (λ n. warned old ++ n ∷ []) number ∙ sym (ap (λ ns. warned old ++ ns) own)

pub not_warned : (t : Tree) (found : List Diagnostic) → (kind_of t ≡ Kind.AwaitExpression → ⊥) → warned found ≡ warned found ++ own_await t
not_warned (Node Kind.AwaitExpression i sp si ps) found other = absurd (other refl)
not_warned (Node k i sp si ps) found other = sym (append-nil (warned found))
