-- Directives.
use Rattle.std.proofs.Common.{◌≡◌, refl, sym, ap, List, ℕ, false}
use Rattle.std.specs.Prelude.{codes, bytes_eq}
use Rattle.std.specs.Str.{chars}
use Rattle.std.proofs.lemmas.Slice.Eq.{bytes_eq-Decides}
use Rattle.std.proofs.lemmas.Bool.Decides.{same_from_decides}
use Rattle.es_base.specs.Tree.{Tree, Node, end, child}
use Rattle.es_base.specs.declared.kind.Kind.{Kind}
use Rattle.es_node.specs.View.{kind_of, parts_in}
use Rattle.es_steps.specs.Strict.{directives, is_use_strict}
use Rattle.es_steps.specs.Parts.{at, items, string_of}

pub block_is : (t : Tree) → kind_of t ≡ Kind.BlockStatement → directives (child t) ≡ items (at 0 (parts_in t))
block_is (Node kind id span semantic_id ps) is = ap (λ k. directives (child (Node k id span semantic_id ps))) is

pub no_block : (t : Tree) → (kind_of t ≡ Kind.BlockStatement → ⊥) → directives (child t) ≡ end
no_block (Node Kind.BlockStatement id span semantic_id ps) other = absurd (other refl)
no_block (Node kind id span semantic_id ps) other = refl

pub directive_is : (t : Tree) → kind_of t ≡ Kind.ExpressionStatement → is_use_strict (child t) ≡ bytes_eq (string_of (at 1 (parts_in t))) (codes "use strict")
directive_is (Node kind id span semantic_id ps) is = ap (λ k. is_use_strict (child (Node k id span semantic_id ps))) is

pub no_directive : (t : Tree) → (kind_of t ≡ Kind.ExpressionStatement → ⊥) → is_use_strict (child t) ≡ false
no_directive (Node Kind.ExpressionStatement id span semantic_id ps) other = absurd (other refl)
no_directive (Node kind id span semantic_id ps) other = refl

pub use_strict_word : (s : List ℕ) → bytes_eq (chars (codes "use strict")) s ≡ bytes_eq s (codes "use strict")
unfolding chars
use_strict_word s =
    let one = bytes_eq-Decides (codes "use strict") s in
    let other = bytes_eq-Decides s (codes "use strict") in
    same_from_decides _ _ one (λ t. sym (other.0 t), λ e. other.1 (sym e))
