-- What a class reads in its heritage and its keys, node by node.
use Rattle.std.proofs.Common.{◌≡◌, refl, ap, ◌∙◌, ℕ, List, [], ◌∷◌, ◌++◌, Bool, true, false, cond, ◌||◌, bytes_eq}
use Rattle.std.specs.List.{list_any}
use Rattle.std.proofs.lemmas.List.Folds.{list_any-append}
use Rattle.es_base.specs.Preorder.{preorder_of_part}
use Rattle.es_base.specs.Tree.{Tree, Parts, Node, end, more, child}
use Rattle.es_base.specs.declared.kind.Kind.{Kind}
use Rattle.es_node.specs.View.{kind_of}
use Rattle.es_steps.specs.ClassHeads.{key_nodes, body_keys, reads_spelling, named_by, is_named_pair}
use Rattle.es_steps.specs.Parts.{at, string_of}
use Rattle.es_steps.specs.PrivateNames.{is_element}
use Rattle.es_steps.specs.Values.{String}
use Rattle.es_shapes.specs.ClassHeads.{spells, element_key}

pub no_reference : (s : String) (t : Tree) → (kind_of t ≡ Kind.IdentifierReference → ⊥) → spells s t ≡ false
no_reference s (Node Kind.IdentifierReference m span semantic_id ps) other = absurd (other refl)
no_reference s (Node kind m span semantic_id ps) other = refl

reads-any : (s : String) (ts : List Tree) → reads_spelling s ts ≡ list_any (spells s) ts
reads-any s [] = refl
reads-any s (Node Kind.IdentifierReference m span semantic_id ps ∷ ts) = ap (λ b. bytes_eq s (string_of (at 0 ps)) || b) (reads-any s ts)
reads-any s (Node kind m span semantic_id ps ∷ ts) = reads-any s ts

is-pair : (n b : ℕ) (c : Bool) → is_named_pair (cond c ((n, b) ∷ []) []) ≡ c
is-pair n b true = refl
is-pair n b false = refl

pub head_reads : (n b : ℕ) (s : String) (xs ys : List Tree) → is_named_pair (cond (reads_spelling s (xs ++ ys)) ((n, b) ∷ []) []) ≡ (list_any (spells s) xs || list_any (spells s) ys)
head_reads n b s xs ys = is-pair n b (reads_spelling s (xs ++ ys)) ∙ reads-any s (xs ++ ys) ∙ list_any-append (spells s) xs ys

pub no_name : (n : ℕ) (t : Tree) (heads : List Tree) → (kind_of t ≡ Kind.BindingIdentifier → ⊥) → is_named_pair (named_by n (child t) heads) ≡ false
no_name n (Node Kind.BindingIdentifier m span semantic_id ps) heads other = absurd (other refl)
no_name n (Node kind m span semantic_id ps) heads other = refl

pub no_body : (t : Tree) → (kind_of t ≡ Kind.ClassBody → ⊥) → body_keys (child t) ≡ []
no_body (Node Kind.ClassBody m span semantic_id ps) other = absurd (other refl)
no_body (Node kind m span semantic_id ps) other = refl

-- the keys of the first element, and of those behind it
pub keys_first : (test : Tree → Bool) (t : Tree) (es : Parts) → list_any test (key_nodes (more (child t) es)) ≡ (list_any test (element_key t) || list_any test (key_nodes es))
keys_first test (Node kind m span semantic_id end) es = refl
keys_first test (Node kind m span semantic_id (more key ps)) es = list_any-append test (cond (is_element kind) (preorder_of_part key) []) (key_nodes es)

pub no_key : (t : Tree) → (kind_of t ≡ Kind.PropertyDefinition → ⊥) → (kind_of t ≡ Kind.MethodDefinition → ⊥) → element_key t ≡ []
no_key (Node kind m span semantic_id end) field method = refl
no_key (Node Kind.PropertyDefinition m span semantic_id (more key ps)) field method = absurd (field refl)
no_key (Node Kind.MethodDefinition m span semantic_id (more key ps)) field method = absurd (method refl)
no_key (Node kind m span semantic_id (more key ps)) field method = refl
