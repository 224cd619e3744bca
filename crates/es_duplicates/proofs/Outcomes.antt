-- What follows of a result, from what is known of it.
use Rattle.std.proofs.Common.{◌≡◌, refl, List, [], ◌∷◌, length, Bool, true, false, not, arith}
use Rattle.std.specs.Prelude.{IfOk, OnOk, Result, Ok, Err, slice_get, Some, remove}
use Rattle.std.specs.declared.alloc.AllocError.{AllocError}
use Rattle.es_base.specs.Tree.{Tree, Node}
use Rattle.es_base.specs.declared.ids.SymbolId.{SymbolId}
use Rattle.es_base.specs.declared.kind.Kind.{Kind}
use Rattle.es_duplicates.specs.Repetition.{constant_repetition, repetition}
use Rattle.es_duplicates.specs.declared.repetition.Repetition.{Repetition}
use Rattle.es_node.specs.View.{kind_of}
use Rattle.es_scopes.specs.Table.{Table}
use Rattle.es_steps.specs.LoweredClasses.{has_no_items, is_regular_expression}
use Rattle.es_steps.specs.Parts.{at}

pub of_three : {X : Type 0} (r : Result X AllocError) (P Q S : X → Type 0) (T : Type 0) → ((x : X) → P x → Q x → T → S x) → IfOk r P → IfOk r Q → OnOk r T → IfOk r S
of_three (Ok x) P Q S T f p q t = f x p q t
of_three (Err e) P Q S T f p q t = tt

pub of_one : {X : Type 0} (r : Result X AllocError) (T U : Type 0) → (T → U) → OnOk r T → OnOk r U
of_one (Ok x) T U f t = f t
of_one (Err e) T U f t = tt

-- only names are read again as names
no_name : (b : Bool) (y : SymbolId) → Repetition.Name y ≡ constant_repetition b → ⊥
no_name true y h = cc
no_name false y h = cc

pub named_is_name : (t : Table) (counts : Bool) (e : Tree) (y : SymbolId) → Repetition.Name y ≡ repetition t counts e → kind_of e ≡ Kind.IdentifierReference
named_is_name t counts (Node Kind.IdentifierReference m span id ps) y h = refl
named_is_name t counts (Node Kind.Literal m span id ps) y h = absurd (no_name (not (is_regular_expression (at 0 ps))) y h)
named_is_name t counts (Node Kind.TemplateLiteral m span id ps) y h = absurd (no_name (has_no_items (at 1 ps)) y h)
named_is_name t counts (Node kind m span id ps) y h = absurd (cc)

-- the items of a list of one, and of two
pub the_one : {X : Type 0} (xs : List X) (x : X) → length xs ≡ 1 → slice_get xs 0 ≡ Some x → xs ≡ x ∷ []
the_one [] x len is = cc
the_one (y ∷ []) x len is = cc
the_one (y ∷ z ∷ xs) x len is = absurd (omega (arith, len))

pub the_two : {X : Type 0} (xs rest : List X) (x y : X) → length xs ≡ 2 → slice_get xs 0 ≡ Some x → rest ≡ remove xs 0 → slice_get rest 0 ≡ Some y → xs ≡ x ∷ y ∷ []
the_two (a ∷ b ∷ []) rest x y len first taken second = cc
the_two [] rest x y len first taken second = cc
the_two (a ∷ []) rest x y len first taken second = absurd (omega (arith, len))
the_two (a ∷ b ∷ c ∷ xs) rest x y len first taken second = absurd (omega (arith, len))
