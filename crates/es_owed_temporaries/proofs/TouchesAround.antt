-- Touches, node by node.
use Rattle.std.proofs.Common.{◌≡◌, refl, ap, ◌∙◌, ℕ, suc, ◌+◌, List, [], ◌∷◌, ◌++◌, Bool, true, false, ◌&&◌, ◌||◌, None}
use Rattle.std.specs.Prelude.{not}
use Rattle.es_base.specs.Table.{Field, members_of}
use Rattle.es_base.specs.Tree.{Tree, Parts, Node, end, more, child}
use Rattle.es_base.specs.declared.kind.Kind.{Kind}
use Rattle.es_base.specs.declared.ledger.LedgerEntry.{LedgerEntry}
use Rattle.es_node.specs.View.{kind_of, number_in, parts_in}
use Rattle.es_steps.specs.Parts.{at, is_present, string_of}
use Rattle.es_steps.specs.References.{is_target}
use Rattle.es_steps.specs.Scopes.{binds}
use Rattle.es_lowered.specs.Temporaries.{Spot, Touch, declaration_in, home_in, is_bare, is_block, is_name_of_function, spot_in, touch, touch_of, touches, touches_at, touches_in}
use Rattle.es_places.specs.Placing.{surroundings_within}
use Rattle.es_places.proofs.Placed.{at_once, from_zero, one_on}
use Rattle.es_owed_temporaries.specs.Touches.{spot_within, touches_from}

module _ (first : ℕ) (ledger : List LedgerEntry) where
  from_place : (x f : ℕ → Spot) (bare : Bool) (i : ℕ) (fs : List Field) (ps : Parts) → ((k : ℕ) → f k ≡ x (i + k)) → touches_in first ledger f bare fs ps ≡ touches_from first ledger x bare i fs ps
  from_place x f bare i fs end same = refl
  from_place x f bare i [] (more p ps) same = refl
  from_place x f bare i (m ∷ fs) (more p ps) same =
      let gives = is_target m.sort || (binds m.sort && not bare) in
      ap (λ (s : Spot). touches_at first ledger s gives p ++ touches_in first ledger (λ k. f (suc k)) bare fs ps) (same 0 ∙ ap x (at_once i))
      ∙ ap (λ (xs : List Touch). touches_at first ledger (x i) gives p ++ xs) (from_place x (λ k. f (suc k)) bare (i + 1) fs ps (λ k. same (suc k) ∙ ap x (one_on i k)))

  pub touches_node : (x : Spot) (gives : Bool) (t : Tree) → touches first ledger x gives t ≡ touch_of gives x (kind_of t) (parts_in t) ++ touches_from first ledger (spot_within first ledger x t) (is_bare (kind_of t) (parts_in t)) 0 (members_of (kind_of t)) (parts_in t)
  touches_node x gives (Node kind m span semantic_id ps) =
      ap (λ (ts : List Touch). touch_of gives x kind ps ++ ts) (from_place (spot_in first ledger x kind m ps) (spot_in first ledger x kind m ps) (is_bare kind ps) 0 (members_of kind) ps (λ k. ap (spot_in first ledger x kind m ps) (from_zero k)))

  pub touches_alike : (x : ℕ → Spot) (b c : Bool) (fs gs : List Field) (ps qs : Parts) → b ≡ c → fs ≡ gs → ps ≡ qs → touches_from first ledger x b 0 fs ps ≡ touches_from first ledger x c 0 gs qs
  touches_alike x b c fs gs ps qs same_bare same_members same_parts = rw (same_bare, same_members, same_parts) refl

  pub within_node : (x : Spot) (t : Tree) (i : ℕ) → spot_within first ledger x t i ≡ record { around = surroundings_within first ledger x.around t i; is_function_name = is_name_of_function (kind_of t) i; declaration = declaration_in (kind_of t) (number_in t) x.declaration; home = home_in first x (kind_of t) (number_in t) (parts_in t) i }
  within_node x (Node kind m span semantic_id ps) i = refl

-- ---- identifiers

module _ (gives : Bool) (x : Spot) (ps : Parts) where
  pub touch_reference : (kind : Kind) → kind ≡ Kind.IdentifierReference → touch_of gives x kind ps ≡ touch (string_of (at 0 ps)) false gives x
  touch_reference kind is = ap (λ k. touch_of gives x k ps) is

  pub touch_binding : (kind : Kind) → kind ≡ Kind.BindingIdentifier → touch_of gives x kind ps ≡ touch (string_of (at 0 ps)) true gives x
  touch_binding kind is = ap (λ k. touch_of gives x k ps) is

  pub touch_none : (kind : Kind) → (kind ≡ Kind.IdentifierReference → ⊥) → (kind ≡ Kind.BindingIdentifier → ⊥) → touch_of gives x kind ps ≡ []
  touch_none Kind.IdentifierReference a b = absurd (a refl)
  touch_none Kind.BindingIdentifier a b = absurd (b refl)
  touch_none kind a b = refl

pub bare_declarator : (kind : Kind) (ps : Parts) → kind ≡ Kind.VariableDeclarator → is_bare kind ps ≡ not (is_present (at 1 ps))
bare_declarator kind ps is = ap (λ k. is_bare k ps) is

pub not_bare : (kind : Kind) (ps : Parts) → (kind ≡ Kind.VariableDeclarator → ⊥) → is_bare kind ps ≡ false
not_bare Kind.VariableDeclarator ps other = absurd (other refl)
not_bare kind ps other = refl

-- ---- what is around

pub no_function_name : (kind : Kind) (i : ℕ) → (kind ≡ Kind.FunctionDeclaration → ⊥) → is_name_of_function kind i ≡ false
no_function_name Kind.FunctionDeclaration i other = absurd (other refl)
no_function_name kind i other = refl

pub no_declaration : (kind : Kind) (m around : ℕ) → (kind ≡ Kind.FunctionDeclaration → ⊥) → declaration_in kind m around ≡ around
no_declaration Kind.FunctionDeclaration m around other = absurd (other refl)
no_declaration kind m around other = refl

pub block_node : (t : Tree) → is_block (child t) ≡ is_block (child (Node (kind_of t) 0 None None end))
block_node (Node Kind.BlockStatement m span semantic_id ps) = refl
block_node (Node kind m span semantic_id ps) = refl
