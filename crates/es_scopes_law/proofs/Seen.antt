-- Which names of a scope are seen from the parameters of its function: the parameters, and the own name of the function.
use Rattle.std.proofs.Common.{◌≡◌, refl, sym, ap, subst, ◌∙◌, ℕ, zero, suc, ◌+◌, List, [], ◌∷◌, ◌++◌, length, nat_eq, Bool, true, false, cond, ◌&&◌, ◌||◌, not, Option, Some, None, arith}
use Rattle.std.specs.Prelude.{slice_get, is_some, bytes_eq}
use Rattle.es_base.specs.Conforms.{conforms}
use Rattle.es_base.specs.Preorder.{one_if}
use Rattle.es_base.specs.Tree.{Tree, Parts, Node}
use Rattle.es_base.specs.declared.ids.SymbolId.{SymbolId}
use Rattle.es_base.specs.declared.kind.Kind.{Kind}
use Rattle.es_base.specs.declared.table.Place.{Place}
use Rattle.es_scopes.specs.Agreement.{own_name}
use Rattle.es_scopes.specs.Entries.{entries_of}
use Rattle.es_scopes.specs.Held.{weight, node_weight, parameter_names, other_names, held_weight}
use Rattle.es_scopes.specs.Opened.{opened}
use Rattle.es_scopes.specs.Table.{get_binding}
use Rattle.es_scopes.specs.Tables.{joined, declare, declared, none_declared, visible, is_other, declarer_at, AreOrdered}
use Rattle.es_scopes.specs.declared.declare.Declarations.{Declarations}
use Rattle.es_scopes.specs.declared.entry.Entry.{Entry}
use Rattle.es_scopes.specs.declared.entry.Entry.TheVariants as entry
use Rattle.es_scopes.specs.declared.surroundings.Declarer.{Declarer}
use Rattle.es_scopes.specs.declared.surroundings.Declarer.TheVariants as declarer
use Rattle.es_scopes.proofs.EachScope.{each-program}
use Rattle.es_scopes.proofs.OrderLemmas.{entries-ordered}
use Rattle.es_scopes.proofs.TableSteps.{scopes-declare}
use Rattle.es_scopes_law.proofs.Declarers.{Made, made-declare, entry_is, of_name, of_symbol, who_is, who-declare}
use Rattle.es_scopes_law.proofs.Held.{none-table}
use Rattle.es_steps.specs.References.{is_declared}
use Rattle.es_steps.specs.Scopes.{Declaration}

-- ---- numbers as booleans

abbrev pub some : ℕ → Bool
some zero = false
some (suc n) = true

pub some-plus : (a b : ℕ) → some (a + b) ≡ (some a || some b)
some-plus zero b = let e : 0 + b ≡ b = omega arith in ap some e
some-plus (suc a) b = let e : suc a + b ≡ suc (a + b) = omega arith in ap some e

some-one : (b : Bool) → some (one_if b) ≡ b
some-one true = refl
some-one false = refl

or-assoc : (a b c : Bool) → ((a || b) || c) ≡ (a || (b || c))
or-assoc true b c = refl
or-assoc false b c = refl

and-or : (a b c : Bool) → ((a && c) || (b && c)) ≡ ((a || b) && c)
and-or true true true = refl
and-or true true false = refl
and-or true false true = refl
and-or true false false = refl
and-or false true true = refl
and-or false true false = refl
and-or false false true = refl
and-or false false false = refl

pub made-none : Made none_declared
made-none = record { table = none-table; whole = λ s l. absurd (omega arith); many = refl }

module _ (P : Declarer → Bool) where
  -- an identifier of this name that is declared so weighs one
  abbrev pub spelled : List ℕ → Declarer → ℕ → List ℕ → ℕ
  spelled x who m name = one_if (bytes_eq x name && P who)

  abbrev pub some_entry : ℕ → List ℕ → List Entry → Bool
  some_entry q x [] = false
  some_entry q x (e ∷ es) = entry_is P q x e || some_entry q x es

  here : (a b c : Bool) → some (cond a (one_if (b && c)) 0) ≡ ((a && b) && c)
  here true b c = some-one (b && c)
  here false b c = refl

  some-held : (q : ℕ) (x : List ℕ) (es : List Entry) → some_entry q x es ≡ some (held_weight (spelled x) q es)
  some-held q x [] = refl
  some-held q x (entry.Scope node parent in_parameters flags ∷ es) = some-held q x es
  some-held q x (entry.Body node ∷ es) = some-held q x es
  some-held q x (entry.Binding node None who name flags head ∷ es) = some-held q x es ∙ sym (some-plus 0 (held_weight (spelled x) q es))
  some-held q x (entry.Binding node (Some s) who name flags head ∷ es) =
      (λ i. sym (here (nat_eq s.0 q) (bytes_eq x name) (P who)) i || some-held q x es i) ∙ sym (some-plus (cond (nat_eq s.0 q) (one_if (bytes_eq x name && P who)) 0) (held_weight (spelled x) q es))
  some-held q x (entry.Reference node scope in_parameters name flags ∷ es) = some-held q x es

  weight-some : (x : List ℕ) (who : Declarer) (ds : List Declaration) → some (weight (spelled x who) ds) ≡ (is_declared x ds && P who)
  weight-some x who [] = refl
  weight-some x who (d ∷ ds) = some-plus (one_if (bytes_eq x d.spelling && P who)) (weight (spelled x who) ds) ∙ (λ i. some-one (bytes_eq x d.spelling && P who) i || weight-some x who ds i) ∙ and-or (bytes_eq x d.spelling) (is_declared x ds) (P who)

  -- by the names of a node
  pub node-some : (x : List ℕ) (kind : Kind) (m : ℕ) (span : Option (ℕ × ℕ)) (id : Option ℕ) (ps : Parts) → some (node_weight (spelled x) (Node kind m span id ps)) ≡ (((is_declared x (parameter_names kind ps) && P declarer.Parameter) || (is_declared x (other_names kind m ps) && P declarer.Other)) || (is_declared x (own_name kind ps) && P declarer.OwnName))
  node-some x kind m span id ps =
      let a = weight (spelled x declarer.Parameter) (parameter_names kind ps) in
      let b = weight (spelled x declarer.Other) (other_names kind m ps) in
      let c = weight (spelled x declarer.OwnName) (own_name kind ps) in
      some-plus (a + b) c ∙ (λ i. (some-plus a b ∙ (λ j. weight-some x declarer.Parameter (parameter_names kind ps) j || weight-some x declarer.Other (other_names kind m ps) j)) i || weight-some x declarer.OwnName (own_name kind ps) i)

  module _ (both : (a b : Declarer) → P (joined a b) ≡ (P b || P a)) where
    -- the symbol of a name is declared so
    abbrev pub is_so : Declarations → ℕ → List ℕ → Bool
    is_so d q x = of_name false (who_is P both) (λ who flags head. P who) (λ a old who flags head. a || P who) d q x

    so-declared : (d : Declarations) (es : List Entry) (q : ℕ) (x : List ℕ) → Made d → AreOrdered (length d.scoping.scopes) es → is_so (declared d es) q x ≡ (is_so d q x || some_entry q x es)
    so-declared d [] q x made ordered = or_false (is_so d q x)
      where
        or_false : (b : Bool) → b ≡ (b || false)
        or_false true = refl
        or_false false = refl
    so-declared d (e ∷ es) q x made ordered =
        so-declared (declare d e) es q x (made-declare d e ordered.0 made) (subst (λ (n : ℕ). AreOrdered n es) (sym (scopes-declare d e)) ordered.1)
        ∙ ap (λ b. b || some_entry q x es) (who-declare P both d e q x made ordered.0)
        ∙ or-assoc (is_so d q x) (entry_is P q x e) (some_entry q x es)

    pub so-node : (t : Tree) (kind : Kind) (m : ℕ) (span : Option (ℕ × ℕ)) (id : Option ℕ) (ps : Parts) (j : ℕ) (x : List ℕ) → conforms Place.Program t ≡ true → slice_get (opened false t) j ≡ Some (Node kind m span id ps)
        → is_so (declared none_declared (entries_of t)) j x ≡ (((is_declared x (parameter_names kind ps) && P declarer.Parameter) || (is_declared x (other_names kind m ps) && P declarer.Other)) || (is_declared x (own_name kind ps) && P declarer.OwnName))
    so-node t kind m span id ps j x h at =
        so-declared none_declared (entries_of t) j x made-none (entries-ordered t)
        ∙ some-held j x (entries_of t)
        ∙ ap some (each-program (spelled x) t (Node kind m span id ps) j h at)
        ∙ node-some x kind m span id ps

-- ---- from parameters

abbrev pub is_seen : Declarer → Bool
is_seen who = not (is_other who)

seen-both : (a b : Declarer) → is_seen (joined a b) ≡ (is_seen b || is_seen a)
seen-both declarer.OwnName declarer.OwnName = refl
seen-both declarer.OwnName declarer.Parameter = refl
seen-both declarer.OwnName declarer.Other = refl
seen-both declarer.Parameter declarer.OwnName = refl
seen-both declarer.Parameter declarer.Parameter = refl
seen-both declarer.Parameter declarer.Other = refl
seen-both declarer.Other declarer.OwnName = refl
seen-both declarer.Other declarer.Parameter = refl
seen-both declarer.Other declarer.Other = refl

or-none : (a b c : Bool) → (((a && true) || (b && false)) || (c && true)) ≡ (a || c)
or-none true true c = refl
or-none true false c = refl
or-none false true true = refl
or-none false true false = refl
or-none false false true = refl
or-none false false false = refl

declared-append : (x : List ℕ) (ds es : List Declaration) → is_declared x (ds ++ es) ≡ (is_declared x ds || is_declared x es)
declared-append x [] es = refl
declared-append x (d ∷ ds) es = ap (λ b. bytes_eq x d.spelling || b) (declared-append x ds es) ∙ sym (or-assoc (bytes_eq x d.spelling) (is_declared x ds) (is_declared x es))

-- what is seen from the parameters of the j-th node with a scope
pub seen-from-parameters : (t : Tree) (kind : Kind) (m : ℕ) (span : Option (ℕ × ℕ)) (id : Option ℕ) (ps : Parts) (j : ℕ) (x : List ℕ) → conforms Place.Program t ≡ true → slice_get (opened false t) j ≡ Some (Node kind m span id ps)
    → is_some (visible (declared none_declared (entries_of t)) true (get_binding (declared none_declared (entries_of t)).scoping (record { 0 = j }) x)) ≡ is_declared x (parameter_names kind ps ++ own_name kind ps)
seen-from-parameters t kind m span id ps j x h at =
    let d = declared none_declared (entries_of t) in
    shown d (get_binding d.scoping (record { 0 = j }) x)
    ∙ so-node is_seen seen-both t kind m span id ps j x h at
    ∙ or-none (is_declared x (parameter_names kind ps)) (is_declared x (other_names kind m ps)) (is_declared x (own_name kind ps))
    ∙ sym (declared-append x (parameter_names kind ps) (own_name kind ps))
  where
    shown_where : (b : Bool) (y : SymbolId) → is_some (cond b None (Some y)) ≡ not b
    shown_where true y = refl
    shown_where false y = refl

    shown : (d : Declarations) (o : Option SymbolId) → is_some (visible d true o) ≡ of_symbol false (who_is is_seen seen-both) (λ who flags head. is_seen who) (λ a old who flags head. a || is_seen who) d o
    shown d None = refl
    shown d (Some y) = shown_where (is_other (declarer_at d.declarers y)) y
