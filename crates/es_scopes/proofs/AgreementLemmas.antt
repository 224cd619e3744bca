-- A table that is changed where a tree does not look agrees with it still.
use Rattle.std.proofs.Common.{◌≡◌, sym, ap, subst, ◌∙◌, ℕ, List, Some}
use Rattle.std.specs.Prelude.{is_some, Contains}
use Rattle.es_base.specs.Carried.{scope_number, symbol_number}
use Rattle.es_base.specs.Conforms.{is_among}
use Rattle.es_base.specs.Tree.{Tree}
use Rattle.es_base.specs.declared.ids.ScopeId.{ScopeId}
use Rattle.es_base.specs.declared.ids.ReferenceId.{ReferenceId}
use Rattle.es_scopes.specs.Agreement.{Agrees, AreAlike, CarriesScope, CarriesReference, carried, HasScopeOf, HasSymbolOf, HasReferenceOf, target_number, meant_symbol}
use Rattle.es_scopes.specs.NodeScopes.{NodeScope, scopes_of}
use Rattle.es_scopes.specs.Table.{Table}
use Rattle.es_steps.specs.References.{Reference, resolve}

module _ (t : Tree) (before after : Table) (alike : AreAlike t before after) where
  scope-alike : (x : NodeScope) (s : ScopeId) → Contains (scopes_of t) x → CarriesScope before t x s → CarriesScope after t x s
  scope-alike x s within h =
      let own : HasScopeOf t s = (x, within, h.carries) in
      record {
        carries = h.carries;
        there = alike.there s own h.there;
        parent = ap scope_number (alike.parent s own h.there) ∙ h.parent;
        names = λ name. ap is_some (alike.names s own h.there name) ∙ h.names name;
        symbols = λ d held. h.symbols d held ∙ sym (ap symbol_number (alike.names s own h.there d.spelling));
      }

  reference-alike : (r : Reference) (k : ReferenceId) → Contains (resolve t) r → CarriesReference before t r k → CarriesReference after t r k
  reference-alike r k within h =
      let own : HasReferenceOf t k = (r, within, h.carries) in
      record { carries = h.carries; there = alike.references k own h.there; target = alike.targets k own h.there ∙ h.target }

  pub agrees-alike : (generated : List (List ℕ)) → Agrees generated before t → Agrees generated after t
  agrees-alike generated h = record {
    scopes = λ x within. let was = h.scopes x within in (was.0, scope-alike x was.0 within was.1);
    apart = h.apart;
    references = λ r within. let was = h.references r within in (was.0, reference-alike r was.0 within was.1);
    symbols = λ b y within carries. alike.symbols y (b, within, carries) (h.symbols b y within carries);
    mutated = λ b y within carries left.
        let own : HasSymbolOf t y = (b, within, carries) in
        let there = h.symbols b y within carries in
        let was = h.mutated b y within carries (ap (λ name. is_among name generated) (sym (alike.called y own there)) ∙ left) in
        let same = alike.mutated y own there in
        (λ m. was.0 (same.0 m), λ w. same.1 (was.1 w));
  }

-- what a reference means is what its number says
pub means-number : (generated : List (List ℕ)) (table : Table) (t : Tree) → Agrees generated table t → (r : Reference) → Contains (resolve t) r → (k : ReferenceId) → carried t r.number ≡ Some k.0 → target_number table k ≡ meant_symbol t r.to
means-number generated table t h r within k carries =
    let own = h.references r within in
    let same : own.0.0 ≡ k.0 = cc (own.1.carries) in
    subst (λ (n : ℕ). target_number table (record { 0 = n }) ≡ meant_symbol t r.to) same own.1.target
