-- What gives a name a value is among what has the number of its spelling.
use Rattle.std.proofs.Common.{◌≡◌, refl, sym, ap, ◌∙◌, true≢false, ℕ, List, [], ◌∷◌, ◌++◌, Bool, true, false, cond, ◌&&◌, bytes_eq, nat_eq, Bor}
use Rattle.es_base.specs.Tree.{Tree, Parts}
use Rattle.es_base.specs.declared.kind.Kind.{Kind}
use Rattle.es_base.specs.declared.ledger.GeneratedKind.{GeneratedKind}
use Rattle.es_base.specs.declared.ledger.LedgerEntry.{LedgerEntry}
use Rattle.es_binding_faults.specs.Leasts.{Numbers}
use Rattle.es_binding_faults.specs.Seen.{seen}
use Rattle.es_grouped.specs.Groups.{having}
use Rattle.es_lowered.specs.Definitions.{spelling}
use Rattle.es_lowered.specs.Lowered.{initialization_at, initializations, is_class_kind, is_initial, is_method_kind}
use Rattle.es_node.specs.View.{kind_of, number_in, parts_in}
use Rattle.es_owed_initialized.proofs.GivenValues.{more_initializations}
use Rattle.es_owed_initialized.specs.Givers.{may_give, name_given, numbered_givers}
use Rattle.es_generated.proofs.NumberedNames.{apart}
use Rattle.es_generated.specs.Spellings.{spelling_number}
use Rattle.es_steps.specs.Parts.{at, is_present}
use Rattle.es_steps.specs.Values.{String}

pub assigned_name : (kind : Kind) (ps : Parts) → kind ≡ Kind.AssignmentExpression → name_given kind ps ≡ spelling (at 1 ps)
assigned_name kind ps is = ap (λ k. name_given k ps) is

pub declared_name : (kind : Kind) (ps : Parts) → (kind ≡ Kind.AssignmentExpression → ⊥) → name_given kind ps ≡ spelling (at 0 ps)
declared_name Kind.AssignmentExpression ps other = absurd (other refl)
declared_name kind ps other = refl

-- ---- nodes that give another name a value, and those that give none

gives_another : (first : ℕ) (ledger : List LedgerEntry) (q : Tree) (s : String) (g : GeneratedKind) (kind : Kind) (m : ℕ) (ps : Parts) → bytes_eq s (name_given kind ps) ≡ false → initialization_at first ledger q s g kind m ps ≡ []
gives_another first ledger q s g Kind.AssignmentExpression m ps other = ap (λ b. cond b ((m, is_initial first ledger q m g (at 2 ps)) ∷ []) []) other
gives_another first ledger q s g Kind.VariableDeclarator m ps other = ap (λ b. cond (b && is_present (at 1 ps)) ((m, is_initial first ledger q m g (at 1 ps)) ∷ []) []) other
gives_another first ledger q s g Kind.FunctionDeclaration m ps other = ap (λ b. cond b ((m, is_method_kind g) ∷ []) []) other
gives_another first ledger q s g Kind.ClassDeclaration m ps other = ap (λ b. cond b ((m, is_class_kind m g) ∷ []) []) other
gives_another first ledger q s g Kind.ClassExpression m ps other = ap (λ b. cond b ((m, is_class_kind m g) ∷ []) []) other
gives_another first ledger q s g Kind.FunctionExpression m ps other = ap (λ b. cond b ((m, false) ∷ []) []) other
gives_another first ledger q s g kind m ps other = refl

gives_none : (first : ℕ) (ledger : List LedgerEntry) (q : Tree) (s : String) (g : GeneratedKind) (kind : Kind) (m : ℕ) (ps : Parts) → may_give kind ≡ false → initialization_at first ledger q s g kind m ps ≡ []
gives_none first ledger q s g Kind.AssignmentExpression m ps other = absurd (true≢false other)
gives_none first ledger q s g Kind.VariableDeclarator m ps other = absurd (true≢false other)
gives_none first ledger q s g Kind.FunctionDeclaration m ps other = absurd (true≢false other)
gives_none first ledger q s g Kind.ClassDeclaration m ps other = absurd (true≢false other)
gives_none first ledger q s g Kind.ClassExpression m ps other = absurd (true≢false other)
gives_none first ledger q s g Kind.FunctionExpression m ps other = absurd (true≢false other)
gives_none first ledger q s g kind m ps other = refl

-- ---- by the number of the spelling

pub given_by_number : (first : ℕ) (ledger : List LedgerEntry) (q : Tree) (ns : Numbers) (s : String) (g : GeneratedKind) (ts : List (Bor Tree)) → initializations first ledger q s g (seen (having (spelling_number ns s) (numbered_givers ns ts))) ≡ initializations first ledger q s g (seen ts)
given_by_number first ledger q ns s g [] = refl
given_by_number first ledger q ns s g (t ∷ ts) = here (may_give (kind_of t.now)) refl (given_by_number first ledger q ns s g ts) ∙ sym (more_initializations first ledger q s g t.now (seen ts))
  where
    n : ℕ
    n = spelling_number ns s

    name : String
    name = name_given (kind_of t.now) (parts_in t.now)

    rest : List (Bor Tree)
    rest = having n (numbered_givers ns ts)

    given : List (ℕ × Bool)
    given = initialization_at first ledger q s g (kind_of t.now) (number_in t.now) (parts_in t.now)

    others : List (ℕ × Bool)
    others = initializations first ledger q s g (seen ts)

    named : (b : Bool) → nat_eq n (spelling_number ns name) ≡ b → initializations first ledger q s g (seen rest) ≡ others
        → initializations first ledger q s g (seen (cond b (t ∷ []) [] ++ rest)) ≡ given ++ others
    named true is h = more_initializations first ledger q s g t.now (seen rest) ∙ ap (λ (xs : List (ℕ × Bool)). given ++ xs) h
    named false is h = h ∙ ap (λ (xs : List (ℕ × Bool)). xs ++ others) (sym (gives_another first ledger q s g (kind_of t.now) (number_in t.now) (parts_in t.now) (apart ns s name is)))

    here : (b : Bool) → may_give (kind_of t.now) ≡ b → initializations first ledger q s g (seen rest) ≡ others
        → initializations first ledger q s g (seen (having n (cond b ((spelling_number ns name, t) ∷ []) [] ++ numbered_givers ns ts))) ≡ given ++ others
    here true is h = named (nat_eq n (spelling_number ns name)) refl h
    here false is h = h ∙ ap (λ (xs : List (ℕ × Bool)). xs ++ others) (sym (gives_none first ledger q s g (kind_of t.now) (number_in t.now) (parts_in t.now) is))
