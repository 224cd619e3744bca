-- Nodes whose old numbers ascend and whose new numbers stand in turn: what such a list owes.
use Rattle.std.proofs.Common.{◌≡◌, refl, sym, ◌∙◌, ℕ, ◌+◌, ◌<◌, ◌≤◌, ◌⊎◌, inl, inr, List, [], ◌∷◌, ◌++◌, map, Bool, true, false, arith}
use Rattle.std.specs.Prelude.{◌&&◌, ◌||◌, not, nat_eq, filter}
use Rattle.std.specs.List.{IsDistinct, AllByRecursion}
use Rattle.std.proofs.lemmas.Bool.{le-leb, lt-leb, and_parts, not-true, true≢false}
use Rattle.std.proofs.Math.Bool.{and-false}
use Rattle.es_base.specs.Numbered.{is_new, AreConsecutive, EachOnce}
use Rattle.es_base.specs.Preorder.{number_of}
use Rattle.es_base.specs.Tree.{Tree, Node}
use Rattle.es_base.specs.declared.kind.Kind.{Kind}
use Rattle.es_left.proofs.Booleans.{none_of}
use Rattle.es_lowered.specs.Lowered.{is_new_const, all_accounted}
use Rattle.es_steps.specs.LoweredClasses.{is_lowered_kind, kind_of, none_lowered}
use Rattle.es_steps.specs.Options.{both_lowered}
use Rattle.es_base.specs.declared.ledger.LedgerEntry.{LedgerEntry}
use Rattle.es_lowered.specs.ClassNames.{MovedFunction}
use Rattle.es_lowered.specs.OwnNames.{loses_name, none_loses_name, reads_itself, none_reads_itself}
use Rattle.es_steps.specs.References.{Reference}
use Rattle.es_steps.specs.Scopes.{is_binding_identifier, is_class_expression}
use Rattle.es_steps.specs.declared.options.Options.{Options}

-- kinds of nodes that declare names, kinds that stay, and kinds of new nodes
abbrev pub declares_names : Kind → Bool
declares_names Kind.VariableDeclaration = true
declares_names kind = is_binding_identifier kind

abbrev pub declares_variables : Kind → Bool
declares_variables Kind.VariableDeclaration = true
declares_variables Kind.VariableDeclarator = true
declares_variables kind = false

abbrev pub stays : Kind → Bool
stays kind = not (is_lowered_kind both_lowered kind) && not (is_class_expression kind || declares_variables kind)

abbrev pub may_be_new : Kind → Bool
may_be_new kind = stays kind && not (declares_names kind)

-- old nodes with numbers from lo to below hi, which ascend, and new ones with the numbers from n to below m, in turn
pub data Laid (first hi m : ℕ) : ℕ → ℕ → List Tree → Type 0 where
  none : {lo n : ℕ} → lo ≤ hi → n ≡ m → Laid first hi m lo n []
  kept : {lo n : ℕ} {t : Tree} {ts : List Tree} → lo ≤ number_of t → number_of t < first → stays (kind_of t) ≡ true → Laid first hi m (number_of t + 1) n ts → Laid first hi m lo n (t ∷ ts)
  generated : {lo n : ℕ} {t : Tree} {ts : List Tree} → number_of t ≡ n → may_be_new (kind_of t) ≡ true → Laid first hi m lo (n + 1) ts → Laid first hi m lo n (t ∷ ts)

pub laid-below : {first hi m lo n : ℕ} (k : ℕ) {ts : List Tree} → k ≤ lo → Laid first hi m lo n ts → Laid first hi m k n ts
laid-below k l (none lh e) = none (omega (arith, l, lh)) e
laid-below k l (kept a b s rest) = kept (omega (arith, l, a)) b s rest
laid-below k l (generated e s rest) = generated e s (laid-below k l rest)

pub laid-append : {first mid j hi m lo n : ℕ} {ts us : List Tree} → Laid first mid j lo n ts → Laid first hi m mid j us → Laid first hi m lo n (ts ++ us)
laid-append {lo = lo} (none l e) h = rw e (laid-below lo l h)
laid-append (kept a b s rest) h = kept a b s (laid-append rest h)
laid-append (generated e s rest) h = generated e s (laid-append rest h)

-- up to other bounds
pub laid-upto : {first hi m lo n : ℕ} (k j : ℕ) {ts : List Tree} → hi ≤ k → m ≡ j → Laid first hi m lo n ts → Laid first k j lo n ts
laid-upto k j l e (none lh d) = none (omega (arith, l, lh)) (d ∙ e)
laid-upto k j l e (kept a b s rest) = kept a b s (laid-upto k j l e rest)
laid-upto k j l e (generated d s rest) = generated d s (laid-upto k j l e rest)

pub laid-from : {first hi m lo n : ℕ} (k : ℕ) {ts : List Tree} → k ≡ n → Laid first hi m lo n ts → Laid first hi m lo k ts
laid-from k e h = rw e h

-- ---- the new numbers stand in turn

pub laid-consecutive : {first hi m lo n : ℕ} {ts : List Tree} → first ≤ n → Laid first hi m lo n ts → AreConsecutive n (filter (is_new first) (map number_of ts))
laid-consecutive l (none lh e) = tt
laid-consecutive {first = first} {ts = t ∷ ts} l (kept a b s rest) = rw (lt-leb first (number_of t) b) (laid-consecutive l rest)
laid-consecutive {first = first} {ts = t ∷ ts} l (generated e s rest) = rw (le-leb first (number_of t) (omega (arith, l, e))) (e, laid-consecutive (omega (arith, l)) rest)

-- ---- no number stands twice

nat_eq-apart : (x y : ℕ) → (x ≡ y → ⊥) → nat_eq x y ≡ false
nat_eq-apart x y apart = grind (arith, apart)

abbrev Apart : ℕ → List Tree → Type 0
Apart x ts = AllByRecursion (λ y. nat_eq x y ≡ false) (map number_of ts)

later_or_new : (first x lo k : ℕ) → lo ≤ k → (x < lo) ⊎ (first ≤ x) → (x < k + 1) ⊎ (first ≤ x)
later_or_new first x lo k l (inl a) = inl (omega (arith, l, a))
later_or_new first x lo k l (inr b) = inr b

-- a number that is below the new ones, and below the old ones or no old one
laid-apart : {first hi m lo n : ℕ} {ts : List Tree} (x : ℕ) → x < n → (x < lo) ⊎ (first ≤ x) → Laid first hi m lo n ts → Apart x ts
laid-apart x l o (none lh e) = tt
laid-apart {first = first} {lo = lo} {ts = t ∷ ts} x l o (kept a b s rest) = (nat_eq-apart x (number_of t) (λ e. omega (arith, o, a, b, e)), laid-apart x l (later_or_new first x lo (number_of t) a o) rest)
laid-apart {ts = t ∷ ts} x l o (generated e s rest) = (nat_eq-apart x (number_of t) (λ d. omega (arith, l, e, d)), laid-apart x (omega (arith, l)) o rest)

pub laid-once : {first hi m lo n : ℕ} {ts : List Tree} → first ≤ n → Laid first hi m lo n ts → EachOnce (map number_of ts)
unfolding IsDistinct
laid-once l (none lh e) = tt
laid-once {ts = t ∷ ts} l (kept a b s rest) = (laid-apart (number_of t) (omega (arith, l, b)) (inl (omega arith)) rest, laid-once l rest)
laid-once {ts = t ∷ ts} l (generated e s rest) = (laid-apart (number_of t) (omega (arith, e)) (inr (omega (arith, l, e))) rest, laid-once (omega (arith, l)) rest)

-- ---- nothing is left, and no new node declares a name

stays-parts : (kind : Kind) → stays kind ≡ true → (not (is_lowered_kind both_lowered kind) ≡ true) × (not (is_class_expression kind || declares_variables kind) ≡ true)
stays-parts kind s = and_parts (not (is_lowered_kind both_lowered kind)) (not (is_class_expression kind || declares_variables kind)) s

stays-neither : (kind : Kind) → stays kind ≡ true → (is_class_expression kind ≡ false) × (declares_variables kind ≡ false)
stays-neither kind s = none_of (is_class_expression kind) (declares_variables kind) (not-true (is_class_expression kind || declares_variables kind) (stays-parts kind s).1)

-- a kind that stays whatever is lowered stays under these options
unlowered : (o : Options) (kind : Kind) → not (is_lowered_kind both_lowered kind) ≡ true → not (is_lowered_kind o kind) ≡ true
unlowered o Kind.PropertyDefinition h = absurd (true≢false (sym h))
unlowered o Kind.PrivateIdentifier h = absurd (true≢false (sym h))
unlowered o Kind.PrivateIn h = absurd (true≢false (sym h))
unlowered o Kind.StaticBlock h = absurd (true≢false (sym h))
unlowered o kind h = refl

pub laid-left : (o : Options) {first hi m lo n : ℕ} {ts : List Tree} → Laid first hi m lo n ts → none_lowered o ts ≡ true
laid-left o (none lh e) = refl
laid-left o {ts = t ∷ ts} (kept a b s rest) = rw (unlowered o (kind_of t) (stays-parts (kind_of t) s).0, laid-left o rest) refl
laid-left o {ts = t ∷ ts} (generated e s rest) = rw (unlowered o (kind_of t) (stays-parts (kind_of t) (and_parts (stays (kind_of t)) (not (declares_names (kind_of t))) s).0).0, laid-left o rest) refl

-- a node that declares no variables is no new constant
no_const : (first : ℕ) (t : Tree) → declares_variables (kind_of t) ≡ false → is_new_const first t ≡ false
no_const first (Node Kind.VariableDeclaration m span semantic_id ps) e = absurd (true≢false e)
no_const first t e = refl

fresh-no_binding : (kind : Kind) → declares_names kind ≡ false → is_binding_identifier kind ≡ false
fresh-no_binding Kind.VariableDeclaration e = refl
fresh-no_binding kind e = e

pub laid-accounted : {first hi m lo n : ℕ} {ts : List Tree} (own : List ℕ) → Laid first hi m lo n ts → all_accounted first [] own ts ≡ true
laid-accounted own (none lh e) = refl
laid-accounted {first = first} {ts = Node kind b span semantic_id ps ∷ ts} own (kept a l s rest) =
    rw (no_const first (Node kind b span semantic_id ps) (stays-neither kind s).1, lt-leb first b l, and-false (is_binding_identifier kind)) (laid-accounted own rest)
laid-accounted {first = first} {ts = Node kind b span semantic_id ps ∷ ts} own (generated e s rest) =
    let parts = and_parts (stays kind) (not (declares_names kind)) s in
    rw (no_const first (Node kind b span semantic_id ps) (stays-neither kind parts.0).1, fresh-no_binding kind (not-true (declares_names kind) parts.1)) (laid-accounted own rest)

-- no class is an expression
not-expression : (ps : List Tree) (rs : List Reference) (t : Tree) → is_class_expression (kind_of t) ≡ false → loses_name ps rs t ≡ false
not-expression ps rs (Node Kind.ClassExpression n span semantic_id qs) e = absurd (true≢false e)
not-expression ps rs t e = refl

pub laid-named : {first hi m lo n : ℕ} {ts : List Tree} (ps : List Tree) (rs : List Reference) → Laid first hi m lo n ts → none_loses_name ps rs ts ≡ true
laid-named ps rs (none lh e) = refl
laid-named {ts = t ∷ ts} ps rs (kept a b s rest) = rw (not-expression ps rs t (stays-neither (kind_of t) s).0) (laid-named ps rs rest)
laid-named {ts = t ∷ ts} ps rs (generated e s rest) = rw (not-expression ps rs t (stays-neither (kind_of t) (and_parts (stays (kind_of t)) (not (declares_names (kind_of t))) s).0).0) (laid-named ps rs rest)

-- no variable is declared
not-declarator : (ledger : List LedgerEntry) (fs : List MovedFunction) (ps qs : List Tree) (rs : List Reference) (t : Tree) → declares_variables (kind_of t) ≡ false → reads_itself ledger fs ps qs rs t ≡ false
not-declarator ledger fs ps qs rs (Node Kind.VariableDeclarator m span semantic_id parts) e = absurd (true≢false e)
not-declarator ledger fs ps qs rs t e = refl

pub laid-unread : {first hi m lo n : ℕ} {ts : List Tree} (ledger : List LedgerEntry) (fs : List MovedFunction) (ps qs : List Tree) (rs : List Reference) → Laid first hi m lo n ts → none_reads_itself ledger fs ps qs rs ts ≡ true
laid-unread ledger fs ps qs rs (none lh e) = refl
laid-unread {ts = t ∷ ts} ledger fs ps qs rs (kept a b s rest) = rw (not-declarator ledger fs ps qs rs t (stays-neither (kind_of t) s).1) (laid-unread ledger fs ps qs rs rest)
laid-unread {ts = t ∷ ts} ledger fs ps qs rs (generated e s rest) = rw (not-declarator ledger fs ps qs rs t (stays-neither (kind_of t) (and_parts (stays (kind_of t)) (not (declares_names (kind_of t))) s).0).1) (laid-unread ledger fs ps qs rs rest)
