-- What is read by functions that are called, step by step.
use Rattle.std.proofs.Common.{◌≡◌, refl, sym, ap, ◌∙◌, ℕ, List, [], ◌∷◌, ◌++◌, Bool, true, false, cond, not, ◌&&◌, ◌||◌}
use Rattle.std.proofs.lemmas.Slice.Eq.{bytes_eq-Decides}
use Rattle.std.specs.Prelude.{bytes_eq, nat_eq}
use Rattle.es_base.specs.Conforms.{is_among}
use Rattle.es_base.specs.Tree.{Tree, Node}
use Rattle.es_base.specs.declared.kind.Kind.{Kind}
use Rattle.es_base.specs.declared.ledger.LedgerEntry.{LedgerEntry}
use Rattle.es_lowered.specs.ClassNames.{MovedFunction, any_among, is_written_at, names_holding, outside_class, reaching, reading}
use Rattle.es_node.specs.View.{kind_of, number_in, parts_in}
use Rattle.es_owed_references.specs.Reaching.{next_reached, reached_from, read_at, reading_of, reads_besides, written_numbers}
use Rattle.es_steps.specs.Parts.{at, string_of}
use Rattle.es_steps.specs.References.{Reference, has_number}
use Rattle.es_steps.specs.Values.{String}

and_true : (b : Bool) → (b && true) ≡ b
and_true true = refl
and_true false = refl

and_false : (b : Bool) → (b && false) ≡ false
and_false true = refl
and_false false = refl

-- ---- lists of the same numbers

pub same_among : (ns ks ms : List ℕ) → ((n : ℕ) → has_number n ns ≡ has_number n ks) → any_among ns ms ≡ any_among ks ms
same_among ns ks [] same = refl
same_among ns ks (m ∷ ms) same = ap (λ b. b || any_among ns ms) (same m) ∙ ap (λ b. has_number m ks || b) (same_among ns ks ms same)

pub same_outside : (ns ks : List ℕ) (fs : List MovedFunction) → ((n : ℕ) → has_number n ns ≡ has_number n ks) → outside_class ns fs ≡ outside_class ks fs
same_outside ns ks [] same = refl
same_outside ns ks (f ∷ fs) same = ap (λ b. cond b [] (f ∷ []) ++ outside_class ns fs) (same_among ns ks f.numbers same) ∙ ap (λ gs. cond (any_among ks f.numbers) [] (f ∷ []) ++ gs) (same_outside ns ks fs same)

pub same_holding : (ns ks : List ℕ) (fs : List MovedFunction) → ((n : ℕ) → has_number n ns ≡ has_number n ks) → names_holding ns fs ≡ names_holding ks fs
same_holding ns ks [] same = refl
same_holding ns ks (f ∷ fs) same = ap (λ b. cond b (f.name ∷ []) [] ++ names_holding ns fs) (same_among ns ks f.numbers same) ∙ ap (λ ss. cond (any_among ks f.numbers) (f.name ∷ []) [] ++ ss) (same_holding ns ks fs same)

pub same_numbers : (ns ks : List ℕ) → bytes_eq ns ks ≡ true → ns ≡ ks
same_numbers ns ks = (bytes_eq-Decides ns ks).0

-- ---- reads of names

pub read_reference : (ns : List ℕ) (t : Tree) → kind_of t ≡ Kind.IdentifierReference → read_at ns t ≡ cond (has_number (number_in t) ns) [] ((number_in t, string_of (at 0 (parts_in t))) ∷ [])
read_reference ns (Node Kind.IdentifierReference m span semantic_id ps) is = refl
read_reference ns (Node kind m span semantic_id ps) is = absurd (cc)

pub no_reference : (ns : List ℕ) (t : Tree) → (kind_of t ≡ Kind.IdentifierReference → ⊥) → read_at ns t ≡ []
no_reference ns (Node Kind.IdentifierReference m span semantic_id ps) other = absurd (other refl)
no_reference ns (Node kind m span semantic_id ps) other = refl

same_read : (ns ks : List ℕ) (t : Tree) → ((n : ℕ) → has_number n ns ≡ has_number n ks) → read_at ns t ≡ read_at ks t
same_read ns ks (Node Kind.IdentifierReference m span semantic_id ps) same = ap (λ b. cond b [] ((m, string_of (at 0 ps)) ∷ [])) (same m)
same_read ns ks (Node kind m span semantic_id ps) same = refl

pub same_reads : (ns ks : List ℕ) (ts : List Tree) → ((n : ℕ) → has_number n ns ≡ has_number n ks) → reads_besides ns ts ≡ reads_besides ks ts
same_reads ns ks [] same = refl
same_reads ns ks (t ∷ ts) same = ap (λ rs. rs ++ reads_besides ns ts) (same_read ns ks t same) ∙ ap (λ rs. read_at ks t ++ rs) (same_reads ns ks ts same)

written_among : (m : ℕ) (rs : List Reference) → has_number m (written_numbers rs) ≡ is_written_at m rs
written_among m [] = refl
written_among m (r ∷ rs) = here r.writes ∙ ap (λ b. (nat_eq m r.number && r.writes) || b) (written_among m rs)
  where
    here : (w : Bool) → has_number m (cond w (r.number ∷ []) [] ++ written_numbers rs) ≡ ((nat_eq m r.number && w) || has_number m (written_numbers rs))
    here true = ap (λ b. b || has_number m (written_numbers rs)) (sym (and_true (nat_eq m r.number)))
    here false = ap (λ b. b || has_number m (written_numbers rs)) (sym (and_false (nat_eq m r.number)))

read_by : (ss : List String) (m : ℕ) (s : String) (rs : List (ℕ × String)) (w : Bool) → reading_of ss (cond w [] ((m, s) ∷ []) ++ rs) ≡ cond (is_among s ss && not w) (m ∷ []) [] ++ reading_of ss rs
read_by ss m s rs true = ap (λ b. cond b (m ∷ []) [] ++ reading_of ss rs) (sym (and_false (is_among s ss)))
read_by ss m s rs false = ap (λ b. cond b (m ∷ []) [] ++ reading_of ss rs) (sym (and_true (is_among s ss)))

-- the reads of these names are the references to them that write nothing
reading_all : (ss : List String) (rs : List Reference) (ts : List Tree) → reading_of ss (reads_besides (written_numbers rs) ts) ≡ reading ss rs ts
reading_all ss rs [] = refl
reading_all ss rs (Node Kind.IdentifierReference m span semantic_id ps ∷ ts) =
    let s : String = string_of (at 0 ps) in
    let rest : List (ℕ × String) = reads_besides (written_numbers rs) ts in
    ap (λ w. reading_of ss (cond w [] ((m, s) ∷ []) ++ rest)) (written_among m rs)
    ∙ read_by ss m s rest (is_written_at m rs)
    ∙ ap (λ ns. cond (is_among s ss && not (is_written_at m rs)) (m ∷ []) [] ++ ns) (reading_all ss rs ts)
reading_all ss rs (Node kind m span semantic_id ps ∷ ts) = reading_all ss rs ts

-- ---- steps

step_behind : (es : List LedgerEntry) (fs : List MovedFunction) (reads : List (ℕ × String)) (ns ms : List ℕ) → reached_from es fs reads ns (next_reached fs reads ns ms) ≡ next_reached fs reads ns (reached_from es fs reads ns ms)
step_behind [] fs reads ns ms = refl
step_behind (e ∷ es) fs reads ns ms = step_behind es fs reads ns (next_reached fs reads ns ms)

pub reaching_steps : (es : List LedgerEntry) (fs : List MovedFunction) (rs : List Reference) (ts : List Tree) (ns : List ℕ) → reached_from es fs (reads_besides (written_numbers rs) ts) ns ns ≡ reaching es fs rs ts ns
reaching_steps [] fs rs ts ns = refl
reaching_steps (e ∷ es) fs rs ts ns =
    step_behind es fs (reads_besides (written_numbers rs) ts) ns ns
    ∙ ap (next_reached fs (reads_besides (written_numbers rs) ts) ns) (reaching_steps es fs rs ts ns)
    ∙ ap (λ ms. ns ++ ms) (reading_all (names_holding (reaching es fs rs ts ns) fs) rs ts)

-- where a step adds nothing, none does
pub settled : (es : List LedgerEntry) (fs : List MovedFunction) (reads : List (ℕ × String)) (ns ms : List ℕ) → next_reached fs reads ns ms ≡ ms → reached_from es fs reads ns ms ≡ ms
settled [] fs reads ns ms same = refl
settled (e ∷ es) fs reads ns ms same = ap (reached_from es fs reads ns) same ∙ settled es fs reads ns ms same
