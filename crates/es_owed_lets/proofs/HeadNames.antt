-- Generated names that are given values in heads of loops.
use Rattle.std.proofs.Common.{◌≡◌, refl, sym, ap, ◌∙◌, ℕ, ◌+◌, ◌<◌, length, drop, get_or, Bor, List, [], ◌∷◌, ◌++◌, Bool, true, false, cond, ◌&&◌, ◌||◌}
use Rattle.std.proofs.lemmas.List.{at_drop_more}
use Rattle.std.specs.Prelude.{bytes_eq, not}
use Rattle.std.specs.Str.{chars}
use Rattle.es_base.specs.Conforms.{is_among}
use Rattle.es_base.specs.Preorder.{preorder_of_part}
use Rattle.es_base.specs.Tree.{Tree, Parts, Node, more, child, absent}
use Rattle.es_base.specs.declared.kind.Kind.{Kind}
use Rattle.es_base.specs.declared.ledger.LedgerEntry.{LedgerEntry}
use Rattle.es_lowered.specs.ClassNames.{numbers_of}
use Rattle.es_lowered.specs.HeadValues.{first_value, given_inside, head_value, head_values_stay, stands_inside}
use Rattle.es_name_set.proofs.NameSets.{is_among-append}
use Rattle.es_name_set.specs.Names.{HaveSame}
use Rattle.es_node.specs.View.{kind_of, parts_in}
use Rattle.es_owed_lets.specs.Heads.{declared_value, head_stays, is_given, names_given, spelled, stay_inside, value_of}
use Rattle.es_steps.specs.Context.{is_generated}
use Rattle.es_steps.specs.Parts.{at, items}
use Rattle.es_steps.specs.References.{Reference, has_number}
use Rattle.es_steps.specs.Values.{String}

-- ---- heads

pub heads_more : (ledger : List LedgerEntry) (all : List Reference) (t : Tree) (ts : List Tree) → head_values_stay ledger all (t ∷ ts) ≡ (head_stays ledger all t && head_values_stay ledger all ts)
heads_more ledger all (Node kind m span semantic_id ps) ts = refl

pub head_node : (ledger : List LedgerEntry) (all : List Reference) (t : Tree) → head_stays ledger all t ≡ given_inside ledger (numbers_of (preorder_of_part (head_value (kind_of t) (parts_in t)))) all all
head_node ledger all (Node kind m span semantic_id ps) = refl

pub no_head : (kind : Kind) (ps : Parts) → (kind ≡ Kind.ForInStatement → ⊥) → head_value kind ps ≡ absent
no_head Kind.ForInStatement ps other = absurd (other refl)
no_head kind ps other = refl

pub loop_node : (t : Tree) (rest : Parts) → head_value Kind.ForInStatement (more (child t) rest) ≡ declared_value t
loop_node (Node Kind.VariableDeclaration m span semantic_id ps) rest = refl
loop_node (Node kind m span semantic_id ps) rest = refl

pub declaration_node : (t : Tree) → kind_of t ≡ Kind.VariableDeclaration → declared_value t ≡ first_value (items (at 1 (parts_in t)))
declaration_node (Node Kind.VariableDeclaration m span semantic_id ps) is = refl
declaration_node (Node kind m span semantic_id ps) is = absurd (cc)

pub no_declaration : (t : Tree) → (kind_of t ≡ Kind.VariableDeclaration → ⊥) → declared_value t ≡ absent
no_declaration (Node Kind.VariableDeclaration m span semantic_id ps) other = absurd (other refl)
no_declaration (Node kind m span semantic_id ps) other = refl

pub first_node : (t : Tree) (rest : Parts) → first_value (more (child t) rest) ≡ value_of t
first_node (Node Kind.VariableDeclarator m span semantic_id ps) rest = refl
first_node (Node kind m span semantic_id ps) rest = refl

pub declarator_node : (t : Tree) → kind_of t ≡ Kind.VariableDeclarator → value_of t ≡ at 1 (parts_in t)
declarator_node (Node Kind.VariableDeclarator m span semantic_id ps) is = refl
declarator_node (Node kind m span semantic_id ps) is = absurd (cc)

pub no_declarator : (t : Tree) → (kind_of t ≡ Kind.VariableDeclarator → ⊥) → value_of t ≡ absent
no_declarator (Node Kind.VariableDeclarator m span semantic_id ps) other = absurd (other refl)
no_declarator (Node kind m span semantic_id ps) other = refl

-- ---- where nothing is inside

given_nowhere : (writes generated stands : Bool) → (not (writes && (generated && false)) || stands) ≡ true
given_nowhere true true stands = refl
given_nowhere true false stands = refl
given_nowhere false generated stands = refl

none_given : (ledger : List LedgerEntry) (all rs : List Reference) → given_inside ledger [] all rs ≡ true
none_given ledger all [] = refl
none_given ledger all (r ∷ rs) = ap (λ b. b && given_inside ledger [] all rs) (given_nowhere r.writes (is_generated r.spelling ledger) (stands_inside ledger [] all r.spelling all)) ∙ none_given ledger all rs

pub no_value : (ledger : List LedgerEntry) (all : List Reference) (t : Tree) → absent ≡ head_value (kind_of t) (parts_in t) → head_stays ledger all t ≡ true
no_value ledger all (Node kind m span semantic_id ps) none = ap (λ p. given_inside ledger (numbers_of (preorder_of_part p)) all all) (sym none) ∙ none_given ledger all all

-- ---- names by names

and_swapped : (a b c d : Bool) → ((a && b) && (c && d)) ≡ ((a && c) && (b && d))
and_swapped true true c d = refl
and_swapped true false true d = refl
and_swapped true false false d = refl
and_swapped false b c d = refl

both_or : (a b c : Bool) → (not (a || b) || c) ≡ ((not a || c) && (not b || c))
both_or true true true = refl
both_or true true false = refl
both_or true false true = refl
both_or true false false = refl
both_or false true true = refl
both_or false true false = refl
both_or false false c = refl

module _ (ledger : List LedgerEntry) (inside : List ℕ) (all : List Reference) where
  one_more : (s : String) (ss : List String) (rs : List Reference) → stay_inside (s ∷ ss) inside rs ≡ (stands_inside ledger inside all s rs && stay_inside ss inside rs)
  one_more s ss [] = refl
  one_more s ss (r ∷ rs) =
      ap (λ b. b && stay_inside (s ∷ ss) inside rs) (both_or (bytes_eq s r.spelling) (is_among r.spelling ss) (has_number r.number inside))
      ∙ ap (λ b. ((not (bytes_eq s r.spelling) || has_number r.number inside) && (not (is_among r.spelling ss) || has_number r.number inside)) && b) (one_more s ss rs)
      ∙ and_swapped (not (bytes_eq s r.spelling) || has_number r.number inside) (not (is_among r.spelling ss) || has_number r.number inside) (stands_inside ledger inside all s rs) (stay_inside ss inside rs)

  no_more : (rs : List Reference) → stay_inside [] inside rs ≡ true
  no_more [] = refl
  no_more (r ∷ rs) = no_more rs

  given_by_name : (rs : List Reference) → stay_inside (names_given ledger inside rs) inside all ≡ given_inside ledger inside all rs
  given_by_name [] = no_more all
  given_by_name (r ∷ rs) = here (is_given ledger inside r) ∙ ap (λ b. (not (is_given ledger inside r) || stands_inside ledger inside all r.spelling all) && b) (given_by_name rs)
    where
      here : (b : Bool) → stay_inside (cond b (r.spelling ∷ []) [] ++ names_given ledger inside rs) inside all ≡ ((not b || stands_inside ledger inside all r.spelling all) && stay_inside (names_given ledger inside rs) inside all)
      here true = one_more r.spelling (names_given ledger inside rs) all
      here false = refl

same_inside : (ss ks : List String) (ns ms : List ℕ) (rs : List Reference) → HaveSame ss ks → ((n : ℕ) → has_number n ns ≡ has_number n ms) → stay_inside ss ns rs ≡ stay_inside ks ms rs
same_inside ss ks ns ms [] names numbers = refl
same_inside ss ks ns ms (r ∷ rs) names numbers =
    ap (λ b. (not b || has_number r.number ns) && stay_inside ss ns rs) (names r.spelling)
    ∙ ap (λ b. (not (is_among r.spelling ks) || b) && stay_inside ss ns rs) (numbers r.number)
    ∙ ap (λ b. (not (is_among r.spelling ks) || has_number r.number ms) && b) (same_inside ss ks ns ms rs names numbers)

same_given : (ledger : List LedgerEntry) (ns ms : List ℕ) (rs : List Reference) → ((n : ℕ) → has_number n ns ≡ has_number n ms) → names_given ledger ns rs ≡ names_given ledger ms rs
same_given ledger ns ms [] same = refl
same_given ledger ns ms (r ∷ rs) same =
    ap (λ b. cond (r.writes && (is_generated r.spelling ledger && b)) (r.spelling ∷ []) [] ++ names_given ledger ns rs) (same r.number)
    ∙ ap (λ ss. cond (is_given ledger ms r) (r.spelling ∷ []) [] ++ ss) (same_given ledger ns ms rs same)

pub stay_by_name : (ledger : List LedgerEntry) (rs : List Reference) (ns ms : List ℕ) (given names : List String) → ((n : ℕ) → has_number n ns ≡ has_number n ms) → given ≡ names_given ledger ns rs → HaveSame names given → stay_inside names ns rs ≡ given_inside ledger ms rs rs
stay_by_name ledger rs ns ms given names numbers are same =
    same_inside names given ns ms rs same numbers
    ∙ ap (λ ss. stay_inside ss ms rs) (are ∙ same_given ledger ns ms rs numbers)
    ∙ given_by_name ledger ms rs rs

-- ---- sets of names

or_turned : (a b c : Bool) → ((a || b) || c) ≡ (b || (a || c))
or_turned true true c = refl
or_turned true false c = refl
or_turned false b c = refl

abbrev pub no_string : Bor (List ℕ)
no_string = record { ref_ptr = (0, 0); now = [] }

pub next_string : (s : String) (names later : List String) (ss : List (Bor (List ℕ))) (i : ℕ) (d : Bor (List ℕ)) → i < length ss → is_among s later ≡ is_among s (chars (get_or ss i d).now ∷ names) → is_among s (later ++ spelled (drop (i + 1) ss)) ≡ is_among s (names ++ spelled (drop i ss))
next_string s names later ss i d before same =
    let x : String = chars (get_or ss i d).now in
    let rest : List String = spelled (drop (i + 1) ss) in
    is_among-append s later rest
    ∙ ap (λ b. b || is_among s rest) same
    ∙ or_turned (bytes_eq x s) (is_among s names) (is_among s rest)
    ∙ sym (is_among-append s names (x ∷ rest))
    ∙ ap (λ ys. is_among s (names ++ ys)) (sym (at_drop_more spelled ss i d before))
