-- The elements of a class, one by one.
use Rattle.std.proofs.Common.{◌≡◌, refl, sym, ap, ◌∙◌, ℕ, List, [], ◌∷◌, ◌++◌, append_assoc, Bool, true, false, cond, ◌&&◌, ◌||◌}
use Rattle.std.specs.Prelude.{nat_eq, not}
use Rattle.es_base.specs.Tree.{Tree, Node, child, trees}
use Rattle.es_node.specs.View.{kind_of, number_in, parts_in}
use Rattle.es_lowered.specs.Definitions.{body_numbers, chosen, element_numbers, elements_kept}
use Rattle.es_steps.specs.KeptNodes.{is_within}
use Rattle.es_steps.specs.LoweredClasses.{Element, body_elements, element_of, elements_in, elements_of, is_lowered_element}
use Rattle.es_steps.specs.Parts.{at}
use Rattle.es_steps.specs.PrivateNames.{is_class}
use Rattle.es_steps.specs.declared.options.Options.{Options}
use Rattle.es_owed.specs.Elements.{all_in, kept_in, kept_numbers}

pub elements_more : (o : Options) (t : Tree) (ts qs : List Tree) → elements_kept o (t ∷ ts) qs ≡ ((not (is_class (kind_of t)) || is_within (kept_numbers o (elements_of (parts_in t))) (body_numbers (number_in t) qs)) && elements_kept o ts qs)
elements_more o (Node kind m span semantic_id ps) ts qs = refl

pub elements_by_body : (t u : Tree) → at 2 (parts_in t) ≡ child u → body_elements (child u) ≡ elements_of (parts_in t)
elements_by_body t u is = ap body_elements (sym is)

-- ---- those that are not lowered

chosen-append : (test : Element → Bool) (xs ys : List Element) → chosen test (xs ++ ys) ≡ chosen test xs ++ chosen test ys
chosen-append test [] ys = refl
chosen-append test (x ∷ xs) ys = ap (λ es. cond (test x) (x ∷ []) [] ++ es) (chosen-append test xs ys) ∙ sym (append_assoc (cond (test x) (x ∷ []) []) (chosen test xs) (chosen test ys))

numbers-append : (xs ys : List Element) → element_numbers (xs ++ ys) ≡ element_numbers xs ++ element_numbers ys
numbers-append [] ys = refl
numbers-append (x ∷ xs) ys = ap (λ ns. x.number ∷ ns) (numbers-append xs ys)

kept_all : (o : Options) (ts : List Tree) → kept_in o ts ≡ kept_numbers o (elements_in (trees ts))
kept_all o [] = refl
kept_all o (t ∷ ts) =
    ap (λ ns. kept_numbers o (element_of (child t)) ++ ns) (kept_all o ts)
    ∙ sym (numbers-append (chosen (λ e. not (is_lowered_element o e)) (element_of (child t))) (chosen (λ e. not (is_lowered_element o e)) (elements_in (trees ts))))
    ∙ ap element_numbers (sym (chosen-append (λ e. not (is_lowered_element o e)) (element_of (child t)) (elements_in (trees ts))))

pub kept_by_element : (o : Options) (ts : List Tree) (es : List Element) → elements_in (trees ts) ≡ es → kept_in o ts ≡ kept_numbers o es
kept_by_element o ts es is = kept_all o ts ∙ ap (kept_numbers o) is

-- ---- all

all_all : (ts : List Tree) → all_in ts ≡ element_numbers (elements_in (trees ts))
all_all [] = refl
all_all (t ∷ ts) = ap (λ ns. element_numbers (element_of (child t)) ++ ns) (all_all ts) ∙ sym (numbers-append (element_of (child t)) (elements_in (trees ts)))

pub all_by_element : (ts : List Tree) (es : List Element) → elements_in (trees ts) ≡ es → all_in ts ≡ element_numbers es
all_by_element ts es is = all_all ts ∙ ap element_numbers is

one : (n : ℕ) (t : Tree) (ts : List Tree) → body_numbers n (t ∷ ts) ≡ cond (is_class (kind_of t) && nat_eq n (number_in t)) (element_numbers (elements_of (parts_in t))) (body_numbers n ts)
one n (Node kind m span semantic_id ps) ts = refl

pub numbers_here : (n : ℕ) (t u : Tree) (ts : List Tree) → (is_class (kind_of t) && nat_eq n (number_in t)) ≡ true → at 2 (parts_in t) ≡ child u → element_numbers (body_elements (child u)) ≡ body_numbers n (t ∷ ts)
numbers_here n t u ts is body = sym (one n t ts ∙ ap (λ b. cond b (element_numbers (elements_of (parts_in t))) (body_numbers n ts)) is ∙ ap (λ p. element_numbers (body_elements p)) body)

pub numbers_behind : (n : ℕ) (t : Tree) (ts : List Tree) → (is_class (kind_of t) && nat_eq n (number_in t)) ≡ false → body_numbers n (t ∷ ts) ≡ body_numbers n ts
numbers_behind n t ts other = one n t ts ∙ ap (λ b. cond b (element_numbers (elements_of (parts_in t))) (body_numbers n ts)) other
