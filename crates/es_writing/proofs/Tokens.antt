-- Tokens that are written one after another.
use Rattle.std.proofs.Common.{◌≡◌, refl, sym, ap, ap₂, ◌∙◌, ℕ, ◌+◌, ◌<◌, ◌≤◌, List, [], ◌∷◌, ◌++◌, drop, length, get_or, map, codes, option_map, Option, Some, None, Bor, append_assoc, append-nil}
use Rattle.std.proofs.lemmas.List.{drop_more, drop_all}
use Rattle.json.specs.Token.{Token}
use Rattle.json.specs.Print.{print}
use Rattle.json.specs.Tree.{items_tokens}
use Rattle.serde_json.specs.Data.{Data, array, string as json_string}
use Rattle.serde_json.specs.View.{items_of}
use Rattle.serde_json.specs.Written.{compact_text, items_outline}
use Rattle.serde_json.proofs.Texts.{print-outline}
use Rattle.es_base.specs.Carried.{span_of}
use Rattle.es_base.specs.Tree.{Tree, Parts, end, more, nullable, trees, nullable_trees}
use Rattle.es_base.specs.declared.ids.NodeId.{NodeId}
use Rattle.es_base.specs.declared.ids.Span.{Span}
use Rattle.es_base.specs.declared.kind.Kind.{Kind}
use Rattle.es_writing.specs.Lowered.{message, warning_value}
use Rattle.es_writing.specs.Slots.{data_tokens, member_tokens, name_in, slots_tokens}
use Rattle.es_writing.specs.Writing.{number_of, write, write_items, write_item}
use Rattle.es_writing.specs.declared.slots.Slot.{Slot}

-- these tokens, and then those
pub one_more : (a b c xs ys : List Token) → b ≡ a ++ xs → c ≡ b ++ ys → c ≡ a ++ (xs ++ ys)
one_more a b c xs ys first second = second ∙ ap (λ ts. ts ++ ys) first ∙ append_assoc a xs ys

-- what is left is one token list less
on : (now later xs rest all : List Token) → later ≡ now ++ xs → now ++ (xs ++ rest) ≡ all → later ++ rest ≡ all
on now later xs rest all put_in is = ap (λ ts. ts ++ rest) put_in ∙ append_assoc now xs rest ∙ is

-- ---- the members of an object

pub slots_on : (kind : Kind) (stands : Slot → Option Data) (ss : List Slot) (n k : ℕ) (s : Slot) (now later all : List Token) → n < length ss → s ≡ get_or ss n s → k ≡ n + 1
    → later ≡ now ++ member_tokens (name_in kind s) (stands s) → now ++ slots_tokens kind stands (drop n ss) ≡ all → later ++ slots_tokens kind stands (drop k ss) ≡ all
slots_on kind stands ss n k s now later all within is next put_in so_far =
    ap (λ j. later ++ slots_tokens kind stands (drop j ss)) next
    ∙ on now later (member_tokens (name_in kind s) (stands s)) (slots_tokens kind stands (drop (n + 1) ss)) all put_in
    (ap (λ xs. now ++ slots_tokens kind stands xs) (sym (drop_more ss n s within ∙ ap (λ (x : Slot). x ∷ drop (n + 1) ss) (sym is))) ∙ so_far)

pub slots_done : (kind : Kind) (stands : Slot → Option Data) (ss : List Slot) (n : ℕ) (now all : List Token) → length ss ≤ n → now ++ slots_tokens kind stands (drop n ss) ≡ all → now ≡ all
slots_done kind stands ss n now all past is = sym (append-nil now) ∙ sym (ap (λ xs. now ++ slots_tokens kind stands xs) (drop_all n ss past)) ∙ is

-- ---- nodes

abbrev pub nodes_tokens : Parts → List Token
nodes_tokens end = []
nodes_tokens (more p ps) = data_tokens (write_item p) ++ nodes_tokens ps

pub nodes_tokens-items : (ps : Parts) → nodes_tokens ps ++ Token.end_array ∷ [] ≡ items_tokens (items_outline (write_items ps))
nodes_tokens-items end = refl
nodes_tokens-items (more p ps) = append_assoc (data_tokens (write_item p)) (nodes_tokens ps) (Token.end_array ∷ []) ∙ ap (λ ts. data_tokens (write_item p) ++ ts) (nodes_tokens-items ps)

pub nodes_on : (ts : List Tree) (n k : ℕ) (t : Tree) (now later all : List Token) → n < length ts → t ≡ get_or ts n t → k ≡ n + 1
    → later ≡ now ++ data_tokens (write t) → now ++ nodes_tokens (trees (drop n ts)) ≡ all → later ++ nodes_tokens (trees (drop k ts)) ≡ all
nodes_on ts n k t now later all within is next put_in so_far =
    ap (λ j. later ++ nodes_tokens (trees (drop j ts))) next
    ∙ on now later (data_tokens (write t)) (nodes_tokens (trees (drop (n + 1) ts))) all put_in
    (ap (λ (us : List Tree). now ++ nodes_tokens (trees us)) (sym (drop_more ts n t within ∙ ap (λ (x : Tree). x ∷ drop (n + 1) ts) (sym is))) ∙ so_far)

pub nodes_done : (ts : List Tree) (n : ℕ) (now all : List Token) → length ts ≤ n → now ++ nodes_tokens (trees (drop n ts)) ≡ all → now ≡ all
nodes_done ts n now all past is = sym (append-nil now) ∙ sym (ap (λ (us : List Tree). now ++ nodes_tokens (trees us)) (drop_all n ts past)) ∙ is

pub nullable_on : (ts : List (Option Tree)) (n k : ℕ) (t : Option Tree) (now later all : List Token) → n < length ts → t ≡ get_or ts n t → k ≡ n + 1
    → later ≡ now ++ data_tokens (write_item (nullable t)) → now ++ nodes_tokens (nullable_trees (drop n ts)) ≡ all → later ++ nodes_tokens (nullable_trees (drop k ts)) ≡ all
nullable_on ts n k t now later all within is next put_in so_far =
    ap (λ j. later ++ nodes_tokens (nullable_trees (drop j ts))) next
    ∙ on now later (data_tokens (write_item (nullable t))) (nodes_tokens (nullable_trees (drop (n + 1) ts))) all put_in
    (ap (λ (us : List (Option Tree)). now ++ nodes_tokens (nullable_trees us)) (sym (drop_more ts n t within ∙ ap (λ (x : Option Tree). x ∷ drop (n + 1) ts) (sym is))) ∙ so_far)

pub nullable_done : (ts : List (Option Tree)) (n : ℕ) (now all : List Token) → length ts ≤ n → now ++ nodes_tokens (nullable_trees (drop n ts)) ≡ all → now ≡ all
nullable_done ts n now all past is = sym (append-nil now) ∙ sym (ap (λ (us : List (Option Tree)). now ++ nodes_tokens (nullable_trees us)) (drop_all n ts past)) ∙ is

-- an object or an array, put together
pub closed : (old opened inside new : List Token) (first last : Token) (body : List Token) → opened ≡ old ++ first ∷ [] → inside ≡ opened ++ body → new ≡ inside ++ last ∷ [] → new ≡ old ++ (first ∷ (body ++ last ∷ []))
closed old opened inside new first last body begins goes ends =
    ends ∙ ap (λ ts. ts ++ last ∷ []) (goes ∙ ap (λ ts. ts ++ body) begins ∙ append_assoc old (first ∷ []) body) ∙ append_assoc old (first ∷ body) (last ∷ [])

-- ---- values

abbrev pub values_tokens : List Data → List Token
values_tokens [] = []
values_tokens (d ∷ ds) = data_tokens d ++ values_tokens ds

pub values_tokens-items : (ds : List Data) → values_tokens ds ++ Token.end_array ∷ [] ≡ items_tokens (items_outline (items_of ds))
values_tokens-items [] = refl
values_tokens-items (d ∷ ds) = append_assoc (data_tokens d) (values_tokens ds) (Token.end_array ∷ []) ∙ ap (λ ts. data_tokens d ++ ts) (values_tokens-items ds)

pub values_on : {X : Type 0} (f : X → Data) (xs : List X) (n k : ℕ) (x : X) (now later all : List Token) → n < length xs → x ≡ get_or xs n x → k ≡ n + 1
    → later ≡ now ++ data_tokens (f x) → now ++ values_tokens (map f (drop n xs)) ≡ all → later ++ values_tokens (map f (drop k xs)) ≡ all
values_on {X} f xs n k x now later all within is next put_in so_far =
    ap (λ j. later ++ values_tokens (map f (drop j xs))) next
    ∙ on now later (data_tokens (f x)) (values_tokens (map f (drop (n + 1) xs))) all put_in
    (ap (λ (ys : List X). now ++ values_tokens (map f ys)) (sym (drop_more xs n x within ∙ ap (λ (y : X). y ∷ drop (n + 1) xs) (sym is))) ∙ so_far)

pub values_done : {X : Type 0} (f : X → Data) (xs : List X) (n : ℕ) (now all : List Token) → length xs ≤ n → now ++ values_tokens (map f (drop n xs)) ≡ all → now ≡ all
values_done {X} f xs n now all past is = sym (append-nil now) ∙ sym (ap (λ (ys : List X). now ++ values_tokens (map f ys)) (drop_all n xs past)) ∙ is

-- a member, put together
pub keyed : (old named new : List Token) (k : List ℕ) (ts : List Token) → named ≡ old ++ Token.key k ∷ [] → new ≡ named ++ ts → new ≡ old ++ (Token.key k ∷ ts)
keyed old named new k ts begins goes = goes ∙ ap (λ us. us ++ ts) begins ∙ append_assoc old (Token.key k ∷ []) ts

-- a member that is a list of values
pub list_written : (old named opened inside new : List Token) (k : List ℕ) (ds : List Data) → named ≡ old ++ Token.key k ∷ [] → opened ≡ named ++ Token.begin_array ∷ [] → inside ≡ opened ++ values_tokens ds → new ≡ inside ++ Token.end_array ∷ []
    → new ≡ old ++ member_tokens k (Some (array (items_of ds)))
list_written old named opened inside new k ds first begins goes ends =
    keyed old named new k (data_tokens (array (items_of ds))) first
    (closed named opened inside new Token.begin_array Token.end_array (values_tokens ds) begins goes ends ∙ ap (λ ts. named ++ (Token.begin_array ∷ ts)) (values_tokens-items ds))

-- a list of nodes
pub nodes_written : (old opened inside new : List Token) (ps : Parts) → opened ≡ old ++ Token.begin_array ∷ [] → inside ≡ opened ++ nodes_tokens ps → new ≡ inside ++ Token.end_array ∷ [] → new ≡ old ++ data_tokens (array (write_items ps))
nodes_written old opened inside new ps begins goes ends =
    closed old opened inside new Token.begin_array Token.end_array (nodes_tokens ps) begins goes ends ∙ ap (λ ts. old ++ (Token.begin_array ∷ ts)) (nodes_tokens-items ps)

pub map_now : {X : Type 0} (f : X → Data) (xs : List (Bor X)) → map (λ x. f x.now) xs ≡ map f (map (λ x. x.now) xs)
map_now f [] = refl
map_now f (x ∷ xs) = ap (λ ds. f x.now ∷ ds) (map_now f xs)

-- an object of two members
pub two_written : (old opened first second new xs ys : List Token) → opened ≡ old ++ Token.begin_object ∷ [] → first ≡ opened ++ xs → second ≡ first ++ ys → new ≡ second ++ Token.end_object ∷ []
    → new ≡ old ++ (Token.begin_object ∷ (xs ++ (ys ++ Token.end_object ∷ [])))
two_written old opened first second new xs ys begins one two ends =
    closed old opened second new Token.begin_object Token.end_object (xs ++ ys) begins (one_more opened first second xs ys one two) ends
    ∙ ap (λ ts. old ++ (Token.begin_object ∷ ts)) (append_assoc xs ys (Token.end_object ∷ []))

-- nothing is written of what is not there
pub none_written : (old : List Token) (k : List ℕ) (o : Option Data) → o ≡ None → old ≡ old ++ member_tokens k o
none_written old k o none = sym (ap (λ p. old ++ member_tokens k p) none ∙ append-nil old)

-- an object of four members
pub four_written : (old opened first second third fourth new w x y z : List Token) → opened ≡ old ++ Token.begin_object ∷ [] → first ≡ opened ++ w → second ≡ first ++ x → third ≡ second ++ y → fourth ≡ third ++ z → new ≡ fourth ++ Token.end_object ∷ []
    → new ≡ old ++ (Token.begin_object ∷ ((((w ++ x) ++ y) ++ z) ++ Token.end_object ∷ []))
four_written old opened first second third fourth new w x y z begins one two three four ends =
    let both = one_more opened first second w x one two in
    let all = one_more opened second third (w ++ x) y both three in
    closed old opened fourth new Token.begin_object Token.end_object (((w ++ x) ++ y) ++ z) begins (one_more opened third fourth ((w ++ x) ++ y) z all four) ends

-- a warning
pub warning_tokens : (node : NodeId) (span : Option Span)
    → Token.begin_object ∷ ((((member_tokens (codes "end") (option_map (λ s. number_of s.1) (span_of span)) ++ member_tokens (codes "message") (Some (json_string message))) ++ member_tokens (codes "node") (Some (number_of node.0)))
    ++ member_tokens (codes "start") (option_map (λ s. number_of s.0) (span_of span))) ++ Token.end_object ∷ [])
    ≡ data_tokens (warning_value (record { node = node; span = span }))
warning_tokens node None = refl
warning_tokens node (Some s) = refl

-- what a writer that began with nothing has written
pub text_is : (items before : List ℕ) (tokens start : List Token) (d e : Data) → items ≡ before ++ print tokens → before ≡ [] → start ≡ [] → tokens ≡ start ++ data_tokens d → d ≡ e → items ≡ compact_text e
text_is items before tokens start d e is empty begun goes same =
    is ∙ ap₂ (λ b ts. b ++ print ts) empty (goes ∙ ap (λ ts. ts ++ data_tokens d) begun) ∙ print-outline d ∙ ap compact_text same
