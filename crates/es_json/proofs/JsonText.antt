-- The text of a value fixes the value, and so the text of a program fixes the program.
use Rattle.std.proofs.Common.{◌≡◌, refl, sym, ap, ap₂, ◌∙◌, ℕ, ◌+◌, ◌≤◌, pos, negsuc, List, [], true, Option, Result, Ok, Err, append-nil, arith}
use Rattle.std.specs.Prelude.{unwrap_or}
use Rattle.json.specs.Token.{Token}
use Rattle.json.specs.Lex.{tokens}
use Rattle.json.specs.Json as json
use Rattle.json.specs.Print.{IsNumber}
use Rattle.json.specs.Tree as tree
use Rattle.json.proofs.Printed.Decimals.{IsNumber-decimal, IsNumber-signed_decimal}
use Rattle.json.proofs.Printed.Tokens.{tokens-print}
use Rattle.json.proofs.Printed.Trees.{ArePrintable-json_tokens, value-json_tokens}
use Rattle.serde_json.specs.Data.{Num, unsigned, negative, float, Data, null, boolean as json_boolean, number, string as json_string, array, object, Items, no_items, item, Members, no_members, member}
use Rattle.serde_json.specs.Read.{number_of}
use Rattle.serde_json.specs.Written.{number_text, outline, items_outline, members_outline, compact_text}
use Rattle.serde_json.proofs.Numbers.{number_of-decimal, number_of-negative}
use Rattle.serde_json.proofs.Texts.{print-outline}
use Rattle.es_base.specs.Tree.{Tree}
use Rattle.es_base.specs.Conforms.{conforms}
use Rattle.es_base.specs.declared.table.Place.{Place}
use Rattle.es_reading.specs.Fault.{Fault, Read}
use Rattle.es_reading.specs.Reading.{read, root}
use Rattle.es_reading.specs.declared.numbers.Numbers.{Numbers}
use Rattle.es_writing.specs.Writing.{write}
use Rattle.es_base.specs.Carried.{stripped}
use Rattle.es_writing.specs.Kept.{IsKept}
use Rattle.es_json.specs.Printed.{NumberIsWell, IsPrintedWell, ItemsAreWell, MembersAreWell}
use Rattle.es_json.proofs.RoundTrip.{program_law}
use Rattle.es_json.proofs.Well.{written_well}

-- ---- the JSON that a value is fixes the value

-- the number that a text is, which for a number's own text is that number
abbrev number_read : List ℕ → Num
number_read s = unwrap_or (number_of s) (unsigned 0)

-- the value that a JSON is, with its members as they stand
abbrev mutual
  value_of : json.Json → Data
  value_of json.null = null
  value_of (json.boolean b) = json_boolean b
  value_of (json.number s) = number (number_read s)
  value_of (json.string s) = json_string s
  value_of (json.array js) = array (items_of js)
  value_of (json.object ms) = object (members_of ms)

  items_of : json.Items → Items
  items_of json.no_items = no_items
  items_of (json.item j js) = item (value_of j) (items_of js)

  members_of : json.Members → Members
  members_of json.no_members = no_members
  members_of (json.member k j ms) = member k (value_of j) (members_of ms)

number_back : (n : Num) → NumberIsWell n → number_read (number_text n) ≡ n
number_back (unsigned n) well = ap (λ o. unwrap_or o (unsigned 0)) (number_of-decimal n well)
number_back (negative (pos n)) well = absurd well
number_back (negative (negsuc n)) well = ap (λ o. unwrap_or o (unsigned 0)) (number_of-negative n well)
number_back (float x) well = absurd well

mutual
  value_back : (d : Data) → IsPrintedWell d → value_of (outline d) ≡ d
  value_back null well = refl
  value_back (json_boolean b) well = refl
  value_back (number n) well = ap number (number_back n well)
  value_back (json_string s) well = refl
  value_back (array ds) well = ap array (items_back ds well)
  value_back (object ms) well = ap object (members_back ms well)

  items_back : (ds : Items) → ItemsAreWell ds → items_of (items_outline ds) ≡ ds
  items_back no_items well = refl
  items_back (item d ds) well = ap₂ item (value_back d well.0) (items_back ds well.1)

  members_back : (ms : Members) → MembersAreWell ms → members_of (members_outline ms) ≡ ms
  members_back no_members well = refl
  members_back (member k d ms) well = ap₂ (member k) (value_back d well.0) (members_back ms well.1)

one_outline : (d e : Data) → IsPrintedWell d → IsPrintedWell e → outline d ≡ outline e → d ≡ e
one_outline d e d_well e_well same = sym (value_back d d_well) ∙ ap value_of same ∙ value_back e e_well

-- ---- its tokens fix a JSON

-- where both are read to the depth of the deeper one
abbrev parsed : json.Json → Option (json.Json × List Token) → json.Json
parsed j o = (unwrap_or o (j, [])).0

tokens_read : (j k : json.Json) (d : ℕ) → tree.depth j ≤ d → parsed k (json.value d (tree.json_tokens j)) ≡ j
tokens_read j k d deep = ap (λ ts. parsed k (json.value d ts)) (sym (append-nil (tree.json_tokens j))) ∙ ap (parsed k) (value-json_tokens j d [] deep)

one_tokens : (j k : json.Json) → tree.json_tokens j ≡ tree.json_tokens k → j ≡ k
one_tokens j k same =
    let d : ℕ = tree.depth j + tree.depth k in
    sym (tokens_read j json.null d (omega arith)) ∙ ap (λ ts. parsed json.null (json.value d ts)) same ∙ tokens_read k json.null d (omega arith)

-- ---- its text fixes a value

number_is_number : (n : Num) → NumberIsWell n → IsNumber (number_text n)
number_is_number (unsigned n) well = IsNumber-decimal n well
number_is_number (negative (pos n)) well = absurd well
number_is_number (negative (negsuc n)) well = IsNumber-signed_decimal (negsuc n) well
number_is_number (float x) well = absurd well

mutual
  has_numbers : (d : Data) → IsPrintedWell d → tree.HasNumbers (outline d)
  has_numbers null well = tt
  has_numbers (json_boolean b) well = tt
  has_numbers (number n) well = number_is_number n well
  has_numbers (json_string s) well = tt
  has_numbers (array ds) well = items_have_numbers ds well
  has_numbers (object ms) well = members_have_numbers ms well

  items_have_numbers : (ds : Items) → ItemsAreWell ds → tree.ItemsHaveNumbers (items_outline ds)
  items_have_numbers no_items well = tt
  items_have_numbers (item d ds) well = (has_numbers d well.0, items_have_numbers ds well.1)

  members_have_numbers : (ms : Members) → MembersAreWell ms → tree.MembersHaveNumbers (members_outline ms)
  members_have_numbers no_members well = tt
  members_have_numbers (member k d ms) well = (has_numbers d well.0, members_have_numbers ms well.1)

-- the tokens of its text are those of the value
pub text_tokens : (d : Data) → IsPrintedWell d → tokens (compact_text d) ≡ tree.json_tokens (outline d)
text_tokens d well = ap tokens (sym (print-outline d)) ∙ tokens-print (tree.json_tokens (outline d)) (ArePrintable-json_tokens (outline d) (has_numbers d well))

-- two values of one text are one
pub one_text : (d e : Data) → IsPrintedWell d → IsPrintedWell e → compact_text d ≡ compact_text e → d ≡ e
one_text d e d_well e_well same =
    one_outline d e d_well e_well (one_tokens (outline d) (outline e) (sym (text_tokens d d_well) ∙ ap tokens same ∙ text_tokens e e_well))

-- ---- the text of a program fixes the program, but for its semantic ids

-- what was read, or else this tree
abbrev pub tree_read : Tree → Result (Read Tree) Fault → Tree
tree_read t (Ok r) = r.value
tree_read t (Err e) = t

program_back : (s t : Tree) → conforms Place.Program t ≡ true → IsKept t → tree_read s (read Numbers.Given (write t) root 0) ≡ stripped t
program_back s t conform kept = ap (tree_read s) (program_law t conform kept)

-- two programs that are written as one value are one but for their semantic ids
pub value_fixes_tree : (s t : Tree) → conforms Place.Program s ≡ true → conforms Place.Program t ≡ true → IsKept s → IsKept t → write s ≡ write t → stripped s ≡ stripped t
value_fixes_tree s t s_conforms t_conforms s_kept t_kept same =
    sym (program_back s s s_conforms s_kept) ∙ ap (λ d. tree_read s (read Numbers.Given d root 0)) same ∙ program_back s t t_conforms t_kept

pub text_fixes_tree : (s t : Tree) → conforms Place.Program s ≡ true → conforms Place.Program t ≡ true → IsKept s → IsKept t → compact_text (write s) ≡ compact_text (write t) → stripped s ≡ stripped t
text_fixes_tree s t s_conforms t_conforms s_kept t_kept same =
    value_fixes_tree s t s_conforms t_conforms s_kept t_kept (one_text (write s) (write t) (written_well s s_kept) (written_well t t_kept) same)
