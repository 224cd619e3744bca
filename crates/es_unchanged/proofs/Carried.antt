-- A node that stands in the source stands for itself.
use Rattle.std.specs.Prelude.{◌≡◌, ℕ, suc, List, [], ◌∷◌, Bool, true, false, not, ◌&&◌, ◌||◌, nat_eq, Option}
use Rattle.std.proofs.Common.{refl}
use Rattle.es_base.specs.Numbered.{is_new}
use Rattle.es_base.specs.Preorder.{number_of}
use Rattle.es_base.specs.Tree.{Tree, Part, Parts, Node, end, more, child, absent, list, string, no_string, boolean, literal}
use Rattle.es_base.specs.declared.kind.Kind.{Kind}
use Rattle.es_left.proofs.Booleans.{both}
use Rattle.es_lowered.specs.Carriers.{OddForm, calls_eval, calls_private, deletes_private, deletes_name, takes_odd_parameters, declares_oddly, gives_value, has_odd_body, gives_prototype, is_shorthand, exports_oddly, no_odd_form, odd_form, keeps_form, is_call_of, may_question, has_question, carries, stands_for_node, is_carried, is_lowered_target, same_node, keeps_target}
use Rattle.es_lowered.specs.HelperCalls.{is_number_key}
use Rattle.es_lowered.specs.KeptWords.{same_name, same_word, same_words, is_free, keeps_computed, keeps_value, keeps_words}
use Rattle.es_steps.proofs.Reflexive.{number-same, string-same}
use Rattle.es_steps.specs.Parts.{at, is_true, is_present, string_of}
use Rattle.es_steps.specs.References.{is_reference}
use Rattle.es_steps.specs.SameTrees.{kind_number}
use Rattle.es_steps.specs.SameValues.{same_boolean}
use Rattle.es_unchanged.proofs.Standing.{In, here, later, or_left, or_right}

stays : (form : OddForm) → keeps_form form form ≡ true
stays calls_eval = refl
stays calls_private = refl
stays deletes_private = refl
stays deletes_name = refl
stays takes_odd_parameters = refl
stays declares_oddly = refl
stays gives_value = refl
stays has_odd_body = refl
stays gives_prototype = refl
stays is_shorthand = refl
stays exports_oddly = refl
stays no_odd_form = refl

name-same : (t : Tree) → same_name t t ≡ true
name-same (Node Kind.IdentifierName m span semantic_id ps) = string-same (string_of (at 0 ps))
name-same t = refl

word-same : (p : Part) → same_word p p ≡ true
word-same (child t) = name-same t
word-same absent = refl
word-same (list ps) = refl
word-same (string s) = string-same s
word-same no_string = refl
word-same (boolean true) = refl
word-same (boolean false) = refl
word-same (literal v) = refl

words-same : (free : ℕ → Bool) (ps : Parts) → same_words free ps ps ≡ true
words-same free end = refl
words-same free (more p ps) = both (or_right (free 0) (same_word p p) (word-same p)) (words-same (λ i. free (suc i)) ps)

asked : (b c : Bool) → (b || (not b || c)) ≡ true
asked true c = refl
asked false c = refl

not-asked : (b : Bool) → (b || not b) ≡ true
not-asked true = refl
not-asked false = refl

asked-or-not : (kind : Kind) (ps : Parts) → (has_question kind ps || may_question kind ps) ≡ true
asked-or-not Kind.MemberExpression ps = asked (is_true (at 3 ps)) (is_call_of ps)
asked-or-not Kind.PrivateField ps = not-asked (is_true (at 3 ps))
asked-or-not Kind.CallExpression ps = not-asked (is_true (at 2 ps))
asked-or-not kind ps = refl

computed-same : (kind : Kind) (ps : Parts) → keeps_computed kind ps ps ≡ true
computed-same Kind.PropertyDefinition ps = either (is_true (at 2 ps))
  where
    either : (b : Bool) → (not b || b) ≡ true
    either true = refl
    either false = refl
computed-same Kind.Property ps = or_left (same_boolean (is_true (at 5 ps)) (is_true (at 5 ps))) (is_number_key (at 0 ps) && is_true (at 5 ps)) (itself (is_true (at 5 ps)))
  where
    itself : (b : Bool) → same_boolean b b ≡ true
    itself true = refl
    itself false = refl
computed-same kind ps = refl

value-same : (kind : Kind) (ps : Parts) → keeps_value kind ps ps ≡ true
value-same Kind.PropertyDefinition ps = or_left (same_word (at 1 ps) (at 1 ps)) (is_true (at 3 ps) && not (is_present (at 1 ps))) (word-same (at 1 ps))
value-same kind ps = refl

node-same : (p : Part) → same_node p p ≡ true
node-same (child t) = number-same (number_of t)
node-same absent = refl
node-same (list ps) = refl
node-same (string s) = refl
node-same no_string = refl
node-same (boolean b) = refl
node-same (literal v) = refl

target-same : (kind : Kind) (ps : Parts) → keeps_target kind ps kind ps ≡ true
target-same Kind.AssignmentExpression ps = or_right (is_lowered_target (at 1 ps)) (same_node (at 1 ps) (at 1 ps)) (node-same (at 1 ps))
target-same Kind.UpdateExpression ps = or_right (is_lowered_target (at 1 ps)) (same_node (at 1 ps) (at 1 ps)) (node-same (at 1 ps))
target-same kind ps = refl

carries-itself : (kind : Kind) (ps : Parts) → carries kind ps kind ps ≡ true
carries-itself Kind.IdentifierReference ps = rw (string-same (string_of (at 0 ps))) refl
carries-itself kind ps = rw (number-same (kind_number kind), words-same (is_free kind) ps, computed-same kind ps, value-same kind ps, target-same kind ps) (both (stays (odd_form kind ps)) (asked-or-not kind ps))

stands-for : (kind : Kind) (n : ℕ) (span : Option (ℕ × ℕ)) (semantic_id : Option ℕ) (ps : Parts) (us : List Tree) → In (Node kind n span semantic_id ps) us → stands_for_node kind n ps us ≡ true
stands-for kind n span semantic_id ps [] i = elim i [ ]
stands-for kind n span semantic_id ps (u ∷ us) here = or_left (nat_eq n n && carries kind ps kind ps) (stands_for_node kind n ps us) (both (number-same n) (carries-itself kind ps))
stands-for kind n span semantic_id ps (Node other m mspan m_semantic_id qs ∷ us) (later i) =
    or_right (nat_eq n m && carries other qs kind ps) (stands_for_node kind n ps us) (stands-for kind n span semantic_id ps us i)

-- an old node
pub carried : (first : ℕ) (us : List Tree) (t : Tree) → is_new first (number_of t) ≡ false → In t us → is_carried first us t ≡ true
carried first us (Node kind n span semantic_id ps) old i = rw old (stands-for kind n span semantic_id ps us i)

-- and one of its number and kind that is no reference and has its words
alike : (kind : Kind) (ps qs : Parts) → is_reference kind ≡ false → odd_form kind qs ≡ no_odd_form → keeps_words kind ps qs ≡ true → keeps_target kind ps kind qs ≡ true → may_question kind qs ≡ true → carries kind ps kind qs ≡ true
alike kind ps qs e even words target plain = rw (e, number-same (kind_number kind), words, target, even, plain) (or_right (has_question kind ps) true refl)

stands-alike : (kind : Kind) (n : ℕ) (span : Option (ℕ × ℕ)) (semantic_id : Option ℕ) (ps qs : Parts) (us : List Tree) → is_reference kind ≡ false → odd_form kind qs ≡ no_odd_form → keeps_words kind ps qs ≡ true → keeps_target kind ps kind qs ≡ true → may_question kind qs ≡ true → In (Node kind n span semantic_id ps) us → stands_for_node kind n qs us ≡ true
stands-alike kind n span semantic_id ps qs [] e even words target plain i = elim i [ ]
stands-alike kind n span semantic_id ps qs (u ∷ us) e even words target plain here = or_left (nat_eq n n && carries kind ps kind qs) (stands_for_node kind n qs us) (both (number-same n) (alike kind ps qs e even words target plain))
stands-alike kind n span semantic_id ps qs (Node other m mspan m_semantic_id ms ∷ us) e even words target plain (later i) =
    or_right (nat_eq n m && carries other ms kind qs) (stands_for_node kind n qs us) (stands-alike kind n span semantic_id ps qs us e even words target plain i)

pub carried-alike : (first : ℕ) (us : List Tree) (kind : Kind) (n : ℕ) (span : Option (ℕ × ℕ)) (semantic_id : Option ℕ) (ps qs : Parts) → is_reference kind ≡ false → odd_form kind qs ≡ no_odd_form → keeps_words kind ps qs ≡ true → keeps_target kind ps kind qs ≡ true → may_question kind qs ≡ true → is_new first n ≡ false → In (Node kind n span semantic_id ps) us → is_carried first us (Node kind n span semantic_id qs) ≡ true
carried-alike first us kind n span semantic_id ps qs e even words target plain old i = rw old (stands-alike kind n span semantic_id ps qs us e even words target plain i)
