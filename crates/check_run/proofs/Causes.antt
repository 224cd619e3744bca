-- What follows from the cause of a status.
use Rattle.std.proofs.Common.{inl, inr, ◌≡◌, refl, sym, ◌∙◌, subst, ℕ, ◌<◌, ◌≤◌, List, ◌++◌, length, Option, Some, None, arith}
use Rattle.std.proofs.lemmas.Option.{none-some, same_Some}
use Rattle.serde_json.specs.Data.{Data}
use Rattle.serde_json.specs.Read.{read as read_text}
use Rattle.check_run.specs.Outcome.{Cause, Complete, HasAgreed, HasValidSource, IsComparable, IsOutputOfBytes, edge_of}
use Rattle.check_run.specs.Pair.{pair_in}
use Rattle.check_run.specs.declared.status.CheckStatus.{CheckStatus}
use Rattle.es_steps.specs.declared.options.Options.{Options}
use Rattle.lower_edge.proofs.Refusals.{valid-unrefused}
use Rattle.lower_edge.specs.Ending.{IsWritten, Says, most_bytes}
use Rattle.lower_io.specs.Held.{Extends}

-- ---- completeness

-- of the same bytes, the value that was read is that of the pair
same_value : (o : Options) (b : List ℕ) (l : IsComparable o b) (d : Data) → read_text b ≡ Some d → l.d ≡ d
same_value o b l d e = same_Some l.d d (sym l.value ∙ e)

its_pair : (o : Options) (b : List ℕ) (l : IsComparable o b) (d : Data) → read_text b ≡ Some d → pair_in d ≡ Some l.pair
its_pair o b l d e = subst (λ v. pair_in v ≡ Some l.pair) (same_value o b l d e) l.is_pair

-- such bytes are a pair, whose source is not refused
no_refusal : (o : Options) (b : List ℕ) (l : IsComparable o b) (text : List ℕ) → IsOutputOfBytes o b CheckStatus.Refused text → ⊥
no_refusal o b l text of =
    let same : l.pair ≡ of.output.pair = same_Some l.pair of.output.pair (sym (its_pair o b l of.d of.value) ∙ of.output.is_pair) in
    let valid : HasValidSource o of.output.pair = subst (HasValidSource o) same l.valid in
    valid-unrefused o of.output.pair.source of.output.pair.foreign valid of.output.output.error text of.output.output.refused of.output.output.written

no_want : (o : Options) (b : List ℕ) (l : IsComparable o b) (text : List ℕ) → IsOutputOfBytes o b CheckStatus.NotAPair text → ⊥
no_want o b l text (inl none) = none-some l.d (sym (none.0 l.utf8) ∙ l.value)
no_want o b l text (inr of) = none-some l.pair (sym of.output.0 ∙ its_pair o b l of.d of.value)

too_many : (x b : List ℕ) → x ≡ b → most_bytes < length x → length b ≤ most_bytes → ⊥
too_many x b same more few = omega (arith, subst (λ (y : List ℕ). most_bytes < length y) same more, few)

moved : (o options : Options) (x b : List ℕ) (status : CheckStatus) (text : List ℕ) → o ≡ options → x ≡ b → IsOutputOfBytes o x status text → IsOutputOfBytes options b status text
moved o options x b status text e f output = subst (λ (y : List ℕ). IsOutputOfBytes options y status text) f (subst (λ (p : Options). IsOutputOfBytes p x status text) e output)

pub cause-complete : (o : Option Options) (left : Option (List ℕ)) (before now : ℕ) (held after : Option (List ℕ)) (first last : ℕ) (status : CheckStatus)
    → Cause o left before now held after first last status → Complete o left before now first last status
cause-complete o left before now held after first last CheckStatus.Agreed c = λ options b arguments told l unread unwritten. tt
cause-complete o left before now held after first last CheckStatus.Differs c = λ options b arguments told l unread unwritten. tt
cause-complete o left before now held after first last CheckStatus.TooDeep c = λ options b arguments told l unread unwritten. tt
cause-complete o left before now held after first last CheckStatus.NoMemory c = λ options b arguments told l unread unwritten. tt
cause-complete o left before now held after first last CheckStatus.WriteFault c = λ options b arguments told l unread unwritten. unwritten c.0
cause-complete None left before now held after first last status c = λ options b arguments told l unread unwritten. absurd (none-some options arguments)
cause-complete (Some o) left before now held after first last CheckStatus.BadWords c = λ options b arguments told l unread unwritten. c.output
cause-complete (Some o) left before now held after first last CheckStatus.ReadFault c = λ options b arguments told l unread unwritten. unread c.output.0
cause-complete (Some o) None before now held after first last status c = λ options b arguments told l unread unwritten. absurd (none-some b told)
cause-complete (Some o) (Some x) before now held after first last CheckStatus.TooLong c = λ options b arguments told l unread unwritten. too_many x b (same_Some x b told) c.output.0 l.few
cause-complete (Some o) (Some x) before now held after first last CheckStatus.Refused c = λ options b arguments told l unread unwritten. no_refusal options b l c.text (moved o options x b CheckStatus.Refused c.text (same_Some o options arguments) (same_Some x b told) c.output.1)
cause-complete (Some o) (Some x) before now held after first last CheckStatus.NotAPair c = λ options b arguments told l unread unwritten. no_want options b l c.text (moved o options x b CheckStatus.NotAPair c.text (same_Some o options arguments) (same_Some x b told) c.output.1)

-- ---- the main statement

agreed : (o : Options) (b old new text : List ℕ) → length b ≤ most_bytes → IsOutputOfBytes o b CheckStatus.Agreed text → Extends (Some old) (Some new) text → HasAgreed (Some o) b old new
agreed o b old new text few of gained = record {
  options = o;
  arguments = refl;
  compared = record { few = few; utf8 = of.utf8; d = of.d; value = of.value; pair = of.output.pair; is_pair = of.output.is_pair; valid = of.output.output.0 };
  agrees = of.output.output.1;
  gained = subst (λ (line : List ℕ). new ≡ old ++ line) of.output.output.2 gained;
}

pub cause-agreed : (o : Option Options) (left : Option (List ℕ)) (before now : ℕ) (held after : Option (List ℕ)) (first last : ℕ) (status : CheckStatus)
    → Cause o left before now held after first last status → status ≡ CheckStatus.Agreed → (b old new : List ℕ) → left ≡ Some b → held ≡ Some old → after ≡ Some new → HasAgreed o b old new
cause-agreed o left before now held after first last status c is b old new told had has =
    whole o (subst (λ (a : Option (List ℕ)). IsWritten (Says edge_of IsOutputOfBytes o (Some b) before now CheckStatus.Agreed) (Some old) a) has
    (subst (λ (h : Option (List ℕ)). IsWritten (Says edge_of IsOutputOfBytes o (Some b) before now CheckStatus.Agreed) h after) had
    (subst (λ (l : Option (List ℕ)). IsWritten (Says edge_of IsOutputOfBytes o l before now CheckStatus.Agreed) held after) told
    (subst (λ (s : CheckStatus). Cause o left before now held after first last s) is c))))
  where
    whole : (o : Option Options) → IsWritten (Says edge_of IsOutputOfBytes o (Some b) before now CheckStatus.Agreed) (Some old) (Some new) → HasAgreed o b old new
    whole None w = absurd w.output
    whole (Some o) w = agreed o b old new w.text w.output.0 w.output.1 w.gained
