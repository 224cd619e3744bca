-- What follows from the cause of a status.
use Rattle.std.proofs.Common.{inl, inr, ◌≡◌, refl, sym, ap, ap₂, ◌∙◌, subst, ℕ, ◌<◌, ◌≤◌, List, length, Option, Some, None, Result, Ok, Err, true, arith}
use Rattle.std.specs.Prelude.{◌⊎◌}
use Rattle.es_base.specs.Tree.{Tree}
use Rattle.es_reading.specs.Fault.{Fault, Read}
use Rattle.es_reading.specs.Reading.{read, root}
use Rattle.es_reading.specs.declared.numbers.Numbers.{Numbers}
use Rattle.es_lowering.specs.declared.lowering.Unlowered.{Unlowered}
use Rattle.es_steps.specs.declared.options.Options.{Options}
use Rattle.es_validity.specs.Validity.{is_valid}
use Rattle.es_validity.specs.declared.error.LowerError.{LowerError}
use Rattle.lower_edge.proofs.Refusals.{valid-unrefused}
use Rattle.lower_edge.specs.Ending.{IsRefusalText, IsWritten, Says, most_bytes}
use Rattle.lower_io.specs.Held.{Extends}
use Rattle.lower_run.specs.Lowering.{Declining, Making}
use Rattle.lower_run.specs.Outcome.{Cause, Complete, HasLowered, HasReason, IsAnswer, IsOfValidProgram, IsOutputOfBytes, IsRefused, edge_of}
use Rattle.lower_run.specs.declared.status.Status.{Status}
use Rattle.serde_json.specs.Data.{Data}
use Rattle.serde_json.specs.Read.{read as read_text}

-- ---- completeness

same_some : {A : Type 0} {a b : A} → Some a ≡ Some b → a ≡ b
same_some e = cc

none_some : {A B : Type 0} {a : A} → None ≡ Some a → B
none_some e = cc

err_ok : {A E B : Type 0} {a : A} {e : E} → Err e ≡ Ok a → B
err_ok e = cc

-- of the same bytes, the value that was read is that of the program
same_value : (o : Options) (b : List ℕ) (l : IsOfValidProgram o b) (d : Data) → read_text b ≡ Some d → d ≡ l.d
same_value o b l d e = same_some (sym e ∙ l.value)

no_fault : (o : Options) (b : List ℕ) (l : IsOfValidProgram o b) (d : Data) (fault : Fault) {B : Type 0} → read_text b ≡ Some d → read Numbers.Preorder d root 0 ≡ Err fault → B
no_fault o b l d fault e f = err_ok (sym f ∙ ap (λ v. read Numbers.Preorder v root 0) (same_value o b l d e) ∙ l.tree)

abbrev read_or : Read Tree → Result (Read Tree) Fault → Read Tree
read_or r (Ok x) = x
read_or r (Err fault) = r

read_parts : (r s : Read Tree) → Path (Result (Read Tree) Fault) (Ok r) (Ok s) → (r.value ≡ s.value) × (r.foreign ≡ s.foreign)
read_parts r s e = (ap (λ x. (read_or r x).value) e, ap (λ x. (read_or r x).foreign) e)

same_program : (o : Options) (b : List ℕ) (l : IsOfValidProgram o b) (d : Data) (p : Tree) (foreign : List ℕ) → read_text b ≡ Some d → read Numbers.Preorder d root 0 ≡ Ok (record { value = p; foreign = foreign }) → (p ≡ l.p) × (foreign ≡ l.foreign)
same_program o b l d p foreign e f =
    read_parts (record { value = p; foreign = foreign }) (record { value = l.p; foreign = l.foreign }) (sym f ∙ ap (λ v. read Numbers.Preorder v root 0) (same_value o b l d e) ∙ l.tree)

too_many : (x b : List ℕ) {B : Type 0} → x ≡ b → most_bytes < length x → length b ≤ most_bytes → B
too_many x b same more few = absurd (omega (arith, subst (λ (y : List ℕ). most_bytes < length y) same more, few))

module _ (Makes : Making) (Declines : Declining) where
  abbrev Output : Options → List ℕ → Status → List ℕ → Type 0
  Output = IsOutputOfBytes Makes Declines

  -- a valid program is refused for a reason to decline it
  has_reason : (o : Options) (p : Tree) (foreign : List ℕ) → is_valid o foreign p ≡ true → (error : LowerError) (text : List ℕ) → IsRefused Declines o p foreign error → IsRefusalText error text → HasReason (Declines o p foreign)
  has_reason o p foreign valid (LowerError.NotYet node) text refused written = record { node = node; declined = refused.1 }
  has_reason o p foreign valid error text refused written = absurd (valid-unrefused o p foreign valid error text refused written)

  reason_of : (o : Options) (b : List ℕ) (l : IsOfValidProgram o b) (text : List ℕ) → Output o b Status.Refused text → HasReason (Declines o l.p l.foreign)
  reason_of o b l text of =
      let same = same_program o b l of.d of.output.p of.output.foreign of.value of.output.tree in
      let valid : is_valid o of.output.foreign of.output.p ≡ true = ap₂ (λ p foreign. is_valid o foreign p) same.0 same.1 ∙ l.valid in
      subst (λ (p : Tree). HasReason (Declines o p l.foreign)) same.0
      (subst (λ (ns : List ℕ). HasReason (Declines o of.output.p ns)) same.1
      (has_reason o of.output.p of.output.foreign valid of.output.output.error text of.output.output.refused of.output.output.written))

  deep_of : (o : Options) (b : List ℕ) (l : IsOfValidProgram o b) (text : List ℕ) → Output o b Status.TooDeep text → Declines o l.p l.foreign Unlowered.TooDeep
  deep_of o b l text of =
      let same = same_program o b l of.d of.output.p of.output.foreign of.value of.output.tree in
      subst (λ (p : Tree). Declines o p l.foreign Unlowered.TooDeep) same.0
      (subst (λ (ns : List ℕ). Declines o of.output.p ns Unlowered.TooDeep) same.1 of.output.output.0.1)

  no_want : (o : Options) (b : List ℕ) (l : IsOfValidProgram o b) (text : List ℕ) {B : Type 0} → Output o b Status.NotATree text → B
  no_want o b l text (inl none) = none_some (sym (none.0 l.utf8) ∙ l.value)
  no_want o b l text (inr of) = no_fault o b l of.d of.output.fault of.value of.output.first

  moved : (o options : Options) (x b : List ℕ) (status : Status) (text : List ℕ) → o ≡ options → x ≡ b → Output o x status text → Output options b status text
  moved o options x b status text e f output = subst (λ (y : List ℕ). Output options y status text) f (subst (λ (p : Options). Output p x status text) e output)

  pub cause-complete : (o : Option Options) (left : Option (List ℕ)) (before now : ℕ) (held after : Option (List ℕ)) (first last : ℕ) (status : Status)
      → Cause Makes Declines o left before now held after first last status → Complete Declines o left before now first last status
  cause-complete o left before now held after first last Status.Done c = λ options b arguments told l unread unwritten. tt
  cause-complete o left before now held after first last Status.NoMemory c = λ options b arguments told l unread unwritten. tt
  cause-complete o left before now held after first last Status.WriteFault c = λ options b arguments told l unread unwritten. absurd (unwritten c.0)
  cause-complete None left before now held after first last status c = λ options b arguments told l unread unwritten. none_some arguments
  cause-complete (Some o) left before now held after first last Status.BadArguments c = λ options b arguments told l unread unwritten. absurd c.output
  cause-complete (Some o) left before now held after first last Status.ReadFault c = λ options b arguments told l unread unwritten. absurd (unread c.output.0)
  cause-complete (Some o) None before now held after first last status c = λ options b arguments told l unread unwritten. none_some told
  cause-complete (Some o) (Some x) before now held after first last Status.TooLong c = λ options b arguments told l unread unwritten. too_many x b (same_some told) c.output.0 l.few
  cause-complete (Some o) (Some x) before now held after first last Status.Refused c = λ options b arguments told l unread unwritten. reason_of options b l c.text (moved o options x b Status.Refused c.text (same_some arguments) (same_some told) c.output.1)
  cause-complete (Some o) (Some x) before now held after first last Status.TooDeep c = λ options b arguments told l unread unwritten. deep_of options b l c.text (moved o options x b Status.TooDeep c.text (same_some arguments) (same_some told) c.output.1)
  cause-complete (Some o) (Some x) before now held after first last Status.NotATree c = λ options b arguments told l unread unwritten. no_want options b l c.text (moved o options x b Status.NotATree c.text (same_some arguments) (same_some told) c.output.1)

  -- ---- the main statement

  pub cause-done : (o : Option Options) (left : Option (List ℕ)) (before now : ℕ) (held after : Option (List ℕ)) (first last : ℕ) (status : Status)
      → Cause Makes Declines o left before now held after first last status → status ≡ Status.Done → (b old new : List ℕ) → left ≡ Some b → held ≡ Some old → after ≡ Some new → HasLowered Makes Declines o b old new
  cause-done o left before now held after first last status c is b old new told had has =
      done o left held after (subst (λ (s : Status). Cause Makes Declines o left before now held after first last s) is c) told had has
    where
      done : (o : Option Options) (left held after : Option (List ℕ)) → IsWritten (Says edge_of Output o left before now Status.Done) held after → left ≡ Some b → held ≡ Some old → after ≡ Some new → HasLowered Makes Declines o b old new
      done None left held after w told had has = absurd w.output
      done (Some o) left held after w told had has = whole o w.text (subst (λ (l : Option (List ℕ)). Says edge_of Output (Some o) l before now Status.Done w.text) told w.output) (subst (λ (h : Option (List ℕ)). Extends h (Some new) w.text) had (subst (λ (a : Option (List ℕ)). Extends held a w.text) has w.gained))
        where
          whole : (o : Options) (text : List ℕ) → Says edge_of Output (Some o) (Some b) before now Status.Done text → Extends (Some old) (Some new) text → HasLowered Makes Declines (Some o) b old new
          whole o text output gained = record { options = o; arguments = refl; few = output.0; text = text; gained = gained; lowered = output.1 }
