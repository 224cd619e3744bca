-- What is made of programs, and of which there is no reason to decline them.
use Rattle.std.proofs.Common.{inl, inr, ◌≡◌, ◌≤◌, ◌*◌, sym, ap, ◌∙◌, List, ℕ, Bool, true, false, Option, Some, true≢false, arith}
use Rattle.std.specs.Prelude.{◌⊎◌, ◌||◌, is_none, refl}
use Rattle.class_properties.proofs.Children.{program-nodes}
use Rattle.class_properties.specs.Lowering.{with_constructors}
use Rattle.es2022.proofs.Counted.{built_nodes, numbered_nodes}
use Rattle.es_base.specs.Preorder.{nodes}
use Rattle.es_base.specs.Tree.{Tree}
use Rattle.es_base.specs.declared.ledger.LedgerEntry.{LedgerEntry}
use Rattle.es_left.proofs.Unlowered.{no_lowered_class}
use Rattle.es_lowering.specs.Any.{DeclinesByNode}
use Rattle.es_lowering.specs.declared.lowering.Unlowered.{Unlowered}
use Rattle.es_steps.specs.LoweredClasses.{nothing_left}
use Rattle.es_steps.specs.declared.options.Options.{Options}
use Rattle.lower_es2022.specs.Own.{IsComplete, IsMade, IsNotYet, MakesFew, is_proved}
use Rattle.lower_run.specs.FirstForm as first_form
use Rattle.lower_run.specs.FirstForm.{not_yet_lowered}
use Rattle.lower_run.specs.Lowering.{IsDeclined}
use Rattle.lower_run.specs.Outcome.{Complete, IsAnswer}
use Rattle.lower_run.specs.declared.status.Status.{Status}
use Rattle.lower_with.specs.Judged as judged

-- a program with nothing to lower has the nodes that it had, and one of the first form at most nine for one
few_of_form : (o : Options) (p q : Tree) (foreign : List ℕ) (names : List LedgerEntry) → first_form.IsMade o p foreign names q → nodes q ≤ 64 * nodes p
few_of_form o p q foreign names made = by (nothing_left o p) refl
  where
    by : (none : Bool) → nothing_left o p ≡ none → nodes q ≤ 64 * nodes p
    by true is = omega (arith, built_nodes p q (made.owed.unchanged (no_lowered_class o p is)).0)
    by false is = omega (arith, numbered_nodes (nodes p) (nodes p) (with_constructors p) q (made.exact is), program-nodes p)

-- what keeps its meaning whatever it is, keeps it where it is plain
pub made_of_form : (o : Options) (p q : Tree) (foreign : List ℕ) (names : List LedgerEntry) → first_form.IsMade o p foreign names q → IsMade o p foreign names q
made_of_form o p q foreign names made = record {
  owed = record { owed = made.owed.owed; unchanged = made.owed.unchanged; same = λ plain. made.owed.same (tt {0}); meant = λ plain some. made.owed.meant (tt {0}) some };
  few = few_of_form o p q foreign names made;
  proved = λ proved. made;
}

left_false : (a b : Bool) → (a || b) ≡ false → a ≡ false
left_false false b e = refl
left_false true b e = absurd (true≢false e)

-- of a program that is not among them, what the lowering of classes makes and what is judged to be right is all that is asked
pub made_of_others : (o : Options) (p q : Tree) (foreign : List ℕ) (names : List LedgerEntry) → is_proved o p foreign ≡ false → judged.IsMade MakesFew o p foreign names q → IsMade o p foreign names q
made_of_others o p q foreign names unproved made = record {
  owed = made.owed;
  few = made.made (left_false (nothing_left o p) (is_none (not_yet_lowered o p foreign)) unproved);
  proved = λ proved. absurd (true≢false (sym proved ∙ unproved));
}

-- and its reasons are those why nothing is made of it
pub reason_of_others : (o : Options) (p : Tree) (foreign : List ℕ) (error : Unlowered) → is_proved o p foreign ≡ false → IsDeclined (judged.IsUnmade MakesFew DeclinesByNode o p foreign) error → IsDeclined (IsNotYet o p foreign) error
reason_of_others o p foreign Unlowered.NoMemory not unmade = tt {0}
reason_of_others o p foreign (Unlowered.NotYet node) not unmade = (not, unmade)
reason_of_others o p foreign Unlowered.TooDeep not unmade = (not, unmade)

both_false : (a b : Bool) → a ≡ false → b ≡ false → (a || b) ≡ false
both_false false false e f = refl
both_false true b e f = absurd (true≢false e)
both_false false true e f = absurd (true≢false f)

some_is : {k : Option ℕ} {n : ℕ} → k ≡ Some n → is_none k ≡ false
some_is e = ap is_none e

-- none of them is declined as of the first form
pub reason_of_form : (o : Options) (p : Tree) (foreign : List ℕ) (error : Unlowered) → is_proved o p foreign ≡ true → IsDeclined (first_form.IsNotYet o p foreign) error → IsDeclined (IsNotYet o p foreign) error
reason_of_form o p foreign Unlowered.NoMemory proved declined = tt {0}
reason_of_form o p foreign (Unlowered.NotYet node) proved declined = absurd (true≢false (sym proved ∙ both_false (nothing_left o p) (is_none (not_yet_lowered o p foreign)) declined.0 (some_is declined.1)))
reason_of_form o p foreign Unlowered.TooDeep proved declined = absurd declined

-- a program that is among them is not declined
done_or_not : (o : Options) (p : Tree) (foreign : List ℕ) (status : Status) → is_proved o p foreign ≡ true → IsAnswer (IsNotYet o p foreign) status → (status ≡ Status.Done) ⊎ (status ≡ Status.NoMemory)
done_or_not o p foreign Status.Done proved answer = inl refl
done_or_not o p foreign Status.NoMemory proved answer = inr refl
done_or_not o p foreign Status.Refused proved answer = absurd (true≢false (sym proved ∙ answer.declined.0))
done_or_not o p foreign Status.TooDeep proved answer = absurd (true≢false (sym proved ∙ answer.0))
done_or_not o p foreign status proved answer = absurd answer

pub proved_complete : (o : Option Options) (left : Option (List ℕ)) (before now first last : ℕ) (status : Status) → Complete IsNotYet o left before now first last status → IsComplete o left before now first last status
proved_complete o left before now first last status complete options b arguments told l unread unwritten =
    done_or_not options l.program.p l.program.foreign status l.proved (complete options b arguments told l.program unread unwritten)
