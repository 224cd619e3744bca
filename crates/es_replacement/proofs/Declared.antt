-- A declaration of generated names in a list of statements.
use Rattle.std.specs.Prelude.{◌≡◌, refl, ℕ, List, [], ◌++◌, true, ◌||◌, Option, Some, None}
use Rattle.std.proofs.Common.{◌∙◌, ap, ap₂, sym, subst}
use Rattle.es_steps.specs.Code.{Code, Codes, Opened, nothing, steps, done, and, joined}
use Rattle.es_steps.specs.Entries.{is_string_among, behind_code, after_run, entries, all_entries}
use Rattle.es_steps.specs.Evaluation.{Environment, Run, Evaluation, run_behind, go_on, settle_run, gives, ev, ev_all}
use Rattle.es_steps.specs.Events.{none}
use Rattle.es_steps.specs.Meaning.{private_function_by}
use Rattle.es_steps.specs.Opening.{gather, gather_all, defined_by, assigned_by}
use Rattle.es_steps.specs.Values.{Value, Undefined}
use Rattle.es_replacement.proofs.Environments.{left, right}
use Rattle.es_replacement.proofs.Replaced.{standing_law}
use Rattle.es_replacement.specs.Holes.{declares_alone, all_declare_alone}
use Rattle.es_replacement.specs.Law.{DeclarationLaw}
use Rattle.es_replacement.specs.Replacing.{run_without, OnlyAdds, AllDefineAlike}

-- what a declaration does
abbrev idle : Environment → Option Run
idle s = Some (record { events = none; value = Undefined; after = s })

-- nothing stands behind nothing
behind-none : (r : Option Run) → run_behind none r ≡ r
behind-none None = refl
behind-none (Some r) = refl

go_on-same : (r : Option Run) (f g : Value → Evaluation) → ((v : Value) (s : Environment) → f v s ≡ g v s) → go_on r f ≡ go_on r g
go_on-same None f g same = refl
go_on-same (Some r) f g same = ap (run_behind r.events) (same r.value r.after)

module _ (opens : Opened → Evaluation) where
  mutual
    idle-ev : (d : Code) → declares_alone d ≡ true → (s : Environment) → ev opens d s ≡ idle s
    idle-ev nothing h s = refl
    idle-ev (steps es) h s = ap settle_run (idle-all es h s)
    idle-ev d h s = absurd (cc)

    idle-all : (es : Codes) → all_declare_alone es ≡ true → (s : Environment) → ev_all opens es (λ vs. gives Undefined) s ≡ idle s
    idle-all done h s = refl
    idle-all (and e es) h s = ap (λ r. go_on r (λ v. ev_all opens es (λ vs. gives Undefined))) (idle-ev e (left _ _ h) s) ∙ behind-none (ev_all opens es (λ vs. gives Undefined) s) ∙ idle-all es (right (declares_alone e) _ h) s

  inserted : (es fs : Codes) (d : Code) → declares_alone d ≡ true → (s : Environment) → ev_all opens (joined es (and d fs)) (λ vs. gives Undefined) s ≡ ev_all opens (joined es fs) (λ vs. gives Undefined) s
  inserted done fs d h s = ap (λ r. go_on r (λ v. ev_all opens fs (λ vs. gives Undefined))) (idle-ev d h s) ∙ behind-none (ev_all opens fs (λ vs. gives Undefined) s)
  inserted (and e es) fs d h s = go_on-same (ev opens e s) (λ v. ev_all opens (joined es (and d fs)) (λ vs. gives Undefined)) (λ v. ev_all opens (joined es fs) (λ vs. gives Undefined)) (λ v t. inserted es fs d h t)

  steps-inserted : (es fs : Codes) (d : Code) → declares_alone d ≡ true → (s : Environment) → ev opens (steps (joined es (and d fs))) s ≡ ev opens (steps (joined es fs)) s
  steps-inserted es fs d h s = ap settle_run (inserted es fs d h s)

-- ---- what is gathered

module _ {A : Type 0} (own : Code → List A) where
  mutual
    none-gathered : (d : Code) → declares_alone d ≡ true → gather own d ≡ []
    none-gathered nothing h = refl
    none-gathered (steps es) h = none-gathered_of es h
    none-gathered d h = absurd (cc)

    none-gathered_of : (es : Codes) → all_declare_alone es ≡ true → gather_all own es ≡ []
    none-gathered_of done h = refl
    none-gathered_of (and e es) h = ap₂ (λ (x y : List A). x ++ y) (none-gathered e (left _ _ h)) (none-gathered_of es (right (declares_alone e) _ h))

  gathered-inserted : (es fs : Codes) (d : Code) → declares_alone d ≡ true → gather_all own (joined es (and d fs)) ≡ gather_all own (joined es fs)
  gathered-inserted done fs d h = ap (λ (x : List A). x ++ gather_all own fs) (none-gathered d h)
  gathered-inserted (and e es) fs d h = ap (λ (x : List A). gather own e ++ x) (gathered-inserted es fs d h)

-- ---- entries

module _ (opens : Opened → Evaluation) (first : ℕ) (late : List ℕ) where
  idle-behind : (d : Code) → declares_alone d ≡ true → (s : Environment) → behind_code opens first late s d ≡ s
  idle-behind d h s = ap (after_run s) (idle-ev opens d h s)

  mutual
    none-entered : (d : Code) → declares_alone d ≡ true → (s : Environment) → entries opens first late s d ≡ []
    none-entered nothing h s = refl
    none-entered (steps es) h s = none-entered_of es h s
    none-entered d h s = absurd (cc)

    none-entered_of : (es : Codes) → all_declare_alone es ≡ true → (s : Environment) → all_entries opens first late s es ≡ []
    none-entered_of done h s = refl
    none-entered_of (and e es) h s = ap₂ (λ x y. x ++ y) (none-entered e (left _ _ h) s) (none-entered_of es (right (declares_alone e) _ h) (behind_code opens first late s e))

  entered-inserted : (es fs : Codes) (d : Code) → declares_alone d ≡ true → (s : Environment) → all_entries opens first late s (joined es (and d fs)) ≡ all_entries opens first late s (joined es fs)
  entered-inserted done fs d h s = ap₂ (λ x t. x ++ all_entries opens first late t fs) (none-entered d h s) (idle-behind d h s)
  entered-inserted (and e es) fs d h s = ap (λ x. entries opens first late s e ++ x) (entered-inserted es fs d h (behind_code opens first late s e))

pub declaration_law : DeclarationLaw
declaration_law names es fs d h p =
    let itself = standing_law names (steps (joined es fs)) p in
    record {
      evaluates = λ opens there follow. record {
        same = λ s. (itself.evaluates opens there follow).same s ∙ ap (run_without names) (sym (steps-inserted there es fs d h s));
        adds = λ s. subst (OnlyAdds s) (sym (steps-inserted there es fs d h s)) ((itself.evaluates opens there follow).adds s);
      };
      defines = subst (AllDefineAlike names (gather_all defined_by (joined es fs))) (sym (gathered-inserted defined_by es fs d h)) itself.defines;
      assigns = λ s. ap (λ xs. is_string_among s names || is_string_among s xs) (sym (gathered-inserted assigned_by es fs d h));
      functions = sym (gathered-inserted private_function_by es fs d h);
      enters = λ opens there first late s follow. itself.enters opens there first late s follow ∙ sym (entered-inserted there first late es fs d h s);
    }
