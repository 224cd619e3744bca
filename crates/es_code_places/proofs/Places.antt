-- Members by their places, and names of `new.target`.
use Rattle.std.proofs.Common.{◌≡◌, refl, sym, ap, ◌∙◌, ℕ, List, [], ◌∷◌, false}
use Rattle.std.proofs.Common.{◌<◌, length, arith}
use Rattle.std.specs.Prelude.{bytes_eq, codes}
use Rattle.es_steps.specs.Code.{done}
use Rattle.es_steps.specs.Expressions.{spelling_of}
use Rattle.es_steps.specs.Members.{at, code}
use Rattle.es_steps.specs.Members as of_node
use Rattle.es_steps.specs.Statements.{is_other_directive}
use Rattle.es_code_members.specs.MembersView.{members_of}
use Rattle.es_code_members.specs.declared.member.Member.{Member}
use Rattle.es_steps.specs.Code as of
use Rattle.es_codes.proofs.Forms.{code_out, spelled_is}
use Rattle.es_codes.specs.CodeView.{code_of, target_of, callee_of, code_step}
use Rattle.es_codes.specs.declared.code.Code.{Code}
use Rattle.es_codes.specs.declared.code.Target.{Target}
use Rattle.es_codes.specs.declared.code.Callee.{Callee}
use Rattle.es_codes.specs.declared.code.Code.TheVariants as variants
use Rattle.es_codes.specs.declared.code.Callee.TheOpen.{Code-F}
use Rattle.es_codes.specs.declared.code.Callee.TheViews.{roll-Code, out-Code, roll-out-Code}
use Rattle.es_codes.specs.declared.code.Callee.TheFolds.{map-Code}

pub none_first : (members : List Member) → length members < 1 → done ≡ of_node.codes_of (at 0 (members_of members))
none_first [] h = refl
none_first (m ∷ ms) h = absurd (omega (arith, h))

pub none_second : (members : List Member) → length members < 2 → false ≡ is_other_directive (at 1 (members_of members))
none_second [] h = refl
none_second (m ∷ []) h = refl
none_second (m ∷ n ∷ ms) h = absurd (omega (arith, h))

pub none_named : (members : List Member) → length members < 1 → false ≡ bytes_eq (spelling_of (at 0 (members_of members))) (codes "new")
none_named [] h = refl
none_named (m ∷ ms) h = absurd (omega (arith, h))

pub a_spelling : (e : Code) (spelling : List ℕ) → e ≡ variants.Spelled spelling → spelling_of (code (code_of e)) ≡ spelling
a_spelling e spelling is = ap (λ x. spelling_of (code (code_of x))) is ∙ ap (λ x. spelling_of (code x)) (spelled_is spelling)

pub no_spelling : (e : Code) → ((spelling : List ℕ) → e ≡ variants.Spelled spelling → ⊥) → spelling_of (code (code_of e)) ≡ []
no_spelling e not_spelled = ap (λ x. spelling_of (code x)) (code_out e) ∙ by (out-Code e) (roll-out-Code e)
  where
    by : (y : Code-F Callee Code Target) → roll-Code y ≡ e → spelling_of (code (code_step (map-Code Callee Code Target of.Callee of.Code of.Target callee_of code_of target_of y))) ≡ []
    by (Code-F.Spelled spelling) is = absurd (not_spelled spelling (sym is ∙ variants.rolls-Spelled spelling))
    by y is = refl
