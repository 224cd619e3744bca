-- What `delete` does, by the forms of codes.
use Rattle.std.proofs.Common.{◌≡◌, refl, sym, ap, ◌∙◌, ℕ, List, true}
use Rattle.es_codes.specs.Keyed.{is_key}
use Rattle.es_steps.specs.Events.{Delete}
use Rattle.es_steps.specs.Expressions as spec
use Rattle.es_steps.specs.Values as values
use Rattle.es_code_operators.specs.Deleting.{deleted_chain, deleted_whole, deletion, deletion_of}
use Rattle.es_code_operators.specs.declared.deleted.Deletion.{Deletion}
use Rattle.es_steps.specs.Code as of
use Rattle.es_codes.proofs.Forms.{code_out, chain_is, from_member_is, member_is, super_member_is, tested_is, value_is}
use Rattle.es_codes.specs.CodeView.{code_of, target_of, callee_of, codes_of, code_step}
use Rattle.es_codes.specs.declared.code.Code.{Code}
use Rattle.es_codes.specs.declared.code.Target.{Target}
use Rattle.es_codes.specs.declared.code.Callee.{Callee}
use Rattle.es_codes.specs.declared.event.Home.{Home}
use Rattle.es_codes.specs.declared.code.Code.TheVariants as variants
use Rattle.es_codes.specs.declared.code.Callee.TheOpen.{Code-F}
use Rattle.es_codes.specs.declared.code.Callee.TheViews.{roll-Code, out-Code, roll-out-Code}
use Rattle.es_codes.specs.declared.code.Callee.TheFolds.{map-Code}

pub key_whole : (v : values.Value) → is_key v ≡ true → Deletion.Whole ≡ deletion_of v
key_whole (values.KeyOf v) h = refl
key_whole v h = cc

pub a_member : (e : Code) (node : ℕ) (object : Code) (key : Code) → e ≡ variants.Member node object key → deletion (code_of e) ≡ Deletion.InPlace
a_member e node object key is = ap (λ x. deletion (code_of x)) is ∙ ap (λ x. deletion x) (member_is node object key)

pub a_super_member : (e : Code) (node : ℕ) (home : Home) (key : Code) (this_value : values.Value) → e ≡ variants.SuperMember node home key this_value → deletion (code_of e) ≡ Deletion.InPlace
a_super_member e node home key this_value is = ap (λ x. deletion (code_of x)) is ∙ ap (λ x. deletion x) (super_member_is node home key this_value)

pub a_chain : (e : Code) (node : ℕ) (expression : Code) → e ≡ variants.Chain node expression → deletion (code_of e) ≡ Deletion.InChain
a_chain e node expression is = ap (λ x. deletion (code_of x)) is ∙ ap (λ x. deletion x) (chain_is node expression)

pub a_generated_member : (e : Code) (expression : Code) → e ≡ variants.FromMember expression → deletion (code_of e) ≡ Deletion.NoRule
a_generated_member e expression is = ap (λ x. deletion (code_of x)) is ∙ ap (λ x. deletion x) (from_member_is expression)

pub a_value : (e : Code) (value : values.Value) → e ≡ variants.Value value → deletion (code_of e) ≡ deletion_of value
a_value e value is = ap (λ x. deletion (code_of x)) is ∙ ap (λ x. deletion x) (value_is value)

pub another : (e : Code) → ((node : ℕ) (object : Code) (key : Code) → e ≡ variants.Member node object key → ⊥) → ((node : ℕ) (home : Home) (key : Code) (this_value : values.Value) → e ≡ variants.SuperMember node home key this_value → ⊥) → ((node : ℕ) (expression : Code) → e ≡ variants.Chain node expression → ⊥) → ((expression : Code) → e ≡ variants.FromMember expression → ⊥) → ((value : values.Value) → e ≡ variants.Value value → ⊥) → deletion (code_of e) ≡ Deletion.Whole
another e not_member not_super_member not_chain not_from_member not_value = ap (λ x. deletion x) (code_out e) ∙ by (out-Code e) (roll-out-Code e)
  where
    by : (y : Code-F Callee Code Target) → roll-Code y ≡ e → deletion (code_step (map-Code Callee Code Target of.Callee of.Code of.Target callee_of code_of target_of y)) ≡ Deletion.Whole
    by (Code-F.Member node object key) is = absurd (not_member node object key (sym is ∙ variants.rolls-Member node object key))
    by (Code-F.SuperMember node home key this_value) is = absurd (not_super_member node home key this_value (sym is ∙ variants.rolls-SuperMember node home key this_value))
    by (Code-F.Chain node expression) is = absurd (not_chain node expression (sym is ∙ variants.rolls-Chain node expression))
    by (Code-F.FromMember expression) is = absurd (not_from_member expression (sym is ∙ variants.rolls-FromMember expression))
    by (Code-F.Value value) is = absurd (not_value value (sym is ∙ variants.rolls-Value value))
    by y is = refl

pub no_rule_deleted : (m : ℕ) (e : Code) (expression : Code) → e ≡ variants.FromMember expression → deleted_whole m (code_of e) ≡ of.no_rule
no_rule_deleted m e expression is = ap (λ x. deleted_whole m (code_of x)) is ∙ ap (λ x. deleted_whole m x) (from_member_is expression)

pub whole_deleted : (m : ℕ) (e : Code) → ((expression : Code) → e ≡ variants.FromMember expression → ⊥) → deleted_whole m (code_of e) ≡ of.operation m Delete (of.and (code_of e) of.done) of.done
whole_deleted m e not_from_member = ap (λ x. deleted_whole m x) (code_out e) ∙ by (out-Code e) (roll-out-Code e) ∙ ap (λ x. of.operation m Delete (of.and x of.done) of.done) (sym (code_out e))
  where
    by : (y : Code-F Callee Code Target) → roll-Code y ≡ e → deleted_whole m (code_step (map-Code Callee Code Target of.Callee of.Code of.Target callee_of code_of target_of y)) ≡ of.operation m Delete (of.and (code_step (map-Code Callee Code Target of.Callee of.Code of.Target callee_of code_of target_of y)) of.done) of.done
    by (Code-F.FromMember expression) is = absurd (not_from_member expression (sym is ∙ variants.rolls-FromMember expression))
    by y is = refl

pub member_deleted : (m : ℕ) (e : Code) (node : ℕ) (object : Code) (key : Code) → e ≡ variants.Member node object key → spec.deleted m (code_of e) ≡ of.operation m Delete (of.and (code_of object) (of.and (code_of key) of.done)) of.done
member_deleted m e node object key is = ap (λ x. spec.deleted m (code_of x)) is ∙ ap (λ x. spec.deleted m x) (member_is node object key)

pub super_member_deleted : (m : ℕ) (e : Code) (node : ℕ) (home : Home) (key : Code) (this_value : values.Value) → e ≡ variants.SuperMember node home key this_value → spec.deleted m (code_of e) ≡ of.operation m Delete (of.and (code_of key) of.done) of.done
super_member_deleted m e node home key this_value is = ap (λ x. spec.deleted m (code_of x)) is ∙ ap (λ x. spec.deleted m x) (super_member_is node home key this_value)

pub tested_deleted : (m : ℕ) (e : Code) (object : Code) (again : List Code) (rest_code : Code) → e ≡ variants.Tested object again rest_code → spec.deleted m (code_of e) ≡ of.tested (code_of object) (codes_of again) (spec.deleted m (code_of rest_code))
tested_deleted m e object again rest_code is = ap (λ x. spec.deleted m (code_of x)) is ∙ ap (λ x. spec.deleted m x) (tested_is object again rest_code)

pub other_deleted : (m : ℕ) (e : Code) → ((node : ℕ) (object : Code) (key : Code) → e ≡ variants.Member node object key → ⊥) → ((node : ℕ) (home : Home) (key : Code) (this_value : values.Value) → e ≡ variants.SuperMember node home key this_value → ⊥) → ((object : Code) (again : List Code) (rest_code : Code) → e ≡ variants.Tested object again rest_code → ⊥) → spec.deleted m (code_of e) ≡ deleted_whole m (code_of e)
other_deleted m e not_member not_super_member not_tested = ap (λ x. spec.deleted m x) (code_out e) ∙ by (out-Code e) (roll-out-Code e) ∙ ap (λ x. deleted_whole m x) (sym (code_out e))
  where
    by : (y : Code-F Callee Code Target) → roll-Code y ≡ e → spec.deleted m (code_step (map-Code Callee Code Target of.Callee of.Code of.Target callee_of code_of target_of y)) ≡ deleted_whole m (code_step (map-Code Callee Code Target of.Callee of.Code of.Target callee_of code_of target_of y))
    by (Code-F.Member node object key) is = absurd (not_member node object key (sym is ∙ variants.rolls-Member node object key))
    by (Code-F.SuperMember node home key this_value) is = absurd (not_super_member node home key this_value (sym is ∙ variants.rolls-SuperMember node home key this_value))
    by (Code-F.Tested object again rest_code) is = absurd (not_tested object again rest_code (sym is ∙ variants.rolls-Tested object again rest_code))
    by y is = refl

pub chain_deleted : (m : ℕ) (e : Code) (node : ℕ) (expression : Code) → e ≡ variants.Chain node expression → deleted_chain m (code_of e) ≡ of.chain m (spec.deleted m (code_of expression))
chain_deleted m e node expression is = ap (λ x. deleted_chain m (code_of x)) is ∙ ap (λ x. deleted_chain m x) (chain_is node expression)

pub no_chain_deleted : (m : ℕ) (e : Code) → ((node : ℕ) (expression : Code) → e ≡ variants.Chain node expression → ⊥) → deleted_chain m (code_of e) ≡ (code_of e)
no_chain_deleted m e not_chain = ap (λ x. deleted_chain m x) (code_out e) ∙ by (out-Code e) (roll-out-Code e) ∙ ap (λ x. x) (sym (code_out e))
  where
    by : (y : Code-F Callee Code Target) → roll-Code y ≡ e → deleted_chain m (code_step (map-Code Callee Code Target of.Callee of.Code of.Target callee_of code_of target_of y)) ≡ (code_step (map-Code Callee Code Target of.Callee of.Code of.Target callee_of code_of target_of y))
    by (Code-F.Chain node expression) is = absurd (not_chain node expression (sym is ∙ variants.rolls-Chain node expression))
    by y is = refl

abbrev by_deletion : Deletion → ℕ → of.Code → of.Code → of.Code
by_deletion Deletion.InPlace m e whole = spec.deleted m e
by_deletion Deletion.InChain m e whole = deleted_chain m e
by_deletion Deletion.NoRule m e whole = of.no_rule
by_deletion Deletion.Known m e whole = of.value (values.ConstantOf (values.BooleanOf true))
by_deletion Deletion.Whole m e whole = whole

delete-by : (m : ℕ) (e whole : of.Code) → by_deletion (deletion e) m e whole ≡ spec.delete_code m e whole
delete-by m (of.value (values.ThisOf k)) whole = refl
delete-by m (of.value (values.ClassOf n)) whole = refl
delete-by m (of.value v) whole = refl
delete-by m e whole = refl

pub in_place : (m : ℕ) (e whole : of.Code) → Deletion.InPlace ≡ deletion e → spec.deleted m e ≡ spec.delete_code m e whole
in_place m e whole is = ap (λ d. by_deletion d m e whole) is ∙ delete-by m e whole

pub in_chain : (m : ℕ) (e whole : of.Code) → Deletion.InChain ≡ deletion e → deleted_chain m e ≡ spec.delete_code m e whole
in_chain m e whole is = ap (λ d. by_deletion d m e whole) is ∙ delete-by m e whole

pub by_no_rule : (m : ℕ) (e whole : of.Code) → Deletion.NoRule ≡ deletion e → of.no_rule ≡ spec.delete_code m e whole
by_no_rule m e whole is = ap (λ d. by_deletion d m e whole) is ∙ delete-by m e whole

pub known : (m : ℕ) (e whole : of.Code) → Deletion.Known ≡ deletion e → of.value (values.ConstantOf (values.BooleanOf true)) ≡ spec.delete_code m e whole
known m e whole is = ap (λ d. by_deletion d m e whole) is ∙ delete-by m e whole

pub by_whole : (m : ℕ) (e whole : of.Code) → Deletion.Whole ≡ deletion e → whole ≡ spec.delete_code m e whole
by_whole m e whole is = ap (λ d. by_deletion d m e whole) is ∙ delete-by m e whole
