-- Calls of members that a lowering may have made, by the forms of codes.
use Rattle.std.proofs.Common.{◌≡◌, refl, sym, ap, ◌∙◌, ℕ, List, [], ◌∷◌, ◌<◌, ◌≤◌, length, get_or, Bool, true, false, cond, Option, Some, None, arith}
use Rattle.std.specs.Prelude.{◌&&◌, codes, bytes_eq}
use Rattle.es_base.specs.declared.ledger.GeneratedKind.{GeneratedKind}
use Rattle.es_steps.specs.Context as names
use Rattle.es_steps.specs.Context.{Context}
use Rattle.es_steps.specs.GeneratedForms as spec
use Rattle.es_steps.specs.Helpers as helpers
use Rattle.es_steps.specs.PrivateNames as privates
use Rattle.es_steps.specs.Values as values
use Rattle.es_code_generated_calls.specs.MemberCalls.{asked, asked_by, asked_of, call_on, initialized_as, initialized_loosely, loose_number, named_receiver, new_member, number_of, receiver_of}
use Rattle.es_code_generated_calls.specs.declared.member.MemberCall.{MemberCall}
use Rattle.es_code_generated_calls.specs.declared.member.NewMember.{NewMember}
use Rattle.es_code_generated_calls.specs.declared.member.Receiver.{Receiver}
use Rattle.es_steps.specs.Code as of
use Rattle.es_codes.proofs.Forms.{code_out, helper_call_is, name_is}
use Rattle.es_codes.specs.CodeView.{code_of, target_of, callee_of, codes_of, code_step, helper_of}
use Rattle.es_codes.specs.declared.code.Code.{Code}
use Rattle.es_codes.specs.declared.code.Target.{Target}
use Rattle.es_codes.specs.declared.code.Callee.{Callee}
use Rattle.es_codes.specs.declared.code.Code.TheVariants as variants
use Rattle.es_codes.specs.declared.code.Callee.TheOpen.{Code-F}
use Rattle.es_codes.specs.declared.code.Callee.TheViews.{roll-Code, out-Code, roll-out-Code}
use Rattle.es_codes.specs.declared.code.Callee.TheFolds.{map-Code}
use Rattle.es_codes.specs.View.{kind_of}
use Rattle.es_codes.specs.declared.code.Helper.{Helper}
use Rattle.es_codes.specs.declared.name.NameKind.{NameKind}

-- ---- `has`

pub not_one_asked : (m : ℕ) (t : values.PrivateTest) (es : List Code) → (length es ≡ 1 → ⊥) → asked_of m t (codes_of es) ≡ of.no_rule
not_one_asked m t [] other = refl
not_one_asked m t (a ∷ []) other = absurd (other refl)
not_one_asked m t (a ∷ b ∷ es) other = refl

pub asked_by_call : (m : ℕ) (t : values.PrivateTest) (e : Code) (node : ℕ) (helper : Helper) (arguments : List Code) → e ≡ variants.HelperCall node helper arguments → asked m t (of.and (code_of e) of.done) ≡ asked_by m t (helper_of helper) (codes_of arguments)
asked_by_call m t e node helper arguments is = ap (λ z. asked m t (of.and (code_of z) of.done)) is ∙ ap (λ z. asked m t (of.and z of.done)) (helper_call_is node helper arguments)

pub asked_by_none : (m : ℕ) (t : values.PrivateTest) (e : Code) → ((node : ℕ) (helper : Helper) (arguments : List Code) → e ≡ variants.HelperCall node helper arguments → ⊥) → asked m t (of.and (code_of e) of.done) ≡ of.no_rule
asked_by_none m t e not_helper_call = ap (λ z. asked m t (of.and z of.done)) (code_out e) ∙ by (out-Code e) (roll-out-Code e)
  where
    by : (y : Code-F Callee Code Target) → roll-Code y ≡ e → asked m t (of.and (code_step (map-Code Callee Code Target of.Callee of.Code of.Target callee_of code_of target_of y)) of.done) ≡ of.no_rule
    by (Code-F.HelperCall node helper arguments) is = absurd (not_helper_call node helper arguments (sym is ∙ variants.rolls-HelperCall node helper arguments))
    by y is = refl

many-asked : (m : ℕ) (t : values.PrivateTest) (o e : of.Code) (es : of.Codes) → asked m t (of.and o (of.and e es)) ≡ of.no_rule
many-asked m t (of.helper_call k h ds) e es = refl
many-asked m t o e es = refl

pub not_one_checked : (m : ℕ) (t : values.PrivateTest) (es : List Code) → (length es ≡ 1 → ⊥) → asked m t (codes_of es) ≡ of.no_rule
not_one_checked m t [] other = refl
not_one_checked m t (a ∷ []) other = absurd (other refl)
not_one_checked m t (a ∷ b ∷ es) other = many-asked m t (code_of a) (code_of b) (codes_of es)

brand-by-helper : (m n k : ℕ) (h : helpers.Helper) (es : of.Codes) → asked_by m (values.HasBrand n) h es ≡ spec.has_brand m n (of.and (of.helper_call k h es) of.done)
brand-by-helper m n k helpers.CheckInRHS of.done = refl
brand-by-helper m n k helpers.CheckInRHS (of.and o of.done) = refl
brand-by-helper m n k helpers.CheckInRHS (of.and o (of.and e es)) = refl
brand-by-helper m n k h es = refl

many-branded : (m n k : ℕ) (h : helpers.Helper) (ds : of.Codes) (e : of.Code) (es : of.Codes) → of.no_rule ≡ spec.has_brand m n (of.and (of.helper_call k h ds) (of.and e es))
many-branded m n k helpers.CheckInRHS of.done e es = refl
many-branded m n k helpers.CheckInRHS (of.and o of.done) e es = refl
many-branded m n k helpers.CheckInRHS (of.and o (of.and d ds)) e es = refl
many-branded m n k h ds e es = refl

pub brand_asked : (m n : ℕ) (es : of.Codes) → asked m (values.HasBrand n) es ≡ spec.has_brand m n es
brand_asked m n of.done = refl
brand_asked m n (of.and (of.helper_call k h ds) of.done) = brand-by-helper m n k h ds
brand_asked m n (of.and (of.helper_call k h ds) (of.and e es)) = many-branded m n k h ds e es
brand_asked m n (of.and o of.done) = refl
brand_asked m n (of.and o (of.and e es)) = refl

field-by-helper : (m : ℕ) (x : privates.PrivateMember) (k : ℕ) (h : helpers.Helper) (es : of.Codes) → asked_by m (values.HasField x.number) h es ≡ spec.has_field m (Some x) (of.and (of.helper_call k h es) of.done)
field-by-helper m x k helpers.CheckInRHS of.done = refl
field-by-helper m x k helpers.CheckInRHS (of.and o of.done) = refl
field-by-helper m x k helpers.CheckInRHS (of.and o (of.and e es)) = refl
field-by-helper m x k h es = refl

many-fields : (m : ℕ) (x : privates.PrivateMember) (k : ℕ) (h : helpers.Helper) (ds : of.Codes) (e : of.Code) (es : of.Codes) → of.no_rule ≡ spec.has_field m (Some x) (of.and (of.helper_call k h ds) (of.and e es))
many-fields m x k helpers.CheckInRHS of.done e es = refl
many-fields m x k helpers.CheckInRHS (of.and o of.done) e es = refl
many-fields m x k helpers.CheckInRHS (of.and o (of.and d ds)) e es = refl
many-fields m x k h ds e es = refl

pub field_by : (m : ℕ) (x : privates.PrivateMember) (es : of.Codes) → asked m (values.HasField x.number) es ≡ spec.has_field m (Some x) es
field_by m x of.done = refl
field_by m x (of.and (of.helper_call k h ds) of.done) = field-by-helper m x k h ds
field_by m x (of.and (of.helper_call k h ds) (of.and e es)) = many-fields m x k h ds e es
field_by m x (of.and o of.done) = refl
field_by m x (of.and o (of.and e es)) = refl

-- ---- `Object.defineProperty`

pub not_three_keyed : (c : Context) (es : List Code) → (length es ≡ 3 → ⊥) → loose_number c (codes_of es) ≡ None
not_three_keyed c [] other = refl
not_three_keyed c (a ∷ []) other = refl
not_three_keyed c (a ∷ b ∷ []) other = refl
not_three_keyed c (a ∷ b ∷ d ∷ []) other = absurd (other refl)
not_three_keyed c (a ∷ b ∷ d ∷ e ∷ es) other = refl

pub number_second : (c : Context) (es : List Code) (l : Code) → 3 ≤ length es → length es < 4 → l ≡ get_or es 1 l → number_of (spec.loose_key c (code_of l)) ≡ loose_number c (codes_of es)
number_second c [] l least most is = absurd (omega (arith, least))
number_second c (a ∷ []) l least most is = absurd (omega (arith, least))
number_second c (a ∷ b ∷ []) l least most is = absurd (omega (arith, least))
number_second c (a ∷ b ∷ d ∷ []) l least most is = ap (λ z. number_of (spec.loose_key c (code_of z))) is
number_second c (a ∷ b ∷ d ∷ e ∷ es) l least most is = absurd (omega (arith, most))

pub not_three_initialized : (c : Context) (m d : ℕ) (es : List Code) → (length es ≡ 3 → ⊥) → initialized_loosely c m d (codes_of es) ≡ of.no_rule
not_three_initialized c m d [] other = refl
not_three_initialized c m d (a ∷ []) other = refl
not_three_initialized c m d (a ∷ b ∷ []) other = refl
not_three_initialized c m d (a ∷ b ∷ e ∷ []) other = absurd (other refl)
not_three_initialized c m d (a ∷ b ∷ e ∷ f ∷ es) other = refl

pub with_value : (m d : ℕ) (o : values.Value) (v : of.Code) (w : Option of.Code) → Some v ≡ w → of.private_initialize m d o v ≡ initialized_as m d (Some o) w
with_value m d o v w is = ap (λ u. initialized_as m d (Some o) u) is

pub without_value : (m d : ℕ) (o : values.Value) (w : Option of.Code) → None ≡ w → of.no_rule ≡ initialized_as m d (Some o) w
without_value m d o w is = ap (λ u. initialized_as m d (Some o) u) is

abbrev by-number : Option ℕ → Context → ℕ → of.Codes → of.Code → of.Code
by-number (Some d) c m es whole = initialized_loosely c m d es
by-number None c m es whole = whole

loosely-by-member : (m : ℕ) (x : privates.PrivateMember) (o : Option values.Value) (v : Option of.Code) (whole : of.Code) → initialized_as m x.number o v ≡ spec.loose_initialized m (Some x) o v whole
loosely-by-member m x (Some o) (Some v) whole = refl
loosely-by-member m x (Some o) None whole = refl
loosely-by-member m x None v whole = refl

loosely-by-key : (c : Context) (m : ℕ) (member : Option privates.PrivateMember) (o l form whole : of.Code) → by-number (number_of member) c m (of.and o (of.and l (of.and form of.done))) whole ≡ spec.loose_initialized m member (spec.known_object o) (spec.writable_value c form) whole
loosely-by-key c m None o l form whole = refl
loosely-by-key c m (Some x) o l form whole = loosely-by-member m x (spec.known_object o) (spec.writable_value c form) whole

loosely-by : (c : Context) (m : ℕ) (es : of.Codes) (whole : of.Code) → by-number (loose_number c es) c m es whole ≡ spec.object_call c m es whole
loosely-by c m of.done whole = refl
loosely-by c m (of.and o of.done) whole = refl
loosely-by c m (of.and o (of.and l of.done)) whole = refl
loosely-by c m (of.and o (of.and l (of.and form of.done))) whole = loosely-by-key c m (spec.loose_key c l) o l form whole
loosely-by c m (of.and o (of.and l (of.and form (of.and e es)))) whole = refl

pub loosely : (c : Context) (m d : ℕ) (es : of.Codes) (whole : of.Code) → Some d ≡ loose_number c es → initialized_loosely c m d es ≡ spec.object_call c m es whole
loosely c m d es whole is = ap (λ n. by-number n c m es whole) is ∙ loosely-by c m es whole

pub not_loosely : (c : Context) (m : ℕ) (es : of.Codes) (whole : of.Code) → None ≡ loose_number c es → whole ≡ spec.object_call c m es whole
not_loosely c m es whole is = ap (λ n. by-number n c m es whole) is ∙ loosely-by c m es whole

-- ---- calls of members

pub on_a_name : (e : Code) (node : ℕ) (spelling : List ℕ) (kind : NameKind) → e ≡ variants.Name node spelling kind → receiver_of (code_of e) ≡ named_receiver spelling (kind_of kind)
on_a_name e node spelling kind is = ap (λ z. receiver_of (code_of z)) is ∙ ap (λ z. receiver_of z) (name_is node spelling kind)

pub on_another : (e : Code) → ((node : ℕ) (spelling : List ℕ) (kind : NameKind) → e ≡ variants.Name node spelling kind → ⊥) → receiver_of (code_of e) ≡ Receiver.Other
on_another e not_name = ap (λ z. receiver_of z) (code_out e) ∙ by (out-Code e) (roll-out-Code e)
  where
    by : (y : Code-F Callee Code Target) → roll-Code y ≡ e → receiver_of (code_step (map-Code Callee Code Target of.Callee of.Code of.Target callee_of code_of target_of y)) ≡ Receiver.Other
    by (Code-F.Name node spelling kind) is = absurd (not_name node spelling kind (sym is ∙ variants.rolls-Name node spelling kind))
    by y is = refl

abbrev by-receiver : Receiver → Context → ℕ → of.Code → of.Code → of.Codes → of.Code → of.Code
by-receiver Receiver.WeakMap c m o key es whole = cond (spec.is_string (codes "has") key) (spec.has_field m (spec.weak_map c o) es) of.no_rule
by-receiver (Receiver.Brand n) c m o key es whole = cond (spec.is_string (codes "has") key) (spec.has_brand m n es) of.no_rule
by-receiver Receiver.Object c m o key es whole = cond (spec.is_string (codes "defineProperty") key) (spec.object_call c m es whole) whole
by-receiver Receiver.Other c m o key es whole = whole

by-object : (b : Bool) (c : Context) (m : ℕ) (o key : of.Code) (es : of.Codes) (whole : of.Code) → by-receiver (cond b Receiver.Object Receiver.Other) c m o key es whole ≡ cond (b && spec.is_string (codes "defineProperty") key) (spec.object_call c m es whole) whole
by-object true c m o key es whole = refl
by-object false c m o key es whole = refl

receiver-by : (c : Context) (m : ℕ) (o key : of.Code) (es : of.Codes) (whole : of.Code) → by-receiver (receiver_of o) c m o key es whole ≡ spec.member_call c m o key es whole
receiver-by c m (of.name k s (names.Generated (GeneratedKind.WeakMap d))) key es whole = refl
receiver-by c m (of.name k s (names.Generated (GeneratedKind.Brand n))) key es whole = refl
receiver-by c m (of.name k s (names.Generated g)) key es whole = refl
receiver-by c m (of.name k s (names.Changing (values.Free spelling))) key es whole = by-object (bytes_eq s (codes "Object")) c m (of.name k s (names.Changing (values.Free spelling))) key es whole
receiver-by c m (of.name k s (names.Changing r)) key es whole = refl
receiver-by c m (of.name k s kind) key es whole = refl
receiver-by c m o key es whole = refl

abbrev by-call : MemberCall → Context → ℕ → of.Code → of.Codes → of.Code → of.Code
by-call MemberCall.HasField c m o es whole = spec.has_field m (spec.weak_map c o) es
by-call (MemberCall.HasBrand n) c m o es whole = spec.has_brand m n es
by-call MemberCall.Defines c m o es whole = spec.object_call c m es whole
by-call MemberCall.NoRule c m o es whole = of.no_rule
by-call MemberCall.Other c m o es whole = whole

field-or-none : (b : Bool) (c : Context) (m : ℕ) (o : of.Code) (es : of.Codes) (whole : of.Code) → by-call (cond b MemberCall.HasField MemberCall.NoRule) c m o es whole ≡ cond b (spec.has_field m (spec.weak_map c o) es) of.no_rule
field-or-none true c m o es whole = refl
field-or-none false c m o es whole = refl

brand-or-none : (b : Bool) (c : Context) (m n : ℕ) (o : of.Code) (es : of.Codes) (whole : of.Code) → by-call (cond b (MemberCall.HasBrand n) MemberCall.NoRule) c m o es whole ≡ cond b (spec.has_brand m n es) of.no_rule
brand-or-none true c m n o es whole = refl
brand-or-none false c m n o es whole = refl

defines-or-not : (b : Bool) (c : Context) (m : ℕ) (o : of.Code) (es : of.Codes) (whole : of.Code) → by-call (cond b MemberCall.Defines MemberCall.Other) c m o es whole ≡ cond b (spec.object_call c m es whole) whole
defines-or-not true c m o es whole = refl
defines-or-not false c m o es whole = refl

call-on : (r : Receiver) (c : Context) (m : ℕ) (o key : of.Code) (es : of.Codes) (whole : of.Code) → by-call (call_on r key) c m o es whole ≡ by-receiver r c m o key es whole
call-on Receiver.WeakMap c m o key es whole = field-or-none (spec.is_string (codes "has") key) c m o es whole
call-on (Receiver.Brand n) c m o key es whole = brand-or-none (spec.is_string (codes "has") key) c m n o es whole
call-on Receiver.Object c m o key es whole = defines-or-not (spec.is_string (codes "defineProperty") key) c m o es whole
call-on Receiver.Other c m o key es whole = refl

called-as : (k : MemberCall) (c : Context) (m : ℕ) (o key : of.Code) (es : of.Codes) (whole : of.Code) → k ≡ call_on (receiver_of o) key → by-call k c m o es whole ≡ spec.member_call c m o key es whole
called-as k c m o key es whole is = ap (λ f. by-call f c m o es whole) is ∙ call-on (receiver_of o) c m o key es whole ∙ receiver-by c m o key es whole

pub asks_field : (c : Context) (m : ℕ) (o key : of.Code) (es : of.Codes) (whole : of.Code) → MemberCall.HasField ≡ call_on (receiver_of o) key → spec.has_field m (spec.weak_map c o) es ≡ spec.member_call c m o key es whole
asks_field c m o key es whole is = called-as MemberCall.HasField c m o key es whole is

pub asks_brand : (c : Context) (m n : ℕ) (o key : of.Code) (es : of.Codes) (whole : of.Code) → MemberCall.HasBrand n ≡ call_on (receiver_of o) key → spec.has_brand m n es ≡ spec.member_call c m o key es whole
asks_brand c m n o key es whole is = called-as (MemberCall.HasBrand n) c m o key es whole is

pub defines : (c : Context) (m : ℕ) (o key : of.Code) (es : of.Codes) (whole : of.Code) → MemberCall.Defines ≡ call_on (receiver_of o) key → spec.object_call c m es whole ≡ spec.member_call c m o key es whole
defines c m o key es whole is = called-as MemberCall.Defines c m o key es whole is

pub by_no_rule : (c : Context) (m : ℕ) (o key : of.Code) (es : of.Codes) (whole : of.Code) → MemberCall.NoRule ≡ call_on (receiver_of o) key → of.no_rule ≡ spec.member_call c m o key es whole
by_no_rule c m o key es whole is = called-as MemberCall.NoRule c m o key es whole is

pub as_it_stands : (c : Context) (m : ℕ) (o key : of.Code) (es : of.Codes) (whole : of.Code) → MemberCall.Other ≡ call_on (receiver_of o) key → whole ≡ spec.member_call c m o key es whole
as_it_stands c m o key es whole is = called-as MemberCall.Other c m o key es whole is

-- ---- a new `call` or `bind`

abbrev by-member : NewMember → Context → ℕ → ℕ → of.Code → of.Code → of.Codes → of.Code → of.Code
by-member NewMember.Call c m k f key es whole = spec.called_with c m f es
by-member NewMember.Bind c m k f key es whole = spec.bound_to f es
by-member NewMember.Other c m k f key es whole = spec.member_call c m f key es whole

new-or-not : (is_new calls binds : Bool) (c : Context) (m k : ℕ) (f key : of.Code) (es : of.Codes) (whole : of.Code) → by-member (cond is_new (cond calls NewMember.Call (cond binds NewMember.Bind NewMember.Other)) NewMember.Other) c m k f key es whole ≡ cond (is_new && calls) (spec.called_with c m f es) (cond (is_new && binds) (spec.bound_to f es) (spec.member_call c m f key es whole))
new-or-not true true binds c m k f key es whole = refl
new-or-not true false true c m k f key es whole = refl
new-or-not true false false c m k f key es whole = refl
new-or-not false calls binds c m k f key es whole = refl

member-as : (n : NewMember) (c : Context) (m k : ℕ) (f key : of.Code) (es : of.Codes) (whole : of.Code) → n ≡ new_member c k key → by-member n c m k f key es whole ≡ spec.new_member_call c m k f key es whole
member-as n c m k f key es whole is = ap (λ g. by-member g c m k f key es whole) is ∙ new-or-not (names.new_here c k) (spec.is_string (codes "call") key) (spec.is_string (codes "bind") key) c m k f key es whole

pub a_call : (c : Context) (m k : ℕ) (f key : of.Code) (es : of.Codes) (whole : of.Code) → NewMember.Call ≡ new_member c k key → spec.called_with c m f es ≡ spec.new_member_call c m k f key es whole
a_call c m k f key es whole is = member-as NewMember.Call c m k f key es whole is

pub a_bind : (c : Context) (m k : ℕ) (f key : of.Code) (es : of.Codes) (whole : of.Code) → NewMember.Bind ≡ new_member c k key → spec.bound_to f es ≡ spec.new_member_call c m k f key es whole
a_bind c m k f key es whole is = member-as NewMember.Bind c m k f key es whole is

pub another_member : (c : Context) (m k : ℕ) (f key : of.Code) (es : of.Codes) (whole : of.Code) → NewMember.Other ≡ new_member c k key → spec.member_call c m f key es whole ≡ spec.new_member_call c m k f key es whole
another_member c m k f key es whole is = member-as NewMember.Other c m k f key es whole is
