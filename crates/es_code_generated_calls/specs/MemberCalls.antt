-- Calls of members that a lowering may have made, part by part.
use Rattle.std.specs.Prelude.{ℕ, cond, codes, bytes_eq, Option, Some, None}
use Rattle.es_base.specs.declared.ledger.GeneratedKind.{GeneratedKind}
use Rattle.es_steps.specs.Code.{Code, Codes, no_rule, name, private_in, helper_call, private_initialize, done, and}
use Rattle.es_steps.specs.Context.{Context, NameKind, Generated, Changing, new_here}
use Rattle.es_steps.specs.GeneratedForms.{is_string, known_object, loose_key, writable_value}
use Rattle.es_steps.specs.Helpers.{Helper, CheckInRHS}
use Rattle.es_steps.specs.PrivateNames.{PrivateMember}
use Rattle.es_steps.specs.Values.{String, Value, Referent, Free, PrivateTest}
use Rattle.es_code_generated_calls.specs.declared.member.MemberCall.{MemberCall}
use Rattle.es_code_generated_calls.specs.declared.member.NewMember.{NewMember}
use Rattle.es_code_generated_calls.specs.declared.member.Receiver.{Receiver}

-- ---- `has(babelHelpers.checkInRHS(o))`

abbrev pub asked_of : ℕ → PrivateTest → Codes → Code
asked_of m t (and o done) = private_in m t o
asked_of m t es = no_rule

abbrev pub asked_by : ℕ → PrivateTest → Helper → Codes → Code
asked_by m t CheckInRHS es = asked_of m t es
asked_by m t h es = no_rule

abbrev pub asked : ℕ → PrivateTest → Codes → Code
asked m t (and (helper_call k h es) done) = asked_by m t h es
asked m t es = no_rule

-- ---- `Object.defineProperty(o, L, { writable: true, value: v })`

abbrev pub number_of : Option PrivateMember → Option ℕ
number_of None = None
number_of (Some x) = Some x.number

-- the key that declares the member
abbrev pub loose_number : Context → Codes → Option ℕ
loose_number c (and o (and l (and form done))) = number_of (loose_key c l)
loose_number c es = None

abbrev pub initialized_as : ℕ → ℕ → Option Value → Option Code → Code
initialized_as m d (Some o) (Some v) = private_initialize m d o v
initialized_as m d o v = no_rule

abbrev pub initialized_loosely : Context → ℕ → ℕ → Codes → Code
initialized_loosely c m d (and o (and l (and form done))) = initialized_as m d (known_object o) (writable_value c form)
initialized_loosely c m d es = no_rule

-- ---- what a member is called on

abbrev pub generated_receiver : GeneratedKind → Receiver
generated_receiver (GeneratedKind.WeakMap d) = Receiver.WeakMap
generated_receiver (GeneratedKind.Brand n) = Receiver.Brand n.0
generated_receiver g = Receiver.Other

abbrev pub free_receiver : String → Referent → Receiver
free_receiver s (Free spelling) = cond (bytes_eq s (codes "Object")) Receiver.Object Receiver.Other
free_receiver s r = Receiver.Other

abbrev pub named_receiver : String → NameKind → Receiver
named_receiver s (Generated g) = generated_receiver g
named_receiver s (Changing r) = free_receiver s r
named_receiver s kind = Receiver.Other

abbrev pub receiver_of : Code → Receiver
receiver_of (name m s kind) = named_receiver s kind
receiver_of e = Receiver.Other

-- ---- what a call of a member stands for

abbrev pub call_on : Receiver → Code → MemberCall
call_on Receiver.WeakMap key = cond (is_string (codes "has") key) MemberCall.HasField MemberCall.NoRule
call_on (Receiver.Brand n) key = cond (is_string (codes "has") key) (MemberCall.HasBrand n) MemberCall.NoRule
call_on Receiver.Object key = cond (is_string (codes "defineProperty") key) MemberCall.Defines MemberCall.Other
call_on Receiver.Other key = MemberCall.Other

abbrev pub new_member : Context → ℕ → Code → NewMember
new_member c k key = cond (new_here c k) (cond (is_string (codes "call") key) NewMember.Call (cond (is_string (codes "bind") key) NewMember.Bind NewMember.Other)) NewMember.Other
