-- What private members are assigned, part by part.
use Rattle.std.specs.Prelude.{ℕ, Bool, true, false, cond, ◌&&◌}
use Rattle.es_steps.specs.Code.{Code, Codes, value, assign, helper_call, to_private, no_rule, done, and}
use Rattle.es_steps.specs.GeneratedForms.{is_class_named, is_own_class, value_of_private}
use Rattle.es_steps.specs.Helpers.{Helper, AssertClassBrand}
use Rattle.es_steps.specs.PrivateNames.{PrivateReference}
use Rattle.es_steps.specs.Values.{is_class_value}
use Rattle.es_code_assignments.specs.declared.private.PrivateForm.{PrivateForm}

-- this class by itself
abbrev pub is_class : ℕ → Code → Bool
is_class n (value v) = is_class_value n v
is_class n e = false

abbrev pub asserts_brand : Helper → Bool
asserts_brand AssertClassBrand = true
asserts_brand h = false

abbrev pub branded_by : Bool → PrivateForm
branded_by true = PrivateForm.Branded
branded_by false = PrivateForm.NoRule

-- by the arguments of `B.assertClassBrand(z, o, v)`
abbrev pub branded_form : PrivateReference → Code → Codes → PrivateForm
branded_form r own (and z (and o (and v done))) = branded_by (is_own_class r own && is_class_named r.class z)
branded_form r own es = PrivateForm.Plain

abbrev pub private_form : PrivateReference → Code → Code → PrivateForm
private_form r own (helper_call j h es) = cond (asserts_brand h) (branded_form r own es) PrivateForm.Plain
private_form r own e = PrivateForm.Plain

abbrev pub written_by : Bool → ℕ → ℕ → PrivateReference → Codes → Code
written_by new m k r (and z (and o (and v done))) = assign (to_private k r o) (value_of_private r.writes new m v)
written_by new m k r es = no_rule

abbrev pub arguments_of : Code → Codes
arguments_of (helper_call j h es) = es
arguments_of e = done

abbrev pub by_form : PrivateForm → Bool → ℕ → ℕ → PrivateReference → Code → Code → Code
by_form PrivateForm.Branded new m k r own e = written_by new m k r (arguments_of e)
by_form PrivateForm.NoRule new m k r own e = no_rule
by_form PrivateForm.Plain new m k r own e = assign (to_private k r own) (value_of_private r.writes new m e)
