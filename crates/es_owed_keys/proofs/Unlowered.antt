-- Where fields are not lowered, keys owe nothing; and what other keys owe that are the same.
use Rattle.std.proofs.Common.{◌≡◌, ap, sym, ◌∙◌, ℕ, List, Bool, true, false}
use Rattle.std.specs.Prelude.{not, ◌||◌, ◌&&◌}
use Rattle.es_base.specs.Tree.{Tree}
use Rattle.es_base.specs.declared.ledger.LedgerEntry.{LedgerEntry}
use Rattle.es_lowered.specs.Definitions.{all_different}
use Rattle.es_lowered.specs.Lowered.{keys_before, keys_stand}
use Rattle.es_steps.specs.Options.{lowers_fields}
use Rattle.es_steps.specs.PrivateNames.{PrivateMember}
use Rattle.es_steps.specs.Values.{String}
use Rattle.es_steps.specs.declared.options.Options.{Options}

pub keys_stand_unlowered : (first : ℕ) (o : Options) (ledger : List LedgerEntry) (members : List PrivateMember) (q : Tree) (keys : List (String × ℕ)) → lowers_fields o ≡ false → true ≡ keys_stand first o ledger members q keys
keys_stand_unlowered first o ledger members q keys h = sym (ap (λ (b : Bool). not b || (all_different keys && keys_before first ledger q keys)) h)

pub with_keys : (first : ℕ) (o : Options) (ledger : List LedgerEntry) (members : List PrivateMember) (q : Tree) (holds : Bool) (keys given : List (String × ℕ)) → keys ≡ given → holds ≡ keys_stand first o ledger members q keys → holds ≡ keys_stand first o ledger members q given
with_keys first o ledger members q holds keys given same h = h ∙ ap (keys_stand first o ledger members q) same
