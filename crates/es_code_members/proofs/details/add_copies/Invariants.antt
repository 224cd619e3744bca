use Rattle.std.proofs.Common.{◌≡◌, ◌++◌, drop}
use Rattle.es_codes.specs.View.{details_of}
use Rattle.es_code_members.proofs.details.add_copies.Given as goal

abbrev pub invariant-loop-detail : goal.invariant-loop-detail
invariant-loop-detail l = details_of l.to ++ details_of (drop l.detail-index l.details) ≡ details_of l.fn.to ++ details_of l.details
