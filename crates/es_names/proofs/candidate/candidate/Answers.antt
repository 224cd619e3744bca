use Rattle.std.proofs.Common.{◌∙◌, ap}
use Rattle.std.specs.String.{string_bytes}
use Rattle.es_names.proofs.Bases.{candidate-first, candidate-next}
use Rattle.es_names.proofs.candidate.candidate.Goals as goal
use Rattle.es_names.proofs.candidate.candidate.Goals.{then-number-gt1+in_ok-push_str-2, else-number-gt1}

pub returns : goal.returns
returns c =
    let front = string_bytes c.in_ok-name.name in
    let body = string_bytes c.push_str.new.self in
    elim c.if-number-gt1.branch [
      | then-number-gt1+in_ok-push_str-2 w ↦
          candidate-next front body (string_bytes c.if-number-gt1.name) c.args.base.now w.format.result.now c.args.number c.utf8.base
          (ap string_bytes w.name-is ∙ w.in_ok-push_str-2.ensures.bytes) c.in_ok-push_str.ensures.bytes c.in_ok-name.ensures.ok w.format.ensures.text w.if-number-gt1.true c.ranges.number.fits
      | else-number-gt1 w ↦
          candidate-first front (string_bytes c.if-number-gt1.name) c.args.base.now c.args.number
          (ap string_bytes w.name-is ∙ c.in_ok-push_str.ensures.bytes) c.in_ok-name.ensures.ok w.if-number-gt1.false
    ]
