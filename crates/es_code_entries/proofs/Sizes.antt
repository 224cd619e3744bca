-- How many codes a part has.
use Rattle.std.proofs.Common.{ℕ}
use Rattle.es_codes.specs.CodeView.{callee_of, code_of, codes_of, target_of}
use Rattle.es_opening.specs.Size.{callee_size, size, sizes, target_size}
use Rattle.es_code_environments.specs.declared.part.Part.{Part}

abbrev pub part_size : Part → ℕ
part_size (Part.Code role c) = size (code_of c.now)
part_size (Part.Codes role cs) = sizes (codes_of cs.now)
part_size (Part.Target to) = target_size (target_of to.now)
part_size (Part.Callee f) = callee_size (callee_of f.now)
part_size (Part.Arguments ss cs) = sizes (codes_of cs.now)
