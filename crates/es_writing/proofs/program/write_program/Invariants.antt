use Rattle.std.proofs.Common.{◌≡◌, ◌++◌, drop, map}
use Rattle.es_base.specs.declared.kind.Kind.{Kind}
use Rattle.es_writing.specs.Slots.{lowered_data, slots_tokens}
use Rattle.es_writing.proofs.program.write_program.Given as goal

abbrev pub invariant-loop-slot : goal.invariant-loop-slot
invariant-loop-slot l =
    let tokens_of = slots_tokens Kind.Program (lowered_data l.program (map (λ e. e.now) l.names) l.warnings l.shapes) in
    record {
      tokens : l.out.tokens ++ tokens_of (drop l.slot-index l.slot-items) ≡ l.initial.out.tokens ++ tokens_of l.slot-items;
      before : l.out.before ≡ l.initial.out.before;
    }
