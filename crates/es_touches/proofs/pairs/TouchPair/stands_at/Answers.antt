use Rattle.std.proofs.Common.{arith}
use Rattle.es_touches.proofs.FoundTouches.{stands_at}
use Rattle.es_touches.proofs.pairs.TouchPair.stands_at.Goals as goal

pub returns : goal.returns
returns c =
    let x = c.args.self.now in
    λ holds. stands_at c.args.source.now x.touches.now x.there.now c.args.i c.args.place _ _ _ _ x.bounds.items x.definitions.items x.definitions_there.items c.index.result.now c.index-2.result.now c.index-3.result.now c.is_like_and_held.result c.all_three.result c.all_three.ensures c.index.ensures c.index-2.ensures c.index-3.ensures c.is_like_and_held.ensures c.requires.below (omega arith) (omega arith) (omega arith) x.are_bounds x.are_definitions x.are_definitions_there c.requires.outside holds
