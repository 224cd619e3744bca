-- How a `Boxed` holds its value, so that a type may hold itself through one.
use mathlib.Core.Path.{refl}
use mathlib.Core.Former.{Former, this, const, pair, via}
use base.Stored.{gnil}
use base.Fml.{ftrue}
use denote.RattleType.{RattleType}
use denote.Memory.{part_of}
use denote.RawPtr.{Ptr}
use denote.Sharing.{nothing}
use denote.HoleLaws.{Alike}
use denote.HolePlaces.{Recodes, struct_places, laid, one_value}
use denote.Hole.Fix.{over}
use denote.Param.Weighed.{Weighed}
use denote.Model.Placed.{view_places}
use Rattle.std.specs.declared.boxed.Box.{Box}
use Rattle.std.specs.contracts.boxed.Box as of_box
use Rattle.std.specs.declared.alloc.Global.{Global}
use Rattle.std.specs.contracts.alloc.Global as global
use Rattle.std.specs.contracts.impls.GlobalAllocator.TheImpl.{ghosts}
use Rattle.es_codes.specs.declared.boxed.Boxed.TheInside.{Inside}
use Rattle.es_codes.specs.declared.boxed.Boxed.TheView.{view, invariant}
use Rattle.es_codes.specs.contracts.boxed.Boxed as of_boxed
use Rattle.es_codes.specs.contracts.boxed.Boxed.TheInside as of_fields

abbrev pub the_former : Former {0} → Former {0}
the_former item = item

abbrev pub the_weighed : {item : Former {0}} → Weighed item → Weighed (the_former item)
the_weighed weight = weight

-- the fields, as what they hold of the value: where it lies, and the value
abbrev fields : Former {0}
fields = via (pair (const (Ptr × Global)) this) Inside (λ X inside. ((inside.inner.ptr, inside.inner.alloc), inside.inner.value))
    (λ X held. record { inner = record { ptr = held.0.0; alloc = held.0.1; value = held.1 } }) (λ X inside. refl) (λ X held. refl)

abbrev holding : {X Y : Type 0} → Box X Global → Y → Box Y Global
holding box value = record { ptr = box.ptr; alloc = box.alloc; value = value }

abbrev box_row : RattleType → RattleType
box_row Item = of_box.the_row Item global.the_row ghosts

module _ (From To : RattleType) (f : From.Denot → To.Denot) where
  box_places : Alike From To f → Alike (box_row From) (box_row To) (λ box. holding box (f box.value))
  unfolding part_of
  box_places alike = record {
    mir_same = λ i. (box_row (one_value From (alike.mir_same i) (λ _. ftrue) (λ _ _. nothing) gnil)).mir;
    own_same = λ box i. (box_row (one_value From (alike.mir_same i) (alike.own_same box.value i) (alike.shr_same box.value i) gnil)).own_val (holding box tt);
    shr_same = λ box i. (box_row (one_value From (alike.mir_same i) (alike.own_same box.value i) (alike.shr_same box.value i) gnil)).shr_at (holding box tt);
  }

  pub the_places : Alike From To f → Alike (of_boxed.the_row From) (of_boxed.the_row To) ((the_former this).map From.Denot To.Denot f)
  the_places alike = view_places fields this view (λ X Y k u. refl) (λ X u. refl) From.Denot To.Denot f (of_boxed.the_row From).coded (of_boxed.the_row To).coded
      (invariant From.Denot) (invariant To.Denot) (λ u p q. refl) (λ u p q. refl) (λ u e. tt) (λ u e. tt)
      (over (of_fields.the_row From)) (over (of_fields.the_row To))
      (struct_places (of_fields.the_type From) (of_fields.the_type To) ((λ box. holding box (f box.value)), tt) _ (λ d. refl) refl (laid _ _ _ (box_places alike), tt))

  pub the_codes_placed : Recodes From To f → Recodes (of_boxed.the_row From) (of_boxed.the_row To) ((the_former this).map From.Denot To.Denot f)
  the_codes_placed recodes value = recodes value
