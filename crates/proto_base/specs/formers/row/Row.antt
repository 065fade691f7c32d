-- `Row` as a type that may hold the type that holds it. Its value is the list of its items.
use Rattle.std.specs.Prelude.{◌≡◌, List, []}
use mathlib.Core.Path.{refl, sym, subst}
use mathlib.Core.Former.{Former, this, list, via, children}
use mir.Val.{Val}
use Prim.Native.Nat.{ℕ}
use base.Stored.{code_map}
use base.Fml.{Lft}
use denote.RattleType.{RattleType}
use denote.Known.{nothing_known, Says, Known, All, Says-map, Behind, view_owned, view_shared, declared_known}
use denote.HoleLaws.{Alike}
use denote.HolePlaces.{Recodes, struct_places, laid}
use denote.Hole.Carrier.{listed, list-listed}
use denote.Hole.Fix.{over}
use denote.Param.Weighed.{Weighed, w_list}
use denote.Model.Placed.{view_places}
use Rattle.std.specs.declared.alloc.Global as G
use Rattle.std.specs.contracts.alloc.Global as Global
use Rattle.std.specs.contracts.impls.GlobalAllocator.TheImpl as Ghosts
use Rattle.proto_base.specs.declared.row.Row.TheInside.{Inside}
use Rattle.proto_base.specs.declared.row.Row.TheView.{view, invariant}
use Rattle.proto_base.specs.contracts.row.Row as C
use Rattle.proto_base.specs.contracts.row.Row.TheInside as I
use Rattle.std.below.std_alloc.specs.formers.vec.Vec as vec

abbrev pub the_former : Former {0} → Former {0}
the_former g = list g

abbrev pub the_weighed : {g : Former {0}} → Weighed g → Weighed (the_former g)
the_weighed w = w_list w

pub the_empty : List ⊥
the_empty = []

abbrev pub the_items : (X : Type 0) → List X → List X
the_items X d = d

pub the_items_listed : (X : Type 0) (d : List X) → listed _ (children (the_former this) X d) ≡ the_items X d
the_items_listed X d = list-listed X d

abbrev fields : Former {0}
fields = via (vec.the_former this G.Global) (λ X. Inside X) (λ X a. a.items) (λ X v. record { items = v }) (λ X a. refl)
    (λ X v. refl)

module _ (R S : RattleType) (h : R.Denot → S.Denot) where
  pub the_places : Alike R S h → Alike (C.the_row R) (C.the_row S) ((the_former this).map R.Denot S.Denot h)
  the_places a = view_places fields (list this) (λ X. view X) (λ X Y k u. refl) (λ X u. refl) R.Denot S.Denot h
      (C.the_row R).coded (C.the_row S).coded
      (invariant R.Denot) (invariant S.Denot) (λ u p q. refl) (λ u p q. refl) (λ u e. tt) (λ u e. tt)
      (over (I.the_row R)) (over (I.the_row S))
      (struct_places (I.the_type R) (I.the_type S) (vec.mapped h, tt) _ (λ d. refl) refl
      (laid _ _ _ (vec.the_places Global.the_row Ghosts.ghosts R S h a), tt))

  pub the_codes_placed : Recodes R S h → Recodes (C.the_row R) (C.the_row S) ((the_former this).map R.Denot S.Denot h)
  the_codes_placed e d = sym (code_map R.coded.code S.coded.code h (λ x. sym (e x)) d)

module _ (R : RattleType) (k : Known R) where
  abbrev inside : Known (I.the_row R)
  inside =
      declared_known (I.the_type R) (vec.the_facts R Global.the_row Ghosts.ghosts k (nothing_known Global.the_row), tt)

  shown : (d : List R.Denot) → Behind (I.the_row R) inside (List R.Denot) (C.the_row R).coded (C.the_view R)
      (C.the_invariant R) d → All k.Fact d
  shown d w = subst (All k.Fact) w.1.0 w.2.0

  pub known_owned : (d : List R.Denot) (vs : List Val) → Says ((C.the_row R).own_val d vs) (All k.Fact d)
  known_owned d vs = Says-map _ (shown d) (view_owned (I.the_row R) inside (List R.Denot) (C.the_row R).coded
      (C.the_view R) (C.the_invariant R) d vs)

  pub known_shared : (d : List R.Denot) (b o : ℕ) (κ : Lft) → Says ((C.the_row R).shr_at d b o κ) (All k.Fact d)
  known_shared d b o κ = Says-map _ (shown d)
      (view_shared (I.the_row R) inside (List R.Denot) (C.the_row R).coded (C.the_view R) (C.the_invariant R) d b o κ)

  abbrev pub the_facts : Known (C.the_row R)
  the_facts = record { Fact = All k.Fact; owned = known_owned; shared = known_shared }
