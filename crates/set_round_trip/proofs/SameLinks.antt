-- Files with the same names and imports are linked in the same way.
use Rattle.std.proofs.Common.{◌≡◌, ◌∙◌, sym, ap, subst, refl, ℕ, zero, suc, ◌+◌, ◌<◌, ◌⊎◌, inl, inr, Bool, List, [], ◌∷◌, length, get_or, map, Contains, ◌==◌, eqb-true, arith}
use Rattle.std.proofs.lemmas.List.{length-map}
use Rattle.std.proofs.lemmas.List.Elements.{filter_agree}
use Rattle.std.proofs.lemmas.Map.Views.{Contains-from_any, list_any-from_Contains}
use Rattle.std.specs.Cmp.{nat_eq_equiv}
use Rattle.std.specs.Set.{is_member}
use Rattle.digraph.proofs.Rows.{leads_map}
use Rattle.proto_base.specs.declared.kind.Kind.{Kind}
use Rattle.proto_desc.specs.declared.file.FileDesc.{FileDesc}
use Rattle.proto_desc.specs.declared.file.ImportDescriptor.{ImportDescriptor}
use Rattle.proto_links.proofs.Unique.{one_set_order}
use Rattle.proto_links.proofs.Whole.{whole_of}
use Rattle.proto_links.specs.Imports.{Imports, ImportsPublicly, IsNamed, IsWrong, NoneBad, Reaches, cyclic, imports_at, missing, name_of}
use Rattle.proto_links.specs.Linked.{AreLinked, AreRanks, Linked, rank_of, reach_of}
use Rattle.proto_links.specs.Visible.{Sees, imported, itself, re_exported}
use Rattle.share_work.proofs.Sums.{in_map, of_map}
use Rattle.set_round_trip.proofs.Imports.{import_mark, import_marks}

-- what a file imports
marks_at : (files : List FileDesc) (a : ℕ) → get_or (map import_marks files) a [] ≡ map import_mark (imports_at files a)
marks_at [] a = refl
marks_at (f ∷ files) zero = refl
marks_at (f ∷ files) (suc a) = marks_at files a

module _ (fs gs : List FileDesc) (names : map name_of fs ≡ map name_of gs)
    (marks : map import_marks fs ≡ map import_marks gs) where
  pub same_size : length gs ≡ length fs
  same_size = omega (arith, ap length names, length-map fs name_of, length-map gs name_of)

  named_on : (name : List ℕ) (b : ℕ) → IsNamed fs name b → IsNamed gs name b
  named_on name b (below, named) =
      (omega (arith, below, same_size), ap (λ (ns : List (List ℕ)). get_or ns b []) (sym names) ∙ named)

  -- an import, and the same one of the other files
  import_on : (a : ℕ) (i : ImportDescriptor) → Contains (imports_at fs a) i
      → (j : ImportDescriptor) × Contains (imports_at gs a) j × (import_mark j ≡ import_mark i)
  import_on a i has =
      let here : map import_mark (imports_at fs a) ≡ map import_mark (imports_at gs a) =
      sym (marks_at fs a) ∙ ap (λ (ms : List (List (List ℕ × Bool))). get_or ms a []) marks ∙ marks_at gs a in
      of_map import_mark (imports_at gs a) (import_mark i)
      (subst (λ ms. Contains ms (import_mark i)) here (in_map import_mark (imports_at fs a) i has))

  path_is : (i j : ImportDescriptor) → import_mark j ≡ import_mark i → i.path ≡ j.path
  path_is i j same = ap (λ (m : List ℕ × Bool). m.0) (sym same)

  imports_on : (a b : ℕ) → Imports fs a b → Imports gs a b
  imports_on a b (i, has, named) =
      let (j, there, same) = import_on a i has in
      (j, there, named_on j.path b (subst (λ p. IsNamed fs p b) (path_is i j same) named))

  publics_on : (a b : ℕ) → ImportsPublicly fs a b → ImportsPublicly gs a b
  publics_on a b (i, has, is_public, named) =
      let (j, there, same) = import_on a i has in (
        j,
        there,
        ap (λ (m : List ℕ × Bool). m.1) same ∙ is_public,
        named_on j.path b (subst (λ p. IsNamed fs p b) (path_is i j same) named),
      )

  reaches_on : (a c : ℕ) → Reaches fs a c → Reaches gs a c
  reaches_on a c = leads_map (Imports fs) (Imports gs) (λ x. x) imports_on c a

  sees_on : (a b : ℕ) → Sees fs a b → Sees gs a b
  sees_on a _ itself = itself
  sees_on a _ (imported b imports) = imported b (imports_on a b imports)
  sees_on a _ (re_exported b c seen other publics) = re_exported b c (sees_on a b seen) other (publics_on b c publics)

module _ (fs gs : List FileDesc) (names : map name_of fs ≡ map name_of gs)
    (marks : map import_marks fs ≡ map import_marks gs) (links : Linked) (first : AreLinked fs links) where
  on : (a b : ℕ) → Imports fs a b → Imports gs a b
  on = imports_on fs gs names marks

  back : (a b : ℕ) → Imports gs a b → Imports fs a b
  back = imports_on gs fs (sym names) (sym marks)

  size : length gs ≡ length fs
  size = same_size fs gs names marks

  wrong_back : (a : ℕ) (i j : ImportDescriptor) (kind : Kind) → import_mark j ≡ import_mark i → IsWrong gs a i kind
      → IsWrong fs a j kind
  wrong_back a i j _ same (missing none) = missing (λ b named. none b (named_on fs gs names marks i.path b
      (subst (λ p. IsNamed fs p b) (ap (λ (m : List ℕ × Bool). m.0) same) named)))
  wrong_back a i j _ same (cyclic b named way) = cyclic b (subst (λ p. IsNamed fs p b)
      (ap (λ (m : List ℕ × Bool). m.0) (sym same)) (named_on gs fs (sym names) (sym marks) i.path b named))
      (reaches_on gs fs (sym names) (sym marks) b a way)

  none_bad : NoneBad gs
  none_bad a place kind (i, has, at, wrong) =
      let (j, there, same) = import_on gs fs (sym names) (sym marks) a i has in
      first.whole a j.place kind (j, there, refl, wrong_back a i j kind same wrong)

  least_on : (a : ℕ)
      → (rank_of links a ≡ 0) ⊎ ((b : ℕ) × Imports fs a b × (rank_of links a ≡ rank_of links b + 1))
      → (rank_of links a ≡ 0) ⊎ ((b : ℕ) × Imports gs a b × (rank_of links a ≡ rank_of links b + 1))
  least_on a (inl none) = inl none
  least_on a (inr (b, imports, above)) = inr (b, on a b imports, above)

  ranks_on : AreRanks gs (rank_of links)
  ranks_on = record {
    above = λ a b imports. first.ranks.above a b (back a b imports);
    least = λ a below. least_on a (first.ranks.least a (omega (arith, below, size)));
  }

  pub linked_on : AreLinked gs links
  linked_on = record {
    whole = none_bad;
    count = first.count ∙ sym size;
    ranks = ranks_on;
    order = record {
      rises = first.order.rises;
      every = λ a. (
        λ has. omega (arith, (first.order.every a).0 has, size),
        λ below. (first.order.every a).1 (omega (arith, below, size)),
      );
    };
    reach = λ a below. (
        let is = first.reach a (omega (arith, below, size)) in
        record {
          members = λ c. (
            λ has. reaches_on fs gs names marks a c ((is.members c).0 has),
            λ way. (is.members c).1 (reaches_on gs fs (sym names) (sym marks) a c way),
          );
          rises = is.rises;
        });
    sees = λ a b one other. (
        let is = first.sees a b (omega (arith, one, size)) (omega (arith, other, size)) in (
          λ seen. sees_on fs gs names marks a b (is.0 seen),
          λ seen. is.1 (sees_on gs fs (sym names) (sym marks) a b seen),
        ));
  }

-- ---- the links of some files

has_alike : (g : ℕ) (xs ys : List ℕ) → (Contains xs g → Contains ys g) → (Contains ys g → Contains xs g)
    → is_member ◌==◌ xs g ≡ is_member ◌==◌ ys g
has_alike g xs ys to from = grind (arith, Contains-from_any eqb-true g, list_any-from_Contains nat_eq_equiv g)

module _ (files : List FileDesc) (links others : Linked) (first : AreLinked files links)
    (second : AreLinked files others) where
  pub same_order : links.set_order ≡ others.set_order
  same_order = one_set_order files links others first second

  pub same_reach : (a : ℕ) → a < length files → reach_of links a ≡ reach_of others a
  same_reach a below =
      let mine = (first.reach a below).members in
      let theirs = (second.reach a below).members in
      let agree = filter_agree (is_member ◌==◌ (reach_of links a)) (is_member ◌==◌ (reach_of others a))
      (λ b. has_alike b (reach_of links a) (reach_of others a) (λ w. (theirs b).1 ((mine b).0 w))
      (λ w. (mine b).1 ((theirs b).0 w))) links.set_order in
      let part = (whole_of files links first).part a (omega (arith, below, first.count)) in
      let other = (whole_of files others second).part a (omega (arith, below, second.count)) in
      cc (part, agree, same_order, other)
