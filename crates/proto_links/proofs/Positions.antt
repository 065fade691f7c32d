-- What files reach and see, when none of their imports is bad, and what lists of their positions say of them.
use Rattle.proto_links.proofs.Common.{◌≡◌, ℕ, ◌<◌, List, length, refl, subst, arith, inl, inr, ◌⊎◌, Contains, ◌↔◌, rules, [], get_or, zero-add, ◌+◌, map, Vec, Global, IsTrue, ◌==◌, eqb-true, Graph, Edge, IsFalling, IsWithin, graph_of, Leads, here, through, leads_map, leads_last, joined_two, length_graph, leads_le, edge_below, FileDesc, Kind, IsGraph, HasMissing, IsPublicGraph, Imports, ImportsPublicly, Reaches, NoneBad, IsWrong, missing, cyclic, imports_at, Contains-get_or, get_or-map, get_or_default, length-map, reach_of, sees, AreLinked, IsReach, common_steps}
use Rattle.proto_links.specs.Graphs.{HasNoWayBack}
use Rattle.digraph.specs.Reaches.{HasNoCycle, IsReach as IsReachList}
use Rattle.digraph.specs.Ranks.{rank_in, IsRanked}
use Rattle.proto_desc.specs.declared.file.ImportDescriptor.{ImportDescriptor}
use Rattle.proto_links.specs.Visible.{Sees, itself, imported, re_exported}
use Rattle.std.proofs.lemmas.List.FromFn.{get_or-map-range_with_len}
use Rattle.bit_matrix.specs.Bits.{has as is_set, Bits}
use Rattle.bit_matrix.specs.Changes.{columns_of, Has}
use Rattle.proto_links.specs.Layout.{linked, list_at, IsLaidOut}
use Rattle.proto_links.specs.declared.links.Links.TheInside.{Inside}
use Rattle.std.specs.Set.{is_member}
use Rattle.std.specs.Cmp.{nat_eq_equiv}
use Rattle.std.proofs.lemmas.Map.Views.{Contains-from_any, list_any-from_Contains}
use Rattle.digraph.specs.Renumbered.{IsRenumbered, node_at}
use Rattle.digraph.specs.declared.ranks.Ranking.{Ranking}
use Rattle.digraph.proofs.Renumbering.{before_far, map_members, renumbered_falls}
use Rattle.proto_links.specs.Positioned.{ArePositioned, AreFilesReached, AreFilesSeen, AreRanked, import_rows}
use Rattle.proto_links.specs.declared.graph.Graph.{Graph as ImportGraph}
use Rattle.proto_links.specs.declared.positioned.Positioned.{Positioned}

-- ---- what imports lead to

pub public_imports : (files : List FileDesc) (a b : ℕ) → ImportsPublicly files a b → Imports files a b
public_imports files a b (i, w, p, n) = (i, w, n)

pub leads_inside : (files : List FileDesc) (c a : ℕ) → a < length files → Leads (Imports files) c a → c < length files
leads_inside files c _ h here = h
leads_inside files c _ h (through a b i more) = leads_inside files c b i.2.0 more

-- where no import is cyclic, no import leads back
no_way_back : (files : List FileDesc) (a d : ℕ) → NoneBad files → Imports files a d → Reaches files d a → ⊥
no_way_back files a d none (i, w, n) r = none a i.place _ (i, w, refl, cyclic d n r)

-- ---- what a file sees

-- itself, and what its imports lead to by public imports
abbrev pub SeesBy : List FileDesc → ℕ → ℕ → Type 0
SeesBy files a b = (a ≡ b) ⊎ ((d : ℕ) × Imports files a d × Leads (ImportsPublicly files) b d)

module _ (files : List FileDesc) (none : NoneBad files) (a : ℕ) where
  sees_to : (b : ℕ) → Sees files a b → SeesBy files a b
  sees_to _ itself = inl refl
  sees_to _ (imported b i) = inr (b, i, here)
  sees_to _ (re_exported b c s other p) = let seen = sees_to b s in grind (arith, leads_last)

  -- an import leads to no file that imports it, so what it leads to is seen
  sees_on : (d b e : ℕ) → Imports files a d → Reaches files d e → Sees files a e → Leads (ImportsPublicly files) b e
      → Sees files a b
  sees_on d b _ i r s here = s
  sees_on d b _ i r s (through e f p more) =
      sees_on d b f i (leads_last (Imports files) e f d r (public_imports files e f p))
      (re_exported e f s (λ same. no_way_back files a d none i (subst (Reaches files d) same r)) p) more

  pub sees_is : (b : ℕ) → SeesBy files a b ↔ Sees files a b
  sees_is b = (
    λ w. elim w [
      | inl same ↦ subst (Sees files a) same itself
      | inr (d, i, way) ↦ sees_on d b d i here (imported d i) way
    ],
    sees_to b,
  )

-- ---- files without a bad import

module _ {files : List FileDesc} {g : Graph} {ranks : List ℕ} (is : IsGraph files g) (ranked : IsRanked g ranks) where
  pub ranked_straight : HasNoWayBack files
  ranked_straight a b step reach =
      let falls : (x y : ℕ) → Imports files x y → rank_in ranks y < rank_in ranks x =
      λ x y step. ranked.above x y ((is.edges x y).1 step) in
      omega (arith, falls a b step, leads_le (Imports files) (rank_in ranks) falls a b reach)

  not_wrong : (a : ℕ) (i : ImportDescriptor) (k : Kind) → (HasMissing files (imports_at files a) → ⊥)
      → Contains (imports_at files a) i → IsWrong files a i k → ⊥
  not_wrong a i _ whole w (missing none) = whole (i, w, none)
  not_wrong a i _ whole w (cyclic b n reach) = ranked_straight a b (i, w, n) reach

  pub none_bad : ((a : ℕ) → HasMissing files (imports_at files a) → ⊥) → NoneBad files
  none_bad whole a p k (i, w, at, wrong) = not_wrong a i k (whole a) w wrong

pub no_cycle : {files : List FileDesc} {g : Graph} → IsGraph files g → NoneBad files → HasNoCycle g
no_cycle {files} {g} is none a b edge way = no_way_back files a b none ((is.edges a b).0 edge)
    (leads_map (Edge g) (Imports files) (λ x. x) (λ x y. (is.edges x y).0) a b way)

pub none_missing : (files : List FileDesc) → NoneBad files → (a : ℕ) → HasMissing files (imports_at files a) → ⊥
none_missing files none a (i, w, n) = none a i.place _ (i, w, refl, missing n)

module _ (inside : Inside) (a : ℕ) (h : a < length inside.positions.items) where
  pub reach_there : reach_of (linked inside) a ≡ list_at inside.reach (get_or inside.positions.items a 0)
  reach_there = get_or-map (list_at inside.reach) inside.positions.items a 0 [] h

  pub sees_there : (b : ℕ) → b < columns_of inside.seen
      → sees (linked inside) a b ≡ is_set inside.seen (get_or inside.positions.items a 0) b
  sees_there b column = grind (arith, get_or-map, get_or-map-range_with_len, zero-add)

-- ---- graphs of files

pub graph_within : {files : List FileDesc} {g : Graph} → IsGraph files g → IsWithin g (length g)
graph_within is a b edge = let named = ((is.edges a b).0 edge).2 in omega arith

pub public_within : {files : List FileDesc} {g : Graph} → IsPublicGraph files g → IsWithin g (length g)
public_within is a b edge = let named = ((is.edges a b).0 edge).3 in omega arith

pub rows_within : (rows : List (Vec ℕ Global)) → IsWithin (graph_of rows) (length (graph_of rows))
    → IsWithin (graph_of rows) (length rows)
rows_within rows within = rw (length_graph rows) at within

-- ---- words

abbrev rank_of : Ranking → ℕ → ℕ
rank_of ranking = rank_in ranking.ranks.items

abbrev file_at : Ranking → ℕ → ℕ
file_at ranking = node_at ranking.order.items

abbrev position_of : Positioned → ℕ → ℕ
position_of positioned a = get_or positioned.positions.items a 0

-- ---- lists

-- `has` is membership
pub has_is : (x : ℕ) (xs : List ℕ) → IsTrue (is_member ◌==◌ xs x) ↔ Contains xs x
has_is x xs = (Contains-from_any eqb-true x xs, list_any-from_Contains nat_eq_equiv x xs)

-- ---- ranks and order

module _ {files : List FileDesc} {graph : ImportGraph} {ranking : Ranking} (r : AreRanked files graph ranking) where
  order_size : length ranking.order.items ≡ length files
  order_size = omega arith

-- ---- files and positions

module _ {files : List FileDesc} {graph : ImportGraph} {ranking : Ranking} {positioned : Positioned}
    (m : ArePositioned files graph ranking positioned) where
  pub rows_size : length positioned.imports.items ≡ length ranking.order.items
  rows_size = omega (arith, length_graph positioned.imports.items)

  pub public_size : length positioned.public_imports.items ≡ length positioned.imports.items
  public_size = omega (arith, rows_size, length_graph positioned.public_imports.items)

  -- imports go to lower positions
  pub rows_fall : IsFalling (import_rows positioned)
  rows_fall = search (rules, renumbered_falls)

  -- each file has a position, and is the file there
  position_below : (a : ℕ) → a < length files → position_of positioned a < length positioned.imports.items
  position_below a h = grind (arith, order_size, rows_size)

  file_there : (a : ℕ) → a < length files → file_at ranking (position_of positioned a) ≡ a
  file_there a h = (m.positions.node a (omega (arith, order_size m.ranked))).1

  -- ---- ways between positions, and between files

  edge_is : {g rows : Graph} → IsRenumbered g ranking.order.items rows → (a b : ℕ) → a < length files → b < length files
      → Edge rows (position_of positioned a) (position_of positioned b) ↔ Edge g a b
  edge_is r a b ha hb = rw (file_there a ha, file_there b hb) at (r.edges (position_of positioned a)
      (position_of positioned b) (omega (arith, position_below a ha, rows_size))
      (omega (arith, position_below b hb, rows_size)))

  way_is : {P : ℕ → ℕ → Type 0} {g rows : Graph} → IsRenumbered g ranking.order.items rows
      → ((a b : ℕ) → Edge g a b ↔ P a b) → length g ≡ length files → IsWithin g (length g) → (a c : ℕ)
      → a < length files → (Leads P c a → c < length files)
      → ((k : ℕ) × Leads (Edge rows) k (position_of positioned a) × (file_at ranking k ≡ c)) ↔ Leads P c a
  way_is {P = P} {g = g} {rows = rows} r edges size within a c h inside = (
    λ (k, way, at). rw (file_there a h, at) at (leads_map (Edge rows) P (file_at ranking) (λ x y edge. (edges _ _).0
        ((r.edges x y (omega (arith, edge_below rows x y edge, r.size)) (r.within x y edge)).0 edge)) k _ way),
    λ way. (
      position_of positioned c,
      leads_map P (Edge rows) (position_of positioned) (λ x y step. (
          let edge = (edges x y).1 step in
          (edge_is r x y (omega (arith, edge_below g x y edge)) (omega (arith, within x y edge))).1 edge)) c a way,
      file_there c (inside way),
    ),
  )

  -- ---- what a file reaches

  reach_is : (a : ℕ) (list : List ℕ) → a < length files
      → IsReachList (import_rows positioned) (position_of positioned a) list
      → IsReach files (rank_of ranking) a (map (file_at ranking) list)
  reach_is a list h is = record {
    members = λ c. (
        let ways = way_is m.imports m.ranked.imports.edges m.ranked.imports.size (graph_within m.ranked.imports) a c h
        (leads_inside files c a h) in
        let list_is = map_members (file_at ranking) list c in (
          λ w. (let (k, inside, at) = list_is.0 w in ways.0 (k, (is.members k).0 inside, at)),
          λ r. (let (k, way, at) = ways.1 r in list_is.1 (k, (is.members k).1 way, at)),
        ));
    rises = λ k more. (
        let next : k + 1 < length list = omega (arith, length-map list (file_at ranking)) in
        let below = leads_le (Edge (import_rows positioned)) (λ x. x) rows_fall _ _
        ((is.members _).0 (Contains-get_or list (k + 1) 0 next)) in
        let far = before_far ranking.ranks.items ranking.order.items m.ranked.order (get_or list k 0)
        (get_or list (k + 1) 0) (is.rises k next) (omega (arith, position_below a h, rows_size)) in
        rw (get_or-map (file_at ranking) list k 0 0 (omega arith), get_or-map (file_at ranking) list (k + 1) 0 0 next)
        far);
  }

  -- ---- what a file sees

  -- what a file leads to by public imports it sees
  public_seen : (a b : ℕ) → Leads (ImportsPublicly files) b a → SeesBy files a b
  public_seen a _ here = inl refl
  public_seen a b (through _ e edge more) = inr (e, public_imports files a e edge, more)

  module _ {seen : Bits} (s : AreFilesSeen ranking positioned seen) where
    column_inside : (b : ℕ) → b < length files → b < columns_of s.reach
    column_inside b h = omega (arith, order_size m.ranked)

    row_inside : (a : ℕ) → a < length files → position_of positioned a < s.reach.rows
    row_inside a h = omega (arith, position_below a h, rows_size)

    -- by public imports
    reached : (a b : ℕ) → a < length files → b < length files
        → Has s.reach (position_of positioned a) b ↔ Leads (ImportsPublicly files) b a
    reached a b ha hb = joined_two
        (s.reaches.members (position_of positioned a) b (row_inside a ha) (column_inside b hb))
        (way_is m.public_imports m.ranked.public_imports.edges m.ranked.public_imports.size
        (public_within m.ranked.public_imports) a b ha (λ way. hb))

    seen_is : (a b : ℕ) → a < length files → b < length files → Has seen (position_of positioned a) b ↔ Sees files a b
    seen_is a b ha hb =
        let joined = s.joined.members (position_of positioned a) b (row_inside a ha) (column_inside b hb) in
        joined_two {B = SeesBy files a b} (
          λ w. elim (joined.0 w) [
            | inl own ↦ public_seen a b ((reached a b ha hb).0 own)
            | inr (k, edge, v) ↦
                let (less, at) = m.positions.position k (m.imports.within (position_of positioned a) k edge) in
                let inside : file_at ranking k < length files = omega (arith, order_size m.ranked) in
                inr (
                  file_at ranking k,
                  (m.ranked.imports.edges a _).0 ((edge_is m.imports a (file_at ranking k) ha inside).0 (rw at edge)),
                  (reached (file_at ranking k) b inside hb).0 (rw at v),
                )
          ],
          λ by. joined.1 (elim by [
            | inl same ↦ inl ((reached a b ha hb).1 (rw same here))
            | inr (d, i, way) ↦
                inr (
                  position_of positioned d,
                  (edge_is m.imports a d ha i.2.0).1 ((m.ranked.imports.edges a d).1 i),
                  (reached d b i.2.0 hb).1 way,
                )
          ]),
        ) (sees_is files m.ranked.none_bad a b)

-- ---- the links

named_length : (f : ℕ → ℕ) (lists named : List (List ℕ)) → named ≡ map (λ (list : List ℕ). map f list) lists
    → length named ≡ length lists
named_length f lists named e = grind (arith, common_steps)

module _ {files : List FileDesc} {graph : ImportGraph} {ranking : Ranking} {positioned : Positioned}
    {reach : List (List ℕ)} {seen : Bits}
    (m : ArePositioned files graph ranking positioned) (r : AreFilesReached ranking positioned reach)
    (s : AreFilesSeen ranking positioned seen) where
  ranks_size : length ranking.ranks.items ≡ length files
  ranks_size = omega (arith, order_size m.ranked)

  abbrev kept : Inside
  kept = record { ranking = ranking; positions = positioned.positions; reach = reach; seen = seen }

  positions_size : length positioned.positions.items ≡ length files
  positions_size = omega (arith, order_size m.ranked)

  position_inside : (k d : ℕ) → k < length positioned.positions.items
      → get_or positioned.positions.items k d < length positioned.imports.items
  position_inside k d h = grind (arith, get_or_default, position_below, positions_size)

  pub laid_out : IsLaidOut kept
  laid_out =
      grind (arith, common_steps, named_length, order_size, position_inside, positions_size, ranks_size, rows_size)

  pub linked_of : AreLinked files (linked kept)
  linked_of = record {
    whole = m.ranked.none_bad;
    count = ranks_size;
    ranks = record {
      above = λ a b i. m.ranked.ranks.above a b ((m.ranked.imports.edges a b).1 i);
      least = λ a h. (elim (m.ranked.ranks.least a (omega arith)) [
        | inl zero ↦ inl zero
        | inr (b, edge, more) ↦ inr (b, (m.ranked.imports.edges a b).0 edge, more)
      ]);
    };
    order = record {
      rises = m.ranked.order.rises;
      every = λ a. (let whole = m.ranked.order.whole a in grind (arith, order_size));
    };
    reach = λ a h. (
        let k = position_of positioned a in
        let inside = position_below m a h in
        rw (
          reach_there kept a (omega (arith, positions_size)),
          r.named,
          get_or-map (λ (list : List ℕ). map (file_at ranking) list) r.lists k [] [] (omega arith),
        ) (reach_is m a (get_or r.lists k []) h (r.reaches k inside)));
    sees = λ a b ha hb. rw (sees_there kept a (omega (arith, positions_size)) b
        (omega (arith, ranks_size, laid_out.columns))) (seen_is m s a b ha hb);
  }
