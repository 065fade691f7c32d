-- The faults of types that are found in each file are those of all files.
use Rattle.std.proofs.Common.{◌≡◌, sym, subst, ℕ, ◌+◌, ◌<◌, ◌≤◌, List, Vec, Global, length, arith, Contains, zero-add}
use Rattle.std.specs.Prelude.{AllPairs}
use Rattle.proto_base.specs.Least.{Precedes as SpotPrecedes}
use Rattle.proto_base.specs.Sets.{StandsAt}
use Rattle.proto_base.specs.declared.limits.Limits.{Limits}
use Rattle.proto_base.specs.declared.spot.Spot.{Spot}
use Rattle.proto_compile.proofs.OneTyping.{broken_by_index, item_at}
use Rattle.proto_desc.specs.declared.file.FileDesc.{FileDesc}
use Rattle.proto_links.specs.Linked.{AreLinked, Linked}
use Rattle.proto_links.specs.Visible.{Sees}
use Rattle.proto_links.specs.declared.bad.FileSpot.{FileSpot}
use Rattle.proto_names.specs.Index.{Index, Indexes}
use Rattle.proto_names.specs.Occurrences.{occurrences}
use Rattle.proto_types.specs.References.{TypesBreak}
use Rattle.share_work.proofs.Giving.{given_at}
use Rattle.share_work.specs.Shares.{GivesItems}
use Rattle.file_faults.specs.FaultSpots.{AreAllTypeFaults, AreTypeFaults, spots_from}
use Rattle.file_faults.proofs.Joining.{rows_in_order, spots_to, to_spots}

module _ {limits : Limits} {descs : List FileDesc} {links : Linked} {index : Index} (linked : AreLinked descs links)
    (indexed : Indexes descs limits index) (rows : List (Vec Spot Global))
    (gives : GivesItems (λ k d (r : Vec Spot Global). AreTypeFaults links index k d r.items) 0 descs rows) where
  -- what is found in the file at a position
  row_at : (k : ℕ) (desc : FileDesc) (row : Vec Spot Global) → StandsAt descs k desc → StandsAt rows k row
      → AreTypeFaults links index k desc row.items
  row_at k desc row stands at = given_at (λ k d (r : Vec Spot Global). AreTypeFaults links index k d r.items) descs rows k
      desc row row gives stands.0 stands.1 at.1

  type_fault : (x : FileSpot) → Contains (spots_from 0 rows) x
      → (desc : FileDesc) × StandsAt descs x.file desc × TypesBreak (occurrences descs) (Sees descs x.file) desc x.spot
  type_fault x inside =
      let (k, row, at, file, there) = spots_to 0 rows x inside in
      let (desc, stands) = item_at descs k (omega (arith, at.0, gives.0)) in
      let found = row_at k desc row stands at in
      let is : x.file ≡ k = omega (arith, file) in (
        desc,
        subst (λ n. StandsAt descs n desc) (sym is) stands,
        subst (λ n. TypesBreak (occurrences descs) (Sees descs n) desc x.spot) (sym is)
            ((broken_by_index linked indexed k desc x.spot stands.0).1 ((found.all x.spot).0 there)),
      )

  fault_told : (x : FileSpot) (desc : FileDesc) → StandsAt descs x.file desc
      → TypesBreak (occurrences descs) (Sees descs x.file) desc x.spot → Contains (spots_from 0 rows) x
  fault_told x desc stands breaks =
      let (row, at) = item_at rows x.file (omega (arith, stands.0, gives.0)) in
      let found = row_at x.file desc row stands at in
      rw zero-add at (to_spots 0 rows x.file row x.spot at
      ((found.all x.spot).1 ((broken_by_index linked indexed x.file desc x.spot stands.0).0 breaks)))

  pub all_types : AreAllTypeFaults descs (spots_from 0 rows)
  all_types = record {
    all = λ x. (type_fault x, λ (desc, stands, breaks). fault_told x desc stands breaks);
    order = rows_in_order 0 rows (λ k row at. (
        let (desc, stands) = item_at descs k (omega (arith, at.0, gives.0)) in (row_at k desc row stands at).order));
  }
