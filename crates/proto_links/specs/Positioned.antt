-- Words of private contracts: files by their positions in set order.
use Rattle.std.specs.Prelude.{◌≡◌, ℕ, List, length, map}
use Rattle.bit_matrix.specs.Bits.{Bits}
use Rattle.digraph.specs.Edges.{Graph, graph_of}
use Rattle.digraph.specs.Reaches.{AreReaches}
use Rattle.digraph.specs.Ranks.{IsRanked, IsRankOrder}
use Rattle.digraph.specs.ReachRows.{AreReachRows, HaveSuccessorsJoined}
use Rattle.digraph.specs.Renumbered.{ArePositions, IsRenumbered, node_at}
use Rattle.digraph.specs.declared.ranks.Ranking.{Ranking}
use Rattle.proto_desc.specs.declared.file.FileDesc.{FileDesc}
use Rattle.proto_links.specs.Graphs.{IsGraph, IsPublicGraph}
use Rattle.proto_links.specs.Imports.{NoneBad}
use Rattle.proto_links.specs.declared.graph.Graph.{Graph as ImportGraph}
use Rattle.proto_links.specs.declared.positioned.Positioned.{Positioned}

-- ---- graphs of files, and of their positions

abbrev pub file_imports : ImportGraph → Graph
file_imports graph = graph_of graph.imports.items

abbrev pub file_public_imports : ImportGraph → Graph
file_public_imports graph = graph_of graph.public_imports.items

abbrev pub import_rows : Positioned → Graph
import_rows positioned = graph_of positioned.imports.items

abbrev pub public_rows : Positioned → Graph
public_rows positioned = graph_of positioned.public_imports.items

-- files without a bad import, the graphs of their imports, and the ranks by these
pub record AreRanked (files : List FileDesc) (graph : ImportGraph) (ranking : Ranking) : Type 0 where
  pub none_bad : NoneBad files
  pub imports : IsGraph files (file_imports graph)
  pub public_imports : IsPublicGraph files (file_public_imports graph)
  pub ranks : IsRanked (file_imports graph) ranking.ranks.items
  pub order : IsRankOrder ranking.ranks.items ranking.order.items

-- the positions of ranked files, and their imports between positions
pub record ArePositioned (files : List FileDesc) (graph : ImportGraph) (ranking : Ranking)
    (positioned : Positioned) : Type 0 where
  pub ranked : AreRanked files graph ranking
  -- of each file in set order
  pub positions : ArePositions ranking.order.items positioned.positions.items
  -- the same edges as between files
  pub imports : IsRenumbered (file_imports graph) ranking.order.items (import_rows positioned)
  pub public_imports : IsRenumbered (file_public_imports graph) ranking.order.items (public_rows positioned)

-- ---- lists by positions

-- what the file at each position reaches: the files at the positions that its position leads to
pub record AreFilesReached (ranking : Ranking) (positioned : Positioned) (reach : List (List ℕ)) : Type 0 where
  pub lists : List (List ℕ)
  pub size : length lists ≡ length positioned.imports.items
  pub reaches : AreReaches (import_rows positioned) lists (length positioned.imports.items)
  pub named : reach ≡ map (λ (list : List ℕ). map (node_at ranking.order.items) list) lists

-- what the file at each position sees: what it leads to by public imports, and what its imports do
pub record AreFilesSeen (ranking : Ranking) (positioned : Positioned) (seen : Bits) : Type 0 where
  pub reach : Bits
  pub reaches : AreReachRows (public_rows positioned) ranking.order.items reach
  pub joined : HaveSuccessorsJoined (import_rows positioned) reach seen
