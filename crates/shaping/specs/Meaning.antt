-- What a shaped sheet is, said of all its rows, and what follows for its trees.
use Rattle.std.specs.Prelude.{◌≡◌, ℕ, ◌+◌, ◌<◌, ◌≤◌, true, ◌⊎◌, List, length, slice_index_or}
use Rattle.sheet.specs.declared.row.Row.{Row}
use Rattle.sheet.specs.Asked.{Each, passed}
use Rattle.sheet.specs.declared.section.Section.TheVariants as section
use Rattle.sheet.specs.Sheet.{Sheet, view, no_row, first_row, parts_of, part, InSpan}
use Rattle.shaping.specs.Letters.{in_order}
use Rattle.shaping.specs.Types.{lawful_type}
use Rattle.shaping.specs.Sites.{lawful_site}
use Rattle.shaping.specs.Nodes.{lawful_node, bound}
use Rattle.shaping.specs.Entries.{lawful_entry, covered}
use Rattle.shaping.specs.Verdict.{shape_verdict}

-- the rows pass every question of shaping
abbrev pub IsShaped : List Row → Type 0
IsShaped rs = passed (shape_verdict rs) ≡ true

-- from 1 to the most
abbrev pub FromOne : ℕ → ℕ → Type 0
FromOne most n = (1 ≤ n) × (n ≤ most)

-- each question holds of each row that it is about
pub record Lawful (rs : List Row) : Type 0 where
  pub letters : Each (length rs) (in_order rs)
  pub limits : FromOne 128 (view rs).types × FromOne 32 (view rs).sites × FromOne 512 (view rs).nodes × FromOne 32 (view rs).entries
  pub types : Each (view rs).types (lawful_type (view rs))
  pub sites : Each (view rs).sites (lawful_site (view rs))
  pub nodes : Each (view rs).nodes (lawful_node (view rs))
  pub variables : Each (view rs).nodes (bound (view rs))
  pub entries : Each (view rs).entries (lawful_entry (view rs))
  pub cover : Each (view rs).nodes (covered (view rs))

-- rows are shaped exactly when each question holds of each row
abbrev pub ShapedExactly : Type 0
ShapedExactly = (rs : List Row) → (IsShaped rs → Lawful rs) × (Lawful rs → IsShaped rs)

-- the letter of row k
abbrev pub letter_at : List Row → ℕ → ℕ
letter_at rs k = (slice_index_or rs k no_row).letter

-- every row is of one section, and the rows that a section is read off have its letter: T, S, N, E
pub record Sections (rs : List Row) : Type 0 where
  pub whole : (view rs).types + (view rs).sites + (view rs).nodes + (view rs).entries ≡ (view rs).rows
  pub types : (t : ℕ) → t < (view rs).types → letter_at rs (first_row (view rs) section.Types + t) ≡ 84
  pub sites : (s : ℕ) → s < (view rs).sites → letter_at rs (first_row (view rs) section.Sites + s) ≡ 83
  pub nodes : (i : ℕ) → i < (view rs).nodes → letter_at rs (first_row (view rs) section.Nodes + i) ≡ 78
  pub entries : (e : ℕ) → e < (view rs).entries → letter_at rs (first_row (view rs) section.Entries + e) ≡ 69

-- a shaped sheet is read off its rows each under its own letter
abbrev pub ReadByLetter : Type 0
ReadByLetter = (rs : List Row) → IsShaped rs → Sections rs

-- the span of node i lies within that of node j
abbrev pub SpanWithin : Sheet → ℕ → ℕ → Type 0
SpanWithin S i j = (k : ℕ) → InSpan S i k → InSpan S j k

-- the spans of nodes i and j share no node
abbrev pub SpansApart : Sheet → ℕ → ℕ → Type 0
SpansApart S i j = (k : ℕ) → InSpan S i k → InSpan S j k → ⊥

-- the nodes of a sheet are trees: spans begin at node 0 or later, the parts of a node make up its span but for
-- the node itself, and two spans are nested or apart
pub record Nesting (S : Sheet) : Type 0 where
  pub own : (i : ℕ) → i < S.nodes → InSpan S i i × ((S.node i).size ≤ i + 1)
  pub parts : (i q : ℕ) → i < S.nodes → q < parts_of (S.node i).kind → (part S i q < i) × SpanWithin S (part S i q) i
  pub tiled : (i j : ℕ) → i < S.nodes → InSpan S i j → (j ≡ i) ⊎ ((q : ℕ) × (q < parts_of (S.node i).kind) × InSpan S (part S i q) j)
  pub nested : (i j : ℕ) → i < S.nodes → j < S.nodes → SpanWithin S i j ⊎ (SpanWithin S j i ⊎ SpansApart S i j)

-- the nodes of a shaped sheet are trees
abbrev pub SpansNest : Type 0
SpansNest = (rs : List Row) → IsShaped rs → Nesting (view rs)

-- node i is in the tree of entry e
abbrev pub InTree : Sheet → ℕ → ℕ → Type 0
InTree S e i = InSpan S (S.entry e).root i

-- every node is in the tree of exactly one entry, and an entry's root stands in no node but itself
pub record Forest (S : Sheet) : Type 0 where
  pub rooted : (e : ℕ) → e < S.entries → (S.entry e).root < S.nodes
  pub cover : (i : ℕ) → i < S.nodes → (e : ℕ) × (e < S.entries) × InTree S e i
  pub disjoint : (e f i : ℕ) → e < S.entries → f < S.entries → InTree S e i → InTree S f i → e ≡ f
  pub outermost : (e i : ℕ) → e < S.entries → i < S.nodes → InSpan S i (S.entry e).root → i ≡ (S.entry e).root

-- the trees of a shaped sheet's entries are disjoint and cover all nodes
abbrev pub TreesCover : Type 0
TreesCover = (rs : List Row) → IsShaped rs → Forest (view rs)
