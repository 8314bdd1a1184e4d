-- Question 27: each entry is lawful, and the entries' trees cover every node.
use Rattle.std.specs.Prelude.{ℕ, ◌-◌, Bool, not, ◌&&◌, ◌||◌, ◌==◌, nat_lt}
use Rattle.sheet.specs.declared.decoded.EntryRow.{EntryRow}
use Rattle.sheet.specs.Sheet.{Sheet}
use Rattle.sheet.specs.Asked.{every}

-- the first node of entry e's tree; the last is its root
abbrev pub first_of : Sheet → ℕ → ℕ
first_of S e = (S.entry e).root - ((S.node (S.entry e).root).size - 1)

-- the trees of entries e and f share no node
abbrev pub apart : Sheet → ℕ → ℕ → Bool
apart S e f = nat_lt (S.entry e).root (first_of S f) || nat_lt (S.entry f).root (first_of S e)

-- entry e's tree shares no node with that of an earlier entry
unfoldable pub apart_from_earlier : Sheet → ℕ → Bool
apart_from_earlier S e = every (apart S e) e

-- the fields that an entry does not use are 0
abbrev pub spare : EntryRow → Bool
spare x = x.c == 0 && (x.d == 0 && x.e == 0)

-- 27, of entry e: a label from 0 to 31, an existing root, spare fields 0, a tree of its own
abbrev pub lawful_entry : Sheet → ℕ → Bool
lawful_entry S e =
    nat_lt (S.entry e).label 32
    && (nat_lt (S.entry e).root S.nodes
    && (spare (S.entry e) && apart_from_earlier S e))

-- node i is not in entry e's tree
abbrev pub outside : Sheet → ℕ → ℕ → Bool
outside S i e = nat_lt i (first_of S e) || nat_lt (S.entry e).root i

-- 27, of node i: some entry's tree has it
unfoldable pub covered : Sheet → ℕ → Bool
covered S i = not (every (outside S i) S.entries)
