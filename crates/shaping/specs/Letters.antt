-- Questions 21 and 22: the rows' letters, and how many there are of each.
use Rattle.std.specs.Prelude.{ℕ, ◌-◌, Bool, cond, ◌&&◌, List, ◌==◌, nat_le, nat_lt, slice_index_or}
use Rattle.sheet.specs.declared.row.Row.{Row}
use Rattle.sheet.specs.Sheet.{Sheet, no_row}

-- the place of a letter's rows: T, S, N, E, by their codes, and 4 for any other letter
abbrev pub rank : ℕ → ℕ
rank l = cond (l == 84) 0 (cond (l == 83) 1 (cond (l == 78) 2 (cond (l == 69) 3 4)))

-- 21: row k has one of the four letters, and none that goes before the letter of the row before it
abbrev pub in_order : List Row → ℕ → Bool
in_order rs k = nat_lt (rank (slice_index_or rs k no_row).letter) 4 && nat_le (rank (slice_index_or rs (k - 1) no_row).letter) (rank (slice_index_or rs k no_row).letter)

-- from 1 to the most
abbrev pub from_one : ℕ → ℕ → Bool
from_one most n = nat_le 1 n && nat_le n most

-- 22: 1 to 128 types, 1 to 32 sites, 1 to 512 nodes, 1 to 32 entries
abbrev pub within_limits : Sheet → Bool
within_limits S = from_one 128 S.types && (from_one 32 S.sites && (from_one 512 S.nodes && from_one 32 S.entries))
