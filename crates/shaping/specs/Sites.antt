-- Question 24: each site is lawful.
use Rattle.std.specs.Prelude.{ℕ, Bool, ◌&&◌, ◌||◌, ◌==◌, nat_lt}
use Rattle.sheet.specs.declared.decoded.SiteRow.{SiteRow}
use Rattle.sheet.specs.Sheet.{Sheet, is_number, is_fresh, is_channel}

-- the fields that a site does not use are 0
abbrev pub spare : SiteRow → Bool
spare x = x.d == 0 && x.e == 0

-- 24: site s has a label from 0 to 31, an existing content type, a flag 0 or 1, and a channel holds a number
abbrev pub lawful_site : Sheet → ℕ → Bool
lawful_site S s =
    nat_lt (S.site s).label 32
    && (nat_lt (S.site s).content S.types
    && ((is_fresh (S.site s).flag || (is_channel (S.site s).flag && is_number (S.type (S.site s).content).form))
    && spare (S.site s)))
