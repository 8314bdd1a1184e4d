-- The meaning of a listed policy: that of the pair list or of the clearances in it.
use Rattle.std.specs.Prelude.{ℕ, Bool}
use Rattle.formula_station.specs.declared.listed.Listed.TheVariants.{Clearances, Pairs}
use Rattle.formula_station.specs.declared.listed.Listed.{Listed}
use Rattle.policy.specs.Clearances.{clearances_flows, clearances_size}
use Rattle.policy.specs.PairLists.{pair_list_flows, pair_list_size}

-- how many labels it has
abbrev pub listed_size : Listed → ℕ
listed_size (Pairs p) = pair_list_size p
listed_size (Clearances c) = clearances_size c

-- a flows to b
abbrev pub listed_flows : Listed → ℕ → ℕ → Bool
listed_flows (Pairs p) = pair_list_flows p
listed_flows (Clearances c) = clearances_flows c
