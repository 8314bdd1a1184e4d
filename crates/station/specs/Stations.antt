-- What a station holds: its sheet, and its channel area, each number by its value.
use Rattle.std.specs.Prelude.{List, map}
use Rattle.sheet.specs.Sheet.{Sheet, view}
use Rattle.station.specs.declared.state.Station.{Station}

module _ {K : Type 0} where
  -- the sheet
  abbrev pub sheet_of : Station K → Sheet
  sheet_of station = view station.sheet.shaped.table.rows.now

  -- the values that stand in the area
  abbrev pub area_of : {V : Type 0} → (K → V) → Station K → List V
  area_of value station = map value station.channels.now
