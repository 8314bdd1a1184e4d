use Rattle.std.proofs.Common.{◌≡◌, Err, length, sym, ap, ◌∙◌, rules, refl}
use Rattle.station.specs.Answered.{ran, run_over}
use Rattle.station.specs.Stations.{sheet_of}
use Rattle.station.proofs.Answered.{runs, refuses}
use Rattle.station.proofs.Granted.{granted_areas}
use Rattle.station.proofs.Sites.{tells, leaves}
use Rattle.station.proofs.state.Station.run.Goals as goal

pub returns-in_err-ask_run : goal.returns-in_err-ask_run
returns-in_err-ask_run g c =
    let q = c.in_err-ask_run.field-0.0 in
    let told : c.from_residual.result ≡ Err q = search rules in
    let d =
    refuses g.K.Number.kind (sheet_of c.args.self.now) g.K.Number.value (run_over c.args.seat c.args.entry c.args.fuel c.args.areas.now) c.args.self.now.channels.now q
    (sym c.in_err-ask_run.was ∙ c.ask_run.ensures) in
    record { lender = refl; sheet = refl; answer = ap (ran g.K.Number.value) told ∙ d.0; area = d.1; areas_left = search rules; loans = search rules }

pub evaluate-requires-clause-areas : goal.evaluate-requires-clause-areas
evaluate-requires-clause-areas g c =
    let station = c.args.self.now in
    granted_areas station.sheet.shaped.table.rows.now (length station.channels.now) c.args.seat c.args.entry c.args.fuel c.args.areas.now station.sheet.shaped.shaped
    (sym c.in_ok-ask_run.was ∙ c.ask_run.ensures)

pub returns : goal.returns
returns g c =
    let M = g.K.Number.kind in
    let n = g.K.Number.value in
    let station = c.args.self.now in
    let S = sheet_of station in
    let ks = station.channels.now in
    let sites = station.sheet.shaped.table.sites in
    let same = station.sheet.shaped.table.s in
    let areas = c.args.areas.now in
    let d =
    runs M S n c.args.seat c.args.entry c.args.fuel (length areas.pending.now) (length areas.bound.now) (length areas.held.now) ks _ _
    (sym c.in_ok-ask_run.was ∙ c.ask_run.ensures)
    (tells M S n ks c.args.entry c.args.fuel sites same _ c.evaluate.ensures.answer)
    (leaves M S n ks c.args.entry c.args.fuel sites same c.evaluate.new.numbers c.evaluate.ensures.left) in
    record { lender = refl; sheet = refl; answer = d.0; area = d.1; areas_left = tt; loans = c.evaluate.ensures.loans }
