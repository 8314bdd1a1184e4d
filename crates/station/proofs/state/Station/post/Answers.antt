use Rattle.std.proofs.Common.{◌≡◌, Err, sym, ap, ◌∙◌, refl, rules}
use Rattle.station.specs.Calls.{post}
use Rattle.station.specs.Answered.{posted}
use Rattle.station.specs.Stations.{sheet_of}
use Rattle.station.proofs.Answered.{posts, refuses}
use Rattle.station.proofs.state.Station.post.Goals as goal

pub returns-in_err-ask_channel : goal.returns-in_err-ask_channel
returns-in_err-ask_channel g c =
    let q = c.in_err-ask_channel.field-0.0 in
    let told : c.from_residual.result ≡ Err q = search rules in
    let d =
    refuses g.K.Number.kind (sheet_of c.args.self.now) g.K.Number.value (post c.args.seat c.args.channel (g.K.Number.value c.args.number)) c.args.self.now.channels.now q
    (sym c.in_err-ask_channel.was ∙ c.ask_channel.ensures) in
    record { lender = refl; sheet = refl; answer = ap posted told ∙ d.0; area = d.1 }

pub returns : goal.returns
returns g c =
    let d =
    posts g.K.Number.kind (sheet_of c.args.self.now) g.K.Number.value c.args.seat c.args.channel c.args.number c.args.self.now.channels.now
    (sym c.in_ok-ask_channel.was ∙ c.ask_channel.ensures) in
    record { lender = refl; sheet = refl; answer = d.0; area = d.1 }
