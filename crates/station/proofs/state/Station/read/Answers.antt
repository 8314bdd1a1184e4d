use Rattle.std.proofs.Common.{◌≡◌, Err, sym, ap, ◌∙◌, rules}
use Rattle.station.specs.Calls.{read}
use Rattle.station.specs.Answered.{read_out}
use Rattle.station.specs.Stations.{sheet_of}
use Rattle.station.proofs.Answered.{reads, refuses}
use Rattle.station.proofs.state.Station.read.Goals as goal

pub returns-in_err-ask_channel : goal.returns-in_err-ask_channel
returns-in_err-ask_channel g c =
    let q = c.in_err-ask_channel.field-0.0 in
    let told : c.from_residual.result ≡ Err q = search rules in
    let d =
    refuses g.K.Number.kind (sheet_of c.args.self.now) g.K.Number.value (read c.args.seat c.args.channel) c.args.self.now.channels.now q
    (sym c.in_err-ask_channel.was ∙ c.ask_channel.ensures) in
    record { answer = ap (read_out g.K.Number.value) told ∙ d.0; area = sym d.1 }

pub returns : goal.returns
returns g c =
    let d =
    reads g.K.Number.kind (sheet_of c.args.self.now) g.K.Number.value c.args.seat c.args.channel c.index-channels-channel.result c.args.self.now.channels.now
    c.index-channels-channel.is (sym c.in_ok-ask_channel.was ∙ c.ask_channel.ensures) in
    record { answer = d.0; area = sym d.1 }
