use Rattle.station.proofs.Line.{contract_line}
use Rattle.station.proofs.promise.seats_are_unswayed.Goals as goal

pub returns : goal.returns
returns g c = contract_line g.K.Number.kind
