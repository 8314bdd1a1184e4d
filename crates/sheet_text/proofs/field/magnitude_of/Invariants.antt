use Rattle.std.proofs.Common.{◌≡◌, ◌^◌, ◌<◌, drop}
use Rattle.sheet_text.specs.Fields.{digits_after}
use Rattle.sheet_text.proofs.field.magnitude_of.Given as goal

-- the digits read so far are worth n, which has at most as many digits
abbrev pub invariant-loop-digit : goal.invariant-loop-digit
invariant-loop-digit l = (digits_after 0 l.digits ≡ digits_after l.n (drop l.digit-index l.digits)) × (l.n < 10 ^ l.digit-index)
