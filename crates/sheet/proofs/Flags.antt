-- A flag that passes its test.
use Rattle.std.proofs.Common.{◌≡◌, true, sym, refl}
use Rattle.std.proofs.lemmas.Bool.{true≢false}
use Rattle.sheet.specs.declared.decoded.Flag.{Flag}
use Rattle.sheet.specs.declared.decoded.Flag.TheVariants as flag
use Rattle.sheet.specs.Sheet.{is_fresh, is_channel}

-- a fresh site's flag
pub fresh_flag : (f : Flag) → is_fresh f ≡ true → f ≡ flag.Fresh
fresh_flag flag.Fresh h = refl
fresh_flag flag.Channel h = absurd (true≢false (sym h))
fresh_flag (flag.Unknown n) h = absurd (true≢false (sym h))

-- a channel's flag
pub channel_flag : (f : Flag) → is_channel f ≡ true → f ≡ flag.Channel
channel_flag flag.Fresh h = absurd (true≢false (sym h))
channel_flag flag.Channel h = refl
channel_flag (flag.Unknown n) h = absurd (true≢false (sym h))
