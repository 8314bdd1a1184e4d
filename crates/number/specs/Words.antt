-- What words are read as numbers of the two kinds.
use Rattle.std.specs.Prelude.{ℕ, List, Result}
use Rattle.std.specs.Result.{result_map_both}
use Rattle.std.specs.Int.{w32}
use Rattle.std.specs.Float.{binary64}
use Rattle.std.specs.Str.Parse.{ParsesSigned}
use Rattle.std.specs.Float.Parse.{ParsesFloat, IsParseFloatResult}
use Rattle.number.specs.declared.millimetres.Millimetres.{Millimetres}
use Rattle.number.specs.declared.metres.Metres.{Metres}

-- a word is read as the count that its sign and decimal digits say, and is an error where they say none of 32 bits
abbrev pub ParsesMillimetres : {E : Type 0} → List ℕ → Result Millimetres E → Type 0
ParsesMillimetres word r =
    ParsesSigned w32 10 word (result_map_both (λ m. m.count) (λ e. e) r)

-- a word is read as the binary64 value nearest to the number that it says, and is an error where it says none
abbrev pub ParsesMetres : {E : Type 0} → List ℕ → Result Metres E → Type 0
ParsesMetres word r =
    ParsesFloat binary64 64 word (result_map_both (λ m. m.length) (λ e. e) r)
    × IsParseFloatResult binary64 word (result_map_both (λ m. m.length) (λ e. e) r)
