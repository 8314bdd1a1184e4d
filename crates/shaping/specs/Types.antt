-- Question 23: each type is lawful.
use Rattle.std.specs.Prelude.{ℕ, zero, suc, Bool, true, false, ◌&&◌, ◌==◌, nat_lt}
use Rattle.sheet.specs.declared.decoded.TypeRow.{TypeRow}
use Rattle.sheet.specs.declared.decoded.Form.{Form}
use Rattle.sheet.specs.declared.decoded.Form.TheVariants.{Number, Function, Reference, Unknown}
use Rattle.sheet.specs.Sheet.{Sheet}
use Rattle.sheet.specs.Sets.{set_below}

-- of type t, whose row is x: a function's argument and result have lower numbers, and are as deep as asked
abbrev pub parts_nest : (ℕ → Bool) → ℕ → TypeRow → Form → Bool
parts_nest deep t x Number = true
parts_nest deep t x Function = nat_lt x.argument t && (nat_lt x.result t && (deep x.argument && deep x.result))
parts_nest deep t x Reference = true
parts_nest deep t x Unknown = true

-- type t is nested at most n deep: a number or a reference is one deep, a function one deeper than the deeper of its argument and result
unfoldable pub nests : Sheet → ℕ → ℕ → Bool
nests S zero t = false
nests S (suc n) t = parts_nest (nests S n) t (S.type t) (S.type t).form

-- the fields that a form uses are lawful sets, and those that it does not use are 0; a reference names sites that exist
abbrev pub lawful_fields : ℕ → TypeRow → Form → Bool
lawful_fields sites x Number = x.argument == 0 && (x.result == 0 && x.effect == 0)
lawful_fields sites x Function = set_below 32 x.effect
lawful_fields sites x Reference = set_below sites x.sites && (x.result == 0 && x.effect == 0)
lawful_fields sites x Unknown = false

-- 23: type t has a label set of 32 labels, lawful fields for a known form, and at most eight levels
abbrev pub lawful_type : Sheet → ℕ → Bool
lawful_type S t = set_below 32 (S.type t).set && (lawful_fields S.sites (S.type t) (S.type t).form && nests S 8 t)
