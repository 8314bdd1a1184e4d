-- The rules of types and control, as propositions about a sheet.
use Rattle.std.specs.Prelude.{◌≡◌, ℕ, zero, suc, ◌<◌, true}
use Rattle.sheet.specs.declared.decoded.Form.{Form}
use Rattle.sheet.specs.declared.decoded.Form.TheVariants as form
use Rattle.sheet.specs.declared.decoded.Kind.{Kind}
use Rattle.sheet.specs.declared.decoded.Kind.TheVariants.{Literal, Variable, Lambda, Application, New, Channel, Read, Write, Choice, Operation, Unknown}
use Rattle.sheet.specs.Sets.{has}
use Rattle.sheet.specs.Sheet.{Sheet, part}

-- every member of the set A is a member of the set B
abbrev pub Within : ℕ → ℕ → Type 0
Within A B = (k : ℕ) → has k A ≡ true → has k B ≡ true

-- types nest at most so deep
abbrev pub most_depth : ℕ
most_depth = 8

module _ (S : Sheet) where
  -- type X fits type Y, looked at n deep: the same form and X's labels within Y's; of references X's
  -- sites within Y's; of functions Y's argument fits X's, X's result fits Y's, Y's effect within X's
  unfoldable pub Fits : ℕ → ℕ → ℕ → Type 0
  Fits zero X Y = ⊥
  Fits (suc n) X Y =
      ((S.type X).form ≡ (S.type Y).form)
      × Within (S.type X).set (S.type Y).set
      × ((S.type Y).form ≡ form.Reference → Within (S.type X).sites (S.type Y).sites)
      × ((S.type Y).form ≡ form.Function →
      Fits n (S.type Y).argument (S.type X).argument × Fits n (S.type X).result (S.type Y).result × Within (S.type Y).effect (S.type X).effect)

  -- type X fits type Y
  unfoldable pub Fit : ℕ → ℕ → Type 0
  Fit X Y = Fits most_depth X Y

  -- X raised by M, which is X with the labels of M added to its set, fits Y
  abbrev pub Raised : ℕ → ℕ → ℕ → Type 0
  Raised X M Y = Fit X Y × Within M (S.type Y).set

  -- the type of node i, its form, its label set, and node i's control set
  abbrev pub type_at : ℕ → ℕ
  type_at i = (S.node i).ty

  abbrev pub form_at : ℕ → Form
  form_at i = (S.type (type_at i)).form

  abbrev pub set_at : ℕ → ℕ
  set_at i = (S.type (type_at i)).set

  abbrev pub control_at : ℕ → ℕ
  control_at i = (S.node i).control

  -- what type x of a function and a reference adds: argument, result, effect; sites
  abbrev pub argument_at : ℕ → ℕ
  argument_at i = (S.type (type_at i)).argument

  abbrev pub result_at : ℕ → ℕ
  result_at i = (S.type (type_at i)).result

  abbrev pub effect_at : ℕ → ℕ
  effect_at i = (S.type (type_at i)).effect

  abbrev pub sites_at : ℕ → ℕ
  sites_at i = (S.type (type_at i)).sites

  -- the type rule of node i, by its kind. Its parts are counted from the last, which is part 0
  abbrev pub Typed : Kind → ℕ → Type 0
  Typed Literal i = form_at i ≡ form.Number
  Typed Variable i = (form_at (S.node i).argument ≡ form.Function) × Fit (argument_at (S.node i).argument) (type_at i)
  Typed Lambda i = (form_at i ≡ form.Function) × Fit (type_at (part S i 0)) (result_at i)
  Typed Application i =
      (form_at (part S i 1) ≡ form.Function)
      × Fit (type_at (part S i 0)) (argument_at (part S i 1))
      × Within (set_at (part S i 1)) (effect_at (part S i 1))
      × Within (control_at i) (effect_at (part S i 1))
      × Raised (result_at (part S i 1)) (set_at (part S i 1)) (type_at i)
  Typed New i =
      (form_at i ≡ form.Reference)
      × (has (S.node i).argument (sites_at i) ≡ true)
      × Raised (type_at (part S i 0)) (control_at i) (S.site (S.node i).argument).content
  Typed Channel i = (form_at i ≡ form.Reference) × (has (S.node i).argument (sites_at i) ≡ true)
  Typed Read i =
      (form_at (part S i 0) ≡ form.Reference)
      × ((s : ℕ) → has s (sites_at (part S i 0)) ≡ true → Raised (S.site s).content (set_at (part S i 0)) (type_at i))
  Typed Write i =
      (form_at (part S i 1) ≡ form.Reference)
      × ((s : ℕ) → has s (sites_at (part S i 1)) ≡ true →
      Raised (type_at (part S i 0)) (set_at (part S i 1)) (S.site s).content × Within (control_at i) (S.type (S.site s).content).set)
      × Fit (type_at (part S i 0)) (type_at i)
  Typed Choice i =
      (form_at (part S i 2) ≡ form.Number)
      × Fit (type_at (part S i 1)) (type_at i)
      × Fit (type_at (part S i 0)) (type_at i)
      × Within (set_at (part S i 2)) (set_at i)
  Typed Operation i =
      (form_at (part S i 1) ≡ form.Number)
      × (form_at (part S i 0) ≡ form.Number)
      × (form_at i ≡ form.Number)
      × Within (set_at (part S i 1)) (set_at i)
      × Within (set_at (part S i 0)) (set_at i)
  Typed Unknown i = ⊥

  -- the control rule of node i, by its kind: each part's control set contains the node's own, but a
  -- function's body contains its effect, and a choice's last two parts also the condition's labels
  abbrev pub Controlled : Kind → ℕ → Type 0
  Controlled Literal i = Unit {0}
  Controlled Variable i = Unit {0}
  Controlled Lambda i = Within (effect_at i) (control_at (part S i 0))
  Controlled Application i = Within (control_at i) (control_at (part S i 1)) × Within (control_at i) (control_at (part S i 0))
  Controlled New i = Within (control_at i) (control_at (part S i 0))
  Controlled Channel i = Unit {0}
  Controlled Read i = Within (control_at i) (control_at (part S i 0))
  Controlled Write i = Within (control_at i) (control_at (part S i 1)) × Within (control_at i) (control_at (part S i 0))
  Controlled Choice i =
      Within (control_at i) (control_at (part S i 2))
      × (Within (control_at i) (control_at (part S i 1)) × Within (set_at (part S i 2)) (control_at (part S i 1)))
      × (Within (control_at i) (control_at (part S i 0)) × Within (set_at (part S i 2)) (control_at (part S i 0)))
  Controlled Operation i = Within (control_at i) (control_at (part S i 1)) × Within (control_at i) (control_at (part S i 0))
  Controlled Unknown i = ⊥

  -- every node keeps both rules
  abbrev pub KeepsRules : Type 0
  KeepsRules = (i : ℕ) → i < S.nodes → Typed (S.node i).kind i × Controlled (S.node i).kind i
