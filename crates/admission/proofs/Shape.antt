-- What shaping says, as facts, and that each type of a shaped sheet fits itself.
use Rattle.std.proofs.Common.{◌≡◌, ℕ, zero, suc, ◌-◌, ◌<◌, true, ◌&&◌, ◌||◌, ltb, List, sym, refl, ap, ◌∙◌, subst, ⊎_elim, arith}
use Rattle.std.proofs.lemmas.Bool.{true≢false, and_parts, or_cases, ltb-true}
use Rattle.sheet.specs.declared.row.Row.{Row}
use Rattle.sheet.specs.declared.decoded.Form.{Form}
use Rattle.sheet.specs.declared.decoded.Form.TheVariants as form
use Rattle.sheet.specs.declared.decoded.Flag.TheVariants as flag
use Rattle.sheet.specs.declared.decoded.Kind.{Kind}
use Rattle.sheet.specs.declared.decoded.Kind.TheVariants as kind
use Rattle.sheet.specs.Sets.{set_below}
use Rattle.sheet.specs.Sheet.{Sheet, is_number, is_fresh, is_channel, view, parts_of}
use Rattle.sheet.proofs.Flags.{fresh_flag, channel_flag}
use Rattle.shaping.specs.Types.{lawful_fields, nests, parts_nest}
use Rattle.shaping.specs.Sites.{spare}
use Rattle.shaping.specs.Nodes.{lawful_argument, bound_by, is_lambda, parts_begin, sized}
use Rattle.shaping.specs.Meaning.{IsShaped, Lawful}
use Rattle.shaping.proofs.Exactly.{lawful}
use Rattle.shaping.proofs.Forest.{spans_nest_lem, trees_cover_lem}
use Rattle.typing.specs.Rules.{Fits, Fit}
use Rattle.typing.proofs.Exactly.{fit_trans}
use Rattle.admission.specs.Meaning.{WellShaped, FitsPreorder}
use Rattle.admission.proofs.Members.{member_below}

-- a number's form
number_form : (f : Form) → is_number f ≡ true → f ≡ form.Number
number_form form.Number h = refl
number_form form.Function h = absurd (true≢false (sym h))
number_form form.Reference h = absurd (true≢false (sym h))
number_form form.Unknown h = absurd (true≢false (sym h))

-- a lambda's kind
lambda_kind : (k : Kind) → is_lambda k ≡ true → k ≡ kind.Lambda
lambda_kind kind.Literal h = absurd (true≢false (sym h))
lambda_kind kind.Variable h = absurd (true≢false (sym h))
lambda_kind kind.Lambda h = refl
lambda_kind kind.Application h = absurd (true≢false (sym h))
lambda_kind kind.New h = absurd (true≢false (sym h))
lambda_kind kind.Channel h = absurd (true≢false (sym h))
lambda_kind kind.Read h = absurd (true≢false (sym h))
lambda_kind kind.Write h = absurd (true≢false (sym h))
lambda_kind kind.Choice h = absurd (true≢false (sym h))
lambda_kind kind.Operation h = absurd (true≢false (sym h))
lambda_kind kind.Unknown h = absurd (true≢false (sym h))

module _ (rs : List Row) (ok : IsShaped rs) where
  abbrev S : Sheet
  S = view rs

  law : Lawful rs
  law = lawful rs ok

  -- the parts of questions 23, 24 and 25
  type_parts : (t : ℕ) → t < S.types
      → (set_below 32 (S.type t).set ≡ true) × (lawful_fields S.sites (S.type t) (S.type t).form ≡ true) × (nests S 8 t ≡ true)
  type_parts t l = let a = and_parts _ _ (law.types t l) in let b = and_parts _ _ a.1 in (a.0, b.0, b.1)

  node_parts : (i : ℕ) → i < S.nodes
      → (ltb (S.node i).ty S.types ≡ true)
      × (set_below 32 (S.node i).control ≡ true)
      × (lawful_argument S (S.node i) (S.node i).kind ≡ true)
      × (sized i (S.node i).size (parts_begin S (parts_of (S.node i).kind) i) ≡ true)
  node_parts i l =
      let a = and_parts _ _ (law.nodes i l) in
      let b = and_parts _ _ a.1 in
      let c = and_parts _ _ b.1 in
      (a.0, b.0, c.0, c.1)

  site_parts : (s : ℕ) → s < S.sites
      → (ltb (S.site s).label 32 ≡ true)
      × (ltb (S.site s).content S.types ≡ true)
      × ((is_fresh (S.site s).flag || (is_channel (S.site s).flag && is_number (S.type (S.site s).content).form)) ≡ true)
      × (spare (S.site s) ≡ true)
  site_parts s l =
      let a = and_parts _ _ (law.sites s l) in
      let b = and_parts _ _ a.1 in
      let c = and_parts _ _ b.1 in
      (a.0, b.0, c.0, c.1)

  pub type_set : (t : ℕ) → t < S.types → set_below 32 (S.type t).set ≡ true
  type_set t l = (type_parts t l).0

  type_fields : (t : ℕ) (f : Form) → t < S.types → (S.type t).form ≡ f → lawful_fields S.sites (S.type t) f ≡ true
  type_fields t f l e = subst (λ (x : Form). lawful_fields S.sites (S.type t) x ≡ true) e (type_parts t l).1

  pub node_has_type : (i : ℕ) → i < S.nodes → (S.node i).ty < S.types
  node_has_type i l = ltb-true _ _ (node_parts i l).0

  node_argument : (i : ℕ) (k : Kind) → i < S.nodes → (S.node i).kind ≡ k → lawful_argument S (S.node i) k ≡ true
  node_argument i k l e = subst (λ (x : Kind). lawful_argument S (S.node i) x ≡ true) e (node_parts i l).2

  node_bound : (i : ℕ) (k : Kind) → i < S.nodes → (S.node i).kind ≡ k → bound_by S i (S.node i) k ≡ true
  node_bound i k l e = subst (λ (x : Kind). bound_by S i (S.node i) x ≡ true) e (law.variables i l)

  pub site_content : (s : ℕ) → s < S.sites → (S.site s).content < S.types
  site_content s l = ltb-true _ _ (site_parts s l).1

  -- a channel's content is a number
  channel_content : (s : ℕ) → s < S.sites → (S.site s).flag ≡ flag.Channel → (S.type (S.site s).content).form ≡ form.Number
  channel_content s l e =
      ⊎_elim
      (λ (z : is_fresh (S.site s).flag ≡ true). absurd (true≢false (sym z ∙ ap is_fresh e)))
      (λ (o : (is_channel (S.site s).flag && is_number (S.type (S.site s).content).form) ≡ true). number_form _ (and_parts _ _ o).1)
      (or_cases _ _ (site_parts s l).2)

  pub well_shaped : WellShaped S
  well_shaped = record {
    nesting = spans_nest_lem rs ok;
    forest = trees_cover_lem rs ok;
    typed = node_has_type;
    variable = λ i l e.
        let a = ltb-true _ _ (node_argument i kind.Variable l e) in
        let b = and_parts _ _ (node_bound i kind.Variable l e) in
        let c = and_parts _ _ b.1 in
        let p = ltb-true i (S.node i).argument c.0 in
        let q = ltb-true ((S.node i).argument - i) (S.node (S.node i).argument).size c.1 in
        (a, lambda_kind _ b.0, p, (omega arith, omega arith));
    references = λ t s l e h. member_below S.sites (S.type t).sites s (and_parts _ _ (type_fields t form.Reference l e)).0 h;
    fresh = λ i l e. let a = and_parts _ _ (node_argument i kind.New l e) in (ltb-true _ _ a.0, fresh_flag _ a.1);
    channel = λ i l e. let a = and_parts _ _ (node_argument i kind.Channel l e) in (ltb-true _ _ a.0, channel_flag _ a.1);
    contents = site_content;
    numeric = channel_content;
  }

  -- a function's argument and result are one level less deep
  function_parts : (n t : ℕ) → parts_nest (nests S n) t (S.type t) form.Function ≡ true
      → (nests S n (S.type t).argument ≡ true) × (nests S n (S.type t).result ≡ true)
  function_parts n t h =
      let a = and_parts (ltb (S.type t).argument t) _ h in
      let b = and_parts (ltb (S.type t).result t) _ a.1 in
      and_parts _ _ b.1

  -- a type fits itself as deep as it is nested
  fits_refl : (n t : ℕ) → nests S n t ≡ true → Fits S n t t
  unfolding nests Fits
  fits_refl zero t h = absurd (true≢false (sym h))
  fits_refl (suc n) t h = (
    refl,
    (λ k m. m),
    (λ e k m. m),
    (λ e.
        let q = function_parts n t (subst (λ (x : Form). parts_nest (nests S n) t (S.type t) x ≡ true) e h) in
        (fits_refl n _ q.0, fits_refl n _ q.1, (λ k m. m))),
  )

  pub fit_refl : (t : ℕ) → t < S.types → Fit S t t
  unfolding Fit
  fit_refl t l = fits_refl 8 t (type_parts t l).2

pub preorder : FitsPreorder
preorder rs ok = (fit_refl rs ok, fit_trans (view rs))
