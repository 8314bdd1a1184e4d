-- The tests of questions 34 and 35 say what the type rule and the control rule are.
use Rattle.std.proofs.Common.{◌≡◌, ℕ, ◌<◌, Bool, true, false, not, ◌||◌, refl, ap, arith}
use lib.Bits.{bit_or}
use Rattle.std.proofs.lemmas.Bool.{and_parts, and_from}
use Rattle.sheet.specs.declared.decoded.Kind.{Kind}
use Rattle.sheet.specs.declared.decoded.Kind.TheVariants.{Literal, Variable, Lambda, Application, New, Channel, Read, Write, Choice, Operation, Unknown}
use Rattle.sheet.specs.declared.decoded.Form.TheVariants as form
use Rattle.sheet.specs.Asked.{every}
use Rattle.sheet.specs.Sets.{has}
use Rattle.sheet.specs.Sheet.{Sheet, is_fresh, is_channel, part}
use Rattle.sheet.proofs.Asking.{every_means, every_from}
use Rattle.typing.specs.Fitting.{raised_fit}
use Rattle.typing.specs.Tests.{typed_by, controlled_by, reads_site, writes_site, under_two, node_type}
use Rattle.typing.specs.Rules.{Within, Raised, Typed, Controlled, form_at, set_at, sites_at, type_at, control_at}
use Rattle.typing.specs.Meaning.{Iff, NamesSites, RulesExactly}
use Rattle.typing.proofs.Sets.{within_is, union_within}
use Rattle.typing.proofs.Exactly.{never, number_is, function_is, reference_is, fit_is, raised_fit_is}

-- a test that is asked of the members alone
asked_if : (b c : Bool) → (not b || c) ≡ true → b ≡ true → c ≡ true
asked_if true c h t = h
asked_if false c h t = never t

answered_if : (b c : Bool) → (b ≡ true → c ≡ true) → (not b || c) ≡ true
answered_if true c h = h refl
answered_if false c h = refl

-- asked of each below n, where every member is below n, it holds of every member
every_member : (n : ℕ) (b c : ℕ → Bool) (Q : ℕ → Type 0) → ((s : ℕ) → b s ≡ true → s < n) → ((s : ℕ) → Iff (c s ≡ true) (Q s))
    → Iff (every (λ s. not (b s) || c s) n ≡ true) ((s : ℕ) → b s ≡ true → Q s)
every_member n b c Q below is = (
  (λ h s t. (is s).0 (asked_if (b s) (c s) (every_means (λ s. not (b s) || c s) n h s (below s t)) t)),
  (λ h. every_from (λ s. not (b s) || c s) n (λ s l. answered_if (b s) (c s) (λ t. (is s).1 (h s t)))),
)

module _ (S : Sheet) where
  -- a part stands before its node
  part_below : (i : ℕ) → i < S.nodes → (part S i 0 < S.nodes) × (part S i 1 < S.nodes) × (part S i 2 < S.nodes)
  part_below i l = (omega arith, omega arith, omega arith)

  -- a value raised by two sets
  raised_twice : (X L C Y : ℕ) → Iff (raised_fit S X (bit_or L C) Y ≡ true) (Raised S X L Y × Within C (S.type Y).set)
  raised_twice X L C Y = (
    (λ h. let r = (raised_fit_is S X (bit_or L C) Y).0 h in let w = (union_within L C (S.type Y).set).0 r.1 in ((r.0, w.0), w.1)),
    (λ h. (raised_fit_is S X (bit_or L C) Y).1 (h.0.0, (union_within L C (S.type Y).set).1 (h.0.1, h.1))),
  )

  module _ (ok : NamesSites S) (i : ℕ) (l : i < S.nodes) where
    -- reading through the last part, and writing through the part before it
    reading : form_at S (part S i 0) ≡ form.Reference
        → Iff (every (reads_site S (node_type S (part S i 0)) (type_at S i)) S.sites ≡ true)
        ((s : ℕ) → has s (sites_at S (part S i 0)) ≡ true → Raised S (S.site s).content (set_at S (part S i 0)) (type_at S i))
    reading f =
        every_member S.sites (λ s. has s (sites_at S (part S i 0))) (λ s. raised_fit S (S.site s).content (set_at S (part S i 0)) (type_at S i)) _
        (λ s t. ok.references (part S i 0) s (part_below i l).0 f t)
        (λ s. raised_fit_is S _ _ _)

    writing : form_at S (part S i 1) ≡ form.Reference
        → Iff (every (writes_site S (sites_at S (part S i 1)) (bit_or (set_at S (part S i 1)) (control_at S i)) (type_at S (part S i 0))) S.sites ≡ true)
        ((s : ℕ) → has s (sites_at S (part S i 1)) ≡ true →
        Raised S (type_at S (part S i 0)) (set_at S (part S i 1)) (S.site s).content × Within (control_at S i) (S.type (S.site s).content).set)
    writing f =
        every_member S.sites (λ s. has s (sites_at S (part S i 1)))
        (λ s. raised_fit S (type_at S (part S i 0)) (bit_or (set_at S (part S i 1)) (control_at S i)) (S.site s).content) _
        (λ s t. ok.references (part S i 1) s (part_below i l).1 f t)
        (λ s. raised_twice _ _ _ _)

    -- a node that passes keeps its type rule
    typed_means : (k : Kind) → typed_by S i (S.node i) k ≡ true → Typed S k i
    typed_means Literal h = (number_is _).0 h
    typed_means Variable h = let a = and_parts _ _ h in ((function_is _).0 a.0, (fit_is S _ _).0 a.1)
    typed_means Lambda h = let a = and_parts _ _ h in ((function_is _).0 a.0, (fit_is S _ _).0 a.1)
    typed_means Application h =
        let a = and_parts _ _ h in
        let b = and_parts _ _ a.1 in
        let c = and_parts _ _ b.1 in
        let d = and_parts _ _ c.1 in
        ((function_is _).0 a.0, (fit_is S _ _).0 b.0, (within_is _ _).0 c.0, (within_is _ _).0 d.0, (raised_fit_is S _ _ _).0 d.1)
    typed_means New h =
        let a = and_parts _ _ h in
        let b = and_parts _ _ a.0 in
        let c = and_parts _ _ a.1 in
        ((reference_is _).0 b.0, c.0, (raised_fit_is S _ _ _).0 c.1)
    typed_means Channel h =
        let a = and_parts _ _ h in
        let b = and_parts _ _ a.0 in
        ((reference_is _).0 b.0, a.1)
    typed_means Read h = let a = and_parts _ _ h in let f = (reference_is _).0 a.0 in (f, (reading f).0 a.1)
    typed_means Write h =
        let a = and_parts _ _ h in
        let b = and_parts _ _ a.1 in
        let f = (reference_is _).0 a.0 in
        (f, (writing f).0 b.0, (fit_is S _ _).0 b.1)
    typed_means Choice h =
        let a = and_parts _ _ h in
        let b = and_parts _ _ a.1 in
        let c = and_parts _ _ b.1 in
        ((number_is _).0 a.0, (fit_is S _ _).0 b.0, (fit_is S _ _).0 c.0, (within_is _ _).0 c.1)
    typed_means Operation h =
        let a = and_parts _ _ h in
        let b = and_parts _ _ a.1 in
        let c = and_parts _ _ b.1 in
        let d = and_parts _ _ c.1 in
        ((number_is _).0 a.0, (number_is _).0 b.0, (number_is _).0 c.0, (within_is _ _).0 d.0, (within_is _ _).0 d.1)
    typed_means Unknown h = never h

    -- a node that keeps its type rule passes
    typed_passes : (k : Kind) → (S.node i).kind ≡ k → Typed S k i → typed_by S i (S.node i) k ≡ true
    typed_passes Literal e r = (number_is _).1 r
    typed_passes Variable e r = and_from _ _ ((function_is _).1 r.0) ((fit_is S _ _).1 r.1)
    typed_passes Lambda e r = and_from _ _ ((function_is _).1 r.0) ((fit_is S _ _).1 r.1)
    typed_passes Application e r =
        and_from _ _ ((function_is _).1 r.0)
        (and_from _ _ ((fit_is S _ _).1 r.1)
        (and_from _ _ ((within_is _ _).1 r.2) (and_from _ _ ((within_is _ _).1 r.3) ((raised_fit_is S _ _ _).1 r.4))))
    typed_passes New e r =
        and_from _ _ (and_from _ _ ((reference_is _).1 r.0) (ap is_fresh (ok.fresh i l e))) (and_from _ _ r.1 ((raised_fit_is S _ _ _).1 r.2))
    typed_passes Channel e r = and_from _ _ (and_from _ _ ((reference_is _).1 r.0) (ap is_channel (ok.channel i l e))) r.1
    typed_passes Read e r = and_from _ _ ((reference_is _).1 r.0) ((reading r.0).1 r.1)
    typed_passes Write e r =
        and_from _ _ ((reference_is _).1 r.0) (and_from _ _ ((writing r.0).1 r.1) ((fit_is S _ _).1 r.2))
    typed_passes Choice e r =
        and_from _ _ ((number_is _).1 r.0)
        (and_from _ _ ((fit_is S _ _).1 r.1) (and_from _ _ ((fit_is S _ _).1 r.2) ((within_is _ _).1 r.3)))
    typed_passes Operation e r =
        and_from _ _ ((number_is _).1 r.0)
        (and_from _ _ ((number_is _).1 r.1)
        (and_from _ _ ((number_is _).1 r.2) (and_from _ _ ((within_is _ _).1 r.3) ((within_is _ _).1 r.4))))
    typed_passes Unknown e r = absurd r

    -- a set within the control sets of the last two parts
    two_is : (c : ℕ) → Iff (under_two S c i ≡ true) (Within c (control_at S (part S i 1)) × Within c (control_at S (part S i 0)))
    two_is c = (
      (λ h. let a = and_parts _ _ h in ((within_is _ _).0 a.0, (within_is _ _).0 a.1)),
      (λ r. and_from _ _ ((within_is _ _).1 r.0) ((within_is _ _).1 r.1)),
    )

    -- a node passes exactly when it keeps its control rule
    controlled_is : (k : Kind) → Iff (controlled_by S i (S.node i) k ≡ true) (Controlled S k i)
    controlled_is Literal = ((λ h. tt), (λ r. refl))
    controlled_is Variable = ((λ h. tt), (λ r. refl))
    controlled_is Lambda = within_is _ _
    controlled_is Application = two_is (control_at S i)
    controlled_is New = within_is _ _
    controlled_is Channel = ((λ h. tt), (λ r. refl))
    controlled_is Read = within_is _ _
    controlled_is Write = two_is (control_at S i)
    controlled_is Choice = (
      (λ h.
          let a = and_parts _ _ h in
          let b = and_parts _ _ a.1 in
          let own = (two_is (control_at S i)).0 b.0 in
          let condition = (two_is (set_at S (part S i 2))).0 b.1 in
          ((within_is _ _).0 a.0, (own.0, condition.0), (own.1, condition.1))),
      (λ r.
          and_from _ _ ((within_is _ _).1 r.0)
          (and_from _ _ ((two_is (control_at S i)).1 (r.1.0, r.2.0)) ((two_is (set_at S (part S i 2))).1 (r.1.1, r.2.1)))),
    )
    controlled_is Operation = two_is (control_at S i)
    controlled_is Unknown = ((λ h. never h), (λ r. absurd r))

pub rules_exactly_lem : RulesExactly
rules_exactly_lem S ok i l =
    let k = (S.node i).kind in
    ((typed_means S ok i l k, typed_passes S ok i l k refl), controlled_is S ok i l k)
