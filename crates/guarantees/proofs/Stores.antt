-- What a run does to the store: no cell goes or changes its site, and one that changes may hold what the control set has.
use Rattle.std.proofs.Common.{◌≡◌, ℕ, ◌<◌, ◌⊎◌, List, [], ◌∷◌, ◌++◌, length, set, Some, sym, refl, ap, ◌∙◌, subst, inl, inr, arith}
use Rattle.std.specs.List.{slice_get}
use Rattle.std.proofs.lemmas.Bool.{cases_eq}
use Rattle.sheet.specs.Sheet.{Sheet}
use Rattle.evaluation.specs.Values.{Cell}
use Rattle.typing.specs.Rules.{Within}
use Rattle.guarantees.specs.Sheets.{content_set}
use Rattle.guarantees.proofs.Addresses.{some_inj, nth_set_same, nth_set_other, nth_old, nth_either, nth_below}
use Rattle.guarantees.proofs.Fitting.{within_trans}
use Rattle.guarantees.proofs.Typed.{AtSite, HasType, StoreTyped}
use Rattle.guarantees.proofs.Values.{KeepsSites, typed_keeps}

module _ {V : Type 0} (S : Sheet) where
  -- a cell c₁ is c as it was, or may hold what the control set m has
  abbrev pub Unchanged : ℕ → Cell V → Cell V → Type 0
  Unchanged m c c₁ = (c₁ ≡ c) ⊎ Within m (content_set S c.site)

  -- what became of cell c at address a
  pub record After (m : ℕ) (cs : List (Cell V)) (a : ℕ) (c : Cell V) : Type 0 where
    pub now : Cell V
    pub at : slice_get cs a ≡ Some now
    pub sited : now.site ≡ c.site
    pub unchanged : Unchanged m c now

  -- one store extends another, under control set m
  unfoldable pub Extends : ℕ → List (Cell V) → List (Cell V) → Type 0
  Extends m cs cs' = (a : ℕ) (c : Cell V) → slice_get cs a ≡ Some c → After m cs' a c

  -- what became of a cell in an extension
  pub extends_at : (m : ℕ) (cs cs' : List (Cell V)) → Extends m cs cs' → (a : ℕ) (c : Cell V) → slice_get cs a ≡ Some c → After m cs' a c
  unfolding Extends
  extends_at m cs cs' g a c e = g a c e

  -- a store extends itself
  pub extends_refl : (m : ℕ) (cs : List (Cell V)) → Extends m cs cs
  unfolding Extends
  extends_refl m cs a c e = record { now = c; at = e; sited = refl; unchanged = inl refl }

  -- what two steps leave of a cell
  then_unchanged : (m : ℕ) (c c₁ c₂ : Cell V) → c₁.site ≡ c.site → Unchanged m c c₁ → Unchanged m c₁ c₂ → Unchanged m c c₂
  then_unchanged m c c₁ c₂ e (inl p) (inl q) = inl (q ∙ p)
  then_unchanged m c c₁ c₂ e (inl p) (inr u) = inr (subst (λ (x : ℕ). Within m (content_set S x)) e u)
  then_unchanged m c c₁ c₂ e (inr u) q = inr u

  -- one extension after another
  pub extends_trans : (m : ℕ) (cs cs₁ cs₂ : List (Cell V)) → Extends m cs cs₁ → Extends m cs₁ cs₂ → Extends m cs cs₂
  unfolding Extends
  extends_trans m cs cs₁ cs₂ g h a c e =
      let l : After m cs₁ a c = g a c e in
      let k : After m cs₂ a l.now = h a l.now l.at in
      record {
        now = k.now;
        at = k.at;
        sited = k.sited ∙ l.sited;
        unchanged = then_unchanged m c l.now k.now l.sited l.unchanged k.unchanged;
      }

  -- what holds under a control set holds under one within it
  weaker : (m m' : ℕ) (c c₁ : Cell V) → Within m m' → Unchanged m' c c₁ → Unchanged m c c₁
  weaker m m' c c₁ u (inl p) = inl p
  weaker m m' c c₁ u (inr w) = inr (within_trans m m' (content_set S c.site) u w)

  -- and so does an extension
  pub extends_within : (m m' : ℕ) (cs cs' : List (Cell V)) → Within m m' → Extends m' cs cs' → Extends m cs cs'
  unfolding Extends
  extends_within m m' cs cs' u g a c e =
      let l : After m' cs' a c = g a c e in
      record { now = l.now; at = l.at; sited = l.sited; unchanged = weaker m m' c l.now u l.unchanged }

  -- addresses keep their sites
  pub extends_keeps : (m : ℕ) (cs cs' : List (Cell V)) → Extends m cs cs' → KeepsSites cs cs'
  unfolding Extends
  extends_keeps m cs cs' g a s (c, e, q) = let l : After m cs' a c = g a c e in (l.now, l.at, l.sited ∙ q)

  -- a fresh cell
  pub extends_append : (m : ℕ) (cs : List (Cell V)) (d : Cell V) → Extends m cs (cs ++ d ∷ [])
  unfolding Extends
  extends_append m cs d a c e = record { now = c; at = nth_old cs a c d e; sited = refl; unchanged = inl refl }

  -- a write that the control set allows
  pub extends_write : (m : ℕ) (cs : List (Cell V)) (b : ℕ) (c d : Cell V) → slice_get cs b ≡ Some c → d.site ≡ c.site →
      Within m (content_set S c.site) → Extends m cs (set cs b d)
  unfolding Extends
  extends_write m cs b c d q r u a x e =
      elim (cases_eq b a) [
        | inl p ↦
            let w : c ≡ x = some_inj (sym q ∙ subst (λ (z : ℕ). slice_get cs z ≡ Some x) (sym p) e) in
            record {
              now = d;
              at = subst (λ (z : ℕ). slice_get (set cs b d) z ≡ Some d) p (nth_set_same cs b c d q);
              sited = r ∙ ap (λ (z : Cell V). z.site) w;
              unchanged = inr (subst (λ (z : Cell V). Within m (content_set S z.site)) w u);
            }
        | inr n ↦ record { now = x; at = nth_set_other cs b a d n ∙ e; sited = refl; unchanged = inl refl }
      ]

  -- a fresh cell leaves each address its site
  pub keeps_append : (cs : List (Cell V)) (d : Cell V) → KeepsSites cs (cs ++ d ∷ [])
  keeps_append cs d = extends_keeps 0 cs (cs ++ d ∷ []) (extends_append 0 cs d)

  -- and so does a write
  pub keeps_write : (cs : List (Cell V)) (b : ℕ) (c d : Cell V) → slice_get cs b ≡ Some c → d.site ≡ c.site → KeepsSites cs (set cs b d)
  keeps_write cs b c d q r =
      extends_keeps (content_set S c.site) cs (set cs b d) (extends_write (content_set S c.site) cs b c d q r (λ k t. t))

  -- a cell whose value is of its site's content type
  abbrev CellTyped : List (Cell V) → Cell V → Type 0
  CellTyped cs c = HasType S cs c.value (S.site c.site).content

  -- a well-typed store stays so with a well-typed cell more
  pub store_append : (cs : List (Cell V)) (d : Cell V) → StoreTyped S cs → CellTyped cs d → StoreTyped S (cs ++ d ∷ [])
  store_append cs d ok h =
      let keep = typed_keeps S cs (cs ++ d ∷ []) (keeps_append cs d) in
      record {
        places = λ a b. keeps_append cs d a a (ok.places a b);
        typed = λ a c e live.
            elim (nth_either cs a c d e) [
              | inl q ↦ keep c.value (S.site c.site).content (ok.typed a c q live)
              | inr p ↦ subst (CellTyped (cs ++ d ∷ [])) p.1 (keep d.value (S.site d.site).content h)
            ];
      }

  -- and with a well-typed value written
  pub store_write : (cs : List (Cell V)) (b : ℕ) (c d : Cell V) → slice_get cs b ≡ Some c → d.site ≡ c.site → StoreTyped S cs → CellTyped cs d →
      StoreTyped S (set cs b d)
  store_write cs b c d q r ok h =
      let keep = typed_keeps S cs (set cs b d) (keeps_write cs b c d q r) in
      record {
        places = λ a k. keeps_write cs b c d q r a a (ok.places a k);
        typed = λ a x e live.
            elim (cases_eq b a) [
              | inl p ↦
                  let e' : d ≡ x = some_inj (sym (nth_set_same cs b c d q) ∙ subst (λ (z : ℕ). slice_get (set cs b d) z ≡ Some x) (sym p) e) in
                  subst (CellTyped (set cs b d)) e' (keep d.value (S.site d.site).content h)
              | inr n ↦ keep x.value (S.site x.site).content (ok.typed a x (sym (nth_set_other cs b a d n) ∙ e) live)
            ];
      }

  -- a new address is past the places of the sites
  pub places_below : (cs : List (Cell V)) → StoreTyped S cs → length cs < S.sites → ⊥
  places_below cs ok b =
      let p : AtSite cs (length cs) (length cs) = ok.places (length cs) b in
      let q : length cs < length cs = nth_below cs (length cs) p.0 p.1 in
      omega arith
