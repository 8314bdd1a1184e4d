-- What stays the same to an observer: with more pairs, after what it does not see, after the same write, after a fresh cell.
use Rattle.std.proofs.Common.{◌≡◌, ℕ, ◌<◌, Bool, eqb, ◌≢◌, List, [], ◌∷◌, ◌++◌, length, set, Some, sym, ap, ◌∙◌, subst, subst₂, inl, inr, arith}
use Rattle.std.specs.List.{slice_get}
use Rattle.std.proofs.lemmas.Bool.{cases_eq, cases_Bool, cond-true, cond-false, eqb-true}
use Rattle.sheet.specs.Sheet.{Sheet}
use Rattle.evaluation.specs.Values.{Value, number, closure, reference, Environment, empty, bind, Cell, lookup}
use Rattle.typing.specs.Rules.{argument_at}
use Rattle.guarantees.specs.Sheets.{Visible, content_set}
use Rattle.guarantees.proofs.Addresses.{some_inj, none_some, nth_set_same, nth_set_other, nth_old, nth_new, nth_below}
use Rattle.guarantees.proofs.Stores.{Unchanged, After, Extends, extends_at}
use Rattle.guarantees.proofs.Visible.{visible_within}
use Rattle.guarantees.proofs.Agreement.{Pairs, Paired, More, SameValue, SameEnv, CellsAgree, StoresAgree}

module _ {V : Type 0} (S : Sheet) (O : ℕ → Bool) (β γ : Pairs) (m : More β γ) where
  mutual
    -- with more pairs, values and environments that were the same are so still
    pub same_value_more : (v w : Value V) → SameValue S O β v w → SameValue S O γ v w
    same_value_more (number n) (number k) h = h
    same_value_more (number n) (closure g ρ) h = h
    same_value_more (number n) (reference b) h = h
    same_value_more (closure f ρ) (number k) h = h
    same_value_more (closure f ρ) (closure g ρ') h = (h.0, same_env_more ρ ρ' h.1)
    same_value_more (closure f ρ) (reference b) h = h
    same_value_more (reference a) (number k) h = h
    same_value_more (reference a) (closure g ρ') h = h
    same_value_more (reference a) (reference b) h = m a b h

    pub same_env_more : (ρ ρ' : Environment V) → SameEnv S O β ρ ρ' → SameEnv S O γ ρ ρ'
    same_env_more empty empty h = tt
    same_env_more empty (bind g w ρ') h = h
    same_env_more (bind f v ρ) empty h = h
    same_env_more (bind f v ρ) (bind g w ρ') h = (h.0, (λ l. same_value_more v w (h.1 l)), same_env_more ρ ρ' h.2)

module _ {V : Type 0} (S : Sheet) (O : ℕ → Bool) (β : Pairs) where
  -- a bound value is the same in both where the observer sees its type's labels
  pub same_lookup : (ρ ρ' : Environment V) (f : ℕ) (v v' : Value V) → SameEnv S O β ρ ρ' → lookup f ρ ≡ Some v → lookup f ρ' ≡ Some v' →
      Visible O (S.type (argument_at S f)).set → SameValue S O β v v'
  same_lookup empty ρ' f v v' h e e' l = none_some e
  same_lookup (bind g w ρ) empty f v v' h e e' l = none_some e'
  same_lookup (bind g w ρ) (bind g' w' ρ') f v v' h e e' l =
      let same : eqb f g ≡ eqb f g' = ap (eqb f) h.0 in
      elim (cases_Bool (eqb f g)) [
        | inl t ↦
            subst₂ (λ (a b : Value V). SameValue S O β a b)
            (some_inj (sym (cond-true (eqb f g) (Some w) (lookup f ρ) t) ∙ e))
            (some_inj (sym (cond-true (eqb f g') (Some w') (lookup f ρ') (sym same ∙ t)) ∙ e'))
            (h.1 (subst (λ (z : ℕ). Visible O (S.type (argument_at S z)).set) (eqb-true f g t) l))
        | inr t ↦
            same_lookup ρ ρ' f v v' h.2 (sym (cond-false (eqb f g) (Some w) (lookup f ρ) t) ∙ e)
            (sym (cond-false (eqb f g') (Some w') (lookup f ρ') (sym same ∙ t)) ∙ e') l
      ]

  -- two cells that were the same, each unchanged or out of sight
  same_later : (m m' : ℕ) (c c' d d' : Cell V) → (Visible O m → ⊥) → (Visible O m' → ⊥) → c.site ≡ c'.site
      → (Visible O (content_set S c.site) → SameValue S O β c.value c'.value)
      → Unchanged S m c d → Unchanged S m' c' d'
      → Visible O (content_set S c.site) → SameValue S O β d.value d'.value
  same_later m m' c c' d d' n n' e h (inl p) (inl p') l =
      subst₂ (λ (x y : Cell V). SameValue S O β x.value y.value) (sym p) (sym p') (h l)
  same_later m m' c c' d d' n n' e h (inl p) (inr u) l =
      absurd (n' (visible_within O m' (content_set S c'.site) u (subst (λ (x : ℕ). Visible O (content_set S x)) e l)))
  same_later m m' c c' d d' n n' e h (inr u) q l = absurd (n (visible_within O m (content_set S c.site) u l))

  -- so do their cells
  cells_extend : (m m' : ℕ) (cs cs' ds ds' : List (Cell V)) → (Visible O m → ⊥) → (Visible O m' → ⊥) → Extends S m cs ds → Extends S m' cs' ds'
      → (a b : ℕ) → CellsAgree S O β cs cs' a b → CellsAgree S O β ds ds' a b
  cells_extend m m' cs cs' ds ds' n n' g g' a b w =
      let l : After S m ds a w.left = extends_at S m cs ds g a w.left w.at_left in
      let l' : After S m' ds' b w.right = extends_at S m' cs' ds' g' b w.right w.at_right in
      record {
        left = l.now;
        right = l'.now;
        at_left = l.at;
        at_right = l'.at;
        sited = l.sited ∙ (w.sited ∙ sym l'.sited);
        same = λ v. same_later m m' w.left w.right l.now l'.now n n' w.sited w.same l.unchanged l'.unchanged
            (subst (λ (x : ℕ). Visible O (content_set S x)) l.sited v);
      }

  -- stores agree still where both extend under control sets that the observer does not see
  pub stores_extend : (m m' : ℕ) (cs cs' ds ds' : List (Cell V)) → (Visible O m → ⊥) → (Visible O m' → ⊥) → Extends S m cs ds → Extends S m' cs' ds'
      → StoresAgree S O β cs cs' → StoresAgree S O β ds ds'
  stores_extend m m' cs cs' ds ds' n n' g g' A =
      record {
        to = A.to;
        fro = A.fro;
        places = A.places;
        match = λ a b p. cells_extend m m' cs cs' ds ds' n n' g g' a b (A.match a b p);
      }

  -- cells after a write at two paired addresses
  cells_write : (cs cs' : List (Cell V)) (a b x y : ℕ) (c c' d d' : Cell V) → StoresAgree S O β cs cs' → Paired β a b → Paired β x y
      → slice_get cs a ≡ Some c → slice_get cs' b ≡ Some c' → d.site ≡ c.site → d'.site ≡ c'.site
      → (Visible O (content_set S d.site) → SameValue S O β d.value d'.value)
      → CellsAgree S O β (set cs a d) (set cs' b d') x y
  cells_write cs cs' a b x y c c' d d' A p r e e' q q' h =
      let w : CellsAgree S O β cs cs' x y = A.match x y r in
      elim (cases_eq a x) [
        | inl z ↦
            let z' : b ≡ y = A.to a b y p (subst (λ (k : ℕ). Paired β k y) (sym z) r) in
            let i : c ≡ w.left = some_inj (sym e ∙ subst (λ (k : ℕ). slice_get cs k ≡ Some w.left) (sym z) w.at_left) in
            let i' : c' ≡ w.right = some_inj (sym e' ∙ subst (λ (k : ℕ). slice_get cs' k ≡ Some w.right) (sym z') w.at_right) in
            record {
              left = d;
              right = d';
              at_left = subst (λ (k : ℕ). slice_get (set cs a d) k ≡ Some d) z (nth_set_same cs a c d e);
              at_right = subst (λ (k : ℕ). slice_get (set cs' b d') k ≡ Some d') z' (nth_set_same cs' b c' d' e');
              sited = q ∙ (ap (λ (k : Cell V). k.site) i ∙ (w.sited ∙ (sym (ap (λ (k : Cell V). k.site) i') ∙ sym q')));
              same = h;
            }
        | inr n ↦
            let n' : b ≢ y = λ z. n (A.fro a x y (subst (λ (k : ℕ). Paired β a k) z p) r) in
            record {
              left = w.left;
              right = w.right;
              at_left = nth_set_other cs a x d n ∙ w.at_left;
              at_right = nth_set_other cs' b y d' n' ∙ w.at_right;
              sited = w.sited;
              same = w.same;
            }
      ]

  -- stores after a write at two paired addresses
  pub stores_write : (cs cs' : List (Cell V)) (a b : ℕ) (c c' d d' : Cell V) → StoresAgree S O β cs cs' → Paired β a b
      → slice_get cs a ≡ Some c → slice_get cs' b ≡ Some c' → d.site ≡ c.site → d'.site ≡ c'.site
      → (Visible O (content_set S d.site) → SameValue S O β d.value d'.value)
      → StoresAgree S O β (set cs a d) (set cs' b d')
  stores_write cs cs' a b c c' d d' A p e e' q q' h =
      record {
        to = A.to;
        fro = A.fro;
        places = A.places;
        match = λ x y r. cells_write cs cs' a b x y c c' d d' A p r e e' q q' h;
      }

  -- paired addresses are in their stores
  pub paired_below : (cs cs' : List (Cell V)) (a b : ℕ) → StoresAgree S O β cs cs' → Paired β a b → (a < length cs) × (b < length cs')
  paired_below cs cs' a b A p =
      let w : CellsAgree S O β cs cs' a b = A.match a b p in
      (nth_below cs a w.left w.at_left, nth_below cs' b w.right w.at_right)

-- a fresh cell in each store, and one more pair
module _ {V : Type 0} (S : Sheet) (O : ℕ → Bool) (β : Pairs) (cs cs' : List (Cell V)) (d d' : Cell V) (A : StoresAgree S O β cs cs') where
  -- the new addresses are paired
  abbrev pub wider : Pairs
  wider = (length cs, length cs') ∷ β

  -- the pairs that there were are pairs still
  pub more_wider : More β wider
  more_wider a b p = inr p

  -- no address is paired twice
  wider_to : (a b b' : ℕ) → Paired wider a b → Paired wider a b' → b ≡ b'
  wider_to a b b' (inl p) (inl q) = sym p.1 ∙ q.1
  wider_to a b b' (inl p) (inr q) =
      let h : (a < length cs) × (b' < length cs') = paired_below S O β cs cs' a b' A q in
      let e : length cs ≡ a = p.0 in
      absurd (omega arith)
  wider_to a b b' (inr p) (inl q) =
      let h : (a < length cs) × (b < length cs') = paired_below S O β cs cs' a b A p in
      let e : length cs ≡ a = q.0 in
      absurd (omega arith)
  wider_to a b b' (inr p) (inr q) = A.to a b b' p q

  -- nor from the other side
  wider_fro : (a a' b : ℕ) → Paired wider a b → Paired wider a' b → a ≡ a'
  wider_fro a a' b (inl p) (inl q) = sym p.0 ∙ q.0
  wider_fro a a' b (inl p) (inr q) =
      let h : (a' < length cs) × (b < length cs') = paired_below S O β cs cs' a' b A q in
      let e : length cs' ≡ b = p.1 in
      absurd (omega arith)
  wider_fro a a' b (inr p) (inl q) =
      let h : (a < length cs) × (b < length cs') = paired_below S O β cs cs' a b A p in
      let e : length cs' ≡ b = q.1 in
      absurd (omega arith)
  wider_fro a a' b (inr p) (inr q) = A.fro a a' b p q

  -- the cells at paired addresses agree
  wider_match : (d.site ≡ d'.site) → (Visible O (content_set S d.site) → SameValue S O β d.value d'.value)
      → (a b : ℕ) → Paired wider a b → CellsAgree S O wider (cs ++ (d ∷ [])) (cs' ++ (d' ∷ [])) a b
  wider_match q h a b (inl p) =
      record {
        left = d;
        right = d';
        at_left = subst (λ (k : ℕ). slice_get (cs ++ (d ∷ [])) k ≡ Some d) p.0 (nth_new cs d);
        at_right = subst (λ (k : ℕ). slice_get (cs' ++ (d' ∷ [])) k ≡ Some d') p.1 (nth_new cs' d');
        sited = q;
        same = λ l. same_value_more S O β wider more_wider d.value d'.value (h l);
      }
  wider_match q h a b (inr p) =
      let w : CellsAgree S O β cs cs' a b = A.match a b p in
      record {
        left = w.left;
        right = w.right;
        at_left = nth_old cs a w.left d w.at_left;
        at_right = nth_old cs' b w.right d' w.at_right;
        sited = w.sited;
        same = λ l. same_value_more S O β wider more_wider w.left.value w.right.value (w.same l);
      }

  -- stores that agree do so with a fresh cell each
  pub stores_new : (d.site ≡ d'.site) → (Visible O (content_set S d.site) → SameValue S O β d.value d'.value)
      → StoresAgree S O wider (cs ++ (d ∷ [])) (cs' ++ (d' ∷ []))
  stores_new q h =
      record { to = wider_to; fro = wider_fro; places = λ a c. inr (A.places a c); match = wider_match q h }
