-- The store that a run begins with, and what is read back from the store that it ends with.
use Rattle.std.proofs.Common.{◌≡◌, ℕ, zero, suc, ◌+◌, ◌<◌, Bool, true, cond, ◌⊎◌, List, [], ◌∷◌, length, Some, sym, refl, ap, ◌∙◌, subst, inl, inr, arith}
use Rattle.std.specs.List.{slice_get}
use Rattle.std.proofs.lemmas.Bool.{cases_eq, cases_Bool, cond-true, cond-false, cond_both}
use Rattle.sheet.specs.declared.decoded.Flag.TheVariants as flag
use Rattle.sheet.specs.Sheet.{Sheet, is_channel}
use Rattle.sheet.proofs.Flags.{channel_flag}
use Rattle.evaluation.specs.Values.{number, Cell}
use Rattle.evaluation.specs.Runs.{site_cells, number_or, written}
use Rattle.guarantees.specs.Sheets.{TypedSheet, Channel, Visible, content_set}
use Rattle.guarantees.proofs.Addresses.{some_inj, none_some, nth_below}
use Rattle.guarantees.proofs.Typed.{HasType, StoreTyped}
use Rattle.guarantees.proofs.Agreement.{Pairs, Paired, StoresAgree}

module _ {V : Type 0} where
  -- below the length there is something
  pub nth_there : (ns : List V) (a : ℕ) → a < length ns → (n : V) × (slice_get ns a ≡ Some n)
  nth_there [] a l = absurd (omega arith)
  nth_there (n ∷ ns) zero l = (n, refl)
  nth_there (n ∷ ns) (suc a) l = nth_there ns a (omega arith)

  -- the place of site a, which holds the number n
  abbrev pub place : ℕ → V → Cell V
  place a n = record { site = a; value = number n }

  -- each number is in its place
  place_from : (k : ℕ) (ns : List V) (a : ℕ) (n : V) → slice_get ns a ≡ Some n → slice_get (site_cells k ns) a ≡ Some (place (k + a) n)
  place_from k [] a n e = none_some e
  place_from k (m ∷ ns) zero n e = let z : k ≡ k + 0 = omega arith in ap (λ (x : ℕ). Some (place x m)) z ∙ ap (λ (x : V). Some (place (k + 0) x)) (some_inj e)
  place_from k (m ∷ ns) (suc a) n e =
      let z : suc k + a ≡ k + suc a = omega arith in
      place_from (suc k) ns a n e ∙ ap (λ (x : ℕ). Some (place x n)) z

  -- so from the first site on
  pub place_of : (ns : List V) (a : ℕ) (n : V) → slice_get ns a ≡ Some n → slice_get (site_cells 0 ns) a ≡ Some (place a n)
  place_of ns a n e = let z : 0 + a ≡ a = omega arith in place_from 0 ns a n e ∙ ap (λ (x : ℕ). Some (place x n)) z

  -- there are as many places as numbers
  site_cells_length : (k : ℕ) (ns : List V) → length (site_cells k ns) ≡ length ns
  site_cells_length k [] = refl
  site_cells_length k (n ∷ ns) = ap suc (site_cells_length (suc k) ns)

  -- a cell of the opening store is the place of its address
  pub place_at : (ns : List V) (a : ℕ) (c : Cell V) → slice_get (site_cells 0 ns) a ≡ Some c → (n : V) × (slice_get ns a ≡ Some n) × (place a n ≡ c)
  place_at ns a c e =
      let l : a < length (site_cells 0 ns) = nth_below (site_cells 0 ns) a c e in
      let n = nth_there ns a (omega (arith, site_cells_length 0 ns)) in
      (n.0, n.1, some_inj (sym (place_of ns a n.0 n.1) ∙ e))

  -- what is read back of a site is the number in its cell
  pub read_back : (cs : List (Cell V)) (ns : List V) (a : ℕ) (c : Cell V) (n : V) → slice_get cs a ≡ Some c → slice_get ns a ≡ Some n →
      slice_get (written cs ns) a ≡ Some (number_or c.value n)
  read_back cs [] a c n e f = none_some f
  read_back [] (m ∷ ns) a c n e f = none_some e
  read_back (d ∷ cs) (m ∷ ns) zero c n e f =
      ap (λ (x : Cell V). Some (number_or x.value m)) (some_inj e) ∙ ap (λ (x : V). Some (number_or c.value x)) (some_inj f)
  read_back (d ∷ cs) (m ∷ ns) (suc a) c n e f = read_back cs ns a c n e f

module _ {V : Type 0} (S : Sheet) (ok : TypedSheet S) where
  -- the opening store is well-typed
  pub opening_typed : (ns : List V) → length ns ≡ S.sites → StoreTyped S (site_cells 0 ns)
  opening_typed ns h = record {
    places = λ a l. let n = nth_there ns a (omega arith) in (place a n.0, place_of ns a n.0 n.1, refl);
    typed = λ a c e live.
        let p = place_at ns a c e in
        let l : a < length ns = nth_below ns a p.0 p.1 in
        let b : a < S.sites = omega arith in
        subst (λ (x : Cell V). HasType S (site_cells 0 ns) x.value (S.site x.site).content) p.2 (ok.shape.numeric a b (live b));
  }

-- the channels below n, each paired with itself
unfoldable pub diagonal : Sheet → ℕ → Pairs
diagonal S zero = []
diagonal S (suc n) = cond (is_channel (S.site n).flag) ((n, n) ∷ diagonal S n) (diagonal S n)

module _ (S : Sheet) where
  -- a pair of the diagonal is the last channel's, or one from before
  diagonal_cases : (n a b : ℕ) → Paired (diagonal S (suc n)) a b → ((n ≡ a) × (n ≡ b) × ((S.site n).flag ≡ flag.Channel)) ⊎ Paired (diagonal S n) a b
  unfolding diagonal
  diagonal_cases n a b p =
      elim (cases_Bool (is_channel (S.site n).flag)) [
        | inl t ↦
            elim (subst (λ (β : Pairs). Paired β a b) (cond-true _ ((n, n) ∷ diagonal S n) (diagonal S n) t) p) [
              | inl q ↦ inl (q.0, q.1, channel_flag _ t)
              | inr q ↦ inr q
            ]
        | inr f ↦ inr (subst (λ (β : Pairs). Paired β a b) (cond-false _ ((n, n) ∷ diagonal S n) (diagonal S n) f) p)
      ]

  -- one from before is still there
  diagonal_more : (n a b : ℕ) → Paired (diagonal S n) a b → Paired (diagonal S (suc n)) a b
  unfolding diagonal
  diagonal_more n a b p =
      cond_both (is_channel (S.site n).flag) ((n, n) ∷ diagonal S n) (diagonal S n) (λ β. Paired β a b) (λ _. inr p) (λ _. p)

  -- each channel is paired with itself
  in_diagonal : (n a : ℕ) → a < n → (S.site a).flag ≡ flag.Channel → Paired (diagonal S n) a a
  unfolding diagonal
  in_diagonal zero a l t = absurd (omega arith)
  in_diagonal (suc n) a l t =
      elim (cases_eq n a) [
        | inl e ↦
            let f : is_channel (S.site n).flag ≡ true = ap is_channel (ap (λ (x : ℕ). (S.site x).flag) e ∙ t) in
            subst (λ (β : Pairs). Paired β a a) (sym (cond-true _ ((n, n) ∷ diagonal S n) (diagonal S n) f)) (inl (e, e))
        | inr k ↦ diagonal_more n a a (in_diagonal n a (omega arith) t)
      ]

  -- and nothing else is paired
  of_diagonal : (n a b : ℕ) → Paired (diagonal S n) a b → (a ≡ b) × (a < n) × ((S.site a).flag ≡ flag.Channel)
  unfolding diagonal
  of_diagonal zero a b p = absurd p
  of_diagonal (suc n) a b p =
      elim (diagonal_cases n a b p) [
        | inl q ↦ let e : n ≡ a = q.0 in (sym e ∙ q.1, omega arith, ap (λ (x : ℕ). (S.site x).flag) (sym e) ∙ q.2)
        | inr q ↦ let r = of_diagonal n a b q in (r.0, omega (arith, r.1), r.2)
      ]

module _ {V : Type 0} (S : Sheet) (O : ℕ → Bool) where
  -- opening stores agree where the channels that the observer sees hold the same numbers
  pub opening_agrees : (ns ns' : List V) → length ns ≡ S.sites → length ns' ≡ S.sites →
      ((s : ℕ) → Channel S s → Visible O (content_set S s) → slice_get ns s ≡ slice_get ns' s) →
      StoresAgree S O (diagonal S S.sites) (site_cells 0 ns) (site_cells 0 ns')
  opening_agrees ns ns' h h' k = record {
    to = λ a b b' p q. sym (of_diagonal S S.sites a b p).0 ∙ (of_diagonal S S.sites a b' q).0;
    fro = λ a a' b p q. (of_diagonal S S.sites a b p).0 ∙ sym (of_diagonal S S.sites a' b q).0;
    places = λ a c. in_diagonal S S.sites a c.0 c.1;
    match = λ a b p.
        let d = of_diagonal S S.sites a b p in
        let l : a < S.sites = d.1 in
        let n = nth_there ns a (omega arith) in
        let n' = nth_there ns' a (omega arith) in
        record {
          left = place a n.0;
          right = place a n'.0;
          at_left = place_of ns a n.0 n.1;
          at_right = subst (λ (x : ℕ). slice_get (site_cells 0 ns') x ≡ Some (place a n'.0)) d.0 (place_of ns' a n'.0 n'.1);
          sited = refl;
          same = λ v. some_inj (sym n.1 ∙ (k a (l, d.2) v ∙ n'.1));
        };
  }
