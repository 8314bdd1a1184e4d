-- The loops that load the cells and take the numbers back.
use Rattle.std.proofs.Common.{◌≡◌, ℕ, zero, suc, ◌+◌, ◌<◌, ◌≤◌, Bool, cond, ltb, List, [], ◌∷◌, ◌++◌, map, length, get_or, take, set, Some, None, sym, refl, ap, ◌∙◌, ap₂, add-one, arith}
use Rattle.std.specs.List.{slice_get}
use Rattle.std.proofs.lemmas.Bool.{lt-ltb, cond-true}
use Rattle.machine.specs.declared.values.Value.TheVariants.{Number}
use Rattle.machine.specs.declared.values.Cell.{Cell}
use Rattle.evaluator.specs.Runs.{opened, padded, number_in, taken, repeated}

module _ {K : Type 0} where
  -- one site more
  opened_more : (s i : ℕ) (z : K) (xs : List K)
      → opened s (padded (suc i) z xs) ≡ opened s (padded i z xs) ++ record { site = s + i; value = Number (get_or xs i z) } ∷ []
  opened_more s zero z [] = let q : s ≡ s + 0 = omega arith in ap (λ (y : ℕ). record { site = y; value = Number z } ∷ []) q
  opened_more s zero z (x ∷ xs) = let q : s ≡ s + 0 = omega arith in ap (λ (y : ℕ). record { site = y; value = Number x } ∷ []) q
  opened_more s (suc i) z [] =
      let q : suc s + i ≡ s + suc i = omega arith in
      ap (λ (l : List (Cell K)). record { site = s; value = Number z } ∷ l)
      (opened_more (suc s) i z [] ∙ ap (λ (y : ℕ). opened (suc s) (padded i z []) ++ record { site = y; value = Number z } ∷ []) q)
  opened_more s (suc i) z (x ∷ xs) =
      let q : suc s + i ≡ s + suc i = omega arith in
      ap (λ (l : List (Cell K)). record { site = s; value = Number x } ∷ l)
      (opened_more (suc s) i z xs ∙ ap (λ (y : ℕ). opened (suc s) (padded i z xs) ++ record { site = y; value = Number (get_or xs i z) } ∷ []) q)

  -- a cell for each number
  opened_length : (s : ℕ) (ks : List K) → length (opened s ks) ≡ length ks
  opened_length s [] = refl
  opened_length s (k ∷ ks) = ap suc (opened_length (suc s) ks)

  -- a number for each site
  padded_length : (sites : ℕ) (z : K) (xs : List K) → length (padded sites z xs) ≡ sites
  padded_length zero z xs = refl
  padded_length (suc sites) z [] = ap suc (padded_length sites z [])
  padded_length (suc sites) z (x ∷ xs) = ap suc (padded_length sites z xs)

  -- the loop's step, where there is room
  pub loads : (sites : ℕ) (xs : List K) (held after : List (Cell K)) (i m : ℕ) (x z : K) (r : Bool) → sites ≤ m → i < sites → x ≡ get_or xs i z
      → held ≡ opened 0 (padded i z xs) → r ≡ ltb (length held) m → after ≡ cond r (held ++ record { site = i; value = Number x } ∷ []) held
      → after ≡ opened 0 (padded (i + 1) z xs)
  loads sites xs held after i m x z r fits h e inv er ea =
      let n : length held ≡ i = ap length inv ∙ opened_length 0 (padded i z xs) ∙ padded_length i z xs in
      let q : 0 + i ≡ i = omega arith in
      ea ∙ cond-true r _ _ (er ∙ lt-ltb _ _ (omega arith))
      ∙ ap₂ (λ (l : List (Cell K)) (y : K). l ++ record { site = i; value = Number y } ∷ []) inv e
      ∙ ap (λ (y : ℕ). opened 0 (padded i z xs) ++ record { site = y; value = Number (get_or xs i z) } ∷ []) (sym q)
      ∙ sym (opened_more 0 i z xs)
      ∙ ap (λ (y : ℕ). opened 0 (padded y z xs)) (sym (add-one i))

  -- no cell at this place
  pub taken_none : (cs : List (Cell K)) (ks : List K) (i : ℕ) → None ≡ slice_get cs i → taken (take i cs) ks ≡ taken (take (i + 1) cs) ks
  taken_none cs ks i h = ap (λ (l : List (Cell K)). taken l ks) (past i cs h) ∙ ap (λ (y : ℕ). taken (take y cs) ks) (sym (add-one i))
    where
      past : (j : ℕ) (ds : List (Cell K)) → None ≡ slice_get ds j → take j ds ≡ take (suc j) ds
      past zero [] e = refl
      past (suc j) [] e = refl
      past zero (d ∷ ds) e = let z : ◌≡◌ {A = ℕ} 0 1 = cc in absurd (omega arith)
      past (suc j) (d ∷ ds) e = ap (λ (r : List (Cell K)). d ∷ r) (past j ds e)

  -- the number at this place
  wrote : (cs : List (Cell K)) (ks : List K) (i : ℕ) (c : Cell K) (x old : K) → Some c ≡ slice_get cs i → x ≡ number_in c.value old
      → old ≡ get_or (taken (take i cs) ks) i old
      → set (taken (take i cs) ks) i x ≡ taken (take (suc i) cs) ks
  wrote [] ks i c x old e w q = let z : ◌≡◌ {A = ℕ} 0 1 = cc in absurd (omega arith)
  wrote (d ∷ cs) [] zero c x old e w q = refl
  wrote (d ∷ cs) [] (suc i) c x old e w q = refl
  wrote (d ∷ cs) (k ∷ ks) zero c x old e w q =
      let f : c ≡ d = cc in
      ap (λ (y : K). y ∷ ks) (w ∙ ap (λ (y : K). number_in c.value y) q ∙ ap (λ (y : Cell K). number_in y.value k) f)
  wrote (d ∷ cs) (k ∷ ks) (suc i) c x old e w q = ap (λ (l : List K). number_in d.value k ∷ l) (wrote cs ks i c x old e w q)

  -- the loop's step
  pub taken_number : (cs : List (Cell K)) (ks now : List K) (i : ℕ) (c : Cell K) (x old : K) → Some c ≡ slice_get cs i → x ≡ number_in c.value old
      → old ≡ get_or now i old → now ≡ taken (take i cs) ks → set now i x ≡ taken (take (i + 1) cs) ks
  taken_number cs ks now i c x old e w q inv =
      ap (λ (l : List K). set l i x) inv
      ∙ wrote cs ks i c x old e w (q ∙ ap (λ (l : List K). get_or l i old) inv)
      ∙ ap (λ (y : ℕ). taken (take y cs) ks) (sym (add-one i))

  -- every number has been looked at
  pub taken_all : (cs : List (Cell K)) (ks : List K) (i : ℕ) → length ks ≤ i → taken (take i cs) ks ≡ taken cs ks
  taken_all [] ks zero h = refl
  taken_all [] ks (suc i) h = refl
  taken_all (c ∷ cs) [] zero h = refl
  taken_all (c ∷ cs) [] (suc i) h = refl
  taken_all (c ∷ cs) (k ∷ ks) zero h = absurd (omega arith)
  taken_all (c ∷ cs) (k ∷ ks) (suc i) h = ap (λ (l : List K). number_in c.value k ∷ l) (taken_all cs ks i (omega arith))

-- the values of the numbers, where z has the value v
pub map_padded : {K V : Type 0} (f : K → V) (sites : ℕ) (z : K) (v : V) (xs : List K) → f z ≡ v → map f (padded sites z xs) ≡ padded sites v (map f xs)
map_padded f zero z v xs e = refl
map_padded f (suc sites) z v [] e = ap₂ (λ y l. y ∷ l) e (map_padded f sites z v [] e)
map_padded f (suc sites) z v (x ∷ xs) e = ap (λ l. f x ∷ l) (map_padded f sites z v xs e)

-- with a number for each site nothing is padded, and without numbers all of it is
pub padded_full : {V : Type 0} (sites : ℕ) (z : V) (xs : List V) → length xs ≡ sites → padded sites z xs ≡ xs
padded_full zero z [] e = refl
padded_full zero z (x ∷ xs) e = absurd (omega arith)
padded_full (suc sites) z [] e = absurd (omega arith)
padded_full (suc sites) z (x ∷ xs) e = ap (λ l. x ∷ l) (padded_full sites z xs (omega arith))

pub padded_none : {V : Type 0} (sites : ℕ) (z : V) → padded sites z [] ≡ repeated sites z
padded_none zero z = refl
padded_none (suc sites) z = ap (λ l. z ∷ l) (padded_none sites z)
