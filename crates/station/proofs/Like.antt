-- Two like calls over areas that agree where the observer may see: they agree again, and the observer is told the same.
use Rattle.std.proofs.Common.{◌≡◌, ℕ, ◌<◌, ◌≤◌, Bool, true, false, cond, eqb, List, length, get_or, take, set, Some, None, Option, sym, refl, ap, ◌∙◌, subst, arith, get_or-set_other, get_or-set_same}
use Rattle.std.proofs.lemmas.Bool.Decides.{nat_tests}
use Rattle.number.specs.NumberKind.{NumberKind}
use Rattle.sheet.specs.Sheet.{Sheet}
use Rattle.typing.specs.Rules.{set_at}
use Rattle.evaluation.specs.declared.ending.Stop.{Stop}
use Rattle.evaluation.specs.declared.ending.Stop.TheVariants.{FuelSpent, PendingFull, BindingsFull, CellsFull, Stuck}
use Rattle.evaluation.specs.declared.ending.Ending.TheVariants.{Number, Stopped}
use Rattle.evaluation.specs.Endings.{number_of}
use Rattle.evaluation.specs.Values.{number, closure, reference, Outcome, done, stopped}
use Rattle.evaluation.specs.Runs.{Report, report, run, run_report, numbers_after}
use Rattle.station.specs.declared.question.Question.{Question}
use Rattle.station.specs.Calls.{Call, post, read, run_entry, seat_of, Answer, told, ended, refusal_of, answer, answer_by, after, after_by, area_after_run, is_channel, zero_number}
use Rattle.station.specs.Histories.{ending_of, without_steps}
use Rattle.station.proofs.Assured.{Assured, Agree, SeenBy, EndsWell, BothAgree}
use Rattle.station.proofs.Areas.{some_same, length_sites, getD_run, getD_sites, channel_site}
use Rattle.station.proofs.Alone.{channel_granted, run_granted}

-- the reason for stopping that a number says
by_number : ℕ → Stop
by_number n = cond (eqb n 1) FuelSpent (cond (eqb n 2) PendingFull (cond (eqb n 3) BindingsFull CellsFull))

same_number : (V : Type 0) (x : Stop) (t : ℕ) → EndsWell {V = V} (stopped x t) → x ≡ by_number (number_of (Stopped x))
unfolding by_number
same_number V FuelSpent t w = refl
same_number V PendingFull t w = refl
same_number V BindingsFull t w = refl
same_number V CellsFull t w = refl
same_number V (Stuck i) t w = absurd w

-- no reason for stopping has the number of a run that is done
not_done : (x : Stop) → 0 ≡ number_of (Stopped x) → ⊥
not_done FuelSpent e = omega arith
not_done PendingFull e = omega arith
not_done BindingsFull e = omega arith
not_done CellsFull e = omega arith
not_done (Stuck i) e = omega arith

-- a report, its steps apart
abbrev told_of : {V : Type 0} → Report V → Answer V
told_of r = ended (record { ending = r.ending; number = r.number; steps = 0 })

module _ (M : NumberKind) (S : Sheet) (O : ℕ → Bool) (e : ℕ) (z : M.Value) where
  -- two outcomes that end alike
  alike_outcomes : (o o' : Outcome M.Value) (ns ns' : List M.Value) → EndsWell o → EndsWell o' → number_of (report z o).ending ≡ number_of (report z o').ending → Agree M S O ns ns' → BothAgree M S O e o o' ns ns' → Agree M S O (numbers_after o ns) (numbers_after o' ns') × (SeenBy M S O (set_at S (S.entry e).root) → told_of (report z o) ≡ told_of (report z o'))
  alike_outcomes (done (number v) s) (done (number v') s') ns ns' w w' n agree both = (both.0, λ seen. ap (λ x. ended (record { ending = Number; number = x; steps = 0 })) (both.1 seen))
  alike_outcomes (done (number v) s) (done (closure f ρ) s') ns ns' w w' n agree both = absurd w'
  alike_outcomes (done (number v) s) (done (reference a) s') ns ns' w w' n agree both = absurd w'
  alike_outcomes (done (number v) s) (stopped x t) ns ns' w w' n agree both = absurd (not_done x n)
  alike_outcomes (done (closure f ρ) s) o' ns ns' w w' n agree both = absurd w
  alike_outcomes (done (reference a) s) o' ns ns' w w' n agree both = absurd w
  alike_outcomes (stopped x t) (done (number v) s) ns ns' w w' n agree both = absurd (not_done x (sym n))
  alike_outcomes (stopped x t) (done (closure f ρ) s) ns ns' w w' n agree both = absurd w'
  alike_outcomes (stopped x t) (done (reference a) s) ns ns' w w' n agree both = absurd w'
  alike_outcomes (stopped x t) (stopped y u) ns ns' w w' n agree both =
      let same : x ≡ y = same_number M.Value x t w ∙ ap by_number n ∙ sym (same_number M.Value y u w') in
      (agree, λ seen. ap (λ r. ended (record { ending = Stopped r; number = z; steps = 0 })) same)

module _ (M : NumberKind) (S : Sheet) (flows : ℕ → ℕ → Bool) (sure : Assured M S flows) (b : ℕ) where
  abbrev Sees : ℕ → Bool
  Sees a = flows a b

  -- two areas of one length, with a place for each site, that agree where b may see
  pub record Matched (area area' : List M.Value) : Type 0 where
    pub room : S.sites ≤ length area
    pub long : length area ≡ length area'
    pub agree : Agree M S Sees area area'

  -- the same number posted to the same channel
  like_post : (c : ℕ) (v : M.Value) (area area' : List M.Value) → is_channel S c ≡ true → Matched area area' → Agree M S Sees (set area c v) (set area' c v)
  like_post c v area area' is m s h seen = go (eqb s c) refl
    where
      go : (t : Bool) → eqb s c ≡ t → get_or (set area c v) s (zero_number S M) ≡ get_or (set area' c v) s (zero_number S M)
      go true e =
          let k : s ≡ c = grind (arith, nat_tests) in
          let room = m.room in
          let long = m.long in
          let at = channel_site S c is in
          ap (λ i. get_or (set area c v) i (zero_number S M)) k ∙ get_or-set_same area c v (zero_number S M) (omega arith)
          ∙ sym (ap (λ i. get_or (set area' c v) i (zero_number S M)) k ∙ get_or-set_same area' c v (zero_number S M) (omega arith))
      go false e =
          get_or-set_other area c s v (zero_number S M) (λ k. grind (arith, nat_tests)) ∙ m.agree s h seen
          ∙ sym (get_or-set_other area' c s v (zero_number S M) (λ k. grind (arith, nat_tests)))

  -- what b may see of the places of the sites
  agree_sites : (area area' : List M.Value) → Matched area area' → Agree M S Sees (take S.sites area) (take S.sites area')
  agree_sites area area' m s h seen =
      let k = channel_site S s h in
      getD_sites M S area s (zero_number S M) k ∙ m.agree s h seen ∙ sym (getD_sites M S area' s (zero_number S M) k)

  -- the same run of an entry
  like_run : (e fuel : ℕ) (area area' : List M.Value) → e < S.entries → Matched area area' → ending_of (ended (run_report M S fuel e (take S.sites area))) ≡ ending_of (ended (run_report M S fuel e (take S.sites area'))) → Agree M S Sees (area_after_run S M fuel e area) (area_after_run S M fuel e area') × ((S.entry e).label ≡ b → without_steps (ended (run_report M S fuel e (take S.sites area))) ≡ without_steps (ended (run_report M S fuel e (take S.sites area'))))
  like_run e fuel area area' is m same =
      let ns = take S.sites area in
      let ns' = take S.sites area' in
      let o = run M S fuel e ns in
      let o' = run M S fuel e ns' in
      let l = length_sites M S area m.room in
      let long = m.long in
      let room' : S.sites ≤ length area' = let room = m.room in omega arith in
      let l' = length_sites M S area' room' in
      let r = alike_outcomes M S Sees e (zero_number S M) o o' ns ns' (sure.sound fuel e ns is l) (sure.sound fuel e ns' is l') (some_same _ _ same) (agree_sites area area' m) (sure.lockstep b fuel fuel e ns ns' is l l' (agree_sites area area' m)) in (
        λ s h seen. let k = channel_site S s h in getD_run M S fuel e area s (zero_number S M) m.room k ∙ r.0 s h seen ∙ sym (getD_run M S fuel e area' s (zero_number S M) room' k),
        λ own. r.1 (λ a has_a. subst (λ x. flows a x ≡ true) own (sure.results e a is has_a)),
      )

  -- what two like calls come to: the areas agree again, and b is told the same at its own call
  abbrev Likely : (c : Call M.Value) (q : Option Question) (area area' : List M.Value) → Type 0
  Likely c q area area' =
      Agree M S Sees (after_by S M q c area) (after_by S M q c area')
      × (seat_of c ≡ b → without_steps (answer_by S M q c area) ≡ without_steps (answer_by S M q c area'))

  like_by : (c : Call M.Value) (q : Option Question) (area area' : List M.Value) → refusal_of S M c (length area) ≡ q → Matched area area' → ending_of (answer_by S M q c area) ≡ ending_of (answer_by S M q c area') → Likely c q area area'
  like_by c (Some q) area area' e m same = (m.agree, λ own. refl)
  like_by (post seat c v) None area area' e m same = (like_post c v area area' (channel_granted S (length area) seat c e).0 m, λ own. refl)
  like_by (read seat c) None area area' e m same =
      let g = channel_granted S (length area) seat c e in
      (m.agree, λ own. ap told (m.agree c g.0 (λ a has_a. subst (λ x. flows a x ≡ true) (sym g.1 ∙ own) (sure.held c a (channel_site S c g.0) has_a))))
  like_by (run_entry seat x fuel p d c) None area area' e m same =
      let g = run_granted S (length area) seat x fuel p d c e in
      let r = like_run x fuel area area' g.0 m same in
      (r.0, λ own. r.1 (sym g.1 ∙ own))

  -- two like calls
  pub like : (c : Call M.Value) (area area' : List M.Value) → Matched area area' → ending_of (answer S M c area) ≡ ending_of (answer S M c area') → Agree M S Sees (after S M c area) (after S M c area') × (seat_of c ≡ b → without_steps (answer S M c area) ≡ without_steps (answer S M c area'))
  unfolding after answer
  like c area area' m same =
      let q = refusal_of S M c (length area) in
      let q' : q ≡ refusal_of S M c (length area') = ap (refusal_of S M c) m.long in
      let r = like_by c q area area' refl m (same ∙ ap (λ x. ending_of (answer_by S M x c area')) (sym q')) in (
        subst (λ x. Agree M S Sees (after_by S M q c area) (after_by S M x c area')) q' r.0,
        λ own. r.1 own ∙ ap (λ x. without_steps (answer_by S M x c area')) q',
      )
