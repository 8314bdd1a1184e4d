-- What is promised of the runs of an admitted sheet is what the station's theorem rests on.
use Rattle.std.proofs.Common.{◌≡◌, ℕ, ◌<◌, Bool, true, List, length, get_or, Some, sym, refl, ap, ◌∙◌, subst, arith}
use Rattle.std.proofs.lemmas.Option.{slice_get-get_or}
use Rattle.std.proofs.lemmas.Bool.Decides.{nat_tests}
use Rattle.std.specs.List.{slice_get}
use Rattle.number.specs.NumberKind.{NumberKind}
use Rattle.sheet.specs.Sheet.{Sheet}
use Rattle.evaluation.specs.declared.ending.Stop.TheVariants.{FuelSpent, PendingFull, BindingsFull, CellsFull, Stuck}
use Rattle.evaluation.specs.Values.{number, closure, reference, Outcome, done, stopped}
use Rattle.evaluation.specs.Runs.{run, report, numbers_after}
use Rattle.admission.specs.Meaning.{Admissible}
use Rattle.guarantees.specs.Sheets.{Channel, Visible}
use Rattle.guarantees.specs.Promises.{EndsSoundly, ChannelsAgree, Soundness, Confinement, TwoRuns}
use Rattle.station.specs.Calls.{is_channel, zero_number}
use Rattle.station.proofs.Assured.{Assured, Agree, EndsWell, BothAgree}
use Rattle.station.proofs.Areas.{some_same, channel_site, length_after}

-- a channel, as a test and as a fact
channel_is : (S : Sheet) (s : ℕ) → is_channel S s ≡ true → Channel S s
channel_is S s h = (channel_site S s h, grind (arith, nat_tests))

is_one : (S : Sheet) (s : ℕ) → Channel S s → is_channel S s ≡ true
is_one S s h = let a = h.0 in let b = h.1 in grind (arith, nat_tests)

-- the same number at a place, by either way of reading it
module _ {V : Type 0} (xs ys : List V) (i : ℕ) (d : V) (h : i < length xs) (k : i < length ys) where
  by_nth : slice_get xs i ≡ slice_get ys i → get_or xs i d ≡ get_or ys i d
  by_nth e = some_same (get_or xs i d) (get_or ys i d) (sym (slice_get-get_or xs i d h) ∙ e ∙ slice_get-get_or ys i d k)

  to_nth : get_or xs i d ≡ get_or ys i d → slice_get xs i ≡ slice_get ys i
  to_nth e = slice_get-get_or xs i d h ∙ ap Some e ∙ sym (slice_get-get_or ys i d k)

-- an outcome that is told as sound ends well
ends_well : {V : Type 0} (z : V) (o : Outcome V) → EndsSoundly (report z o).ending → EndsWell o
ends_well z (done (number v) s) w = tt
ends_well z (done (closure f ρ) s) w = absurd (w.a_number refl)
ends_well z (done (reference a) s) w = absurd (w.a_number refl)
ends_well z (stopped FuelSpent t) w = tt
ends_well z (stopped PendingFull t) w = tt
ends_well z (stopped BindingsFull t) w = tt
ends_well z (stopped CellsFull t) w = tt
ends_well z (stopped (Stuck i) t) w = absurd (w.not_stuck refl)

module _ (M : NumberKind) (S : Sheet) (flows : ℕ → ℕ → Bool) where
  -- two areas that agree where b may see, by either way of saying it
  from_channels : (b : ℕ) (ns ns' : List M.Value) → length ns ≡ S.sites → length ns' ≡ S.sites → ChannelsAgree flows S b ns ns' → Agree M S (λ x. flows x b) ns ns'
  unfolding Visible
  from_channels b ns ns' l l' agree s h seen =
      let c = channel_is S s h in
      let k = c.0 in
      by_nth ns ns' s (zero_number S M) (omega arith) (omega arith) (agree s c seen)

  to_channels : (b : ℕ) (ns ns' : List M.Value) → length ns ≡ S.sites → length ns' ≡ S.sites → Agree M S (λ x. flows x b) ns ns' → ChannelsAgree flows S b ns ns'
  unfolding Visible
  to_channels b ns ns' l l' agree s c seen =
      let k = c.0 in
      to_nth ns ns' s (zero_number S M) (omega arith) (omega arith) (agree s (is_one S s c) seen)

  -- two runs that are both done with a number, taken from what is told of them
  both : TwoRuns M flows S → (b fuel fuel' e : ℕ) (ns ns' : List M.Value) → e < S.entries → (l : length ns ≡ S.sites) → (l' : length ns' ≡ S.sites) → Agree M S (λ x. flows x b) ns ns' → (o o' : Outcome M.Value) → run M S fuel e ns ≡ o → run M S fuel' e ns' ≡ o' → BothAgree M S (λ x. flows x b) e o o' ns ns'
  unfolding Visible
  both two b fuel fuel' e ns ns' is l l' agree (done (number v) s) (done (number v') s') r r' =
      let z = zero_number S M in
      let t = two b fuel fuel' e ns ns' is l l' (to_channels b ns ns' l l' agree) (ap (λ o. (report z o).ending) r) (ap (λ o. (report z o).ending) r') in
      let n = length_after (done (number v) s) ns ∙ l in
      let n' = length_after (done (number v') s') ns' ∙ l' in (
        from_channels b (numbers_after (done (number v) s) ns) (numbers_after (done (number v') s') ns') n n'
            (subst (λ o. ChannelsAgree flows S b (numbers_after o ns) (numbers_after (done (number v') s') ns')) r
            (subst (λ o. ChannelsAgree flows S b (numbers_after (run M S fuel e ns) ns) (numbers_after o ns')) r' t.channels)),
        λ seen. sym (ap (λ o. (report z o).number) r) ∙ t.number seen ∙ ap (λ o. (report z o).number) r',
      )
  both two b fuel fuel' e ns ns' is l l' agree (done (number v) s) (done (closure f ρ) s') r r' = tt
  both two b fuel fuel' e ns ns' is l l' agree (done (number v) s) (done (reference a) s') r r' = tt
  both two b fuel fuel' e ns ns' is l l' agree (done (number v) s) (stopped x t) r r' = tt
  both two b fuel fuel' e ns ns' is l l' agree (done (closure f ρ) s) o' r r' = tt
  both two b fuel fuel' e ns ns' is l l' agree (done (reference a) s) o' r r' = tt
  both two b fuel fuel' e ns ns' is l l' agree (stopped x t) o' r r' = tt

  -- an admitted sheet is assured of what the station's theorem rests on
  pub assured : (n : ℕ) → Admissible n flows S → Soundness M S → Confinement M flows S → TwoRuns M flows S → Assured M S flows
  assured n good sound confined two =
      record {
        owned = good.owned;
        held = good.held;
        controls = good.control;
        results = good.result;
        sound = λ fuel e ns is l. ends_well (zero_number S M) (run M S fuel e ns) (sound fuel e ns is l);
        confined = λ b fuel e a ns is l has_a no_flow. from_channels b (numbers_after (run M S fuel e ns) ns) ns (length_after (run M S fuel e ns) ns ∙ l) l (confined b a fuel e ns is l has_a no_flow);
        lockstep = λ b fuel fuel' e ns ns' is l l' agree. both two b fuel fuel' e ns ns' is l l' agree (run M S fuel e ns) (run M S fuel' e ns') refl refl;
      }
