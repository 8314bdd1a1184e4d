-- One call alone: a struck one leaves what the observer may see, and two like ones tell the observer the same.
use Rattle.std.proofs.Common.{◌≡◌, ℕ, ◌<◌, ◌≤◌, Bool, true, false, cond, eqb, ltb, List, [], ◌∷◌, length, take, set, Some, None, Option, sym, refl, ap, ◌∙◌, arith, get_or-set_other}
use Rattle.std.proofs.lemmas.Bool.Decides.{nat_tests}
use Rattle.number.specs.NumberKind.{NumberKind}
use Rattle.sheet.specs.Sheet.{Sheet}
use Rattle.sheet.specs.Sets.{has}
use Rattle.station.specs.declared.question.Question.{Question}
use Rattle.station.specs.declared.question.Question.TheVariants.{ChannelArea, Target, Seat, Fuel, WorkAreas}
use Rattle.station.specs.Calls.{Call, post, read, run_entry, seat_of, first_refused, refusal_of, after, after_by, area_after_run, channel_questions, run_questions, is_channel, roomy, fuel_allowed, areas_enough, zero_number}
use Rattle.station.proofs.Assured.{Assured, Agree, content_set}
use Rattle.station.proofs.Areas.{length_sites, getD_run, getD_sites, channel_site}

-- two bits that differ
apart : {b : Bool} → b ≡ true → b ≡ false → ⊥
apart h k = let z : ◌≡◌ {A = ℕ} 1 0 = ap (λ b. cond b 1 0) (sym h ∙ k) in omega arith

-- where nothing is refused, every question was answered yes
pub yes_first : (q : Question) (t : Bool) (qs : List (Question × Bool)) → first_refused ((q, t) ∷ qs) ≡ None → (t ≡ true) × (first_refused qs ≡ None)
yes_first q true qs h = (refl, h)
yes_first q false qs h = let z : ◌≡◌ {A = ℕ} 0 1 = cc in absurd (omega arith)

module _ (S : Sheet) where
  -- a granted call on a channel: it is a channel, and the seat is its label
  pub channel_granted : (len seat c : ℕ) → first_refused (channel_questions S len seat c) ≡ None → (is_channel S c ≡ true) × (seat ≡ (S.site c).label)
  channel_granted len seat c h =
      let a = yes_first ChannelArea (roomy S len) ((Target, is_channel S c) ∷ (Seat, eqb seat (S.site c).label) ∷ []) h in
      let b = yes_first Target (is_channel S c) ((Seat, eqb seat (S.site c).label) ∷ []) a.1 in
      let d = (yes_first Seat (eqb seat (S.site c).label) [] b.1).0 in
      (b.0, grind (arith, nat_tests))

  -- a granted run: the entry exists, and the seat is its label
  pub run_granted : (len seat e fuel p b c : ℕ) → first_refused (run_questions S len seat e fuel p b c) ≡ None → (e < S.entries) × (seat ≡ (S.entry e).label)
  run_granted len seat e fuel p b c h =
      let a = yes_first ChannelArea (roomy S len) ((Target, ltb e S.entries) ∷ (Seat, eqb seat (S.entry e).label) ∷ (Fuel, fuel_allowed S fuel) ∷ (WorkAreas, areas_enough S p b c) ∷ []) h in
      let d = yes_first Target (ltb e S.entries) ((Seat, eqb seat (S.entry e).label) ∷ (Fuel, fuel_allowed S fuel) ∷ (WorkAreas, areas_enough S p b c) ∷ []) a.1 in
      let f = yes_first Seat (eqb seat (S.entry e).label) ((Fuel, fuel_allowed S fuel) ∷ (WorkAreas, areas_enough S p b c) ∷ []) d.1 in
      let x = d.0 in
      let y = f.0 in
      (grind (arith, nat_tests), grind (arith, nat_tests))

module _ (M : NumberKind) (S : Sheet) (flows : ℕ → ℕ → Bool) (sure : Assured M S flows) (b : ℕ) where
  -- what seat b may see
  abbrev pub Sees : ℕ → Bool
  Sees a = flows a b

  -- a post by a seat that may not flow to b is to a channel that b may not see
  struck_post : (seat c : ℕ) (v : M.Value) (area : List M.Value) → Sees seat ≡ false → is_channel S c ≡ true → seat ≡ (S.site c).label → Agree M S Sees (set area c v) area
  struck_post seat c v area no_flow is own s h seen =
      get_or-set_other area c s v (zero_number S M)
      (λ e. apart (seen (S.site c).label (ap (λ x. has (S.site c).label (content_set M S x)) e ∙ sure.owned c (channel_site S c is))) (sym (ap Sees own) ∙ no_flow))

  -- a run by such a seat writes no channel that b may see
  struck_run : (seat e fuel : ℕ) (area : List M.Value) → S.sites ≤ length area → Sees seat ≡ false → e < S.entries → seat ≡ (S.entry e).label → Agree M S Sees (area_after_run S M fuel e area) area
  struck_run seat e fuel area room no_flow is own s h seen =
      let ns = take S.sites area in
      let k = channel_site S s h in
      getD_run M S fuel e area s (zero_number S M) room k
      ∙ sure.confined b fuel e (S.entry e).label ns is (length_sites M S area room) (sure.controls e is) (sym (ap Sees own) ∙ no_flow) s h seen
      ∙ getD_sites M S area s (zero_number S M) k

  struck_by : (q : Option Question) (c : Call M.Value) (area : List M.Value) → refusal_of S M c (length area) ≡ q → S.sites ≤ length area → Sees (seat_of c) ≡ false → Agree M S Sees (after_by S M q c area) area
  struck_by (Some q) c area e room no_flow = λ s h seen. refl
  struck_by None (post seat c v) area e room no_flow = let g = channel_granted S (length area) seat c e in struck_post seat c v area no_flow g.0 g.1
  struck_by None (read seat c) area e room no_flow = λ s h seen. refl
  struck_by None (run_entry seat x fuel p d c) area e room no_flow = let g = run_granted S (length area) seat x fuel p d c e in struck_run seat x fuel area room no_flow g.0 g.1

  -- a struck call leaves what b may see
  pub struck : (c : Call M.Value) (area : List M.Value) → S.sites ≤ length area → Sees (seat_of c) ≡ false → Agree M S Sees (after S M c area) area
  unfolding after
  struck c area room no_flow = struck_by (refusal_of S M c (length area)) c area refl room no_flow
