-- Two histories that are alike once the struck calls are out of them tell the observer the same.
use Rattle.std.proofs.Common.{◌≡◌, ℕ, ◌≤◌, Bool, true, false, List, [], ◌∷◌, length, sym, refl, ap, ◌∙◌, subst, arith}
use Rattle.number.specs.NumberKind.{NumberKind}
use Rattle.sheet.specs.Sheet.{Sheet}
use Rattle.station.specs.Calls.{Call, seat_of, answer, after, opened}
use Rattle.station.specs.Histories.{Event, strike, Alike, ToldSame, events, ending_of, without_steps, Noninterference}
use Rattle.station.proofs.Assured.{Assured, Agree}
use Rattle.station.proofs.Areas.{length_call, length_opened, getD_opened, channel_site}
use Rattle.station.proofs.Alone.{struck}
use Rattle.station.proofs.Like.{Matched, like}

module _ {V : Type 0} (keep : ℕ → Bool) where
  -- an event that is struck, and one that is kept
  strike_out : (e : Event V) (es : List (Event V)) → keep (seat_of e.call) ≡ false → strike keep (e ∷ es) ≡ strike keep es
  unfolding strike
  strike_out e es h = rw h refl

  strike_keep : (e : Event V) (es : List (Event V)) → keep (seat_of e.call) ≡ true → strike keep (e ∷ es) ≡ e ∷ strike keep es
  unfolding strike
  strike_keep e es h = rw h refl

module _ (M : NumberKind) (S : Sheet) (flows : ℕ → ℕ → Bool) (sure : Assured M S flows) (b : ℕ) where
  abbrev Sees : ℕ → Bool
  Sees a = flows a b

  abbrev Area : Type 0
  Area = List M.Value

  abbrev Calls : Type 0
  Calls = List (Call M.Value)

  -- what is left of a history
  abbrev left : Area → Calls → List (Event M.Value)
  left area cs = strike Sees (events M S area cs)

  -- the event of a call
  abbrev event : Call M.Value → Area → Event M.Value
  event c area = record { call = c; answer = answer S M c area }

  left_out : (c : Call M.Value) (cs : Calls) (area : Area) → Sees (seat_of c) ≡ false → left area (c ∷ cs) ≡ left (after S M c area) cs
  unfolding events
  left_out c cs area h = strike_out Sees (event c area) (events M S (after S M c area) cs) h

  left_keep : (c : Call M.Value) (cs : Calls) (area : Area) → Sees (seat_of c) ≡ true → left area (c ∷ cs) ≡ event c area ∷ left (after S M c area) cs
  unfolding events
  left_keep c cs area h = strike_keep Sees (event c area) (events M S (after S M c area) cs) h

  -- a struck call on the one side, and on the other
  matched_left : (c : Call M.Value) (area area' : Area) → Sees (seat_of c) ≡ false → Matched M S flows sure b area area' → Matched M S flows sure b (after S M c area) area'
  matched_left c area area' h m =
      let l = length_call M S c area m.room in
      let long = m.long in
      let room = m.room in
      record { room = omega arith; long = l ∙ m.long; agree = λ s x seen. struck M S flows sure b c area m.room h s x seen ∙ m.agree s x seen }

  matched_right : (c : Call M.Value) (area area' : Area) → Sees (seat_of c) ≡ false → Matched M S flows sure b area area' → Matched M S flows sure b area (after S M c area')
  matched_right c area area' h m =
      let long = m.long in
      let room = m.room in
      let room' : S.sites ≤ length area' = omega arith in
      record { room = m.room; long = m.long ∙ sym (length_call M S c area' room'); agree = λ s x seen. m.agree s x seen ∙ sym (struck M S flows sure b c area' room' h s x seen) }

  -- the statement for two histories from areas that match
  abbrev Tells : Calls → Area → Calls → Area → Type 0
  Tells cs area cs' area' = Matched M S flows sure b area area' → Alike (left area cs) (left area' cs') → ToldSame b (left area cs) (left area' cs')

  abbrev TellsAll : Calls → Type 0
  TellsAll cs = (area : Area) (cs' : Calls) (area' : Area) → Tells cs area cs' area'

  -- the same call kept on both sides
  kept_both : (c : Call M.Value) (cs : Calls) → TellsAll cs → (area : Area) (c' : Call M.Value) (cs' : Calls) (area' : Area) → Matched M S flows sure b area area' → c ≡ c' → ending_of (answer S M c area) ≡ ending_of (answer S M c' area') → Alike (left (after S M c area) cs) (left (after S M c' area') cs') → (seat_of c ≡ b → without_steps (answer S M c area) ≡ without_steps (answer S M c' area')) × ToldSame b (left (after S M c area) cs) (left (after S M c' area') cs')
  kept_both c cs ih area c' cs' area' m e ends rest =
      let l = like M S flows sure b c area area' m (ends ∙ ap (λ x. ending_of (answer S M x area')) (sym e)) in
      let room = m.room in
      let long = m.long in
      let room' : S.sites ≤ length area' = omega arith in
      let k = length_call M S c area m.room in
      let k' = length_call M S c' area' room' in (
        λ own. l.1 own ∙ ap (λ x. without_steps (answer S M x area')) e,
        ih (after S M c area) cs' (after S M c' area')
            (record { room = omega arith; long = k ∙ m.long ∙ sym k'; agree = subst (λ x. Agree M S Sees (after S M c area) (after S M x area')) e l.0 })
            rest,
      )

  -- a call that is kept on the left, against a history on the right
  kept : (c : Call M.Value) (cs : Calls) → TellsAll cs → (area : Area) → Sees (seat_of c) ≡ true → (cs' : Calls) (area' : Area) → Matched M S flows sure b area area' → Alike (event c area ∷ left (after S M c area) cs) (left area' cs') → ToldSame b (event c area ∷ left (after S M c area) cs) (left area' cs')
  unfolding Alike ToldSame events strike
  kept c cs ih area k [] area' m alike = absurd alike
  kept c cs ih area k (c' ∷ cs') area' m alike = go (kept c cs ih area k cs') (Sees (seat_of c')) refl
    where
      go : ((area'' : Area) → Matched M S flows sure b area area'' → Alike (event c area ∷ left (after S M c area) cs) (left area'' cs') → ToldSame b (event c area ∷ left (after S M c area) cs) (left area'' cs')) → (t : Bool) → Sees (seat_of c') ≡ t → ToldSame b (event c area ∷ left (after S M c area) cs) (left area' (c' ∷ cs'))
      go inner false h =
          let e = left_out c' cs' area' h in
          subst (ToldSame b (event c area ∷ left (after S M c area) cs)) (sym e) (inner (after S M c' area') (matched_right c' area area' h m) (subst (Alike (event c area ∷ left (after S M c area) cs)) e alike))
      go inner true h =
          let e = left_keep c' cs' area' h in
          subst (ToldSame b (event c area ∷ left (after S M c area) cs)) (sym e) (both (subst (Alike (event c area ∷ left (after S M c area) cs)) e alike))
        where
          both : Alike (event c area ∷ left (after S M c area) cs) (event c' area' ∷ left (after S M c' area') cs') → ToldSame b (event c area ∷ left (after S M c area) cs) (event c' area' ∷ left (after S M c' area') cs')
          both a = kept_both c cs ih area c' cs' area' m a.0 a.1 a.2

  -- by induction on the left history, and within it on the right one
  told : (cs : Calls) → TellsAll cs
  unfolding ToldSame events strike
  told [] area cs' area' m alike = tt
  told (c ∷ cs) area cs' area' m alike = go (told cs) (Sees (seat_of c)) refl
    where
      go : TellsAll cs → (t : Bool) → Sees (seat_of c) ≡ t → ToldSame b (left area (c ∷ cs)) (left area' cs')
      go ih false h =
          let e = left_out c cs area h in
          subst (λ l. ToldSame b l (left area' cs')) (sym e) (ih (after S M c area) cs' area' (matched_left c area area' h m) (subst (λ l. Alike l (left area' cs')) e alike))
      go ih true h =
          let e = left_keep c cs area h in
          subst (λ l. ToldSame b l (left area' cs')) (sym e) (kept c cs ih area h cs' area' m (subst (λ l. Alike l (left area' cs')) e alike))

-- no party's entry sways another's figure unless the policy pairs the two
pub noninterference : (M : NumberKind) (S : Sheet) (n : ℕ) (flows : ℕ → ℕ → Bool) → Assured M S flows → Noninterference M S n flows
noninterference M S n flows sure b seat area area' room long calls calls' alike =
    let l = length_opened M S area room in
    let room' : S.sites ≤ length area' = omega arith in
    told M S flows sure b calls (opened S M area) calls' (opened S M area')
    (record { room = omega arith; long = l ∙ long ∙ sym (length_opened M S area' room'); agree = λ s x seen. getD_opened M S area s (channel_site S s x) ∙ sym (getD_opened M S area' s (channel_site S s x)) })
    alike
