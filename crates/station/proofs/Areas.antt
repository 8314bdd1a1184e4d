-- Areas: how long they stay, and what their places hold.
use Rattle.std.proofs.Common.{◌≡◌, ℕ, suc, ◌<◌, ◌≤◌, true, List, [], ◌∷◌, length, get_or, take, drop, replicate, Some, None, Option, refl, ap, ◌∙◌, arith, length-append, length-drop, length-set, length-take-le, get_or-take}
use lib.ListN.{length-replicate}
use Rattle.std.proofs.lemmas.List.{get_or_append_left, get_or-replicate}
use Rattle.std.proofs.lemmas.Bool.Decides.{nat_tests}
use Rattle.station.specs.declared.question.Question.{Question}
use Rattle.number.specs.NumberKind.{NumberKind}
use Rattle.sheet.specs.Sheet.{Sheet}
use Rattle.evaluation.specs.Values.{number, closure, reference, Cell, Outcome, done, stopped}
use Rattle.evaluation.specs.Runs.{written, numbers_after, run}
use Rattle.station.specs.Calls.{Call, post, read, run_entry, refusal_of, after, after_by, area_after_run, is_channel, opened, zero_number}

module _ {V : Type 0} where
  -- what stands in two options that are the same
  pub some_same : (x y : V) → Some x ≡ Some y → x ≡ y
  some_same x y e = cc

  length_written : (cs : List (Cell V)) (ns : List V) → length (written cs ns) ≡ length ns
  length_written cs [] = refl
  length_written [] (n ∷ ns) = refl
  length_written (c ∷ cs) (n ∷ ns) = ap suc (length_written cs ns)

  -- a run leaves as many numbers as there were
  pub length_after : (o : Outcome V) (ns : List V) → length (numbers_after o ns) ≡ length ns
  length_after (done (number v) s) ns = length_written s.cells ns
  length_after (done (closure f ρ) s) ns = refl
  length_after (done (reference a) s) ns = refl
  length_after (stopped e t) ns = refl

module _ (M : NumberKind) (S : Sheet) where
  -- the places of the sites
  pub length_sites : (area : List M.Value) → S.sites ≤ length area → length (take S.sites area) ≡ S.sites
  length_sites area h = length-take-le _ _ h

  -- a run keeps the area's length
  length_run : (fuel e : ℕ) (area : List M.Value) → S.sites ≤ length area → length (area_after_run S M fuel e area) ≡ length area
  length_run fuel e area h =
      let ns = take S.sites area in
      let o = run M S fuel e ns in
      let a = length-append (numbers_after o ns) (drop S.sites area) in
      omega (arith, a, length_after o ns, length_sites area h, length-drop S.sites area)

  length_by : (q : Option Question) (c : Call M.Value) (area : List M.Value) → S.sites ≤ length area → length (after_by S M q c area) ≡ length area
  length_by (Some q) c area h = refl
  length_by None (post seat c v) area h = length-set area c v
  length_by None (read seat c) area h = refl
  length_by None (run_entry seat e fuel p b c) area h = length_run fuel e area h

  -- an area keeps its length over a call
  pub length_call : (c : Call M.Value) (area : List M.Value) → S.sites ≤ length area → length (after S M c area) ≡ length area
  unfolding after
  length_call c area h = length_by (refusal_of S M c (length area)) c area h

  -- what a place of a site holds after a run
  pub getD_run : (fuel e : ℕ) (area : List M.Value) (s : ℕ) (d : M.Value) → S.sites ≤ length area → s < S.sites → get_or (area_after_run S M fuel e area) s d ≡ get_or (numbers_after (run M S fuel e (take S.sites area)) (take S.sites area)) s d
  getD_run fuel e area s d h k =
      let ns = take S.sites area in
      let o = run M S fuel e ns in
      get_or_append_left (numbers_after o ns) (drop S.sites area) d s (omega (arith, length_after o ns, length_sites area h))

  -- and before it
  pub getD_sites : (area : List M.Value) (s : ℕ) (d : M.Value) → s < S.sites → get_or (take S.sites area) s d ≡ get_or area s d
  getD_sites area s d k = get_or-take _ _ _ _ k

  -- an opened area is as long as it was
  pub length_opened : (area : List M.Value) → S.sites ≤ length area → length (opened S M area) ≡ length area
  length_opened area h =
      omega (arith, length-append (replicate S.sites (zero_number S M)) (drop S.sites area), length-replicate S.sites (zero_number S M), length-drop S.sites area)

  -- and holds zeros at the sites
  pub getD_opened : (area : List M.Value) (s : ℕ) → s < S.sites → get_or (opened S M area) s (zero_number S M) ≡ zero_number S M
  getD_opened area s k =
      get_or_append_left (replicate S.sites (zero_number S M)) (drop S.sites area) (zero_number S M) s (omega (arith, length-replicate S.sites (zero_number S M)))
      ∙ get_or-replicate S.sites s (zero_number S M) (zero_number S M) k

-- a channel is a site
pub channel_site : (S : Sheet) (s : ℕ) → is_channel S s ≡ true → s < S.sites
channel_site S s h = grind (arith, nat_tests)
