-- The calls in code against their definitions, by the verdict that the code came to.
use Rattle.std.proofs.Common.{◌≡◌, ℕ, zero, suc, ◌<◌, List, [], ◌∷◌, map, length, get_or, take, set, Some, None, Option, Ok, Err, sym, ap, ◌∙◌, arith}
use lib.ListN.{length-map}
use Rattle.std.proofs.lemmas.List.{map-set}
use Rattle.number.specs.NumberKind.{NumberKind}
use Rattle.sheet.specs.Sheet.{Sheet}
use Rattle.evaluation.specs.Runs.{Report as Told, run_report}
use Rattle.station.specs.declared.question.Question.{Question}
use Rattle.station.specs.Calls.{Call, post, read, run_entry, Answer, refused, granted, told, ended, first_refused, channel_questions, run_questions, refusal_of, answer, answer_by, after, after_by, area_after_run, zero_number}
use Rattle.station.specs.Answered.{verdict}
use Rattle.station.proofs.Granted.{none_refused, one_refused, channel_within}

-- the value of what stands at a place
getD_value : {K V : Type 0} (n : K → V) (ks : List K) (i : ℕ) (x : K) (d : V) → i < length ks → x ≡ get_or ks i x → n x ≡ get_or (map n ks) i d
getD_value n [] i x d h e = absurd (omega arith)
getD_value n (k ∷ ks) zero x d h e = ap n e
getD_value n (k ∷ ks) (suc i) x d h e = getD_value n ks i x d (omega arith) e

module _ {K : Type 0} (M : NumberKind) (S : Sheet) (n : K → M.Value) where
  -- what the code answers, and what it leaves, is what the definition says
  abbrev pub AsDefined : Call M.Value → List K → Answer M.Value → List M.Value → Type 0
  AsDefined call ks r left = (r ≡ answer S M call (map n ks)) × (left ≡ after S M call (map n ks))

  -- by the first question that is refused
  by_refusal : (call : Call M.Value) (ks : List K) (r : Option Question) → refusal_of S M call (length ks) ≡ r
      → AsDefined call ks (answer_by S M r call (map n ks)) (after_by S M r call (map n ks))
  unfolding answer after
  by_refusal call ks r e =
      let same : r ≡ refusal_of S M call (length (map n ks)) = sym e ∙ ap (refusal_of S M call) (sym (length-map ks n)) in
      (ap (λ w. answer_by S M w call (map n ks)) same, ap (λ w. after_by S M w call (map n ks)) same)

  -- a call that is refused
  pub refuses : (call : Call M.Value) (ks : List K) (q : Question) → Err q ≡ verdict (refusal_of S M call (length ks)) → AsDefined call ks (refused q) (map n ks)
  refuses call ks q no-q = by_refusal call ks (Some q) (one_refused (refusal_of S M call (length ks)) q no-q)

  -- a post that is granted
  pub posts : (seat c : ℕ) (x : K) (ks : List K) → Ok tt ≡ verdict (first_refused (channel_questions S (length ks) seat c)) → AsDefined (post seat c (n x)) ks granted (map n (set ks c x))
  posts seat c x ks all-yes =
      let d = by_refusal (post seat c (n x)) ks None (none_refused (first_refused (channel_questions S (length ks) seat c)) all-yes) in
      (d.0, map-set n ks c x ∙ d.1)

  -- a read that is granted
  pub reads : (seat c : ℕ) (x : K) (ks : List K) → x ≡ get_or ks c x → Ok tt ≡ verdict (first_refused (channel_questions S (length ks) seat c)) → AsDefined (read seat c) ks (told (n x)) (map n ks)
  reads seat c x ks at all-yes =
      let d = by_refusal (read seat c) ks None (none_refused (first_refused (channel_questions S (length ks) seat c)) all-yes) in
      (ap told (getD_value n ks c x (zero_number S M) (channel_within S (length ks) seat c all-yes) at) ∙ d.0, d.1)

  -- a run that is granted
  pub runs : (seat e fuel p b h : ℕ) (ks : List K) (r : Told M.Value) (left : List M.Value)
      → Ok tt ≡ verdict (first_refused (run_questions S (length ks) seat e fuel p b h))
      → r ≡ run_report M S fuel e (take S.sites (map n ks)) → left ≡ area_after_run S M fuel e (map n ks)
      → AsDefined (run_entry seat e fuel p b h) ks (ended r) left
  runs seat e fuel p b h ks r left all-yes tells leaves =
      let d = by_refusal (run_entry seat e fuel p b h) ks None (none_refused (first_refused (run_questions S (length ks) seat e fuel p b h)) all-yes) in
      (ap ended tells ∙ d.0, leaves ∙ d.1)
