-- A run over the first places of an area, which are the sites': what it tells, and what the whole area holds after it.
use Rattle.std.proofs.Common.{◌≡◌, ℕ, ◌-◌, List, ◌++◌, map, take, drop, sym, ap, ◌∙◌, ap₂, arith}
use mathlib.Core.List.{map-append}
use borrow.Rule.Slice.PartMut.{post_of}
use Rattle.std.proofs.lemmas.List.{take-map, drop-map}
use Rattle.number.specs.NumberKind.{NumberKind}
use Rattle.sheet.specs.Sheet.{Sheet}
use Rattle.evaluation.specs.Runs.{Report, run, run_report, numbers_after}
use Rattle.station.specs.Calls.{area_after_run}

module _ {K : Type 0} (M : NumberKind) (S : Sheet) (n : K → M.Value) (ks : List K) (e fuel sites : ℕ) (same : sites ≡ S.sites) where
  -- the numbers at the sites
  first : map n (take (sites - 0) ks) ≡ take S.sites (map n ks)
  first =
      let whole : sites - 0 ≡ S.sites = omega arith in
      sym (take-map n (sites - 0) ks) ∙ ap (λ (x : ℕ). take x (map n ks)) whole

  -- the extra places
  pub rest : map n (post_of 0 (sites - 0) ks) ≡ drop S.sites (map n ks)
  rest =
      let whole : sites - 0 ≡ S.sites = omega arith in
      sym (drop-map n (sites - 0) ks) ∙ ap (λ (x : ℕ). drop x (map n ks)) whole

  -- what is told of the run
  pub tells : (r : Report M.Value) → r ≡ run_report M S fuel e (map n (take (sites - 0) ks)) → r ≡ run_report M S fuel e (take S.sites (map n ks))
  tells r told = told ∙ ap (run_report M S fuel e) first

  -- the sites' places hold what the run left, and the extra ones what they held
  pub leaves : (left : List K) → map n left ≡ numbers_after (run M S fuel e (map n (take (sites - 0) ks))) (map n (take (sites - 0) ks))
      → map n (left ++ post_of 0 (sites - 0) ks) ≡ area_after_run S M fuel e (map n ks)
  leaves left kept =
      map-append n left (post_of 0 (sites - 0) ks)
      ∙ ap₂ (λ (x y : List M.Value). x ++ y) (kept ∙ ap (λ (x : List M.Value). numbers_after (run M S fuel e x) x) first) rest
