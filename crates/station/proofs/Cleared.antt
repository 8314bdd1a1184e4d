-- What a place holds after each was filled by a call.
use Rattle.std.proofs.Common.{◌≡◌, List, [], ◌∷◌, map, length, replicate, refl, ap₂}
use Rattle.std.specs.List.{FoldsTo}

-- each call gives a number of the value z
pub filled : {F K V : Type 0} (step : F → K → F → Type 0) (n : K → V) (z : V) → ((f f' : F) (x : K) → step f x f' → n x ≡ z)
    → (f last : F) (xs : List K) → FoldsTo step f xs last → map n xs ≡ replicate (length xs) z
filled step n z each f last [] h = refl
filled step n z each f last (x ∷ xs) h = ap₂ (λ y l. y ∷ l) (each f h.0 x h.1) (filled step n z each h.0 last xs h.2)
