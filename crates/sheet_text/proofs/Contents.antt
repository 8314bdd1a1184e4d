-- A field with a quotation mark in it is no letter and no number, so its content need not be made.
use Rattle.std.proofs.Common.{◌≡◌, ℕ, ◌+◌, ◌-◌, ◌*◌, Bool, true, false, cond, ◌&&◌, eqb, leb, List, [], ◌∷◌, length, None, Option, sym, refl, ap, ◌∙◌, arith}
use Rattle.std.proofs.lemmas.Bool.Decides.{nat_tests}
use Rattle.sheet_text.specs.Fields.{content, letter, digits_after, magnitude, number}

-- no byte is a quotation mark
abbrev unquoted : List ℕ → Bool
unquoted [] = true
unquoted (c ∷ cs) = cond (eqb c 34) false (unquoted cs)

-- two quotation marks at the front
content_pair : (c d : ℕ) (cs : List ℕ) → (eqb c 34 && eqb d 34) ≡ true → content (c ∷ d ∷ cs) ≡ 34 ∷ content cs
content_pair c d cs h = rw (h, content) refl

-- no such pair at the front
content_apart : (c d : ℕ) (cs : List ℕ) → (eqb c 34 && eqb d 34) ≡ false → content (c ∷ d ∷ cs) ≡ c ∷ content (d ∷ cs)
content_apart c d cs h = rw (h, content) refl

-- without a quotation mark, a field's bytes are its content
content_unquoted : (f : List ℕ) → unquoted f ≡ true → content f ≡ f
content_unquoted [] h = refl
content_unquoted (c ∷ []) h = refl
content_unquoted (c ∷ d ∷ cs) h =
    let q : eqb c 34 ≡ false = grind (arith, nat_tests) in
    let p : (eqb c 34 && eqb d 34) ≡ false = grind (arith, nat_tests) in
    let r : unquoted (d ∷ cs) ≡ true = rw q at h in
    content_apart c d cs p ∙ ap (λ l. c ∷ l) (content_unquoted (d ∷ cs) r)

-- with one, the content has one
content_quoted : (f : List ℕ) → unquoted f ≡ false → unquoted (content f) ≡ false
content_quoted [] h = h
content_quoted (c ∷ []) h = h
content_quoted (c ∷ d ∷ cs) h = go (content_quoted (d ∷ cs)) (eqb c 34 && eqb d 34) refl (eqb c 34) refl
  where
    go : (unquoted (d ∷ cs) ≡ false → unquoted (content (d ∷ cs)) ≡ false) → (p : Bool) → (eqb c 34 && eqb d 34) ≡ p → (q : Bool) → eqb c 34 ≡ q → unquoted (content (c ∷ d ∷ cs)) ≡ false
    go ih true ep q eq = ap unquoted (content_pair c d cs ep)
    go ih false ep true eq = ap unquoted (content_apart c d cs ep) ∙ ap (λ b. cond b false (unquoted (content (d ∷ cs)))) eq
    go ih false ep false eq =
        let r : unquoted (d ∷ cs) ≡ false = rw eq at h in
        ap unquoted (content_apart c d cs ep) ∙ ap (λ b. cond b false (unquoted (content (d ∷ cs)))) eq ∙ ih r

-- what says nothing of a field with a quotation mark says the same of a field and of its content
content_same : {X : Type 0} (g : List ℕ → Option X) → ((f : List ℕ) → unquoted f ≡ false → g f ≡ None) → (f : List ℕ) → g (content f) ≡ g f
content_same g none f = go (unquoted f) refl
  where
    go : (u : Bool) → unquoted f ≡ u → g (content f) ≡ g f
    go true e = ap g (content_unquoted f e)
    go false e = none (content f) (content_quoted f e) ∙ sym (none f e)

letter_quoted : (f : List ℕ) → unquoted f ≡ false → letter f ≡ None
letter_quoted [] h = refl
letter_quoted (c ∷ []) h = let q : c ≡ 34 = grind (arith, nat_tests) in rw q refl
letter_quoted (c ∷ d ∷ cs) h = refl

-- nothing either way
none_either : {X : Type 0} (b : Bool) → ◌≡◌ {A = Option X} (cond b None None) None
none_either true = refl
none_either false = refl

digits_quoted : (n : ℕ) (f : List ℕ) → unquoted f ≡ false → digits_after n f ≡ None
digits_quoted n [] h = cc
digits_quoted n (c ∷ cs) h = go (digits_quoted (n * 10 + (c - 48)) cs) (eqb c 34) refl
  where
    go : (unquoted cs ≡ false → digits_after (n * 10 + (c - 48)) cs ≡ None) → (q : Bool) → eqb c 34 ≡ q → digits_after n (c ∷ cs) ≡ None
    go ih true e = let d : (leb 48 c && leb c 57) ≡ false = grind (arith, nat_tests) in rw d refl
    go ih false e = let r : unquoted cs ≡ false = rw e at h in rw (ih r) (none_either (leb 48 c && leb c 57))

magnitude_quoted : (f : List ℕ) → unquoted f ≡ false → magnitude f ≡ None
magnitude_quoted f h = rw (digits_quoted 0 f h) (none_either (leb 1 (length f) && leb (length f) 10))

number_quoted : (f : List ℕ) → unquoted f ≡ false → number f ≡ None
number_quoted [] h = refl
number_quoted (c ∷ cs) h = go (eqb c 45) refl
  where
    go : (m : Bool) → eqb c 45 ≡ m → number (c ∷ cs) ≡ None
    go true e =
        let q : eqb c 34 ≡ false = grind (arith, nat_tests) in
        let r : unquoted cs ≡ false = rw q at h in
        rw (e, magnitude_quoted cs r) refl
    go false e = rw (e, magnitude_quoted (c ∷ cs) h) refl

pub letter_content : (f : List ℕ) → letter (content f) ≡ letter f
letter_content = content_same letter letter_quoted

pub number_content : (f : List ℕ) → number (content f) ≡ number f
number_content = content_same number number_quoted
