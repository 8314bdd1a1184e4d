-- What a verdict of yes says, for any kind of questions.
use Rattle.std.proofs.Common.{◌≡◌, ℕ, Bool, true, false, Some, None, Ok, Err, Option, sym, refl, ◌∙◌}
use Rattle.std.proofs.lemmas.Bool.{true≢false}
use Rattle.sheet.specs.Asked.{none, first_no, every, Each, Verdict, told, asked, once, ◌then◌, passed}
use Rattle.sheet.proofs.Asking.{every_means, every_from}

-- two verdicts in a row are yes exactly when both are
pub then_parts : {Q : Type 0} (v w : Verdict Q) → passed (v then w) ≡ true → (passed v ≡ true) × (passed w ≡ true)
then_parts (Ok u) w h = (refl, h)
then_parts (Err e) w h = absurd (true≢false (sym h))

pub then_from : {Q : Type 0} (v w : Verdict Q) → passed v ≡ true → passed w ≡ true → passed (v then w) ≡ true
then_from (Ok u) w h k = k
then_from (Err e) w h k = absurd (true≢false (sym h))

-- a question asked once is yes exactly when its test is
pub once_is : {Q : Type 0} (q : Q) (k : ℕ) (t : Bool) → passed (once q k t) ≡ t
once_is q k true = refl
once_is q k false = refl

-- a question asked of each is yes exactly when there is no no
told_is : {Q : Type 0} (q : Q) (b : ℕ) (o : Option ℕ) → passed (told q b o) ≡ none o
told_is q b None = refl
told_is q b (Some k) = refl

asked_is : {Q : Type 0} (q : Q) (b : ℕ) (p : ℕ → Bool) (n : ℕ) → passed (asked q b p n) ≡ every p n
unfolding asked
asked_is q b p n = told_is q b (first_no p 0 n)

-- and so when its test says yes of each
pub each_of : {Q : Type 0} (q : Q) (b : ℕ) (p : ℕ → Bool) (n : ℕ) → passed (asked q b p n) ≡ true → Each n p
each_of q b p n h = every_means p n (sym (asked_is q b p n) ∙ h)

pub each_from : {Q : Type 0} (q : Q) (b : ℕ) (p : ℕ → Bool) (n : ℕ) → Each n p → passed (asked q b p n) ≡ true
each_from q b p n h = asked_is q b p n ∙ every_from p n h
