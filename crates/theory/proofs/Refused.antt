-- What a `?` says of a function that refuses where a test fails: r is what it answered, o what the caller did. Assumes nothing.
use Rattle.std.specs.Prelude.{Result, Ok, Err}
use Rattle.std.specs.Result.{IsErrAnd}
use Rattle.std.proofs.lemmas.Result.{err_from_is_err_and}
use mathlib.Core.Path.{◌≡◌, refl, ap, sym, ◌∙◌}
use mathlib.Core.Bool.{Bool, true, false}
use Rattle.theory.specs.Logic.{unless◌answer◌then◌, ◌and◌}

-- a test of two parts is two steps
pub two-steps {ℓ} : {A : Type ℓ} (t u : Bool) (a b : A) → (unless t and u answer a then b) ≡ (unless t answer a then unless u answer a then b)
unfolding unless◌answer◌then◌ ◌and◌
two-steps true u a b = refl
two-steps false u a b = refl

refused : {A B E : Type 0} (t : Bool) (a : E) (x : A) (d : E) (rest : Result B E)
    → ◌≡◌ {A = Result A E} (Err d) (unless t answer Err a then Ok x) → ◌≡◌ {A = Result B E} (Err d) (unless t answer Err a then rest)
unfolding unless◌answer◌then◌
refused true a x d rest h = cc
refused false a x d rest h = cc

passed : {A B E : Type 0} (t : Bool) (a : E) (x y : A) (f : A → Result B E)
    → ◌≡◌ {A = Result A E} (Ok y) (unless t answer Err a then Ok x) → f y ≡ (unless t answer Err a then f x)
unfolding unless◌answer◌then◌
passed true a x y f h = cc
passed false a x y f h = cc

module _ {A B E : Type 0} (t : Bool) (a : E) (x : A) (r : Result A E) (e : r ≡ unless t answer Err a then Ok x) where
  -- it left with the refusal
  pub left_with : (d : E) → r ≡ Err d → (o : Result B E) → IsErrAnd o (λ y. y ≡ d) → (rest : Result B E) → o ≡ unless t answer Err a then rest
  left_with d h o i rest = let p = err_from_is_err_and o i in rw (p.1, p.2) (refused t a x d rest (sym h ∙ e))

  -- it went on with the value
  pub went_with : (y : A) → r ≡ Ok y → (f : A → Result B E) → f y ≡ unless t answer Err a then f x
  went_with y h f = passed t a x y f (sym h ∙ e)
