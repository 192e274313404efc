-- `search ladder` closes each return of a function of early returns against a definition of `unless`, `if`, `and`, `or` in the
-- same order: laws for one step of such a definition, and for what a test of the code says. At any type of answer.
-- Each step takes one lemma of depth and its test one or two: `search ladder depth 9` for more than three steps. About six tests
-- are the most; then split the function. Assumes nothing.
use mathlib.Core.Path.{◌≡◌, ap, sym, ◌∙◌}
use mathlib.Core.Bool.{Bool, true, false, not}
use Prim.Native.Nat.{ℕ, ◌≤◌, ◌<◌}
use borrow.Author.Tests.{le-leb, lt-leb, lt-ltb, le-ltb, eq-eqb, ne_eqb, not-true, not-false}
use lib.Dec.{leb, ltb, eqb}
use Rattle.theory.specs.Logic.{when◌then◌else◌, unless◌answer◌then◌, ◌and◌, ◌or◌, within}
use Rattle.theory.proofs.Tests.{and_i, or-i, false-and, and-false, true-or, or-true, true-and, false-or, inside, below, above}

-- ---- one step of the definition ----

module _ {ℓ} {A : Type ℓ} (t : Bool) (a b x : A) where
  pub stop : t ≡ false → x ≡ a → x ≡ unless t answer a then b
  unfolding unless◌answer◌then◌
  stop e h = rw e h

  pub pass : t ≡ true → x ≡ b → x ≡ unless t answer a then b
  unfolding unless◌answer◌then◌
  pass e h = rw e h

  pub choose-true : t ≡ true → x ≡ a → x ≡ when t then a else b
  unfolding when◌then◌else◌
  choose-true e h = rw e h

  pub choose-false : t ≡ false → x ≡ b → x ≡ when t then a else b
  unfolding when◌then◌else◌
  choose-false e h = rw e h

-- a result that is a conjunction or a disjunction
module _ (t u : Bool) where
  pub and-stop : t ≡ false → false ≡ t and u
  and-stop e = rw e (sym (false-and u))

  pub and-pass : (x : Bool) → t ≡ true → x ≡ u → x ≡ t and u
  and-pass x e h = rw e (h ∙ sym (true-and u))

  pub or-stop : t ≡ true → true ≡ t or u
  or-stop e = rw e (sym (true-or u))

  pub or-pass : (x : Bool) → t ≡ false → x ≡ u → x ≡ t or u
  or-pass x e h = rw e (h ∙ sym (false-or u))

  -- a test that is one
  pub and_left : t ≡ false → t and u ≡ false
  and_left e = rw e (false-and u)

  pub and_right : u ≡ false → t and u ≡ false
  and_right e = rw e (and-false t)

  pub or_left : t ≡ true → t or u ≡ true
  or_left e = rw e (true-or u)

  pub or_right : u ≡ true → t or u ≡ true
  or_right e = rw e (or-true t)

-- ---- what a test of the code says ----

-- the code tests b or `!b`, which is what a function answered, and t by what it ensures. What is ensured comes first: it is
-- the premise by which `search` finds b
module _ (t b : Bool) (e : b ≡ t) where
  pub told-true : b ≡ true → t ≡ true
  told-true h = sym e ∙ h

  pub told-false : b ≡ false → t ≡ false
  told-false h = sym e ∙ h

  pub said-true : not b ≡ false → t ≡ true
  said-true h = sym e ∙ not-false b h

  pub said-false : not b ≡ true → t ≡ false
  said-false h = sym e ∙ not-true b h

-- the code tests the number v, which is x by what a function ensures
module _ (x v n : ℕ) (e : v ≡ x) where
  pub is_eq : v ≡ n → eqb x n ≡ true
  is_eq h = eq-eqb x n (sym e ∙ h)

  pub is_ne : (v ≡ n → ⊥) → eqb x n ≡ false
  is_ne h = ne_eqb x n (λ q. h (e ∙ q))

  pub is_le : v ≤ n → leb x n ≡ true
  is_le h = le-leb x n (rw e at h)

  pub is_gt : n < v → leb x n ≡ false
  is_gt h = lt-leb x n (rw e at h)

  pub is_lt : v < n → ltb x n ≡ true
  is_lt h = lt-ltb x n (rw e at h)

  pub is_ge : n ≤ v → ltb x n ≡ false
  is_ge h = le-ltb x n (rw e at h)

  pub from_le : n ≤ v → leb n x ≡ true
  from_le h = le-leb n x (rw e at h)

  pub from-gt : v < n → leb n x ≡ false
  from-gt h = lt-leb n x (rw e at h)

  pub from-lt : n < v → ltb n x ≡ true
  from-lt h = lt-ltb n x (rw e at h)

  pub from-ge : v ≤ n → ltb n x ≡ false
  from-ge h = le-ltb n x (rw e at h)

  -- n on the left; these are listed beside the ladder where they are needed
  pub from-eq : n ≡ v → eqb n x ≡ true
  from-eq h = eq-eqb n x (h ∙ e)

  pub from-ne : (n ≡ v → ⊥) → eqb n x ≡ false
  from-ne h = ne_eqb n x (λ p. h (p ∙ sym e))

  pub is-inside : (a : ℕ) → a ≤ v → v ≤ n → within a n x ≡ true
  is-inside a h k = inside a n x (rw e at h) (rw e at k)

  pub is_below : (b : ℕ) → v < n → within n b x ≡ false
  is_below b h = below n b x (rw e at h)

  pub is-above : (a : ℕ) → n < v → within a n x ≡ false
  is-above a h = above a n x (rw e at h)

-- the code answers a test of numbers that are the definition's by what functions ensure
module _ (v x w y : ℕ) (e : v ≡ x) (f : w ≡ y) where
  pub leb-of : leb v w ≡ leb x y
  leb-of = rw (e, f)

  pub ltb-of : ltb v w ≡ ltb x y
  ltb-of = rw (e, f)

  pub eqb_of : eqb v w ≡ eqb x y
  eqb_of = rw (e, f)

-- a test behind a `not`; these are listed beside the ladder where they are needed
pub no-not : (t : Bool) → t ≡ false → not t ≡ true
no-not t e = ap not e

pub yes-not : (t : Bool) → t ≡ true → not t ≡ false
yes-not t e = ap not e

pub not-of : (t b : Bool) → b ≡ t → not b ≡ not t
not-of t b e = ap not e

pub not-told : (t b v : Bool) → b ≡ t → not b ≡ v → not t ≡ v
not-told t b v e h = rw (← e) h

-- of a number that is at least a, the code tests only that it is at most b
pub last_end : (a b n : ℕ) → a ≤ n → leb n b ≡ within a b n
unfolding within
last_end a b n h = rw (le-leb a n h) (sym (true-and (leb n b)))

-- The order counts: a step that goes on is tried before one that ends, a test of the code's own numbers before an answer
pub ruleset ladder = (pass, stop, choose-false, choose-true, and-pass, and-stop, or-pass, or-stop, eq-eqb, ne_eqb, le-leb, lt-leb, lt-ltb, le-ltb, inside, below, above, last_end, said-true, said-false, told-true, told-false, and_i, and_left, and_right, or-i, or_left, or_right, is_eq, is_ne, is_le, is_gt, is_lt, is_ge, from_le, from-gt, from-lt, from-ge, is-inside, is_below, is-above, leb-of, ltb-of, eqb_of)
