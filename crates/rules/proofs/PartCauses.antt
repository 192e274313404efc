-- The first of the causes of two lists is that of both, and a list is decided by the first cause of its parts. Assumes nothing.
use Rattle.std.proofs.Common.{◌≡◌, refl, sym, ap, ◌∙◌, Bool, true, false, not, ℕ, zero, suc, ◌≤◌, Result, Ok, Err, arith}
use lib.Dec.{leb}
use borrow.Author.Tests.{leb-true, leb-false, le-leb}
use Rattle.theory.specs.Logic.{when◌then◌else◌, unless◌answer◌then◌, ◌and◌, ◌or◌}
use Rattle.theory.proofs.Tests.{by_cases, not-or}
use Rattle.rules.specs.declared.Cause.{Cause}
use Rattle.rules.specs.declared.Cause.TheVariants.{Cut, Unknown, Length, Size, Features, Twice}
use Rattle.rules.specs.contracts.CauseOrd.TheImpl as made
use Rattle.std.specs.Ordering.{ord_min}
use Rattle.rules.specs.PartCauses.{checked, order, first_of, decided}

abbrev Told : Type 0
Told = Result (Unit {0}) Cause

-- ---- the first of two ----

-- no two have the same order
in_order : ℕ → Told
in_order zero = Err Cut
in_order (suc zero) = Err Unknown
in_order (suc (suc zero)) = Err Length
in_order (suc (suc (suc zero))) = Err Size
in_order (suc (suc (suc (suc zero)))) = Err Features
in_order (suc (suc (suc (suc (suc zero))))) = Err Twice
in_order (suc (suc (suc (suc (suc (suc k)))))) = Ok tt

there : (a : Told) → in_order (order a) ≡ a
unfolding in_order
there (Err Cut) = refl
there (Err Unknown) = refl
there (Err Length) = refl
there (Err Size) = refl
there (Err Features) = refl
there (Err Twice) = refl
there (Ok u) = refl

first-left : (a b : Told) → order a ≤ order b → first_of a b ≡ a
unfolding first_of when◌then◌else◌
first-left a b h = rw (le-leb (order a) (order b) h)

first-right : (a b : Told) → order b ≤ order a → first_of a b ≡ b
unfolding first_of when◌then◌else◌
first-right a b h =
    by_cases (leb (order a) (order b))
    (λ e.
    let k = leb-true (order a) (order b) e in
    let same : order a ≡ order b = omega arith in
    rw e (sym (there a) ∙ ap in_order same ∙ there b))
    (λ e. rw e)

pub first-assoc : (a b c : Told) → first_of a (first_of b c) ≡ first_of (first_of a b) c
first-assoc a b c =
    by_cases (leb (order b) (order c))
    (λ e.
    let h : order b ≤ order c = leb-true _ _ e in
    rw (first-left b c h)
    (by_cases (leb (order a) (order b))
    (λ f.
    let k : order a ≤ order b = leb-true _ _ f in
    let m : order a ≤ order c = omega arith in
    rw (first-left a b k, first-left a c m))
    (λ f. let k : order b ≤ order a = omega (arith, leb-false _ _ f) in rw (first-right a b k, first-left b c h))))
    (λ e.
    let h : order c ≤ order b = omega (arith, leb-false _ _ e) in
    rw (first-right b c h)
    (by_cases (leb (order a) (order b))
    (λ f. rw (first-left a b (leb-true _ _ f)))
    (λ f.
    let k : order b ≤ order a = omega (arith, leb-false _ _ f) in
    let m : order c ≤ order a = omega arith in
    rw (first-right a b k, first-right b c h, first-right a c m))))

-- ---- the first of two lists, step by step ----

-- what is found later is later in the order
later : (n : ℕ) (b : Bool) (s y : Told) → n ≤ order s → n ≤ order y → n ≤ order (unless b answer s then y)
unfolding unless◌answer◌then◌
later n true s y h k = k
later n false s y h k = h

from-twice : (d : Bool) (n : ℕ) → n ≤ 5 → n ≤ order (unless not d answer Err Twice then Ok tt)
from-twice d n h = later n (not d) (Err Twice) (Ok tt) h (omega arith)

from-features : (f d : Bool) (n : ℕ) → n ≤ 4 → n ≤ order (unless f answer Err Features then unless not d answer Err Twice then Ok tt)
from-features f d n h = later n f (Err Features) _ h (from-twice d n (omega arith))

from-size : (z f d : Bool) (n : ℕ) → n ≤ 3
    → n ≤ order (unless z answer Err Size then unless f answer Err Features then unless not d answer Err Twice then Ok tt)
from-size z f d n h = later n z (Err Size) _ h (from-features f d n (omega arith))

from-length : (m z f d : Bool) (n : ℕ) → n ≤ 2
    → n ≤ order (unless m answer Err Length then unless z answer Err Size then unless f answer Err Features then unless not d answer Err Twice then Ok tt)
from-length m z f d n h = later n m (Err Length) _ h (from-size z f d n (omega arith))

first_step : (r : Told) (a b : Bool) (x y : Told) → order r ≤ order x → order r ≤ order y
    → first_of (unless a answer r then x) (unless b answer r then y) ≡ unless a and b answer r then first_of x y
unfolding unless◌answer◌then◌ ◌and◌
first_step r true true x y h k = refl
first_step r true false x y h k = first-right x r h
first_step r false true x y h k = first-left r y k
first_step r false false x y h k = first-left r r (omega arith)

pub checked-both : (k n z f d k' n' z' f' d' : Bool)
    → first_of (checked k n z f d) (checked k' n' z' f' d') ≡ checked (k and k') (n and n') (z and z') (f and f') (d or d')
unfolding checked
checked-both k n z f d k' n' z' f' d' =
    first_step (Err Unknown) k k' _ _ (from-length n z f d 1 (omega arith)) (from-length n' z' f' d' 1 (omega arith))
    ∙ ap (λ r. unless k and k' answer Err Unknown then r)
    (first_step (Err Length) n n' _ _ (from-size z f d 2 (omega arith)) (from-size z' f' d' 2 (omega arith))
    ∙ ap (λ r. unless n and n' answer Err Length then r)
    (first_step (Err Size) z z' _ _ (from-features f d 3 (omega arith)) (from-features f' d' 3 (omega arith))
    ∙ ap (λ r. unless z and z' answer Err Size then r)
    (first_step (Err Features) f f' _ _ (from-twice d 4 (omega arith)) (from-twice d' 4 (omega arith))
    ∙ ap (λ r. unless f and f' answer Err Features then r)
    (first_step (Err Twice) (not d) (not d') (Ok tt) (Ok tt) (omega arith) (omega arith)
    ∙ rw (not-or d d', first-left (Ok tt) (Ok tt) (omega arith))))))

-- ---- what is decided ----

last : (a : Told) → order a ≤ 6
last (Err Cut) = omega arith
last (Err Unknown) = omega arith
last (Err Length) = omega arith
last (Err Size) = omega arith
last (Err Features) = omega arith
last (Err Twice) = omega arith
last (Ok u) = omega arith

-- no cause adds nothing
pub first-ok : (a : Told) → first_of a (Ok tt) ≡ a
first-ok a = first-left a (Ok tt) (last a)

pub decided-by : (w k n z f d : Bool)
    → (unless w answer Err Cut then
    unless k answer Err Unknown then
    unless n answer Err Length then
    unless z answer Err Size then
    unless f answer Err Features then
    unless not d answer Err Twice then
    Ok tt)
    ≡ unless w answer Err Cut then decided (first_of (Ok tt) (checked k n z f d)) d
unfolding unless◌answer◌then◌ checked first_of decided when◌then◌else◌
decided-by false k n z f d = refl
decided-by true false n z f d = refl
decided-by true true false z f d = refl
decided-by true true true false f d = refl
decided-by true true true true false d = refl
decided-by true true true true true true = refl
decided-by true true true true true false = refl

pub ok-first : (a : Told) → first_of (Ok tt) a ≡ a
ok-first a = first-right (Ok tt) a (last a)

-- the least cause by the derived order is the first
each : (P : Cause → Type 0) → P Cut → P Unknown → P Length → P Size → P Features → P Twice → (k : Cause) → P k
each P a b c d e f Cut = a
each P a b c d e f Unknown = b
each P a b c d e f Length = c
each P a b c d e f Size = d
each P a b c d e f Features = e
each P a b c d e f Twice = f

abbrev MinFirst : Cause → Cause → Type 0
MinFirst x y = Err (ord_min made.cmp-value.it x y) ≡ first_of (Err x) (Err y)

pub min-first : (x y : Cause) → MinFirst x y
unfolding first_of when◌then◌else◌
min-first =
    each (λ x. (y : Cause) → MinFirst x y)
    (each (MinFirst Cut) refl refl refl refl refl refl)
    (each (MinFirst Unknown) refl refl refl refl refl refl)
    (each (MinFirst Length) refl refl refl refl refl refl)
    (each (MinFirst Size) refl refl refl refl refl refl)
    (each (MinFirst Features) refl refl refl refl refl refl)
    (each (MinFirst Twice) refl refl refl refl refl refl)

-- only a row seen again is looked at once more
pub decided-as : (k : Cause) (d : Bool) → (k ≡ Twice → ⊥) → Err k ≡ decided (Err k) d
unfolding decided
decided-as Cut d n = refl
decided-as Unknown d n = refl
decided-as Length d n = refl
decided-as Size d n = refl
decided-as Features d n = refl
decided-as Twice d n = absurd (n refl)
