-- The totals of captures are their numbers, counted line by line. Assumes nothing.
use mathlib.Core.Path.{◌≡◌, refl, ◌∙◌}
use mathlib.Core.Bool.{Bool, true, false}
use mathlib.Core.List.{List, [], ◌∷◌}
use Prim.Native.Nat.{ℕ}
use native.Mathlib.Omega.{arith}
use lib.Dec.{eqb}
use lib.ListN.{length}
use Rattle.theory.specs.Logic.{when◌then◌else◌, ◌and◌, indicator}
use Rattle.theory.proofs.Tests.{by_cases, if-same}
use Rattle.parts.specs.declared.ListForm.TheVariants.{Parts}
use Rattle.parts.specs.List.{parts_of}
use Rattle.std.specs.Prelude.{Result, Ok, Err}
use Rattle.rules.specs.declared.Cause.{Cause}
use Rattle.rules.specs.declared.Cause.TheVariants.{Cut, Unknown, Length, Size, Features, Twice}
use Rattle.rules.specs.Rules.{cause_of}
use Rattle.tally.specs.Rows.{Row, row, rows, cause_line, long_line, parts_of_type}
use Rattle.stream.specs.Totals.{total, totals}
use Rattle.figures.specs.Encoding.{sum_of, count_of, is_long, is_under, accepted_sum, numbers}
use Rattle.figures.proofs.Encoding.{captures_of}

cons : {x y : ℕ} {xs ys : List ℕ} → x ≡ y → xs ≡ ys → ◌≡◌ {A = List ℕ} (x ∷ xs) (y ∷ ys)
cons e f = rw (e, f)

-- no cause has the line of the long ones
not-long : (k : Result (Unit {0}) Cause) → (eqb (cause_line k) long_line ≡ false) × (eqb long_line (cause_line k) ≡ false)
not-long (Ok u) = (refl, refl)
not-long (Err Cut) = (refl, refl)
not-long (Err Unknown) = (refl, refl)
not-long (Err Length) = (refl, refl)
not-long (Err Size) = (refl, refl)
not-long (Err Features) = (refl, refl)
not-long (Err Twice) = (refl, refl)

length-sum : (cs : List (List ℕ)) → sum_of (λ c. 1) cs ≡ length cs
unfolding sum_of
length-sum [] = refl
length-sum (c ∷ cs) = omega (arith, length-sum cs)

module _ (q : ℕ) (features : List ℕ) where
  -- what a capture adds to a line
  abbrev added : Row → List ℕ → ℕ
  added r c = when is_long c then r.adds q long_line [] else r.adds q (cause_line (cause_of q features c)) c

  sum_is : (r : Row) (g : List ℕ → ℕ) → ((c : List ℕ) → added r c ≡ g c) → (cs : List (List ℕ)) (ended : Bool)
      → total q features (captures_of cs ended) r ≡ sum_of g cs
  unfolding captures_of total sum_of when◌then◌else◌
  sum_is r g h [] true = refl
  sum_is r g h [] false = refl
  sum_is r g h (c ∷ cs) ended =
      by_cases (is_long c) (λ e. rw (← h c, e, ← sum_is r g h cs ended)) (λ e. rw (← h c, e, ← sum_is r g h cs ended))

  module _ (c : List ℕ) where
    -- the line in which it is counted
    abbrev line_of : ℕ
    line_of = cause_line (cause_of q features c)

    one-under : (k : Result (Unit {0}) Cause)
        → (when is_long c then indicator (eqb long_line (cause_line k)) else indicator (eqb line_of (cause_line k)))
        ≡ indicator (is_under q features k c)
    unfolding is_under when◌then◌else◌ indicator ◌and◌
    one-under k = by_cases (is_long c) (λ e. rw (e, (not-long k).1)) (λ e. rw e)

    one-long : (when is_long c then 1 else indicator (eqb line_of long_line)) ≡ indicator (is_long c)
    unfolding when◌then◌else◌ indicator
    one-long = by_cases (is_long c) (λ e. rw e) (λ e. rw (e, (not-long (cause_of q features c)).0))

    if-accepted : (n : ℕ)
        → (when is_long c then 0 else when eqb line_of (cause_line (Ok tt)) then n else 0)
        ≡ (when is_under q features (Ok tt) c then n else 0)
    unfolding is_under when◌then◌else◌ ◌and◌
    if-accepted n = by_cases (is_long c) (λ e. rw e) (λ e. rw e)

  module _ (cs : List (List ℕ)) (ended : Bool) where
    abbrev total_of : List ℕ → (ℕ → ℕ → List ℕ → ℕ) → ℕ
    total_of name adds = total q features (captures_of cs ended) (row name adds)

    read-are : (name : List ℕ) → total_of name (λ queues i c. 1) ≡ length cs
    read-are name = sum_is (row name (λ queues i c. 1)) (λ c. 1) (λ c. if-same (is_long c) 1) cs ended ∙ length-sum cs

    long-are : (name : List ℕ) → total_of name (λ queues i c. indicator (eqb i long_line)) ≡ count_of is_long cs
    unfolding count_of indicator
    long-are name = sum_is (row name (λ queues i c. indicator (eqb i long_line))) _ one-long cs ended

    causes-are : (name : List ℕ) (k : Result (Unit {0}) Cause)
        → total_of name (λ queues i c. indicator (eqb i (cause_line k))) ≡ count_of (is_under q features k) cs
    unfolding count_of
    causes-are name k =
        sum_is (row name (λ queues i c. indicator (eqb i (cause_line k)))) _ (λ c. one-under c k) cs ended

    accepted-are : (name : List ℕ) (f : ℕ → List ℕ → ℕ)
        → total_of name (λ queues i c. when eqb i (cause_line (Ok tt)) then f queues c else 0) ≡ accepted_sum q features (f q) cs
    unfolding accepted_sum when◌then◌else◌
    accepted-are name f =
        sum_is (row name (λ queues i c. when eqb i (cause_line (Ok tt)) then f queues c else 0)) _
        (λ c. if-accepted c (f q c)) cs ended

    pub numbers-are : totals q features (captures_of cs ended) ≡ numbers q features cs
    unfolding totals rows numbers
    numbers-are =
        cons (read-are _)
        (cons (causes-are _ (Ok tt))
        (cons (causes-are _ (Err Cut))
        (cons (causes-are _ (Err Unknown))
        (cons (causes-are _ (Err Length))
        (cons (causes-are _ (Err Size))
        (cons (causes-are _ (Err Features))
        (cons (causes-are _ (Err Twice))
        (cons (long-are _)
        (cons (accepted-are _ (λ queues c. parts_of_type queues 0x100 (parts_of Parts c)))
        (cons (accepted-are _ (λ queues c. parts_of_type queues 0x101 (parts_of Parts c)))
        (cons (accepted-are _ (λ queues c. parts_of_type queues 0x102 (parts_of Parts c)))
        (cons (accepted-are _ (λ queues c. parts_of_type queues 0x103 (parts_of Parts c)))
        (cons (accepted-are _ (λ queues c. parts_of_type queues 0x104 (parts_of Parts c)))
        (cons (accepted-are _ (λ queues c. parts_of_type queues 0x105 (parts_of Parts c)))
        (cons (accepted-are _ (λ queues c. length c)) refl)))))))))))))))
