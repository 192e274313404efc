-- Counts, and captures that are still to be counted: one capture more is counted, and none is left. Assumes nothing.
use mathlib.Core.Path.{◌≡◌, refl, ap}
use mathlib.Core.Bool.{true, false}
use mathlib.Core.List.{List, [], ◌∷◌, map}
use Prim.Native.Nat.{ℕ, ◌+◌, ◌≤◌, ◌<◌, ◌^◌}
use native.Mathlib.Omega.{arith}
use lib.ListN.{length}
use Rattle.theory.specs.Logic.{when◌then◌else◌}
use Rattle.tally.specs.Counts.{◌plus◌, Below}
use Rattle.tally.specs.Rows.{Row, rows, longest, long_line, adds_in, adds_of, adds_long}
use Rattle.tally.proofs.Plus.{length-plus, plus_assoc, plus-zeros, at-plus}
use Rattle.tally.proofs.Captures.{read_more, adds-few}
use Rattle.stream.specs.Stream.{Captures, whole, torn, capture, long, most, is_whole}
use Rattle.stream.specs.Totals.{total, totals}
use Rattle.stream.specs.Progress.{read_of, with_rest, Counted}

rows-sum : (f g : Row → ℕ) (rs : List Row) → map (λ (r : Row). f r + g r) rs ≡ map f rs plus map g rs
unfolding ◌plus◌
rows-sum f g [] = refl
rows-sum f g (r ∷ rs) = ap ((f r + g r) ∷◌) (rows-sum f g rs)

length-adds : (q k : ℕ) (c : List ℕ) → length (adds_in q k c) ≡ 16
unfolding adds_in rows
length-adds q k c = refl

module _ (q : ℕ) (features : List ℕ) where
  pub length-totals : (cs : Captures) → length (totals q features cs) ≡ 16
  unfolding totals rows
  length-totals cs = refl

  totals-capture : (c : List ℕ) (cs : Captures) → totals q features (capture c cs) ≡ adds_of q features c plus totals q features cs
  unfolding totals total adds_in
  totals-capture c cs = rows-sum _ _ rows

  -- no queue count matters to a long one
  long-adds : adds_in q long_line [] ≡ adds_long
  unfolding adds_in rows when◌then◌else◌
  long-adds = refl

  totals-long : (cs : Captures) → totals q features (long cs) ≡ adds_in q long_line [] plus totals q features cs
  unfolding totals total adds_in
  totals-long cs = rows-sum _ _ rows

  module _ (counts : List ℕ) where
    -- a capture is counted
    pub one-counted : (c : List ℕ) (cs : Captures) → with_rest q features (counts plus adds_of q features c) cs ≡ with_rest q features counts (capture c cs)
    unfolding with_rest is_whole
    one-counted c cs =
        let a : length (totals q features cs) ≡ 16 = length-totals cs in
        let b : length (adds_of q features c) ≡ 16 = length-adds q _ c in
        let e = plus_assoc counts (adds_of q features c) (totals q features cs) (omega arith) in
        rw (totals-capture c cs, e)

    pub long-counted : (cs : Captures) → with_rest q features (counts plus adds_long) cs ≡ with_rest q features counts (long cs)
    unfolding with_rest is_whole
    long-counted cs =
        let a : length (totals q features cs) ≡ 16 = length-totals cs in
        let b : length adds_long ≡ 16 = length-adds 0 long_line [] in
        let e = plus_assoc counts adds_long (totals q features cs) (omega arith) in
        rw (totals-long cs, long-adds, e)

    -- no capture is left
    pub none_left : with_rest q features counts whole ≡ record { counts = counts; ended = true }
    unfolding with_rest is_whole totals total rows
    none_left = rw (plus-zeros counts 16)

    pub torn-left : with_rest q features counts torn ≡ record { counts = counts; ended = false }
    unfolding with_rest is_whole totals total rows
    torn-left = rw (plus-zeros counts 16)

-- ---- the counts stay within their bounds ----

pub counts-room : (a : List ℕ) → Counted a → Below (2 ^ 62) a
counts-room a w = record { at = λ i. omega (arith, w.bound i, w.up_to) }

module _ (a : List ℕ) (w : Counted a) (h : read_of a < most) where
  counted-in : (q k : ℕ) (c : List ℕ) → length c ≤ longest → Counted (a plus adds_in q k c)
  counted-in q k c l =
      let r = read_more a q k c w.some in
      record {
        some = rw length-plus w.some;
        bound = λ i. omega (arith, r, w.bound i, (adds-few q k c l).at i, at-plus a (adds_in q k c) i);
        up_to = omega (arith, r);
      }

  pub counted-capture : (q : ℕ) (features c : List ℕ) → length c ≤ longest → Counted (a plus adds_of q features c)
  counted-capture q features c = counted-in q _ c

  pub counted-long : Counted (a plus adds_long)
  counted-long = counted-in 0 long_line [] (omega arith)
