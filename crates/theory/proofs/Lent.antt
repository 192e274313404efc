-- A part of a buffer is lent, written, and comes back: what that does to the whole, as a `put`. Assumes nothing.
use mathlib.Core.Path.{◌≡◌, sym, ◌∙◌}
use mathlib.Core.List.{List, ◌++◌}
use Prim.Native.Nat.{ℕ, ◌+◌, ◌-◌, ◌≤◌}
use native.Mathlib.Nat.{add-zero}
use native.Mathlib.Omega.{arith}
use lib.ListN.{length, take, drop, length-drop, take-append-drop, drop_of_length-le}
use lib.Seq.{take_all}
use borrow.Rule.Slice.PartMut.{mid_of, post_of, put_mid}
use Rattle.theory.specs.Bytes.{put}
use Rattle.theory.proofs.Bytes.{length-put, drop-put, take_put, take-before}

-- what is lent from a place to the end, and how long it is
pub tail-is : (at : ℕ) (l : List ℕ) → take (length l - at) (drop at l) ≡ drop at l
tail-is at l = take_all (length l - at) (drop at l) (rw length-drop (omega arith))

pub length-tail : (at : ℕ) (l : List ℕ) → length (take (length l - at) (drop at l)) ≡ length l - at
length-tail at l = rw tail-is (length-drop at l)

-- The lent part came back as `last`, which is the part with x put at i: then x is put there in the whole. What was lent is l; the
-- definition may say it otherwise, as m (what an earlier call left). Where they are the same, `refl` proves that premise.
module _ (at n i : ℕ) (x l m last : List ℕ) (k : l ≡ m) (e : last ≡ put i x (mid_of at n l)) where
  lent_by : post_of at n l ≡ drop n (put i x (drop at l)) → put_mid at n l last ≡ put (at + i) x m
  lent_by d =
      let split = take-append-drop at (put (at + i) x l) in
      let front : take at (put (at + i) x l) ≡ take at l = take-before at (at + i) x l (omega arith) in
      let back : last ++ post_of at n l ≡ put i x (drop at l) = rw (e, ← take_put, d) (take-append-drop n (put i x (drop at l))) in
      rw (← k, back) (rw (front, drop-put) at split)

-- lent to the end of the buffer, `&mut l[at..]`
pub lent-tail-at : (at i : ℕ) (x l m last : List ℕ) → l ≡ m → last ≡ put i x (mid_of at (length l - at) l)
    → put_mid at (length l - at) l last ≡ put (at + i) x m
lent-tail-at at i x l m last k e =
    let n : length (drop at l) ≤ length l - at = rw length-drop (omega arith) in
    let w : length (put i x (drop at l)) ≤ length l - at = rw length-put n in
    lent_by at (length l - at) i x l m last k e
    (drop_of_length-le (drop at l) n ∙ sym (drop_of_length-le (put i x (drop at l)) w))

pub lent-tail : (at : ℕ) (x l m last : List ℕ) → l ≡ m → last ≡ put 0 x (mid_of at (length l - at) l)
    → put_mid at (length l - at) l last ≡ put at x m
lent-tail at x l m last k e = lent-tail-at at 0 x l m last k e ∙ rw add-zero
