-- The laws of `bytes_at` and `put` of specs/Bytes.antt. `put` never writes past the end, so most ask no length.
-- Assumes nothing.
use mathlib.Core.Path.{◌≡◌, refl, ap, sym, ◌∙◌}
use mathlib.Core.List.{List, [], ◌∷◌, ◌++◌, append-nil}
use Prim.Native.Nat.{ℕ, zero, suc, ◌+◌, ◌-◌, ◌≤◌, ◌<◌}
use native.Mathlib.Nat.{zero-add, add-zero, suc-add}
use native.Mathlib.Omega.{arith}
use lib.ListN.{length, get_or, take, drop, set, length-take, length-drop, drop_of_length-le}
use lib.Seq.{length-take-le, take_at, drop_at, take-nil, drop-drop, take-take, get_or-drop, get_or-take}
use Rattle.theory.specs.Bytes.{bytes_at, put}

-- ---- put ----

pub length-put : (at : ℕ) (x l : List ℕ) → length (put at x l) ≡ length l
unfolding put
length-put at x [] = refl
length-put zero [] (b ∷ l) = refl
length-put zero (v ∷ x) (b ∷ l) = ap suc (length-put zero x l)
length-put (suc at) x (b ∷ l) = ap suc (length-put at x l)

pub put-nil : (at : ℕ) (l : List ℕ) → put at [] l ≡ l
unfolding put
put-nil at [] = refl
put-nil zero (b ∷ l) = refl
put-nil (suc at) (b ∷ l) = ap (b ∷◌) (put-nil at l)

-- what was put is covered by what is put over it
pub put-over : (at i : ℕ) (x y l : List ℕ) → at ≤ i → i + length x ≤ at + length y → put at y (put i x l) ≡ put at y l
unfolding put
put-over at i x y [] h k = refl
put-over zero zero [] y (b ∷ l) h k = refl
put-over zero zero (v ∷ x) [] (b ∷ l) h k = absurd (omega arith)
put-over zero zero (v ∷ x) (w ∷ y) (b ∷ l) h k = ap (w ∷◌) (put-over zero zero x y l (omega arith) (omega arith))
put-over zero (suc i) x [] (b ∷ l) h k = absurd (omega arith)
put-over zero (suc i) x (w ∷ y) (b ∷ l) h k = ap (w ∷◌) (put-over zero i x y l (omega arith) (omega arith))
put-over (suc at) zero x y (b ∷ l) h k = absurd (omega arith)
put-over (suc at) (suc i) x y (b ∷ l) h k = ap (b ∷◌) (put-over at i x y l (omega arith) (omega arith))

-- two that lie apart, in either order
pub put-comm : (i : ℕ) (x : List ℕ) (j : ℕ) (y l : List ℕ) → i + length x ≤ j → put i x (put j y l) ≡ put j y (put i x l)
unfolding put
put-comm i x j y [] h = refl
put-comm zero [] j y (b ∷ l) h = put-nil zero (put j y (b ∷ l))
put-comm zero (v ∷ x) zero y (b ∷ l) h = absurd (omega arith)
put-comm zero (v ∷ x) (suc j) y (b ∷ l) h = ap (v ∷◌) (put-comm zero x j y l (omega arith))
put-comm (suc i) x zero y (b ∷ l) h = absurd (omega arith)
put-comm (suc i) x (suc j) y (b ∷ l) h = ap (b ∷◌) (put-comm i x j y l (omega arith))

-- to put what is there changes nothing
pub put-bytes_at : (at n : ℕ) (l : List ℕ) → put at (bytes_at at n l) l ≡ l
unfolding put
put-bytes_at at n [] = refl
put-bytes_at zero zero (b ∷ l) = refl
put-bytes_at zero (suc n) (b ∷ l) = ap (b ∷◌) (put-bytes_at zero n l)
put-bytes_at (suc at) n (b ∷ l) = ap (b ∷◌) (put-bytes_at at n l)

-- past the end nothing is put
pub put-out : (at : ℕ) (x l : List ℕ) → length l ≤ at → put at x l ≡ l
unfolding put
put-out at x [] h = refl
put-out zero x (b ∷ l) h = absurd (omega arith)
put-out (suc at) x (b ∷ l) h = ap (b ∷◌) (put-out at x l (omega arith))

-- one element first
pub put-cons : (at v : ℕ) (x l : List ℕ) → put at (v ∷ x) l ≡ put (suc at) x (set l at v)
unfolding put
put-cons at v x [] = refl
put-cons zero v x (b ∷ l) = refl
put-cons (suc at) v x (b ∷ l) = ap (b ∷◌) (put-cons at v x l)

pub put_one : (at v : ℕ) (l : List ℕ) → put at (v ∷ []) l ≡ set l at v
put_one at v l = put-cons at v [] l ∙ put-nil (suc at) (set l at v)

-- one list after the other
pub put-append : (at : ℕ) (x y l : List ℕ) → put at (x ++ y) l ≡ put (at + length x) y (put at x l)
put-append at [] y l = rw (add-zero, put-nil)
put-append at (v ∷ x) y l =
    let e : at + suc (length x) ≡ suc at + length x = omega arith in
    rw (put-cons at v (x ++ y) l, put-cons at v x l, e) (put-append (suc at) x y (set l at v))

-- within the list: what is before, x, what is after
pub put-eq : (at : ℕ) (x l : List ℕ) → at + length x ≤ length l → put at x l ≡ take at l ++ (x ++ drop (at + length x) l)
unfolding put
put-eq zero [] [] h = refl
put-eq zero (v ∷ x) [] h = absurd (omega arith)
put-eq (suc at) x [] h = absurd (omega arith)
put-eq zero [] (b ∷ l) h = refl
put-eq zero (v ∷ x) (b ∷ l) h = rw (zero-add, ← zero-add (length x)) (ap (v ∷◌) (put-eq zero x l (omega arith)))
put-eq (suc at) x (b ∷ l) h = rw suc-add (ap (b ∷◌) (put-eq at x l (omega arith)))

-- at the front
pub put_front : (x l : List ℕ) → length x ≤ length l → put 0 x l ≡ x ++ drop (length x) l
put_front x l h = rw (put-eq 0 x l (omega arith), zero-add)

-- the whole list
pub put_all : (x l : List ℕ) → length x ≡ length l → put 0 x l ≡ x
put_all x l e =
    let h : length l ≤ length x = omega arith in
    put_front x l (omega arith) ∙ rw (drop_of_length-le l h) (append-nil x)

-- ---- a part of a list in which something was put ----

pub take-before : (n i : ℕ) (x l : List ℕ) → n ≤ i → take n (put i x l) ≡ take n l
unfolding put
take-before n i x [] h = refl
take-before zero i x (b ∷ l) h = refl
take-before (suc n) zero x (b ∷ l) h = absurd (omega arith)
take-before (suc n) (suc i) x (b ∷ l) h = ap (b ∷◌) (take-before n i x l (omega arith))

pub drop-after : (at i : ℕ) (x l : List ℕ) → i + length x ≤ at → drop at (put i x l) ≡ drop at l
unfolding put
drop-after at i x [] h = refl
drop-after at zero [] (b ∷ l) h = refl
drop-after zero zero (v ∷ x) (b ∷ l) h = absurd (omega arith)
drop-after (suc at) zero (v ∷ x) (b ∷ l) h = drop-after at zero x l (omega arith)
drop-after zero (suc i) x (b ∷ l) h = absurd (omega arith)
drop-after (suc at) (suc i) x (b ∷ l) h = drop-after at i x l (omega arith)

-- the put lies in what is dropped from, or taken
pub drop-put : (at i : ℕ) (x l : List ℕ) → drop at (put (at + i) x l) ≡ put i x (drop at l)
unfolding put
drop-put zero i x l = rw zero-add
drop-put (suc at) i x [] = refl
drop-put (suc at) i x (b ∷ l) = rw suc-add (drop-put at i x l)

pub take_put : (n i : ℕ) (x l : List ℕ) → take n (put i x l) ≡ put i x (take n l)
unfolding put
take_put n i x [] = rw take-nil
take_put zero i x (b ∷ l) = refl
take_put (suc n) zero [] (b ∷ l) = refl
take_put (suc n) zero (v ∷ x) (b ∷ l) = ap (v ∷◌) (take_put n zero x l)
take_put (suc n) (suc i) x (b ∷ l) = ap (b ∷◌) (take_put n i x l)

-- a part that lies before, and one that lies after, is as it was
pub bytes_at-before : (at n i : ℕ) (x l : List ℕ) → at + n ≤ i → bytes_at at n (put i x l) ≡ bytes_at at n l
bytes_at-before at n i x l h =
    let e : i ≡ at + (i - at) = omega arith in
    ap (λ k. bytes_at at n (put k x l)) e
    ∙ rw drop-put (take-before n (i - at) x (drop at l) (omega arith))

pub bytes_at-after : (at n i : ℕ) (x l : List ℕ) → i + length x ≤ at → bytes_at at n (put i x l) ≡ bytes_at at n l
bytes_at-after at n i x l h = ap (take n) (drop-after at i x l h)

-- what was put
pub bytes_at-put : (at : ℕ) (x l : List ℕ) → at + length x ≤ length l → bytes_at at (length x) (put at x l) ≡ x
bytes_at-put at x l h =
    ap (bytes_at at (length x)) (put-eq at x l h)
    ∙ ap (take (length x)) (drop_at (take at l) _ at (length-take-le at l (omega arith)))
    ∙ take_at x _ (length x) refl

-- the same, at a length that is known
pub bytes_at-put-as : (at n : ℕ) (x l : List ℕ) → length x ≡ n → at + n ≤ length l → bytes_at at n (put at x l) ≡ x
bytes_at-put-as at n x l e h = rw (← e) (bytes_at-put at x l (rw e h))

-- ---- a part ----

drop-take : (n m : ℕ) (l : List ℕ) → drop n (take (n + m) l) ≡ take m (drop n l)
drop-take zero m l = rw zero-add
drop-take (suc n) m [] = rw (suc-add, take-nil)
drop-take (suc n) m (x ∷ l) = rw suc-add (drop-take n m l)

pub length-bytes_at : (at n : ℕ) (l : List ℕ) → at + n ≤ length l → length (bytes_at at n l) ≡ n
length-bytes_at at n l h = length-take-le n (drop at l) (rw length-drop (omega arith))

pub length-bytes_at-le : (at n : ℕ) (l : List ℕ) → length (bytes_at at n l) ≤ n
length-bytes_at-le at n l = rw length-take (omega arith)

pub get_or-bytes_at : (at n i : ℕ) (l : List ℕ) → i < n → get_or (bytes_at at n l) i 0 ≡ get_or l (at + i) 0
get_or-bytes_at at n i l h = rw (get_or-take, get_or-drop)

-- a part of a part
pub bytes_at-bytes_at : (at n b m : ℕ) (l : List ℕ) → at + n ≤ m → bytes_at at n (bytes_at b m l) ≡ bytes_at (b + at) n l
bytes_at-bytes_at at n b m l h =
    let k : n ≤ m - at = omega arith in
    let e : m ≡ at + (m - at) = omega arith in
    ap (λ j. bytes_at at n (bytes_at b j l)) e
    ∙ rw (drop-take at (m - at) (drop b l), drop-drop) (take-take n (m - at) (drop (b + at) l) k)

-- a put within a part of a list, as a put in the list
pub put-within : (at n i : ℕ) (x l : List ℕ) → i + length x ≤ n → at + n ≤ length l → put at (put i x (bytes_at at n l)) l ≡ put (at + i) x l
put-within at n i x l h k =
    let l' = put (at + i) x l in
    let e : put i x (bytes_at at n l) ≡ bytes_at at n l' = sym (take_put n i x (drop at l)) ∙ ap (take n) (sym (drop-put at i x l)) in
    let m : length (bytes_at at n l') ≡ n = length-bytes_at at n l' (rw length-put k) in
    rw e (sym (put-over at (at + i) x (bytes_at at n l') l (omega arith) (omega arith)) ∙ put-bytes_at at n l')
