-- Laws of the writer: the number that the fields are, its bytes, and the returns. Assumes nothing.
use mathlib.Core.Path.{◌≡◌, refl, ap, sym, ◌∙◌}
use mathlib.Core.Bool.{Bool, true, false, not}
use mathlib.Core.List.{List, [], ◌∷◌, ◌++◌, map}
use Prim.Native.Nat.{ℕ, suc, ◌+◌, ◌-◌, ◌*◌, ◌/◌, ◌%◌, ◌^◌, ◌≤◌, ◌<◌}
use native.Mathlib.Nat.{zero-add}
use native.Mathlib.Numerals.{add-one}
use native.Mathlib.Omega.{arith}
use borrow.Author.Tests.{eq-eqb}
use lib.Dec.{leb, eqb}
use mir.Syntax.{w64}
use mir.Val.{Fits}
use lib.ListN.{length, get_or, drop, set, drop_of_length-le, length-append}
use lib.Pow.{pow_mono, pow-add, shl_exact}
use lib.Seq.{drop-cons}
use Rattle.theory.specs.Logic.{when◌then◌else◌, within}
use Rattle.theory.specs.Bytes.{put}
use Rattle.theory.proofs.Tests.{by_cases, inside, below, above, tests}
use Rattle.theory.proofs.Bytes.{put-nil, put-append, put-comm, put_one}
use Rattle.theory.proofs.Ladder.{pass, stop, said-true, is_le, is_gt}
use Rattle.setups.specs.declared.Front.{Front}
use Rattle.setups.specs.Bits.{Field, field, widths, joined, big_endian, packed}
use Rattle.setups.specs.Setup.{features_size, all, is_count, in_numbers}
use Rattle.setups.specs.Reading.{count_bytes, padding}
use Rattle.setups.specs.Writing.{head_fields, count_field, count_fields, first_count, are_equal, fields_of, front_of, packed_setup, placed, written, InNumbers}
use Rattle.setups.proofs.Ranges.{all-at, numbers-in}
use Rattle.setups.proofs.Fields.{widths-append, joined-append, length-big}

-- ---- the queue counts behind x ----

-- the fields of the first i counts are in r
pub record Joining (x : ℕ) (q : List ℕ) (r i : ℕ) : Type 0 where
  pub count : i ≤ length q
  pub whole : joined x (map count_field q) ≡ joined r (map count_field (drop i q))
  pub room : r < 2 ^ (24 + 2 * i)

pub joining-start : (x : ℕ) (q : List ℕ) → x < 2 ^ 24 → Joining x q x 0
joining-start x q h = record { count = omega arith; whole = refl; room = h }

module _ (x : ℕ) (q : List ℕ) (r i : ℕ) (j : Joining x q r i) where
  pub joining-count : all is_count q ≡ true → i < length q → is_count (get_or q i 0) ≡ true
  joining-count e h = all-at is_count q i e h

  -- 16 counts are the most
  pub joining-room : length q ≤ 16 → r < 2 ^ 56
  joining-room h =
      let c = j.count in
      let k : 24 + 2 * i ≤ 56 = omega arith in
      omega (arith, j.room, pow_mono k)

  pub joining-fits : length q ≤ 16 → Fits w64 (r * 4)
  joining-fits h = record { fits = omega (arith, joining-room h) }

  pub joining-sum : (b : ℕ) → length q ≤ 16 → b ≤ 3 → Fits w64 (r * 4 + b)
  joining-sum b h l = record { fits = omega (arith, joining-room h) }

  pub joining-on : (b : ℕ) → i < length q → b ≡ get_or q i 0 - 1 → b ≤ 3 → Joining x q (r * 4 + b) (i + 1)
  unfolding joined
  joining-on b h e l =
      let p : 2 ^ (24 + 2 * (i + 1)) ≡ 2 ^ (24 + 2 * i) * 4 =
      (let s : 24 + 2 * (i + 1) ≡ 24 + 2 * i + 2 = omega arith in ap (λ (n : ℕ). 2 ^ n) s ∙ pow-add 2 (24 + 2 * i) 2) in
      record {
        count = omega arith;
        whole = j.whole ∙ rw (drop-cons q i 0 h, add-one, e);
        room = rw p (omega (arith, j.room));
      }

  pub joining-end : length q ≤ i → r ≡ joined x (map count_field q)
  unfolding joined
  joining-end h = sym (j.whole ∙ rw (drop_of_length-le q h))

-- ---- zero bits to a whole byte ----

pub pads : (x n : ℕ) → x < 2 ^ 56 → x * 2 ^ padding n % 2 ^ 64 ≡ x * 2 ^ padding n
pads x n h = shl_exact 56 (padding n) 64 h (omega arith)

-- ---- the front ----

within-eqb : (a x : ℕ) → within a a x ≡ eqb a x
within-eqb a x =
    by_cases (eqb a x) (λ e. rw e (inside a a x (omega tests) (omega tests)))
    (λ e. rw e (by_cases (leb a x) (λ h. above a a x (omega tests)) (λ h. below a a x (omega tests))))

all-eqb : (a : ℕ) (l : List ℕ) → all (within a a) l ≡ all (eqb a) l
unfolding all
all-eqb a [] = refl
all-eqb a (x ∷ l) = rw (within-eqb a x, all-eqb a l)

widths-counts : (q : List ℕ) → widths (map count_field q) ≡ 2 * length q
unfolding widths
widths-counts [] = refl
widths-counts (x ∷ q) = omega (arith, widths-counts q)

pub widths-head : (version members q gets sets : ℕ) → widths (head_fields version members q gets sets) ≡ 24
unfolding widths
widths-head version members q gets sets = refl

pub widths-version-2 : (h : List Field) (q : List ℕ) → widths (h ++ count_fields q) ≡ widths h + 8 * count_bytes (length q)
unfolding count_fields widths
widths-version-2 h q = rw (widths-append h (count_fields q), widths-append (map count_field q) (field (padding (length q)) 0 ∷ []), widths-counts q) (omega arith)

joined-version-2 : (h : List Field) (q : List ℕ) → joined 0 (h ++ count_fields q) ≡ joined (joined 0 h) (map count_field q) * 2 ^ padding (length q)
unfolding count_fields joined
joined-version-2 h q = rw (joined-append 0 h (count_fields q), joined-append) (omega arith)

pub first-count : (members : ℕ) (q : List ℕ) (gets sets : ℕ) → InNumbers members q gets sets → is_count (get_or q 0 0) ≡ true
first-count members q gets sets h = all-at is_count q 0 h.counts (let s = h.some in let e = h.each in omega arith)

-- b says whether the counts are equal
module _ (members : ℕ) (q : List ℕ) (gets sets : ℕ) (b : Bool) (e : b ≡ all (within (first_count q) (first_count q)) q) where
  equal_is : are_equal q ≡ b
  unfolding are_equal
  equal_is = sym (e ∙ all-eqb (first_count q) q)

  pub front-version-1 : (x n : ℕ) → b ≡ true → x ≡ first_count q - 1 → n ≡ joined 0 (head_fields 1 members x gets sets)
      → record { size = 3; number = n } ≡ front_of (fields_of members q gets sets)
  unfolding fields_of when◌then◌else◌ widths
  front-version-1 x n t d f = rw (equal_is, t, f, d)

  pub front-version-2 : (h x y : ℕ) → b ≡ false → h ≡ joined 0 (head_fields 2 members 0 gets sets) → x ≡ joined h (map count_field q)
      → y ≡ x * 2 ^ padding (length q) → record { size = 3 + (length q + 3) / 4; number = y } ≡ front_of (fields_of members q gets sets)
  unfolding fields_of when◌then◌else◌
  front-version-2 h x y t d f g =
      let k = head_fields 2 members 0 gets sets in
      let w : widths (k ++ count_fields q) / 8 ≡ 3 + (length q + 3) / 4 = rw widths-version-2 (omega (arith, widths-head 2 members 0 gets sets)) in
      rw (equal_is, t, w, joined-version-2 k q, g, f, d)

-- ---- the bytes of a number ----

-- the bytes from i on are written
module _ (w o : List ℕ) (v i : ℕ) (e : w ≡ put 0 (big_endian i v) o) where
  pub number-on : 0 < i → w ≡ put 0 (big_endian (i - 1) (v / 256)) (set o (i - 1) (v % 256))
  unfolding big_endian
  number-on h =
      let d : i ≡ suc (i - 1) = omega arith in
      let b = big_endian (i - 1) (v / 256) in
      let l : 0 + length b ≡ i - 1 = zero-add (length b) ∙ length-big (i - 1) (v / 256) in
      e ∙ ap (λ (n : ℕ). put 0 (big_endian n v) o) d ∙ put-append 0 b (v % 256 ∷ []) o
      ∙ rw (l, ← put-comm 0 b (i - 1) (v % 256 ∷ []) o (omega arith), put_one (i - 1) (v % 256) o)

  pub number-end : i ≤ 0 → o ≡ w
  unfolding big_endian
  number-end h = let d : i ≡ 0 = omega arith in sym (e ∙ rw d (put-nil 0 o))

-- ---- the returns ----

-- t tested the numbers, and f is the front
module _ (members : ℕ) (q : List ℕ) (gets sets : ℕ) (t : Bool) (e : t ≡ in_numbers members q gets sets) (n : not t ≡ false) where
  numbers-right : in_numbers members q gets sets ≡ true
  numbers-right = said-true (in_numbers members q gets sets) t e n

  pub numbers-told : InNumbers members q gets sets
  numbers-told = numbers-in members q gets sets numbers-right

  module _ (features b : List ℕ) (f : Front) (l : length features ≡ features_size) (p : f ≡ front_of (fields_of members q gets sets)) where
    size_is : length (packed_setup members q gets sets features) ≡ f.size + features_size
    unfolding packed_setup packed
    size_is = rw (length-append, length-big, l, p)

    whole : (o r : List ℕ) → o ≡ put 0 (big_endian f.size f.number) b → r ≡ put f.size features o
        → r ≡ put 0 (packed_setup members q gets sets features) b
    unfolding packed_setup packed
    whole o r d g =
        let x = big_endian f.size f.number in
        let k : 0 + length x ≡ f.size = zero-add (length x) ∙ length-big f.size f.number in
        let y : x ≡ packed (fields_of members q gets sets) = rw p in
        g ∙ rw d (sym (rw (← y) (put-append 0 x features b ∙ rw k)))

    pub too_short : length b < f.size + features_size → ◌≡◌ {A = ℕ × List ℕ} (0, b) (written b members q gets sets features)
    unfolding written placed
    too_short h =
        pass _ _ _ _ numbers-right
        (pass _ _ _ _ (eq-eqb (length features) features_size l)
        (stop _ _ _ _ (is_gt _ _ (length b) (sym size_is) h) refl))

    pub all-written : (o r : List ℕ) → f.size + features_size ≤ length b → o ≡ put 0 (big_endian f.size f.number) b
        → r ≡ put f.size features o → ◌≡◌ {A = ℕ × List ℕ} (f.size + features_size, r) (written b members q gets sets features)
    unfolding written placed
    all-written o r h d g =
        let w : r ≡ put 0 (packed_setup members q gets sets features) b = whole o r d g in
        pass _ _ _ _ numbers-right
        (pass _ _ _ _ (eq-eqb (length features) features_size l)
        (pass _ _ _ _ (is_le _ _ (length b) (sym size_is) h) (rw (size_is, w))))
