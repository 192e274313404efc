-- What is read as version 1, or as version 2 with counts that differ, is written back to the same bytes. Assumes nothing.
use mathlib.Core.Path.{◌≡◌, refl, ap, sym, ◌∙◌}
use mathlib.Core.Bool.{true, false}
use mathlib.Core.List.{List, [], ◌∷◌, ◌++◌, map}
use Rattle.std.proofs.Common.{Ok}
use Prim.Native.Nat.{ℕ, zero, suc, ◌+◌, ◌-◌, ◌*◌, ◌/◌, ◌%◌, ◌^◌, ◌≤◌, ◌<◌}
use native.Mathlib.Nat.{zero-add, pow-suc}
use native.Mathlib.Omega.{arith}
use borrow.Author.Tests.{eq-eqb, eqb-true}
use lib.Dec.{eqb}
use lib.ListN.{length, get_or, take, drop, take-append-drop}
use lib.Pow.{pow-add, shr-shr}
use lib.Seq.{take-suc}
use Rattle.theory.specs.Logic.{when◌then◌else◌, unless◌answer◌then◌}
use Rattle.theory.proofs.Tests.{by_cases, and_i}
use Rattle.theory.proofs.Bytes.{put_front}
use Rattle.setups.specs.declared.Setup.{Setup}
use Rattle.setups.specs.Bits.{bit, bits_at, Field, field, widths, joined, big_endian, packed}
use Rattle.setups.specs.Setup.{all}
use Rattle.setups.specs.Reading.{version_in, members_in, gets_in, sets_in, padding, counts_from, setup_at, is_version1, is_version2, take_version1, take_version2, read_setup}
use Rattle.setups.specs.Writing.{head_fields, count_field, count_fields, first_count, are_equal, fields_of, packed_setup, written}
use Rattle.setups.specs.Accepted.{EqualCounts}
use Rattle.setups.specs.Claims.{counts_read, InRange}
use Rattle.setups.proofs.Ranges.{numbers-in}
use Rattle.setups.proofs.Fields.{bits_below, Reads}
use Rattle.setups.proofs.Writing.{widths-head, widths-version-2}
use Rattle.setups.proofs.InRange.{counts-long, take-sixteen, version-1-in-range, version-2-in-range}
use Rattle.setups.proofs.Accepted.{numbers-good, unequal-counts, written-good, packed-version-1, packed-version-2}

-- ---- bits read, and the bytes that they are ----

bits-append : (at a b : ℕ) (l : List ℕ) → bits_at at (a + b) l ≡ bits_at at a l * 2 ^ b + bits_at (at + a) b l
unfolding bits_at
bits-append at a zero l = let e : a + 0 ≡ a = omega arith in rw e (omega arith)
bits-append at a (suc b) l =
    let e : a + suc b ≡ suc (a + b) = omega arith in
    let d : at + (a + b) ≡ at + a + b = omega arith in
    rw (e, bits-append at a b l, pow-suc, d) (omega arith)

-- fields that are read, as one number
joined-read : (l : List ℕ) {fs : List Field} (at x : ℕ) → Reads l at fs
    → joined x fs ≡ x * 2 ^ widths fs + bits_at at (widths fs) l
unfolding joined widths bits_at
joined-read l at x Reads.none = omega arith
joined-read l at x (Reads.more {f} {fs} e r) =
    rw (
      joined-read l (at + f.width) (x * 2 ^ f.width + f.value) r,
      bits-append at f.width (widths fs) l,
      e,
      pow-add,
    ) (omega arith)

-- the first k bits of byte n
bits_in : (n k : ℕ) (l : List ℕ) → get_or l n 0 < 256 → k ≤ 8 → bits_at (8 * n) k l ≡ get_or l n 0 / 2 ^ (8 - k)
unfolding bits_at bit
bits_in n zero l h i = omega arith
bits_in n (suc k) l h i =
    let d : (8 * n + k) / 8 ≡ n = omega arith in
    let m : (8 * n + k) % 8 ≡ k = omega arith in
    let e : 8 - k ≡ 7 - k + 1 = omega arith in
    let g : 8 - suc k ≡ 7 - k = omega arith in
    rw (bits_in n k l h (omega arith), d, m, e, ← shr-shr (get_or l n 0) (7 - k) 1, g) (omega arith)

byte-read : (n : ℕ) (l : List ℕ) → get_or l n 0 < 256 → bits_at (8 * n) 8 l ≡ get_or l n 0
byte-read n l h = bits_in n 8 l h (omega arith) ∙ omega arith

bytes_read : (n : ℕ) (l : List ℕ) → ((i : ℕ) → get_or l i 0 < 256) → n ≤ length l → big_endian n (bits_at 0 (8 * n) l) ≡ take n l
unfolding big_endian
bytes_read zero l h k = refl
bytes_read (suc n) l h k =
    let e : 8 * suc n ≡ 8 * n + 8 = omega arith in
    let x = bits_at 0 (8 * n) l in
    let b = get_or l n 0 in
    let y : bits_at 0 (8 * suc n) l ≡ x * 256 + b =
    rw e (bits-append 0 (8 * n) 8 l ∙ ap (λ (z : ℕ). x * 2 ^ 8 + z) (rw zero-add (byte-read n l (h n)))) in
    let small = h n in
    let p : (x * 256 + b) / 256 ≡ x = omega arith in
    let q : (x * 256 + b) % 256 ≡ b = omega arith in
    rw (y, p, q, bytes_read n l h (omega arith)) (sym (take-suc l n 0 k))

packed-back : {fs : List Field} (n : ℕ) (l : List ℕ) → Reads l 0 fs → widths fs ≡ 8 * n → ((i : ℕ) → get_or l i 0 < 256)
    → n ≤ length l
    → packed fs ≡ take n l
unfolding packed
packed-back {fs} n l r w h k =
    let d : widths fs / 8 ≡ n = omega arith in
    let e : joined 0 fs ≡ bits_at 0 (8 * n) l = joined-read l 0 0 r ∙ rw w (omega arith) in
    rw (d, e) (bytes_read n l h k)

-- ---- the fields of a setup that is read ----

head-back : {rest : List Field} (l : List ℕ) (version x : ℕ) → bits_at 0 4 l ≡ version → bits_at 8 2 l ≡ x → bits_at 18 6 l ≡ 0
    → Reads l 24 rest
    → Reads l 0 (head_fields version (members_in l) x (gets_in l) (sets_in l) ++ rest)
head-back l version x v c z r =
    let m : bits_at 4 4 l ≡ members_in l - 1 = omega arith in
    Reads.more v (Reads.more m (Reads.more c (Reads.more refl (Reads.more refl (Reads.more z r)))))

counts-back : {rest : List Field} (l : List ℕ) (at n : ℕ) → Reads l (at + 2 * n) rest
    → Reads l at (map count_field (counts_from l at 2 n) ++ rest)
unfolding counts_from
counts-back l at zero r = let z : at + 2 * 0 ≡ at = omega arith in rw z at r
counts-back l at (suc n) r =
    let z : at + 2 * suc n ≡ at + 2 + 2 * n = omega arith in
    let q : bits_at at 2 l ≡ bits_at at 2 l + 1 - 1 = omega arith in
    Reads.more q (counts-back l (at + 2) n (rw z at r))

-- in version 1 all counts are the one at position 8
one-count : (l : List ℕ) (at n : ℕ) → all (eqb (bits_at at 2 l + 1)) (counts_from l at 0 n) ≡ true
unfolding all counts_from
one-count l at zero = refl
one-count l at (suc n) =
    let e : at + 0 ≡ at = omega arith in
    rw e (and_i _ _ (eq-eqb (bits_at at 2 l + 1) _ refl) (one-count l at n))

first_read : (l : List ℕ) (at step n : ℕ) → 1 ≤ n → first_count (counts_from l at step n) ≡ bits_at at 2 l + 1
unfolding counts_from
first_read l at step zero h = absurd (omega arith)
first_read l at step (suc n) h = refl

-- ---- written back ----

module _ (l : List ℕ) (h : (i : ℕ) → get_or l i 0 < 256) where
  -- what is written of the setup at a position
  abbrev back : ℕ → ℕ → List ℕ
  back at step =
      packed_setup (members_in l) (counts_from l at step (members_in l)) (gets_in l) (sets_in l) (drop (length l - 16) l)

  version-1-back : is_version1 l ≡ true → back 8 0 ≡ l
  unfolding packed_setup fields_of are_equal when◌then◌else◌
  version-1-back t =
      let p = packed-version-1 l t in
      let f = first_read l 8 0 (members_in l) (omega arith) in
      let x : bits_at 8 2 l ≡ first_count (counts_from l 8 0 (members_in l)) - 1 = omega (arith, f) in
      let e : all (eqb (first_count (counts_from l 8 0 (members_in l)))) (counts_from l 8 0 (members_in l))
      ≡ true = rw f (one-count l 8 (members_in l)) in
      let n : length l - 16 ≡ 3 = omega (arith, p.long) in
      rw (
        e,
        n,
        packed-back 3 l (head-back l 1 _ p.version x p.zeros Reads.none) (widths-head 1 _ _ _ _) h (omega (
          arith,
          p.long,
        )),
      )
      (take-append-drop 3 l)

  version-2-back : bits_at 0 4 l ≡ 2 → is_version2 (members_in l) l ≡ true → are_equal (counts_from l 24 2 (members_in l)) ≡ false
      → back 24 2 ≡ l
  unfolding packed_setup fields_of count_fields when◌then◌else◌
  version-2-back v t e =
      let p = packed-version-2 l v t in
      let q = counts_from l 24 2 (members_in l) in
      let k : length q ≡ members_in l = counts-long l 24 2 (members_in l) in
      let n : length l - 16 ≡ 3 + (members_in l + 3) / 4 = omega (arith, p.long) in
      let r : Reads l 24 (map count_field q ++ (field (padding (length q)) 0 ∷ [])) =
      counts-back l 24 (members_in l) (rw k (Reads.more p.padding Reads.none)) in
      let w : widths (head_fields 2 (members_in l) 0 (gets_in l) (sets_in l) ++
      (map count_field q ++ (field (padding (length q)) 0 ∷ []))) ≡ 8 * (3 + (members_in l + 3) / 4) =
      widths-version-2 (head_fields 2 (members_in l) 0 (gets_in l) (sets_in l)) q ∙ rw (widths-head, k) (omega arith) in
      rw (
        e,
        n,
        packed-back (3 + (members_in l + 3) / 4) l (head-back l 2 0 v p.no_count p.zeros r) w h (omega (
          arith,
          p.long,
        )),
      )
      (take-append-drop (3 + (members_in l + 3) / 4) l)

  module _ (buffer : List ℕ) (room : length l ≤ length buffer) where
    counts-taken : (at step : ℕ) → counts_read (setup_at l at step) ≡ counts_from l at step (members_in l)
    unfolding setup_at
    counts-taken at step = take-sixteen _ (members_in l) (counts-long l at step (members_in l)) (omega (arith, bits_below 4 4 l))

    put_back : (at step : ℕ) → back at step ≡ l → InRange (setup_at l at step)
        → written buffer (setup_at l at step).members (counts_read (setup_at l at step)) (setup_at l at step).gets
        (setup_at l at step).sets (setup_at l at step).features
        ≡ (length l, l ++ drop (length l) buffer)
    unfolding setup_at
    put_back at step e r =
        let c = counts-taken at step in
        let n = rw c at (numbers-in _ _ _ _ r.numbers) in
        let g = numbers-good _ _ _ _ _ n r.features in
        rw c (written-good buffer _ _ _ _ _ g (rw e room) ∙ rw (e, put_front l buffer room))

    pub written_back : (s : Setup) → read_setup l ≡ Ok s → (bits_at 0 4 l ≡ 2 → EqualCounts (counts_read s) → ⊥)
        → written buffer s.members (counts_read s) s.gets s.sets s.features ≡ (length l, l ++ drop (length l) buffer)
    unfolding read_setup take_version1 take_version2 when◌then◌else◌ unless◌answer◌then◌
    written_back s e differ = by_cases (eqb (version_in l) 2)
        (λ t. by_cases (is_version2 (members_in l) l)
        (λ u.
        let f = rw (t, u) at e in
        let d : setup_at l 24 2 ≡ s = cc in
        let v = eqb-true _ 2 t in
        let q : are_equal (counts_from l 24 2 (members_in l)) ≡ false = rw (← counts-taken 24 2, d) (unequal-counts _ (differ v)) in
        rw (← d) (put_back 24 2 (version-2-back v u q) (version-2-in-range l u)))
        (λ u. let f = rw (t, u) at e in cc))
        (λ t. by_cases (is_version1 l)
        (λ u.
        let f = rw (t, u) at e in
        let d : setup_at l 8 0 ≡ s = cc in
        rw (← d) (put_back 8 0 (version-1-back u) (version-1-in-range l u)))
        (λ u. let f = rw (t, u) at e in cc))
