-- Which setups are written, and which packed ones are read. Assumes nothing.
use mathlib.Core.Path.{◌≡◌, refl, ap, sym, ◌∙◌}
use mathlib.Core.Bool.{true, false}
use mathlib.Core.List.{List}
use Prim.Native.Nat.{ℕ, ◌+◌, ◌/◌, ◌≤◌, ◌<◌}
use native.Mathlib.Omega.{arith}
use borrow.Author.Tests.{eqb-true, leb-true, le-leb, eq-eqb, ne_eqb}
use lib.Dec.{leb, eqb}
use lib.ListN.{length, get_or, length-append}
use Rattle.theory.specs.Logic.{when◌then◌else◌, unless◌answer◌then◌}
use Rattle.theory.specs.Bytes.{put}
use Rattle.theory.proofs.Tests.{by_cases, both, and_i, inside, within_low, within-high}
use Rattle.theory.proofs.Ladder.{pass}
use Rattle.setups.specs.Bits.{bits_at, packed}
use Rattle.setups.specs.Setup.{features_size, in_ranges, is_count, in_numbers}
use Rattle.setups.specs.Reading.{version_in, members_in, head_right, is_version1, is_version2, take_version1, take_version2, read_version1, read_setup}
use Rattle.setups.specs.Writing.{head_fields, first_count, are_equal, fields_of, packed_setup, placed, written, InNumbers}
use Rattle.setups.specs.Accepted.{GoodSetup, EqualCounts, Writer, Packed1, Packed2, Readers}
use Rattle.setups.proofs.Ranges.{all-at, all_of, numbers-in}
use Rattle.setups.proofs.Fields.{length-big}
use Rattle.setups.proofs.Writing.{widths-head, widths-version-2}

-- ---- setups ----

module _ (members : ℕ) (q : List ℕ) (gets sets : ℕ) (features : List ℕ) where
  pub numbers-good : InNumbers members q gets sets → length features ≡ 16 → GoodSetup members q gets sets features
  numbers-good n l =
      let each = n.each in
      let count : (i : ℕ) → i < members → is_count (get_or q i 0) ≡ true = λ i h. all-at is_count q i n.counts (omega arith) in
      record {
        some = n.some;
        few = n.few;
        each = n.each;
        least = λ i h. within_low 1 4 (get_or q i 0) (count i h);
        most = λ i h. within-high 1 4 (get_or q i 0) (count i h);
        few_gets = n.few_gets;
        few_sets = n.few_sets;
        long = l;
      }

  module _ (h : GoodSetup members q gets sets features) where
    pub good-numbers : in_numbers members q gets sets ≡ true
    unfolding in_numbers in_ranges
    good-numbers =
        let each = h.each in
        and_i _ _ (and_i _ _ (and_i _ _ (and_i _ _ (inside 1 16 members h.some h.few) (le-leb gets 8 h.few_gets))
        (le-leb sets 8 h.few_sets))
        (eq-eqb (length q) members each))
        (all_of is_count q λ i k. inside 1 4 (get_or q i 0) (h.least i (omega arith)) (h.most i (omega arith)))

    packed-1-long : are_equal q ≡ true → length (packed_setup members q gets sets features) ≡ 19
    unfolding packed_setup packed fields_of when◌then◌else◌
    packed-1-long e = rw (e, length-append, length-big, h.long, widths-head)

    packed-2-long : are_equal q ≡ false → length (packed_setup members q gets sets features) ≡ 19 + (members + 3) / 4
    unfolding packed_setup packed fields_of when◌then◌else◌
    packed-2-long e =
        rw (
          e,
          length-append,
          length-big,
          h.long,
          widths-version-2 (head_fields 2 members 0 gets sets) q,
          widths-head 2 members 0 gets sets,
          h.each,
        ) (omega arith)

equal-counts : (q : List ℕ) → EqualCounts q → are_equal q ≡ true
unfolding are_equal
equal-counts q h = all_of (eqb (first_count q)) q λ i k. eq-eqb _ _ (sym (h i k))

counts-equal : (q : List ℕ) → are_equal q ≡ true → EqualCounts q
unfolding are_equal
counts-equal q e i h = sym (eqb-true _ _ (all-at (eqb (first_count q)) q i e h))

pub unequal-counts : (q : List ℕ) → (EqualCounts q → ⊥) → are_equal q ≡ false
unequal-counts q n = by_cases (are_equal q) (λ e. absurd (n (counts-equal q e))) (λ e. e)

-- ---- the writer ----

module _ (buffer : List ℕ) (members : ℕ) (q : List ℕ) (gets sets : ℕ) (features : List ℕ) where
  -- what was written, where it was not refused
  pub record Some (n : ℕ) (b : List ℕ) : Type 0 where
    pub numbers : InNumbers members q gets sets
    pub long : length features ≡ features_size
    pub fits : length (packed_setup members q gets sets features) ≤ length buffer
    pub count : n ≡ length (packed_setup members q gets sets features)
    pub after : b ≡ put 0 (packed_setup members q gets sets features) buffer

  pub written-cases : {P : Type 0} (n : ℕ) (b : List ℕ)
      → ◌≡◌ {A = ℕ × List ℕ} (n, b) (written buffer members q gets sets features)
      → (◌≡◌ {A = ℕ × List ℕ} (n, b) (0, buffer) → P) → (Some n b → P) → P
  unfolding written placed unless◌answer◌then◌
  written-cases n b e f g =
      by_cases (in_numbers members q gets sets)
      (λ t. by_cases (eqb (length features) features_size)
      (λ u. by_cases (leb (length (packed_setup members q gets sets features)) (length buffer))
      (λ v.
      let d = rw (t, u, v) at e in
      g (record {
        numbers = numbers-in members q gets sets t;
        long = eqb-true _ _ u;
        fits = leb-true _ _ v;
        count = ap (λ (x : ℕ × List ℕ). x.0) d;
        after = ap (λ (x : ℕ × List ℕ). x.1) d;
      }))
      (λ v. f (rw (t, u, v) at e))) (λ u. f (rw (t, u) at e))) (λ t. f (rw t at e))

  pub written-good : GoodSetup members q gets sets features → length (packed_setup members q gets sets features) ≤ length buffer
      → written buffer members q gets sets features
      ≡ (length (packed_setup members q gets sets features), put 0 (packed_setup members q gets sets features) buffer)
  unfolding written placed
  written-good h k =
      sym (pass _ _ _ _ (good-numbers members q gets sets features h)
      (pass _ _ _ _ (eq-eqb _ _ h.long) (pass _ _ _ _ (le-leb _ _ k) refl)))

  size-written : GoodSetup members q gets sets features → (n : ℕ) → length (packed_setup members q gets sets features) ≡ n
      → n ≤ length buffer
      → (written buffer members q gets sets features).0 ≡ n
  size-written h n e k = ap (λ (x : ℕ × List ℕ). x.0) (written-good h (rw e k)) ∙ e

  -- whatever rules out that something was written
  none_written : ((n : ℕ) (b : List ℕ) → Some n b → ⊥) → (written buffer members q gets sets features).0 ≡ 0
  none_written f = written-cases _ _ refl (λ e. ap (λ (x : ℕ × List ℕ). x.0) e) (λ s. absurd (f _ _ s))

  some_good : (n : ℕ) (b : List ℕ) → Some n b → GoodSetup members q gets sets features
  some_good n b s = numbers-good members q gets sets features s.numbers s.long

  pub writes : Writer buffer members q gets sets features
  writes = record {
    version1 = λ h e. size-written h 19 (packed-1-long members q gets sets features h (equal-counts q e));
    version2 = λ h e. size-written h (19 + (members + 3) / 4) (packed-2-long members q gets sets features h (unequal-counts q e));
    bad = λ h. none_written λ n b s. h (some_good n b s);
    short1 = λ e h. none_written λ n b s.
        let l = packed-1-long members q gets sets features (some_good n b s) (equal-counts q e) in omega (arith, s.fits);
    short2 = λ e h. none_written λ n b s.
        let l = packed-2-long members q gets sets features (some_good n b s) (unequal-counts q e) in omega (arith, s.fits);
  }

-- ---- the readers ----

module _ (l : List ℕ) where
  pub packed-version-1 : is_version1 l ≡ true → Packed1 l
  unfolding is_version1 head_right
  packed-version-1 t =
      let a = both _ _ t in
      let b = both _ _ a.0 in
      let c = both _ _ a.1 in
      let d = both _ _ c.0 in
      record {
        version = eqb-true _ _ b.0;
        long = eqb-true _ _ b.1;
        few_gets = leb-true _ _ d.1;
        few_sets = leb-true _ _ c.1;
        zeros = eqb-true _ _ d.0;
      }

  version-1-packed : Packed1 l → is_version1 l ≡ true
  unfolding is_version1 head_right
  version-1-packed p =
      and_i _ _ (and_i _ _ (eq-eqb _ _ p.version) (eq-eqb _ _ p.long))
      (and_i _ _ (and_i _ _ (eq-eqb _ _ p.zeros) (le-leb _ _ p.few_gets)) (le-leb _ _ p.few_sets))

  not-version-1 : (Packed1 l → ⊥) → is_version1 l ≡ false
  not-version-1 f = by_cases (is_version1 l) (λ t. absurd (f (packed-version-1 t))) (λ t. t)

  pub packed-version-2 : bits_at 0 4 l ≡ 2 → is_version2 (members_in l) l ≡ true → Packed2 (bits_at 4 4 l + 1) l
  unfolding is_version2 head_right
  packed-version-2 v t =
      let a = both _ _ t in
      let b = both _ _ a.0 in
      let c = both _ _ b.0 in
      let d = both _ _ c.1 in
      let e = both _ _ d.0 in
      let h = eqb-true _ _ c.0 in
      record {
        version = v;
        members = refl;
        long = h ∙ omega arith;
        no_count = eqb-true _ _ b.1;
        few_gets = leb-true _ _ e.1;
        few_sets = leb-true _ _ d.1;
        zeros = eqb-true _ _ e.0;
        padding = eqb-true _ _ a.1;
      }

  not-version-2 : bits_at 0 4 l ≡ 2 → (Packed2 (bits_at 4 4 l + 1) l → ⊥) → is_version2 (members_in l) l ≡ false
  not-version-2 v f = by_cases (is_version2 (members_in l) l) (λ t. absurd (f (packed-version-2 v t))) (λ t. t)

  version-2-packed : (n : ℕ) → Packed2 n l → is_version2 (members_in l) l ≡ true
  unfolding is_version2 head_right
  version-2-packed n p =
      rw p.members
      (and_i _ _ (and_i _ _ (and_i _ _ (eq-eqb _ _ (p.long ∙ omega arith))
      (and_i _ _ (and_i _ _ (eq-eqb _ _ p.zeros) (le-leb _ _ p.few_gets)) (le-leb _ _ p.few_sets)))
      (eq-eqb _ _ p.no_count)) (eq-eqb _ _ p.padding))

  pub reads : Readers l
  unfolding read_version1 read_setup take_version1 take_version2 when◌then◌else◌ unless◌answer◌then◌
  reads = record {
    read1 = λ p.
        let a : eqb (version_in l) 2 ≡ false = ne_eqb _ 2 (λ (e : version_in l ≡ 2). omega (arith, p.version)) in
        (rw (a, version-1-packed p), rw (a, version-1-packed p));
    read2 = λ n p. let a : eqb (version_in l) 2 ≡ true = eq-eqb _ 2 p.version in rw (a, version-2-packed n p);
    named2 = λ e. rw (eq-eqb (version_in l) 2 e);
    refused1 = λ f v. let a : eqb (version_in l) 2 ≡ false = ne_eqb _ 2 v in rw (a, not-version-1 f);
    refused = λ f g. by_cases (eqb (version_in l) 2)
        (λ a. rw (a, not-version-2 (eqb-true _ 2 a) g))
        (λ a. rw (a, not-version-1 f));
  }
