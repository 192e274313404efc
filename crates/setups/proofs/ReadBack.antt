-- What is written reads back the same. Assumes nothing.
use mathlib.Core.Path.{◌≡◌, refl, ap, sym, ◌∙◌}
use mathlib.Core.Bool.{true}
use mathlib.Core.List.{List, [], ◌∷◌, ◌++◌, map}
use Rattle.std.proofs.Common.{Ok, Err}
use Prim.Native.Nat.{ℕ, suc, ◌+◌, ◌-◌, ◌*◌, ◌/◌, ◌%◌, ◌≤◌}
use native.Mathlib.Nat.{add-zero}
use native.Mathlib.Omega.{arith}
use borrow.Author.Tests.{eqb-true, eq-eqb}
use lib.Dec.{eqb}
use lib.ListN.{length, drop, length-append}
use lib.Pow.{pow_pos}
use lib.Seq.{drop_at}
use Rattle.theory.specs.Logic.{when◌then◌else◌}
use Rattle.theory.proofs.Tests.{by_cases, and_i, both, within_low}
use Rattle.theory.proofs.Ladder.{is_le, pass}
use Rattle.setups.specs.declared.ReadRefusal.TheVariants.{Version2}
use Rattle.setups.specs.Bits.{bits_at, Field, field, widths, packed}
use Rattle.setups.specs.Setup.{features_size, all, is_count, setup_with}
use Rattle.setups.specs.Reading.{count_bytes, padding, counts_from, setup_at, head_right, is_version1, is_version2, take_version1, take_version2, read_version1, read_setup}
use Rattle.setups.specs.Writing.{head_fields, count_field, count_fields, first_count, are_equal, fields_of, packed_setup, InNumbers}
use Rattle.setups.proofs.Ranges.{count_less}
use Rattle.setups.proofs.Fields.{length-big, Fit, Reads, packed-reads}
use Rattle.setups.proofs.Writing.{widths-head, widths-version-2, first-count}

-- ---- the fields fit ----

counts-fit : {rest : List Field} (q : List ℕ) → all is_count q ≡ true → Fit rest → Fit (map count_field q ++ rest)
unfolding all
counts-fit [] e r = r
counts-fit (x ∷ q) e r =
    let p = both _ _ e in
    Fit.more (count_field x) (omega (arith, count_less x p.0)) (counts-fit q p.1 r)

padded-fit : (q : List ℕ) → all is_count q ≡ true → Fit (count_fields q)
unfolding count_fields
padded-fit q e = counts-fit q e (Fit.more (field (padding (length q)) 0) (pow_pos (padding (length q))) Fit.none)

-- ---- the fields that are read ----

-- the head, and what is behind it
record Head (l : List ℕ) (version members x gets sets : ℕ) (rest : List Field) : Type 0 where
  version-is : bits_at 0 4 l ≡ version
  members-is : bits_at 4 4 l ≡ members - 1
  count-is : bits_at 8 2 l ≡ x
  gets-is : bits_at 10 4 l ≡ gets
  sets-is : bits_at 14 4 l ≡ sets
  zeros-is : bits_at 18 6 l ≡ 0
  behind : Reads l 24 rest

head_read : {rest : List Field} (l : List ℕ) (version members x gets sets : ℕ)
    → Reads l 0 (head_fields version members x gets sets ++ rest) → Head l version members x gets sets rest
head_read l version members x gets sets (Reads.more a (Reads.more b (Reads.more c (Reads.more d (Reads.more e (Reads.more f r)))))) =
    record { version-is = a; members-is = b; count-is = c; gets-is = d; sets-is = e; zeros-is = f; behind = r }

-- the counts from a position on, one for each member
counts-read : {rest : List Field} (l : List ℕ) (at : ℕ) (q : List ℕ) → all is_count q ≡ true → Reads l at (map count_field q ++ rest)
    → (counts_from l at 2 (length q) ≡ q) × Reads l (at + 2 * length q) rest
unfolding all counts_from
counts-read {rest} l at [] e r = (refl, let z : at + 2 * 0 ≡ at = omega arith in rw z r)
counts-read {rest} l at (x ∷ q) e (Reads.more a r) =
    let p = both _ _ e in
    let m : 1 ≤ x = within_low 1 4 x p.0 in
    let b : bits_at at 2 l + 1 ≡ x = omega arith in
    let i = counts-read l (at + 2) q p.1 r in
    let z : at + 2 + 2 * length q ≡ at + 2 * suc (length q) = omega arith in
    (rw (b, i.0), rw z at i.1)

padding-read : (l : List ℕ) (n m : ℕ) → n ≡ m → Reads l (24 + 2 * n) (field (padding n) 0 ∷ []) → bits_at (24 + 2 * m) (padding m) l ≡ 0
padding-read l n m e (Reads.more a r) = rw e at a

-- one count for every member
count-read : (l : List ℕ) (at x : ℕ) (q : List ℕ) → all (eqb x) q ≡ true → bits_at at 2 l + 1 ≡ x → counts_from l at 0 (length q) ≡ q
unfolding all counts_from
count-read l at x [] e b = refl
count-read l at x (y ∷ q) e b =
    let p = both _ _ e in
    let d : bits_at at 2 l + 1 ≡ y = b ∙ eqb-true x y p.0 in
    rw (add-zero, d, count-read l at x q p.1 b)

-- ---- the readers ----

module _ (members : ℕ) (q : List ℕ) (gets sets : ℕ) (h : InNumbers members q gets sets) (features : List ℕ)
    (n : length features ≡ features_size) where
  head-is : {rest : List Field} (version x : ℕ) → version ≤ 2 → x ≤ 3 → Fit rest → widths (head_fields version members x gets sets ++ rest) % 8 ≡ 0
      → Head (packed (head_fields version members x gets sets ++ rest) ++ features) version members x gets sets rest
  head-is {rest} version x v k r w =
      let a = h.few in
      let b = h.few_gets in
      let c = h.few_sets in
      head_read _ version members x gets sets
      (packed-reads (head_fields version members x gets sets ++ rest) features
      (Fit.more (field 4 version) (omega arith) (Fit.more (field 4 (members - 1)) (omega arith) (Fit.more (field 2 x) (omega arith)
      (Fit.more (field 4 gets) (omega arith) (Fit.more (field 4 sets) (omega arith) (Fit.more (field 6 0) (omega arith) r)))))) w)

  module _ (fs : List Field) where
    whole_long : length (packed fs ++ features) ≡ widths fs / 8 + features_size
    unfolding packed
    whole_long = rw (length-append, length-big, n)

    last-features : drop (length (packed fs ++ features) - features_size) (packed fs ++ features) ≡ features
    last-features = drop_at (packed fs) features (length (packed fs ++ features) - features_size) (rw (length-append, n) (omega arith))

    module _ {rest : List Field} {version x : ℕ} (a : Head (packed fs ++ features) version members x gets sets rest) where
      members-read : bits_at 4 4 (packed fs ++ features) + 1 ≡ members
      members-read = let m = h.some in omega (arith, a.members-is)

      head-right : head_right (packed fs ++ features) ≡ true
      unfolding head_right
      head-right =
          and_i _ _ (and_i _ _ (eq-eqb _ _ a.zeros-is) (is_le _ gets 8 (sym a.gets-is) h.few_gets))
          (is_le _ sets 8 (sym a.sets-is) h.few_sets)

      setup-is : (at step : ℕ) → counts_from (packed fs ++ features) at step (length q) ≡ q
          → setup_at (packed fs ++ features) at step ≡ setup_with members q gets sets features
      unfolding setup_at
      setup-is at step e =
          let m : counts_from (packed fs ++ features) at step members ≡ q = rw h.each at e in
          rw (members-read, m, a.gets-is, a.sets-is, last-features)

  -- equal counts, as version 1
  abbrev fields1 : List Field
  fields1 = head_fields 1 members (first_count q - 1) gets sets

  version-1-head : Head (packed fields1 ++ features) 1 members (first_count q - 1) gets sets []
  version-1-head = head-is 1 (first_count q - 1) (omega arith) (count_less (first_count q) (first-count members q gets sets h)) Fit.none (rw widths-head)

  version-1-read : all (eqb (first_count q)) q ≡ true → take_version1 (packed fields1 ++ features) ≡ Ok (setup_with members q gets sets features)
  unfolding take_version1 is_version1
  version-1-read e =
      let a = version-1-head in
      let m : 1 ≤ first_count q = within_low 1 4 (first_count q) (first-count members q gets sets h) in
      let c = count-read (packed fields1 ++ features) 8 (first_count q) q e (omega (arith, a.count-is)) in
      let t : is_version1 (packed fields1 ++ features) ≡ true =
      and_i _ _ (and_i _ _ (eq-eqb _ _ a.version-is) (eq-eqb _ _ (whole_long fields1 ∙ rw widths-head))) (head-right fields1 a) in
      sym (pass _ _ _ _ t (ap Ok (sym (setup-is fields1 a 8 0 c))))

  -- others, as version 2
  abbrev fields2 : List Field
  fields2 = head_fields 2 members 0 gets sets ++ count_fields q

  version-2-wide : widths fields2 ≡ 24 + 8 * count_bytes members
  version-2-wide = widths-version-2 (head_fields 2 members 0 gets sets) q ∙ rw (widths-head, h.each)

  version-2-head : Head (packed fields2 ++ features) 2 members 0 gets sets (count_fields q)
  version-2-head = head-is 2 0 (omega arith) (omega arith) (padded-fit q h.counts) (rw version-2-wide (omega arith))

  version-2-read : take_version2 (packed fields2 ++ features) ≡ Ok (setup_with members q gets sets features)
  unfolding take_version2 is_version2 count_fields
  version-2-read =
      let l = packed fields2 ++ features in
      let a = version-2-head in
      let c = counts-read l 24 q h.counts a.behind in
      let m = members-read fields2 a in
      let p = padding-read l (length q) members h.each c.1 in
      let t : is_version2 (bits_at 4 4 l + 1) l ≡ true =
      rw m (and_i _ _ (and_i _ _ (and_i _ _ (eq-eqb _ _ (whole_long fields2 ∙ rw version-2-wide (omega arith))) (head-right fields2 a))
      (eq-eqb _ _ a.count-is)) (eq-eqb _ _ p)) in
      sym (pass _ _ _ _ t (ap Ok (sym (setup-is fields2 a 24 2 c.0))))

  -- both readers of either
  pub reads-back : read_setup (packed_setup members q gets sets features) ≡ Ok (setup_with members q gets sets features)
  unfolding read_setup packed_setup fields_of are_equal when◌then◌else◌
  reads-back =
      by_cases (all (eqb (first_count q)) q) (λ e. rw (e, version-1-head.version-is) (version-1-read e)) (λ e. rw (e, version-2-head.version-is) version-2-read)

  pub reads-version-1 : read_version1 (packed_setup members q gets sets features)
      ≡ (when are_equal q then Ok (setup_with members q gets sets features) else Err Version2)
  unfolding read_version1 packed_setup fields_of are_equal when◌then◌else◌
  reads-version-1 =
      by_cases (all (eqb (first_count q)) q) (λ e. rw (e, version-1-head.version-is) (version-1-read e)) (λ e. rw (e, version-2-head.version-is))
