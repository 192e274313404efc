-- A whole list: what the walk leaves, from the values of a fresh member on, is what is written and reported. Assumes nothing.
use mathlib.Core.Path.{◌≡◌, refl, ap, sym, ◌∙◌}
use mathlib.Core.Bool.{false}
use mathlib.Core.List.{List, [], ◌∷◌}
use Prim.Native.Nat.{ℕ, ◌+◌, ◌-◌, ◌<◌, ◌≤◌}
use native.Mathlib.Nat.{zero-add, add-zero, add_assoc}
use native.Mathlib.Omega.{arith}
use lib.ListN.{length, get_or, set, replicate, length-append, length-replicate}
use Rattle.theory.specs.Logic.{when◌then◌else◌}
use Rattle.theory.specs.Bytes.{put}
use Rattle.theory.proofs.Tests.{false-or}
use Rattle.theory.proofs.Bytes.{put-nil, put-cons}
use Rattle.theory.proofs.Items.{items-same}
use Rattle.theory.proofs.Lists.{get_or-same}
use Rattle.inventory.specs.Inventory.{row_at, row_count, features_size, values_size, parts_size, value_of}
use Rattle.parts.specs.declared.ListForm.TheVariants.{Parts}
use Rattle.parts.specs.List.{PartList, end, cut, part, parts_of}
use Rattle.capture.specs.Capture.{All, part_at, asks, part_item, parts_written, capture_of}
use Rattle.member.specs.Member.{fresh_of}
use Rattle.member.proofs.Record.{fresh-values}
use Rattle.salvage.specs.Salvage.{is_kept, dropped_from, fresh_value, row_value, repaired_item, repaired, kept_item, kept_report, dropped_report, salvage, salvaged}
use Rattle.salvage.specs.Claims.{parts_read}
use Rattle.salvage.specs.Walk.{State, state, taken, walked, Sized, Walked, Begins, flag_item, flags_of, Fits}
use Rattle.salvage.proofs.Fates.{flag, taken-sized}
use Rattle.salvage.proofs.Rows.{walked-flag, walked-value}
use Rattle.salvage.proofs.Counts.{walked-count}

-- ---- four counts ----

four : (l : List ℕ) → length l ≡ 4 → l ≡ get_or l 0 0 ∷ get_or l 1 0 ∷ get_or l 2 0 ∷ get_or l 3 0 ∷ []
four [] e = absurd (omega arith)
four (a ∷ []) e = absurd (omega arith)
four (a ∷ b ∷ []) e = absurd (omega arith)
four (a ∷ b ∷ c ∷ []) e = absurd (omega arith)
four (a ∷ b ∷ c ∷ d ∷ []) e = refl
four (a ∷ b ∷ c ∷ d ∷ x ∷ l) e = absurd (omega arith)

pub counts-put : (l out : List ℕ) → length l ≡ 4
    → set (set (set (set out 0 (get_or l 0 0)) 1 (get_or l 1 0)) 2 (get_or l 2 0)) 3 (get_or l 3 0) ≡ put 0 l out
counts-put l out e =
    sym
    (ap (λ x. put 0 x out) (four l e)
    ∙ rw (put-cons 0 (get_or l 0 0), put-cons 1 (get_or l 1 0), put-cons 2 (get_or l 2 0), put-cons 3 (get_or l 3 0)) (put-nil 4 _))

-- ---- the start ----

-- the values of a fresh member, no row kept, nothing dropped
abbrev pub start_of : ℕ → List ℕ → State
start_of q features = state (fresh_of q features).values (replicate row_count 0) (replicate 4 0)

module _ (q : ℕ) (features : List ℕ) (sixteen : length features ≡ features_size) where
  pub start-sized : Sized 0 (start_of q features)
  unfolding fresh_of
  start-sized =
      record {
        values = rw (length-append, length-replicate, sixteen);
        kept = length-replicate {A = ℕ} row_count 0;
        dropped = length-replicate {A = ℕ} 4 0;
        flags = λ i. omega (arith, get_or-same {A = ℕ} row_count i 0);
        counts = λ cause. omega (arith, get_or-same {A = ℕ} 4 cause 0);
      }

  fresh_start : put 0 features (replicate values_size 0) ≡ (fresh_of q features).values
  unfolding fresh_of
  fresh_start = fresh-values features sixteen

  -- v is what the code starts with
  pub begins : (l v list kept dropped : List ℕ) → Fits q features l list kept dropped → v ≡ put 0 features (replicate values_size 0)
      → Begins (state v (replicate row_count 0) (replicate 4 0)) l
  begins l v list kept dropped f e = record { sized = rw (e, fresh_start) start-sized; short = f.short }

pub left-inside : (q : ℕ) (features l : List ℕ) (s s' : State) (stop : ℕ) → Walked q features l s s' stop → stop ≤ length l
left-inside q features l s s' stop w = w.inside

-- ---- the end ----

walked_sized : (q : ℕ) (features : List ℕ) (ps : PartList) (s : State) (n : ℕ) → Sized n s → Sized (n + parts_read ps) (walked q features ps s)
unfolding walked parts_read
walked_sized q features end s n h = rw add-zero h
walked_sized q features cut s n h = rw add-zero h
walked_sized q features (part p ps) s n h =
    rw (← add_assoc) (walked_sized q features ps (taken q features p s) (n + 1) (taken-sized q n features p s h))

module _ (q : ℕ) (features l : List ℕ) (sixteen : length features ≡ features_size) where
  abbrev ps : PartList
  ps = parts_of Parts l

  -- what the walk leaves
  abbrev pub end_of : State
  end_of = walked q features ps (start_of q features)

  pub end-sized : Sized (parts_read ps) end_of
  end-sized = rw zero-add at (walked_sized q features ps (start_of q features) 0 (start-sized q features sixteen))

  start-flag : (i : ℕ) → flag (start_of q features) i ≡ false
  start-flag i = rw (get_or-same {A = ℕ} row_count i 0)

  pub end-flag : (i : ℕ) → i < row_count → flag end_of i ≡ is_kept q features (row_at i).part_type (row_at i).selector ps
  end-flag i h = walked-flag q features i h ps (start_of q features) 0 (start-sized q features sixteen) ∙ rw (start-flag i) (false-or _)

  pub end-value : (i : ℕ) → i < row_count → value_of end_of.values i ≡ row_value q features l i
  unfolding when◌then◌else◌ fresh_value
  end-value i h = walked-value q features i h ps (start_of q features) 0 (start-sized q features sixteen) ∙ rw (start-flag i)

  -- ---- what is written ----

  pub list-is : capture_of q end_of.values ≡ repaired q features l
  unfolding parts_written repaired part_item repaired_item asks part_at
  list-is = items-same (part_item All q [] end_of.values) (repaired_item q features l) row_count row_count 0 refl (λ i h. rw (end-value i h))

  pub flags-are : flags_of q end_of.kept ≡ kept_report q features l
  unfolding flags_of kept_report flag_item kept_item
  flags-are = items-same (flag_item q end_of.kept) (kept_item q features l) row_count row_count 0 refl (λ i h. rw (end-flag i h))

  pub counts-are : end_of.dropped ≡ dropped_report q features l
  unfolding dropped_report is_kept
  counts-are = four end_of.dropped end-sized.dropped ∙ rw (count 0, count 1, count 2, count 3)
    where
      count : (cause : ℕ) → get_or end_of.dropped cause 0 ≡ dropped_from q features cause end ps
      count cause =
          walked-count q features cause end ps (start_of q features) 0 (start-sized q features sixteen) (λ i h. start-flag i)
          ∙ rw (get_or-same {A = ℕ} 4 cause 0) (zero-add _)

  -- the code's buffers, and what they are by the functions that write them
  module _ (v₀ v k d : List ℕ) (stop : ℕ) (values-are : v₀ ≡ put 0 features (replicate values_size 0))
      (w : Walked q features l (state v₀ (replicate row_count 0) (replicate 4 0)) (state v k d) stop) where
    end_is : state v k d ≡ end_of
    end_is = w.leaves ∙ rw (values-are, fresh_start q features sixteen)

    pub repaired-is : (r : ℕ) (list list' kept kept' dropped dropped' : List ℕ) (left : ℕ) → r ≡ parts_size q
        → list' ≡ put 0 (capture_of q v) list → kept' ≡ put 0 (flags_of q k) kept → dropped' ≡ put 0 d dropped
        → salvage r list' kept' dropped' (length l - stop) ≡ salvaged q features l (salvage 0 list kept dropped left)
    unfolding salvaged
    repaired-is r list list' kept kept' dropped dropped' left a b c e =
        let values-end : v ≡ end_of.values = ap (λ (s : State). s.values) end_is in
        let kept-end : k ≡ end_of.kept = ap (λ (s : State). s.kept) end_is in
        let dropped-end : d ≡ end_of.dropped = ap (λ (s : State). s.dropped) end_is in
        rw (a, b, c, e, values-end, kept-end, dropped-end, list-is, flags-are, counts-are, w.stops)
