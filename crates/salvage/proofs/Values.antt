-- The values of what is written: in each row that of the first allowed copy, or the fresh one; and what holds of each of the
-- two. So step 10 passes it. Assumes nothing.
use mathlib.Core.Path.{◌≡◌, refl, ap, sym, subst, ◌∙◌}
use mathlib.Core.Bool.{true, false}
use mathlib.Core.List.{List, []}
use Prim.Native.Nat.{ℕ, ◌<◌}
use native.Mathlib.Omega.{arith}
use borrow.Author.Tests.{eqb-true, eq-eqb}
use lib.ListN.{length}
use Rattle.theory.specs.Logic.{when◌then◌else◌, ◌or◌}
use Rattle.theory.specs.Bytes.{bytes_at}
use Rattle.theory.proofs.Tests.{by_cases, both, and_i, false-or, within-high, same_true, same_refl}
use Rattle.theory.proofs.Ladder.{or_left, or_right}
use Rattle.inventory.proofs.Values.{features-value}
use Rattle.inventory.specs.Inventory.{row_at, device_features, features_size, features_row, values_size, parts_size, value_of}
use Rattle.inventory.specs.Queue.{value_allowed, queues_allowed}
use Rattle.inventory.proofs.Rules.{row_zero, offset-zero}
use Rattle.inventory.proofs.Queue.{row-allowed, rows-allowed}
use Rattle.parts.specs.declared.ListForm.TheVariants.{Parts}
use Rattle.parts.specs.List.{Part, PartList, end, cut, part, parts_of}
use Rattle.rules.specs.Rules.{features_same, cause_of, is_accepted}
use Rattle.capture.proofs.Sizes.{capture-length}
use Rattle.restore.proofs.RoundTrip.{accepted, capture-value}
use Rattle.member.specs.Member.{fresh_of}
use Rattle.member.proofs.Sound.{SoundMember, sound-fresh}
use Rattle.salvage.specs.Salvage.{value_right, allowed, is_copy, kept_or, is_kept, fresh_value, row_value, repaired}
use Rattle.salvage.specs.Claims.{InSetup, HasRow, value_at, stands}
use Rattle.salvage.proofs.Whole.{end_of, end-sized, end-value, list-is}

-- ---- the first allowed copy ----

module _ (q : ℕ) (features : List ℕ) (t s : ℕ) where
  -- what holds of each allowed copy and of x holds of what is kept, or else x
  kept-or : (P : List ℕ → Type 0) (x : List ℕ) → P x → ((p : Part) → is_copy q features t s p ≡ true → P p.value)
      → (ps : PartList) → P (kept_or q features t s x ps)
  unfolding kept_or when◌then◌else◌
  kept-or P x h f end = h
  kept-or P x h f cut = h
  kept-or P x h f (part p ps) =
      by_cases (is_copy q features t s p) (λ c. rw c (f p c)) (λ c. rw c (kept-or P x h f ps))

  -- an allowed copy is kept before all that follow it
  kept-first : (x : List ℕ) (p : Part) (ps : PartList) → is_copy q features t s p ≡ true → kept_or q features t s x (part p ps) ≡ p.value
  unfolding kept_or when◌then◌else◌
  kept-first x p ps c = rw c

  kept-next : (x : List ℕ) (p : Part) (ps : PartList) → is_copy q features t s p ≡ false
      → kept_or q features t s x (part p ps) ≡ kept_or q features t s x ps
  unfolding kept_or when◌then◌else◌
  kept-next x p ps c = rw c

  stands-first : (p : Part) (ps : PartList) → is_copy q features t s p ≡ true → stands t s p.value (part p ps) ≡ true
  unfolding stands is_copy
  stands-first p ps c = or_left _ _ (and_i _ _ (both _ _ c).0 (same_refl p.value))

  stands-next : (x : List ℕ) (p : Part) (ps : PartList) → stands t s x ps ≡ true → stands t s x (part p ps) ≡ true
  unfolding stands
  stands-next x p ps h = or_right _ _ h

  -- it stands in the list
  pub kept-stands : (x : List ℕ) (ps : PartList) → is_kept q features t s ps ≡ true → stands t s (kept_or q features t s x ps) ps ≡ true
  unfolding is_kept
  kept-stands x end k = absurd (cc)
  kept-stands x cut k = absurd (cc)
  kept-stands x (part p ps) k =
      let Stands : List ℕ → Type 0 = λ y. stands t s y (part p ps) ≡ true in
      by_cases (is_copy q features t s p)
      (λ c. subst Stands (sym (kept-first x p ps c)) (stands-first p ps c))
      (λ c. subst Stands (sym (kept-next x p ps c)) (stands-next (kept_or q features t s x ps) p ps (kept-stands x ps (sym (false-or _) ∙ rw c at k))))

  pub kept-none : (x : List ℕ) (ps : PartList) → is_kept q features t s ps ≡ false → kept_or q features t s x ps ≡ x
  unfolding kept_or is_kept when◌then◌else◌ ◌or◌
  kept-none x end k = refl
  kept-none x cut k = refl
  kept-none x (part p ps) k =
      by_cases (is_copy q features t s p) (λ c. let z : true ≡ false = rw c at k in cc) (λ c. rw c (kept-none x ps (rw c at k)))

  copy-named : (p : Part) → is_copy q features t s p ≡ true → p.part_type ≡ t
  unfolding is_copy
  copy-named p c = eqb-true _ _ (both _ _ (both _ _ c).0).0

  copy-right : (p : Part) → is_copy q features t s p ≡ true → value_right features p ≡ true
  unfolding is_copy allowed
  copy-right p c = (both _ _ (both _ _ (both _ _ c).1).1).1

  -- its value is allowed, and device features are those given
  copy-allowed : (p : Part) → is_copy q features t s p ≡ true → value_allowed t p.value ≡ true
  unfolding value_right
  copy-allowed p c = rw (← copy-named p c) (both _ _ (copy-right p c)).0

  copy-features : t ≡ device_features → (p : Part) → is_copy q features t s p ≡ true → p.value ≡ features
  unfolding value_right features_same
  copy-features d p c =
      let f = (both _ _ (copy-right p c)).1 in
      same_true _ _ (sym (false-or _) ∙ rw (eq-eqb _ _ (copy-named p c ∙ d)) at f)

-- ---- what is written ----

module _ (q : ℕ) (features l : List ℕ) (g : InSetup q features) where
  abbrev v : List ℕ
  v = (end_of q features l g.long).values

  pub few : q < 5
  few = omega (arith, within-high 1 4 q g.count)

  long : length v ≡ values_size
  long = (end-sized q features l g.long).values

  -- a fresh member has allowed queues, and these device features
  fresh : SoundMember 0 0 features (fresh_of q features)
  fresh = sound-fresh 0 0 features q g.count g.long

  queues : queues_allowed q v ≡ true
  unfolding fresh_value fresh_of
  queues =
      rows-allowed q v long
      (λ i h y.
      rw (end-value q features l g.long i h)
      (kept-or q features (row_at i).part_type (row_at i).selector (λ x. value_allowed (row_at i).part_type x ≡ true) (fresh_value q features i)
      (row-allowed q (fresh_of q features).values fresh.allowed i h y)
      (copy-allowed q features (row_at i).part_type (row_at i).selector) (parts_of Parts l)))

  front : bytes_at 0 features_size v ≡ features
  unfolding fresh_value
  front =
      let own : value_of v features_row ≡ row_value q features l features_row = end-value q features l g.long features_row (omega arith) in
      let kept : row_value q features l features_row ≡ features =
      kept-or q features (row_at features_row).part_type (row_at features_row).selector (λ x. x ≡ features) (fresh_value q features features_row)
      (rw (offset-zero, row_zero) fresh.kept)
      (copy-features q features (row_at features_row).part_type (row_at features_row).selector (rw row_zero)) (parts_of Parts l) in
      sym (features-value v) ∙ own ∙ kept

  pub list-passes : is_accepted (cause_of q features (repaired q features l)) ≡ true
  list-passes = ap is_accepted (rw (front, list-is q features l g.long) at (accepted q v few long queues v refl))

  pub repaired-long : length (repaired q features l) ≡ parts_size q
  repaired-long = rw (← list-is q features l g.long) (capture-length q v few long)

  pub value_written : (i : ℕ) → HasRow q i → value_at i (repaired q features l) ≡ row_value q features l i
  value_written i r =
      rw (← list-is q features l g.long) (capture-value q v few long i r.below r.there [] ∙ end-value q features l g.long i r.below)
