-- A full capture of queues with allowed values is accepted by a member with as many and the same device features, and has the
-- value of each row; once it is set there, a capture there gives the same bytes: demand 2, on the values. Assumes nothing.
use mathlib.Core.Path.{◌≡◌, refl, ap, sym, ◌∙◌}
use mathlib.Core.Bool.{Bool, true, false}
use mathlib.Core.List.{List, []}
use Prim.Native.Nat.{ℕ, ◌≤◌, ◌<◌}
use native.Mathlib.Omega.{arith}
use borrow.Author.Tests.{eq-eqb, eqb-true, ltb-true, ltb-false}
use lib.Dec.{eqb, ltb}
use lib.ListN.{length}
use Rattle.std.specs.Prelude.{Some}
use Rattle.theory.specs.Logic.{unless◌answer◌then◌, ◌and◌}
use Rattle.theory.specs.Bytes.{bytes_at}
use Rattle.theory.proofs.Tests.{by_cases, both, and-false, and_i, true-or, or-true, or-i, eq-same}
use Rattle.theory.proofs.Items.{items-same}
use Rattle.inventory.proofs.Values.{value-long, features-value, by_value}
use Rattle.inventory.specs.Inventory.{row_at, row_count, device_features, features_size, present, values_size, place_of, value_of}
use Rattle.inventory.specs.Queue.{queues_allowed}
use Rattle.inventory.proofs.Queue.{row-allowed}
use Rattle.inventory.proofs.Rules.{features-row}
use Rattle.inventory.proofs.Find.{own-place, rows-distinct}
use Rattle.parts.specs.declared.ListForm.TheVariants.{Parts}
use Rattle.parts.specs.List.{Part, PartList, parts_of, whole, among}
use Rattle.std.specs.Prelude.{Ok}
use Rattle.rules.specs.Rules.{known, known_or_skipped, length_right, size_right, features_same, every, repeated, cause_in, cause_of, is_accepted}
use Rattle.rules.proofs.Accepted.{accepts}
use Rattle.values.specs.Apply.{applied}
use Rattle.values.proofs.Kept.{applied-length}
use Rattle.capture.specs.Capture.{All, part_item, parts_written, capture_of}
use Rattle.restore.proofs.Rows.{row_part, row_parts, capture-parts, by_rows, item-same}
use Rattle.restore.proofs.PartValues.{value-here, value_on}
use Rattle.restore.proofs.Applied.{row_value, applied-absent, applied-at}

abbrev features_of : List ℕ → List ℕ
features_of v = bytes_at 0 features_size v

-- v is what is captured, in a member with q queues
module _ (q : ℕ) (v : List ℕ) (few : q < 5) (long : length v ≡ values_size) where
  -- ---- one part ----

  module _ (i : ℕ) (h : i < row_count) (y : present q (row_at i) ≡ true) where
    place : place_of q (row_at i).part_type (row_at i).selector ≡ Some i
    place = own-place q i few h y

    row-known : known_or_skipped q (row_part v i) ≡ true
    unfolding known_or_skipped known
    row-known = rw place (true-or _)

    row-long : length_right q (row_part v i) ≡ true
    unfolding length_right
    row-long = rw place (eq-eqb _ _ (value-long v long i h))

    row-size : queues_allowed q v ≡ true → size_right q (row_part v i) ≡ true
    unfolding size_right
    row-size a = rw (row-allowed q v a i h y) (or-true _)

    row-features : (features : List ℕ) → features_of v ≡ features → features_same features (row_part v i) ≡ true
    unfolding features_same
    row-features features f =
        by_cases (eqb (row_at i).part_type device_features)
        (λ e.
        let z = features-row i h (eqb-true _ _ e) in
        rw (eq-same (value_of v i) features (ap (value_of v) z ∙ features-value v ∙ f)) (or-true _))
        (λ e. rw e (true-or _))

  -- ---- the rules of step 10 ----

  whole-rows : whole (row_parts q v row_count 0) ≡ true
  unfolding whole
  whole-rows = by_rows q v (λ i ps. whole ps ≡ true) refl (λ i ps h y e. e) (λ i ps h y e. e) row_count 0 refl

  every-rows : (rule : Part → Bool) → ((i : ℕ) → i < row_count → present q (row_at i) ≡ true → rule (row_part v i) ≡ true)
      → every rule (row_parts q v row_count 0) ≡ true
  unfolding every
  every-rows rule r =
      by_rows q v (λ i ps. every rule ps ≡ true) refl (λ i ps h y e. and_i _ _ (r i h y) e) (λ i ps h y e. e) row_count 0 refl

  -- none is named twice: no row before the i-th is among the parts from it on
  record Once (i : ℕ) (ps : PartList) : Type 0 where
    before : (m : ℕ) → m < i → among (row_at m).part_type (row_at m).selector ps ≡ false
    once : repeated q ps ≡ false

  other_row : (i m : ℕ) → i < row_count → m < row_count → (i ≡ m → ⊥)
      → eqb (row_at i).part_type (row_at m).part_type and eqb (row_at i).selector (row_at m).selector ≡ false
  other_row i m h l n =
      by_cases _
      (λ e. let b = both _ _ e in absurd (n (rows-distinct i m h l (eqb-true _ _ b.0) (eqb-true _ _ b.1))))
      (λ e. e)

  once-rows : Once 0 (row_parts q v row_count 0)
  unfolding among repeated
  once-rows =
      by_rows q v Once (record { before = λ m l. refl; once = refl })
      (λ i ps h y o.
      record {
        before = λ m l. or-i _ _ (other_row i m h (omega arith) (λ e. omega arith)) (o.before m (omega arith));
        once = or-i _ _ (rw (o.before i (omega arith)) (and-false _)) o.once;
      })
      (λ i ps h y o. record { before = λ m l. o.before m (omega arith); once = o.once })
      row_count 0 refl

  -- ---- the capture is accepted ----

  pub accepted : queues_allowed q v ≡ true → (w : List ℕ) → bytes_at 0 features_size v ≡ bytes_at 0 features_size w → cause_of q (bytes_at 0 features_size w) (capture_of q v) ≡ Ok tt
  unfolding cause_in unless◌answer◌then◌
  accepted a w f =
      rw (
        capture-parts q v long,
        whole-rows,
        every-rows (known_or_skipped q) row-known,
        every-rows (length_right q) row-long,
        every-rows (size_right q) (λ i h y. row-size i h y a),
        every-rows (features_same (features_of w)) (λ i h y. row-features i h y (features_of w) f),
        once-rows.once,
      )

  -- ---- what is in it ----

  -- the value of each row that the member has
  pub capture-value : (i : ℕ) → i < row_count → present q (row_at i) ≡ true → (y : List ℕ)
      → row_value i (parts_of Parts (capture_of q v)) y ≡ value_of v i
  capture-value i h p y =
      rw (capture-parts q v long)
      (by_rows q v (λ k ps. k ≤ i → row_value i ps y ≡ value_of v i)
      (λ l. absurd (omega arith))
      (λ k ps m z ih l.
      by_cases (ltb k i)
      (λ t.
      let less = ltb-true k i t in
      value_on _ _ (row_part v k) ps y (other_row k i m h (λ e. omega arith)) ∙ ih (omega arith))
      (λ t.
      let same : k ≡ i = omega (arith, ltb-false k i t) in
      rw (← same) (value-here _ _ (row_part v k) ps y refl refl)))
      (λ k ps m z ih l.
      by_cases (ltb k i)
      (λ t. ih (omega (arith, ltb-true k i t)))
      (λ t.
      let same : k ≡ i = omega (arith, ltb-false k i t) in
      let clash : true ≡ false = sym p ∙ rw same at z in
      cc))
      row_count 0 refl (omega arith))

  -- ---- set in a member with the same device features ----

  module _ (a : queues_allowed q v ≡ true) (w : List ℕ) (e : length w ≡ values_size) (f : bytes_at 0 features_size v ≡ bytes_at 0 features_size w) where
    abbrev after : List ℕ
    after = applied q (parts_of Parts (capture_of q v)) w

    value_set : (i : ℕ) → i < row_count → present q (row_at i) ≡ true → value_of after i ≡ value_of v i
    value_set i h p =
        applied-at q i few h p _ w e (accepts q (features_of w) _ (ap is_accepted (accepted a w f))) ∙ capture-value i h p (value_of w i)

    -- a capture of that member is the same
    pub captured : capture_of q after ≡ capture_of q v
    unfolding parts_written
    captured = items-same _ (part_item All q [] v) row_count row_count 0 refl (λ j h. item-same q _ v j (value_set j h))

    -- and so are its values, if those of the queues that it has not got are
    pub capture-set : ((i : ℕ) → i < row_count → present q (row_at i) ≡ false → value_of v i ≡ value_of w i) → after ≡ v
    capture-set g =
        by_value after v (applied-length q _ w ∙ e) long
        (λ i h. by_cases (present q (row_at i)) (value_set i h) (λ n. applied-absent q i h n _ w ∙ sym (g i h n)))
