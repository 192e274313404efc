-- The list made of a full capture and a later list, both accepted: it is the capture of a member in which both were set. So it
-- is accepted, setting it leaves what setting both leaves, and it has each part of the inventory with the value looked up.
-- Assumes nothing.
use mathlib.Core.Path.{◌≡◌, refl, ap, sym, ◌∙◌}
use mathlib.Core.Bool.{Bool, true, false, not}
use mathlib.Core.List.{List, [], ◌∷◌, ◌++◌}
use Prim.Native.Nat.{ℕ, ◌<◌}
use native.Mathlib.Omega.{arith}
use borrow.Author.Tests.{eqb-true}
use lib.Dec.{eqb}
use lib.ListN.{length, replicate, length-append, length-replicate}
use lib.Seq.{take_at}
use Rattle.theory.specs.Logic.{when◌then◌else◌, ◌or◌}
use Rattle.theory.specs.Bytes.{bytes_at}
use Rattle.theory.proofs.Tests.{by_cases, false-or}
use Rattle.theory.proofs.Items.{items-same}
use Rattle.inventory.proofs.Values.{value-long}
use Rattle.inventory.specs.Inventory.{row_at, row_count, features_row, features_size, present, values_size, parts_size, place_of, on_place, value_of}
use Rattle.inventory.specs.Queue.{value_allowed, queues_allowed}
use Rattle.inventory.proofs.Queue.{rows-allowed}
use Rattle.inventory.proofs.Rules.{table, row_zero}
use Rattle.inventory.proofs.Find.{own-place}
use Rattle.parts.specs.declared.ListForm.TheVariants.{Parts}
use Rattle.parts.specs.List.{PartList, parts_of, among, value_or}
use Rattle.rules.specs.Rules.{known, length_right, size_right, cause_of, is_accepted}
use Rattle.rules.proofs.Accepted.{Accepts, accepts}
use Rattle.values.specs.Apply.{applied}
use Rattle.values.proofs.Kept.{applied-length, applied-features}
use Rattle.capture.specs.Capture.{All, part_at, asks, part_item, parts_written, capture_of}
use Rattle.capture.proofs.Sizes.{capture-length}
use Rattle.restore.proofs.PartValues.{value_none, value_there, value-obeys}
use Rattle.restore.proofs.Applied.{row_value, features-found, applied-absent, applied-at}
use Rattle.restore.proofs.RoundTrip.{accepted, capture-value, capture-set}
use Rattle.difference.specs.Difference.{place_in, value_at, is_full, made_part, made_item, made}
use Rattle.difference.specs.Claims.{Pair, both_set}
use Rattle.difference.proofs.Full.{full-there, there-full}
use Rattle.difference.proofs.Handed.{place-value}

-- the value of row i that is looked up
abbrev pub looked_up : List ℕ → List ℕ → ℕ → List ℕ
looked_up full later i = value_at full later (place_in full later (row_at i).part_type (row_at i).selector)

-- the rule of a queue's size, SPEC 13.5, of a part's type, selector and value
abbrev size_rule : ℕ → ℕ → ℕ → List ℕ → Bool
size_rule q t s x = not (known q t s) or value_allowed t x

-- a list with a value for a row has a part of that type and selector
value-among : (t s : ℕ) (ps : PartList) (x : List ℕ) → ((y : List ℕ) → value_or t s ps y ≡ x) → among t s ps ≡ true
value-among t s ps x e =
    by_cases (among t s ps)
    (λ y. y)
    (λ n.
    let clash : ◌≡◌ {A = List ℕ} [] (0 ∷ []) =
    sym (value_none t s ps [] n) ∙ e [] ∙ sym (e (0 ∷ [])) ∙ value_none t s ps (0 ∷ []) n in
    let z : ◌≡◌ {A = ℕ} 0 1 = ap length clash in
    absurd (omega arith))

-- ---- in a member with values v ----

module _ (q : ℕ) (full later v : List ℕ) (long : length v ≡ values_size) (pair : Pair q (bytes_at 0 features_size v) full later) where
  abbrev fs : PartList
  fs = parts_of Parts full

  abbrev ls : PartList
  ls = parts_of Parts later

  -- after the full capture, and after both
  abbrev once : List ℕ
  once = applied q fs v

  abbrev u : List ℕ
  u = both_set q full later v

  once-long : length once ≡ values_size
  once-long = applied-length q fs v ∙ long

  both_long : length u ≡ values_size
  both_long = applied-length q ls once ∙ once-long

  both-features : bytes_at 0 features_size u ≡ bytes_at 0 features_size v
  both-features = applied-features q ls once ∙ applied-features q fs v

  full-accepts : Accepts q (bytes_at 0 features_size v) fs
  full-accepts = accepts q _ fs pair.full_accepted

  later-accepts : Accepts q (bytes_at 0 features_size once) ls
  later-accepts = rw (applied-features q fs v) (accepts q _ ls pair.later_accepted)

  known-row : (i : ℕ) → i < row_count → present q (row_at i) ≡ true → known q (row_at i).part_type (row_at i).selector ≡ true
  unfolding known
  known-row i h y = rw (own-place q i pair.few h y)

  -- the value looked up is the one that stands in the row after both
  pub looked-up : (i : ℕ) → i < row_count → present q (row_at i) ≡ true → looked_up full later i ≡ value_of u i
  looked-up i h y =
      place-value full later (row_at i).part_type (row_at i).selector
      ∙ ap (row_value i ls)
      (value_there _ _ fs [] (value_of v i) (full-there q fs pair.lacks_none i h y)
      ∙ sym (applied-at q i pair.few h y fs v long full-accepts))
      ∙ sym (applied-at q i pair.few h y ls once once-long later-accepts)

  made-item : (i : ℕ) → i < row_count → made_item q full later i ≡ part_item All q [] u i
  unfolding made_item made_part part_item asks part_at when◌then◌else◌
  made-item i h = by_cases (present q (row_at i)) (λ y. rw (y, looked-up i h y)) (λ n. rw n)

  -- THE LAW: the made list is the capture of a member in which both were set
  pub made-is : made q full later ≡ capture_of q u
  unfolding made parts_written
  made-is = items-same (made_item q full later) (part_item All q [] u) row_count row_count 0 refl made-item

  -- request 5: each row has a value of one of the lists, so one that is allowed
  row-allowed : (i : ℕ) → i < row_count → present q (row_at i) ≡ true → value_allowed (row_at i).part_type (value_of u i) ≡ true
  unfolding size_right
  row-allowed i h y =
      let t = (row_at i).part_type in
      let s = (row_at i).selector in
      let there = full-there q fs pair.lacks_none i h y in
      let e : value_or t s ls (value_or t s fs []) ≡ value_of u i = sym (place-value full later t s) ∙ looked-up i h y in
      let x = value-obeys (size_rule q) t s ls (value_or t s fs []) later-accepts.rings
      (λ n. value-obeys (size_rule q) t s fs [] full-accepts.rings (λ n. let z : true ≡ false = sym there ∙ n in cc)) in
      sym (false-or _) ∙ rw (known-row i h y, e) at x

  allowed : queues_allowed q u ≡ true
  allowed = rows-allowed q u both_long row-allowed

  -- setting it leaves what setting both leaves
  pub made-sets : applied q (parts_of Parts (made q full later)) v ≡ u
  made-sets =
      ap (λ l. applied q (parts_of Parts l) v) made-is
      ∙ capture-set q u pair.few both_long allowed v long both-features
      (λ i h n. applied-absent q i h n ls once ∙ applied-absent q i h n fs v)

  pub made-accepted : is_accepted (cause_of q (bytes_at 0 features_size v) (made q full later)) ≡ true
  made-accepted =
      rw made-is (ap is_accepted (accepted q u pair.few both_long allowed v both-features))

  pub made-value : (i : ℕ) → i < row_count → present q (row_at i) ≡ true → (y : List ℕ)
      → row_value i (parts_of Parts (made q full later)) y ≡ looked_up full later i
  made-value i h p y = rw made-is (capture-value q u pair.few both_long i h p y) ∙ sym (looked-up i h p)

  pub made-full : is_full q (made q full later) ≡ true
  made-full =
      there-full q (parts_of Parts (made q full later))
      (λ i h p. value-among _ _ (parts_of Parts (made q full later)) (looked_up full later i) (made-value i h p))
      row_count 0 refl

  pub made-long : length (made q full later) ≡ parts_size q
  made-long = rw made-is (capture-length q u pair.few both_long)

-- ---- no member is in sight: the pair is looked at through fresh values ----

first-present : (q : ℕ) → present q (row_at features_row) ≡ true
unfolding table
first-present q = refl

module _ (q : ℕ) (features full later : List ℕ) (pair : Pair q features full later) where
  -- a full capture that is accepted has the device features, so they are sixteen bytes
  features-long : length features ≡ features_size
  unfolding length_right
  features-long =
      let h : features_row < row_count = omega arith in
      let y = first-present q in
      let ps = parts_of Parts full in
      let a = accepts q features ps pair.full_accepted in
      let there = full-there q ps pair.lacks_none features_row h y in
      let x = value-obeys (λ t s x. on_place (place_of q t s) (λ i. eqb (length x) (row_at i).size) true)
      (row_at features_row).part_type (row_at features_row).selector ps features a.sized (λ n. let z : true ≡ false = sym there ∙ n in cc) in
      eqb-true _ _ (rw (own-place q features_row pair.few h y, row_zero, features-found features 0 ps a.valued) at x)

  abbrev v₀ : List ℕ
  v₀ = features ++ replicate 189 0

  fresh-long : length v₀ ≡ values_size
  fresh-long = rw (length-append, length-replicate, features-long)

  fresh-features : bytes_at 0 features_size v₀ ≡ features
  fresh-features = take_at features (replicate 189 0) features_size features-long

  fresh-pair : Pair q (bytes_at 0 features_size v₀) full later
  fresh-pair = rw fresh-features pair

  pub pair-accepted : is_accepted (cause_of q features (made q full later)) ≡ true
  pair-accepted = rw fresh-features at (made-accepted q full later v₀ fresh-long fresh-pair)

  pub pair-full : is_full q (made q full later) ≡ true
  pair-full = made-full q full later v₀ fresh-long fresh-pair

  pub pair-long : length (made q full later) ≡ parts_size q
  pair-long = made-long q full later v₀ fresh-long fresh-pair

  pub pair-value : (i : ℕ) → i < row_count → present q (row_at i) ≡ true → (y : List ℕ)
      → row_value i (parts_of Parts (made q full later)) y ≡ looked_up full later i
  pair-value = made-value q full later v₀ fresh-long fresh-pair

  pub pair-length : (i : ℕ) → i < row_count → present q (row_at i) ≡ true → length (looked_up full later i) ≡ (row_at i).size
  pair-length i h y =
      ap length (looked-up q full later v₀ fresh-long fresh-pair i h y)
      ∙ value-long (both_set q full later v₀) (both_long q full later v₀ fresh-long fresh-pair) i h
