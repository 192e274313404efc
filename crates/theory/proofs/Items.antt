-- A loop that writes n items one after the other from place b: what is left to write, put where it goes, gives the whole.
-- It holds of any items. Assumes nothing.
use mathlib.Core.Path.{◌≡◌, refl, ap, sym, ◌∙◌}
use mathlib.Core.List.{List, [], ◌++◌}
use Prim.Native.Nat.{ℕ, zero, suc, ◌+◌, ◌-◌, ◌≤◌, ◌<◌}
use native.Mathlib.Nat.{sub-zero}
use native.Mathlib.Omega.{arith}
use lib.ListN.{length, length-append}
use Rattle.theory.specs.Bytes.{put}
use Rattle.theory.specs.Items.{items_from}
use Rattle.theory.proofs.Bytes.{length-put, put-nil, put-append}

-- the next item, and none left
pub items-step : (item : ℕ → List ℕ) (n i : ℕ) → i < n → items_from item (n - i) i ≡ item i ++ items_from item (n - (i + 1)) (i + 1)
unfolding items_from
items-step item n i h = let e : n - i ≡ suc (n - (i + 1)) = omega arith in rw e

pub items-end : (item : ℕ → List ℕ) (n i : ℕ) → n ≤ i → items_from item (n - i) i ≡ []
unfolding items_from
items-end item n i h = let e : n - i ≡ 0 = omega arith in rw e

-- items that are the same one by one
pub items-same : (item item' : ℕ → List ℕ) (n k i : ℕ) → i + k ≡ n → ((j : ℕ) → j < n → item j ≡ item' j)
    → items_from item k i ≡ items_from item' k i
unfolding items_from
items-same item item' n zero i e s = refl
items-same item item' n (suc k) i e s = rw (s i (omega arith), items-same item item' n k (i + 1) (omega arith) s)

-- out₀ is the buffer before the loop, out after i items; the next goes to `at`
pub record Written (item : ℕ → List ℕ) (n b : ℕ) (out₀ out : List ℕ) (at i : ℕ) : Type 0 where
  pub count : i ≤ n
  pub long : length out ≡ length out₀
  pub ends : at + length (items_from item (n - i) i) ≡ b + length (items_from item n 0)
  pub fits : b + length (items_from item n 0) ≤ length out₀
  pub whole : put b (items_from item n 0) out₀ ≡ put at (items_from item (n - i) i) out

pub written_start : (item : ℕ → List ℕ) (n b : ℕ) (out : List ℕ) → b + length (items_from item n 0) ≤ length out → Written item n b out out b 0
written_start item n b out h = record { count = omega arith; long = refl; ends = rw sub-zero; fits = h; whole = rw sub-zero }

module _ (item : ℕ → List ℕ) (n b : ℕ) (out₀ out : List ℕ) (at i : ℕ) (w : Written item n b out₀ out at i) where
  -- the next item, of which the length is known, fits
  pub written-room : (size : ℕ) → i < n → length (item i) ≡ size → at + size ≤ length out
  written-room size h l = omega (arith, simp length-append at (ap length (items-step item n i h)))

  pub written_next : i < n → Written item n b out₀ (put at (item i) out) (at + length (item i)) (i + 1)
  written_next h =
      let e = items-step item n i h in
      record {
        count = omega arith;
        long = length-put at (item i) out ∙ w.long;
        ends = omega (arith, simp length-append at (ap length e));
        fits = w.fits;
        whole = w.whole ∙ ap (λ x. put at x out) e ∙ put-append at (item i) (items_from item (n - (i + 1)) (i + 1)) out;
      }

  -- an item with nothing to write
  pub written-skip : i < n → item i ≡ [] → Written item n b out₀ out at (i + 1)
  written-skip h z =
      let e : items_from item (n - i) i ≡ items_from item (n - (i + 1)) (i + 1) = items-step item n i h ∙ rw z in
      record { count = omega arith; long = w.long; ends = rw (← e) w.ends; fits = w.fits; whole = rw (← e) w.whole }

  pub written-end : n ≤ i → out ≡ put b (items_from item n 0) out₀
  written-end h = sym (w.whole ∙ rw (items-end item n i h) (put-nil at out))

  pub written_at : n ≤ i → at ≡ b + length (items_from item n 0)
  written_at h = omega (arith, ap length (items-end item n i h))
