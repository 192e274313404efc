-- The loop over a damaged list: the parts that are left, taken after what was, give what the whole list gives. Assumes nothing.
use mathlib.Core.Path.{◌≡◌, refl, sym, ◌∙◌}
use mathlib.Core.List.{List}
use Prim.Native.Nat.{ℕ, ◌+◌, ◌≤◌}
use native.Mathlib.Nat.{zero-add, add-zero}
use native.Mathlib.Omega.{arith}
use lib.ListN.{length}
use Rattle.parts.specs.declared.ListForm.TheVariants.{Parts}
use Rattle.inventory.specs.Header.{header_size}
use Rattle.parts.specs.List.{Part, PartList, end, cut, part, part_with, parts_of, longest_list}
use Rattle.rules.specs.Rules.{features_same}
use Rattle.salvage.specs.Salvage.{value_right, bytes_read}
use Rattle.salvage.specs.Walk.{State, taken, walked, Sized, Walked, Begins}
use Rattle.salvage.proofs.Stops.{read-inside}
use Rattle.salvage.proofs.Fates.{sized-more, taken-sized}

-- s₀ is what there was before the loop, s what there is, at the bytes read so far, and ps the parts that are left; a part is at
-- least a byte, so no count is above that
pub record Walking (q : ℕ) (features l : List ℕ) (s₀ s : State) (at : ℕ) (ps : PartList) : Type 0 where
  pub sized : Sized at s
  pub short : length l ≤ longest_list
  pub leaves : walked q features (parts_of Parts l) s₀ ≡ walked q features ps s
  pub stops : bytes_read (parts_of Parts l) ≡ at + bytes_read ps

pub walking_start : (q : ℕ) (features l : List ℕ) (s : State) → Begins s l → Walking q features l s s 0 (parts_of Parts l)
walking_start q features l s h = record { sized = h.sized; short = h.short; leaves = refl; stops = sym (zero-add _) }

flags-unread : (q : ℕ) (features : List ℕ) (t f v : ℕ) (x : List ℕ) (s : State)
    → taken q features (part_with t 0 v x) s ≡ taken q features (part_with t f v x) s
unfolding taken value_right features_same
flags-unread q features t f v x s = refl

module _ {q : ℕ} {features l : List ℕ} {s₀ s : State} {at : ℕ} {ps : PartList} (w : Walking q features l s₀ s at ps) where
  inside : at ≤ length l
  inside = omega (arith, w.stops, read-inside l)

  pub walking-room : Sized longest_list s
  walking-room = sized-more at longest_list s w.sized (omega (arith, inside, w.short))

  pub walking-end : ps ≡ end → Walked q features l s₀ s at
  unfolding walked bytes_read
  walking-end e = record {
    leaves = sym (w.leaves ∙ rw e);
    stops = sym (w.stops ∙ rw e (add-zero at));
    inside = inside;
  }

  pub walking_cut : ps ≡ cut → Walked q features l s₀ s at
  unfolding walked bytes_read
  walking_cut e = record {
    leaves = sym (w.leaves ∙ rw e);
    stops = sym (w.stops ∙ rw e (add-zero at));
    inside = inside;
  }

  -- the first part that is left
  module _ {p : Part} {qs : PartList} (first : ps ≡ part p qs) where
    read-on : bytes_read (parts_of Parts l) ≡ at + (header_size + length p.value) + bytes_read qs
    unfolding bytes_read
    read-on = w.stops ∙ rw first (omega arith)

    pub walking-low : at + (header_size + length p.value) ≤ longest_list
    walking-low = omega (arith, read-on, read-inside l, w.short)

    -- s': with it taken
    pub walking_on : {s' : State} → s' ≡ taken q features (part_with p.part_type 0 p.selector p.value) s
        → Walking q features l s₀ s' (at + (header_size + length p.value)) qs
    unfolding walked
    walking_on {s'} told =
        let next : s' ≡ taken q features p s = told ∙ flags-unread q features p.part_type p.flags p.selector p.value s in
        record {
          sized = rw next (sized-more (at + 1) (at + (header_size + length p.value)) _ (taken-sized q at features _ s w.sized) (omega arith));
          short = w.short;
          leaves = w.leaves ∙ rw (first, next);
          stops = read-on;
        }
