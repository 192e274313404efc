-- The rows seen: a walk that marks the row of each known part, and looks whether it was marked, finds whether a known part is
-- named twice. Assumes nothing.
use mathlib.Core.Path.{◌≡◌, refl, sym, ◌∙◌}
use mathlib.Core.Bool.{Bool, true, false}
use mathlib.Core.List.{List}
use Prim.Native.Nat.{ℕ, ◌<◌}
use borrow.Author.Tests.{eqb-true, eqb-false, eq-eqb}
use lib.Dec.{eqb}
use lib.ListN.{length, get_or, set, replicate, length-set}
use lib.Seq.{get_or-set_same, get_or-set_other, set_comm}
use Rattle.std.specs.Prelude.{Option, Some, None, is_some}
use Rattle.theory.specs.Logic.{◌and◌, ◌or◌}
use Rattle.theory.proofs.Tests.{by_cases, both, and_i, and-false, or-false, never}
use Rattle.theory.proofs.Lists.{get_or-same}
use Rattle.inventory.specs.Inventory.{row_count, place_of, on_place}
use Rattle.inventory.proofs.Find.{place_found}
use Rattle.parts.specs.List.{Part, PartList, end, cut, part, among}
use Rattle.rules.specs.Rules.{known, repeated}

-- no row is seen
unfoldable pub none : List Bool
none = replicate row_count false

-- whether the row of a place is seen; the rows seen with that one
abbrev pub is_seen : List Bool → Option ℕ → Bool
is_seen seen a = on_place a (λ i. get_or seen i false) false

abbrev pub with_seen : List Bool → Option ℕ → List Bool
with_seen seen a = on_place a (λ i. set seen i true) seen

abbrev pub place : ℕ → Part → Option ℕ
place q p = place_of q p.part_type p.selector

-- the row of a known part was seen before it
unfoldable pub seen_again : ℕ → List Bool → PartList → Bool
seen_again q seen end = false
seen_again q seen cut = false
seen_again q seen (part p ps) = is_seen seen (place q p) or seen_again q (with_seen seen (place q p)) ps

-- ---- two places ----

-- two parts with one row are the same part; a is the place of t and s, b that of u and v
module _ (q t s u v : ℕ) where
  same_row : (i : ℕ) → place_of q t s ≡ Some i → place_of q u v ≡ Some i → eqb u t and eqb v s ≡ true
  same_row i e f =
      let x = place_found q t s i e in
      let y = place_found q u v i f in
      and_i _ _ (eq-eqb u t (sym y.type-is ∙ x.type-is)) (eq-eqb v s (sym y.selector-is ∙ x.selector-is))

  other_row : (a b : Option ℕ) → place_of q t s ≡ a → place_of q u v ≡ b → (a ≡ b → ⊥) → eqb u t and eqb v s ≡ false
  other_row a b e f n =
      by_cases (eqb u t and eqb v s)
      (λ h.
      let k = both _ _ h in
      absurd (n (sym e ∙ rw (← eqb-true u t k.0, ← eqb-true v s k.1) f)))
      (λ h. h)

  seen-with : (seen : List Bool) (a b : Option ℕ) → length seen ≡ row_count → place_of q t s ≡ a → place_of q u v ≡ b
      → is_seen (with_seen seen a) b ≡ (is_some a and (eqb u t and eqb v s)) or is_seen seen b
  unfolding ◌and◌ ◌or◌
  seen-with seen None b l e f = refl
  seen-with seen (Some i) None l e f = rw (other_row (Some i) None e f (λ z. never cc))
  seen-with seen (Some i) (Some j) l e f =
      by_cases (eqb j i)
      (λ h.
      let k = eqb-true j i h in
      let m : i < length seen = rw l (place_found q t s i e).below in
      rw (same_row i e (rw k at f), k) (get_or-set_same seen i true false m))
      (λ h.
      let k = eqb-false j i h in
      rw (other_row (Some i) (Some j) e f (λ z. k (sym (at-inj z)))) (get_or-set_other seen i j true false k))
    where
      at-inj : Some i ≡ Some j → i ≡ j
      at-inj z = cc

with-swap : (seen : List Bool) (a b : Option ℕ) → with_seen (with_seen seen a) b ≡ with_seen (with_seen seen b) a
with-swap seen None b = refl
with-swap seen (Some i) None = refl
with-swap seen (Some i) (Some j) =
    by_cases (eqb i j)
    (λ h. rw (eqb-true i j h))
    (λ h. set_comm seen i j true true (eqb-false i j h))

with-long : (seen : List Bool) (a : Option ℕ) → length seen ≡ row_count → length (with_seen seen a) ≡ row_count
with-long seen None l = l
with-long seen (Some i) l = simp length-set l

-- ---- a list ----

shuffled : (k e m a g : Bool) → (k and e or m) or (k and a or g) ≡ k and (e or a) or (m or g)
unfolding ◌and◌ ◌or◌
shuffled false e m a g = refl
shuffled true true m a g = refl
shuffled true false true true g = refl
shuffled true false true false g = refl
shuffled true false false a g = refl

again-with : (q : ℕ) (p : Part) (seen : List Bool) (ps : PartList) → length seen ≡ row_count
    → seen_again q (with_seen seen (place q p)) ps ≡ known q p.part_type p.selector and among p.part_type p.selector ps or seen_again q seen ps
unfolding seen_again among known
again-with q p seen end l = rw (and-false, or-false)
again-with q p seen cut l = rw (and-false, or-false)
again-with q p seen (part r ps) l =
    rw (
      seen-with q p.part_type p.selector r.part_type r.selector seen (place q p) (place q r) l refl refl,
      with-swap seen (place q p) (place q r),
      again-with q p (with_seen seen (place q r)) ps (with-long seen (place q r) l),
    )
    (shuffled _ _ _ _ _)

none-at : (a : Option ℕ) → is_seen none a ≡ false
unfolding none
none-at (Some i) = get_or-same row_count i false
none-at None = refl

none-long : length none ≡ row_count
unfolding none
none-long = refl

pub repeated-is : (q : ℕ) (ps : PartList) → repeated q ps ≡ seen_again q none ps
unfolding repeated seen_again ◌or◌
repeated-is q end = refl
repeated-is q cut = refl
repeated-is q (part p ps) = rw (none-at (place q p), again-with q p none ps none-long, repeated-is q ps)
