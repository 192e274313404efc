-- Nothing is dropped of a list that the member accepts and that has no unknown part. Assumes nothing.
use mathlib.Core.Path.{◌≡◌, refl, sym, ◌∙◌}
use mathlib.Core.Bool.{Bool, true, false}
use mathlib.Core.List.{List}
use Prim.Native.Nat.{ℕ}
use native.Mathlib.Omega.{arith}
use borrow.Author.Tests.{eqb-true, eq-eqb}
use lib.ListN.{length, take, replicate}
use lib.Seq.{take_all}
use Rattle.theory.specs.Logic.{unless◌answer◌then◌, ◌and◌, indicator}
use Rattle.theory.proofs.Tests.{by_cases, never, unless-passed, both, neither, and_i, or-i, true-and, false-or}
use Rattle.theory.proofs.Ladder.{or_left, or_right}
use Rattle.inventory.specs.Queue.{value_allowed}
use Rattle.parts.specs.declared.ListForm.TheVariants.{Parts}
use Rattle.parts.specs.List.{Part, PartList, end, cut, part, parts_of, whole, among}
use Rattle.rules.specs.Rules.{known, length_right, size_right, features_same, every, repeated, cause_in, is_accepted}
use Rattle.rules.proofs.Accepted.{accepts}
use Rattle.salvage.specs.Salvage.{value_right, allowed, is_copy, is_kept, Kept, fate_of, dropped_from, left_over, dropped_report}
use Rattle.salvage.specs.Exact.{at_end, ComesBackWithZeros, JustTheInventory, UndamagedKept}
use Rattle.salvage.proofs.Undamaged.{comes_back}
use Rattle.salvage.proofs.StopsOnly.{stops-only-there}

pub comes-back-with-zeros : ComesBackWithZeros
comes-back-with-zeros q features l g u =
    let b = comes_back q features l g u in
    record { values = b.values; kept = b.kept; dropped = u.none_dropped; left = u.none_left }

-- ---- by the list alone ----

module _ (q : ℕ) (features : List ℕ) where
  abbrev is_known : Part → Bool
  is_known p = known q p.part_type p.selector

  rules-allow : (ps : PartList) → every is_known ps ≡ true → every (length_right q) ps ≡ true → every (size_right q) ps ≡ true
      → every (features_same features) ps ≡ true → every (allowed q features) ps ≡ true
  unfolding every allowed size_right value_right
  rules-allow end k l z f = refl
  rules-allow cut k l z f = refl
  rules-allow (part p ps) k l z f =
      let a = both _ _ k in
      let b = both _ _ l in
      let c = both _ _ z in
      let d = both _ _ f in
      let ring : value_allowed p.part_type p.value ≡ true = sym (false-or _) ∙ rw a.0 at c.0 in
      and_i _ _ (and_i _ _ a.0 (and_i _ _ b.0 (and_i _ _ ring d.0))) (rules-allow ps a.1 b.1 c.1 d.1)

  -- an allowed part of which no copy was kept
  allowed-kept : (p : Part) → allowed q features p ≡ true → fate_of q features false p ≡ Kept
  unfolding allowed fate_of unless◌answer◌then◌
  allowed-kept p a =
      let b = both _ _ a in
      let c = both _ _ b.1 in
      rw (b.0, c.0, c.1)

  -- a copy of p is not among the parts behind it
  other-copy : (p : Part) (ps : PartList) (t s : ℕ) → allowed q features p ≡ true
      → is_known p and among p.part_type p.selector ps ≡ false → among t s ps ≡ true → is_copy q features t s p ≡ false
  unfolding is_copy allowed
  other-copy p ps t s a once there =
      by_cases (is_copy q features t s p)
      (λ c.
      let n = both _ _ (both _ _ c).0 in
      let none : among p.part_type p.selector ps ≡ false = sym (true-and _) ∙ rw (both _ _ a).0 at once in
      never (sym (rw (eqb-true p.part_type t n.0, eqb-true p.selector s n.1) at none) ∙ there))
      (λ c. c)

  -- before: none of the parts is kept there
  none_dropped : (cause : ℕ) (before ps : PartList) → every (allowed q features) ps ≡ true → repeated q ps ≡ false
      → ((t s : ℕ) → among t s ps ≡ true → is_kept q features t s before ≡ false) → dropped_from q features cause before ps ≡ 0
  unfolding every repeated among is_kept dropped_from indicator
  none_dropped cause before end a r clear = refl
  none_dropped cause before cut a r clear = refl
  none_dropped cause before (part p ps) a r clear =
      let b = both _ _ a in
      let n = neither _ _ r in
      let named = and_i _ _ (eq-eqb p.part_type p.part_type refl) (eq-eqb p.selector p.selector refl) in
      let own = clear p.part_type p.selector (or_left _ (among p.part_type p.selector ps) named) in
      let rest = none_dropped cause (part p before) ps b.1 n.1
      (λ t s m. or-i _ _ (other-copy p ps t s b.0 n.0 m) (clear t s (or_right _ _ m))) in
      rw (own, allowed-kept p b.0, rest)

module _ (q : ℕ) (features l : List ℕ) (u : JustTheInventory q features l) where
  undamaged-dropped : dropped_report q features l ≡ replicate 4 0
  unfolding dropped_report is_kept
  undamaged-dropped =
      let ps = parts_of Parts l in
      let a = accepts q features ps u.accepted in
      let allow = rules-allow q features ps u.inventory a.sized a.rings a.valued in
      let none : (cause : ℕ) → dropped_from q features cause end ps ≡ 0 =
      λ cause. none_dropped q features cause end ps allow a.once (λ t s m. refl) in
      rw (none 0, none 1, none 2, none 3)

  undamaged-whole : whole (parts_of Parts l) ≡ true
  unfolding cause_in
  undamaged-whole = (unless-passed (λ c. is_accepted c ≡ true) (whole (parts_of Parts l)) _ _ never u.accepted).0

  undamaged-left : left_over l ≡ 0
  undamaged-left =
      let all : take (length l) l ≡ l = take_all (length l) l (omega arith) in
      let e = (stops-only-there l).only (length l) (omega arith) (rw all undamaged-whole) (at_end refl) in
      omega arith

pub undamaged-kept : UndamagedKept
undamaged-kept q features l g u =
    comes-back-with-zeros q features l g
    (record { each = u.each; none_dropped = undamaged-dropped q features l u; none_left = undamaged-left q features l u })
