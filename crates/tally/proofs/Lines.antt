-- What one part, one capture adds, line by line: one law for each return of the functions. Assumes nothing.
use mathlib.Core.Path.{◌≡◌, refl, sym, ◌∙◌}
use mathlib.Core.Bool.{true}
use mathlib.Core.List.{List}
use Prim.Native.Nat.{ℕ, zero, suc, ◌+◌, ◌-◌, ◌≤◌, ◌<◌}
use native.Mathlib.Omega.{arith}
use lib.Dec.{eqb, leb}
use lib.ListN.{get_or, set}
use borrow.Author.Tests.{leb-true}
use Rattle.std.specs.Prelude.{Option, Some, None}
use Rattle.theory.specs.Logic.{◌and◌, indicator}
use Rattle.theory.proofs.Tests.{both, and-false}
use Rattle.inventory.specs.Inventory.{row_at, place_of, device_features, driver_features, pci_common, device_status, queue, queue_notify}
use Rattle.inventory.proofs.Find.{place_found}
use Rattle.inventory.proofs.Rules.{table, every-row}
use Rattle.rules.specs.Rules.{known}
use Rattle.tally.specs.Counts.{◌plus◌}
use Rattle.tally.specs.Steps.{by_type, part_adds}
use Rattle.tally.proofs.Plus.{raised, plus-zeros}

-- ---- one part ----

-- the types of parts that a member has
pub record KnownType (t : ℕ) : Type 0 where
  pub low : device_features ≤ t
  pub high : t ≤ queue_notify

type-of-row : (i : ℕ) → i < 15 → KnownType (row_at i).part_type
unfolding table
type-of-row i h =
    let e = both _ _ (every-row (λ k r. leb device_features r.part_type and leb r.part_type queue_notify) refl i h) in
    record { low = leb-true _ _ e.0; high = leb-true _ _ e.1 }

module _ (q t s : ℕ) (r : Option ℕ) (here : r ≡ place_of q t s) where
  pub type-known : (i : ℕ) → r ≡ Some i → KnownType t
  type-known i e = let f = place_found q t s i (sym here ∙ e) in rw f.type-is at (type-of-row i f.below)

  pub part-absent : (a : List ℕ) → r ≡ None → a ≡ a plus part_adds q t s
  unfolding part_adds by_type known indicator
  part-absent a e = rw (← here, e, and-false, and-false, and-false, and-false, and-false, and-false) (sym (plus-zeros a 16))

-- a fact about each of the six types
by-type : (P : ℕ → Type 0) → P device_features → P driver_features → P pci_common → P device_status → P queue → P queue_notify
    → (t : ℕ) → KnownType t → P t
by-type P p₀ p₁ p₂ p₃ p₄ p₅ t k =
    let l = k.low in
    let h = k.high in
    let e : device_features + (t - device_features) ≡ t = omega arith in
    rw (← e) (cases (t - device_features) (omega arith))
  where
    cases : (j : ℕ) → j ≤ 5 → P (device_features + j)
    cases zero h = p₀
    cases (suc zero) h = p₁
    cases (suc (suc zero)) h = p₂
    cases (suc (suc (suc zero))) h = p₃
    cases (suc (suc (suc (suc zero)))) h = p₄
    cases (suc (suc (suc (suc (suc zero))))) h = p₅
    cases (suc (suc (suc (suc (suc (suc j)))))) h = absurd (omega arith)

raised-type : (a : List ℕ) (t : ℕ) → KnownType t
    → set a (9 + (t - device_features)) (get_or a (9 + (t - device_features)) 0 + 1) ≡ a plus by_type (λ u. indicator (eqb t u and true))
unfolding by_type indicator ◌and◌
raised-type a =
    by-type (λ t. set a (9 + (t - device_features)) (get_or a (9 + (t - device_features)) 0 + 1) ≡ a plus by_type (λ u. indicator (eqb t u and true)))
    (raised a 9 1 6) (raised a 10 1 5) (raised a 11 1 4) (raised a 12 1 3) (raised a 13 1 2) (raised a 14 1 1)

module _ (q t s i : ℕ) (r : Option ℕ) (here : r ≡ place_of q t s) (e : r ≡ Some i) where
  pub part-counted : (a : List ℕ) → set a (9 + (t - device_features)) (get_or a (9 + (t - device_features)) 0 + 1) ≡ a plus part_adds q t s
  unfolding part_adds known
  part-counted a = rw (← here, e) (raised-type a t (type-known q t s r here i e))

  pub type-low : device_features ≤ t
  type-low = (type-known q t s r here i e).low

  pub line-in : 9 + (t - device_features) < 16
  line-in = let k = type-known q t s r here i e in omega (arith, k.low, k.high)
