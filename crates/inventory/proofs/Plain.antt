-- The quick test of the four queues: the bits that it looks at, and that it is enough. Assumes nothing.
use mathlib.Core.Path.{◌≡◌, sym, ◌∙◌, ap}
use mathlib.Core.Bool.{true}
use mathlib.Core.List.{List}
use Prim.Native.Nat.{ℕ, ◌+◌, ◌-◌, ◌*◌, ◌/◌, ◌%◌, ◌^◌, ◌<◌}
use native.Mathlib.Omega.{arith}
use lib.Dec.{eqb}
use lib.ListN.{get_or}
use lib.Bits.{bit_and, bit_or, and_le_l, and_le_r, or_add_and, and_mask, and_block, and_zero_r}
use borrow.Author.Tests.{eqb-true, eqb-false, eq-eqb, ne_eqb}
use Rattle.theory.specs.Logic.{◌and◌, ◌or◌}
use Rattle.theory.specs.Bytes.{bytes_at}
use Rattle.theory.proofs.Tests.{by_cases, both, either, and_i, true-and, false-and, false-or, or-false}
use Rattle.theory.proofs.Ladder.{or_left, or_right}
use Rattle.wire.specs.Le.{number}
use Rattle.wire.proofs.Le.{number_append, number-below}
use Rattle.inventory.specs.Inventory.{offset_of, rows}
use Rattle.inventory.specs.Queue.{power_below, ring_size, queue_size, enabled_at, queue_allowed, queue_row, queues_allowed}
use Rattle.inventory.specs.Worked.{plain_queue, plain_at, plain_queues}
use Rattle.inventory.proofs.Powers.{power-tested}
use Rattle.inventory.proofs.Queue.{allowed_at, all-allowed}

-- ---- the bits that cast doubt on a queue ----

-- size 0: all bits do
no_size : (q : ℕ) → q < 2 ^ 64 → q % 2 ^ 16 ≡ 0 → eqb (bit_and q (2 ^ 64 - 1)) 0 ≡ eqb q 0 or power_below 16 (q % 2 ^ 16)
unfolding power_below ◌or◌
no_size q h z =
    let d : q % 2 ^ 64 ≡ q = omega arith in
    rw z (ap (λ x. eqb x 0) (and_mask q 64 ∙ d) ∙ sym (or-false (eqb q 0)))

-- any other: those that it shares with the number before it
some_size : (q : ℕ) → (q % 2 ^ 16 ≡ 0 → ⊥) → eqb (bit_and q (q % 2 ^ 16 - 1)) 0 ≡ eqb q 0 or power_below 16 (q % 2 ^ 16)
some_size q n =
    let s = q % 2 ^ 16 in
    let d : q / 2 ^ 16 * 2 ^ 16 + s ≡ q = omega arith in
    let t : s - 1 ≡ 0 * 2 ^ 16 + (s - 1) = omega arith in
    let b : bit_and q (s - 1) ≡ bit_and s (s - 1) =
    ap (λ x. bit_and x (s - 1)) (sym d) ∙ ap (bit_and (q / 2 ^ 16 * 2 ^ 16 + s)) t ∙ and_block 16 (q / 2 ^ 16) 0 s (s - 1) (omega arith) (omega arith) ∙ rw and_zero_r (omega arith) in
    ap (λ x. eqb x 0) b ∙ power-tested 16 s (omega arith) (omega arith)
    ∙ sym (rw (ne_eqb q 0 (λ e. n (omega arith))) (false-or _))

-- the number before s in eight bytes, as the library takes one from s
abbrev before : ℕ → ℕ
before s = (s + 18446744073709551615) % 18446744073709551616

plain-tested : (q r : ℕ) → q < 2 ^ 64 → r ≡ before (q % 2 ^ 16) → eqb (bit_and q r) 0 ≡ plain_queue q
unfolding plain_queue
plain-tested q r h e =
    by_cases (eqb (q % 2 ^ 16) 0)
    (λ t.
    let z = eqb-true _ _ t in
    let d : r ≡ 2 ^ 64 - 1 = omega arith in
    rw d (no_size q h z))
    (λ t.
    let z = eqb-false _ _ t in
    let d : r ≡ q % 2 ^ 16 - 1 = omega arith in
    rw d (some_size q z))

pub plain-first : (l : List ℕ) (at q r : ℕ) → q ≡ number at 8 l → q < 2 ^ 64 → r ≡ before (q % 65536)
    → eqb (bit_and q r) 0 ≡ plain_queue (number at 8 l)
plain-first l at q r e h d = plain-tested q r h d ∙ ap plain_queue e

-- none in two numbers
none_both : (a b : ℕ) → eqb (bit_or a b) 0 ≡ eqb a 0 and eqb b 0
none_both a b =
    let s = or_add_and a b in
    let x = and_le_l a b in
    let y = and_le_r a b in
    by_cases (eqb (bit_or a b) 0)
    (λ t.
    let z : bit_or a b ≡ 0 = eqb-true _ _ t in
    rw t (sym (and_i _ _ (eq-eqb a 0 (omega arith)) (eq-eqb b 0 (omega arith)))))
    (λ t.
    let z : bit_or a b ≡ 0 → ⊥ = eqb-false _ _ t in
    by_cases (eqb a 0)
    (λ u. let v : a ≡ 0 = eqb-true a 0 u in rw (t, u, ne_eqb b 0 (λ w. z (omega arith))) (sym (true-and _)))
    (λ u. rw (t, u) (sym (false-and _))))

pub plain-read : (l : List ℕ) (a b c d : ℕ)
    → eqb a 0 ≡ plain_queue (number 45 8 l) → eqb b 0 ≡ plain_queue (number 77 8 l) → eqb c 0 ≡ plain_queue (number 109 8 l)
    → eqb d 0 ≡ plain_queue (number 141 8 l) → eqb (bit_or (bit_or (bit_or a b) c) d) 0 ≡ plain_queues l
unfolding plain_queues offset_of rows
plain-read l a b c d e f g h = rw (none_both (bit_or (bit_or a b) c) d, none_both (bit_or a b) c, none_both a b, e, f, g, h)

-- ---- no doubt is enough ----

module _ (l : List ℕ) (small : (i : ℕ) → get_or l i 0 < 256) where
  module _ (at : ℕ) where
    size-first : number at 8 l % 2 ^ 16 ≡ number at 2 l
    size-first = omega (arith, number_append at 2 6 l, number-below l small 2 at)

    none-enabled : number at 8 l ≡ 0 → number (at + enabled_at) 2 l ≡ 0
    none-enabled e = omega (arith, number_append at 4 4 l, number_append (at + 4) 2 2 l)

    plain-enough : plain_queue (number at 8 l) ≡ true → queue_allowed (bytes_at at queue_size l) ≡ true
    unfolding plain_queue ring_size
    plain-enough e =
        rw allowed_at (either _ _ e
        (λ z.
        let n : number at 8 l ≡ 0 = eqb-true _ _ z in
        let s : number at 2 l ≡ 0 = omega (arith, size-first) in
        or_right _ _ (and_i _ _ (eq-eqb _ _ s) (eq-eqb _ _ (none-enabled n))))
        (λ p. or_left _ _ (rw size-first at p)))

  each-plain : plain_queues l ≡ true → (k : ℕ) → k < 4 → plain_at k l ≡ true
  unfolding plain_queues
  each-plain e k h =
      let x = both _ _ e in
      let y = both _ _ x.0 in
      let z = both _ _ y.0 in
      by_cases (eqb k 0) (λ t. rw (eqb-true k 0 t) z.0) λ t.
      by_cases (eqb k 1) (λ u. rw (eqb-true k 1 u) z.1) λ u.
      by_cases (eqb k 2) (λ w. rw (eqb-true k 2 w) y.1) λ w.
      let n : k ≡ 3 = omega (arith, eqb-false k 0 t, eqb-false k 1 u, eqb-false k 2 w) in rw n x.1

  pub plain-allowed : (q r : ℕ) → eqb r 0 ≡ plain_queues l → r ≡ 0 → true ≡ queues_allowed q l
  plain-allowed q r e z =
      let a : plain_queues l ≡ true = sym e ∙ eq-eqb r 0 z in
      sym (all-allowed q l (λ k h i. plain-enough (offset_of (queue_row k)) (each-plain a k i)))
