-- What one capture adds: the needs and returns of the functions above the walk. Assumes nothing.
use mathlib.Core.Path.{◌≡◌, refl, ap, ◌∙◌}
use mathlib.Core.List.{List, [], ◌∷◌, append-nil}
use Prim.Native.Nat.{ℕ, ◌+◌, ◌-◌, ◌≤◌, ◌<◌, ◌^◌}
use native.Mathlib.Nat.{zero-add, add-zero}
use native.Mathlib.Omega.{arith}
use mir.Syntax.{w64}
use mir.Val.{Fits}
use lib.Dec.{eqb}
use lib.ListN.{length, get_or, set, replicate, length-append, length-replicate}
use Rattle.theory.specs.Logic.{when◌then◌else◌, indicator}
use Rattle.theory.proofs.Tests.{by_cases, indicator-le}
use Rattle.parts.specs.declared.ListForm.TheVariants.{Parts}
use Rattle.parts.specs.List.{parts_of}
use Rattle.std.specs.Prelude.{Result, Ok, Err}
use Rattle.rules.specs.declared.Cause.{Cause}
use Rattle.rules.specs.declared.Cause.TheVariants.{Cut, Unknown, Length, Size, Features, Twice}
use Rattle.rules.specs.Rules.{cause_of}
use Rattle.tally.specs.Counts.{◌plus◌, Below}
use Rattle.tally.specs.Rows.{cause_line, long_line, longest, parts_of_type, rows, adds_in, adds_of, adds_long}
use Rattle.tally.specs.Steps.{in_line, by_type, parts_add, contents_add, capture_adds}
use Rattle.tally.proofs.Plus.{raised, plus_assoc, at-plus, AtMost, none_more, one_more, zeros-first, below-plus, below_more}
use Rattle.tally.proofs.Walk.{parts-few, parts-add-few}

-- ---- one number ----

in-line-few : (k n : ℕ) → AtMost n (in_line k n)
unfolding in_line
in-line-few k n =
    zeros-first n k (n ∷ replicate (15 - k) 0) (one_more n n (replicate (15 - k) 0) (omega arith) (none k (15 - k)))
  where
    none : (k m : ℕ) → AtMost n (replicate m 0)
    none k m = rw append-nil at (zeros-first n m [] (none_more n))

in-line-long : (k n : ℕ) → k ≤ 15 → length (in_line k n) ≡ 16
unfolding in_line
in-line-long k n h = simp (length-append, length-replicate) (omega arith)

pub one-fits : (a : List ℕ) (i : ℕ) → Below (2 ^ 63) a → Fits w64 (get_or a i 0 + 1)
one-fits a i v = record { fits = omega (arith, v.at i) }

-- the second of two
pub next_fits : (a : List ℕ) (k i : ℕ) → Below (2 ^ 63) a → Fits w64 (get_or (set a k (get_or a k 0 + 1)) i 0 + 1)
unfolding in_line
next_fits a k i v =
    let w = below-plus (2 ^ 63) 1 (2 ^ 63 + 1) a (in_line k 1) v (in-line-few k 1) (omega arith) in
    record { fits = rw (raised a k 1 (15 - k)) (omega (arith, w.at i)) }

pub capture-counted : (a : List ℕ) (line : ℕ) → line ≤ long_line
    → set (set a 0 (get_or a 0 0 + 1)) line (get_or (set a 0 (get_or a 0 0 + 1)) line 0 + 1) ≡ a plus capture_adds line
unfolding capture_adds in_line
capture-counted a line h =
    let l = in-line-long line 1 (omega arith) in
    raised (set a 0 (get_or a 0 0 + 1)) line 1 (15 - line) ∙ ap (◌plus in_line line 1) (raised a 0 1 15)
    ∙ plus_assoc a (in_line 0 1) (in_line line 1) (omega arith)

-- ---- an accepted capture ----

module _ (a b : List ℕ) (q : ℕ) (c : List ℕ) (v : Below (2 ^ 62) a) (short : length c ≤ longest)
    (e : b ≡ a plus parts_add q (parts_of Parts c)) where
  pub bytes_fit : Fits w64 (get_or b 15 0 + length c)
  bytes_fit =
      let w = below-plus (2 ^ 62) (length c) (2 ^ 63) a (parts_add q (parts_of Parts c)) v (parts-add-few q c) (omega arith) in
      record { fits = rw e (omega (arith, w.at 15)) }

  pub contents-counted : set b 15 (get_or b 15 0 + length c) ≡ a plus contents_add q c
  unfolding contents_add parts_add by_type in_line
  contents-counted =
      raised b 15 (length c) 0 ∙ rw e (plus_assoc a (parts_add q (parts_of Parts c)) (in_line 15 (length c)) (omega arith))

contents-few : (q : ℕ) (c : List ℕ) → length c ≤ longest → AtMost (2 ^ 62) (contents_add q c)
unfolding contents_add
contents-few q c h = record {
  at = λ i.
      omega (
        arith,
        at-plus (parts_add q (parts_of Parts c)) (in_line 15 (length c)) i,
        (parts-add-few q c).at i,
        (in-line-few 15 (length c)).at i,
      );
}

accepted-adds : (q : ℕ) (c : List ℕ) → contents_add q c plus capture_adds 1 ≡ adds_in q 1 c
unfolding contents_add capture_adds parts_add by_type in_line adds_in rows ◌plus◌ indicator when◌then◌else◌
accepted-adds q c = simp (zero-add, add-zero)

module _ (a b : List ℕ) (q : ℕ) (c : List ℕ) (v : Below (2 ^ 62) a) (short : length c ≤ longest) (e : b ≡ a plus contents_add q c) where
  pub contents-room : Below (2 ^ 63) b
  contents-room = rw e (below-plus (2 ^ 62) (2 ^ 62) (2 ^ 63) a (contents_add q c) v (contents-few q c short) (omega arith))

-- ---- any capture ----

refused-adds : (q : ℕ) (k : Result (Unit {0}) Cause) (c : List ℕ) → (cause_line k ≡ 1 → ⊥) → capture_adds (cause_line k) ≡ adds_in q (cause_line k) c
unfolding capture_adds in_line adds_in rows ◌plus◌ indicator when◌then◌else◌
refused-adds q (Ok u) c h = absurd (h refl)
refused-adds q (Err Cut) c h = refl
refused-adds q (Err Unknown) c h = refl
refused-adds q (Err Length) c h = refl
refused-adds q (Err Size) c h = refl
refused-adds q (Err Features) c h = refl
refused-adds q (Err Twice) c h = refl

cause-line-low : (k : Result (Unit {0}) Cause) → cause_line k ≤ long_line
cause-line-low (Ok u) = omega arith
cause-line-low (Err Cut) = omega arith
cause-line-low (Err Unknown) = omega arith
cause-line-low (Err Length) = omega arith
cause-line-low (Err Size) = omega arith
cause-line-low (Err Features) = omega arith
cause-line-low (Err Twice) = omega arith

-- k is what check_list answered, and line its line
module _ (a : List ℕ) (q : ℕ) (features c : List ℕ) (k : Result (Unit {0}) Cause) (line : ℕ) (told : k ≡ cause_of q features c) (e : line ≡ cause_line k) where
  pub line_low : line ≤ long_line
  line_low = rw e (cause-line-low k)

  pub accepted-counted : (b r : List ℕ) → b ≡ a plus contents_add q c → r ≡ b plus capture_adds line → line ≡ 1 → r ≡ a plus adds_of q features c
  unfolding capture_adds in_line contents_add parts_add by_type ◌plus◌
  accepted-counted b r f g h =
      g ∙ rw (f, h) (plus_assoc a (contents_add q c) (capture_adds 1) (omega arith))
      ∙ ap (a plus◌) (accepted-adds q c) ∙ rw (← told, ← e, h)

  pub refused-counted : (r : List ℕ) → r ≡ a plus capture_adds line → (line ≡ 1 → ⊥) → r ≡ a plus adds_of q features c
  refused-counted r g h = g ∙ rw (← told, e) (ap (a plus◌) (refused-adds q k c (λ z. h (e ∙ z))))

pub long-counted : (a r : List ℕ) → r ≡ a plus capture_adds long_line → r ≡ a plus adds_long
unfolding capture_adds in_line adds_in rows ◌plus◌ indicator when◌then◌else◌
long-counted a r e = e

pub room-more : (a : List ℕ) → Below (2 ^ 62) a → Below (2 ^ 63) a
room-more a v = below_more (2 ^ 62) (2 ^ 63) a v (omega arith)

-- ---- what the counts of a stream need ----

-- the first number counts every capture
pub read_more : (a : List ℕ) (q k : ℕ) (c : List ℕ) → 0 < length a → get_or (a plus adds_in q k c) 0 0 ≡ get_or a 0 0 + 1
unfolding adds_in rows ◌plus◌
read_more [] q k c h = absurd (omega arith)
read_more (x ∷ a) q k c h = refl

over-accepted-few : (k n m : ℕ) → n ≤ m → (when eqb k 1 then n else 0) ≤ m
unfolding when◌then◌else◌
over-accepted-few k n m h = by_cases (eqb k 1) (λ e. rw e h) (λ e. rw e (omega arith))

pub adds-few : (q k : ℕ) (c : List ℕ) → length c ≤ longest → AtMost longest (adds_in q k c)
unfolding adds_in rows
adds-few q k c h =
    more (omega arith) (one 1 (one 2 (one 3 (one 4 (one 5 (one 6 (one 7 (one 8
    (part 0x100 (part 0x101 (part 0x102 (part 0x103 (part 0x104 (part 0x105
    (more (over-accepted-few k (length c) longest h) (none_more longest))))))))))))))))
  where
    more : {x : ℕ} {b : List ℕ} → x ≤ longest → AtMost longest b → AtMost longest (x ∷ b)
    more {x} {b} = one_more longest x b

    one : (i : ℕ) {b : List ℕ} → AtMost longest b → AtMost longest (indicator (eqb k i) ∷ b)
    one i = more (let l = indicator-le (eqb k i) in omega arith)

    part : (t : ℕ) {b : List ℕ} → AtMost longest b → AtMost longest ((when eqb k 1 then parts_of_type q t (parts_of Parts c) else 0) ∷ b)
    part t = more (over-accepted-few k (parts_of_type q t (parts_of Parts c)) longest (let l = parts-few q t c in omega arith))
