-- Where the walk over a damaged list stops: at its end, or at a part that is cut, and what lies before that is whole. There is no
-- other such place. Assumes nothing.
use mathlib.Core.Path.{◌≡◌, refl, sym, ◌∙◌}
use mathlib.Core.Bool.{true}
use mathlib.Core.List.{List}
use Prim.Native.Nat.{ℕ, zero, suc, ◌+◌, ◌-◌, ◌<◌, ◌≤◌}
use native.Mathlib.Nat.{add-zero}
use native.Mathlib.Omega.{arith}
use borrow.Author.Tests.{ltb-true, ltb-false, leb-true, leb-false, lt-ltb, le-leb, lt-leb}
use lib.ListN.{length, get_or, take}
use lib.Seq.{length-take-le, get_or-take}
use Rattle.theory.specs.Logic.{unless◌answer◌then◌}
use Rattle.theory.proofs.Bytes.{length-bytes_at}
use Rattle.theory.proofs.Tests.{never, unless-cases}
use Rattle.wire.proofs.Le.{number-alike}
use Rattle.inventory.specs.Header.{flags_at, selector_at, length_at, header_size}
use Rattle.parts.specs.declared.ListForm.TheVariants.{Parts}
use Rattle.parts.specs.Step.{Step}
use Rattle.parts.specs.Step as step
use Rattle.parts.specs.List.{value_size, header_at, step_at, PartList, part, part_in, parts_from, parts_of, whole}
use Rattle.parts.proofs.Walk.{step_end, step-found, step_part, parts-end, parts_cut, parts-part}
use Rattle.salvage.specs.Salvage.{bytes_read, left_over}
use Rattle.salvage.specs.Exact.{StopsAt, at_end, in_header, in_value, StopsOnlyThere}

-- ---- one step ----

module _ (l : List ℕ) (at : ℕ) where
  step-cases : (P : Step → Type 0) → (length l ≤ at → P step.End)
      → (at < length l → length l < at + header_size → P step.Cut)
      → (at + header_size ≤ length l → length l < at + header_size + value_size Parts l at → P step.Cut)
      → P (header_at Parts l at)
      → P (step_at Parts l at)
  unfolding step_at
  step-cases P ends header value found =
      unless-cases P _ _ _ (λ a. ends (ltb-false _ _ a)) λ a.
      let below : at < length l = ltb-true _ _ a in
      unless-cases P _ _ _
      (λ b. let short : length l - at < header_size = leb-false _ _ b in header below (omega arith))
      λ b.
      let room : header_size ≤ length l - at = leb-true _ _ b in
      unless-cases P _ _ _
      (λ c. let short : length l - (at + header_size) < value_size Parts l at = leb-false _ _ c in value (omega arith) (omega arith))
      λ c. found

  step-ended : step_at Parts l at ≡ step.End → length l ≤ at
  unfolding header_at
  step-ended =
      step-cases (λ r. r ≡ step.End → length l ≤ at) (λ h e. h) (λ a b e. never cc) (λ a b e. never cc) (λ e. never cc)

  step_cut : step_at Parts l at ≡ step.Cut → StopsAt l at
  unfolding header_at
  step_cut =
      step-cases (λ r. r ≡ step.Cut → StopsAt l at)
      (λ h e. never cc) (λ a b e. in_header a b) (λ a b e. in_value a b) (λ e. never cc)

  module _ {t f s start len : ℕ} where
    step-header : step_at Parts l at ≡ step.Part t f s start len → header_at Parts l at ≡ step.Part t f s start len
    step-header =
        step-cases (λ r. r ≡ step.Part t f s start len → header_at Parts l at ≡ step.Part t f s start len)
        (λ h e. never cc) (λ a b e. never cc) (λ a b e. never cc) (λ e. e)

    header-size : header_at Parts l at ≡ step.Part t f s start len → value_size Parts l at ≡ len
    unfolding header_at
    header-size e = cc

  -- where it stops, no part is read
  none_read : StopsAt l at → bytes_read (parts_from Parts l at) ≡ 0
  unfolding bytes_read step_at unless◌answer◌then◌
  none_read (at_end e) = rw (parts-end Parts l at (step_end Parts l at (omega arith)))
  none_read (in_header a b) =
      let c : step_at Parts l at ≡ step.Cut = rw (lt-ltb at (length l) a, lt-leb header_size (length l - at) (omega arith)) in
      rw (parts_cut Parts l at c)
  none_read (in_value a b) =
      let below : at < length l = omega arith in
      let c : step_at Parts l at ≡ step.Cut =
      rw (
        lt-ltb at (length l) below,
        le-leb header_size (length l - at) (omega arith),
        lt-leb (value_size Parts l at) (length l - (at + header_size)) (omega arith),
      ) in
      rw (parts_cut Parts l at c)

-- ---- the bytes before a place, as a list of their own ----

module _ (l : List ℕ) (n : ℕ) (h : n ≤ length l) where
  abbrev front : List ℕ
  front = take n l

  front_long : length front ≡ n
  front_long = length-take-le n l h

  front-byte : (i : ℕ) → i < n → get_or front i 0 ≡ get_or l i 0
  front-byte i k = get_or-take n l i 0 k

  header-same : (at : ℕ) → at + header_size ≤ n → header_at Parts front at ≡ header_at Parts l at
  unfolding header_at
  header-same at k =
      rw (
        number-alike n front l front-byte 2 at (omega arith),
        front-byte (at + flags_at) (omega arith),
        number-alike n front l front-byte 8 (at + selector_at) (omega arith),
        number-alike n front l front-byte 4 (at + length_at) (omega arith),
      )

  module _ (at : ℕ) {t f s start len : ℕ} where
    -- a part that ends before the place stands there too
    step_in : start + len ≤ n → step_at Parts l at ≡ step.Part t f s start len → step_at Parts front at ≡ step.Part t f s start len
    step_in k e =
        let w = step_part Parts l at e in
        let same = header-same at (omega (arith, w.starts)) ∙ step-header l at e in
        let size = header-size front at same in
        step-found Parts front at (omega (arith, w.starts, front_long)) (omega (arith, w.starts, front_long)) ∙ same

    step-out : step_at Parts front at ≡ step.Part t f s start len → step_at Parts l at ≡ step.Part t f s start len
    step-out e =
        let w = step_part Parts front at e in
        let k : start + len ≤ n = omega (arith, w.ends, front_long) in
        let same = sym (header-same at (omega (arith, w.starts))) ∙ step-header front at e in
        let size = header-size l at same in
        step-found Parts l at (omega (arith, w.starts)) (omega (arith, w.starts)) ∙ same

-- ---- from a position on ----

record StopsFrom (l : List ℕ) (at : ℕ) (ps : PartList) : Type 0 where
  inside : at + bytes_read ps ≤ length l
  before : whole (parts_from Parts (take (at + bytes_read ps) l) at) ≡ true
  stops : StopsAt l (at + bytes_read ps)

-- no part is read
stops-here : (l : List ℕ) (at : ℕ) (ps : PartList) → at ≤ length l → bytes_read ps ≡ 0 → StopsAt l at → StopsFrom l at ps
unfolding whole
stops-here l at ps h z s =
    let none : length (take at l) ≤ at = omega (arith, length-take-le at l h) in
    record {
      inside = rw (z, add-zero) h;
      before = rw (z, add-zero, parts-end Parts (take at l) at (step_end Parts (take at l) at none));
      stops = rw (z, add-zero) s;
    }

stops-from : (n : ℕ) (l : List ℕ) (at : ℕ) → at ≤ length l → length l ≤ at + n → StopsFrom l at (parts_from Parts l at)
unfolding bytes_read whole
stops-from zero l at i h =
    rw (parts-end Parts l at (step_end Parts l at (omega arith))) (stops-here l at _ i refl (at_end (omega arith)))
stops-from (suc n) l at i h = cases (step_at Parts l at) refl (λ k. stops-from n l k)
  where
    cases : (r : Step) → step_at Parts l at ≡ r
        → ((k : ℕ) → k ≤ length l → length l ≤ k + n → StopsFrom l k (parts_from Parts l k))
        → StopsFrom l at (parts_from Parts l at)
    cases (step.Part t f s start len) e ih =
        let w = step_part Parts l at e in
        let k = start + len in
        let long = length-bytes_at start len l w.ends in
        let rest = ih k w.ends (omega (arith, w.starts)) in
        let stop = k + bytes_read (parts_from Parts l k) in
        let on : at + bytes_read (part (part_in l t f s start len) (parts_from Parts l k)) ≡ stop = omega (arith, w.starts, long) in
        let here = parts-part Parts (take stop l) at (step_in l stop rest.inside at (omega arith) e) in
        rw (parts-part Parts l at e)
        (record { inside = rw on rest.inside; before = rw (on, here) rest.before; stops = rw on rest.stops })
    cases step.Cut e ih = rw (parts_cut Parts l at e) (stops-here l at _ i refl (step_cut l at e))
    cases step.End e ih =
        let z = step-ended l at e in
        rw (parts-end Parts l at e) (stops-here l at _ i refl (at_end (omega arith)))

-- what is read up to a place, where the bytes before it are whole
read-to : (l : List ℕ) (n : ℕ) → n ≤ length l → (k at : ℕ) → at ≤ n → n ≤ at + k
    → whole (parts_from Parts (take n l) at) ≡ true → at + bytes_read (parts_from Parts l at) ≡ n + bytes_read (parts_from Parts l n)
unfolding bytes_read whole
read-to l n h zero at i j y = let e : at ≡ n = omega arith in rw e
read-to l n h (suc k) at i j y = cases (step_at Parts (take n l) at) refl (λ on. read-to l n h k on)
  where
    cases : (r : Step) → step_at Parts (take n l) at ≡ r
        → ((on : ℕ) → on ≤ n → n ≤ on + k → whole (parts_from Parts (take n l) on) ≡ true
        → on + bytes_read (parts_from Parts l on) ≡ n + bytes_read (parts_from Parts l n))
        → at + bytes_read (parts_from Parts l at) ≡ n + bytes_read (parts_from Parts l n)
    cases (step.Part t f s start len) e ih =
        let w = step_part Parts (take n l) at e in
        let long = front_long l n h in
        let size = length-bytes_at start len l (omega (arith, w.ends)) in
        let after = rw (parts-part Parts (take n l) at e) at y in
        let rest = ih (start + len) (omega (arith, w.ends)) (omega (arith, w.starts)) after in
        rw (parts-part Parts l at (step-out l n h at e)) (omega (arith, w.starts))
    cases step.Cut e ih = never (rw (parts_cut Parts (take n l) at e) at y)
    cases step.End e ih =
        let z = step-ended (take n l) at e in
        let same : at ≡ n = omega (arith, front_long l n h) in
        rw same

pub stops-only-there : StopsOnlyThere
stops-only-there l =
    let s = stops-from (length l) l 0 (omega arith) (omega arith) in
    let at : length l - left_over l ≡ 0 + bytes_read (parts_of Parts l) = omega (arith, s.inside) in
    record {
      inside = omega arith;
      before = rw at s.before;
      stops = rw at s.stops;
      only = λ n h y e.
          let r = read-to l n h n 0 (omega arith) (omega arith) y in
          omega (arith, none_read l n e);
    }
