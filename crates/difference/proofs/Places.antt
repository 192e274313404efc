-- The value of a part by its place in the bytes of a list: the turns of the walk that looks for it; it lies within the list, and
-- is the value of that part. Assumes nothing.
use mathlib.Core.Path.{◌≡◌, refl, ap}
use Rattle.std.specs.Prelude.{Option, None}
use mathlib.Core.Bool.{false}
use mathlib.Core.List.{List}
use Prim.Native.Nat.{ℕ, zero, suc, ◌+◌, ◌≤◌}
use native.Mathlib.Omega.{arith}
use lib.Dec.{eqb}
use lib.ListN.{length}
use Rattle.theory.specs.Logic.{when◌then◌else◌, ◌and◌}
use Rattle.theory.specs.Bytes.{bytes_at}
use Rattle.theory.proofs.Tests.{by_cases, never}
use Rattle.theory.proofs.Bytes.{length-bytes_at}
use Rattle.parts.specs.declared.ListForm.TheVariants.{Parts}
use Rattle.parts.specs.Step.{Step}
use Rattle.parts.specs.Step as step
use Rattle.inventory.specs.Header.{header_size}
use Rattle.parts.specs.List.{Part, PartList, end, cut, part, part_in, step_at, on_step, at_most, parts_from, parts_of, value_or}
use Rattle.parts.proofs.Walk.{step_part}
use Rattle.difference.specs.declared.Span.{Span}
use Rattle.difference.specs.Difference.{value, span_from, span_of, on_span}

-- ---- the turns of the walk ----

-- a part in front whose step stands at `at`
span-part : (t s : ℕ) (l : List ℕ) (at u f v start len : ℕ) → step_at Parts l at ≡ step.Part u f v start len → (ps : PartList)
    → span_from t s at (part (part_in l u f v start len) ps) ≡ when eqb u t and eqb v s then value start len else span_from t s (start + len) ps
unfolding span_from
span-part t s l at u f v start len e ps =
    let w = step_part Parts l at e in
    rw (length-bytes_at start len l w.ends, ← w.starts)

-- the first part that is left is another; its value starts after its header, and the others after its value
pub span-on : (t s at start to : ℕ) (x : Option Span) (p : Part) (ps qs : PartList) → x ≡ span_from t s at ps → ps ≡ part p qs
    → false ≡ eqb p.part_type t and eqb p.selector s → start ≡ at + header_size → to ≡ start + length p.value
    → x ≡ span_from t s to qs
unfolding span_from when◌then◌else◌
span-on t s at start to x p ps qs e first other starts ends = rw (ends, starts) (rw (first, ← other) at e)

-- ---- what stands there ----

-- w: where the value of a part of ps stands in l
record Stands (t s : ℕ) (l : List ℕ) (ps : PartList) (w : Option Span) : Type 0 where
  there : (y : List ℕ) → value_or t s ps y ≡ on_span w (λ start len. bytes_at start len l) y
  inside : (start len : ℕ) → w ≡ value start len → start + len ≤ length l

nowhere : (l : List ℕ) (start len : ℕ) → None ≡ value start len → start + len ≤ length l
nowhere l start len e = never cc

stands-part : (t s : ℕ) (l : List ℕ) (u f v start len : ℕ) (ps : PartList) → start + len ≤ length l
    → Stands t s l ps (span_from t s (start + len) ps)
    → Stands t s l (part (part_in l u f v start len) ps) (when eqb u t and eqb v s then value start len else span_from t s (start + len) ps)
unfolding value_or when◌then◌else◌
stands-part t s l u f v start len ps h r =
    by_cases (eqb u t and eqb v s)
    (λ y. rw y (record { there = λ d. rw y; inside = here }))
    (λ n. rw n (record { there = λ d. rw n (r.there d); inside = r.inside }))
  where
    here : (a b : ℕ) → value start len ≡ value a b → a + b ≤ length l
    here a b e =
        let w : ◌≡◌ {A = Span} (record { start = start; len = len }) (record { start = a; len = b }) = cc in
        let x : start ≡ a = ap (λ (v : Span). v.start) w in
        let y : len ≡ b = ap (λ (v : Span). v.len) w in
        omega arith

stands_from : (t s : ℕ) (l : List ℕ) (n at : ℕ) → Stands t s l (at_most Parts n l at) (span_from t s at (at_most Parts n l at))
unfolding at_most span_from value_or
stands_from t s l zero at = record { there = λ d. refl; inside = nowhere l }
stands_from t s l (suc n) at = cases (step_at Parts l at) refl (stands_from t s l n)
  where
    cases : (r : Step) → step_at Parts l at ≡ r → ((on : ℕ) → Stands t s l (at_most Parts n l on) (span_from t s on (at_most Parts n l on)))
        → Stands t s l (on_step r (λ t f s start len. part (part_in l t f s start len) (at_most Parts n l (start + len))) cut end)
        (span_from t s at (on_step r (λ t f s start len. part (part_in l t f s start len) (at_most Parts n l (start + len))) cut end))
    cases (step.Part u f v start len) e ih =
        rw (span-part t s l at u f v start len e (at_most Parts n l (start + len)))
        (stands-part t s l u f v start len (at_most Parts n l (start + len)) (step_part Parts l at e).ends (ih (start + len)))
    cases step.Cut e ih = record { there = λ d. refl; inside = nowhere l }
    cases step.End e ih = record { there = λ d. refl; inside = nowhere l }

module _ (t s : ℕ) (l : List ℕ) where
  stands : Stands t s l (parts_of Parts l) (span_of t s l)
  unfolding parts_from
  stands = stands_from t s l (length l) 0

  pub span_value : (y : List ℕ) → value_or t s (parts_of Parts l) y ≡ on_span (span_of t s l) (λ start len. bytes_at start len l) y
  span_value = stands.there

  pub span-inside : (start len : ℕ) → span_of t s l ≡ value start len → start + len ≤ length l
  span-inside = stands.inside
