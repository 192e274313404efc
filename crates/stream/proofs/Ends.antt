-- The figures at the start of the captures, at their end, and where nothing more is taken. Assumes nothing.
use mathlib.Core.Path.{◌≡◌, refl, ap, sym, ◌∙◌}
use mathlib.Core.Bool.{true, false}
use mathlib.Core.List.{List, [], ◌∷◌, ◌++◌, append-nil}
use Prim.Native.Nat.{ℕ, zero, suc, ◌+◌, ◌-◌, ◌≤◌, ◌<◌}
use native.Mathlib.Nat.{zero-add}
use native.Mathlib.Omega.{arith}
use borrow.Author.Tests.{lt-ltb, le-ltb, lt-leb, eqb-true, eqb-false}
use lib.Dec.{eqb}
use lib.ListN.{length, take, replicate}
use lib.Seq.{length-take-le}
use Rattle.theory.specs.Logic.{unless◌answer◌then◌}
use Rattle.theory.proofs.Tests.{by_cases}
use Rattle.theory.proofs.Lists.{get_or-same}
use Rattle.tally.specs.Counts.{◌plus◌}
use Rattle.tally.specs.Rows.{longest, row_count}
use Rattle.sheet.specs.Text.{figures}
use Rattle.stream.specs.Stream.{Captures, torn, length_size, most, capture_then, captures_in}
use Rattle.stream.specs.Totals.{totals, figures_of}
use Rattle.stream.specs.Progress.{read_of, long_then, rest_in, with_rest, figures_from, started, ended, ended_in, stopped, stopped_in, Ready}
use Rattle.stream.specs.declared.Item.{Item}
use Rattle.stream.specs.declared.Item.TheVariants as item
use Rattle.stream.specs.declared.Progress.{Progress}
use Rattle.stream.proofs.Totals.{length-totals, none_left, torn-left}
use Rattle.stream.proofs.Takes.{rest-is, within-is, going-is}

-- ---- the start ----

pub started-ready : (b : List ℕ) → length b ≡ longest → Ready started b
started-ready b h = record {
  room = h;
  more = omega arith;
  counted = record { some = omega arith; bound = λ i. omega (arith, get_or-same {A = ℕ} row_count i 0); up_to = omega arith };
  within = refl;
  going = omega arith;
}

zeros-plus : (n : ℕ) (x : List ℕ) → length x ≡ n → replicate n 0 plus x ≡ x
unfolding ◌plus◌
zeros-plus zero [] e = refl
zeros-plus zero (y ∷ x) e = absurd (omega arith)
zeros-plus (suc n) [] e = absurd (omega arith)
zeros-plus (suc n) (y ∷ x) e = rw (zero-add, zeros-plus n x (omega arith))

module _ (q : ℕ) (features : List ℕ) where
  pub from_start : (b l : List ℕ) → figures_from q features started b l ≡ figures_of q features (captures_in most l)
  unfolding with_rest figures_of
  from_start b l = rw (zeros-plus row_count (totals q features (captures_in most l)) (length-totals q features (captures_in most l)))

  -- ---- the end ----

  length-end : (counts h : List ℕ) (m : ℕ) → 0 < m → length h < length_size
      → with_rest q features counts (captures_in m (h ++ [])) ≡ figures counts (eqb (length h) 0)
  unfolding captures_in unless◌answer◌then◌
  length-end counts h zero k s = absurd (omega arith)
  length-end counts h (suc m) k s =
      by_cases (eqb (length h) 0)
      (λ e.
      let z : length h ≤ 0 = omega (arith, eqb-true (length h) 0 e) in
      rw (append-nil, e, le-ltb 0 (length h) z) (none_left q features counts))
      (λ e.
      let n : length h ≡ 0 → ⊥ = eqb-false _ _ e in
      let z : 0 < length h = omega arith in
      rw (append-nil, e, lt-ltb 0 (length h) z, lt-leb length_size (length h) s) (torn-left q features counts))

  capture-end : (n : ℕ) (h : List ℕ) (rest : List ℕ → Captures) → length h < n → capture_then n (h ++ []) rest ≡ torn
  unfolding capture_then unless◌answer◌then◌
  capture-end n h rest k = rw (append-nil, lt-leb n (length h) k)

  long-end : (n : ℕ) (rest : List ℕ → Captures) → 0 < n → long_then n [] rest ≡ torn
  unfolding long_then unless◌answer◌then◌
  long-end n rest k = rw (lt-leb n 0 k)

  pub at-end : (p : Progress) (b : List ℕ) → Ready p b → figures_from q features p b [] ≡ figures p.counts (ended p)
  at-end p b w = cases p.item refl
    where
      torn-here : (i : Item) → p.item ≡ i → ended_in i p.have ≡ false
          → rest_in i p.have p.left (most - read_of p.counts) (take p.have b) [] ≡ torn
          → figures_from q features p b [] ≡ figures p.counts (ended p)
      torn-here i e n t =
          ap (with_rest q features p.counts) (rest-is p b i e [] ∙ t) ∙ torn-left q features p.counts
          ∙ ap (figures p.counts) (sym n ∙ ap (λ j. ended_in j p.have) (sym e))

      cases : (i : Item) → p.item ≡ i → figures_from q features p b [] ≡ figures p.counts (ended p)
      cases item.Length e =
          let f : p.have + p.left ≡ length_size = within-is p b item.Length e w in
          let g : read_of p.counts < most = going-is p b item.Length e w in
          let n : length (take p.have b) ≡ p.have = length-take-le p.have b (omega (arith, w.room)) in
          ap (with_rest q features p.counts) (rest-is p b item.Length e [])
          ∙ length-end p.counts (take p.have b) (most - read_of p.counts) (omega arith) (omega (arith, w.more))
          ∙ ap (λ k. figures p.counts (eqb k 0)) n ∙ ap (λ j. figures p.counts (ended_in j p.have)) (sym e)
      cases item.Capture e =
          let f : p.have + p.left ≤ longest = within-is p b item.Capture e w in
          let n : length (take p.have b) ≡ p.have = length-take-le p.have b (omega (arith, w.room)) in
          torn-here item.Capture e refl (capture-end (p.have + p.left) (take p.have b) _ (omega (arith, w.more)))
      cases item.Skipped e = torn-here item.Skipped e refl (long-end p.left _ w.more)
      cases item.Stopped e = torn-here item.Stopped e refl refl

  -- ---- nothing more is taken ----

  pub stopped-same : (p : Progress) (b l : List ℕ) → stopped p ≡ true → figures_from q features p b l ≡ figures_from q features p b []
  stopped-same p b l = cases p.item refl
    where
      cases : (i : Item) → p.item ≡ i → stopped_in i ≡ true → figures_from q features p b l ≡ figures_from q features p b []
      cases item.Length e h = cc
      cases item.Capture e h = cc
      cases item.Skipped e h = cc
      cases item.Stopped e h = ap (with_rest q features p.counts) (rest-is p b item.Stopped e l ∙ sym (rest-is p b item.Stopped e []))
