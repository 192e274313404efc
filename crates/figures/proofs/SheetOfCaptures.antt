-- The sheet of a setup and what follows it, from the captures of which that is joined. Assumes nothing.
use mathlib.Core.Path.{◌≡◌, refl, ap, sym, ◌∙◌}
use mathlib.Core.Bool.{Bool, true, false}
use mathlib.Core.List.{List, [], ◌∷◌, ◌++◌, append-nil}
use Rattle.std.proofs.Common.{Ok}
use Prim.Native.Nat.{ℕ, ◌+◌}
use native.Mathlib.Omega.{arith}
use lib.ListN.{length, get_or, length-append}
use lib.Seq.{get_or-append-add}
use Rattle.theory.specs.Logic.{when◌then◌else◌}
use Rattle.theory.specs.Items.{items_from}
use Rattle.theory.proofs.Tests.{by_cases, never}
use Rattle.decimal.specs.Decimal.{line}
use Rattle.setups.specs.declared.Setup.{Setup}
use Rattle.setups.specs.Reading.{read_version1}
use Rattle.tally.specs.Rows.{rows}
use Rattle.sheet.specs.Text.{figures, name_at, number_line, text_of}
use Rattle.stream.specs.Stream.{is_whole}
use Rattle.stream.specs.Totals.{figures_of}
use Rattle.figures.specs.Sheet.{first_count, sheet_under, sheet_of}
use Rattle.figures.specs.Encoding.{encoded, Encodable, nothing, in_length, in_capture, Ending, fewer, as_many, is_long, numbers, names, lines_of, end_whole, end_torn, last_line, Apart, Whole, EndsIn, SheetOfCaptures}
use Rattle.figures.proofs.Taking.{sheet-behind}
use Rattle.figures.proofs.Encoding.{captures_of, taken, apart}
use Rattle.figures.proofs.Numbers.{numbers-are}

whole_is : (cs : List (List ℕ)) (ended : Bool) → is_whole (captures_of cs ended) ≡ ended
unfolding is_whole captures_of when◌then◌else◌
whole_is [] true = refl
whole_is [] false = refl
whole_is (c ∷ cs) ended = by_cases (is_long c) (λ e. rw (e, whole_is cs ended)) (λ e. rw (e, whole_is cs ended))

figures-are : (q : ℕ) (features : List ℕ) (cs : List (List ℕ)) (ended : Bool)
    → figures_of q features (captures_of cs ended) ≡ figures (numbers q features cs) ended
unfolding figures_of
figures-are q features cs ended = rw (numbers-are q features cs ended, whole_is cs ended)

text-is : (q : ℕ) (features : List ℕ) (cs : List (List ℕ)) (ended : Bool)
    → text_of (figures (numbers q features cs) ended) ≡ lines_of names (numbers q features cs) ++ last_line ended
unfolding text_of items_from number_line name_at rows line lines_of numbers
text-is q features cs true = refl
text-is q features cs false = refl

-- ---- the last line ----

ends-in : (lines last : List ℕ) → EndsIn last (lines ++ last)
ends-in lines last = record { before = lines; joined = refl }

-- no text ends in both: the last letters differ
not-both : (a b : List ℕ) → a ++ end_whole ≡ b ++ end_torn → ⊥
not-both a b e =
    let n : length a + 10 ≡ length b + 9 = sym (length-append a end_whole) ∙ ap length e ∙ length-append b end_torn in
    let z : length b + 7 ≡ length a + 8 = omega arith in
    let x : get_or (a ++ end_whole) (length a + 8) 0 ≡ 101 = get_or-append-add a end_whole 8 0 in
    let y : get_or (b ++ end_torn) (length b + 7) 0 ≡ 110 = get_or-append-add b end_torn 7 0 in
    let w : ◌≡◌ {A = ℕ} 101 110 = sym x ∙ ap (λ t. get_or t (length a + 8) 0) e ∙ ap (λ i. get_or (b ++ end_torn) i 0) (sym z) ∙ y in
    absurd (omega arith)

-- ---- streams that are whole, and streams that are torn ----

whole-if : (l : List ℕ) (cs : List (List ℕ)) (rest : List ℕ) (ended : Bool) → Encodable cs → l ≡ encoded cs ++ rest
    → Ending 4294967295 cs rest ended → (ended ≡ false → ⊥) → Whole l
whole-if l cs rest ended f j (fewer h nothing) n =
    record { captures = cs; fit = f; few = h; joined = j ∙ append-nil (encoded cs) }
whole-if l cs rest ended f j (fewer h (in_length k m)) n = absurd (n refl)
whole-if l cs rest ended f j (fewer h (in_capture k m)) n = absurd (n refl)
whole-if l cs rest ended f j (as_many e) n = absurd (n refl)

module _ (x : List ℕ) (s : Setup) (e : length x ≡ 19) (read : read_version1 x ≡ Ok s) where
  -- the lines with a number
  abbrev lines : List (List ℕ) → List ℕ
  lines cs = lines_of names (numbers (first_count s) s.features cs)

  sheet-is : (cs : List (List ℕ)) (rest : List ℕ) (ended : Bool) → Encodable cs → Ending 4294967295 cs rest ended
      → sheet_of (x ++ (encoded cs ++ rest)) ≡ lines cs ++ last_line ended
  sheet-is cs rest ended f t =
      sheet-behind x (encoded cs ++ rest) e ∙ ap (λ o. sheet_under o (encoded cs ++ rest)) read
      ∙ ap (λ c. text_of (figures_of (first_count s) s.features c)) (taken cs 4294967295 rest ended f t)
      ∙ ap text_of (figures-are (first_count s) s.features cs ended) ∙ text-is (first_count s) s.features cs ended

  whole-then : (l : List ℕ) → Whole l → EndsIn end_whole (sheet_of (x ++ l))
  whole-then l w =
      let j : l ≡ encoded w.captures ++ [] = w.joined ∙ sym (append-nil (encoded w.captures)) in
      rw (j, sheet-is w.captures [] true w.fit (fewer w.few nothing)) (ends-in (lines w.captures) end_whole)

  -- what the sheet of a stream taken apart ends in
  module _ (l : List ℕ) (a : Apart 4294967295 l) where
    sheet-apart : sheet_of (x ++ l) ≡ lines a.captures ++ last_line a.ended
    sheet-apart = ap (λ y. sheet_of (x ++ y)) a.joined ∙ sheet-is a.captures a.rest a.ended a.fit a.ending

    torn-there : a.ended ≡ false → EndsIn end_torn (sheet_of (x ++ l))
    torn-there t = rw (sheet-apart, t) (ends-in (lines a.captures) end_torn)

    whole-unless : (a.ended ≡ false → ⊥) → Whole l
    whole-unless = whole-if l a.captures a.rest a.ended a.fit a.joined a.ending

    only-whole : EndsIn end_whole (sheet_of (x ++ l)) → Whole l
    only-whole w =
        whole-unless (λ t. let v = torn-there t in not-both w.before v.before (sym w.joined ∙ v.joined))

    else-torn : (Whole l → ⊥) → EndsIn end_torn (sheet_of (x ++ l))
    else-torn n = by_cases a.ended (λ t. absurd (n (whole-unless (λ u. never (sym u ∙ t))))) torn-there

pub sheet-of-captures : SheetOfCaptures
sheet-of-captures = record {
  sheet = λ x s cs rest ended e read f t. sheet-is x s e read cs rest ended f t;
  every = apart 4294967295;
  whole = λ x s l e read w. whole-then x s e read l w;
  only_whole = λ x s l e read small w. only-whole x s e read l (apart 4294967295 l small) w;
  torn = λ x s l e read small n. else-torn x s e read l (apart 4294967295 l small) n;
}
