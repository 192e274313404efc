-- The number that an argument is, character by character. Assumes nothing.
use mathlib.Core.Path.{◌≡◌, sym, ◌∙◌}
use mathlib.Core.Bool.{false}
use mathlib.Core.List.{List}
use Prim.Native.Nat.{ℕ, ◌+◌, ◌*◌, ◌-◌, ◌<◌, ◌≤◌}
use native.Mathlib.Numerals.{add-one}
use borrow.Author.Tests.{le-leb, lt-leb}
use lib.Dec.{leb}
use lib.ListN.{length, get_or, drop, drop_of_length-le}
use lib.Seq.{drop-cons}
use mathlib.Core.Logic.{inl, inr}
use Rattle.std.specs.Int.{IsOutOfRange}
use Rattle.std.specs.Prelude.{Some, None}
use Rattle.theory.specs.Logic.{when◌then◌else◌, ◌and◌, within}
use Rattle.theory.proofs.Tests.{and_i, and-false, false-and, inside, below, above}
use Rattle.salvage_file.specs.Number.{number_from, number_of}

-- n is the number of the first i characters
module _ (text : List ℕ) (n i : ℕ) (w : number_of text ≡ number_from n (drop i text)) where
  number_step : i < length text
      → number_of text
      ≡ (when within 48 57 (get_or text i 0) and leb n 99 then number_from (n * 10 + (get_or text i 0 - 48)) (drop (i + 1) text) else None)
  unfolding number_from
  number_step h = w ∙ rw (drop-cons text i 0 h, add-one)

  number-stop : i < length text → within 48 57 (get_or text i 0) and leb n 99 ≡ false → None ≡ number_of text
  unfolding when◌then◌else◌
  number-stop h e = sym (number_step h ∙ rw e)

  pub number-odd : i < length text → IsOutOfRange 48 57 (get_or text i 0) → None ≡ number_of text
  number-odd h odd = elim odd [
    | inl e ↦ number-stop h (rw (below 48 57 (get_or text i 0) e) (false-and _))
    | inr e ↦ number-stop h (rw (above 48 57 (get_or text i 0) e) (false-and _))
  ]

  pub number-large : i < length text → 99 < n → None ≡ number_of text
  number-large h e = number-stop h (rw (lt-leb n 99 e) (and-false _))

  pub number-on : i < length text → 48 ≤ get_or text i 0 → get_or text i 0 ≤ 57 → n ≤ 99
      → number_of text ≡ number_from (n * 10 + (get_or text i 0 - 48)) (drop (i + 1) text)
  unfolding when◌then◌else◌
  number-on h low high few = number_step h ∙ rw (and_i _ _ (inside 48 57 (get_or text i 0) low high) (le-leb n 99 few))

  pub number-end : length text ≤ i → Some n ≡ number_of text
  unfolding number_from
  number-end h = sym (w ∙ rw (drop_of_length-le text h))
