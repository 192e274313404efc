-- The names of the lines as the code has them are those of the rows. Assumes nothing.
use mathlib.Core.Path.{◌≡◌, refl, ap, sym, ◌∙◌}
use mathlib.Core.List.{List, [], map}
use Prim.Native.Nat.{ℕ, ◌≤◌, ◌<◌}
use native.Mathlib.Omega.{arith}
use borrow.Author.Tests.{leb-true}
use denote.Ref.{Bor}
use lib.Dec.{leb}
use lib.ListN.{length, get_or}
use Rattle.std.proofs.lemmas.List.{length-map, get_or-map, get_or_read}
use Rattle.theory.specs.Logic.{◌and◌}
use Rattle.theory.proofs.Table.{every, at}
use Rattle.tally.specs.Rows.{Row, row, rows, row_count}
use Rattle.sheet.specs.Text.{name_at}

-- the names of the rows
abbrev pub names : List (List ℕ)
names = map (λ (r : Row). r.name) rows

-- no name is longer than eight bytes
pub name-low : (i : ℕ) → i < row_count → length (name_at i) ≤ 8
unfolding name_at rows every ◌and◌
name-low i h = leb-true _ _ (at (λ k (r : Row). leb (length r.name) 8) (row [] (λ queues k c. 0)) rows refl i h)

name_row : (i : ℕ) → i < row_count → name_at i ≡ get_or names i []
unfolding name_at rows
name_row i h = sym (get_or-map (λ (r : Row). r.name) rows i (row [] (λ queues k c. 0)) [] h)

module _ (texts : List (Bor (List ℕ))) (e : map (λ (x : Bor (List ℕ)). x.now) texts ≡ names) where
  pub names-many : length texts ≡ row_count
  unfolding rows
  names-many = sym (length-map texts (λ (x : Bor (List ℕ)). x.now)) ∙ ap length e

  -- the i-th of the code's texts
  pub name-is : (i : ℕ) (x : Bor (List ℕ)) → i < length texts → x ≡ get_or texts i x → x.now ≡ name_at i
  unfolding rows
  name-is i x h k =
      let f : Bor (List ℕ) → List ℕ = λ y. y.now in
      let l : i < row_count = omega (arith, names-many) in
      let g : x.now ≡ get_or names i x.now = ap f k ∙ sym (get_or-map f texts i x x.now h) ∙ ap (λ l. get_or l i x.now) e in
      get_or_read names i x.now l g [] ∙ sym (name_row i l)
