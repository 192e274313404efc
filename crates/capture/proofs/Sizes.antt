-- How long the headers and the parts are that are written. Assumes nothing.
use mathlib.Core.Path.{◌≡◌, refl, ◌∙◌}
use mathlib.Core.Bool.{Bool, true, false}
use mathlib.Core.List.{List, []}
use Prim.Native.Nat.{ℕ, ◌+◌, ◌*◌, ◌≤◌, ◌<◌}
use native.Mathlib.Omega.{arith}
use borrow.Author.Tests.{eqb-true}
use lib.Dec.{eqb}
use lib.ListN.{length, length-append}
use Rattle.theory.specs.Logic.{when◌then◌else◌}
use Rattle.theory.proofs.Tests.{by_cases}
use Rattle.theory.proofs.Sums.{sum_from, length-items}
use Rattle.inventory.proofs.Values.{value-long}
use Rattle.inventory.specs.Inventory.{row_at, row_count, present, values_size, part_count, parts_size}
use Rattle.inventory.specs.Header.{header_of, header_size}
use Rattle.inventory.proofs.Rules.{table, every-count, size_below, length-header}
use Rattle.capture.specs.Capture.{Selection, All, header_item, headers_of, part_at, asks, part_item, parts_written, capture_of}

-- ---- one item ----

pub part_length : (v : List ℕ) (i : ℕ) → i < row_count → length v ≡ values_size → length (part_at v i) ≡ header_size + (row_at i).size
unfolding part_at
part_length v i h e = rw (length-append, length-header, value-long v e i h)

-- an item that is written if a test holds
abbrev chosen_size : Bool → ℕ → ℕ
chosen_size t n = when t then n else 0

length-if : (t : Bool) (x : List ℕ) (n : ℕ) → length x ≡ n → length (when t then x else []) ≡ chosen_size t n
unfolding when◌then◌else◌
length-if true x n e = e
length-if false x n e = refl

abbrev pub item_size : Selection → ℕ → List ℕ → ℕ → ℕ
item_size selection q list i = chosen_size (asks selection q list (row_at i)) (header_size + (row_at i).size)

pub size-most : (selection : Selection) (q : ℕ) (list : List ℕ) (i : ℕ) → i < row_count → item_size selection q list i ≤ 272
unfolding when◌then◌else◌
size-most selection q list i h =
    by_cases (asks selection q list (row_at i)) (λ e. rw e (omega (arith, size_below i h))) (λ e. rw e (omega arith))

abbrev header_bytes : ℕ → ℕ → ℕ
header_bytes q i = chosen_size (present q (row_at i)) header_size

-- ---- all items ----

pub parts-length : (selection : Selection) (q : ℕ) (list v : List ℕ) → length v ≡ values_size
    → length (parts_written selection q list v) ≡ sum_from (item_size selection q list) row_count 0
unfolding parts_written part_item
parts-length selection q list v e =
    length-items _ (item_size selection q list) row_count row_count 0 refl (λ j h. length-if _ _ _ (part_length v j h e))

-- all parts are 157 + 72Q bytes, and the headers 16 bytes for each of 7 + 2Q parts: SPEC 4.8
pub capture-length : (q : ℕ) (v : List ℕ) → q < 5 → length v ≡ values_size → length (capture_of q v) ≡ parts_size q
unfolding table sum_from asks
capture-length q v h e =
    parts-length All q [] v e
    ∙ eqb-true _ _ (every-count (λ q. eqb (sum_from (item_size All q []) row_count 0) (parts_size q)) refl q h)

pub headers-length : (q : ℕ) → q < 5 → length (headers_of q) ≡ header_size * part_count q
unfolding table sum_from headers_of header_item
headers-length q h =
    length-items _ (header_bytes q) row_count row_count 0 refl (λ j l. length-if (present q (row_at j)) (header_of (row_at j)) header_size (length-header (row_at j)))
    ∙ eqb-true _ _ (every-count (λ q. eqb (sum_from (header_bytes q) row_count 0) (header_size * part_count q)) refl q h)
