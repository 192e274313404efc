-- Fields of bits, packed most significant bit first: 02, request 9. Assumes nothing.
use Rattle.std.specs.Prelude.{List, [], ◌∷◌, ◌++◌, ℕ, zero, suc, ◌+◌, ◌-◌, ◌*◌, ◌/◌, ◌%◌, ◌^◌, get_or}

-- ---- read: the number at a position, of a width ----

-- bit k, counted from the highest bit of the first byte; past the end it is 0
unfoldable pub bit : ℕ → List ℕ → ℕ
bit k l = get_or l (k / 8) 0 / 2 ^ (7 - k % 8) % 2

-- the number in n bits from a position
unfoldable pub bits_at : ℕ → ℕ → List ℕ → ℕ
bits_at at zero l = 0
bits_at at (suc n) l = 2 * bits_at at n l + bit (at + n) l

-- ---- written: fields one after the other ----

-- so many bits, and the number in them
pub record Field : Type 0 where
  pub width : ℕ
  pub value : ℕ

abbrev pub field : ℕ → ℕ → Field
field n x = record { width = n; value = x }

-- the bits that fields have together
unfoldable pub widths : List Field → ℕ
widths [] = 0
widths (f ∷ fs) = f.width + widths fs

-- the number whose bits are those of x, then those of the fields
unfoldable pub joined : ℕ → List Field → ℕ
joined x [] = x
joined x (f ∷ fs) = joined (x * 2 ^ f.width + f.value) fs

-- the n low bytes of a number, the highest first
unfoldable pub big_endian : ℕ → ℕ → List ℕ
big_endian zero x = []
big_endian (suc n) x = big_endian n (x / 256) ++ (x % 256 ∷ [])

-- the bytes of fields that fill whole bytes
unfoldable pub packed : List Field → List ℕ
packed fs = big_endian (widths fs / 8) (joined 0 fs)
